use Rattle.std.proofs.Common.{refl, true}
use Rattle.worker_members.specs.declared.hearing.Heard.{Heard}
use Rattle.worker_members.proofs.Noted.{early-behind, early-initially}
use Rattle.worker_members.proofs.hearing.Heard.end_early.Goals as goal

pub returns-then-spot : goal.returns-then-spot
returns-then-spot c = early-initially c.args.spot c.args.self.now c.if-spot.true

pub returns : goal.returns
returns c =
    let old = c.args.self.now in
    let new : Heard = record { sayings = old.sayings; returns = old.returns; early = true; full = old.full } in
    early-behind c.args.spot old new c.if-spot.false refl refl refl refl
