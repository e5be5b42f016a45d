use Rattle.std.proofs.Common.{refl}
use Rattle.worker_members.specs.declared.hearing.Heard.{Heard}
use Rattle.worker_members.specs.declared.held.Said.{Said}
use Rattle.worker_members.proofs.Noted.{said-more}
use Rattle.worker_members.proofs.hearing.Heard.say.Goals as goal

pub returns : goal.returns
returns c =
    let old = c.args.self.now in
    let new : Heard = record { sayings = c.put_said.new.sayings; returns = old.returns; early = old.early; full = c.put_said.new.full } in
    let said : Said = record { kind = c.args.kind; at = c.args.at; initial = c.args.spot.initial; inner = c.is_inner-inner.result; early = old.early; ty = c.args.ty } in
    said-more c.args.spot old new said c.put_said.ensures refl refl refl refl c.is_inner-inner.ensures
