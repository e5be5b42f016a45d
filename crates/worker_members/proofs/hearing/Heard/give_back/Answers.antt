use Rattle.std.proofs.Common.{◌≡◌, length, refl, rules}
use Rattle.worker_members.specs.declared.hearing.Heard.{Heard}
use Rattle.worker_members.specs.declared.held.Returned.{Returned}
use Rattle.worker_members.specs.Held.{sem_said}
use Rattle.worker_members.proofs.Noted.{returned-behind, returned-initially}
use Rattle.worker_members.proofs.hearing.Heard.give_back.Goals as goal

pub returns-then-spot : goal.returns-then-spot
returns-then-spot c = returned-initially c.args.spot c.args.self.now (sem_said c.args.ty) c.args.at c.if-spot.true

pub returns : goal.returns
returns c =
    let old = c.args.self.now in
    let new : Heard = record { sayings = old.sayings; returns = c.put_returned.new.returns; early = old.early; full = c.put_returned.new.full } in
    let returned : Returned = record { before = c.len-before.result; ty = c.args.ty; at = c.args.at } in
    let before : c.len-before.result ≡ length old.sayings.items = search rules in
    returned-behind c.args.spot old new returned c.put_returned.ensures refl refl c.if-spot.false before
