use Rattle.std.proofs.Common.{refl}
use Rattle.type_builder.proofs.FoundMembers.{other-gathered, pushed}
use Rattle.type_builder.proofs.flat.other.Goals as goal

pub returns : goal.returns
returns c = other-gathered c.args.t.now c.args.found.now _ c.requires refl (pushed (λ m. m.now) c.args.found.now.members.items c.push.new.self.items c.args.t c.in_ok-push.ensures.items)
