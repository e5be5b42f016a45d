use Rattle.std.proofs.Common.{refl}
use Rattle.type_builder.proofs.FoundMembers.{known-gathered, new-gathered, pushed}
use Rattle.type_builder.proofs.flat.keyed.Goals as goal

pub returns-in_ok-push : goal.returns-in_ok-push
returns-in_ok-push c =
    new-gathered c.args.t.now c.args.key c.args.found.now _ c.in_ok-insert.field-0 c.requires c.in_ok-insert.ensures.added c.if-branch.true c.in_ok-insert.ensures.keys
    (pushed (λ m. m.now) c.args.found.now.members.items c.push.new.self.items c.args.t c.in_ok-push.ensures.items)

pub returns-else-branch : goal.returns-else-branch
returns-else-branch c =
    known-gathered c.args.t.now c.args.key c.args.found.now _ c.in_ok-insert.field-0 c.requires c.in_ok-insert.ensures.added c.if-branch.false c.in_ok-insert.ensures.keys refl
