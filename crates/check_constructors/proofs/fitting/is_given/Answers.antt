use Rattle.std.proofs.Common.{◌≡◌, Some}
use Rattle.bal_tree.specs.declared.expr.Member.{Member}
use Rattle.expr_needs.specs.Needs.{MemberSeen}
use Rattle.expr_needs.specs.ExprTable.{read_member, seen_of}
use Rattle.check_constructors.proofs.FittingChoices.{any-twice, same-then, some-named}
use Rattle.check_constructors.proofs.fitting.is_given.Goals as goal

pub returns : goal.returns
returns c = same-then (some-named c.args.name.now (λ (m : Member). (seen_of (read_member m)).key) c.args.members.now c.some_has.result c.some_has.ensures)
    (any-twice (λ (m : MemberSeen). m.key ≡ Some c.args.name.now) read_member seen_of c.args.members.now)
