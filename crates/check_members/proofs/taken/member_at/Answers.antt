use Rattle.std.proofs.Common.{Some}
use Rattle.checks.specs.Questions.{member}
use Rattle.check_kinds.proofs.Over.{over-asks}
use Rattle.check_members.proofs.TakenMembers.{member-defined}
use Rattle.check_members.proofs.taken.member_at.Goals as goal

pub returns-clause-defined : goal.returns-clause-defined
returns-clause-defined g c = member-defined g.T.Types.passes c.args.container.now c.args.keys.now c.args.at (g.T.Types.atoms c.args.types.now) (g.T.Types.atoms c.member.new.types) c.member.result c.member.ensures.comes

pub returns-clause-comes : goal.returns-clause-comes
returns-clause-comes g c = over-asks (member g.T.Types.passes c.args.container.now c.args.keys.now (Some c.args.at)) (g.T.Types.atoms c.args.types.now) (g.T.Types.atoms c.member.new.types) c.member.result c.member.ensures.comes
