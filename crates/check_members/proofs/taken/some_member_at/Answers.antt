use Rattle.check_words.specs.Members.{member_at}
use Rattle.check_kinds.proofs.Over.{over-on, over-stops}
use Rattle.check_members.specs.Taken.{some_of}
use Rattle.check_members.proofs.taken.some_member_at.Goals as goal

pub returns-in-Ok-clause-comes : goal.returns-in-Ok-clause-comes
returns-in-Ok-clause-comes g c =
    over-on (member_at g.T.Types.passes c.args.container.now c.args.keys.now c.args.at) (λ m. some_of g.T.Types.passes m c.args.at) (g.T.Types.atoms c.args.types.now) (g.T.Types.atoms c.member_at.new.types) (g.T.Types.atoms c.some.new.types) c.in-Ok.found c.some.result
    c.in-Ok.ensures.comes c.some.ensures.comes

pub returns-in-Err-clause-comes : goal.returns-in-Err-clause-comes
returns-in-Err-clause-comes g c =
    over-stops (member_at g.T.Types.passes c.args.container.now c.args.keys.now c.args.at) (λ m. some_of g.T.Types.passes m c.args.at) (g.T.Types.atoms c.args.types.now) (g.T.Types.atoms c.member_at.new.types) c.in-Err.stop c.in-Err.ensures.comes
