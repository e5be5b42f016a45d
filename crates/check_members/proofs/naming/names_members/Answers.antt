use Rattle.check_words.specs.Members.{names_members}
use Rattle.check_kinds.proofs.Over.{over-asks}
use Rattle.check_members.proofs.OnlyShapes.{named-so, named-stops}
use Rattle.check_members.proofs.naming.names_members.Goals as goal

pub returns-in-Ok-clause-comes : goal.returns-in-Ok-clause-comes
returns-in-Ok-clause-comes g c =
    over-asks (names_members g.T.Types.passes c.args.access c.args.t.now c.args.at) (g.T.Types.atoms c.args.types.now) (g.T.Types.atoms c.only_shape.new.types) _
    (named-so g.T.Types.passes c.args.t.now c.args.at (g.T.Types.atoms c.args.types.now) (g.T.Types.atoms c.only_shape.new.types) c.args.access c.in-Ok.only c.members.result c.members.ensures c.in-Ok.ensures.comes)

pub returns-in-Err-clause-comes : goal.returns-in-Err-clause-comes
returns-in-Err-clause-comes g c =
    over-asks (names_members g.T.Types.passes c.args.access c.args.t.now c.args.at) (g.T.Types.atoms c.args.types.now) (g.T.Types.atoms c.only_shape.new.types) _
    (named-stops g.T.Types.passes c.args.t.now c.args.at (g.T.Types.atoms c.args.types.now) (g.T.Types.atoms c.only_shape.new.types) c.args.access c.in-Err.stop c.in-Err.ensures.comes)
