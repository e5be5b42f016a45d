use Rattle.std.proofs.Common.{length}
use Rattle.descriptors.specs.Described.{plain}
use Rattle.operations.specs.Kinds.{IsImmutableData}
use Rattle.check_words.specs.Constructors.{IsFrozenType}
use Rattle.check_kinds.proofs.Shapes.{plain-is}
use Rattle.check_kinds.proofs.Within.{asked-whether}
use Rattle.check_kinds.proofs.asking.is_frozen.Goals as goal

pub is_below-requires-clause-right : goal.is_below-requires-clause-right
is_below-requires-clause-right g c = c.in-Ok.ensures.defined (length (g.T.Types.atoms c.args.types.now))

pub returns-in-Ok-clause-comes : goal.returns-in-Ok-clause-comes
returns-in-Ok-clause-comes g c =
    asked-whether g.T.Types.passes IsFrozenType c.args.at (g.T.Types.atoms c.args.types.now) (g.T.Types.atoms c.is_below.new.types) (plain c.in-Ok.want) (plain-is (g.T.Types.atoms c.args.types.now) c.in-Ok.want IsImmutableData (c.in-Ok.ensures.shapes (g.T.Types.atoms c.args.types.now))) c.args.s.now
    c.is_below.result c.is_below.ensures.comes
