use Rattle.check_words.specs.Words.{OfKind}
use Rattle.check_kinds.proofs.Within.{asked-within}
use Rattle.check_kinds.proofs.asking.require_kind.Goals as goal

pub require_below-requires-clause-right : goal.require_below-requires-clause-right
require_below-requires-clause-right g c = (c.in-Ok.ensures.defined (g.T.Types.atoms c.args.types.now) c.requires.own).0

pub returns-in-Ok-clause-comes : goal.returns-in-Ok-clause-comes
returns-in-Ok-clause-comes g c =
    asked-within g.T.Types.passes (OfKind c.args.kind) c.args.at (g.T.Types.atoms c.args.types.now) (g.T.Types.atoms c.require_below.new.types) c.in-Ok.want (c.in-Ok.ensures.is (g.T.Types.atoms c.args.types.now) c.requires.own) c.args.s.now
    c.require_below.result c.require_below.ensures.comes
