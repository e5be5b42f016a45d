use Rattle.std.proofs.Common.{length}
use Rattle.descriptors.specs.Described.{plain}
use Rattle.type_model.specs.Basic.{InBasic}
use Rattle.type_model.specs.Membership.{In}
use Rattle.check_words.specs.Words.{PartOf}
use Rattle.check_kinds.proofs.Shapes.{plain-is}
use Rattle.check_kinds.proofs.Within.{asked-some}
use Rattle.check_kinds.proofs.asking.has_part.Goals as goal

pub has_some-requires : goal.has_some-requires
has_some-requires g c = c.in-Ok.ensures.defined (length (g.T.Types.atoms c.args.types.now)) c.requires

pub returns-in-Ok-clause-comes : goal.returns-in-Ok-clause-comes
returns-in-Ok-clause-comes g c =
    asked-some g.T.Types.passes (PartOf c.args.s.now (λ x. InBasic x c.args.set)) c.args.at (g.T.Types.atoms c.args.types.now) (g.T.Types.atoms c.has_some.new.types) (plain c.in-Ok.part)
    (plain-is (g.T.Types.atoms c.args.types.now) c.in-Ok.part (λ x. In (g.T.Types.atoms c.args.types.now) x c.args.s.now × InBasic x c.args.set) (λ x v. c.in-Ok.ensures.shapes (g.T.Types.atoms c.args.types.now) x)) c.has_some.result c.has_some.ensures.comes
