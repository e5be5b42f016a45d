use Rattle.std.proofs.Common.{◌⊎◌, length}
use Rattle.operations.specs.Kinds.{IsNil}
use Rattle.type_model.specs.Membership.{In}
use Rattle.type_model.proofs.Same.{both, either, itself, neither}
use Rattle.type_model.proofs.SameTypes.{NamesBelow-same}
use Rattle.check_kinds.proofs.KindSets.{nil, then-same}
use Rattle.check_kinds.proofs.Shapes.{copy-in, written-as}
use Rattle.check_kinds.proofs.written.instead_of_nil.Goals as goal

pub compacted-requires : goal.compacted-requires
compacted-requires g c = c.in_ok-shapes.ensures.defined (length (g.T.Types.atoms c.args.types.now)) (c.in_ok-rest.ensures.defined (length (g.T.Types.atoms c.args.types.now)) (NamesBelow-same (length (g.T.Types.atoms c.args.types.now)) c.args.s.now c.in_ok-copy.field-0 c.in_ok-copy.ensures c.requires.left)) c.requires.right

pub returns-clause-is : goal.returns-clause-is
returns-clause-is g c =
    written-as (g.T.Types.atoms c.args.types.now) c.in_ok-shapes.shapes (λ x. (In (g.T.Types.atoms c.args.types.now) x c.args.s.now × (¬ IsNil x)) ⊎ In (g.T.Types.atoms c.args.types.now) x c.args.t.now) c.compacted.result (λ x. then-same (c.in_ok-shapes.ensures.shapes (g.T.Types.atoms c.args.types.now) x) (either (then-same (c.in_ok-rest.ensures.shapes (g.T.Types.atoms c.args.types.now) x) (both (copy-in (g.T.Types.atoms c.args.types.now) x c.args.s.now c.in_ok-copy.field-0 c.in_ok-copy.ensures) (neither (nil x)))) itself)) c.compacted.ensures.is
