use Rattle.std.proofs.Common.{length}
use Rattle.type_model.specs.Membership.{In}
use Rattle.check_kinds.proofs.Shapes.{written-as}
use Rattle.check_kinds.proofs.written.shared_of.Goals as goal

pub compacted-requires : goal.compacted-requires
compacted-requires g c = c.in_ok-shapes.ensures.defined (length (g.T.Types.atoms c.args.types.now)) c.requires.left c.requires.right

pub returns-clause-is : goal.returns-clause-is
returns-clause-is g c =
    written-as (g.T.Types.atoms c.args.types.now) c.in_ok-shapes.shapes (λ x. In (g.T.Types.atoms c.args.types.now) x c.args.s.now × In (g.T.Types.atoms c.args.types.now) x c.args.t.now) c.compacted.result (λ x. c.in_ok-shapes.ensures.shapes (g.T.Types.atoms c.args.types.now) x) c.compacted.ensures.is
