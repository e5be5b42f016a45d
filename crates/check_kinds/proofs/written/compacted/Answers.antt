use Rattle.std.proofs.Common.{length, subst, sym}
use Rattle.descriptors.specs.Described.{IsPlain}
use Rattle.type_model.specs.declared.basic.Ty.{Ty}
use Rattle.type_model.specs.Defined.{TyBelow}
use Rattle.type_model.specs.Membership.{In}
use Rattle.check_kinds.proofs.Shapes.{plain-below, plain-is}
use Rattle.check_kinds.proofs.written.compacted.Goals as goal

pub returns-clause-is : goal.returns-clause-is
returns-clause-is g c =
    subst (λ (t : Ty). IsPlain (λ x. In (g.T.Types.atoms c.args.types.now) x c.args.shapes) (g.T.Types.atoms c.args.types.now) t) (sym c.plain.ensures)
    (plain-is (g.T.Types.atoms c.args.types.now) c.in_ok-sem.sem (λ x. In (g.T.Types.atoms c.args.types.now) x c.args.shapes) c.in_ok-sem.ensures.shapes)

pub returns-clause-defined : goal.returns-clause-defined
returns-clause-defined g c = subst (TyBelow (length (g.T.Types.atoms c.args.types.now))) (sym c.plain.ensures) (plain-below (length (g.T.Types.atoms c.args.types.now)) c.in_ok-sem.sem c.in_ok-sem.ensures.defined)
