use Rattle.std.proofs.Common.{◌⊎◌, length, subst, sym}
use Rattle.type_model.specs.Defined.{IsDefined, TyBelow}
use Rattle.descriptors.specs.Described.{IsPlain}
use Rattle.operations.specs.Kinds.{IsNil}
use Rattle.type_model.specs.Membership.{In}
use Rattle.check_words.specs.Words.{sem}
use Rattle.needs_of_values.proofs.choosing.type_of_filled.Goals as goal

pub instead_of_nil-requires-clause-left : goal.instead_of_nil-requires-clause-left
instead_of_nil-requires-clause-left g c = subst (IsDefined (g.T.Types.atoms c.args.types.now)) (sym c.shapes_of-left.ensures) c.requires.first.0

pub instead_of_nil-requires-clause-right : goal.instead_of_nil-requires-clause-right
instead_of_nil-requires-clause-right g c = subst (IsDefined (g.T.Types.atoms c.args.types.now)) (sym c.shapes_of-right.ensures) c.requires.second.0

pub returns-clause-below : goal.returns-clause-below
returns-clause-below g c = subst (TyBelow (length (g.T.Types.atoms c.args.types.now))) (sym c.in_ok-new.ensures.ok) c.in_ok-both.ensures.defined

pub returns-clause-is : goal.returns-clause-is
returns-clause-is g c =
    let env = g.T.Types.atoms c.args.types.now in
    subst (IsPlain (λ x. (In env x (sem c.args.a.now) × ¬ IsNil x) ⊎ In env x (sem c.args.b.now)) env) (sym c.in_ok-new.ensures.ok)
    (subst (λ s. IsPlain (λ x. (In env x s × ¬ IsNil x) ⊎ In env x (sem c.args.b.now)) env c.in_ok-both.both) c.shapes_of-left.ensures (subst (λ t. IsPlain (λ x. (In env x c.shapes_of-left.result.now × ¬ IsNil x) ⊎ In env x t) env c.in_ok-both.both) c.shapes_of-right.ensures c.in_ok-both.ensures.is))
