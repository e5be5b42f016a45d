use Rattle.std.proofs.Common.{IfOk, length, subst, sym}
use Rattle.descriptors.specs.Steps.{AreOwnTypes}
use Rattle.type_model.specs.Defined.{TyBelow}
use Rattle.check_kinds.proofs.Over.{over-on, over-stops}
use Rattle.check_words.specs.Words.{Atoms, below_if}
use Rattle.check_words.specs.Stands.{PartBelow}
use Rattle.check_work.specs.Views.{constructor_of}
use Rattle.needs_of_structures.specs.Fitting.{stands_so}
use Rattle.needs_of_structures.proofs.members.fitted.Goals as goal

pub stood-requires-clause-own : goal.stood-requires-clause-own
stood-requires-clause-own g c = subst (λ (env : Atoms). AreOwnTypes env c.args.own.now) (sym c.below_want.ensures.atoms) c.requires.own

pub stood-requires-clause-part : goal.stood-requires-clause-part
stood-requires-clause-part g c = subst (λ (env : Atoms). PartBelow (length env) c.args.item.part.now) (sym c.below_want.ensures.atoms) c.requires.part

pub returns-in-Ok-clause-below : goal.returns-in-Ok-clause-below
returns-in-Ok-clause-below g c = subst (λ (env : Atoms). IfOk c.stood.result (TyBelow (length env))) c.below_want.ensures.atoms c.stood.ensures.below

pub returns-in-Ok-clause-comes : goal.returns-in-Ok-clause-comes
returns-in-Ok-clause-comes g c = over-on (below_if g.T.Types.passes c.args.item.want.now c.args.item.part.now c.args.at) (λ u. stands_so g.T.Types.passes (constructor_of c.args.item.constructor.now) c.args.item.part.now c.args.at) _ _ _ tt c.stood.result c.in-Ok.ensures.comes c.stood.ensures.comes

pub returns-in-Err-clause-comes : goal.returns-in-Err-clause-comes
returns-in-Err-clause-comes g c = over-stops (below_if g.T.Types.passes c.args.item.want.now c.args.item.part.now c.args.at) (λ u. stands_so g.T.Types.passes (constructor_of c.args.item.constructor.now) c.args.item.part.now c.args.at) _ _ c.in-Err.stop c.in-Err.ensures.comes
