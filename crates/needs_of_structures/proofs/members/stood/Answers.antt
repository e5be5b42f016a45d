use Rattle.std.proofs.Common.{IfOk, length, subst, sym}
use Rattle.descriptors.specs.Steps.{AreOwnTypes}
use Rattle.type_model.specs.Defined.{TyBelow}
use Rattle.check_kinds.proofs.Over.{over-on, over-stops}
use Rattle.check_words.specs.Constructors.{may_stand}
use Rattle.check_words.specs.Stands.{PartBelow}
use Rattle.check_words.specs.Words.{Atoms}
use Rattle.check_work.specs.Views.{constructor_of}
use Rattle.needs_of_structures.specs.Fitting.{added_copy}
use Rattle.needs_of_structures.proofs.members.stood.Goals as goal

pub added-requires-clause-own : goal.added-requires-clause-own
added-requires-clause-own g c = subst (λ (env : Atoms). AreOwnTypes env c.args.own.now) (sym c.allowed.ensures.atoms) c.requires.own

pub added-requires-clause-part : goal.added-requires-clause-part
added-requires-clause-part g c = subst (λ (env : Atoms). PartBelow (length env) c.args.e.now) (sym c.allowed.ensures.atoms) c.requires.part

pub returns-in-Ok-clause-below : goal.returns-in-Ok-clause-below
returns-in-Ok-clause-below g c = subst (λ (env : Atoms). IfOk c.added.result (TyBelow (length env))) c.allowed.ensures.atoms c.added.ensures.below

pub returns-in-Ok-clause-comes : goal.returns-in-Ok-clause-comes
returns-in-Ok-clause-comes g c = over-on (may_stand g.T.Types.passes (constructor_of c.args.c.now) c.args.e.now c.args.at) (λ u. added_copy g.T.Types.passes c.args.c.now.choice c.args.e.now c.args.at) _ _ _ tt c.added.result c.in-Ok.ensures.comes c.added.ensures.comes

pub returns-in-Err-clause-comes : goal.returns-in-Err-clause-comes
returns-in-Err-clause-comes g c = over-stops (may_stand g.T.Types.passes (constructor_of c.args.c.now) c.args.e.now c.args.at) (λ u. added_copy g.T.Types.passes c.args.c.now.choice c.args.e.now c.args.at) _ _ c.in-Err.stop c.in-Err.ensures.comes
