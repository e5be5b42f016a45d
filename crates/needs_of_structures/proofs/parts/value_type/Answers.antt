use Rattle.std.proofs.Common.{length, subst, sym}
use Rattle.type_model.specs.declared.basic.Ty.{Ty}
use Rattle.type_model.specs.Defined.{TyBelow}
use Rattle.check_words.specs.Values.{SingleOf}
use Rattle.needs_of_structures.proofs.parts.value_type.Goals as goal

pub returns-clause-is : goal.returns-clause-is
returns-clause-is c = λ env. subst (λ (t : Ty). SingleOf c.args.value.now env t) (sym c.in_ok-new.ensures.ok) (c.single_type.ensures.is env)

pub returns-clause-below : goal.returns-clause-below
returns-clause-below c = λ env. subst (λ (t : Ty). TyBelow (length env) t) (sym c.in_ok-new.ensures.ok) (c.single_type.ensures.defined (length env))
