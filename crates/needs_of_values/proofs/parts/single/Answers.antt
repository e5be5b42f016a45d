use Rattle.std.proofs.Common.{subst, sym}
use Rattle.check_words.specs.Values.{SingleOf}
use Rattle.type_model.specs.Defined.{TyBelow}
use Rattle.needs_of_values.proofs.parts.single.Goals as goal

pub returns-clause-is : goal.returns-clause-is
returns-clause-is c = λ env. subst (SingleOf c.args.value.now env) (sym c.in_ok-new.ensures.ok) (c.single_type.ensures.is env)

pub returns-clause-below : goal.returns-clause-below
returns-clause-below c = λ n. subst (TyBelow n) (sym c.in_ok-new.ensures.ok) (c.single_type.ensures.defined n)
