use Rattle.std.proofs.Common.{length, subst, sym}
use Rattle.type_model.specs.Defined.{TyBelow}
use Rattle.expr_needs.specs.declared.kind.Kind.TheVariants.{Text}
use Rattle.check_words.specs.Words.{OfKind}
use Rattle.needs_of_members.proofs.named.text_shared.Goals as goal

pub returns-clause-is : goal.returns-clause-is
returns-clause-is c = λ env own. subst (OfKind Text env) (sym c.in_ok-new.ensures.ok) (c.in_ok-ty.ensures.is env own)

pub returns-clause-below : goal.returns-clause-below
returns-clause-below c = λ env own. subst (TyBelow (length env)) (sym c.in_ok-new.ensures.ok) (c.in_ok-ty.ensures.defined env own)
