use Rattle.std.proofs.Common.{◌≡◌, Bool, Ok, false, refl, subst, sym}
use Rattle.bal_base.specs.declared.fault.FaultCode.TheVariants.{ReadOnlyHolds}
use Rattle.check_kinds.specs.Over.{ComesOver}
use Rattle.check_kinds.proofs.Over.{over-some}
use Rattle.check_words.specs.Words.{unless}
use Rattle.needs_of_structures.proofs.Asking.{over-same}
use Rattle.needs_of_structures.proofs.members.frozen_unless.Goals as goal

pub returns-in-true : goal.returns-in-true
returns-in-true c = λ env. subst (λ (b : Bool). ComesOver (unless b ReadOnlyHolds c.args.at) env (Ok tt) env) (sym c.in-true.is) (over-some (λ o u. u ≡ tt) env tt refl)

pub returns-in-false : goal.returns-in-false
returns-in-false c = λ env.
    subst (λ (b : Bool). ComesOver (unless b ReadOnlyHolds c.args.at) env c.refused.result env) (sym c.in-false.is)
    (over-same (unless false ReadOnlyHolds c.args.at) c.refused.result env (λ s. c.refused.ensures s))
