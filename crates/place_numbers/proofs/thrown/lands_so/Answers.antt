use Rattle.std.proofs.Common.{◌∙◌, refl, sym}
use Rattle.std.proofs.lemmas.Bool.{false≢true}
use Rattle.place_numbers.proofs.thrown.lands_so.Goals as goal

pub returns-in-true : goal.returns-in-true
returns-in-true c = ((λ t r. c.lands_with.ensures.0 t), (λ h. c.lands_with.ensures.1 (h (c.is_reached.ensures.0 c.in-true.is))))

pub returns-in-false : goal.returns-in-false
returns-in-false c = ((λ t r. absurd (false≢true (sym c.in-false.is ∙ c.is_reached.ensures.1 r))), (λ h. refl))
