use Rattle.std.proofs.Common.{◌∙◌, refl, sym}
use Rattle.place_numbers.proofs.Whole.{ended-frame, goes-frame}
use Rattle.place_numbers.proofs.places.goes_on.Goals as goal

pub returns-in-true : goal.returns-in-true
returns-in-true c = λ code o e. ((λ t n. absurd (n (ended-frame o (sym (c.ends.ensures code o e) ∙ c.in-true.is)))), (λ h. refl))

pub returns-in-false : goal.returns-in-false
returns-in-false c = λ code o e. ((λ t n. c.reaches.ensures.0 t), (λ h. c.reaches.ensures.1 (h (goes-frame o (sym (c.ends.ensures code o e) ∙ c.in-false.is)))))
