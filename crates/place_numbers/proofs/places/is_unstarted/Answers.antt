use Rattle.std.proofs.Common.{◌∙◌, refl, sym}
use Rattle.place_numbers.proofs.Carried.{more-unbegun}
use Rattle.place_numbers.proofs.places.is_unstarted.Goals as goal

pub returns-in-Begun : goal.returns-in-Begun
returns-in-Begun c = ((λ t e. sym c.counts_at.ensures ∙ c.is_absent.ensures.0 t), (λ h. c.is_absent.ensures.1 (c.counts_at.ensures ∙ h c.in-Begun.is)))

pub returns-in-More : goal.returns-in-More
returns-in-More c = ((λ t e. more-unbegun _ _ (sym c.in-More.is ∙ e)), (λ h. refl))
