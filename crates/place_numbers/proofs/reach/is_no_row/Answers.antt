use Rattle.std.proofs.Common.{◌∙◌, refl, sym}
use Rattle.std.proofs.lemmas.Bool.{false≢true}
use Rattle.place_numbers.proofs.Counted.{not-absent}
use Rattle.place_numbers.proofs.reach.is_no_row.Goals as goal

pub returns-in-Some : goal.returns-in-Some
returns-in-Some c = ((λ t. absurd (false≢true t)), (λ e. not-absent _ (sym (e ∙ c.in-Some.is))))

pub returns-in-None : goal.returns-in-None
returns-in-None c = ((λ t. sym c.in-None.is), (λ e. refl))
