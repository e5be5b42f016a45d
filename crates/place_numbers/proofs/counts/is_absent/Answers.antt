use Rattle.std.proofs.Common.{◌∙◌, ap, option_map, refl, sym}
use Rattle.std.proofs.lemmas.Bool.{false≢true}
use Rattle.place_numbers.specs.inner.Changing.{tally_from}
use Rattle.place_numbers.proofs.Counted.{not-absent}
use Rattle.place_numbers.proofs.counts.is_absent.Goals as goal

pub returns-in-Some : goal.returns-in-Some
returns-in-Some c = ((λ t. absurd (false≢true t)), (λ e. not-absent _ (sym (ap (option_map tally_from) c.in-Some.is) ∙ e)))

pub returns-in-None : goal.returns-in-None
returns-in-None c = ((λ t. ap (option_map tally_from) c.in-None.is), (λ e. refl))
