use Rattle.std.proofs.Common.{◌≡◌, ◌↔◌, ◌∙◌, Option, Some, IsTrue, ap, option_map, subst, sym}
use Rattle.std.proofs.lemmas.Bool.{false≢true}
use Rattle.place_numbers.specs.declared.counts.Counts.{Counts}
use Rattle.place_numbers.specs.inner.Changing.{more_of, tally_from}
use Rattle.place_numbers.proofs.Counted.{by-there, not-absent}
use Rattle.place_numbers.proofs.counts.grows.Goals as goal

pub returns-in-Some : goal.returns-in-Some
returns-in-Some c =
    subst (λ (o : Option Counts). IsTrue c.are_more.result ↔ (option_map tally_from o ≡ Some (more_of c.args.sent c.args.received (tally_from c.args.before)))) (sym c.in-Some.is)
    (by-there (tally_from c.in-Some.behind) (more_of c.args.sent c.args.received (tally_from c.args.before)) c.are_more.result c.are_more.ensures)

pub returns-in-None : goal.returns-in-None
returns-in-None c = ((λ t. absurd (false≢true t)), (λ e. not-absent (more_of c.args.sent c.args.received (tally_from c.args.before)) (sym e ∙ ap (option_map tally_from) c.in-None.is)))
