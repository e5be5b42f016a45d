use Rattle.std.proofs.Common.{◌≡◌, ◌↔◌, ◌∙◌, Option, Some, IsTrue, ap, option_map, subst, sym}
use Rattle.std.proofs.lemmas.Bool.{false≢true}
use Rattle.stack_code.specs.Flow.{no_messages}
use Rattle.place_numbers.specs.declared.counts.Counts.{Counts}
use Rattle.place_numbers.specs.inner.Changing.{tally_from}
use Rattle.place_numbers.proofs.Counted.{by-there, not-absent}
use Rattle.place_numbers.proofs.counts.has_begun.Goals as goal

pub returns-in-Some : goal.returns-in-Some
returns-in-Some c =
    subst (λ (o : Option Counts). IsTrue c.are_none.result ↔ (option_map tally_from o ≡ Some (no_messages c.args.workers))) (sym c.in-Some.is)
    (by-there (tally_from c.in-Some.counts) (no_messages c.args.workers) c.are_none.result c.are_none.ensures)

pub returns-in-None : goal.returns-in-None
returns-in-None c = ((λ t. absurd (false≢true t)), (λ e. not-absent (no_messages c.args.workers) (sym e ∙ ap (option_map tally_from) c.in-None.is)))
