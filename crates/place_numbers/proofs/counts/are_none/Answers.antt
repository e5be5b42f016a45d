use Rattle.std.proofs.Common.{◌∙◌, ap, sym}
use Rattle.std.proofs.lemmas.Bool.{false≢true}
use Rattle.stack_code.specs.Places.{Tally}
use Rattle.place_numbers.proofs.counts.are_none.Goals as goal

pub returns-then-none_sent : goal.returns-then-none_sent
returns-then-none_sent c = (
  (λ t i. record { sent = c.none_sent.ensures.0 c.if-none_sent.true i; received = c.none_received.ensures.0 t i }),
  (λ e. c.none_received.ensures.1 (ap (λ (t : Tally). t.received) e)),
)

pub returns-else-none_sent : goal.returns-else-none_sent
returns-else-none_sent c = (
  (λ t. absurd (false≢true (sym c.if-none_sent.false ∙ t))),
  (λ e. absurd (false≢true (sym c.if-none_sent.false ∙ c.none_sent.ensures.1 (ap (λ (t : Tally). t.sent) e)))),
)
