use Rattle.std.proofs.Common.{◌∙◌, ap, sym}
use Rattle.std.proofs.lemmas.Bool.{false≢true}
use Rattle.stack_code.specs.Places.{Tally}
use Rattle.place_numbers.proofs.counts.are_more.Goals as goal

pub returns-then-is_sent : goal.returns-then-is_sent
returns-then-is_sent c = (
  (λ t i. record { sent = c.is_sent.ensures.0 c.if-is_sent.true i; received = c.is_received.ensures.0 t i }),
  (λ e. c.is_received.ensures.1 (ap (λ (t : Tally). t.received) e)),
)

pub returns-else-is_sent : goal.returns-else-is_sent
returns-else-is_sent c = (
  (λ t. absurd (false≢true (sym c.if-is_sent.false ∙ t))),
  (λ e. absurd (false≢true (sym c.if-is_sent.false ∙ c.is_sent.ensures.1 (ap (λ (t : Tally). t.sent) e)))),
)
