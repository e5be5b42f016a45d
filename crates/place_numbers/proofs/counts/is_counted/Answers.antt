use Rattle.std.proofs.Common.{◌∙◌, ap, suc, sym}
use Rattle.place_numbers.proofs.counts.is_counted.Goals as goal

pub returns-in-true : goal.returns-in-true
returns-in-true c =
    let own = c.is_own.ensures.own c.in-true.is in (
      (λ t. ((λ q. sym c.number_at-m.ensures ∙ c.is_next.ensures.0 t ∙ ap suc c.number_at-n.ensures), (λ other. absurd (other own)))),
      (λ h. c.is_next.ensures.1 (c.number_at-m.ensures ∙ h.0 own ∙ ap suc (sym c.number_at-n.ensures))),
    )

pub returns-in-false : goal.returns-in-false
returns-in-false c =
    let other = c.is_own.ensures.other c.in-false.is in (
      (λ t. ((λ q. absurd (other q)), (λ n. sym c.number_at-m.ensures ∙ c.is_equal.ensures.0 t ∙ c.number_at-n.ensures))),
      (λ h. c.is_equal.ensures.1 (c.number_at-m.ensures ∙ h.1 other ∙ sym c.number_at-n.ensures)),
    )
