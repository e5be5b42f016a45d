use Rattle.std.proofs.Common.{◌≤◌, ◌∙◌, arith, sym}
use Rattle.std.proofs.lemmas.Bool.{false≢true}
use Rattle.place_numbers.proofs.reach.lands_at.Goals as goal

pub returns-then-not-is_in : goal.returns-then-not-is_in
returns-then-not-is_in c = ((λ t. absurd (false≢true t)), (λ h. absurd (false≢true (sym c.if-not-is_in.true ∙ c.is_in.ensures.1 h.0))))

pub in_same_traps-requires-clause-other : goal.in_same_traps-requires-clause-other
in_same_traps-requires-clause-other c =
    let within = c.is_in.ensures.0 c.if-not-is_in.false in
    let le : c.args.to ≤ c.args.site.unit.now.end = omega (arith, within.1) in
    (within.0, le)

pub returns-then-may_go : goal.returns-then-may_go
returns-then-may_go c =
    let within = c.is_in.ensures.0 c.if-not-is_in.false in (
      (λ t. (within, c.may_go.ensures.0 c.if-may_go.true, c.in_same_traps.ensures.0 t)),
      (λ h. c.in_same_traps.ensures.1 h.2),
    )

pub returns-else-may_go : goal.returns-else-may_go
returns-else-may_go c = ((λ t. absurd (false≢true (sym c.if-may_go.false ∙ t))), (λ h. absurd (false≢true (sym c.if-may_go.false ∙ c.may_go.ensures.1 h.1))))
