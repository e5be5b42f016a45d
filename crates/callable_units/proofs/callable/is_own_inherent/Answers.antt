use Rattle.std.proofs.Common.{◌∙◌, sym}
use Rattle.std.proofs.lemmas.Bool.{false≢true}
use Rattle.callable_units.proofs.callable.is_own_inherent.Goals as goal

pub returns-then-has_arrow : goal.returns-then-has_arrow
returns-then-has_arrow c = λ code are few. ((λ t. ((c.has_arrow.ensures code are few).0 c.if-has_arrow.true, (c.has_future.ensures code are few).0 t)), (λ h. (c.has_future.ensures code are few).1 h.1))

pub returns-else-has_arrow : goal.returns-else-has_arrow
returns-else-has_arrow c = λ code are few. ((λ t. absurd (false≢true (sym c.if-has_arrow.false ∙ t))), (λ h. absurd (false≢true (sym c.if-has_arrow.false ∙ (c.has_arrow.ensures code are few).1 h.0))))
