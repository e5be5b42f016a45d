use Rattle.std.proofs.Common.{◌∙◌, sym}
use Rattle.std.proofs.lemmas.Bool.{false≢true}
use Rattle.callable_units.proofs.callable.is_free.Goals as goal

pub returns-then-is_no_worker : goal.returns-then-is_no_worker
returns-then-is_no_worker c = λ code are lt. ((λ t. ((c.is_no_worker.ensures code are lt).0 c.if-is_no_worker.true, (c.is_no_initialiser.ensures code are lt).0 t)), (λ h. (c.is_no_initialiser.ensures code are lt).1 h.1))

pub returns-else-is_no_worker : goal.returns-else-is_no_worker
returns-else-is_no_worker c = λ code are lt. ((λ t. absurd (false≢true (sym c.if-is_no_worker.false ∙ t))), (λ h. absurd (false≢true (sym c.if-is_no_worker.false ∙ (c.is_no_worker.ensures code are lt).1 h.0))))
