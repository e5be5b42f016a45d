use Rattle.detail_questions.specs.inner.Group.{IsDetailType}
use Rattle.detail_questions.proofs.errors.detail_type.Given as goal

abbrev pub invariant-loop-n : goal.invariant-loop-n
invariant-loop-n l = IsDetailType l.first l.n l.t
