use Rattle.std.proofs.Common.{subst}
use Rattle.std.specs.Prelude.{IfOk}
use Rattle.typed_tree.specs.Exprs.{place_of}
use Rattle.worker_pairing.specs.Marks.{expr_marks}
use Rattle.worker_members.specs.inner.Hearing.{Ended, Grows}
use Rattle.worker_members.proofs.Whole.{value-of}
use Rattle.worker_members.proofs.gathering.of_value.Goals as goal

pub returns : goal.returns
returns c =
    value-of (expr_marks c.args.value.now) c.unheard-heard.result c.expr.new.heard c.args.gives.now (place_of c.args.value.now) c.ended.result c.unheard-heard.ensures
    (subst (λ s. Grows s (expr_marks c.args.value.now) c.unheard-heard.result c.expr.new.heard) c.outside.ensures c.expr.ensures)
    (subst (λ p. IfOk c.ended.result (λ m. Ended c.expr.new.heard c.args.gives.now p m)) c.place.ensures c.ended.ensures)
