use Rattle.std.proofs.Common.{false, subst}
use Rattle.typed_tree.specs.declared.event.EventKind.TheVariants.{End}
use Rattle.typed_tree.specs.Exprs.{place_of}
use Rattle.typed_tree.specs.Listed.{nothing, one}
use Rattle.worker_pairing.specs.Marks.{Says, expr_marks, nil_type}
use Rattle.event_search.specs.inner.Walking.{Goes}
use Rattle.event_search.proofs.Walks.{goes-nothing}
use Rattle.event_search.proofs.Whole.{all-said}
use Rattle.event_search.proofs.looking.in_expression.Goals as goal

pub returns : goal.returns
returns c =
    all-said nothing (expr_marks c.args.value.now) (place_of c.args.value.now) c.args.search c.args.search c.expr.new.search c.say.new.self (goes-nothing _ c.args.search) c.expr.ensures
    (subst (λ p. Goes false (one (Says End p false nil_type)) c.expr.new.search c.say.new.self) c.place.ensures c.say.ensures)
