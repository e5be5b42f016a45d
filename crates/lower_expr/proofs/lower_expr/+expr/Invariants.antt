use Rattle.std.proofs.Common.{◌≡◌, map, take}
use Rattle.lower_model.specs.Making.{exprs_made}
use Rattle.lower_expr.specs.Drafts.{making_of}
use Rattle.lower_expr.proofs.lower_expr.+expr.Given as goal

abbrev pub invariant-exprs-loop-e : goal.invariant-exprs-loop-e
invariant-exprs-loop-e l = making_of l.draft ≡ exprs_made (take l.e-index l.es) (making_of l.fn.draft)
