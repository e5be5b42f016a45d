use Rattle.std.proofs.Common.{◌≡◌, map, take}
use Rattle.lower_model.specs.Making.{patterns_made}
use Rattle.lower_expr.specs.Drafts.{making_of}
use Rattle.lower_stmt.proofs.matches.patterns.Given as goal

abbrev pub invariant-loop-p : goal.invariant-loop-p
invariant-loop-p l = making_of l.draft ≡ patterns_made l.own l.body (take l.p-index l.ps) (making_of l.fn.draft)
