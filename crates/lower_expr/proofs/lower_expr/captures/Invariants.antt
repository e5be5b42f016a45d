use Rattle.std.proofs.Common.{◌≡◌, map, take}
use Rattle.lower_model.specs.Making.{captures_made}
use Rattle.lower_expr.specs.Drafts.{making_of}
use Rattle.lower_expr.proofs.lower_expr.captures.Given as goal

abbrev pub invariant-loop-c : goal.invariant-loop-c
invariant-loop-c l = making_of l.draft ≡ captures_made (take l.c-index l.captured) (making_of l.fn.draft)
