use Rattle.std.proofs.Common.{◌≡◌, map, take}
use Rattle.lower_model.specs.Making.{initials_made}
use Rattle.lower_expr.specs.Drafts.{making_of}
use Rattle.lower_stmt.proofs.units.initials.Given as goal

abbrev pub invariant-loop-i : goal.invariant-loop-i
invariant-loop-i l = making_of l.draft ≡ initials_made (take l.i-index l.is) (making_of l.fn.draft)
