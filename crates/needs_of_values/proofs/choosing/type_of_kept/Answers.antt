use Rattle.std.proofs.Common.{subst}
use Rattle.check_words.specs.Sharing.{SameShared}
use Rattle.needs_of_values.proofs.choosing.type_of_kept.Goals as goal

pub returns : goal.returns
returns c = record { a = c.in_ok-a.a.now; b = c.in_ok-a._b.now; last = c.in_ok-a.ensures; holds = subst (λ t. SameShared t c.in_ok-t.t) c.ty.ensures c.in_ok-t.ensures }
