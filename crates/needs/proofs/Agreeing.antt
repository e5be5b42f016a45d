-- Two runs of the same needs agree, where two of each need do.
use Rattle.std.proofs.Common.{sym, subst}
use Rattle.checks.specs.Agreement.{Alike}
use Rattle.checks.specs.Checks.{Check, Gives, Refuses, gives, gives_some}
use Rattle.checks.proofs.Alike.{▷-alike}
use Rattle.typed_tree.specs.Listed.{Listed, nothing, one, ◌&◌}
use Rattle.needs.specs.Agreement.{BehindTwins, NeedAgrees}
use Rattle.needs.specs.Needs.{all_met}

module _ {S N : Type 0} (twins : S → S → Type 0) (meets : N → Check S (Unit {0})) where
  given-alike : (m n : S) → twins m n → Alike (BehindTwins twins meets) m n (gives {S = S} tt) (gives {S = S} tt)
  unfolding gives_some
  given-alike m n t (Gives u) (Gives v) m2 n2 x y = subst (λ k. twins k n2) (sym x.1) (subst (twins m) (sym y.1) t)
  given-alike m n t (Gives u) (Refuses g) m2 n2 x y = absurd y
  given-alike m n t (Refuses f) p m2 n2 x y = absurd x

  pub all-alike : ((need : N) → NeedAgrees twins meets need) → (needs : Listed N) (m n : S) → twins m n
      → Alike (BehindTwins twins meets) m n (all_met meets needs) (all_met meets needs)
  all-alike each nothing m n t = given-alike m n t
  all-alike each (one need) m n t = each need m n t
  all-alike each (p & q) m n t =
      ▷-alike (BehindTwins twins meets) (BehindTwins twins meets) (all_met meets p) (all_met meets p) _ _ m n (all-alike each p m n t)
      (λ u v mid mid2 r. all-alike each q mid mid2 r)
