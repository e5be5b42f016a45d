-- Two runs of one check agree.
use Rattle.std.proofs.Common.{inl, inr}
use Rattle.checks.specs.Checks.{Check, Gives, Refuses, ◌▷◌}
use Rattle.checks.specs.Agreement.{Corresponds, Alike}

-- one behind another
pub ▷-alike : {S A B C D : Type 0} (R : Corresponds S A B) (Q : Corresponds S C D) (c : Check S A) (d : Check S B) (next : A → Check S C) (next2 : B → Check S D)
    (m n : S) → Alike R m n c d
    → ((a : A) (b : B) (mid mid2 : S) → R mid a mid2 b → Alike Q mid mid2 (next a) (next2 b)) → Alike Q m n (c ▷ next) (d ▷ next2)
unfolding ◌▷◌
▷-alike R Q c d next next2 m n h k (Gives a) (Gives b) m2 n2 x y = k x.0 y.0 x.1 y.1 (h (Gives x.0) (Gives y.0) x.1 y.1 x.2 y.2) (Gives a) (Gives b) m2 n2 x.3 y.3
▷-alike R Q c d next next2 m n h k (Gives a) (Refuses g) m2 n2 x (inl y) = h (Gives x.0) (Refuses g) x.1 n2 x.2 y
▷-alike R Q c d next next2 m n h k (Gives a) (Refuses g) m2 n2 x (inr y) = k x.0 y.0 x.1 y.1 (h (Gives x.0) (Gives y.0) x.1 y.1 x.2 y.2) (Gives a) (Refuses g) m2 n2 x.3 y.3
▷-alike R Q c d next next2 m n h k (Refuses f) (Gives b) m2 n2 (inl x) y = h (Refuses f) (Gives y.0) m2 y.1 x y.2
▷-alike R Q c d next next2 m n h k (Refuses f) (Gives b) m2 n2 (inr x) y = k x.0 y.0 x.1 y.1 (h (Gives x.0) (Gives y.0) x.1 y.1 x.2 y.2) (Refuses f) (Gives b) m2 n2 x.3 y.3
▷-alike R Q c d next next2 m n h k (Refuses f) (Refuses g) m2 n2 (inl x) (inl y) = h (Refuses f) (Refuses g) m2 n2 x y
▷-alike R Q c d next next2 m n h k (Refuses f) (Refuses g) m2 n2 (inl x) (inr y) = inl (h (Refuses f) (Gives y.0) m2 y.1 x y.2)
▷-alike R Q c d next next2 m n h k (Refuses f) (Refuses g) m2 n2 (inr x) (inl y) = inr (inl (h (Gives x.0) (Refuses g) x.1 n2 x.2 y))
▷-alike R Q c d next next2 m n h k (Refuses f) (Refuses g) m2 n2 (inr x) (inr y) = k x.0 y.0 x.1 y.1 (h (Gives x.0) (Gives y.0) x.1 y.1 x.2 y.2) (Refuses f) (Refuses g) m2 n2 x.3 y.3
