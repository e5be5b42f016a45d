-- Lists that are equal begin alike.
use Rattle.std.proofs.Common.{◌≡◌, List, ◌∷◌}

pub same-head : {A : Type 0} (x y : A) (xs ys : List A) → x ∷ xs ≡ y ∷ ys → x ≡ y
same-head x y xs ys e = let q : x ≡ y = cc in q

pub same-tail : {A : Type 0} (x y : A) (xs ys : List A) → x ∷ xs ≡ y ∷ ys → xs ≡ ys
same-tail x y xs ys e = let q : xs ≡ ys = cc in q
