-- Lists whose members go together.
use Rattle.std.proofs.Common.{◌≡◌, ◌+◌, ◌++◌, ◌<◌, ℕ, zero, suc, List, [], ◌∷◌, Any, add-one, arith, get_or, length, refl, subst, sym, take}
use Rattle.std.specs.List.{AllZip}

-- of some in one list, so of some in the other
module _ {X Y : Type 0} (R : X → Y → Type 0) (P : X → Type 0) (Q : Y → Type 0) where
  pub any-there : ((x : X) (y : Y) → R x y → P x → Q y) → (xs : List X) (ys : List Y) → AllZip R xs ys → Any P xs → Any Q ys
  any-there so [] [] h (k, x, lt, is, p) = absurd (omega arith)
  any-there so [] (y ∷ ys) h a = absurd h
  any-there so (x ∷ xs) [] h a = absurd h
  any-there so (x ∷ xs) (y ∷ ys) h (zero, z, lt, is, p) = (0, y, omega arith, refl, so x y h.0 (subst P (sym is) p))
  any-there so (x ∷ xs) (y ∷ ys) h (suc k, z, lt, is, p) =
      let rest = any-there so xs ys h.1 (k, z, omega arith, is, p) in
      let far : rest.0 < length ys = rest.2 in
      (suc rest.0, rest.1, omega (arith, far), rest.3, rest.4)

  pub any-back : ((x : X) (y : Y) → R x y → Q y → P x) → (xs : List X) (ys : List Y) → AllZip R xs ys → Any Q ys → Any P xs
  any-back back [] [] h (k, x, lt, is, p) = absurd (omega arith)
  any-back back [] (y ∷ ys) h a = absurd h
  any-back back (x ∷ xs) [] h a = absurd h
  any-back back (x ∷ xs) (y ∷ ys) h (zero, z, lt, is, p) = (0, x, omega arith, refl, back x y h.0 (subst Q (sym is) p))
  any-back back (x ∷ xs) (y ∷ ys) h (suc k, z, lt, is, p) =
      let rest = any-back back xs ys h.1 (k, z, omega arith, is, p) in
      let far : rest.0 < length xs = rest.2 in
      (suc rest.0, rest.1, omega (arith, far), rest.3, rest.4)

-- one member more of each
module _ {X Y : Type 0} (R : X → Y → Type 0) where
  zips-next : (xs : List X) (ys : List Y) (i : ℕ) (x : X) (y : Y) → i < length xs → x ≡ get_or xs i x → AllZip R (take i xs) ys → R x y
      → AllZip R (take (suc i) xs) (ys ++ y ∷ [])
  zips-next [] ys i x y lt is h r = absurd (omega arith)
  zips-next (a ∷ xs) [] zero x y lt is h r = (subst (λ b. R b y) is r, tt)
  zips-next (a ∷ xs) (b ∷ ys) zero x y lt is h r = absurd h
  zips-next (a ∷ xs) [] (suc i) x y lt is h r = absurd h
  zips-next (a ∷ xs) (b ∷ ys) (suc i) x y lt is h r = (h.0, zips-next xs ys i x y (omega arith) is h.1 r)

  pub zips-more : (xs : List X) (ys : List Y) (i : ℕ) (x : X) (y : Y) → i < length xs → x ≡ get_or xs i x → AllZip R (take i xs) ys → R x y
      → AllZip R (take (i + 1) xs) (ys ++ y ∷ [])
  zips-more xs ys i x y lt is h r = rw add-one (zips-next xs ys i x y lt is h r)
