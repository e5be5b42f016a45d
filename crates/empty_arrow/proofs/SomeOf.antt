-- What holds of some of a list.
use Rattle.std.proofs.Common.{◌⊎◌, ⊎_elim, inl, inr, zero, suc, List, ◌∷◌, ◌++◌, Any, Contains, refl, sym, subst, arith}
use Rattle.std.proofs.lemmas.List.Elements.{Contains-append_left, Contains-append_right, Contains-append_cases}

module _ {X : Type 0} where
  pub Any-Contains : (P : X → Type 0) (xs : List X) → Any P xs → (x : X) × Contains xs x × P x
  Any-Contains P xs a = (a.1, (a.0, a.2, a.3), a.4)

  pub Contains-Any : (P : X → Type 0) (xs : List X) (x : X) → Contains xs x → P x → Any P xs
  Contains-Any P xs x c p = (c.0, x, c.1, c.2, p)

  pub Any-here : (P : X → Type 0) (x : X) (xs : List X) → P x → Any P (x ∷ xs)
  Any-here P x xs p = (0, x, omega arith, refl, p)

  pub Any-later : (P : X → Type 0) (x : X) (xs : List X) → Any P xs → Any P (x ∷ xs)
  Any-later P x xs a = (suc a.0, a.1, omega (arith, a.2), a.3, a.4)

  pub Any-cases : (P : X → Type 0) (x : X) (xs : List X) → Any P (x ∷ xs) → P x ⊎ Any P xs
  Any-cases P x xs (zero, y, lt, is, p) = inl (subst P (sym is) p)
  Any-cases P x xs (suc k, y, lt, is, p) = inr (k, y, omega (arith, lt), is, p)

  pub Any-left : (P : X → Type 0) (xs ys : List X) → Any P xs → Any P (xs ++ ys)
  Any-left P xs ys a = let c = Any-Contains P xs a in Contains-Any P (xs ++ ys) c.0 (Contains-append_left xs ys c.0 c.1) c.2

  pub Any-right : (P : X → Type 0) (xs ys : List X) → Any P ys → Any P (xs ++ ys)
  Any-right P xs ys a = let c = Any-Contains P ys a in Contains-Any P (xs ++ ys) c.0 (Contains-append_right xs ys c.0 c.1) c.2

  pub Any-append_cases : (P : X → Type 0) (xs ys : List X) → Any P (xs ++ ys) → Any P xs ⊎ Any P ys
  Any-append_cases P xs ys a =
      let c = Any-Contains P (xs ++ ys) a in
      ⊎_elim
      (λ (l : Contains xs c.0). inl (Contains-Any P xs c.0 l c.2))
      (λ (r : Contains ys c.0). inr (Contains-Any P ys c.0 r c.2))
      (Contains-append_cases xs ys c.0 c.1)
