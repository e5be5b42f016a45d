-- Atoms of a group by their numbers, and what is in one of them and in none of others.
use Rattle.std.proofs.Common.{◌≡◌, ◌<◌, ◌+◌, ◌↔◌, ◌⊎◌, ◌∙◌, ◌++◌, ℕ, zero, suc, List, [], ◌∷◌, Some, All, arith, inl, inr, ap, get_or, length, refl, slice_get, subst, sym}
use Rattle.bal_base.specs.declared.shape.Shape.{Shape}
use Rattle.type_model.specs.declared.atoms.AtomDef.{AtomDef}
use Rattle.type_model.specs.declared.atoms.AtomDef.TheVariants.{Error as ErrorAtom}
use Rattle.type_model.specs.declared.basic.SemType.{SemType, Atom, And', Not'}
use Rattle.type_model.specs.Defined.{NamesBelow}
use Rattle.type_model.specs.Membership.{Fits, In}
use Rattle.type_model.proofs.Laws.{In-Atom}
use Rattle.detail_questions.specs.inner.Group.{IsDetailType, IsNotAtom}

-- ---- lists

get-behind : {X : Type 0} (xs ys : List X) (i : ℕ) → slice_get (xs ++ ys) (length xs + i) ≡ slice_get ys i
get-behind {X} [] ys i = let e : 0 + i ≡ i = omega arith in ap (λ (n : ℕ). slice_get ys n) e
get-behind {X} (x ∷ xs) ys i = let e : suc (length xs) + i ≡ suc (length xs + i) = omega arith in ap (λ (n : ℕ). slice_get (x ∷ (xs ++ ys)) n) e ∙ get-behind xs ys i

get-front : {X : Type 0} (xs ys : List X) (i : ℕ) → i < length xs → slice_get (xs ++ ys) i ≡ slice_get xs i
get-front [] ys i lt = absurd (omega (arith, lt))
get-front (x ∷ xs) ys zero lt = refl
get-front (x ∷ xs) ys (suc i) lt = get-front xs ys i (omega (arith, lt))

get-own : {X : Type 0} (xs : List X) (i : ℕ) (d : X) → i < length xs → slice_get xs i ≡ Some (get_or xs i d)
get-own [] i d lt = absurd (omega (arith, lt))
get-own (x ∷ xs) zero d lt = refl
get-own (x ∷ xs) (suc i) d lt = get-own xs i d (omega (arith, lt))

-- ---- the atoms of a group

module _ (old : List AtomDef) (details : AtomDef) (lacking : List AtomDef) (detail : SemType) where
  abbrev pub Group : List AtomDef
  Group = (details ∷ lacking) ++ ErrorAtom detail ∷ []

  abbrev pub New : List AtomDef
  New = old ++ Group

  pub details-there : slice_get New (length old) ≡ Some details
  details-there = subst (λ (n : ℕ). slice_get New n ≡ Some details) (let e : length old + 0 ≡ length old = omega arith in e) (get-behind old Group 0)

  lacking-there : (i : ℕ) (d : AtomDef) → i < length lacking → slice_get New (length old + suc i) ≡ Some (get_or lacking i d)
  lacking-there i d lt = get-behind old Group (suc i) ∙ (get-front lacking (ErrorAtom detail ∷ []) i lt ∙ get-own lacking i d lt)

  pub error-there : slice_get New (length old + (length lacking + 1)) ≡ Some (ErrorAtom detail)
  error-there =
      let last : slice_get Group (length (details ∷ lacking) + 0) ≡ Some (ErrorAtom detail) = get-behind (details ∷ lacking) (ErrorAtom detail ∷ []) 0 in
      let at : length (details ∷ lacking) + 0 ≡ length lacking + 1 = omega arith in
      get-behind old Group (length lacking + 1) ∙ subst (λ (n : ℕ). slice_get Group n ≡ Some (ErrorAtom detail)) at last

  -- ---- in none of the atoms behind the first one

  abbrev InNone : Shape → ℕ → Type 0
  InNone x n = (i : ℕ) → i < n → ¬ (In New x (Atom (length old + suc i)))

  none-fits : (x : Shape) → InNone x (length lacking) → All (λ (d : AtomDef). ¬ (Fits New x d)) lacking
  none-fits x none i d lt fits = none i lt ((In-Atom New x (length old + suc i) (get_or lacking i d) (lacking-there i d lt)).1 fits)

  fits-none : (x : Shape) → All (λ (d : AtomDef). ¬ (Fits New x d)) lacking → InNone x (length lacking)
  fits-none x all i lt within = all i details lt ((In-Atom New x (length old + suc i) (get_or lacking i details) (lacking-there i details lt)).0 within)

  not-atom : (x : Shape) (atom : ℕ) (t : SemType) → IsNotAtom atom t → In New x t ↔ (¬ (In New x (Atom atom)))
  not-atom x atom (Not' _ s) e = ((λ n i. n (subst (In New x) (sym e) i)), (λ n i. n (subst (In New x) e i)))
  not-atom x atom t e = absurd e

  abbrev InFirst : Shape → ℕ → Type 0
  InFirst x n = In New x (Atom (length old)) × InNone x n

  one-more : (x : Shape) (n : ℕ) → InNone x n → (¬ (In New x (Atom (length old + suc n)))) → InNone x (suc n)
  one-more x n none out i lt = by (less-or i n lt)
    where
      less-or : (a b : ℕ) → a < suc b → (a < b) ⊎ (a ≡ b)
      less-or a b h = grind arith

      by : (i < n) ⊎ (i ≡ n) → ¬ (In New x (Atom (length old + suc i)))
      by (inl less) = none i less
      by (inr e) = subst (λ (k : ℕ). ¬ (In New x (Atom (length old + suc k)))) (sym e) out

  detail-in : (x : Shape) (n : ℕ) (t : SemType) → IsDetailType (length old) n t → In New x t ↔ InFirst x n
  detail-in x zero t e = ((λ i. (subst (In New x) e i, (λ k lt. absurd (omega (arith, lt))))), (λ h. subst (In New x) (sym e) h.0))
  detail-in x (suc n) (And' _ a _ b) h =
      let front = detail-in x n a h.0 in
      let out = not-atom x (length old + suc n) b h.1 in (
        (λ i. let f = front.0 i.0 in (f.0, one-more x n f.1 (out.0 i.1))),
        (λ f. (front.1 (f.0, (λ k lt. f.1 k (omega (arith, lt)))), out.1 (f.1 n (omega arith)))),
      )
  detail-in x (suc n) t h = absurd h

  -- ---- details, as their definitions say

  pub detail-shapes : IsDetailType (length old) (length lacking) detail → (x : Shape) → In New x detail ↔ (Fits New x details × All (λ (d : AtomDef). ¬ (Fits New x d)) lacking)
  detail-shapes is x =
      let all = detail-in x (length lacking) detail is in
      let first = In-Atom New x (length old) details details-there in (
        (λ i. let f = all.0 i in (first.0 f.0, none-fits x f.1)),
        (λ h. all.1 (first.1 h.0, fits-none x h.1)),
      )

-- ---- which atoms the type of details names

pub detail-below : (first n bound : ℕ) (t : SemType) → IsDetailType first n t → first + n < bound → NamesBelow bound t
detail-below first zero bound t e lt = subst (NamesBelow bound) (sym e) (let l : first < bound = omega (arith, lt) in l)
detail-below first (suc n) bound (And' _ a _ b) h lt = (detail-below first n bound a h.0 (omega (arith, lt)), other b h.1)
  where
    other : (u : SemType) → IsNotAtom (first + suc n) u → NamesBelow bound u
    other (Not' _ s) e = subst (NamesBelow bound) (sym e) lt
    other u e = absurd e
detail-below first (suc n) bound t h lt = absurd h
