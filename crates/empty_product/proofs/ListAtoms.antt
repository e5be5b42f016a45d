-- List atoms: their lengths, what they ask at places, and which are in play.
use Rattle.std.proofs.Common.{◌≡◌, ◌↔◌, ◌⊎◌, ⊎_elim, inl, inr, ℕ, ◌<◌, ◌≤◌, List, [], ◌∷◌, map, length, max, get_or, slice_get, All, Any, Option, Some, None, IsSome, IsSomeAnd, sym, subst, arith}
use Rattle.std.proofs.lemmas.Option.{slice_get_within}
use Rattle.std.proofs.lemmas.List.Elements.{All-cons, All-head, All-tail, All-contains, Contains-get_or}
use Rattle.type_model.specs.declared.basic.Ty.{Ty}
use Rattle.type_model.specs.declared.atoms.AtomDef.{AtomDef}
use Rattle.type_diagrams.specs.Atoms.{parts_of, list_parts}
use Rattle.type_diagrams.specs.Conditions.{IsNothing, and_of, asks}
use Rattle.type_diagrams.specs.Members.{AllowsLength, ArePlainlyApart, Fixes, IsListOutOfPlay, item_of}
use Rattle.type_diagrams.specs.Tables.{Table, condition}
use Rattle.type_diagrams.specs.Whole.{Keeps}
use Rattle.empty_product.specs.Lists.{AreAsked, IsApartFrom}
use Rattle.empty_product.proofs.AtomLists.{Any-contains, below_max, order}
use Rattle.empty_product.proofs.ItemPlaces.{AreAsked-keeps, at_place}
use Rattle.empty_product.proofs.Nothing.{asks_one_before, nothing-along}

module _ (o : Option (List Ty × Option Ty)) (fixed : List Ty) (rest : Option Ty) (is : o ≡ Some (fixed, rest)) where
  pub fixes-parts : (place : ℕ) → IsSomeAnd o (λ d. place < length d.0) ↔ (place < length fixed)
  fixes-parts place = subst (λ p. IsSomeAnd p (λ d. place < length d.0) ↔ (place < length fixed)) (sym is) (λ h. h, λ h. h)

  pub allows-parts : (n : ℕ) → IsSomeAnd o (λ d. (length d.0 ≤ n) × (length d.0 < n → IsSome d.1)) ↔ ((length fixed ≤ n) × (length fixed < n → IsSome rest))
  allows-parts n =
      subst (λ p. IsSomeAnd p (λ d. (length d.0 ≤ n) × (length d.0 < n → IsSome d.1)) ↔ ((length fixed ≤ n) × (length fixed < n → IsSome rest))) (sym is) (λ h. h, λ h. h)

-- an atom that has a list of some length has one of any other length that is no shorter than what it fixes, and no longer
pub AllowsLength-shorter : (o : Option (List Ty × Option Ty)) (n m : ℕ) → m ≤ n → ((place : ℕ) → IsSomeAnd o (λ d. place < length d.0) → place < m) → IsSomeAnd o (λ d. (length d.0 ≤ n) × (length d.0 < n → IsSome d.1)) → IsSomeAnd o (λ d. (length d.0 ≤ m) × (length d.0 < m → IsSome d.1))
AllowsLength-shorter None n m le fixes h = h
AllowsLength-shorter (Some d) n m le fixes h = (within (length d.0) (λ place lt. fixes place lt), λ lt. h.1 (omega (arith, lt, le)))
  where
    within : (k : ℕ) → ((place : ℕ) → place < k → place < m) → k ≤ m
    within k all = by (cases k m)
      where
        cases : (a b : ℕ) → (a ≤ b) ⊎ (b < a)
        cases a b = grind arith

        by : (k ≤ m) ⊎ (m < k) → k ≤ m
        by (inl le) = le
        by (inr lt) = let no = all m lt in omega (arith, no)

not_fixed : (n : ℕ) (o : Option (List Ty × Option Ty)) → IsSomeAnd o (λ d. n < length d.0) → IsSomeAnd o (λ d. (length d.0 ≤ n) × (length d.0 < n → IsSome d.1)) → ⊥
not_fixed n None f h = h
not_fixed n (Some d) f h = omega (arith, f, h.0)

-- ---- a length that list atoms have in common

module _ (env : List AtomDef) (wanted : List ℕ) (atom m : ℕ) (least : (place : ℕ) → (place < m) ↔ (Fixes env place atom ⊎ Any (Fixes env place) wanted)) where
  pub common_length : (n : ℕ) → All (AllowsLength env n) (atom ∷ wanted) → All (AllowsLength env m) (atom ∷ wanted)
  common_length n all =
      let first = All-head (AllowsLength env n) atom wanted all in
      let others = All-tail (AllowsLength env n) atom wanted all in
      let short = short_by first others (order n m) in
      All-cons (AllowsLength env m) atom wanted
      (AllowsLength-shorter (parts_of list_parts env atom) n m short (λ place f. (least place).1 (inl f)) first)
      (λ k d lt. AllowsLength-shorter (parts_of list_parts env (get_or wanted k d)) n m short (λ place f. (least place).1 (inr (Any-contains (Fixes env place) wanted (get_or wanted k d) (Contains-get_or wanted k d lt) f))) (others k d lt))
    where
      short_by : AllowsLength env n atom → All (AllowsLength env n) wanted → (n < m) ⊎ (m ≤ n) → m ≤ n
      short_by first others (inr le) = le
      short_by first others (inl lt) = absurd (⊎_elim
          (λ (f : Fixes env n atom). not_fixed n (parts_of list_parts env atom) f first)
          (λ (s : Any (Fixes env n) wanted). not_fixed n (parts_of list_parts env s.1) s.4 (All-contains (AllowsLength env n) wanted s.1 others (s.0, s.2, s.3)))
          ((least n).0 lt))

-- what the longest fixed prefix of the wanted atoms and that of one more come to
pub least_common : (env : List AtomDef) (wanted : List ℕ) (atom longest m : ℕ) (fixed : List Ty) (rest : Option Ty) → ((place : ℕ) → (place < longest) ↔ Any (Fixes env place) wanted) → parts_of list_parts env atom ≡ Some (fixed, rest) → m ≡ max longest (length fixed)
    → (place : ℕ) → (place < m) ↔ (Fixes env place atom ⊎ Any (Fixes env place) wanted)
least_common env wanted atom longest m fixed rest longer is e place =
    let own = fixes-parts (parts_of list_parts env atom) fixed rest is place in
    let both : (place < m) ↔ ((place < longest) ⊎ (place < length fixed)) = subst (λ r. (place < r) ↔ ((place < longest) ⊎ (place < length fixed))) (sym e) (below_max longest (length fixed) place) in (
      λ lt. ⊎_elim (λ (a : place < longest). inr ((longer place).0 a)) (λ (b : place < length fixed). inl (own.1 b)) (both.0 lt),
      ⊎_elim (λ (f : Fixes env place atom). both.1 (inr (own.0 f))) (λ (s : Any (Fixes env place) wanted). both.1 (inl ((longer place).1 s))),
    )

-- ---- which atoms are out of play

module _ (env : List AtomDef) (wanted : List ℕ) (a : ℕ) (old t : Table) (fixed : List ℕ) (count : (place : ℕ) → (place < length fixed) ↔ Any (Fixes env place) wanted)
    (made : AreAsked old (λ place. asks (map (item_of env place) wanted) []) fixed) (keeps : Keeps old t) where
  plainly : (place q : ℕ) → slice_get fixed place ≡ Some q → IsNothing (and_of (item_of env place a) (condition t q)) ↔ ArePlainlyApart (map (item_of env place) (a ∷ wanted))
  plainly place q is =
      let c = item_of env place a in
      let cs = map (item_of env place) wanted in
      let asked = (AreAsked-keeps old t (λ p. asks (map (item_of env p) wanted) []) fixed keeps made place q is).condition in
      nothing-along (and_of c (condition t q)) (asks (c ∷ cs) []) (asks_one_before c (condition t q) cs asked)

  pub apart_is_out : IsApartFrom env t fixed a → IsListOutOfPlay env wanted a
  apart_is_out h = inr (h.0, (count h.0).0 (slice_get_within fixed h.0 h.1 h.2), (plainly h.0 h.1 h.2).0 h.3)

  pub not_out : ((n : ℕ) × All (AllowsLength env n) (a ∷ wanted)) → ¬ IsApartFrom env t fixed a → ¬ IsListOutOfPlay env wanted a
  not_out some apart = ⊎_elim
      (λ (none : (n : ℕ) → ¬ All (AllowsLength env n) (a ∷ wanted)). none some.0 some.1)
      (λ (h : (place : ℕ) × Any (Fixes env place) wanted × ArePlainlyApart (map (item_of env place) (a ∷ wanted))).
      let q = at_place fixed h.0 ((count h.0).1 h.1) in
      apart (h.0, q.0, q.1, (plainly h.0 q.0 q.1).1 h.2))
