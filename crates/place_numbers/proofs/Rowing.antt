-- What rows tell of the traps at places.
use Rattle.std.proofs.Common.{◌≡◌, ◌≢◌, ◌∙◌, ◌↔◌, ◌≤◌, ◌-◌, ◌+◌, ◌⊎◌, ℕ, Bool, true, false, List, [], ◌∷◌, Option, Some, None, IsSomeAnd, IsTrue, inl, inr, arith, ap, length, refl, slice_get, subst, sym}
use Rattle.std.specs.Prelude.{is_some}
use Rattle.std.proofs.lemmas.Bool.{false≢true}
use Rattle.std.proofs.lemmas.Option.{slice_get_within}
use Rattle.stack_code.specs.declared.code.Code.{Code}
use Rattle.stack_code.specs.declared.code.Unit.{Unit as CodeUnit}
use Rattle.stack_code.specs.Places.{traps_at, traps_from}
use Rattle.code_numbers.specs.Traps.{AreTrapRows, IsChain, TellsTraps}
use Rattle.needs_of_commands.proofs.Descent.{inside, none-on, out-of, unique}
use Rattle.place_numbers.proofs.Counted.{not-absent}

-- an open trap
pub chain-open : (first : ℕ) (rows : List (Option ℕ)) (o : Option ℕ) (ts : List ℕ) → IsChain first rows o ts → IsTrue (is_some o) ↔ (ts ≢ [])
chain-open first rows None [] h = ((λ t. absurd (false≢true t)), (λ n. absurd (n refl)))
chain-open first rows None (t ∷ ts) h = absurd h
chain-open first rows (Some s) [] h = absurd h
chain-open first rows (Some s) (t ∷ ts) h = ((λ i e. absurd (let q : ⊥ = cc in q)), (λ n. refl))

-- the rows of the same traps are the same
same-row : (first : ℕ) (rows : List (Option ℕ)) (a b : Option ℕ) (ts : List ℕ) → IsChain first rows a ts → IsChain first rows b ts → a ≡ b
same-row first rows None None ts g h = refl
same-row first rows None (Some s) [] g h = absurd h
same-row first rows None (Some s) (t ∷ ts) g h = absurd g
same-row first rows (Some s) None [] g h = absurd g
same-row first rows (Some s) None (t ∷ ts) g h = absurd h
same-row first rows (Some r) (Some s) [] g h = absurd g
same-row first rows (Some r) (Some s) (t ∷ ts) (e, le, g) (f, lf, h) = ap (λ (n : ℕ). Some n) (e ∙ sym f)

module _ (code : Code) (u : CodeUnit) (rows : List (Option ℕ)) (are : AreTrapRows code u.first (u.end - u.first) rows) where
  -- what a row says, or that there is none
  abbrev pub Says : Option (Option ℕ) → Option (List ℕ) → Type 0
  Says (Some o) traps = (ts : List ℕ) × (traps ≡ Some ts) × IsChain u.first rows o ts
  Says None traps = traps ≡ None

  untold : (k : ℕ) → k ≤ u.end - u.first → slice_get rows k ≡ None → traps_from code u.first k ≡ None
  untold k le at = by are.1
    where
      by : (length rows ≡ (u.end - u.first) + 1) ⊎ ((length rows ≤ u.end - u.first) × (traps_from code u.first (length rows) ≡ None)) → traps_from code u.first k ≡ None
      by (inl long) =
          let out : length rows ≤ k = out-of rows k at in
          absurd (omega (arith, long, out, le))
      by (inr (short, closed)) =
          let out : length rows ≤ k = out-of rows k at in
          let same : length rows + (k - length rows) ≡ k = omega (arith, out) in
          ap (traps_from code u.first) (sym same) ∙ none-on code u.first (length rows) (k - length rows) closed

  says-from : (k : ℕ) → k ≤ u.end - u.first → (row : Option (Option ℕ)) → slice_get rows k ≡ row → Says row (traps_from code u.first k)
  says-from k le (Some o) at = by (are.0 k (slice_get_within rows k o at))
    where
      by : TellsTraps code u.first rows k → Says (Some o) (traps_from code u.first k)
      by (p, ts, there, is, chain) = (ts, is, subst (λ (x : Option ℕ). IsChain u.first rows x ts) (inside p o (sym there ∙ at)) chain)
  says-from k le None at = untold k le at

  module _ (p : ℕ) (rowed : (u.first ≤ p) × (p ≤ u.end)) where
    pub says : (row : Option (Option ℕ)) → slice_get rows (p - u.first) ≡ row → Says row (traps_at code u p)
    says row at =
        let le : p - u.first ≤ u.end - u.first = omega (arith, rowed.0, rowed.1) in
        says-from (p - u.first) le row at

    pub has-chain : (innermost : Option ℕ) → slice_get rows (p - u.first) ≡ Some innermost → (ts : List ℕ) × IsChain u.first rows innermost ts
    has-chain innermost at = let (ts, is, chain) = says (Some innermost) at in (ts, chain)

    -- a test of the traps, by their row
    pub of-row : (P : List ℕ → Type 0) (r : Bool) (innermost : Option ℕ) → slice_get rows (p - u.first) ≡ Some innermost → ((ts : List ℕ) → IsChain u.first rows innermost ts → IsTrue r ↔ P ts) → IsTrue r ↔ IsSomeAnd (traps_at code u p) P
    of-row P r innermost at h = let (ts, is, chain) = says (Some innermost) at in subst (λ (o : Option (List ℕ)). IsTrue r ↔ IsSomeAnd o P) (sym is) (h ts chain)

    pub of-none : (P : List ℕ → Type 0) → slice_get rows (p - u.first) ≡ None → IsTrue false ↔ IsSomeAnd (traps_at code u p) P
    of-none P at = subst (λ (o : Option (List ℕ)). IsTrue false ↔ IsSomeAnd o P) (sym (says None at)) ((λ t. absurd (false≢true t)), (λ h. absurd h))

  -- ---- two places

  same-traps : (a b : Option (Option ℕ)) (s t : Option (List ℕ)) → a ≡ b → Says a s → Says b t → s ≡ t
  same-traps a b s t e g h = by b (subst (λ (x : Option (Option ℕ)). Says x s) e g) h
    where
      by : (x : Option (Option ℕ)) → Says x s → Says x t → s ≡ t
      by (Some o) (ts, is, chain) (us, are-us, other) = is ∙ ap (λ (l : List ℕ). Some l) (unique u.first rows o ts us chain other) ∙ sym are-us
      by None g h = g ∙ sym h

  same-rows : (a b : Option (Option ℕ)) (s t : Option (List ℕ)) → s ≡ t → Says a s → Says b t → a ≡ b
  same-rows (Some o) (Some q) s t e (ts, is, chain) (us, are-us, other) =
      let same : us ≡ ts = inside us ts (sym are-us ∙ sym e ∙ is) in
      ap (λ (x : Option ℕ). Some x) (same-row u.first rows o q ts chain (subst (λ (l : List ℕ). IsChain u.first rows q l) same other))
  same-rows (Some o) None s t e (ts, is, chain) h = not-absent ts (sym is ∙ e ∙ h)
  same-rows None (Some q) s t e g (us, are-us, other) = not-absent us (sym are-us ∙ sym e ∙ g)
  same-rows None None s t e g h = refl

  pub by-rows : (p q : ℕ) → (u.first ≤ p) × (p ≤ u.end) → (u.first ≤ q) × (q ≤ u.end) → (r : Bool) → IsTrue r ↔ (slice_get rows (q - u.first) ≡ slice_get rows (p - u.first)) → IsTrue r ↔ (traps_at code u q ≡ traps_at code u p)
  by-rows p q a b r h =
      let at-p = says p a (slice_get rows (p - u.first)) refl in
      let at-q = says q b (slice_get rows (q - u.first)) refl in (
        (λ t. same-traps (slice_get rows (q - u.first)) (slice_get rows (p - u.first)) (traps_at code u q) (traps_at code u p) (h.0 t) at-q at-p),
        (λ e. h.1 (same-rows (slice_get rows (q - u.first)) (slice_get rows (p - u.first)) (traps_at code u q) (traps_at code u p) e at-q at-p)),
      )
