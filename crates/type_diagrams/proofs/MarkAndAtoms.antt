-- The mark and the atoms among literals.
use Rattle.std.proofs.Common.{◌≡◌, ◌≢◌, ℕ, ◌==◌, List, [], ◌∷◌, ◌||◌, not, cond, Bool, true, false, MatchBool, All, eq-eqb, refl, subst, sym, ◌∙◌}
use Rattle.std.specs.List.{filter, list_any}
use Rattle.std.proofs.lemmas.Bool.{false≢true}
use Rattle.std.proofs.lemmas.List.Elements.{All-nil, All-cons, All-head, All-tail}

module _ (is : ℕ → Bool) (A : Type 0) (P : ℕ → Type 0) where
  -- what holds of the mark, and of an atom
  abbrev pub Of : ℕ → Type 0
  Of l = MatchBool (is l) A (P l)

  abbrev others : List ℕ → List ℕ
  others ls = filter (λ l. not (is l)) ls

  pub All-atoms : (ls : List ℕ) → All Of ls → All P (others ls)
  All-atoms [] h = All-nil P
  All-atoms (l ∷ ls) h = by (is l) (All-head Of l ls h) (All-atoms ls (All-tail Of l ls h))
    where
      by : (b : Bool) → MatchBool b A (P l) → All P (others ls) → All P (cond (not b) (l ∷ others ls) (others ls))
      by true here rest = rest
      by false here rest = All-cons P l (others ls) here rest

  pub All-literals : (ls : List ℕ) → list_any is ls ≡ false → All P (others ls) → All Of ls
  All-literals [] none h = All-nil Of
  All-literals (l ∷ ls) none h = by (is l) refl none h (λ n r. All-literals ls n r)
    where
      by : (b : Bool) → is l ≡ b → (b || list_any is ls) ≡ false → All P (cond (not b) (l ∷ others ls) (others ls)) → (list_any is ls ≡ false → All P (others ls) → All Of ls) → All Of (l ∷ ls)
      by true e none h rest = absurd (false≢true (sym none))
      by false e none h rest =
          All-cons Of l ls (subst (λ b. MatchBool b A (P l)) (sym e) (All-head P l (others ls) h)) (rest none (All-tail P l (others ls) h))

  pub mark-holds : (ls : List ℕ) → list_any is ls ≡ true → All Of ls → A
  mark-holds [] some h = absurd (false≢true some)
  mark-holds (l ∷ ls) some h = by (is l) some (All-head Of l ls h) (λ s. mark-holds ls s (All-tail Of l ls h))
    where
      by : (b : Bool) → (b || list_any is ls) ≡ true → MatchBool b A (P l) → (list_any is ls ≡ true → A) → A
      by true some here rest = here
      by false some here rest = rest some

  pub None-atoms : (ls : List ℕ) → All (λ l. ¬ Of l) ls → All (λ l. ¬ P l) (others ls)
  None-atoms [] h = All-nil _
  None-atoms (l ∷ ls) h = by (is l) (All-head (λ m. ¬ Of m) l ls h) (None-atoms ls (All-tail (λ m. ¬ Of m) l ls h))
    where
      by : (b : Bool) → ¬ MatchBool b A (P l) → All (λ m. ¬ P m) (others ls) → All (λ m. ¬ P m) (cond (not b) (l ∷ others ls) (others ls))
      by true here rest = rest
      by false here rest = All-cons (λ m. ¬ P m) l (others ls) here rest

  pub None-literals : (ls : List ℕ) → ¬ A → All (λ l. ¬ P l) (others ls) → All (λ l. ¬ Of l) ls
  None-literals [] none h = All-nil _
  None-literals (l ∷ ls) none h = by (is l) refl h (λ r. None-literals ls none r)
    where
      by : (b : Bool) → is l ≡ b → All (λ m. ¬ P m) (cond (not b) (l ∷ others ls) (others ls)) → (All (λ m. ¬ P m) (others ls) → All (λ m. ¬ Of m) ls) → All (λ m. ¬ Of m) (l ∷ ls)
      by true e h rest = All-cons (λ m. ¬ Of m) l ls (subst (λ b. ¬ MatchBool b A (P l)) (sym e) none) (rest h)
      by false e h rest =
          All-cons (λ m. ¬ Of m) l ls (subst (λ b. ¬ MatchBool b A (P l)) (sym e) (All-head (λ m. ¬ P m) l (others ls) h)) (rest (All-tail (λ m. ¬ P m) l (others ls) h))

-- what holds of each literal but one holds of the others
pub All-others : (mark : ℕ) (P : ℕ → Type 0) (ls : List ℕ) → All (λ l. l ≢ mark → P l) ls → All P (filter (λ l. not (l == mark)) ls)
All-others mark P [] h = All-nil P
All-others mark P (l ∷ ls) h = by (l == mark) refl (All-others mark P ls (All-tail (λ l. l ≢ mark → P l) l ls h))
  where
    by : (b : Bool) → (l == mark) ≡ b → All P (filter (λ l. not (l == mark)) ls) → All P (cond (not b) (l ∷ filter (λ l. not (l == mark)) ls) (filter (λ l. not (l == mark)) ls))
    by true e rest = rest
    by false e rest = All-cons P l _ (All-head (λ l. l ≢ mark → P l) l ls h (λ same. false≢true (sym e ∙ eq-eqb l mark same))) rest
