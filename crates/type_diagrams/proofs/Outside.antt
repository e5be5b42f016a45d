-- A text that is none of a rising list: letters "a", one more at each that is met.
use Rattle.std.proofs.Common.{◌≡◌, ◌≢◌, ℕ, zero, suc, ◌<◌, ◌+◌, List, [], ◌∷◌, ◌++◌, length, Bool, true, false, ◌&&◌, ◌⊎◌, ⊎_elim, Some, slice_get, refl, sym, subst, ◌∙◌, ap, length-append, arith}
use Rattle.std.proofs.lemmas.Bool.{false≢true, cases_order}
use Rattle.std.proofs.lemmas.Cmp.{tied_itself, nat_cmp_total}
use Rattle.std.proofs.lemmas.Option.{slice_get_within}
use Rattle.std.specs.Str.{all_scalars}
use lib.Utf8.{scalar}
use Rattle.std.proofs.lemmas.Map.Lookups.{exact_bytes}
use Rattle.std.specs.declared.cmp.Ordering.{Ordering}
use Rattle.std.specs.declared.cmp.Ordering.TheVariants.{Less, Equal, Greater}
use Rattle.std.specs.Ordering.{nat_cmp, is_eq, ordering_then}
use Rattle.std.specs.Cmp.Lexicographic.{slice_cmp}
use Rattle.bal_base.specs.declared.text.Text.{Text}
use Rattle.bal_base.specs.Valid.{IsText}
use Rattle.type_diagrams.specs.Sets.{Each, IsBelowAll, Rises, covers}
use Rattle.type_diagrams.specs.Found.{IsLeftOut}
use Rattle.type_diagrams.proofs.Places.{answer-none}

abbrev order : Text → Text → Ordering
order = slice_cmp nat_cmp

below-at : (t v : Text) (ts : List Text) (k : ℕ) → IsBelowAll order t ts → slice_get ts k ≡ Some v → order t v ≡ Less
below-at t v [] k h e = cc
below-at t v (u ∷ ts) zero h e = let same : u ≡ v = cc in subst (λ w. order t w ≡ Less) same h.0
below-at t v (u ∷ ts) (suc k) h e = below-at t v ts k h.1 e

rises-at : (ts : List Text) (j k : ℕ) (u v : Text) → Rises order ts → j < k → slice_get ts j ≡ Some u → slice_get ts k ≡ Some v → order u v ≡ Less
rises-at [] j k u v h lt e f = cc
rises-at (t ∷ ts) j zero u v h lt e f = absurd (omega (arith, lt))
rises-at (t ∷ ts) zero (suc k) u v h lt e f = let same : t ≡ u = cc in subst (λ w. order w v ≡ Less) same (below-at t v ts k h.0 f)
rises-at (t ∷ ts) (suc j) (suc k) u v h lt e f = rises-at ts j k u v h.1 (omega (arith, lt)) e f

longer-Greater : (c : Text) → order (c ++ 97 ∷ []) c ≡ Greater
longer-Greater [] = refl
longer-Greater (x ∷ xs) = ap (λ o. ordering_then o (order (xs ++ 97 ∷ []) xs)) (tied_itself nat_cmp_total x) ∙ longer-Greater xs

longer-IsText : (c : Text) → IsText c → IsText (c ++ 97 ∷ [])
longer-IsText [] h = refl
longer-IsText (x ∷ xs) h =
    let both = and_both (scalar x) (all_scalars xs) h in
    (λ i. both.0 i && longer-IsText xs both.1 i)
  where
    and_both : (a b : Bool) → (a && b) ≡ true → (a ≡ true) × (b ≡ true)
    and_both true b e = (refl, e)
    and_both false b e = absurd (false≢true e)

-- a text that is none of the first so many
pub record LeavesOut (texts : List Text) (seen : ℕ) (t : Text) : Type 0 where
  pub text : IsText t
  pub apart : (k : ℕ) (u : Text) → k < seen → slice_get texts k ≡ Some u → u ≢ t

module _ (texts : List Text) where
  pub none_seen : (t : Text) → t ≡ [] → LeavesOut texts 0 t
  none_seen t e = record { text = subst IsText (sym e) refl; apart = λ k u lt at. absurd (omega (arith, lt)) }

  -- what is said of the first so many and of the next one
  one_more : (P : Text → Type 0) (seen : ℕ) (x : Text) → slice_get texts seen ≡ Some x → ((k : ℕ) (u : Text) → k < seen → slice_get texts k ≡ Some u → P u) → P x → (k : ℕ) (u : Text) → k < seen + 1 → slice_get texts k ≡ Some u → P u
  one_more P seen x at before last k u lt e =
      ⊎_elim
      (λ (same : k ≡ seen). let both : Some x ≡ Some u = sym at ∙ ap (slice_get texts) (sym same) ∙ e in let is : x ≡ u = cc in subst P is last)
      (λ (o : (k < seen) ⊎ (seen < k)). ⊎_elim (λ (less : k < seen). before k u less e) (λ (more : seen < k). absurd (omega (arith, lt, more))) o)
      (cases_order k seen)

  pub another : (seen : ℕ) (t x : Text) → LeavesOut texts seen t → slice_get texts seen ≡ Some x → x ≢ t → LeavesOut texts (seen + 1) t
  another seen t x h at apart = record { text = h.text; apart = one_more (λ u. u ≢ t) seen x at h.apart apart }

  pub the_same : (seen : ℕ) (t x : Text) → Rises order texts → LeavesOut texts seen t → slice_get texts seen ≡ Some x → x ≡ t → LeavesOut texts (seen + 1) (t ++ 97 ∷ [])
  the_same seen t x rises h at same = record {
    text = longer-IsText t h.text;
    apart = one_more (λ u. u ≢ t ++ 97 ∷ []) seen x at
        (λ k u lt e is. bad (sym (longer-Greater t) ∙ ap (λ w. order w t) (sym is) ∙ ap (order u) (sym same) ∙ rises-at texts k seen u x rises lt e at))
        (λ is. absurd (omega (arith, ap length (sym same ∙ is), length-append t (97 ∷ []))));
  }
    where
      bad : Greater ≡ Less → ⊥
      bad e = cc

  each_at : (P : Text → Type 0) (ts : List Text) → ((k : ℕ) (u : Text) → slice_get ts k ≡ Some u → P u) → Each P ts
  each_at P [] h = tt
  each_at P (t ∷ ts) h = (h zero t refl, each_at P ts (λ k u e. h (suc k) u e))

  pub all_seen : (seen : ℕ) (t : Text) → seen ≡ length texts → LeavesOut texts seen t → IsLeftOut texts t
  all_seen seen t all h = record { text = h.text; outside = answer-none (covers false order) true texts t (each_at (λ u. is_eq (order u t) ≡ false) texts (λ k u e. tied u (order u t) refl (h.apart k u (within k u e) e))) }
    where
      within : (k : ℕ) (u : Text) → slice_get texts k ≡ Some u → k < seen
      within k u e = omega (arith, all, slice_get_within texts k u e)

      tied : (u : Text) (o : Ordering) → order u t ≡ o → u ≢ t → is_eq o ≡ false
      tied u Less e ne = refl
      tied u Equal e ne = absurd (ne (exact_bytes u t e))
      tied u Greater e ne = refl
