-- What holds of operands one by one holds of the list of them.
use Rattle.std.proofs.Common.{◌≡◌, ◌<◌, ◌≤◌, List, [], ◌∷◌, length, slice_index_or, sym, subst, arith}

pub one-item : {X : Type 0} (vs : List X) (a : X) → 1 ≤ length vs → length vs < 2 → a ≡ slice_index_or vs 0 a → vs ≡ a ∷ []
one-item [] a l m e = absurd (omega (arith, l))
one-item (x ∷ []) a l m e = λ i. sym e i ∷ []
one-item (x ∷ y ∷ vs) a l m e = absurd (omega (arith, m))

pub two-items : {X : Type 0} (vs : List X) (a b : X) → 2 ≤ length vs → length vs < 3 → a ≡ slice_index_or vs 0 a → b ≡ slice_index_or vs 1 b → vs ≡ a ∷ b ∷ []
two-items [] a b l m e f = absurd (omega (arith, l))
two-items (x ∷ []) a b l m e f = absurd (omega (arith, l))
two-items (x ∷ y ∷ []) a b l m e f = λ i. sym e i ∷ sym f i ∷ []
two-items (x ∷ y ∷ z ∷ vs) a b l m e f = absurd (omega (arith, m))

pub on-one : {X : Type 0} (P : List X → Type 0) (vs : List X) (a : X) → 1 ≤ length vs → length vs < 2 → a ≡ slice_index_or vs 0 a → P (a ∷ []) → P vs
on-one P vs a l m e = subst P (sym (one-item vs a l m e))

pub on-two : {X : Type 0} (P : List X → Type 0) (vs : List X) (a b : X) → 2 ≤ length vs → length vs < 3 → a ≡ slice_index_or vs 0 a → b ≡ slice_index_or vs 1 b → P (a ∷ b ∷ []) → P vs
on-two P vs a b l m e f = subst P (sym (two-items vs a b l m e f))
