-- Operands in pairs, one pair more.
use Rattle.std.proofs.Common.{◌≡◌, ◌∙◌, ◌<◌, ◌+◌, ℕ, zero, suc, List, [], ◌∷◌, ◌++◌, Some, None, length, slice_get, refl, sym, ap, arith}
use Rattle.std.specs.Prelude.{unwrap_or}
use Rattle.std.proofs.lemmas.List.{map-append}
use Rattle.std.proofs.lemmas.Option.{slice_get_within}
use Rattle.type_model.specs.declared.basic.SemType.{SemType}
use Rattle.code_needs.specs.Combining.{Needs, in_pairs}
use Rattle.pair_questions.specs.declared.pair.Pair.{Pair}
use Rattle.pair_questions.specs.Pairs.{pair_of, pairs_of}
use Rattle.needs_of_rows.specs.PairsTaken.{TakesPairs}
use Rattle.needs_of_rows.specs.inner.FirstPairs.{first_pairs}

pairs-more : (k : ℕ) (ts : List SemType) (a b : SemType) → slice_get ts (k + k) ≡ Some a → slice_get ts ((k + k) + 1) ≡ Some b
    → first_pairs (k + 1) ts ≡ first_pairs k ts ++ (a, b) ∷ []
pairs-more k [] a b d e =
    let inside : k + k < length {A = SemType} [] = slice_get_within [] (k + k) a d in
    absurd (omega (arith, inside))
pairs-more k (x ∷ []) a b d e =
    let inside : (k + k) + 1 < length (x ∷ []) = slice_get_within (x ∷ []) ((k + k) + 1) b e in
    absurd (omega (arith, inside))
pairs-more zero (x ∷ y ∷ ts) a b d e =
    let one : zero + 1 ≡ suc zero = omega arith in
    let first : zero ≡ zero + zero = omega arith in
    let second : suc zero ≡ (zero + zero) + 1 = omega arith in
    let key : Some x ≡ Some a = ap (slice_get (x ∷ y ∷ ts)) first ∙ d in
    let value : Some y ≡ Some b = ap (slice_get (x ∷ y ∷ ts)) second ∙ e in
    ap (λ m. first_pairs m (x ∷ y ∷ ts)) one ∙ (λ i. (unwrap_or (key i) x, unwrap_or (value i) y) ∷ [])
pairs-more (suc n) (x ∷ y ∷ ts) a b d e =
    let one : suc n + 1 ≡ suc (n + 1) = omega arith in
    let first : suc (suc (n + n)) ≡ suc n + suc n = omega arith in
    let second : suc (suc ((n + n) + 1)) ≡ (suc n + suc n) + 1 = omega arith in
    let key : slice_get ts (n + n) ≡ Some a = ap (slice_get (x ∷ y ∷ ts)) first ∙ d in
    let value : slice_get ts ((n + n) + 1) ≡ Some b = ap (slice_get (x ∷ y ∷ ts)) second ∙ e in
    ap (λ m. first_pairs m (x ∷ y ∷ ts)) one ∙ ap (λ ps. (x, y) ∷ ps) (pairs-more n ts a b key value)

pub taken-more : (k : ℕ) (ts : List SemType) (pairs new : List Pair) (p : Pair) → slice_get ts (k + k) ≡ Some p.key.now → slice_get ts ((k + k) + 1) ≡ Some p.value.now
    → pairs_of pairs ≡ first_pairs k ts → new ≡ pairs ++ p ∷ [] → pairs_of new ≡ first_pairs (k + 1) ts
taken-more k ts pairs new p d e held is =
    ap pairs_of is ∙ map-append pair_of pairs (p ∷ []) ∙ ap (λ ps. ps ++ pair_of p ∷ []) held ∙ sym (pairs-more k ts p.key.now p.value.now d e)

in-pairs-are : (n : ℕ) (ts : List SemType) (f : List (SemType × SemType) → Needs) → length ts ≡ n + n → in_pairs n ts f ≡ f (first_pairs n ts)
in-pairs-are zero [] f e = refl
in-pairs-are zero (a ∷ ts) f e = absurd (omega (arith, e))
in-pairs-are (suc n) [] f e = absurd (omega (arith, e))
in-pairs-are (suc n) (a ∷ []) f e = absurd (omega (arith, e))
in-pairs-are (suc n) (a ∷ b ∷ ts) f e =
    let less : length ts ≡ n + n = omega (arith, e) in
    in-pairs-are n ts (λ ps. f ((a, b) ∷ ps)) less

pub all-taken : (n : ℕ) (ts : List SemType) (pairs : List Pair) → length ts ≡ n + n → pairs_of pairs ≡ first_pairs n ts → TakesPairs n ts (Some pairs)
all-taken n ts pairs e held = λ f. in-pairs-are n ts f e ∙ ap f (sym held)

none-in-pairs : (n : ℕ) (ts : List SemType) (f : List (SemType × SemType) → Needs) → (length ts ≡ n + n → ⊥) → in_pairs n ts f ≡ None
none-in-pairs zero [] f no-such = absurd (no-such (omega arith))
none-in-pairs zero (a ∷ ts) f no-such = refl
none-in-pairs (suc n) [] f no-such = refl
none-in-pairs (suc n) (a ∷ []) f no-such = refl
none-in-pairs (suc n) (a ∷ b ∷ ts) f no-such = none-in-pairs n ts (λ ps. f ((a, b) ∷ ps)) (λ e. no-such (omega (arith, e)))

pub none-taken : (n : ℕ) (ts : List SemType) → (length ts ≡ n + n → ⊥) → TakesPairs n ts None
none-taken n ts no-such = λ f. none-in-pairs n ts f no-such
