-- Operands, where there are so many of them, by the length of the list.
use Rattle.std.proofs.Common.{◌≡◌, ◌∙◌, ◌≤◌, ◌<◌, ◌-◌, List, [], ◌∷◌, Some, None, length, slice_index_or, take, drop, refl, ap, arith}
use Rattle.std.proofs.Math.Seq.{take-length}
use Rattle.type_model.specs.declared.basic.SemType.{SemType}
use Rattle.needs_of_rows.specs.inner.Operands.{the_first, the_one, the_three, the_two}

-- ---- one

pub one-empty : (ts : List SemType) → length ts < 1 → None ≡ the_one ts
one-empty [] l = refl
one-empty (x ∷ ts) l = absurd (omega (arith, l))

pub one-long : (ts : List SemType) → 2 ≤ length ts → None ≡ the_one ts
one-long [] l = refl
one-long (x ∷ []) l = absurd (omega (arith, l))
one-long (x ∷ y ∷ ts) l = refl

pub one-single : (ts : List SemType) (a : SemType) → 1 ≤ length ts → length ts < 2 → a ≡ slice_index_or ts 0 a → Some a ≡ the_one ts
one-single [] a l m d = absurd (omega (arith, l))
one-single (x ∷ []) a l m d = ap (λ y. Some y) d
one-single (x ∷ y ∷ ts) a l m d = absurd (omega (arith, m))

-- ---- two

pub two-short : (ts : List SemType) → length ts < 2 → None ≡ the_two ts
two-short [] l = refl
two-short (x ∷ []) l = refl
two-short (x ∷ y ∷ ts) l = absurd (omega (arith, l))

pub two-long : (ts : List SemType) → 3 ≤ length ts → None ≡ the_two ts
two-long [] l = refl
two-long (x ∷ []) l = refl
two-long (x ∷ y ∷ []) l = absurd (omega (arith, l))
two-long (x ∷ y ∷ z ∷ ts) l = refl

pub two-double : (ts : List SemType) (a b : SemType) → 2 ≤ length ts → length ts < 3 → a ≡ slice_index_or ts 0 a → b ≡ slice_index_or ts 1 b
    → Some (a, b) ≡ the_two ts
two-double [] a b l m d e = absurd (omega (arith, l))
two-double (x ∷ []) a b l m d e = absurd (omega (arith, l))
two-double (x ∷ y ∷ []) a b l m d e = λ i. Some (d i, e i)
two-double (x ∷ y ∷ z ∷ ts) a b l m d e = absurd (omega (arith, m))

-- ---- three

pub three-short : (ts : List SemType) → length ts < 3 → None ≡ the_three ts
three-short [] l = refl
three-short (x ∷ []) l = refl
three-short (x ∷ y ∷ []) l = refl
three-short (x ∷ y ∷ z ∷ ts) l = absurd (omega (arith, l))

pub three-long : (ts : List SemType) → 4 ≤ length ts → None ≡ the_three ts
three-long [] l = refl
three-long (x ∷ []) l = refl
three-long (x ∷ y ∷ []) l = refl
three-long (x ∷ y ∷ z ∷ []) l = absurd (omega (arith, l))
three-long (x ∷ y ∷ z ∷ w ∷ ts) l = refl

pub three-triple : (ts : List SemType) (a b c : SemType) → 3 ≤ length ts → length ts < 4 → a ≡ slice_index_or ts 0 a → b ≡ slice_index_or ts 1 b → c ≡ slice_index_or ts 2 c
    → Some (a, b, c) ≡ the_three ts
three-triple [] a b c l m d e f = absurd (omega (arith, l))
three-triple (x ∷ []) a b c l m d e f = absurd (omega (arith, l))
three-triple (x ∷ y ∷ []) a b c l m d e f = absurd (omega (arith, l))
three-triple (x ∷ y ∷ z ∷ []) a b c l m d e f = λ i. Some (d i, e i, f i)
three-triple (x ∷ y ∷ z ∷ w ∷ ts) a b c l m d e f = absurd (omega (arith, m))

-- ---- the first one, and those behind it

pub first-empty : (ts : List SemType) → length ts < 1 → None ≡ the_first ts
first-empty [] l = refl
first-empty (x ∷ ts) l = absurd (omega (arith, l))

behind : (x : SemType) (ts : List SemType) → take (length (x ∷ ts) - 1) (drop 1 (x ∷ ts)) ≡ ts
behind x ts =
    let long : length (x ∷ ts) - 1 ≡ length ts = omega arith in
    ap (λ n. take n ts) long ∙ take-length ts

pub first-more : (ts : List SemType) (a : SemType) → 1 ≤ length ts → a ≡ slice_index_or ts 0 a → Some (a, take (length ts - 1) (drop 1 ts)) ≡ the_first ts
first-more [] a l d = absurd (omega (arith, l))
first-more (x ∷ ts) a l d = λ i. Some (d i, behind x ts i)
