-- Sets of simple shapes that are kept in the one way and have the same shapes are one.
use Rattle.std.proofs.Common.{◌≡◌, ℕ, zero, suc, ◌<◌, ◌≤◌, ◌+◌, rules, List, [], ◌∷◌, length, true, false, refl, sym, ◌∙◌, ap, arith}
use Rattle.std.proofs.lemmas.Cmp.{nat_list_cmp_total, int_cmp_total}
use Rattle.std.proofs.lemmas.Map.Lookups.{exact_bytes, exact_signed}
use Rattle.std.specs.declared.cmp.Ordering.{Ordering}
use Rattle.std.specs.declared.cmp.Ordering.TheVariants.{Less, Equal, Greater}
use Rattle.std.specs.Ordering.{int_cmp, nat_cmp, is_eq}
use Rattle.std.specs.Cmp.Lexicographic.{slice_cmp}
use Rattle.bal_base.specs.declared.text.Text.{Text}
use Rattle.bal_base.specs.declared.shape.Shape.{Shape, Nil, Bool as BoolShape, Int, Str}
use Rattle.bal_base.specs.Valid.{IsInt, IsText, IsValid}
use Rattle.type_diagrams.specs.Kinds.{IsSimple}
use Rattle.type_diagrams.specs.Sets.{Each, Simples, answer_for, covers, IsCanonical, has_shape, least_int}
use Rattle.type_diagrams.proofs.Places.{answers-same, answer-none, none-covers}

-- ---- a text that is none of a list's

abbrev letters : ℕ → Text
letters zero = []
letters (suc n) = 97 ∷ letters n

length-letters : (n : ℕ) → length (letters n) ≡ n
length-letters zero = refl
length-letters (suc n) = ap suc (length-letters n)

letters-IsText : (n : ℕ) → IsText (letters n)
letters-IsText zero = refl
letters-IsText (suc n) = letters-IsText n

abbrev longer : List Text → ℕ
longer [] = 1
longer (t ∷ ts) = 1 + length t + longer ts

apart-by_length : (t u : Text) → length t < length u → covers false (slice_cmp nat_cmp) t u ≡ false
apart-by_length t u lt = by (slice_cmp nat_cmp t u) refl
  where
    by : (o : Ordering) → slice_cmp nat_cmp t u ≡ o → is_eq o ≡ false
    by Less e = refl
    by Equal e = absurd (omega (arith, lt, ap length (exact_bytes t u e)))
    by Greater e = refl

none-long : (n : ℕ) (ts : List Text) → longer ts ≤ n → Each (λ t. covers false (slice_cmp nat_cmp) t (letters n) ≡ false) ts
none-long n [] le = tt
none-long n (t ∷ ts) le = (apart-by_length t (letters n) (omega (arith, le, length-letters n)), none-long n ts (omega (arith, le)))

module _ (s t : Simples) (sc : IsCanonical s) (tc : IsCanonical t) (same : (x : Shape) → IsSimple x → IsValid x → has_shape s x ≡ has_shape t x) where
  first-same : s.first ≡ t.first
  first-same =
      sym (answer-none (covers true int_cmp) s.first s.flips least_int (none-covers int_cmp int_cmp_total true least_int s.flips sc.above))
      ∙ same (Int least_int) refl (least-IsInt)
      ∙ answer-none (covers true int_cmp) t.first t.flips least_int (none-covers int_cmp int_cmp_total true least_int t.flips tc.above)
    where
      least-IsInt : IsInt least_int
      least-IsInt = (search rules, search rules)

  flips-same : s.flips ≡ t.flips
  flips-same =
      answers-same int_cmp int_cmp_total true exact_signed IsInt s.first s.flips t.flips sc.ints tc.ints sc.flips_rise tc.flips_rise
      (λ i fits. same (Int i) refl fits ∙ ap (λ a. answer_for (covers true int_cmp) a t.flips i) (sym first-same))

  rest-same : s.rest ≡ t.rest
  rest-same =
      let n = longer s.texts + longer t.texts in
      sym (answer-none (covers false (slice_cmp nat_cmp)) s.rest s.texts (letters n) (none-long n s.texts (omega arith)))
      ∙ same (Str (letters n)) refl (letters-IsText n)
      ∙ answer-none (covers false (slice_cmp nat_cmp)) t.rest t.texts (letters n) (none-long n t.texts (omega arith))

  texts-same : s.texts ≡ t.texts
  texts-same =
      answers-same (slice_cmp nat_cmp) nat_list_cmp_total false exact_bytes IsText s.rest s.texts t.texts sc.strings tc.strings sc.texts_rise tc.texts_rise
      (λ u fits. same (Str u) refl fits ∙ ap (λ a. answer_for (covers false (slice_cmp nat_cmp)) a t.texts u) (sym rest-same))

  pub sets-same : s ≡ t
  sets-same = λ i. record {
    nil = same Nil refl tt i;
    no = same (BoolShape false) refl tt i;
    yes = same (BoolShape true) refl tt i;
    first = first-same i;
    flips = flips-same i;
    rest = rest-same i;
    texts = texts-same i;
  }
