-- Sets of simple shapes: those of basic sets, and those that operations make.
use Rattle.std.proofs.Common.{◌≡◌, ℤ, pos, ◌+ℤ◌, ◌≤ℤ◌, ◌<ℤ◌, List, [], ◌∷◌, Bool, true, false, not, ◌&&◌, if◌then◌else◌, ◌⊎◌, ⊎_elim, inl, inr, refl, sym, subst, ◌∙◌, ap, arith}
use Rattle.std.proofs.lemmas.Bool.{false≢true}
use Rattle.std.proofs.lemmas.Int.{by_lt_z, ints}
use Rattle.std.proofs.lemmas.Cmp.{tied_itself, nat_list_cmp_total}
use Rattle.std.proofs.lemmas.Map.Lookups.{exact_bytes}
use Rattle.std.specs.Cmp.Lexicographic.{bytes_decides, slice_cmp}
use Rattle.std.specs.declared.cmp.Ordering.{Ordering}
use Rattle.std.specs.declared.cmp.Ordering.TheVariants.{Less, Equal, Greater}
use Rattle.std.specs.Ordering.{int_cmp, nat_cmp, is_le, is_eq, MatchOrdering}
use Rattle.std.specs.Cmp.{int_ranks}
use Rattle.bal_base.specs.declared.text.Text.{Text}
use Rattle.bal_base.specs.declared.shape.Shape.{Shape, Nil, Bool as BoolShape, Int, Str, List', Mapping', Error', Function, Future'}
use Rattle.bal_base.specs.Valid.{IsInt, IsText}
use Rattle.type_model.specs.declared.basic.BasicSet.{BasicSet}
use Rattle.type_model.specs.declared.basic.BasicSet.TheVariants.{StringOne}
use Rattle.type_model.specs.Places.{is_same_text}
use Rattle.type_diagrams.specs.declared.operation.Operation.{Operation}
use Rattle.type_diagrams.specs.declared.operation.Operation.TheVariants.{Or, And, Without}
use Rattle.type_diagrams.specs.declared.simple.SimpleSet.{SimpleSet}
use Rattle.type_diagrams.specs.Operations.{meaning}
use Rattle.type_diagrams.specs.Conditions.{has_simple}
use Rattle.type_diagrams.specs.Merges.{IsMerged, IsOneOf}
use Rattle.type_diagrams.specs.Sets.{Each, Simples, answer_for, covers, IsBelowAll, IsCanonical, IsSetOf, IsRange, set_of, has_shape, least_int, all_or_none}
use Rattle.type_diagrams.proofs.Merging.{Each-IsOneOf, IsOneOf-Each}
use Rattle.type_diagrams.proofs.SimpleLaws.{le_true}

-- ---- ranges

same_bool : (a b : Bool) → (a ≡ true → b ≡ true) → (b ≡ true → a ≡ true) → a ≡ b
same_bool true b f g = sym (f refl)
same_bool false true f g = g refl
same_bool false false f g = refl

is_true_or : (b : Bool) → (b ≡ true) ⊎ (b ≡ false)
is_true_or true = inl refl
is_true_or false = inr refl

not_true : (b : Bool) → not b ≡ true → b ≡ true → ⊥
not_true true e f = false≢true e
not_true false e f = false≢true f

of_not : (b : Bool) → (b ≡ true → ⊥) → not b ≡ true
of_not true f = absurd (f refl)
of_not false f = refl

cmp-less : (m n : ℤ) → m <ℤ n → int_cmp m n ≡ Less
cmp-less m n h = by (int_cmp m n) (int_ranks m n)
  where
    by : (o : Ordering) → MatchOrdering o (m <ℤ n) (m ≡ n) (n <ℤ m) → o ≡ Less
    by Less k = refl
    by Equal k = absurd (omega (arith, ints, k, h))
    by Greater k = absurd (omega (arith, ints, k, h))

-- one more than the last is where the range ends
past_last : (high i : ℤ) → is_le (int_cmp (high +ℤ pos 1) i) ≡ not (is_le (int_cmp i high))
past_last high i =
    same_bool (is_le (int_cmp (high +ℤ pos 1) i)) (not (is_le (int_cmp i high)))
    (λ e. of_not (is_le (int_cmp i high)) (λ f. no i high ((le_true (high +ℤ pos 1) i).1 e) ((le_true i high).1 f)))
    (λ e. (le_true (high +ℤ pos 1) i).0 (by i high (λ b. not_true (is_le (int_cmp i high)) e ((le_true i high).0 b))))
  where
    no : (m n : ℤ) → (n +ℤ pos 1) ≤ℤ m → m ≤ℤ n → ⊥
    no m n a b = omega (arith, ints, a, b)

    by : (m n : ℤ) → (m ≤ℤ n → ⊥) → (n +ℤ pos 1) ≤ℤ m
    by m n f = by_lt_z n m (λ (g : n <ℤ m). omega (arith, ints, g)) (λ (l : m ≤ℤ n). absurd (f l))

-- from the least int to one that isn't the greatest
pub range-from_least : (low high : ℤ) (flips : List ℤ) → low ≡ least_int → IsInt (high +ℤ pos 1) → IsInt high → flips ≡ (high +ℤ pos 1) ∷ [] → IsRange low high true flips
range-from_least low high flips is next int e = subst (IsRange low high true) (sym e) (record {
  ints = (next, tt);
  above = (cmp-less least_int (high +ℤ pos 1) (below_next high int), tt);
  rises = (tt, tt);
  same = λ i fits. ap (λ b. if b then false else true) (past_last high i) ∙ and_of (is_le (int_cmp low i)) (is_le (int_cmp i high)) ((le_true low i).0 (subst (λ m. m ≤ℤ i) (sym is) fits.0));
})
  where
    and_of : (a b : Bool) → a ≡ true → (if not b then false else true) ≡ (a && b)
    and_of true true e = refl
    and_of true false e = refl
    and_of false b e = absurd (false≢true e)

    below_next : (m : ℤ) → IsInt m → least_int <ℤ (m +ℤ pos 1)
    below_next m h = omega (arith, ints, h.0)

-- from an int that isn't the least to one that isn't the greatest
pub range-between : (low high : ℤ) (flips : List ℤ) → IsInt low → least_int <ℤ low → low ≤ℤ high → IsInt (high +ℤ pos 1) → flips ≡ low ∷ (high +ℤ pos 1) ∷ [] → IsRange low high false flips
range-between low high flips int above le next e = subst (IsRange low high false) (sym e) (record {
  ints = (int, (next, tt));
  above = (cmp-less least_int low above, (cmp-less least_int (high +ℤ pos 1) (through low high above le), tt));
  rises = ((cmp-less low (high +ℤ pos 1) (less low high le), tt), (tt, tt));
  same = λ i fits. ap (λ b. if b then not (if is_le (int_cmp low i) then true else false) else (if is_le (int_cmp low i) then true else false)) (past_last high i)
      ∙ both (is_le (int_cmp low i)) (is_le (int_cmp i high)) (λ a b. (le_true i high).0 (outside low high i le (λ c. false≢true (sym a ∙ (le_true low i).0 c))));
})
  where
    both : (a b : Bool) → (a ≡ false → b ≡ false → b ≡ true) → (if not b then not (if a then true else false) else (if a then true else false)) ≡ (a && b)
    both true true f = refl
    both true false f = refl
    both false true f = refl
    both false false f = absurd (false≢true (f refl refl))

    through : (m n : ℤ) → least_int <ℤ m → m ≤ℤ n → least_int <ℤ (n +ℤ pos 1)
    through m n a b = omega (arith, ints, a, b)

    less : (m n : ℤ) → m ≤ℤ n → m <ℤ (n +ℤ pos 1)
    less m n h = omega (arith, ints, h)

    outside : (m n i : ℤ) → m ≤ℤ n → (m ≤ℤ i → ⊥) → i ≤ℤ n
    outside m n i h f = by_lt_z i m (λ (g : i <ℤ m). omega (arith, ints, h, g)) (λ (l : m ≤ℤ i). absurd (f l))

-- ---- single strings

same-text : (t u : Text) → is_eq (slice_cmp nat_cmp t u) ≡ is_same_text u t
same-text t u =
    same_bool (is_eq (slice_cmp nat_cmp t u)) (is_same_text u t)
    (λ e. (bytes_decides u t).1 (sym (exact_bytes t u (equal (slice_cmp nat_cmp t u) e))))
    (λ e. subst (λ v. is_eq (slice_cmp nat_cmp t v) ≡ true) (sym ((bytes_decides u t).0 e)) (ap is_eq (tied_itself nat_list_cmp_total t)))
  where
    equal : (o : Ordering) → is_eq o ≡ true → o ≡ Equal
    equal Less e = absurd (false≢true e)
    equal Equal e = refl
    equal Greater e = absurd (false≢true e)

if_true : (b c : Bool) → b ≡ c → (if b then true else false) ≡ c
if_true true c e = e
if_true false c e = e

string-IsSetOf : (t : Text) (s : SimpleSet) → set_of s ≡ record (all_or_none false) { texts = t ∷ [] } → IsText t → IsSetOf (λ x. has_simple x (StringOne t)) s
string-IsSetOf t s e text = record {
  canonical = subst IsCanonical (sym e) (record { ints = tt; above = tt; flips_rise = tt; strings = (text, tt); texts_rise = (tt, tt) });
  same = λ x _. ap (λ set. has_shape set x) e ∙ by x;
}
  where
    by : (x : Shape) → has_shape (record (all_or_none false) { texts = t ∷ [] }) x ≡ has_simple x (StringOne t)
    by Nil = refl
    by (BoolShape true) = refl
    by (BoolShape false) = refl
    by (Int i) = refl
    by (Str u) = if_true (is_eq (slice_cmp nat_cmp t u)) (is_same_text u t) (same-text t u)
    by (List' mark _ items) = refl
    by (Mapping' mark _ fields) = refl
    by (Error' _ detail) = refl
    by (Function isolated graph) = refl
    by (Future' _ results) = refl

pub string_in-IsSetOf : (b : BasicSet) (t : Text) (s : SimpleSet) → b ≡ StringOne t → set_of s ≡ record (all_or_none false) { texts = t ∷ [] } → IsText t → IsSetOf (λ x. has_simple x b) s
string_in-IsSetOf b t s is e text = subst (λ c. IsSetOf (λ x. has_simple x c) s) (sym is) (string-IsSetOf t s e text)

-- ---- what operations make

below-IsOneOf : {X : Type 0} (cmp : X → X → Ordering) (x : X) (ys : List X) (y : X) → IsBelowAll cmp x ys → IsOneOf ys y → cmp x y ≡ Less
below-IsOneOf cmp x [] y h k = absurd k
below-IsOneOf cmp x (z ∷ zs) y h k =
    ⊎_elim (λ (e : z ≡ y). subst (λ w. cmp x w ≡ Less) e h.0) (λ (l : IsOneOf zs y). below-IsOneOf cmp x zs y h.1 l) k

IsOneOf-below : {X : Type 0} (cmp : X → X → Ordering) (x : X) (ys : List X) → ((y : X) → IsOneOf ys y → cmp x y ≡ Less) → IsBelowAll cmp x ys
IsOneOf-below cmp x [] f = tt
IsOneOf-below cmp x (y ∷ ys) f = (f y (inl refl), IsOneOf-below cmp x ys (λ z k. f z (inr k)))

module _ {X : Type 0} (P : X → Type 0) (left right places : List X) (from : (p : X) → IsOneOf places p → IsOneOf left p ⊎ IsOneOf right p) where
  each-from : Each P left → Each P right → Each P places
  each-from l r = IsOneOf-Each P places (λ y k. ⊎_elim (λ (a : IsOneOf left y). Each-IsOneOf P left y l a) (λ (a : IsOneOf right y). Each-IsOneOf P right y r a) (from y k))

none-made : (o : Operation) → false ≡ meaning o false false
none-made Or = refl
none-made And = refl
none-made Without = refl

module _ (o : Operation) (l r : Simples) (s : SimpleSet) (lc : IsCanonical l) (rc : IsCanonical r)
    (nil : s.nil ≡ meaning o l.nil r.nil) (no : s.no ≡ meaning o l.no r.no) (yes : s.yes ≡ meaning o l.yes r.yes)
    (first : s.first ≡ meaning o l.first r.first) (flips : IsMerged int_cmp (record { operation = o; lasting = true; left = l.first; right = r.first }) l.flips r.flips s.flips.items)
    (rest : s.rest ≡ meaning o l.rest r.rest) (texts : IsMerged (slice_cmp nat_cmp) (record { operation = o; lasting = false; left = l.rest; right = r.rest }) l.texts r.texts s.texts.items) where
  pub made-IsSetOf : IsSetOf (λ x. meaning o (has_shape l x) (has_shape r x)) s
  made-IsSetOf = record {
    canonical = record {
      ints = each-from IsInt l.flips r.flips s.flips.items flips.from lc.ints rc.ints;
      above = IsOneOf-below int_cmp least_int s.flips.items (λ y k. ⊎_elim (λ (a : IsOneOf l.flips y). below-IsOneOf int_cmp least_int l.flips y lc.above a) (λ (a : IsOneOf r.flips y). below-IsOneOf int_cmp least_int r.flips y rc.above a) (flips.from y k));
      flips_rise = flips.rises;
      strings = each-from IsText l.texts r.texts s.texts.items texts.from lc.strings rc.strings;
      texts_rise = texts.rises;
    };
    same = λ x _. by x;
  }
    where
      by : (x : Shape) → has_shape (set_of s) x ≡ meaning o (has_shape l x) (has_shape r x)
      by Nil = nil
      by (BoolShape true) = yes
      by (BoolShape false) = no
      by (Int i) = ap (λ a. answer_for (covers true int_cmp) a s.flips.items i) first ∙ flips.answers i
      by (Str t) = ap (λ a. answer_for (covers false (slice_cmp nat_cmp)) a s.texts.items t) rest ∙ texts.answers t
      by (List' mark _ items) = none-made o
      by (Mapping' mark _ fields) = none-made o
      by (Error' _ detail) = none-made o
      by (Function isolated graph) = none-made o
      by (Future' _ results) = none-made o
