-- Types written from sets of simple shapes: what they hold is what the sets have.
use Rattle.std.proofs.Common.{◌≡◌, ℤ, pos, ◌-ℤ◌, ◌<ℤ◌, ◌≤ℤ◌, List, [], ◌∷◌, ◌++◌, map, Bool, true, false, not, ◌&&◌, ◌||◌, if◌then◌else◌, slice_get, Box, Global, refl, sym, subst, ◌∙◌, ap, arith}
use Rattle.std.specs.List.{list_any}
use Rattle.std.proofs.Math.Bool.{or-false, and-false, and-true, or_assoc}
use Rattle.std.proofs.lemmas.Bool.{false≢true, false_from_ne_true}
use Rattle.std.proofs.lemmas.Cmp.{tied_itself, int_cmp_total, nat_list_cmp_total}
use Rattle.std.proofs.lemmas.Int.{ints as int_laws}
use Rattle.std.proofs.lemmas.List.Folds.{list_any-append}
use Rattle.std.proofs.lemmas.Map.Lookups.{exact_bytes}
use Rattle.std.specs.Cmp.{int_ranks}
use Rattle.std.specs.Cmp.Lexicographic.{slice_cmp, bytes_decides}
use Rattle.std.specs.declared.cmp.Ordering.{Ordering}
use Rattle.std.specs.declared.cmp.Ordering.TheVariants.{Less, Equal, Greater}
use Rattle.std.specs.Ordering.{int_cmp, nat_cmp, is_le, is_eq, MatchOrdering}
use Rattle.bal_base.specs.declared.text.Text.{Text}
use Rattle.bal_base.specs.declared.shape.Shape.{Shape, Nil, Bool as BoolShape, Int, Str, List', Mapping', Error', Function, Future'}
use Rattle.bal_base.specs.Valid.{IsInt, IsValid}
use Rattle.type_model.specs.declared.basic.BasicSet.{BasicSet}
use Rattle.type_model.specs.declared.basic.BasicSet.TheVariants.{Nil as NilOnly, Bool as BoolOne, IntRange, StringOne, StringAll}
use Rattle.type_model.specs.declared.basic.SemType.{SemType, Basic, Or, And, Not}
use Rattle.type_model.specs.Defined.{NamesBelow}
use Rattle.type_model.specs.Places.{is_same_text}
use Rattle.type_diagrams.specs.declared.kind.Kind.{Kind}
use Rattle.type_diagrams.specs.Simple.{by_simple}
use Rattle.type_model.specs.declared.atoms.AtomDef.{AtomDef}
use Rattle.type_diagrams.specs.Kinds.{the_mark}
use Rattle.type_diagrams.specs.Conditions.{Condition, AreOne, truth, has_simple, has_kind, is_def_of, condition_of}
use Rattle.type_diagrams.specs.Sets.{Each, IsBelowAll, Rises, Simples, IsCanonical, answer_for, covers, has_int, has_shape, least_int}
use Rattle.type_diagrams.specs.Written.{simple_alone, AddsInts, HaveTogether, IsSimpleType, IsUnionOfSets, IsUnionWithout}
use Rattle.type_diagrams.proofs.Places.{answer-none, none-covers, below_through}
use Rattle.type_diagrams.proofs.SimpleLaws.{le_true}

-- ---- unions

pub one-IsUnionOfSets : (b : BasicSet) → IsUnionOfSets (b ∷ []) (Basic b)
one-IsUnionOfSets b = record { names = tt; holds = λ basic atom e. sym (or-false (basic b)) }

pub both-IsUnionOfSets : (xs ys : List BasicSet) (s t : Box SemType Global) → IsUnionOfSets xs s.value → IsUnionOfSets ys t.value → IsUnionOfSets (xs ++ ys) (Or s t)
both-IsUnionOfSets xs ys s t p q = record {
  names = (p.names, q.names);
  holds = λ basic atom e. (λ i. p.holds basic atom e i || q.holds basic atom e i) ∙ sym (list_any-append basic xs ys);
}

pub without-IsUnionWithout : (xs ys : List BasicSet) (s t n : Box SemType Global) → IsUnionOfSets xs s.value → IsUnionOfSets ys t.value → n.value ≡ Not t → IsUnionWithout xs ys (And s n)
without-IsUnionWithout xs ys s t n p q is = record {
  names = (p.names, subst (λ u. NamesBelow 0 u) (sym is) q.names);
  holds = λ basic atom e. (λ i. p.holds basic atom e i && truth basic atom (is i)) ∙ (λ i. list_any basic xs && not (q.holds basic atom e i));
}

-- ---- sets that are added

abbrev pub adds_if : Bool → List BasicSet → BasicSet → List BasicSet
adds_if keep old b = if keep then old ++ b ∷ [] else old

module _ (has : Shape → Bool) (old : List BasicSet) (h : HaveTogether has old) where
  pub together-as : (other : Shape → Bool) → ((x : Shape) → IsValid x → has x ≡ other x) → HaveTogether other old
  together-as other same = record { simple = λ x v. h.simple x v ∙ same x v; kinds = h.kinds }

  pub together-if : (keep : Bool) (b : BasicSet) → ((k : Kind) (mark : Bool) → has_kind k mark b ≡ false) → HaveTogether (λ x. has x || (keep && has_simple x b)) (adds_if keep old b)
  together-if true b none = record {
    simple = λ x v. list_any-append (has_simple x) old (b ∷ []) ∙ (λ i. h.simple x v i || or-false (has_simple x b) i);
    kinds = λ k mark. list_any-append (has_kind k mark) old (b ∷ []) ∙ (λ i. h.kinds k mark i || or-false (has_kind k mark b) i) ∙ none k mark;
  }
  together-if false b none = record { simple = λ x v. h.simple x v ∙ sym (or-false (has x)); kinds = h.kinds }

-- no shape but ints
abbrev of_ints : (ℤ → Bool) → Shape → Bool
of_ints ints x = by_simple false (λ b. false) ints (λ t. false) x

abbrev in_range : ℤ → ℤ → ℤ → Bool
in_range low high i = is_le (int_cmp low i) && is_le (int_cmp i high)

module _ (old : List BasicSet) where
  pub none-AddsInts : AddsInts (λ i. false) old old
  none-AddsInts has h = together-as has old h _ (λ x v. sym (or-false (has x)) ∙ (λ i. has x || none x i))
    where
      none : (x : Shape) → false ≡ of_ints (λ i. false) x
      none Nil = refl
      none (BoolShape b) = refl
      none (Int i) = refl
      none (Str t) = refl
      none (List' mark _ items) = refl
      none (Mapping' mark _ fields) = refl
      none (Error' _ detail) = refl
      none (Function isolated graph) = refl
      none (Future' _ results) = refl

  pub ints-as : (new : List BasicSet) (f g : ℤ → Bool) → ((i : ℤ) → IsInt i → f i ≡ g i) → AddsInts f old new → AddsInts g old new
  ints-as new f g same adds has h = together-as _ new (adds has h) _ (λ x v. (λ i. has x || one x v i))
    where
      one : (x : Shape) → IsValid x → of_ints f x ≡ of_ints g x
      one Nil v = refl
      one (BoolShape b) v = refl
      one (Int i) v = same i v
      one (Str t) v = refl
      one (List' mark _ items) v = refl
      one (Mapping' mark _ fields) v = refl
      one (Error' _ detail) v = refl
      one (Function isolated graph) v = refl
      one (Future' _ results) v = refl

  pub range-AddsInts : (mid : List BasicSet) (f : ℤ → Bool) (inside : Bool) (low high : ℤ) → AddsInts f old mid → AddsInts (λ i. f i || (inside && in_range low high i)) old (adds_if inside mid (IntRange low high))
  range-AddsInts mid f inside low high adds has h =
      together-as _ _ (together-if _ mid (adds has h) inside (IntRange low high) (λ k mark. refl)) _ (λ x v. or_assoc (has x) (of_ints f x) _ ∙ (λ i. has x || one x i))
    where
      one : (x : Shape) → (of_ints f x || (inside && has_simple x (IntRange low high))) ≡ of_ints (λ i. f i || (inside && in_range low high i)) x
      one Nil = and-false inside
      one (BoolShape b) = and-false inside
      one (Int i) = refl
      one (Str t) = and-false inside
      one (List' mark _ items) = and-false inside
      one (Mapping' mark _ fields) = and-false inside
      one (Error' _ detail) = and-false inside
      one (Function isolated graph) = and-false inside
      one (Future' _ results) = and-false inside

-- ---- the ranges of flips

abbrev answers : Bool → List ℤ → ℤ → Bool
answers a flips i = answer_for (covers true int_cmp) a flips i

-- The ranges that are added so far have the ints up to the last flip that was met: what is left are the ints
-- from there on.
pub record Ranging (first : Bool) (flips : List ℤ) (old now : List BasicSet) (low : ℤ) (inside : Bool) (rest : List ℤ) : Type 0 where
  pub done : ℤ → Bool
  pub adds : AddsInts done old now
  pub same : (i : ℤ) → IsInt i → answers first flips i ≡ (done i || (is_le (int_cmp low i) && answers inside rest i))
  pub fits : IsInt low
  pub ints : Each IsInt rest
  pub above : IsBelowAll int_cmp low rest
  pub rise : Rises int_cmp rest

pub ranging-start : (first : Bool) (flips : List ℤ) (old : List BasicSet) → Each IsInt flips → IsBelowAll int_cmp least_int flips → Rises int_cmp flips → Ranging first flips old old least_int first flips
ranging-start first flips old ints above rise = record {
  done = λ i. false;
  adds = none-AddsInts old;
  same = λ i is. λ j. sym ((le_true least_int i).0 is.0) j && answers first flips i;
  fits = (omega (arith, int_laws), omega (arith, int_laws));
  ints = ints;
  above = above;
  rise = rise;
}

pub less_below : (m n : ℤ) → int_cmp m n ≡ Less → m <ℤ n
less_below m n e = by (int_cmp m n) e (int_ranks m n)
  where
    by : (o : Ordering) → o ≡ Less → MatchOrdering o (m <ℤ n) (m ≡ n) (n <ℤ m) → m <ℤ n
    by Less p r = r
    by Equal p r = cc
    by Greater p r = cc

pub below_less : (m n : ℤ) → m <ℤ n → int_cmp m n ≡ Less
below_less m n lt = by (int_cmp m n) (int_ranks m n)
  where
    by : (o : Ordering) → MatchOrdering o (m <ℤ n) (m ≡ n) (n <ℤ m) → o ≡ Less
    by Less r = refl
    by Equal r = absurd (omega (arith, int_laws, r, lt))
    by Greater r = absurd (omega (arith, int_laws, r, lt))

not_le : (m n : ℤ) → n <ℤ m → is_le (int_cmp m n) ≡ false
not_le m n lt = false_from_ne_true (is_le (int_cmp m n)) (λ e. let le = (le_true m n).1 e in omega (arith, int_laws, le, lt))

-- the ints from `low` on: those up to the next flip, and those from it on
abbrev left_over : ℤ → Bool → List ℤ → ℤ → Bool
left_over low inside rest i = is_le (int_cmp low i) && answers inside rest i

module _ (low p : ℤ) (ps : List ℤ) (inside : Bool) (i : ℤ) (lt : low <ℤ p) (above : IsBelowAll int_cmp p ps) where
  abbrev Splits : Type 0
  Splits = left_over low inside (p ∷ ps) i ≡ ((inside && in_range low (p -ℤ pos 1) i) || left_over p (not inside) ps i)

  from_flip : p ≤ℤ i → Splits
  from_flip le =
      let at = (le_true p i).0 le in
      let low_at = (le_true low i).0 (omega (arith, int_laws, le, lt)) in
      let over = not_le i (p -ℤ pos 1) (omega (arith, int_laws, le)) in
      (λ j. low_at j && answers (if at j then not inside else inside) ps i)
      ∙ sym ((λ j. (inside && (is_le (int_cmp low i) && over j)) || (at j && answers (not inside) ps i)) ∙ (λ j. (inside && and-false (is_le (int_cmp low i)) j) || answers (not inside) ps i) ∙ (λ j. and-false inside j || answers (not inside) ps i))

  before_flip : i <ℤ p → Splits
  before_flip less =
      let off = not_le p i less in
      let under = (le_true i (p -ℤ pos 1)).0 (omega (arith, int_laws, less)) in
      let none = answer-none (covers true int_cmp) inside ps i (none-covers int_cmp int_cmp_total true i ps (below_through int_cmp int_cmp_total i p ps (below_less i p less) above)) in
      (λ j. is_le (int_cmp low i) && answers (if off j then not inside else inside) ps i) ∙ (λ j. is_le (int_cmp low i) && none j)
      ∙ swapped (is_le (int_cmp low i)) inside ∙ sym (λ j. (inside && (is_le (int_cmp low i) && under j)) || (off j && answers (not inside) ps i))
    where
      swapped : (a b : Bool) → (a && b) ≡ ((b && (a && true)) || false)
      swapped true true = refl
      swapped true false = refl
      swapped false true = refl
      swapped false false = refl

  splits : Splits
  splits = by (int_cmp p i) (int_ranks p i)
    where
      by : (o : Ordering) → MatchOrdering o (p <ℤ i) (p ≡ i) (i <ℤ p) → Splits
      by Less r = from_flip (omega (arith, int_laws, r))
      by Equal r = from_flip (omega (arith, int_laws, r))
      by Greater r = before_flip r

-- the int before one that is above another
pub before-IsInt : (low p : ℤ) (ps : List ℤ) → IsInt low → IsInt p → IsBelowAll int_cmp low (p ∷ ps) → IsInt (p -ℤ pos 1)
before-IsInt low p ps l h above =
    let lt = less_below low p above.0 in
    (omega (arith, int_laws, l.0, lt), omega (arith, int_laws, h.1))

pub ranging-step : (first : Bool) (flips : List ℤ) (old now new : List BasicSet) (low : ℤ) (inside : Bool) (p : ℤ) (ps : List ℤ) → Ranging first flips old now low inside (p ∷ ps)
    → new ≡ adds_if inside now (IntRange low (p -ℤ pos 1)) → Ranging first flips old new p (not inside) ps
ranging-step first flips old now new low inside p ps r is = record {
  done = λ i. r.done i || (inside && in_range low (p -ℤ pos 1) i);
  adds = subst (AddsInts _ old) (sym is) (range-AddsInts old now r.done inside low (p -ℤ pos 1) r.adds);
  same = λ i is_int. r.same i is_int ∙ (λ j. r.done i || splits low p ps inside i (less_below low p r.above.0) r.rise.0 j) ∙ sym (or_assoc (r.done i) _ _);
  fits = r.ints.0;
  ints = r.ints.1;
  above = r.rise.0;
  rise = r.rise.1;
}

pub ranging-end : (first : Bool) (flips : List ℤ) (old now new : List BasicSet) (low : ℤ) (inside : Bool) → Ranging first flips old now low inside []
    → new ≡ adds_if inside now (IntRange low (pos 9223372036854775807)) → AddsInts (answers first flips) old new
ranging-end first flips old now new low inside r is =
    subst (AddsInts _ old) (sym is)
    (ints-as old _ _ _ (λ i fits. (λ j. r.done i || last i fits j) ∙ sym (r.same i fits)) (range-AddsInts old now r.done inside low (pos 9223372036854775807) r.adds))
  where
    swapped : (a b : Bool) → (b && (a && true)) ≡ (a && b)
    swapped true true = refl
    swapped true false = refl
    swapped false true = refl
    swapped false false = refl

    last : (i : ℤ) → IsInt i → (inside && in_range low (pos 9223372036854775807) i) ≡ left_over low inside [] i
    last i fits =
        (λ j. inside && (is_le (int_cmp low i) && (le_true i (pos 9223372036854775807)).0 (omega (arith, int_laws, fits.1)) j)) ∙ swapped (is_le (int_cmp low i)) inside

-- ---- nil, the booleans and the ints

-- the shapes of a set but for its strings
abbrev pub unstrung : Simples → Shape → Bool
unstrung s x = by_simple s.nil (λ b. if b then s.yes else s.no) (has_int s) (λ t. false) x

module _ (s : Simples) where
  abbrev pushed : Shape → Bool
  pushed x = (((false || (s.nil && has_simple x NilOnly)) || (s.no && has_simple x (BoolOne false))) || (s.yes && has_simple x (BoolOne true))) || of_ints (has_int s) x

  off : (a b c d : Bool) → ((((a && false) || (b && false)) || (c && false)) || d) ≡ d
  off a b c d = λ i. ((and-false a i || and-false b i) || and-false c i) || d

  of_nil : (a b c : Bool) → ((((a && true) || (b && false)) || (c && false)) || false) ≡ a
  of_nil true b c = refl
  of_nil false b c = off false b c false

  of_no : (a b c : Bool) → ((((a && false) || (b && true)) || (c && false)) || false) ≡ b
  of_no a true c = λ i. ((and-false a i || true) || (c && false)) || false
  of_no a false c = off a false c false

  of_yes : (a b c : Bool) → ((((a && false) || (b && false)) || (c && true)) || false) ≡ c
  of_yes a b true = λ i. ((and-false a i || and-false b i) || true) || false
  of_yes a b false = off a b false false

  unstrung-pushed : (x : Shape) → pushed x ≡ unstrung s x
  unstrung-pushed Nil = of_nil s.nil s.no s.yes
  unstrung-pushed (BoolShape true) = of_yes s.nil s.no s.yes
  unstrung-pushed (BoolShape false) = of_no s.nil s.no s.yes
  unstrung-pushed (Int i) = off s.nil s.no s.yes (has_int s i)
  unstrung-pushed (Str t) = off s.nil s.no s.yes false
  unstrung-pushed (List' mark _ items) = off s.nil s.no s.yes false
  unstrung-pushed (Mapping' mark _ fields) = off s.nil s.no s.yes false
  unstrung-pushed (Error' _ detail) = off s.nil s.no s.yes false
  unstrung-pushed (Function isolated graph) = off s.nil s.no s.yes false
  unstrung-pushed (Future' _ results) = off s.nil s.no s.yes false

  pub unstrung-HaveTogether : (start with_nil with_no with_yes all : List BasicSet) → start ≡ [] → with_nil ≡ adds_if s.nil start NilOnly → with_no ≡ adds_if s.no with_nil (BoolOne false) → with_yes ≡ adds_if s.yes with_no (BoolOne true) → AddsInts (has_int s) with_yes all → HaveTogether (unstrung s) all
  unstrung-HaveTogether start with_nil with_no with_yes all d e f g adds =
      together-as _ all
      (adds _ (subst (HaveTogether _) (sym g) (together-if _ with_no (subst (HaveTogether _) (sym f) (together-if _ with_nil (subst (HaveTogether _) (sym e) (together-if (λ x. false) start (subst (HaveTogether (λ x. false)) (sym d) none)
      s.nil NilOnly (λ k mark. refl))) s.no (BoolOne false) (λ k mark. refl))) s.yes (BoolOne true) (λ k mark. refl))))
      _ (λ x v. unstrung-pushed x)
    where
      none : HaveTogether (λ x. false) []
      none = record { simple = λ x v. refl; kinds = λ k mark. refl }

-- ---- strings

-- the string is one of these
abbrev is_one : List Text → Text → Bool
is_one ts t = list_any (λ u. is_same_text t u) ts

none_of : (f : BasicSet → Bool) → ((u : Text) → f (StringOne u) ≡ false) → (ts : List Text) → list_any f (map StringOne ts) ≡ false
none_of f none [] = refl
none_of f none (u ∷ us) = λ i. none u i || none_of f none us i

one_of : (t : Text) (ts : List Text) → list_any (has_simple (Str t)) (map StringOne ts) ≡ is_one ts t
one_of t [] = refl
one_of t (u ∷ us) = λ i. is_same_text t u || one_of t us i

abbrev of_texts : List Text → Shape → Bool
of_texts ts x = by_simple false (λ b. false) (λ i. false) (is_one ts) x

texts-simple : (ts : List Text) (x : Shape) → list_any (has_simple x) (map StringOne ts) ≡ of_texts ts x
texts-simple ts Nil = none_of (has_simple Nil) (λ u. refl) ts
texts-simple ts (BoolShape b) = none_of (has_simple (BoolShape b)) (λ u. refl) ts
texts-simple ts (Int i) = none_of (has_simple (Int i)) (λ u. refl) ts
texts-simple ts (Str t) = one_of t ts
texts-simple ts (List' mark s items) = none_of (has_simple (List' mark s items)) (λ u. refl) ts
texts-simple ts (Mapping' mark s fields) = none_of (has_simple (Mapping' mark s fields)) (λ u. refl) ts
texts-simple ts (Error' s detail) = none_of (has_simple (Error' s detail)) (λ u. refl) ts
texts-simple ts (Function isolated graph) = none_of (has_simple (Function isolated graph)) (λ u. refl) ts
texts-simple ts (Future' s results) = none_of (has_simple (Future' s results)) (λ u. refl) ts

abbrev order : Text → Text → Ordering
order = slice_cmp nat_cmp

same-covers : (u t : Text) → is_same_text t u ≡ covers false order u t
same-covers u t = by (is_same_text t u) refl
  where
    equal : (o : Ordering) → is_eq o ≡ true → o ≡ Equal
    equal Less e = absurd (false≢true e)
    equal Equal e = refl
    equal Greater e = absurd (false≢true e)

    by : (b : Bool) → is_same_text t u ≡ b → b ≡ is_eq (order u t)
    by true e = sym (ap is_eq (ap (λ w. order u w) ((bytes_decides t u).0 e) ∙ tied_itself nat_list_cmp_total u))
    by false e = sym (false_from_ne_true (is_eq (order u t)) (λ q. false≢true (sym e ∙ (bytes_decides t u).1 (sym (exact_bytes u t (equal (order u t) q))))))

-- few texts turn the answer over for those that they are
texts-turn : (a : Bool) (ts : List Text) (t : Text) → Rises order ts → answer_for (covers false order) a ts t ≡ (if is_one ts t then not a else a)
texts-turn a [] t rise = refl
texts-turn a (u ∷ us) t rise = by (texts-turn a us t rise.1) (is_same_text t u) refl
  where
    by : answer_for (covers false order) a us t ≡ (if is_one us t then not a else a) → (b : Bool) → is_same_text t u ≡ b → answer_for (covers false order) (if covers false order u t then not a else a) us t ≡ (if is_same_text t u || is_one us t then not a else a)
    by rest true e =
        (λ i. answer_for (covers false order) (if (sym (same-covers u t) ∙ e) i then not a else a) us t)
        ∙ answer-none (covers false order) (not a) us t (none-covers order nat_list_cmp_total false t us (subst (λ w. IsBelowAll order w us) (sym ((bytes_decides t u).0 e)) rise.0))
        ∙ sym (λ i. if e i || is_one us t then not a else a)
    by rest false e =
        (λ i. answer_for (covers false order) (if (sym (same-covers u t) ∙ e) i then not a else a) us t)
        ∙ rest
        ∙ sym (λ i. if e i || is_one us t then not a else a)

module _ (s : Simples) (canonical : IsCanonical s) (first all : List BasicSet) (h : HaveTogether (unstrung s) first) where
  pub few-IsSimpleType : (t : SemType) → s.rest ≡ false → all ≡ first ++ map StringOne s.texts → IsUnionOfSets all t → IsSimpleType (has_shape s) t
  few-IsSimpleType t few is u = record {
    names = u.names;
    simple = λ x v. u.holds (has_simple x) (λ a. false) refl ∙ ap (list_any (has_simple x)) is ∙ list_any-append (has_simple x) first (map StringOne s.texts) ∙ (λ i. h.simple x v i || texts-simple s.texts x i) ∙ same x;
    kinds = λ k mark atom. u.holds (has_kind k mark) atom refl ∙ ap (list_any (has_kind k mark)) is ∙ list_any-append (has_kind k mark) first (map StringOne s.texts) ∙ (λ i. h.kinds k mark i || none_of (has_kind k mark) (λ u. refl) s.texts i);
  }
    where
      turned : (b : Bool) → b ≡ (if b then true else false)
      turned true = refl
      turned false = refl

      same : (x : Shape) → (unstrung s x || of_texts s.texts x) ≡ has_shape s x
      same Nil = or-false s.nil
      same (BoolShape b) = or-false (if b then s.yes else s.no)
      same (Int i) = or-false (has_int s i)
      same (Str w) = turned (is_one s.texts w) ∙ sym (texts-turn false s.texts w canonical.texts_rise) ∙ sym (λ i. answer_for (covers false order) (few i) s.texts w)
      same (List' mark _ items) = refl
      same (Mapping' mark _ fields) = refl
      same (Error' _ detail) = refl
      same (Function isolated graph) = refl
      same (Future' _ results) = refl

  pub rest-IsSimpleType : (out : List BasicSet) (t : SemType) → s.rest ≡ true → all ≡ first ++ StringAll ∷ [] → out ≡ map StringOne s.texts → IsUnionWithout all out t → IsSimpleType (has_shape s) t
  rest-IsSimpleType out t rest is out_is u = record {
    names = u.names;
    simple = λ x v. u.holds (has_simple x) (λ a. false) refl
        ∙ (λ i. list_any (has_simple x) (is i) && not (list_any (has_simple x) (out_is i)))
        ∙ (λ i. list_any-append (has_simple x) first (StringAll ∷ []) i && not (texts-simple s.texts x i))
        ∙ (λ i. (h.simple x v i || or-false (has_simple x StringAll) i) && not (of_texts s.texts x))
        ∙ same x;
    kinds = λ k mark atom. u.holds (has_kind k mark) atom refl
        ∙ (λ i. list_any (has_kind k mark) (is i) && not (list_any (has_kind k mark) out))
        ∙ (λ i. (list_any-append (has_kind k mark) first (StringAll ∷ []) ∙ (λ j. h.kinds k mark j || false)) i && not (list_any (has_kind k mark) out));
  }
    where
      kept : (b : Bool) → ((b || false) && true) ≡ b
      kept true = refl
      kept false = refl

      turned : (b : Bool) → not b ≡ (if b then false else true)
      turned true = refl
      turned false = refl

      same : (x : Shape) → ((unstrung s x || has_simple x StringAll) && not (of_texts s.texts x)) ≡ has_shape s x
      same Nil = kept s.nil
      same (BoolShape b) = kept (if b then s.yes else s.no)
      same (Int i) = kept (has_int s i)
      same (Str w) = turned (is_one s.texts w) ∙ sym (texts-turn true s.texts w canonical.texts_rise) ∙ sym (λ i. answer_for (covers false order) (rest i) s.texts w)
      same (List' mark _ items) = refl
      same (Mapping' mark _ fields) = refl
      same (Error' _ detail) = refl
      same (Function isolated graph) = refl
      same (Future' _ results) = refl

-- a union without nothing
pub all-IsUnionWithout : (all : List BasicSet) (t : SemType) → IsUnionOfSets all t → IsUnionWithout all [] t
all-IsUnionWithout all t u = record { names = u.names; holds = λ basic atom e. u.holds basic atom e ∙ sym (and-true (list_any basic all)) }

-- over whatever atoms, the condition of the type
pub simple-AreOne : (c : Condition) (t : SemType) → IsSimpleType c.simple t → (env : List AtomDef) → AreOne (condition_of env t) (simple_alone c)
simple-AreOne c t is env = record { simple = λ x s v. is.simple x v; by_kind = λ k v. is.kinds k (v the_mark) (λ a. is_def_of k (slice_get env a) && v a) }
