-- Membership of simple shapes is the simple part of the type's condition.
use Rattle.std.proofs.Common.{◌≡◌, ◌↔◌, ◌≤ℤ◌, ◌<ℤ◌, ℤ, List, Bool, true, false, Option, Some, None, IsSomeAnd, slice_get, refl, sym, arith}
use Rattle.std.proofs.lemmas.Bool.{false≢true}
use Rattle.std.specs.Cmp.Lexicographic.{bytes_decides}
use Rattle.std.specs.declared.cmp.Ordering.{Ordering}
use Rattle.std.specs.declared.cmp.Ordering.TheVariants.{Less, Equal, Greater}
use Rattle.std.specs.Ordering.{int_cmp, is_le, MatchOrdering}
use Rattle.std.specs.Cmp.{int_ranks}
use Rattle.std.proofs.lemmas.Int.{ints}
use Rattle.bal_base.specs.declared.text.Text.{Text}
use Rattle.bal_base.specs.declared.shape.Shape.{Shape, Nil, Bool as BoolShape, Int, Str, List', Mapping', Error', Function, Future'}
use Rattle.type_model.specs.declared.basic.BasicSet.{BasicSet}
use Rattle.type_model.specs.declared.basic.BasicSet.TheVariants.{Nil as NilOnly, Bool as BoolOne, IntRange, StringOne, StringAll, ListAll, MappingAll, ErrorAll, FunctionAll, FutureAll, Readonly, Never}
use Rattle.type_model.specs.declared.basic.SemType.{SemType}
use Rattle.type_model.specs.declared.atoms.AtomDef.{AtomDef}
use Rattle.type_model.specs.Basic.{InBasic}
use Rattle.type_model.specs.Places.{is_same_text}
use Rattle.type_model.specs.Membership.{In, Fits}
use Rattle.type_diagrams.specs.Simple.{is_bool}
use Rattle.type_diagrams.specs.Kinds.{IsSimple}
use Rattle.type_diagrams.specs.Conditions.{has_simple, condition_of}
use Rattle.type_diagrams.proofs.Truths.{neither, sure, and_true, truth-Holds}

pub le_true : (m n : ℤ) → (m ≤ℤ n) ↔ (is_le (int_cmp m n) ≡ true)
le_true m n = by (int_cmp m n) (int_ranks m n)
  where
    by : (o : Ordering) → MatchOrdering o (m <ℤ n) (m ≡ n) (n <ℤ m) → (m ≤ℤ n) ↔ (is_le o ≡ true)
    by Less r = (λ _. refl, λ _. omega (arith, ints, r))
    by Equal r = (λ _. refl, λ _. omega (arith, ints, r))
    by Greater r = (λ h. absurd (omega (arith, ints, r, h)), λ h. absurd (false≢true h))

bool_case : (b c : Bool) → (b ≡ c) ↔ (is_bool c b ≡ true)
bool_case true true = sure refl
bool_case true false = (λ h. absurd (false≢true (sym h)), λ h. absurd (false≢true h))
bool_case false true = (λ h. absurd (false≢true h), λ h. absurd (false≢true h))
bool_case false false = sure refl

text_case : (t u : Text) → (t ≡ u) ↔ (is_same_text t u ≡ true)
text_case t u = ((bytes_decides t u).1, (bytes_decides t u).0)

simple_case : (x : Shape) → IsSimple x → (b : BasicSet) → InBasic x b ↔ (has_simple x b ≡ true)
simple_case Nil is NilOnly = sure tt
simple_case Nil is (BoolOne c) = neither
simple_case Nil is (IntRange low high) = neither
simple_case Nil is (StringOne u) = neither
simple_case Nil is StringAll = neither
simple_case Nil is ListAll = neither
simple_case Nil is MappingAll = neither
simple_case Nil is ErrorAll = neither
simple_case Nil is FunctionAll = neither
simple_case Nil is FutureAll = neither
simple_case Nil is Readonly = sure tt
simple_case Nil is Never = neither
simple_case (BoolShape b) is NilOnly = neither
simple_case (BoolShape b) is (BoolOne c) = bool_case b c
simple_case (BoolShape b) is (IntRange low high) = neither
simple_case (BoolShape b) is (StringOne u) = neither
simple_case (BoolShape b) is StringAll = neither
simple_case (BoolShape b) is ListAll = neither
simple_case (BoolShape b) is MappingAll = neither
simple_case (BoolShape b) is ErrorAll = neither
simple_case (BoolShape b) is FunctionAll = neither
simple_case (BoolShape b) is FutureAll = neither
simple_case (BoolShape b) is Readonly = sure tt
simple_case (BoolShape b) is Never = neither
simple_case (Int i) is NilOnly = neither
simple_case (Int i) is (BoolOne c) = neither
simple_case (Int i) is (IntRange low high) = and_true (is_le (int_cmp low i)) (is_le (int_cmp i high)) (le_true low i) (le_true i high)
simple_case (Int i) is (StringOne u) = neither
simple_case (Int i) is StringAll = neither
simple_case (Int i) is ListAll = neither
simple_case (Int i) is MappingAll = neither
simple_case (Int i) is ErrorAll = neither
simple_case (Int i) is FunctionAll = neither
simple_case (Int i) is FutureAll = neither
simple_case (Int i) is Readonly = sure tt
simple_case (Int i) is Never = neither
simple_case (Str t) is NilOnly = neither
simple_case (Str t) is (BoolOne c) = neither
simple_case (Str t) is (IntRange low high) = neither
simple_case (Str t) is (StringOne u) = text_case t u
simple_case (Str t) is StringAll = sure tt
simple_case (Str t) is ListAll = neither
simple_case (Str t) is MappingAll = neither
simple_case (Str t) is ErrorAll = neither
simple_case (Str t) is FunctionAll = neither
simple_case (Str t) is FutureAll = neither
simple_case (Str t) is Readonly = sure tt
simple_case (Str t) is Never = neither
simple_case (List' mark _ items) is b = cc
simple_case (Mapping' mark _ fields) is b = cc
simple_case (Error' _ detail) is b = cc
simple_case (Function isolated graph) is b = cc
simple_case (Future' _ results) is b = cc

-- no simple shape fits the definition of an atom
simple_fits : (env : List AtomDef) (x : Shape) → IsSimple x → (o : Option AtomDef) → IsSomeAnd o (Fits env x) ↔ (false ≡ true)
simple_fits env x is None = neither
simple_fits env Nil is (Some d) = neither
simple_fits env (BoolShape b) is (Some d) = neither
simple_fits env (Int i) is (Some d) = neither
simple_fits env (Str t) is (Some d) = neither
simple_fits env (List' mark _ items) is (Some d) = cc
simple_fits env (Mapping' mark _ fields) is (Some d) = cc
simple_fits env (Error' _ detail) is (Some d) = cc
simple_fits env (Function isolated graph) is (Some d) = cc
simple_fits env (Future' _ results) is (Some d) = cc

pub In-simple : (env : List AtomDef) (x : Shape) → IsSimple x → (t : SemType) → In env x t ↔ ((condition_of env t).simple x ≡ true)
In-simple env x is t =
    truth-Holds _ _ (has_simple x) (λ a. false) (simple_case x is) (λ a. simple_fits env x is (slice_get env a)) t
