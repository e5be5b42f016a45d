-- Kinds as they are written have the shapes of the kind.
use Rattle.std.proofs.Common.{◌≡◌, ◌⊎◌, ◌↔◌, ℕ, List, Option, Some, None, inl, inr, refl, sym, subst, true, false, IsSomeAnd, Result, Ok, Err, IfOk, arith}
use Rattle.std.specs.Prelude.{⊤}
use Rattle.std.proofs.lemmas.Int.{ints}
use Rattle.bal_base.specs.declared.shape.Shape.{Shape, Nil, Bool as BoolShape, Int, Str, List', Mapping', Error', Function, Future'}
use Rattle.bal_base.specs.declared.stop.Memory.{Memory as NoMemory}
use Rattle.bal_base.specs.Valid.{IsFrozen, IsMarkedMapping, IsValid}
use Rattle.operations.specs.declared.operation.Constant.{Constant}
use Rattle.operations.specs.declared.operation.Constant.TheVariants as constant
use Rattle.operations.specs.Kinds.{IsBoolean, IsInteger, IsNil}
use Rattle.operations.specs.Rows.{shape_of}
use Rattle.type_model.specs.declared.atoms.AtomDef.{AtomDef}
use Rattle.type_model.specs.declared.basic.BasicSet.{BasicSet}
use Rattle.type_model.specs.declared.basic.BasicSet.TheVariants as set
use Rattle.type_model.specs.declared.basic.SemType.{SemType, Basic, Or', And', Not'}
use Rattle.type_model.specs.Basic.{InBasic}
use Rattle.type_model.specs.Defined.{IsDefined, NamesBelow}
use Rattle.type_model.specs.Inclusion.{HasExactly}
use Rattle.type_model.specs.Membership.{In}
use Rattle.type_model.proofs.Same.{both, either, itself, neither}
use Rattle.code_needs.specs.declared.kind.Kind.{Kind}
use Rattle.code_needs.specs.declared.kind.Kind.TheVariants as kind
use Rattle.code_needs.specs.Needs.{IsOfKind}
use Rattle.code_verifier.specs.declared.sets.Sets.{Sets}
use Rattle.code_verifier.specs.declared.sets.Sets.TheVariants as sets
use Rattle.code_verifier.specs.declared.kind_types.KnownTypes.{KnownTypes}
use Rattle.code_verifier.specs.inner.Known.{known_of}
use Rattle.code_verifier.specs.KindSets.{AreKnown, IsAllBut, IsBoth, IsEither, IsInSets, IsKindType, IsReadonlyData, IsWritten, all_ints, constant_set, sets_of}

-- ---- single kinds

integer : (x : Shape) → IsValid x → InBasic x all_ints ↔ IsInteger x
integer (Int i) v = ((λ h. (i, refl)), (λ p. (v.0, v.1)))
integer Nil v = ((λ h. absurd h), (λ p. absurd (cc)))
integer (BoolShape b) v = ((λ h. absurd h), (λ p. absurd (cc)))
integer (Str t) v = ((λ h. absurd h), (λ p. absurd (cc)))
integer (List' m _ xs) v = ((λ h. absurd h), (λ p. absurd (cc)))
integer (Mapping' m _ xs) v = ((λ h. absurd h), (λ p. absurd (cc)))
integer (Error' _ d) v = ((λ h. absurd h), (λ p. absurd (cc)))
integer (Function i g) v = ((λ h. absurd h), (λ p. absurd (cc)))
integer (Future' _ xs) v = ((λ h. absurd h), (λ p. absurd (cc)))

-- a value's set has its shape alone
pub constant-back : (c : Constant) (x : Shape) → InBasic x (constant_set c) → x ≡ shape_of c
constant-back constant.Nil Nil h = refl
constant-back constant.Nil x h = absurd h
constant-back (constant.Bool c) (BoolShape b) h = cc
constant-back (constant.Bool c) x h = absurd h
constant-back (constant.Int j) (Int i) h = let e : i ≡ j = omega (arith, ints, h.0, h.1) in cc
constant-back (constant.Int j) x h = absurd h
constant-back (constant.Str u) (Str t) h = cc
constant-back (constant.Str u) x h = absurd h

nil : (x : Shape) → InBasic x set.Nil ↔ IsNil x
nil x = (constant-back constant.Nil x, (λ e. subst (λ y. InBasic y set.Nil) (sym e) tt))

truth : (x : Shape) → (InBasic x (set.Bool true) ⊎ InBasic x (set.Bool false)) ↔ IsBoolean x
truth x = (so, back)
  where
    so : InBasic x (set.Bool true) ⊎ InBasic x (set.Bool false) → IsBoolean x
    so (inl h) = (true, constant-back (constant.Bool true) x h)
    so (inr h) = (false, constant-back (constant.Bool false) x h)

    back : IsBoolean x → InBasic x (set.Bool true) ⊎ InBasic x (set.Bool false)
    back (true, e) = inl (subst (λ y. InBasic y (set.Bool true)) (sym e) refl)
    back (false, e) = inr (subst (λ y. InBasic y (set.Bool false)) (sym e) refl)

frozen : (x : Shape) → IsReadonlyData x ↔ IsFrozen x
frozen Nil = ((λ h. tt), (λ p. ((tt, (λ e. e)), (λ e. e))))
frozen (BoolShape b) = ((λ h. tt), (λ p. ((tt, (λ e. e)), (λ e. e))))
frozen (Int i) = ((λ h. tt), (λ p. ((tt, (λ e. e)), (λ e. e))))
frozen (Str t) = ((λ h. tt), (λ p. ((tt, (λ e. e)), (λ e. e))))
frozen (List' m _ xs) = ((λ h. h.0.0), (λ p. ((p, (λ e. e)), (λ e. e))))
frozen (Mapping' m _ xs) = ((λ h. h.0.0), (λ p. ((p, (λ e. e)), (λ e. e))))
frozen (Error' _ d) = ((λ h. absurd (h.0.1 tt)), (λ p. absurd p))
frozen (Function i g) = ((λ h. absurd (h.1 tt)), (λ p. absurd p))
frozen (Future' _ xs) = ((λ h. absurd h.0.0), (λ p. absurd p))

detail : (x : Shape) → (InBasic x set.MappingAll × InBasic x set.Readonly) ↔ IsMarkedMapping x
detail (Mapping' m _ xs) = ((λ h. h.1), (λ p. (tt, p)))
detail Nil = ((λ h. absurd h.0), (λ p. absurd p))
detail (BoolShape b) = ((λ h. absurd h.0), (λ p. absurd p))
detail (Int i) = ((λ h. absurd h.0), (λ p. absurd p))
detail (Str t) = ((λ h. absurd h.0), (λ p. absurd p))
detail (List' m _ xs) = ((λ h. absurd h.0), (λ p. absurd p))
detail (Error' _ d) = ((λ h. absurd h.0), (λ p. absurd p))
detail (Function i g) = ((λ h. absurd h.0), (λ p. absurd p))
detail (Future' _ xs) = ((λ h. absurd h.0), (λ p. absurd p))

-- ---- the same, of the same

then-same : {A B C : Type 0} → A ↔ B → B ↔ C → A ↔ C
then-same e f = ((λ a. f.0 (e.0 a)), (λ c. e.1 (f.1 c)))

-- some sets of the kind have its shapes
abbrev Has : Kind → Option Sets → Type 0
Has k (Some all) = (x : Shape) → IsValid x → IsInSets all x ↔ IsOfKind k x
Has k None = ⊤

in-kind : (k : Kind) → Has k (sets_of k)
in-kind kind.Nils = λ x v. nil x
in-kind kind.Booleans = λ x v. truth x
in-kind kind.Integers = λ x v. integer x v
in-kind kind.Strings = λ x v. itself
in-kind kind.Lists = λ x v. itself
in-kind kind.Mappings = λ x v. itself
in-kind kind.Errors = λ x v. itself
in-kind kind.Functions = λ x v. itself
in-kind kind.Futures = λ x v. itself
in-kind kind.ImmutableData = λ x v. frozen x
in-kind kind.Details = λ x v. detail x
in-kind kind.NilsOrErrors = λ x v. either (nil x) itself
in-kind kind.MappingsOrNils = λ x v. either itself (nil x)
in-kind kind.IntegersOrErrors = λ x v. either (integer x v) itself
in-kind kind.Anydata = tt
in-kind kind.Sendable = tt

-- ---- types that are written so

abbrev Is : BasicSet → SemType → Type 0
Is b t = t ≡ Basic b

module _ (env : List AtomDef) (x : Shape) where
  basic-shapes : (b : BasicSet) (t : SemType) → t ≡ Basic b → In env x t ↔ InBasic x b
  basic-shapes b t e = subst (λ u. In env x u ↔ InBasic x b) (sym e) itself

  pub all-but-shapes : (b : BasicSet) (t : SemType) → IsAllBut b t → In env x t ↔ (¬ (InBasic x b))
  all-but-shapes b (Not' _ t) e = neither (basic-shapes b t e)
  all-but-shapes b t e = absurd e

  either-shapes : {A B : Type 0} (P Q : SemType → Type 0) → ((s : SemType) → P s → In env x s ↔ A) → ((s : SemType) → Q s → In env x s ↔ B) → (t : SemType) → IsEither P Q t → In env x t ↔ (A ⊎ B)
  either-shapes P Q f g (Or' _ s _ t) h = either (f s h.0) (g t h.1)
  either-shapes P Q f g t h = absurd h

  pub both-shapes : {A B : Type 0} (P Q : SemType → Type 0) → ((s : SemType) → P s → In env x s ↔ A) → ((s : SemType) → Q s → In env x s ↔ B) → (t : SemType) → IsBoth P Q t → In env x t ↔ (A × B)
  both-shapes P Q f g (And' _ s _ t) h = both (f s h.0) (g t h.1)
  both-shapes P Q f g t h = absurd h

  written-shapes : (all : Sets) (t : SemType) → IsWritten all t → In env x t ↔ IsInSets all x
  written-shapes (sets.One b) t e = basic-shapes b t e
  written-shapes (sets.Either b c) t h = either-shapes (Is b) (Is c) (basic-shapes b) (basic-shapes c) t h
  written-shapes (sets.Both b c) t h = both-shapes (Is b) (Is c) (basic-shapes b) (basic-shapes c) t h
  written-shapes sets.Frozen t h =
      both-shapes (IsBoth (Is set.Readonly) (IsAllBut set.ErrorAll)) (IsAllBut set.FunctionAll)
      (both-shapes (Is set.Readonly) (IsAllBut set.ErrorAll) (basic-shapes set.Readonly) (all-but-shapes set.ErrorAll)) (all-but-shapes set.FunctionAll) t h

module _ (n : ℕ) where
  basic-below : (b : BasicSet) (t : SemType) → t ≡ Basic b → NamesBelow n t
  basic-below b t e = subst (NamesBelow n) (sym e) tt

  pub all-but-below : (b : BasicSet) (t : SemType) → IsAllBut b t → NamesBelow n t
  all-but-below b (Not' _ t) e = basic-below b t e
  all-but-below b t e = absurd e

  either-below : (P Q : SemType → Type 0) → ((s : SemType) → P s → NamesBelow n s) → ((s : SemType) → Q s → NamesBelow n s) → (t : SemType) → IsEither P Q t → NamesBelow n t
  either-below P Q f g (Or' _ s _ t) h = (f s h.0, g t h.1)
  either-below P Q f g t h = absurd h

  pub both-below : (P Q : SemType → Type 0) → ((s : SemType) → P s → NamesBelow n s) → ((s : SemType) → Q s → NamesBelow n s) → (t : SemType) → IsBoth P Q t → NamesBelow n t
  both-below P Q f g (And' _ s _ t) h = (f s h.0, g t h.1)
  both-below P Q f g t h = absurd h

  pub written-below : (all : Sets) (t : SemType) → IsWritten all t → NamesBelow n t
  written-below (sets.One b) t e = basic-below b t e
  written-below (sets.Either b c) t h = either-below (Is b) (Is c) (basic-below b) (basic-below c) t h
  written-below (sets.Both b c) t h = both-below (Is b) (Is c) (basic-below b) (basic-below c) t h
  written-below sets.Frozen t h =
      both-below (IsBoth (Is set.Readonly) (IsAllBut set.ErrorAll)) (IsAllBut set.FunctionAll)
      (both-below (Is set.Readonly) (IsAllBut set.ErrorAll) (basic-below set.Readonly) (all-but-below set.ErrorAll)) (all-but-below set.FunctionAll) t h

pub sets-exactly : (env : List AtomDef) (k : Kind) (all : Sets) (t : SemType) → sets_of k ≡ Some all → IsWritten all t → HasExactly env t (IsOfKind k)
sets-exactly env k all t e h x v = then-same (written-shapes env x all t h) (subst (Has k) e (in-kind k) x v)

-- the known types have the shapes of the other kinds
pub known-exactly : (env : List AtomDef) (known : KnownTypes) (k : Kind) → AreKnown env known → sets_of k ≡ None → HasExactly env (known_of known k) (IsOfKind k)
known-exactly env known kind.Anydata are e = are.anydata
known-exactly env known kind.Sendable are e = are.sendable
known-exactly env known k are e = absurd (let q : ⊥ = cc in q)

pub known-defined : (env : List AtomDef) (known : KnownTypes) (k : Kind) → AreKnown env known → IsDefined env (known_of known k)
known-defined env known kind.Sendable are = are.sendable_defined
known-defined env known k are = are.anydata_defined

-- so the kind is asked about
pub as-written : (known : KnownTypes) (k : Kind) (all : Sets) → sets_of k ≡ Some all → (t : SemType) → IsWritten all t → IsKindType known k t
as-written known k all e t h = inl (subst (λ o. IsSomeAnd o (λ s. IsWritten s t)) (sym e) h)

pub as-known : (known : KnownTypes) (k : Kind) → sets_of k ≡ None → (t : SemType) → t ≡ known_of known k → IsKindType known k t
as-known known kind.Anydata e t is = inr is
as-known known kind.Sendable e t is = inr is
as-known known k e t is = absurd (let q : ⊥ = cc in q)

-- ---- constants

pub constant-own : (c : Constant) → InBasic (shape_of c) (constant_set c)
constant-own constant.Nil = tt
constant-own (constant.Bool b) = refl
constant-own (constant.Int i) = (omega (arith, ints), omega (arith, ints))
constant-own (constant.Str t) = refl

pub constant-exactly : (env : List AtomDef) (c : Constant) → HasExactly env (Basic (constant_set c)) (λ x. x ≡ shape_of c)
constant-exactly env c x v = (constant-back c x, (λ e. subst (λ y. InBasic y (constant_set c)) (sym e) (constant-own c)))

-- ints
pub ints-exactly : (env : List AtomDef) → HasExactly env (Basic all_ints) IsInteger
ints-exactly env x v = integer x v

-- ---- what calls write

pub so-written : (b : Sets) (all : Sets) (r : Result SemType NoMemory) → all ≡ b → IfOk r (IsWritten b) → IfOk r (IsWritten all)
so-written b all r e h = subst (λ s. IfOk r (IsWritten s)) (sym e) h

pub frozen-given : (s : SemType) (r : Result SemType NoMemory) → IsBoth (Is set.Readonly) (IsAllBut set.ErrorAll) s → IfOk r (IsBoth (λ t. t ≡ s) (IsAllBut set.FunctionAll)) → IfOk r (IsWritten sets.Frozen)
frozen-given s (Ok (And' _ a _ b)) given h = (subst (IsBoth (Is set.Readonly) (IsAllBut set.ErrorAll)) (sym h.0) given, h.1)
frozen-given s (Ok t) given h = absurd h
frozen-given s (Err m) given h = tt
