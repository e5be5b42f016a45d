-- Which shapes types have that are put together of others.
use Rattle.std.proofs.Common.{◌≡◌, ◌⊎◌, ◌↔◌, ◌<◌, ℕ, List, true, false, Result, Ok, Err, IfOk, ⊎_elim, inl, inr, refl, sym, subst, arith}
use Rattle.std.proofs.lemmas.Int.{ints}
use Rattle.std.proofs.lemmas.List.Elements.{All-nil}
use Rattle.bal_base.specs.declared.shape.Shape.{Shape, Nil, Bool as BoolShape, Int, Str, List', Mapping', Error', Function, Future'}
use Rattle.bal_base.specs.declared.stop.Memory.{Memory as NoMemory}
use Rattle.bal_base.specs.Valid.{IsFrozen, IsMarkedMapping, IsValid}
use Rattle.descriptors.specs.Described.{IsPlain, plain}
use Rattle.operations.specs.declared.operation.Constant.{Constant}
use Rattle.operations.specs.declared.operation.Constant.TheVariants as constant
use Rattle.operations.specs.Kinds.{IsError, IsInteger}
use Rattle.operations.specs.Rows.{shape_of}
use Rattle.operations.specs.Structures.{IsMade}
use Rattle.type_model.specs.declared.atoms.AtomDef.{AtomDef}
use Rattle.type_model.specs.declared.basic.BasicSet.{BasicSet}
use Rattle.type_model.specs.declared.basic.BasicSet.TheVariants as set
use Rattle.type_model.specs.declared.basic.SemType.{SemType, Atom, Basic}
use Rattle.type_model.specs.declared.basic.Ty.{Ty}
use Rattle.type_model.specs.Basic.{InBasic}
use Rattle.type_model.specs.Defined.{NamesBelow, TyBelow}
use Rattle.type_model.specs.Inclusion.{HasExactly}
use Rattle.type_model.specs.Membership.{In}
use Rattle.type_model.specs.SameType.{IsSameType}
use Rattle.type_model.proofs.Same.{both, either, itself}
use Rattle.type_model.proofs.SameTypes.{In-same, NamesBelow-same}
use Rattle.check_words.specs.Values.{SingleOf}
use Rattle.check_kinds.specs.Sets.{all_ints, constant_set}
use Rattle.check_kinds.proofs.KindSets.{integer, then-same}

swapped : {A B : Type 0} → A ↔ B → B ↔ A
swapped e = (e.1, e.0)

-- ---- copies of two types, put together

module _ (env : List AtomDef) (x : Shape) (s t a b : SemType) (left : IsSameType s a) (right : IsSameType t b) where
  pub either-of-copies : (In env x a ⊎ In env x b) ↔ (In env x s ⊎ In env x t)
  either-of-copies = either (swapped (In-same env x s a left)) (swapped (In-same env x t b right))

  pub both-of-copies : (In env x a × In env x b) ↔ (In env x s × In env x t)
  both-of-copies = both (swapped (In-same env x s a left)) (swapped (In-same env x t b right))

-- either of two, the other way round
pub turned : {A B C D : Type 0} → A ↔ B → C ↔ D → (A ⊎ C) ↔ (D ⊎ B)
turned {A} {B} {C} {D} e f = (
  ⊎_elim (λ (a : A). inr (e.0 a)) (λ (c : C). inl (f.0 c)),
  ⊎_elim (λ (d : D). inr (f.1 d)) (λ (b : B). inl (e.1 b)),
)

-- the same of a copy of a type
pub copy-in : (env : List AtomDef) (x : Shape) (t b : SemType) → IsSameType t b → In env x b ↔ In env x t
copy-in env x t b same = swapped (In-same env x t b same)

module _ (s a : SemType) where
  pub copy-in-set : (b : BasicSet) (r : Result SemType NoMemory) → IsSameType s a → IfOk r (λ u. (env : List AtomDef) (x : Shape) → In env x u ↔ (In env x a × InBasic x b))
      → IfOk r (λ u. (env : List AtomDef) (x : Shape) → In env x u ↔ (In env x s × InBasic x b))
  copy-in-set b (Ok u) same h = λ env x. then-same (h env x) (both (copy-in env x s a same) itself)
  copy-in-set b (Err m) same h = tt

  pub copy-below : (r : Result SemType NoMemory) → IsSameType s a → IfOk r (λ u. (n : ℕ) → NamesBelow n a → NamesBelow n u) → IfOk r (λ u. (n : ℕ) → NamesBelow n s → NamesBelow n u)
  copy-below (Ok u) same h = λ n below. h n (NamesBelow-same n s a same below)
  copy-below (Err m) same h = tt

-- ---- written anew

pub written-as : (env : List AtomDef) (u : SemType) (P : Shape → Type 0) (r : Result Ty NoMemory) → ((x : Shape) → In env x u ↔ P x)
    → IfOk r (IsPlain (λ x. In env x u) env) → IfOk r (IsPlain P env)
written-as env u P (Ok t) same is = record { shapes = λ x v. then-same (is.shapes x v) (same x); lists = is.lists; maps = is.maps }
written-as env u P (Err m) same is = tt

pub plain-is : (env : List AtomDef) (u : SemType) (P : Shape → Type 0) → HasExactly env u P → IsPlain P env (plain u)
plain-is env u P same = record { shapes = same; lists = refl; maps = refl }

pub plain-below : (n : ℕ) (u : SemType) → NamesBelow n u → TyBelow n (plain u)
plain-below n u h = (h, All-nil _, All-nil _)

-- ---- immutable values

frozen-set : (x : Shape) → ((InBasic x set.Readonly × (¬ InBasic x set.ErrorAll)) × (¬ InBasic x set.FunctionAll)) ↔ IsFrozen x
frozen-set Nil = (λ h. tt, λ p. ((tt, λ e. e), λ e. e))
frozen-set (BoolShape b) = (λ h. tt, λ p. ((tt, λ e. e), λ e. e))
frozen-set (Int i) = (λ h. tt, λ p. ((tt, λ e. e), λ e. e))
frozen-set (Str t) = (λ h. tt, λ p. ((tt, λ e. e), λ e. e))
frozen-set (List' m _ xs) = (λ h. h.0.0, λ p. ((p, λ e. e), λ e. e))
frozen-set (Mapping' m _ xs) = (λ h. h.0.0, λ p. ((p, λ e. e), λ e. e))
frozen-set (Error' _ d) = (λ h. absurd (h.0.1 tt), λ p. absurd p)
frozen-set (Function i g) = (λ h. absurd (h.1 tt), λ p. absurd p)
frozen-set (Future' _ xs) = (λ h. absurd h.0.0, λ p. absurd p)

module _ (s : SemType) where
  pub frozen-given : (r : Result SemType NoMemory) → ((env : List AtomDef) (x : Shape) → In env x s ↔ (InBasic x set.Readonly × (¬ InBasic x set.ErrorAll)))
      → IfOk r (λ t. (env : List AtomDef) (x : Shape) → In env x t ↔ (In env x s × (¬ InBasic x set.FunctionAll))) → IfOk r (λ t. (env : List AtomDef) → HasExactly env t IsFrozen)
  frozen-given (Ok t) first second = λ env x v. then-same (second env x) (then-same (both (first env x) itself) (frozen-set x))
  frozen-given (Err m) first second = tt

  pub below-given : (r : Result SemType NoMemory) → ((n : ℕ) → NamesBelow n s) → IfOk r (λ t. (n : ℕ) → NamesBelow n s → NamesBelow n t) → IfOk r (λ t. (n : ℕ) → NamesBelow n t)
  below-given (Ok t) first second = λ n. second n (first n)
  below-given (Err m) first second = tt

pub detail-set : (x : Shape) → (InBasic x set.MappingAll × InBasic x set.Readonly) ↔ IsMarkedMapping x
detail-set Nil = (λ h. absurd h.0, λ p. absurd p)
detail-set (BoolShape b) = (λ h. absurd h.0, λ p. absurd p)
detail-set (Int i) = (λ h. absurd h.0, λ p. absurd p)
detail-set (Str t) = (λ h. absurd h.0, λ p. absurd p)
detail-set (List' m _ xs) = (λ h. absurd h.0, λ p. absurd p)
detail-set (Mapping' m _ xs) = (λ h. h.1, λ p. (tt, p))
detail-set (Error' _ d) = (λ h. absurd h.0, λ p. absurd p)
detail-set (Function i g) = (λ h. absurd h.0, λ p. absurd p)
detail-set (Future' _ xs) = (λ h. absurd h.0, λ p. absurd p)

pub int_or_error-set : (x : Shape) → IsValid x → (InBasic x all_ints ⊎ InBasic x set.ErrorAll) ↔ (IsInteger x ⊎ IsError x)
int_or_error-set x v = either (integer x v) itself

-- ---- what an atom makes

module _ (env : List AtomDef) (atom : ℕ) where
  made-mutable : (x : Shape) → In env x (Atom atom) ↔ IsMade env atom false x
  made-mutable x = (λ h. (h, λ e. absurd (cc)), λ p. p.0)

  pub made-immutable : (x : Shape) → (In env x (Atom atom) × InBasic x set.Readonly) ↔ IsMade env atom true x
  made-immutable x = (λ h. (h.0, λ e. h.1), λ p. (p.0, p.1 refl))

  mutable : (t : Ty) → t ≡ plain (Atom atom) → IsPlain (IsMade env atom false) env t
  mutable t e = subst (λ (u : Ty). IsPlain (IsMade env atom false) env u) (sym e) (plain-is env (Atom atom) (IsMade env atom false) (λ x v. made-mutable x))

pub mutable-made : (atom : ℕ) (t : Ty) → t ≡ plain (Atom atom) → (env : List AtomDef) → IsPlain (IsMade env atom false) env t
mutable-made atom t e env = mutable env atom t e

pub mutable-below : (atom : ℕ) (t : Ty) → t ≡ plain (Atom atom) → (n : ℕ) → atom < n → TyBelow n t
mutable-below atom t e n lt = subst (TyBelow n) (sym e) (plain-below n (Atom atom) lt)

pub ruleset made = (mutable-made, mutable-below)

-- ---- single values

pub single-set : (c : Constant) (x : Shape) → InBasic x (constant_set c) ↔ (x ≡ shape_of c)
single-set constant.Nil Nil = (λ h. refl, λ e. tt)
single-set constant.Nil (BoolShape b) = (λ h. absurd h, λ e. absurd (cc))
single-set constant.Nil (Int i) = (λ h. absurd h, λ e. absurd (cc))
single-set constant.Nil (Str t) = (λ h. absurd h, λ e. absurd (cc))
single-set constant.Nil (List' m _ xs) = (λ h. absurd h, λ e. absurd (cc))
single-set constant.Nil (Mapping' m _ xs) = (λ h. absurd h, λ e. absurd (cc))
single-set constant.Nil (Error' _ d) = (λ h. absurd h, λ e. absurd (cc))
single-set constant.Nil (Function i g) = (λ h. absurd h, λ e. absurd (cc))
single-set constant.Nil (Future' _ xs) = (λ h. absurd h, λ e. absurd (cc))
single-set (constant.Bool c) (BoolShape b) = (λ h. cc, λ e. cc)
single-set (constant.Bool c) Nil = (λ h. absurd h, λ e. absurd (cc))
single-set (constant.Bool c) (Int i) = (λ h. absurd h, λ e. absurd (cc))
single-set (constant.Bool c) (Str t) = (λ h. absurd h, λ e. absurd (cc))
single-set (constant.Bool c) (List' m _ xs) = (λ h. absurd h, λ e. absurd (cc))
single-set (constant.Bool c) (Mapping' m _ xs) = (λ h. absurd h, λ e. absurd (cc))
single-set (constant.Bool c) (Error' _ d) = (λ h. absurd h, λ e. absurd (cc))
single-set (constant.Bool c) (Function i g) = (λ h. absurd h, λ e. absurd (cc))
single-set (constant.Bool c) (Future' _ xs) = (λ h. absurd h, λ e. absurd (cc))
single-set (constant.Int c) (Int i) = (λ h. let e : i ≡ c = omega (arith, ints, h.0, h.1) in cc, λ e. let f : i ≡ c = cc in (omega (arith, ints, f), omega (arith, ints, f)))
single-set (constant.Int c) Nil = (λ h. absurd h, λ e. absurd (cc))
single-set (constant.Int c) (BoolShape b) = (λ h. absurd h, λ e. absurd (cc))
single-set (constant.Int c) (Str t) = (λ h. absurd h, λ e. absurd (cc))
single-set (constant.Int c) (List' m _ xs) = (λ h. absurd h, λ e. absurd (cc))
single-set (constant.Int c) (Mapping' m _ xs) = (λ h. absurd h, λ e. absurd (cc))
single-set (constant.Int c) (Error' _ d) = (λ h. absurd h, λ e. absurd (cc))
single-set (constant.Int c) (Function i g) = (λ h. absurd h, λ e. absurd (cc))
single-set (constant.Int c) (Future' _ xs) = (λ h. absurd h, λ e. absurd (cc))
single-set (constant.Str c) (Str t) = (λ h. cc, λ e. cc)
single-set (constant.Str c) Nil = (λ h. absurd h, λ e. absurd (cc))
single-set (constant.Str c) (BoolShape b) = (λ h. absurd h, λ e. absurd (cc))
single-set (constant.Str c) (Int i) = (λ h. absurd h, λ e. absurd (cc))
single-set (constant.Str c) (List' m _ xs) = (λ h. absurd h, λ e. absurd (cc))
single-set (constant.Str c) (Mapping' m _ xs) = (λ h. absurd h, λ e. absurd (cc))
single-set (constant.Str c) (Error' _ d) = (λ h. absurd h, λ e. absurd (cc))
single-set (constant.Str c) (Function i g) = (λ h. absurd h, λ e. absurd (cc))
single-set (constant.Str c) (Future' _ xs) = (λ h. absurd h, λ e. absurd (cc))

pub single-of : (c : Constant) (t : Ty) → t ≡ plain (Basic (constant_set c)) → (env : List AtomDef) → SingleOf c env t
single-of c t e env = subst (λ (u : Ty). SingleOf c env u) (sym e) (plain-is env _ _ (λ x v. single-set c x))

pub single-below : (c : Constant) (t : Ty) → t ≡ plain (Basic (constant_set c)) → (n : ℕ) → TyBelow n t
single-below c t e n = subst (TyBelow n) (sym e) (plain-below n (Basic (constant_set c)) tt)
