-- Kinds as types have the shapes of the kind.
use Rattle.std.proofs.Common.{◌≡◌, ◌⊎◌, ◌↔◌, ℕ, List, inl, inr, refl, sym, subst, true, false, length, Result, Ok, Err, IfOk}
use Rattle.std.proofs.lemmas.List.Elements.{All-nil}
use Rattle.bal_base.specs.declared.shape.Shape.{Shape, Nil, Bool as BoolShape, Int, Str, List', Mapping', Error', Function, Future'}
use Rattle.bal_base.specs.declared.stop.Memory.{Memory as NoMemory}
use Rattle.bal_base.specs.Valid.{IsValid}
use Rattle.descriptors.specs.declared.names.OwnTypes.{OwnTypes}
use Rattle.descriptors.specs.Described.{plain}
use Rattle.descriptors.specs.Steps.{AreOwnTypes}
use Rattle.flow_narrowing.specs.Asked.{IsEither}
use Rattle.operations.specs.Kinds.{IsBoolean, IsInteger, IsNil}
use Rattle.type_model.specs.declared.atoms.AtomDef.{AtomDef}
use Rattle.type_model.specs.declared.basic.BasicSet.{BasicSet}
use Rattle.type_model.specs.declared.basic.BasicSet.TheVariants as set
use Rattle.type_model.specs.declared.basic.SemType.{SemType, Basic, Or'}
use Rattle.type_model.specs.declared.basic.Ty.{Ty}
use Rattle.type_model.specs.Basic.{InBasic}
use Rattle.type_model.specs.Defined.{NamesBelow, TyBelow}
use Rattle.type_model.specs.Inclusion.{HasExactly}
use Rattle.type_model.specs.Membership.{In}
use Rattle.type_model.specs.SameType.{IsSameType}
use Rattle.type_model.proofs.Same.{either, itself}
use Rattle.type_model.proofs.SameTypes.{In-same, NamesBelow-same}
use Rattle.expr_needs.specs.declared.kind.Kind.{Kind}
use Rattle.expr_needs.specs.declared.kind.Kind.TheVariants as kind
use Rattle.check_words.specs.Kinds.{IsOfKind, IsWrittenSo, is_simple}
use Rattle.check_words.specs.Words.{OfKind}
use Rattle.check_kinds.specs.declared.sets.Sets.{Sets}
use Rattle.check_kinds.specs.declared.sets.Sets.TheVariants as sets
use Rattle.check_kinds.specs.Sets.{IsInSets, IsWritten, all_ints, sets_of}

-- ---- single kinds

pub integer : (x : Shape) → IsValid x → InBasic x all_ints ↔ IsInteger x
integer (Int i) v = (λ h. (i, refl), λ p. (v.0, v.1))
integer Nil v = (λ h. absurd h, λ p. absurd (cc))
integer (BoolShape b) v = (λ h. absurd h, λ p. absurd (cc))
integer (Str t) v = (λ h. absurd h, λ p. absurd (cc))
integer (List' m _ xs) v = (λ h. absurd h, λ p. absurd (cc))
integer (Mapping' m _ xs) v = (λ h. absurd h, λ p. absurd (cc))
integer (Error' _ d) v = (λ h. absurd h, λ p. absurd (cc))
integer (Function i g) v = (λ h. absurd h, λ p. absurd (cc))
integer (Future' _ xs) v = (λ h. absurd h, λ p. absurd (cc))

pub nil : (x : Shape) → InBasic x set.Nil ↔ IsNil x
nil Nil = (λ h. refl, λ p. tt)
nil (Int i) = (λ h. absurd h, λ p. absurd (cc))
nil (BoolShape b) = (λ h. absurd h, λ p. absurd (cc))
nil (Str t) = (λ h. absurd h, λ p. absurd (cc))
nil (List' m _ xs) = (λ h. absurd h, λ p. absurd (cc))
nil (Mapping' m _ xs) = (λ h. absurd h, λ p. absurd (cc))
nil (Error' _ d) = (λ h. absurd h, λ p. absurd (cc))
nil (Function i g) = (λ h. absurd h, λ p. absurd (cc))
nil (Future' _ xs) = (λ h. absurd h, λ p. absurd (cc))

neither : ⊥ ⊎ ⊥ → ⊥
neither (inl h) = h
neither (inr h) = h

truth : (x : Shape) → (InBasic x (set.Bool true) ⊎ InBasic x (set.Bool false)) ↔ IsBoolean x
truth (BoolShape true) = (λ h. (true, refl), λ p. inl refl)
truth (BoolShape false) = (λ h. (false, refl), λ p. inr refl)
truth Nil = (λ h. absurd (neither h), λ p. absurd (cc))
truth (Int i) = (λ h. absurd (neither h), λ p. absurd (cc))
truth (Str t) = (λ h. absurd (neither h), λ p. absurd (cc))
truth (List' m _ xs) = (λ h. absurd (neither h), λ p. absurd (cc))
truth (Mapping' m _ xs) = (λ h. absurd (neither h), λ p. absurd (cc))
truth (Error' _ d) = (λ h. absurd (neither h), λ p. absurd (cc))
truth (Function i g) = (λ h. absurd (neither h), λ p. absurd (cc))
truth (Future' _ xs) = (λ h. absurd (neither h), λ p. absurd (cc))

in-kind : (k : Kind) (x : Shape) → IsValid x → IsInSets (sets_of k) x ↔ IsOfKind k x
in-kind kind.Integer x v = integer x v
in-kind kind.Text x v = itself
in-kind kind.IntOrText x v = either (integer x v) itself
in-kind kind.Truth x v = truth x
in-kind kind.Nothing x v = nil x
in-kind kind.Anydata x v = itself
in-kind kind.Sendable x v = itself
in-kind kind.AnyList x v = itself
in-kind kind.AnyMapping x v = itself
in-kind kind.MappingOrNil x v = either itself (nil x)
in-kind kind.AnyFunction x v = itself
in-kind kind.AnyError x v = itself
in-kind kind.ErrorOrNil x v = either itself (nil x)
in-kind kind.AnyFuture x v = itself

-- ---- as they are written

pub then-same : {A B C : Type 0} → A ↔ B → B ↔ C → A ↔ C
then-same e f = (λ a. f.0 (e.0 a), λ c. e.1 (f.1 c))

module _ (env : List AtomDef) (x : Shape) where
  is-basic : (b : BasicSet) (t : SemType) → t ≡ Basic b → In env x t ↔ InBasic x b
  is-basic b t e = subst (λ u. In env x u ↔ InBasic x b) (sym e) itself

  two-in : (b c : BasicSet) (t : SemType) → IsEither (λ s. s ≡ Basic b) (λ s. s ≡ Basic c) t → In env x t ↔ (InBasic x b ⊎ InBasic x c)
  two-in b c (Or' _ s _ t) h = either (is-basic b s h.0) (is-basic c t h.1)
  two-in b c _ h = absurd h

  same-or : (P : Type 0) (d : SemType) (b : BasicSet) (t : SemType) → In env x d ↔ P → IsEither (IsSameType d) (λ s. s ≡ Basic b) t → In env x t ↔ (P ⊎ InBasic x b)
  same-or P d b (Or' _ s _ t) is h = either (then-same (swapped (In-same env x d s h.0)) is) (is-basic b t h.1)
    where
      swapped : {A B : Type 0} → A ↔ B → B ↔ A
      swapped e = (e.1, e.0)
  same-or P d b _ is h = absurd h

module _ (env : List AtomDef) (own : OwnTypes) (are : AreOwnTypes env own) where
  written-in : (s : Sets) (t : SemType) → IsWritten own s t → HasExactly env t (IsInSets s)
  written-in (sets.One b) t h x v = is-basic env x b t h
  written-in (sets.Two b c) t h x v = two-in env x b c t h
  written-in sets.Data t h x v = (λ i. (are.anydata.shapes x v).0 ((In-same env x own.anydata.sem t h).1 i), λ a. (In-same env x own.anydata.sem t h).0 ((are.anydata.shapes x v).1 a))
  written-in (sets.DataOr b) t h x v = same-or env x _ own.anydata.sem b t (are.anydata.shapes x v) h

module _ (n : ℕ) where
  basic-below : (b : BasicSet) (t : SemType) → t ≡ Basic b → NamesBelow n t
  basic-below b t e = subst (NamesBelow n) (sym e) tt

  two-below : (b c : BasicSet) (t : SemType) → IsEither (λ s. s ≡ Basic b) (λ s. s ≡ Basic c) t → NamesBelow n t
  two-below b c (Or' _ s _ t) h = (basic-below b s h.0, basic-below c t h.1)
  two-below b c _ h = absurd h

  same-or-below : (d : SemType) (b : BasicSet) (t : SemType) → NamesBelow n d → IsEither (IsSameType d) (λ s. s ≡ Basic b) t → NamesBelow n t
  same-or-below d b (Or' _ s _ t) is h = (NamesBelow-same n d s h.0 is, basic-below b t h.1)
  same-or-below d b _ is h = absurd h

  written-below : (own : OwnTypes) (s : Sets) (t : SemType) → NamesBelow n own.anydata.sem → IsWritten own s t → NamesBelow n t
  written-below own (sets.One b) t is h = basic-below b t h
  written-below own (sets.Two b c) t is h = two-below b c t h
  written-below own sets.Data t is h = NamesBelow-same n own.anydata.sem t h is
  written-below own (sets.DataOr b) t is h = same-or-below own.anydata.sem b t is h

-- a kind of which the language has a word names no atom
written-so : (own : OwnTypes) (k : Kind) (t : SemType) → IsWritten own (sets_of k) t → IsWrittenSo (is_simple k) t
written-so own kind.Integer t h = basic-below 0 _ t h
written-so own kind.Text t h = basic-below 0 _ t h
written-so own kind.IntOrText t h = two-below 0 _ _ t h
written-so own kind.Truth t h = two-below 0 _ _ t h
written-so own kind.Nothing t h = basic-below 0 _ t h
written-so own kind.Anydata t h = tt
written-so own kind.Sendable t h = tt
written-so own kind.AnyList t h = basic-below 0 _ t h
written-so own kind.AnyMapping t h = basic-below 0 _ t h
written-so own kind.MappingOrNil t h = two-below 0 _ _ t h
written-so own kind.AnyFunction t h = basic-below 0 _ t h
written-so own kind.AnyError t h = basic-below 0 _ t h
written-so own kind.ErrorOrNil t h = two-below 0 _ _ t h
written-so own kind.AnyFuture t h = basic-below 0 _ t h

pub kind-of : (own : OwnTypes) (k : Kind) (t : SemType) → IsWritten own (sets_of k) t → (env : List AtomDef) → AreOwnTypes env own → OfKind k env (plain t)
kind-of own k t h env are = (
  record {
    shapes = λ x v. then-same (written-in env own are (sets_of k) t h x v) (in-kind k x v);
    lists = refl;
    maps = refl;
  },
  written-so own k t h,
)

pub kind-below : (own : OwnTypes) (k : Kind) (t : SemType) → IsWritten own (sets_of k) t → (env : List AtomDef) → AreOwnTypes env own → TyBelow (length env) (plain t)
kind-below own k t h env are = (written-below (length env) own (sets_of k) t are.anydata_defined.0 h, All-nil _, All-nil _)

-- ---- as the calls make them

pub data-or : (d held : SemType) (b : BasicSet) (r : Result SemType NoMemory) → IsSameType d held
    → IfOk r (IsEither (λ s. s ≡ held) (λ s. s ≡ Basic b)) → IfOk r (IsEither (IsSameType d) (λ s. s ≡ Basic b))
data-or d held b (Ok (Or' _ s _ t)) same h = (subst (IsSameType d) (sym h.0) same, h.1)
data-or d held b (Ok _) same h = absurd h
data-or d held b (Err m) same h = tt

module _ (own : OwnTypes) (k : Kind) (s : Sets) (t : SemType) (u : Ty) (e : s ≡ sets_of k) (is : IsWritten own s t) (made : u ≡ plain t) where
  so : IsWritten own (sets_of k) t
  so = subst (λ (v : Sets). IsWritten own v t) e is

  pub made-of_kind : (env : List AtomDef) → AreOwnTypes env own → OfKind k env u
  made-of_kind env are = subst (λ (v : Ty). OfKind k env v) (sym made) (kind-of own k t so env are)

  pub made-below : (env : List AtomDef) → AreOwnTypes env own → TyBelow (length env) u
  made-below env are = subst (TyBelow (length env)) (sym made) (kind-below own k t so env are)
