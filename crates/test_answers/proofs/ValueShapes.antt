-- Which shapes the values of an atom stand for.
use Rattle.std.proofs.Common.{◌≡◌, ◌<◌, ◌↔◌, ℕ, Bool, true, false, List, Option, Some, None, IsSomeAnd, IsTrue, IsFalse, refl, sym, subst, length, slice_get}
use Rattle.bal_base.specs.declared.shape.Shape.{Shape, Nil, Bool as BoolShape, Int, Str, List', Mapping', Error', Function, Future'}
use Rattle.type_model.specs.declared.atoms.AtomDef.{AtomDef}
use Rattle.type_model.specs.declared.atoms.AtomDef.TheVariants.{List as ListAtom, Mapping as MappingAtom, Arrow, Error as ErrorAtom, Future as FutureAtom}
use Rattle.type_model.specs.declared.basic.BasicSet.TheVariants.{Readonly}
use Rattle.type_model.specs.declared.basic.SemType.{SemType, Atom}
use Rattle.type_model.specs.Basic.{InBasic}
use Rattle.type_model.specs.Defined.{IsDefined, NamesBelow}
use Rattle.type_model.specs.Inclusion.{Sub}
use Rattle.type_model.specs.Membership.{Fits, In}
use Rattle.type_model.proofs.Laws.{In-Atom}
use Rattle.type_model.proofs.Same.{itself}
use Rattle.value_model.specs.Exact.{IsWithinType}
use Rattle.value_model.specs.Stands.{IsUnmarked}
use Rattle.code_verifier.specs.KindSets.{IsAllBut, IsBoth}
use Rattle.code_verifier.proofs.KindShapes.{all-but-below, all-but-shapes, both-below, both-shapes}
use Rattle.test_answers.specs.ValueTypes.{IsOfValues, IsValueType}

-- ---- marks

is-open : (mark : Bool) → (¬ (IsTrue mark)) ↔ IsFalse mark
is-open true = ((λ n. absurd (n refl)), (λ f. absurd (let q : ⊥ = cc in q)))
is-open false = ((λ n. refl), (λ f t. absurd (let q : ⊥ = cc in q)))

module _ (env : List AtomDef) where
  list-open : (fixed : _) (rest : _) (x : Shape) → Fits env x (ListAtom fixed rest) → (¬ (InBasic x Readonly)) ↔ IsUnmarked x
  list-open fixed rest (List' mark _ items) h = is-open mark
  list-open fixed rest Nil h = absurd h
  list-open fixed rest (BoolShape b) h = absurd h
  list-open fixed rest (Int i) h = absurd h
  list-open fixed rest (Str t) h = absurd h
  list-open fixed rest (Mapping' mark _ fields) h = absurd h
  list-open fixed rest (Error' _ detail) h = absurd h
  list-open fixed rest (Function isolated graph) h = absurd h
  list-open fixed rest (Future' _ results) h = absurd h

  mapping-open : (fields : _) (rest : _) (x : Shape) → Fits env x (MappingAtom fields rest) → (¬ (InBasic x Readonly)) ↔ IsUnmarked x
  mapping-open fields rest (Mapping' mark _ members) h = is-open mark
  mapping-open fields rest Nil h = absurd h
  mapping-open fields rest (BoolShape b) h = absurd h
  mapping-open fields rest (Int i) h = absurd h
  mapping-open fields rest (Str t) h = absurd h
  mapping-open fields rest (List' mark _ items) h = absurd h
  mapping-open fields rest (Error' _ detail) h = absurd h
  mapping-open fields rest (Function isolated graph) h = absurd h
  mapping-open fields rest (Future' _ results) h = absurd h

  -- other shapes have no mark
  abbrev IsOther : AtomDef → Type 0
  IsOther d = (x : Shape) → Fits env x d → IsUnmarked x

  arrow-other : (args outcome : _) (alone : _) → IsOther (Arrow args outcome alone)
  arrow-other args outcome alone (Function isolated graph) h = tt
  arrow-other args outcome alone Nil h = absurd h
  arrow-other args outcome alone (BoolShape b) h = absurd h
  arrow-other args outcome alone (Int i) h = absurd h
  arrow-other args outcome alone (Str t) h = absurd h
  arrow-other args outcome alone (List' mark _ items) h = absurd h
  arrow-other args outcome alone (Mapping' mark _ fields) h = absurd h
  arrow-other args outcome alone (Error' _ detail) h = absurd h
  arrow-other args outcome alone (Future' _ results) h = absurd h

  error-other : (detail : _) → IsOther (ErrorAtom detail)
  error-other detail (Error' _ d) h = tt
  error-other detail Nil h = absurd h
  error-other detail (BoolShape b) h = absurd h
  error-other detail (Int i) h = absurd h
  error-other detail (Str t) h = absurd h
  error-other detail (List' mark _ items) h = absurd h
  error-other detail (Mapping' mark _ fields) h = absurd h
  error-other detail (Function isolated graph) h = absurd h
  error-other detail (Future' _ results) h = absurd h

  future-other : (outcome : _) → IsOther (FutureAtom outcome)
  future-other outcome (Future' _ results) h = tt
  future-other outcome Nil h = absurd h
  future-other outcome (BoolShape b) h = absurd h
  future-other outcome (Int i) h = absurd h
  future-other outcome (Str t) h = absurd h
  future-other outcome (List' mark _ items) h = absurd h
  future-other outcome (Mapping' mark _ fields) h = absurd h
  future-other outcome (Error' _ detail) h = absurd h
  future-other outcome (Function isolated graph) h = absurd h

  -- ---- the type of the values

  module _ (a : ℕ) (t : SemType) where
    -- lists or mappings that may change
    open-within : (d : AtomDef) → slice_get env a ≡ Some d → ((x : Shape) → Fits env x d → (¬ (InBasic x Readonly)) ↔ IsUnmarked x) → (s : SemType) → IsBoth (λ u. u ≡ Atom a) (IsAllBut Readonly) s → Sub env s t ↔ IsWithinType env a t
    open-within d there mutable s is = (
      (λ sub x v u i. sub x v ((shapes x).1 (i, (mutable x ((In-Atom env x a d there).0 i)).1 u))),
      (λ w x v i. let p = (shapes x).0 i in w x v ((mutable x ((In-Atom env x a d there).0 p.0)).0 p.1) p.0),
    )
      where
        shapes : (x : Shape) → In env x s ↔ (In env x (Atom a) × (¬ (InBasic x Readonly)))
        shapes x = both-shapes env x (λ u. u ≡ Atom a) (IsAllBut Readonly) (λ u e. subst (λ w. In env x w ↔ In env x (Atom a)) (sym e) itself) (all-but-shapes env x Readonly) s is

    other-within : (d : AtomDef) → slice_get env a ≡ Some d → IsOther d → (s : SemType) → s ≡ Atom a → Sub env s t ↔ IsWithinType env a t
    other-within d there other s e = (
      (λ sub x v u i. sub x v (subst (λ (w : SemType). In env x w) (sym e) i)),
      (λ w x v i. let own : In env x (Atom a) = subst (λ (w : SemType). In env x w) e i in w x v (other x ((In-Atom env x a d there).0 own)) own),
    )

    of-values : (d : AtomDef) → slice_get env a ≡ Some d → (s : SemType) → IsOfValues a d s → Sub env s t ↔ IsWithinType env a t
    of-values (ListAtom fixed rest) there s is = open-within (ListAtom fixed rest) there (list-open fixed rest) s is
    of-values (MappingAtom fields rest) there s is = open-within (MappingAtom fields rest) there (mapping-open fields rest) s is
    of-values (Arrow args outcome alone) there s is = other-within (Arrow args outcome alone) there (arrow-other args outcome alone) s is
    of-values (ErrorAtom detail) there s is = other-within (ErrorAtom detail) there (error-other detail) s is
    of-values (FutureAtom outcome) there s is = other-within (FutureAtom outcome) there (future-other outcome) s is

  at-some : {X : Type 0} (o : Option X) (P : X → Type 0) → IsSomeAnd o P → (x : X) × (o ≡ Some x) × P x
  at-some None P h = absurd h
  at-some (Some x) P h = (x, refl, h)

  pub values-within : (a : ℕ) (t s : SemType) → IsValueType env a s → Sub env s t ↔ IsWithinType env a t
  values-within a t s is = let (d, there, of) = at-some (slice_get env a) (λ d. IsOfValues a d s) is in of-values a t d there s of

  of-values-defined : (a : ℕ) → a < length env → (d : AtomDef) (s : SemType) → IsOfValues a d s → IsDefined env s
  of-values-defined a lt (ListAtom fixed rest) s is = both-below (length env) (λ u. u ≡ Atom a) (IsAllBut Readonly) (λ u e. subst (NamesBelow (length env)) (sym e) lt) (all-but-below (length env) Readonly) s is
  of-values-defined a lt (MappingAtom fields rest) s is = both-below (length env) (λ u. u ≡ Atom a) (IsAllBut Readonly) (λ u e. subst (NamesBelow (length env)) (sym e) lt) (all-but-below (length env) Readonly) s is
  of-values-defined a lt (Arrow args outcome alone) s is = subst (NamesBelow (length env)) (sym is) lt
  of-values-defined a lt (ErrorAtom detail) s is = subst (NamesBelow (length env)) (sym is) lt
  of-values-defined a lt (FutureAtom outcome) s is = subst (NamesBelow (length env)) (sym is) lt

  pub values-defined : (a : ℕ) → a < length env → (s : SemType) → IsValueType env a s → IsDefined env s
  values-defined a lt s is = let (d, there, of) = at-some (slice_get env a) (λ d. IsOfValues a d s) is in of-values-defined a lt d s of
