-- What mutable structures, functions and futures stand for is what the types of their atoms have.
use Rattle.std.proofs.Common.{◌≡◌, ◌↔◌, ℕ, ◌<◌, ◌≤◌, Bool, true, false, IsTrue, List, Option, Some, None, IsSomeAnd, length, slice_get, refl, sym, subst}
use Rattle.std.specs.Prelude.{IsFalse}
use Rattle.std.proofs.lemmas.Bool.{false≢true}
use Rattle.std.proofs.lemmas.Option.{slice_get_past, slice_get_within}
use Rattle.bal_base.specs.declared.shape.Shape.{Shape, Nil as NilShape, Bool as BoolShape, Int as IntShape, Str as StrShape, List', Mapping', Error', Function as FunctionShape, Future'}
use Rattle.type_model.specs.declared.basic.BasicSet.TheVariants.{Readonly}
use Rattle.type_model.specs.declared.basic.SemType.{SemType, Basic, Atom, And', Not'}
use Rattle.type_model.specs.declared.basic.Ty.{Ty}
use Rattle.type_model.specs.declared.atoms.FieldDef.{FieldDef}
use Rattle.type_model.specs.declared.atoms.AtomDef.{AtomDef}
use Rattle.type_model.specs.declared.atoms.AtomDef.TheVariants.{List as ListAtom, Mapping as MappingAtom, Arrow, Error as ErrorAtom, Future as FutureAtom}
use Rattle.type_model.specs.Basic.{InBasic}
use Rattle.type_model.specs.Defined.{IsDefined}
use Rattle.type_model.specs.Membership.{Fits, In}
use Rattle.value_model.specs.Stands.{IsUnmarked}
use Rattle.plain_tests.specs.Tells.{IsOfMutable, IsOpenAtom}
use Rattle.plain_tests.specs.Own.{TellsAll, TellsAtom, TellsMutable, TellsSub}

marked : (b : Bool) → IsFalse b ↔ (¬ IsTrue b)
marked true = (λ e _. false≢true (sym e), λ n. absurd (n refl))
marked false = (λ _ e. false≢true e, λ _. refl)

module _ (atoms : List AtomDef) where
  -- ---- shapes without the mark

  open-list : (fixed : List Ty) (rest : Option Ty) (x : Shape) → Fits atoms x (ListAtom fixed rest) → IsUnmarked x ↔ (¬ InBasic x Readonly)
  open-list fixed rest (List' mark _ items) fits = marked mark
  open-list fixed rest NilShape fits = absurd fits
  open-list fixed rest (BoolShape b) fits = absurd fits
  open-list fixed rest (IntShape i) fits = absurd fits
  open-list fixed rest (StrShape t) fits = absurd fits
  open-list fixed rest (Mapping' mark _ fields) fits = absurd fits
  open-list fixed rest (Error' _ detail) fits = absurd fits
  open-list fixed rest (FunctionShape isolated graph) fits = absurd fits
  open-list fixed rest (Future' _ results) fits = absurd fits

  open-mapping : (fields : List FieldDef) (rest : Option Ty) (x : Shape) → Fits atoms x (MappingAtom fields rest) → IsUnmarked x ↔ (¬ InBasic x Readonly)
  open-mapping fields rest (Mapping' mark _ members) fits = marked mark
  open-mapping fields rest NilShape fits = absurd fits
  open-mapping fields rest (BoolShape b) fits = absurd fits
  open-mapping fields rest (IntShape i) fits = absurd fits
  open-mapping fields rest (StrShape t) fits = absurd fits
  open-mapping fields rest (List' mark _ items) fits = absurd fits
  open-mapping fields rest (Error' _ detail) fits = absurd fits
  open-mapping fields rest (FunctionShape isolated graph) fits = absurd fits
  open-mapping fields rest (Future' _ results) fits = absurd fits

  unmarked-arrow : (args outcome : SemType) (alone : Bool) (x : Shape) → Fits atoms x (Arrow args outcome alone) → IsUnmarked x
  unmarked-arrow args outcome alone (List' mark _ items) fits = absurd fits
  unmarked-arrow args outcome alone (Mapping' mark _ fields) fits = absurd fits
  unmarked-arrow args outcome alone x fits = tt

  unmarked-error : (detail : SemType) (x : Shape) → Fits atoms x (ErrorAtom detail) → IsUnmarked x
  unmarked-error detail (List' mark _ items) fits = absurd fits
  unmarked-error detail (Mapping' mark _ fields) fits = absurd fits
  unmarked-error detail x fits = tt

  unmarked-future : (outcome : SemType) (x : Shape) → Fits atoms x (FutureAtom outcome) → IsUnmarked x
  unmarked-future outcome (List' mark _ items) fits = absurd fits
  unmarked-future outcome (Mapping' mark _ fields) fits = absurd fits
  unmarked-future outcome x fits = tt

  -- ---- the type that is asked about has these shapes

  at-atom : (a : ℕ) (d : AtomDef) → slice_get atoms a ≡ Some d → (x : Shape) → In atoms x (Atom a) → Fits atoms x d
  at-atom a d at x is = subst (λ o. IsSomeAnd o (Fits atoms x)) at is

  abbrev Has : ℕ → SemType → Type 0
  Has a s = (x : Shape) → In atoms x s ↔ (IsUnmarked x × In atoms x (Atom a))

  open-has : (a : ℕ) (d : AtomDef) (s : SemType) → IsOpenAtom a s → ((x : Shape) → In atoms x (Atom a) → IsUnmarked x ↔ (¬ InBasic x Readonly)) → Has a s
  open-has a d (And' _ (Atom b) _ (Not' _ (Basic Readonly))) is same = λ x.
      let here : (y : Shape) → In atoms y (Atom b) → In atoms y (Atom a) = λ y. subst (λ n. In atoms y (Atom n)) is in
      let back : (y : Shape) → In atoms y (Atom a) → In atoms y (Atom b) = λ y. subst (λ n. In atoms y (Atom n)) (sym is) in
      (λ p. ((same x (here x p.0)).1 p.1, here x p.0), λ p. (back x p.1, (same x p.1).0 p.0))
  open-has a d s is same = absurd is

  atom-has : (a : ℕ) (s : SemType) → s ≡ Atom a → ((x : Shape) → In atoms x (Atom a) → IsUnmarked x) → Has a s
  atom-has a s is un x = subst (λ s. In atoms x s ↔ (IsUnmarked x × In atoms x (Atom a))) (sym is) (λ p. (un x p, p), λ p. p.1)

  asked-has : (a : ℕ) (d : AtomDef) (s : SemType) → slice_get atoms a ≡ Some d → IsOfMutable a d s → Has a s
  asked-has a (ListAtom fixed rest) s at is = open-has a (ListAtom fixed rest) s is (λ x p. open-list fixed rest x (at-atom a (ListAtom fixed rest) at x p))
  asked-has a (MappingAtom fields rest) s at is = open-has a (MappingAtom fields rest) s is (λ x p. open-mapping fields rest x (at-atom a (MappingAtom fields rest) at x p))
  asked-has a (Arrow args outcome alone) s at is = atom-has a s is (λ x p. unmarked-arrow args outcome alone x (at-atom a (Arrow args outcome alone) at x p))
  asked-has a (ErrorAtom detail) s at is = atom-has a s is (λ x p. unmarked-error detail x (at-atom a (ErrorAtom detail) at x p))
  asked-has a (FutureAtom outcome) s at is = atom-has a s is (λ x p. unmarked-future outcome x (at-atom a (FutureAtom outcome) at x p))

  -- ---- it names an atom that is defined

  open-defined : (a : ℕ) (s : SemType) → a < length atoms → IsOpenAtom a s → IsDefined atoms s
  open-defined a (And' _ (Atom b) _ (Not' _ (Basic Readonly))) lt is = (subst (λ n. n < length atoms) (sym is) lt, tt)
  open-defined a s lt is = absurd is

  atom-defined : (a : ℕ) (s : SemType) → a < length atoms → s ≡ Atom a → IsDefined atoms s
  atom-defined a s lt is = subst (IsDefined atoms) (sym is) lt

  pub asked_defined : (a : ℕ) (d : AtomDef) (s : SemType) → slice_get atoms a ≡ Some d → IsOfMutable a d s → IsDefined atoms s
  asked_defined a (ListAtom fixed rest) s at is = open-defined a s (slice_get_within atoms a (ListAtom fixed rest) at) is
  asked_defined a (MappingAtom fields rest) s at is = open-defined a s (slice_get_within atoms a (MappingAtom fields rest) at) is
  asked_defined a (Arrow args outcome alone) s at is = atom-defined a s (slice_get_within atoms a (Arrow args outcome alone) at) is
  asked_defined a (ErrorAtom detail) s at is = atom-defined a s (slice_get_within atoms a (ErrorAtom detail) at) is
  asked_defined a (FutureAtom outcome) s at is = atom-defined a s (slice_get_within atoms a (FutureAtom outcome) at) is

  -- ---- what is told

  pub mutable_told : (a : ℕ) (d : AtomDef) (s t : SemType) (told : Option Bool) → slice_get atoms a ≡ Some d → IsOfMutable a d s → TellsSub atoms s t told → TellsMutable atoms a t told
  mutable_told a d s t (Some below) at is tells =
      let has = asked-has a d s at is in
      (λ yes x valid p. tells.0 yes x valid ((has x).1 p), λ all. tells.1 (λ x valid p. all x valid ((has x).0 p)))
  mutable_told a d s t None at is undecided = (s, subst (λ o. IsSomeAnd o (λ d. IsOfMutable a d s)) (sym at) is, undecided)

  no-atom : (P : Shape → Type 0) (Asked : SemType → Type 0) (t : SemType) → ((x : Shape) → ¬ P x) → TellsAll atoms P Asked t (Some true)
  no-atom P Asked t none = (λ yes x valid p. absurd (none x p), λ _. refl)

  undefined : (a : ℕ) → slice_get atoms a ≡ None → (x : Shape) → ¬ In atoms x (Atom a)
  undefined a at x is = subst (λ o. IsSomeAnd o (Fits atoms x)) at is

  pub mutable_undefined : (a : ℕ) (t : SemType) → slice_get atoms a ≡ None → TellsMutable atoms a t (Some true)
  mutable_undefined a t at =
      no-atom (λ x. IsUnmarked x × In atoms x (Atom a)) (λ s. IsSomeAnd (slice_get atoms a) (λ d. IsOfMutable a d s)) t (λ x p. undefined a at x p.1)

  pub atom_told : (a : ℕ) (t : SemType) (told : Option Bool) → a < length atoms → TellsSub atoms (Atom a) t told → TellsAtom atoms a t told
  atom_told a t (Some below) lt tells = tells
  atom_told a t None lt undecided = (Atom a, (lt, refl), undecided)

  pub atom_undefined : (a : ℕ) (t : SemType) → length atoms ≤ a → TellsAtom atoms a t (Some true)
  atom_undefined a t past = no-atom (λ x. In atoms x (Atom a)) (λ s. (a < length atoms) × (s ≡ Atom a)) t (undefined a (slice_get_past atoms a past))
