-- What narrowing gives has the values that it should: those that passed the test, and those that failed it.
use Rattle.std.proofs.Common.{IfOk, Result, Ok, Err, ◌≡◌, ◌⊎◌, ℕ, List, Bool, true, false, All, Option, Some, None, IfSome, IsSomeAnd, slice_get, ⊎_elim, inl, inr, refl, sym, subst, ap, ◌∙◌}
use Rattle.std.proofs.lemmas.List.Elements.{All-get_or}
use Rattle.std.proofs.lemmas.Option.{get_or_from_slice_get, slice_get_within}
use Rattle.bal_base.specs.declared.shape.Shape.{Shape, Nil as NilShape, Bool as BoolShape, Int as IntShape, Str as StrShape, List', Mapping', Error', Function as FunctionShape, Future'}
use Rattle.bal_base.specs.Same.{IsSame}
use Rattle.bal_base.specs.Valid.{IsValid}
use Rattle.bal_base.specs.declared.stop.Memory.{Memory as NoMemory}
use Rattle.type_model.specs.declared.atoms.AtomDef.{AtomDef}
use Rattle.type_model.specs.declared.atoms.AtomDef.TheVariants.{List as ListAtom, Mapping as MappingAtom, Arrow, Error as ErrorAtom, Future as FutureAtom}
use Rattle.type_model.specs.declared.basic.SemType.{SemType, Atom}
use Rattle.type_model.specs.declared.basic.Ty.{Ty}
use Rattle.type_model.specs.Membership.{Fits, In}
use Rattle.type_model.proofs.SameShapes.{In-same}
use Rattle.value_model.specs.declared.value.Value.{Value}
use Rattle.value_model.specs.declared.value.Value.TheVariants.{Nil, Bool as Truth, Int, Str, Struct, Error, Function, Future}
use Rattle.value_model.specs.Heap.{Heap}
use Rattle.value_model.specs.Stands.{OwnTypes, HasShape, IsUnmarked, Stands, StructureStands}
use Rattle.value_model.proofs.OneShape.{one}
use Rattle.flow_narrowing.specs.Belonging.{AreMade, AtomIs, EachBelongs, Fails, IsOfFunctions, IsOfFutures, IsOfStructures, Passes}
use Rattle.flow_narrowing.specs.Narrowed.{LiesIn, MayFail, Part, Plain, Lists, Mappings, Functions, Futures, WhereFalse, WhereTrue, part_of}

-- ---- parts of shapes

-- values that stand for shapes of this part may stand for many
abbrev IsOpen : Part → Type 0
IsOpen Plain = ⊥
IsOpen (Lists mark) = mark ≡ false
IsOpen (Mappings mark) = mark ≡ false
IsOpen Functions = Unit {0}
IsOpen Futures = Unit {0}

same-part : (x y : Shape) → IsSame x y → part_of y ≡ part_of x
same-part NilShape NilShape h = refl
same-part (BoolShape a) (BoolShape b) h = refl
same-part (IntShape a) (IntShape b) h = refl
same-part (StrShape a) (StrShape b) h = refl
same-part (List' m _ items) (List' n _ more) h = ap Lists (sym h.0)
same-part (Mapping' m _ fields) (Mapping' n _ more) h = ap Mappings (sym h.0)
same-part (Error' _ detail) (Error' _ other) h = refl
same-part (FunctionShape a graph) (FunctionShape b other) h = refl
same-part (Future' _ results) (Future' _ others) h = refl
same-part x y h = absurd h

-- ---- what a value stands for, whatever it is

-- `V`: for which shapes the value stands
module _ (V : Shape → Type 0) where
  -- all of them are of the part of this one, and either it is an open part, or there is no other
  pub record StandsFor (x : Shape) : Type 0 where
    pub part : (y : Shape) → IsValid y → V y → part_of y ≡ part_of x
    pub alone : IsOpen (part_of x) ⊎ ((y : Shape) → IsValid y → V y → IsSame x y)

  module _ (env : List AtomDef) (s t : SemType) (in_s : (x : Shape) → IsValid x → V x → In env x s) (not_t : ¬ ((x : Shape) → IsValid x → V x → In env x t)) where
    alone-fails : (x : Shape) → ((y : Shape) → IsValid y → V y → IsSame x y) → ¬ In env x t
    alone-fails x each h = not_t (λ y valid v. (In-same env x y (each y valid v) t).0 h)

    not-all : (p : Part) → ((y : Shape) → IsValid y → V y → part_of y ≡ p) → ¬ LiesIn env s t p
    not-all p of lies = not_t (λ y valid v. lies y valid (of y valid v) (in_s y valid v))

    open-fails : (p : Part) (x : Shape) → ((y : Shape) → IsValid y → V y → part_of y ≡ p) → IsOpen p → MayFail env s t x p
    open-fails Plain x of is = absurd is
    open-fails (Lists true) x of is = absurd (cc)
    open-fails (Lists false) x of is = not-all (Lists false) of
    open-fails (Mappings true) x of is = absurd (cc)
    open-fails (Mappings false) x of is = not-all (Mappings false) of
    open-fails Functions x of is = not-all Functions of
    open-fails Futures x of is = not-all Futures of

    one-fails : (p : Part) (x : Shape) → ((y : Shape) → IsValid y → V y → part_of y ≡ p) → (¬ In env x t) → MayFail env s t x p
    one-fails Plain x of out = out
    one-fails (Lists true) x of out = λ lies. out
    one-fails (Lists false) x of out = not-all (Lists false) of
    one-fails (Mappings true) x of out = λ lies. out
    one-fails (Mappings false) x of out = not-all (Mappings false) of
    one-fails Functions x of out = not-all Functions of
    one-fails Futures x of out = not-all Futures of

    pub may-fail : (x : Shape) → StandsFor x → MayFail env s t x (part_of x)
    may-fail x f = ⊎_elim (λ is. open-fails (part_of x) x f.part is) (λ each. one-fails (part_of x) x f.part (alone-fails x each)) f.alone

-- ---- what each value stands for

-- the value has one shape
single : (V : Shape → Type 0) (x : Shape) → ((y : Shape) → IsValid y → V y → IsSame x y) → StandsFor V x
single V x each = record { part = λ y valid v. same-part x y (each y valid v); alone = inr each }

-- all its shapes are of one open part
many : (V : Shape → Type 0) (p : Part) → IsOpen p → ((y : Shape) → V y → part_of y ≡ p) → (x : Shape) → V x → StandsFor V x
many V p is of x v = record { part = λ y valid w. of y w ∙ sym (of x v); alone = inl (subst IsOpen (sym (of x v)) is) }

module _ (env : List AtomDef) where
  list-part : (fixed : List Ty) (rest : Option Ty) (x : Shape) → IsUnmarked x → Fits env x (ListAtom fixed rest) → part_of x ≡ Lists false
  list-part fixed rest (List' mark _ items) un fits = ap Lists un
  list-part fixed rest x un fits = absurd fits

  mapping-part : (fields : _) (rest : Option Ty) (x : Shape) → IsUnmarked x → Fits env x (MappingAtom fields rest) → part_of x ≡ Mappings false
  mapping-part fields rest (Mapping' mark _ members) un fits = ap Mappings un
  mapping-part fields rest x un fits = absurd fits

  arrow-part : (args outcome : SemType) (alone : Bool) (x : Shape) → Fits env x (Arrow args outcome alone) → part_of x ≡ Functions
  arrow-part args outcome alone (FunctionShape isolated graph) fits = refl
  arrow-part args outcome alone x fits = absurd fits

  future-part : (outcome : SemType) (x : Shape) → Fits env x (FutureAtom outcome) → part_of x ≡ Futures
  future-part outcome (Future' _ results) fits = refl
  future-part outcome x fits = absurd fits

  of-structure : (d : AtomDef) → IsOfStructures d → (x : Shape) → IsUnmarked x → Fits env x d → StandsFor (λ y. IsUnmarked y × Fits env y d) x
  of-structure (ListAtom fixed rest) is x un fits = many _ (Lists false) refl (λ y v. list-part fixed rest y v.0 v.1) x (un, fits)
  of-structure (MappingAtom fields rest) is x un fits = many _ (Mappings false) refl (λ y v. mapping-part fields rest y v.0 v.1) x (un, fits)
  of-structure (Arrow args outcome alone) is x un fits = absurd is
  of-structure (ErrorAtom detail) is x un fits = absurd is
  of-structure (FutureAtom outcome) is x un fits = absurd is

  of-function : (d : AtomDef) → IsOfFunctions d → (x : Shape) → Fits env x d → StandsFor (λ y. Fits env y d) x
  of-function (Arrow args outcome alone) is x fits = many _ Functions tt (λ y v. arrow-part args outcome alone y v) x fits
  of-function (ListAtom fixed rest) is x fits = absurd is
  of-function (MappingAtom fields rest) is x fits = absurd is
  of-function (ErrorAtom detail) is x fits = absurd is
  of-function (FutureAtom outcome) is x fits = absurd is

  of-future : (d : AtomDef) → IsOfFutures d → (x : Shape) → Fits env x d → StandsFor (λ y. Fits env y d) x
  of-future (FutureAtom outcome) is x fits = many _ Futures tt (λ y v. future-part outcome y v) x fits
  of-future (ListAtom fixed rest) is x fits = absurd is
  of-future (MappingAtom fields rest) is x fits = absurd is
  of-future (Arrow args outcome alone) is x fits = absurd is
  of-future (ErrorAtom detail) is x fits = absurd is

-- ---- what is looked up, with what holds of it

at-some : {X : Type 0} (o : Option X) (P : X → Type 0) (Q : X → Shape → Type 0) (x : Shape) → IfSome o P → ((a : X) → P a → Q a x → StandsFor (Q a) x)
    → IsSomeAnd o (λ a. Q a x) → StandsFor (λ y. IsSomeAnd o (λ a. Q a y)) x
at-some (Some a) P Q x p f q = f a p q
at-some None P Q x p f q = absurd q

if-any : {X : Type 0} (o : Option X) → IfSome o (λ a. Unit {0})
if-any (Some a) = tt
if-any None = tt

if-there : {X : Type 0} (P : X → Type 0) (xs : List X) (n : ℕ) → All P xs → (o : Option X) → slice_get xs n ≡ o → IfSome o P
if-there P xs n h None e = tt
if-there P xs n h (Some x) e = subst P (get_or_from_slice_get xs n x x e) (All-get_or P xs n x (slice_get_within xs n x e) h)

if-all : {X : Type 0} (P : X → Type 0) (xs : List X) (n : ℕ) → All P xs → IfSome (slice_get xs n) P
if-all P xs n h = if-there P xs n h (slice_get xs n) refl

-- the atom of a structure
unmarked-of : (env : List AtomDef) (o : Option AtomDef) (x : Shape) → IfSome o IsOfStructures → IsUnmarked x → IsSomeAnd o (Fits env x)
    → StandsFor (λ y. IsUnmarked y × IsSomeAnd o (Fits env y)) x
unmarked-of env (Some d) x is un fits = of-structure env d is x un fits
unmarked-of env None x is un fits = absurd fits

module _ (own : OwnTypes) (h : Heap) where
  simple : (v : Value) (x : Shape) → IsValid x → HasShape h x v → StandsFor (λ y. HasShape h y v) x
  simple v x valid has = single (λ y. HasShape h y v) x (λ y fine w. one h x y v valid fine has w)

  structure : (mutable : Bool) (atom : Option ℕ) (n : ℕ) (x : Shape) → IfSome atom (AtomIs own.atoms IsOfStructures) → IsValid x
      → StructureStands own h mutable atom n x → StandsFor (StructureStands own h mutable atom n) x
  structure true (Some a) n x is valid stands = unmarked-of own.atoms (slice_get own.atoms a) x is stands.0 stands.1
  structure true None n x is valid stands = absurd stands.1
  structure false atom n x is valid stands = simple (Struct n) x valid stands

  of-unit : (P : AtomDef → Type 0) (a : ℕ) (x : Shape) → AtomIs own.atoms P a → ((d : AtomDef) → P d → (x : Shape) → Fits own.atoms x d → StandsFor (λ y. Fits own.atoms y d) x)
      → In own.atoms x (Atom a) → StandsFor (λ y. In own.atoms y (Atom a)) x
  of-unit P a x is f = at-some (slice_get own.atoms a) P (λ d y. Fits own.atoms y d) x is (λ d p q. f d p x q)

  module _ (made : AreMade own h) where
    value : (v : Value) (x : Shape) → IsValid x → Stands own h v x → StandsFor (Stands own h v) x
    value Nil x valid stands = simple Nil x valid stands
    value (Truth b) x valid stands = simple (Truth b) x valid stands
    value (Int i) x valid stands = simple (Int i) x valid stands
    value (Str t) x valid stands = simple (Str t) x valid stands
    value (Error n) x valid stands = simple (Error n) x valid stands
    value (Struct n) x valid stands =
        at-some (slice_get h.structures n) (λ s. IfSome s.atom (AtomIs own.atoms IsOfStructures)) (λ s y. StructureStands own h s.mutable s.atom n y) x
        (if-all _ h.structures n made.structures) (λ s p q. structure s.mutable s.atom n x p valid q) stands
    value (Function n) x valid stands =
        at-some (slice_get h.functions n) (λ f. Unit {0}) (λ f y. IsSomeAnd (slice_get own.units f.unit) (λ u. In own.atoms y (Atom u.0))) x
        (if-any (slice_get h.functions n))
        (λ f p q. at-some (slice_get own.units f.unit) (λ u. AtomIs own.atoms IsOfFunctions u.0) (λ u y. In own.atoms y (Atom u.0)) x
        (if-all _ own.units f.unit made.functions) (λ u is r. of-unit IsOfFunctions u.0 x is (of-function own.atoms) r) q) stands
    value (Future strand unit) x valid stands =
        at-some (slice_get own.units unit) (λ u. AtomIs own.atoms IsOfFutures u.1) (λ u y. In own.atoms y (Atom u.1)) x
        (if-all _ own.units unit made.futures) (λ u is r. of-unit IsOfFutures u.1 x is (of-future own.atoms) r) stands

-- ---- what narrowing gives

pub belongs-true : (env : List AtomDef) (s t u : Ty) → WhereTrue env s t u → EachBelongs env (Passes s t) u
belongs-true env s t u w own h v is p x valid stands =
    let here : WhereTrue own.atoms s t u = subst (λ e. WhereTrue e s t u) (sym is) w in
    (here.shapes x valid).1 (p.0 x valid stands, p.1 x valid stands)

pub belongs-false : (env : List AtomDef) (s t u : Ty) → WhereFalse env s t u → EachBelongs env (Fails s t) u
belongs-false env s t u w own h v is p x valid stands =
    let here : WhereFalse own.atoms s t u = subst (λ e. WhereFalse e s t u) (sym is) w in
    (here.shapes x valid).1 (p.1 x valid stands, may-fail (Stands own h v) own.atoms s.sem t.sem p.1 p.2 x (value own h p.0 v x valid stands))

pub belong-true : (env : List AtomDef) (s t : Ty) (r : Result Ty NoMemory) → IfOk r (WhereTrue env s t) → IfOk r (EachBelongs env (Passes s t))
belong-true env s t (Ok u) w = belongs-true env s t u w
belong-true env s t (Err stop) w = tt
