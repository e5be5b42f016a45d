-- Each value that was made stands for some valid shape; and what is in a type of errors is an error.
use Rattle.std.proofs.Common.{◌≡◌, ◌∙◌, ℕ, zero, suc, Bool, true, false, List, [], ◌∷◌, Option, Some, None, map, refl, ap, subst, arith}
use Rattle.std.specs.Prelude.{IsFalse, IsSomeAnd, IsTrue, option_map, slice_get}
use Rattle.std.specs.Ptr.{null_ptr}
use Rattle.bal_base.specs.declared.shape.Shape.{Shape, Nil as NilShape, Bool as BoolShape, Int as IntShape, Str as StrShape, List', Mapping', Error', Function as FunctionShape, Future', end_of-Shape}
use Rattle.bal_base.specs.declared.shape.Graph.{Graph, Graph', end_of-Case}
use Rattle.bal_base.specs.Valid.{IsValid}
use Rattle.type_model.specs.declared.atoms.AtomDef.{AtomDef}
use Rattle.type_model.specs.declared.atoms.AtomDef.TheVariants.{List as ListAtom, Mapping as MappingAtom, Arrow, Error as ErrorAtom, Future as FutureAtom}
use Rattle.type_model.specs.declared.basic.SemType.{SemType, Atom}
use Rattle.type_model.specs.Membership.{Fits as ShapeFits, In}
use Rattle.operations.specs.Kinds.{IsError}
use Rattle.operations.specs.Rows.{IsWithin}
use Rattle.value_model.specs.declared.value.Value.{Value}
use Rattle.value_model.specs.declared.value.Value.TheVariants.{Nil, Bool as Truth, Int, Str, Struct, Error, Function, Future}
use Rattle.value_model.specs.Heap.{FunctionObject, Items, Entries, Members, Structure}
use Rattle.value_model.specs.Stands.{HasShape, IsUnmarked, MembersBelong, Stands, StructureStands}
use Rattle.op_model.specs.Common.{Common}
use Rattle.op_model.specs.Strands.{is_error}
use Rattle.stack_code.specs.declared.code.Code.{Code}
use Rattle.stack_code.specs.declared.code.Unit.{Unit as CodeUnit}
use Rattle.stack_code.specs.Tables.{IsArrowOf, IsCallable, IsFutureOf, IsInherent}
use Rattle.stack_code.specs.Values.{Fits, GoodHeap, IsMade, IsWithinAtom, IsWithinUnit, code_types}
use Rattle.stack_code.specs.WellTyped.{WellTyped}
use Rattle.code_keeping.proofs.Lists.{all-at, at-some, of-some, some-there, there}

-- a function that is asked nothing, and a future without results
abbrev no-graph : Graph
no-graph = Graph' (record { ptr = null_ptr; len = 0; cap = 0; alloc = record { memory = _ }; items = []; ok = (refl, omega arith); small = omega arith }) end_of-Case

abbrev no-results : Shape
no-results = Future' (record { ptr = null_ptr; len = 0; cap = 0; alloc = record { memory = _ }; items = []; ok = (refl, omega arith); small = omega arith }) end_of-Shape

pub get-map : {A B : Type 0} (f : A → B) (xs : List A) (n : ℕ) → slice_get (map f xs) n ≡ option_map f (slice_get xs n)
get-map f [] n = refl
get-map f (x ∷ xs) zero = refl
get-map f (x ∷ xs) (suc n) = get-map f xs n

module _ (code : Code) (t : WellTyped code) where
  -- ---- a unit that can be called has its own atoms

  pub own-atoms : (n : ℕ) (u : CodeUnit) → slice_get code.units n ≡ Some u → IsCallable code n → IsSomeAnd (slice_get code.atoms u.arrow) (IsArrowOf code u) × IsSomeAnd (slice_get code.atoms u.future) (IsFutureOf code u)
  own-atoms n u e (known, worker, initialiser) = (t.fields.atoms n u e).1 worker initialiser

  pub unit-of : (n : ℕ) → IsCallable code n → (u : CodeUnit) × (slice_get code.units n ≡ Some u)
  unit-of n (known, worker, initialiser) = let (u, e, h) = some-there (λ u. IsInherent code u.arrow × IsInherent code u.future) (slice_get code.units n) known in (u, e)

  pub types-of : (n : ℕ) (u : CodeUnit) → slice_get code.units n ≡ Some u → slice_get (code_types code).units n ≡ Some (u.arrow, u.future)
  types-of n u e = get-map (λ u. (u.arrow, u.future)) code.units n ∙ ap (λ o. option_map (λ u. (u.arrow, u.future)) o) e

  arrow-shape : (u : CodeUnit) (d : AtomDef) → IsArrowOf code u d → ShapeFits code.atoms (FunctionShape true no-graph) d
  arrow-shape u (Arrow args outcome alone) h = ((λ a. refl), tt)
  arrow-shape u (ListAtom fixed rest) h = absurd h
  arrow-shape u (MappingAtom fields rest) h = absurd h
  arrow-shape u (ErrorAtom detail) h = absurd h
  arrow-shape u (FutureAtom outcome) h = absurd h

  future-shape : (u : CodeUnit) (d : AtomDef) → IsFutureOf code u d → ShapeFits code.atoms no-results d
  future-shape u (FutureAtom outcome) h = tt
  future-shape u (ListAtom fixed rest) h = absurd h
  future-shape u (MappingAtom fields rest) h = absurd h
  future-shape u (ErrorAtom detail) h = absurd h
  future-shape u (Arrow args outcome alone) h = absurd h

  in-arrow : (u : CodeUnit) → IsSomeAnd (slice_get code.atoms u.arrow) (IsArrowOf code u) → In code.atoms (FunctionShape true no-graph) (Atom u.arrow)
  in-arrow u h = let (d, e, is) = some-there (IsArrowOf code u) (slice_get code.atoms u.arrow) h in at-some (ShapeFits code.atoms (FunctionShape true no-graph)) (slice_get code.atoms u.arrow) d e (arrow-shape u d is)

  in-future : (u : CodeUnit) → IsSomeAnd (slice_get code.atoms u.future) (IsFutureOf code u) → In code.atoms no-results (Atom u.future)
  in-future u h = let (d, e, is) = some-there (IsFutureOf code u) (slice_get code.atoms u.future) h in at-some (ShapeFits code.atoms no-results) (slice_get code.atoms u.future) d e (future-shape u d is)

  module _ (c : Common) (good : GoodHeap code c) where
    abbrev StandsFor : Value → Shape → Type 0
    StandsFor v s = Stands (code_types code) c.world.heap v s

    -- ---- each value has a shape

    of-structure : (m : Bool) (atom : Option ℕ) (members : Members) (n : ℕ) → (IsTrue m → IsSomeAnd atom (λ a. IsInherent code a × ((x : Shape) × IsValid x × IsUnmarked x × In code.atoms x (Atom a)) × IsSomeAnd (slice_get code.atoms a) (MembersBelong (code_types code) c.world.heap members))) →
        (IsFalse m → (x : Shape) × IsValid x × HasShape c.world.heap x (Struct n)) → (x : Shape) × IsValid x × StructureStands (code_types code) c.world.heap m atom n x
    of-structure true (Some a) members n f g = let (known, (x, valid, unmarked, inside), rest) = f refl in (x, valid, (unmarked, inside))
    of-structure true None members n f g = absurd (f refl)
    of-structure false atom members n f g = g refl

    structure : (n : ℕ) → (s : Structure) × (slice_get c.world.heap.structures n ≡ Some s) → (x : Shape) × IsValid x × StandsFor (Struct n) x
    structure n (s, e) =
        let (x, valid, stands) = of-structure s.mutable s.atom s.members n (all-at (IsWithinAtom code c) c.world.heap.structures n s good.mutable e) (good.immutable.0 n s e) in
        (x, valid, at-some (λ y. StructureStands (code_types code) c.world.heap y.mutable y.atom n x) (slice_get c.world.heap.structures n) s e stands)

    function : (n : ℕ) → (f : FunctionObject) × (slice_get c.world.heap.functions n ≡ Some f) → (x : Shape) × IsValid x × StandsFor (Function n) x
    function n (f, e) =
        let callable : IsCallable code f.unit = (all-at (IsWithinUnit code c) c.world.heap.functions n f good.functions e).0 in
        let (u, eu) = unit-of f.unit callable in (
          FunctionShape true no-graph,
          tt,
          at-some (λ f. IsSomeAnd (slice_get (code_types code).units f.unit) (λ u. In code.atoms (FunctionShape true no-graph) (Atom u.0))) (slice_get c.world.heap.functions n) f e
              (at-some (λ u. In code.atoms (FunctionShape true no-graph) (Atom u.0)) (slice_get (code_types code).units f.unit) (u.arrow, u.future) (types-of f.unit u eu) (in-arrow u (own-atoms f.unit u eu callable).0)),
        )

    pub has-shape : (v : Value) → IsMade code c v → (s : Shape) × IsValid s × StandsFor v s
    has-shape Nil m = (NilShape, tt, refl)
    has-shape (Truth b) m = (BoolShape b, tt, refl)
    has-shape (Int i) m = (IntShape i, m.1, refl)
    has-shape (Str s) m = (StrShape s, m.1, refl)
    has-shape (Struct n) m = structure n (there c.world.heap.structures n m.0)
    has-shape (Error n) m = good.immutable.1 n m.0
    has-shape (Function n) m = function n (there c.world.heap.functions n m.0)
    has-shape (Future strand unit) m =
        let callable : IsCallable code unit = m.2.2 in
        let (u, eu) = unit-of unit callable in
        (no-results, tt, at-some (λ u. In code.atoms no-results (Atom u.1)) (slice_get (code_types code).units unit) (u.arrow, u.future) (types-of unit u eu) (in-future u (own-atoms unit u eu callable).1))

    -- ---- what stands for an error is one

    module _ (s : Shape) (is : (d : AtomDef) → ShapeFits code.atoms s d → (detail : SemType) × (d ≡ ErrorAtom detail)) where
      no-members : (m : Members) (d : AtomDef) → MembersBelong (code_types code) c.world.heap m d → ShapeFits code.atoms s d → ⊥
      no-members m d belong fits = let (detail, e) = is d fits in by m detail (subst (λ d. MembersBelong (code_types code) c.world.heap m d) e belong)
        where
          by : (m : Members) (detail : SemType) → MembersBelong (code_types code) c.world.heap m (ErrorAtom detail) → ⊥
          by (Items vs) detail h = h
          by (Entries es) detail h = h

      no-arrow : (u : CodeUnit) → IsSomeAnd (slice_get code.atoms u.arrow) (IsArrowOf code u) → IsSomeAnd (slice_get code.atoms u.arrow) (ShapeFits code.atoms s) → ⊥
      no-arrow u h k =
          let (d, e, arrow) = some-there (IsArrowOf code u) (slice_get code.atoms u.arrow) h in
          let (detail, ed) = is d (of-some (ShapeFits code.atoms s) (slice_get code.atoms u.arrow) d e k) in
          subst (λ d. IsArrowOf code u d) ed arrow

      no-future : (u : CodeUnit) → IsSomeAnd (slice_get code.atoms u.future) (IsFutureOf code u) → IsSomeAnd (slice_get code.atoms u.future) (ShapeFits code.atoms s) → ⊥
      no-future u h k =
          let (d, e, future) = some-there (IsFutureOf code u) (slice_get code.atoms u.future) h in
          let (detail, ed) = is d (of-some (ShapeFits code.atoms s) (slice_get code.atoms u.future) d e k) in
          subst (λ d. IsFutureOf code u d) ed future

    error-atom : (w : _) (detail : Shape) (d : AtomDef) → ShapeFits code.atoms (Error' w detail) d → (t : SemType) × (d ≡ ErrorAtom t)
    error-atom w detail (ErrorAtom t) h = (t, refl)
    error-atom w detail (ListAtom fixed rest) h = absurd h
    error-atom w detail (MappingAtom fields rest) h = absurd h
    error-atom w detail (Arrow args outcome alone) h = absurd h
    error-atom w detail (FutureAtom outcome) h = absurd h

    stands-error : (w : _) (detail : Shape) (v : Value) → IsMade code c v → StandsFor v (Error' w detail) → IsTrue (is_error v)
    stands-error w detail Nil m h = absurd h
    stands-error w detail (Truth b) m h = absurd h
    stands-error w detail (Int i) m h = absurd h
    stands-error w detail (Str s) m h = absurd h
    stands-error w detail (Error n) m h = refl
    stands-error w detail (Struct n) m h =
        let (s, e, stands) = some-there (λ x. StructureStands (code_types code) c.world.heap x.mutable x.atom n (Error' w detail)) (slice_get c.world.heap.structures n) h in
        absurd (by s.mutable s.atom s.members (all-at (IsWithinAtom code c) c.world.heap.structures n s good.mutable e) stands)
      where
        by : (mutable : Bool) (atom : Option ℕ) (members : Members) → (IsTrue mutable → IsSomeAnd atom (λ a. IsInherent code a × ((x : Shape) × IsValid x × IsUnmarked x × In code.atoms x (Atom a)) × IsSomeAnd (slice_get code.atoms a) (MembersBelong (code_types code) c.world.heap members))) →
            StructureStands (code_types code) c.world.heap mutable atom n (Error' w detail) → ⊥
        by true (Some a) members f (unmarked, inside) =
            let (known, shape, belong) = f refl in
            let (d, e, fits) = some-there (ShapeFits code.atoms (Error' w detail)) (slice_get code.atoms a) inside in
            no-members (Error' w detail) (error-atom w detail) members d (of-some (MembersBelong (code_types code) c.world.heap members) (slice_get code.atoms a) d e belong) fits
        by true None members f stands = stands.1
        by false atom members f stands = stands
    stands-error w detail (Function n) m h =
        let (f, e, k) = some-there (λ f. IsSomeAnd (slice_get (code_types code).units f.unit) (λ u. In code.atoms (Error' w detail) (Atom u.0))) (slice_get c.world.heap.functions n) h in
        let callable : IsCallable code f.unit = (all-at (IsWithinUnit code c) c.world.heap.functions n f good.functions e).0 in
        let (u, eu) = unit-of f.unit callable in
        absurd (no-arrow (Error' w detail) (error-atom w detail) u (own-atoms f.unit u eu callable).0 (of-some (λ u. In code.atoms (Error' w detail) (Atom u.0)) (slice_get (code_types code).units f.unit) (u.arrow, u.future) (types-of f.unit u eu) k))
    stands-error w detail (Future strand unit) m h =
        let callable : IsCallable code unit = m.2.2 in
        let (u, eu) = unit-of unit callable in
        absurd (no-future (Error' w detail) (error-atom w detail) u (own-atoms unit u eu callable).1 (of-some (λ u. In code.atoms (Error' w detail) (Atom u.1)) (slice_get (code_types code).units unit) (u.arrow, u.future) (types-of unit u eu) h))

    error-of : (v : Value) → IsMade code c v → (s : Shape) → StandsFor v s → IsError s → IsTrue (is_error v)
    error-of v m (Error' w detail) stands is = stands-error w detail v m stands
    error-of v m NilShape stands is = absurd is
    error-of v m (BoolShape b) stands is = absurd is
    error-of v m (IntShape i) stands is = absurd is
    error-of v m (StrShape t) stands is = absurd is
    error-of v m (List' mark _ items) stands is = absurd is
    error-of v m (Mapping' mark _ fields) stands is = absurd is
    error-of v m (FunctionShape isolated graph) stands is = absurd is
    error-of v m (Future' _ results) stands is = absurd is

    -- a value in a type of errors is an error
    pub an-error : (v : Value) (s : SemType) → Fits code c v s → IsWithin code.atoms IsError s → IsTrue (is_error v)
    an-error v s (closed, made, belongs) within =
        let (x, valid, stands) = has-shape v made in error-of v made x stands (within x (valid, belongs x valid stands))
