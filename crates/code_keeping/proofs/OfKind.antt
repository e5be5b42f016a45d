-- All shapes that a value stands for are of its kind; so operands in types of a kind are of that kind.
use Rattle.std.proofs.Common.{◌≡◌, ◌∙◌, ℤ, ℕ, Bool, true, false, List, Option, Some, None, refl, sym, ap, subst}
use Rattle.std.specs.Prelude.{IsFalse, IsSomeAnd, IsTrue, slice_get}
use Rattle.bal_base.specs.declared.shape.Shape.{Shape, Nil as NilShape, Bool as BoolShape, Int as IntShape, Str as StrShape, List', Mapping', Error', Function as FunctionShape, Future'}
use Rattle.bal_base.specs.declared.text.Text.{Text}
use Rattle.bal_base.specs.Valid.{IsValid}
use Rattle.type_model.specs.declared.atoms.AtomDef.{AtomDef}
use Rattle.type_model.specs.declared.atoms.AtomDef.TheVariants.{List as ListAtom, Mapping as MappingAtom, Arrow, Error as ErrorAtom, Future as FutureAtom}
use Rattle.type_model.specs.declared.basic.SemType.{SemType, Atom}
use Rattle.type_model.specs.Membership.{Fits as ShapeFits, In}
use Rattle.operations.specs.declared.operation.Constant.TheVariants.{Nil as NilConstant, Bool as BoolConstant, Int as IntConstant, Str as StrConstant}
use Rattle.operations.specs.Rows.{IsWithin}
use Rattle.value_model.specs.declared.value.Value.{Value}
use Rattle.value_model.specs.declared.value.Value.TheVariants.{Nil, Bool as Truth, Int, Str, Struct, Error, Function, Future}
use Rattle.value_model.specs.Heap.{Entries, FunctionObject, Heap, Items, Members, Structure}
use Rattle.value_model.specs.Stands.{HasShape, IsUnmarked, MembersBelong, Stands, StructureStands}
use Rattle.op_model.specs.Common.{Common}
use Rattle.stack_code.specs.declared.code.Code.{Code}
use Rattle.stack_code.specs.declared.code.Unit.{Unit as CodeUnit}
use Rattle.stack_code.specs.Tables.{IsArrowOf, IsCallable, IsFutureOf, IsInherent}
use Rattle.stack_code.specs.Values.{Fits, GoodHeap, IsMade, IsWithinAtom, IsWithinUnit, code_types}
use Rattle.stack_code.specs.WellTyped.{WellTyped}
use Rattle.code_keeping.specs.Kinds.{Booleans, Errors, Functions, Futures, Ints, Kind, Lists, Mappings, Nils, Nothings, Strings, kind_of, members_kind, structure_kind, value_kind}
use Rattle.code_keeping.specs.Laws.{OperandsAreOfKinds}
use Rattle.code_keeping.proofs.Itself.{its-shape}
use Rattle.code_keeping.proofs.Lists.{all-at, of-some, some-there, there}
use Rattle.code_keeping.proofs.Shapes.{has-shape, own-atoms, types-of, unit-of}

-- ---- shapes of atoms

list-kind : (env : List AtomDef) (x : Shape) (fixed : _) (rest : _) → ShapeFits env x (ListAtom fixed rest) → Lists ≡ kind_of x
list-kind env (List' mark _ items) fixed rest h = refl
list-kind env NilShape fixed rest h = absurd h
list-kind env (BoolShape b) fixed rest h = absurd h
list-kind env (IntShape i) fixed rest h = absurd h
list-kind env (StrShape s) fixed rest h = absurd h
list-kind env (Mapping' mark _ fields) fixed rest h = absurd h
list-kind env (Error' _ detail) fixed rest h = absurd h
list-kind env (FunctionShape isolated graph) fixed rest h = absurd h
list-kind env (Future' _ results) fixed rest h = absurd h

mapping-kind : (env : List AtomDef) (x : Shape) (fields : _) (rest : _) → ShapeFits env x (MappingAtom fields rest) → Mappings ≡ kind_of x
mapping-kind env (Mapping' mark _ members) fields rest h = refl
mapping-kind env NilShape fields rest h = absurd h
mapping-kind env (BoolShape b) fields rest h = absurd h
mapping-kind env (IntShape i) fields rest h = absurd h
mapping-kind env (StrShape s) fields rest h = absurd h
mapping-kind env (List' mark _ items) fields rest h = absurd h
mapping-kind env (Error' _ detail) fields rest h = absurd h
mapping-kind env (FunctionShape isolated graph) fields rest h = absurd h
mapping-kind env (Future' _ results) fields rest h = absurd h

arrow-kind : (env : List AtomDef) (x : Shape) (args outcome : _) (alone : Bool) → ShapeFits env x (Arrow args outcome alone) → Functions ≡ kind_of x
arrow-kind env (FunctionShape isolated graph) args outcome alone h = refl
arrow-kind env NilShape args outcome alone h = absurd h
arrow-kind env (BoolShape b) args outcome alone h = absurd h
arrow-kind env (IntShape i) args outcome alone h = absurd h
arrow-kind env (StrShape s) args outcome alone h = absurd h
arrow-kind env (List' mark _ items) args outcome alone h = absurd h
arrow-kind env (Mapping' mark _ fields) args outcome alone h = absurd h
arrow-kind env (Error' _ detail) args outcome alone h = absurd h
arrow-kind env (Future' _ results) args outcome alone h = absurd h

future-kind : (env : List AtomDef) (x : Shape) (outcome : _) → ShapeFits env x (FutureAtom outcome) → Futures ≡ kind_of x
future-kind env (Future' _ results) outcome h = refl
future-kind env NilShape outcome h = absurd h
future-kind env (BoolShape b) outcome h = absurd h
future-kind env (IntShape i) outcome h = absurd h
future-kind env (StrShape s) outcome h = absurd h
future-kind env (List' mark _ items) outcome h = absurd h
future-kind env (Mapping' mark _ fields) outcome h = absurd h
future-kind env (Error' _ detail) outcome h = absurd h
future-kind env (FunctionShape isolated graph) outcome h = absurd h

of-arrow : (code : Code) (u : CodeUnit) (x : Shape) (d : AtomDef) → IsArrowOf code u d → ShapeFits code.atoms x d → Functions ≡ kind_of x
of-arrow code u x (Arrow args outcome alone) h k = arrow-kind code.atoms x args outcome alone k
of-arrow code u x (ListAtom fixed rest) h k = absurd h
of-arrow code u x (MappingAtom fields rest) h k = absurd h
of-arrow code u x (ErrorAtom detail) h k = absurd h
of-arrow code u x (FutureAtom outcome) h k = absurd h

of-future : (code : Code) (u : CodeUnit) (x : Shape) (d : AtomDef) → IsFutureOf code u d → ShapeFits code.atoms x d → Futures ≡ kind_of x
of-future code u x (FutureAtom outcome) h k = future-kind code.atoms x outcome k
of-future code u x (ListAtom fixed rest) h k = absurd h
of-future code u x (MappingAtom fields rest) h k = absurd h
of-future code u x (ErrorAtom detail) h k = absurd h
of-future code u x (Arrow args outcome alone) h k = absurd h

of-error : (h : Heap) (n : ℕ) (x : Shape) → HasShape h x (Error n) → Errors ≡ kind_of x
of-error h n (Error' _ detail) k = refl
of-error h n NilShape k = absurd (let q : ⊥ = cc in q)
of-error h n (BoolShape b) k = absurd (let q : ⊥ = cc in q)
of-error h n (IntShape i) k = absurd (let q : ⊥ = cc in q)
of-error h n (StrShape s) k = absurd (let q : ⊥ = cc in q)
of-error h n (List' mark _ items) k = absurd k.1
of-error h n (Mapping' mark _ fields) k = absurd k.1
of-error h n (FunctionShape isolated graph) k = absurd k
of-error h n (Future' _ results) k = absurd k

module _ (code : Code) (t : WellTyped code) (c : Common) (good : GoodHeap code c) where
  abbrev heap : Heap
  heap = c.world.heap

  -- ---- structures

  of-members : (m : Members) (d : AtomDef) (x : Shape) → MembersBelong (code_types code) heap m d → ShapeFits code.atoms x d → members_kind m ≡ kind_of x
  of-members (Items vs) (ListAtom fixed rest) x b k = list-kind code.atoms x fixed rest k
  of-members (Entries es) (MappingAtom fields rest) x b k = mapping-kind code.atoms x fields rest k
  of-members (Items vs) (MappingAtom fields rest) x b k = absurd b
  of-members (Items vs) (Arrow args outcome alone) x b k = absurd b
  of-members (Items vs) (ErrorAtom detail) x b k = absurd b
  of-members (Items vs) (FutureAtom outcome) x b k = absurd b
  of-members (Entries es) (ListAtom fixed rest) x b k = absurd b
  of-members (Entries es) (Arrow args outcome alone) x b k = absurd b
  of-members (Entries es) (ErrorAtom detail) x b k = absurd b
  of-members (Entries es) (FutureAtom outcome) x b k = absurd b

  items-kind : (m : Members) (P : List Value → Type 0) → Rattle.value_model.specs.Stands.IsList heap P m → members_kind m ≡ Lists
  items-kind (Items vs) P h = refl
  items-kind (Entries es) P h = absurd h

  entries-kind : (m : Members) (P : _) → Rattle.value_model.specs.Stands.IsMapping heap P m → members_kind m ≡ Mappings
  entries-kind (Items vs) P h = absurd h
  entries-kind (Entries es) P h = refl

  of-frozen : (n : ℕ) (s : Structure) → slice_get heap.structures n ≡ Some s → (x : Shape) → HasShape heap x (Struct n) → members_kind s.members ≡ kind_of x
  of-frozen n s e (List' mark _ items) (is, h) = items-kind s.members _ (of-some _ (slice_get heap.structures n) s e h).1
  of-frozen n s e (Mapping' mark _ fields) (is, h) = entries-kind s.members _ (of-some _ (slice_get heap.structures n) s e h).1
  of-frozen n s e NilShape h = absurd (let q : ⊥ = cc in q)
  of-frozen n s e (BoolShape b) h = absurd (let q : ⊥ = cc in q)
  of-frozen n s e (IntShape i) h = absurd (let q : ⊥ = cc in q)
  of-frozen n s e (StrShape z) h = absurd (let q : ⊥ = cc in q)
  of-frozen n s e (Error' _ detail) h = absurd h
  of-frozen n s e (FunctionShape isolated graph) h = absurd h
  of-frozen n s e (Future' _ results) h = absurd h

  abbrev Sound : Bool → Option ℕ → Members → Type 0
  Sound mutable atom members =
      IsTrue mutable → IsSomeAnd atom (λ a. IsInherent code a × ((x : Shape) × IsValid x × IsUnmarked x × In code.atoms x (Atom a)) × IsSomeAnd (slice_get code.atoms a) (MembersBelong (code_types code) heap members))

  of-structure : (n : ℕ) (s : Structure) → slice_get heap.structures n ≡ Some s → (x : Shape) (mutable : Bool) (atom : Option ℕ) → Sound mutable atom s.members → StructureStands (code_types code) heap mutable atom n x → members_kind s.members ≡ kind_of x
  of-structure n s e x true (Some a) sound (unmarked, inside) =
      let (known, shape, belong) = sound refl in
      let (d, ed, fits) = some-there (ShapeFits code.atoms x) (slice_get code.atoms a) inside in
      of-members s.members d x (of-some (MembersBelong (code_types code) heap s.members) (slice_get code.atoms a) d ed belong) fits
  of-structure n s e x true None sound stands = absurd (sound refl)
  of-structure n s e x false atom sound stands = of-frozen n s e x stands

  -- ---- each value

  pub same-kind : (v : Value) → IsMade code c v → (x : Shape) → Stands (code_types code) heap v x → value_kind heap v ≡ kind_of x
  same-kind Nil m x h = sym (ap kind_of (its-shape code c NilConstant x h))
  same-kind (Truth b) m x h = sym (ap kind_of (its-shape code c (BoolConstant b) x h))
  same-kind (Int i) m x h = sym (ap kind_of (its-shape code c (IntConstant i) x h))
  same-kind (Str s) m x h = sym (ap kind_of (its-shape code c (StrConstant s) x h))
  same-kind (Struct n) m x h =
      let (s, e) = there heap.structures n m.0 in
      ap structure_kind e ∙ of-structure n s e x s.mutable s.atom (all-at (IsWithinAtom code c) heap.structures n s good.mutable e) (of-some (λ y. StructureStands (code_types code) heap y.mutable y.atom n x) (slice_get heap.structures n) s e h)
  same-kind (Error n) m x h = of-error heap n x h
  same-kind (Function n) m x h =
      let (f, e) = there heap.functions n m.0 in
      let callable : IsCallable code f.unit = (all-at (IsWithinUnit code c) heap.functions n f good.functions e).0 in
      let (u, eu) = unit-of code t f.unit callable in
      let inside = of-some (λ u. In code.atoms x (Atom u.0)) (slice_get (code_types code).units f.unit) (u.arrow, u.future) (types-of code t f.unit u eu) (of-some (λ f. IsSomeAnd (slice_get (code_types code).units f.unit) (λ u. In code.atoms x (Atom u.0))) (slice_get heap.functions n) f e h) in
      let (d, ed, arrow) = some-there (IsArrowOf code u) (slice_get code.atoms u.arrow) (own-atoms code t f.unit u eu callable).0 in
      of-arrow code u x d arrow (of-some (ShapeFits code.atoms x) (slice_get code.atoms u.arrow) d ed inside)
  same-kind (Future strand unit) m x h =
      let callable : IsCallable code unit = m.2.2 in
      let (u, eu) = unit-of code t unit callable in
      let inside = of-some (λ u. In code.atoms x (Atom u.1)) (slice_get (code_types code).units unit) (u.arrow, u.future) (types-of code t unit u eu) h in
      let (d, ed, future) = some-there (IsFutureOf code u) (slice_get code.atoms u.future) (own-atoms code t unit u eu callable).1 in
      of-future code u x d future (of-some (ShapeFits code.atoms x) (slice_get code.atoms u.future) d ed inside)

  -- ---- the inversion

  -- a value of a type all of whose shapes are of such kinds is of such a kind
  pub of-kind : (P : Kind → Type 0) (v : Value) (s : SemType) → Fits code c v s → IsWithin code.atoms (λ x. P (kind_of x)) s → P (value_kind heap v)
  of-kind P v s (closed, made, belongs) within =
      let (x, valid, stands) = has-shape code t c good v made in subst P (sym (same-kind v made x stands)) (within x (valid, belongs x valid stands))

pub operands-are-of-kinds : OperandsAreOfKinds
operands-are-of-kinds code c v s among t good fits within = of-kind code t c good (λ k. IsTrue (among k)) v s fits within
