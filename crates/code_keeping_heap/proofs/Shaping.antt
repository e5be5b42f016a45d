-- Shapes of lists, put together of those of their items.
use Rattle.std.proofs.Common.{◌≡◌, ◌<◌, ◌≤◌, ◌^◌, ℕ, zero, suc, Bool, true, false, List, [], ◌∷◌, Option, Some, None, length, refl, sym, ap, subst, arith}
use Rattle.std.proofs.lemmas.List.Elements.{All-cons, All-nil}
use Rattle.std.specs.Prelude.{All, IsFalse, IsTrue, get_or, slice_get, slice_set}
use Rattle.std.specs.List.{AllZip}
use Rattle.std.specs.Ptr.{null_ptr}
use Rattle.bal_base.specs.declared.shape.Shape.{Shape, Nil as NilShape, Bool as BoolShape, Int as IntShape, Str as StrShape, List as AList, List', Mapping', Error', Function as FunctionShape, Future', Row_of-Shape, end_of-Shape, more_of-Shape, items-the_row-Shape as shapes_in, items_hidden-the_row-Shape-0}
use Rattle.bal_base.specs.declared.shape.Shapes.{Shapes}
use Rattle.bal_base.specs.Valid.{IsFrozen, IsValid}
use Rattle.bal_base.proofs.Rows.{IsValid-List, row_of}
use Rattle.type_model.specs.declared.atoms.AtomDef.{AtomDef}
use Rattle.type_model.specs.declared.atoms.AtomDef.TheVariants.{List as ListAtom}
use Rattle.type_model.specs.declared.basic.SemType.{SemType, Atom}
use Rattle.type_model.specs.declared.basic.Ty.{Ty}
use Rattle.type_model.specs.Elements.{ItemsIn}
use Rattle.type_model.specs.Membership.{Fits as ShapeFits, In}
use Rattle.type_model.specs.Places.{item_type}
use Rattle.type_model.proofs.Unfolding.{Fits-List}
use Rattle.value_model.specs.declared.value.Value.{Value}
use Rattle.value_model.specs.declared.value.Value.TheVariants.{Nil, Bool as Truth, Int, Str, Struct, Error, Function, Future}
use Rattle.value_model.specs.Heap.{Heap, Items, Structure}
use Rattle.value_model.specs.Stands.{Belongs, BelongsIf, HasShape, HaveShapes, IsList, IsUnmarked, Stands, StructureStands}
use Rattle.op_model.specs.Common.{Common}
use Rattle.machine_model.proofs.Once.{some-same}
use Rattle.operations.specs.Rows.{IsWithin}
use Rattle.stack_code.specs.declared.code.Code.{Code}
use Rattle.stack_code.specs.Values.{AllFit, GoodHeap, IsMade, code_types}
use Rattle.stack_code.specs.WellTyped.{WellTyped}
use Rattle.code_keeping.specs.Kinds.{Functions, Futures, kind_of}
use Rattle.code_keeping.proofs.Changing.{or-there}
use Rattle.code_keeping.proofs.Lists.{at-some, some-there, some-to, there}
use Rattle.code_keeping.proofs.OfKind.{same-kind}
use Rattle.code_keeping.proofs.Shapes.{has-shape}

-- ---- pairs of lists

pub zip-second : {A B : Type 0} (P : A → B → Type 0) (Q : B → Type 0) → ((a : A) (b : B) → P a b → Q b) → (xs : List A) (ys : List B) → AllZip P xs ys → All Q ys
zip-second P Q f [] [] h = All-nil Q
zip-second P Q f [] (y ∷ ys) h = absurd h
zip-second P Q f (x ∷ xs) [] h = absurd h
zip-second P Q f (x ∷ xs) (y ∷ ys) h = All-cons Q y ys (f x y h.0) (zip-second P Q f xs ys h.1)

pub zip-long : {A B : Type 0} (P : A → B → Type 0) (xs : List A) (ys : List B) → AllZip P xs ys → length xs ≡ length ys
zip-long P [] [] h = refl
zip-long P [] (y ∷ ys) h = absurd h
zip-long P (x ∷ xs) [] h = absurd h
zip-long P (x ∷ xs) (y ∷ ys) h = ap suc (zip-long P xs ys h.1)

-- what stands at a place of the second list, stands with what stands there in the first one
pub zip-at : {A B : Type 0} (P : A → B → Type 0) (xs : List A) (ys : List B) (i : ℕ) (y : B) → AllZip P xs ys → slice_get ys i ≡ Some y → (x : A) × (slice_get xs i ≡ Some x) × P x y
zip-at P [] [] i y h e = absurd (let q : ⊥ = cc in q)
zip-at P [] (z ∷ ys) i y h e = absurd h
zip-at P (x ∷ xs) [] i y h e = absurd h
zip-at P (x ∷ xs) (z ∷ ys) zero y h e = (x, refl, subst (λ w. P x w) (some-same z y e) h.0)
zip-at P (x ∷ xs) (z ∷ ys) (suc i) y h e = zip-at P xs ys i y h.1 e

-- at one place another one stands
pub zip-set : {A B : Type 0} (P : A → B → Type 0) (xs : List A) (ys : List B) (i : ℕ) (x : A) (y : B) → AllZip P xs ys → slice_get xs i ≡ Some x → P x y → AllZip P xs (slice_set ys i y) × (slice_get (slice_set ys i y) i ≡ Some y)
zip-set P [] ys i x y h e p = absurd (let q : ⊥ = cc in q)
zip-set P (z ∷ xs) [] i x y h e p = absurd h
zip-set P (z ∷ xs) (w ∷ ys) zero x y h e p = ((subst (λ v. P v y) (sym (some-same z x e)) p, h.1), refl)
zip-set P (z ∷ xs) (w ∷ ys) (suc i) x y h e p = let (all, is) = zip-set P xs ys i x y h.1 e p in ((h.0, all), is)

-- ---- a list with such items

abbrev pub shapes-of : (xs : List Shape) → length xs < 2 ^ 63 → Shapes
shapes-of xs small = record { items = record { ptr = null_ptr; len = length xs; cap = length xs; alloc = record { memory = _ }; items = xs; ok = (refl, omega arith); small = small } }

abbrev pub list-of : Bool → (xs : List Shape) → length xs < 2 ^ 63 → Shape
list-of mark xs small = AList mark (shapes-of xs small)

module _ (h : Heap) where
  row-has : (n : _) (row : Row_of-Shape n) (vs : List Value) → AllZip (λ v x. HasShape h x v) vs (shapes_in n row) → HaveShapes h row vs
  row-has n end_of-Shape [] all = refl
  row-has n end_of-Shape (v ∷ vs) all = absurd all
  row-has n (more_of-Shape x xs) [] all = absurd all
  row-has n (more_of-Shape x xs) (v ∷ vs) all = (all.0, row-has _ xs vs all.1)

  -- that an immutable one has, where its items have those of the list
  pub list-stands : (n : ℕ) (s : Structure) (vs : List Value) (xs : List Shape) (small : length xs < 2 ^ 63) → slice_get h.structures n ≡ Some s → IsFalse s.mutable → s.members ≡ Items vs → AllZip (λ v x. HasShape h x v) vs xs →
      HasShape h (list-of true xs small) (Struct n)
  list-stands n s vs xs small e frozen is all =
      let row = row_of (list-of true xs small) in (
        refl,
        at-some (λ s. IsFalse s.mutable × IsList h (HaveShapes h row.1) s.members) (slice_get h.structures n) s e
            (frozen, subst (λ m. IsList h (HaveShapes h row.1) m) (sym is) (row-has row.0 row.1 vs (subst (λ ys. AllZip (λ v x. HasShape h x v) vs ys) (sym (items_hidden-the_row-Shape-0 (shapes-of xs small).items)) all))),
      )

pub list-valid : (mark : Bool) (xs : List Shape) (small : length xs < 2 ^ 63) → (IsTrue mark → All IsFrozen xs) → All IsValid xs → IsValid (list-of mark xs small)
list-valid mark xs small frozen valid = (IsValid-List mark (shapes-of xs small)).1 (frozen, valid)

module _ (code : Code) (c : Common) where
  -- the shape is valid, and the value stands for it
  abbrev pub IsShown : Value → Shape → Type 0
  IsShown v x = IsValid x × Stands (code_types code) c.world.heap v x

  pub all-shown : WellTyped code → GoodHeap code c → (vs : List Value) → All (IsMade code c) vs → (xs : List Shape) × AllZip IsShown vs xs
  all-shown t good [] made = ([], tt)
  all-shown t good (v ∷ vs) made =
      let (x, valid, stands) = has-shape code t c good v (made 0 v (omega arith)) in
      let (xs, shown) = all-shown t good vs (λ k d l. made (suc k) d (omega (arith, l))) in
      (x ∷ xs, ((valid, stands), shown))

  -- each is in the type of its place, where the items are
  pub items-in : (vs : List Value) (xs : List Shape) (fixed : List Ty) (rest : Option Ty) → AllZip IsShown vs xs → ((i : ℕ) (v : Value) → slice_get vs i ≡ Some v → BelongsIf (code_types code) c.world.heap v (item_type fixed rest i)) → ItemsIn code.atoms xs fixed rest
  items-in vs xs fixed rest shown each i d l =
      let (x, ex) = there xs i l in
      let (v, ev, is) = zip-at IsShown vs xs i x shown ex in
      some-to (λ u. Belongs (code_types code) c.world.heap v u.sem) (λ u. In code.atoms (get_or xs i d) u.sem) (item_type fixed rest i) (λ u b. subst (λ y. In code.atoms y u.sem) (sym (or-there xs i x d ex)) (b x is.0 is.1)) (each i v ev)

  pub list-in : (mark : Bool) (vs : List Value) (xs : List Shape) (small : length xs < 2 ^ 63) (fixed : List Ty) (rest : Option Ty) (a : ℕ) → slice_get code.atoms a ≡ Some (ListAtom fixed rest) → AllZip IsShown vs xs → length fixed ≤ length vs →
      ((i : ℕ) (v : Value) → slice_get vs i ≡ Some v → BelongsIf (code_types code) c.world.heap v (item_type fixed rest i)) → In code.atoms (list-of mark xs small) (Atom a)
  list-in mark vs xs small fixed rest a e shown long each =
      at-some (ShapeFits code.atoms (list-of mark xs small)) (slice_get code.atoms a) (ListAtom fixed rest) e
      ((Fits-List code.atoms mark (shapes-of xs small) (ListAtom fixed rest)).1 (subst (λ n. length fixed ≤ n) (zip-long IsShown vs xs shown) long, items-in vs xs fixed rest shown each))

-- ---- values that may stand in an immutable structure

no-function : (x : Shape) → IsFrozen x → kind_of x ≡ Functions → ⊥
no-function NilShape f e = let q : ⊥ = cc in q
no-function (BoolShape b) f e = let q : ⊥ = cc in q
no-function (IntShape i) f e = let q : ⊥ = cc in q
no-function (StrShape t) f e = let q : ⊥ = cc in q
no-function (List' mark _ items) f e = let q : ⊥ = cc in q
no-function (Mapping' mark _ fields) f e = let q : ⊥ = cc in q
no-function (Error' _ detail) f e = f
no-function (FunctionShape isolated graph) f e = f
no-function (Future' _ results) f e = f

no-future : (x : Shape) → IsFrozen x → kind_of x ≡ Futures → ⊥
no-future NilShape f e = let q : ⊥ = cc in q
no-future (BoolShape b) f e = let q : ⊥ = cc in q
no-future (IntShape i) f e = let q : ⊥ = cc in q
no-future (StrShape t) f e = let q : ⊥ = cc in q
no-future (List' mark _ items) f e = let q : ⊥ = cc in q
no-future (Mapping' mark _ fields) f e = let q : ⊥ = cc in q
no-future (Error' _ detail) f e = f
no-future (FunctionShape isolated graph) f e = f
no-future (Future' _ results) f e = f

not-both : (m : Bool) → IsTrue m → IsFalse m → ⊥
not-both true t f = let q : ⊥ = cc in q
not-both false t f = let q : ⊥ = cc in q

-- what is in an atom and may stand in an immutable structure is marked
no-unmarked : (env : List AtomDef) (x : Shape) (a : ℕ) → IsFrozen x → IsUnmarked x → In env x (Atom a) → ⊥
no-unmarked env (List' mark _ items) a f u h = not-both mark f u
no-unmarked env (Mapping' mark _ fields) a f u h = not-both mark f u
no-unmarked env NilShape a f u h = let (d, e, k) = some-there (ShapeFits env NilShape) (slice_get env a) h in k
no-unmarked env (BoolShape b) a f u h = let (d, e, k) = some-there (ShapeFits env (BoolShape b)) (slice_get env a) h in k
no-unmarked env (IntShape i) a f u h = let (d, e, k) = some-there (ShapeFits env (IntShape i)) (slice_get env a) h in k
no-unmarked env (StrShape t) a f u h = let (d, e, k) = some-there (ShapeFits env (StrShape t)) (slice_get env a) h in k
no-unmarked env (Error' _ detail) a f u h = f
no-unmarked env (FunctionShape isolated graph) a f u h = f
no-unmarked env (Future' _ results) a f u h = f

module _ (code : Code) (t : WellTyped code) (c : Common) (good : GoodHeap code c) where
  -- a value that stands for a shape that is immutable data has it
  pub has-frozen : (v : Value) → IsMade code c v → (x : Shape) → IsFrozen x → Stands (code_types code) c.world.heap v x → HasShape c.world.heap x v
  has-frozen Nil m x f h = h
  has-frozen (Truth b) m x f h = h
  has-frozen (Int i) m x f h = h
  has-frozen (Str s) m x f h = h
  has-frozen (Error n) m x f h = h
  has-frozen (Function n) m x f h = absurd (no-function x f (sym (same-kind code t c good (Function n) m x h)))
  has-frozen (Future n unit) m x f h = absurd (no-future x f (sym (same-kind code t c good (Future n unit) m x h)))
  has-frozen (Struct n) m x f h =
      let (s, e, k) = some-there (λ s. StructureStands (code_types code) c.world.heap s.mutable s.atom n x) (slice_get c.world.heap.structures n) h in by s.mutable s.atom k
    where
      by : (m : Bool) (atom : Option ℕ) → StructureStands (code_types code) c.world.heap m atom n x → HasShape c.world.heap x (Struct n)
      by false atom k = k
      by true None k = absurd k.1
      by true (Some a) k = absurd (no-unmarked code.atoms x a f k.0 k.1)

  -- so one all of whose shapes in a type are immutable data has a shape, which is immutable data
  pub all-frozen : (vs : List Value) (ts : List SemType) → AllFit code c vs ts → All (IsWithin code.atoms IsFrozen) ts → (xs : List Shape) × AllZip (λ v x. IsShown code c v x × IsFrozen x × HasShape c.world.heap x v) vs xs
  all-frozen [] [] fit within = ([], tt)
  all-frozen [] (s ∷ ts) fit within = absurd fit
  all-frozen (v ∷ vs) [] fit within = absurd fit
  all-frozen (v ∷ vs) (s ∷ ts) ((closed-heap, made, belongs), fit) within =
      let (x, valid, stands) = has-shape code t c good v made in
      let frozen : IsFrozen x = within 0 s (omega arith) x (valid, belongs x valid stands) in
      let (xs, rest) = all-frozen vs ts fit (λ k d l. within (suc k) d (omega (arith, l))) in
      (x ∷ xs, (((valid, stands), frozen, has-frozen v made x frozen stands), rest))
