-- A good heap is served by a table of tests for the code.
use Rattle.std.proofs.Common.{◌≡◌, ◌∙◌, ap, ℕ, zero, suc, Bool, List, [], ◌∷◌, Some, arith}
use Rattle.std.specs.Prelude.{All, Contains, option_map, slice_get}
use Rattle.std.specs.List.{AllZip}
use Rattle.value_model.specs.declared.filler.Filler.{Filler}
use Rattle.value_model.specs.declared.value.Value.{Value}
use Rattle.value_model.specs.declared.value.Value.TheVariants.{Nil, Bool as Truth, Int, Str, Struct, Error, Function, Future}
use Rattle.value_model.specs.Heap.{FunctionObject, values_of}
use Rattle.value_model.specs.Table.{IsSound, KnowsUnit, KnowsValue, TestTable}
use Rattle.op_model.specs.Common.{Common}
use Rattle.stack_code.specs.declared.code.Code.{Code}
use Rattle.stack_code.specs.declared.code.Unit.{Unit as CodeUnit}
use Rattle.stack_code.specs.Tables.{IsCallable, IsInherent}
use Rattle.stack_code.specs.Values.{Fits, GoodHeap, IsMade, IsWithinAtom, IsWithinUnit}
use Rattle.code_keeping.specs.Laws.{GoodHeapsAreServed, table_for}
use Rattle.code_keeping.proofs.Lists.{all-at, at-some, some-there, there}
use Rattle.code_keeping.proofs.Shapes.{get-map}

pub all-to : {A : Type 0} (P Q : A → Type 0) → ((x : A) → P x → Q x) → (xs : List A) → All P xs → All Q xs
all-to P Q f xs h k d l = f _ (h k d l)

pub all-zipped : {A B : Type 0} (P : A → B → Type 0) (Q : A → Type 0) → ((x : A) (y : B) → P x y → Q x) → (xs : List A) (ys : List B) → AllZip P xs ys → All Q xs
all-zipped P Q f [] ys h k d l = absurd (omega (arith, l))
all-zipped P Q f (x ∷ xs) [] h k d l = absurd h
all-zipped P Q f (x ∷ xs) (y ∷ ys) (h, more) zero d l = f x y h
all-zipped P Q f (x ∷ xs) (y ∷ ys) (h, more) (suc k) d l = all-zipped P Q f xs ys more k d (omega (arith, l))

module _ (code : Code) (answers : List (List Bool)) (fillers : List (List Filler)) (c : Common) (good : GoodHeap code c) where
  abbrev t : TestTable
  t = table_for code answers fillers

  knows-unit : (n : ℕ) → IsCallable code n → KnowsUnit t n
  knows-unit n (known, worker, initialiser) =
      let (u, e, h) = some-there (λ u. IsInherent code u.arrow × IsInherent code u.future) (slice_get code.units n) known in
      at-some (λ u. Contains code.inherent u.0 × Contains code.inherent u.1) (slice_get t.units n) (u.arrow, u.future) (mapped n u e) h
    where
      mapped : (n : ℕ) (u : CodeUnit) → slice_get code.units n ≡ Some u → slice_get t.units n ≡ Some (u.arrow, u.future)
      mapped n u e = get-map (λ u. (u.arrow, u.future)) code.units n ∙ ap (λ o. option_map (λ u. (u.arrow, u.future)) o) e

  function-at : (n : ℕ) (f : FunctionObject) → slice_get c.world.heap.functions n ≡ Some f → IsCallable code f.unit
  function-at n f e = (all-at (IsWithinUnit code c) c.world.heap.functions n f good.functions e).0

  knows-value : (v : Value) → IsMade code c v → KnowsValue t c.world.heap v
  knows-value Nil m = tt
  knows-value (Truth b) m = tt
  knows-value (Int i) m = tt
  knows-value (Str s) m = tt
  knows-value (Struct n) m = tt
  knows-value (Error n) m = tt
  knows-value (Function n) m =
      let (f, e) = there c.world.heap.functions n m.0 in
      at-some (λ f. KnowsUnit t f.unit) (slice_get c.world.heap.functions n) f e (knows-unit f.unit (function-at n f e))
  knows-value (Future strand unit) m = knows-unit unit m.2.2

  known-function : (f : FunctionObject) → IsWithinUnit code c f → KnowsUnit t f.unit × All (KnowsValue t c.world.heap) f.captured
  known-function f (callable, fit) =
      let (u, e, h) = some-there (λ u. AllZip (Fits code c) f.captured u.captured) (slice_get code.units f.unit) fit in
      (knows-unit f.unit callable, all-zipped (Fits code c) (KnowsValue t c.world.heap) (λ v s k. knows-value v k.1) f.captured u.captured h)

pub good-heaps-are-served : GoodHeapsAreServed
good-heaps-are-served code answers fillers c good =
    record {
      structures = all-to (IsWithinAtom code c) (IsSound (table_for code answers fillers) c.world.heap) (λ s h. h) c.world.heap.structures good.mutable;
      members = all-to (λ s. All (IsMade code c) (values_of s.members)) (λ s. All (KnowsValue (table_for code answers fillers) c.world.heap) (values_of s.members))
          (λ s h. all-to (IsMade code c) (KnowsValue (table_for code answers fillers) c.world.heap) (knows-value code answers fillers c good) (values_of s.members) h) c.world.heap.structures good.members;
      functions = all-to (IsWithinUnit code c) (λ f. KnowsUnit (table_for code answers fillers) f.unit × All (KnowsValue (table_for code answers fillers) c.world.heap) f.captured) (known-function code answers fillers c good) c.world.heap.functions good.functions;
    }
