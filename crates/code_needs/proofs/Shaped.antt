-- Each operation takes as many operands as it should, and gives a result where it should: a line for each.
use Rattle.std.proofs.Common.{◌≡◌, ◌+◌, ℕ, suc, List, [], ◌∷◌, Option, Some, None, length, refl, ap, arith}
use Rattle.std.specs.Prelude.{IsSome, IsSomeAnd, slice_get, ⊤}
use Rattle.bal_base.specs.declared.shape.Shape.{Shape}
use Rattle.type_model.specs.declared.atoms.AtomDef.{AtomDef}
use Rattle.type_model.specs.declared.basic.SemType.{SemType}
use Rattle.operations.specs.declared.library.LibraryCall.{LibraryCall}
use Rattle.operations.specs.declared.library.LibraryCall.TheVariants as call
use Rattle.operations.specs.declared.operation.Operation.{Operation}
use Rattle.operations.specs.declared.operation.Operation.TheVariants as op
use Rattle.operations.specs.LibraryTyping.{LibraryTyped, MakesList}
use Rattle.operations.specs.Rows.{ResultHas, Surroundings}
use Rattle.operations.specs.Structures.{AwaitsAny, AwaitsEach}
use Rattle.operations.specs.Typing.{OnInts, OnStrings, OpTyped, Reads}
use Rattle.code_needs.specs.Stacks.{futures_in, gives, operand_count}
use Rattle.code_needs.proofs.Combined.{of-mapping}
use Rattle.code_needs.proofs.Counted.{GivesAs, either-of, more-long, none-long, one-long, pairs-long, some-of, there, three-long, two-long}

module _ (env : List AtomDef) where
  -- ---- the library

  list-there : (P : Shape → Type 0) (atom : Option ℕ) (result : Option SemType) → MakesList env atom P result → IsSome result
  list-there P atom result h = some-of atom (λ a k. there env _ result k.1) h

  library-there : (c : LibraryCall) (atom : Option ℕ) (operands : List SemType) (result : Option SemType) → LibraryTyped env c atom operands result → IsSome result
  library-there call.Println atom operands result h = there env _ result h.1
  library-there call.Print atom operands result h = there env _ result h.1
  library-there call.Readln atom operands result h = there env _ result h.1.1
  library-there call.FromString atom operands result h = (one-long operands (λ a k. there env _ result k.1.1) h).1
  library-there call.Abs atom operands result h = (one-long operands (λ a k. there env _ result k.1.1) h).1
  library-there call.ToString atom operands result h = (one-long operands (λ a k. there env _ result k.1) h).1
  library-there call.Clone atom operands result h = (one-long operands (λ a k. there env _ result k.1.1) h).1
  library-there call.CloneReadOnly atom operands result h = (one-long operands (λ a k. there env _ result k.1.1) h).1
  library-there call.StringLength atom operands result h = (one-long operands (λ a k. there env _ result k.1.1) h).1
  library-there call.StartsWith atom operands result h = (two-long operands (λ a b k. there env _ result k.2.1) h).1
  library-there call.Trim atom operands result h = (one-long operands (λ a k. there env _ result k.1.1) h).1
  library-there call.Substring atom operands result h = there env _ result h.1.1
  library-there call.ToUpperAscii atom operands result h = (one-long operands (λ a k. there env _ result k.1.1) h).1
  library-there call.ToLowerAscii atom operands result h = (one-long operands (λ a k. there env _ result k.1.1) h).1
  library-there call.ToCodePointInts atom operands result h = (one-long operands (λ a k. list-there _ atom result k.1) h).1
  library-there call.ListLength atom operands result h = (one-long operands (λ a k. there env _ result k.1.1) h).1
  library-there call.Push atom operands result h = more-long (λ n. IsSome result) operands (λ a rest k. there env _ result k.2.1) h
  library-there call.Pop atom operands result h = (one-long operands (λ a k. there env _ result k.1.1) h).1
  library-there call.RemoveItem atom operands result h = (two-long operands (λ a b k. there env _ result k.2.1) h).1
  library-there call.Slice atom operands result h = more-long (λ n. IsSome result) operands (λ a rest k. list-there _ atom result k) h.1
  library-there call.Reverse atom operands result h = (one-long operands (λ a k. list-there _ atom result k.1) h).1
  library-there call.MappingLength atom operands result h = (one-long operands (λ a k. there env _ result k.1.1) h).1
  library-there call.Keys atom operands result h = (one-long operands (λ a k. list-there _ atom result k.1) h).1
  library-there call.HasKey atom operands result h = (two-long operands (λ a b k. there env _ result k.2.1) h).1
  library-there call.Get atom operands result h = (two-long operands (λ a b k. there env _ result k.2.1) h).1
  library-there call.RemoveKey atom operands result h = (two-long operands (λ a b k. there env _ result k.2.1) h).1
  library-there call.Message atom operands result h = (one-long operands (λ a k. there env _ result k.1.1) h).1
  library-there call.Cause atom operands result h = (one-long operands (λ a k. there env _ result k.1.1) h).1
  library-there call.Detail atom operands result h = (one-long operands (λ a k. there env _ result k.1.1) h).1

  module _ (place : Surroundings) where
    -- ---- words

    ints-shaped : (P : Shape → Type 0) (operands : List SemType) (result : Option SemType) → OnInts env place operands P result → (length operands ≡ 2) × IsSome result
    ints-shaped P operands result h = two-long operands (λ a b k. there env _ result k.2) h

    strings-shaped : (P : Shape → Type 0) (operands : List SemType) (result : Option SemType) → OnStrings env place operands P result → (length operands ≡ 2) × IsSome result
    strings-shaped P operands result h = two-long operands (λ a b k. there env _ result k.2) h

    read-there : (held result : Option SemType) → Reads env place held result → IsSome result
    read-there held result h = some-of held (λ t k. there env _ result k) h

    awaits-long : (of_each : ℕ → (Shape → Type 0) → Type 0) (k : ℕ) (names : List (Option ℕ)) (operands : List SemType) → AwaitsEach env place of_each k names operands → length operands ≡ futures_in names
    awaits-long of_each k [] [] h = refl
    awaits-long of_each k [] (t ∷ more) h = absurd h
    awaits-long of_each k (Some w ∷ names) operands h = awaits-long of_each (k + 1) names operands h.2
    awaits-long of_each k (None ∷ names) (t ∷ more) h = ap suc (awaits-long of_each (k + 1) names more h.2)
    awaits-long of_each k (None ∷ names) [] h = absurd h

    -- what one name gives is in the result, so there is one
    awaits-there : (result : Option SemType) (k : ℕ) (name : Option ℕ) (names : List (Option ℕ)) (operands : List SemType) → AwaitsEach env place (λ k P. ResultHas env result P) k (name ∷ names) operands → IsSome result
    awaits-there result k (Some w) names operands h = there env _ result h.1
    awaits-there result k None names (t ∷ more) h = there env _ result h.1
    awaits-there result k None names [] h = absurd h

    any-shaped : (names : List (Option ℕ)) (operands : List SemType) (result : Option SemType) → AwaitsAny env place names operands result → (length operands ≡ futures_in names) × IsSome result
    any-shaped [] operands result h = absurd h
    any-shaped (name ∷ names) operands result h = (awaits-long (λ k P. ResultHas env result P) 0 (name ∷ names) operands h, awaits-there result 0 name names operands h)

    -- ---- operations

    pub typed-shape : (o : Operation) (operands : List SemType) (result : Option SemType) → OpTyped env place o operands result → (length operands ≡ operand_count o) × GivesAs (gives o) result
    typed-shape (op.Const c) operands result h = (none-long operands h.0, there env _ result h.1)
    typed-shape (op.Load slot) operands result h = (none-long operands h.0, read-there (slice_get place.slots slot) result h.1)
    typed-shape (op.Store slot) operands result h = ((one-long {R = ⊤} operands (λ a k. tt) h.0).0, h.1)
    typed-shape op.Pop operands result h = one-long operands (λ a k. k) h
    typed-shape (op.LoadModule m) operands result h = (none-long operands h.0, read-there (slice_get place.variables m) result h.1)
    typed-shape (op.StoreModule m) operands result h = ((one-long {R = ⊤} operands (λ a k. tt) h.0).0, h.1)
    typed-shape op.Tick operands result h = (none-long operands h.0, h.1)
    typed-shape op.Add operands result h = ints-shaped _ operands result h
    typed-shape op.Subtract operands result h = ints-shaped _ operands result h
    typed-shape op.Multiply operands result h = ints-shaped _ operands result h
    typed-shape op.Divide operands result h = ints-shaped _ operands result h
    typed-shape op.Remainder operands result h = ints-shaped _ operands result h
    typed-shape op.Negate operands result h = one-long operands (λ a k. there env _ result k.1) h
    typed-shape op.Concat operands result h = strings-shaped _ operands result h
    typed-shape op.Less operands result h = either-of (ints-shaped _ operands result) (strings-shaped _ operands result) h
    typed-shape op.LessEqual operands result h = either-of (ints-shaped _ operands result) (strings-shaped _ operands result) h
    typed-shape op.Not operands result h = one-long operands (λ a k. there env _ result k.1) h
    typed-shape op.Equal operands result h = two-long operands (λ a b k. there env _ result k.2) h
    typed-shape op.Same operands result h = two-long operands (λ a b k. there env _ result k) h
    typed-shape (op.MakeList atom immutable count) operands result h = (h.0, there env _ result h.3)
    typed-shape (op.MakeMapping atom immutable count) operands result h = pairs-long count operands _ (λ pairs k. there env _ result k.3) h
    typed-shape (op.MakeError count) operands result h =
        more-long (λ n. (n ≡ suc (suc (count + count))) × IsSome result) operands (λ message behind k.
        more-long (λ n. (suc n ≡ suc (suc (count + count))) × IsSome result) behind (λ cause details m.
        let q = pairs-long count details _ (λ pairs n. there env _ result n.3) m in let e : length details ≡ count + count = q.0 in (omega (arith, e), q.1)) k) h
    typed-shape (op.MakeFunction unit count) operands result h = (h.0, some-of (slice_get place.units unit) (λ u k. there env _ result k.1) h.1)
    typed-shape op.GetItem operands result h = two-long operands (λ a b k. there env _ result k.2) h
    typed-shape op.GetKey operands result h = two-long operands (λ a b k. there env _ result k.2) h
    typed-shape op.GetChar operands result h = two-long operands (λ a b k. there env _ result k.2) h
    typed-shape (op.GetField name) operands result h = one-long operands (λ a k. there env _ result k.1) h
    typed-shape (op.GetOptional name) operands result h = one-long operands (λ a k. there env _ result k.1) h
    typed-shape op.SetItem operands result h = ((three-long {R = ⊤} operands (λ a b c k. tt) h.0).0, h.1)
    typed-shape op.SetKey operands result h = ((three-long {R = ⊤} operands (λ a b c k. tt) h.0).0, h.1)
    typed-shape (op.Test t) operands result h = one-long operands (λ a k. there env _ result k) h
    typed-shape (op.Cast t) operands result h = one-long operands (λ a k. there env _ result k) h
    typed-shape (op.Call unit count) operands result h = (h.0, some-of (slice_get place.units unit) (λ u k. there env _ result k.1) h.1)
    typed-shape (op.CallValue count) operands result h =
        more-long (λ n. (n ≡ suc count) × IsSome result) operands (λ f args k. (ap suc k.0, there env _ result k.3)) h
    typed-shape (op.Library call atom count) operands result h = (h.0, library-there call atom operands result h.1)
    typed-shape op.Return operands result h = ((one-long {R = ⊤} operands (λ a k. tt) h.0).0, h.1)
    typed-shape op.Panic operands result h = ((one-long {R = ⊤} operands (λ a k. tt) h.0).0, h.1)
    typed-shape (op.Start unit count) operands result h = (h.0, some-of (slice_get place.units unit) (λ u k. there env _ result k.1) h.1)
    typed-shape (op.StartValue count) operands result h =
        more-long (λ n. (n ≡ suc count) × IsSome result) operands (λ f args k. (ap suc k.0, there env _ result k.3)) h
    typed-shape op.Workers operands result h = (none-long operands h.0, h.1)
    typed-shape (op.Send w) operands result h = one-long operands (λ a k. there env _ result k.1) h
    typed-shape (op.Post w) operands result h = one-long operands (λ a k. k.1) h
    typed-shape (op.Done w) operands result h = (none-long operands h.0, there env _ result h.1)
    typed-shape (op.Receive w) operands result h = (none-long operands h.0, h.1)
    typed-shape (op.Flush w) operands result h = (none-long operands h.0, there env _ result h.1)
    typed-shape (op.WaitWorker w) operands result h = (none-long operands h.0, there env _ result h.2)
    typed-shape op.WaitFuture operands result h = one-long operands (λ a k. there env _ result k.1) h
    typed-shape (op.WaitAny names) operands result h = any-shaped names operands result h
    typed-shape (op.WaitAll atom names) operands result h = (of-mapping env (slice_get env atom) (λ fields rest k. awaits-long (λ k P. IsSomeAnd (slice_get fields k) (λ f. ResultHas env (Some f.ty.sem) P)) 0 names operands k.1) h.0, there env _ result h.1)
