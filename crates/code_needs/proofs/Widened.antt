-- What an operation gives in a type it gives in each wider one: a line for each.
use Rattle.std.proofs.Common.{◌⊎◌, ◌+◌, ℕ, List, [], ◌∷◌, Option, Some, None, inl, inr, refl}
use Rattle.std.specs.Prelude.{slice_get}
use Rattle.bal_base.specs.declared.shape.Shape.{Shape}
use Rattle.type_model.specs.declared.atoms.AtomDef.{AtomDef}
use Rattle.type_model.specs.declared.basic.SemType.{SemType}
use Rattle.type_model.specs.Inclusion.{Sub}
use Rattle.operations.specs.declared.library.LibraryCall.{LibraryCall}
use Rattle.operations.specs.declared.library.LibraryCall.TheVariants as call
use Rattle.operations.specs.declared.operation.Operation.{Operation}
use Rattle.operations.specs.declared.operation.Operation.TheVariants as op
use Rattle.operations.specs.LibraryTyping.{LibraryTyped, MakesList, MakesNone}
use Rattle.operations.specs.Rows.{ResultHas, Surroundings}
use Rattle.operations.specs.Structures.{AwaitsAny, AwaitsEach}
use Rattle.operations.specs.Typing.{OnInts, OnStrings, OpTyped, Reads}
use Rattle.code_needs.proofs.Counted.{more-to, no-result, one-to, pairs-to, some-to, two-to, wider}

module _ (env : List AtomDef) (r t : SemType) (sub : Sub env r t) where
  has : (P : Shape → Type 0) → ResultHas env (Some r) P → ResultHas env (Some t) P
  has = wider env r t sub

  -- ---- the library

  none-made : (P : Shape → Type 0) (atom : Option ℕ) → MakesNone env atom P (Some r) → MakesNone env atom P (Some t)
  none-made P atom h = (h.0, has _ h.1)

  list-made : (P : Shape → Type 0) (atom : Option ℕ) → MakesList env atom P (Some r) → MakesList env atom P (Some t)
  list-made P atom h = some-to atom (λ a k. (k.0, has _ k.1)) h

  widen-call : (c : LibraryCall) (atom : Option ℕ) (operands : List SemType) → LibraryTyped env c atom operands (Some r) → LibraryTyped env c atom operands (Some t)
  widen-call call.Println atom operands h = none-made _ atom h
  widen-call call.Print atom operands h = none-made _ atom h
  widen-call call.Readln atom operands h = (h.0, none-made _ atom h.1)
  widen-call call.FromString atom operands h = one-to operands (λ a k. (k.0, none-made _ atom k.1)) h
  widen-call call.Abs atom operands h = one-to operands (λ a k. (k.0, none-made _ atom k.1)) h
  widen-call call.ToString atom operands h = one-to operands (λ a k. none-made _ atom k) h
  widen-call call.Clone atom operands h = one-to operands (λ a k. (k.0, none-made _ atom k.1)) h
  widen-call call.CloneReadOnly atom operands h = one-to operands (λ a k. (k.0, none-made _ atom k.1)) h
  widen-call call.StringLength atom operands h = one-to operands (λ a k. (k.0, none-made _ atom k.1)) h
  widen-call call.StartsWith atom operands h = two-to operands (λ a b k. (k.0, k.1, none-made _ atom k.2)) h
  widen-call call.Trim atom operands h = one-to operands (λ a k. (k.0, none-made _ atom k.1)) h
  widen-call call.Substring atom operands h = (h.0, none-made _ atom h.1)
  widen-call call.ToUpperAscii atom operands h = one-to operands (λ a k. (k.0, none-made _ atom k.1)) h
  widen-call call.ToLowerAscii atom operands h = one-to operands (λ a k. (k.0, none-made _ atom k.1)) h
  widen-call call.ToCodePointInts atom operands h = one-to operands (λ a k. (k.0, list-made _ atom k.1)) h
  widen-call call.ListLength atom operands h = one-to operands (λ a k. (k.0, none-made _ atom k.1)) h
  widen-call call.Push atom operands h = more-to operands (λ a rest k. (k.0, k.1, none-made _ atom k.2)) h
  widen-call call.Pop atom operands h = one-to operands (λ a k. (k.0, none-made _ atom k.1)) h
  widen-call call.RemoveItem atom operands h = two-to operands (λ a b k. (k.0, k.1, none-made _ atom k.2)) h
  widen-call call.Slice atom operands h = (h.0, more-to operands (λ a rest k. list-made _ atom k) h.1)
  widen-call call.Reverse atom operands h = one-to operands (λ a k. (k.0, list-made _ atom k.1)) h
  widen-call call.MappingLength atom operands h = one-to operands (λ a k. (k.0, none-made _ atom k.1)) h
  widen-call call.Keys atom operands h = one-to operands (λ a k. (k.0, list-made _ atom k.1)) h
  widen-call call.HasKey atom operands h = two-to operands (λ a b k. (k.0, k.1, none-made _ atom k.2)) h
  widen-call call.Get atom operands h = two-to operands (λ a b k. (k.0, k.1, none-made _ atom k.2)) h
  widen-call call.RemoveKey atom operands h = two-to operands (λ a b k. (k.0, k.1, none-made _ atom k.2)) h
  widen-call call.Message atom operands h = one-to operands (λ a k. (k.0, none-made _ atom k.1)) h
  widen-call call.Cause atom operands h = one-to operands (λ a k. (k.0, none-made _ atom k.1)) h
  widen-call call.Detail atom operands h = one-to operands (λ a k. (k.0, none-made _ atom k.1)) h

  module _ (place : Surroundings) where
    -- ---- words

    widen-ints : (P : Shape → Type 0) (operands : List SemType) → OnInts env place operands P (Some r) → OnInts env place operands P (Some t)
    widen-ints P operands h = two-to operands (λ a b k. (k.0, k.1, has _ k.2)) h

    widen-strings : (P : Shape → Type 0) (operands : List SemType) → OnStrings env place operands P (Some r) → OnStrings env place operands P (Some t)
    widen-strings P operands h = two-to operands (λ a b k. (k.0, k.1, has _ k.2)) h

    widen-order : (P : Shape → Type 0) (operands : List SemType) → OnInts env place operands P (Some r) ⊎ OnStrings env place operands P (Some r) → OnInts env place operands P (Some t) ⊎ OnStrings env place operands P (Some t)
    widen-order P operands (inl h) = inl (widen-ints P operands h)
    widen-order P operands (inr h) = inr (widen-strings P operands h)

    widen-read : (held : Option SemType) → Reads env place held (Some r) → Reads env place held (Some t)
    widen-read held h = some-to held (λ s k. has _ k) h

    widen-each : (k : ℕ) (names : List (Option ℕ)) (operands : List SemType) → AwaitsEach env place (λ k P. ResultHas env (Some r) P) k names operands → AwaitsEach env place (λ k P. ResultHas env (Some t) P) k names operands
    widen-each k [] [] h = tt
    widen-each k [] (s ∷ more) h = absurd h
    widen-each k (Some w ∷ names) operands h = (h.0, has _ h.1, widen-each (k + 1) names operands h.2)
    widen-each k (None ∷ names) (s ∷ more) h = (h.0, has _ h.1, widen-each (k + 1) names more h.2)
    widen-each k (None ∷ names) [] h = absurd h

    widen-any : (names : List (Option ℕ)) (operands : List SemType) → AwaitsAny env place names operands (Some r) → AwaitsAny env place names operands (Some t)
    widen-any [] operands h = absurd h
    widen-any (name ∷ names) operands h = widen-each 0 (name ∷ names) operands h

    -- ---- operations

    pub widen : (o : Operation) (operands : List SemType) → OpTyped env place o operands (Some r) → OpTyped env place o operands (Some t)
    widen (op.Const c) operands h = (h.0, has _ h.1)
    widen (op.Load slot) operands h = (h.0, widen-read (slice_get place.slots slot) h.1)
    widen (op.Store slot) operands h = no-result r h.1
    widen op.Pop operands h = one-to operands (λ a k. no-result r k) h
    widen (op.LoadModule m) operands h = (h.0, widen-read (slice_get place.variables m) h.1)
    widen (op.StoreModule m) operands h = no-result r h.1
    widen op.Tick operands h = no-result r h.1
    widen op.Add operands h = widen-ints _ operands h
    widen op.Subtract operands h = widen-ints _ operands h
    widen op.Multiply operands h = widen-ints _ operands h
    widen op.Divide operands h = widen-ints _ operands h
    widen op.Remainder operands h = widen-ints _ operands h
    widen op.Negate operands h = one-to operands (λ a k. (k.0, has _ k.1)) h
    widen op.Concat operands h = widen-strings _ operands h
    widen op.Less operands h = widen-order _ operands h
    widen op.LessEqual operands h = widen-order _ operands h
    widen op.Not operands h = one-to operands (λ a k. (k.0, has _ k.1)) h
    widen op.Equal operands h = two-to operands (λ a b k. (k.0, k.1, has _ k.2)) h
    widen op.Same operands h = two-to operands (λ a b k. has _ k) h
    widen (op.MakeList atom immutable count) operands h = (h.0, h.1, h.2, has _ h.3)
    widen (op.MakeMapping atom immutable count) operands h = pairs-to count operands _ _ (λ pairs k. (k.0, k.1, k.2, has _ k.3)) h
    widen (op.MakeError count) operands h =
        more-to operands (λ message behind k. more-to behind (λ cause details m. pairs-to count details _ _ (λ pairs n. (n.0, n.1, n.2, has _ n.3)) m) k) h
    widen (op.MakeFunction unit count) operands h = (h.0, some-to (slice_get place.units unit) (λ u k. (k.0, has _ k.1)) h.1)
    widen op.GetItem operands h = two-to operands (λ a b k. (k.0, k.1, has _ k.2)) h
    widen op.GetKey operands h = two-to operands (λ a b k. (k.0, k.1, has _ k.2)) h
    widen op.GetChar operands h = two-to operands (λ a b k. (k.0, k.1, has _ k.2)) h
    widen (op.GetField name) operands h = one-to operands (λ a k. (k.0, has _ k.1)) h
    widen (op.GetOptional name) operands h = one-to operands (λ a k. (k.0, has _ k.1)) h
    widen op.SetItem operands h = no-result r h.1
    widen op.SetKey operands h = no-result r h.1
    widen (op.Test s) operands h = one-to operands (λ a k. has _ k) h
    widen (op.Cast s) operands h = one-to operands (λ a k. has _ k) h
    widen (op.Call unit count) operands h = (h.0, some-to (slice_get place.units unit) (λ u k. (k.0, has _ k.1)) h.1)
    widen (op.CallValue count) operands h = more-to operands (λ f args k. (k.0, k.1, k.2, has _ k.3)) h
    widen (op.Library call atom count) operands h = (h.0, widen-call call atom operands h.1)
    widen op.Return operands h = no-result r h.1
    widen op.Panic operands h = no-result r h.1
    widen (op.Start unit count) operands h = (h.0, some-to (slice_get place.units unit) (λ u k. (k.0, has _ k.1)) h.1)
    widen (op.StartValue count) operands h = more-to operands (λ f args k. (k.0, k.1, k.2, has _ k.3)) h
    widen op.Workers operands h = no-result r h.1
    widen (op.Send w) operands h = one-to operands (λ a k. (k.0, has _ k.1)) h
    widen (op.Post w) operands h = one-to operands (λ a k. no-result r k.1) h
    widen (op.Done w) operands h = (h.0, has _ h.1)
    widen (op.Receive w) operands h = (h.0, refl)
    widen (op.Flush w) operands h = (h.0, has _ h.1)
    widen (op.WaitWorker w) operands h = (h.0, h.1, has _ h.2)
    widen op.WaitFuture operands h = one-to operands (λ a k. (k.0, has _ k.1)) h
    widen (op.WaitAny names) operands h = widen-any names operands h
    widen (op.WaitAll atom names) operands h = (h.0, has _ h.1)
