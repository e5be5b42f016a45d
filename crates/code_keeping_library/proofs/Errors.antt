-- Calls of the library that read the detail of an error, or may give an error.
use Rattle.std.proofs.Common.{◌≡◌, ◌<◌, ℕ, ℤ, List, [], ◌∷◌, Option, Some, None, inl, inr, length, refl, sym, subst}
use Rattle.std.specs.Prelude.{◌⊎◌, IsSomeAnd, slice_get}
use Rattle.bal_base.specs.declared.shape.Shape.{Shape, Nil as NilShape, Bool as BoolShape, Int as IntShape, Str as StrShape, List', Mapping', Error', Function as FunctionShape, Future'}
use Rattle.bal_base.specs.Valid.{IsInt, IsMarkedMapping, IsValid}
use Rattle.type_model.specs.declared.basic.SemType.{SemType}
use Rattle.operations.specs.declared.library.LibraryCall.TheVariants.{Detail, FromString}
use Rattle.operations.specs.declared.operation.Constant.TheVariants.{Int as IntConstant}
use Rattle.operations.specs.Kinds.{IsDetail, IsError, IsInteger}
use Rattle.operations.specs.Rows.{ResultHas, Surroundings}
use Rattle.value_model.specs.declared.filler.Filler.{Filler}
use Rattle.value_model.specs.declared.value.Value.{Value}
use Rattle.value_model.specs.declared.value.Value.TheVariants.{Error, Int, Str, Struct}
use Rattle.value_model.specs.Heap.{ErrorObject, Heap}
use Rattle.value_model.specs.PanicName.{number_parsing_error}
use Rattle.value_model.specs.Stands.{HasShape}
use Rattle.value_model.specs.World.{World}
use Rattle.op_model.specs.Common.{Common}
use Rattle.op_model.specs.Effects.{with_world}
use Rattle.op_model.specs.Library.{ParsesInt}
use Rattle.op_model.specs.Rows.{Else, gives, gives_error, makes_error, next_error}
use Rattle.op_model.specs.Strings.{int_in}
use Rattle.machine_model.specs.Runs.{Running}
use Rattle.stack_code.specs.declared.code.Code.{Code}
use Rattle.stack_code.specs.Good.{GoodCommon}
use Rattle.stack_code.specs.Values.{Fits}
use Rattle.stack_code.specs.WellTyped.{WellTyped}
use Rattle.code_keeping.specs.Kinds.{Errors, Mappings, Strings, kind_of}
use Rattle.code_keeping.proofs.Coming.{Does, IsTyped, does-else, does-unless, gives-typed}
use Rattle.code_keeping.proofs.Growing.{good-so, one-given, within-gave}
use Rattle.code_keeping.proofs.Itself.{its-shape}
use Rattle.code_keeping.proofs.Landing.{error-shape}
use Rattle.code_keeping.proofs.Lists.{all-at, of-some, there}
use Rattle.code_keeping.proofs.Making.{error-made, heap-so, later}
use Rattle.code_keeping.proofs.OfKind.{of-kind, same-kind}
use Rattle.code_keeping.proofs.Operands.{a-string, an-error, errors, one-fit, strings}
use Rattle.code_keeping_heap.proofs.Reading.{has-stands, stands-has}
use Rattle.code_keeping_library.specs.Laws.{ErrorsAreGiven}
use Rattle.code_keeping_library.proofs.Calls.{Answered, does-call-at}
use Rattle.code_keeping_library.proofs.Lists.{Row, of-row}

-- ---- details

-- an error's shape has that of its detail
detail-shape : (h : Heap) (n : ℕ) (o : ErrorObject) (x : Shape) → slice_get h.errors n ≡ Some o → IsValid x → HasShape h x (Error n) → (y : Shape) × IsMarkedMapping y × HasShape h y (Struct o.detail)
detail-shape h n o (Error' _ y) e valid has = (y, valid.0, of-some (λ (o : ErrorObject). HasShape h y (Struct o.detail)) (slice_get h.errors n) o e has)
detail-shape h n o NilShape e valid has = absurd (let q : ⊥ = cc in q)
detail-shape h n o (BoolShape b) e valid has = absurd (let q : ⊥ = cc in q)
detail-shape h n o (IntShape i) e valid has = absurd (let q : ⊥ = cc in q)
detail-shape h n o (StrShape t) e valid has = absurd (let q : ⊥ = cc in q)
detail-shape h n o (List' mark _ items) e valid has = absurd has.1
detail-shape h n o (Mapping' mark _ fields) e valid has = absurd has.1
detail-shape h n o (FunctionShape isolated graph) e valid has = absurd has
detail-shape h n o (Future' _ results) e valid has = absurd has

mapping-kind : (y : Shape) → IsMarkedMapping y → kind_of y ≡ Mappings
mapping-kind (Mapping' mark _ fields) h = refl
mapping-kind _ h = absurd h

-- a mapping that a value has as its shape is marked
marked : (h : Heap) (v : Value) (x : Shape) → kind_of x ≡ Mappings → HasShape h x v → IsMarkedMapping x
marked h v (Mapping' mark _ fields) e has = has.0
marked h v NilShape e has = absurd (let q : ⊥ = cc in q)
marked h v (BoolShape b) e has = absurd (let q : ⊥ = cc in q)
marked h v (IntShape i) e has = absurd (let q : ⊥ = cc in q)
marked h v (StrShape t) e has = absurd (let q : ⊥ = cc in q)
marked h v (List' mark _ items) e has = absurd (let q : ⊥ = cc in q)
marked h v (Error' _ detail) e has = absurd (let q : ⊥ = cc in q)
marked h v (FunctionShape isolated graph) e has = absurd (let q : ⊥ = cc in q)
marked h v (Future' _ results) e has = absurd (let q : ⊥ = cc in q)

module _ (code : Code) (t : WellTyped code) (c : Common) (good : GoodCommon code c Running) (result : Option SemType) where
  detail-typed : (n : ℕ) (o : ErrorObject) → slice_get c.world.heap.errors n ≡ Some o → n < length c.world.heap.errors → ResultHas code.atoms result IsDetail → IsTyped code c good result (gives c.world (Struct o.detail))
  detail-typed n o e lt has =
      let (whole, valid, stands) = good.nearly.heap.immutable.1 n lt in
      let (y, mark, shown) = detail-shape c.world.heap n o whole e valid stands in
      let here : o.detail < length c.world.heap.structures = all-at (λ (o : ErrorObject). o.detail < length c.world.heap.structures) c.world.heap.errors n o good.nearly.heap.closed.details e in
      let its = same-kind code t c good.nearly.heap (Struct o.detail) (here, tt, tt) in
      let kind = its y (has-stands c.world.heap code (Struct o.detail) y here shown) in
      gives-typed code c good result (Struct o.detail) IsDetail has (here, tt, tt)
      (λ x ok st. marked c.world.heap (Struct o.detail) x (let k = its x st in let m = mapping-kind y mark in let q : kind_of x ≡ Mappings = cc in q) (stands-has c.world.heap code (Struct o.detail) y x shown st))

  -- ---- ints in strings

  abbrev IsIntOrError : Shape → Type 0
  IsIntOrError x = IsInteger x ⊎ IsError x

  abbrev w : World
  w = makes_error c.world number_parsing_error None []

  error-typed : ResultHas code.atoms result IsIntOrError → IsTyped code c good result (gives_error c.world number_parsing_error)
  error-typed has =
      let grown = heap-so code c number_parsing_error refl good.nearly.heap in
      within-gave code c result (Error (next_error c.world) ∷ []) w
      (λ small. (
        good-so code c w Running (later code c number_parsing_error refl good.nearly.heap None) grown good,
        (refl, refl),
        later code c number_parsing_error refl good.nearly.heap,
        one-given code (with_world c w) result IsIntOrError (Error (next_error c.world)) has grown.closed (error-made code c number_parsing_error refl good.nearly.heap).1 (λ x valid s. inr (error-shape w.heap code.atoms (next_error c.world) x s)),
      ))

  does-parse : (o : Option ℤ) → ResultHas code.atoms result IsIntOrError → Does code c good result (ParsesInt c.world o)
  does-parse (Some n) has =
      does-unless code c good result (IsInt n) (gives_error c.world number_parsing_error) (Else (gives c.world (Int n))) (error-typed has)
      (λ int. does-else code c good result (gives c.world (Int n)) (gives-typed code c good result (Int n) IsIntOrError has (tt, int, tt) (λ x valid s. inl (n, its-shape code c (IntConstant n) x s))))
  does-parse None has = does-else code c good result (gives_error c.world number_parsing_error) (error-typed has)

-- ---- rows

module _ (fillers : ℕ → List Filler) (code : Code) (t : WellTyped code) (place : Surroundings) (c : Common) where
  pub detail : Row fillers code t place c Detail
  detail atom count names operands result vs caller good (long, typed) fit =
      one-fit code c (Answered fillers code t place c Detail atom count caller result) operands vs _ typed fit
      (λ a v (within, (none, has)) f. an-error c.world.heap (λ z. Fits code c z a → Answered fillers code t place c Detail atom count caller result (z ∷ [])) v (of-kind code t c good.nearly.heap (λ k. k ≡ Errors) v a f (λ x h. errors x (within x h)))
      (λ n fn. does-call-at fillers code t place c good result Detail atom count caller (Error n ∷ [])
      (let (x, e) = there c.world.heap.errors n fn.1.0 in
      subst (λ o. Does code c good result (λ came. IsSomeAnd o (λ (e : ErrorObject). came ≡ gives c.world (Struct e.detail)))) (sym e)
      (does-else code c good result (gives c.world (Struct x.detail)) (detail-typed code t c good result n x e fn.1.0 has)))) f)

  pub from-string : Row fillers code t place c FromString
  from-string atom count names operands result vs caller good (long, typed) fit =
      one-fit code c (Answered fillers code t place c FromString atom count caller result) operands vs _ typed fit
      (λ a v (within, (none, has)) f. a-string c.world.heap (λ z. Answered fillers code t place c FromString atom count caller result (z ∷ [])) v (of-kind code t c good.nearly.heap (λ k. k ≡ Strings) v a f (λ x h. strings x (within x h)))
      (λ s. does-call-at fillers code t place c good result FromString atom count caller (Str s ∷ []) (does-parse code t c good result (int_in s) has)))

pub errors-are-given : ErrorsAreGiven
errors-are-given = (of-row Detail detail, of-row FromString from-string)
