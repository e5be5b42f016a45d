-- Function values are made.
use Rattle.std.proofs.Common.{◌≡◌, ◌+◌, ℕ, zero, suc, List, [], ◌∷◌, ◌++◌, Option, Some, None, inl, inr, length, refl, sym, subst, arith}
use Rattle.std.proofs.lemmas.List.{append-nil, length-append}
use Rattle.std.specs.Prelude.{◌⊎◌, IsSomeAnd, slice_get}
use Rattle.bal_base.specs.declared.shape.Shape.{Shape}
use Rattle.type_model.specs.declared.basic.SemType.{SemType, Atom}
use Rattle.type_model.specs.Membership.{In}
use Rattle.operations.specs.declared.operation.Operation.TheVariants as op
use Rattle.operations.specs.Rows.{AreBelow, ResultHas}
use Rattle.value_model.specs.declared.filler.Filler.{Filler}
use Rattle.value_model.specs.declared.value.Value.{Value}
use Rattle.value_model.specs.declared.value.Value.TheVariants.{Function}
use Rattle.value_model.specs.Heap.{FunctionObject, Grows, Stays}
use Rattle.value_model.specs.Meaning.{Answers}
use Rattle.value_model.specs.Stands.{Stands}
use Rattle.value_model.specs.World.{World}
use Rattle.op_model.specs.Common.{Common}
use Rattle.op_model.specs.Effects.{lifted, with_world}
use Rattle.op_model.specs.Rows.{with_heap}
use Rattle.op_model.specs.StructureRows.{makes_function}
use Rattle.machine_model.specs.Runs.{Running}
use Rattle.machine_model.proofs.Once.{some-same}
use Rattle.stack_code.specs.declared.code.Code.{Code}
use Rattle.stack_code.specs.declared.code.Unit.{Unit as CodeUnit}
use Rattle.stack_code.specs.Good.{GoodCommon}
use Rattle.stack_code.specs.Places.{Station, surroundings}
use Rattle.stack_code.specs.Tables.{IsCallable}
use Rattle.stack_code.specs.Values.{AllFit, IsWithinUnit, code_types}
use Rattle.stack_code.specs.WellTyped.{WellTyped}
use Rattle.code_keeping.specs.Rows.{EffectTyped, NamesWell}
use Rattle.code_keeping.proofs.Calling.{signature-at}
use Rattle.code_keeping.proofs.Coming.{RowHolds, at-once}
use Rattle.code_keeping.proofs.Growing.{IsGrown, front-or-behind, gave-typed, get-last, later, one-given, within-gave}
use Rattle.code_keeping.proofs.Lists.{at-some, of-some}
use Rattle.code_keeping.proofs.Shapes.{types-of}
use Rattle.code_keeping.proofs.Staying.{above, stays-same}

pub one-there : {A : Type 0} (y : A) (m : ℕ) (x : A) → slice_get (y ∷ []) m ≡ Some x → y ≡ x
one-there y zero x e = some-same y x e
one-there y (suc m) x e = absurd (let q : ⊥ = cc in q)

module _ (code : Code) (t : WellTyped code) (c : Common) (good : GoodCommon code c Running) (unit : ℕ) (vs : List Value) (callable : IsCallable code unit) (g : CodeUnit) (eg : slice_get code.units unit ≡ Some g) (fit : AllFit code c vs g.captured) where
  abbrev function : FunctionObject
  function = record { unit = unit; captured = vs }

  abbrev w : World
  w = with_heap c.world (record { structures = c.world.heap.structures; errors = c.world.heap.errors; functions = c.world.heap.functions ++ function ∷ [] })

  abbrev number : ℕ
  number = length c.world.heap.functions

  grows : Grows c.world.heap w.heap
  grows = record { structures = λ n s e. at-some (Stays s) (slice_get c.world.heap.structures n) s e (stays-same s); errors = ([], sym (append-nil c.world.heap.errors)); functions = (function ∷ [], refl) }

  grown : IsGrown code c w good.nearly.heap grows
  grown = record { structures = λ n s e. inl e; errors = λ n e is. inl is; functions = λ n f e. by n f (front-or-behind c.world.heap.functions (function ∷ []) n f e) }
    where
      by : (n : ℕ) (f : FunctionObject) → (slice_get c.world.heap.functions n ≡ Some f) ⊎ ((m : ℕ) × (n ≡ number + m) × (slice_get (function ∷ []) m ≡ Some f)) → (slice_get c.world.heap.functions n ≡ Some f) ⊎ IsWithinUnit code c f
      by n f (inl e) = inl e
      by n f (inr (m, at, e)) = inr (subst (λ h. IsWithinUnit code c h) (one-there function m f e) (callable, at-some (λ u. AllFit code c vs u.captured) (slice_get code.units unit) g eg fit))

  stands-so : (x : Shape) → Stands (code_types code) w.heap (Function number) x → In code.atoms x (Atom g.arrow)
  stands-so x h =
      of-some (λ u. In code.atoms x (Atom u.0)) (slice_get (code_types code).units unit) (g.arrow, g.future) (types-of code t unit g eg)
      (of-some (λ f. IsSomeAnd (slice_get (code_types code).units f.unit) (λ u. In code.atoms x (Atom u.0))) (slice_get w.heap.functions number) function (get-last c.world.heap.functions function) h)

  pub function-typed : (result : Option SemType) → ResultHas code.atoms result (λ x. In code.atoms x (Atom g.arrow)) → EffectTyped code c result (lifted c (makes_function c.world unit vs))
  function-typed result has =
      within-gave code c result (Function number ∷ []) w
      (λ small. gave-typed code c result (Function number ∷ []) w good good.nearly.heap grows grown
      (one-given code (with_world c w) result (λ x. In code.atoms x (Atom g.arrow)) (Function number) has ((later code c w good.nearly.heap grows grown None).closed good.nearly.heap.closed)
      ((let n = length-append c.world.heap.functions (function ∷ []) in omega (arith, n)), tt, tt) (λ x valid h. stands-so x h)))

pub make-function : (fillers : ℕ → List Filler) (natives : Answers) (code : Code) → WellTyped code → (c : Common) (u : CodeUnit) (station : Station) (unit count : ℕ) → NamesWell code (op.MakeFunction unit count) → RowHolds code fillers natives c (surroundings code u station) (op.MakeFunction unit count)
make-function fillers natives code t c u station unit count names operands result vs caller good (long, row) fit =
    let (g, eg, below) = signature-at code unit (λ s. AreBelow code.atoms operands s.captured × ResultHas code.atoms result (λ x. In code.atoms x (Atom s.arrow))) row in
    at-once code c good result (makes_function c.world unit vs) (function-typed code t c good unit vs (names.values 0 0 (omega arith)) g eg (above code c vs operands g.captured fit below.0) result below.1)
