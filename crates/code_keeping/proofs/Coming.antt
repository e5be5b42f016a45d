-- Rows put together of words: all that comes is typed, and it can't be that nothing comes.
use Rattle.std.proofs.Common.{◌≡◌, ℕ, Bool, true, false, List, [], ◌∷◌, Option, Some, None, inl, inr, refl, sym, subst}
use Rattle.std.specs.Prelude.{◌⊎◌, ◌↔◌, IsTrue, option_to_list}
use Rattle.bal_base.specs.declared.shape.Shape.{Shape, Bool as BoolShape}
use Rattle.bal_base.specs.Valid.{IsValid}
use Rattle.type_model.specs.declared.basic.SemType.{SemType}
use Rattle.operations.specs.declared.operation.Operation.{Operation}
use Rattle.operations.specs.declared.operation.Constant.TheVariants.{Bool as BoolConstant}
use Rattle.operations.specs.Kinds.{IsBoolean}
use Rattle.operations.specs.Rows.{ResultHas, Surroundings}
use Rattle.operations.specs.Typing.{OpTyped}
use Rattle.value_model.specs.declared.filler.Filler.{Filler}
use Rattle.value_model.specs.declared.panics.PanicName.{PanicName}
use Rattle.value_model.specs.declared.value.Value.{Value}
use Rattle.value_model.specs.declared.value.Value.TheVariants.{Bool as Truth}
use Rattle.value_model.specs.Meaning.{Answers}
use Rattle.value_model.specs.PanicName.{panic_message}
use Rattle.value_model.specs.Stands.{Stands}
use Rattle.value_model.specs.World.{Came, World}
use Rattle.op_model.specs.Common.{Caller, Common}
use Rattle.op_model.specs.Effects.{Effect, lifted}
use Rattle.op_model.specs.Performs.{OnWorld, Performs}
use Rattle.op_model.specs.Rows.{Else, Tells, Unless, Where, found, gives, panics}
use Rattle.machine_model.specs.Runs.{Running}
use Rattle.stack_code.specs.declared.code.Code.{Code}
use Rattle.stack_code.specs.CodeMachine.{code_facts}
use Rattle.stack_code.specs.Good.{GoodCommon}
use Rattle.stack_code.specs.Values.{AllFit, IsMade, code_types}
use Rattle.code_keeping.specs.Rows.{Comes, EffectTyped, RowComes, RowKeeps}
use Rattle.code_keeping.proofs.Itself.{its-shape}
use Rattle.code_keeping.proofs.Making.{panic-typed}
use Rattle.code_keeping.proofs.Staying.{same}

-- all that comes is typed, and something comes
abbrev pub AllCome : (code : Code) (c : Common) (result : Option SemType) → (Effect → Type 0) → Type 0
AllCome code c result Q = ((effect : Effect) → Q effect → EffectTyped code c result effect) × Comes Q

-- what an operation owes, on operands that fit its row
abbrev pub RowHolds : (code : Code) (fillers : ℕ → List Filler) (natives : Answers) → Common → Surroundings → Operation → Type 0
RowHolds code fillers natives c place o =
    (operands : List SemType) (result : Option SemType) (vs : List Value) (caller : Caller) → GoodCommon code c Running → OpTyped code.atoms place o operands result → AllFit code c vs operands →
    AllCome code c result (Performs (code_facts fillers code) natives o vs caller c)

pub row-keeps : (code : Code) (fillers : ℕ → List Filler) (natives : Answers) (c : Common) (place : Surroundings) (o : Operation) → RowHolds code fillers natives c place o → RowKeeps code fillers natives c place o
row-keeps code fillers natives c place o row operands result vs caller effect good typed fit does = (row operands result vs caller good typed fit).0 effect does

pub row-comes : (code : Code) (fillers : ℕ → List Filler) (natives : Answers) (c : Common) (place : Surroundings) (o : Operation) → RowHolds code fillers natives c place o → RowComes code fillers natives c place o
row-comes code fillers natives c place o row operands result vs caller good typed fit = (row operands result vs caller good typed fit).1

module _ (code : Code) (c : Common) (good : GoodCommon code c Running) (result : Option SemType) where
  abbrev pub IsTyped : Came → Type 0
  IsTyped came = EffectTyped code c result (lifted c came)

  abbrev pub Does : (Came → Type 0) → Type 0
  Does Q = ((came : Came) → Q came → IsTyped came) × Comes Q

  -- ---- what comes

  pub does-else : (came : Came) → IsTyped came → Does (Else came)
  does-else x h = ((λ came e. subst IsTyped (sym e) h), (λ none. none x refl))

  pub does-unless : (P : Type 0) (x : Came) (behind : Came → Type 0) → IsTyped x → (P → Does behind) → Does (Unless P x behind)
  does-unless P x behind h k = (all, (λ none. none x (inr ((λ p. (k p).1 (λ came q. none came (inl (p, q)))), refl))))
    where
      all : (came : Came) → Unless P x behind came → IsTyped came
      all came (inl (p, q)) = (k p).0 came q
      all came (inr (never, e)) = subst IsTyped (sym e) h

  pub does-where : (P : Type 0) (x : Came) (behind : Came → Type 0) → IsTyped x → ((¬ P) → Does behind) → Does (Where P x behind)
  does-where P x behind h k = (all, (λ none. by none (λ p. none x (inl (p, refl)))))
    where
      all : (came : Came) → Where P x behind came → IsTyped came
      all came (inl (p, e)) = subst IsTyped (sym e) h
      all came (inr (never, q)) = (k never).0 came q

      by : ((came : Came) → ¬ (Where P x behind came)) → (¬ P) → ⊥
      by none never = (k never).1 (λ came q. none came (inr (never, q)))

  pub on-world : (P : World → Came → Type 0) → Does (P c.world) → AllCome code c result (OnWorld P c)
  on-world P (all, comes) = ((λ effect (came, p, e). subst (λ x. EffectTyped code c result x) (sym e) (all came p)), (λ none. comes (λ came p. none (lifted c came) (came, p, refl))))

  pub at-once : (came : Came) → IsTyped came → AllCome code c result (λ effect. effect ≡ lifted c came)
  at-once came h = ((λ effect e. subst (λ x. EffectTyped code c result x) (sym e) h), (λ none. none (lifted c came) refl))

  -- ---- what is given

  -- a value all of whose shapes the result has
  pub gives-typed : (v : Value) (P : Shape → Type 0) → ResultHas code.atoms result P → IsMade code c v → ((x : Shape) → IsValid x → Stands (code_types code) c.world.heap v x → P x) → IsTyped (gives c.world v)
  gives-typed v P has made stands = (good, (refl, refl), (λ q. same q c), fit result has)
    where
      fit : (r : Option SemType) → ResultHas code.atoms r P → AllFit code c (v ∷ []) (option_to_list r)
      fit (Some r) has = ((good.nearly.heap.closed, made, (λ x valid s. has x valid (stands x valid s))), tt)
      fit None has = absurd has

  pub panics-typed : (name : PanicName) → Rattle.bal_base.specs.Valid.IsText (panic_message name) → IsTyped (panics c.world name)
  panics-typed name valid = panic-typed code c result name valid good.nearly

  pub boolean-typed : (b : Bool) → ResultHas code.atoms result IsBoolean → IsTyped (gives c.world (Truth b))
  boolean-typed b has = gives-typed (Truth b) IsBoolean has (tt, tt, tt) (λ x valid s. (b, its-shape code c (BoolConstant b) x s))

  pub does-tell : (P : Type 0) → ResultHas code.atoms result IsBoolean → Does (Tells c.world P)
  does-tell P has = ((λ came (b, is, e). subst IsTyped (sym e) (boolean-typed b has)), (λ none. by none (λ p. none (gives c.world (Truth true)) (true, ((λ z. p), (λ z. refl)), refl))))
    where
      by : ((came : Came) → ¬ (Tells c.world P came)) → (¬ P) → ⊥
      by none never = none (gives c.world (Truth false)) (false, ((λ z. absurd (let q : ⊥ = cc in q)), (λ p. absurd (never p))), refl)
