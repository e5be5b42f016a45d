-- What an operation owes that takes all its operands and gives or panics, whatever frame asks it.
use Rattle.std.specs.Prelude.{ℕ, List, Option, All, option_to_list, ⊤}
use Rattle.type_model.specs.declared.basic.SemType.{SemType}
use Rattle.operations.specs.declared.operation.Operation.{Operation}
use Rattle.operations.specs.Rows.{Surroundings}
use Rattle.operations.specs.Typing.{OpTyped}
use Rattle.operations.specs.Uses.{atoms_made, units_valued, use_of}
use Rattle.value_model.specs.declared.filler.Filler.{Filler}
use Rattle.value_model.specs.declared.value.Value.{Value}
use Rattle.value_model.specs.Meaning.{Answers}
use Rattle.op_model.specs.Common.{Common, Role, Caller}
use Rattle.op_model.specs.Effects.{Effect, Gives, Fails, Waits, Enters, Leaves, Spawns, NoTick, Beyond}
use Rattle.op_model.specs.Performs.{Performs}
use Rattle.machine_model.specs.Keeping.{KeepsStrands}
use Rattle.machine_model.specs.Runs.{Running}
use Rattle.stack_code.specs.declared.code.Code.{Code}
use Rattle.stack_code.specs.CodeMachine.{code_facts}
use Rattle.stack_code.specs.Good.{GoodCommon, IsLater, NearlyCommon}
use Rattle.stack_code.specs.Tables.{IsCallable, IsInherent, NamesUnits}
use Rattle.stack_code.specs.Values.{AllFit, IsMadeError}

-- it can't be that nothing comes of it
abbrev pub Comes : {A : Type 0} → (A → Type 0) → Type 0
Comes {A} Q = ((a : A) → ¬ (Q a)) → ⊥

module _ (code : Code) where
  -- what the operation names beside types and slots: units that are called or started, atoms that structures are made with, and
  -- units of which function values and futures are made
  pub record NamesWell (o : Operation) : Type 0 where
    pub units : NamesUnits code o
    pub atoms : All (IsInherent code) (atoms_made (use_of o))
    pub values : All (IsCallable code) (units_valued (use_of o))

  abbrev pub LaterForAll : Common → Common → Type 0
  LaterForAll c d = (q : Option Role) → IsLater q c d

  -- it gives what is in its result's type, or panics with an error; nothing changes of any worker
  abbrev pub EffectTyped : Common → Option SemType → Effect → Type 0
  EffectTyped c result (Gives vs d) = GoodCommon code d Running × KeepsStrands c d × LaterForAll c d × AllFit code d vs (option_to_list result)
  EffectTyped c result (Fails e d) = NearlyCommon code d Running × KeepsStrands c d × LaterForAll c d × IsMadeError code d e
  EffectTyped c result (Waits need) = ⊥
  EffectTyped c result (Enters unit args d) = ⊥
  EffectTyped c result (Leaves v) = ⊥
  EffectTyped c result (Spawns ss role vs d) = ⊥
  EffectTyped c result NoTick = ⊤
  EffectTyped c result (Beyond limit) = ⊤

  -- from operands in the row's types it comes to what is typed
  abbrev pub RowKeeps : (ℕ → List Filler) → Answers → Common → Surroundings → Operation → Type 0
  RowKeeps fillers natives c place o =
      (operands : List SemType) (result : Option SemType) (vs : List Value) (caller : Caller) (effect : Effect) →
      GoodCommon code c Running → OpTyped code.atoms place o operands result → AllFit code c vs operands →
      Performs (code_facts fillers code) natives o vs caller c effect → EffectTyped c result effect

  -- from such operands it comes to something
  abbrev pub RowComes : (ℕ → List Filler) → Answers → Common → Surroundings → Operation → Type 0
  RowComes fillers natives c place o =
      (operands : List SemType) (result : Option SemType) (vs : List Value) (caller : Caller) →
      GoodCommon code c Running → OpTyped code.atoms place o operands result → AllFit code c vs operands →
      Comes (Performs (code_facts fillers code) natives o vs caller c)
