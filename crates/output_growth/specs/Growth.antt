-- What was written stays written.
use Rattle.std.specs.Prelude.{ℕ, List, ⊤}
use Rattle.bal_io.specs.Content.{IsPrefixOf}
use Rattle.value_model.specs.declared.value.Value.{Value}
use Rattle.value_model.specs.Meaning.{Answers}
use Rattle.value_model.specs.Stands.{OwnTypes}
use Rattle.value_model.specs.World.{Came, Gave, PassesCells, Threw, World}
use Rattle.op_model.specs.Common.{Common}
use Rattle.machine_model.specs.Machine.{Blocked, Ended, Limit, Machine, Moved, NeedsTick, Next, State, Step}
use Rattle.machine_model.specs.Runs.{Phase, Runs, Stop}

-- the output behind a call begins with this
abbrev pub CameBegins : List ℕ → Came → Type 0
CameBegins o (Gave vs w) = IsPrefixOf o w.output
CameBegins o (Threw e w) = IsPrefixOf o w.output
CameBegins o PassesCells = ⊤

-- no call takes output back
abbrev pub AnswersGrow : Answers → Type 0
AnswersGrow natives =
    (own : OwnTypes) (op atom : ℕ) (args : List Value) (w : World) (came : Came) → natives own op atom args w came → CameBegins w.output came

-- the output behind a step begins with this
abbrev pub NextBegins : {C : Type 0} → List ℕ → Next C → Type 0
NextBegins o (Moved s) = IsPrefixOf o s.common.world.output
NextBegins o (Blocked s) = IsPrefixOf o s.common.world.output
NextBegins o (Ended s) = IsPrefixOf o s.common.world.output
NextBegins o NeedsTick = ⊤
NextBegins o (Limit limit) = ⊤

module _ (natives : Answers) {C : Type 0} (M : Machine C) where
  -- no step takes output back
  abbrev pub OutputGrows : Type 0
  OutputGrows = AnswersGrow natives → (s : State C) (next : Next C) → Step natives M s next → NextBegins s.common.world.output next

  -- no run does
  abbrev pub ReachedGrows : Type 0
  ReachedGrows =
      AnswersGrow natives → (phase : Phase) (n : ℕ) (s : State C) (order : List ℕ) (stop : Stop) (c : Common) → Runs natives M phase n s order stop c →
      IsPrefixOf s.common.world.output c.world.output
