-- What comes of a row of the table of operations, as it is held.
use Rattle.std.specs.Prelude.{⊤, ◌≡◌, ℕ, List, Option, Some, None}
use Rattle.operations.specs.declared.library.LibraryCall.{LibraryCall}
use Rattle.value_model.specs.declared.value.Value.{Value}
use Rattle.value_model.specs.World as model
use Rattle.op_model.specs.Effects.{lifted}
use Rattle.op_model.specs.ProgramFacts.{own_types}
use Rattle.op_model.specs.Library.{LibraryComes}
use Rattle.plain_run.specs.declared.effect.Performed.{Performed}
use Rattle.plain_run.specs.declared.effect.Performed.TheVariants.{Done, Stuck as NoEffect, Undecided as NotTold}
use Rattle.plain_run.specs.declared.facts.ProgramFacts.{ProgramFacts}
use Rattle.plain_run.specs.declared.held.Common.{Common}
use Rattle.plain_run.specs.declared.held.World.{World}
use Rattle.plain_run.specs.declared.world.Came.{Came as Coming}
use Rattle.plain_run.specs.Came.{WorldStays, came_of}
use Rattle.plain_run.specs.Effects.{effect_of}
use Rattle.plain_run.specs.ProgramFacts.{facts_of}
use Rattle.plain_run.specs.Held.{common_of, world_of}
use Rattle.plain_structures.specs.declared.answer.Tried.{Tried}
use Rattle.plain_structures.specs.declared.answer.Tried.TheVariants.{Came, Stuck, Undecided}

-- what came is what the row says, where the world is then this; or the row says nothing
abbrev pub IsRowOf : (model.Came → Type 0) → World → Option Coming → Type 0
IsRowOf row new (Some came) = row (came_of came new)
IsRowOf row new None = (came : model.Came) → ¬ (row came)

-- what did not come changed nothing
abbrev pub RowStays : World → World → Option Coming → Type 0
RowStays old new (Some came) = WorldStays old new came
RowStays old new None = world_of new ≡ world_of old

-- it is answered that this came, where all is then so
abbrev pub IsAnswerFor : Option Coming → Common → Performed → Type 0
IsAnswerFor (Some came) c (Done effect) = effect_of effect c ≡ lifted (common_of c) (came_of came c.world)
IsAnswerFor (Some came) c NoEffect = ⊥
IsAnswerFor (Some came) c NotTold = ⊥
IsAnswerFor None c (Done effect) = ⊥
IsAnswerFor None c NoEffect = ⊤
IsAnswerFor None c NotTold = ⊥

-- ---- of a row that asks questions of types

-- what came is what the row says, or the row says nothing; or that is not told, which has such a cause
abbrev pub IsTried : (model.Came → Type 0) → Type 0 → World → Tried → Type 0
IsTried row cause new (Came came) = row (came_of came new)
IsTried row cause new Stuck = (came : model.Came) → ¬ (row came)
IsTried row cause new Undecided = cause

-- what did not come changed nothing
abbrev pub TriedStays : World → World → Tried → Type 0
TriedStays old new (Came came) = WorldStays old new came
TriedStays old new Stuck = world_of new ≡ world_of old
TriedStays old new Undecided = world_of new ≡ world_of old

-- that is answered, where all is then so
abbrev pub IsAnswerOf : Tried → Common → Performed → Type 0
IsAnswerOf (Came came) c (Done effect) = effect_of effect c ≡ lifted (common_of c) (came_of came c.world)
IsAnswerOf (Came came) c NoEffect = ⊥
IsAnswerOf (Came came) c NotTold = ⊥
IsAnswerOf Stuck c (Done effect) = ⊥
IsAnswerOf Stuck c NoEffect = ⊤
IsAnswerOf Stuck c NotTold = ⊥
IsAnswerOf Undecided c (Done effect) = ⊥
IsAnswerOf Undecided c NoEffect = ⊥
IsAnswerOf Undecided c NotTold = ⊤

-- what was tried is what the call of the library comes to on these operands with the types of this program, whatever atom it
-- names; or the call comes to nothing, or that is not told, which has such a cause
abbrev pub IsCalledBy : ProgramFacts → LibraryCall → List Value → Type 0 → World → World → Tried → Type 0
IsCalledBy facts call vs cause old new tried =
    (atom : ℕ) → IsTried (LibraryComes (own_types (facts_of facts)) call atom vs (world_of old)) cause new tried
