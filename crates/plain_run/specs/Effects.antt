-- What an operation comes to, as it is held.
use Rattle.std.specs.Prelude.{⊤, ◌≡◌, ◌+ℤ◌, ◌-ℤ◌, ◌*ℤ◌, ℤ, List, [], ◌∷◌, Option, Some, None, map, option_map, option_to_list}
use Rattle.value_model.specs.declared.value.Value.{Value}
use Rattle.value_model.specs.declared.value.Value.TheVariants.{Int}
use Rattle.op_model.specs.Library.{LibraryAnswers}
use Rattle.op_model.specs.Performs.{Performs}
use Rattle.op_model.specs.Effects as model
use Rattle.op_model.specs.Rows.{GivesInt}
use Rattle.op_model.specs.ValueRows.{Divides, Remains}
use Rattle.value_model.specs.World.{World, Came}
use Rattle.operations.specs.declared.operation.Operation.{Operation}
use Rattle.operations.specs.declared.operation.Operation.TheVariants as operation
use Rattle.plain_run.specs.declared.effect.Ints.{Ints}
use Rattle.plain_run.specs.declared.effect.Ints.TheVariants as ints
use Rattle.plain_run.specs.declared.effect.Effect.{Effect}
use Rattle.plain_run.specs.declared.effect.Effect.TheVariants.{Gives, Fails, Waits, Enters, Leaves, Spawns, NoTick, Beyond}
use Rattle.plain_run.specs.declared.effect.Performed.{Performed}
use Rattle.plain_run.specs.declared.effect.Performed.TheVariants.{Done, Stuck, Undecided}
use Rattle.plain_run.specs.declared.effect.Spawned.{Spawned}
use Rattle.plain_run.specs.declared.facts.ProgramFacts.{ProgramFacts}
use Rattle.plain_run.specs.declared.held.Common.{Common}
use Rattle.plain_run.specs.declared.held.Caller.{Caller}
use Rattle.plain_run.specs.ProgramFacts.{facts_of}
use Rattle.plain_run.specs.Held.{caller_of, common_of, need_of, role_of}

abbrev pub spawned_of : Spawned → model.Spawned
spawned_of s = record { unit = s.unit; args = s.args.items; role = option_map role_of s.role }

abbrev pub effect_of : Effect → Common → model.Effect
effect_of (Gives v) c = model.Gives (option_to_list v) (common_of c)
effect_of (Fails e) c = model.Fails e (common_of c)
effect_of (Waits need) c = model.Waits (need_of need)
effect_of (Enters unit args) c = model.Enters unit args.items (common_of c)
effect_of (Leaves v) c = model.Leaves v
effect_of (Spawns spawned role given) c =
    model.Spawns (map spawned_of spawned.items) (option_map role_of role) (option_to_list given) (common_of c)
effect_of NoTick c = model.NoTick
effect_of (Beyond limit) c = model.Beyond limit

-- what was answered for an operation on these operands: an effect that it has, or that it has none, or that it is not
-- told, which has such a cause
abbrev pub IsPerformed : ProgramFacts → Operation → List Value → Caller → Common → Common → Type 0 → Performed → Type 0
IsPerformed facts operation vs caller old new cause (Done effect) =
    Performs (facts_of facts) LibraryAnswers operation vs (caller_of caller) (common_of old) (effect_of effect new)
IsPerformed facts operation vs caller old new cause Stuck =
    (effect : model.Effect) → ¬ (Performs (facts_of facts) LibraryAnswers operation vs (caller_of caller) (common_of old) effect)
IsPerformed facts operation vs caller old new cause Undecided = cause

-- what an effect that keeps the run as it was leaves
abbrev pub EffectStays : Common → Common → Effect → Type 0
EffectStays old new (Gives v) = ⊤
EffectStays old new (Fails e) = ⊤
EffectStays old new (Waits need) = common_of new ≡ common_of old
EffectStays old new (Enters unit args) = ⊤
EffectStays old new (Leaves v) = common_of new ≡ common_of old
EffectStays old new (Spawns spawned role given) = ⊤
EffectStays old new NoTick = common_of new ≡ common_of old
EffectStays old new (Beyond limit) = common_of new ≡ common_of old

-- what was not done changed nothing
abbrev pub Stays : Common → Common → Performed → Type 0
Stays old new (Done effect) = EffectStays old new effect
Stays old new Stuck = common_of new ≡ common_of old
Stays old new Undecided = common_of new ≡ common_of old

-- two ints, where the operands are such
abbrev pub AreTwoInts : List Value → Option (ℤ × ℤ) → Type 0
AreTwoInts vs (Some (x, y)) = vs ≡ Int x ∷ Int y ∷ []
AreTwoInts vs None = (x y : ℤ) → ¬ (vs ≡ Int x ∷ Int y ∷ [])

abbrev pub IsOneInt : List Value → Option ℤ → Type 0
IsOneInt vs (Some x) = vs ≡ Int x ∷ []
IsOneInt vs None = (x : ℤ) → ¬ (vs ≡ Int x ∷ [])

abbrev pub operation_on : Ints → Operation
operation_on ints.Add = operation.Add
operation_on ints.Subtract = operation.Subtract
operation_on ints.Multiply = operation.Multiply
operation_on ints.Divide = operation.Divide
operation_on ints.Remainder = operation.Remainder

-- what each comes to on two ints
abbrev pub IntsRow : Ints → ℤ → ℤ → World → Came → Type 0
IntsRow ints.Add x y w came = GivesInt w (x +ℤ y) came
IntsRow ints.Subtract x y w came = GivesInt w (x -ℤ y) came
IntsRow ints.Multiply x y w came = GivesInt w (x *ℤ y) came
IntsRow ints.Divide x y w came = Divides w x y came
IntsRow ints.Remainder x y w came = Remains w x y came
