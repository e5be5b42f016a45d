-- Ticks, module variables, calls, and the making of strands.
use Rattle.std.specs.Prelude.{◌≡◌, ◌+◌, ◌-◌, ◌++◌, ◌==◌, ◌<◌, ℕ, zero, suc, Bool, true, List, [], ◌∷◌, Option, Some, None, IsSomeAnd, drop, length, nat_le, nat_lt, option_map, replicate, slice_get, slice_set, take, if◌then◌else◌}
use Rattle.std.specs.List.{list_any}
use Rattle.bal_base.specs.declared.fault.LimitKind.TheVariants.{Cells, Strands}
use Rattle.value_model.specs.declared.value.Value.{Value}
use Rattle.value_model.specs.declared.value.Value.TheVariants.{Struct, Future}
use Rattle.value_model.specs.declared.panics.PanicName.TheVariants.{NotInitialised, StackOverflow}
use Rattle.value_model.specs.Heap.{FunctionObject, Items, cells}
use Rattle.value_model.specs.World.{World}
use Rattle.op_model.specs.ProgramFacts.{ProgramFacts, UnitFacts, WorkerFacts}
use Rattle.op_model.specs.Levels.{numbers_from}
use Rattle.op_model.specs.Limits.{most_cells, most_frames, most_strands}
use Rattle.op_model.specs.Rows.{found, makes, new_structure, next_structure, panics}
use Rattle.op_model.specs.Common.{Common, Role, Caller, Activation, End}
use Rattle.op_model.specs.Strands.{no_channel, strand_made}
use Rattle.op_model.specs.Effects.{Effect, Gives, Enters, Spawns, Spawned, NoTick, Beyond, lifted, with_world}

-- ---- ticks

-- a tick is spent, and then there are not too many frames
abbrev pub ticks : Common → ℕ → ℕ → Effect
ticks c depth zero = NoTick
ticks c depth (suc n) =
    let d = record c { ticks = n } in
    if nat_le depth most_frames then Gives [] d else lifted d (panics c.world StackOverflow)

-- ---- module variables ("Module-level variables")

-- before its initialiser has stored into it a variable has no value
abbrev pub ReadsVariable : Common → ℕ → Effect → Type 0
ReadsVariable c m effect = IsSomeAnd (slice_get c.variables m) (λ held. effect ≡ lifted c (found c.world NotInitialised held))

abbrev pub is_initialiser : ProgramFacts → ℕ → Bool
is_initialiser facts unit = list_any (λ u. u == unit) facts.initialisers

-- an initialiser gives a variable its value, and any other unit only another one where it has one
abbrev pub held_after : Bool → Option Value → Value → Option Value
held_after initialises held v = if initialises then Some v else option_map (λ _. v) held

abbrev pub StoresVariable : ProgramFacts → ℕ → Common → ℕ → Value → Effect → Type 0
StoresVariable facts unit c m v effect =
    IsSomeAnd (slice_get c.variables m) (λ held. effect ≡ Gives [] (record c { variables = slice_set c.variables m (held_after (is_initialiser facts unit) held v) }))

-- ---- calls ("Function call expression")

-- the effect, unless the heap has too many cells
abbrev pub checked : Common → Effect → Effect
checked c effect = if nat_le (cells c.world.heap) most_cells then effect else Beyond Cells

-- the arguments past the other parameters go into a new list
abbrev pub with_rest : Option ℕ → ℕ → World → List Value → World
with_rest None params w args = w
with_rest (Some atom) params w args = makes w (new_structure (Some atom) true (Items (drop (params - 1) args)) ∷ [])

abbrev pub passed : Option ℕ → ℕ → World → List Value → List Value
passed None params w args = args
passed (Some atom) params w args = take (params - 1) args ++ Struct (next_structure w) ∷ []

-- the function value, and its unit
abbrev pub FunctionAt : ProgramFacts → Common → ℕ → (FunctionObject → UnitFacts → Type 0) → Type 0
FunctionAt facts c n P = IsSomeAnd (slice_get c.world.heap.functions n) (λ f. IsSomeAnd (slice_get facts.units f.unit) (λ u. P f u))

abbrev pub with_arguments : Common → UnitFacts → List Value → Common
with_arguments c u args = with_world c (with_rest u.rest u.params c.world args)

abbrev pub arguments : Common → FunctionObject → UnitFacts → List Value → List Value
arguments c f u args = passed u.rest u.params c.world args ++ f.captured

abbrev pub CallsValue : ProgramFacts → Common → ℕ → List Value → Effect → Type 0
CallsValue facts c n args effect =
    FunctionAt facts c n (λ f u. let d = with_arguments c u args in effect ≡ checked d (Enters f.unit (arguments c f u args) d))

-- ---- strands ("Start action")

-- one strand more, unless there are too many; its future is given
abbrev pub starts : Common → Option Role → ℕ → List Value → Effect
starts c role unit args =
    if nat_lt (length c.strands) most_strands
    then Spawns (record { unit = unit; args = args; role = None } ∷ []) role (Future (length c.strands) unit ∷ []) (strand_made unit None c)
    else Beyond Strands

abbrev pub StartsValue : ProgramFacts → Common → Option Role → ℕ → List Value → Effect → Type 0
StartsValue facts c role n args effect =
    FunctionAt facts c n (λ f u. let d = with_arguments c u args in effect ≡ checked d (starts d role f.unit (arguments c f u args)))

-- ---- named workers ("Named workers")

-- the workers from this one on, of an activation: each with the values that it captures
abbrev pub workers_from : ℕ → ℕ → List WorkerFacts → List Value → List Spawned
workers_from activation worker [] vs = []
workers_from activation worker (x ∷ xs) vs =
    let s : Spawned = record { unit = x.unit; args = take (length x.captured) vs; role = Some (record { activation = activation; worker = worker }) } in
    s ∷ workers_from activation (worker + 1) xs (drop (length x.captured) vs)

-- their strands are made in this order
abbrev pub strands_made : List Spawned → Common → Common
strands_made [] c = c
strands_made (s ∷ ss) c = strands_made ss (strand_made s.unit s.role c)

-- the default worker runs on the running strand, and no worker has ended or sent anything
abbrev pub new_activation : Common → ℕ → ℕ → Activation
new_activation c unit named =
    record { unit = unit; strands = c.running ∷ numbers_from (length c.strands) named; ends = replicate (named + 1) None; channels = replicate (named + 1) (replicate (named + 1) no_channel) }

abbrev pub starts_workers : Common → ℕ → List WorkerFacts → List Value → Effect
starts_workers c unit workers vs =
    let a = length c.activations in
    let ss = workers_from a 1 workers vs in
    if nat_le (length c.strands + length workers) most_strands
    then Spawns ss (Some (record { activation = a; worker = 0 })) [] (strands_made ss (record c { activations = c.activations ++ new_activation c unit (length workers) ∷ [] }))
    else Beyond Strands

abbrev pub StartsWorkers : ProgramFacts → ℕ → Common → List Value → Effect → Type 0
StartsWorkers facts unit c vs effect = IsSomeAnd (slice_get facts.units unit) (λ u. effect ≡ starts_workers c unit u.workers vs)
