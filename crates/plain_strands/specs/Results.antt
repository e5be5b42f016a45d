-- What comes of a multiple wait.
use Rattle.std.specs.Prelude.{⊤, ◌≡◌, ◌++◌, ℕ, Bool, true, false, List, [], ◌∷◌, Option, Some, None, map, zip}
use Rattle.bal_base.specs.declared.text.Text.{Text}
use Rattle.value_model.specs.declared.value.Value.{Value}
use Rattle.value_model.specs.declared.value.Value.TheVariants.{Struct}
use Rattle.value_model.specs.Heap.{Entries, ErrorObject, Structure}
use Rattle.value_model.specs.PanicName.{future_taken}
use Rattle.value_model.specs.World as model
use Rattle.op_model.specs.Common as model_common
use Rattle.op_model.specs.Effects.{Effect, lifted}
use Rattle.op_model.specs.Levels.{numbers_from}
use Rattle.op_model.specs.Rows.{gives, new_structure, next_structure, within}
use Rattle.op_model.specs.Waits.{Collected, FirstPanic, Results, behind, missing, numbered, took, with_results}
use Rattle.op_model.specs.Waits as waits
use Rattle.plain_run.specs.declared.held.Common.{Common}
use Rattle.plain_run.specs.declared.world.Came.{Came}
use Rattle.plain_run.specs.declared.world.Came.TheVariants.{Gave, Threw, PassesCells}
use Rattle.plain_run.specs.Came.{came_of}
use Rattle.plain_run.specs.Held.{common_of}

-- one, where the result is missing, the detail that is made for it, and the error
abbrev pub one_missing : Option Value → ℕ
one_missing (Some v) = 0
one_missing None = 1

abbrev pub detail_of : Option Value → List Structure
detail_of (Some v) = []
detail_of None = new_structure None false (Entries []) ∷ []

abbrev pub error_from : ℕ → Option Value → List ErrorObject
error_from detail (Some v) = []
error_from detail None = record { message = future_taken; cause = None; detail = detail } ∷ []

-- the details of so many errors, and the errors, by the number of the first detail
abbrev pub details : List (Option Value) → List Structure
details vs = map (λ n. new_structure None false (Entries [])) (numbers_from 0 (missing vs))

abbrev pub errors_from : ℕ → List (Option Value) → List ErrorObject
errors_from first vs = map (λ n. let e : ErrorObject = record { message = future_taken; cause = None; detail = n } in e) (numbers_from first (missing vs))

-- the mapping of the results, where the first error that is made gets this number
abbrev pub mapping_of : ℕ → ℕ → List Text → List (Option Value) → Structure
mapping_of atom next names vs = new_structure (Some atom) true (Entries (zip names (numbered next vs)))

-- the mapping of the results is given, unless the heap has too many cells
abbrev pub mapping_given : model.World → ℕ → List Text → List (Option Value) → model.Came
mapping_given w atom names vs = within (gives (with_results w atom names vs) (Struct (next_structure w)))

-- these results come first
abbrev pub prefixed : List (Option Value) → Collected → Collected
prefixed front (Results vs c) = Results (front ++ vs) c
prefixed front (FirstPanic e c) = FirstPanic e c

-- how a strand has ended, where its result was not taken
abbrev pub free_end : Bool → Option model_common.End → Option model_common.End
free_end true end = None
free_end false end = end

-- what comes of a strand that has ended so and whose result was not taken, and of others behind it
abbrev pub collects_untaken : (model_common.Common → Collected) → model_common.Common → waits.Target → Option model_common.End → Collected
collects_untaken more c t (Some (model_common.Returned v)) = behind (Some v) (more (took c t))
collects_untaken more c t (Some (model_common.Panicked e)) = FirstPanic e (took c t)
collects_untaken more c t None = behind None (more c)

-- what came, as an effect on the run
abbrev pub effect_came : Came → Common → Effect
effect_came came c = lifted (common_of c) (came_of came c.world)

-- what could not be done changed nothing
abbrev pub CommonStays : Common → Common → Came → Type 0
CommonStays old new (Gave v) = ⊤
CommonStays old new (Threw e) = ⊤
CommonStays old new PassesCells = common_of new ≡ common_of old

-- what could not be done changed nothing but that this result is taken
abbrev pub JustTook : Common → waits.Target → Common → Came → Type 0
JustTook old t new (Gave v) = ⊤
JustTook old t new (Threw e) = ⊤
JustTook old t new PassesCells = common_of new ≡ took (common_of old) t
