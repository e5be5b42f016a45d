-- Where the tests of a store aren't told: questions of types.
use Rattle.std.specs.Prelude.{ℕ, Option, IsSomeAnd, IsTrue, option_and_then}
use Rattle.bal_base.specs.declared.text.Text.{Text}
use Rattle.value_model.specs.declared.value.Value.{Value}
use Rattle.value_model.specs.Heap.{Structure}
use Rattle.op_model.specs.ProgramFacts.{own_types}
use Rattle.op_model.specs.Rows.{ListAt, MappingAt}
use Rattle.op_model.specs.Stores.{atom_of, type_at_key, type_at_place}
use Rattle.plain_run.specs.declared.facts.ProgramFacts.{ProgramFacts}
use Rattle.plain_run.specs.declared.held.World.{World}
use Rattle.plain_run.specs.ProgramFacts.{facts_of}
use Rattle.plain_run.specs.Held.{world_of}
use Rattle.plain_tests.specs.Tells.{IsBeyondIf}

-- the structure is mutable, and whether the value belongs to the type of this place isn't told
abbrev pub PlaceIsBeyond : ProgramFacts → World → Structure → Option ℕ → Value → Type 0
PlaceIsBeyond facts w s place v =
    IsTrue s.mutable × IsSomeAnd place (λ k. IsBeyondIf facts w.heap v (option_and_then (type_at_place k) (atom_of (own_types (facts_of facts)) s)))

-- the structure is mutable, and whether the value belongs to the type at this key isn't told
abbrev pub KeyIsBeyond : ProgramFacts → World → Structure → Text → Value → Type 0
KeyIsBeyond facts w s key v =
    IsTrue s.mutable × IsBeyondIf facts w.heap v (option_and_then (type_at_key key) (atom_of (own_types (facts_of facts)) s))

-- the same of the list, and of the mapping, with this number
abbrev pub StoreIsBeyond : ProgramFacts → World → ℕ → Option ℕ → Value → Type 0
StoreIsBeyond facts w n place v = ListAt (world_of w) n (λ s vs. PlaceIsBeyond facts w s place v)

abbrev pub EntryIsBeyond : ProgramFacts → World → ℕ → Text → Value → Type 0
EntryIsBeyond facts w n key v = MappingAt (world_of w) n (λ s es. KeyIsBeyond facts w s key v)
