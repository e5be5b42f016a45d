-- The questions of types that stores ask, where they aren't told.
use Rattle.std.specs.Prelude.{◌⊎◌, ℕ, List, [], ◌∷◌, Some, length}
use Rattle.value_model.specs.declared.value.Value.{Value}
use Rattle.value_model.specs.World.{Gave}
use Rattle.op_model.specs.ProgramFacts.{own_types}
use Rattle.op_model.specs.Operands.{AString, AStructure, AnInt, OneAndMore, Three}
use Rattle.op_model.specs.Rows.{ListAt, place_of}
use Rattle.op_model.specs.Stores.{StoresAt}
use Rattle.plain_run.specs.declared.facts.ProgramFacts.{ProgramFacts}
use Rattle.plain_run.specs.declared.held.World.{World}
use Rattle.plain_run.specs.ProgramFacts.{facts_of}
use Rattle.plain_run.specs.Held.{world_of}
use Rattle.store_tests.specs.Questions.{EntryIsBeyond, PlaceIsBeyond, StoreIsBeyond}

-- `l[i] = v`
abbrev pub SetItemIsBeyond : ProgramFacts → List Value → World → Type 0
SetItemIsBeyond facts vs w =
    Three vs (λ l i v. AStructure l (λ n. AnInt i (λ k. StoreIsBeyond facts w n (place_of k) v)))

-- `m[k] = v`
abbrev pub SetKeyIsBeyond : ProgramFacts → List Value → World → Type 0
SetKeyIsBeyond facts vs w =
    Three vs (λ m k v. AStructure m (λ n. AString k (λ key. EntryIsBeyond facts w n key v)))

-- values that are stored behind the last item in turn: it isn't told of one of them, in the world to which the stores of
-- those before it come
abbrev pub PushesAreBeyond : ProgramFacts → ℕ → List Value → World → Type 0
PushesAreBeyond facts n [] w = ⊥
PushesAreBeyond facts n (v ∷ vs) w =
    ListAt (world_of w) n (λ s items. PlaceIsBeyond facts w s (Some (length items)) v)
    ⊎ ((next : World) × ListAt (world_of w) n (λ s items. StoresAt (own_types (facts_of facts)) (λ _. []) (world_of w) n s items (Some (length items)) v (Gave [] (world_of next))) × PushesAreBeyond facts n vs next)

-- `l.push(v, ..)`
abbrev pub PushIsBeyond : ProgramFacts → List Value → World → Type 0
PushIsBeyond facts vs w = OneAndMore vs (λ l more. AStructure l (λ n. PushesAreBeyond facts n more w))
