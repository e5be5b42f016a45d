-- Members that belong to their places, one after another.
use Rattle.std.proofs.Common.{◌≡◌, ◌+◌, ◌<◌, ◌≤◌, ℕ, true, List, Option, Some, length, get_or, refl, subst}
use Rattle.std.specs.Prelude.{All, slice_get, take}
use Rattle.std.proofs.lemmas.List.{take_all}
use Rattle.std.proofs.lemmas.List.Elements.{All-more}
use Rattle.bal_base.specs.declared.text.Text.{Text}
use Rattle.type_model.specs.declared.basic.Ty.{Ty}
use Rattle.type_model.specs.declared.atoms.AtomDef.TheVariants.{Mapping as MappingAtom}
use Rattle.type_model.specs.declared.atoms.FieldDef.{FieldDef}
use Rattle.type_model.specs.Places.{item_type, key_type}
use Rattle.value_model.specs.declared.value.Value.{Value}
use Rattle.value_model.specs.Heap.{Entries}
use Rattle.value_model.specs.Stands.{BelongsIf}
use Rattle.op_model.specs.ProgramFacts.{own_types}
use Rattle.plain_run.specs.declared.facts.ProgramFacts.{ProgramFacts}
use Rattle.plain_run.specs.declared.held.Heap.{Heap}
use Rattle.plain_run.specs.ProgramFacts.{facts_of}
use Rattle.plain_run.specs.Held.{heap_of}
use Rattle.plain_tests.specs.Tells.{TellsIf}
use Rattle.plain_removals.specs.Members.{HasRequired, TellsMembers}

module _ (facts : ProgramFacts) (h : Heap) where
  abbrev Belongs : Value → Option Ty → Type 0
  Belongs v t = BelongsIf (own_types (facts_of facts)) (heap_of h) v t

  -- ---- items

  module _ (fixed : List Ty) (rest : Option Ty) (vs : List Value) where
    -- the first so many items belong to their places
    abbrev pub FirstBelong : ℕ → Type 0
    FirstBelong i = (k : ℕ) (v : Value) → k < i → slice_get vs k ≡ Some v → Belongs v (item_type fixed rest k)

  -- ---- entries

  module _ (fields : List FieldDef) (rest : Option Ty) (es : List (Text × Value)) where
    abbrev pub EntryBelongs : Text × Value → Type 0
    EntryBelongs e = Belongs e.1 (key_type fields rest e.0)

    pub entry-more : (i : ℕ) (e : Text × Value) → i < length es → e ≡ get_or es i e → All EntryBelongs (take i es) → TellsIf facts h e.1 (key_type fields rest e.0) (Some true) → All EntryBelongs (take (i + 1) es)
    entry-more i e l is first told = All-more EntryBelongs es i e l first (subst EntryBelongs is (told.0 refl))

    pub entries-end : (i : ℕ) → length es ≤ i → HasRequired fields es → All EntryBelongs (take i es) → TellsMembers facts h (Entries es) (MappingAtom fields rest) (Some true)
    entries-end i past all-there first = (λ t. (all-there, subst (All EntryBelongs) (take_all i es past) first), λ all. refl)
