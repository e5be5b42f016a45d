-- Whether members are those of a structure of an atom, and when that is not told.
use Rattle.std.specs.Prelude.{⊤, ◌≡◌, ◌⊎◌, ◌↔◌, ◌≤◌, ℕ, Bool, List, Option, Some, None, All, Any, IsSomeAnd, IsTrue, length, slice_get}
use Rattle.bal_base.specs.declared.text.Text.{Text}
use Rattle.type_model.specs.declared.basic.Ty.{Ty}
use Rattle.type_model.specs.declared.atoms.AtomDef.{AtomDef}
use Rattle.type_model.specs.declared.atoms.AtomDef.TheVariants.{List as ListAtom, Mapping as MappingAtom, Arrow, Error as ErrorAtom, Future as FutureAtom}
use Rattle.type_model.specs.declared.atoms.FieldDef.{FieldDef}
use Rattle.type_model.specs.Places.{item_type, key_type}
use Rattle.value_model.specs.declared.value.Value.{Value}
use Rattle.value_model.specs.Heap.{Members, Items, Entries, entry_at}
use Rattle.value_model.specs.Stands.{MembersBelong}
use Rattle.op_model.specs.ProgramFacts.{own_types}
use Rattle.plain_run.specs.declared.facts.ProgramFacts.{ProgramFacts}
use Rattle.plain_run.specs.declared.held.Heap.{Heap}
use Rattle.plain_run.specs.ProgramFacts.{facts_of}
use Rattle.plain_run.specs.Held.{heap_of}
use Rattle.plain_tests.specs.Own.{def_of}
use Rattle.plain_tests.specs.Tells.{IsBeyondIf}

-- the field is there, or need not be
abbrev pub IsMet : List (Text × Value) → FieldDef → Type 0
IsMet es f = IsTrue f.optional ⊎ IsSomeAnd (entry_at es f.name) (λ _. ⊤)

-- each field that has to be there is there
abbrev pub HasRequired : List FieldDef → List (Text × Value) → Type 0
HasRequired fields es = All (IsMet es) fields

module _ (facts : ProgramFacts) (h : Heap) where
  -- of some item it is not told whether it belongs to its place
  abbrev pub HasItemBeyond : List Ty → Option Ty → List Value → Type 0
  HasItemBeyond fixed rest vs = (i : ℕ) × (v : Value) × (slice_get vs i ≡ Some v) × IsBeyondIf facts h v (item_type fixed rest i)

  -- of some entry it is not told whether it belongs to its key
  abbrev pub HasEntryBeyond : List FieldDef → Option Ty → List (Text × Value) → Type 0
  HasEntryBeyond fields rest es = Any (λ e. IsBeyondIf facts h e.1 (key_type fields rest e.0)) es

  -- as many items as the atom asks for, or all keys that it asks for, of a member of which it is not told whether it belongs
  -- to its place
  abbrev pub AreMembersBeyond : Members → AtomDef → Type 0
  AreMembersBeyond (Items vs) (ListAtom fixed rest) = (length fixed ≤ length vs) × HasItemBeyond fixed rest vs
  AreMembersBeyond (Items vs) (MappingAtom fields rest) = ⊥
  AreMembersBeyond (Items vs) (Arrow args outcome alone) = ⊥
  AreMembersBeyond (Items vs) (ErrorAtom detail) = ⊥
  AreMembersBeyond (Items vs) (FutureAtom outcome) = ⊥
  AreMembersBeyond (Entries es) (ListAtom fixed rest) = ⊥
  AreMembersBeyond (Entries es) (MappingAtom fields rest) = HasRequired fields es × HasEntryBeyond fields rest es
  AreMembersBeyond (Entries es) (Arrow args outcome alone) = ⊥
  AreMembersBeyond (Entries es) (ErrorAtom detail) = ⊥
  AreMembersBeyond (Entries es) (FutureAtom outcome) = ⊥

  -- whether the members are those of a structure of the atom, or that this is not told
  abbrev pub TellsMembers : Members → AtomDef → Option Bool → Type 0
  TellsMembers m d (Some belong) = IsTrue belong ↔ MembersBelong (own_types (facts_of facts)) (heap_of h) m d
  TellsMembers m d None = AreMembersBeyond m d

  -- that the members may not be told to be those of a structure of an atom that is named and defined
  abbrev pub AreBeyondIf : Members → Option ℕ → Type 0
  AreBeyondIf m atom = IsSomeAnd (def_of (own_types (facts_of facts)) atom) (AreMembersBeyond m)

  abbrev pub AllBelongIf : Members → Option ℕ → Type 0
  AllBelongIf m atom = IsSomeAnd (def_of (own_types (facts_of facts)) atom) (MembersBelong (own_types (facts_of facts)) (heap_of h) m)

  -- the same of the atom with a number, where one is named and defined
  abbrev pub TellsMembersIf : Members → Option ℕ → Option Bool → Type 0
  TellsMembersIf m atom (Some belong) = IsTrue belong ↔ AllBelongIf m atom
  TellsMembersIf m atom None = AreBeyondIf m atom
