-- What statements change of what a checker knows of variables, as what is known of slots: declarations, assignments, heads of loops, ends of blocks and ends of ways.
use Rattle.std.specs.Prelude.{◌≡◌, ◌≤◌, ℕ, List, [], ◌∷◌, None, Some, ⊤}
use Rattle.bal_base.specs.declared.text.Name.{Name}
use Rattle.bal_tree.specs.declared.name.Word.{Word}
use Rattle.type_model.specs.declared.atoms.AtomDef.{AtomDef}
use Rattle.type_model.specs.Inclusion.{Sub}
use Rattle.typed_tree.specs.SharedTypes.{sem_of}
use Rattle.flow_narrowing.specs.declared.flow.Flow.{Flow}
use Rattle.flow_narrowing.specs.declared.flow.Variable.{Variable}
use Rattle.flow_narrowing.specs.Flows.{now}
use Rattle.check_words.specs.Branches.{at_head}
use Rattle.check_words.specs.State.{find_variable, outside, stopped, with_type, with_variable}
use Rattle.tree_promises.specs.Known.{FlowBelow, set_in}
use Rattle.tree_promises.specs.KnownOf.{known_of}
use Rattle.flow_needs.specs.Narrower.{IsNarrower}
use Rattle.flow_needs.specs.Slots.{HaveSlots}

-- each variable is narrowed to a type below its declared one, if it is narrowed
abbrev pub AreBelowDeclared : List AtomDef → List Variable → Type 0
AreBelowDeclared env [] = ⊤
AreBelowDeclared env (v ∷ vs) = Sub env (now v).sem (sem_of v.declared) × AreBelowDeclared env vs

-- `count`: how many slots there are
pub record ChangesAreKnown (env : List AtomDef) (count : ℕ) : Type 0 where
  -- a variable more, in a slot behind those of the others, is a slot that holds a value of its declared type
  pub declared : (n : ℕ) (f : Flow) (v : Variable) → HaveSlots n f.variables → n ≤ v.slot → v.narrowed ≡ None
      → known_of count (with_variable v f) ≡ set_in v.slot (sem_of v.declared) (known_of count f)
  -- and so is one that is assigned
  pub assigned : (f : Flow) (name : Name) (v : Variable) → HaveSlots count f.variables → find_variable f.variables name ≡ Some v
      → known_of count (with_type name None f) ≡ set_in v.slot (sem_of v.declared) (known_of count f)
  -- at the head of a loop is known what is known before it, but for what is assigned in it
  pub headed : (words : List Word) (f : Flow) → AreBelowDeclared env f.variables → IsNarrower env (at_head words f) f
  -- behind a block nothing is known of what was declared in it
  pub outside : (scope : ℕ) (f : Flow) → FlowBelow env (known_of count f) (known_of count (outside scope f))
  -- where no way goes on nothing is reached
  pub stopped : (f : Flow) → known_of count (stopped f) ≡ None

abbrev pub AllChangesAreKnown : Type 0
AllChangesAreKnown = (env : List AtomDef) (count : ℕ) → ChangesAreKnown env count
