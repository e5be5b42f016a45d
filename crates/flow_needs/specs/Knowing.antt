-- What a checker knows of variables in slots of their own, as what is known of slots.
use Rattle.std.specs.Prelude.{◌≡◌, ◌≤◌, ◌<◌, ℕ, List, Some, is_some}
use Rattle.bal_base.specs.declared.text.Name.{Name}
use Rattle.type_model.specs.declared.atoms.AtomDef.{AtomDef}
use Rattle.typed_tree.specs.SharedTypes.{Shared, sem_of}
use Rattle.flow_narrowing.specs.declared.flow.Flow.{Flow}
use Rattle.flow_narrowing.specs.declared.flow.Variable.{Variable}
use Rattle.flow_narrowing.specs.Flows.{now}
use Rattle.check_words.specs.Sharing.{SameFlow}
use Rattle.check_words.specs.State.{find_variable, with_type}
use Rattle.tree_promises.specs.Flows.{Around}
use Rattle.tree_promises.specs.Known.{FlowBelow, IsFreeIn, set_in}
use Rattle.tree_promises.specs.KnownOf.{known_of}
use Rattle.tree_promises.specs.MadeFlows.{IsKnown}
use Rattle.flow_needs.specs.Narrower.{IsNarrower}
use Rattle.flow_needs.specs.Slots.{HaveSlots}

-- `count`: how many slots there are
pub record VariablesAreKnown (env : List AtomDef) (around : Around) (count : ℕ) : Type 0 where
  -- the variable that a name stands for is known, where it is narrowed in the type that it has here
  pub reads : (f : Flow) (name : Name) (v : Variable) → HaveSlots count f.variables → find_variable f.variables name ≡ Some v
      → IsKnown env around v.slot (is_some v.narrowed) (now v).sem (known_of count f)
  -- to give it a type is to know its slot in that type, and nothing else changes
  pub narrows : (f : Flow) (name : Name) (v : Variable) (t : Shared) → HaveSlots count f.variables → find_variable f.variables name ≡ Some v
      → known_of count (with_type name (Some t) f) ≡ set_in v.slot (sem_of t) (known_of count f)
  -- of a slot behind those of variables nothing is known
  pub free : (n : ℕ) (f : Flow) (slot : ℕ) → HaveSlots n f.variables → n ≤ slot → slot < count → IsFreeIn slot (known_of count f)
  -- other handles of types tell nothing new
  pub same : (f g : Flow) → SameFlow f g → known_of count g ≡ known_of count f
  -- where more is known of variables, so it is of slots
  pub below : (f g : Flow) → IsNarrower env f g → FlowBelow env (known_of count g) (known_of count f)

abbrev pub AllVariablesAreKnown : Type 0
AllVariablesAreKnown = (env : List AtomDef) (around : Around) (count : ℕ) → VariablesAreKnown env around count
