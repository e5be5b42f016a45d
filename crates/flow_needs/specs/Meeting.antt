-- What is known on narrower ways, over the atoms that there are at the end: where they meet, and where a variable is tested.
use Rattle.std.specs.Prelude.{◌≡◌, ℕ, List, length, Some}
use Rattle.bal_base.specs.declared.text.Name.{Name}
use Rattle.type_model.specs.declared.atoms.AtomDef.{AtomDef}
use Rattle.type_model.specs.declared.basic.Ty.{Ty}
use Rattle.type_model.specs.Calls.{KeepsTypes}
use Rattle.type_model.specs.Defined.{IsDefined}
use Rattle.type_model.specs.Inclusion.{Sub}
use Rattle.typed_tree.specs.SharedTypes.{Shared, sem_of}
use Rattle.flow_narrowing.specs.declared.flow.Flow.{Flow}
use Rattle.flow_narrowing.specs.declared.flow.Variable.{Variable}
use Rattle.flow_narrowing.specs.Flows.{IsJoin, VariablesBelow, now}
use Rattle.flow_narrowing.specs.Narrowed.{WhereFalse, WhereTrue}
use Rattle.check_words.specs.Sharing.{SameFlow}
use Rattle.check_words.specs.State.{find_variable, with_type}
use Rattle.tree_promises.specs.Flows.{LeavesFalse, LeavesTrue}
use Rattle.flow_needs.specs.Narrower.{IsNarrower}
use Rattle.flow_needs.specs.Slots.{HaveSlots}

-- what is known where two narrower ways meet: no more than on each of them, and no less than before they parted
pub record MeetsNarrower (env : List AtomDef) (f g h k : Flow) : Type 0 where
  pub narrower : IsNarrower env f k
  pub first : IsNarrower env k g
  pub second : IsNarrower env k h

-- `old`: the atoms that there are when it is asked, and `env` those at the end
pub record WaysAreNarrower (old env : List AtomDef) : Type 0 where
  pub itself : (f : Flow) → IsNarrower env f f
  pub then : (f g h : Flow) → IsNarrower env f g → IsNarrower env g h → IsNarrower env f h
  pub handles : (f g : Flow) → SameFlow f g → IsNarrower env f g × IsNarrower env g f
  -- the same variables are in the same slots
  pub slots : (n : ℕ) (f g : Flow) → IsNarrower env f g → HaveSlots n f.variables → HaveSlots n g.variables
  pub meet : (f g h k : Flow) → KeepsTypes old env → VariablesBelow (length old) g.variables → VariablesBelow (length old) h.variables
      → VariablesBelow (length old) k.variables → IsNarrower env f g → IsNarrower env f h → IsJoin old g h k → MeetsNarrower env f g h k
  pub tested : (f : Flow) (name : Name) (v : Variable) (t : Shared) → find_variable f.variables name ≡ Some v → Sub env (sem_of t) (now v).sem
      → IsNarrower env f (with_type name (Some t) f)
  -- what a test leaves of a type
  pub holds : (s t u : Ty) → KeepsTypes old env → IsDefined old s.sem → IsDefined old t.sem → IsDefined old u.sem → WhereTrue old s t u → LeavesTrue env s.sem t.sem u.sem
  pub fails : (s t u : Ty) → KeepsTypes old env → IsDefined old s.sem → IsDefined old t.sem → IsDefined old u.sem → WhereFalse old s t u → LeavesFalse env s.sem t.sem u.sem

abbrev pub AllWaysAreNarrower : Type 0
AllWaysAreNarrower = (old env : List AtomDef) → WaysAreNarrower old env
