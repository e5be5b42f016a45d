-- A unit of a code, of one that was laid.
use Rattle.std.specs.Prelude.{◌≡◌, ℕ, Some, length}
use Rattle.std.specs.List.{AllZip}
use Rattle.typed_tree.specs.Units.{UnitTree}
use Rattle.op_model.specs.ProgramFacts.{WorkerFacts}
use Rattle.eval_model.specs.Trees.{unit_facts as tree_facts}
use Rattle.stack_code.specs.declared.code.Spawn.{Spawn}
use Rattle.stack_code.specs.declared.code.Unit.{Unit as CodeUnit}
use Rattle.stack_code.specs.CodeMachine.{unit_facts}
use Rattle.package_units.specs.Held.{tree_of}
use Rattle.code_assembly.specs.declared.units.LaidUnit.{LaidUnit}
use Rattle.code_assembly.specs.Copies.{IsCopy}
use Rattle.type_model.specs.SameType.{IsSameType}
use Rattle.typed_tree.specs.SharedTypes.{sem_of}

abbrev pub tree_in : LaidUnit → UnitTree
tree_in l = tree_of l.held

abbrev pub params_in : LaidUnit → ℕ
params_in l = (tree_in l).unit.params

abbrev pub spawn_facts : Spawn → WorkerFacts
spawn_facts s = record { unit = s.unit; captured = s.slots }

-- it has the unit's places and the types of its slots and its result, and what is known of it is what is known of the unit
pub record IsUnitOf (l : LaidUnit) (v : CodeUnit) : Type 0 where
  pub first : v.first ≡ l.first
  pub end : v.end ≡ l.end
  pub slots : AllZip IsCopy (tree_in l).unit.slots v.slots
  pub count : length v.slots ≡ length (tree_in l).unit.slots
  pub result : IsSameType (sem_of (tree_in l).unit.result) v.result
  pub facts : unit_facts v ≡ tree_facts (Some (tree_in l))
