-- That a code is lowered from a package, and that it then does what the package means.
use Rattle.std.specs.Prelude.{◌≡◌, ◌↔◌, ℕ, List, Contains, map, slice_get}
use Rattle.bal_base.specs.declared.text.Text.{Text}
use Rattle.type_model.specs.declared.atoms.AtomDef.{AtomDef}
use Rattle.value_model.specs.declared.filler.Filler.{Filler}
use Rattle.value_model.specs.Meaning.{Answers}
use Rattle.typed_tree.specs.declared.package.TypedPackage.{TypedPackage}
use Rattle.typed_tree.specs.Units.{unit_at}
use Rattle.op_model.specs.Levels.{numbers_from}
use Rattle.machine_model.specs.Following.{Both}
use Rattle.machine_model.specs.Laws.{HaveSameOutcomes}
use Rattle.machine_model.specs.Outcomes.{Outcome}
use Rattle.machine_model.specs.Runs.{AreWords}
use Rattle.eval_model.specs.Allowed.{KnowsFillersOf, TreesAllow}
use Rattle.eval_model.specs.Inherent.{IsInherentIn}
use Rattle.eval_model.specs.Narrowed.{NarrowsWell}
use Rattle.eval_model.specs.Trees.{launch_of, trees, unit_facts as tree_facts}
use Rattle.stack_code.specs.declared.code.Code.{Code}
use Rattle.stack_code.specs.CodeMachine.{CodeAllows, code_launch, codes, unit_facts}
use Rattle.lower_model.specs.Lowered.{UnitAt}

-- the code is that of the package over these atoms: what is known of it is what is known of the package, and each unit's code
-- stands for the unit
pub record IsLowered (defs : List AtomDef) (p : TypedPackage) (code : Code) : Type 0 where
  pub atoms : defs ≡ code.atoms
  pub facts : map (λ n. tree_facts (unit_at p n)) (numbers_from 0 p.units) ≡ map unit_facts code.units
  pub initialisers : map (λ i. i.unit.number) p.initialisers.items ≡ code.initialisers
  pub launch : launch_of p ≡ code_launch code
  pub units : (n : ℕ) → Both (UnitAt code) (unit_at p n) (slice_get code.units n)

-- its inherent atoms are those of the package
abbrev pub HasInherentOf : TypedPackage → Code → Type 0
HasInherentOf p code = (a : ℕ) → Contains code.inherent a ↔ IsInherentIn p code.atoms a

-- the code has an outcome exactly where the package has it: for all words, inputs, orders and ticks
abbrev pub CodeDoesTheSame : Answers → Type 0
CodeDoesTheSame natives =
    (atoms : List AtomDef) (fillers : ℕ → List Filler) (p : TypedPackage) (code : Code) →
    IsLowered atoms p code → NarrowsWell natives atoms fillers p → HaveSameOutcomes natives (trees atoms fillers p) (codes fillers code)

-- what may come of the code is what may come of the package
abbrev pub SameIsAllowed : Answers → Type 0
SameIsAllowed natives =
    (atoms : List AtomDef) (p : TypedPackage) (code : Code) → IsLowered atoms p code → HasInherentOf p code →
    ((fillers : ℕ → List Filler) → KnowsFillersOf atoms p fillers → NarrowsWell natives atoms fillers p) →
    (words : List Text) (input order : List ℕ) (ticks : ℕ) (o : Outcome) → AreWords words →
    ((n : ℕ) × TreesAllow natives atoms p words input order ticks n o) ↔ ((n : ℕ) × CodeAllows natives code words input order ticks n o)
