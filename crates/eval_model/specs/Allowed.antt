-- What may come of a package: the outcomes of its runs.
use Rattle.std.specs.Prelude.{ℕ, List}
use Rattle.bal_base.specs.declared.text.Text.{Text}
use Rattle.type_model.specs.declared.atoms.AtomDef.{AtomDef}
use Rattle.value_model.specs.declared.filler.Filler.{Filler}
use Rattle.value_model.specs.Exact.{FillsExactly}
use Rattle.value_model.specs.Meaning.{Answers}
use Rattle.typed_tree.specs.declared.package.TypedPackage.{TypedPackage}
use Rattle.machine_model.specs.Outcomes.{Outcome, IsAllowed}
use Rattle.eval_model.specs.Inherent.{IsInherentIn}
use Rattle.eval_model.specs.Trees.{trees}

-- the fillers are those of the places of all atoms with which the package makes structures
abbrev pub KnowsFillersOf : List AtomDef → TypedPackage → (ℕ → List Filler) → Type 0
KnowsFillersOf atoms p fillers = (a : ℕ) → IsInherentIn p atoms a → FillsExactly atoms a (fillers a)

-- under this order and with so many ticks, a run of the package has this outcome, in so many steps
abbrev pub TreesAllow : Answers → List AtomDef → TypedPackage → List Text → List ℕ → List ℕ → ℕ → ℕ → Outcome → Type 0
TreesAllow natives atoms p words input order ticks n o =
    (fillers : ℕ → List Filler) × KnowsFillersOf atoms p fillers × IsAllowed natives (trees atoms fillers p) words input order ticks n o
