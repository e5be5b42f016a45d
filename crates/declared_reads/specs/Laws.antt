-- The laws of packages whose variables are read as declared.
use Rattle.std.specs.Prelude.{◌↔◌, ℕ, List}
use Rattle.bal_base.specs.declared.text.Text.{Text}
use Rattle.type_model.specs.declared.atoms.AtomDef.{AtomDef}
use Rattle.typed_tree.specs.declared.package.TypedPackage.{TypedPackage}
use Rattle.value_model.specs.declared.filler.Filler.{Filler}
use Rattle.value_model.specs.Meaning.{Answers}
use Rattle.machine_model.specs.Laws.{HaveSameOutcomes}
use Rattle.machine_model.specs.Outcomes.{Outcome}
use Rattle.machine_model.specs.Runs.{AreWords}
use Rattle.eval_model.specs.Allowed.{TreesAllow}
use Rattle.eval_model.specs.Narrowed.{NarrowsWell}
use Rattle.eval_model.specs.Trees.{trees}
use Rattle.stack_code.specs.declared.code.Code.{Code}
use Rattle.stack_code.specs.CodeMachine.{CodeAllows, codes}
use Rattle.lower_model.specs.Whole.{HasInherentOf, IsLowered}
use Rattle.declared_reads.specs.Declared.{IsDeclared}

-- the trees of a package never look at what a read is narrowed to, and a body that is said not to end can do nothing at its end
abbrev pub DeclaredDoesTheSame : Answers → Type 0
DeclaredDoesTheSame natives =
    (atoms : List AtomDef) (fillers : ℕ → List Filler) (p q : TypedPackage) → IsDeclared p q →
    HaveSameOutcomes natives (trees atoms fillers p) (trees atoms fillers q)

-- what a narrowed read needs is so wherever one is left, and no body that is said not to end comes to its end
abbrev pub DeclaredNarrowsWell : Answers → Type 0
DeclaredNarrowsWell natives =
    (atoms : List AtomDef) (fillers : ℕ → List Filler) (p q : TypedPackage) (code : Code) → IsDeclared p q → IsLowered atoms q code →
    NarrowsWell natives atoms fillers q

-- so its code has the outcomes of the package, whatever checkers say of the package
abbrev pub DeclaredCodeDoesTheSame : Answers → Type 0
DeclaredCodeDoesTheSame natives =
    (atoms : List AtomDef) (fillers : ℕ → List Filler) (p q : TypedPackage) (code : Code) → IsDeclared p q → IsLowered atoms q code →
    HaveSameOutcomes natives (trees atoms fillers p) (codes fillers code)

-- and what may come of it is what may come of the package
abbrev pub DeclaredSameIsAllowed : Answers → Type 0
DeclaredSameIsAllowed natives =
    (atoms : List AtomDef) (p q : TypedPackage) (code : Code) → IsDeclared p q → IsLowered atoms q code → HasInherentOf q code →
    (words : List Text) (input order : List ℕ) (ticks : ℕ) (o : Outcome) → AreWords words →
    ((n : ℕ) × TreesAllow natives atoms p words input order ticks n o) ↔ ((n : ℕ) × CodeAllows natives code words input order ticks n o)
