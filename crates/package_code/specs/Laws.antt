-- That code of a package runs as the package's trees do.
use Rattle.std.specs.Prelude.{ℕ, List}
use Rattle.type_model.specs.declared.atoms.AtomDef.{AtomDef}
use Rattle.typed_tree.specs.declared.package.TypedPackage.{TypedPackage}
use Rattle.value_model.specs.declared.filler.Filler.{Filler}
use Rattle.value_model.specs.Meaning.{Answers}
use Rattle.eval_model.specs.Trees.{trees}
use Rattle.stack_code.specs.declared.code.Code.{Code}
use Rattle.lower_model.specs.Whole.{IsLowered}
use Rattle.declared_reads.specs.Declared.{IsDeclared}
use Rattle.code_frames.specs.Programs.{IsProgramOf, machine_of, over}
use Rattle.code_frames.specs.declared.held.Program.{Program}
use Rattle.seeded_runs.specs.Laws.{RunsAlike}

-- where code is lowered from a package that is another one with its variables read as declared, what comes of runs of its program, and
-- what is written of them, comes of runs of the other one's trees
abbrev pub CodeRunsAsItsPackage : Answers → Type 0
CodeRunsAsItsPackage natives =
    (atoms : List AtomDef) (fillers : ℕ → List Filler) (p q : TypedPackage) (code : Code) (program : Program) → IsDeclared p q → IsLowered atoms q (over atoms code)
    → IsProgramOf fillers (over atoms code) program → RunsAlike natives (trees atoms fillers p) (machine_of program)
