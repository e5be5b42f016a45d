-- Runs of a program are runs of its code, runs of the package with its variables read as declared, and runs of the package.
use Rattle.std.proofs.Common.{ℕ, List}
use Rattle.type_model.specs.declared.atoms.AtomDef.{AtomDef}
use Rattle.typed_tree.specs.declared.package.TypedPackage.{TypedPackage}
use Rattle.value_model.specs.declared.filler.Filler.{Filler}
use Rattle.value_model.specs.Meaning.{Answers}
use Rattle.machine_model.specs.Machine.{Machine}
use Rattle.eval_model.specs.Narrowed.{IsFine}
use Rattle.eval_model.specs.Trees.{facts_of, trees}
use Rattle.eval_model.proofs.Settled.{doing-settles}
use Rattle.stack_code.specs.declared.code.Code.{Code}
use Rattle.stack_code.specs.CodeMachine.{codes}
use Rattle.lower_model.specs.Following.{Follows}
use Rattle.lower_model.specs.Whole.{IsLowered}
use Rattle.lower_model.proofs.Whole.{frames-follow}
use Rattle.declared_reads.specs.Declared.{IsDeclared}
use Rattle.declared_reads.proofs.Machines as declared
use Rattle.declared_reads.proofs.Narrowing.{declared-narrows-well}
use Rattle.code_frames.specs.Programs.{IsProgramOf, machine_of, over}
use Rattle.code_frames.specs.declared.held.Program.{Program}
use Rattle.code_runs.proofs.Alike.{program-runs-alike}
use Rattle.seeded_runs.specs.Laws.{RunsAlike}
use Rattle.seeded_runs.proofs.Runs.{followers-run-alike}
use Rattle.package_code.specs.Laws.{CodeRunsAsItsPackage}

both-alike : {A B C : Type 0} (natives : Answers) (L : Machine A) (M : Machine B) (N : Machine C) → RunsAlike natives L M → RunsAlike natives M N → RunsAlike natives L N
both-alike natives L M N first second =
    record {
      runs = λ words input ticks seed o old new texts h. first.runs words input ticks seed o old new texts (second.runs words input ticks seed o old new texts h);
      cut = λ words input ticks seed old new texts h. first.cut words input ticks seed old new texts (second.cut words input ticks seed old new texts h);
    }

module _ (natives : Answers) (atoms : List AtomDef) (fillers : ℕ → List Filler) where
  declared-alike : (p q : TypedPackage) → IsDeclared p q → RunsAlike natives (trees atoms fillers p) (trees atoms fillers q)
  declared-alike p q is =
      followers-run-alike natives (trees atoms fillers p) (trees atoms fillers q) (declared.Follows natives atoms fillers p q is) (λ c d. Unit {0})
      (declared.frames-follow natives atoms fillers p q is) (λ words input ticks s f fs texts reached at. tt) (doing-settles atoms fillers p)

  lowered-alike : (p q : TypedPackage) (code : Code) → IsDeclared p q → IsLowered atoms q code → RunsAlike natives (trees atoms fillers q) (codes fillers code)
  lowered-alike p q code is lowered =
      followers-run-alike natives (trees atoms fillers q) (codes fillers code) (Follows code) (IsFine (facts_of atoms fillers q))
      (frames-follow natives atoms fillers q code lowered) (declared-narrows-well natives atoms fillers p q code is lowered) (doing-settles atoms fillers q)

  package-alike : (p q : TypedPackage) (code : Code) (program : Program) → IsDeclared p q → IsLowered atoms q (over atoms code) → IsProgramOf fillers (over atoms code) program → RunsAlike natives (trees atoms fillers p) (machine_of program)
  package-alike p q code program read lowered is =
      let P = trees atoms fillers p in
      let Q = trees atoms fillers q in
      let C = codes fillers (over atoms code) in
      both-alike natives P Q (machine_of program) (declared-alike p q read)
      (both-alike natives Q C (machine_of program) (lowered-alike p q (over atoms code) read lowered) (program-runs-alike C (machine_of program) is natives))

pub code-runs-as-its-package : (natives : Answers) → CodeRunsAsItsPackage natives
code-runs-as-its-package natives atoms fillers p q code program read lowered is = package-alike natives atoms fillers p q code program read lowered is
