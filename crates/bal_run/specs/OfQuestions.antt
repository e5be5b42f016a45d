-- What a call of the top says of a question of types: single facts, each both ways. Its answer is yes only where the first type is below
-- the second, and no only with a shape that is in the first and not in the second.
use Rattle.std.specs.Prelude.{◌≡◌, ◌<◌, ◌⊎◌, ℕ, List, None, Some}
use Rattle.bal_base.specs.declared.fault.Refusal.{Refusal}
use Rattle.bal_io.specs.Faults.{Rises}
use Rattle.bal_tree.specs.declared.package.SourceFile.{SourceFile}
use Rattle.module_loader.specs.Faults.{IsRefusedFor}
use Rattle.status_texts.specs.declared.status.Run.{Run}
use Rattle.status_texts.specs.declared.status.Status.TheVariants.{Done, Refused, FolderFault, OutFault}
use Rattle.bal_run.specs.Due.{NothingRan}
use Rattle.status_texts.specs.Outside.{Files, Outside}
use Rattle.folder_programs.specs.Questions.{HasNoAnswerOf, IsNeverRefused, IsQuestionRefused, SaidFront, SaidNo, SaidYes}
use Rattle.status_texts.specs.Report.{ComesTo, ComesToRefusal}

pub record QuestionIsTold (s t : List ℕ) (before after : Outside) (run : Run) : Type 0 where
  -- nothing is built, and the input isn't touched
  pub built : run.built ≡ None
  pub input : (after.input.rest ≡ before.input.rest) × (after.input.faults ≡ before.input.faults)
  -- the answer, and what of it was written
  pub answered : run.status ≡ Done → SaidYes before.folder.files s t before.out.written after.out.written ⊎ SaidNo before.folder.files s t before.out.written after.out.written
  pub answer_due : IsNeverRefused before.folder.files s t → ComesTo Done run.status ⊎ (ComesTo FolderFault run.status ⊎ ComesTo OutFault run.status)
  pub front : SaidFront before.folder.files s t before.out.written after.out.written
  -- it is refused: the files make no package, or a definition, a word or the question itself has a fault
  pub refused : (r : Refusal) → run.status ≡ Refused r → IsQuestionRefused before.folder.files s t r × NothingRan before after run
  pub refusal_due : HasNoAnswerOf before.folder.files s t
      → ((r : Refusal) × IsQuestionRefused before.folder.files s t r × ComesTo (Refused r) run.status) ⊎ ComesTo FolderFault run.status
  pub files_due : (all : Files) (r : Refusal) (read : List SourceFile) → before.folder.files ≡ Some all → IsRefusedFor all r read
      → ComesToRefusal r run.status
  -- the folder or the output failed
  pub folder_fault : run.status ≡ FolderFault → Rises before.folder.faults after.folder.faults × NothingRan before after run
  pub folder_due : before.folder.faults < after.folder.faults → ComesTo FolderFault run.status
  pub out_fault : run.status ≡ OutFault → Rises before.out.faults after.out.faults
  pub out_due : before.out.faults < after.out.faults → ComesTo OutFault run.status
