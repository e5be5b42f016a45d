-- What is so of a call whose words are a question.
use Rattle.std.proofs.Common.{◌≡◌, ◌⊎◌, ℕ, ◌<◌, List, Option, Some, sym, ap, subst, ◌∙◌, inl, inr, ⊎_elim, arith}
use Rattle.bal_base.specs.declared.fault.Refusal.{Refusal}
use Rattle.bal_io.specs.Content.{Told, Appends}
use Rattle.bal_io.specs.Faults.{Rises}
use Rattle.bal_tree.specs.declared.package.Module.{Module}
use Rattle.bal_tree.specs.declared.package.Package.{Package}
use Rattle.bal_tree.specs.declared.package.SourceFile.{SourceFile}
use Rattle.module_loader.specs.Faults.{IsRefusedFor}
use Rattle.type_model.specs.declared.answers.Answer.{Answer}
use Rattle.type_model.specs.declared.answers.Answer.TheVariants.{Yes, No}
use Rattle.status_texts.specs.declared.status.Run.{Run}
use Rattle.status_texts.specs.declared.status.Status.{Status}
use Rattle.status_texts.specs.declared.status.Status.TheVariants.{Done, Refused, FolderFault, OutFault, Memory, DiagFault}
use Rattle.bal_run.specs.Due.{NothingRan, QuestionEnded, Questioned}
use Rattle.status_texts.specs.Outside.{Files, Outside, SinkTells}
use Rattle.bal_run.specs.OfQuestions.{QuestionIsTold}
use Rattle.folder_programs.specs.Packages.{HasNoPackage, IsMade, IsPackageOf, IsUnmade}
use Rattle.folder_programs.specs.Questions.{HasNoAnswerOf, IsAnswerOf, IsNeverRefused, IsQuestionRefused, SaidFront, SaidNo, SaidYes, answer_bytes}
use Rattle.status_texts.specs.Report.{ComesTo, ComesToRefusal, Reports}
use Rattle.status_texts.proofs.ReportFacts.{come-or-cut, come-or-fail, come-or-memory, comes-from, due-is, whole-front}

-- ---- what was written

module _ (files : Option Files) (s t : List ℕ) (w v : Option (List ℕ)) where
  said-so : (answer : Answer) → IsAnswerOf files s t answer → Told (Appends (answer_bytes answer)) w v → SaidYes files s t w v ⊎ SaidNo files s t w v
  said-so Yes has told = inl (has, told)
  said-so (No x) has told = inr (x, has, told)

  said-whole : (answer : Answer) → IsAnswerOf files s t answer → Told (Appends (answer_bytes answer)) w v → SaidFront files s t w v
  said-whole answer has told = inr (answer, has, whole-front (answer_bytes answer) w v told)

module _ (s t : List ℕ) (before after : Outside) (run : Run) (modules : List Module) (due : Status) (q : Questioned s t before after run modules due) (diag told : SinkTells) (r : Reports modules due run.status diag told) where
  abbrev ended : QuestionEnded s t before after due
  ended = q.ended

  -- where nothing was written either, nothing ran
  nothing-ran : after.out.faults ≡ before.out.faults → after.out.written ≡ before.out.written → NothingRan before after run
  nothing-ran faults written =
      record { built = q.built; turns = q.idle.turns; spent = q.idle.spent; input = q.idle.input; faults = faults; written = written }

  said : due ≡ Done → SaidYes before.folder.files s t before.out.written after.out.written ⊎ SaidNo before.folder.files s t before.out.written after.out.written
  said e =
      ⊎_elim
      (λ a. ⊎_elim
      (λ f. said-so before.folder.files s t before.out.written after.out.written a.answer a.has f.2)
      (λ r. ⊎_elim (λ f. absurd (let k = f.0 in let bad : ⊥ = cc in bad)) (λ f. absurd (let k = f.0 in let bad : ⊥ = cc in bad)) r)
      a.written)
      (λ n. ⊎_elim
      (λ f. absurd (let k = f.0 in let bad : ⊥ = cc in bad))
      (λ r. ⊎_elim (λ f. absurd (let k = f.1 in let bad : ⊥ = cc in bad)) (λ f. absurd (let k = f.0 in let bad : ⊥ = cc in bad)) r)
      n.cause)
      ended

  said-front : SaidFront before.folder.files s t before.out.written after.out.written
  said-front =
      ⊎_elim
      (λ a. ⊎_elim
      (λ f. said-whole before.folder.files s t before.out.written after.out.written a.answer a.has f.2)
      (λ r. ⊎_elim (λ f. inr (a.answer, a.has, f.2)) (λ f. inr (a.answer, a.has, f.2)) r)
      a.written)
      (λ n. inl n.written)
      ended

  question-refused : (x : Refusal) → due ≡ Refused x → IsQuestionRefused before.folder.files s t x × NothingRan before after run
  question-refused x e =
      ⊎_elim
      (λ a. ⊎_elim
      (λ f. absurd (let k = f.0 in let bad : ⊥ = cc in bad))
      (λ q. ⊎_elim (λ f. absurd (let k = f.0 in let bad : ⊥ = cc in bad)) (λ f. absurd (let k = f.0 in let bad : ⊥ = cc in bad)) q)
      a.written)
      (λ n. ⊎_elim
      (λ f. absurd (let k = f.0 in let bad : ⊥ = cc in bad))
      (λ q. ⊎_elim
      (λ f. let both : Refused f.0 ≡ Refused x = sym f.1 ∙ e in let same : f.0 ≡ x = cc in (subst (IsQuestionRefused before.folder.files s t) same f.2, nothing-ran n.faults n.written))
      (λ f. absurd (let k = f.0 in let bad : ⊥ = cc in bad))
      q)
      n.cause)
      ended

  -- where there is no answer, the question is refused for a cause that it has, unless the folder failed or memory ran out
  refusal-due : HasNoAnswerOf before.folder.files s t
      → ((x : Refusal) × IsQuestionRefused before.folder.files s t x × ComesTo (Refused x) run.status) ⊎ ComesTo FolderFault run.status
  refusal-due none =
      ⊎_elim
      (λ a. absurd (none a.answer a.has))
      (λ n. ⊎_elim
      (λ f. inr (comes-from modules due run.status diag told r FolderFault f.0))
      (λ q. ⊎_elim
      (λ f. inl (f.0, f.2, comes-from modules due run.status diag told r (Refused f.0) f.1))
      (λ f. inr (come-or-memory modules due run.status diag told r FolderFault (inr f.0)))
      q)
      n.cause)
      ended

  -- where one refusal alone may come, and no answer, it comes, unless the folder failed or memory ran out
  refused-then : (x : Refusal) → ((q : Refusal) → IsQuestionRefused before.folder.files s t q → q ≡ x) → ((answer : Answer) → IsAnswerOf before.folder.files s t answer → ⊥) → ComesToRefusal x run.status
  refused-then x one none =
      come-or-fail modules due run.status diag told r (Refused x)
      (⊎_elim
      (λ a. absurd (none a.answer a.has))
      (λ n. ⊎_elim (λ f. inr (inl f.0)) (λ q. ⊎_elim (λ f. inl (f.1 ∙ ap Refused (one f.0 f.2))) (λ f. inr (inr f.0)) q) n.cause)
      ended)

  -- the files are these
  module _ (all : Files) (told-all : before.folder.files ≡ Some all) where
    its-made : (whole : Package) → IsPackageOf before.folder.files whole → IsMade all whole
    its-made whole h = subst (λ f. IsPackageOf f whole) told-all h

    its-unmade : (y : Refusal) → HasNoPackage before.folder.files y → IsUnmade all y
    its-unmade y h = subst (λ f. HasNoPackage f y) told-all h

    files-due : (x : Refusal) (read : List SourceFile) → IsRefusedFor all x read → ComesToRefusal x run.status
    files-due x read h =
        refused-then x
        (λ y q. ⊎_elim (λ a. sym ((its-unmade y a).only x read h)) (λ u. absurd ((its-made u.0 u.1).sound x read h)) q)
        (λ answer q. (its-made q.0 q.1).sound x read h)

  -- where nothing can be refused, an answer comes
  answer-due : IsNeverRefused before.folder.files s t → ComesTo Done run.status ⊎ (ComesTo FolderFault run.status ⊎ ComesTo OutFault run.status)
  answer-due n =
      come-or-cut modules due run.status diag told r Done FolderFault OutFault
      (⊎_elim
      (λ a. ⊎_elim (λ f. inl f.0) (λ r. ⊎_elim (λ f. inr (inr (inl f.0))) (λ f. inr (inr (inr f.0))) r) a.written)
      (λ h. ⊎_elim (λ f. inr (inl f.0)) (λ r. ⊎_elim (λ f. absurd (refused f.0 f.2)) (λ f. inr (inr (inr f.0))) r) h.cause)
      ended)
    where
      refused : (y : Refusal) → IsQuestionRefused before.folder.files s t y → ⊥
      refused y (inl a) = (its-unmade n.all n.told y a).none n.made.0 n.made.1
      refused y (inr u) = n.never u.0 (its-made n.all n.told u.0 u.1).is y u.2

  -- ---- the folder and the output

  folder-fault : due ≡ FolderFault → Rises before.folder.faults after.folder.faults × NothingRan before after run
  folder-fault e =
      ⊎_elim
      (λ a. ⊎_elim (λ f. absurd (let k = f.0 in let bad : ⊥ = cc in bad)) (λ q. ⊎_elim (λ f. absurd (let k = f.0 in let bad : ⊥ = cc in bad)) (λ f. absurd (let k = f.0 in let bad : ⊥ = cc in bad)) q) a.written)
      (λ n. ⊎_elim
      (λ f. (f.1, nothing-ran n.faults n.written))
      (λ q. ⊎_elim (λ f. absurd (let k = f.1 in let bad : ⊥ = cc in bad)) (λ f. absurd (let k = f.0 in let bad : ⊥ = cc in bad)) q)
      n.cause)
      ended

  only-folder : before.folder.faults < after.folder.faults → due ≡ FolderFault
  only-folder up =
      ⊎_elim
      (λ a. absurd (let same = a.folder in omega arith))
      (λ n. ⊎_elim (λ f. f.0) (λ q. ⊎_elim (λ f. absurd (let same = f.3 in omega arith)) (λ f. absurd (let same = f.1 in omega arith)) q) n.cause)
      ended

  out-rose : due ≡ OutFault → Rises before.out.faults after.out.faults
  out-rose e =
      ⊎_elim
      (λ a. ⊎_elim (λ f. absurd (let k = f.0 in let bad : ⊥ = cc in bad)) (λ q. ⊎_elim (λ f. f.1) (λ f. absurd (let k = f.0 in let bad : ⊥ = cc in bad)) q) a.written)
      (λ n. ⊎_elim
      (λ f. absurd (let k = f.0 in let bad : ⊥ = cc in bad))
      (λ q. ⊎_elim (λ f. absurd (let k = f.1 in let bad : ⊥ = cc in bad)) (λ f. absurd (let k = f.0 in let bad : ⊥ = cc in bad)) q)
      n.cause)
      ended

  only-out : before.out.faults < after.out.faults → due ≡ OutFault
  only-out up =
      ⊎_elim
      (λ a. ⊎_elim (λ f. absurd (let same = f.1 in omega arith)) (λ q. ⊎_elim (λ f. f.0) (λ f. absurd (let same = f.1 in omega arith)) q) a.written)
      (λ n. absurd (let same = n.faults in omega arith))
      ended

  due-so : (other : Status) → (other ≡ DiagFault → ⊥) → (other ≡ Memory → ⊥) → run.status ≡ other → due ≡ other
  due-so other a b e = due-is modules due run.status diag told r other a b e

  pub question-told : QuestionIsTold s t before after run
  question-told =
      record {
        built = q.built;
        input = q.idle.input;
        answered = λ e. said (due-so Done (λ f. let bad : ⊥ = cc in bad) (λ f. let bad : ⊥ = cc in bad) e);
        answer_due = answer-due;
        front = said-front;
        refused = λ x e. question-refused x (due-so (Refused x) (λ f. let bad : ⊥ = cc in bad) (λ f. let bad : ⊥ = cc in bad) e);
        refusal_due = refusal-due;
        files_due = λ all x read e h. files-due all e x read h;
        folder_fault = λ e. folder-fault (due-so FolderFault (λ f. let bad : ⊥ = cc in bad) (λ f. let bad : ⊥ = cc in bad) e);
        folder_due = λ up. comes-from modules due run.status diag told r FolderFault (only-folder up);
        out_fault = λ e. out-rose (due-so OutFault (λ f. let bad : ⊥ = cc in bad) (λ f. let bad : ⊥ = cc in bad) e);
        out_due = λ up. comes-from modules due run.status diag told r OutFault (only-out up);
      }
