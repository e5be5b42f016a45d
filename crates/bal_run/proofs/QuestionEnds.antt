-- How a question ends, by its answer and by how that was written.
use Rattle.std.proofs.Common.{◌≡◌, ℕ, List, sym, ap, subst, ◌∙◌, inl, inr}
use Rattle.std.specs.Prelude.{None, Ok, Err, String, string_bytes}
use Rattle.std.specs.Global.{Global}
use Rattle.bal_base.specs.declared.stop.Stop.{Stop}
use Rattle.bal_base.specs.declared.stop.Stop.TheVariants.{Memory as NoMemory, Fault}
use Rattle.folder_programs.specs.declared.packages.AnswerFault.{AnswerFault}
use Rattle.folder_programs.specs.declared.packages.AnswerFault.TheVariants.{Folder, Source}
use Rattle.status_texts.specs.declared.status.Status.{Status}
use Rattle.bal_run.specs.declared.top.Worked.{Worked}
use Rattle.bal_run.specs.Due.{IsWritten, QuestionEnded, Questioned}
use Rattle.status_texts.specs.Report.{CanReport}
use Rattle.status_texts.specs.Outside.{IsAsBefore, Outside}
use Rattle.folder_programs.specs.Packages.{CountsFolderFaults, source_modules}
use Rattle.folder_programs.specs.Questions.{Answers}
use Rattle.bal_run.specs.Work.{IsStatusUnanswered, not_run}
use Rattle.status_texts.proofs.Texts.{bytes-written}

module _ (s t : List ℕ) (before after : Outside) (status : Status) where
  -- an answer was written
  pub ends-written : (text : String Global) (bytes : List ℕ) → bytes ≡ string_bytes text → Answers before.folder.files s t (Ok text) → after.folder.faults ≡ before.folder.faults → IsWritten bytes before.out after.out status → QuestionEnded s t before after status
  ends-written text bytes same (answer, has, told) folder w =
      inl (record {
        answer = answer;
        has = has;
        folder = folder;
        written = subst (λ l. IsWritten l before.out after.out status) (same ∙ bytes-written text _ told) w;
      })

  -- there is none
  pub ends-without : (stop : Stop AnswerFault) → Answers before.folder.files s t (Err stop) → CountsFolderFaults {A = String Global} before.folder.faults after.folder.faults (Err stop) → IsStatusUnanswered stop status → after.out.faults ≡ before.out.faults → after.out.written ≡ before.out.written → QuestionEnded s t before after status
  ends-without NoMemory h counts is faults written = inr (record { cause = inr (inr (is, counts)); faults = faults; written = written })
  ends-without (Fault Folder) h counts is faults written = inr (record { cause = inl (is, counts); faults = faults; written = written })
  ends-without (Fault (Source r)) h counts is faults written =
      inr (record { cause = inr (inl (r, is, h, counts)); faults = faults; written = written })

-- the status of a folder that has no answer has a text
pub unanswered-can-report : (stop : Stop AnswerFault) (status : Status) → IsStatusUnanswered stop status → CanReport status
unanswered-can-report NoMemory status is = subst CanReport (sym is) tt
unanswered-can-report (Fault Folder) status is = subst CanReport (sym is) tt
unanswered-can-report (Fault (Source r)) status is = subst CanReport (sym is) tt

-- the question that ended so was asked, and nothing ran
pub asked-so : (s t : List ℕ) (before after : Outside) (work : Worked) (status : Status) → QuestionEnded s t before after status → IsAsBefore before.input after.input → work ≡ record { run = not_run status; source = None } → Questioned s t before after work.run (source_modules work.source) work.run.status
asked-so s t before after work status ended input made =
    record {
      ended = subst (λ (x : Status). QuestionEnded s t before after x) (sym (ap (λ (w : Worked). w.run.status) made)) ended;
      built = ap (λ (w : Worked). w.run.built) made;
      idle = record { turns = ap (λ (w : Worked). w.run.turns) made; spent = ap (λ (w : Worked). w.run.spent) made; input = input };
      shows = ap (λ (w : Worked). source_modules w.source) made;
    }
