-- What is so of each call of the top: of its words, of the input, and of the files in which events are found; and how a folder that comes to
-- no program ends a call.
use Rattle.std.proofs.Common.{◌≡◌, ◌⊎◌, ℕ, List, Option, Some, None, encode_utf8_all, refl, sym, ap, subst, ◌∙◌, inl, inr, ⊎_elim}
use Rattle.std.specs.Prelude.{Err, String}
use Rattle.std.specs.Global.{Global}
use Rattle.bal_base.specs.declared.stop.Stop.{Stop}
use Rattle.bal_base.specs.declared.stop.Stop.TheVariants.{Memory as OutOfMemory, Fault}
use Rattle.bal_base.specs.declared.text.Text.{Text}
use Rattle.bal_tree.specs.declared.package.Package.{Package}
use Rattle.bal_tree.specs.declared.package.Module.{Module}
use Rattle.command_words.specs.Commands.{IsCommand, IsGood, Purpose, Request}
use Rattle.command_words.specs.Commands as command
use Rattle.input_calls.specs.Calls.{CallsReadln}
use Rattle.machine_model.specs.Outcomes as model
use Rattle.machine_model.specs.Outcomes.{Ending, ReturnsNil, ReturnsError, Panics, Stalls, Passes}
use Rattle.folder_programs.specs.declared.compiling.CompileFault.{CompileFault}
use Rattle.folder_programs.specs.declared.compiling.CompileFault.TheVariants as compile
use Rattle.folder_programs.specs.declared.compiling.Ready.{Ready}
use Rattle.status_texts.specs.declared.status.Run.{Run}
use Rattle.status_texts.specs.declared.status.Status.{Status}
use Rattle.status_texts.specs.declared.status.Status.TheVariants.{FolderFault, Memory, Refused, Words}
use Rattle.bal_run.specs.declared.top.Worked.{Worked}
use Rattle.folder_programs.specs.Compiling.{CountsCompileFaults}
use Rattle.folder_programs.specs.declared.texts.Telling.{Telling}
use Rattle.folder_programs.specs.declared.texts.Telling.TheVariants.{Accepted, Pairs, Code}
use Rattle.bal_run.specs.Due.{BadFolder, IsTextTold, IsWritten, NothingRan, Obeyed, ProgramRan, Questioned, StatusIsDue, TellingEnded}
use Rattle.bal_run.specs.OfDiagnostics.{AreShown}
use Rattle.bal_run.specs.OfInput.{Asks, IsInputTold}
use Rattle.bal_run.specs.OfBuilds.{OfBuilt}
use Rattle.bal_run.specs.OfWords.{AreJudged}
use Rattle.status_texts.specs.Outside.{IsAsBefore, Outside, SinkTells}
use Rattle.folder_programs.specs.Runs.{sides, RunEnded, status_of}
use Rattle.folder_programs.specs.Packages.{source_modules}
use Rattle.folder_programs.specs.Programs.{Compiled, IsBuiltOf, IsRefusalOf}
use Rattle.status_texts.specs.Report.{CanReport, Reports}
use Rattle.folder_programs.specs.Texts.{IsTextOf}
use Rattle.bal_run.specs.Words.{Builds, NeedsProgram}
use Rattle.bal_run.specs.Work.{IsWorkOf, not_run}
use Rattle.bal_run.proofs.DueStatus.{by-answer, by-stage, not-end}
use Rattle.bal_run.proofs.BuildFacts.{of-built}
use Rattle.bal_run.proofs.CommandFacts.{builds-not}
use Rattle.status_texts.proofs.ReportFacts.{come-or-memory, due-is}

-- ---- what was done

-- where nothing ran
pub work-is : (run : Run) (status : Status) (work : Worked) → run ≡ not_run status → work ≡ record { run = run; source = None } → work ≡ record { run = not_run status; source = None }
work-is run status work e made = made ∙ ap (λ (r : Run). record { run = r; source = None }) e

pub stop-can-report : (stop : Stop CompileFault) (work : Worked) → IsWorkOf stop work → CanReport work.run.status
stop-can-report OutOfMemory work made = subst CanReport (sym (ap (λ (w : Worked). w.run.status) made)) tt
stop-can-report (Fault compile.Folder) work made = subst CanReport (sym (ap (λ (w : Worked). w.run.status) made)) tt
stop-can-report (Fault (compile.Source x)) work made = subst CanReport (sym (ap (λ (w : Worked). w.run.status) made)) tt

-- a program ran
pub compiled-so : (texts : List Text) (ticks seed : ℕ) (before after : Outside) (ready : Ready) (run : Run) (work : Worked) → IsBuiltOf before.folder.files ready.built ready.types.atoms → after.folder.faults ≡ before.folder.faults → run.built ≡ Some ready.built.source → RunEnded ready.types.atoms ready.built.typed texts ticks seed (sides before.input before.out) (sides after.input after.out) run run.status → (¬ (CallsReadln ready.built.typed) → IsAsBefore before.input after.input) → work ≡ record { run = run; source = None } → Obeyed (command.Run texts) ticks seed before after work.run (source_modules work.source) work.run.status
compiled-so texts ticks seed before after ready run work compiled folder kept cause untouched made =
    subst (λ (w : Worked). Obeyed (command.Run texts) ticks seed before after w.run (source_modules w.source) w.run.status) (sym made)
    (inr (record {
      program = record { built = ready.built; atoms = ready.types.atoms; compiled = compiled; folder = folder; kept = kept };
      cause = cause;
      untouched = untouched;
      shows = refl;
    }))

-- something was told of a program
pub told-so : (telling : Telling) (before after : Outside) (ready : Ready) (run : Run) (work : Worked)
    → IsBuiltOf before.folder.files ready.built ready.types.atoms → after.folder.faults ≡ before.folder.faults
    → run.built ≡ Some ready.built.source → (run.turns ≡ 0) × (run.spent ≡ 0)
    → IsTextTold (IsTextOf telling ready.types.atoms ready.built) before.out after.out run.status → IsAsBefore before.input after.input
    → work ≡ record { run = run; source = None }
    → TellingEnded telling before after work.run (source_modules work.source) work.run.status
told-so telling before after ready run work compiled folder kept counts told input made =
    subst (λ (w : Worked). TellingEnded telling before after w.run (source_modules w.source) w.run.status) (sym made)
    (inr (record {
      program = record { built = ready.built; atoms = ready.types.atoms; compiled = compiled; folder = folder; kept = kept };
      told = told;
      idle = record { turns = counts.0; spent = counts.1; input = input };
      shows = refl;
    }))

-- ---- words that are no good command, or for which there is no memory; and a folder that comes to no program

module _ (before after : Outside) (work : Worked) where
  nothing-of : (status : Status) (source : Option Package) → work ≡ record { run = not_run status; source = source } → IsAsBefore before.input after.input → after.out.faults ≡ before.out.faults → after.out.written ≡ before.out.written → NothingRan before after work.run
  nothing-of status source made input faults written =
      record {
        built = ap (λ (w : Worked). w.run.built) made;
        turns = ap (λ (w : Worked). w.run.turns) made;
        spent = ap (λ (w : Worked). w.run.spent) made;
        input = input;
        faults = faults;
        written = written;
      }

  module _ (words : List (String Global)) where
    -- the words are no good command
    pub bad-words : ¬ (IsGood words) → work ≡ record { run = not_run Words; source = None } → after.folder.faults ≡ before.folder.faults → IsAsBefore before.input after.input → after.out.faults ≡ before.out.faults → after.out.written ≡ before.out.written → StatusIsDue words before after work.run (source_modules work.source) work.run.status
    bad-words bad made folder input faults written =
        inl (record {
          due = ap (λ (w : Worked). w.run.status) made;
          bad = bad;
          folder = folder;
          shows = ap (λ (w : Worked). source_modules w.source) made;
          nothing = nothing-of Words None made input faults written;
        })

    -- memory ran out over them
    pub no-memory-for-words : work ≡ record { run = not_run Memory; source = None } → after.folder.faults ≡ before.folder.faults → IsAsBefore before.input after.input → after.out.faults ≡ before.out.faults → after.out.written ≡ before.out.written → StatusIsDue words before after work.run (source_modules work.source) work.run.status
    no-memory-for-words made folder input faults written =
        inr (inl (record {
          due = ap (λ (w : Worked). w.run.status) made;
          folder = folder;
          shows = ap (λ (w : Worked). source_modules w.source) made;
          nothing = nothing-of Memory None made input faults written;
        }))

    -- they are one, which was obeyed
    pub obeyed-so : (r : Request) → IsCommand words r → Obeyed r.purpose r.ticks r.seed before after work.run (source_modules work.source) work.run.status → StatusIsDue words before after work.run (source_modules work.source) work.run.status
    obeyed-so r is obeyed = inr (inr (record { request = r; is = is; obeyed = obeyed }))

  pub not-compiled : (stop : Stop CompileFault) → Compiled before.folder.files (Err stop) → CountsCompileFaults {A = Ready} before.folder.faults after.folder.faults (Err stop) → IsWorkOf stop work → IsAsBefore before.input after.input → after.out.faults ≡ before.out.faults → after.out.written ≡ before.out.written → BadFolder before after work.run (source_modules work.source) work.run.status
  not-compiled OutOfMemory h counts made input faults written =
      record { cause = inr (inr (ap (λ (w : Worked). w.run.status) made, counts)); nothing = nothing-of Memory None made input faults written }
  not-compiled (Fault compile.Folder) h counts made input faults written =
      record { cause = inl (ap (λ (w : Worked). w.run.status) made, counts); nothing = nothing-of FolderFault None made input faults written }
  not-compiled (Fault (compile.Source x)) h counts made input faults written =
      let source : work.source ≡ x.source = ap (λ (w : Worked). w.source) made in
      record {
        cause = inr (inl (x.refusal, ap (λ (w : Worked). w.run.status) made, subst (λ (s : Option Package). IsRefusalOf before.folder.files x.refusal (source_modules s)) (sym source) h, counts));
        nothing = nothing-of (Refused x.refusal) x.source made input faults written;
      }

-- ---- the modules in whose files events are found

end-shown : (words : List (String Global)) (before : Outside) (modules : List Module) (ticks : ℕ) (end : Ending) → AreShown words before.folder.files (status_of ticks end) modules
end-shown words before modules ticks ReturnsNil = tt
end-shown words before modules ticks (ReturnsError m) = tt
end-shown words before modules ticks (Panics m) = tt
end-shown words before modules ticks (Stalls ring) = tt
end-shown words before modules ticks model.GoesOn = tt
end-shown words before modules ticks (Passes limit) = tt

module _ (words : List (String Global)) (before after : Outside) (run : Run) (modules : List Module) (due : Status) where
  abbrev Shows : Status → Type 0
  Shows status = AreShown words before.folder.files status modules

  written-shown : (text : List ℕ) → IsWritten text before.out after.out due → Shows due
  written-shown text w =
      ⊎_elim (λ f. subst Shows (sym f.0) tt) (λ q. ⊎_elim (λ f. subst Shows (sym f.0) tt) (λ f. subst Shows (sym f.0) tt) q) w

  folder-shown : Builds words → BadFolder before after run modules due → Shows due
  folder-shown builds b =
      ⊎_elim (λ f. subst Shows (sym f.0) tt) (λ q. ⊎_elim (λ f. subst Shows (sym f.1) (inl (builds, f.2))) (λ f. subst Shows (sym f.0) tt) q) b.cause

  telling-shown : (telling : Telling) → Builds words → TellingEnded telling before after run modules due → Shows due
  telling-shown telling builds (inl b) = folder-shown builds b
  telling-shown telling builds (inr c) = ⊎_elim (λ w. written-shown (encode_utf8_all w.0) w.2) (λ m. subst Shows (sym m.0) tt) c.told

  run-shown : (texts : List Text) (ticks seed : ℕ) → ProgramRan texts ticks seed before after run modules due → Shows due
  run-shown texts ticks seed c =
      ⊎_elim (λ f. subst Shows (sym f.status) (end-shown words before modules ticks f.outcome.ending))
      (λ q. ⊎_elim (λ f. subst Shows (sym f.status) tt)
      (λ p. ⊎_elim (λ f. subst Shows (sym f.status) tt)
      (λ s. ⊎_elim (λ f. subst Shows (sym f.status) (inr (inl refl, c.shows))) (λ f. subst Shows (sym f.status) tt) s)
      p) q) c.cause

  question-shown : (s t : List ℕ) → ¬ (Builds words) → Questioned s t before after run modules due → Shows due
  question-shown s t not q =
      by-answer before after run modules due s t q.ended
      (λ a f. subst Shows (sym f.0) tt)
      (λ a f. subst Shows (sym f.0) tt)
      (λ a f. subst Shows (sym f.0) tt)
      (λ n f. subst Shows (sym f.0) tt)
      (λ n f. subst Shows (sym f.1) (inr (inr not, q.shows)))
      (λ n f. subst Shows (sym f.0) tt)

  obeyed-shown : (p : Purpose) (ticks seed : ℕ) → (NeedsProgram p → Builds words) → ((NeedsProgram p → ⊥) → ¬ (Builds words)) → Obeyed p ticks seed before after run modules due → Shows due
  obeyed-shown (command.Run texts) ticks seed builds not (inl b) = folder-shown (builds tt) b
  obeyed-shown (command.Run texts) ticks seed builds not (inr c) = run-shown texts ticks seed c
  obeyed-shown command.Check ticks seed builds not o = telling-shown Accepted (builds tt) o
  obeyed-shown command.Pairs ticks seed builds not o = telling-shown Pairs (builds tt) o
  obeyed-shown command.Code ticks seed builds not o = telling-shown Code (builds tt) o
  obeyed-shown (command.Subtype s t) ticks seed builds not q = question-shown s t (not (λ n. n)) q

  -- ---- the input is asked only by a program that was built

  abbrev IsUntouched : Type 0
  IsUntouched = ¬ (OfBuilt before.folder.files run.built Asks) → IsAsBefore before.input after.input

  telling-input : (telling : Telling) → TellingEnded telling before after run modules due → IsUntouched
  telling-input telling (inl b) none = b.nothing.input
  telling-input telling (inr c) none = c.idle.input

  obeyed-input : (p : Purpose) (ticks seed : ℕ) → Obeyed p ticks seed before after run modules due → IsUntouched
  obeyed-input (command.Run texts) ticks seed (inl b) none = b.nothing.input
  obeyed-input (command.Run texts) ticks seed (inr c) none = c.untouched (λ calls. none (of-built before after run Asks c.program calls))
  obeyed-input command.Check ticks seed o none = telling-input Accepted o none
  obeyed-input command.Pairs ticks seed o none = telling-input Pairs o none
  obeyed-input command.Code ticks seed o none = telling-input Code o none
  obeyed-input (command.Subtype s t) ticks seed q none = q.idle.input

  -- ---- a command that is obeyed isn't told to be none

  written-good : (text : List ℕ) → due ≡ Words → IsWritten text before.out after.out due → ⊥
  written-good text e w =
      ⊎_elim (λ f. let k = f.0 in let bad : ⊥ = cc in bad) (λ q. ⊎_elim (λ f. let k = f.0 in let bad : ⊥ = cc in bad) (λ f. let k = f.0 in let bad : ⊥ = cc in bad) q) w

  folder-good : due ≡ Words → BadFolder before after run modules due → ⊥
  folder-good e b =
      ⊎_elim (λ f. let k = f.0 in let bad : ⊥ = cc in bad) (λ q. ⊎_elim (λ f. let k = f.1 in let bad : ⊥ = cc in bad) (λ f. let k = f.0 in let bad : ⊥ = cc in bad) q) b.cause

  telling-good : (telling : Telling) → due ≡ Words → TellingEnded telling before after run modules due → ⊥
  telling-good telling e (inl b) = folder-good e b
  telling-good telling e (inr c) =
      ⊎_elim (λ w. written-good (encode_utf8_all w.0) e w.2) (λ m. let k = m.0 in let bad : ⊥ = cc in bad) c.told

  run-good : (texts : List Text) (ticks seed : ℕ) → due ≡ Words → ProgramRan texts ticks seed before after run modules due → ⊥
  run-good texts ticks seed e c =
      ⊎_elim (λ f. not-end due Words ticks f.outcome.ending refl e f.status)
      (λ q. ⊎_elim (λ f. let k = f.status in let bad : ⊥ = cc in bad)
      (λ p. ⊎_elim (λ f. let k = f.status in let bad : ⊥ = cc in bad)
      (λ s. ⊎_elim (λ f. let k = f.status in let bad : ⊥ = cc in bad) (λ f. let k = f.status in let bad : ⊥ = cc in bad) s)
      p) q) c.cause

  question-good : (s t : List ℕ) → due ≡ Words → Questioned s t before after run modules due → ⊥
  question-good s t e q =
      by-answer before after run modules due s t q.ended
      (λ a f. let k = f.0 in let bad : ⊥ = cc in bad)
      (λ a f. let k = f.0 in let bad : ⊥ = cc in bad)
      (λ a f. let k = f.0 in let bad : ⊥ = cc in bad)
      (λ n f. let k = f.0 in let bad : ⊥ = cc in bad)
      (λ n f. let k = f.1 in let bad : ⊥ = cc in bad)
      (λ n f. let k = f.0 in let bad : ⊥ = cc in bad)

  obeyed-good : (p : Purpose) (ticks seed : ℕ) → due ≡ Words → Obeyed p ticks seed before after run modules due → ⊥
  obeyed-good (command.Run texts) ticks seed e (inl b) = folder-good e b
  obeyed-good (command.Run texts) ticks seed e (inr c) = run-good texts ticks seed e c
  obeyed-good command.Check ticks seed e o = telling-good Accepted e o
  obeyed-good command.Pairs ticks seed e o = telling-good Pairs e o
  obeyed-good command.Code ticks seed e o = telling-good Code e o
  obeyed-good (command.Subtype s t) ticks seed e q = question-good s t e q

module _ (words : List (String Global)) (before after : Outside) (run : Run) (modules : List Module) (due : Status) (d : StatusIsDue words before after run modules due) where
  pub shown-so : AreShown words before.folder.files due modules
  shown-so =
      by-stage words before after run modules due d
      (λ b. subst (Shows words before after run modules due) (sym b.due) tt)
      (λ m. subst (Shows words before after run modules due) (sym m.due) tt)
      (λ x. obeyed-shown words before after run modules due x.request.purpose x.request.ticks x.request.seed (λ n. (x.request, x.is, n)) (builds-not words x.request x.is) x.obeyed)

  pub input-told : IsInputTold before after run
  input-told =
      record {
        untouched = by-stage words before after run modules due d
            (λ b none. b.nothing.input)
            (λ m none. m.nothing.input)
            (λ x. obeyed-input words before after run modules due x.request.purpose x.request.ticks x.request.seed x.obeyed);
      }

  -- the words
  module _ (diag told : SinkTells) (r : Reports modules due run.status diag told) where
    are-bad : due ≡ Words → (¬ (IsGood words)) × NothingRan before after run
    are-bad e =
        by-stage words before after run modules due d
        (λ b. (b.bad, b.nothing))
        (λ m. absurd (let k = m.due in let bad : ⊥ = cc in bad))
        (λ x. absurd (obeyed-good words before after run modules due x.request.purpose x.request.ticks x.request.seed e x.obeyed))

    only-words : ¬ (IsGood words) → (due ≡ Words) ⊎ (due ≡ Memory)
    only-words bad =
        by-stage words before after run modules due d
        (λ b. inl b.due)
        (λ m. inr m.due)
        (λ x. absurd (bad (x.request, x.is)))

    due-words : run.status ≡ Words → due ≡ Words
    due-words e = due-is modules due run.status diag told r Words (λ f. let bad : ⊥ = cc in bad) (λ f. let bad : ⊥ = cc in bad) e

    pub words-told : AreJudged words before after run
    words-told =
        record {
          bad = λ e. (are-bad (due-words e)).0;
          nothing = λ e. (are-bad (due-words e)).1;
          due = λ bad. come-or-memory modules due run.status diag told r Words (only-words bad);
        }
