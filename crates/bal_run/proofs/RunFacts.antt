-- What is so of a call whose words run a program.
use Rattle.std.proofs.Common.{◌≡◌, ◌⊎◌, ℕ, ◌<◌, List, Option, refl, sym, subst, ◌∙◌, inl, inr, ⊎_elim, arith}
use Rattle.bal_base.specs.declared.fault.Refusal.{Refusal}
use Rattle.bal_base.specs.declared.text.Text.{Text}
use Rattle.bal_io.specs.Faults.{Rises}
use Rattle.bal_tree.specs.declared.package.Module.{Module}
use Rattle.command_words.specs.Commands as command
use Rattle.descriptors.specs.Described.{Atoms}
use Rattle.machine_model.specs.Outcomes.{Ending}
use Rattle.folder_programs.specs.declared.compiling.Built.{Built}
use Rattle.status_texts.specs.declared.status.Run.{Run}
use Rattle.status_texts.specs.declared.status.Status.{Status}
use Rattle.status_texts.specs.declared.status.Status.TheVariants.{Refused, FolderFault, InputFault, OutFault, Memory, DiagFault}
use Rattle.bal_run.specs.Due.{NothingRan, Obeyed, ProgramRan}
use Rattle.status_texts.specs.Outside.{Files, Outside, SinkTells}
use Rattle.bal_run.specs.OfBuilds.{IfBuilt, OfBuilt, RefusedSoon}
use Rattle.bal_run.specs.OfRuns.{EndedSo, FailedInInput, FailedInOutput, IsEndTold, IsRefusedLate, RefusedLate, RunIsTold, WroteOfRun}
use Rattle.folder_programs.specs.Runs.{sides, status_of, too_large}
use Rattle.folder_programs.specs.Programs.{IsRefusalOf}
use Rattle.status_texts.specs.Report.{ComesTo, Reports}
use Rattle.bal_run.proofs.BuildFacts.{build-told, if-built, if-nothing, of-built}
use Rattle.bal_run.proofs.DueStatus.{by-cause, not-end, one-end}
use Rattle.folder_programs.proofs.Ending.{large-unbegun}
use Rattle.status_texts.proofs.ReportFacts.{comes-from, due-is, memory-stays}

-- ends are told by other statuses than those of failed reports
end-diag : (ticks : ℕ) (end : Ending) → status_of ticks end ≡ DiagFault → ⊥
end-diag ticks end e = not-end DiagFault DiagFault ticks end refl refl (sym e)

end-memory : (ticks : ℕ) (end : Ending) → status_of ticks end ≡ Memory → ⊥
end-memory ticks end e = not-end Memory Memory ticks end refl refl (sym e)

module _ (texts : List Text) (ticks seed : ℕ) (before after : Outside) (run : Run) (modules : List Module) (due : Status) (d : Obeyed (command.Run texts) ticks seed before after run modules due) (diag told : SinkTells) (r : Reports modules due run.status diag told) where
  abbrev Ran : Type 0
  Ran = ProgramRan texts ticks seed before after run modules due

  abbrev folder : Option Files
  folder = before.folder.files

  -- ---- what was built

  of-run : (P : Atoms → Built → Type 0) (c : Ran) → P c.program.atoms c.program.built → OfBuilt folder run.built P
  of-run P c h = of-built before after run P c.program h

  where-built : (P : Atoms → Built → Type 0) → ((c : Ran) → P c.program.atoms c.program.built) → IfBuilt folder run.built P
  where-built P h = ⊎_elim (λ b. if-nothing before after run P b.nothing) (λ c. if-built before after run P c.program (h c)) d

  wrote : (c : Ran) → WroteOfRun texts ticks seed before after run c.program.atoms c.program.built
  wrote c =
      ⊎_elim (λ f. inr (inr (f.outcome, f.ran)))
      (λ p. ⊎_elim (λ f. inl f.part) (λ q. ⊎_elim (λ f. inr (inl f.part)) (λ s. ⊎_elim (λ f. inl (large-unbegun c.program.atoms c.program.built.typed (sides before.input before.out) (sides after.input after.out) f.limit f.passes)) (λ f. f.part) s) q) p)
      c.cause

  -- ---- the folder, and refusals

  folder-fault : run.status ≡ FolderFault → Rises before.folder.faults after.folder.faults × NothingRan before after run
  folder-fault e =
      let k = due-is modules due run.status diag told r FolderFault (λ f. let bad : ⊥ = cc in bad) (λ f. let bad : ⊥ = cc in bad) e in
      by-cause before after run modules due texts ticks seed d
      (λ b f. (f.1, b.nothing))
      (λ b f. absurd (let q = f.1 in let bad : ⊥ = cc in bad))
      (λ b f. absurd (let q = f.0 in let bad : ⊥ = cc in bad))
      (λ c f. absurd (not-end due FolderFault ticks f.outcome.ending refl k f.status))
      (λ c f. absurd (let q = f.status in let bad : ⊥ = cc in bad))
      (λ c f. absurd (let q = f.status in let bad : ⊥ = cc in bad))
      (λ c f. absurd (let q = f.status in let bad : ⊥ = cc in bad))
      (λ c f. absurd (let q = f.status in let bad : ⊥ = cc in bad))

  refused : (x : Refusal) → run.status ≡ Refused x → RefusedSoon before after run x ⊎ IsRefusedLate texts ticks seed before after run x
  refused x e =
      let k = due-is modules due run.status diag told r (Refused x) (λ f. let bad : ⊥ = cc in bad) (λ f. let bad : ⊥ = cc in bad) e in
      by-cause before after run modules due texts ticks seed d
      (λ b f. absurd (let q = f.0 in let bad : ⊥ = cc in bad))
      (λ b f. let both : Refused f.0 ≡ Refused x = sym f.1 ∙ k in let same : f.0 ≡ x = cc in inl ((modules, subst (λ y. IsRefusalOf folder y modules) same f.2), b.nothing))
      (λ b f. absurd (let q = f.0 in let bad : ⊥ = cc in bad))
      (λ c f. absurd (not-end due (Refused x) ticks f.outcome.ending refl k f.status))
      (λ c f. absurd (let q = f.status in let bad : ⊥ = cc in bad))
      (λ c f. absurd (let q = f.status in let bad : ⊥ = cc in bad))
      (λ c f. inr (of-run (RefusedLate texts ticks seed before after run x) c (record { status = sym k ∙ f.status; limit = f.limit; passes = f.passes; fine = f.fine })))
      (λ c f. absurd (let q = f.status in let bad : ⊥ = cc in bad))

  -- ---- how the run ended

  ended : (end : Ending) → run.status ≡ status_of ticks end → OfBuilt folder run.built (EndedSo texts ticks seed before after run end)
  ended end e =
      let k = due-is modules due run.status diag told r (status_of ticks end) (end-diag ticks end) (end-memory ticks end) e in
      by-cause before after run modules due texts ticks seed d
      (λ b f. absurd (not-end due FolderFault ticks end refl f.0 k))
      (λ b f. absurd (not-end due (Refused f.0) ticks end refl f.1 k))
      (λ b f. absurd (not-end due Memory ticks end refl f.0 k))
      (λ c f. of-run (EndedSo texts ticks seed before after run end) c (f.outcome, f.ran, one-end ticks f.outcome.ending end (sym f.status ∙ k), f.turns, f.spent))
      (λ c f. absurd (not-end due InputFault ticks end refl f.status k))
      (λ c f. absurd (not-end due OutFault ticks end refl f.status k))
      (λ c f. absurd (not-end due (Refused too_large) ticks end refl f.status k))
      (λ c f. absurd (not-end due Memory ticks end refl f.status k))

  end-due : ¬ (Rises before.input.faults after.input.faults) → ¬ (Rises before.out.faults after.out.faults) → IfBuilt folder run.built (IsEndTold texts ticks seed before after run)
  end-due well fine = where-built (IsEndTold texts ticks seed before after run) so
    where
      so : (c : Ran) → IsEndTold texts ticks seed before after run c.program.atoms c.program.built
      so c =
          ⊎_elim
          (λ f. inl (f.outcome.ending, (f.outcome, f.ran, refl, f.turns, f.spent), comes-from modules due run.status diag told r (status_of ticks f.outcome.ending) f.status))
          (λ p. ⊎_elim (λ f. absurd (well f.rises)) (λ q. ⊎_elim (λ f. absurd (fine f.rises)) (λ s. ⊎_elim
          (λ f. inr (inl (comes-from modules due run.status diag told r (Refused too_large) f.status)))
          (λ f. inr (inr (memory-stays modules due run.status diag told r f.status)))
          s) q) p)
          c.cause

  -- ---- the input and the output

  input-fault : run.status ≡ InputFault → OfBuilt folder run.built (FailedInInput texts ticks seed before after run)
  input-fault e =
      let k = due-is modules due run.status diag told r InputFault (λ f. let bad : ⊥ = cc in bad) (λ f. let bad : ⊥ = cc in bad) e in
      by-cause before after run modules due texts ticks seed d
      (λ b f. absurd (let q = f.0 in let bad : ⊥ = cc in bad))
      (λ b f. absurd (let q = f.1 in let bad : ⊥ = cc in bad))
      (λ b f. absurd (let q = f.0 in let bad : ⊥ = cc in bad))
      (λ c f. absurd (not-end due InputFault ticks f.outcome.ending refl k f.status))
      (λ c f. of-run (FailedInInput texts ticks seed before after run) c (record { status = refl; rises = f.rises; out = f.out; asks = f.asks; part = f.part }))
      (λ c f. absurd (let q = f.status in let bad : ⊥ = cc in bad))
      (λ c f. absurd (let q = f.status in let bad : ⊥ = cc in bad))
      (λ c f. absurd (let q = f.status in let bad : ⊥ = cc in bad))

  input-due : before.input.faults < after.input.faults → ComesTo InputFault run.status
  input-due up =
      comes-from modules due run.status diag told r InputFault
      (by-cause before after run modules due texts ticks seed d
      (λ b f. absurd (let same = b.nothing.input.1 in omega arith))
      (λ b f. absurd (let same = b.nothing.input.1 in omega arith))
      (λ b f. absurd (let same = b.nothing.input.1 in omega arith))
      (λ c f. absurd (let same = f.fine.0 in omega arith))
      (λ c f. f.status)
      (λ c f. absurd (let same = f.input in omega arith))
      (λ c f. absurd (let same = f.fine.0 in omega arith))
      (λ c f. absurd (let same = f.fine.0 in omega arith)))

  out-fault : run.status ≡ OutFault → OfBuilt folder run.built (FailedInOutput texts ticks seed before after run)
  out-fault e =
      let k = due-is modules due run.status diag told r OutFault (λ f. let bad : ⊥ = cc in bad) (λ f. let bad : ⊥ = cc in bad) e in
      by-cause before after run modules due texts ticks seed d
      (λ b f. absurd (let q = f.0 in let bad : ⊥ = cc in bad))
      (λ b f. absurd (let q = f.1 in let bad : ⊥ = cc in bad))
      (λ b f. absurd (let q = f.0 in let bad : ⊥ = cc in bad))
      (λ c f. absurd (not-end due OutFault ticks f.outcome.ending refl k f.status))
      (λ c f. absurd (let q = f.status in let bad : ⊥ = cc in bad))
      (λ c f. of-run (FailedInOutput texts ticks seed before after run) c (record { status = refl; rises = f.rises; input = f.input; part = f.part }))
      (λ c f. absurd (let q = f.status in let bad : ⊥ = cc in bad))
      (λ c f. absurd (let q = f.status in let bad : ⊥ = cc in bad))

  out-due : before.out.faults < after.out.faults → ComesTo OutFault run.status
  out-due up =
      comes-from modules due run.status diag told r OutFault
      (by-cause before after run modules due texts ticks seed d
      (λ b f. absurd (let same = b.nothing.faults in omega arith))
      (λ b f. absurd (let same = b.nothing.faults in omega arith))
      (λ b f. absurd (let same = b.nothing.faults in omega arith))
      (λ c f. absurd (let same = f.fine.1 in omega arith))
      (λ c f. absurd (let same = f.out in omega arith))
      (λ c f. f.status)
      (λ c f. absurd (let same = f.fine.1 in omega arith))
      (λ c f. absurd (let same = f.fine.1 in omega arith)))

  pub run-told : RunIsTold texts ticks seed before after run
  run-told =
      record {
        builds = build-told before after run modules due (⊎_elim (λ b. inl b) (λ c. inr c.program) d) diag told r (IsRefusedLate texts ticks seed before after run) folder-fault refused;
        built = where-built (WroteOfRun texts ticks seed before after run) wrote;
        ended = ended;
        end_due = end-due;
        input_fault = input-fault;
        input_due = input-due;
        out_fault = out-fault;
        out_due = out-due;
      }
