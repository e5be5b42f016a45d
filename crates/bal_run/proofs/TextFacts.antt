-- What is so of a call whose words have something told of a program.
use Rattle.std.proofs.Common.{◌≡◌, ◌⊎◌, ◌<◌, List, Option, Some, None, encode_utf8_all, sym, subst, ◌∙◌, inl, inr, ⊎_elim, arith}
use Rattle.std.specs.Prelude.{IsSome}
use Rattle.bal_base.specs.declared.fault.Refusal.{Refusal}
use Rattle.bal_io.specs.Faults.{Rises}
use Rattle.bal_tree.specs.declared.package.Package.{Package}
use Rattle.bal_tree.specs.declared.package.Module.{Module}
use Rattle.status_texts.specs.declared.status.Run.{Run}
use Rattle.status_texts.specs.declared.status.Status.{Status}
use Rattle.status_texts.specs.declared.status.Status.TheVariants.{Done, Refused, FolderFault, OutFault}
use Rattle.folder_programs.specs.declared.texts.Telling.{Telling}
use Rattle.bal_run.specs.Due.{NothingRan, ProgramTold, StayedIdle, TellingEnded}
use Rattle.bal_run.specs.OfBuilds.{IfBuilt, OfBuilt, RefusedSoon}
use Rattle.bal_run.specs.OfTexts.{NeverLate, TextIsTold, WroteFrontOfIt, WroteIt}
use Rattle.status_texts.specs.Outside.{Outside, SinkTells}
use Rattle.folder_programs.specs.Programs.{IsRefusalOf}
use Rattle.status_texts.specs.Report.{ComesTo, Reports}
use Rattle.bal_run.proofs.BuildFacts.{build-told, if-built, if-nothing, of-built, some-built}
use Rattle.bal_run.proofs.DueStatus.{by-telling}
use Rattle.status_texts.proofs.ReportFacts.{come-or-memory, comes-from, due-is, whole-front}

none-some : (kept : Option Package) → kept ≡ None → IsSome kept → ⊥
none-some None e h = let bad : ⊥ = cc in bad
none-some (Some x) e h = let bad : ⊥ = cc in bad

module _ (telling : Telling) (before after : Outside) (run : Run) (modules : List Module) (due : Status) (d : TellingEnded telling before after run modules due)
    (diag told : SinkTells) (r : Reports modules due run.status diag told) where
  -- ---- the folder, and refusals

  folder-fault : run.status ≡ FolderFault → Rises before.folder.faults after.folder.faults × NothingRan before after run
  folder-fault e =
      let k = due-is modules due run.status diag told r FolderFault (λ f. let bad : ⊥ = cc in bad) (λ f. let bad : ⊥ = cc in bad) e in
      by-telling before after run modules due telling d
      (λ b f. (f.1, b.nothing))
      (λ b f. absurd (let q = f.1 in let bad : ⊥ = cc in bad))
      (λ b f. absurd (let q = f.0 in let bad : ⊥ = cc in bad))
      (λ c t is f. absurd (let q = f.0 in let bad : ⊥ = cc in bad))
      (λ c t is f. absurd (let q = f.0 in let bad : ⊥ = cc in bad))
      (λ c t is f. absurd (let q = f.0 in let bad : ⊥ = cc in bad))
      (λ c f. absurd (let q = f.0 in let bad : ⊥ = cc in bad))

  refused : (x : Refusal) → run.status ≡ Refused x → RefusedSoon before after run x ⊎ NeverLate x
  refused x e =
      let k = due-is modules due run.status diag told r (Refused x) (λ f. let bad : ⊥ = cc in bad) (λ f. let bad : ⊥ = cc in bad) e in
      by-telling before after run modules due telling d
      (λ b f. absurd (let q = f.0 in let bad : ⊥ = cc in bad))
      (λ b f. let both : Refused f.0 ≡ Refused x = sym f.1 ∙ k in let same : f.0 ≡ x = cc in inl ((modules, subst (λ y. IsRefusalOf before.folder.files y modules) same f.2), b.nothing))
      (λ b f. absurd (let q = f.0 in let bad : ⊥ = cc in bad))
      (λ c t is f. absurd (let q = f.0 in let bad : ⊥ = cc in bad))
      (λ c t is f. absurd (let q = f.0 in let bad : ⊥ = cc in bad))
      (λ c t is f. absurd (let q = f.0 in let bad : ⊥ = cc in bad))
      (λ c f. absurd (let q = f.0 in let bad : ⊥ = cc in bad))

  -- ---- what is told

  idle : StayedIdle before after run
  idle = ⊎_elim (λ b. record { turns = b.nothing.turns; spent = b.nothing.spent; input = b.nothing.input }) (λ c. c.idle) d

  said : run.status ≡ Done → OfBuilt before.folder.files run.built (WroteIt telling before.out.written after.out.written)
  said e =
      let k = due-is modules due run.status diag told r Done (λ f. let bad : ⊥ = cc in bad) (λ f. let bad : ⊥ = cc in bad) e in
      by-telling before after run modules due telling d
      (λ b f. absurd (let q = f.0 in let bad : ⊥ = cc in bad))
      (λ b f. absurd (let q = f.1 in let bad : ⊥ = cc in bad))
      (λ b f. absurd (let q = f.0 in let bad : ⊥ = cc in bad))
      (λ c t is f. of-built before after run (WroteIt telling before.out.written after.out.written) c.program (t, is, f.2))
      (λ c t is f. absurd (let q = f.0 in let bad : ⊥ = cc in bad))
      (λ c t is f. absurd (let q = f.0 in let bad : ⊥ = cc in bad))
      (λ c f. absurd (let q = f.0 in let bad : ⊥ = cc in bad))

  -- of what is told, by how that ended
  abbrev Front : Type 0
  Front = IfBuilt before.folder.files run.built (WroteFrontOfIt telling before.out.written after.out.written)

  nothing-front : NothingRan before after run → Front
  nothing-front n = if-nothing before after run (WroteFrontOfIt telling before.out.written after.out.written) n

  built-front : (c : ProgramTold telling before after run modules due)
      → WroteFrontOfIt telling before.out.written after.out.written c.program.atoms c.program.built → Front
  built-front c h = if-built before after run (WroteFrontOfIt telling before.out.written after.out.written) c.program h

  front : Front
  front =
      by-telling before after run modules due telling d
      (λ b f. nothing-front b.nothing)
      (λ b f. nothing-front b.nothing)
      (λ b f. nothing-front b.nothing)
      (λ c t is f. built-front c (inr (t, is, whole-front (encode_utf8_all t) before.out.written after.out.written f.2)))
      (λ c t is f. built-front c (inr (t, is, f.2)))
      (λ c t is f. built-front c (inr (t, is, f.2)))
      (λ c f. built-front c (inl f.2))

  nothing-built : NothingRan before after run → IsSome run.built → ⊥
  nothing-built n some = none-some run.built n.built some

  done-due : IsSome run.built → ¬ (Rises before.out.faults after.out.faults) → ComesTo Done run.status
  done-due some fine =
      come-or-memory modules due run.status diag told r Done
      (by-telling before after run modules due telling d
      (λ b f. absurd (nothing-built b.nothing some))
      (λ b f. absurd (nothing-built b.nothing some))
      (λ b f. absurd (nothing-built b.nothing some))
      (λ c t is f. inl f.0)
      (λ c t is f. absurd (fine f.1))
      (λ c t is f. inr f.0)
      (λ c f. inr f.0))

  -- ---- the output

  out-fault : run.status ≡ OutFault → IsSome run.built × Rises before.out.faults after.out.faults
  out-fault e =
      let k = due-is modules due run.status diag told r OutFault (λ f. let bad : ⊥ = cc in bad) (λ f. let bad : ⊥ = cc in bad) e in
      by-telling before after run modules due telling d
      (λ b f. absurd (let q = f.0 in let bad : ⊥ = cc in bad))
      (λ b f. absurd (let q = f.1 in let bad : ⊥ = cc in bad))
      (λ b f. absurd (let q = f.0 in let bad : ⊥ = cc in bad))
      (λ c t is f. absurd (let q = f.0 in let bad : ⊥ = cc in bad))
      (λ c t is f. (some-built before after run c.program, f.1))
      (λ c t is f. absurd (let q = f.0 in let bad : ⊥ = cc in bad))
      (λ c f. absurd (let q = f.0 in let bad : ⊥ = cc in bad))

  out-due : before.out.faults < after.out.faults → ComesTo OutFault run.status
  out-due up =
      comes-from modules due run.status diag told r OutFault
      (by-telling before after run modules due telling d
      (λ b f. absurd (let same = b.nothing.faults in omega arith))
      (λ b f. absurd (let same = b.nothing.faults in omega arith))
      (λ b f. absurd (let same = b.nothing.faults in omega arith))
      (λ c t is f. absurd (let same = f.1 in omega arith))
      (λ c t is f. f.0)
      (λ c t is f. absurd (let same = f.1 in omega arith))
      (λ c f. absurd (let same = f.1 in omega arith)))

  pub text-told : TextIsTold telling before after run
  text-told =
      record {
        builds = build-told before after run modules due (⊎_elim (λ b. inl b) (λ c. inr c.program) d) diag told r NeverLate folder-fault refused;
        idle = idle;
        said = said;
        front = front;
        done_due = done-due;
        out_fault = out-fault;
        out_due = out-due;
      }
