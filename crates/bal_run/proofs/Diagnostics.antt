-- What the diagnostics gained, however the due status was told.
use Rattle.std.proofs.Common.{◌≡◌, List, Option, sym, subst, ◌∙◌}
use Rattle.std.specs.Prelude.{String}
use Rattle.std.specs.Global.{Global}
use Rattle.bal_tree.specs.declared.package.Module.{Module}
use Rattle.status_texts.specs.declared.status.Status.{Status}
use Rattle.status_texts.specs.declared.status.Status.TheVariants.{Memory, DiagFault}
use Rattle.status_texts.specs.Outside.{Files, SinkTells}
use Rattle.status_texts.specs.Report.{IsToldWhole, Reports}
use Rattle.status_texts.specs.Status.{HasText}
use Rattle.status_texts.proofs.ReportFacts.{by-report, counts, done-text, fronts}
use Rattle.bal_run.specs.OfDiagnostics.{AreDiagnosticsTold, AreShown, AreTextsCut, IsTextCut, IsTextWritten}

module _ (modules : List Module) (due status : Status) (before after : SinkTells) (r : Reports modules due status before after) where
  -- where these are the modules that are shown
  module _ (words : List (String Global)) (folder : Option Files) (shown : AreShown words folder due modules) where
    whole-text : IsToldWhole status → IsTextWritten words folder status before after
    whole-text h =
        by-report modules due status before after r
        (λ w. subst (λ s. IsTextWritten words folder s before after) (sym w.answer) (modules, shown, w.written))
        (λ f. absurd (h.1 f.answer))
        (λ m. absurd (h.0 m.answer))

    cut-text : status ≡ DiagFault → IsTextCut words folder before after
    cut-text e =
        by-report modules due status before after r
        (λ w. absurd (subst (λ s. HasText modules s w.written.0) (sym w.answer ∙ e) w.written.1))
        (λ f. (due, modules, shown, f.not_done, f.no_memory, f.written))
        (λ m. absurd (let k = m.answer in let bad : ⊥ = cc in bad))

    memory-text : status ≡ Memory → AreTextsCut words folder before after
    memory-text e =
        by-report modules due status before after r
        (λ w. absurd (w.no_memory (sym w.answer ∙ e)))
        (λ f. absurd (let k = f.answer in let bad : ⊥ = cc in bad))
        (λ m. (due, modules, shown, m.not_done, fronts modules due status before after r m))

    pub diagnostics-told : AreDiagnosticsTold words folder status before after
    diagnostics-told =
        record {
          counts = counts modules due status before after r;
          done = done-text modules due status before after r;
          text = whole-text;
          cut = cut-text;
          memory = memory-text;
        }
