use Rattle.std.proofs.Common.{◌≡◌, subst, sym}
use Rattle.std.specs.Prelude.{IfOk}
use Rattle.bal_base.specs.declared.fault.Refusal.{Refusal}
use Rattle.folder_programs.specs.Compiling.{IsStopRefused}
use Rattle.folder_programs.specs.Refusals.{refusal_in}
use Rattle.folder_programs.proofs.ProgramAnswers.{stops-shown}
use Rattle.folder_programs.proofs.compiling.refused.Goals as goal

pub returns-in-Fault : goal.returns-in-Fault
returns-in-Fault c =
    subst (λ s. IsStopRefused c.args.source s c.shown.result) (sym c.in-Fault.is)
    (stops-shown c.args.source c.in-Fault.fault c.refusal_in-refusal.result c.shown.result
    (subst (λ ms. IfOk c.refusal_in-refusal.result (λ (r : Refusal). r ≡ refusal_in ms c.in-Fault.fault)) c.as_slice.ensures c.refusal_in-refusal.ensures) c.shown.ensures)
