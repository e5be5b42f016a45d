-- The text that is told of a program, as it is written.
use Rattle.std.proofs.Common.{ℕ, List, inl, inr, refl, subst}
use Rattle.std.specs.Prelude.{IfOk, Result, Ok, Err, String}
use Rattle.std.specs.Global.{Global}
use Rattle.bal_base.specs.declared.stop.Memory.{Memory as NoMemory}
use Rattle.text_forms.specs.Forms.{written}
use Rattle.status_texts.specs.declared.status.Status.{Status}
use Rattle.status_texts.specs.Outside.{SinkTells}
use Rattle.status_texts.proofs.Texts.{bytes-written}
use Rattle.bal_run.specs.Due.{IsTextTold, IsWritten}
use Rattle.bal_run.specs.Work.{IsMadeWritten}

-- one of these texts was made, or there was no memory for it
pub made-told : (IsOne : List ℕ → Type 0) (made : Result (String Global) NoMemory) (before after : SinkTells) (status : Status)
    → IfOk made (λ s. IsOne (written s)) → IsMadeWritten made before after status → IsTextTold IsOne before after status
made-told IsOne (Ok s) before after status is w =
    inl (written s, is, subst (λ l. IsWritten l before after status) (bytes-written s (written s) refl) w)
made-told IsOne (Err m) before after status is w = inr w
