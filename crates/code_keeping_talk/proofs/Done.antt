-- Operations by families: what a frame asks for with each fits, and something comes.
use Rattle.std.proofs.Common.{inl, inr, refl}
use Rattle.value_model.specs.Meaning.{Answers}
use Rattle.operations.specs.declared.operation.Operation.TheVariants as op
use Rattle.code_keeping.proofs.Places.{at-place}
use Rattle.code_keeping_talk.specs.Laws.{ReceivesAreDone}
use Rattle.code_keeping_talk.proofs.Hearing.{flush-done, receive-done}

pub receives-are-done : (natives : Answers) → ReceivesAreDone natives
receives-are-done natives fillers w = (
  (λ code c t. (
    (λ depth f good fits ec. (receive-done code fillers natives t c depth good f fits (at-place code c f fits.0) w ec).0),
    (λ depth f good fits ec. (receive-done code fillers natives t c depth good f fits (at-place code c f fits.0) w ec).1),
  )),
  (λ code c t. (
    (λ depth f good fits ec. (flush-done code fillers natives t c depth good f fits (at-place code c f fits.0) w (op.Flush w) (inl refl) ec).0),
    (λ depth f good fits ec. (flush-done code fillers natives t c depth good f fits (at-place code c f fits.0) w (op.Flush w) (inl refl) ec).1),
  )),
  (λ code c t. (
    (λ depth f good fits ec. (flush-done code fillers natives t c depth good f fits (at-place code c f fits.0) w (op.Done w) (inr refl) ec).0),
    (λ depth f good fits ec. (flush-done code fillers natives t c depth good f fits (at-place code c f fits.0) w (op.Done w) (inr refl) ec).1),
  )),
)
