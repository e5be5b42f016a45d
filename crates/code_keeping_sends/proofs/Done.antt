-- What a frame asks for with a send fits, and something comes.
use Rattle.value_model.specs.Meaning.{Answers}
use Rattle.code_keeping.proofs.Places.{at-place}
use Rattle.code_keeping_sends.specs.Laws.{SendsAreDone}
use Rattle.code_keeping_sends.proofs.Speaking.{post-done, send-done}

pub sends-are-done : (natives : Answers) → SendsAreDone natives
sends-are-done natives fillers w = (
  (λ code c t. (
    (λ depth f good fits ec. (send-done code fillers natives t c depth good f fits (at-place code c f fits.0) w ec).0),
    (λ depth f good fits ec. (send-done code fillers natives t c depth good f fits (at-place code c f fits.0) w ec).1),
  )),
  (λ code c t. (
    (λ depth f good fits ec. (post-done code fillers natives t c depth good f fits (at-place code c f fits.0) w ec).0),
    (λ depth f good fits ec. (post-done code fillers natives t c depth good f fits (at-place code c f fits.0) w ec).1),
  )),
)
