use Rattle.std.proofs.Common.{◌∙◌, ℕ, ap, sym}
use Rattle.stack_code.specs.Places.{tally_at}
use Rattle.place_numbers.specs.inner.Changing.{changed}
use Rattle.place_numbers.proofs.places.becomes.Goals as goal

pub returns : goal.returns
returns c =
    let code = c.args.site.code.now in
    let behind = c.counts_at-behind.ensures in
    let same = ap (changed c.crew_size-workers.result c.args.change) c.counts_at-before.ensures ∙ ap (λ (n : ℕ). changed n c.args.change (tally_at code c.args.place)) c.crew_size-workers.ensures in
    ((λ t. sym behind ∙ c.has_changed.ensures.0 t ∙ same), (λ e. c.has_changed.ensures.1 (behind ∙ e ∙ sym same)))
