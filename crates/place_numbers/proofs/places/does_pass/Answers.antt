use Rattle.std.proofs.Common.{◌∙◌, sym}
use Rattle.std.proofs.lemmas.Bool.{false≢true}
use Rattle.stack_code.specs.Places.{tally_at}
use Rattle.needs_of_places.specs.Sites.{station_of}
use Rattle.place_numbers.proofs.Carried.{unstarted-is}
use Rattle.place_numbers.proofs.Whole.{next-so}
use Rattle.place_numbers.proofs.places.does_pass.Goals as goal

pub returns-then-not-keeps_below : goal.returns-then-not-keeps_below
returns-then-not-keeps_below c = λ o e. (
  (λ t. absurd (false≢true t)),
  (λ d. absurd (false≢true (sym c.if-not-keeps_below.true ∙ (c.keeps_below.ensures _ (c.count_below-below.ensures o e)).1 d.kept))),
)

pub returns-then-is_unstarted : goal.returns-then-is_unstarted
returns-then-is_unstarted c = λ o e.
    let site = c.args.site in
    let code = site.code.now in
    let change = c.change_behind-change.ensures code o e in
    let before = unstarted-is c.change_behind-change.result o (tally_at code c.args.place) change in
    let next = next-so code site.unit.now (station_of site) c.args.place o c.change_behind-change.result change c.goes_on.result (c.goes_on.ensures code o e) in (
      (λ t. record { kept = (c.keeps_below.ensures _ (c.count_below-below.ensures o e)).0 c.if-not-keeps_below.false; unstarted = before.0 (c.is_unstarted.ensures.0 c.if-is_unstarted.true); next = next.0 t }),
      (λ d. next.1 d.next),
    )

pub returns-else-is_unstarted : goal.returns-else-is_unstarted
returns-else-is_unstarted c = λ o e.
    let code = c.args.site.code.now in
    let before = unstarted-is c.change_behind-change.result o (tally_at code c.args.place) (c.change_behind-change.ensures code o e) in (
      (λ t. absurd (false≢true (sym c.if-is_unstarted.false ∙ t))),
      (λ d. absurd (false≢true (sym c.if-is_unstarted.false ∙ c.is_unstarted.ensures.1 (before.1 d.unstarted)))),
    )
