use Rattle.std.proofs.Common.{◌∙◌, subst}
use Rattle.bal_io.specs.Content.{Told}
use Rattle.whole_input.specs.inner.Ends.{TakesMore}
use Rattle.whole_input.proofs.Telling.{told-all, told-lost, told-on}
use Rattle.whole_input.proofs.reading.read_whole.Goals as goal

pub returns-in-Ok-false-clause-lines : goal.returns-in-Ok-false-clause-lines
returns-in-Ok-false-clause-lines g c =
    let here = g.S.Source.rest c.loop.source in
    let new = g.S.Source.rest c.read_more.new.source in
    let old = c.loop.bytes.items in
    let more = c.read_more.new.bytes.items in
    told-all old more (g.S.Source.rest c.args.source.now) here new c.loop.invariant.1
    (subst (λ b. Told (TakesMore b old more) here new) c.in-Ok-false.field-0-test c.in-Ok-false.ensures.more)

pub returns-in-Err-clause-err : goal.returns-in-Err-clause-err
returns-in-Err-clause-err g c =
    told-lost c.loop.bytes.items (g.S.Source.rest c.args.source.now) (g.S.Source.rest c.loop.source) (g.S.Source.rest c.read_more.new.source) c.loop.invariant.1 c.in-Err.ensures.err

pub loop-preserved : goal.loop-preserved
loop-preserved g c =
    let here = g.S.Source.rest c.loop.source in
    let new = g.S.Source.rest c.read_more.new.source in
    let old = c.loop.bytes.items in
    let more = c.read_more.new.bytes.items in (
      c.in-Ok-true.ensures.faults ∙ c.loop.invariant.0,
      told-on old more (g.S.Source.rest c.args.source.now) here new c.loop.invariant.1
          (subst (λ b. Told (TakesMore b old more) here new) c.in-Ok-true.field-0-test c.in-Ok-true.ensures.more),
    )
