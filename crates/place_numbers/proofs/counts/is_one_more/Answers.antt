use Rattle.std.proofs.Common.{◌<◌, ◌∙◌, ap, arith, length, refl, sym}
use Rattle.std.proofs.lemmas.Bool.{false≢true}
use Rattle.place_numbers.specs.inner.Parts.{GoesUp}
use Rattle.place_numbers.proofs.Counted.{as-long, goes-back, goes-up, one-further}
use Rattle.place_numbers.proofs.counts.is_one_more.Goals as goal

pub returns-then-not-are_as_many : goal.returns-then-not-are_as_many
returns-then-not-are_as_many c = (
  (λ t. absurd (false≢true t)),
  (λ e. absurd (false≢true (sym c.if-not-are_as_many.true ∙ c.are_as_many.ensures.1 (sym (ap length e ∙ as-long c.args.ns.now c.args.worker))))),
)

pub loop-k-init : goal.loop-k-init
loop-k-init c = λ j lt. absurd (omega (arith, lt))

pub is_counted-requires-clause-there : goal.is_counted-requires-clause-there
is_counted-requires-clause-there c =
    let same = c.are_as_many.ensures.0 c.if-not-are_as_many.false in
    omega (arith, same, c.loop-k-test.true)

pub returns-then-not-is_counted : goal.returns-then-not-is_counted
returns-then-not-is_counted c =
    let within : c.loop-k.k < length c.args.ns.now = omega (arith, c.loop-k-test.true) in (
      (λ t. absurd (false≢true t)),
      (λ e. absurd (false≢true (sym c.if-not-is_counted.true ∙ c.is_counted.ensures.1 (goes-back c.args.ns.now c.args.ms.now c.args.worker c.loop-k.k e within)))),
    )

pub loop-k-preserved : goal.loop-k-preserved
loop-k-preserved c = one-further (GoesUp c.args.ns.now c.args.ms.now c.args.worker) c.loop-k.k c.loop-k.invariant (c.is_counted.ensures.0 c.if-not-is_counted.false)

pub returns : goal.returns
returns c = (
  (λ t. goes-up c.args.ns.now c.args.ms.now c.args.worker (c.are_as_many.ensures.0 c.if-not-are_as_many.false) (λ k lt. c.loop-k.invariant k (omega (arith, lt, c.loop-k-test.false)))),
  (λ e. refl),
)
