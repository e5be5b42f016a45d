use Rattle.std.proofs.Common.{◌≤◌, ◌∙◌, length, refl, sym}
use Rattle.std.proofs.lemmas.Bool.{false≢true}
use Rattle.stack_code.specs.Places.{stack_at}
use Rattle.place_numbers.proofs.Walking.{walked-all, walked-fails, walked-from, walked-more, walked-none, walked-smaller}
use Rattle.place_numbers.proofs.reach.keep_at_most.Goals as goal

pub loop-next-init : goal.loop-next-init
loop-next-init c = walked-none c.args.first c.args.rows.now (λ t. length (stack_at c.args.code.now t) ≤ c.args.most) c.args.innermost c.requires.chain

pub outside-next-requires : goal.outside-next-requires
outside-next-requires c =
    walked-from c.args.first c.args.rows.now (λ t. length (stack_at c.args.code.now t) ≤ c.args.most) c.args.innermost c.loop-next.next c.loop-next.invariant c.in-Some.trap c.in-Some.is

pub loop-next-smaller : goal.loop-next-smaller
loop-next-smaller c =
    walked-smaller c.args.first c.args.rows.now (λ t. length (stack_at c.args.code.now t) ≤ c.args.most) c.args.innermost c.loop-next.next c.loop-next.invariant c.outside-next.result c.in-Some.trap c.in-Some.is
    c.requires.descends c.outside-next.ensures

pub loop-next-preserved : goal.loop-next-preserved
loop-next-preserved c =
    walked-more c.args.first c.args.rows.now (λ t. length (stack_at c.args.code.now t) ≤ c.args.most) c.args.innermost c.loop-next.next c.loop-next.invariant c.outside-next.result c.in-Some.trap c.in-Some.is
    (c.keeps_at_most.ensures.0 c.if-not-keeps_at_most.false) c.outside-next.ensures

pub returns-then-not-keeps_at_most : goal.returns-then-not-keeps_at_most
returns-then-not-keeps_at_most c = λ ts h. (
  λ r. absurd (false≢true r),
  λ all. absurd (walked-fails c.args.first c.args.rows.now (λ t. length (stack_at c.args.code.now t) ≤ c.args.most) c.args.innermost c.loop-next.next c.loop-next.invariant c.in-Some.trap c.in-Some.is
      (λ le. false≢true (sym c.if-not-keeps_at_most.true ∙ c.keeps_at_most.ensures.1 le)) ts h all),
)

pub returns : goal.returns
returns c = λ ts h. (
  λ r. walked-all c.args.first c.args.rows.now (λ t. length (stack_at c.args.code.now t) ≤ c.args.most) c.args.innermost c.loop-next.next c.loop-next.invariant c.in_default.not-Some ts h,
  λ all. refl,
)
