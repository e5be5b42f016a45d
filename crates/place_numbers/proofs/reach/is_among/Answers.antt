use Rattle.std.proofs.Common.{◌≢◌, ◌∙◌, ℕ, Contains, refl, subst, sym}
use Rattle.std.proofs.lemmas.Bool.{false≢true}
use Rattle.std.proofs.lemmas.List.Elements.{All-contains}
use Rattle.place_numbers.proofs.Walking.{among, walked-all, walked-from, walked-more, walked-none, walked-smaller}
use Rattle.place_numbers.proofs.reach.is_among.Goals as goal

pub loop-next-init : goal.loop-next-init
loop-next-init c = walked-none c.args.first c.args.rows.now (λ t. t ≢ c.args.trap) c.args.innermost c.requires.chain

pub outside-next-requires : goal.outside-next-requires
outside-next-requires c = walked-from c.args.first c.args.rows.now (λ t. t ≢ c.args.trap) c.args.innermost c.loop-next.next c.loop-next.invariant c.in-Some.other c.in-Some.is

pub loop-next-smaller : goal.loop-next-smaller
loop-next-smaller c =
    walked-smaller c.args.first c.args.rows.now (λ t. t ≢ c.args.trap) c.args.innermost c.loop-next.next c.loop-next.invariant c.outside-next.result c.in-Some.other c.in-Some.is c.requires.descends c.outside-next.ensures

pub loop-next-preserved : goal.loop-next-preserved
loop-next-preserved c =
    walked-more c.args.first c.args.rows.now (λ t. t ≢ c.args.trap) c.args.innermost c.loop-next.next c.loop-next.invariant c.outside-next.result c.in-Some.other c.in-Some.is
    (λ same. false≢true (sym c.if-is_one.false ∙ c.is_one.ensures.1 same)) c.outside-next.ensures

pub returns-then-is_one : goal.returns-then-is_one
returns-then-is_one c = λ ts h. (
  λ r. subst (λ (n : ℕ). Contains ts n) (c.is_one.ensures.0 c.if-is_one.true) (among c.args.first c.args.rows.now (λ t. t ≢ c.args.trap) c.args.innermost c.loop-next.next c.loop-next.invariant c.in-Some.other c.in-Some.is ts h),
  λ there. refl,
)

pub returns : goal.returns
returns c = λ ts h. (
  λ r. absurd (false≢true r),
  λ there. absurd (All-contains (λ t. t ≢ c.args.trap) ts c.args.trap (walked-all c.args.first c.args.rows.now (λ t. t ≢ c.args.trap) c.args.innermost c.loop-next.next c.loop-next.invariant c.in_default.not-Some ts h) there refl),
)
