use Rattle.std.proofs.Common.{◌≡◌, ◌<◌, ◌+◌, ◌-◌, ◌∙◌, ◌∷◌, [], List, Option, ℕ, arith, length, length-append, subst, sym}
use Rattle.code_numbers.specs.Traps.{AreTrapRows}
use Rattle.code_numbers.proofs.Chains.{HasChain, ends-so, goes-on-so, has-more, instr-there, next-chain, put-own, whole}
use Rattle.code_numbers.proofs.traps.trap_rows.Goals as goal

pub behind-requires-clause-chain : goal.behind-requires-clause-chain
behind-requires-clause-chain c =
    subst (λ (rs : List (Option ℕ)). HasChain c.args.first rs c.loop-place.innermost) (sym (c.as_slice.ensures.value ∙ c.in_ok-push.ensures.items))
    (has-more c.args.first c.loop-place.rows.items c.loop-place.innermost c.loop-place.innermost c.loop-place.invariant.1)

pub behind-requires-clause-own : goal.behind-requires-clause-own
behind-requires-clause-own c =
    put-own c.args.first c.loop-place.rows.items c.loop-place.innermost c.as_slice.result.now c.loop-place.place (c.as_slice.ensures.value ∙ c.in_ok-push.ensures.items) c.loop-place.invariant.0

pub returns-in-None : goal.returns-in-None
returns-in-None c = λ code e.
    let lt : length c.loop-place.rows.items < c.args.end - c.args.first = omega (arith, c.loop-place.invariant.0, c.loop-place-test.true, c.requires.from) in
    let within : c.loop-place.place < length c.args.instrs.now = omega (arith, c.loop-place-test.true, c.requires.inside) in
    ends-so code c.args.first c.loop-place.rows.items c.loop-place.innermost c.as_slice.result.now c.push.new.self.items c.in_ok-push.ensures.items c.as_slice.ensures.value (c.loop-place.invariant.2 code e) c.loop-place.place c.loop-place.invariant.0
    c.index-instrs-place.result (instr-there code c.args.instrs.now c.loop-place.place c.index-instrs-place.result e within c.index-instrs-place.is) c.behind.result c.behind.ensures (c.args.end - c.args.first) lt c.in-None.is

pub loop-place-preserved : goal.loop-place-preserved
loop-place-preserved c =
    let long = length-append c.loop-place.rows.items (c.loop-place.innermost ∷ []) in
    let within : c.loop-place.place < length c.args.instrs.now = omega (arith, c.loop-place-test.true, c.requires.inside) in (
      subst (λ (rs : List (Option ℕ)). length rs + c.args.first ≡ c.loop-place.place + 1) (sym c.in_ok-push.ensures.items) (omega (arith, long, c.loop-place.invariant.0)),
      next-chain c.args.first c.loop-place.rows.items c.loop-place.innermost c.as_slice.result.now c.push.new.self.items c.in_ok-push.ensures.items c.as_slice.ensures.value c.loop-place.invariant.1 c.loop-place.place
          c.index-instrs-place.result c.behind.result c.in-Some.next c.in-Some.is c.behind.ensures,
      λ code e.
          goes-on-so code c.args.first c.loop-place.rows.items c.loop-place.innermost c.as_slice.result.now c.push.new.self.items c.in_ok-push.ensures.items c.as_slice.ensures.value (c.loop-place.invariant.2 code e) c.loop-place.place c.loop-place.invariant.0
          c.index-instrs-place.result (instr-there code c.args.instrs.now c.loop-place.place c.index-instrs-place.result e within c.index-instrs-place.is) c.behind.result c.behind.ensures c.in-Some.next c.in-Some.is,
    )

pub returns : goal.returns
returns c = λ code e.
    let count : length c.loop-place.rows.items ≡ c.args.end - c.args.first = omega (arith, c.loop-place.invariant.0, c.loop-place-test.false, c.loop-place.auto.place-end, c.requires.from) in
    subst (AreTrapRows code c.args.first (c.args.end - c.args.first)) (sym c.in_ok-push-2.ensures.items) (whole code c.args.first c.loop-place.rows.items c.loop-place.innermost (c.loop-place.invariant.2 code e) (c.args.end - c.args.first) count)
