use Rattle.std.proofs.Common.{◌≡◌, ◌∙◌, ◌+◌, ◌++◌, Some, ap, arith, drop, length, map, rules, subst, sym, take}
use Rattle.op_model.specs.CallRows.{workers_from}
use Rattle.plain_run.specs.Effects.{spawned_of}
use Rattle.plain_run.specs.ProgramFacts.{worker_facts_of}
use Rattle.plain_run.proofs.Made.{pushed-held}
use Rattle.plain_calls.proofs.Walking.{workers-more}
use Rattle.plain_calls.proofs.workers.add_workers.Goals as goal

pub loop-next-preserved : goal.loop-next-preserved
loop-next-preserved c =
    let w = c.next-item.result in
    let i = c.loop-next.next-index in
    let ws = c.args.workers.now in
    let left = c.loop-next.left.now in
    let old = map spawned_of c.loop-next.spawned.items in
    let total = map spawned_of c.args.spawned.now.items ++ workers_from c.args.activation c.args.worker (map worker_facts_of ws) c.args.values.now in
    let count : c.len-count.result ≡ length w.captured.items = search rules in
    let given : c.in_ok-args.args.items ≡ take (length w.captured.items) left = c.in_ok-args.ensures ∙ (c.front.ensures ∙ ap (λ n. take n left) count) in
    let pushed = pushed-held spawned_of c.loop-next.spawned.items c.push.new.self.items _ (record { unit = w.unit; args = take (length w.captured.items) left; role = Some (record { activation = c.args.activation; worker = c.loop-next.number }) }) c.in_ok-push.ensures.items (λ j. record { unit = w.unit; args = given j; role = Some (record { activation = c.args.activation; worker = c.loop-next.number }) }) in
    let more = workers-more c.args.activation c.loop-next.number ws i w left old (map spawned_of c.push.new.self.items) total c.loop-next-test.true c.next-item.is c.loop-next.invariant.1 pushed in (
      (let a = c.loop-next.invariant.0 in omega (arith, a)),
      subst (λ vs. map spawned_of c.push.new.self.items ++ workers_from c.args.activation (c.loop-next.number + 1) (map worker_facts_of (drop (i + 1) ws)) vs ≡ total) (sym (c.behind-left.ensures ∙ ap (λ n. drop n left) count)) more,
    )
