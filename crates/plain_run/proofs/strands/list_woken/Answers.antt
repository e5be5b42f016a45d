use Rattle.std.proofs.Common.{◌++◌, ◌∙◌, ap, get_or, refl}
use Rattle.plain_run.specs.Blocked.{listed_if}
use Rattle.plain_run.specs.Held.{common_of}
use Rattle.plain_run.proofs.Listed.{among-step}
use Rattle.plain_run.proofs.strands.list_woken.Goals as goal

pub loop-n-preserved : goal.loop-n-preserved
loop-n-preserved c =
    let n = get_or c.args.numbers.now c.loop-n.n-index 0 in
    among-step (common_of c.args.common.now) c.args.numbers.now c.loop-n.n-index n c.args.woken.now.items c.loop-n.woken.items c.push_if.new.numbers.items c.loop-n-test.true refl c.loop-n.invariant
    (c.in_ok-push_if.ensures ∙ ap (λ b. c.loop-n.woken.items ++ listed_if b n) c.wakes.ensures)
