use Rattle.std.proofs.Common.{◌∙◌, ap}
use Rattle.check_work.specs.Views.{state_of}
use Rattle.needs_of_actions.specs.Awaited.{futures_in}
use Rattle.needs_of_actions.proofs.Awaited.{put-comes, put-stands}
use Rattle.needs_of_actions.proofs.waits.put_wait.Goals as goal

pub returns-clause-stands : goal.returns-clause-stands
returns-clause-stands c = λ env lt h.
    put-stands (state_of env c.args.work.now) c.args.atom c.args.numbers.items _ c.futures-count.result c.in_ok-ty.ty c.args.at _ c.in_ok-gather.ensures (c.in_ok-ty.ensures.ok ∙ c.plain.ensures) h lt

pub returns-clause-comes : goal.returns-clause-comes
returns-clause-comes c = λ env.
    put-comes (state_of env c.args.work.now) c.args.atom c.args.numbers.items _ c.futures-count.result c.in_ok-ty.ty c.args.at _ c.in_ok-gather.ensures (c.in_ok-ty.ensures.ok ∙ c.plain.ensures)
    c.of.ensures (c.futures-count.ensures ∙ ap futures_in c.as_slice.ensures.value)
