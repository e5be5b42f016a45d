use Rattle.std.proofs.Common.{sym}
use Rattle.plain_run.proofs.Given.{if-ok}
use Rattle.code_steps.proofs.Answered.{finished}
use Rattle.code_steps.proofs.workers.does_on.Goals as goal

pub returns : goal.returns
returns c =
    let seen = c.in_ok-done.ensures in
    if-ok _ _ c.finish.result
    (λ d h. finished c.args.program.now c.args.asked c.args.state.now c.ask.new.state _ c.in_ok-done.done c.args.op c.args.operands.now d h seen.calls seen.others c.requires.asks seen.row seen.stays (sym c.requires.running))
    c.finish.ensures
