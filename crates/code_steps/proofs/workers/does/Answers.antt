use Rattle.std.proofs.Common.{ap, sym, ◌∙◌}
use Rattle.machine_model.specs.Machine.{Does}
use Rattle.held_operations.specs.Operation.{operation_of}
use Rattle.plain_run.proofs.Given.{if-ok}
use Rattle.code_steps.specs.Steps.{awaiting}
use Rattle.code_steps.proofs.Answered.{finished}
use Rattle.code_steps.proofs.workers.does.Goals as goal

pub returns : goal.returns
returns c =
    let seen = c.in_ok-done.ensures in
    let asks = c.requires.asks ∙ ap (λ vs. Does (operation_of c.args.op) vs (awaiting c.args.asked)) (sym c.operands-values.ensures) in
    if-ok _ _ c.finish.result
    (λ d h. finished c.args.program.now c.args.asked c.args.state.now c.ask.new.state _ c.in_ok-done.done c.args.op c.operands-values.result.now d h seen.calls seen.others asks seen.row seen.stays (sym c.requires.running))
    c.finish.ensures
