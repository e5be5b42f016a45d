use Rattle.plain_run.proofs.Given.{if-ok}
use Rattle.plain_removals.proofs.Calling.{pop-called, pop-stuck}
use Rattle.plain_removals.proofs.calls.pop.Goals as goal

pub returns-in-None-clause-row : goal.returns-in-None-clause-row
returns-in-None-clause-row c = pop-stuck c.args.facts.now c.args.operands.now c.args.world.now c.args.world.now c.in-None.ensures

pub returns-in-Some-clause-row : goal.returns-in-Some-clause-row
returns-in-Some-clause-row c =
    if-ok _ _ c.removes_item.result (λ tried. pop-called c.args.facts.now c.args.operands.now c.args.world.now c.removes_item.new.world c.in-Some.n tried c.in-Some.ensures) c.removes_item.ensures.row
