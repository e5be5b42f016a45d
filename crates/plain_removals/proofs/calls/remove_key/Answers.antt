use Rattle.plain_run.proofs.Given.{if-ok}
use Rattle.plain_removals.proofs.Calling.{remove-key-called, remove-key-stuck}
use Rattle.plain_removals.proofs.calls.remove_key.Goals as goal

pub returns-in-None-clause-row : goal.returns-in-None-clause-row
returns-in-None-clause-row c = remove-key-stuck c.args.facts.now c.args.operands.now c.args.world.now c.args.world.now c.in-None.ensures

pub returns-in-Some-clause-row : goal.returns-in-Some-clause-row
returns-in-Some-clause-row c =
    if-ok _ _ c.removes_entry.result (λ tried. remove-key-called c.args.facts.now c.args.operands.now c.args.world.now c.removes_entry.new.world c.in-Some.n tried c.in-Some.key c.in-Some.ensures) c.removes_entry.ensures.row
