use Rattle.std.proofs.Common.{subst}
use Rattle.plain_run.specs.Held.{with_world}
use Rattle.plain_library.specs.Calls.{IsLibrary}
use Rattle.plain_library.proofs.Calling.{library-done}
use Rattle.plain_library.proofs.calls.perform_library.Goals as goal

pub returns-clause-row : goal.returns-clause-row
returns-clause-row c = λ caller.
    let old = c.args.common.now in
    let w = c.called.new.world in
    let row = subst (λ n. IsLibrary c.args.facts.now c.args.call n c.args.operands.now old.world w c.in_ok-tried.tried) c.atom_number-number.ensures c.in_ok-tried.ensures.row in
    library-done c.args.facts.now c.args.call c.args.atom c.args.count c.args.operands.now caller old w c.in_ok-tried.tried c.answered.result row (c.answered.ensures.row (with_world old w))

pub returns-clause-stays : goal.returns-clause-stays
returns-clause-stays c = c.answered.ensures.stays c.args.common.now c.called.new.world c.in_ok-tried.ensures.stays
