use Rattle.std.proofs.Common.{◌∷◌, [], subst, sym}
use Rattle.operations.specs.declared.operation.Operation.TheVariants as operation
use Rattle.plain_run.proofs.Operands.{one-item}
use Rattle.plain_run.specs.Effects.{IsPerformed}
use Rattle.held_operations.specs.Operation.{type_of}
use Rattle.plain_tests.specs.Tells.{AreBeyond, Tells}
use Rattle.plain_tests.proofs.Doing.{test-done}
use Rattle.plain_tests.proofs.tests_of_types.perform_test.Goals as goal

pub returns-in-Some-clause-row : goal.returns-in-Some-clause-row
returns-in-Some-clause-row c = λ caller.
    let facts = c.args.facts.now in
    let t = type_of c.args.t in
    let all = c.args.common.now in
    let heap = all.world.heap in
    let v = c.v-item.result in
    let one = one-item c.args.operands.now v c.in-len1.len_at_least c.in-len1.len_below c.v-item.is in
    let tells = subst (Tells facts heap v t) c.in-Some.is c.in_ok-holds-in-len1.ensures in
    subst (λ vs. IsPerformed facts (operation.Test t) vs caller all all (AreBeyond facts heap vs t) c.told.result) (sym one)
    (test-done v t (AreBeyond facts heap (v ∷ []) t) c.in-Some.holds facts caller all c.told.result tells c.told.ensures)
