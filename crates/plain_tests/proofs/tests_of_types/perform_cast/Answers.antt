use Rattle.std.proofs.Common.{◌≡◌, ◌∷◌, [], subst, sym, rules}
use Rattle.operations.specs.declared.operation.Operation.TheVariants as operation
use Rattle.typed_tree.specs.SharedTypes.{sem_of}
use Rattle.plain_run.proofs.Operands.{one-item}
use Rattle.plain_run.specs.declared.effect.Performed.TheVariants.{Done}
use Rattle.plain_run.specs.Effects.{IsPerformed}
use Rattle.plain_run.specs.Held.{with_world}
use Rattle.plain_tests.specs.Tells.{AreBeyond, Tells}
use Rattle.plain_tests.proofs.Doing.{cast-done}
use Rattle.plain_tests.proofs.tests_of_types.perform_cast.Goals as goal

pub returns-in_ok-came-in-Some-clause-row : goal.returns-in_ok-came-in-Some-clause-row
returns-in_ok-came-in-Some-clause-row c = λ caller.
    let facts = c.args.facts.now in
    let t = sem_of c.args.t.now in
    let old = c.args.common.now in
    let heap = old.world.heap in
    let w = c.casts.new.world in
    let v = c.v-item.result in
    let one = one-item c.args.operands.now v c.in-len1.len_at_least c.in-len1.len_below c.v-item.is in
    let same : c.deref.result.now ≡ c.args.t.now.value = search rules in
    let tells = subst (λ ty. Tells facts heap v ty.sem c.in_ok-holds-in-len1.field-0) same c.in_ok-holds-in-len1.ensures in
    subst (λ vs. IsPerformed facts (operation.Cast t) vs caller old (with_world old w) (AreBeyond facts heap vs t) (Done c.lifted.result)) (sym one)
    (cast-done v t (AreBeyond facts heap (v ∷ []) t) c.in-Some.holds facts caller old w c.in_ok-came-in-Some.came c.lifted.result (subst (Tells facts heap v t) c.in-Some.is tells) c.in_ok-came-in-Some.ensures.row (c.lifted.ensures.row (with_world old w)))

pub returns-in-None-clause-row : goal.returns-in-None-clause-row
returns-in-None-clause-row c = λ caller.
    let facts = c.args.facts.now in
    let t = sem_of c.args.t.now in
    let heap = c.args.common.now.world.heap in
    let v = c.v-item.result in
    let one = one-item c.args.operands.now v c.in-len1.len_at_least c.in-len1.len_below c.v-item.is in
    let same : c.deref.result.now ≡ c.args.t.now.value = search rules in
    let tells = subst (λ ty. Tells facts heap v ty.sem c.in_ok-holds-in-len1.field-0) same c.in_ok-holds-in-len1.ensures in
    subst (λ vs. AreBeyond facts heap vs t) (sym one) (subst (Tells facts heap v t) c.in-None.is tells)

pub returns-in_ok-came-in-Some-clause-stays : goal.returns-in_ok-came-in-Some-clause-stays
returns-in_ok-came-in-Some-clause-stays c = c.lifted.ensures.stays c.args.common.now c.casts.new.world c.in_ok-came-in-Some.ensures.stays
