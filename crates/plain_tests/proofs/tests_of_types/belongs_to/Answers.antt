use Rattle.std.proofs.Common.{◌≡◌, IfOk, rules, subst, sym}
use Rattle.held_operations.specs.Operation.{type_of}
use Rattle.plain_tests.specs.Tells.{Tells}
use Rattle.plain_tests.proofs.tests_of_types.belongs_to.Goals as goal

pub returns-in-Tree : goal.returns-in-Tree
returns-in-Tree c =
    let facts = c.args.facts.now in
    let heap = c.args.heap.now in
    let v = c.args.v.now in
    let same : c.deref.result.now ≡ c.in-Tree.ty.now.value = search rules in
    subst (λ t. IfOk c.belongs.result (Tells facts heap v (type_of t))) (sym c.in-Tree.is) (subst (λ ty. IfOk c.belongs.result (Tells facts heap v ty.sem)) same c.belongs.ensures)

pub returns-in-Nil : goal.returns-in-Nil
returns-in-Nil c = subst (λ t. IfOk c.belongs-in-Nil.result (Tells c.args.facts.now c.args.heap.now c.args.v.now (type_of t))) (sym c.in-Nil.is) c.belongs-in-Nil.ensures

pub returns-in-Error : goal.returns-in-Error
returns-in-Error c = subst (λ t. IfOk c.belongs-in-Error.result (Tells c.args.facts.now c.args.heap.now c.args.v.now (type_of t))) (sym c.in-Error.is) c.belongs-in-Error.ensures

pub returns-in-Single : goal.returns-in-Single
returns-in-Single c =
    let facts = c.args.facts.now in
    let heap = c.args.heap.now in
    let v = c.args.v.now in
    subst (λ t. IfOk c.belongs-in-Single.result (Tells facts heap v (type_of t))) (sym c.in-Single.is)
    (subst (λ s. IfOk c.belongs-in-Single.result (Tells facts heap v s)) c.singleton.ensures c.belongs-in-Single.ensures)
