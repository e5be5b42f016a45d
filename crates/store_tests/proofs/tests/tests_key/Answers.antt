use Rattle.std.proofs.Common.{true, false, refl}
use Rattle.std.specs.Prelude.{option_and_then, option_copied}
use Rattle.std.proofs.lemmas.Bool.{false≢true}
use Rattle.op_model.specs.ProgramFacts.{own_types}
use Rattle.op_model.specs.Rows.{Else}
use Rattle.op_model.specs.Stores.{atom_of, type_at_key}
use Rattle.plain_run.specs.ProgramFacts.{facts_of}
use Rattle.plain_run.specs.Held.{structure_of}
use Rattle.store_tests.specs.declared.tests.Test.TheVariants.{Passed}
use Rattle.store_tests.specs.Questions.{KeyIsBeyond}
use Rattle.store_tests.proofs.Tested.{held-not, held-tested, hold-told}
use Rattle.store_tests.proofs.tests.tests_key.Goals as goal

pub returns-in-Some-true : goal.returns-in-Some-true
returns-in-Some-true c =
    let facts = c.args.facts.now in
    let w = c.args.world.now in
    let s = structure_of c.args.s.now in
    let key = c.args.key.now in
    let v = c.args.v.now in
    let t = option_and_then (type_at_key key) (atom_of (own_types (facts_of facts)) s) in
    let hold = hold-told facts w.heap s.mutable (option_copied c.entry_type-wanted.result) t v c.in_ok-may_hold.field-0 c.in-Some-true.field-0 true c.entry_type-wanted.ensures c.in-Some-true.is c.in-Some-true.field-0-test c.in_ok-may_hold.ensures in
    λ final. held-tested facts w s t v (Else final) (Else final) (KeyIsBeyond facts w s key v) Passed (hold.0 refl) (λ came h. h)

pub returns-in-Some-false : goal.returns-in-Some-false
returns-in-Some-false c =
    let facts = c.args.facts.now in
    let w = c.args.world.now in
    let s = structure_of c.args.s.now in
    let key = c.args.key.now in
    let v = c.args.v.now in
    let t = option_and_then (type_at_key key) (atom_of (own_types (facts_of facts)) s) in
    let hold = hold-told facts w.heap s.mutable (option_copied c.entry_type-wanted.result) t v c.in_ok-may_hold.field-0 c.in-Some-false.field-0 false c.entry_type-wanted.ensures c.in-Some-false.is c.in-Some-false.field-0-test c.in_ok-may_hold.ensures in
    λ final. held-not facts w s t v (Else final) (λ may. false≢true (hold.1 may))
