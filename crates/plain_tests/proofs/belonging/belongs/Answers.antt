use Rattle.std.proofs.Common.{IfOk, subst, sym}
use Rattle.value_model.specs.declared.value.Value.TheVariants.{Function, Future}
use Rattle.op_model.specs.ProgramFacts.{own_types}
use Rattle.plain_run.specs.ProgramFacts.{facts_of}
use Rattle.plain_run.specs.Held.{heap_of}
use Rattle.plain_run.proofs.Given.{if-ok}
use Rattle.plain_tests.specs.Own.{TellsAtomIf, arrow_at, future_of}
use Rattle.plain_tests.specs.Tells.{Tells}
use Rattle.plain_tests.proofs.Telling.{function_told, future_told}
use Rattle.plain_tests.proofs.belonging.belongs.Goals as goal

pub returns-in-Function : goal.returns-in-Function
returns-in-Function c =
    let facts = c.args.facts.now in
    let heap = c.args.heap.now in
    let t = c.args.t.now in
    let n = c.in-Function.n in
    let atom = arrow_at (own_types (facts_of facts)) (heap_of heap) n in
    let told = subst (λ a. IfOk c.atom_below_if.result (TellsAtomIf facts.atoms.now a t)) c.arrow_at.ensures c.atom_below_if.ensures in
    subst (λ v. IfOk c.atom_below_if.result (Tells facts heap v t)) (sym c.in-Function.is)
    (if-ok (TellsAtomIf facts.atoms.now atom t) (Tells facts heap (Function n) t) c.atom_below_if.result (function_told facts heap n t) told)

pub returns-in-Future : goal.returns-in-Future
returns-in-Future c =
    let facts = c.args.facts.now in
    let heap = c.args.heap.now in
    let t = c.args.t.now in
    let strand = c.in-Future.strand in
    let unit = c.in-Future.unit in
    let result = c.atom_below_if-in-Future.result in
    let atom = future_of (own_types (facts_of facts)) unit in
    let told = subst (λ a. IfOk result (TellsAtomIf facts.atoms.now a t)) c.future_of.ensures c.atom_below_if-in-Future.ensures in
    subst (λ v. IfOk result (Tells facts heap v t)) (sym c.in-Future.is)
    (if-ok (TellsAtomIf facts.atoms.now atom t) (Tells facts heap (Future strand unit) t) result (future_told facts heap strand unit t) told)
