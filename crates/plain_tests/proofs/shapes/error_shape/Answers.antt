use Rattle.std.proofs.Common.{◌∙◌, sym}
use Rattle.plain_run.specs.Held.{heap_of}
use Rattle.plain_run.proofs.Given.{if-ok}
use Rattle.plain_tests.specs.Shapes.{FindsError, FindsShape}
use Rattle.value_model.specs.declared.value.Value.TheVariants.{Error}
use Rattle.plain_tests.proofs.Finding.{error_absent, error_there}
use Rattle.plain_tests.proofs.shapes.error_shape.Goals as goal

pub returns-in-None : goal.returns-in-None
returns-in-None c = error_absent (heap_of c.args.heap.now) c.args.n (sym c.detail_at.ensures ∙ c.in-None.is)

pub returns-in-Some : goal.returns-in-Some
returns-in-Some c =
    let h = heap_of c.args.heap.now in
    let n = c.args.n in
    if-ok (FindsError h c.in-Some.detail) (FindsShape h (Error n)) c.detailed.result (λ found is. error_there h n c.in-Some.detail found (sym c.detail_at.ensures ∙ c.in-Some.is) is) c.detailed.ensures
