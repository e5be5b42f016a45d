use Rattle.std.proofs.Common.{◌≡◌, ◌∙◌, length, sym, subst}
use Rattle.std.proofs.Math.ListN.{length-map}
use Rattle.plain_run.specs.Held.{heap_of, structure_of}
use Rattle.plain_run.proofs.Given.{if-ok}
use Rattle.plain_tests.specs.Shapes.{Finds, FindsShape, IsErrorNumber}
use Rattle.plain_tests.proofs.Finding.{inner_is}
use Rattle.plain_tests.proofs.shapes.one_shape.Goals as goal

pub returns-in-None : goal.returns-in-None
returns-in-None c =
    let h = heap_of c.args.heap.now in
    let v = c.args.v.now in
    let size : c.len.result ≡ length h.structures = c.len.ensures.len ∙ sym (length-map c.args.heap.now.structures structure_of) in
    let none = subst (IsErrorNumber v) c.in-None.is c.error_number.ensures in
    if-ok (Finds h c.len.result v) (FindsShape h v) c.inner_shape.result (λ found is. inner_is h v found none (subst (λ n. Finds h n v found) size is)) c.inner_shape.ensures
