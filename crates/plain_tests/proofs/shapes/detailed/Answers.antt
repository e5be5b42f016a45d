use Rattle.std.proofs.Common.{◌≡◌, ◌∙◌, length, Some, None, sym, subst}
use Rattle.std.proofs.Math.ListN.{length-map}
use Rattle.value_model.specs.declared.value.Value.TheVariants.{Struct}
use Rattle.plain_run.specs.Held.{heap_of, structure_of}
use Rattle.plain_run.proofs.Given.{if-ok}
use Rattle.plain_tests.specs.Shapes.{Finds, FindsError, IsWithDetail}
use Rattle.plain_tests.proofs.Finding.{detail_none, with_detail}
use Rattle.plain_tests.proofs.shapes.detailed.Goals as goal

pub returns-in-None : goal.returns-in-None
returns-in-None c =
    let h = heap_of c.args.heap.now in
    let size : c.len.result ≡ length h.structures = c.len.ensures.len ∙ sym (length-map c.args.heap.now.structures structure_of) in
    let found = subst (Finds h c.len.result (Struct c.args.detail)) c.in-None.is c.in_ok-structure_shape.ensures in
    detail_none h c.args.detail (subst (λ n. Finds h n (Struct c.args.detail) None) size found)

pub returns-in-Some : goal.returns-in-Some
returns-in-Some c =
    let h = heap_of c.args.heap.now in
    let size : c.len.result ≡ length h.structures = c.len.ensures.len ∙ sym (length-map c.args.heap.now.structures structure_of) in
    let found = subst (Finds h c.len.result (Struct c.args.detail)) c.in-Some.is c.in_ok-structure_shape.ensures in
    let there = subst (λ n. Finds h n (Struct c.args.detail) (Some c.in-Some.shape)) size found in
    if-ok (IsWithDetail c.in-Some.shape) (FindsError h c.args.detail) c.with_detail.result (λ o is. with_detail h c.args.detail c.in-Some.shape o there is) c.with_detail.ensures
