use Rattle.std.proofs.Common.{◌≡◌, ◌<◌, Bool, None, Some, false, length, not, refl, slice_get, sym, subst, true, ◌∙◌, ap}
use Rattle.std.proofs.lemmas.Bool.{false≢true}
use Rattle.type_diagrams.specs.Found.{FindsSimple}
use Rattle.type_diagrams.specs.Sets.{has_shape, set_of}
use Rattle.type_diagrams.specs.Tables.{Table, condition, condition_at, is_in_set}
use Rattle.type_diagrams.proofs.Combined.{set_at}
use Rattle.type_diagrams.proofs.Nothing.{FindsSimple-empty, empty-FindsSimple}
use Rattle.type_diagrams.proofs.Numbering.{same_set-Decides}
use Rattle.type_diagrams.proofs.diagrams.Diagrams.has_simple_shape.Goals as goal

not-false : (b : Bool) → not b ≡ false → b ≡ true
not-false true e = refl
not-false false e = absurd (false≢true (sym e))

pub returns : goal.returns
returns c =
    let now = c.args.self.now in
    let d = c.diagram-diagram.result in
    let s = c.index-as_slice-diagram.result in
    let none = c.all-none.result in
    let lt = subst (λ (t : Table). d.simple < length t.sets) (sym c.self.view_is) c.diagram-diagram.ensures.over.set in
    let set = set_at c.self.inside.sets.keys c.as_slice.result.now d.simple s lt c.as_slice.ensures.keys c.index-as_slice-diagram.is in
    let at = subst (λ (t : Table). slice_get t.sets d.simple ≡ Some (set_of s)) c.self.view_is set in
    let simple : has_shape (set_of s) ≡ (condition now c.args.a).simple = ap is_in_set (sym at) ∙ ap (λ o. (condition_at now o).simple) (sym c.diagram-diagram.ensures.value) in (
      λ h. subst (λ has. FindsSimple has None) simple
          (empty-FindsSimple s none c.all-none.ensures.shapes ((same_set-Decides s none).0 (sym c.eq-is_empty.ensures ∙ not-false c.eq-is_empty.result h))),
      λ h. ap not (c.eq-is_empty.ensures ∙ (same_set-Decides s none).1
          (FindsSimple-empty s none c.all-none.ensures.shapes (c.self.invariant.canonical d.simple (set_of s) set) (subst (λ has. FindsSimple has None) (sym simple) h))),
    )
