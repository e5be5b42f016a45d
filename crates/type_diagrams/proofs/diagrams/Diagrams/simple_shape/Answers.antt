use Rattle.std.proofs.Common.{◌≡◌, ◌<◌, IfOk, IfSome, Some, length, slice_get, sym, subst, ◌∙◌, ap}
use Rattle.type_diagrams.specs.Sets.{has_shape, set_of}
use Rattle.type_diagrams.specs.Tables.{Table, condition, condition_at, is_in_set}
use Rattle.type_diagrams.specs.Found.{FindsSimple, IsNearest}
use Rattle.type_diagrams.specs.Whole.{HasOneNumberEach}
use Rattle.type_diagrams.proofs.Combined.{set_at}
use Rattle.type_diagrams.proofs.OneNumber.{one_number}
use Rattle.type_diagrams.proofs.diagrams.Diagrams.simple_shape.Goals as goal

pub shape-requires : goal.shape-requires
shape-requires c =
    let place = c.diagram-diagram.result.simple in
    let lt = subst (λ (t : Table). place < length t.sets) (sym c.self.view_is) c.diagram-diagram.ensures.over.set in
    c.self.invariant.canonical place _ (set_at c.self.inside.sets.keys c.as_slice.result.now place c.index-as_slice-diagram.result lt c.as_slice.ensures.keys c.index-as_slice-diagram.is)

pub returns-clause-found : goal.returns-clause-found
returns-clause-found c =
    let t = c.args.self.now in
    let place = c.diagram-diagram.result.simple in
    let lt = subst (λ (t : Table). place < length t.sets) (sym c.self.view_is) c.diagram-diagram.ensures.over.set in
    let at = subst (λ (t : Table). slice_get t.sets place ≡ Some (set_of c.index-as_slice-diagram.result)) c.self.view_is
    (set_at c.self.inside.sets.keys c.as_slice.result.now place c.index-as_slice-diagram.result lt c.as_slice.ensures.keys c.index-as_slice-diagram.is) in
    let same : has_shape (set_of c.index-as_slice-diagram.result) ≡ (condition t c.args.a).simple =
    ap is_in_set (sym at) ∙ ap (λ o. (condition_at t o).simple) (sym c.diagram-diagram.ensures.value) in
    subst (λ has. IfOk c.shape.result (FindsSimple has)) same c.shape.ensures.found

pub returns-clause-nearest : goal.returns-clause-nearest
returns-clause-nearest c =
    let t = c.args.self.now in
    let place = c.diagram-diagram.result.simple in
    let lt = subst (λ (t : Table). place < length t.sets) (sym c.self.view_is) c.diagram-diagram.ensures.over.set in
    let at = subst (λ (t : Table). slice_get t.sets place ≡ Some (set_of c.index-as_slice-diagram.result)) c.self.view_is
    (set_at c.self.inside.sets.keys c.as_slice.result.now place c.index-as_slice-diagram.result lt c.as_slice.ensures.keys c.index-as_slice-diagram.is) in
    let same : has_shape (set_of c.index-as_slice-diagram.result) ≡ (condition t c.args.a).simple =
    ap is_in_set (sym at) ∙ ap (λ o. (condition_at t o).simple) (sym c.diagram-diagram.ensures.value) in
    subst (λ has. IfOk c.shape.result (λ found. IfSome found (IsNearest has))) same c.shape.ensures.nearest

pub returns-clause-one : goal.returns-clause-one
returns-clause-one c = subst HasOneNumberEach c.self.view_is (one_number _ c.self.invariant)
