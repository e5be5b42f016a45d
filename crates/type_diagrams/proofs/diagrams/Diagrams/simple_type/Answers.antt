use Rattle.std.proofs.Common.{◌≡◌, ◌<◌, Some, length, slice_get, sym, subst, ◌∙◌, ap}
use Rattle.type_diagrams.specs.Sets.{has_shape, set_of}
use Rattle.type_diagrams.specs.Tables.{Table, condition, condition_at, is_in_set}
use Rattle.type_diagrams.specs.Written.{IsSimpleType}
use Rattle.type_diagrams.proofs.Combined.{set_at}
use Rattle.type_diagrams.proofs.Shapes.{IfOk-map}
use Rattle.type_diagrams.proofs.WrittenSets.{simple-AreOne}
use Rattle.type_diagrams.proofs.diagrams.Diagrams.simple_type.Goals as goal

pub as_type-requires : goal.as_type-requires
as_type-requires c =
    let place = c.diagram-diagram.result.simple in
    let lt = subst (λ (t : Table). place < length t.sets) (sym c.self.view_is) c.diagram-diagram.ensures.over.set in
    c.self.invariant.canonical place _ (set_at c.self.inside.sets.keys c.as_slice.result.now place c.index-as_slice-diagram.result lt c.as_slice.ensures.keys c.index-as_slice-diagram.is)

pub returns-clause-condition : goal.returns-clause-condition
returns-clause-condition c =
    let t = c.args.self.now in
    let place = c.diagram-diagram.result.simple in
    let lt = subst (λ (t : Table). place < length t.sets) (sym c.self.view_is) c.diagram-diagram.ensures.over.set in
    let at = subst (λ (t : Table). slice_get t.sets place ≡ Some (set_of c.index-as_slice-diagram.result)) c.self.view_is
    (set_at c.self.inside.sets.keys c.as_slice.result.now place c.index-as_slice-diagram.result lt c.as_slice.ensures.keys c.index-as_slice-diagram.is) in
    let same : has_shape (set_of c.index-as_slice-diagram.result) ≡ (condition t c.args.a).simple =
    ap is_in_set (sym at) ∙ ap (λ o. (condition_at t o).simple) (sym c.diagram-diagram.ensures.value) in
    IfOk-map (IsSimpleType (has_shape (set_of c.index-as_slice-diagram.result))) _
    (λ s is env. simple-AreOne (condition t c.args.a) s (subst (λ has. IsSimpleType has s) same is) env) c.as_type.result c.as_type.ensures
