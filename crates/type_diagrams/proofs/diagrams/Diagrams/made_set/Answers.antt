use Rattle.std.proofs.Common.{◌≡◌, ◌<◌, Some, length, sym, subst, ap, slice_get}
use Rattle.type_diagrams.specs.Sets.{set_of}
use Rattle.type_diagrams.specs.Tables.{Table}
use Rattle.type_diagrams.proofs.Shapes.{IfOk-map}
use Rattle.type_diagrams.proofs.Combined.{set_at, made-IsSetMade}
use Rattle.type_diagrams.proofs.diagrams.Diagrams.made_set.Goals as goal

pub made-requires-clause-left : goal.made-requires-clause-left
made-requires-clause-left c =
    let lt = subst (λ (t : Table). c.args.left < length t.sets) (sym c.self.view_is) c.requires.left in
    c.self.invariant.canonical c.args.left _ (set_at c.self.inside.sets.keys c.as_slice-sets.result.now c.args.left c.index-sets-left.result lt c.as_slice-sets.ensures.keys c.index-sets-left.is)

pub made-requires-clause-right : goal.made-requires-clause-right
made-requires-clause-right c =
    let lt = subst (λ (t : Table). c.args.right < length t.sets) (sym c.self.view_is) c.requires.right in
    c.self.invariant.canonical c.args.right _ (set_at c.self.inside.sets.keys c.as_slice-sets.result.now c.args.right c.index-sets-right.result lt c.as_slice-sets.ensures.keys c.index-sets-right.is)

pub returns-clause-made : goal.returns-clause-made
returns-clause-made c =
    let l_lt = subst (λ (t : Table). c.args.left < length t.sets) (sym c.self.view_is) c.requires.left in
    let r_lt = subst (λ (t : Table). c.args.right < length t.sets) (sym c.self.view_is) c.requires.right in
    let l_at = set_at c.self.inside.sets.keys c.as_slice-sets.result.now c.args.left c.index-sets-left.result l_lt c.as_slice-sets.ensures.keys c.index-sets-left.is in
    let r_at = set_at c.self.inside.sets.keys c.as_slice-sets.result.now c.args.right c.index-sets-right.result r_lt c.as_slice-sets.ensures.keys c.index-sets-right.is in
    let old = ap (λ (t : Table). t.sets) c.self.view_is in
    IfOk-map (λ n. slice_get c.set_number.new.self.sets n ≡ Some (set_of c.in_ok-set.set)) _
    (λ n at. made-IsSetMade c.args.self.now.sets c.set_number.new.self.sets c.args.operation c.args.left c.args.right n c.index-sets-left.result c.index-sets-right.result c.in_ok-set.set
    (subst (λ sets. slice_get sets c.args.left ≡ Some (set_of c.index-sets-left.result)) old l_at) (subst (λ sets. slice_get sets c.args.right ≡ Some (set_of c.index-sets-right.result)) old r_at) at c.in_ok-set.ensures)
    c.set_number.result c.set_number.ensures.made
