use Rattle.std.proofs.Common.{◌≡◌, ◌<◌, ℕ, Bool, false, None, Some, length, slice_get, sym, subst, arith}
use Rattle.std.specs.Option.{is_some}
use Rattle.type_diagrams.specs.Tables.{Table}
use Rattle.type_diagrams.specs.Whole.{IsDiagramOver, HasOneNumberEach}
use Rattle.type_diagrams.proofs.Interning.{found}
use Rattle.type_diagrams.proofs.Numbering.{same_diagram-Decides}
use Rattle.type_diagrams.proofs.Inserts.{diagram_in-IsTable, diagram_in-Extends, diagram_in-made, diagrams-unchanged}
use Rattle.type_diagrams.proofs.OneNumber.{one_number}
use Rattle.type_diagrams.proofs.diagrams.Diagrams.number.Goals as goal

none_of : {b : Bool} → is_some {T = ℕ} None ≡ b → b ≡ false
none_of e = sym e

pub returns-in-Some-clause-made : goal.returns-in-Some-clause-made
returns-in-Some-clause-made c =
    let at : slice_get c.self.inside.diagrams.keys c.in-Some.place ≡ Some c.args.diagram = found _ c.self.inside.diagrams.keys c.in-Some.place c.args.diagram (λ y e. (same_diagram-Decides c.args.diagram y).0 e) (sym c.in-Some.ensures.index) in
    subst (λ (t : Table). slice_get t.diagrams c.in-Some.place ≡ Some c.args.diagram) c.self.view_is at

pub invariant_of-self-in-None : goal.invariant_of-self-in-None
invariant_of-self-in-None c =
    let room : length c.self.inside.diagrams.keys < 4294967293 = omega arith in
    diagram_in-IsTable _ c.self.invariant c.args.diagram c.insert.new.self.keys (none_of c.in-None.ensures.found) c.in_ok-insert-in-None.ensures.keys (subst (λ t. IsDiagramOver t c.args.diagram) (sym c.self.view_is) c.requires) room

pub returns-in_ok-insert-in-None-clause-extends : goal.returns-in_ok-insert-in-None-clause-extends
returns-in_ok-insert-in-None-clause-extends c =
    diagram_in-Extends _ c.self.invariant c.args.diagram c.insert.new.self.keys (none_of c.in-None.ensures.found) c.in_ok-insert-in-None.ensures.keys c.args.self.now c.self.view_is

pub returns-in_ok-insert-in-None-clause-made : goal.returns-in_ok-insert-in-None-clause-made
returns-in_ok-insert-in-None-clause-made c =
    diagram_in-made _ c.self.invariant c.args.diagram c.insert.new.self.keys (none_of c.in-None.ensures.found) c.in_ok-insert-in-None.ensures.keys c.len-place.result c.len-place.ensures.len

pub returns-in-Some-clause-one : goal.returns-in-Some-clause-one
returns-in-Some-clause-one c = subst HasOneNumberEach c.self.view_is (one_number _ c.self.invariant)

pub returns-in_ok-insert-in-None-clause-one : goal.returns-in_ok-insert-in-None-clause-one
returns-in_ok-insert-in-None-clause-one c =
    let room : length c.self.inside.diagrams.keys < 4294967293 = omega arith in
    one_number _ (diagram_in-IsTable _ c.self.invariant c.args.diagram c.insert.new.self.keys (none_of c.in-None.ensures.found) c.in_ok-insert-in-None.ensures.keys (subst (λ t. IsDiagramOver t c.args.diagram) (sym c.self.view_is) c.requires) room)

pub returns-in_err-insert-in-None-clause-extends : goal.returns-in_err-insert-in-None-clause-extends
returns-in_err-insert-in-None-clause-extends c = diagrams-unchanged _ c.insert.new.self.keys c.args.self.now c.in_err-insert-in-None.ensures.err c.self.view_is
