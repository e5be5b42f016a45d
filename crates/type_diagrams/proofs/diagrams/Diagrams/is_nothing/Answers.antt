use Rattle.std.proofs.Common.{◌≡◌, ◌<◌, Some, length, slice_get, sym, subst, ◌∙◌}
use Rattle.std.proofs.lemmas.Bool.{false≢true}
use Rattle.type_diagrams.specs.Conditions.{IsNothing}
use Rattle.type_diagrams.specs.Tables.{Table, condition}
use Rattle.type_diagrams.proofs.Combined.{set_at}
use Rattle.type_diagrams.proofs.Nothing.{IsNothing-bare, IsNothing-empty, empty-IsNothing}
use Rattle.type_diagrams.proofs.Numbering.{same_diagram-Decides, same_set-Decides}
use Rattle.type_diagrams.proofs.diagrams.Diagrams.is_nothing.Goals as goal
use Rattle.type_diagrams.proofs.diagrams.Diagrams.is_nothing.Goals.{then-eq, else-eq}

pub returns : goal.returns
returns c =
    let a = c.args.a in
    let d = c.diagram-diagram.result in
    let bare = c.without_kinds.result in
    let none = c.all-none.result in
    let at = subst (λ (t : Table). slice_get t.diagrams a ≡ Some d) (sym c.self.view_is) c.diagram-diagram.ensures.value in
    let lt = subst (λ (t : Table). d.simple < length t.sets) (sym c.self.view_is) c.diagram-diagram.ensures.over.set in
    elim c.if-eq.branch [
      | then-eq w ↦
          let s = w.index-as_slice-diagram.result in
          let set = set_at c.self.inside.sets.keys w.as_slice.result.now d.simple s lt w.as_slice.ensures.keys w.index-as_slice-diagram.is in
          let same = (same_diagram-Decides d bare).0 (sym c.eq.ensures ∙ w.if-eq.true) in (
            λ h. subst (λ t. IsNothing (condition t a)) c.self.view_is
                (empty-IsNothing _ c.self.invariant a d bare at c.without_kinds.ensures s none set c.all-none.ensures.shapes same ((same_set-Decides s none).0 (sym w.eq-then-eq.ensures ∙ (sym w.result-is ∙ h)))),
            λ h. w.result-is ∙ (w.eq-then-eq.ensures ∙ (same_set-Decides s none).1
                (IsNothing-empty _ c.self.invariant a d bare at c.without_kinds.ensures s none set c.all-none.ensures.shapes (subst (λ t. IsNothing (condition t a)) (sym c.self.view_is) h))),
          )
      | else-eq w ↦ (
        λ h. absurd (false≢true (sym w.if-eq.false ∙ (sym w.result-is ∙ h))),
        λ h. absurd (false≢true (sym (sym c.eq.ensures ∙ w.if-eq.false) ∙ (same_diagram-Decides d bare).1
            (IsNothing-bare _ c.self.invariant a d bare at c.without_kinds.ensures (subst (λ t. IsNothing (condition t a)) (sym c.self.view_is) h)))),
      )
    ]
