use Rattle.std.proofs.Common.{All, ◌+◌, ◌<◌, take, sym, subst, ◌∙◌, ap, arith}
use Rattle.std.specs.List.{AllZip}
use Rattle.bal_base.specs.Levels.{levels}
use Rattle.bal_base.specs.Same.{IsSame, IsSameField}
use Rattle.bal_base.proofs.Copies.{by_copies, copied_more, IsSame-List, IsSame-Mapping}
use Rattle.bal_base.specs.declared.shape.Shape.{List as AList, Mapping as AMapping}
use Rattle.bal_base.specs.declared.shape.Shapes.{Shapes}
use Rattle.bal_base.specs.declared.shape.Fields.{Fields as AllFields}
use Rattle.bal_base.proofs.Lower.{FieldIsBelow, levels-List, levels-Mapping}
use Rattle.witness.specs.Falls.{most-sizes, most-field-sizes}
use Rattle.witness.specs.Seen.{shape_of}
use Rattle.witness.proofs.+copied.Goals as goal

pub Witness::copied-all_copied-requires : goal.Witness::copied-all_copied-requires
Witness::copied-all_copied-requires t c =
    let is = sym c.self.view_is ∙ ap shape_of (sym c.deref.ensures ∙ c.in-List.is) in
    let held : Shapes = record { items = c.in-List.items } in
    let whole = AList c.in-List.mark held in
    let below = subst (All (λ x. levels x < levels whole)) (sym c.deref-in-List.ensures.value) (levels-List c.in-List.mark held) in
    (omega (arith, c.decreases, most-sizes (levels whole) c.deref-in-List.result.now below, ap levels is), tt)

pub Witness::copied-fields_copied-requires : goal.Witness::copied-fields_copied-requires
Witness::copied-fields_copied-requires t c =
    let is = sym c.self.view_is ∙ ap shape_of (sym c.deref.ensures ∙ c.in-Mapping.is) in
    let held : AllFields = record { items = c.in-Mapping.fields } in
    let whole = AMapping c.in-Mapping.mark held in
    let below = subst (All (FieldIsBelow (levels whole))) (sym c.deref-in-Mapping.ensures.value) (levels-Mapping c.in-Mapping.mark held) in
    (omega (arith, c.decreases, most-field-sizes (levels whole) c.deref-in-Mapping.result.now below, ap levels is), tt)

pub Witness::copied-returns-in_ok-all_copied-in-List : goal.Witness::copied-returns-in_ok-all_copied-in-List
Witness::copied-returns-in_ok-all_copied-in-List t c =
    by_copies IsSame _ _ _ (sym c.self.view_is ∙ ap shape_of (sym c.deref.ensures ∙ c.in-List.is)) c.deref-in-List.ensures.value c.of.ensures
    (IsSame-List c.in-List.mark (record { items = c.in-List.items }) c.of.result) c.in_ok-all_copied-in-List.ensures

pub Witness::copied-returns-in_ok-fields_copied-in-Mapping : goal.Witness::copied-returns-in_ok-fields_copied-in-Mapping
Witness::copied-returns-in_ok-fields_copied-in-Mapping t c =
    by_copies IsSameField _ _ _ (sym c.self.view_is ∙ ap shape_of (sym c.deref.ensures ∙ c.in-Mapping.is)) c.deref-in-Mapping.ensures.value c.of-in-Mapping.ensures
    (IsSame-Mapping c.in-Mapping.mark (record { items = c.in-Mapping.fields }) c.of-in-Mapping.result) c.in_ok-fields_copied-in-Mapping.ensures

pub copied::all_copied-loop-x-preserved : goal.copied::all_copied-loop-x-preserved
copied::all_copied-loop-x-preserved t c =
    subst (AllZip IsSame (take (c.loop-x.x-index + 1) c.args.parts.now)) (sym c.in_ok-push.ensures.items)
    (copied_more IsSame c.args.parts.now c.loop-x.made.items c.loop-x.x-index c.x-item.result c.in_ok-copied.field-0 (grind (arith, c.loop-x-test.true)) c.x-item.is c.loop-x.invariant c.in_ok-copied.ensures)

pub copied::fields_copied-loop-key-preserved : goal.copied::fields_copied-loop-key-preserved
copied::fields_copied-loop-key-preserved t c =
    subst (AllZip IsSameField (take (c.loop-key.key-index + 1) c.args.fields.now)) (sym c.in_ok-push.ensures.items)
    (copied_more IsSameField c.args.fields.now c.loop-key.made.items c.loop-key.key-index c.loop-key-item.result (c.share.result, c.in_ok-copied.field-0) (grind (arith, c.loop-key-test.true)) c.loop-key-item.is c.loop-key.invariant (sym c.share.ensures, c.in_ok-copied.ensures))
