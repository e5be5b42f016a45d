use Rattle.std.proofs.Common.{◌≡◌, ◌+◌, Some, slice_get, sym, subst, ◌∙◌, ap, arith}
use Rattle.std.proofs.lemmas.Bool.{false≢true}
use Rattle.std.proofs.lemmas.Option.{slice_get-get_or}
use Rattle.std.proofs.lemmas.Str.{chars-nil}
use Rattle.std.specs.Cmp.Lexicographic.{bytes_decides}
use Rattle.type_diagrams.proofs.Outside.{LeavesOut, none_seen, another, the_same, all_seen}
use Rattle.type_diagrams.proofs.simple_shape.text_outside.Goals.{then-eq+in_ok-outside-2, else-eq}
use Rattle.type_diagrams.proofs.simple_shape.text_outside.Goals as goal

pub loop-text-init : goal.loop-text-init
loop-text-init c = none_seen c.args.texts.now c.in_ok-outside.outside (c.in_ok-outside.ensures ∙ chars-nil)

pub loop-text-preserved : goal.loop-text-preserved
loop-text-preserved c =
    let texts = c.args.texts.now in
    let seen = c.loop-text.text-index in
    let x = c.text-item.result in
    let at : slice_get texts seen ≡ Some x = slice_get-get_or texts seen x c.loop-text-test.true ∙ ap Some (sym c.text-item.is) in
    elim c.if-eq.branch [
      | then-eq+in_ok-outside-2 w ↦
          subst (LeavesOut texts (seen + 1)) (sym (w.outside-is ∙ w.in_ok-outside-2.ensures))
          (the_same texts seen c.loop-text.outside x c.requires c.loop-text.invariant at ((bytes_decides x c.loop-text.outside).0 (sym c.eq.ensures ∙ w.if-eq.true)))
      | else-eq w ↦
          subst (LeavesOut texts (seen + 1)) (sym w.outside-is)
          (another texts seen c.loop-text.outside x c.loop-text.invariant at (λ same. false≢true (sym (sym c.eq.ensures ∙ w.if-eq.false) ∙ (bytes_decides x c.loop-text.outside).1 same)))
    ]

pub returns : goal.returns
returns c = all_seen c.args.texts.now c.loop-text.text-index c.loop-text.outside (omega (arith, c.loop-text-test.false, c.loop-text.auto.text-index-end)) c.loop-text.invariant
