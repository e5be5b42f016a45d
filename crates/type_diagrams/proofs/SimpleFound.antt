-- A shape that is found in a set of simple shapes, by its parts.
use Rattle.std.proofs.Common.{◌≡◌, List, [], ◌∷◌, true, false, Some, None, slice_get, refl, subst, ◌∙◌, ap}
use Rattle.std.proofs.lemmas.Cmp.{nat_list_cmp_total}
use Rattle.std.specs.Ordering.{nat_cmp}
use Rattle.std.specs.Cmp.Lexicographic.{slice_cmp}
use Rattle.bal_base.specs.declared.text.Text.{Text}
use Rattle.bal_base.specs.declared.shape.Shape.{Nil, Bool as BoolShape, Int, Str, List', Mapping', Error', Function, Future'}
use Rattle.bal_base.specs.Valid.{IsText}
use Rattle.type_diagrams.specs.Sets.{Each, Rises, Simples, answer_for, covers, IsCanonical, has_shape, has_int, has_text}
use Rattle.type_diagrams.specs.Found.{FindsSimple, FindsInt, FindsText, IsLeftOut}
use Rattle.type_diagrams.proofs.Places.{at_head}

module _ (s : Simples) (is : IsCanonical s) where
  pub rest-FindsText : (t : Text) → s.rest ≡ true → IsLeftOut s.texts t → FindsText (has_text s) (Some t)
  rest-FindsText t e out = (out.text, ap (λ a. answer_for (covers false (slice_cmp nat_cmp)) a s.texts t) e ∙ out.outside)

  pub head-FindsText : (texts : List Text) → s.rest ≡ false → s.texts ≡ texts → FindsText (has_text s) (slice_get texts 0)
  head-FindsText [] e f = λ t fits. λ j. answer_for (covers false (slice_cmp nat_cmp)) (e j) (f j) t
  head-FindsText (p ∷ ps) e f = (
    (subst (Each IsText) f is.strings).0,
    (λ j. answer_for (covers false (slice_cmp nat_cmp)) (e j) (f j) p) ∙ at_head (slice_cmp nat_cmp) nat_list_cmp_total false false p ps (subst (Rises (slice_cmp nat_cmp)) f is.texts_rise).0,
  )

-- ---- by the parts, in order

module _ (s : Simples) where
  pub none-FindsSimple : s.nil ≡ false → s.no ≡ false → s.yes ≡ false → FindsInt (has_int s) None → FindsText (has_text s) None → FindsSimple (has_shape s) None
  none-FindsSimple n f t ints texts Nil is v = n
  none-FindsSimple n f t ints texts (BoolShape true) is v = t
  none-FindsSimple n f t ints texts (BoolShape false) is v = f
  none-FindsSimple n f t ints texts (Int i) is v = ints i v
  none-FindsSimple n f t ints texts (Str u) is v = texts u v
  none-FindsSimple n f t ints texts (List' mark _ items) is v = refl
  none-FindsSimple n f t ints texts (Mapping' mark _ fields) is v = refl
  none-FindsSimple n f t ints texts (Error' _ detail) is v = refl
  none-FindsSimple n f t ints texts (Function isolated graph) is v = refl
  none-FindsSimple n f t ints texts (Future' _ results) is v = refl
