use Rattle.std.proofs.Common.{List, [], ◌∷◌, length, subst}
use Rattle.std.proofs.lemmas.List.Elements.{All-head, All-tail}
use Rattle.typed_tree.specs.declared.expr.TypedExpr.{TypedExpr}
use Rattle.check_kinds.proofs.Over.{over-at}
use Rattle.check_words.specs.Stands.{PartBelow}
use Rattle.check_words.specs.State.{AreLast}
use Rattle.check_words.proofs.Coming.{given, next}
use Rattle.check_words.proofs.Standing.{last-have}
use Rattle.check_work.specs.Views.{state_of}
use Rattle.needs_of_choices.specs.ByKeys.{all_fields_fit}
use Rattle.needs_of_choices.proofs.fields.computed_key_fits.Goals as goal

pub all_fit-requires : goal.all_fit-requires
all_fit-requires g c =
    let P = PartBelow (length (g.T.Types.atoms c.args.types.now)) in
    let both = last-have P 2 _ (c.in-Some.key.now ∷ c.in-Some.value.now ∷ [])
    (subst (λ (es : List TypedExpr). AreLast es 2 (c.in-Some.key.now ∷ c.in-Some.value.now ∷ [])) c.as_slice.ensures.value c.in-Some.ensures) c.requires.found in
    All-head P c.in-Some.value.now [] (All-tail P c.in-Some.key.now (c.in-Some.value.now ∷ []) both)

pub returns-in-Some-clause-comes : goal.returns-in-Some-clause-comes
returns-in-Some-clause-comes g c =
    let s = state_of (g.T.Types.atoms c.args.types.now) c.args.work.now in
    let key = c.in-Some.key.now in
    let value = c.in-Some.value.now in
    next _ _ _ _ _ (key, value) s (given _ s (key, value) (subst (λ (es : List TypedExpr). AreLast es 2 (key ∷ value ∷ [])) c.as_slice.ensures.value c.in-Some.ensures))
    (over-at (all_fields_fit g.T.Types.passes key value c.args.atom c.args.at) s c.all_fit.result _ c.all_fit.ensures.comes)
