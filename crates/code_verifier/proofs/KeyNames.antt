-- Which keys a type of strings names.
use Rattle.std.proofs.Common.{◌≡◌, ◌↔◌, List, Option, Some, Result, Ok, Err, IfOk, inl, inr, refl, sym, ap, subst, ◌∙◌}
use Rattle.bal_base.specs.declared.shape.Shape.{Shape, Nil, Str}
use Rattle.bal_base.specs.declared.stop.Stop.{Stop}
use Rattle.bal_base.specs.declared.text.Text.{Text}
use Rattle.operations.specs.declared.operation.Constant.TheVariants as constant
use Rattle.operations.specs.Rows.{IsSingleKey, NamesKey, StandsAtKey}
use Rattle.type_model.specs.declared.answers.Answer.{Answer}
use Rattle.type_model.specs.declared.answers.Answer.TheVariants.{Yes, No}
use Rattle.type_model.specs.declared.answers.Keys.{Keys}
use Rattle.type_model.specs.declared.answers.Keys.TheVariants.{AnyField, Field}
use Rattle.type_model.specs.declared.answers.TypeLimit.{TypeLimit}
use Rattle.type_model.specs.declared.atoms.AtomDef.{AtomDef}
use Rattle.type_model.specs.declared.basic.BasicSet.TheVariants.{Never, StringOne}
use Rattle.type_model.specs.declared.basic.SemType.{SemType, Basic}
use Rattle.type_model.specs.Basic.{InBasic}
use Rattle.type_model.specs.Calls.{Without}
use Rattle.type_model.specs.Inclusion.{AnswersSub, IsEmpty, IsShapeOf, Sub}
use Rattle.type_model.specs.Membership.{In}
use Rattle.type_model.specs.Parts.{StandsAt}
use Rattle.code_needs.specs.Needs.{MemberHas}
use Rattle.code_verifier.specs.Asked.{Answers}
use Rattle.code_verifier.specs.Keyed.{AreKeysOf, HasString, IsKeyBy}
use Rattle.code_verifier.specs.LedTo.{AsksOfPart}
use Rattle.code_verifier.proofs.KindShapes.{constant-back}

texts-same : (t u : Text) → Str t ≡ Str u → t ≡ u
texts-same t u e = cc

module _ (env : List AtomDef) (k : SemType) where
  abbrev At : Keys → Type 0
  At keys = (m : SemType) (x : Shape) → StandsAtKey env m k x ↔ StandsAt env m keys x

  -- no string is its single one
  any-key : ((key : Text) → ¬ (IsSingleKey env k key)) → At AnyField
  any-key none m x = (so, (λ h. (AnyField, inr (none, refl), h)))
    where
      by : (keys : Keys) → NamesKey env k keys → StandsAt env m keys x → StandsAt env m AnyField x
      by keys (inl (key, single, e)) h = absurd (none key single)
      by keys (inr (others, e)) h = subst (λ (w : Keys). StandsAt env m w x) e h

      so : StandsAtKey env m k x → StandsAt env m AnyField x
      so (keys, named, h) = by keys named h

  module _ (t : Text) (found : IsShapeOf env k (Str t)) where
    one-key : Sub env k (Basic (StringOne t)) → At (Field t)
    one-key sub m x = (so, (λ h. (Field t, inl (t, single, refl), h)))
      where
        single : IsSingleKey env k t
        single = (found.0, (λ y v. ((λ i. constant-back (constant.Str t) y (sub y v i)), (λ e. subst (λ (w : Shape). In env w k) (sym e) found.1))))

        by : (keys : Keys) → NamesKey env k keys → StandsAt env m keys x → StandsAt env m (Field t) x
        by keys (inl (key, alone, e)) h =
            subst (λ (w : Keys). StandsAt env m w x) (e ∙ ap (λ (w : Text). Field w) (sym (texts-same t key ((alone.1 (Str t) found.0).0 found.1)))) h
        by keys (inr (none, e)) h = absurd (none t single)

        so : StandsAtKey env m k x → StandsAt env m (Field t) x
        so (keys, named, h) = by keys named h

    more-keys : (y : Shape) → IsShapeOf env k y → ¬ (In env y (Basic (StringOne t))) → At AnyField
    more-keys y other apart = any-key (λ key single.
        apart (subst (λ (w : Shape). InBasic w (StringOne t)) (sym ((single.1 y other.0).0 other.1)) (sym (texts-same t key ((single.1 (Str t) found.0).0 found.1)))))

  -- a shape that is no string
  not-text : (y : Shape) → IsShapeOf env k y → ((key : Text) → ¬ (y ≡ Str key)) → At AnyField
  not-text y other apart = any-key (λ key single. apart key ((single.1 y other.0).0 other.1))

  -- no shape
  pub none-told : IsEmpty env k → At AnyField
  none-told empty = any-key (λ key single. empty (Str key) single.0 ((single.1 (Str key) single.0).1 refl))

  -- ---- as calls tell

  pub keys-told : (t : Text) → HasString env k t → (a : Answer) (keys : Option Keys) → AnswersSub env k (Basic (StringOne t)) a → IsKeyBy t a keys → AreKeysOf env k keys
  keys-told t found Yes keys sub e = subst (AreKeysOf env k) (sym e) (one-key t found sub)
  keys-told t found (No y) keys other e = subst (AreKeysOf env k) (sym e) (more-keys t found y other.0 other.1)

  pub other-told : (y : Shape) → IsShapeOf env k y → ((key : Text) → ¬ (y ≡ Str key)) → AreKeysOf env k (Some AnyField)
  other-told y found apart = not-text y found apart

  -- ---- needs of members

  never-in : (x : Shape) → InBasic x Never → ⊥
  never-in Nil h = h
  never-in x h = h

  pub none-has-told : (m v : SemType) → ((m : SemType) (x : Shape) → ¬ (StandsAtKey env m k x)) → (r : Result Answer (Stop TypeLimit)) → IfOk r (AnswersSub env v (Basic Never)) → IfOk r (Answers env (MemberHas m k v))
  none-has-told m v none (Ok Yes) h = λ x i. absurd (never-in x (h x i.0 i.1))
  none-has-told m v none (Ok (No x)) h = ((h.0, (λ s. none m x s)), (λ met. none m x (met x h.0)))
  none-has-told m v none (Err e) h = tt

  -- ---- questions about what stands there

  -- where nothing stands, no shape is the type
  pub never-leads : (m v : SemType) → ((m : SemType) (x : Shape) → ¬ (StandsAtKey env m k x)) → AsksOfPart env m (StandsAtKey env m k) v (Without v (Basic Never))
  never-leads m v none = inr (Basic Never, (tt, (λ x w. ((λ i. absurd (never-in x i)), (λ s. absurd (none m x s))))), refl)
