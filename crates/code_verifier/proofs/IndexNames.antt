-- Which indexes a type of ints names.
use Rattle.std.proofs.Common.{◌≡◌, ◌∙◌, ℕ, ℤ, pos, negsuc, List, inl, inr, refl, sym, ap, subst}
use Rattle.bal_base.specs.declared.shape.Shape.{Shape, Int}
use Rattle.operations.specs.declared.operation.Constant.TheVariants as constant
use Rattle.operations.specs.Rows.{IsSingleIndex, NamesIndex, StandsAtIndex}
use Rattle.type_model.specs.declared.answers.Answer.{Answer}
use Rattle.type_model.specs.declared.answers.Answer.TheVariants.{Yes, No}
use Rattle.type_model.specs.declared.answers.Keys.{Keys}
use Rattle.type_model.specs.declared.answers.Keys.TheVariants.{AnyIndex, Index}
use Rattle.type_model.specs.declared.atoms.AtomDef.{AtomDef}
use Rattle.type_model.specs.declared.basic.BasicSet.TheVariants.{IntRange}
use Rattle.type_model.specs.declared.basic.SemType.{SemType, Basic}
use Rattle.type_model.specs.Basic.{InBasic}
use Rattle.type_model.specs.Inclusion.{AnswersSub, IsEmpty, IsShapeOf, Sub}
use Rattle.type_model.specs.Membership.{In}
use Rattle.type_model.specs.Parts.{StandsAt}
use Rattle.code_verifier.specs.Indexed.{AreIndexesOf, IsIndexBy}
use Rattle.code_verifier.proofs.KindShapes.{constant-back, constant-own}

module _ (env : List AtomDef) (i : SemType) where
  abbrev At : Keys → Type 0
  At keys = AreIndexesOf env i keys

  -- no index is its single one
  any-index : ((n : ℕ) → ¬ (IsSingleIndex env i n)) → At AnyIndex
  any-index none l x = (so, (λ h. (AnyIndex, inr (none, refl), h)))
    where
      by : (keys : Keys) → NamesIndex env i keys → StandsAt env l keys x → StandsAt env l AnyIndex x
      by keys (inl (n, single, e)) h = absurd (none n single)
      by keys (inr (others, e)) h = subst (λ (w : Keys). StandsAt env l w x) e h

      so : StandsAtIndex env l i x → StandsAt env l AnyIndex x
      so (keys, named, h) = by keys named h

  -- a shape that is no int from 0 on
  no-index : (y : Shape) → IsShapeOf env i y → ((n : ℕ) → ¬ (y ≡ Int (pos n))) → At AnyIndex
  no-index y other apart = any-index (λ n single. apart n ((single.1 y other.0).0 other.1))

  same-number : (m n : ℕ) → Int (pos m) ≡ Int (pos n) → m ≡ n
  same-number m n e = cc

  module _ (n : ℕ) (found : IsShapeOf env i (Int (pos n))) where
    one-index : Sub env i (Basic (IntRange (pos n) (pos n))) → At (Index n)
    one-index sub l x = (so, (λ h. (Index n, inl (n, single, refl), h)))
      where
        single : IsSingleIndex env i n
        single = (found.0, (λ y v. ((λ h. constant-back (constant.Int (pos n)) y (sub y v h)), (λ e. subst (λ (w : Shape). In env w i) (sym e) found.1))))

        by : (keys : Keys) → NamesIndex env i keys → StandsAt env l keys x → StandsAt env l (Index n) x
        by keys (inl (m, alone, e)) h = subst (λ (w : Keys). StandsAt env l w x) (e ∙ ap (λ (k : ℕ). Index k) (sym (same-number n m ((alone.1 (Int (pos n)) found.0).0 found.1)))) h
        by keys (inr (none, e)) h = absurd (none n single)

        so : StandsAtIndex env l i x → StandsAt env l (Index n) x
        so (keys, named, h) = by keys named h

  -- two shapes, of which one is an int alone
  more-indexes : (n : ℤ) → IsShapeOf env i (Int n) → (y : Shape) → IsShapeOf env i y → ¬ (In env y (Basic (IntRange n n))) → At AnyIndex
  more-indexes n found y other apart = any-index (λ m single.
      apart (constant-in n y ((single.1 y other.0).0 other.1 ∙ sym ((single.1 (Int n) found.0).0 found.1))))
    where
      constant-in : (n : ℤ) (y : Shape) → y ≡ Int n → InBasic y (IntRange n n)
      constant-in n y e = subst (λ (w : Shape). InBasic w (IntRange n n)) (sym e) (constant-own (constant.Int n))

  -- ---- as calls tell

  pub indexes-told : (n : ℤ) → IsShapeOf env i (Int n) → (a : Answer) (keys : Keys) → AnswersSub env i (Basic (IntRange n n)) a → IsIndexBy n a keys → At keys
  indexes-told (pos n) found Yes keys sub e = subst At (sym e) (one-index n found sub)
  indexes-told (negsuc n) found Yes keys sub e = subst At (sym e) (no-index (Int (negsuc n)) found (λ m same. absurd (cc)))
  indexes-told n found (No y) keys other e = subst At (sym e) (more-indexes n found y other.0 other.1)

  -- a shape that is no int
  pub other-told : (y : Shape) → IsShapeOf env i y → ((n : ℤ) → ¬ (y ≡ Int n)) → At AnyIndex
  other-told y found apart = no-index y found (λ n. apart (pos n))

  -- no shape
  pub none-told : IsEmpty env i → At AnyIndex
  none-told empty = any-index (λ n single. empty (Int (pos n)) single.0 ((single.1 (Int (pos n)) single.0).1 refl))
