-- Simple values and their kinds as sets of shapes.
use Rattle.std.proofs.Common.{◌≡◌, ◌⊎◌, ◌↔◌, ℤ, pos, Bool, true, false, List, [], inl, inr, refl, sym, subst, arith}
use Rattle.std.proofs.lemmas.Int.{ints}
use Rattle.bal_base.specs.Valid.{IsValid}
use Rattle.bal_base.specs.declared.text.Text.{Text}
use Rattle.bal_base.specs.declared.shape.Shape.{Shape, Nil as NilShape, Bool as BoolShape, Int as IntShape, Str as StrShape, List', Mapping', Error', Function, Future'}
use Rattle.type_model.specs.Basic.{InBasic}
use Rattle.type_model.specs.Inclusion.{HasExactly, Sub}
use Rattle.type_model.specs.Membership.{In}
use Rattle.type_model.specs.declared.atoms.AtomDef.{AtomDef}
use Rattle.type_model.specs.declared.basic.BasicSet.{BasicSet}
use Rattle.type_model.specs.declared.basic.BasicSet.TheVariants as set
use Rattle.type_model.specs.declared.basic.SemType.{SemType, Basic, Atom, Or', And', Not'}
use Rattle.code_verifier.specs.KindSets.{all_ints}
use Rattle.value_model.specs.Exact.{HasAmong}
use Rattle.filler_tables.specs.Values.{IsBooleans}

-- ---- one value alone

pub in-nil : (x : Shape) → InBasic x set.Nil → x ≡ NilShape
in-nil NilShape h = refl
in-nil x h = absurd h

pub in-bool : (b : Bool) (x : Shape) → InBasic x (set.Bool b) → x ≡ BoolShape b
in-bool b (BoolShape c) h = cc
in-bool b x h = absurd h

pub in-range : (i : ℤ) (x : Shape) → InBasic x (set.IntRange i i) → x ≡ IntShape i
in-range i (IntShape j) h = let e : j ≡ i = omega (arith, ints, h.0, h.1) in cc
in-range i x h = absurd h

pub range-has : (i : ℤ) → InBasic (IntShape i) (set.IntRange i i)
range-has i = (omega (arith, ints), omega (arith, ints))

pub in-text : (s : Text) (x : Shape) → InBasic x (set.StringOne s) → x ≡ StrShape s
in-text s (StrShape u) h = cc
in-text s x h = absurd h

-- ---- kinds

pub zero-valid : IsValid (IntShape (pos 0))
zero-valid = (omega (arith, ints), omega (arith, ints))

module _ (env : List AtomDef) where
  bools-exactly : (s : SemType) → IsBooleans s → HasExactly env s (λ x. (c : Bool) × (x ≡ BoolShape c))
  bools-exactly (Or' _ s _ t) (first, second) x v = (so, back)
    where
      so : In env x s ⊎ In env x t → (c : Bool) × (x ≡ BoolShape c)
      so (inl h) = (true, in-bool true x (subst (λ (u : SemType). In env x u) first h))
      so (inr h) = (false, in-bool false x (subst (λ (u : SemType). In env x u) second h))

      back : (c : Bool) × (x ≡ BoolShape c) → In env x s ⊎ In env x t
      back (true, e) = inl (subst (λ (u : SemType). In env x u) (sym first) (subst (λ y. InBasic y (set.Bool true)) (sym e) refl))
      back (false, e) = inr (subst (λ (u : SemType). In env x u) (sym second) (subst (λ y. InBasic y (set.Bool false)) (sym e) refl))
  bools-exactly (Basic b) h x v = absurd h
  bools-exactly (Atom a) h x v = absurd h
  bools-exactly (And' _ s _ t) h x v = absurd h
  bools-exactly (Not' _ t) h x v = absurd h

  ints-exactly : HasExactly env (Basic all_ints) (λ x. (j : ℤ) × (x ≡ IntShape j))
  ints-exactly (IntShape i) v = ((λ h. (i, refl)), (λ p. (v.0, v.1)))
  ints-exactly NilShape v = ((λ h. absurd h), (λ p. absurd (cc)))
  ints-exactly (BoolShape b) v = ((λ h. absurd h), (λ p. absurd (cc)))
  ints-exactly (StrShape t) v = ((λ h. absurd h), (λ p. absurd (cc)))
  ints-exactly (List' m _ xs) v = ((λ h. absurd h), (λ p. absurd (cc)))
  ints-exactly (Mapping' m _ xs) v = ((λ h. absurd h), (λ p. absurd (cc)))
  ints-exactly (Error' _ d) v = ((λ h. absurd h), (λ p. absurd (cc)))
  ints-exactly (Function i g) v = ((λ h. absurd h), (λ p. absurd (cc)))
  ints-exactly (Future' _ xs) v = ((λ h. absurd h), (λ p. absurd (cc)))

  texts-exactly : HasExactly env (Basic set.StringAll) (λ x. (u : Text) × (x ≡ StrShape u))
  texts-exactly (StrShape t) v = ((λ h. (t, refl)), (λ p. tt))
  texts-exactly (IntShape i) v = ((λ h. absurd h), (λ p. absurd (cc)))
  texts-exactly NilShape v = ((λ h. absurd h), (λ p. absurd (cc)))
  texts-exactly (BoolShape b) v = ((λ h. absurd h), (λ p. absurd (cc)))
  texts-exactly (List' m _ xs) v = ((λ h. absurd h), (λ p. absurd (cc)))
  texts-exactly (Mapping' m _ xs) v = ((λ h. absurd h), (λ p. absurd (cc)))
  texts-exactly (Error' _ d) v = ((λ h. absurd h), (λ p. absurd (cc)))
  texts-exactly (Function i g) v = ((λ h. absurd h), (λ p. absurd (cc)))
  texts-exactly (Future' _ xs) v = ((λ h. absurd h), (λ p. absurd (cc)))

  -- what answers about a kind and its first value say
  module _ (t whole : SemType) (first : BasicSet) (Kind : Shape → Type 0) (s : Shape) (exactly : HasExactly env whole Kind) (valid : IsValid s) (one : (x : Shape) → InBasic x first → x ≡ s) (in-first : InBasic s first) where
    among-of : Sub env t whole → Sub env (Basic first) t → HasAmong env Kind t s
    among-of within has = ((λ x is. (exactly x is.0).0 (within x is.0 is.1)), has s valid in-first)

    within-of : HasAmong env Kind t s → Sub env t whole
    within-of (all, there) = λ x v i. (exactly x v).1 (all x (v, i))

    has-of : HasAmong env Kind t s → Sub env (Basic first) t
    has-of (all, there) = λ x v i. subst (λ y. In env y t) (sym (one x i)) there

  module _ (t : SemType) where
    abbrev pub HasBools : Type 0
    HasBools = HasAmong env (λ x. (c : Bool) × (x ≡ BoolShape c)) t (BoolShape false)

    abbrev pub HasInts : Type 0
    HasInts = HasAmong env (λ x. (j : ℤ) × (x ≡ IntShape j)) t (IntShape (pos 0))

    abbrev pub HasTexts : Type 0
    HasTexts = HasAmong env (λ x. (u : Text) × (x ≡ StrShape u)) t (StrShape [])

    pub bools-so : (s : SemType) → IsBooleans s → (Sub env t s × Sub env (Basic (set.Bool false)) t) ↔ HasBools
    bools-so s is = (
      (λ h. among-of t s (set.Bool false) _ (BoolShape false) (bools-exactly s is) tt (in-bool false) refl h.0 h.1),
      (λ h. (within-of t s (set.Bool false) _ (BoolShape false) (bools-exactly s is) tt (in-bool false) refl h, has-of t s (set.Bool false) _ (BoolShape false) (bools-exactly s is) tt (in-bool false) refl h)),
    )

    pub ints-so : (Sub env t (Basic all_ints) × Sub env (Basic (set.IntRange (pos 0) (pos 0))) t) ↔ HasInts
    ints-so = (
      (λ h. among-of t (Basic all_ints) (set.IntRange (pos 0) (pos 0)) _ (IntShape (pos 0)) ints-exactly zero-valid (in-range (pos 0)) (range-has (pos 0)) h.0 h.1),
      (λ h. (
        within-of t (Basic all_ints) (set.IntRange (pos 0) (pos 0)) _ (IntShape (pos 0)) ints-exactly zero-valid (in-range (pos 0)) (range-has (pos 0)) h,
        has-of t (Basic all_ints) (set.IntRange (pos 0) (pos 0)) _ (IntShape (pos 0)) ints-exactly zero-valid (in-range (pos 0)) (range-has (pos 0)) h,
      )),
    )

    pub texts-so : (Sub env t (Basic set.StringAll) × Sub env (Basic (set.StringOne [])) t) ↔ HasTexts
    texts-so = (
      (λ h. among-of t (Basic set.StringAll) (set.StringOne []) _ (StrShape []) texts-exactly refl (in-text []) refl h.0 h.1),
      (λ h. (
        within-of t (Basic set.StringAll) (set.StringOne []) _ (StrShape []) texts-exactly refl (in-text []) refl h,
        has-of t (Basic set.StringAll) (set.StringOne []) _ (StrShape []) texts-exactly refl (in-text []) refl h,
      )),
    )
