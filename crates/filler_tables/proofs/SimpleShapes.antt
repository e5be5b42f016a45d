-- What a shape of a type, and what is told of its kind, say of its simple filler.
use Rattle.std.proofs.Common.{◌≡◌, ◌∙◌, ℤ, pos, Bool, true, false, List, [], Option, Some, None, inl, inr, refl, sym, subst}
use Rattle.std.proofs.lemmas.Bool.{false≢true}
use Rattle.bal_base.specs.declared.text.Text.{Text}
use Rattle.bal_base.specs.declared.shape.Shape.{Shape, Nil as NilShape, Bool as BoolShape, Int as IntShape, Str as StrShape, List', Mapping', Error', Function, Future'}
use Rattle.type_model.specs.Basic.{InBasic}
use Rattle.type_model.specs.Calls.{Asked}
use Rattle.type_model.specs.Inclusion.{FindsShape, IsEmpty, IsShapeOf, Sub}
use Rattle.type_model.specs.Membership.{In}
use Rattle.type_model.specs.declared.atoms.AtomDef.{AtomDef}
use Rattle.type_model.specs.declared.basic.BasicSet.{BasicSet}
use Rattle.type_model.specs.declared.basic.BasicSet.TheVariants as set
use Rattle.type_model.specs.declared.basic.SemType.{SemType, Basic}
use Rattle.code_verifier.specs.Deciding.{DecidesSub}
use Rattle.code_verifier.specs.KindSets.{all_ints}
use Rattle.value_model.specs.declared.filler.Filler.{Filler}
use Rattle.value_model.specs.declared.filler.Filler.TheVariants.{Nothing, Nil, Bool as Truth, Int, Str, List as NewList, Mapping as NewMapping}
use Rattle.value_model.specs.Exact.{IsOnly, IsSimpleFiller}
use Rattle.filler_tables.specs.declared.simple.Simple.TheVariants.{Filled, Shapeless, Unfilled}
use Rattle.filler_tables.specs.declared.values.Kind.{Kind}
use Rattle.filler_tables.specs.declared.values.Sample.TheVariants.{Empty, Other, Value}
use Rattle.filler_tables.specs.Asked.{AsksShape, AsksValue}
use Rattle.filler_tables.specs.Values.{IsBooleans, IsKindOf, alone_of, sample_of, sample_of_shape}
use Rattle.filler_tables.specs.inner.Telling.{IsAmong, IsSimple, LacksNil}
use Rattle.filler_tables.proofs.ValueKinds.{HasBools, HasInts, HasTexts, bools-so, in-bool, in-nil, in-range, in-text, ints-so, range-has, texts-so, zero-valid}

value-of : (f g : Filler) → Value f ≡ Value g → f ≡ g
value-of f g e = cc

not-other : (f : Filler) → Other ≡ Value f → ⊥
not-other f e = cc

not-value : (f : Filler) → Value f ≡ Other → ⊥
not-value f e = cc

bool-no-int : (b : Bool) (i : ℤ) → BoolShape b ≡ IntShape i → ⊥
bool-no-int b i e = cc

bool-no-text : (b : Bool) (s : Text) → BoolShape b ≡ StrShape s → ⊥
bool-no-text b s e = cc

int-no-text : (i : ℤ) (s : Text) → IntShape i ≡ StrShape s → ⊥
int-no-text i s e = cc

not-empty : (x : Shape) → Empty ≡ sample_of_shape x → ⊥
not-empty NilShape e = cc
not-empty (BoolShape b) e = cc
not-empty (IntShape i) e = cc
not-empty (StrShape s) e = cc
not-empty (List' m _ xs) e = cc
not-empty (Mapping' m _ xs) e = cc
not-empty (Error' _ d) e = cc
not-empty (Function i g) e = cc
not-empty (Future' _ xs) e = cc

module _ (env : List AtomDef) (t : SemType) where
  -- ---- none

  abbrev NoneAlone : Type 0
  NoneAlone = ((b : Bool) → ¬ IsOnly env t (BoolShape b)) × ((i : ℤ) → ¬ IsOnly env t (IntShape i)) × ((s : Text) → ¬ IsOnly env t (StrShape s))

  none-by : LacksNil env t → NoneAlone → ¬ HasBools env t → ¬ HasInts env t → ¬ HasTexts env t → (f : Filler) → ¬ IsSimpleFiller env t f
  none-by lacks alone bools ints texts Nothing h = h
  none-by lacks alone bools ints texts Nil h = lacks h
  none-by lacks alone bools ints texts (Truth b) (inl only) = alone.0 b only
  none-by lacks alone bools ints texts (Truth b) (inr h) = bools h.1
  none-by lacks alone bools ints texts (Int i) (inl only) = alone.1 i only
  none-by lacks alone bools ints texts (Int i) (inr h) = ints h.1
  none-by lacks alone bools ints texts (Str s) (inl only) = alone.2 s only
  none-by lacks alone bools ints texts (Str s) (inr h) = texts h.1
  none-by lacks alone bools ints texts (NewList a) h = h
  none-by lacks alone bools ints texts (NewMapping a) h = h

  pub empty-none : IsEmpty env t → (f : Filler) → ¬ IsSimpleFiller env t f
  empty-none empty = none-by (λ i. empty NilShape tt i) ((λ b o. empty (BoolShape b) o.0.0 o.0.1), (λ i o. empty (IntShape i) o.0.0 o.0.1), (λ s o. empty (StrShape s) o.0.0 o.0.1))
      (λ h. empty (BoolShape false) tt h.1) (λ h. empty (IntShape (pos 0)) zero-valid h.1) (λ h. empty (StrShape []) refl h.1)

  module _ (x : Shape) (is : IsShapeOf env t x) where
    -- a shape of one kind is of no other
    no-bools : ((c : Bool) → x ≡ BoolShape c → ⊥) → ¬ HasBools env t
    no-bools apart h = let p = h.0 x is in apart p.0 p.1

    no-ints : ((j : ℤ) → x ≡ IntShape j → ⊥) → ¬ HasInts env t
    no-ints apart h = let p = h.0 x is in apart p.0 p.1

    no-texts : ((u : Text) → x ≡ StrShape u → ⊥) → ¬ HasTexts env t
    no-texts apart h = let p = h.0 x is in apart p.0 p.1

    -- it is no other than the one
    itself-alone : (s : Shape) → IsOnly env t s → x ≡ s
    itself-alone s only = (only.1 x is.0).0 is.1

    none-other : LacksNil env t → ((c : Bool) → x ≡ BoolShape c → ⊥) → ((j : ℤ) → x ≡ IntShape j → ⊥) → ((u : Text) → x ≡ StrShape u → ⊥) → (f : Filler) → ¬ IsSimpleFiller env t f
    none-other lacks bool int text =
        none-by lacks ((λ b o. bool b (itself-alone (BoolShape b) o)), (λ i o. int i (itself-alone (IntShape i) o)), (λ s o. text s (itself-alone (StrShape s) o))) (no-bools bool) (no-ints int) (no-texts text)

    -- where it isn't alone, none is
    not-alone : (set : BasicSet) → InBasic x set → ¬ Sub env t (Basic set) → (s : Shape) → ¬ IsOnly env t s
    not-alone set in-set others s only = others (λ y v i. subst (λ z. InBasic z set) (itself-alone s only ∙ sym ((only.1 y v).0 i)) in-set)

    all-not-alone : (set : BasicSet) → InBasic x set → ¬ Sub env t (Basic set) → NoneAlone
    all-not-alone set in-set others = ((λ b. not-alone set in-set others (BoolShape b)), (λ i. not-alone set in-set others (IntShape i)), (λ s. not-alone set in-set others (StrShape s)))

    -- where it is alone, it fills
    is-only : (set : BasicSet) → ((y : Shape) → InBasic y set → y ≡ x) → Sub env t (Basic set) → IsOnly env t x
    is-only set one sub = (is, (λ y v. ((λ i. one y (sub y v i)), (λ e. subst (λ z. In env z t) (sym e) is.1))))

  -- ---- by cases on the shape

  alone-fills : (x : Shape) → IsShapeOf env t x → (own : Filler) → sample_of_shape x ≡ Value own → LacksNil env t → Sub env t (Basic (alone_of own)) → IsSimpleFiller env t own
  alone-fills NilShape is own e lacks sub = absurd (lacks is.1)
  alone-fills (BoolShape b) is own e lacks sub =
      let f = value-of (Truth b) own e in
      subst (IsSimpleFiller env t) f (inl (is-only (BoolShape b) is (set.Bool b) (in-bool b) (subst (λ (g : Filler). Sub env t (Basic (alone_of g))) (sym f) sub)))
  alone-fills (IntShape i) is own e lacks sub =
      let f = value-of (Int i) own e in
      subst (IsSimpleFiller env t) f (inl (is-only (IntShape i) is (set.IntRange i i) (in-range i) (subst (λ (g : Filler). Sub env t (Basic (alone_of g))) (sym f) sub)))
  alone-fills (StrShape s) is own e lacks sub =
      let f = value-of (Str s) own e in
      subst (IsSimpleFiller env t) f (inl (is-only (StrShape s) is (set.StringOne s) (in-text s) (subst (λ (g : Filler). Sub env t (Basic (alone_of g))) (sym f) sub)))
  alone-fills (List' m _ xs) is own e lacks sub = absurd (not-other own e)
  alone-fills (Mapping' m _ xs) is own e lacks sub = absurd (not-other own e)
  alone-fills (Error' _ d) is own e lacks sub = absurd (not-other own e)
  alone-fills (Function i g) is own e lacks sub = absurd (not-other own e)
  alone-fills (Future' _ xs) is own e lacks sub = absurd (not-other own e)

  -- the first of its kind, where all are of the kind and that is one of them, and else none
  abbrev FirstOrNone : SemType → Filler → Type 0
  FirstOrNone whole first =
      (Sub env t whole × Sub env (Basic (alone_of first)) t → IsSimpleFiller env t first)
      × (¬ (Sub env t whole × Sub env (Basic (alone_of first)) t) → (f : Filler) → ¬ IsSimpleFiller env t f)

  abbrev Beside : Filler → Type 0
  Beside own = (k : Kind) → IsKindOf own k → ¬ Sub env t (Basic (alone_of own)) → FirstOrNone k.whole k.first

  bools-first : LacksNil env t → (b : Bool) → IsShapeOf env t (BoolShape b) → (whole : SemType) → IsBooleans whole → ¬ Sub env t (Basic (set.Bool b)) → FirstOrNone whole (Truth false)
  bools-first lacks b is whole of others = (
    (λ h. inr (refl, (bools-so env t whole of).0 h)),
    (λ no. none-by lacks (all-not-alone (BoolShape b) is (set.Bool b) refl others) (λ h. no ((bools-so env t whole of).1 h))
        (no-ints (BoolShape b) is (λ j e. bool-no-int b j e)) (no-texts (BoolShape b) is (λ u e. bool-no-text b u e))),
  )

  ints-first : LacksNil env t → (i : ℤ) → IsShapeOf env t (IntShape i) → ¬ Sub env t (Basic (set.IntRange i i)) → FirstOrNone (Basic all_ints) (Int (pos 0))
  ints-first lacks i is others = (
    (λ h. inr (refl, (ints-so env t).0 h)),
    (λ no. none-by lacks (all-not-alone (IntShape i) is (set.IntRange i i) (range-has i) others) (no-bools (IntShape i) is (λ c e. bool-no-int c i (sym e)))
        (λ h. no ((ints-so env t).1 h)) (no-texts (IntShape i) is (λ u e. int-no-text i u e))),
  )

  texts-first : LacksNil env t → (s : Text) → IsShapeOf env t (StrShape s) → ¬ Sub env t (Basic (set.StringOne s)) → FirstOrNone (Basic set.StringAll) (Str [])
  texts-first lacks s is others = (
    (λ h. inr (refl, (texts-so env t).0 h)),
    (λ no. none-by lacks (all-not-alone (StrShape s) is (set.StringOne s) refl others) (no-bools (StrShape s) is (λ c e. bool-no-text c s (sym e)))
        (no-ints (StrShape s) is (λ j e. int-no-text j s (sym e))) (λ h. no ((texts-so env t).1 h))),
  )

  told-of : (whole whole' : SemType) (first first' : Filler) → whole' ≡ whole → first' ≡ first → FirstOrNone whole first → FirstOrNone whole' first'
  told-of whole whole' first first' e f h = subst (λ (w : SemType). FirstOrNone w first') (sym e) (subst (FirstOrNone whole) (sym f) h)

  beside : (x : Shape) → IsShapeOf env t x → (own : Filler) → sample_of_shape x ≡ Value own → LacksNil env t → Beside own
  beside NilShape is own e lacks = absurd (lacks is.1)
  beside (BoolShape b) is own e lacks = subst Beside (value-of (Truth b) own e) (λ k of others. told-of k.whole k.whole (Truth false) k.first refl of.1 (bools-first lacks b is k.whole of.0 others))
  beside (IntShape i) is own e lacks = subst Beside (value-of (Int i) own e) (λ k of others. told-of (Basic all_ints) k.whole (Int (pos 0)) k.first of.0 of.1 (ints-first lacks i is others))
  beside (StrShape s) is own e lacks = subst Beside (value-of (Str s) own e) (λ k of others. told-of (Basic set.StringAll) k.whole (Str []) k.first of.0 of.1 (texts-first lacks s is others))
  beside (List' m _ xs) is own e lacks = absurd (not-other own e)
  beside (Mapping' m _ xs) is own e lacks = absurd (not-other own e)
  beside (Error' _ d) is own e lacks = absurd (not-other own e)
  beside (Function i g) is own e lacks = absurd (not-other own e)
  beside (Future' _ xs) is own e lacks = absurd (not-other own e)

  others-none : (x : Shape) → IsShapeOf env t x → sample_of_shape x ≡ Other → LacksNil env t → (f : Filler) → ¬ IsSimpleFiller env t f
  others-none x is e lacks =
      none-other x is lacks (λ c f. not-value (Truth c) (subst (λ y. sample_of_shape y ≡ Other) f e)) (λ j f. not-value (Int j) (subst (λ y. sample_of_shape y ≡ Other) f e))
      (λ u f. not-value (Str u) (subst (λ y. sample_of_shape y ≡ Other) f e))

-- ---- what calls answer

module _ (env : List AtomDef) (t : SemType) where
  pub lacks-nil : (b : Bool) → b ≡ false → DecidesSub env (Basic set.Nil) t b → LacksNil env t
  lacks-nil b e h i = false≢true (sym e ∙ h.1 (λ x v n. subst (λ y. In env y t) (sym (in-nil x n)) i))

  pub alone-simple : (x : Shape) → IsShapeOf env t x → (own f : Filler) → sample_of_shape x ≡ Value own → LacksNil env t → f ≡ own → (set : BasicSet) → set ≡ alone_of own → (b : Bool) → b ≡ true → DecidesSub env t (Basic set) b → IsSimple env t (Filled f)
  alone-simple x is own f e lacks same set is-set b told h =
      subst (λ (g : Filler). IsSimple env t (Filled g)) (sym same) (alone-fills env t x is own e lacks (subst (λ (s : BasicSet). Sub env t (Basic s)) is-set (h.0 told)))

  pub others-too : (set : SemType) (b : Bool) → b ≡ false → DecidesSub env t set b → ¬ Sub env t set
  others-too set b told h sub = false≢true (sym told ∙ h.1 sub)

  pub first-simple : (x : Shape) → IsShapeOf env t x → (own f : Filler) → sample_of_shape x ≡ Value own → LacksNil env t → (k : Kind) → IsKindOf own k → ¬ Sub env t (Basic (alone_of own)) → f ≡ k.first → (b : Bool) → b ≡ true → IsAmong env t k b → IsSimple env t (Filled f)
  first-simple x is own f e lacks k of others same b told among = subst (λ (g : Filler). IsSimple env t (Filled g)) (sym same) ((beside env t x is own e lacks k of others).0 (among.0 told))

  pub none-simple : (x : Shape) → IsShapeOf env t x → (own : Filler) → sample_of_shape x ≡ Value own → LacksNil env t → (k : Kind) → IsKindOf own k → ¬ Sub env t (Basic (alone_of own)) → (b : Bool) → b ≡ false → IsAmong env t k b → IsSimple env t Unfilled
  none-simple x is own e lacks k of others b told among = ((beside env t x is own e lacks k of others).1 (λ h. false≢true (sym told ∙ among.1 h)), (x, is))

  -- of what was found
  pub value-found : (found : Option Shape) → FindsShape env t found → (own : Filler) → Value own ≡ sample_of found → (x : Shape) × IsShapeOf env t x × (sample_of_shape x ≡ Value own)
  value-found (Some x) is own e = (x, is, sym e)
  value-found None is own e = absurd (let bad : ⊥ = cc in bad)

  pub other-found : (found : Option Shape) → FindsShape env t found → Other ≡ sample_of found → LacksNil env t → IsSimple env t Unfilled
  other-found (Some x) is e lacks = (others-none env t x is (sym e) lacks, (x, is))
  other-found None is e lacks = absurd (let bad : ⊥ = cc in bad)

  pub empty-found : (found : Option Shape) → FindsShape env t found → Empty ≡ sample_of found → IsSimple env t Shapeless
  empty-found (Some x) is e = absurd (not-empty x e)
  empty-found None is e = is

  -- questions about what was found
  pub asks-shape : (found : Option Shape) → FindsShape env t found → (own : Filler) → Value own ≡ sample_of found → (asked : Asked) → AsksValue t own asked → AsksShape env t asked
  asks-shape found is own e asked asks = let (x, of, at) = value-found found is own e in inr (x, own, of, at, asks)
