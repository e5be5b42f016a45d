-- From the shapes that are looked for inside immutable structures to those of structures, errors and all values.
use Rattle.std.proofs.Common.{◌≡◌, ◌↔◌, ℕ, IsTrue, Option, Some, None, IsSomeAnd, length, slice_get, option_and_then, option_map, refl, sym, subst, ◌∙◌, arith}
use Rattle.std.specs.Prelude.{IsFalse, if◌then◌else◌}
use Rattle.bal_base.specs.declared.shape.Shape.{Shape, Nil as NilShape, Bool as BoolShape, Int as IntShape, Str as StrShape, List', Mapping', Error', Function as FunctionShape, Future', items-the_row-Fields-items-2 as fields_in}
use Rattle.bal_base.specs.Same.{IsSame}
use Rattle.bal_base.specs.Valid.{IsFrozen, IsMarkedMapping, IsValid}
use Rattle.value_model.specs.declared.value.Value.{Value}
use Rattle.value_model.specs.declared.value.Value.TheVariants.{Struct, Error}
use Rattle.value_model.specs.Heap.{Heap, ErrorObject, Structure, Members}
use Rattle.value_model.specs.Stands.{HasShape, HaveShapes, HaveFields, IsList, IsMapping}
use Rattle.plain_tests.specs.Shapes.{Finds, FindsError, FindsShape, IsHeld, IsInner, IsOfDetail, IsWithDetail, detail_at, frozen_at, frozen_in}
use Rattle.plain_tests.proofs.FewLevels.{few-levels}
use Rattle.value_model.proofs.OneShape.{one}

module _ (h : Heap) where
  -- ---- structures

  is-frozen : (P : Members → Type 0) (o : Option Structure) (q : Option Members) → option_and_then frozen_in o ≡ q → IsSomeAnd o (λ s. IsFalse s.mutable × P s.members) → IsSomeAnd q P
  is-frozen P None q e p = absurd p
  is-frozen P (Some s) q e p = subst (λ q. IsSomeAnd q P) e (subst (λ b. IsSomeAnd (if b then None else Some s.members) P) (sym p.0) p.1)

  pub has_held : (n : ℕ) (o : Option Members) → frozen_at h n ≡ o → (x : Shape) → HasShape h x (Struct n) → IsSomeAnd o (λ m. IsHeld h m x)
  has_held n o at NilShape has = cc
  has_held n o at (BoolShape b) has = cc
  has_held n o at (IntShape i) has = cc
  has_held n o at (StrShape t) has = cc
  has_held n o at (List' mark _ items) has = both-of o (is-frozen (IsList h (HaveShapes h items)) (slice_get h.structures n) o at has.1)
    where
      both-of : (o : Option Members) → IsSomeAnd o (IsList h (HaveShapes h items)) → IsSomeAnd o (λ m. IsTrue mark × IsList h (HaveShapes h items) m)
      both-of (Some m) p = (has.0, p)
      both-of None p = p
  has_held n o at (Mapping' mark _ fields) has =
      both-of o (is-frozen (IsMapping h (λ es. (length es ≡ length (fields_in _ fields)) × HaveFields h fields es)) (slice_get h.structures n) o at has.1)
    where
      both-of : (o : Option Members) → IsSomeAnd o (IsMapping h (λ es. (length es ≡ length (fields_in _ fields)) × HaveFields h fields es)) → IsSomeAnd o (λ m. IsTrue mark × IsMapping h (λ es. (length es ≡ length (fields_in _ fields)) × HaveFields h fields es) m)
      both-of (Some m) p = (has.0, p)
      both-of None p = p
  has_held n o at (Error' _ detail) has = absurd has
  has_held n o at (FunctionShape isolated graph) has = absurd has
  has_held n o at (Future' _ results) has = absurd has

  -- ---- errors

  marked-frozen : (x : Shape) → IsMarkedMapping x → IsFrozen x
  marked-frozen (Mapping' mark _ fields) is = is
  marked-frozen x is = absurd is

  same-marked : (x y : Shape) → IsSame x y → IsMarkedMapping y → IsMarkedMapping x
  same-marked (Mapping' mark _ fields) (Mapping' mark' _ fields') same is = same.0 ∙ is
  same-marked (Mapping' mark _ fields) y same is = absurd same
  same-marked NilShape NilShape same is = is
  same-marked NilShape y same is = absurd same
  same-marked (BoolShape b) (BoolShape c) same is = is
  same-marked (BoolShape b) y same is = absurd same
  same-marked (IntShape i) (IntShape j) same is = is
  same-marked (IntShape i) y same is = absurd same
  same-marked (StrShape s) (StrShape t) same is = is
  same-marked (StrShape s) y same is = absurd same
  same-marked (List' mark _ items) (List' mark' _ items') same is = is
  same-marked (List' mark _ items) y same is = absurd same
  same-marked (Error' _ detail) (Error' _ detail') same is = is
  same-marked (Error' _ detail) y same is = absurd same
  same-marked (FunctionShape isolated graph) (FunctionShape isolated' graph') same is = is
  same-marked (FunctionShape isolated graph) y same is = absurd same
  same-marked (Future' _ results) (Future' _ results') same is = is
  same-marked (Future' _ results) y same is = absurd same

  module _ (detail : ℕ) where
    -- its detail has no shape
    pub detail_none : Finds h (length h.structures) (Struct detail) None → FindsError h detail None
    detail_none none NilShape valid of = of
    detail_none none (BoolShape b) valid of = of
    detail_none none (IntShape i) valid of = of
    detail_none none (StrShape t) valid of = of
    detail_none none (List' mark _ items) valid of = of
    detail_none none (Mapping' mark _ fields) valid of = of
    detail_none none (Error' _ x) valid of =
        let inner : IsInner h (Struct detail) x = (valid.1, marked-frozen x valid.0, of) in
        let over = none x inner in
        let few = few-levels h x (Struct detail) inner in
        omega (arith, over, few)
    detail_none none (FunctionShape isolated graph) valid of = of
    detail_none none (Future' _ results) valid of = of

    other-detail : (y : Shape) → IsInner h (Struct detail) y → ¬ IsMarkedMapping y → FindsError h detail None
    other-detail y inner not NilShape valid of = of
    other-detail y inner not (BoolShape b) valid of = of
    other-detail y inner not (IntShape i) valid of = of
    other-detail y inner not (StrShape t) valid of = of
    other-detail y inner not (List' mark _ items) valid of = of
    other-detail y inner not (Mapping' mark _ fields) valid of = of
    other-detail y inner not (Error' _ x) valid of = not (same-marked y x (one h y x (Struct detail) inner.0 valid.1 inner.2 of) valid.0)
    other-detail y inner not (FunctionShape isolated graph) valid of = of
    other-detail y inner not (Future' _ results) valid of = of

    pub with_detail : (y : Shape) (found : Option Shape) → Finds h (length h.structures) (Struct detail) (Some y) → IsWithDetail y found → FindsError h detail found
    with_detail y None inner is = other-detail y inner is
    with_detail y (Some NilShape) inner is = absurd is.1
    with_detail y (Some (BoolShape b)) inner is = absurd is.1
    with_detail y (Some (IntShape i)) inner is = absurd is.1
    with_detail y (Some (StrShape t)) inner is = absurd is.1
    with_detail y (Some (List' mark _ items)) inner is = absurd is.1
    with_detail y (Some (Mapping' mark _ fields)) inner is = absurd is.1
    with_detail y (Some (Error' _ x)) inner is =
        ((subst IsMarkedMapping (sym is.1) is.0, subst IsValid (sym is.1) inner.0), subst (λ z. HasShape h z (Struct detail)) (sym is.1) inner.2)
    with_detail y (Some (FunctionShape isolated graph)) inner is = absurd is.1
    with_detail y (Some (Future' _ results)) inner is = absurd is.1

  details-at : (P : ℕ → Type 0) (o : Option ErrorObject) → IsSomeAnd o (λ e. P e.detail) ↔ IsSomeAnd (option_map (λ e. e.detail) o) P
  details-at P (Some e) = (λ p. p, λ p. p)
  details-at P None = (λ p. p, λ p. p)

  error-at : (n : ℕ) (o : Option ℕ) → detail_at h n ≡ o → (x : Shape) → HasShape h x (Error n) → IsSomeAnd o (λ d. IsOfDetail h d x)
  error-at n o at NilShape has = cc
  error-at n o at (BoolShape b) has = cc
  error-at n o at (IntShape i) has = cc
  error-at n o at (StrShape t) has = cc
  error-at n o at (List' mark _ items) has = absurd has.1
  error-at n o at (Mapping' mark _ fields) has = absurd has.1
  error-at n o at (Error' _ x) has =
      subst (λ o. IsSomeAnd o (λ d. HasShape h x (Struct d))) at ((details-at (λ d. HasShape h x (Struct d)) (slice_get h.errors n)).0 has)
  error-at n o at (FunctionShape isolated graph) has = absurd has
  error-at n o at (Future' _ results) has = absurd has

  at-error : (n d : ℕ) → detail_at h n ≡ Some d → (x : Shape) → IsOfDetail h d x → HasShape h x (Error n)
  at-error n d at (Error' _ x) of =
      (details-at (λ d. HasShape h x (Struct d)) (slice_get h.errors n)).1 (subst (λ o. IsSomeAnd o (λ d. HasShape h x (Struct d))) (sym at) of)
  at-error n d at x of = absurd of

  pub error_absent : (n : ℕ) → detail_at h n ≡ None → FindsShape h (Error n) None
  error_absent n at x valid has = error-at n None at x has

  pub error_there : (n d : ℕ) (found : Option Shape) → detail_at h n ≡ Some d → FindsError h d found → FindsShape h (Error n) found
  error_there n d (Some x) at is = (is.0, at-error n d at x is.1)
  error_there n d None at none = λ x valid has. none x valid (error-at n (Some d) at x has)

  -- ---- all other values

  has-frozen : (v : Value) → ((n : ℕ) → ¬ (v ≡ Error n)) → (x : Shape) → HasShape h x v → IsFrozen x
  has-frozen v not NilShape has = tt
  has-frozen v not (BoolShape b) has = tt
  has-frozen v not (IntShape i) has = tt
  has-frozen v not (StrShape t) has = tt
  has-frozen v not (List' mark _ items) has = has.0
  has-frozen v not (Mapping' mark _ fields) has = has.0
  has-frozen (Error n) not (Error' _ detail) has = not n refl
  has-frozen v not (Error' _ detail) has = absurd has
  has-frozen v not (FunctionShape isolated graph) has = absurd has
  has-frozen v not (Future' _ results) has = absurd has

  pub inner_is : (v : Value) (found : Option Shape) → ((n : ℕ) → ¬ (v ≡ Error n)) → Finds h (length h.structures) v found → FindsShape h v found
  inner_is v (Some x) not inner = (inner.0, inner.2)
  inner_is v None not none = λ x valid has.
      let inner : IsInner h v x = (valid, has-frozen v not x has, has) in
      let over = none x inner in
      let few = few-levels h x v inner in
      omega (arith, over, few)
