-- Questions about types with the same shapes get one answer.
use Rattle.std.proofs.Common.{◌≡◌, ◌↔◌, ◌<◌, ◌+◌, ◌++◌, inl, inr, refl, sym, ap, subst, ◌∙◌, arith, ℕ, zero, suc, true, false, List, [], ◌∷◌, length, length-append, slice_get, Option, Some}
use Rattle.bal_base.specs.declared.fault.Fault.{Fault}
use Rattle.bal_base.specs.declared.place.Place.{Place}
use Rattle.bal_base.specs.declared.shape.Shape.{Shape}
use Rattle.bal_base.specs.Valid.{IsValid}
use Rattle.type_model.specs.declared.answers.Keys.{Keys}
use Rattle.type_model.specs.declared.answers.TypeLimit.{TypeLimit}
use Rattle.type_model.specs.declared.atoms.AtomDef.{AtomDef}
use Rattle.type_model.specs.declared.basic.SemType.{SemType}
use Rattle.type_model.specs.Application.{IsLeastResult, IsOutside}
use Rattle.type_model.specs.Calls.{Asked}
use Rattle.type_model.specs.Defined.{IsClosed, IsDefined}
use Rattle.type_model.specs.Membership.{In}
use Rattle.type_model.specs.Parts.{StandsAt}
use Rattle.type_model.proofs.ApplicationLaws.{Answers-in, IsOutside-no_result}
use Rattle.type_model.proofs.Growth.{In-kept}
use Rattle.checks.specs.Checks.{Gives, Refuses}
use Rattle.checks.specs.Questions.{adds, applied, below, has_some, is_below, member, IsTooLarge}
use Rattle.checks.specs.Agreement.{AreTwins, IsLimit, BelowAgrees, IsBelowAgrees, HasSomeAgrees, MemberAgrees, AppliedAgrees, AddsAgree}

-- types that are twins the other way round
pub twins-sym : (m n : List AtomDef) (s t : SemType) → AreTwins m s n t → AreTwins n t m s
twins-sym m n s t h x valid = let here = h x valid in (here.1, here.0)

module _ (passes : List AtomDef → Asked → TypeLimit → Type 0) where
  too_large-limit : (question : Asked) (at : Option Place) (env : List AtomDef) (f : Fault) → IsTooLarge passes question at env f → IsLimit f
  too_large-limit question at env f h = inl h.2.has_code

  pub below-alike : BelowAgrees passes
  unfolding below
  below-alike m n s t s2 t2 at hs ht (Gives u) (Gives v) m2 n2 x y = (refl, x.1, y.1)
  below-alike m n s t s2 t2 at hs ht (Gives u) (Refuses g) m2 n2 x (inl y, e) =
      let z = y.0 in let valid = y.1.0 in
      absurd (y.2 ((ht z valid).0 (x.0 z valid ((hs z valid).1 y.1.1))))
  below-alike m n s t s2 t2 at hs ht (Gives u) (Refuses g) m2 n2 x (inr y, e) = inl y.2.has_code
  below-alike m n s t s2 t2 at hs ht (Refuses f) (Gives v) m2 n2 (inl x, e) y =
      let z = x.0 in let valid = x.1.0 in
      absurd (x.2 ((ht z valid).1 (y.0 z valid ((hs z valid).0 x.1.1))))
  below-alike m n s t s2 t2 at hs ht (Refuses f) (Gives v) m2 n2 (inr x, e) y = inl x.2.has_code
  below-alike m n s t s2 t2 at hs ht (Refuses f) (Refuses g) m2 n2 (inr x, e) y = inl (inl x.2.has_code)
  below-alike m n s t s2 t2 at hs ht (Refuses f) (Refuses g) m2 n2 (inl x, e) (inr y, d) = inr (inl (inl y.2.has_code))
  below-alike m n s t s2 t2 at hs ht (Refuses f) (Refuses g) m2 n2 (inl x, e) (inl y, d) =
      inr (inr (record { code = x.3.has_code ∙ sym y.3.has_code; at = x.3.stands ∙ sym y.3.stands }))

  pub is_below-alike : IsBelowAgrees passes
  unfolding is_below
  is_below-alike m n s t s2 t2 at hs ht (Gives true) (Gives true) m2 n2 x y = (refl, x.1, y.1)
  is_below-alike m n s t s2 t2 at hs ht (Gives false) (Gives false) m2 n2 x y = (refl, x.1, y.1)
  is_below-alike m n s t s2 t2 at hs ht (Gives true) (Gives false) m2 n2 x (y, e) =
      let z = y.0 in let valid = y.1.0 in
      absurd (y.2 ((ht z valid).0 (x.0 z valid ((hs z valid).1 y.1.1))))
  is_below-alike m n s t s2 t2 at hs ht (Gives false) (Gives true) m2 n2 (x, e) y =
      let z = x.0 in let valid = x.1.0 in
      absurd (x.2 ((ht z valid).1 (y.0 z valid ((hs z valid).0 x.1.1))))
  is_below-alike m n s t s2 t2 at hs ht (Gives a) (Refuses g) m2 n2 x y = inl y.0.2.has_code
  is_below-alike m n s t s2 t2 at hs ht (Refuses f) (Gives b) m2 n2 x y = inl x.0.2.has_code
  is_below-alike m n s t s2 t2 at hs ht (Refuses f) (Refuses g) m2 n2 x y = inl (inl x.0.2.has_code)

  pub has_some-alike : HasSomeAgrees passes
  unfolding has_some
  has_some-alike m n t t2 at h (Gives true) (Gives true) m2 n2 x y = (refl, x.1, y.1)
  has_some-alike m n t t2 at h (Gives false) (Gives false) m2 n2 x y = (refl, x.1, y.1)
  has_some-alike m n t t2 at h (Gives true) (Gives false) m2 n2 (x, e) y =
      let z = x.0 in let valid = x.1.0 in absurd (y.0 z valid ((h z valid).0 x.1.1))
  has_some-alike m n t t2 at h (Gives false) (Gives true) m2 n2 x (y, e) =
      let z = y.0 in let valid = y.1.0 in absurd (x.0 z valid ((h z valid).1 y.1.1))
  has_some-alike m n t t2 at h (Gives a) (Refuses g) m2 n2 x y = inl y.0.2.has_code
  has_some-alike m n t t2 at h (Refuses f) (Gives b) m2 n2 x y = inl x.0.2.has_code
  has_some-alike m n t t2 at h (Refuses f) (Refuses g) m2 n2 x y = inl (inl x.0.2.has_code)

  -- what stands at keys in shapes of one stands there in shapes of the other
  StandsAt-twins : (m n : List AtomDef) (t t2 : SemType) (keys : Keys) → AreTwins m t n t2 → (x : Shape) → StandsAt m t keys x → StandsAt n t2 keys x
  StandsAt-twins m n t t2 keys h x (whole, (valid, i), stands) = (whole, (valid, (h whole valid).0 i), stands)

  pub member-alike : MemberAgrees passes
  unfolding member
  member-alike m n t t2 keys at h (Gives a) (Gives b) m2 n2 x y = (
    (λ z valid. (
      λ i. (y.1 z valid).1 (StandsAt-twins m n t t2 keys h z ((x.1 z valid).0 i)),
      λ i. (x.1 z valid).1 (StandsAt-twins n m t2 t keys (twins-sym m n t t2 h) z ((y.1 z valid).0 i)),
    )),
    x.2,
    y.2,
  )
  member-alike m n t t2 keys at h (Gives a) (Refuses g) m2 n2 x y = inl y.0.2.has_code
  member-alike m n t t2 keys at h (Refuses f) (Gives b) m2 n2 x y = inl x.0.2.has_code
  member-alike m n t t2 keys at h (Refuses f) (Refuses g) m2 n2 x y = inl (inl x.0.2.has_code)

  -- the least result of one run is within that of the other
  least-in : (m n : List AtomDef) (f args r f2 args2 r2 : SemType) → AreTwins m f n f2 → AreTwins m args n args2
      → IsLeastResult m f args r → IsLeastResult n f2 args2 r2 → (x : Shape) → IsValid x → In m x r → In n x r2
  least-in m n f args r f2 args2 r2 hf ha one two x valid i =
      let result = one.least x valid i in
      let arguments = result.0 in
      let g = result.2.0 in
      let fits = two.below g result.2.1.0 ((hf g result.2.1.0).0 result.2.1.1) in
      Answers-in n args2 r2 g arguments (Some x) fits result.2.2 ((ha arguments result.1.0).0 result.1.1)

  -- arguments outside the domain of one are outside that of the other
  outside-in : (m n : List AtomDef) (f args f2 args2 : SemType) → AreTwins m f n f2 → AreTwins m args n args2
      → (x : Shape) → IsOutside m f args x → IsOutside n f2 args2 x
  outside-in m n f args f2 args2 hf ha x out =
      let g = out.1.0 in
      ((out.0.0, (ha x out.0.0).0 out.0.1), (g, (out.1.1.0, (hf g out.1.1.0).0 out.1.1.1), out.1.2))

  pub applied-alike : AppliedAgrees passes
  unfolding applied
  applied-alike m n f args f2 args2 at hf ha (Gives a) (Gives b) m2 n2 x y =
      let hf2 = twins-sym m n f f2 hf in let ha2 = twins-sym m n args args2 ha in
      ((λ z valid. (least-in m n f args a f2 args2 b hf ha x.1 y.1 z valid, least-in n m f2 args2 b f args a hf2 ha2 y.1 x.1 z valid)), x.2, y.2)
  applied-alike m n f args f2 args2 at hf ha (Gives a) (Refuses g) m2 n2 x (inr y, e) = inl y.2.has_code
  applied-alike m n f args f2 args2 at hf ha (Gives a) (Refuses g) m2 n2 x (inl y, e) =
      absurd (IsOutside-no_result m f args y.0 a (outside-in n m f2 args2 f args (twins-sym m n f f2 hf) (twins-sym m n args args2 ha) y.0 y.1) x.1.below)
  applied-alike m n f args f2 args2 at hf ha (Refuses g) (Gives b) m2 n2 (inr x, e) y = inl x.2.has_code
  applied-alike m n f args f2 args2 at hf ha (Refuses g) (Gives b) m2 n2 (inl x, e) y =
      absurd (IsOutside-no_result n f2 args2 x.0 b (outside-in m n f args f2 args2 hf ha x.0 x.1) y.1.below)
  applied-alike m n f args f2 args2 at hf ha (Refuses g) (Refuses h) m2 n2 (inr x, e) y = inl (inl x.2.has_code)
  applied-alike m n f args f2 args2 at hf ha (Refuses g) (Refuses h) m2 n2 (inl x, e) (inr y, d) = inr (inl (inl y.2.has_code))
  applied-alike m n f args f2 args2 at hf ha (Refuses g) (Refuses h) m2 n2 (inl x, e) (inl y, d) =
      inr (inr (record { code = x.2.has_code ∙ sym y.2.has_code; at = x.2.stands ∙ sym y.2.stands }))

-- ---- atoms that are added

slice_get-front : {X : Type 0} (xs ys : List X) (a : ℕ) → a < length xs → slice_get (xs ++ ys) a ≡ slice_get xs a
slice_get-front [] ys a lt = absurd (omega (arith, lt))
slice_get-front (x ∷ xs) ys zero lt = refl
slice_get-front (x ∷ xs) ys (suc a) lt = slice_get-front xs ys a (omega (arith, lt))

-- a type that is defined keeps its shapes where atoms are added
kept : (env defs : List AtomDef) → IsClosed env → (x : Shape) (t : SemType) → IsDefined env t → In env x t ↔ In (env ++ defs) x t
kept env defs closed x t h = In-kept env (env ++ defs) closed (λ a lt. slice_get-front env defs a lt) x t h

twins-later : (m n : List AtomDef) (P Q : List AtomDef) → IsClosed m → IsClosed n → (s t : SemType) → IsDefined m s → IsDefined n t
    → AreTwins m s n t → AreTwins (m ++ P) s (n ++ Q) t
twins-later m n P Q cm cn s t ds dt h x valid = (
  λ i. (kept n Q cn x t dt).0 ((h x valid).0 ((kept m P cm x s ds).1 i)),
  λ i. (kept m P cm x s ds).0 ((h x valid).1 ((kept n Q cn x t dt).1 i)),
)

pub adds-alike : AddsAgree
unfolding adds
adds-alike m n P Q at same long cm cn (Gives a) (Gives b) m2 n2 (d, dp, x, xe) (e, eq, y, ye) = (
  x ∙ same ∙ sym y,
  ap length xe ∙ length-append m d ∙ ap (λ k. k + length d) same ∙ ap (λ k. length n + k) (ap length dp ∙ long ∙ sym (ap length eq)) ∙ sym (length-append n e) ∙ sym (ap length ye),
  λ s t ds dt h. subst (λ k. AreTwins k s n2 t) (sym xe) (subst (λ k. AreTwins (m ++ d) s k t) (sym ye) (twins-later m n d e cm cn s t ds dt h)),
)
adds-alike m n P Q at same long cm cn (Gives a) (Refuses g) m2 n2 x (e, eq, full, y, ye) = inr y.has_code
adds-alike m n P Q at same long cm cn (Refuses f) (Gives b) m2 n2 (d, dp, full, x, xe) y = inr x.has_code
adds-alike m n P Q at same long cm cn (Refuses f) (Refuses g) m2 n2 (d, dp, full, x, xe) y = inl (inr x.has_code)
