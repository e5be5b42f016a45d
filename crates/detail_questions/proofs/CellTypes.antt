-- Which types stand at the keys of mappings.
use Rattle.std.proofs.Common.{◌≡◌, ◌<◌, ◌+◌, ◌↔◌, ◌⊎◌, ◌∙◌, ◌++◌, ℕ, zero, suc, Bool, true, false, List, [], ◌∷◌, Option, IsTrue, inl, inr, arith, get_or, length, refl, subst, sym, take}
use Rattle.std.proofs.lemmas.Bool.{false≢true}
use Rattle.std.proofs.lemmas.List.{take_more}
use Rattle.std.proofs.lemmas.List.Elements.{All-cons, All-head, All-nil, All-tail}
use Rattle.bal_base.specs.declared.shape.Shape.{Shape}
use Rattle.bal_base.specs.declared.text.Text.{Text}
use Rattle.type_model.specs.declared.atoms.AtomDef.{AtomDef}
use Rattle.type_model.specs.declared.basic.SemType.{SemType, Or'}
use Rattle.type_model.specs.Defined.{NamesBelow}
use Rattle.type_model.specs.Membership.{In}
use Rattle.type_model.specs.SameType.{IsSameType}
use Rattle.type_model.proofs.Same.{either, itself}
use Rattle.type_model.proofs.SameTypes.{In-same, NamesBelow-same}
use Rattle.code_verifier.specs.KindSets.{IsEither}
use Rattle.pair_questions.specs.declared.pair.Pair.{Pair}
use Rattle.pair_questions.specs.inner.Strings.{type_has}
use Rattle.detail_questions.specs.inner.Cells.{IsTypeBy, IsValueAt, IsWithValue, ValuesBelow}

-- ---- values of pairs

abbrev IsOne : List AtomDef → Option Text → Shape → Pair → Type 0
IsOne env o x p = IsTrue (type_has p.key.now o) × In env x p.value.now

none-there : (env : List AtomDef) (o : Option Text) (x : Shape) → ¬ (IsValueAt [] env o x)
none-there env o x (k, p, lt, is, h) = absurd (omega (arith, lt))

module _ (env : List AtomDef) (o : Option Text) (x : Shape) where
  at-front : (ps : List Pair) (p : Pair) → IsValueAt ps env o x → IsValueAt (ps ++ p ∷ []) env o x
  at-front [] p h = absurd (none-there env o x h)
  at-front (q ∷ ps) p (zero, r, lt, is, h) = (zero, r, omega arith, is, h)
  at-front (q ∷ ps) p (suc k, r, lt, is, h) = let (i, s, l, e, v) = at-front ps p (k, r, omega (arith, lt), is, h) in (suc i, s, omega (arith, l), e, v)

  at-end : (ps : List Pair) (p : Pair) → IsOne env o x p → IsValueAt (ps ++ p ∷ []) env o x
  at-end [] p h = (zero, p, omega arith, refl, h)
  at-end (q ∷ ps) p h = let (i, s, l, e, v) = at-end ps p h in (suc i, s, omega (arith, l), e, v)

  front-or-end : (ps : List Pair) (p : Pair) → IsValueAt (ps ++ p ∷ []) env o x → IsValueAt ps env o x ⊎ IsOne env o x p
  front-or-end [] p (zero, r, lt, is, h) = inr (subst (IsOne env o x) (sym is) h)
  front-or-end [] p (suc k, r, lt, is, h) = absurd (omega (arith, lt))
  front-or-end (q ∷ ps) p (zero, r, lt, is, h) = inl (zero, r, omega arith, is, h)
  front-or-end (q ∷ ps) p (suc k, r, lt, is, h) = by (front-or-end ps p (k, r, omega (arith, lt), is, h))
    where
      by : IsValueAt ps env o x ⊎ IsOne env o x p → IsValueAt (q ∷ ps) env o x ⊎ IsOne env o x p
      by (inl (i, s, l, e, v)) = inl (suc i, s, omega (arith, l), e, v)
      by (inr v) = inr v

  pub one-value-more : (ps : List Pair) (p : Pair) → (IsValueAt ps env o x ⊎ IsOne env o x p) ↔ IsValueAt (ps ++ p ∷ []) env o x
  one-value-more ps p = (so, front-or-end ps p)
    where
      so : IsValueAt ps env o x ⊎ IsOne env o x p → IsValueAt (ps ++ p ∷ []) env o x
      so (inl h) = at-front ps p h
      so (inr h) = at-end ps p h

-- a type with the value, where the key has the string
either-in : (env : List AtomDef) (x : Shape) (s v t : SemType) → IsEither (λ u. u ≡ s) (IsSameType v) t → In env x t ↔ (In env x s ⊎ In env x v)
either-in env x s v (Or' _ a _ b) h =
    let same = In-same env x v b h.1 in
    let first : In env x a ↔ In env x s = subst (λ (u : SemType). In env x a ↔ In env x u) h.0 itself in
    either first ((λ i. same.1 i), (λ i. same.0 i))
either-in env x s v t h = absurd h

either-below : (n : ℕ) (s v t : SemType) → IsEither (λ u. u ≡ s) (IsSameType v) t → NamesBelow n s → NamesBelow n v → NamesBelow n t
either-below n s v (Or' _ a _ b) h below own = (subst (NamesBelow n) (sym h.0) below, NamesBelow-same n v b h.1 own)
either-below n s v t h below own = absurd h

module _ (o : Option Text) (p : Pair) (values t : SemType) (is : IsWithValue p o values t) where
  added : (env : List AtomDef) (x : Shape) → type_has p.key.now o ≡ true → In env x values ⊎ In env x p.value.now → In env x values ⊎ IsOne env o x p
  added env x e (inl i) = inl i
  added env x e (inr i) = inr (e, i)

  dropped : (env : List AtomDef) (x : Shape) → In env x values ⊎ IsOne env o x p → In env x values ⊎ In env x p.value.now
  dropped env x (inl i) = inl i
  dropped env x (inr h) = inr h.1

  first : (env : List AtomDef) (x : Shape) → type_has p.key.now o ≡ false → In env x values ⊎ IsOne env o x p → In env x values
  first env x e (inl i) = i
  first env x e (inr h) = absurd (false≢true (sym e ∙ h.0))

  with-in : (env : List AtomDef) (x : Shape) → In env x t ↔ (In env x values ⊎ IsOne env o x p)
  with-in env x = by (type_has p.key.now o) refl
    where
      by : (b : Bool) → type_has p.key.now o ≡ b → In env x t ↔ (In env x values ⊎ IsOne env o x p)
      by true e = let both = either-in env x values p.value.now t (is.0 e) in ((λ i. added env x e (both.0 i)), (λ h. both.1 (dropped env x h)))
      by false e = ((λ i. inl (subst (In env x) (is.1 e) i)), (λ h. subst (In env x) (sym (is.1 e)) (first env x e h)))

  with-below : (n : ℕ) → NamesBelow n values → NamesBelow n p.value.now → NamesBelow n t
  with-below n below own = by (type_has p.key.now o) refl
    where
      by : (b : Bool) → type_has p.key.now o ≡ b → NamesBelow n t
      by true e = either-below n values p.value.now t (is.0 e) below own
      by false e = subst (NamesBelow n) (sym (is.1 e)) below

  with-more : (ps : List Pair) → IsTypeBy (λ env. IsValueAt ps env o) (ValuesBelow ps) values → IsTypeBy (λ env. IsValueAt (ps ++ p ∷ []) env o) (ValuesBelow (ps ++ p ∷ [])) t
  with-more ps h = (
    (λ env x. let one = with-in env x in let more = one-value-more env o x ps p in ((λ i. more.0 (grown env x (one.0 i))), (λ v. one.1 (shrunk env x (more.1 v))))),
    (λ n all. with-below n (h.1 n (front n ps all)) (last n ps all)),
  )
    where
      grown : (env : List AtomDef) (x : Shape) → In env x values ⊎ IsOne env o x p → IsValueAt ps env o x ⊎ IsOne env o x p
      grown env x (inl i) = inl ((h.0 env x).0 i)
      grown env x (inr v) = inr v

      shrunk : (env : List AtomDef) (x : Shape) → IsValueAt ps env o x ⊎ IsOne env o x p → In env x values ⊎ IsOne env o x p
      shrunk env x (inl v) = inl ((h.0 env x).1 v)
      shrunk env x (inr v) = inr v

      front : (n : ℕ) (qs : List Pair) → ValuesBelow (qs ++ p ∷ []) n → ValuesBelow qs n
      front n [] all = All-nil (λ (q : Pair). NamesBelow n q.value.now)
      front n (q ∷ qs) all = All-cons (λ (r : Pair). NamesBelow n r.value.now) q qs (All-head (λ (r : Pair). NamesBelow n r.value.now) q (qs ++ p ∷ []) all) (front n qs (All-tail (λ (r : Pair). NamesBelow n r.value.now) q (qs ++ p ∷ []) all))

      last : (n : ℕ) (qs : List Pair) → ValuesBelow (qs ++ p ∷ []) n → NamesBelow n p.value.now
      last n [] all = All-head (λ (r : Pair). NamesBelow n r.value.now) p [] all
      last n (q ∷ qs) all = last n qs (All-tail (λ (r : Pair). NamesBelow n r.value.now) q (qs ++ p ∷ []) all)

-- in a loop
pub values-more : (o : Option Text) (ps : List Pair) (i : ℕ) (p : Pair) → i < length ps → p ≡ get_or ps i p → (values t : SemType) → IsTypeBy (λ env. IsValueAt (take i ps) env o) (ValuesBelow (take i ps)) values → IsWithValue p o values t
    → IsTypeBy (λ env. IsValueAt (take (i + 1) ps) env o) (ValuesBelow (take (i + 1) ps)) t
values-more o ps i p lt is values t h with_one =
    let same : take (i + 1) ps ≡ take i ps ++ p ∷ [] = take_more ps i p lt ∙ (λ k. take i ps ++ sym is k ∷ []) in
    subst (λ (qs : List Pair). IsTypeBy (λ env. IsValueAt qs env o) (ValuesBelow qs) t) (sym same) (with-more o p values t with_one (take i ps) h)
