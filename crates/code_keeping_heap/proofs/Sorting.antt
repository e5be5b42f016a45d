-- Fields of a mapping in the order of their keys: one is put at its place, and takes that of one with the same key.
use Rattle.std.proofs.Common.{◌≡◌, ◌≤◌, ◌∙◌, zero, suc, List, [], ◌∷◌, inl, inr, length, refl, sym, ap, subst, arith}
use Rattle.std.proofs.lemmas.List.Elements.{All-cons, All-head, All-nil, All-tail}
use Rattle.std.specs.Prelude.{◌⊎◌, All, Contains}
use Rattle.std.specs.declared.cmp.Ordering.{Ordering}
use Rattle.std.specs.declared.cmp.Ordering.TheVariants.{Less, Equal, Greater}
use Rattle.std.specs.Ordering.{is_eq, nat_cmp}
use Rattle.std.specs.Cmp.Lexicographic.{slice_cmp, texts_ties}
use Rattle.bal_base.specs.declared.shape.Shape.{Shape}
use Rattle.bal_base.specs.declared.text.Text.{Text}
use Rattle.type_model.specs.Places.{HasKey}
use Rattle.type_model.proofs.TextOrder.{Below, Sorted, above-below, below-apart, below-further, not-below-itself}
use Rattle.value_model.proofs.EntryKeys.{same-text}

abbrev pub Fields : Type 0
Fields = List (Text × Shape)

abbrev pub placed : Ordering → Text → Shape → Text × Shape → Fields → Fields → Fields
placed Less key x f fs more = (key, x) ∷ f ∷ fs
placed Equal key x f fs more = (key, x) ∷ fs
placed Greater key x f fs more = f ∷ more

abbrev pub put : Text → Shape → Fields → Fields
put key x [] = (key, x) ∷ []
put key x (f ∷ fs) = placed (slice_cmp nat_cmp key f.0) key x f fs (put key x fs)

-- those that come earlier take the places of those with their keys
abbrev pub sorted : Fields → Fields
sorted [] = []
sorted (p ∷ ps) = put p.0 p.1 (sorted ps)

abbrev pub Rises : Fields → Type 0
Rises fs = Sorted (λ (f : Text × Shape). f.0) fs

-- a field has the key
abbrev pub Has : Fields → Text → Type 0
Has [] key = ⊥
Has (f ∷ fs) key = (f.0 ≡ key) ⊎ Has fs key

pub has-any : (fs : Fields) (key : Text) → Has fs key → HasKey fs key
has-any [] key h = absurd h
has-any (f ∷ fs) key (inl e) = (0, f, omega arith, refl, e)
has-any (f ∷ fs) key (inr h) = let (k, x, l, is, e) = has-any fs key h in (suc k, x, omega (arith, l), is, e)

pub any-has : (fs : Fields) (key : Text) → HasKey fs key → Has fs key
any-has [] key (k, x, l, is, e) = absurd (omega (arith, l))
any-has (f ∷ fs) key (zero, x, l, is, e) = inl (subst (λ y. y.0 ≡ key) (sym is) e)
any-has (f ∷ fs) key (suc k, x, l, is, e) = inr (any-has fs key (k, x, omega (arith, l), is, e))

pub has-all : (P : Text → Type 0) (fs : Fields) → All (λ f. P f.0) fs → (key : Text) → Has fs key → P key
has-all P [] h key has = absurd has
has-all P (f ∷ fs) h key (inl e) = subst P e (All-head (λ (f : Text × Shape). P f.0) f fs h)
has-all P (f ∷ fs) h key (inr has) = has-all P fs (All-tail (λ (f : Text × Shape). P f.0) f fs h) key has

-- two texts that are not apart in order are the same
equal-same : (s t : Text) → slice_cmp nat_cmp s t ≡ Equal → s ≡ t
equal-same s t e = same-text s t (texts_ties s t ∙ ap is_eq e)

module _ (key : Text) (x : Shape) where
  pub put-all : (P : Text × Shape → Type 0) (fs : Fields) → P (key, x) → All P fs → All P (put key x fs)
  put-all P [] p h = All-cons P (key, x) [] p (All-nil P)
  put-all P (f ∷ fs) p h = by (slice_cmp nat_cmp key f.0) (put-all P fs p (All-tail P f fs h))
    where
      by : (o : Ordering) → All P (put key x fs) → All P (placed o key x f fs (put key x fs))
      by Less more = All-cons P (key, x) (f ∷ fs) p h
      by Equal more = All-cons P (key, x) fs p (All-tail P f fs h)
      by Greater more = All-cons P f (put key x fs) (All-head P f fs h) more

  pub put-there : (fs : Fields) → Contains (put key x fs) (key, x)
  put-there [] = (0, omega arith, refl)
  put-there (f ∷ fs) = by (slice_cmp nat_cmp key f.0) (put-there fs)
    where
      by : (o : Ordering) → Contains (put key x fs) (key, x) → Contains (placed o key x f fs (put key x fs)) (key, x)
      by Less more = (0, omega arith, refl)
      by Equal more = (0, omega arith, refl)
      by Greater (k, l, e) = (suc k, omega (arith, l), e)

  pub put-key : (fs : Fields) → Has (put key x fs) key
  put-key [] = inl refl
  put-key (f ∷ fs) = by (slice_cmp nat_cmp key f.0) (put-key fs)
    where
      by : (o : Ordering) → Has (put key x fs) key → Has (placed o key x f fs (put key x fs)) key
      by Less more = inl refl
      by Equal more = inl refl
      by Greater more = inr more

  pub put-keeps : (fs : Fields) (k : Text) → Has fs k → Has (put key x fs) k
  put-keeps [] k h = absurd h
  put-keeps (f ∷ fs) k h = by (slice_cmp nat_cmp key f.0) refl (put-keeps fs k) h
    where
      by : (o : Ordering) → slice_cmp nat_cmp key f.0 ≡ o → (Has fs k → Has (put key x fs) k) → Has (f ∷ fs) k → Has (placed o key x f fs (put key x fs)) k
      by Less e more h = inr h
      by Equal e more (inl is) = inl (equal-same key f.0 e ∙ is)
      by Equal e more (inr h) = inr h
      by Greater e more (inl is) = inl is
      by Greater e more (inr h) = inr (more h)

  pub put-rises : (fs : Fields) → Rises fs → Rises (put key x fs)
  put-rises [] h = (All-nil _, tt)
  put-rises (f ∷ fs) (first, rest) = by (slice_cmp nat_cmp key f.0) refl (put-rises fs rest)
    where
      above : Below key f.0 → All (λ (y : Text × Shape). Below key y.0) fs
      above e = λ k d l. below-further key f.0 _ e (first k d l)

      by : (o : Ordering) → slice_cmp nat_cmp key f.0 ≡ o → Rises (put key x fs) → Rises (placed o key x f fs (put key x fs))
      by Less e more = (All-cons (λ (y : Text × Shape). Below key y.0) f fs e (above e), (first, rest))
      by Equal e more = (subst (λ t. All (λ (y : Text × Shape). Below t y.0) fs) (sym (equal-same key f.0 e)) first, rest)
      by Greater e more = (put-all (λ y. Below f.0 y.0) fs (above-below key f.0 e) first, more)

  pub put-long : (fs : Fields) → length (put key x fs) ≤ suc (length fs)
  put-long [] = omega arith
  put-long (f ∷ fs) = by (slice_cmp nat_cmp key f.0) (put-long fs)
    where
      by : (o : Ordering) → length (put key x fs) ≤ suc (length fs) → length (placed o key x f fs (put key x fs)) ≤ suc (length (f ∷ fs))
      by Less more = omega arith
      by Equal more = omega arith
      by Greater more = omega (arith, more)

  -- where the key is there, there are as many
  pub put-same : (fs : Fields) → Rises fs → Has fs key → length (put key x fs) ≡ length fs
  put-same [] rises h = absurd h
  put-same (f ∷ fs) (first, rest) h = by (slice_cmp nat_cmp key f.0) refl (put-same fs rest) h
    where
      by : (o : Ordering) → slice_cmp nat_cmp key f.0 ≡ o → (Has fs key → length (put key x fs) ≡ length fs) → Has (f ∷ fs) key → length (placed o key x f fs (put key x fs)) ≡ length (f ∷ fs)
      by Less e more (inl is) = absurd (below-apart key f.0 e (sym is))
      by Less e more (inr h) = absurd (not-below-itself key (below-further key f.0 key e (has-all (λ k. Below f.0 k) fs first key h)))
      by Equal e more h = refl
      by Greater e more (inl is) = absurd (below-apart f.0 key (above-below key f.0 e) is)
      by Greater e more (inr h) = ap suc (more h)

  -- where it isn't, there is one more
  pub put-more : (fs : Fields) → (Has fs key → ⊥) → length (put key x fs) ≡ suc (length fs)
  put-more [] h = refl
  put-more (f ∷ fs) h = by (slice_cmp nat_cmp key f.0) refl (put-more fs (λ k. h (inr k)))
    where
      by : (o : Ordering) → slice_cmp nat_cmp key f.0 ≡ o → length (put key x fs) ≡ suc (length fs) → length (placed o key x f fs (put key x fs)) ≡ suc (length (f ∷ fs))
      by Less e more = refl
      by Equal e more = absurd (h (inl (sym (equal-same key f.0 e))))
      by Greater e more = ap suc more

pub sorted-rises : (ps : Fields) → Rises (sorted ps)
sorted-rises [] = tt
sorted-rises (p ∷ ps) = put-rises p.0 p.1 (sorted ps) (sorted-rises ps)

pub sorted-all : (P : Text × Shape → Type 0) (ps : Fields) → All P ps → All P (sorted ps)
sorted-all P [] h = h
sorted-all P (p ∷ ps) h = put-all p.0 p.1 P (sorted ps) (All-head P p ps h) (sorted-all P ps (All-tail P p ps h))

pub sorted-long : (ps : Fields) → length (sorted ps) ≤ length ps
sorted-long [] = omega arith
sorted-long (p ∷ ps) = let k = put-long p.0 p.1 (sorted ps) in let l = sorted-long ps in omega (arith, k, l)

pub sorted-has : (ps : Fields) (key : Text) → Has ps key → Has (sorted ps) key
sorted-has [] key h = h
sorted-has (p ∷ ps) key (inl e) = subst (λ k. Has (sorted (p ∷ ps)) k) e (put-key p.0 p.1 (sorted ps))
sorted-has (p ∷ ps) key (inr h) = put-keeps p.0 p.1 (sorted ps) key (sorted-has ps key h)
