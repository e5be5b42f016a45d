-- What is held stays held, and what is known stays known.
use Rattle.std.proofs.Common.{◌≡◌, ◌↔◌, ◌∙◌, ◌++◌, ◌+◌, ◌<◌, ◌≤◌, ℕ, Bool, true, false, IsTrue, List, [], ◌∷◌, Option, Some, None, All, Contains, length, get_or, take, refl, sym, subst, ap}
use Rattle.std.proofs.lemmas.Bool.{false≢true}
use Rattle.std.proofs.lemmas.List.{append-nil, append_assoc, take_all}
use Rattle.std.proofs.lemmas.List.Elements.{All-append, All-more, All-nil, All-push, All-weaker, Contains-append_left, Contains-push}
use Rattle.value_model.specs.declared.value.Value.{Value}
use Rattle.value_model.specs.declared.value.Value.TheVariants.{Struct}
use Rattle.value_model.specs.Heap.{Heap}
use Rattle.op_model.specs.Equality.{face_of}
use Rattle.plain_equality.specs.Pairs.{AreHeld, AreKnownSides, AreMembersKnown, HoldsMore, IsHeld, IsKnown, IsPair}
use Rattle.plain_equality.proofs.Equal.{is_leaf, leaf-apart, leaf-same}

-- ---- more is held

pub holds-none : (old : List (ℕ × ℕ)) (P : ℕ → ℕ → Type 0) → HoldsMore old P old
holds-none old P = ([], sym (append-nil old), All-nil (λ p. P p.0 p.1))

pub holds-then : (a b c : List (ℕ × ℕ)) (P : ℕ → ℕ → Type 0) → HoldsMore a P b → HoldsMore b P c → HoldsMore a P c
holds-then a b c P (m, e, all) (n, f, more) =
    (m ++ n, f ∙ (ap (λ l. l ++ n) e ∙ append_assoc a m n), All-append (λ p. P p.0 p.1) m n all more)

pub holds-weaker : (a b : List (ℕ × ℕ)) (P Q : ℕ → ℕ → Type 0) → ((n m : ℕ) → P n m → Q n m) → HoldsMore a P b → HoldsMore a Q b
holds-weaker a b P Q f (m, e, all) = (m, e, All-weaker (λ p. P p.0 p.1) (λ p. Q p.0 p.1) (λ p h. f p.0 p.1 h) m all)

contains-more : (a b : List (ℕ × ℕ)) (P : ℕ → ℕ → Type 0) (p : ℕ × ℕ) → HoldsMore a P b → Contains a p → Contains b p
contains-more a b P p (m, e, all) h = subst (λ l. Contains l p) (sym e) (Contains-append_left a m p h)

module _ (h : Heap) (a b : List (ℕ × ℕ)) (P : ℕ → ℕ → Type 0) (more : HoldsMore a P b) where
  pair-more : (v w : Value) → IsPair a v w → IsPair b v w
  pair-more (Struct n) (Struct m) c = contains-more a b P (n, m) more c
  pair-more v w c = tt

  pub known-more : (v w : Value) → IsKnown h a v w → IsKnown h b v w
  known-more v w k = (k.0, pair-more v w k.1)

  sides-more : (x y : Option Value) → AreKnownSides h a x y → AreKnownSides h b x y
  sides-more (Some v) (Some w) k = known-more v w k
  sides-more (Some v) None k = k
  sides-more None (Some w) k = k
  sides-more None None k = k

  pub members-more : (n m : ℕ) → AreMembersKnown h a n m → AreMembersKnown h b n m
  members-more n m k = λ step. sides-more _ _ (k step)

-- ---- one pair

module _ (h : Heap) where
  pub structures-held : (n m : ℕ) (old new : List (ℕ × ℕ)) → face_of h (Struct n) ≡ face_of h (Struct m) → new ≡ old ++ (n, m) ∷ [] → IsHeld h (Struct n) (Struct m) old new true
  structures-held n m old new face e = (
    (face, subst (λ l. Contains l (n, m)) (sym e) (Contains-push old (n, m))),
    ((n, m) ∷ [], e, All-push (λ p. (Struct n ≡ Struct p.0) × (Struct m ≡ Struct p.1)) [] (n, m) (All-nil (λ p. (Struct n ≡ Struct p.0) × (Struct m ≡ Struct p.1))) (refl, refl)),
  )

  pub structures-there : (n m : ℕ) (old : List (ℕ × ℕ)) → face_of h (Struct n) ≡ face_of h (Struct m) → Contains old (n, m) → IsHeld h (Struct n) (Struct m) old old true
  structures-there n m old face there = ((face, there), holds-none old (λ a b. (Struct n ≡ Struct a) × (Struct m ≡ Struct b)))

  leaf-pair : (held : List (ℕ × ℕ)) (v w : Value) → is_leaf v ≡ true → IsPair held v w
  leaf-pair held (Struct n) (Struct m) l = absurd (false≢true l)
  leaf-pair held v w l = tt

  pub leaf-held : (v w : Value) (held : List (ℕ × ℕ)) (same : Bool) → is_leaf v ≡ true → IsTrue same ↔ (v ≡ w) → IsHeld h v w held held same
  leaf-held v w held true l s = ((ap (face_of h) (s.0 refl), leaf-pair held v w l), holds-none held (λ n m. (v ≡ Struct n) × (w ≡ Struct m)))
  leaf-held v w held false l s = λ e. false≢true (s.1 (leaf-same h v w l e))

  pub structure-leaf : (n : ℕ) (w : Value) (old : List (ℕ × ℕ)) → is_leaf w ≡ true → IsHeld h (Struct n) w old old false
  structure-leaf n w old l = leaf-apart h n w l

-- ---- pair by pair

module _ (h : Heap) (pairs : List (Value × Value)) (old : List (ℕ × ℕ)) where
  abbrev pub AreHeldSoFar : ℕ → List (ℕ × ℕ) → Type 0
  AreHeldSoFar i held = All (λ p. IsKnown h held p.0 p.1) (take i pairs) × HoldsMore old (λ n m. Contains pairs (Struct n, Struct m)) held

  pub held-none : AreHeldSoFar 0 old
  held-none = (All-nil (λ p. IsKnown h old p.0 p.1), holds-none old (λ n m. Contains pairs (Struct n, Struct m)))

  module _ (i : ℕ) (p : Value × Value) (lt : i < length pairs) (is : p ≡ get_or pairs i p) where
    at-i : Contains pairs p
    at-i = (i, lt, sym is)

    pub held-more : (held new : List (ℕ × ℕ)) → AreHeldSoFar i held → IsHeld h p.0 p.1 held new true → AreHeldSoFar (i + 1) new
    held-more held new (all, more) (known, one) = (
      All-more (λ q. IsKnown h new q.0 q.1) pairs i p lt
          (All-weaker (λ q. IsKnown h held q.0 q.1) (λ q. IsKnown h new q.0 q.1) (λ q k. known-more h held new (λ n m. (p.0 ≡ Struct n) × (p.1 ≡ Struct m)) one q.0 q.1 k) (take i pairs) all)
          (subst (λ q. IsKnown h new q.0 q.1) is known),
      holds-then old held new (λ n m. Contains pairs (Struct n, Struct m)) more
          (holds-weaker held new (λ n m. (p.0 ≡ Struct n) × (p.1 ≡ Struct m)) (λ n m. Contains pairs (Struct n, Struct m)) (λ n m e. subst (λ q. Contains pairs (q, Struct m)) e.0 (subst (λ q. Contains pairs (p.0, q)) e.1 at-i)) one),
    )

    pub held-fails : (held new : List (ℕ × ℕ)) → IsHeld h p.0 p.1 held new false → AreHeld h pairs old new false
    held-fails held new unlike = (p, at-i, unlike)

  pub held-all : (i : ℕ) (held : List (ℕ × ℕ)) → length pairs ≤ i → AreHeldSoFar i held → AreHeld h pairs old held true
  held-all i held le (all, more) = (subst (All (λ p. IsKnown h held p.0 p.1)) (take_all i pairs le) all, more)

pub ruleset holding = (structures-held, structures-there, leaf-held, structure-leaf, held-none)
