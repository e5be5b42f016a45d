-- Rising lists of places, and the answers that they make.
use Rattle.std.proofs.Common.{◌≡◌, List, [], ◌∷◌, ◌++◌, Bool, true, false, not, if◌then◌else◌, refl, sym, ◌∙◌, ap}
use Rattle.std.proofs.lemmas.Bool.{false≢true}
use Rattle.std.proofs.lemmas.Cmp.{tied_itself, alike_right}
use Rattle.std.specs.Cmp.{IsTotalOrder}
use Rattle.std.specs.declared.cmp.Ordering.{Ordering}
use Rattle.std.specs.declared.cmp.Ordering.TheVariants.{Less, Equal, Greater}
use Rattle.std.specs.Ordering.{is_le, is_eq, ordering_reverse}
use Rattle.type_diagrams.specs.Sets.{Each, answer_for, covers, IsBelowAll, Rises}

pub Each-push : {X : Type 0} (P : X → Type 0) (xs : List X) (y : X) → Each P xs → P y → Each P (xs ++ y ∷ [])
Each-push P [] y h p = (p, tt)
Each-push P (x ∷ xs) y h p = (h.0, Each-push P xs y h.1 p)

pub Each-map : {X : Type 0} (P Q : X → Type 0) (xs : List X) → ((x : X) → P x → Q x) → Each P xs → Each Q xs
Each-map P Q [] f h = tt
Each-map P Q (x ∷ xs) f h = (f x h.0, Each-map P Q xs f h.1)

-- a list with one more, or without
abbrev pub with_if : {X : Type 0} → Bool → List X → X → List X
with_if b xs x = if b then xs ++ x ∷ [] else xs

abbrev pub turned_if : Bool → Bool → Bool
turned_if b answer = if b then not answer else answer

turned-apart : (a b : Bool) (c : Bool) → turned_if c a ≡ turned_if c b → a ≡ b
turned-apart true true c e = refl
turned-apart false false c e = refl
turned-apart true false true e = sym e
turned-apart true false false e = e
turned-apart false true true e = sym e
turned-apart false true false e = e

module _ {X : Type 0} (test : X → X → Bool) where
  -- another first answer turns the answer over
  answer-turned : (c a : Bool) (xs : List X) (x : X) → answer_for test (turned_if c a) xs x ≡ turned_if c (answer_for test a xs x)
  answer-turned c a [] x = refl
  answer-turned c a (p ∷ ps) x =
      ap (λ b. answer_for test b ps x) (swap (test p x) c a) ∙ answer-turned c (turned_if (test p x) a) ps x
    where
      swap : (d e f : Bool) → turned_if d (turned_if e f) ≡ turned_if e (turned_if d f)
      swap true true f = refl
      swap true false f = refl
      swap false true f = refl
      swap false false f = refl

  pub answer-push : (a : Bool) (xs : List X) (p x : X) → answer_for test a (xs ++ p ∷ []) x ≡ turned_if (test p x) (answer_for test a xs x)
  answer-push a [] p x = refl
  answer-push a (y ∷ ys) p x = answer-push (turned_if (test y x) a) ys p x

  -- a place that doesn't cover x makes no difference for it
  pub answer-off : (b a : Bool) (xs : List X) (p x : X) → test p x ≡ false → answer_for test a (with_if b xs p) x ≡ answer_for test a xs x
  answer-off true a xs p x off = answer-push a xs p x ∙ ap (λ c. turned_if c (answer_for test a xs x)) off
  answer-off false a xs p x off = refl

  pub answer-on : (b a : Bool) (xs : List X) (p x : X) → test p x ≡ true → answer_for test a (with_if b xs p) x ≡ turned_if b (answer_for test a xs x)
  answer-on true a xs p x on = answer-push a xs p x ∙ ap (λ c. turned_if c (answer_for test a xs x)) on
  answer-on false a xs p x on = refl

  -- places that don't cover x make no difference
  pub answer-none : (a : Bool) (xs : List X) (x : X) → Each (λ p. test p x ≡ false) xs → answer_for test a xs x ≡ a
  answer-none a [] x h = refl
  answer-none a (p ∷ ps) x h = ap (λ c. answer_for test (turned_if c a) ps x) h.0 ∙ answer-none a ps x h.1

module _ {X : Type 0} (cmp : X → X → Ordering) (total : IsTotalOrder cmp) where
  Less-apart : (x y : X) → cmp x y ≡ Less → cmp y x ≡ Greater
  Less-apart x y h = total.antisymm y x ∙ ap ordering_reverse h

  pub Greater-apart : (x y : X) → cmp x y ≡ Greater → cmp y x ≡ Less
  Greater-apart x y h = total.antisymm y x ∙ ap ordering_reverse h

  pub below_through : (x y : X) (zs : List X) → cmp x y ≡ Less → IsBelowAll cmp y zs → IsBelowAll cmp x zs
  below_through x y [] lt h = tt
  below_through x y (z ∷ zs) lt h = (total.trans x y z lt h.0, below_through x y zs lt h.1)

  module _ (lasting : Bool) where
    abbrev test : X → X → Bool
    test = covers lasting cmp

    by_lasting : (o : Ordering) (b : Bool) → is_le o ≡ b → is_eq o ≡ b → (if lasting then is_le o else is_eq o) ≡ b
    by_lasting o b p q = by lasting
      where
        by : (l : Bool) → (if l then is_le o else is_eq o) ≡ b
        by true = p
        by false = q

    pub covers-itself : (p : X) → covers lasting cmp p p ≡ true
    covers-itself p = by_lasting (cmp p p) true (ap is_le (tied_itself total p)) (ap is_eq (tied_itself total p))

    pub covers-none_before : (p x : X) → cmp x p ≡ Less → covers lasting cmp p x ≡ false
    covers-none_before p x h = by_lasting (cmp p x) false (ap is_le (Less-apart x p h)) (ap is_eq (Less-apart x p h))

    pub covers-behind : (p x : X) → cmp p x ≡ Less → covers lasting cmp p x ≡ lasting
    covers-behind p x h = by lasting
      where
        by : (l : Bool) → (if l then is_le (cmp p x) else is_eq (cmp p x)) ≡ l
        by true = ap is_le h
        by false = ap is_eq h

    -- what is before a place is before all that the place covers
    pub before-covered : (a p x : X) → cmp a p ≡ Less → covers lasting cmp p x ≡ true → cmp a x ≡ Less
    before-covered a p x h c = by (cmp p x) refl
      where
        at_greater : (l : Bool) → (if l then is_le Greater else is_eq Greater) ≡ true → ⊥
        at_greater true e = false≢true e
        at_greater false e = false≢true e

        by : (o : Ordering) → cmp p x ≡ o → cmp a x ≡ Less
        by Less e = total.trans a p x h e
        by Equal e = sym (alike_right total p x a e) ∙ h
        by Greater e = absurd (at_greater lasting (ap (λ o. if lasting then is_le o else is_eq o) (sym e) ∙ c))

    pub none-covers : (x : X) (ps : List X) → IsBelowAll cmp x ps → Each (λ p. covers lasting cmp p x ≡ false) ps
    none-covers x [] h = tt
    none-covers x (p ∷ ps) h = (covers-none_before p x h.0, none-covers x ps h.1)

    -- the answer for a place at the head
    pub at_head : (a : Bool) (p : X) (ps : List X) → IsBelowAll cmp p ps → answer_for test a (p ∷ ps) p ≡ not a
    at_head a p ps h = ap (λ c. answer_for test (turned_if c a) ps p) (covers-itself p) ∙ answer-none test (not a) ps p (none-covers p ps h)

    not-same : (a : Bool) → a ≡ not a → ⊥
    not-same true e = false≢true (sym e)
    not-same false e = false≢true e

    module _ (exact : (x y : X) → cmp x y ≡ Equal → x ≡ y) (Fits : X → Type 0) where
      heads : (a : Bool) (p q : X) (ps qs : List X) → Each Fits (p ∷ ps) → Each Fits (q ∷ qs) → Rises cmp (p ∷ ps) → Rises cmp (q ∷ qs) → ((x : X) → Fits x → answer_for test a (p ∷ ps) x ≡ answer_for test a (q ∷ qs) x)
          → (o : Ordering) → cmp p q ≡ o → (p ≡ q → ps ≡ qs) → (p ∷ ps) ≡ (q ∷ qs)
      heads a p q ps qs f g r s e Less is rest =
          absurd (not-same a (sym (answer-none test a (q ∷ qs) p (none-covers p (q ∷ qs) (is, below_through p q qs is s.0))) ∙ sym (e p f.0) ∙ at_head a p ps r.0))
      heads a p q ps qs f g r s e Equal is rest = let same = exact p q is in λ i. same i ∷ rest same i
      heads a p q ps qs f g r s e Greater is rest =
          let lt = Greater-apart p q is in
          absurd (not-same a (sym (answer-none test a (p ∷ ps) q (none-covers q (p ∷ ps) (lt, below_through q p ps lt r.0))) ∙ e q g.0 ∙ at_head a q qs s.0))

      -- two rising lists that give the same answers are one
      pub answers-same : (a : Bool) (ps qs : List X) → Each Fits ps → Each Fits qs → Rises cmp ps → Rises cmp qs → ((x : X) → Fits x → answer_for test a ps x ≡ answer_for test a qs x) → ps ≡ qs
      answers-same a [] [] f g r s e = refl
      answers-same a [] (q ∷ qs) f g r s e = absurd (not-same a (e q g.0 ∙ at_head a q qs s.0))
      answers-same a (p ∷ ps) [] f g r s e = absurd (not-same a (sym (e p f.0) ∙ at_head a p ps r.0))
      answers-same a (p ∷ ps) (q ∷ qs) f g r s e =
          heads a p q ps qs f g r s e (cmp p q) refl (λ same. answers-same a ps qs f.1 g.1 r.1 s.1
          (λ x fit. turned-apart (answer_for test a ps x) (answer_for test a qs x) (covers lasting cmp p x)
          (sym (answer-turned test (covers lasting cmp p x) a ps x) ∙ e x fit ∙ ap (λ y. answer_for test (turned_if (covers lasting cmp y x) a) qs x) (sym same) ∙ answer-turned test (covers lasting cmp p x) a qs x)))
