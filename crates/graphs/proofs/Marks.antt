-- Marks of numbers, one of which is set.
use Rattle.std.proofs.Common.{◌≡◌, ◌≢◌, ℕ, zero, suc, ◌+◌, ◌*◌, ◌<◌, ◌≤◌, ◌⊎◌, inl, inr, ◌↔◌, Bool, true, false, List, [], ◌∷◌, length, set, slice_get, refl, sym, ap, subst, ◌∙◌, arith, Option, None, Some}
use Rattle.std.specs.List.{Contains}
use Rattle.std.proofs.lemmas.Bool.{false≢true}
use Rattle.graphs.specs.inner.Walks.{AreMarked, left}
use Rattle.graphs.specs.declared.order.Mark.{Mark}
use Rattle.graphs.specs.declared.order.Mark.TheVariants.{New, Begun, Done}
use Rattle.graphs.proofs.Noting.{none-some, same_or_not}

-- ---- marks differ

abbrev is_done : Mark → Bool
is_done New = false
is_done Begun = false
is_done Done = true

abbrev is_new : Mark → Bool
is_new New = true
is_new Begun = false
is_new Done = false

pub new-done : New ≡ Done → ⊥
new-done h = false≢true (ap is_done h)

pub begun-done : Begun ≡ Done → ⊥
begun-done h = false≢true (ap is_done h)

pub begun-new : Begun ≡ New → ⊥
begun-new h = false≢true (ap is_new h)

abbrev mark_in : Option Mark → Mark
mark_in None = New
mark_in (Some m) = m

pub one-mark : {a b : Mark} → Some a ≡ Some b → a ≡ b
one-mark h = ap mark_in h

-- a number has one mark
pub two-marks : (o : Option Mark) {a b : Mark} → o ≡ Some a → o ≡ Some b → a ≡ b
two-marks o h k = one-mark (sym h ∙ k)

pub none-there : (marks : List Mark) (i : ℕ) → i < length marks → slice_get marks i ≡ None → ⊥
none-there [] i lt h = absurd (omega (arith, lt))
none-there (x ∷ marks) zero lt h = none-some (sym h)
none-there (x ∷ marks) (suc i) lt h = none-there marks i (omega (arith, lt)) h

-- ---- a mark is set

pub set-here : (marks : List Mark) (n : ℕ) (m : Mark) → n < length marks → slice_get (set marks n m) n ≡ Some m
set-here [] n m lt = absurd (omega (arith, lt))
set-here (x ∷ marks) zero m lt = refl
set-here (x ∷ marks) (suc n) m lt = set-here marks n m (omega (arith, lt))

pub set-other : (marks : List Mark) (n i : ℕ) (m : Mark) → i ≢ n → slice_get (set marks n m) i ≡ slice_get marks i
set-other [] n i m ne = refl
set-other (x ∷ marks) zero zero m ne = absurd (ne refl)
set-other (x ∷ marks) zero (suc i) m ne = refl
set-other (x ∷ marks) (suc n) zero m ne = refl
set-other (x ∷ marks) (suc n) (suc i) m ne = set-other marks n i m (λ e. ne (ap suc e))

-- those with a mark, where one number gets this or another one
pub marked-set : (marks : List Mark) (n : ℕ) (m new : Mark) (xs ys : List ℕ) → n < length marks → AreMarked marks m xs
    → ((i : ℕ) → i ≢ n → Contains xs i ↔ Contains ys i) → (new ≡ m) ↔ Contains ys n → AreMarked (set marks n new) m ys
marked-set marks n m new xs ys lt are others here i = by (same_or_not i n)
  where
    at_n : slice_get (set marks n new) n ≡ Some m ↔ Contains ys n
    at_n = (λ h. here.0 (one-mark (sym (set-here marks n new lt) ∙ h)), λ c. set-here marks n new lt ∙ ap Some (here.1 c))

    by : (i ≡ n) ⊎ (i ≢ n) → slice_get (set marks n new) i ≡ Some m ↔ Contains ys i
    by (inl e) = subst (λ j. slice_get (set marks n new) j ≡ Some m ↔ Contains ys j) (sym e) at_n
    by (inr ne) =
        let same = set-other marks n i new ne in
        (λ h. (others i ne).0 ((are i).0 (sym same ∙ h)), λ c. same ∙ (are i).1 ((others i ne).1 c))

-- a mark that isn't `New` makes no number new
pub new-set : (marks : List Mark) (n i : ℕ) (m : Mark) → n < length marks → (m ≡ New → ⊥) → (slice_get marks i ≡ Some New → ⊥) → slice_get (set marks n m) i ≡ Some New → ⊥
new-set marks n i m lt other before h = by (same_or_not i n)
  where
    by : (i ≡ n) ⊎ (i ≢ n) → ⊥
    by (inl e) = other (one-mark (sym (set-here marks n m lt) ∙ subst (λ j. slice_get (set marks n m) j ≡ Some New) e h))
    by (inr ne) = before (sym (set-other marks n i m ne) ∙ h)

-- ---- how much is left

pub left-begun : (marks : List Mark) (n : ℕ) → slice_get marks n ≡ Some New → left (set marks n Begun) + 1 ≡ left marks
left-begun [] n h = absurd (none-some h)
left-begun (New ∷ marks) zero h = omega arith
left-begun (Begun ∷ marks) zero h = absurd (begun-new (one-mark h))
left-begun (Done ∷ marks) zero h = absurd (new-done (sym (one-mark h)))
left-begun (New ∷ marks) (suc n) h = let e = left-begun marks n h in omega (arith, e)
left-begun (Begun ∷ marks) (suc n) h = let e = left-begun marks n h in omega (arith, e)
left-begun (Done ∷ marks) (suc n) h = left-begun marks n h

pub left-done : (marks : List Mark) (n : ℕ) → slice_get marks n ≡ Some Begun → left (set marks n Done) + 1 ≡ left marks
left-done [] n h = absurd (none-some h)
left-done (New ∷ marks) zero h = absurd (begun-new (sym (one-mark h)))
left-done (Begun ∷ marks) zero h = omega arith
left-done (Done ∷ marks) zero h = absurd (begun-done (sym (one-mark h)))
left-done (New ∷ marks) (suc n) h = let e = left-done marks n h in omega (arith, e)
left-done (Begun ∷ marks) (suc n) h = let e = left-done marks n h in omega (arith, e)
left-done (Done ∷ marks) (suc n) h = left-done marks n h

pub most-left : (marks : List Mark) → left marks ≤ 2 * length marks
most-left [] = omega arith
most-left (New ∷ marks) = let e = most-left marks in omega (arith, e)
most-left (Begun ∷ marks) = let e = most-left marks in omega (arith, e)
most-left (Done ∷ marks) = let e = most-left marks in omega (arith, e)

-- where nothing is left nothing is begun
pub none-left : (marks : List Mark) (n : ℕ) → left marks ≤ 0 → slice_get marks n ≡ Some Begun → ⊥
none-left [] n le h = none-some h
none-left (New ∷ marks) n le h = absurd (omega (arith, le))
none-left (Begun ∷ marks) n le h = absurd (omega (arith, le))
none-left (Done ∷ marks) zero le h = begun-done (sym (one-mark h))
none-left (Done ∷ marks) (suc n) le h = none-left marks n le h
