-- Marks of numbers, one more or several more.
use Rattle.std.proofs.Common.{◌≡◌, ◌∙◌, ◌↔◌, ◌⊎◌, ◌≤◌, ◌<◌, ◌+◌, ◌++◌, ℕ, zero, suc, Bool, true, false, List, [], ◌∷◌, Contains, IsTrue, ap, arith, get_or, inl, inr, length, refl, slice_set, subst, sym, take}
use Rattle.std.specs.Prelude.{Any, replicate}
use Rattle.std.proofs.lemmas.List.{take_all, take_more}
use Rattle.std.proofs.lemmas.Bool.{false≢true}
use Rattle.callable_units.specs.inner.Marks.{AreMarked, IsAmong, Marks}

-- ---- one mark

as-long : (marks : List Bool) (x : ℕ) → length (slice_set marks x true) ≡ length marks
as-long [] x = refl
as-long (m ∷ marks) zero = refl
as-long (m ∷ marks) (suc x) = ap suc (as-long marks x)

is-read : (marks : List Bool) (x n : ℕ) → IsTrue (get_or (slice_set marks x true) n false) → IsTrue (get_or marks n false) ⊎ (x ≡ n)
is-read [] x n t = inl t
is-read (m ∷ marks) zero zero t = inr refl
is-read (m ∷ marks) zero (suc n) t = inl t
is-read (m ∷ marks) (suc x) zero t = inl t
is-read (m ∷ marks) (suc x) (suc n) t = by (is-read marks x n t)
  where
    by : IsTrue (get_or marks n false) ⊎ (x ≡ n) → IsTrue (get_or marks n false) ⊎ (suc x ≡ suc n)
    by (inl s) = inl s
    by (inr e) = inr (ap suc e)

is-kept : (marks : List Bool) (x n : ℕ) → IsTrue (get_or marks n false) → IsTrue (get_or (slice_set marks x true) n false)
is-kept [] x n t = t
is-kept (m ∷ marks) zero zero t = refl
is-kept (m ∷ marks) zero (suc n) t = t
is-kept (m ∷ marks) (suc x) zero t = t
is-kept (m ∷ marks) (suc x) (suc n) t = is-kept marks x n t

is-set : (marks : List Bool) (n : ℕ) → n < length marks → IsTrue (get_or (slice_set marks n true) n false)
is-set [] n lt = absurd (omega (arith, lt))
is-set (m ∷ marks) zero lt = refl
is-set (m ∷ marks) (suc n) lt = is-set marks n (omega (arith, lt))

pub set-marks : (marks new : List Bool) (x : ℕ) → new ≡ slice_set marks x true → Marks (λ n. x ≡ n) marks new
set-marks marks new x is = subst (Marks (λ n. x ≡ n) marks) (sym is) (as-long marks x, (λ n lt. (is-read marks x n, by n lt)))
  where
    by : (n : ℕ) → n < length marks → IsTrue (get_or marks n false) ⊎ (x ≡ n) → IsTrue (get_or (slice_set marks x true) n false)
    by n lt (inl t) = is-kept marks x n t
    by n lt (inr e) = subst (λ (k : ℕ). IsTrue (get_or (slice_set marks k true) n false)) (sym e) (is-set marks n lt)

-- a number beyond
pub unset : (marks : List Bool) (x : ℕ) → length marks ≤ x → marks ≡ slice_set marks x true
unset [] x le = refl
unset (m ∷ marks) zero le = absurd (omega (arith, le))
unset (m ∷ marks) (suc x) le = ap (λ (l : List Bool). m ∷ l) (unset marks x (omega (arith, le)))

-- ---- several

module _ {X : Type 0} (R : X → ℕ → Type 0) where
  any-front : (P : X → Type 0) (xs : List X) (y : X) → Any P xs → Any P (xs ++ y ∷ [])
  any-front P xs y (k, x, lt, is, p) = (k, x, longer xs lt, same xs k lt is, p)
    where
      longer : (zs : List X) → k < length zs → k < length (zs ++ y ∷ [])
      longer zs less = below zs k less
        where
          below : (ws : List X) (j : ℕ) → j < length ws → j < length (ws ++ y ∷ [])
          below [] j h = absurd (omega (arith, h))
          below (w ∷ ws) zero h = omega arith
          below (w ∷ ws) (suc j) h =
              let h' : j < length (ws ++ y ∷ []) = below ws j (omega (arith, h)) in
              omega (arith, h')

      same : (zs : List X) (j : ℕ) → j < length zs → get_or zs j x ≡ x → get_or (zs ++ y ∷ []) j x ≡ x
      same [] j h e = absurd (omega (arith, h))
      same (z ∷ zs) zero h e = e
      same (z ∷ zs) (suc j) h e = same zs j (omega (arith, h)) e

  any-last : (P : X → Type 0) (xs : List X) (y : X) → P y → Any P (xs ++ y ∷ [])
  any-last P [] y p = (0, y, omega arith, refl, p)
  any-last P (x ∷ xs) y p = let (k, z, lt, is, q) = any-last P xs y p in (suc k, z, omega (arith, lt), is, q)

  any-of : (P : X → Type 0) (xs : List X) (y : X) → Any P (xs ++ y ∷ []) → Any P xs ⊎ P y
  any-of P [] y (zero, x, lt, is, p) = inr (subst P (sym is) p)
  any-of P [] y (suc k, x, lt, is, p) = absurd (omega (arith, lt))
  any-of P (z ∷ xs) y (zero, x, lt, is, p) = inl (0, x, omega arith, is, p)
  any-of P (z ∷ xs) y (suc k, x, lt, is, p) = by (any-of P xs y (k, x, omega (arith, lt), is, p))
    where
      by : Any P xs ⊎ P y → Any P (z ∷ xs) ⊎ P y
      by (inl (j, w, less, e, q)) = inl (suc j, w, omega (arith, less), e, q)
      by (inr q) = inr q

  pub marks-none : (xs : List X) (marks : List Bool) → Marks (λ n. Any (λ y. R y n) (take 0 xs)) marks marks
  marks-none xs marks = (refl, (λ n lt. ((λ t. inl t), by n)))
    where
      by : (n : ℕ) → IsTrue (get_or marks n false) ⊎ Any (λ y. R y n) [] → IsTrue (get_or marks n false)
      by n (inl t) = t
      by n (inr (k, x, lt, is, p)) = absurd (omega (arith, lt))

  pub marks-more : (xs : List X) (i : ℕ) (x : X) (old mid new : List Bool) → i < length xs → x ≡ get_or xs i x → Marks (λ n. Any (λ y. R y n) (take i xs)) old mid → Marks (R x) mid new → Marks (λ n. Any (λ y. R y n) (take (i + 1) xs)) old new
  marks-more xs i x old mid new lt is first second =
      subst (λ (l : List X). Marks (λ n. Any (λ y. R y n) l) old new) (sym (take_more xs i x lt ∙ ap (λ (z : X). take i xs ++ z ∷ []) (sym is)))
      (second.0 ∙ first.0, (λ n less. (forth n less, back n less)))
    where
      forth : (n : ℕ) → n < length old → IsTrue (get_or new n false) → IsTrue (get_or old n false) ⊎ Any (λ y. R y n) (take i xs ++ x ∷ [])
      forth n less t = by ((second.1 n (omega (arith, less, first.0))).0 t)
        where
          again : IsTrue (get_or old n false) ⊎ Any (λ y. R y n) (take i xs) → IsTrue (get_or old n false) ⊎ Any (λ y. R y n) (take i xs ++ x ∷ [])
          again (inl s) = inl s
          again (inr a) = inr (any-front (λ y. R y n) (take i xs) x a)

          by : IsTrue (get_or mid n false) ⊎ R x n → IsTrue (get_or old n false) ⊎ Any (λ y. R y n) (take i xs ++ x ∷ [])
          by (inl s) = again ((first.1 n less).0 s)
          by (inr r) = inr (any-last (λ y. R y n) (take i xs) x r)

      back : (n : ℕ) → n < length old → IsTrue (get_or old n false) ⊎ Any (λ y. R y n) (take i xs ++ x ∷ []) → IsTrue (get_or new n false)
      back n less h = by h
        where
          on : IsTrue (get_or mid n false) ⊎ R x n → IsTrue (get_or new n false)
          on q = (second.1 n (omega (arith, less, first.0))).1 q

          again : Any (λ y. R y n) (take i xs) ⊎ R x n → IsTrue (get_or new n false)
          again (inl a) = on (inl ((first.1 n less).1 (inr a)))
          again (inr r) = on (inr r)

          by : IsTrue (get_or old n false) ⊎ Any (λ y. R y n) (take i xs ++ x ∷ []) → IsTrue (get_or new n false)
          by (inl t) = on (inl ((first.1 n less).1 (inl t)))
          by (inr a) = again (any-of (λ y. R y n) (take i xs) x a)

  pub marks-all : (xs : List X) (i : ℕ) (old new : List Bool) → length xs ≤ i → Marks (λ n. Any (λ y. R y n) (take i xs)) old new → Marks (λ n. Any (λ y. R y n) xs) old new
  marks-all xs i old new le h = subst (λ (l : List X). Marks (λ n. Any (λ y. R y n) l) old new) (take_all i xs le) h

-- ---- from no marks on

pub blank-more : (k : ℕ) → replicate k false ++ false ∷ [] ≡ replicate (k + 1) false
blank-more zero = refl
blank-more (suc k) =
    let same : suc (k + 1) ≡ suc k + 1 = omega arith in
    ap (λ (l : List Bool). false ∷ l) (blank-more k) ∙ ap (λ (n : ℕ). replicate n false) same

blank-long : (k : ℕ) → length {A = Bool} (replicate k false) ≡ k
blank-long zero = refl
blank-long (suc k) = ap suc (blank-long k)

blank : (count n : ℕ) → IsTrue (get_or (replicate count false) n false) → ⊥
blank zero n t = false≢true t
blank (suc count) zero t = false≢true t
blank (suc count) (suc n) t = blank count n t

pub told-of : (count : ℕ) (P Q : ℕ → Type 0) (old new : List Bool) → old ≡ replicate count false → Marks Q old new → ((n : ℕ) → P n ↔ Q n) → AreMarked count P new
told-of count P Q old new is h same = (h.0 ∙ long, (λ n lt. ((λ t. (same n).1 (only n ((h.1 n (omega (arith, lt, long))).0 t))), (λ p. (h.1 n (omega (arith, lt, long))).1 (inr ((same n).0 p))))))
  where
    long : length old ≡ count
    long = ap length is ∙ blank-long count

    only : (n : ℕ) → IsTrue (get_or old n false) ⊎ Q n → Q n
    only n (inl t) = absurd (blank count n (subst (λ (l : List Bool). IsTrue (get_or l n false)) is t))
    only n (inr q) = q

pub among : (numbers list : List ℕ) → list ≡ numbers → (n : ℕ) → Contains numbers n ↔ IsAmong list n
among numbers list is n = ((λ h. subst (λ (l : List ℕ). IsAmong l n) (sym is) (forth h)), (λ h. back (subst (λ (l : List ℕ). IsAmong l n) is h)))
  where
    forth : Contains numbers n → IsAmong numbers n
    forth (k, lt, e) = (k, n, lt, e, refl)

    back : IsAmong numbers n → Contains numbers n
    back (k, x, lt, e, same) = subst (Contains numbers) same (k, lt, e)
