-- Steps of a walk through a graph: what it comes to from there on it comes to from before, too.
use Rattle.std.proofs.Common.{◌≡◌, ◌≤◌, ◌<◌, ◌+◌, ◌*◌, ℕ, zero, suc, true, false, List, [], ◌∷◌, ◌++◌, length, drop, reverse, get_or, refl, sym, ap, ◌∙◌, subst, add-one, arith}
use Rattle.std.specs.Prelude.{Contains}
use Rattle.std.proofs.Math.Seq.{drop-cons}
use Rattle.std.proofs.lemmas.List.{append_assoc, append-nil, drop_all, length-append, reverse-append}
use Rattle.graphs.specs.Cycles.{followers}
use Rattle.graphs.specs.Ordering.{IsInside}
use Rattle.package_imports.specs.Order.{IsModuleOrder, Walks, stays, passes, comes, has, others}
use Rattle.package_imports.specs.declared.order.Step.{Step}
use Rattle.package_imports.specs.declared.order.Walk.{Walk}
use Rattle.package_imports.specs.inner.Walking.{Goes, Resumes, first_step, to_go}
use Rattle.package_imports.proofs.Others.{first-few, others-fewer}

turned : (steps : List Step) (s : Step) → reverse (steps ++ s ∷ []) ≡ s ∷ reverse steps
turned steps s = reverse-append steps (s ∷ [])

abbrev pub gone : Step → ℕ → Step
gone s place = record { number = s.number; place = place + 1 }

same-or : (xs : List ℕ) (i a b : ℕ) → i < length xs → get_or xs i a ≡ get_or xs i b
same-or [] i a b lt = absurd (omega (arith, lt))
same-or (x ∷ xs) zero a b lt = refl
same-or (x ∷ xs) (suc i) a b lt = same-or xs i a b (omega (arith, lt))

split-at : (xs : List ℕ) (i : ℕ) → i < length xs → drop i xs ≡ get_or xs i 0 ∷ drop (i + 1) xs
split-at xs i lt = rw add-one (drop-cons xs i 0 lt)

in-line : (a b : List ℕ) (x : ℕ) (c d : List ℕ) → (a ++ b ++ x ∷ []) ++ c ++ d ≡ a ++ (b ++ x ∷ c) ++ d
in-line a b x c d = simp append_assoc

module _ (next : List (List ℕ)) where
  -- ---- numbers that were come to are passed

  pub walk-none : (seen behind : List ℕ) (place : ℕ) → length behind ≤ place → Walks next seen (drop place behind) [] seen
  walk-none seen behind place all = subst (λ rest. Walks next seen rest [] seen) (sym (drop_all place behind all)) (stays seen)

  pub walk-pass : (seen behind : List ℕ) (place : ℕ) (order after : List ℕ) → place < length behind → has seen (get_or behind place 0) ≡ true
      → Walks next seen (drop (place + 1) behind) order after → Walks next seen (drop place behind) order after
  walk-pass seen behind place order after in-it old w =
      subst (λ rest. Walks next seen rest order after) (sym (split-at behind place in-it)) (passes seen (get_or behind place 0) (drop (place + 1) behind) order after old w)

  -- ---- a number is left

  pub leaves : (seen behind : List ℕ) (steps : List Step) (left : List ℕ) (s : Step) (place : ℕ) (new : Walk) → followers next s.number ≡ behind → length behind ≤ place
      → ((order after : List ℕ) → Walks next seen (drop place behind) order after → Walks next seen (drop s.place behind) order after)
      → new.come_to.items ≡ seen → new.steps.items ≡ steps → new.left.items ≡ left ++ s.number ∷ []
      → Goes next seen (steps ++ s ∷ []) left new
  leaves seen behind steps left s place new are all on came stepped went =
      record {
        leads = λ order after r.
            let walk = subst (λ b. Walks next seen (drop s.place b) [] seen) (sym are) (on [] seen (walk-none seen behind place all)) in
            let same : new.left.items ≡ left ++ [] ++ s.number ∷ [] = went ∙ ap (λ l. l ++ s.number ∷ []) (sym (append-nil left)) in
            let here = subst (λ c. Resumes next c (reverse new.steps.items) new.left.items order after) came r in
            let there = subst (λ ss. Resumes next seen (reverse ss) new.left.items order after) stepped here in
            let settled = subst (λ l. Resumes next seen (reverse steps) l order after) same there in
            let R : List Step → Type 0 = λ ss. Resumes next seen ss left order after in
            subst R (sym (turned steps s)) ([], seen, walk, settled);
        less =
            let stood = length-append steps (s ∷ []) in
            (λ i. 2 * length (others (length next) (came i)) + length (stepped i) + 1) ∙ omega (arith, stood);
      }

  -- ---- a number is come to

  inside-next : (s : Step) (place : ℕ) (behind : List ℕ) → IsInside next → followers next s.number ≡ behind → place < length behind → get_or behind place 0 < length next
  inside-next s place behind inside are in-it =
      let number = get_or behind place 0 in
      inside s.number number (subst (λ b. Contains b number) (sym are) (place, in-it, same-or behind place number 0 in-it))

  joined : (seen behind : List ℕ) (steps : List Step) (left : List ℕ) (s : Step) (place number : ℕ) → followers next s.number ≡ behind → drop place behind ≡ number ∷ drop (place + 1) behind → has seen number ≡ false
      → ((order after : List ℕ) → Walks next seen (drop place behind) order after → Walks next seen (drop s.place behind) order after)
      → (order after : List ℕ) → Resumes next (seen ++ number ∷ []) (first_step number ∷ gone s place ∷ steps) left order after → Resumes next seen (s ∷ steps) left order after
  joined seen behind steps left s place number are split fresh on order after (inner, between, w, (more, last, v, r)) =
      let later = subst (λ b. Walks next between (drop (place + 1) b) more last) are v in
      let walk = comes seen number (drop (place + 1) behind) inner between more last fresh w later in
      let here = on (inner ++ number ∷ more) last (subst (λ rest. Walks next seen rest (inner ++ number ∷ more) last) (sym split) walk) in (
        inner ++ number ∷ more,
        last,
        subst (λ b. Walks next seen (drop s.place b) (inner ++ number ∷ more) last) (sym are) here,
        subst (λ l. Resumes next last steps l order after) (in-line left inner number more (s.number ∷ [])) r,
      )

  pub arrives : (seen behind : List ℕ) (steps : List Step) (left : List ℕ) (s : Step) (place number : ℕ) (new : Walk) → IsInside next → followers next s.number ≡ behind
      → place < length behind → get_or behind place 0 ≡ number → has seen number ≡ false
      → ((order after : List ℕ) → Walks next seen (drop place behind) order after → Walks next seen (drop s.place behind) order after)
      → new.come_to.items ≡ seen ++ number ∷ [] → new.steps.items ≡ (steps ++ gone s place ∷ []) ++ first_step number ∷ [] → new.left.items ≡ left
      → Goes next seen (steps ++ s ∷ []) left new
  arrives seen behind steps left s place number new inside are in-it is fresh on came stepped went =
      record {
        leads = λ order after r.
            let here = subst (λ c. Resumes next c (reverse new.steps.items) new.left.items order after) came r in
            let there = subst (λ ss. Resumes next (seen ++ number ∷ []) (reverse ss) new.left.items order after) stepped here in
            let settled = subst (λ l. Resumes next (seen ++ number ∷ []) (reverse ((steps ++ gone s place ∷ []) ++ first_step number ∷ [])) l order after) went there in
            let Q : List Step → Type 0 = λ ss. Resumes next (seen ++ number ∷ []) ss left order after in
            let turned-back = subst Q (turned (steps ++ gone s place ∷ []) (first_step number) ∙ ap (λ ss. first_step number ∷ ss) (turned steps (gone s place))) settled in
            let R : List Step → Type 0 = λ ss. Resumes next seen ss left order after in
            let split : drop place behind ≡ number ∷ drop (place + 1) behind = split-at behind place in-it ∙ ap (λ n. n ∷ drop (place + 1) behind) is in
            subst R (sym (turned steps s)) (joined seen behind (reverse steps) left s place number are split fresh on order after turned-back);
        less =
            let fewer = others-fewer (length next) seen number fresh (subst (λ n. n < length next) is (inside-next s place behind inside are in-it)) in
            let stood = length-append steps (s ∷ []) in
            let both = length-append (steps ++ gone s place ∷ []) (first_step number ∷ []) in
            let one = length-append steps (gone s place ∷ []) in
            (λ i. 2 * length (others (length next) (came i)) + length (stepped i) + 1) ∙ omega (arith, fewer, stood, both, one);
      }

  -- ---- the whole walk

  -- what comes of no steps
  pub ended : (seen : List ℕ) (steps : List Step) (left : List ℕ) → steps ≡ [] → Resumes next seen (reverse steps) left left seen
  ended seen steps left e = subst (λ ss. Resumes next seen (reverse ss) left left seen) (sym e) (refl, refl)

  -- the walk from a number on
  pub walks-from : (number : ℕ) (order after : List ℕ) → Resumes next (number ∷ []) (first_step number ∷ []) [] order after → Walks next [] (number ∷ []) order after
  walks-from number order after (inner, between, w, (o, a)) =
      let walk = comes [] number [] inner between [] between refl w (stays between) in
      subst (λ l. Walks next [] (number ∷ []) l after) (sym o) (subst (λ c. Walks next [] (number ∷ []) (inner ++ number ∷ []) c) (sym a) walk)

-- all modules, where the walk came to its end and the others stand behind it
pub all-ordered : (next : List (List ℕ)) (come_to : List ℕ) (steps : List Step) (left reached seen order : List ℕ) (count : ℕ) → come_to ≡ 0 ∷ [] → steps ≡ first_step 0 ∷ [] → left ≡ []
    → Resumes next come_to (reverse steps) left reached seen → count ≡ length next → order ≡ reached ++ others count seen → IsModuleOrder next order
all-ordered next come_to steps left reached seen order count came stepped went r all is =
    let here = subst (λ c. Resumes next c (reverse steps) left reached seen) came r in
    let there = subst (λ ss. Resumes next (0 ∷ []) (reverse ss) left reached seen) stepped here in
    let settled = subst (λ l. Resumes next (0 ∷ []) (first_step 0 ∷ []) l reached seen) went there in
    record { reached = reached; come_to = seen; walks = walks-from next 0 reached seen settled; is = is ∙ ap (λ n. reached ++ others n seen) all }

pub first-to-go : (next : List (List ℕ)) (come_to : List ℕ) (steps : List Step) (count : ℕ) → come_to ≡ 0 ∷ [] → steps ≡ first_step 0 ∷ [] → 0 < count → count ≡ length next → to_go next come_to steps ≤ 2 * count
first-to-go next come_to steps count came stepped some all =
    subst (λ c. to_go next c steps ≤ 2 * count) (sym came)
    (subst (λ ss. to_go next (0 ∷ []) ss ≤ 2 * count) (sym stepped) (subst (λ n. 2 * length (others n (0 ∷ [])) + 1 ≤ 2 * count) all (first-few count some)))

pub empty-of : (steps : List Step) → length steps ≤ 0 → steps ≡ []
empty-of [] h = refl
empty-of (s ∷ steps) h = absurd (omega (arith, h))
