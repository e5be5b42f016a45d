-- A walk through a graph, step by step.
use Rattle.std.proofs.Common.{◌≡◌, ◌≢◌, ℕ, ◌+◌, ◌<◌, ◌≤◌, ◌⊎◌, inl, inr, ◌↔◌, Bool, true, false, List, [], ◌∷◌, ◌++◌, length, get_or, set, slice_get, take, refl, sym, ap, subst, ◌∙◌, arith, Option, None, Some, length-append, All}
use Rattle.std.specs.List.{Contains}
use Rattle.std.proofs.lemmas.Bool.{cases_lt, false≢true}
use Rattle.std.proofs.lemmas.List.{length-set, map-append, take-append-le, take_all}
use Rattle.std.proofs.lemmas.Option.{slice_get_within}
use Rattle.std.proofs.Math.ListN.{get_or-append}
use Rattle.std.proofs.Math.Seq.{get_or-append_seam, take-append_seam}
use Rattle.std.proofs.lemmas.List.Elements.{All-nil, All-contains, All-more, All-pop, All-push, All-weaker, Contains-push, Contains-append_left, Contains-push_cases}
use Rattle.graphs.specs.Cycles.{Follows, followers}
use Rattle.graphs.specs.Ordering.{HasCycle, IsBehindAll, IsOnce, IsOrder}
use Rattle.graphs.specs.inner.Walks.{AreMarked, AreWalked, Begins, Ends, Goes, IsBegun, IsPath, IsWalked, first_step, left, numbers}
use Rattle.graphs.specs.declared.order.Mark.{Mark}
use Rattle.graphs.specs.declared.order.Mark.TheVariants.{New, Begun, Done}
use Rattle.graphs.specs.declared.order.Step.{Step}
use Rattle.graphs.specs.declared.order.Walk.{Walk}
use Rattle.graphs.proofs.Marks.{begun-done, begun-new, left-begun, left-done, marked-set, new-done, new-set, none-left, none-there, one-mark, set-here, two-marks}
use Rattle.graphs.proofs.Noting.{none-among, same_or_not}
use Rattle.graphs.proofs.Paths.{closes, contains-at, once-pop, once-push, path-moved, path-pop}

-- with one number more, or one fewer
more-has : (xs : List ℕ) (n i : ℕ) → i ≢ n → Contains xs i ↔ Contains (xs ++ n ∷ []) i
more-has xs n i ne = (Contains-append_left xs (n ∷ []) i, λ c. by (Contains-push_cases xs n i c))
  where
    by : Contains xs i ⊎ (n ≡ i) → Contains xs i
    by (inl c) = c
    by (inr e) = absurd (ne (sym e))

fewer-has : (xs : List ℕ) (n i : ℕ) → i ≢ n → Contains (xs ++ n ∷ []) i ↔ Contains xs i
fewer-has xs n i ne = let both = more-has xs n i ne in (both.1, both.0)

same-has : (xs : List ℕ) (n i : ℕ) → i ≢ n → Contains xs i ↔ Contains xs i
same-has xs n i ne = (λ c. c, λ c. c)

numbers-push : (steps : List Step) (s : Step) → numbers (steps ++ s ∷ []) ≡ numbers steps ++ s.number ∷ []
numbers-push steps s = map-append (λ t. t.number) steps (s ∷ [])

-- one part more is done
pub one-done : (order parts : List ℕ) (i : ℕ) → i < length parts → All (Contains order) (take i parts) → Contains order (get_or parts i 0) → All (Contains order) (take (i + 1) parts)
one-done order parts i lt all c = All-more (Contains order) parts i 0 lt all c

-- all parts are
pub all-done : (order parts : List ℕ) (i : ℕ) → length parts ≤ i → All (Contains order) (take i parts) → All (Contains order) parts
all-done order parts i le all = subst (All (Contains order)) (take_all i parts le) all

pub all-within : (order parts : List ℕ) → All (Contains order) parts → All (Contains order) (take (length parts) parts)
all-within order parts all = subst (All (Contains order)) (sym (take_all (length parts) parts (omega arith))) all

module _ (next : List (List ℕ)) where
  behind-push : (order : List ℕ) (n : ℕ) → IsBehindAll next order → All (Contains order) (followers next n) → IsBehindAll next (order ++ n ∷ [])
  behind-push order n behind all place j lt f = by (cases_lt place (length order))
    where
      long : length (order ++ n ∷ []) ≡ length order + 1
      long = length-append order (n ∷ [])

      by : (place < length order) ⊎ (length order ≤ place) → Contains (take place (order ++ n ∷ [])) j
      by (inl small) =
          subst (λ xs. Contains xs j) (sym (take-append-le place order (n ∷ []) (omega (arith, small))))
          (behind place j small (subst (λ i. Follows next i j) (get_or-append order (n ∷ []) 0 place small) f))
      by (inr large) =
          let e : place ≡ length order = omega (arith, large, lt, long) in
          subst (λ p. Contains (take p (order ++ n ∷ [])) j) (sym e)
          (subst (λ xs. Contains xs j) (sym (take-append_seam order (n ∷ [])))
          (All-contains (Contains order) (followers next n) j all
          (subst (λ i. Follows next i j) (get_or-append_seam order n [] 0) (subst (λ p. Follows next (get_or (order ++ n ∷ []) p 0) j) e f))))

  module _ (passed : ℕ) where
    -- a number is begun
    pub walked-begun : (marks : List Mark) (steps : List Step) (order : List ℕ) (n : ℕ) → AreWalked next passed marks steps order → slice_get marks n ≡ Some New
        → IsPath next (steps ++ first_step n ∷ []) → AreWalked next passed (set marks n Begun) (steps ++ first_step n ∷ []) order
    walked-begun marks steps order n w new path = record {
      inside = w.inside;
      long = length-set marks n Begun ∙ w.long;
      passed_are = λ i lt. new-set marks n i Begun small begun-new (w.passed_are i lt);
      done = marked-set marks n Done Begun order order small w.done (same-has order n) (λ h. absurd (begun-done h), λ c. absurd (new-done (two-marks (slice_get marks n) new ((w.done n).1 c))));
      begun = subst (AreMarked (set marks n Begun) Begun) (sym (numbers-push steps (first_step n)))
          (marked-set marks n Begun Begun (numbers steps) (numbers steps ++ n ∷ []) small w.begun (more-has (numbers steps) n) (λ h. Contains-push (numbers steps) n, λ c. refl));
      behind = w.behind;
      once = w.once;
      apart = subst IsOnce (sym (numbers-push steps (first_step n)))
          (once-push (numbers steps) n w.apart (λ c. begun-new (two-marks (slice_get marks n) ((w.begun n).1 c) new)));
      path = path;
      far = All-push (IsBegun next order) steps (first_step n) w.far (All-nil (Contains order));
    }
      where
        small : n < length marks
        small = slice_get_within marks n New new

    -- the last step is at another part
    pub walked-moved : (marks : List Mark) (steps : List Step) (order : List ℕ) (s t : Step) → AreWalked next passed marks (steps ++ s ∷ []) order → s.number ≡ t.number → IsBegun next order t
        → AreWalked next passed marks (steps ++ t ∷ []) order
    walked-moved marks steps order s t w e b = record {
      inside = w.inside;
      long = w.long;
      passed_are = w.passed_are;
      done = w.done;
      begun = subst (AreMarked marks Begun) same w.begun;
      behind = w.behind;
      once = w.once;
      apart = subst IsOnce same w.apart;
      path = path-moved next steps s t e w.path;
      far = All-push (IsBegun next order) steps t (All-pop (IsBegun next order) (steps ++ s ∷ []) steps (Some s) refl w.far).0 b;
    }
      where
        same : numbers (steps ++ s ∷ []) ≡ numbers (steps ++ t ∷ [])
        same = numbers-push steps s ∙ ap (λ n. numbers steps ++ n ∷ []) e ∙ sym (numbers-push steps t)

    module _ (marks : List Mark) (steps : List Step) (order : List ℕ) (s : Step) (w : AreWalked next passed marks (steps ++ s ∷ []) order) where
      -- the number of the last step is begun
      pub last-begun : slice_get marks s.number ≡ Some Begun
      last-begun = (w.begun s.number).1 (subst (λ xs. Contains xs s.number) (sym (numbers-push steps s)) (Contains-push (numbers steps) s.number))

      -- the parts before the one that it is at are done
      pub last-far : IsBegun next order s
      last-far = (All-pop (IsBegun next order) (steps ++ s ∷ []) steps (Some s) refl w.far).1

      -- where that one is begun there is a cycle
      pub last-closes : (k : ℕ) → slice_get (followers next s.number) s.parts ≡ Some k → slice_get marks k ≡ Some Begun → HasCycle next
      last-closes k h b = closes next steps s k w.path (subst (λ xs. Contains xs k) (numbers-push steps s) ((w.begun k).0 b)) h

      -- that one is a number of the graph
      pub last-inside : (k : ℕ) → slice_get (followers next s.number) s.parts ≡ Some k → slice_get marks k ≡ None → ⊥
      last-inside k h none = none-there marks k (subst (λ n. k < n) (sym w.long) (w.inside s.number k (contains-at (followers next s.number) s.parts k h))) none

      -- a number whose parts are done is done
      pub walked-closed : All (Contains order) (followers next s.number) → AreWalked next passed (set marks s.number Done) steps (order ++ s.number ∷ [])
      walked-closed all = record {
        inside = w.inside;
        long = length-set marks n Done ∙ w.long;
        passed_are = λ i lt. new-set marks n i Done small (λ h. new-done (sym h)) (w.passed_are i lt);
        done = marked-set marks n Done Done order (order ++ n ∷ []) small w.done (more-has order n) (λ h. Contains-push order n, λ c. refl);
        begun = marked-set marks n Begun Done (numbers steps ++ n ∷ []) (numbers steps) small (subst (AreMarked marks Begun) (numbers-push steps s) w.begun) (fewer-has (numbers steps) n)
            (λ h. absurd (begun-done (sym h)), λ c. absurd (apart.1 c));
        behind = behind-push order n w.behind all;
        once = once-push order n w.once (λ c. begun-done (two-marks (slice_get marks n) last-begun ((w.done n).1 c)));
        apart = apart.0;
        path = path-pop next steps s w.path;
        far = All-weaker (IsBegun next order) (IsBegun next (order ++ n ∷ []))
            (λ t. All-weaker (Contains order) (Contains (order ++ n ∷ [])) (λ i. Contains-append_left order (n ∷ []) i) (take t.parts (followers next t.number))) steps
            (All-pop (IsBegun next order) (steps ++ s ∷ []) steps (Some s) refl w.far).0;
      }
        where
          n : ℕ
          n = s.number

          small : s.number < length marks
          small = slice_get_within marks s.number Begun last-begun

          apart : IsOnce (numbers steps) × (Contains (numbers steps) s.number → ⊥)
          apart = once-pop (numbers steps) s.number (subst IsOnce (numbers-push steps s) w.apart)

    -- where no step is left and all numbers are passed the numbers are in order
    pub walked-all : (marks : List Mark) (order : List ℕ) → AreWalked next passed marks [] order → length next ≤ passed → IsOrder next order
    walked-all marks order w end = record {
      inside = λ i c. subst (λ n. i < n) w.long (slice_get_within marks i Done ((w.done i).1 c));
      behind = w.behind;
      once = w.once;
      all = λ i lt. by i lt (slice_get marks i) refl;
    }
      where
        by : (i : ℕ) → i < length next → (o : Option Mark) → slice_get marks i ≡ o → Contains order i
        by i lt (Some Done) e = (w.done i).0 e
        by i lt (Some Begun) e = absurd (none-among i ((w.begun i).0 e))
        by i lt (Some New) e = absurd (w.passed_are i (omega (arith, lt, end)) e)
        by i lt None e = absurd (none-there marks i (subst (λ n. i < n) (sym w.long) lt) e)

    -- the same of lists that are equal
    pub walked-as : (marks : List Mark) (steps : List Step) (order : List ℕ) (ms : List Mark) (ss : List Step) (os : List ℕ) → AreWalked next passed marks steps order
        → ms ≡ marks → ss ≡ steps → os ≡ order → AreWalked next passed ms ss os
    walked-as marks steps order ms ss os w em es eo =
        subst (λ x. AreWalked next passed x ss os) (sym em) (subst (λ x. AreWalked next passed marks x os) (sym es) (subst (λ x. AreWalked next passed marks steps x) (sym eo) w))

    -- ---- what calls do

    -- a number that isn't new isn't begun
    pub not-begun : (walk : Walk) (n : ℕ) → IsWalked next passed walk → (slice_get walk.marks.items n ≡ Some New → ⊥) → Begins next passed n walk walk
    not-begun walk n w old = record { walked = w; known = old; less = λ h. absurd (old h) }

    pub is-begun : (old new : Walk) (n : ℕ) → IsWalked next passed old → IsPath next (old.steps.items ++ first_step n ∷ []) → slice_get old.marks.items n ≡ Some New
        → new.marks.items ≡ set old.marks.items n Begun → new.steps.items ≡ old.steps.items ++ first_step n ∷ [] → new.order.items ≡ old.order.items → Begins next passed n old new
    is-begun old new n w path is em es eo =
        let small : n < length old.marks.items = slice_get_within old.marks.items n New is in
        record {
          walked = walked-as (set old.marks.items n Begun) (old.steps.items ++ first_step n ∷ []) old.order.items new.marks.items new.steps.items new.order.items
              (walked-begun old.marks.items old.steps.items old.order.items n w is path) em es eo;
          known = λ h. begun-new (one-mark (sym (set-here old.marks.items n Begun small) ∙ ap (λ ms. slice_get ms n) (sym em) ∙ h));
          less = λ h. ap (λ ms. left ms + 1) em ∙ left-begun old.marks.items n is;
        }

    pub is-closed : (old new : Walk) (s : Step) (n : ℕ) → s.number ≡ n → AreWalked next passed old.marks.items (old.steps.items ++ s ∷ []) old.order.items → All (Contains old.order.items) (followers next n)
        → new.marks.items ≡ set old.marks.items n Done → new.steps.items ≡ old.steps.items → new.order.items ≡ old.order.items ++ n ∷ [] → Goes next passed old new true
    is-closed old new s n e w all em es eo =
        let begun = last-begun old.marks.items old.steps.items old.order.items s w in (
          walked-as (set old.marks.items s.number Done) old.steps.items (old.order.items ++ s.number ∷ []) new.marks.items new.steps.items new.order.items
              (walked-closed old.marks.items old.steps.items old.order.items s w (subst (λ i. All (Contains old.order.items) (followers next i)) (sym e) all))
              (em ∙ ap (λ i. set old.marks.items i Done) (sym e)) es (eo ∙ ap (λ i. old.order.items ++ i ∷ []) (sym e)),
          ap (λ ms. left ms + 1) em ∙ left-done old.marks.items n (subst (λ i. slice_get old.marks.items i ≡ Some Begun) e begun),
        )

    -- where nothing is left no step is
    pub all-closed : (marks : List Mark) (steps : List Step) (order : List ℕ) → AreWalked next passed marks steps order → left marks ≤ 0 → steps ≡ []
    all-closed marks [] order w le = refl
    all-closed marks (s ∷ steps) order w le = absurd (none-left marks s.number le ((w.begun s.number).1 (0, omega arith, refl)))

    pub went-on : (old new : Walk) (going : Bool) → going ≡ true → Goes next passed old new going → IsWalked next passed new × (left new.marks.items + 1 ≡ left old.marks.items)
    went-on old new true e g = g
    went-on old new false e g = absurd (false≢true e)

    pub found-cycle : (old new : Walk) (going : Bool) → going ≡ false → Goes next passed old new going → HasCycle next
    found-cycle old new true e g = absurd (false≢true (sym e))
    found-cycle old new false e g = g

    pub ended : (new : Walk) (whole : Bool) → whole ≡ true → Ends next passed new whole → IsWalked next passed new × (new.steps.items ≡ [])
    ended new true e g = g
    ended new false e g = absurd (false≢true e)

    pub ended-cycle : (new : Walk) (whole : Bool) → whole ≡ false → Ends next passed new whole → HasCycle next
    ended-cycle new true e g = absurd (false≢true (sym e))
    ended-cycle new false e g = g

    -- one number more is passed
    pub one-passed : (walk : Walk) → IsWalked next passed walk → (slice_get walk.marks.items passed ≡ Some New → ⊥) → IsWalked next (passed + 1) walk
    one-passed walk w known = record {
      inside = w.inside;
      long = w.long;
      passed_are = λ i lt h. by i lt h (same_or_not i passed);
      done = w.done;
      begun = w.begun;
      behind = w.behind;
      once = w.once;
      apart = w.apart;
      path = w.path;
      far = w.far;
    }
      where
        by : (i : ℕ) → i < passed + 1 → slice_get walk.marks.items i ≡ Some New → (i ≡ passed) ⊎ (i ≢ passed) → ⊥
        by i lt h (inl e) = known (subst (λ j. slice_get walk.marks.items j ≡ Some New) e h)
        by i lt h (inr ne) = w.passed_are i (less (cases_lt i passed)) h
          where
            less : (i < passed) ⊎ (passed ≤ i) → i < passed
            less (inl small) = small
            less (inr large) = absurd (ne (omega (arith, large, lt)))

    pub all-walked : (walk : Walk) → IsWalked next passed walk → walk.steps.items ≡ [] → length next ≤ passed → IsOrder next walk.order.items
    all-walked walk w none end = walked-all walk.marks.items walk.order.items (subst (λ ss. AreWalked next passed walk.marks.items ss walk.order.items) none w) end
