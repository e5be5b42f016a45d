-- A ready strand is picked: it runs, and what is shared stays good.
use Rattle.std.proofs.Common.{◌≡◌, ◌≢◌, ◌<◌, ◌∙◌, ℕ, zero, suc, List, [], ◌∷◌, Option, Some, None, inl, inr, length, refl, sym, subst, arith}
use Rattle.std.proofs.lemmas.List.Elements.{All-cons, All-head, All-nil, All-tail}
use Rattle.std.specs.Prelude.{◌⊎◌, All, AllPairs, Contains, IsSomeAnd, IsTrue, remove, slice_get, ⊤}
use Rattle.op_model.specs.Common.{AllEnded, AnyGiven, Common, IsActive, Message, Need, Received, Role, Strand}
use Rattle.op_model.specs.Strands.{end_in, met}
use Rattle.machine_model.specs.Runs.{Picking, Running, taken_up}
use Rattle.machine_model.proofs.Once.{some-same}
use Rattle.stack_code.specs.declared.code.Code.{Code}
use Rattle.stack_code.specs.Good.{GoodCommon, IsLater, NeedIsThere, StrandAt, WorkerStays}
use Rattle.stack_code.specs.Values.{GoodHeap}
use Rattle.code_keeping.proofs.Changing.{within}
use Rattle.code_keeping.proofs.Later.{activation-later, end-later, to-run-later}
use Rattle.code_keeping.proofs.Lists.{all-at}
use Rattle.code_keeping.proofs.Staying.{later-so, same-calls, same-strands}
use Rattle.code_keeping_talk.specs.Laws.{PickingKeeps}

-- ---- one place of a list is left out

remove-all : (P : ℕ → Type 0) (xs : List ℕ) (i : ℕ) → All P xs → All P (remove xs i)
remove-all P [] zero h = All-nil P
remove-all P [] (suc i) h = All-nil P
remove-all P (x ∷ xs) zero h = All-tail P x xs h
remove-all P (x ∷ xs) (suc i) h = All-cons P x (remove xs i) (All-head P x xs h) (remove-all P xs i (All-tail P x xs h))

remove-keeps : (xs : List ℕ) (i n m : ℕ) → slice_get xs i ≡ Some n → Contains xs m → Contains (remove xs i) m ⊎ (m ≡ n)
remove-keeps [] i n m e (k, l, is) = absurd (omega (arith, l))
remove-keeps (x ∷ xs) zero n m e (zero, l, is) = inr (sym is ∙ some-same x n e)
remove-keeps (x ∷ xs) zero n m e (suc k, l, is) = inl (k, omega (arith, l), is)
remove-keeps (x ∷ xs) (suc i) n m e (zero, l, is) = inl (0, omega arith, is)
remove-keeps (x ∷ xs) (suc i) n m e (suc k, l, is) = by (remove-keeps xs i n m e (k, omega (arith, l), is))
  where
    by : Contains (remove xs i) m ⊎ (m ≡ n) → Contains (x ∷ remove xs i) m ⊎ (m ≡ n)
    by (inl (j, l, is)) = inl (suc j, omega (arith, l), is)
    by (inr e) = inr e

-- each number stands there once
abbrev Once : List ℕ → Type 0
Once [] = ⊤
Once (x ∷ xs) = All (λ y. x ≢ y) xs × Once xs

once-from : (xs : List ℕ) → AllPairs (λ n m. n ≢ m) xs → Once xs
once-from [] h = tt
once-from (x ∷ xs) h = ((λ k d l. h 0 (suc k) d (omega arith) (omega (arith, l))), once-from xs (λ i j d lt l. h (suc i) (suc j) d (omega (arith, lt)) (omega (arith, l))))

once-to : (xs : List ℕ) → Once xs → AllPairs (λ n m. n ≢ m) xs
once-to [] h i j d lt l = absurd (omega (arith, l))
once-to (x ∷ xs) (first, rest) zero zero d lt l = absurd (omega (arith, lt))
once-to (x ∷ xs) (first, rest) zero (suc j) d lt l = first j d (omega (arith, l))
once-to (x ∷ xs) (first, rest) (suc i) zero d lt l = absurd (omega (arith, lt))
once-to (x ∷ xs) (first, rest) (suc i) (suc j) d lt l = once-to xs rest i j d (omega (arith, lt)) (omega (arith, l))

remove-once : (xs : List ℕ) (i : ℕ) → Once xs → Once (remove xs i)
remove-once [] zero h = tt
remove-once [] (suc i) h = tt
remove-once (x ∷ xs) zero (first, rest) = rest
remove-once (x ∷ xs) (suc i) (first, rest) = (remove-all (λ y. x ≢ y) xs i first, remove-once xs i rest)

remove-gone : (xs : List ℕ) (i n : ℕ) → Once xs → slice_get xs i ≡ Some n → Contains (remove xs i) n → ⊥
remove-gone [] i n h e k = let q : ⊥ = cc in q
remove-gone (x ∷ xs) zero n (first, rest) e (k, l, is) = first k n l (some-same x n e ∙ sym is)
remove-gone (x ∷ xs) (suc i) n (first, rest) e (zero, l, is) = all-at (λ y. x ≢ y) xs i n first e is
remove-gone (x ∷ xs) (suc i) n (first, rest) e (suc k, l, is) = remove-gone xs i n rest e (k, omega (arith, l), is)

-- ---- all that is shared

module _ (code : Code) (c : Common) (place n : ℕ) (good : GoodCommon code c Picking) (at : slice_get c.ready place ≡ Some n) where
  abbrev d : Common
  d = taken_up c place n

  later : (q : Option Role) → IsLater q c d
  later q = later-so q c d refl (same-strands c) (same-calls c) (stay q)
    where
      stay : (q : Option Role) → WorkerStays q c d
      stay (Some r) = ((λ w. (refl, refl)), refl)
      stay None = tt

  heap-so : GoodHeap code c → GoodHeap code d
  heap-so h = record { mutable = h.mutable; immutable = h.immutable; members = h.members; functions = h.functions; valid = h.valid; closed = h.closed; short = h.short; apart = h.apart }

  need-so : (need : Need) → NeedIsThere code c need → NeedIsThere code d need
  need-so (Message a from to) m = m
  need-so (Received a from to count) m = m
  need-so (AllEnded ns) m = m
  need-so (AnyGiven ns) m = m

  met-so : (need : Need) → met d need ≡ met c need
  met-so (Message a from to) = refl
  met-so (Received a from to count) = refl
  met-so (AllEnded ns) = refl
  met-so (AnyGiven ns) = refl

  its-active : StrandAt code c n (λ s. s.status ≡ IsActive)
  its-active = all-at (λ n. StrandAt code c n (λ s. s.status ≡ IsActive)) c.ready place n good.nearly.ready.active at

  pub in-strands : n < length c.strands
  in-strands = by (slice_get c.strands n) refl its-active
    where
      by : (o : Option Strand) → slice_get c.strands n ≡ o → IsSomeAnd o (λ s. s.status ≡ IsActive) → n < length c.strands
      by (Some s) e h = within c.strands n s e
      by None e h = absurd h

  pub picked : GoodCommon code d Running × ((q : Option Role) → IsLater q c d)
  picked = (
    record {
      nearly = record {
        heap = heap-so good.nearly.heap;
        variables = good.nearly.variables;
        strands = λ k s e. let fits = good.nearly.strands k s e in record { end = end-later code c d (later None) k s.unit (end_in s.status) fits.end; need = λ need m. need-so need (fits.need need m); before = fits.before; taken = fits.taken };
        activations = λ a x e. activation-later code c d (later None) a x (good.nearly.activations a x e);
        to_run = to-run-later code c d (later None) c.to_run good.nearly.to_run;
        ready = record {
          active = remove-all (λ n. StrandAt code c n (λ s. s.status ≡ IsActive)) c.ready place good.nearly.ready.active;
          once = once-to (remove c.ready place) (remove-once c.ready place (once-from c.ready good.nearly.ready.once));
          known = λ k s e active. remove-keeps c.ready place n k at (good.nearly.ready.known k s e active);
          running = (its-active, remove-gone c.ready place n (once-from c.ready good.nearly.ready.once) at);
          there = in-strands;
        };
        main = good.nearly.main;
      };
      settled = λ k s e need is m. good.settled k s e need is (subst IsTrue (met-so need) m);
    },
    later,
  )

pub picking-keeps : PickingKeeps
picking-keeps code c place n good at = (picked code c place n good at, in-strands code c place n good at)
