-- A strand is made, of a worker or of none: all that is shared stays good, and what held holds.
use Rattle.std.proofs.Common.{◌≡◌, ◌≢◌, ◌<◌, ◌+◌, ◌∙◌, ℕ, zero, suc, Bool, false, List, [], ◌∷◌, ◌++◌, Option, Some, None, inl, inr, length, refl, sym, ap, subst, arith}
use Rattle.std.proofs.Math.ListN.{get_or-append}
use Rattle.std.proofs.lemmas.List.{length-append}
use Rattle.std.proofs.lemmas.List.Elements.{All-append, All-cons, All-head, All-nil, All-tail, Contains-append_cases, Contains-append_left, Contains-append_right}
use Rattle.std.proofs.lemmas.List.Quantifiers.{all_pairs_push}
use Rattle.std.proofs.lemmas.Option.{slice_get_within}
use Rattle.std.specs.Prelude.{◌⊎◌, ◌&&◌, ◌||◌, All, Contains, IsTrue, get_or, if◌then◌else◌, is_some, not, slice_get}
use Rattle.std.specs.List.{list_all, list_any}
use Rattle.value_model.specs.Heap.{values_of}
use Rattle.op_model.specs.Common.{AllEnded, AnyGiven, Common, IsActive, IsBlocked, Message, Need, Received, Role, Strand}
use Rattle.op_model.specs.Strands.{end_in, ended_count, has_ended, has_success, is_success, met, no_strand, strand_at, strand_made}
use Rattle.machine_model.specs.Runs.{Running}
use Rattle.stack_code.specs.declared.code.Code.{Code}
use Rattle.stack_code.specs.Good.{GoodCommon, GoodReady, IsKnown, IsLater, IsSameStrand, NeedIsThere, StrandAt, StrandFits, WorkerStays}
use Rattle.stack_code.specs.Values.{AllFit, GoodHeap, IsMade, IsWithinUnit}
use Rattle.code_keeping.proofs.Growing.{IsIn, front-or-behind, get-front, get-last}
use Rattle.code_keeping.proofs.Later.{activation-later, end-later, strand-later, to-run-later, variables-later}
use Rattle.code_keeping.proofs.Lists.{at-some, some-there, some-to}
use Rattle.code_keeping.proofs.Serving.{all-to}
use Rattle.code_keeping.proofs.Staying.{all-later, later-so, made-later, same-calls}

-- ---- lists

count-more : (ss : List Strand) (s : Strand) → end_in s.status ≡ None → ended_count (ss ++ s ∷ []) ≡ ended_count ss
count-more [] s e = ap (λ o. (if is_some o then 1 else 0) + 0) e
count-more (x ∷ ss) s e = ap (λ k. (if is_some (end_in x.status) then 1 else 0) + k) (count-more ss s e)

all-same : (p q : ℕ → Bool) (ns : List ℕ) → All (λ n. p n ≡ q n) ns → list_all p ns ≡ list_all q ns
all-same p q [] h = refl
all-same p q (n ∷ ns) h = (λ i. All-head (λ n. p n ≡ q n) n ns h i && all-same p q ns (All-tail (λ n. p n ≡ q n) n ns h) i)

any-same : (p q : ℕ → Bool) (ns : List ℕ) → All (λ n. p n ≡ q n) ns → list_any p ns ≡ list_any q ns
any-same p q [] h = refl
any-same p q (n ∷ ns) h = (λ i. All-head (λ n. p n ≡ q n) n ns h i || any-same p q ns (All-tail (λ n. p n ≡ q n) n ns h) i)

module _ (code : Code) (c : Common) (good : GoodCommon code c Running) (unit : ℕ) (role : Option Role) where
  abbrev pub d : Common
  d = strand_made unit role c

  abbrev pub number : ℕ
  number = length c.strands

  abbrev pub new : Strand
  new = record { unit = unit; role = role; status = IsActive; taken = false }

  pub new-there : slice_get d.strands number ≡ Some new
  new-there = get-last c.strands new

  pub many : length d.strands ≡ number + 1
  many = length-append c.strands (new ∷ [])

  pub front : (n : ℕ) (s : Strand) → slice_get c.strands n ≡ Some s → slice_get d.strands n ≡ Some s
  front n s e = get-front c.strands (new ∷ []) n s e

  -- each strand is as it was, or is the new one
  each : (P : ℕ → Strand → Type 0) → P number new → ((n : ℕ) (s : Strand) → slice_get c.strands n ≡ Some s → P n s) → (n : ℕ) (s : Strand) → slice_get d.strands n ≡ Some s → P n s
  each P mine other n s e = by (front-or-behind c.strands (new ∷ []) n s e)
    where
      by : IsIn c.strands (new ∷ []) n s → P n s
      by (inl e) = other n s e
      by (inr (zero, at, e)) =
          let is : new ≡ s = let k : Some new ≡ Some s = e in (let q : new ≡ s = cc in q) in
          subst (λ k. P k s) (let q : number ≡ n = omega (arith, at) in q) (subst (λ z. P number z) is mine)
      by (inr (suc m, at, e)) = absurd (let q : ⊥ = cc in q)

  -- ---- what comes later

  pub later : (q : Option Role) → IsLater q c d
  later q = later-so q c d refl (λ n s e. at-some (IsSameStrand s) (slice_get d.strands n) s (front n s e) (refl, refl, λ h. h)) (same-calls c) (stay q)
    where
      stay : (q : Option Role) → WorkerStays q c d
      stay (Some r) = ((λ w. (refl, refl)), refl)
      stay None = tt

  -- ---- needs

  same-at : (n : ℕ) → n < number → strand_at d n ≡ strand_at c n
  same-at n l = get_or-append c.strands (new ∷ []) no_strand n l

  has-is : (n : ℕ) → n < number → has_ended d n ≡ has_ended c n
  has-is n l = ap (λ (s : Strand). is_some (end_in s.status)) (same-at n l)

  success-is : (n : ℕ) → n < number → has_success d n ≡ has_success c n
  success-is n l = ap (λ (s : Strand). is_success (end_in s.status) && not s.taken) (same-at n l)

  met-is : (need : Need) → NeedIsThere code c need → met d need ≡ met c need
  met-is (Message a from to) h = refl
  met-is (Received a from to count) h = refl
  met-is (AllEnded ns) h = all-same (has_ended d) (has_ended c) ns (all-to (λ n. n < number) (λ n. has_ended d n ≡ has_ended c n) has-is ns h)
  met-is (AnyGiven ns) h =
      ap (λ b. b || list_all (has_ended d) ns) (any-same (has_success d) (has_success c) ns (all-to (λ n. n < number) (λ n. has_success d n ≡ has_success c n) success-is ns h))
      ∙ ap (λ b. list_any (has_success c) ns || b) (all-same (has_ended d) (has_ended c) ns (all-to (λ n. n < number) (λ n. has_ended d n ≡ has_ended c n) has-is ns h))

  need-so : (need : Need) → NeedIsThere code c need → NeedIsThere code d need
  need-so (Message a from to) h = h
  need-so (Received a from to count) h = h
  need-so (AllEnded ns) h = all-to (λ n. n < number) (λ n. n < length d.strands) (λ n k. omega (arith, k, many)) ns h
  need-so (AnyGiven ns) h = all-to (λ n. n < number) (λ n. n < length d.strands) (λ n k. omega (arith, k, many)) ns h

  -- ---- all that is shared

  heap-so : GoodHeap code c → GoodHeap code d
  heap-so h =
      record {
        mutable = h.mutable;
        immutable = h.immutable;
        members = all-to (λ s. All (IsMade code c) (values_of s.members)) (λ s. All (IsMade code d) (values_of s.members)) (λ s k. all-to (IsMade code c) (IsMade code d) (made-later code None c d (later None)) (values_of s.members) k) c.world.heap.structures h.members;
        functions = all-to (IsWithinUnit code c) (IsWithinUnit code d) (λ f k. (k.0, some-to (λ u. AllFit code c f.captured u.captured) (λ u. AllFit code d f.captured u.captured) (slice_get code.units f.unit) (λ u m. all-later code None c d (later None) f.captured u.captured m) k.1)) c.world.heap.functions h.functions;
        valid = h.valid;
        closed = h.closed;
        short = h.short;
        apart = h.apart;
      }

  strand-so : (n : ℕ) (s : Strand) → StrandFits code c n s → StrandFits code d n s
  strand-so n s h =
      record {
        end = end-later code c d (later None) n s.unit (end_in s.status) h.end;
        need = λ need e. need-so need (h.need need e);
        before = λ k end e. subst (λ m. k < m) (sym (count-more c.strands new refl)) (h.before k end e);
        taken = h.taken;
      }

  new-fits : StrandFits code d number new
  new-fits = record { end = tt; need = λ need e. absurd (let q : ⊥ = cc in q); before = λ k end e. absurd (let q : ⊥ = cc in q); taken = λ h. absurd (let q : ⊥ = cc in q) }

  abbrev Active : Common → ℕ → Type 0
  Active c n = StrandAt code c n (λ s. s.status ≡ IsActive)

  active-so : (n : ℕ) → Active c n → Active d n
  active-so n h = let (s, e, a) = some-there (λ (s : Strand). s.status ≡ IsActive) (slice_get c.strands n) h in at-some (λ (s : Strand). s.status ≡ IsActive) (slice_get d.strands n) s (front n s e) a

  active-below : (n : ℕ) → Active c n → n < number
  active-below n h = let (s, e, a) = some-there (λ (s : Strand). s.status ≡ IsActive) (slice_get c.strands n) h in slice_get_within c.strands n s e

  ready-so : GoodReady code c Running → GoodReady code d Running
  ready-so h =
      record {
        active = All-append (Active d) c.ready (number ∷ []) (all-to (Active c) (Active d) active-so c.ready h.active) (All-cons (Active d) number [] (at-some (λ (s : Strand). s.status ≡ IsActive) (slice_get d.strands number) new new-there refl) (All-nil (Active d)));
        once = all_pairs_push (λ n m. n ≢ m) c.ready number h.once (λ k e l is. let below = active-below (get_or c.ready k e) (h.active k e l) in omega (arith, below, is));
        known = each (λ n s. s.status ≡ IsActive → IsKnown code d Running n) (λ a. inl (Contains-append_right c.ready (number ∷ []) number (0, omega arith, refl))) (λ n s e a. known n (h.known n s e a));
        running = (active-so c.running h.running.0, λ k. not-ready (Contains-append_cases c.ready (number ∷ []) c.running k));
        there = let l = h.there in omega (arith, l, many);
      }
    where
      known : (n : ℕ) → IsKnown code c Running n → IsKnown code d Running n
      known n (inl k) = inl (Contains-append_left c.ready (number ∷ []) n k)
      known n (inr e) = inr e

      not-last : (k : ℕ) → k < 1 → c.running ≡ get_or (number ∷ []) k c.running → ⊥
      not-last zero l e = let below = h.there in omega (arith, below, e)
      not-last (suc k) l e = omega (arith, l)

      not-ready : Contains c.ready c.running ⊎ Contains (number ∷ []) c.running → ⊥
      not-ready (inl k) = h.running.1 k
      not-ready (inr (k, l, e)) = not-last k l (sym e)

  pub good-so : GoodCommon code d Running
  good-so =
      record {
        nearly = record {
          heap = heap-so good.nearly.heap;
          variables = variables-later code c d (later None) c.variables code.variables good.nearly.variables;
          strands = each (StrandFits code d) new-fits (λ n s e. strand-so n s (good.nearly.strands n s e));
          activations = λ a x e. activation-later code c d (later None) a x (good.nearly.activations a x e);
          to_run = to-run-later code c d (later None) c.to_run good.nearly.to_run;
          ready = ready-so good.nearly.ready;
          main = strand-later code c d (later None) 0 (λ unit role. (unit ≡ code.start) × (role ≡ None)) good.nearly.main;
        };
        settled = each (λ n s. (need : Need) → s.status ≡ IsBlocked need → ¬ (IsTrue (met d need))) (λ need e. absurd (let q : ⊥ = cc in q))
            (λ n s e need is m. good.settled n s e need is (subst IsTrue (met-is need ((good.nearly.strands n s e).need need is)) m));
      }
