-- Who wakes becomes ready: what is shared stays good, and then nobody whose need is met is blocked.
use Rattle.std.proofs.Common.{◌≡◌, ◌≢◌, ◌<◌, ◌∙◌, ◌+◌, ℕ, zero, suc, Bool, true, false, List, [], ◌∷◌, ◌++◌, Option, Some, None, inl, inr, length, map, refl, sym, ap, subst, arith}
use Rattle.std.proofs.lemmas.List.{length-map}
use Rattle.std.proofs.lemmas.List.Elements.{All-append, Contains-append_cases, Contains-append_left, Contains-append_right}
use Rattle.std.specs.Prelude.{◌⊎◌, ◌&&◌, ◌||◌, All, AllPairs, Contains, IsTrue, get_or, if◌then◌else◌, is_some, not, option_map, slice_get}
use Rattle.std.specs.List.{list_all, list_any}
use Rattle.value_model.specs.Heap.{values_of}
use Rattle.op_model.specs.Common.{AllEnded, AnyGiven, Common, End, IsActive, IsBlocked, IsEnded, Message, Need, Received, Role, Status, Strand}
use Rattle.op_model.specs.Strands.{end_in, end_of, ended_count, has_ended, has_success, is_success, met, no_strand, settled, strand_at, wakes, with_status, woken, woken_from}
use Rattle.machine_model.specs.Runs.{Phase, Picking, Running}
use Rattle.machine_model.proofs.Once.{some-same}
use Rattle.stack_code.specs.declared.code.Code.{Code}
use Rattle.stack_code.specs.Good.{GoodReady, IsKnown, IsLater, IsSameStrand, NearlyCommon, NeedIsThere, RunsOne, StrandAt, StrandFits, WorkerStays}
use Rattle.stack_code.specs.Values.{AllFit, GoodHeap, IsMade, IsWithinUnit}
use Rattle.code_keeping.specs.Laws.{SettlingKeeps}
use Rattle.code_keeping.proofs.Later.{activation-later, end-later, strand-later, to-run-later, variables-later}
use Rattle.code_keeping.proofs.Lists.{at-some, of-some, some-there, some-to}
use Rattle.code_keeping.proofs.Serving.{all-to}
use Rattle.code_keeping.proofs.Shapes.{get-map}
use Rattle.code_keeping.proofs.Staying.{all-later, later-so, made-later, same-calls}

-- ---- a strand that wakes, or stays as it is

woken-cases : (c : Common) (P : Strand → Type 0) (s : Strand) → P s → ((need : Need) → s.status ≡ IsBlocked need → met c need ≡ true → P (with_status s IsActive)) → ((need : Need) → s.status ≡ IsBlocked need → met c need ≡ false → P s) → P (woken c s)
woken-cases c P s stay wake wait = by s.status refl
  where
    so : (b : Bool) → wakes c s.status ≡ b → P (if b then with_status s IsActive else s) → P (woken c s)
    so b e h = subst (λ b. P (if b then with_status s IsActive else s)) (sym e) h

    at : (need : Need) → s.status ≡ IsBlocked need → (b : Bool) → met c need ≡ b → P (woken c s)
    at need e true em = so true (ap (λ z. wakes c z) e ∙ em) (wake need e em)
    at need e false em = so false (ap (λ z. wakes c z) e ∙ em) (wait need e em)

    by : (status : Status) → s.status ≡ status → P (woken c s)
    by IsActive e = so false (ap (λ z. wakes c z) e) stay
    by (IsEnded place end) e = so false (ap (λ z. wakes c z) e) stay
    by (IsBlocked need) e = at need e (met c need) refl

end-same : (c : Common) (s : Strand) → end_in (woken c s).status ≡ end_in s.status
end-same c s = woken-cases c (λ z. end_in z.status ≡ end_in s.status) s refl (λ need e m. sym (ap end_in e)) (λ need e m. refl)

taken-same : (c : Common) (s : Strand) → (woken c s).taken ≡ s.taken
taken-same c s = woken-cases c (λ z. z.taken ≡ s.taken) s refl (λ need e m. refl) (λ need e m. refl)

same-strand : (c : Common) (s : Strand) → IsSameStrand s (woken c s)
same-strand c s = woken-cases c (λ z. IsSameStrand s z) s (refl, refl, λ h. h) (λ need e m. (refl, refl, λ h. absurd (let k : IsTrue (is_some (end_in (IsBlocked need))) = subst (λ z. IsTrue (is_some (end_in z))) e h in let q : ⊥ = cc in q))) (λ need e m. (refl, refl, λ h. h))

get-or-map : {A : Type 0} (f : A → A) (d : A) → f d ≡ d → (xs : List A) (n : ℕ) → get_or (map f xs) n d ≡ f (get_or xs n d)
get-or-map f d e [] n = sym e
get-or-map f d e (x ∷ xs) zero = refl
get-or-map f d e (x ∷ xs) (suc n) = get-or-map f d e xs n

pub all-same : {A : Type 0} (p q : A → Bool) → ((x : A) → p x ≡ q x) → (xs : List A) → list_all p xs ≡ list_all q xs
all-same p q h [] = refl
all-same p q h (x ∷ xs) = ap (λ b. b && list_all p xs) (h x) ∙ ap (λ b. q x && b) (all-same p q h xs)

pub any-same : {A : Type 0} (p q : A → Bool) → ((x : A) → p x ≡ q x) → (xs : List A) → list_any p xs ≡ list_any q xs
any-same p q h [] = refl
any-same p q h (x ∷ xs) = ap (λ b. b || list_any p xs) (h x) ∙ ap (λ b. q x || b) (any-same p q h xs)

module _ (c : Common) where
  abbrev d : Common
  d = settled c

  strand-is : (n : ℕ) → strand_at d n ≡ woken c (strand_at c n)
  strand-is n = get-or-map (woken c) no_strand refl c.strands n

  end-is : (n : ℕ) → end_of d n ≡ end_of c n
  end-is n = ap (λ (s : Strand). end_in s.status) (strand-is n) ∙ end-same c (strand_at c n)

  ended-is : (n : ℕ) → has_ended d n ≡ has_ended c n
  ended-is n = ap (λ (o : Option End). is_some o) (end-is n)

  success-is : (n : ℕ) → has_success d n ≡ has_success c n
  success-is n =
      ap (λ (o : Option End). is_success o && not (strand_at d n).taken) (end-is n)
      ∙ ap (λ b. is_success (end_of c n) && not b) (ap (λ (s : Strand). s.taken) (strand-is n) ∙ taken-same c (strand_at c n))

  met-is : (need : Need) → met d need ≡ met c need
  met-is (Message a from to) = refl
  met-is (Received a from to count) = refl
  met-is (AllEnded ns) = all-same (has_ended d) (has_ended c) ended-is ns
  met-is (AnyGiven ns) =
      ap (λ b. b || list_all (has_ended d) ns) (any-same (has_success d) (has_success c) success-is ns) ∙ ap (λ b. list_any (has_success c) ns || b) (all-same (has_ended d) (has_ended c) ended-is ns)

  count-is : (ss : List Strand) → ended_count (map (woken c) ss) ≡ ended_count ss
  count-is [] = refl
  count-is (s ∷ ss) =
      ap (λ (o : Option End). (if is_some o then 1 else 0) + ended_count (map (woken c) ss)) (end-same c s) ∙ ap (λ n. (if is_some (end_in s.status) then 1 else 0) + n) (count-is ss)

  -- ---- strands by number

  strand-in : (n : ℕ) (s : Strand) → slice_get c.strands n ≡ Some s → slice_get d.strands n ≡ Some (woken c s)
  strand-in n s e = get-map (woken c) c.strands n ∙ ap (λ o. option_map (woken c) o) e

  -- each strand is that of before, or was woken
  each : (P : ℕ → Strand → Type 0) → ((n : ℕ) (s : Strand) → slice_get c.strands n ≡ Some s → P n (woken c s)) → (n : ℕ) (s : Strand) → slice_get d.strands n ≡ Some s → P n s
  each P h n s e = by (slice_get c.strands n) refl (sym (get-map (woken c) c.strands n) ∙ e)
    where
      by : (o : Option Strand) → slice_get c.strands n ≡ o → option_map (woken c) o ≡ Some s → P n s
      by (Some z) ez ew = subst (λ z. P n z) (some-same (woken c z) s ew) (h n z ez)
      by None ez ew = absurd (let q : ⊥ = cc in q)

  pub later : (q : Option Role) → IsLater q c d
  later q = later-so q c d refl (λ n s e. at-some (IsSameStrand s) (slice_get d.strands n) (woken c s) (strand-in n s e) (same-strand c s)) (same-calls c) (stay q)
    where
      stay : (q : Option Role) → WorkerStays q c d
      stay (Some r) = ((λ w. (refl, refl)), refl)
      stay None = tt

  -- ---- who became ready

  abbrev Woke : ℕ → List Strand → ℕ → Type 0
  Woke k ss n = (j : ℕ) × (s : Strand) × (n ≡ k + j) × (slice_get ss j ≡ Some s) × (wakes c s.status ≡ true)

  woke-more : (k : ℕ) (s : Strand) (ss : List Strand) (n : ℕ) → Woke (k + 1) ss n → Woke k (s ∷ ss) n
  woke-more k s ss n (j, z, e, is, w) = (suc j, z, omega (arith, e), is, w)

  woke-all : (k : ℕ) (ss : List Strand) → All (Woke k ss) (woken_from c k ss)
  woke-all k [] = none
    where
      none : All (Woke k []) []
      none i x l = absurd (omega (arith, l))
  woke-all k (s ∷ ss) = by (wakes c s.status) refl (all-to (Woke (k + 1) ss) (Woke k (s ∷ ss)) (λ n h. woke-more k s ss n h) (woken_from c (k + 1) ss) (woke-all (k + 1) ss))
    where
      by : (b : Bool) → wakes c s.status ≡ b → All (Woke k (s ∷ ss)) (woken_from c (k + 1) ss) → All (Woke k (s ∷ ss)) (if b then k ∷ woken_from c (k + 1) ss else woken_from c (k + 1) ss)
      by true e h = first
        where
          first : All (Woke k (s ∷ ss)) (k ∷ woken_from c (k + 1) ss)
          first zero x l = (0, s, omega arith, refl, e)
          first (suc i) x l = h i x (omega (arith, l))
      by false e h = h

  woke-in : (k : ℕ) (ss : List Strand) (j : ℕ) (s : Strand) → slice_get ss j ≡ Some s → wakes c s.status ≡ true → Contains (woken_from c k ss) (k + j)
  woke-in k [] j s e w = absurd (let q : ⊥ = cc in q)
  woke-in k (z ∷ ss) zero s e w =
      let ez : wakes c z.status ≡ true = subst (λ y. wakes c y.status ≡ true) (sym (some-same z s e)) w in
      subst (λ b. Contains (if b then k ∷ woken_from c (k + 1) ss else woken_from c (k + 1) ss) (k + 0)) (sym ez) (0, omega arith, omega arith)
  woke-in k (z ∷ ss) (suc j) s e w = by (wakes c z.status) (subst (λ n. Contains (woken_from c (k + 1) ss) n) (omega arith) (woke-in (k + 1) ss j s e w))
    where
      by : (b : Bool) → Contains (woken_from c (k + 1) ss) (k + suc j) → Contains (if b then k ∷ woken_from c (k + 1) ss else woken_from c (k + 1) ss) (k + suc j)
      by true (i, l, is) = (suc i, omega (arith, l), is)
      by false h = h

  -- no number comes twice
  woke-once : (k : ℕ) (ss : List Strand) → AllPairs (λ n m. n ≢ m) (woken_from c k ss)
  woke-once k [] = none
    where
      none : AllPairs {X = ℕ} (λ n m. n ≢ m) []
      none i j x lt l = absurd (omega (arith, l))
  woke-once k (s ∷ ss) = by (wakes c s.status) (woke-once (k + 1) ss) (woke-all (k + 1) ss)
    where
      by : (b : Bool) → AllPairs (λ n m. n ≢ m) (woken_from c (k + 1) ss) → All (Woke (k + 1) ss) (woken_from c (k + 1) ss) → AllPairs (λ n m. n ≢ m) (if b then k ∷ woken_from c (k + 1) ss else woken_from c (k + 1) ss)
      by false h all = h
      by true h all = pairs
        where
          later-one : (m : ℕ) → Woke (k + 1) ss m → k ≢ m
          later-one m (j, z, e, is, w) same = absurd (omega (arith, e, same))

          pairs : AllPairs (λ n m. n ≢ m) (k ∷ woken_from c (k + 1) ss)
          pairs zero zero x lt l = absurd (omega (arith, lt))
          pairs zero (suc j) x lt l = later-one _ (all j x (omega (arith, l)))
          pairs (suc i) zero x lt l = absurd (omega (arith, lt))
          pairs (suc i) (suc j) x lt l = h i j x (omega (arith, lt)) (omega (arith, l))

-- pairs of a list and another one behind it
pairs-append : {A : Type 0} (R : A → A → Type 0) (xs ys : List A) → AllPairs R xs → AllPairs R ys → ((x : A) → Contains xs x → All (R x) ys) → AllPairs R (xs ++ ys)
pairs-append R [] ys h k across = k
pairs-append {A} R (x ∷ xs) ys h k across = pairs (pairs-append R xs ys (λ i j d lt l. h (suc i) (suc j) d (omega (arith, lt)) (omega (arith, l))) k (λ z (i, l, e). across z (suc i, omega (arith, l), e)))
  where
    behind : All (R x) (xs ++ ys)
    behind = All-append (R x) xs ys (λ j d l. h 0 (suc j) d (omega arith) (omega (arith, l))) (across x (0, omega arith, refl))

    pairs : AllPairs R (xs ++ ys) → AllPairs R (x ∷ xs ++ ys)
    pairs more zero zero d lt l = absurd (omega (arith, lt))
    pairs more zero (suc j) d lt l = behind j d (omega (arith, l))
    pairs more (suc i) zero d lt l = absurd (omega (arith, lt))
    pairs more (suc i) (suc j) d lt l = more i j d (omega (arith, lt)) (omega (arith, l))

module _ (code : Code) (c : Common) where
  abbrev z : Common
  z = settled c

  abbrev l : IsLater None c z
  l = later c None

  heap-so : GoodHeap code c → GoodHeap code z
  heap-so h =
      record {
        mutable = h.mutable;
        immutable = h.immutable;
        members = all-to (λ s. All (IsMade code c) (values_of s.members)) (λ s. All (IsMade code z) (values_of s.members)) (λ s k. all-to (IsMade code c) (IsMade code z) (made-later code None c z l) (values_of s.members) k) c.world.heap.structures h.members;
        functions = all-to (IsWithinUnit code c) (IsWithinUnit code z) (λ f k. (k.0, some-to (λ u. AllFit code c f.captured u.captured) (λ u. AllFit code z f.captured u.captured) (slice_get code.units f.unit) (λ u m. all-later code None c z l f.captured u.captured m) k.1)) c.world.heap.functions h.functions;
        valid = h.valid;
        closed = h.closed;
        short = h.short;
        apart = h.apart;
      }

  many : length z.strands ≡ length c.strands
  many = length-map c.strands (woken c)

  need-so : (need : Need) → NeedIsThere code c need → NeedIsThere code z need
  need-so (Message a from to) h = h
  need-so (Received a from to count) h = h
  need-so (AllEnded ns) h = all-to (λ n. n < length c.strands) (λ n. n < length z.strands) (λ n k. subst (λ m. n < m) (sym many) k) ns h
  need-so (AnyGiven ns) h = all-to (λ n. n < length c.strands) (λ n. n < length z.strands) (λ n k. subst (λ m. n < m) (sym many) k) ns h

  strand-so : (n : ℕ) (s : Strand) → StrandFits code c n s → StrandFits code z n (woken c s)
  strand-so n s h = woken-cases c (λ y. StrandFits code z n y) s as-it-is wakes-up (λ need e m. as-it-is)
    where
      as-it-is : StrandFits code z n s
      as-it-is =
          record {
            end = end-later code c z l n s.unit (end_in s.status) h.end;
            need = λ need e. need-so need (h.need need e);
            before = λ k end e. subst (λ m. k < m) (sym (count-is c c.strands)) (h.before k end e);
            taken = h.taken;
          }

      wakes-up : (need : Need) → s.status ≡ IsBlocked need → met c need ≡ true → StrandFits code z n (with_status s IsActive)
      wakes-up need e m =
          record {
            end = tt;
            need = λ other f. absurd (let q : ⊥ = cc in q);
            before = λ k end f. absurd (let q : ⊥ = cc in q);
            taken = λ t. absurd (let k : IsTrue (is_some (end_in (IsBlocked need))) = subst (λ y. IsTrue (is_some (end_in y))) e (h.taken t) in let q : ⊥ = cc in q);
          }

  -- ---- who is ready

  active-still : (n : ℕ) → StrandAt code c n (λ s. s.status ≡ IsActive) → StrandAt code z n (λ s. s.status ≡ IsActive)
  active-still n h =
      let (s, e, is) = some-there (λ (s : Strand). s.status ≡ IsActive) (slice_get c.strands n) h in
      at-some (λ (s : Strand). s.status ≡ IsActive) (slice_get z.strands n) (woken c s) (strand-in c n s e) (woken-cases c (λ y. y.status ≡ IsActive) s is (λ need f m. refl) (λ need f m. is))

  active-now : (n : ℕ) → Woke c 0 c.strands n → StrandAt code z n (λ s. s.status ≡ IsActive)
  active-now n (j, s, en, is, w) =
      let same : j ≡ n = omega (arith, en) in
      subst (λ k. StrandAt code z k (λ s. s.status ≡ IsActive)) same
      (at-some (λ (s : Strand). s.status ≡ IsActive) (slice_get z.strands j) (woken c s) (strand-in c j s is) (subst (λ b. (if b then with_status s IsActive else s).status ≡ IsActive) (sym w) refl))

  -- what was woken was not active
  not-active : (n : ℕ) → Woke c 0 c.strands n → StrandAt code c n (λ s. s.status ≡ IsActive) → ⊥
  not-active n (j, s, en, is, w) h =
      let same : n ≡ j = omega (arith, en) in
      let active : s.status ≡ IsActive = of-some (λ (s : Strand). s.status ≡ IsActive) (slice_get c.strands n) s (ap (λ k. slice_get c.strands k) same ∙ is) h in
      let no : wakes c IsActive ≡ true = subst (λ y. wakes c y ≡ true) active w in
      let q : ⊥ = cc in q

  ready-so : (phase : Phase) → GoodReady code c phase → GoodReady code z phase
  ready-so phase h =
      record {
        active = All-append (λ n. StrandAt code z n (λ s. s.status ≡ IsActive)) c.ready (woken_from c 0 c.strands) (all-to _ _ active-still c.ready h.active) (all-to (Woke c 0 c.strands) _ active-now (woken_from c 0 c.strands) (woke-all c 0 c.strands));
        once = pairs-append (λ n m. n ≢ m) c.ready (woken_from c 0 c.strands) h.once (woke-once c 0 c.strands)
            (λ n (k, lt, e). all-to (Woke c 0 c.strands) (λ m. n ≢ m) (λ m woke same. not-active m woke (subst (λ i. StrandAt code c i (λ s. s.status ≡ IsActive)) (e ∙ same) (h.active k n lt))) (woken_from c 0 c.strands) (woke-all c 0 c.strands));
        known = each c (λ n s. s.status ≡ IsActive → IsKnown code z phase n) (λ n s e active. known-so n s e active);
        running = running-so phase h.running;
        there = subst (λ m. c.running < m) (sym many) h.there;
      }
    where
      known-more : (phase : Phase) (n : ℕ) → IsKnown code c phase n → IsKnown code z phase n
      known-more Running n (inl k) = inl (Contains-append_left c.ready (woken_from c 0 c.strands) n k)
      known-more Running n (inr e) = inr e
      known-more Picking n k = Contains-append_left c.ready (woken_from c 0 c.strands) n k

      known-woken : (phase : Phase) (n : ℕ) → Contains (woken_from c 0 c.strands) n → IsKnown code z phase n
      known-woken Running n k = inl (Contains-append_right c.ready (woken_from c 0 c.strands) n k)
      known-woken Picking n k = Contains-append_right c.ready (woken_from c 0 c.strands) n k

      known-so : (n : ℕ) (s : Strand) → slice_get c.strands n ≡ Some s → (woken c s).status ≡ IsActive → IsKnown code z phase n
      known-so n s e active = by (wakes c s.status) refl
        where
          by : (b : Bool) → wakes c s.status ≡ b → IsKnown code z phase n
          by true w = known-woken phase n (subst (λ m. Contains (woken_from c 0 c.strands) m) (omega arith) (woke-in c 0 c.strands n s e w))
          by false w = known-more phase n (h.known n s e (subst (λ b. (if b then with_status s IsActive else s).status ≡ IsActive) w active))

      not-woken : StrandAt code c c.running (λ s. s.status ≡ IsActive) → Contains (woken_from c 0 c.strands) c.running → ⊥
      not-woken active (k, lt, e) = not-active c.running (subst (λ n. Woke c 0 c.strands n) e (woke-all c 0 c.strands k c.running lt)) active

      running-so : (phase : Phase) → RunsOne code c phase → RunsOne code z phase
      running-so Running (active, apart) = (active-still c.running active, (λ k. split (Contains-append_cases c.ready (woken_from c 0 c.strands) c.running k)))
        where
          split : Contains c.ready c.running ⊎ Contains (woken_from c 0 c.strands) c.running → ⊥
          split (inl k) = apart k
          split (inr k) = not-woken active k
      running-so Picking h = tt

  nearly-so : (phase : Phase) → NearlyCommon code c phase → NearlyCommon code z phase
  nearly-so phase h =
      record {
        heap = heap-so h.heap;
        variables = variables-later code c z l c.variables code.variables h.variables;
        strands = each c (StrandFits code z) (λ n s e. strand-so n s (h.strands n s e));
        activations = λ a x e. activation-later code c z l a x (h.activations a x e);
        to_run = to-run-later code c z l c.to_run h.to_run;
        ready = ready-so phase h.ready;
        main = strand-later code c z l 0 (λ unit role. (unit ≡ code.start) × (role ≡ None)) h.main;
      }

  settled-so : (n : ℕ) (s : Strand) → slice_get c.strands n ≡ Some s → (need : Need) → (woken c s).status ≡ IsBlocked need → IsTrue (met z need) → ⊥
  settled-so n s e need = by (wakes c s.status) refl
    where
      by : (b : Bool) → wakes c s.status ≡ b → (if b then with_status s IsActive else s).status ≡ IsBlocked need → IsTrue (met z need) → ⊥
      by true w f m = let q : ⊥ = cc in q
      by false w f m =
          let no : met c need ≡ false = subst (λ y. wakes c y ≡ false) f w in
          let yes : met c need ≡ true = sym (met-is c need) ∙ m in
          let q : ⊥ = cc in q

pub settling-keeps : SettlingKeeps
settling-keeps code c phase h =
    (record { nearly = nearly-so code c phase h; settled = λ n s e need. each c (λ n s. (need : Need) → s.status ≡ IsBlocked need → ¬ (IsTrue (met (settled c) need))) (λ n s e. settled-so code c n s e) n s e need }, later c)
