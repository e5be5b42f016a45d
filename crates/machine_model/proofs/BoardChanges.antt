-- What else a step does to boards: a frame is put on top, strands wake, the running one stops, one is picked, others are made.
use Rattle.std.proofs.Common.{◌≡◌, ◌≢◌, ◌<◌, ◌≤◌, ◌+◌, ◌++◌, ◌∙◌, ℕ, zero, suc, Bool, true, false, List, [], ◌∷◌, Option, Some, None, refl, sym, subst, ap, inl, inr, ◌⊎◌, arith}
use Rattle.std.specs.Prelude.{get_or, if◌then◌else◌, map, option_map, remove, slice_get, slice_set}
use Rattle.std.proofs.lemmas.Option.{get_or_from_slice_get, slice_get-map, slice_get_within}
use Rattle.op_model.specs.Common.{Role, End, Need, Status, IsActive, IsBlocked, IsEnded}
use Rattle.op_model.specs.Strands.{end_in}
use Rattle.machine_model.specs.Runs.{Phase, Running, Picking}
use Rattle.machine_model.specs.Strands.{HasRole, IsLaterThanAll, LowestIs, Rise, due_in, idle_times, role_of, times}
use Rattle.machine_model.proofs.Once.{some-same}
use Rattle.machine_model.proofs.Places.{from-map, if-other, if-same, same-or, slice-cases, slice-here, slice-other, times-more, times-remove}
use Rattle.machine_model.proofs.Boards.{AreOnIt, Board, Held, Moves, RunsActive, RunsAt, Seen, at-each, lowest-over, status_in}

-- ---- statuses

pub status-there : (b : Board) (n : ℕ) (status : Status) → status_in b n ≡ Some status → (x : Seen) × (slice_get b.strands n ≡ Some x) × (x.status ≡ status)
status-there b n status e = by (slice_get b.strands n) refl e
  where
    by : (o : Option Seen) → slice_get b.strands n ≡ o → option_map (λ x. x.status) o ≡ Some status → (x : Seen) × (slice_get b.strands n ≡ Some x) × (x.status ≡ status)
    by (Some x) is e = (x, is, some-same x.status status e)
    by None is e = absurd (let no : ⊥ = cc in no)

-- the running strand has not ended
pub not-over : (b : Board) (R : ℕ → List (Option Role)) → Held Running b R → (x : Seen) → slice_get b.strands b.running ≡ Some x → end_in x.status ≢ None → ⊥
not-over b R h x at over = over (ap end_in (some-same x.status IsActive (sym (ap (λ o. option_map (λ z. z.status) o) at) ∙ h.runs)))

-- ---- a frame that is no worker comes on top

none-later : (roles : List (Option Role)) → IsLaterThanAll None roles
none-later [] = tt
none-later (role ∷ roles) = (tt, none-later roles)

pub pushed-held : (b : Board) (R R' : ℕ → List (Option Role)) → Held Running b R → Moves b.running (None ∷ R b.running) R R' → (R b.running ≢ []) ⊎ (b.running ≡ 0) → Held Running b R'
pushed-held b R R' h moves some =
    record {
      ready = h.ready;
      runs = h.runs;
      rest = λ n x at over. at-each (λ k l. (y : Seen) → slice_get b.strands k ≡ Some y → end_in y.status ≢ None → l ≡ []) moves
          (λ y at over. absurd (not-over b R h y at over)) (λ k ne y at over. h.rest k y at over) n x at over;
      on = λ n. at-each (λ k l. AreOnIt b k l) moves (tt, h.on b.running) (λ k ne. h.on k) n;
      rise = λ n. at-each (λ k l. Rise l) moves (none-later (R b.running), h.rise b.running) (λ k ne. h.rise k) n;
      named = λ n x r at e. at-each (λ k l. (y : Seen) → slice_get b.strands k ≡ Some y → y.role ≡ Some r → (k ≢ 0) × RunsAt b k r × ((l ≡ []) ⊎ LowestIs r l)) moves
          (λ y there role. let old = h.named b.running y r there role in (old.0, old.1, inr (lower r old.0 old.2 some)))
          (λ k ne y there role. h.named k y r there role) n x at e;
      crews = λ a w n x on at o. at-each (λ k l. HasRole (role_of a w) (R k) → HasRole (role_of a w) l) moves (λ i. inr i) (λ k ne i. i) n (h.crews a w n x on at o);
      apart = h.apart;
      ends = h.ends;
    }
  where
    lower : (r : Role) → b.running ≢ 0 → (R b.running ≡ []) ⊎ LowestIs r (R b.running) → (R b.running ≢ []) ⊎ (b.running ≡ 0) → LowestIs r (None ∷ R b.running)
    lower r ne (inr low) some = lowest-over r None (R b.running) low
    lower r ne (inl e) (inl not) = absurd (not e)
    lower r ne (inl e) (inr first) = absurd (ne first)

-- ---- the top frame, which is no worker, is gone

pub dropped-held : (b : Board) (R R' : ℕ → List (Option Role)) (roles : List (Option Role)) → Held Running b R → R b.running ≡ None ∷ roles → Moves b.running roles R R' → Held Running b R'
dropped-held b R R' roles h is moves =
    record {
      ready = h.ready;
      runs = h.runs;
      rest = λ n x at over. at-each (λ k l. (y : Seen) → slice_get b.strands k ≡ Some y → end_in y.status ≢ None → l ≡ []) moves
          (λ y at over. absurd (not-over b R h y at over)) (λ k ne y at over. h.rest k y at over) n x at over;
      on = λ n. at-each (λ k l. AreOnIt b k l) moves ((subst (λ l. AreOnIt b b.running l) is (h.on b.running)).1) (λ k ne. h.on k) n;
      rise = λ n. at-each (λ k l. Rise l) moves ((subst Rise is (h.rise b.running)).1) (λ k ne. h.rise k) n;
      named = λ n x r at e. at-each (λ k l. (y : Seen) → slice_get b.strands k ≡ Some y → y.role ≡ Some r → (k ≢ 0) × RunsAt b k r × ((l ≡ []) ⊎ LowestIs r l)) moves
          (λ y there role. let old = h.named b.running y r there role in (old.0, old.1, lower r roles (subst (λ l. (l ≡ []) ⊎ LowestIs r l) is old.2)))
          (λ k ne y there role. h.named k y r there role) n x at e;
      crews = λ a w n x on at o. at-each (λ k l. HasRole (role_of a w) (R k) → HasRole (role_of a w) l) moves
          (λ i. behind a w roles (subst (λ l. HasRole (role_of a w) l) is i)) (λ k ne i. i) n (h.crews a w n x on at o);
      apart = h.apart;
      ends = h.ends;
    }
  where
    lower : (r : Role) (l : List (Option Role)) → ((None ∷ l) ≡ []) ⊎ LowestIs r (None ∷ l) → (l ≡ []) ⊎ LowestIs r l
    lower r l (inl e) = absurd (let no : ⊥ = cc in no)
    lower r [] (inr low) = absurd (let no : ⊥ = cc in no)
    lower r (other ∷ l) (inr low) = inr low

    behind : (a w : ℕ) (l : List (Option Role)) → HasRole (role_of a w) (None ∷ l) → HasRole (role_of a w) l
    behind a w l (inl e) = absurd (let no : ⊥ = cc in no)
    behind a w l (inr i) = i

-- ---- strands wake

module _ (W : Status → Bool) where
  abbrev pub rouse : Seen → Seen
  rouse x = if W x.status then record { role = x.role; status = IsActive } else x

  abbrev pub roused_from : ℕ → List Seen → List ℕ
  roused_from n [] = []
  roused_from n (x ∷ xs) = if W x.status then n ∷ roused_from (n + 1) xs else roused_from (n + 1) xs

  abbrev pub settle : Board → Board
  settle b = record { running = b.running; ready = b.ready ++ roused_from 0 b.strands; strands = map rouse b.strands; crews = b.crews }

  abbrev wakes_at : Option Seen → ℕ
  wakes_at (Some x) = if W x.status then 1 else 0
  wakes_at None = 0

  roused-past : (n k : ℕ) (xs : List Seen) → n < k → times n (roused_from k xs) ≡ 0
  roused-past n k [] lt = refl
  roused-past n k (x ∷ xs) lt = by (W x.status) (roused-past n (k + 1) xs (omega (arith, lt)))
    where
      by : (b : Bool) → times n (roused_from (k + 1) xs) ≡ 0 → times n (if b then k ∷ roused_from (k + 1) xs else roused_from (k + 1) xs) ≡ 0
      by true rest = let e = if-other {A = ℕ} k n 1 0 (λ e. omega (arith, lt, e)) in omega (arith, e, rest)
      by false rest = rest

  times-roused : (k j : ℕ) (xs : List Seen) → times (k + j) (roused_from k xs) ≡ wakes_at (slice_get xs j)
  times-roused k j [] = refl
  times-roused k zero (x ∷ xs) = by (W x.status) (roused-past (k + 0) (k + 1) xs (omega arith))
    where
      by : (b : Bool) → times (k + 0) (roused_from (k + 1) xs) ≡ 0 → times (k + 0) (if b then k ∷ roused_from (k + 1) xs else roused_from (k + 1) xs) ≡ (if b then 1 else 0)
      by true rest = let e = if-same {A = ℕ} k (k + 0) 1 0 (omega arith) in omega (arith, e, rest)
      by false rest = rest
  times-roused k (suc j) (x ∷ xs) = by (W x.status) (subst (λ n. times n (roused_from (k + 1) xs) ≡ wakes_at (slice_get xs j)) (omega arith) (times-roused (k + 1) j xs))
    where
      by : (b : Bool) → times (k + suc j) (roused_from (k + 1) xs) ≡ wakes_at (slice_get xs j) → times (k + suc j) (if b then k ∷ roused_from (k + 1) xs else roused_from (k + 1) xs) ≡ wakes_at (slice_get xs j)
      by true rest = let e = if-other {A = ℕ} k (k + suc j) 1 0 (λ e. omega (arith, e)) in omega (arith, e, rest)
      by false rest = rest

  times-woken : (n : ℕ) (xs : List Seen) → times n (roused_from 0 xs) ≡ wakes_at (slice_get xs n)
  times-woken n xs = subst (λ k. times k (roused_from 0 xs) ≡ wakes_at (slice_get xs n)) (omega arith) (times-roused 0 n xs)

  roused-status : (x : Seen) → (rouse x).status ≡ (if W x.status then IsActive else x.status)
  roused-status x = by (W x.status)
    where
      by : (w : Bool) → (if w then (let y : Seen = record { role = x.role; status = IsActive } in y) else x).status ≡ (if w then IsActive else x.status)
      by true = refl
      by false = refl

  roused-role : (x : Seen) → (rouse x).role ≡ x.role
  roused-role x = by (W x.status)
    where
      by : (w : Bool) → (if w then (let y : Seen = record { role = x.role; status = IsActive } in y) else x).role ≡ x.role
      by true = refl
      by false = refl

  pub settled-status : (b : Board) (n : ℕ) (status : Status) → status_in (settle b) n ≡ Some status → (old : Status) × (status_in b n ≡ Some old) × (status ≡ (if W old then IsActive else old))
  settled-status b n status e =
      let x = status-there (settle b) n status e in
      let old = from-map rouse b.strands n x.0 x.1 in
      (old.0.status, ap (option_map (λ z. z.status)) old.1, sym x.2 ∙ (ap (λ z. z.status) (sym old.2) ∙ roused-status old.0))

  module _ (calm : W IsActive ≡ false) (over : (k : ℕ) (end : End) → W (IsEnded k end) ≡ false) (phase : Phase) (b : Board) (R : ℕ → List (Option Role)) (h : Held phase b R) where
    m : ℕ
    m = b.running

    -- a blocked strand doesn't run
    idle-blocked : (need : Need) (n : ℕ) → status_in b n ≡ Some (IsBlocked need) → idle_times phase b.running n ≡ 1
    idle-blocked need n e = by phase h.runs
      where
        by : (p : Phase) → RunsActive p b → idle_times p b.running n ≡ 1
        by Picking runs = refl
        by Running runs = if-other n b.running 0 1 (λ is. let same : status_in b n ≡ status_in b b.running = ap (status_in b) is in let no : ⊥ = cc in no)

    due-status : (n : ℕ) (status : Status) → status_in b n ≡ Some status → due_in phase b.running n (Some (if W status then IsActive else status)) ≡ due_in phase b.running n (Some status) + (if W status then 1 else 0)
    due-status n IsActive e = let w = ap (λ z. due_in phase b.running n (Some (if z then IsActive else IsActive))) calm in let v = ap {B = ℕ} (λ z. if z then 1 else 0) calm in omega (arith, w, v)
    due-status n (IsEnded k end) e = let w = ap (λ z. due_in phase b.running n (Some (if z then IsActive else IsEnded k end))) (over k end) in let v = ap {B = ℕ} (λ z. if z then 1 else 0) (over k end) in omega (arith, w, v)
    due-status n (IsBlocked need) e = by (W (IsBlocked need))
      where
        by : (w : Bool) → due_in phase b.running n (Some (if w then IsActive else IsBlocked need)) ≡ 0 + (if w then 1 else 0)
        by true = let one = idle-blocked need n e in omega (arith, one)
        by false = omega arith

    due-roused : (n : ℕ) → due_in phase b.running n (status_in (settle b) n) ≡ due_in phase b.running n (status_in b n) + wakes_at (slice_get b.strands n)
    due-roused n = ap (λ o. due_in phase b.running n (option_map (λ x. x.status) o)) (slice_get-map rouse b.strands n) ∙ by (slice_get b.strands n) refl
      where
        by : (o : Option Seen) → slice_get b.strands n ≡ o → due_in phase b.running n (option_map (λ x. x.status) (option_map rouse o)) ≡ due_in phase b.running n (option_map (λ x. x.status) o) + wakes_at o
        by None e = omega arith
        by (Some x) e = ap (λ z. due_in phase b.running n (Some z)) (roused-status x) ∙ due-status n x.status (ap (λ o. option_map (λ z. z.status) o) e)

    roused-runs : RunsActive phase (settle b)
    roused-runs = by phase h.runs
      where
        by : (p : Phase) → RunsActive p b → RunsActive p (settle b)
        by Picking runs = tt
        by Running runs =
            let x = status-there b b.running IsActive runs in
            ap (λ o. option_map (λ z. z.status) o) (slice_get-map rouse b.strands b.running ∙ ap (option_map rouse) x.1)
            ∙ (ap Some (roused-status x.0) ∙ (ap (λ z. Some (if W z then IsActive else z)) x.2 ∙ ap (λ z. Some (if z then IsActive else IsActive)) calm))

    pub settled-held : Held phase (settle b) R
    settled-held =
        record {
          ready = λ n. let more = times-more n b.ready (roused_from 0 b.strands) in let old = h.ready n in let new = times-woken n b.strands in let due = due-roused n in omega (arith, more, old, new, due);
          runs = roused-runs;
          rest = λ n x at over'. let old = from-map rouse b.strands n x at in rested n old.0 old.1 (λ e. over' (ap (λ z. end_in z.status) (sym old.2) ∙ e)) (W old.0.status) refl;
          on = h.on;
          rise = h.rise;
          named = λ n x r at e. let old = from-map rouse b.strands n x at in h.named n old.0 r old.1 (sym (roused-role old.0) ∙ (ap (λ z. z.role) old.2 ∙ e));
          crews = λ a w n x on at o. let old = from-map rouse b.strands n x at in h.crews a w n old.0 on old.1 o;
          apart = h.apart;
          ends = h.ends;
        }
      where
        rested : (n : ℕ) (x : Seen) → slice_get b.strands n ≡ Some x → end_in (rouse x).status ≢ None → (w : Bool) → W x.status ≡ w → R n ≡ []
        rested n x at ne true e = absurd (ne (ap end_in (roused-status x ∙ ap (λ z. if z then IsActive else x.status) e)))
        rested n x at ne false e = h.rest n x at (λ is. ne (ap end_in (roused-status x ∙ ap (λ z. if z then IsActive else x.status) e) ∙ is))

-- ---- the running strand stops

abbrev pub no_seen : Seen
no_seen = record { role = None; status = IsActive }

abbrev pub stopped_so : Status → Board → Board
stopped_so status b = record b { strands = slice_set b.strands b.running (record { role = (get_or b.strands b.running no_seen).role; status = status }) }

pub stopped-status : (b : Board) (status : Status) (n : ℕ) (other : Status) → status_in (stopped_so status b) n ≡ Some other → ((n ≡ b.running) × (status ≡ other)) ⊎ (status_in b n ≡ Some other)
stopped-status b status n other e = by x.0 x.2 (slice-cases b.strands b.running n new x.0 x.1)
  where
    new : Seen
    new = record { role = (get_or b.strands b.running no_seen).role; status = status }

    x : (x : Seen) × (slice_get (stopped_so status b).strands n ≡ Some x) × (x.status ≡ other)
    x = status-there (stopped_so status b) n other e

    by : (x : Seen) → x.status ≡ other → ((n ≡ b.running) × (new ≡ x)) ⊎ ((n ≢ b.running) × (slice_get b.strands n ≡ Some x)) → ((n ≡ b.running) × (status ≡ other)) ⊎ (status_in b n ≡ Some other)
    by x is (inl (at, same)) = inl (at, ap (λ z. z.status) same ∙ is)
    by x is (inr (ne, old)) = inr (ap (option_map (λ z. z.status)) old ∙ ap Some is)

pub stopped-here : (b : Board) (status : Status) → status_in b b.running ≡ Some IsActive → status_in (stopped_so status b) b.running ≡ Some status
stopped-here b status e =
    let x = status-there b b.running IsActive e in
    ap (option_map (λ z. z.status)) (slice-here b.strands b.running (record { role = (get_or b.strands b.running no_seen).role; status = status }) (slice_get_within b.strands b.running x.0 x.1))

module _ (b : Board) (R : ℕ → List (Option Role)) (h : Held Running b R) (status : Status) (idle : due_in Picking b.running b.running (Some status) ≡ 0) (empty : end_in status ≢ None → R b.running ≡ []) where
  abbrev pub d : Board
  d = stopped_so status b

  abbrev y : Seen
  y = record { role = (get_or b.strands b.running no_seen).role; status = status }

  was : (x : Seen) × (slice_get b.strands b.running ≡ Some x) × (x.status ≡ IsActive)
  was = status-there b b.running IsActive h.runs

  due-other : (n : ℕ) (o : Option Status) → n ≢ b.running → due_in Running b.running n o ≡ due_in Picking b.running n o
  due-other n (Some IsActive) ne = if-other n b.running 0 1 ne
  due-other n (Some (IsBlocked need)) ne = refl
  due-other n (Some (IsEnded k end)) ne = refl
  due-other n None ne = refl

  stopped-ready : (n : ℕ) → times n b.ready ≡ due_in Picking b.running n (status_in d n)
  stopped-ready n = by (same-or n b.running)
    where
      by : (n ≡ b.running) ⊎ (n ≢ b.running) → times n b.ready ≡ due_in Picking b.running n (status_in d n)
      by (inl e) =
          let old = h.ready n in
          let at-old : due_in Running b.running n (status_in b n) ≡ 0 = ap (λ k. due_in Running b.running k (status_in b k)) e ∙ (ap (due_in Running b.running b.running) h.runs ∙ if-same b.running b.running 0 1 refl) in
          let at-new : due_in Picking b.running n (status_in d n) ≡ 0 = ap (λ k. due_in Picking b.running k (status_in d k)) e ∙ (ap (λ o. due_in Picking b.running b.running (option_map (λ z. z.status) o)) (slice-here b.strands b.running y (slice_get_within b.strands b.running was.0 was.1)) ∙ idle) in
          omega (arith, old, at-old, at-new)
      by (inr ne) = h.ready n ∙ (due-other n (status_in b n) ne ∙ ap (λ o. due_in Picking b.running n (option_map (λ z. z.status) o)) (sym (slice-other b.strands b.running n y ne)))

  -- what stands at a place, stood there as the same role before
  stood : (n : ℕ) (x : Seen) → slice_get d.strands n ≡ Some x → (z : Seen) × (slice_get b.strands n ≡ Some z) × (z.role ≡ x.role)
  stood n x at = by (slice-cases b.strands b.running n y x at)
    where
      by : ((n ≡ b.running) × (y ≡ x)) ⊎ ((n ≢ b.running) × (slice_get b.strands n ≡ Some x)) → (z : Seen) × (slice_get b.strands n ≡ Some z) × (z.role ≡ x.role)
      by (inl (e, is)) = (was.0, ap (slice_get b.strands) e ∙ was.1, ap (λ z. z.role) (sym (get_or_from_slice_get b.strands b.running was.0 no_seen was.1)) ∙ ap (λ z. z.role) is)
      by (inr (ne, old)) = (x, old, refl)

  pub stopped-held : Held Picking d R
  stopped-held =
      record {
        ready = stopped-ready;
        runs = tt;
        rest = λ n x at over. rested n x over (slice-cases b.strands b.running n y x at);
        on = h.on;
        rise = h.rise;
        named = λ n x r at e. let old = stood n x at in h.named n old.0 r old.1 (old.2 ∙ e);
        crews = λ a w n x on at o. let old = stood n x at in h.crews a w n old.0 on old.1 o;
        apart = h.apart;
        ends = h.ends;
      }
    where
      rested : (n : ℕ) (x : Seen) → end_in x.status ≢ None → ((n ≡ b.running) × (y ≡ x)) ⊎ ((n ≢ b.running) × (slice_get b.strands n ≡ Some x)) → R n ≡ []
      rested n x over (inl (e, is)) = ap R e ∙ empty (λ none. over (ap (λ z. end_in z.status) (sym is) ∙ none))
      rested n x over (inr (ne, old)) = h.rest n x old over

-- ---- one is picked

module _ (b : Board) (R : ℕ → List (Option Role)) (h : Held Picking b R) (place k : ℕ) (e : slice_get b.ready place ≡ Some k) where
  abbrev picked_so : Board
  picked_so = record b { ready = remove b.ready place; running = k }

  due-picked : (n : ℕ) (o : Option Status) → n ≢ k → due_in Picking b.running n o ≡ due_in Running k n o
  due-picked n (Some IsActive) ne = sym (if-other n k 0 1 ne)
  due-picked n (Some (IsBlocked need)) ne = refl
  due-picked n (Some (IsEnded j end)) ne = refl
  due-picked n None ne = refl

  active : status_in b k ≡ Some IsActive
  active = by (status_in b k) (let old = h.ready k in let less = times-remove k k b.ready place e in let one = if-same {A = ℕ} k k 1 0 refl in omega (arith, old, less, one))
    where
      by : (o : Option Status) → 1 ≤ due_in Picking b.running k o → o ≡ Some IsActive
      by (Some IsActive) lt = refl
      by (Some (IsBlocked need)) lt = absurd (omega (arith, lt))
      by (Some (IsEnded j end)) lt = absurd (omega (arith, lt))
      by None lt = absurd (omega (arith, lt))

  picked-ready : (n : ℕ) → times n (remove b.ready place) ≡ due_in Running k n (status_in b n)
  picked-ready n = by (same-or n k)
    where
      by : (n ≡ k) ⊎ (n ≢ k) → times n (remove b.ready place) ≡ due_in Running k n (status_in b n)
      by (inl is) =
          let old = h.ready n in
          let less = times-remove n k b.ready place e in
          let one = if-same {A = ℕ} k n 1 0 (sym is) in
          let before : due_in Picking b.running n (status_in b n) ≡ 1 = ap (λ j. due_in Picking b.running j (status_in b j)) is ∙ ap (due_in Picking b.running k) active in
          let now : due_in Running k n (status_in b n) ≡ 0 = ap (λ j. due_in Running k j (status_in b j)) is ∙ (ap (due_in Running k k) active ∙ if-same k k 0 1 refl) in
          omega (arith, old, less, one, before, now)
      by (inr ne) =
          let old = h.ready n in
          let less = times-remove n k b.ready place e in
          let none = if-other {A = ℕ} k n 1 0 (λ is. ne (sym is)) in
          let same = due-picked n (status_in b n) ne in
          omega (arith, old, less, none, same)

  pub picked-held : Held Running picked_so R
  picked-held =
      record { ready = picked-ready; runs = active; rest = h.rest; on = h.on; rise = h.rise; named = h.named; crews = h.crews; apart = h.apart; ends = h.ends }
