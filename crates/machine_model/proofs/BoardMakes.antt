-- What the making of strands and of an activation does to boards.
use Rattle.std.proofs.Common.{◌≡◌, ◌≢◌, ◌<◌, ◌≤◌, ◌+◌, ◌++◌, ◌∙◌, ℕ, zero, suc, List, [], ◌∷◌, Option, Some, None, length, refl, sym, subst, ap, inl, inr, ◌⊎◌, arith}
use Rattle.std.specs.Prelude.{option_map, replicate, slice_get}
use Rattle.std.proofs.lemmas.Option.{slice_get_within}
use Rattle.op_model.specs.Common.{Role, End, IsActive}
use Rattle.op_model.specs.Levels.{numbers_from}
use Rattle.op_model.specs.Strands.{end_in}
use Rattle.machine_model.specs.Runs.{Running}
use Rattle.machine_model.specs.Strands.{HasRole, IsLaterThanAll, LowestIs, Rise, due_in, role_of, times}
use Rattle.machine_model.proofs.Once.{some-same}
use Rattle.machine_model.proofs.Places.{get-more, get-past, if-other, if-same, same-or, slice-before, slice-last, slice-more, slice-past, times-more}
use Rattle.machine_model.proofs.Boards.{AreOnIt, AreThere, Board, Crew, Held, IsOnIt, IsOpen, Moves, RunsAt, Seen, at-each, crew_at, no_crew, on-there, status_in}
use Rattle.machine_model.proofs.BoardChanges.{not-over, status-there}

-- ---- numbers one behind another

pub numbers-at : (first k j n : ℕ) → slice_get (numbers_from first k) j ≡ Some n → n ≡ first + j
numbers-at first zero j n e = absurd (let no : ⊥ = cc in no)
numbers-at first (suc k) zero n e = let same : first ≡ n = some-same first n e in omega (arith, same)
numbers-at first (suc k) (suc j) n e = let more = numbers-at (first + 1) k j n e in omega (arith, more)

pub numbers-below : (first k j n : ℕ) → slice_get (numbers_from first k) j ≡ Some n → n < first + k
numbers-below first zero j n e = absurd (let no : ⊥ = cc in no)
numbers-below first (suc k) zero n e = let same : first ≡ n = some-same first n e in omega (arith, same)
numbers-below first (suc k) (suc j) n e = let more = numbers-below (first + 1) k j n e in omega (arith, more)

pub length-numbers : (first k : ℕ) → length (numbers_from first k) ≡ k
length-numbers first zero = refl
length-numbers first (suc k) = ap suc (length-numbers (first + 1) k)

all-none : (k : ℕ) → length (replicate k (let e : Option End = None in e)) ≡ k
all-none zero = refl
all-none (suc k) = ap suc (all-none k)

pub none-there : (k w : ℕ) → w < k → slice_get (replicate k (let e : Option End = None in e)) w ≡ Some None
none-there zero w lt = absurd (omega (arith, lt))
none-there (suc k) zero lt = refl
none-there (suc k) (suc w) lt = none-there k w (omega (arith, lt))

-- a worker is of an activation that is there
pub runs-before : (b : Board) (n : ℕ) (r : Role) → RunsAt b n r → r.activation < length b.crews
runs-before b n r runs = by (same-or-less r.activation (length b.crews))
  where
    same-or-less : (i j : ℕ) → (i < j) ⊎ (j ≤ i)
    same-or-less zero zero = inr (omega arith)
    same-or-less zero (suc j) = inl (omega arith)
    same-or-less (suc i) zero = inr (omega arith)
    same-or-less (suc i) (suc j) = up (same-or-less i j)
      where
        up : (i < j) ⊎ (j ≤ i) → (suc i < suc j) ⊎ (suc j ≤ suc i)
        up (inl l) = inl (omega (arith, l))
        up (inr l) = inr (omega (arith, l))

    by : (r.activation < length b.crews) ⊎ (length b.crews ≤ r.activation) → r.activation < length b.crews
    by (inl l) = l
    by (inr l) = absurd (let none : slice_get (crew_at b r.activation).strands r.worker ≡ None = ap (λ x. slice_get x.strands r.worker) (get-past b.crews r.activation no_crew l) in let no : ⊥ = cc in no)

-- ---- an activation begins: the top frame is its default worker, and its named ones run on strands that are still to be made

module _ (b : Board) (R R' : ℕ → List (Option Role)) (roles : List (Option Role)) (k : ℕ) (h : Held Running b R) (there : AreThere b) (is : R b.running ≡ None ∷ roles)
    (moves : Moves b.running (Some (role_of (length b.crews) 0) ∷ roles) R R') where
  abbrev a : ℕ
  a = length b.crews

  abbrev new : Crew
  new = record { strands = b.running ∷ numbers_from (length b.strands) k; ends = replicate (k + 1) None }

  abbrev pub crewed : Board
  crewed = record b { crews = b.crews ++ new ∷ [] }

  in-range : b.running < length b.strands
  in-range = let x = status-there b b.running IsActive h.runs in slice_get_within b.strands b.running x.0 x.1

  crew-other : (i : ℕ) → i ≢ a → crew_at crewed i ≡ crew_at b i
  crew-other i ne = get-more (λ z. z ≡ crew_at b i) b.crews new no_crew i (λ e. absurd (ne e)) (λ other. refl)

  crew-new : (i : ℕ) → i ≡ a → crew_at crewed i ≡ new
  crew-new i e = get-more (λ z. z ≡ new) b.crews new no_crew i (λ e. refl) (λ ne. absurd (ne e))

  -- what held of workers holds
  kept-on : (n : ℕ) (r : Role) → RunsAt b n r → IsOpen b r → RunsAt crewed n r × IsOpen crewed r
  kept-on n r runs o =
      let before = runs-before b n r runs in
      let same = crew-other r.activation (λ e. omega (arith, e, before)) in
      (ap (λ x. slice_get x.strands r.worker) same ∙ runs, ap (λ x. slice_get x.ends r.worker) same ∙ o)

  kept-runs : (n : ℕ) (r : Role) → RunsAt b n r → RunsAt crewed n r
  kept-runs n r runs = let before = runs-before b n r runs in ap (λ x. slice_get x.strands r.worker) (crew-other r.activation (λ e. omega (arith, e, before))) ∙ runs

  new-on : IsOnIt crewed b.running (Some (role_of a 0))
  new-on = (ap (λ x. slice_get x.strands 0) (crew-new a refl), ap (λ x. slice_get x.ends 0) (crew-new a refl) ∙ none-there (k + 1) 0 (omega arith))

  later-all : (l : List (Option Role)) → AreOnIt b b.running l → IsLaterThanAll (Some (role_of a 0)) l
  later-all [] on = tt
  later-all (None ∷ l) on = (tt, later-all l on.1)
  later-all (Some q ∷ l) on = (runs-before b b.running q on.0.0, later-all l on.1)

  top-on : AreOnIt b b.running roles
  top-on = (subst (λ l. AreOnIt b b.running l) is (h.on b.running)).1

  has-kept : (r : Role) (n : ℕ) → HasRole r (R n) → HasRole r (R' n)
  has-kept r n i = at-each (λ j l. HasRole r (R j) → HasRole r l) moves (λ i. behind (subst (λ l. HasRole r l) is i)) (λ j ne i. i) n i
    where
      behind : HasRole r (None ∷ roles) → HasRole r (Some (role_of a 0) ∷ roles)
      behind (inl e) = absurd (let no : ⊥ = cc in no)
      behind (inr i) = inr i

  -- the strand of a new worker, if it is there, is the running one
  new-has : (w n : ℕ) (x : Seen) → slice_get new.strands w ≡ Some n → slice_get b.strands n ≡ Some x → HasRole (role_of a w) (R' n)
  new-has zero n x on at = subst (λ j. HasRole (role_of a 0) (R' j)) (some-same b.running n on) (subst (λ l. HasRole (role_of a 0) l) (sym moves.here) (inl refl))
  new-has (suc w) n x on at = let e = numbers-at (length b.strands) k w n on in let lt = slice_get_within b.strands n x at in absurd (omega (arith, e, lt))

  new-apart : (v w n : ℕ) → slice_get new.strands v ≡ Some n → slice_get new.strands w ≡ Some n → v ≡ w
  new-apart zero zero n x y = refl
  new-apart zero (suc w) n x y = let e = numbers-at (length b.strands) k w n y in let same : b.running ≡ n = some-same b.running n x in absurd (omega (arith, e, same, in-range))
  new-apart (suc v) zero n x y = let e = numbers-at (length b.strands) k v n x in let same : b.running ≡ n = some-same b.running n y in absurd (omega (arith, e, same, in-range))
  new-apart (suc v) (suc w) n x y = let d = numbers-at (length b.strands) k v n x in let e = numbers-at (length b.strands) k w n y in omega (arith, d, e)

  pub crewed-held : Held Running crewed R'
  crewed-held =
      record {
        ready = h.ready;
        runs = h.runs;
        rest = λ n x at over. at-each (λ j l. (y : Seen) → slice_get b.strands j ≡ Some y → end_in y.status ≢ None → l ≡ []) moves
            (λ y at over. absurd (not-over b R h y at over)) (λ j ne y at over. h.rest j y at over) n x at over;
        on = λ n. at-each (λ j l. AreOnIt crewed j l) moves (new-on, on-there b crewed b.running roles top-on (λ r i runs o. kept-on b.running r runs o))
            (λ j ne. on-there b crewed j (R j) (h.on j) (λ r i runs o. kept-on j r runs o)) n;
        rise = λ n. at-each (λ j l. Rise l) moves (later-all roles top-on, (subst Rise is (h.rise b.running)).1) (λ j ne. h.rise j) n;
        named = λ n x r at e. at-each (λ j l. (y : Seen) → slice_get b.strands j ≡ Some y → y.role ≡ Some r → (j ≢ 0) × RunsAt crewed j r × ((l ≡ []) ⊎ LowestIs r l)) moves
            (λ y at e. let old = h.named b.running y r at e in (old.0, kept-runs b.running r old.1, inr (lowest r roles (subst (λ l. (l ≡ []) ⊎ LowestIs r l) is old.2))))
            (λ j ne y at e. let old = h.named j y r at e in (old.0, kept-runs j r old.1, old.2)) n x at e;
        crews = λ i w n x on at o. crews-kept i w n x on at o (same-or i a);
        apart = λ i v w n x y. apart-kept i v w n x y (same-or i a);
        ends = λ i. ends-kept i (same-or i a);
      }
    where
      lowest : (r : Role) (l : List (Option Role)) → ((None ∷ l) ≡ []) ⊎ LowestIs r (None ∷ l) → LowestIs r (Some (role_of a 0) ∷ l)
      lowest r l (inl e) = absurd (let no : ⊥ = cc in no)
      lowest r [] (inr low) = absurd (let no : ⊥ = cc in no)
      lowest r (other ∷ l) (inr low) = low

      crews-kept : (i w n : ℕ) (x : Seen) → slice_get (crew_at crewed i).strands w ≡ Some n → slice_get b.strands n ≡ Some x → IsOpen crewed (role_of i w) → (i ≡ a) ⊎ (i ≢ a) → HasRole (role_of i w) (R' n)
      crews-kept i w n x on at o (inl e) = subst (λ j. HasRole (role_of j w) (R' n)) (sym e) (new-has w n x (sym (ap (λ z. slice_get z.strands w) (crew-new i e)) ∙ on) at)
      crews-kept i w n x on at o (inr ne) =
          let same = crew-other i ne in
          has-kept (role_of i w) n (h.crews i w n x (sym (ap (λ z. slice_get z.strands w) same) ∙ on) at (sym (ap (λ z. slice_get z.ends w) same) ∙ o))

      apart-kept : (i v w n : ℕ) → slice_get (crew_at crewed i).strands v ≡ Some n → slice_get (crew_at crewed i).strands w ≡ Some n → (i ≡ a) ⊎ (i ≢ a) → v ≡ w
      apart-kept i v w n x y (inl e) = let same = crew-new i e in new-apart v w n (sym (ap (λ z. slice_get z.strands v) same) ∙ x) (sym (ap (λ z. slice_get z.strands w) same) ∙ y)
      apart-kept i v w n x y (inr ne) = let same = crew-other i ne in h.apart i v w n (sym (ap (λ z. slice_get z.strands v) same) ∙ x) (sym (ap (λ z. slice_get z.strands w) same) ∙ y)

      ends-kept : (i : ℕ) → (i ≡ a) ⊎ (i ≢ a) → length (crew_at crewed i).ends ≡ length (crew_at crewed i).strands
      ends-kept i (inl e) =
          let same = crew-new i e in
          let one = all-none (k + 1) in
          let other = length-numbers (length b.strands) k in
          ap (λ z. length z.ends) same ∙ (omega (arith, one, other) ∙ sym (ap (λ z. length z.strands) same))
      ends-kept i (inr ne) = let same = crew-other i ne in ap (λ z. length z.ends) same ∙ (h.ends i ∙ sym (ap (λ z. length z.strands) same))

-- ---- a strand is made, whose frame has this role

module _ (b : Board) (R R' : ℕ → List (Option Role)) (role : Option Role) (h : Held Running b R) (on : IsOnIt b (length b.strands) role)
    (claims : (a w : ℕ) → slice_get (crew_at b a).strands w ≡ Some (length b.strands) → IsOpen b (role_of a w) → role ≡ Some (role_of a w))
    (moves : Moves (length b.strands) (role ∷ []) R R') where
  abbrev made : Seen
  made = record { role = role; status = IsActive }

  abbrev pub strand_more : Board
  strand_more = record b { strands = b.strands ++ made ∷ []; ready = b.ready ++ length b.strands ∷ [] }

  there-now : b.running < length b.strands
  there-now = let x = status-there b b.running IsActive h.runs in slice_get_within b.strands b.running x.0 x.1

  status-before : (n : ℕ) → n < length b.strands → status_in strand_more n ≡ status_in b n
  status-before n lt = ap (λ o. option_map (λ z. z.status) o) (slice-before b.strands (made ∷ []) n lt)

  status-last : (n : ℕ) → n ≡ length b.strands → status_in strand_more n ≡ Some IsActive
  status-last n e = ap (λ o. option_map (λ z. z.status) o) (slice-last b.strands made n e)

  none-past : (n : ℕ) → length b.strands ≤ n → status_in b n ≡ None
  none-past n le = ap (λ o. option_map (λ z. z.status) o) (slice-past b.strands n le)

  past-more : (l : List Seen) (n : ℕ) → n ≢ length l → length l ≤ n → slice_get (l ++ made ∷ []) n ≡ None
  past-more [] zero ne le = absurd (ne refl)
  past-more [] (suc n) ne le = refl
  past-more (x ∷ l) zero ne le = absurd (omega (arith, le))
  past-more (x ∷ l) (suc n) ne le = past-more l n (λ e. ne (ap suc e)) (omega (arith, le))

  less-or : (i j : ℕ) → (i < j) ⊎ (j ≤ i)
  less-or zero zero = inr (omega arith)
  less-or zero (suc j) = inl (omega arith)
  less-or (suc i) zero = inr (omega arith)
  less-or (suc i) (suc j) = up (less-or i j)
    where
      up : (i < j) ⊎ (j ≤ i) → (suc i < suc j) ⊎ (suc j ≤ suc i)
      up (inl l) = inl (omega (arith, l))
      up (inr l) = inr (omega (arith, l))

  more-ready : (n : ℕ) → times n (b.ready ++ length b.strands ∷ []) ≡ due_in Running b.running n (status_in strand_more n)
  more-ready n = by (same-or n (length b.strands)) (less-or n (length b.strands))
    where
      by : (n ≡ length b.strands) ⊎ (n ≢ length b.strands) → (n < length b.strands) ⊎ (length b.strands ≤ n) → times n (b.ready ++ length b.strands ∷ []) ≡ due_in Running b.running n (status_in strand_more n)
      by (inl e) lt =
          let more = times-more n b.ready (length b.strands ∷ []) in
          let one = if-same {A = ℕ} (length b.strands) n 1 0 (sym e) in
          let old = h.ready n in
          let none : due_in Running b.running n (status_in b n) ≡ 0 = ap (due_in Running b.running n) (none-past n (omega (arith, e))) in
          let now : due_in Running b.running n (status_in strand_more n) ≡ 1 = ap (due_in Running b.running n) (status-last n e) ∙ if-other n b.running 0 1 (λ is. omega (arith, is, e, there-now)) in
          omega (arith, more, one, old, none, now)
      by (inr ne) (inl lt) =
          let more = times-more n b.ready (length b.strands ∷ []) in
          let none = if-other {A = ℕ} (length b.strands) n 1 0 (λ e. ne (sym e)) in
          let old = h.ready n in
          let same = ap (due_in Running b.running n) (status-before n lt) in
          omega (arith, more, none, old, same)
      by (inr ne) (inr le) =
          let more = times-more n b.ready (length b.strands ∷ []) in
          let none = if-other {A = ℕ} (length b.strands) n 1 0 (λ e. ne (sym e)) in
          let old = h.ready n in
          let before : due_in Running b.running n (status_in b n) ≡ 0 = ap (due_in Running b.running n) (none-past n le) in
          let now : due_in Running b.running n (status_in strand_more n) ≡ 0 = ap (λ o. due_in Running b.running n (option_map (λ z. z.status) o)) (past-more b.strands n ne le) in
          omega (arith, more, none, old, before, now)

  pub made-held : Held Running strand_more R'
  made-held =
      record {
        ready = more-ready;
        runs = status-before b.running there-now ∙ h.runs;
        rest = λ n x at over. at-each (λ j l. (y : Seen) → slice_get strand_more.strands j ≡ Some y → end_in y.status ≢ None → l ≡ []) moves
            (λ y at over. absurd (over (ap end_in (sym (some-same IsActive y.status (sym (status-last (length b.strands) refl) ∙ ap (λ o. option_map (λ z. z.status) o) at))))))
            (λ j ne y at over. h.rest j y (old-one j y ne at) over) n x at over;
        on = λ n. at-each (λ j l. AreOnIt b j l) moves (on, tt) (λ j ne. h.on j) n;
        rise = λ n. at-each (λ j l. Rise l) moves (tt, tt) (λ j ne. h.rise j) n;
        named = λ n x r at e. at-each (λ j l. (y : Seen) → slice_get strand_more.strands j ≡ Some y → y.role ≡ Some r → (j ≢ 0) × RunsAt b j r × ((l ≡ []) ⊎ LowestIs r l)) moves
            (λ y at e. let is : role ≡ Some r = ap (λ z. z.role) (some-same made y (sym (slice-last b.strands made (length b.strands) refl) ∙ at)) ∙ e in
            ((λ zero'. omega (arith, zero', there-now)), (subst (λ z. IsOnIt b (length b.strands) z) is on).0, inr is))
            (λ j ne y at e. h.named j y r (old-one j y ne at) e) n x at e;
        crews = λ a w n x runs at o. at-each (λ j l. (y : Seen) → slice_get (crew_at b a).strands w ≡ Some j → slice_get strand_more.strands j ≡ Some y → HasRole (role_of a w) l) moves
            (λ y runs at. inl (claims a w runs o)) (λ j ne y runs at. h.crews a w j y runs (old-one j y ne at) o) n x runs at;
        apart = h.apart;
        ends = h.ends;
      }
    where
      old-one : (j : ℕ) (y : Seen) → j ≢ length b.strands → slice_get strand_more.strands j ≡ Some y → slice_get b.strands j ≡ Some y
      old-one j y ne at = by (slice-more b.strands made y j at)
        where
          by : ((j ≡ length b.strands) × (made ≡ y)) ⊎ (slice_get b.strands j ≡ Some y) → slice_get b.strands j ≡ Some y
          by (inl (e, is)) = absurd (ne e)
          by (inr old) = old
