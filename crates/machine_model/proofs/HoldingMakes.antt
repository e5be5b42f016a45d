-- The making of strands keeps what holds of strands.
use Rattle.std.proofs.Common.{◌≡◌, ◌≢◌, ◌<◌, ◌≤◌, ◌+◌, ◌++◌, ◌∙◌, ℕ, zero, suc, false, List, [], ◌∷◌, Option, Some, None, length, refl, sym, subst, ap, inl, inr, ◌⊎◌, arith}
use Rattle.std.specs.Prelude.{⊤, get_or, map, option_map, slice_get}
use Rattle.std.proofs.lemmas.List.{get_or-append-add, get_or_append_left, length-append, length-map}
use Rattle.std.proofs.lemmas.Option.{slice_get_within}
use Rattle.value_model.specs.Meaning.{Answers}
use Rattle.op_model.specs.CallRows.{strands_made}
use Rattle.op_model.specs.Common.{Common, Need, Role, Status, Strand, IsActive, IsBlocked}
use Rattle.op_model.specs.Effects.{Spawned}
use Rattle.op_model.specs.Strands.{end_in, no_activation, no_channel, strand_made}
use Rattle.machine_model.specs.Machine.{Machine, Frame, State, all_begun, with_begun}
use Rattle.machine_model.specs.Runs.{Running}
use Rattle.machine_model.specs.Strands.{HasRole, frames_in, frames_of, role_of, roles_of}
use Rattle.machine_model.proofs.Alike.{QueueHolds, board, crew_of, seen}
use Rattle.machine_model.proofs.BoardChanges.{status-there}
use Rattle.machine_model.proofs.BoardMakes.{made-held}
use Rattle.machine_model.proofs.Boards.{Board, Held, IsOnIt, IsOpen, Moves, crew_at, no_crew, same-roles, status_in}
use Rattle.machine_model.proofs.Commons.{Unmet, board-made, unmet-made}
use Rattle.machine_model.proofs.Holding.{Inner, TopWaitsAs, not-own, roles_in, top-stays}
use Rattle.machine_model.proofs.Once.{some-same}
use Rattle.machine_model.proofs.Onward.{Onward, at, moves-at}
use Rattle.machine_model.proofs.Places.{get-past, if-other, if-same, same-or, slice-before, slice-last, slice-past}

-- ---- numbers below a bound, or from it on

split : (L n : ℕ) → (n < L) ⊎ ((j : ℕ) × (n ≡ L + j))
split zero n = inr (n, omega arith)
split (suc L) zero = inl (omega arith)
split (suc L) (suc n) = by (split L n)
  where
    by : (n < L) ⊎ ((j : ℕ) × (n ≡ L + j)) → (suc n < suc L) ⊎ ((j : ℕ) × (suc n ≡ suc L + j))
    by (inl lt) = inl (omega (arith, lt))
    by (inr (j, e)) = inr (j, omega (arith, e))

-- ---- strands that are made one behind another

made-running : (ss : List Spawned) (c : Common) → (strands_made ss c).running ≡ c.running
made-running [] c = refl
made-running (s ∷ ss) c = made-running ss (strand_made s.unit s.role c)

made-activations : (ss : List Spawned) (c : Common) → (strands_made ss c).activations ≡ c.activations
made-activations [] c = refl
made-activations (s ∷ ss) c = made-activations ss (strand_made s.unit s.role c)

one-more : {A : Type 0} (l : List A) (x : A) → length (l ++ x ∷ []) ≡ suc (length l)
one-more [] x = refl
one-more (y ∷ l) x = ap suc (one-more l x)

new-strand : ℕ → Option Role → Strand
new-strand unit role = record { unit = unit; role = role; status = IsActive; taken = false }

made-count : (ss : List Spawned) (c : Common) → length (strands_made ss c).strands ≡ length c.strands + length ss
made-count [] c = omega arith
made-count (s ∷ ss) c =
    let more = made-count ss (strand_made s.unit s.role c) in
    let one = one-more c.strands (let x : Strand = record { unit = s.unit; role = s.role; status = IsActive; taken = false } in x) in
    omega (arith, more, one)

board-count : (c : Common) → length (board c).strands ≡ length c.strands
board-count c = length-map c.strands seen

made-one : (unit : ℕ) (role : Option Role) (c : Common) (n : ℕ) → n < length c.strands → status_in (board (strand_made unit role c)) n ≡ status_in (board c) n
made-one unit role c n lt =
    ap (λ b. status_in b n) (board-made unit role c) ∙ ap (option_map (λ z. z.status)) (slice-before (board c).strands (record { role = role; status = IsActive } ∷ []) n (let l = board-count c in omega (arith, lt, l)))

made-old : (ss : List Spawned) (c : Common) (n : ℕ) → n < length c.strands → status_in (board (strands_made ss c)) n ≡ status_in (board c) n
made-old [] c n lt = refl
made-old (s ∷ ss) c n lt =
    let one = one-more c.strands (let x : Strand = record { unit = s.unit; role = s.role; status = IsActive; taken = false } in x) in
    made-old ss (strand_made s.unit s.role c) n (omega (arith, lt, one)) ∙ made-one s.unit s.role c n lt

made-new : (ss : List Spawned) (c : Common) (n : ℕ) (status : Status) → length c.strands ≤ n → status_in (board (strands_made ss c)) n ≡ Some status → status ≡ IsActive
made-new [] c n status le e = absurd (let none : status_in (board c) n ≡ None = ap (option_map (λ z. z.status)) (slice-past (board c).strands n (let l = board-count c in omega (arith, le, l))) in let bad : ⊥ = cc in bad)
made-new (s ∷ ss) c n status le e = by (same-or n (length c.strands)) (λ more. made-new ss (strand_made s.unit s.role c) n status more e)
  where
    one : length (strand_made s.unit s.role c).strands ≡ suc (length c.strands)
    one = one-more c.strands (record { unit = s.unit; role = s.role; status = IsActive; taken = false })

    by : (n ≡ length c.strands) ⊎ (n ≢ length c.strands) → (length (strand_made s.unit s.role c).strands ≤ n → status ≡ IsActive) → status ≡ IsActive
    by (inl is) more =
        let now : status_in (board (strand_made s.unit s.role c)) n ≡ Some IsActive =
        ap (λ b. status_in b n) (board-made s.unit s.role c) ∙ ap (option_map (λ z. z.status)) (slice-last (board c).strands (record { role = s.role; status = IsActive }) n (let l = board-count c in omega (arith, is, l))) in
        some-same status IsActive (sym e ∙ (made-old ss (strand_made s.unit s.role c) n (omega (arith, is, one)) ∙ now))
    by (inr ne) more = more (let lt : length c.strands < n = less (length c.strands) n le (λ e. ne (sym e)) in omega (arith, lt, one))
      where
        less : (i j : ℕ) → i ≤ j → i ≢ j → i < j
        less zero zero le ne = absurd (ne refl)
        less zero (suc j) le ne = omega arith
        less (suc i) zero le ne = absurd (omega (arith, le))
        less (suc i) (suc j) le ne = let lt = less i j (omega (arith, le)) (λ e. ne (ap suc e)) in omega (arith, lt)

made-unmet : (ss : List Spawned) (c : Common) → Unmet c → Unmet (strands_made ss c)
made-unmet [] c h = h
made-unmet (s ∷ ss) c h = made-unmet ss (strand_made s.unit s.role c) (unmet-made s.unit s.role c h)

-- ---- the roles of new strands

abbrev pub ext : List Spawned → ℕ → (ℕ → List (Option Role)) → ℕ → List (Option Role)
ext [] L R = R
ext (s ∷ ss) L R = ext ss (suc L) (at L (s.role ∷ []) R)

ext-before : (ss : List Spawned) (L : ℕ) (R : ℕ → List (Option Role)) (n : ℕ) → n < L → ext ss L R n ≡ R n
ext-before [] L R n lt = refl
ext-before (s ∷ ss) L R n lt = ext-before ss (suc L) (at L (s.role ∷ []) R) n (omega (arith, lt)) ∙ if-other n L (s.role ∷ []) (R n) (λ e. omega (arith, e, lt))

-- each is on its strand, and no other worker is to be there
abbrev pub Claims : Board → ℕ → Option Role → Type 0
Claims b n role = (a w : ℕ) → slice_get (crew_at b a).strands w ≡ Some n → IsOpen b (role_of a w) → role ≡ Some (role_of a w)

abbrev pub Claimed : Board → ℕ → List Spawned → Type 0
Claimed b n [] = ⊤
Claimed b n (s ∷ ss) = (IsOnIt b n s.role × Claims b n s.role) × Claimed b (suc n) ss

made-all : (ss : List Spawned) (c : Common) (R : ℕ → List (Option Role)) (L : ℕ) → L ≡ length c.strands → Held Running (board c) R → Claimed (board c) L ss → Held Running (board (strands_made ss c)) (ext ss L R)
made-all [] c R L e h claimed = h
made-all (s ∷ ss) c R L e h (here, more) =
    let at-end : L ≡ length (board c).strands = e ∙ sym (board-count c) in
    let both : IsOnIt (board c) (length (board c).strands) s.role × Claims (board c) (length (board c).strands) s.role = subst (λ n. IsOnIt (board c) n s.role × Claims (board c) n s.role) at-end here in
    let moves : Moves (length (board c).strands) (s.role ∷ []) R (at L (s.role ∷ []) R) = subst (λ n. Moves n (s.role ∷ []) R (at L (s.role ∷ []) R)) at-end (moves-at L (s.role ∷ []) R) in
    let next = made-held (board c) R (at L (s.role ∷ []) R) s.role h both.0 both.1 moves in
    let one = one-more c.strands (let x : Strand = record { unit = s.unit; role = s.role; status = IsActive; taken = false } in x) in
    made-all ss (strand_made s.unit s.role c) (at L (s.role ∷ []) R) (suc L) (omega (arith, e, one)) (subst (λ b. Held Running b (at L (s.role ∷ []) R)) (sym (board-made s.unit s.role c)) next) more

-- ---- the frames of new strands

module _ {C : Type 0} (natives : Answers) (M : Machine C) where
  frame-of : Spawned → C → Frame C
  frame-of s k = record { unit = s.unit; role = s.role; control = k }

  begun-parts : (s : Spawned) (ss : List Spawned) (more : List (List (Frame C))) → all_begun M (s ∷ ss) ≡ Some more →
      (f : Frame C) × (gs : List (List (Frame C))) × (more ≡ (f ∷ []) ∷ gs) × (f.role ≡ s.role) × (all_begun M ss ≡ Some gs)
  begun-parts s ss more e = by (M.enter s.unit s.args) (all_begun M ss) refl e
    where
      by : (o : Option C) (p : Option (List (List (Frame C)))) → all_begun M ss ≡ p → with_begun M (option_map (λ k. record { unit = s.unit; role = s.role; control = k }) o) p ≡ Some more →
          (f : Frame C) × (gs : List (List (Frame C))) × (more ≡ (f ∷ []) ∷ gs) × (f.role ≡ s.role) × (all_begun M ss ≡ Some gs)
      by (Some k) (Some gs) is e = (record { unit = s.unit; role = s.role; control = k }, gs, sym (some-same _ more e), refl, is)
      by (Some k) None is e = absurd (let bad : ⊥ = cc in bad)
      by None p is e = absurd (let bad : ⊥ = cc in bad)

  begun-count : (ss : List Spawned) (more : List (List (Frame C))) → all_begun M ss ≡ Some more → length more ≡ length ss
  begun-count [] more e = ap length (sym (some-same [] more e))
  begun-count (s ∷ ss) more e = let x = begun-parts s ss more e in ap length x.2 ∙ ap suc (begun-count ss x.1 x.4)

  begun-full : (ss : List Spawned) (more : List (List (Frame C))) → all_begun M ss ≡ Some more → (j : ℕ) → j < length ss → get_or more j [] ≢ []
  begun-full [] more e j lt = absurd (omega (arith, lt))
  begun-full (s ∷ ss) more e zero lt = let x = begun-parts s ss more e in λ none. let full : get_or more 0 [] ≡ x.0 ∷ [] = ap (λ l. get_or l 0 []) x.2 in let bad : ⊥ = cc in bad
  begun-full (s ∷ ss) more e (suc j) lt = let x = begun-parts s ss more e in λ none. begun-full ss x.1 x.4 j (omega (arith, lt)) (sym (ap (λ l. get_or l (suc j) []) x.2) ∙ none)

  ext-behind : (ss : List Spawned) (L : ℕ) (R : ℕ → List (Option Role)) (more : List (List (Frame C))) → all_begun M ss ≡ Some more → ((j : ℕ) → R (L + j) ≡ []) → (j : ℕ) → ext ss L R (L + j) ≡ roles_of (get_or more j [])
  ext-behind [] L R more e none j = none j ∙ ap (λ l. roles_of (get_or l j [])) (some-same [] more e)
  ext-behind (s ∷ ss) L R more e none zero =
      let x = begun-parts s ss more e in
      ext-before ss (suc L) (at L (s.role ∷ []) R) (L + 0) (omega arith)
      ∙ (if-same (L + 0) L (s.role ∷ []) (R (L + 0)) (omega arith) ∙ (ap (λ r. r ∷ []) (sym x.3) ∙ ap (λ l. roles_of (get_or l 0 [])) (sym x.2)))
  ext-behind (s ∷ ss) L R more e none (suc j) =
      let x = begun-parts s ss more e in
      let rest = ext-behind ss (suc L) (at L (s.role ∷ []) R) x.1 x.4 (λ i. if-other (suc L + i) L (s.role ∷ []) (R (suc L + i)) (λ is. omega (arith, is)) ∙ (ap R (let same : suc L + i ≡ L + suc i = omega arith in same) ∙ none (suc i))) j in
      ap (ext ss (suc L) (at L (s.role ∷ []) R)) (let same : L + suc j ≡ suc L + j = omega arith in same) ∙ (rest ∙ ap (λ l. roles_of (get_or l (suc j) [])) (sym x.2))

  -- ---- the state behind it

  module _ (s : State C) (inner : Inner natives M Running s) (g : Frame C) (fs : List (Frame C)) (ss : List Spawned) (c : Common) (more : List (List (Frame C))) (all : all_begun M ss ≡ Some more)
      (goes : Onward (λ r. HasRole r (roles_in natives M Running s s.common.running)) s.common c)
      (held : Held Running (board c) (at s.common.running (g.role ∷ roles_of fs) (roles_in natives M Running s)))
      (claimed : Claimed (board c) (length s.others) ss) (unmet : Unmet c)
      (there : (a w n : ℕ) → slice_get (crew_at (board c) a).strands w ≡ Some n → n < length s.others + length ss) where
    abbrev m : ℕ
    m = s.common.running

    abbrev R : ℕ → List (Option Role)
    R = roles_in natives M Running s

    abbrev d : Common
    d = strands_made ss c

    abbrev pub made-state : State C
    made-state = record { common = d; frames = g ∷ fs; others = s.others ++ more }

    abbrev L : ℕ
    L = length s.others

    at-count : L ≡ length c.strands
    at-count = inner.count ∙ sym goes.count

    runs-still : d.running ≡ m
    runs-still = made-running ss c ∙ goes.running

    m-below : m < L
    m-below = let x = status-there (board s.common) m IsActive inner.held.runs in let lt = slice_get_within (board s.common).strands m x.0 x.1 in let l = board-count s.common in let k = inner.count in omega (arith, lt, l, k)

    new-held : Held Running (board d) (ext ss L (at m (g.role ∷ roles_of fs) R))
    new-held = made-all ss c (at m (g.role ∷ roles_of fs) R) L at-count held claimed

    old-frames : (n : ℕ) → n < L → n ≢ m → frames_in Running made-state n ≡ frames_in Running s n
    old-frames n lt ne =
        if-other n d.running (g ∷ fs) (get_or (s.others ++ more) n []) (λ e. ne (e ∙ runs-still)) ∙ (get_or_append_left s.others more [] n lt ∙ sym (if-other n m s.frames (frames_of s n) ne))

    own-frames : (n : ℕ) → n ≡ m → frames_in Running made-state n ≡ g ∷ fs
    own-frames n e = if-same n d.running (g ∷ fs) (get_or (s.others ++ more) n []) (e ∙ sym runs-still)

    new-frames : (j : ℕ) → frames_in Running made-state (L + j) ≡ get_or more j []
    new-frames j = if-other (L + j) d.running (g ∷ fs) (get_or (s.others ++ more) (L + j) []) (λ e. let k = runs-still in let lt = m-below in omega (arith, e, k, lt)) ∙ get_or-append-add s.others more j []

    none-behind : (j : ℕ) → at m (g.role ∷ roles_of fs) R (L + j) ≡ []
    none-behind j =
        let ne : L + j ≢ m = λ e. let lt = m-below in omega (arith, e, lt) in
        if-other (L + j) m (g.role ∷ roles_of fs) (R (L + j)) ne ∙ ap roles_of (if-other (L + j) m s.frames (frames_of s (L + j)) ne ∙ get-past s.others (L + j) [] (omega arith))

    roles-there : (n : ℕ) → (n < L) ⊎ ((j : ℕ) × (n ≡ L + j)) → (n ≡ m) ⊎ (n ≢ m) → roles_in natives M Running made-state n ≡ ext ss L (at m (g.role ∷ roles_of fs) R) n
    roles-there n (inl lt) (inl e) = ap roles_of (own-frames n e) ∙ sym (ext-before ss L (at m (g.role ∷ roles_of fs) R) n lt ∙ if-same n m (g.role ∷ roles_of fs) (R n) e)
    roles-there n (inl lt) (inr ne) = ap roles_of (old-frames n lt ne) ∙ sym (ext-before ss L (at m (g.role ∷ roles_of fs) R) n lt ∙ if-other n m (g.role ∷ roles_of fs) (R n) ne)
    roles-there n (inr (j, e)) own =
        ap (roles_in natives M Running made-state) e ∙ (ap roles_of (new-frames j) ∙ (sym (ext-behind ss L (at m (g.role ∷ roles_of fs) R) more all none-behind j) ∙ ap (ext ss L (at m (g.role ∷ roles_of fs) R)) (sym e)))

    status-before : (n : ℕ) (status : Status) → n < L → n ≢ m → status_in (board d) n ≡ Some status → (before : Status) × (status_in (board s.common) n ≡ Some before) × ((need : Need) → status ≡ IsBlocked need → before ≡ IsBlocked need) × (end_in status ≡ None → end_in before ≡ None)
    status-before n status lt ne is = goes.old n status ne (sym (made-old ss c n (let e = at-count in omega (arith, lt, e))) ∙ is)

    stop : (n : ℕ) (need : Need) → status_in (board d) n ≡ Some (IsBlocked need) → (n < L) ⊎ ((j : ℕ) × (n ≡ L + j)) → (n ≡ m) ⊎ (n ≢ m) → TopWaitsAs natives M d need (frames_in Running made-state n)
    stop n need is (inl lt) (inl e) = absurd (let active : Some (IsBlocked need) ≡ Some IsActive = sym is ∙ (ap (status_in (board d)) (e ∙ sym runs-still) ∙ new-held.runs) in let bad : ⊥ = cc in bad)
    stop n need is (inl lt) (inr ne) =
        let before = status-before n (IsBlocked need) lt ne is in
        let waited = inner.stopped n need (before.1 ∙ ap Some (before.2 need refl)) in
        subst (λ l. TopWaitsAs natives M d need l) (sym (old-frames n lt ne))
        (top-stays natives M s.common d need (frames_in Running s n)
        (λ a w k i. ap (λ l. slice_get (get_or l a no_activation).strands w) (made-activations ss c) ∙ goes.calls a w k i)
        (λ r i w. ap (λ l. (get_or (get_or (get_or l r.activation no_activation).channels r.worker []) w no_channel).sent) (made-activations ss c) ∙ goes.sent r (λ o. not-own natives M s inner n r ne i o) w) waited)
    stop n need is (inr (j, e)) own = absurd (let active : IsBlocked need ≡ IsActive = made-new ss c n (IsBlocked need) (let k = at-count in omega (arith, e, k)) is in let bad : ⊥ = cc in bad)

    man : (n : ℕ) (status : Status) → status_in (board d) n ≡ Some status → end_in status ≡ None → (n < L) ⊎ ((j : ℕ) × (n ≡ L + j)) → (n ≡ m) ⊎ (n ≢ m) → frames_in Running made-state n ≢ []
    man n status is none (inl lt) (inl e) = λ empty. let full : frames_in Running made-state n ≡ g ∷ fs = own-frames n e in let bad : ⊥ = cc in bad
    man n status is none (inl lt) (inr ne) = let before = status-before n status lt ne is in λ empty. inner.manned n before.0 before.1 (before.3 none) (sym (old-frames n lt ne) ∙ empty)
    man n status is none (inr (j, e)) own =
        let x = status-there (board d) n status is in
        let lt = slice_get_within (board d).strands n x.0 x.1 in
        let l = board-count d in
        let k = made-count ss c in
        let i = at-count in
        λ empty. begun-full ss more all j (omega (arith, lt, l, k, i, e)) (sym (new-frames j) ∙ (ap (frames_in Running made-state) (sym e) ∙ empty))

    pub made-inner : Inner natives M Running made-state
    made-inner =
        record {
          held = same-roles (λ n. roles-there n (split L n) (same-or n m)) new-held;
          there = λ a w n i. let lt = there a w n (ap (λ l. slice_get (get_or (map crew_of l) a no_crew).strands w) (sym (made-activations ss c)) ∙ i) in let k = made-count ss c in let l = board-count d in let e = at-count in omega (arith, lt, k, l, e);
          unmet = made-unmet ss c unmet;
          queues = λ a v w. subst (λ l. QueueHolds (get_or (get_or (get_or l a no_activation).channels v []) w no_channel)) (sym (made-activations ss c)) (goes.queues inner.queues a v w);
          stopped = λ n need is. stop n need is (split L n) (same-or n m);
          manned = λ n status is none. man n status is none (split L n) (same-or n m);
          count = length-append s.others more ∙ (let b = begun-count ss more all in let k = made-count ss c in let e = at-count in omega (arith, b, k, e));
        }
