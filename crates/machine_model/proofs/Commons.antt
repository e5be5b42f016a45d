-- What steps do to what is shared, seen as a board, and which needs stay unmet.
use Rattle.std.proofs.Common.{◌≡◌, ◌≤◌, ◌+◌, ◌++◌, ◌&&◌, ◌∙◌, ℕ, zero, suc, Bool, true, false, not, List, [], ◌∷◌, Option, Some, None, length, refl, sym, subst, ap, inl, inr, ◌⊎◌, arith}
use Rattle.std.specs.Prelude.{get_or, if◌then◌else◌, map, option_map, replicate, slice_get, slice_set}
use Rattle.std.proofs.lemmas.List.{length-map, map-set}
use Rattle.std.proofs.lemmas.Option.{get_or_from_slice_get, slice_get-map}
use Rattle.std.proofs.Math.ListN.{get_or-map}
use Rattle.op_model.specs.CallRows.{new_activation}
use Rattle.op_model.specs.Common.{Activation, Common, End, Need, Role, Status, Strand, IsActive, IsBlocked, IsEnded}
use Rattle.op_model.specs.Strands.{activation_at, channel_at, end_in, end_of, is_success, met, no_activation, no_channel, no_strand, settled, strand_at, strand_blocked, strand_made, wakes, with_status, with_strand, woken, woken_from, worker_end, worker_ended}
use Rattle.machine_model.proofs.Alike.{Calm, board, crew_of, seen, still-unmet}
use Rattle.machine_model.proofs.BoardChanges.{no_seen, rouse, roused_from, settle, stopped-status, stopped_so}
use Rattle.machine_model.proofs.Boards.{Crew, Seen, closed, crew_at, status_in}
use Rattle.machine_model.proofs.Once.{some-same}
use Rattle.machine_model.proofs.Places.{from-map, get-more, get-past, set-cases, set-view, slice-more}

-- ---- boards

pub board-strand : (c : Common) (n : ℕ) → get_or (board c).strands n no_seen ≡ seen (strand_at c n)
board-strand c n = get_or-map seen c.strands n no_strand

pub board-crew : (c : Common) (a : ℕ) → crew_at (board c) a ≡ crew_of (activation_at c a)
board-crew c a = get_or-map crew_of c.activations a no_activation

pub board-stopped : (c : Common) (status : Status) → board (with_strand c c.running (with_status (strand_at c c.running) status)) ≡ stopped_so status (board c)
board-stopped c status =
    let x : ℕ → Strand = λ n. with_status (strand_at c n) status in
    let one : map seen (slice_set c.strands c.running (x c.running)) ≡ slice_set (map seen c.strands) c.running (seen (x c.running)) = map-set seen c.strands c.running (x c.running) in
    let same : (record { role = (strand_at c c.running).role; status = status }) ≡ (let y : Seen = record { role = (get_or (board c).strands c.running no_seen).role; status = status } in y) = λ i. record { role = (sym (board-strand c c.running) i).role; status = status } in
    (λ i. record { running = c.running; ready = c.ready; strands = one i; crews = map crew_of c.activations })
    ∙ (λ i. record { running = c.running; ready = c.ready; strands = slice_set (map seen c.strands) c.running (same i); crews = map crew_of c.activations })

pub board-closed : (end : End) (role : Option Role) (c : Common) → board (worker_ended end role c) ≡ closed end role (board c)
board-closed end None c = refl
board-closed end (Some r) c =
    let x = activation_at c r.activation in
    let new : Activation = record { unit = x.unit; strands = x.strands; ends = slice_set x.ends r.worker (Some end); channels = x.channels } in
    let same : Crew → Crew = λ y. record { strands = y.strands; ends = slice_set y.ends r.worker (Some end) } in
    (λ i. record { running = c.running; ready = c.ready; strands = map seen c.strands; crews = map-set crew_of c.activations r.activation new i })
    ∙ (λ i. record { running = c.running; ready = c.ready; strands = map seen c.strands; crews = slice_set (map crew_of c.activations) r.activation (same (sym (board-crew c r.activation) i)) })

map-twice : (c : Common) (xs : List Strand) → map seen (map (woken c) xs) ≡ map (rouse (wakes c)) (map seen xs)
map-twice c [] = refl
map-twice c (x ∷ xs) = (λ i. by (wakes c x.status) i ∷ map-twice c xs i)
  where
    by : (b : Bool) → seen (if b then with_status x IsActive else x) ≡ (if b then record { role = (seen x).role; status = IsActive } else seen x)
    by true = refl
    by false = refl

woken-seen : (c : Common) (n : ℕ) (xs : List Strand) → woken_from c n xs ≡ roused_from (wakes c) n (map seen xs)
woken-seen c n [] = refl
woken-seen c n (x ∷ xs) = (λ i. if wakes c x.status then n ∷ woken-seen c (n + 1) xs i else woken-seen c (n + 1) xs i)

pub board-settled : (c : Common) → board (settled c) ≡ settle (wakes c) (board c)
board-settled c = λ i. record { running = c.running; ready = c.ready ++ woken-seen c 0 c.strands i; strands = map-twice c c.strands i; crews = map crew_of c.activations }

map-more : {A B : Type 0} (f : A → B) (l : List A) (y : A) → map f (l ++ y ∷ []) ≡ map f l ++ f y ∷ []
map-more f [] y = refl
map-more f (x ∷ l) y = ap (λ z. f x ∷ z) (map-more f l y)

pub board-made : (unit : ℕ) (role : Option Role) (c : Common) → board (strand_made unit role c) ≡ (let b = board c in record b { strands = b.strands ++ record { role = role; status = IsActive } ∷ []; ready = b.ready ++ length b.strands ∷ [] })
board-made unit role c =
    λ i. record { running = c.running; ready = c.ready ++ sym (length-map c.strands seen) i ∷ []; strands = map-more seen c.strands (record { unit = unit; role = role; status = IsActive; taken = false }) i; crews = map crew_of c.activations }

-- ---- statuses

pub status-of : (c : Common) (n : ℕ) (x : Strand) → slice_get c.strands n ≡ Some x → status_in (board c) n ≡ Some x.status
status-of c n x e = ap (option_map (λ z. z.status)) (slice_get-map seen c.strands n ∙ ap (option_map seen) e)

pub strand-of : (c : Common) (n : ℕ) (status : Status) → status_in (board c) n ≡ Some status → (x : Strand) × (slice_get c.strands n ≡ Some x) × (x.status ≡ status)
strand-of c n status e = by (slice_get c.strands n) refl (ap (option_map (λ z. z.status)) (sym (slice_get-map seen c.strands n)) ∙ e)
  where
    by : (o : Option Strand) → slice_get c.strands n ≡ o → option_map (λ z. z.status) (option_map seen o) ≡ Some status → (x : Strand) × (slice_get c.strands n ≡ Some x) × (x.status ≡ status)
    by (Some x) is e = (x, is, some-same x.status status e)
    by None is e = absurd (let bad : ⊥ = cc in bad)

-- ---- needs

-- no blocked strand could go on
abbrev pub Unmet : Common → Type 0
Unmet c = (n : ℕ) (need : Need) → status_in (board c) n ≡ Some (IsBlocked need) → met c need ≡ false

woken-end : (c : Common) (x : Strand) → end_in (woken c x).status ≡ end_in x.status
woken-end c x = by x.status refl
  where
    at : (b : Bool) → (if b then with_status x IsActive else x).status ≡ (if b then IsActive else x.status)
    at true = refl
    at false = refl

    by : (status : Status) → x.status ≡ status → end_in (woken c x).status ≡ end_in x.status
    by IsActive e = ap end_in (at (wakes c x.status) ∙ (λ i. if wakes c (e i) then IsActive else e i)) ∙ ap end_in (sym e)
    by (IsEnded k end) e = ap end_in (at (wakes c x.status) ∙ (λ i. if wakes c (e i) then IsActive else e i)) ∙ ap end_in (sym e)
    by (IsBlocked need) e = ap end_in (at (wakes c x.status) ∙ (λ i. if wakes c (e i) then IsActive else e i)) ∙ (none (met c need) ∙ ap end_in (sym e))
      where
        none : (b : Bool) → end_in (if b then IsActive else IsBlocked need) ≡ None
        none true = refl
        none false = refl

woken-taken : (c : Common) (x : Strand) → (woken c x).taken ≡ x.taken
woken-taken c x = by (wakes c x.status)
  where
    by : (b : Bool) → (if b then with_status x IsActive else x).taken ≡ x.taken
    by true = refl
    by false = refl

settled-strand : (c : Common) (n : ℕ) → strand_at (settled c) n ≡ woken c (strand_at c n)
settled-strand c n = get_or-map (woken c) c.strands n no_strand

settled-end : (c : Common) (n : ℕ) → end_of (settled c) n ≡ end_of c n
settled-end c n = ap (λ x. end_in x.status) (settled-strand c n) ∙ woken-end c (strand_at c n)

pub unmet-settled : (c : Common) → Unmet (settled c)
unmet-settled c n need e =
    let x = strand-of (settled c) n (IsBlocked need) e in
    let y = from-map (woken c) c.strands n x.0 x.1 in
    let blocked : (woken c y.0).status ≡ IsBlocked need = ap (λ z. z.status) y.2 ∙ x.2 in
    still-unmet c (settled c) (settled-end c) (λ k none. (λ i. is_success (settled-end c k i) && not (taken k i)) ∙ none) (λ a v w. refl) (λ a w. refl) need (by y.0 (wakes c y.0.status) refl blocked)
  where
    taken : (k : ℕ) → (strand_at (settled c) k).taken ≡ (strand_at c k).taken
    taken k = ap (λ x. x.taken) (settled-strand c k) ∙ woken-taken c (strand_at c k)

    by : (y : Strand) (b : Bool) → wakes c y.status ≡ b → (woken c y).status ≡ IsBlocked need → met c need ≡ false
    by y true w e = absurd (let active : (woken c y).status ≡ IsActive = ap (λ b. (if b then with_status y IsActive else y).status) w in let bad : ⊥ = cc in bad)
    by y false w e = let same : y.status ≡ IsBlocked need = sym (ap (λ b. (if b then with_status y IsActive else y).status) w) ∙ e in sym (ap (wakes c) same) ∙ w

-- where the running strand is blocked
pub unmet-blocked : (c : Common) (need : Need) → status_in (board c) c.running ≡ Some IsActive → Unmet c → met c need ≡ false → Unmet (strand_blocked need c)
unmet-blocked c need active unmet own n other e = same other (by (stopped-status (board c) (IsBlocked need) n (IsBlocked other) (ap (λ b. status_in b n) (sym (board-stopped c (IsBlocked need))) ∙ e)))
  where
    at : end_in (IsBlocked need) ≡ end_in (strand_at c c.running).status
    at = let x = strand-of c c.running IsActive active in ap end_in (sym x.2) ∙ ap (λ s. end_in s.status) (sym (get_or_from_slice_get c.strands c.running x.0 no_strand x.1))

    same : (other : Need) → met c other ≡ false → met (strand_blocked need c) other ≡ false
    same other =
        still-unmet c (strand_blocked need c) (λ k. set-view (λ s. end_in s.status) c.strands c.running k (with_status (strand_at c c.running) (IsBlocked need)) no_strand at)
        (λ k none. set-cases (λ s. (is_success (end_in s.status) && not s.taken) ≡ false) c.strands c.running k (with_status (strand_at c c.running) (IsBlocked need)) no_strand (λ e. refl) (λ out. none))
        (λ a v w. refl) (λ a w. refl) other

    by : ((n ≡ c.running) × (IsBlocked need ≡ IsBlocked other)) ⊎ (status_in (board c) n ≡ Some (IsBlocked other)) → met c other ≡ false
    by (inl (at, is)) = let one : need ≡ other = cc in subst (λ z. met c z ≡ false) one own
    by (inr old) = unmet n other old

-- where a strand is made
pub unmet-made : (unit : ℕ) (role : Option Role) (c : Common) → Unmet c → Unmet (strand_made unit role c)
unmet-made unit role c unmet n need e = same (by (let x = strand-of (strand_made unit role c) n (IsBlocked need) e in old x.0 x.1 x.2 (slice-more c.strands made x.0 n x.1)))
  where
    made : Strand
    made = record { unit = unit; role = role; status = IsActive; taken = false }

    old : (x : Strand) → slice_get (c.strands ++ made ∷ []) n ≡ Some x → x.status ≡ IsBlocked need → ((n ≡ length c.strands) × (made ≡ x)) ⊎ (slice_get c.strands n ≡ Some x) → status_in (board c) n ≡ Some (IsBlocked need)
    old x at is (inl (last, new)) = absurd (let active : IsActive ≡ IsBlocked need = ap (λ s. s.status) new ∙ is in let bad : ⊥ = cc in bad)
    old x at is (inr before) = status-of c n x before ∙ ap Some is

    by : status_in (board c) n ≡ Some (IsBlocked need) → met c need ≡ false
    by blocked = unmet n need blocked

    same : met c need ≡ false → met (strand_made unit role c) need ≡ false
    same =
        still-unmet c (strand_made unit role c)
        (λ k. get-more (λ s. end_in s.status ≡ end_of c k) c.strands made no_strand k (λ last. ap (λ s. end_in s.status) (sym (get-past c.strands k no_strand (omega (arith, last))))) (λ ne. refl))
        (λ k none. get-more (λ s. (is_success (end_in s.status) && not s.taken) ≡ false) c.strands made no_strand k (λ last. refl) (λ ne. none))
        (λ a v w. refl) (λ a w. refl) need

-- where an activation begins
rep-cases : {A : Type 0} (P : A → Type 0) (k i : ℕ) (x d : A) → P x → P d → P (get_or (replicate k x) i d)
rep-cases P zero i x d h g = g
rep-cases P (suc k) zero x d h g = h
rep-cases P (suc k) (suc i) x d h g = rep-cases P k i x d h g

pub new-channel : (c : Common) (unit k v w : ℕ) → get_or (get_or (new_activation c unit k).channels v []) w no_channel ≡ no_channel
new-channel c unit k v w =
    rep-cases (λ l. get_or l w no_channel ≡ no_channel) (k + 1) v (replicate (k + 1) no_channel) []
    (rep-cases (λ x. x ≡ no_channel) (k + 1) w no_channel no_channel refl refl) refl

-- a channel of before, where one activation more is there
pub channel-more : (c : Common) (unit k a v w : ℕ) → channel_at (record c { activations = c.activations ++ new_activation c unit k ∷ [] }) a v w ≡ channel_at c a v w
channel-more c unit k a v w =
    get-more (λ x. get_or (get_or x.channels v []) w no_channel ≡ channel_at c a v w) c.activations (new_activation c unit k) no_activation a
    (λ last. new-channel c unit k v w ∙ sym (ap (λ x. get_or (get_or x.channels v []) w no_channel) (get-past c.activations a no_activation (omega (arith, last))))) (λ ne. refl)

pub unmet-crew : (c : Common) (unit k : ℕ) → Unmet c → Unmet (record c { activations = c.activations ++ new_activation c unit k ∷ [] })
unmet-crew c unit k unmet n need e =
    still-unmet c (record c { activations = c.activations ++ new_activation c unit k ∷ [] }) (λ n. refl) (λ n none. none) (channel-more c unit k)
    (λ a w. get-more (λ x. get_or x.ends w None ≡ worker_end c a w) c.activations (new_activation c unit k) no_activation a
    (λ last. rep-cases (λ z. z ≡ worker_end c a w) (k + 1) w None None (past a w (omega (arith, last))) (past a w (omega (arith, last)))) (λ ne. refl)) need (unmet n need e)
  where
    past : (a w : ℕ) → length c.activations ≤ a → None ≡ worker_end c a w
    past a w le = sym (ap (λ x. get_or x.ends w None) (get-past c.activations a no_activation le))

pub unmet-calm : {role : Option Role} (c d : Common) → Calm role c d → Unmet c → Unmet d
unmet-calm c d calm unmet n need e = calm.unmet need (unmet n need (ap (λ b. status_in b n) (sym calm.alike.board) ∙ e))

pub unmet-picked : (c : Common) (ready : List ℕ) (n picks : ℕ) → Unmet c → Unmet (record c { ready = ready; running = n; picks = picks })
unmet-picked c ready n picks unmet k need e =
    still-unmet c (record c { ready = ready; running = n; picks = picks }) (λ n. refl) (λ n none. none) (λ a v w. refl) (λ a w. refl) need (unmet k need e)
