-- From what is shared to what is shared later: what stays of strands and workers that don't run.
use Rattle.std.proofs.Common.{◌≡◌, ◌≢◌, ◌++◌, ◌==◌, ◌∙◌, ℕ, Bool, true, false, List, [], ◌∷◌, Option, Some, None, length, refl, sym, subst, ap, inl, inr, ◌⊎◌}
use Rattle.std.specs.Prelude.{get_or, if◌then◌else◌, slice_get, slice_set}
use Rattle.std.proofs.lemmas.List.{length-map, length-set}
use Rattle.value_model.specs.declared.value.Value.{Value}
use Rattle.op_model.specs.Common.{Activation, Common, End, Need, Role, Status, IsActive, IsBlocked, IsEnded}
use Rattle.op_model.specs.Strands.{activation_at, channel_at, end_in, no_activation, no_channel, settled, strand_at, wakes, with_status, with_strand, woken, worker_ended, workers_ended}
use Rattle.machine_model.specs.Keeping.{AreApart}
use Rattle.machine_model.specs.Runs.{Running}
use Rattle.machine_model.proofs.Alike.{Alike, QueueHolds, board, seen}
use Rattle.machine_model.proofs.BoardChanges.{dropped-held, settled-status, stopped-status}
use Rattle.machine_model.proofs.Boards.{AreThere, Held, Moves, closed, closed-strands, crew_at, same-roles, status_in, worker-held}
use Rattle.machine_model.proofs.Commons.{board-closed, board-crew, board-settled, board-stopped}
use Rattle.machine_model.proofs.Places.{if-other, if-same, same-or, set-view}

abbrev ended : End → Role → Common → Activation
ended end r c =
    record { unit = (activation_at c r.activation).unit; strands = (activation_at c r.activation).strands; ends = slice_set (activation_at c r.activation).ends r.worker (Some end); channels = (activation_at c r.activation).channels }

-- the strands that don't run are as they were, but that some have woken; and so are the workers that are not among these
pub record Onward (Own : Role → Type 0) (c d : Common) : Type 0 where
  pub running : d.running ≡ c.running
  pub count : length d.strands ≡ length c.strands
  pub calls : (a w n : ℕ) → slice_get (activation_at c a).strands w ≡ Some n → slice_get (activation_at d a).strands w ≡ Some n
  pub sent : (r : Role) → (Own r → ⊥) → (w : ℕ) → (channel_at d r.activation r.worker w).sent ≡ (channel_at c r.activation r.worker w).sent
  pub queues : ((a v w : ℕ) → QueueHolds (channel_at c a v w)) → (a v w : ℕ) → QueueHolds (channel_at d a v w)
  pub old : (n : ℕ) (status : Status) → n ≢ c.running → status_in (board d) n ≡ Some status →
      (before : Status) × (status_in (board c) n ≡ Some before) × ((need : Need) → status ≡ IsBlocked need → before ≡ IsBlocked need) × (end_in status ≡ None → end_in before ≡ None)

-- where statuses are as they were
pub same-old : (c d : Common) → ((n : ℕ) → status_in (board d) n ≡ status_in (board c) n) → (n : ℕ) (status : Status) → status_in (board d) n ≡ Some status → (before : Status) × (status_in (board c) n ≡ Some before) × ((need : Need) → status ≡ IsBlocked need → before ≡ IsBlocked need) × (end_in status ≡ None → end_in before ≡ None)
same-old c d same n status at = (status, sym (same n) ∙ at, (λ need is. is), (λ none. none))

module _ {Own : Role → Type 0} where
  pub onward-then : {c d e : Common} → Onward Own c d → Onward Own d e → Onward Own c e
  onward-then {c} {d} {e} h k =
      record {
        running = k.running ∙ h.running;
        count = k.count ∙ h.count;
        calls = λ a w n i. k.calls a w n (h.calls a w n i);
        sent = λ r ne w. k.sent r ne w ∙ h.sent r ne w;
        queues = λ q. k.queues (h.queues q);
        old = λ n status ne at.
            let x = k.old n status (λ is. ne (is ∙ h.running)) at in
            let y = h.old n x.0 ne x.1 in
            (y.0, y.1, (λ need is. y.2 need (x.2 need is)), (λ none. y.3 (x.3 none)));
      }

  pub onward-alike : {role : Option Role} (c d : Common) → ((r : Role) → role ≡ Some r → Own r) → Alike role c d → Onward Own c d
  onward-alike {role} c d own alike =
      record {
        running = ap (λ b. b.running) alike.board;
        count = sym (length-map d.strands seen) ∙ (ap (λ b. length b.strands) alike.board ∙ length-map c.strands seen);
        calls = λ a w n i. ap (λ x. slice_get x.strands w) (sym (board-crew d a) ∙ (ap (λ b. crew_at b a) alike.board ∙ board-crew c a)) ∙ i;
        sent = λ r ne w. alike.sent r (apart role r ne own) w;
        queues = λ q a v w. alike.queues a v w (q a v w);
        old = λ n status ne at. same-old c d (λ n. ap (λ b. status_in b n) alike.board) n status at;
      }
    where
      apart : (role : Option Role) (r : Role) → (Own r → ⊥) → ((q : Role) → role ≡ Some q → Own q) → AreApart (Some r) role
      apart None r ne own = tt
      apart (Some q) r ne own = λ e. ne (subst Own (sym e) (own q refl))

  pub onward-closed : (end : End) (role : Option Role) (c : Common) → Onward Own c (worker_ended end role c)
  onward-closed end None c =
      record { running = refl; count = refl; calls = λ a w n i. i; sent = λ r ne w. refl; queues = λ q. q; old = λ n status ne at. same-old c c (λ n. refl) n status at }
  onward-closed end (Some r) c =
      record {
        running = refl;
        count = refl;
        calls = λ a w n i. ap (λ l. slice_get l w) (set-view (λ x. x.strands) c.activations r.activation a (ended end r c) no_activation refl) ∙ i;
        sent = λ q ne w. ap (λ l. (get_or (get_or l q.worker []) w no_channel).sent) (channels q.activation);
        queues = λ q a v w. subst (λ l. QueueHolds (get_or (get_or l v []) w no_channel)) (sym (channels a)) (q a v w);
        old = λ n status ne at. same-old c (worker_ended end (Some r) c) (λ n. refl) n status at;
      }
    where
      channels : (a : ℕ) → (activation_at (worker_ended end (Some r) c) a).channels ≡ (activation_at c a).channels
      channels a = set-view (λ x. x.channels) c.activations r.activation a (ended end r c) no_activation refl

  pub onward-all-closed : (end : End) (roles : List (Option Role)) (c : Common) → Onward Own c (workers_ended end roles c)
  onward-all-closed end [] c = onward-closed end None c
  onward-all-closed end (r ∷ rs) c = onward-then (onward-closed end r c) (onward-all-closed end rs (worker_ended end r c))

  pub onward-settled : (c : Common) → Onward Own c (settled c)
  onward-settled c =
      record {
        running = refl;
        count = length-map c.strands (woken c);
        calls = λ a w n i. i;
        sent = λ r ne w. refl;
        queues = λ q. q;
        old = λ n status ne at.
            let x = settled-status (wakes c) (board c) n status (ap (λ b. status_in b n) (sym (board-settled c)) ∙ at) in
            (x.0, x.1, (λ need is. blocked need x.0 (wakes c x.0) (sym x.2 ∙ is)), (λ none. unended x.0 (ap end_in (sym x.2) ∙ none)));
      }
    where
      blocked : (need : Need) (before : Status) (b : Bool) → (if b then IsActive else before) ≡ IsBlocked need → before ≡ IsBlocked need
      blocked need before true e = absurd (let bad : ⊥ = cc in bad)
      blocked need before false e = e

      unended : (before : Status) → end_in (if wakes c before then IsActive else before) ≡ None → end_in before ≡ None
      unended IsActive e = refl
      unended (IsBlocked need) e = refl
      unended (IsEnded k end) e = e

  pub onward-stopped : (c : Common) (status : Status) → Onward Own c (with_strand c c.running (with_status (strand_at c c.running) status))
  onward-stopped c status =
      record {
        running = refl;
        count = length-set c.strands c.running (with_status (strand_at c c.running) status);
        calls = λ a w n i. i;
        sent = λ r ne w. refl;
        queues = λ q. q;
        old = λ n other ne at. by other n ne (stopped-status (board c) status n other (ap (λ b. status_in b n) (sym (board-stopped c status)) ∙ at));
      }
    where
      by : (other : Status) (n : ℕ) → n ≢ c.running → ((n ≡ c.running) × (status ≡ other)) ⊎ (status_in (board c) n ≡ Some other) → (before : Status) × (status_in (board c) n ≡ Some before) × ((need : Need) → other ≡ IsBlocked need → before ≡ IsBlocked need) × (end_in other ≡ None → end_in before ≡ None)
      by other n ne (inl (at, is)) = absurd (ne at)
      by other n ne (inr old) = (other, old, (λ need is. is), (λ none. none))

  pub onward-run : (c : Common) (us : List (ℕ × List Value)) → Onward Own c (record c { to_run = us })
  onward-run c us =
      record { running = refl; count = refl; calls = λ a w n i. i; sent = λ r ne w. refl; queues = λ q. q; old = λ n status ne at. same-old c (record c { to_run = us }) (λ n. refl) n status at }

-- ---- other roles on the running strand

abbrev pub at : ℕ → List (Option Role) → (ℕ → List (Option Role)) → ℕ → List (Option Role)
at m l R n = if n == m then l else R n

pub moves-at : (m : ℕ) (l : List (Option Role)) (R : ℕ → List (Option Role)) → Moves m l R (at m l R)
moves-at m l R = record { here = if-same m m l (R m) refl; elsewhere = λ n ne. if-other n m l (R n) ne }

-- twice is once
pub at-twice : (m : ℕ) (l k : List (Option Role)) (R : ℕ → List (Option Role)) (n : ℕ) → at m l R n ≡ at m l (at m k R) n
at-twice m l k R n = by (same-or n m)
  where
    by : (n ≡ m) ⊎ (n ≢ m) → at m l R n ≡ at m l (at m k R) n
    by (inl e) = if-same n m l (R n) e ∙ sym (if-same n m l (at m k R n) e)
    by (inr ne) = if-other n m l (R n) ne ∙ sym (if-other n m l (at m k R n) ne ∙ if-other n m k (R n) ne)

pub at-still : (m : ℕ) (l : List (Option Role)) (R : ℕ → List (Option Role)) → R m ≡ l → (n : ℕ) → at m l R n ≡ R n
at-still m l R e n = by (same-or n m)
  where
    by : (n ≡ m) ⊎ (n ≢ m) → at m l R n ≡ R n
    by (inl is) = if-same n m l (R n) is ∙ (sym e ∙ ap R (sym is))
    by (inr ne) = if-other n m l (R n) ne

-- ---- frames go, and what they were has ended

pub closes-held : (end : End) (roles rest : List (Option Role)) (c : Common) (R : ℕ → List (Option Role)) → Held Running (board c) R → AreThere (board c) → R c.running ≡ roles ++ rest →
    Held Running (board (workers_ended end roles c)) (at c.running rest R) × AreThere (board (workers_ended end roles c))
closes-held end [] rest c R h there e = (same-roles (λ n. at-still c.running rest R e n) h, there)
closes-held end (None ∷ roles) rest c R h there e =
    let m = c.running in
    let next = dropped-held (board c) R (at m (roles ++ rest) R) (roles ++ rest) h e (moves-at m (roles ++ rest) R) in
    let more = closes-held end roles rest c (at m (roles ++ rest) R) next there (if-same m m (roles ++ rest) (R m) refl) in
    (same-roles (at-twice m rest (roles ++ rest) R) more.0, more.1)
closes-held end (Some q ∷ roles) rest c R h there e =
    let m = c.running in
    let d = worker_ended end (Some q) c in
    let next = worker-held end q (board c) R (at m (roles ++ rest) R) (roles ++ rest) h e (moves-at m (roles ++ rest) R) in
    let same = sym (board-closed end (Some q) c) in
    let still : AreThere (closed end (Some q) (board c)) = λ a w n i. there a w n (ap (λ l. slice_get l w) (sym (closed-strands end q (board c) a)) ∙ i) in
    let more = closes-held end roles rest d (at m (roles ++ rest) R) (subst (λ b. Held Running b (at m (roles ++ rest) R)) same next) (subst AreThere same still) (if-same m m (roles ++ rest) (R m) refl) in
    (same-roles (at-twice m rest (roles ++ rest) R) more.0, more.1)
