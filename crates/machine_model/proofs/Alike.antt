-- What operations do to strands and workers: most leave all of it, and messages and results change but a little.
use Rattle.std.proofs.Common.{◌≡◌, ◌≤◌, ◌+◌, ◌++◌, ◌||◌, ◌&&◌, ◌∙◌, ℕ, suc, Bool, true, false, not, List, [], ◌∷◌, Option, Some, length, refl, sym, subst, ap, arith}
use Rattle.std.specs.Prelude.{get_or, if◌then◌else◌, is_some, map, nat_le, slice_set}
use Rattle.std.specs.List.{list_all, list_any}
use Rattle.std.proofs.Math.Seq.{map-set_same}
use Rattle.value_model.specs.declared.value.Value.{Value}
use Rattle.value_model.specs.World.{World}
use Rattle.op_model.specs.Common.{Activation, Channel, Common, Role, Strand, Need, Message, Received, AllEnded, AnyGiven}
use Rattle.op_model.specs.Messages.{one_received, one_sent, with_received}
use Rattle.op_model.specs.Strands.{activation_at, channel_at, end_in, end_of, has_ended, has_success, is_success, is_there, met, no_activation, no_channel, no_strand, strand_at, with_channel, with_strand, worker_end}
use Rattle.op_model.specs.Waits.{Target, took}
use Rattle.machine_model.specs.Keeping.{AreApart}
use Rattle.machine_model.proofs.Boards.{Board, Crew, Seen}
use Rattle.machine_model.proofs.Places.{set-cases, set-view}

abbrev pub seen : Strand → Seen
seen s = record { role = s.role; status = s.status }

abbrev pub crew_of : Activation → Crew
crew_of x = record { strands = x.strands; ends = x.ends }

abbrev pub board : Common → Board
board c = record { running = c.running; ready = c.ready; strands = map seen c.strands; crews = map crew_of c.activations }

-- what was sent is in the queue or was received
abbrev pub QueueHolds : Channel → Type 0
QueueHolds x = x.sent ≤ length x.queue + x.received

-- nothing changes but the world, variables, ticks, what was taken, and the messages of one worker
pub record Alike (role : Option Role) (c d : Common) : Type 0 where
  pub board : board d ≡ board c
  pub sent : (r : Role) → AreApart (Some r) role → (w : ℕ) → (channel_at d r.activation r.worker w).sent ≡ (channel_at c r.activation r.worker w).sent
  pub queues : (a v w : ℕ) → QueueHolds (channel_at c a v w) → QueueHolds (channel_at d a v w)

-- and no need is met that was not
pub record Calm (role : Option Role) (c d : Common) : Type 0 where
  pub alike : Alike role c d
  pub unmet : (need : Need) → met c need ≡ false → met d need ≡ false

pub alike-then : {role : Option Role} {c d e : Common} → Alike role c d → Alike role d e → Alike role c e
alike-then h k = record { board = k.board ∙ h.board; sent = λ r a w. k.sent r a w ∙ h.sent r a w; queues = λ a v w q. k.queues a v w (h.queues a v w q) }

pub calm-then : {role : Option Role} {c d e : Common} → Calm role c d → Calm role d e → Calm role c e
calm-then h k = record { alike = alike-then h.alike k.alike; unmet = λ need u. k.unmet need (h.unmet need u) }

-- ---- booleans

pub or-both : (a b : Bool) → (a || b) ≡ false → (a ≡ false) × (b ≡ false)
or-both false b e = (refl, e)
or-both true b e = absurd (let no : ⊥ = cc in no)

both-or : (a b : Bool) → a ≡ false → b ≡ false → (a || b) ≡ false
both-or a b e f = (λ i. e i || f i)

and-no : (b : Bool) → (b && false) ≡ false
and-no true = refl
and-no false = refl

-- ---- needs

none-any : (p q : ℕ → Bool) → ((n : ℕ) → p n ≡ false → q n ≡ false) → (ns : List ℕ) → list_any p ns ≡ false → list_any q ns ≡ false
none-any p q h [] e = refl
none-any p q h (n ∷ ns) e = let both = or-both (p n) (list_any p ns) e in both-or (q n) (list_any q ns) (h n both.0) (none-any p q h ns both.1)

-- a need that was not met is not, where what it asks for is as it was
pub still-unmet : (c d : Common) → ((n : ℕ) → end_of d n ≡ end_of c n) → ((n : ℕ) → has_success c n ≡ false → has_success d n ≡ false) → ((a v w : ℕ) → channel_at d a v w ≡ channel_at c a v w) → ((a w : ℕ) → worker_end d a w ≡ worker_end c a w) → (need : Need) → met c need ≡ false → met d need ≡ false
still-unmet c d ends success channels workers (Message a from to) e = (λ i. is_there (channels a from to i).queue || is_some (workers a from i)) ∙ e
still-unmet c d ends success channels workers (Received a from to count) e = (λ i. nat_le count (channels a from to i).received || is_some (workers a to i)) ∙ e
still-unmet c d ends success channels workers (AllEnded ns) e = (λ i. list_all (λ n. is_some (ends n i)) ns) ∙ e
still-unmet c d ends success channels workers (AnyGiven ns) e =
    let both = or-both (list_any (has_success c) ns) (list_all (has_ended c) ns) e in
    both-or (list_any (has_success d) ns) (list_all (has_ended d) ns) (none-any (has_success c) (has_success d) success ns both.0) ((λ i. list_all (λ n. is_some (ends n i)) ns) ∙ both.1)

-- ---- the world, variables and ticks

pub calm-so : (role : Option Role) (c : Common) (w : World) (variables : List (Option Value)) (ticks : ℕ) → Calm role c (record c { world = w; variables = variables; ticks = ticks })
calm-so role c w variables ticks =
    record {
      alike = record { board = refl; sent = λ r a w. refl; queues = λ a v w q. q };
      unmet = λ need e. still-unmet c (record c { world = w; variables = variables; ticks = ticks }) (λ n. refl) (λ n s. s) (λ a v w. refl) (λ a w. refl) need e;
    }

pub calm-still : (role : Option Role) (c : Common) → Calm role c c
calm-still role c = calm-so role c c.world c.variables c.ticks

-- ---- results

abbrev taken-so : Common → ℕ → Strand
taken-so c n = record { unit = (strand_at c n).unit; role = (strand_at c n).role; status = (strand_at c n).status; taken = true }

calm-taken : (role : Option Role) (c : Common) (n : ℕ) → Calm role c (with_strand c n (taken-so c n))
calm-taken role c n =
    record {
      alike = record {
        board = λ i. record { running = c.running; ready = c.ready; strands = map-set_same seen c.strands n (taken-so c n) no_strand refl i; crews = map crew_of c.activations };
        sent = λ r a w. refl;
        queues = λ a v w q. q;
      };
      unmet = λ need e. still-unmet c (with_strand c n (taken-so c n))
          (λ k. set-view (λ s. end_in s.status) c.strands n k (taken-so c n) no_strand refl)
          (λ k none. set-cases (λ s. (is_success (end_in s.status) && not s.taken) ≡ false) c.strands n k (taken-so c n) no_strand (λ e. and-no (is_success (end_in (taken-so c n).status))) (λ out. none))
          (λ a v w. refl) (λ a w. refl) need e;
    }

pub calm-took : (role : Option Role) (c : Common) (t : Target) → Calm role c (took c t)
calm-took role c t = by t.is_worker
  where
    by : (worker : Bool) → Calm role c (if worker then c else with_strand c t.strand (record { unit = (strand_at c t.strand).unit; role = (strand_at c t.strand).role; status = (strand_at c t.strand).status; taken = true }))
    by true = calm-still role c
    by false = calm-taken role c t.strand

-- ---- messages

module _ (c : Common) (a from to : ℕ) (y : Channel) where
  abbrev d : Common
  d = with_channel c a from to y

  abbrev x : Activation
  x = activation_at c a

  abbrev new : Activation
  new = record { unit = x.unit; strands = x.strands; ends = x.ends; channels = slice_set x.channels from (slice_set (get_or x.channels from []) to y) }

  -- a channel is the new one, or as it was
  pub channel-cases : (P : Channel → Type 0) (i v w : ℕ) → (i ≡ a → v ≡ from → w ≡ to → P y) → P (channel_at c i v w) → P (channel_at d i v w)
  channel-cases P i v w same other =
      set-cases (λ z. P (get_or (get_or z.channels v []) w no_channel)) c.activations a i new no_activation
      (λ e. set-cases (λ l. P (get_or l w no_channel)) x.channels from v (slice_set (get_or x.channels from []) to y) []
      (λ e2. set-cases P (get_or x.channels from []) to w y no_channel (λ e3. same e e2 e3) (λ out. subst (λ k. P (channel_at c a k w)) e2 (subst (λ k. P (channel_at c k v w)) e other)))
      (λ out. subst (λ k. P (channel_at c k v w)) e other))
      (λ out. other)

  pub same-board : board d ≡ board c
  same-board = λ i. record { running = c.running; ready = c.ready; strands = map seen c.strands; crews = map-set_same crew_of c.activations a new no_activation refl i }

pub alike-sent : (c : Common) (r : Role) (to : ℕ) (v : Value) → Alike (Some r) c (with_channel c r.activation r.worker to (one_sent (channel_at c r.activation r.worker to) v))
alike-sent c r to v =
    record {
      board = same-board c r.activation r.worker to (one_sent (channel_at c r.activation r.worker to) v);
      sent = λ q ne w. channel-cases c r.activation r.worker to (one_sent (channel_at c r.activation r.worker to) v) (λ z. z.sent ≡ (channel_at c q.activation q.worker w).sent) q.activation q.worker w
          (λ e f g. absurd (ne (λ i. record { activation = e i; worker = f i }))) refl;
      queues = λ a from w h. channel-cases c r.activation r.worker to (one_sent (channel_at c r.activation r.worker to) v) QueueHolds a from w
          (λ e f g. let old : QueueHolds (channel_at c r.activation r.worker to) = subst (λ k. QueueHolds (channel_at c r.activation r.worker k)) g (subst (λ k. QueueHolds (channel_at c r.activation k w)) f (subst (λ k. QueueHolds (channel_at c k from w)) e h)) in
          let more = length-more (channel_at c r.activation r.worker to).queue v in omega (arith, old, more)) h;
    }
  where
    length-more : (l : List Value) (z : Value) → length (l ++ z ∷ []) ≡ suc (length l)
    length-more [] z = refl
    length-more (u ∷ l) z = ap suc (length-more l z)

pub alike-received : (role : Option Role) (c : Common) (r : Role) (from : ℕ) (queue : List Value) → length (channel_at c r.activation from r.worker).queue ≤ suc (length queue) → Alike role c (with_received c r from queue)
alike-received role c r from queue le =
    record {
      board = same-board c r.activation from r.worker (one_received (channel_at c r.activation from r.worker) queue);
      sent = λ q ne w. channel-cases c r.activation from r.worker (one_received (channel_at c r.activation from r.worker) queue) (λ z. z.sent ≡ (channel_at c q.activation q.worker w).sent) q.activation q.worker w
          (λ e f g. λ i. (channel_at c (sym e i) (sym f i) (sym g i)).sent) refl;
      queues = λ a v w h. channel-cases c r.activation from r.worker (one_received (channel_at c r.activation from r.worker) queue) QueueHolds a v w
          (λ e f g. let old : QueueHolds (channel_at c r.activation from r.worker) = subst (λ k. QueueHolds (channel_at c r.activation from k)) g (subst (λ k. QueueHolds (channel_at c r.activation k w)) f (subst (λ k. QueueHolds (channel_at c k v w)) e h)) in omega (arith, old, le)) h;
    }
