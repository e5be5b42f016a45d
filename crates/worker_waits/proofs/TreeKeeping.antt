-- Where frames of typed trees stand is kept by each step.
use Rattle.std.proofs.Common.{◌≡◌, ◌≢◌, ◌<◌, ◌≤◌, ◌⊎◌, ◌+◌, ◌++◌, ◌==◌, ◌∙◌, ℕ, zero, suc, Bool, false, List, [], ◌∷◌, Option, Some, None, length, refl, sym, subst, ap, inl, inr, arith}
use Rattle.std.proofs.lemmas.Bool.{cases_lt}
use Rattle.std.proofs.lemmas.List.{length-map, length-replicate}
use Rattle.std.proofs.lemmas.Option.{none-some}
use Rattle.std.specs.Prelude.{get_or, nat_le, replicate, slice_get, slice_set, ⊤}
use Rattle.bal_base.specs.declared.fault.LimitKind.TheVariants.{Cells}
use Rattle.type_model.specs.declared.atoms.AtomDef.{AtomDef}
use Rattle.operations.specs.declared.operation.Operation.{Operation}
use Rattle.operations.specs.declared.operation.Operation.TheVariants as op
use Rattle.value_model.specs.declared.filler.Filler.{Filler}
use Rattle.value_model.specs.declared.panics.PanicName.TheVariants.{NotInitialised}
use Rattle.value_model.specs.declared.value.Value.{Value}
use Rattle.value_model.specs.declared.value.Value.TheVariants.{Error}
use Rattle.value_model.specs.Heap.{cells}
use Rattle.value_model.specs.Meaning.{Answers}
use Rattle.value_model.specs.PanicName.{panic_message}
use Rattle.value_model.specs.World.{World, Threw, PassesCells}
use Rattle.typed_tree.specs.declared.event.EventKind.{EventKind}
use Rattle.typed_tree.specs.declared.event.EventKind.TheVariants.{Send, Post, Done, Receive, Flush, Wait, End}
use Rattle.typed_tree.specs.declared.package.TypedPackage.{TypedPackage}
use Rattle.op_model.specs.CallRows.{new_activation}
use Rattle.op_model.specs.Common.{Activation, Caller, Channel, Common, End as RunEnd, Returned, Panicked, Role}
use Rattle.op_model.specs.Copies.{copy_of, with_copies}
use Rattle.op_model.specs.Effects.{Effect, Gives, Fails, Waits, Enters, Leaves, Spawns, NoTick, Beyond, Spawned, lifted, with_world}
use Rattle.op_model.specs.ProgramFacts.{ProgramFacts, UnitFacts, WorkerFacts}
use Rattle.op_model.specs.Limits.{most_cells}
use Rattle.op_model.specs.Local.{Local, acts}
use Rattle.op_model.specs.Messages.{one_received, one_sent, receives, receives_end, receives_from, sends, with_received}
use Rattle.op_model.specs.Performs.{Performs}
use Rattle.op_model.specs.Rows.{makes_error, next_error}
use Rattle.op_model.specs.Strands.{channel_at, no_activation, no_channel, settled, with_channel, worker_end, worker_ended, woken}
use Rattle.machine_model.specs.Keeping.{AllBegin, AreApart, Caught, EffectFits, Invariant, RunsOn}
use Rattle.machine_model.specs.Machine.{Frame, Machine}
use Rattle.machine_model.specs.Strands.{role_of}
use Rattle.machine_model.proofs.Alike.{Alike}
use Rattle.machine_model.proofs.Commons.{new-channel}
use Rattle.machine_model.proofs.Onward.{Onward, onward-alike, onward-settled, onward-then}
use Rattle.machine_model.proofs.Places.{get-more, get-past}
use Rattle.machine_model.proofs.Shapes.{ShapeOf, in-if, in-none}
use Rattle.eval_model.specs.Tasks.{Do, Doing, Task, doing}
use Rattle.eval_model.specs.Trees.{caught, trees}
use Rattle.worker_pairing.specs.Events.{Crew, events_of, receives_from as receives_event, sends_to}
use Rattle.worker_waits.specs.Left.{Lasts, Makes, Step, op_shown}
use Rattle.worker_waits.proofs.Asking.{patient, quiet-lasting}
use Rattle.worker_waits.proofs.Later.{Acts, HasRoom, Later, Runs, act, changed, changed-room, changed-same, channel-one, channel_in, later-same, later-set, or-here, received-one, sent-one}
use Rattle.worker_waits.proofs.Readying.{ReadyThere, made-one, ready-blocked, ready-board, ready-settled}
use Rattle.worker_waits.proofs.Staying.{IsQuiet, Stays}
use Rattle.worker_waits.proofs.Stepping.{AtStep, one_if, stands-inside}
use Rattle.worker_waits.proofs.Told.{lasting, told-op}
use Rattle.worker_waits.proofs.TreeFits.{FrameFits, Left, Unstarted, WorkerFits, frame-goes, goes-behind, goes-caught, never-caught, says, some-task}

-- ---- what is to hold of units

-- the worker that a message names is there
abbrev pub PeerThere : ℕ → EventKind → Type 0
PeerThere n (Send (Some w)) = w < n
PeerThere n (Post (Some w)) = w < n
PeerThere n (Receive (Some w)) = w < n
PeerThere n (Send None) = ⊤
PeerThere n (Post None) = ⊤
PeerThere n (Receive None) = ⊤
PeerThere n (Done peer) = ⊤
PeerThere n (Flush peer) = ⊤
PeerThere n (Wait ns) = ⊤
PeerThere n End = ⊤

-- how calls and named workers begin, where `K` gives the events of the workers of a unit
pub record Begun (K : ℕ → Crew) (M : Machine Doing) : Type 0 where
  pub calls : (unit : ℕ) (args : List Value) (k : Doing) → M.enter unit args ≡ Some k → Unstarted K unit k.tasks
  pub crews : (unit i : ℕ) (u : UnitFacts) (x : WorkerFacts) (args : List Value) (k : Doing) → slice_get M.facts.units unit ≡ Some u → slice_get u.workers i ≡ Some x → M.enter x.unit args ≡ Some k →
      (steps : List Step) × Lasts k.tasks steps × AtStep (events_of (K unit) (suc i)) 0 steps
  pub sizes : (unit : ℕ) (u : UnitFacts) → slice_get M.facts.units unit ≡ Some u → length (K unit) ≡ suc (length u.workers)
  pub peers : (unit w i : ℕ) (e : EventKind) → slice_get (events_of (K unit) w) i ≡ Some e → PeerThere (length (K unit)) e

abbrev pub frame : ℕ → Option Role → Doing → Frame Doing
frame unit role d = record { unit = unit; role = role; control = d }

-- ---- what holds of states

abbrev pub tree_keeps : (ℕ → Crew) → Invariant Doing
tree_keeps K =
    record {
      good = λ phase c. ReadyThere c;
      nearly = λ phase c. ReadyThere c;
      later = λ q c d. Later q c.activations d.activations;
      fits = λ c n depth f. FrameFits K c.activations n f.unit f.role f.control.tasks;
      awaits = λ c n depth f callee. FrameFits K c.activations n f.unit f.role f.control.tasks;
      holds = λ c v unit. ⊤;
      throws = λ c e. ⊤;
      lowest = λ c n unit. ⊤;
      gone = λ c n. ⊤;
    }

-- the frame of a worker stands in an activation that is there
pub there-of : (acts : Acts) (n : ℕ) (r : Role) → Runs acts n r → r.activation < length acts
there-of acts n r runs = by (cases_lt r.activation (length acts))
  where
    by : (r.activation < length acts) ⊎ (length acts ≤ r.activation) → r.activation < length acts
    by (inl lt) = lt
    by (inr le) = absurd (none-some n (sym (ap (λ z. slice_get z.strands r.worker) (get-past acts r.activation no_activation le)) ∙ runs))

-- a worker with an event is one of the crew
pub in-crew : (crew : Crew) (w made : ℕ) → made < length (events_of crew w) → w < length crew
in-crew [] zero made lt = absurd (omega (arith, lt))
in-crew [] (suc w) made lt = absurd (omega (arith, lt))
in-crew (es ∷ crew) zero made lt = omega arith
in-crew (es ∷ crew) (suc w) made lt = let h = in-crew crew w made lt in omega (arith, h)

same-role : (r q : Role) → q.activation ≡ r.activation → q.worker ≡ r.worker → q ≡ r
same-role r q e f = λ i. record { activation = e i; worker = f i }

-- no other worker has sent or received by the channel
pub others-same : (acts : Acts) (r : Role) (q : Option Role) (from to : ℕ) (ch : Channel) → AreApart q (Some r) →
    ((w : ℕ) → w ≢ r.worker → w ≡ from → ch.sent ≡ (channel_in (act acts r.activation) from to).sent) → ((w : ℕ) → w ≢ r.worker → w ≡ to → ch.received ≡ (channel_in (act acts r.activation) from to).received) →
    Later q acts (slice_set acts r.activation (changed (act acts r.activation) from to ch))
others-same acts r q from to ch apart sent received =
    later-set acts r.activation (changed (act acts r.activation) from to ch) refl q
    (λ o is here. let ne : o.worker ≢ r.worker = (λ e. (subst (λ z. AreApart z (Some r)) is apart) (same-role r o here e)) in changed-same (act acts r.activation) from to ch o.worker (sent o.worker ne) (received o.worker ne))

pub ended-later : (end : RunEnd) (role q : Option Role) (c : Common) → Later q c.activations (worker_ended end role c).activations
ended-later end None q c = later-same q c.activations c.activations refl
ended-later end (Some r) q c =
    let x = act c.activations r.activation in
    later-set c.activations r.activation (record { unit = x.unit; strands = x.strands; ends = slice_set x.ends r.worker (Some end); channels = x.channels }) refl q
    (λ o is here. record { unit = refl; runs = λ n h. h; sent = λ w. refl; received = λ v. refl; room = λ v w h. h })

pub ended-ready : (end : RunEnd) (role : Option Role) (c : Common) → ReadyThere c → ReadyThere (worker_ended end role c)
ended-ready end None c h = h
ended-ready end (Some r) c h = h

-- lists with one element many times
pub rep-at : {A : Type 0} (k i : ℕ) (x d : A) → i < k → get_or (replicate k x) i d ≡ x
rep-at zero i x d lt = absurd (omega (arith, lt))
rep-at (suc k) zero x d lt = refl
rep-at (suc k) (suc i) x d lt = rep-at k i x d (omega (arith, lt))

-- a worker of a new activation has made no event
pub new-worker : (K : ℕ → Crew) (c : Common) (unit k w n : ℕ) (ts : List Task) → length (K unit) ≡ suc k → slice_get (new_activation c unit k).strands w ≡ Some n → (steps : List Step) × Lasts ts steps × AtStep (events_of (K unit) w) 0 steps →
    WorkerFits K (c.activations ++ new_activation c unit k ∷ []) n (role_of (length c.activations) w) ts
new-worker K c unit k w n ts size runs (steps, left, at) =
    record {
      runs = subst (λ z. slice_get z.strands w ≡ Some n) (sym is) runs;
      room = λ v u lv lu. subst (λ z. HasRoom z v u) (sym is) (room v u (subst (λ z. v < length (K z.unit)) is lv) (subst (λ z. u < length (K z.unit)) is lu));
      made = 0;
      inside = subst (λ z. 0 < length (events_of (K z.unit) w)) (sym is) (stands-inside (events_of (K unit) w) 0 steps at);
      sent = λ u. ap (λ z. (channel_in z w u).sent) is ∙ ap (λ z. z.sent) (new-channel c unit k w u);
      received = λ v. ap (λ z. (channel_in z v w).received) is ∙ ap (λ z. z.received) (new-channel c unit k v w);
      left = inr (steps, left, subst (λ z. AtStep (events_of (K z.unit) w) 0 steps) (sym is) at);
    }
  where
    is : act (c.activations ++ new_activation c unit k ∷ []) (length c.activations) ≡ new_activation c unit k
    is = get-more (λ z. z ≡ new_activation c unit k) c.activations (new_activation c unit k) no_activation (length c.activations) (λ last. refl) (λ ne. absurd (ne refl))

    room : (v u : ℕ) → v < length (K unit) → u < length (K unit) → HasRoom (new_activation c unit k) v u
    room v u lv lu =
        let row : List Channel = replicate (k + 1) no_channel in
        let a : length (replicate (k + 1) row) ≡ k + 1 = length-replicate (k + 1) row in
        let b : length row ≡ k + 1 = length-replicate (k + 1) no_channel in
        let e : get_or (replicate (k + 1) row) v [] ≡ row = rep-at (k + 1) v row [] (omega (arith, lv, size)) in
        (omega (arith, a, lv, size), subst (λ l. u < length l) (sym e) (omega (arith, b, lu, size)))

-- ---- one operation, at the head of the tasks of a frame

module _ (natives : Answers) (K : ℕ → Crew) (atoms : List AtomDef) (fillers : ℕ → List Filler) (p : TypedPackage) (begun-well : Begun K (trees atoms fillers p)) (c : Common) (depth unit : ℕ) (role : Option Role) (control : Doing) (o : Operation) (ts : List Task) (l : Local) (ready : ReadyThere c) (h : FrameFits K c.activations c.running unit role (Do o ∷ ts)) where
  abbrev facts : ProgramFacts
  facts = (trees atoms fillers p).facts

  abbrev caller : Caller
  caller = record { unit = unit; role = role; depth = depth }

  abbrev Fits : Effect → Type 0
  Fits effect = EffectFits natives (patient (trees atoms fillers p)) (tree_keeps K) c depth (frame unit role control) (doing l ts) effect

  -- behind the operation, where no activation has changed
  behind : lasting (told-op o).steps ≡ 0 → (d : Common) → d.activations ≡ c.activations → FrameFits K d.activations c.running unit role ts
  behind quiet d same =
      subst (λ acts. FrameFits K acts c.running unit role ts) (sym same) (frame-goes K c.activations c.running unit role (Do o ∷ ts) ts (some-task K (Do o) ts) (goes-behind o ts quiet) h)

  caught-by : (d : Common) (x : Option Doing) → ((y : Doing) → x ≡ Some y → FrameFits K d.activations c.running unit role y.tasks) → Caught ((tree_keeps K).fits d c.running depth) (frame unit role control) x
  caught-by d None f = tt
  caught-by d (Some y) f = f y refl

  pub fails : (d : Common) (e : Value) → d.activations ≡ c.activations → Caught ((tree_keeps K).fits d c.running depth) (frame unit role control) (caught l e ts)
  fails d e same =
      caught-by d (caught l e ts) (λ y is.
      subst (λ acts. FrameFits K acts c.running unit role y.tasks) (sym same) (frame-goes K c.activations c.running unit role (Do o ∷ ts) y.tasks (some-task K (Do o) ts) (goes-caught l e o ts y is) h))

  -- what a shape says
  abbrev Any : Role → Type 0
  Any r = ⊤

  by-alike : {q : Option Role} (d : Common) → Alike q c d → Onward Any c d × ReadyThere d
  by-alike d alike = (onward-alike c d (λ r e. tt) alike, ready-board c d alike.board ready)

  by-gives : (vs ws : List Value) (d : Common) → ShapeOf facts o vs caller c (Gives ws d) → Onward Any c d × ReadyThere d
  by-gives vs ws d (inl calm) = by-alike d calm.alike
  by-gives vs ws d (inr (e, alike, is)) =
      let a = by-alike e alike in
      (subst (λ z. Onward Any c z) (sym is) (onward-then a.0 (onward-settled e)), subst ReadyThere (sym is) (ready-settled e a.1))

  -- ---- where no activation changes

  spawns : IsQuiet o → (vs ws : List Value) (ss : List Spawned) (r : Option Role) (d : Common) → ShapeOf facts o vs caller c (Spawns ss r ws d) → d.activations ≡ c.activations → Fits (Spawns ss r ws d)
  spawns quiet vs ws ss r d (inr crew) same = absurd (subst IsQuiet crew.starts quiet)
  spawns quiet vs ws ss r d (inl one) same =
      let a = by-alike one.before one.calm.alike in
      let m = made-one one.one.unit None one.before in
      let n = a.0.count in
      let k = m.count in
      let len : length ss ≡ 1 = ap length one.is in
      let count : length d.strands ≡ length one.before.strands + 1 = ap (λ z. length z.strands) one.made ∙ k in (
        subst ReadyThere (sym one.made) (m.ready a.1),
        ap (λ z. z.running) one.made ∙ m.running ∙ a.0.running,
        omega (arith, n, count, len),
        (λ q apart. later-same q c.activations d.activations same),
        inl one.same_role,
        subst (λ z. FrameFits K d.activations c.running unit z ts) (sym one.same_role) (behind (quiet-lasting o quiet) d same),
        subst (AllBegin natives (patient (trees atoms fillers p)) (tree_keeps K) d (length c.strands)) (sym one.is) ((
          (
            (λ k e. subst (λ z. FrameFits K d.activations (length c.strands) one.one.unit z k.tasks) (sym one.no_role) (begun-well.calls one.one.unit one.one.args k e)),
            subst (λ z. RunsOn d (length c.strands) z) (sym one.no_role) tt,
            tt,
          ),
          tt,
        )),
      )

  pub quiet-fits : IsQuiet o → (vs : List Value) (effect : Effect) → ShapeOf facts o vs caller c effect → Stays c.activations effect → Fits effect
  quiet-fits quiet vs (Gives ws d) shape same =
      let a = by-gives vs ws d shape in
      (a.1, (a.0.running, a.0.count), (λ q apart. later-same q c.activations d.activations same), behind (quiet-lasting o quiet) d same)
  quiet-fits quiet vs (Fails e d) shape same =
      let a = by-alike d shape in
      (a.1, (a.0.running, a.0.count), (λ q apart. later-same q c.activations d.activations same), tt, fails d e same)
  quiet-fits quiet vs (Waits need) shape same = (ready-blocked need c ready, (λ q. later-same q c.activations c.activations refl))
  quiet-fits quiet vs (Enters callee args d) shape same =
      let a = by-alike d shape.alike in
      (a.1, (a.0.running, a.0.count), (λ q. later-same q c.activations d.activations same), (λ k e. begun-well.calls callee args k e), behind (quiet-lasting o quiet) d same)
  quiet-fits quiet vs (Leaves v) shape same = (ended-ready (Returned v) role c ready, (λ q apart. ended-later (Returned v) role q c), tt)
  quiet-fits quiet vs (Spawns ss r ws d) shape same = spawns quiet vs ws ss r d shape same
  quiet-fits quiet vs NoTick shape same = tt
  quiet-fits quiet vs (Beyond limit) shape same = tt

  -- a slot without a value is loaded in place of the operation
  loads : (e : Value) (w : World) → Fits (lifted c (Threw e w))
  loads e w = (ready, (refl, refl), (λ q apart. later-same q c.activations c.activations refl), tt, fails (with_world c w) e refl)

  pub load-fits : (slot : ℕ) (vs : List Value) (effect : Effect) → Performs facts natives (op.Load slot) vs caller c effect → Fits effect
  load-fits slot vs effect performs =
      let e : Value = Error (next_error c.world) in
      let w : World = makes_error c.world (panic_message NotInitialised) None [] in
      in-none vs performs (λ none is. subst Fits (sym is) (in-if (nat_le (cells w.heap) most_cells) (λ came. Fits (lifted c came)) (Threw e w) PassesCells (λ b. loads e w) (λ b. tt)))

  -- behind a message nothing is caught
  uncaught : (d : Common) (e : Value) → (op_shown o).messages ≡ 1 → ((x : Doing) → caught l e ts ≡ Some x → (steps : List Step) × Lasts (Do o ∷ ts) steps) → Caught ((tree_keeps K).fits d c.running depth) (frame unit role control) (caught l e ts)
  uncaught d e one lasts =
      caught-by d (caught l e ts) (λ y is.
      let left = lasts y is in
      let none = never-caught l e o ts y left.0 is left.1 in
      absurd (omega (arith, one, none)))

-- ---- messages

module _ (natives : Answers) (K : ℕ → Crew) (atoms : List AtomDef) (fillers : ℕ → List Filler) (p : TypedPackage) (begun-well : Begun K (trees atoms fillers p)) (c : Common) (depth unit : ℕ) (r : Role) (control : Doing) (o : Operation) (ts : List Task) (l : Local) (ready : ReadyThere c) (h : WorkerFits K c.activations c.running r (Do o ∷ ts)) where
  abbrev sees : Effect → Type 0
  sees effect = EffectFits natives (patient (trees atoms fillers p)) (tree_keeps K) c depth (frame unit (Some r) control) (doing l ts) effect

  abbrev x : Activation
  x = act c.activations r.activation

  abbrev crew : Crew
  crew = K x.unit

  own : r.worker < length crew
  own = in-crew crew r.worker h.made h.inside

  there : r.activation < length c.activations
  there = there-of c.activations c.running r h.runs

  pub steps-left : (steps : List Step) × Lasts (Do o ∷ ts) steps
  steps-left = by h.left
    where
      by : Left K c.activations r h.made (Do o ∷ ts) → (steps : List Step) × Lasts (Do o ∷ ts) steps
      by (inl none) = absurd (some-task K (Do o) ts none)
      by (inr (steps, left, at)) = (steps, left)

  -- the activation with this channel
  module _ (from to : ℕ) (ch : Channel) where
    abbrev y : Activation
    y = changed x from to ch

    abbrev bcts : Acts
    bcts = slice_set c.activations r.activation y

    is : act bcts r.activation ≡ y
    is = or-here c.activations r.activation y no_activation there

    runs-on : Runs bcts c.running r
    runs-on = subst (λ z. slice_get z.strands r.worker ≡ Some c.running) (sym is) h.runs

    rooms : (v w : ℕ) → HasRoom x v w → HasRoom (act bcts r.activation) v w
    rooms v w room = subst (λ z. HasRoom z v w) (sym is) (changed-room x from to ch v w room)

  -- one message more is sent to w
  module _ (w : ℕ) (e : EventKind) (told : (told-op o).steps ≡ Makes e ∷ []) (to-peer : (v : ℕ) → sends_to v e ≡ (w == v)) (none-received : (v : ℕ) → receives_event v e ≡ false) (peer : w < length crew) (value : Value) where
    abbrev sent_channel : Channel
    sent_channel = one_sent (channel_in x r.worker w) value

    sent-fits : WorkerFits K (bcts r.worker w sent_channel) c.running r ts
    sent-fits =
        says K c.activations (bcts r.worker w sent_channel) c.running r o ts e told h (runs-on r.worker w sent_channel) (ap (λ z. z.unit) (is r.worker w sent_channel)) (rooms r.worker w sent_channel)
        (λ v. ap (λ z. (channel_in z r.worker v).sent) (is r.worker w sent_channel) ∙ sent-one x r.worker w sent_channel (h.room r.worker w own peer) refl v ∙ ap (λ b. (channel_in x r.worker v).sent + one_if b) (sym (to-peer v)))
        (λ v.
        let a = ap (λ z. (channel_in z v r.worker).received) (is r.worker w sent_channel) in
        let b = channel-one x r.worker w sent_channel (λ z. z.received ≡ (channel_in x v r.worker).received) v r.worker (λ f g. (λ i. (channel_in x (sym f i) (sym g i)).received)) refl in
        let z = ap one_if (none-received v) in
        omega (arith, a, b, z))

    sent-later : (q : Option Role) → AreApart q (Some r) → Later q c.activations (bcts r.worker w sent_channel)
    sent-later q apart = others-same c.activations r q r.worker w sent_channel apart (λ v ne e. absurd (ne e)) (λ v ne e. refl)

  pub sends-fit : (w : ℕ) (e : EventKind) (value : Value) (given : List Value) → (told-op o).steps ≡ Makes e ∷ [] → ((v : ℕ) → sends_to v e ≡ (w == v)) → ((v : ℕ) → receives_event v e ≡ false) → w < length crew → sees (sends c r w value given)
  sends-fit w e value given told to-peer none-received peer =
      let world = with_copies Bool.true c.world value in
      let copy = copy_of c.world value in
      let d : Common = with_channel (with_world c world) r.activation r.worker w (one_sent (channel_at c r.activation r.worker w) copy) in
      in-if (nat_le (cells world.heap) most_cells) sees (Gives given (settled d)) (Beyond Cells)
      (λ b. (ready-settled d ready, (refl, length-map d.strands (woken d)), sent-later w e told to-peer none-received peer copy, sent-fits w e told to-peer none-received peer copy))
      (λ b. tt)

  -- one message more is received from v
  module _ (v : ℕ) (e : EventKind) (told : (told-op o).steps ≡ Makes e ∷ []) (from-peer : (u : ℕ) → receives_event u e ≡ (v == u)) (none-sent : (u : ℕ) → sends_to u e ≡ false) (peer : v < length crew) (queue : List Value) where
    abbrev received_channel : Channel
    received_channel = one_received (channel_in x v r.worker) queue

    received-fits : WorkerFits K (bcts v r.worker received_channel) c.running r ts
    received-fits =
        says K c.activations (bcts v r.worker received_channel) c.running r o ts e told h (runs-on v r.worker received_channel) (ap (λ z. z.unit) (is v r.worker received_channel)) (rooms v r.worker received_channel)
        (λ u.
        let a = ap (λ z. (channel_in z r.worker u).sent) (is v r.worker received_channel) in
        let b = channel-one x v r.worker received_channel (λ z. z.sent ≡ (channel_in x r.worker u).sent) r.worker u (λ f g. (λ i. (channel_in x (sym f i) (sym g i)).sent)) refl in
        let z = ap one_if (none-sent u) in
        omega (arith, a, b, z))
        (λ u. ap (λ z. (channel_in z u r.worker).received) (is v r.worker received_channel) ∙ received-one x v r.worker received_channel (h.room v r.worker peer own) refl u ∙ ap (λ b. (channel_in x u r.worker).received + one_if b) (sym (from-peer u)))

    received-later : (q : Option Role) → AreApart q (Some r) → Later q c.activations (bcts v r.worker received_channel)
    received-later q apart = others-same c.activations r q v r.worker received_channel apart (λ u ne e. refl) (λ u ne e. absurd (ne e))

    abbrev d : Common
    d = with_received c r v queue

    given-fits : (value : Value) → sees (Gives (value ∷ []) (settled d))
    given-fits value = (ready-settled d ready, (refl, length-map d.strands (woken d)), received-later, received-fits)

    thrown-fits : (op_shown o).messages ≡ 1 → (error : Value) → sees (Fails error d)
    thrown-fits one error = (ready, (refl, refl), received-later, tt, uncaught natives K atoms fillers p begun-well c depth unit (Some r) control o ts l ready h d error one (λ y caught. steps-left))

  pub receives-fit : (v : ℕ) (e : EventKind) → (told-op o).steps ≡ Makes e ∷ [] → (op_shown o).messages ≡ 1 → ((u : ℕ) → receives_event u e ≡ (v == u)) → ((u : ℕ) → sends_to u e ≡ false) → v < length crew → sees (receives c r v)
  receives-fit v e told one from-peer none-sent peer = by (channel_at c r.activation v r.worker).queue
    where
      by-end : (end : Option RunEnd) → sees (receives_end c r v end)
      by-end (Some (Returned value)) = given-fits v e told from-peer none-sent peer [] value
      by-end (Some (Panicked error)) = thrown-fits v e told from-peer none-sent peer [] one error
      by-end None = (ready-blocked _ c ready, (λ q. later-same q c.activations c.activations refl))

      by : (queue : List Value) → sees (receives_from c r v queue)
      by (value ∷ queue) = given-fits v e told from-peer none-sent peer queue value
      by [] = by-end (worker_end c r.activation v)
