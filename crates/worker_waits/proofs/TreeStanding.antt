-- In each state of typed trees that is reached the workers stand among their events.
use Rattle.std.proofs.Common.{◌≡◌, ◌≢◌, ◌<◌, ◌≤◌, ◌⊎◌, ◌+◌, ◌++◌, ◌==◌, ◌∙◌, ℕ, zero, suc, true, false, List, [], ◌∷◌, Option, Some, None, IsSomeAnd, length, refl, sym, subst, ap, inl, inr, arith}
use Rattle.std.proofs.lemmas.Bool.{cases_lt, le-leb}
use Rattle.std.proofs.lemmas.Option.{none-some, slice_get-get_or}
use Rattle.std.specs.Prelude.{Contains, get_or, if◌then◌else◌, slice_get}
use Rattle.bal_base.specs.declared.text.Text.{Text}
use Rattle.type_model.specs.declared.atoms.AtomDef.{AtomDef}
use Rattle.operations.specs.declared.operation.Operation.{Operation}
use Rattle.operations.specs.declared.operation.Operation.TheVariants as op
use Rattle.operations.specs.Talk.{Talk, talk_of, workers_in, AwaitsWorkers}
use Rattle.value_model.specs.declared.filler.Filler.{Filler}
use Rattle.value_model.specs.declared.value.Value.{Value}
use Rattle.value_model.specs.declared.value.Value.TheVariants.{Nil}
use Rattle.value_model.specs.Meaning.{Answers}
use Rattle.typed_tree.specs.declared.event.EventKind.{EventKind}
use Rattle.typed_tree.specs.declared.event.EventKind.TheVariants.{Done, Flush, Receive, Wait}
use Rattle.typed_tree.specs.declared.package.TypedPackage.{TypedPackage}
use Rattle.op_model.specs.Common.{Activation, Channel, Common, End as RunEnd, Need, Role, IsActive, IsBlocked}
use Rattle.op_model.specs.Effects.{Gives, Waits}
use Rattle.op_model.specs.Local.{Act, Later as Awaited, Local, Never, Now, acts}
use Rattle.op_model.specs.Messages.{flushes, flushes_end, receives, receives_from}
use Rattle.op_model.specs.Performs.{Performs}
use Rattle.op_model.specs.Strands.{activation_at, channel_at, no_activation, no_strand, strand_at, worker_end}
use Rattle.machine_model.specs.Keeping.{ApartFrom, AreApart, BelowFit, FramesFit, Invariant, IsIdle, OthersFit, StateFits}
use Rattle.machine_model.specs.Machine.{Ask, On, Does, Stuck, Frame, Machine, State, Next, Takes, TakesTop, asks, captured_slots}
use Rattle.machine_model.specs.Runs.{AreWords, IsReached, Phase, Picking, Running, Reaches, starts, after_move, after_block, after_end, after_pick, does_in, next_operation}
use Rattle.machine_model.specs.Strands.{HasRole, IsUnfinished, StartsOnce, StillWaits, StrandsHold, TopWaits, WaitsForSome, frames_in, frames_of, role_of, roles_of, top_role}
use Rattle.machine_model.proofs.HoldOfStrands.{hold-of-strands}
use Rattle.machine_model.proofs.Keeping.{kept-holds}
use Rattle.machine_model.proofs.Once.{some-same}
use Rattle.machine_model.proofs.Places.{get-past, if-other, if-same, same-or}
use Rattle.machine_model.proofs.Shapes.{in-none, in-some}
use Rattle.eval_model.specs.Tasks.{Choose, Do, Doing, Eval, Exec, Get, Guard, Task, Turn, doing}
use Rattle.eval_model.specs.Trees.{chosen, next_of, trees}
use Rattle.worker_pairing.specs.Events.{ArePaired, Crew, IsOrderable, before, events_of, receives_from as receives_event, sends_to}
use Rattle.worker_waits.specs.Left.{Lasts, Makes}
use Rattle.worker_waits.specs.Standing.{AreAt, IsUnmet, said}
use Rattle.worker_waits.specs.Waiting.{NeverRings, StopsAt, awaited_workers}
use Rattle.worker_waits.proofs.Asking.{ActsAre, acts-are, patient, patient_ask}
use Rattle.worker_waits.proofs.Later.{channel_in}
use Rattle.worker_waits.proofs.NoRing.{no-ring}
use Rattle.worker_waits.proofs.Stepping.{AtStep, moves, the_event}
use Rattle.worker_waits.proofs.Told.{told-op, told-wait}
use Rattle.worker_waits.proofs.TreeFits.{FrameFits, Left, WorkerFits, does, some-task, starts-none}
use Rattle.worker_waits.proofs.TreeKeeping.{Begun, tree_keeps}
use Rattle.worker_waits.proofs.TreeSteps.{frame-right, trees-keep}

-- ---- a patient machine reaches what the machine does

module _ {C : Type 0} (natives : Answers) (M : Machine C) where
  patient-takes : (s : State C) (f : Frame C) (fs : List (Frame C)) (ask : Ask C) (next : Next C) → Takes natives M s f fs ask next → Takes natives (patient M) s f fs (patient_ask f.control ask) next
  patient-takes s f fs (On x) next h = h
  patient-takes s f fs (Does o vs k) next h = h
  patient-takes s f fs Stuck next h = absurd h

  patient-top : (s : State C) (fs : List (Frame C)) (next : Next C) → TakesTop natives M s fs next → TakesTop natives (patient M) s fs next
  patient-top s [] next h = absurd h
  patient-top s (f ∷ fs) next h = patient-takes s f fs (M.look f.unit f.control) next h

  patient-reaches : {words : List Text} {input : List ℕ} {ticks : ℕ} {phase : Phase} {n : ℕ} {order : List ℕ} {s : State C} → Reaches natives M words input ticks phase n order s → Reaches natives (patient M) words input ticks phase n order s
  patient-reaches (starts e) = starts e
  patient-reaches (after_move {s = s} {t} r step) = after_move (patient-reaches r) (patient-top s s.frames _ step)
  patient-reaches (after_block {s = s} {t} r step) = after_block (patient-reaches r) (patient-top s s.frames _ step)
  patient-reaches (after_end {s = s} {t} r step) = after_end (patient-reaches r) (patient-top s s.frames _ step)
  patient-reaches (after_pick place r e) = after_pick place (patient-reaches r) e

-- ---- what a frame of a tree asks for

abbrev op_of : Ask Doing → Operation
op_of (On x) = op.Pop
op_of (Does o vs k) = o
op_of Stuck = op.Pop

-- the operation at the head of its tasks, or a load
abbrev HeadIs : List Task → Operation → Type 0
HeadIs ts other = ((o : Operation) × (rest : List Task) × (ts ≡ Do o ∷ rest) × (other ≡ o)) ⊎ ((slot : ℕ) × (other ≡ op.Load slot))

act-does : (o other : Operation) (ts : List Task) (vs : List Value) (k : Doing) (x : Act) → ActsAre o x → asks (λ m. doing m ts) x ≡ Does other vs k → (other ≡ o) ⊎ ((slot : ℕ) × (other ≡ op.Load slot))
act-does o other ts vs k (Now m) are e = absurd (let q : ⊥ = cc in q)
act-does o other ts vs k Never are e = absurd (let q : ⊥ = cc in q)
act-does o other ts vs k (Awaited asked ws m) (inl is) e = inl (sym (ap op_of e) ∙ is)
act-does o other ts vs k (Awaited asked ws m) (inr (slot, is)) e = inr (slot, sym (ap op_of e) ∙ is)

head-does : (captured : List ℕ) (l : Local) (ts : List Task) (other : Operation) (vs : List Value) (k : Doing) → next_of captured l ts ≡ Does other vs k → HeadIs ts other
head-does captured l [] other vs k e = absurd (let q : ⊥ = cc in q)
head-does captured l (Eval x ∷ ts) other vs k e = absurd (let q : ⊥ = cc in q)
head-does captured l (Exec x ∷ ts) other vs k e = absurd (let q : ⊥ = cc in q)
head-does captured l (Turn x ∷ ts) other vs k e = absurd (let q : ⊥ = cc in q)
head-does captured l (Guard x ∷ ts) other vs k e = absurd (let q : ⊥ = cc in q)
head-does captured l (Choose first second ∷ ts) other vs k e = absurd (choice l.stack e)
  where
    choice : (stack : List Value) → chosen first second ts l stack ≡ Does other vs k → ⊥
    choice (Rattle.value_model.specs.declared.value.Value.TheVariants.Bool true ∷ rest) e = cc
    choice (Rattle.value_model.specs.declared.value.Value.TheVariants.Bool false ∷ rest) e = cc
    choice _ e = cc
head-does captured l (Get slot narrowed ∷ ts) other vs k e = by (act-does (op.Load slot) other ts vs k (acts captured (op.Load slot) l) (acts-are captured (op.Load slot) l) e)
  where
    by : (other ≡ op.Load slot) ⊎ ((slot : ℕ) × (other ≡ op.Load slot)) → HeadIs (Get slot narrowed ∷ ts) other
    by (inl is) = inr (slot, is)
    by (inr is) = inr is
head-does captured l (Do o ∷ ts) other vs k e = by (act-does o other ts vs k (acts captured o l) (acts-are captured o l) e)
  where
    by : (other ≡ o) ⊎ ((slot : ℕ) × (other ≡ op.Load slot)) → HeadIs (Do o ∷ ts) other
    by (inl is) = inl (o, ts, refl, is)
    by (inr is) = inr is

-- ---- what awaits another worker says so

record Says (o : Operation) : Type 0 where
  event : EventKind
  steps : (told-op o).steps ≡ Makes event ∷ []
  says : said event ≡ talk_of o

none-among : (u : ℕ) → Contains [] u → ⊥
none-among u (k, lt, same) = omega (arith, lt)

wait-says : (ns : List ℕ) (u : ℕ) → Contains ns u → (e : EventKind) × ((told-wait ns).steps ≡ Makes e ∷ []) × (said e ≡ AwaitsWorkers ns)
wait-says [] u among = absurd (none-among u among)
wait-says (n ∷ ns) u among = (Wait (n ∷ ns), refl, refl)

awaits-says : (o : Operation) (u : ℕ) → Contains (awaited_workers (talk_of o)) u → Says o
awaits-says (op.Done w) u among = record { event = Done (Some w); steps = refl; says = refl }
awaits-says (op.Receive w) u among = record { event = Receive (Some w); steps = refl; says = refl }
awaits-says (op.Flush w) u among = record { event = Flush (Some w); steps = refl; says = refl }
awaits-says (op.WaitWorker w) u among = record { event = Wait (w ∷ []); steps = refl; says = refl }
awaits-says (op.WaitAny []) u among = absurd (none-among u among)
awaits-says (op.WaitAny (name ∷ names)) u among = let h = wait-says (workers_in (name ∷ names)) u among in record { event = h.0; steps = h.1; says = h.2 }
awaits-says (op.WaitAll atom names) u among = let h = wait-says (workers_in names) u among in record { event = h.0; steps = h.1; says = h.2 }
awaits-says o u among = absurd (none-among u among)

-- ---- and can't be done

gives-waits : (vs : List Value) (d : Common) (need : Need) → Waits need ≡ Gives vs d → ⊥
gives-waits vs d need e = cc

unmet-receive : (c : Common) (r : Role) (v : ℕ) (need : Need) → Waits need ≡ receives c r v → (channel_at c r.activation v r.worker).queue ≡ []
unmet-receive c r v need e = by (channel_at c r.activation v r.worker).queue e
  where
    by : (queue : List Value) → Waits need ≡ receives_from c r v queue → queue ≡ []
    by [] e = refl
    by (x ∷ queue) e = absurd (gives-waits _ _ need e)

unmet-flush : (c : Common) (r : Role) (v : ℕ) (need : Need) → Waits need ≡ flushes c r v → (channel_at c r.activation r.worker v).received < (channel_at c r.activation r.worker v).sent
unmet-flush c r v need e = by (cases_lt (channel_at c r.activation r.worker v).received (channel_at c r.activation r.worker v).sent)
  where
    x : Channel
    x = channel_at c r.activation r.worker v

    by : (x.received < x.sent) ⊎ (x.sent ≤ x.received) → x.received < x.sent
    by (inl lt) = lt
    by (inr le) = absurd (gives-waits _ _ need (e ∙ ap (λ b. if b then Gives (Nil ∷ []) c else flushes_end c r v x.sent (worker_end c r.activation v)) (le-leb x.sent x.received le)))

unmet-of : (facts : _) (natives : Answers) (o : Operation) (vs : List Value) (unit depth a w : ℕ) (c : Common) (need : Need) → Performs facts natives o vs (record { unit = unit; role = Some (role_of a w); depth = depth }) c (Waits need) → IsUnmet c a w (talk_of o)
unmet-of facts natives (op.Receive v) vs unit depth a w c need h = in-none vs h (λ none e. unmet-receive c (role_of a w) v need e)
unmet-of facts natives (op.Done v) vs unit depth a w c need h = in-none vs h (λ none e. unmet-flush c (role_of a w) v need e)
unmet-of facts natives (op.Flush v) vs unit depth a w c need h = in-none vs h (λ none e. unmet-flush c (role_of a w) v need e)
unmet-of facts natives o vs unit depth a w c need h = tt

-- ---- frames by their place

module _ {C : Type 0} (I : Invariant C) where
  others-at : (phase : Phase) (c : Common) (k n : ℕ) (xs : List (List (Frame C))) → OthersFit I phase c k xs → n < length xs → IsIdle phase c (k + n) → FramesFit I c (k + n) (get_or xs n [])
  others-at phase c k n [] h lt idle = absurd (omega (arith, lt))
  others-at phase c k zero (x ∷ xs) (here, h) lt idle = let e : k ≡ k + 0 = omega arith in subst (λ j. FramesFit I c j x) e (here (subst (IsIdle phase c) (sym e) idle))
  others-at phase c k (suc n) (x ∷ xs) (here, h) lt idle = let e : suc k + n ≡ k + suc n = omega arith in subst (λ j. FramesFit I c j (get_or xs n [])) e (others-at phase c (suc k) n xs h (omega (arith, lt)) (subst (IsIdle phase c) (sym e) idle))

  others-here : (phase : Phase) (c : Common) (n : ℕ) (xs : List (List (Frame C))) → OthersFit I phase c 0 xs → n < length xs → IsIdle phase c n → FramesFit I c n (get_or xs n [])
  others-here phase c n xs h lt idle = let e : 0 + n ≡ n = omega arith in subst (λ j. FramesFit I c j (get_or xs n [])) e (others-at phase c 0 n xs h lt (subst (IsIdle phase c) (sym e) idle))

  pub frames-at : (phase : Phase) (s : State C) (n : ℕ) → StateFits I phase s → n < length s.common.strands → FramesFit I s.common n (frames_in phase s n)
  frames-at Picking s n fits lt = let e = fits.count in others-here Picking s.common n s.others fits.others (omega (arith, lt, e)) tt
  frames-at Running s n fits lt = by (same-or n s.common.running)
    where
      by : (n ≡ s.common.running) ⊎ (n ≢ s.common.running) → FramesFit I s.common n (if n == s.common.running then s.frames else frames_of s n)
      by (inl e) = subst (FramesFit I s.common n) (sym (if-same n s.common.running s.frames (frames_of s n) e)) (subst (λ m. FramesFit I s.common m s.frames) (sym e) fits.frames.0)
      by (inr ne) = let e = fits.count in subst (FramesFit I s.common n) (sym (if-other n s.common.running s.frames (frames_of s n) ne)) (others-here Running s.common n s.others fits.others (omega (arith, lt, e)) ne)

  apart-from : (r : Role) (role : Option Role) (fs : List (Frame C)) → role ≡ Some r → ApartFrom role fs → HasRole r (roles_of fs) → ⊥
  apart-from r role [] is apart h = h
  apart-from r role (g ∷ gs) is (here, apart) (inl e) = by g.role role e is here
    where
      by : (a b : Option Role) → a ≡ Some r → b ≡ Some r → AreApart a b → ⊥
      by a b e f h = subst (λ x. AreApart x (Some r)) e (subst (λ y. AreApart a y) f h) refl
  apart-from r role (g ∷ gs) is (here, apart) (inr h) = apart-from r role gs is apart h

-- the frame on top is this
abbrev TopIs : List (Frame Doing) → Frame Doing → Type 0
TopIs [] f = ⊥
TopIs (g ∷ gs) f = g ≡ f

module _ (K : ℕ → Crew) (c : Common) (n : ℕ) (r : Role) where
  -- a frame of the worker
  record Found (fs : List (Frame Doing)) : Type 0 where
    frame : Frame Doing
    fits : WorkerFits K c.activations n r frame.control.tasks
    top : top_role fs ≡ Some r → TopIs fs frame

  found-below : (callee : ℕ) (fs : List (Frame Doing)) → BelowFit (tree_keeps K) c n callee fs → HasRole r (roles_of fs) → (f : Frame Doing) × WorkerFits K c.activations n r f.control.tasks
  found-below callee [] h has = absurd has
  found-below callee (f ∷ fs) (here, runs, apart, h) (inl is) = (f, subst (λ x. FrameFits K c.activations n f.unit x f.control.tasks) is here)
  found-below callee (f ∷ fs) (here, runs, apart, h) (inr has) = found-below f.unit fs h has

  found : (fs : List (Frame Doing)) → FramesFit (tree_keeps K) c n fs → HasRole r (roles_of fs) → Found fs
  found [] h has = absurd has
  found (f ∷ fs) (here, runs, apart, h) (inl is) = record { frame = f; fits = subst (λ x. FrameFits K c.activations n f.unit x f.control.tasks) is here; top = λ e. refl }
  found (f ∷ fs) (here, runs, apart, h) (inr has) =
      let b = found-below f.unit fs h has in
      record { frame = b.0; fits = b.1; top = λ e. absurd (apart-from (tree_keeps K) r f.role fs e apart has) }

-- ---- where workers stand

module _ (natives : Answers) (K : ℕ → Crew) (atoms : List AtomDef) (fillers : ℕ → List Filler) (p : TypedPackage) (begun-well : Begun K (trees atoms fillers p)) where
  abbrev M : Machine Doing
  M = trees atoms fillers p

  pub reached-fit : (words : List Text) (input : List ℕ) (ticks : ℕ) (phase : Phase) (s : State Doing) → AreWords words → IsReached natives M words input ticks phase s → StateFits (tree_keeps K) phase s
  reached-fit words input ticks phase s texts (n, order, reached) =
      kept-holds natives (patient M) (tree_keeps K) (trees-keep natives K atoms fillers p begun-well) words input ticks phase s texts (n, order, patient-reaches natives M reached)

  -- what the running frame asks for is at the head of its tasks
  top-head : (words : List Text) (input : List ℕ) (ticks : ℕ) (s : State Doing) (f : Frame Doing) (fs : List (Frame Doing)) (other : Operation) (vs : List Value) (k : Doing) → AreWords words → IsReached natives M words input ticks Running s → s.frames ≡ f ∷ fs → M.look f.unit f.control ≡ Does other vs k →
      FrameFits K s.common.activations s.common.running f.unit f.role f.control.tasks × HeadIs f.control.tasks other
  top-head words input ticks s f fs other vs k texts reached frames looks = (
    (subst (λ l. FramesFit (tree_keeps K) s.common s.common.running l) frames (reached-fit words input ticks Running s texts reached).frames.0).0,
    head-does (captured_slots M.facts f.unit) f.control.local f.control.tasks other vs k looks,
  )

  pub starts-once : StartsOnce natives M
  starts-once words input ticks s f fs vs k texts reached frames looks = by h.1 f.role h.0
    where
      h : FrameFits K s.common.activations s.common.running f.unit f.role f.control.tasks × HeadIs f.control.tasks op.Workers
      h = top-head words input ticks s f fs op.Workers vs k texts reached frames looks

      none : (o : Operation) (rest : List Task) → f.control.tasks ≡ Do o ∷ rest → op.Workers ≡ o → (role : Option Role) → FrameFits K s.common.activations s.common.running f.unit role f.control.tasks → role ≡ None
      none o rest is same None fits = refl
      none o rest is same (Some r) fits = absurd (starts-none K s.common.activations s.common.running r op.Workers rest refl (subst (WorkerFits K s.common.activations s.common.running r) (is ∙ ap (λ x. Do x ∷ rest) (sym same)) fits))

      by : HeadIs f.control.tasks op.Workers → (role : Option Role) → FrameFits K s.common.activations s.common.running f.unit role f.control.tasks → role ≡ None
      by (inl (o, rest, is, same)) role fits = none o rest is same role fits
      by (inr (slot, same)) role fits = absurd (let q : ⊥ = cc in q)

  pub waits-for-some : WaitsForSome natives M
  waits-for-some words input ticks s f fs names vs k texts reached frames looks empty = by h.1
    where
      h : FrameFits K s.common.activations s.common.running f.unit f.role f.control.tasks × HeadIs f.control.tasks (op.WaitAny names)
      h = top-head words input ticks s f fs (op.WaitAny names) vs k texts reached frames looks

      by : HeadIs f.control.tasks (op.WaitAny names) → ⊥
      by (inl (o, rest, is, same)) =
          let e : f.control.tasks ≡ Do (op.WaitAny []) ∷ rest = is ∙ ap (λ x. Do x ∷ rest) (sym same ∙ ap op.WaitAny empty) in
          let w = frame-right natives K atoms fillers p begun-well s.common.activations s.common.running f.unit f.role (Do (op.WaitAny [])) rest (subst (FrameFits K s.common.activations s.common.running f.unit f.role) e h.0) in
          omega (arith, w)
      by (inr (slot, same)) = cc

  pub trees-hold : (words : List Text) (input : List ℕ) (ticks : ℕ) (phase : Phase) (s : State Doing) → AreWords words → IsReached natives M words input ticks phase s → StrandsHold natives M phase s
  trees-hold = hold-of-strands natives M starts-once waits-for-some

  module _ (words : List Text) (input : List ℕ) (ticks : ℕ) (phase : Phase) (s : State Doing) (texts : AreWords words) (reached : IsReached natives M words input ticks phase s) (a : ℕ) where
    abbrev c : Common
    c = s.common

    abbrev x : Activation
    x = activation_at c a

    abbrev crew : Crew
    crew = K x.unit

    fits : StateFits (tree_keeps K) phase s
    fits = reached-fit words input ticks phase s texts reached

    holds : StrandsHold natives M phase s
    holds = trees-hold words input ticks phase s texts reached

    -- an unfinished worker w that has made its first m events
    record Stands (w m : ℕ) : Type 0 where
      strand : ℕ
      there : strand < length c.strands
      runs : slice_get x.strands w ≡ Some strand
      frame : Frame Doing
      top : top_role (frames_in phase s strand) ≡ Some (role_of a w) → TopIs (frames_in phase s strand) frame
      inside : m < length (events_of crew w)
      sent : (u : ℕ) → (channel_at c a w u).sent ≡ before (sends_to u) (events_of crew w) m
      received : (v : ℕ) → (channel_at c a v w).received ≡ before (receives_event v) (events_of crew w) m
      left : Left K c.activations (role_of a w) m frame.control.tasks

    some-activation : (w : ℕ) → IsUnfinished c a w → slice_get c.activations a ≡ Some x
    some-activation w open-end = by (cases_lt a (length c.activations))
      where
        by : (a < length c.activations) ⊎ (length c.activations ≤ a) → slice_get c.activations a ≡ Some x
        by (inl lt) = slice_get-get_or c.activations a no_activation lt
        by (inr le) = absurd (none-some _ (sym (ap (λ z. slice_get z.ends w) (get-past c.activations a no_activation le)) ∙ open-end))

    within : {A : Type 0} (xs : List A) (j : ℕ) (y : A) → slice_get xs j ≡ Some y → j < length xs
    within [] zero y e = absurd (none-some y e)
    within [] (suc j) y e = absurd (none-some y e)
    within (z ∷ xs) zero y e = omega arith
    within (z ∷ xs) (suc j) y e = let h = within xs j y e in omega (arith, h)

    worker-at : (w : ℕ) → IsUnfinished c a w → (m : ℕ) × Stands w m
    worker-at w open-end =
        let h = holds.activations a x (some-activation w open-end) in
        let lt = within x.ends w None open-end in
        let long = h.ends in
        let n : ℕ = get_or x.strands w 0 in
        let runs : slice_get x.strands w ≡ Some n = slice_get-get_or x.strands w 0 (omega (arith, lt, long)) in
        let on = h.workers w n runs in
        let f = found K c n (role_of a w) (frames_in phase s n) (frames-at (tree_keeps K) phase s n fits on.0) (on.1 open-end) in
        let k = f.fits in
        (k.made, record { strand = n; there = on.0; runs = runs; frame = f.frame; top = f.top; inside = k.inside; sent = k.sent; received = k.received; left = k.left })

    made-by : (w : ℕ) (o : Option (Option RunEnd)) → slice_get x.ends w ≡ o → ℕ
    made-by w (Some None) e = (worker-at w e).0
    made-by w (Some (Some end)) e = 0
    made-by w None e = 0

    pub made : ℕ → ℕ
    made w = made-by w (slice_get x.ends w) refl

    stands : (w : ℕ) → IsUnfinished c a w → Stands w (made w)
    unfolding made-by worker-at made
    stands w open-end = by (slice_get x.ends w) refl open-end
      where
        by : (o : Option (Option RunEnd)) (e : slice_get x.ends w ≡ o) → o ≡ Some None → Stands w (made-by w o e)
        by (Some None) e is = (worker-at w e).1
        by (Some (Some end)) e is = absurd (let q : ⊥ = cc in q)
        by None e is = absurd (none-some _ is)

    queues : (v w : ℕ) → (channel_at c a v w).sent ≤ length (channel_at c a v w).queue + (channel_at c a v w).received
    queues v w = by (cases_lt a (length c.activations))
      where
        by : (a < length c.activations) ⊎ (length c.activations ≤ a) → (channel_at c a v w).sent ≤ length (channel_at c a v w).queue + (channel_at c a v w).received
        by (inl lt) = (holds.activations a x (slice_get-get_or c.activations a no_activation lt)).queues v w
        by (inr le) =
            let e = ap (λ z. (channel_in z v w).sent) (get-past c.activations a no_activation le) in
            omega (arith, e)

    -- a blocked strand doesn't run
    not-running : (n : ℕ) (need : Need) → (strand_at c n).status ≡ IsBlocked need → n < length c.strands → frames_in phase s n ≡ frames_of s n
    not-running n need blocked lt = by phase refl
      where
        active : phase ≡ Running → n ≡ c.running → ⊥
        active is e = in-some (slice_get c.strands c.running) (holds.running is) (λ y there act.
            let same : strand_at c n ≡ y = some-same _ _ (sym (slice_get-get_or c.strands n no_strand lt) ∙ ap (slice_get c.strands) e ∙ there) in
            let bad : IsBlocked need ≡ IsActive = sym blocked ∙ ap (λ z. z.status) same ∙ act in
            let q : ⊥ = cc in q)

        by : (z : Phase) → phase ≡ z → frames_in z s n ≡ frames_of s n
        by Picking is = refl
        by Running is = if-other n c.running s.frames (frames_of s n) (λ e. active is e)

    module _ (w n u : ℕ) (talk : Talk) (stop : StopsAt M s a w n talk) (open-end : IsUnfinished c a w) (among : Contains (awaited_workers talk) u) where
      abbrev Result : Type 0
      Result = IsSomeAnd (slice_get (events_of crew w) (made w)) (λ e. said e ≡ talk) × IsUnmet c a w talk

      k : Stands w (made w)
      k = stands w open-end

      same-strand : k.strand ≡ n
      same-strand = some-same k.strand n (sym k.runs ∙ stop.runs)

      there : n < length c.strands
      there = subst (λ m. m < length c.strands) same-strand k.there

      still : frames_in phase s n ≡ frames_of s n
      still = not-running n stop.need stop.blocked there

      -- the next event is what is to be done
      at-head : (o : Operation) (rest : List Task) (f : Frame Doing) → k.frame ≡ f → f.control.tasks ≡ Do o ∷ rest → talk_of o ≡ talk → IsSomeAnd (slice_get (events_of crew w) (made w)) (λ e. said e ≡ talk)
      at-head o rest f is tasks next = by (subst (λ g. Left K c.activations (role_of a w) (made w) g.control.tasks) is k.left)
        where
          says : Says o
          says = awaits-says o u (subst (λ t. Contains (awaited_workers t) u) (sym next) among)

          by : Left K c.activations (role_of a w) (made w) f.control.tasks → IsSomeAnd (slice_get (events_of crew w) (made w)) (λ e. said e ≡ talk)
          by (inl none) = absurd (some-task K (Do o) rest (sym tasks ∙ none))
          by (inr (steps, left, at)) =
              let d = does o rest steps (subst (λ ts. Lasts ts steps) tasks left) in
              let m = moves (events_of crew w) (made w) (Makes says.event) d.rest (subst (λ l. AtStep (events_of crew w) (made w) l) (d.same ∙ ap (λ l. l ++ d.rest) says.steps) at) in
              let same : m.event ≡ says.event = sym (ap the_event m.is) in
              subst (λ z. IsSomeAnd z (λ e. said e ≡ talk)) (sym m.next.here) (ap said same ∙ says.says ∙ next)

      asked : (g : Frame Doing) (gs : List (Frame Doing)) → k.frame ≡ g → g.role ≡ Some (role_of a w) → (ask : Ask Doing) → M.look g.unit g.control ≡ ask → IsSomeAnd (does_in ask) (λ o. talk_of o.0 ≡ talk) → StillWaits natives M phase s stop.need g gs ask → Result
      asked g gs is role (On y) looks next waits = absurd next
      asked g gs is role Stuck looks next waits = absurd next
      asked g gs is role (Does o vs y) looks next waits = by (head-does (captured_slots M.facts g.unit) g.control.local g.control.tasks o vs y looks)
        where
          performs : Performs M.facts natives o vs (record { unit = g.unit; role = Some (role_of a w); depth = length (g ∷ gs) }) c (Waits stop.need)
          performs = subst (λ z. Performs M.facts natives o vs (record { unit = g.unit; role = z; depth = length (g ∷ gs) }) c (Waits stop.need)) role waits

          by : HeadIs g.control.tasks o → Result
          by (inl (other, rest, tasks, same)) = (
            at-head o rest g is (tasks ∙ ap (λ z. Do z ∷ rest) (sym same)) next,
            subst (IsUnmet c a w) next (unmet-of M.facts natives o vs g.unit (length (g ∷ gs)) a w c stop.need performs),
          )
          by (inr (slot, same)) = absurd (none-among u (subst (λ t. Contains (awaited_workers t) u) (sym next ∙ ap talk_of same) among))

      stops-so : (fs : List (Frame Doing)) → frames_in phase s n ≡ fs → top_role fs ≡ Some (role_of a w) → IsSomeAnd (next_operation M fs) (λ o. talk_of o.0 ≡ talk) → Result
      stops-so [] is role next = absurd (none-some _ role)
      stops-so (g ∷ gs) is role next =
          let here : k.frame ≡ g = sym (subst (λ l. TopIs l k.frame) is (subst (λ m. TopIs (frames_in phase s m) k.frame) same-strand (k.top (subst (λ m. top_role (frames_in phase s m) ≡ Some (role_of a w)) (sym same-strand) (ap top_role is ∙ role))))) in
          let blocked = ((holds.strands n (strand_at c n) (slice_get-get_or c.strands n no_strand there)).blocked stop.need stop.blocked).1 in
          asked g gs here role (M.look g.unit g.control) refl next (subst (TopWaits natives M phase s stop.need) is blocked)

      pub stops-at : Result
      stops-at = stops-so (frames_of s n) still stop.role stop.next

    pub trees-at : AreAt M s a crew made
    trees-at =
        record {
          left = λ w open-end. (stands w open-end).inside;
          sent = λ v w open-end. (stands v open-end).sent w;
          received = λ v w open-end. (stands w open-end).received v;
          queue = queues;
          stops = λ w n u talk stop open-end among. stops-at w n u talk stop open-end among;
        }

  -- so none wait in a ring, where messages are paired and events are numbered
  pub trees-never-ring : ((unit : ℕ) → ArePaired (K unit) × IsOrderable (K unit)) → NeverRings natives M
  trees-never-ring good words input ticks phase s texts reached a =
      let g = good (activation_at s.common a).unit in
      no-ring M s a (K (activation_at s.common a).unit) (made words input ticks phase s texts reached a) g.1.0 g.0 g.1.1 (trees-at words input ticks phase s texts reached a)
