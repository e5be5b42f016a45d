-- What holds of the strands of every machine, in each state that is reached.
use Rattle.std.proofs.Common.{◌≡◌, ◌≢◌, ◌+◌, ◌++◌, ◌∙◌, ℕ, zero, suc, false, List, [], ◌∷◌, Option, Some, None, IsSomeAnd, length, refl, sym, subst, ap, inl, inr, ◌⊎◌, arith}
use Rattle.std.specs.Prelude.{⊤, get_or, if◌then◌else◌, map, option_map, slice_get}
use Rattle.std.proofs.lemmas.List.{length-map}
use Rattle.std.proofs.lemmas.Option.{get_or_from_slice_get, slice_get-get_or, slice_get-map}
use Rattle.bal_base.specs.declared.text.Text.{Text}
use Rattle.operations.specs.declared.operation.Operation.{Operation}
use Rattle.operations.specs.declared.operation.Operation.TheVariants.{Workers, WaitAny}
use Rattle.value_model.specs.declared.value.Value.{Value}
use Rattle.value_model.specs.Meaning.{Answers}
use Rattle.op_model.specs.Common.{Activation, Common, Need, Role, Status, Strand, IsActive, IsBlocked, IsEnded}
use Rattle.op_model.specs.Effects.{Effect, Gives, Fails, Waits, Enters, Leaves, Spawns, NoTick, Beyond}
use Rattle.op_model.specs.Strands.{end_in, met, no_activation, settled, wakes, with_status, woken, woken_from}
use Rattle.machine_model.specs.Keeping.{RunsOn}
use Rattle.machine_model.specs.Machine.{Machine, Ask, On, Does, Stuck, Frame, State, Next, Moved, Blocked, Ended, caller, carried, Takes, TakesTop, Step}
use Rattle.machine_model.specs.Runs.{AreWords, Phase, Running, Picking, Reaches, IsReached, after_block, after_end, after_move, after_pick, begins_with, first_common, start, starts, units_to_run}
use Rattle.machine_model.specs.Strands.{ActivationHolds, AreOn, HoldOfStrands, LowestIs, Rise, StartsOnce, StillWaits, StrandHolds, StrandsHold, TopWaits, WaitsForSome, due, due_in, frames_in, roles_of, times}
use Rattle.machine_model.proofs.Alike.{board, crew_of, seen}
use Rattle.machine_model.proofs.Boards.{AreOnIt, IsOnIt, RunsActive, RunsAt, Seen, crew_at, status_in}
use Rattle.machine_model.proofs.Commons.{board-crew, status-of, strand-of}
use Rattle.machine_model.proofs.Holding.{AskWaits, Inner, TopWaitsAs, roles_in}
use Rattle.machine_model.proofs.HoldingSpawns.{spawns-inner}
use Rattle.machine_model.proofs.HoldingSteps.{ComesInner, enters-inner, fails-inner, gives-inner, leaves-inner, on-inner, picked-inner, waits-inner}
use Rattle.machine_model.proofs.Once.{some-same}
use Rattle.machine_model.proofs.Places.{if-other}
use Rattle.machine_model.proofs.ShapeRows.{performs-shape}
use Rattle.machine_model.proofs.Shapes.{ShapeOf}
use Rattle.machine_model.proofs.Waiting.{still-performs}

module _ {C : Type 0} (natives : Answers) (M : Machine C) where
  -- ---- steps

  -- what the frame on top may not ask for
  abbrev AsksWell : Frame C → Ask C → Type 0
  AsksWell f (Does op vs k) = (op ≡ Workers → f.role ≡ None) × ((names : List (Option ℕ)) → op ≡ WaitAny names → names ≢ [])
  AsksWell f (On k) = ⊤
  AsksWell f Stuck = ⊤

  abbrev NextInner : Next C → Type 0
  NextInner next = ComesInner natives M (Some next)

  module _ (s : State C) (inner : Inner natives M Running s) (f : Frame C) (fs : List (Frame C)) (is : s.frames ≡ f ∷ fs) where
    effect-inner : (op : Operation) (vs : List Value) (k : C) (effect : Effect) → M.look f.unit f.control ≡ Does op vs k → (op ≡ Workers → f.role ≡ None) → ShapeOf M.facts op vs (caller f fs) s.common effect → ComesInner natives M (carried M s f k fs effect)
    effect-inner op vs k (Gives ws d) look once shape = gives-inner natives M s inner f fs is d (M.resume k ws) shape
    effect-inner op vs k (Fails e d) look once shape = fails-inner natives M s inner f fs is e d k shape
    effect-inner op vs k (Waits need) look once shape = waits-inner natives M s inner f fs is need op vs k look shape
    effect-inner op vs k (Enters unit args d) look once shape = enters-inner natives M s inner f fs is unit args d k shape
    effect-inner op vs k (Leaves v) look once shape = leaves-inner natives M s inner f fs is v k
    effect-inner op vs k (Spawns ss role ws d) look once shape = spawns-inner natives M s inner f fs is op k ss role ws d once shape
    effect-inner op vs k NoTick look once shape = tt
    effect-inner op vs k (Beyond limit) look once shape = tt

    takes-inner : (ask : Ask C) (next : Next C) → M.look f.unit f.control ≡ ask → AsksWell f ask → Takes natives M s f fs ask next → NextInner next
    takes-inner (On b) next look well taken = subst NextInner (sym taken) (on-inner natives M s inner f fs is b)
    takes-inner (Does op vs k) next look (once, some) (effect, performs, came) =
        subst (ComesInner natives M) came (effect-inner op vs k effect look once (performs-shape M.facts natives vs (caller f fs) s.common effect op some performs))
    takes-inner Stuck next look well taken = absurd taken

  step-inner : (s : State C) (next : Next C) → Inner natives M Running s → ((f : Frame C) (fs : List (Frame C)) → s.frames ≡ f ∷ fs → AsksWell f (M.look f.unit f.control)) → Step natives M s next → NextInner next
  step-inner s next inner well step = by s.frames refl step
    where
      by : (fs : List (Frame C)) → s.frames ≡ fs → TakesTop natives M s fs next → NextInner next
      by [] is taken = absurd taken
      by (f ∷ fs) is taken = takes-inner s inner f fs is (M.look f.unit f.control) next refl (well f fs is) taken

  -- ---- the start

  start-inner : (words : List Text) (input : List ℕ) (ticks : ℕ) (s : State C) → start M words input ticks ≡ Some s → Inner natives M Picking s
  start-inner words input ticks s e = by (units_to_run M) e
    where
      first : (us : List (ℕ × List Value)) (f : Frame C) → f.role ≡ None → Inner natives M Picking (record { common = record (first_common M.launch words input ticks) { to_run = us }; frames = []; others = (f ∷ []) ∷ [] })
      first us f none =
          record {
            held = record {
              ready = ready;
              runs = tt;
              rest = λ n x at over. absurd (rest n x at over);
              on = on;
              rise = rise;
              named = λ n x r at is. absurd (named n x r at is);
              crews = λ a w n x at there o. absurd (let bad : ⊥ = cc in bad);
              apart = λ a v w n x y. absurd (let bad : ⊥ = cc in bad);
              ends = λ a. refl;
            };
            there = λ a w n i. absurd (let bad : ⊥ = cc in bad);
            unmet = λ n need at. absurd (blocked n need at);
            queues = λ a v w. omega arith;
            stopped = λ n need at. absurd (blocked n need at);
            manned = manned;
            count = refl;
          }
        where
          ready : (n : ℕ) → times n (0 ∷ []) ≡ due_in Picking 0 n (option_map (λ x. x.status) (slice_get (let x : Seen = record { role = None; status = IsActive } in x ∷ []) n))
          ready zero = refl
          ready (suc n) = let none = if-other {A = ℕ} 0 (suc n) 1 0 (λ e. omega (arith, e)) in omega (arith, none)

          rest : (n : ℕ) (x : Seen) → slice_get (let x : Seen = record { role = None; status = IsActive } in x ∷ []) n ≡ Some x → end_in x.status ≢ None → ⊥
          rest zero x at over = over (ap (λ z. end_in z.status) (sym (some-same _ x at)))
          rest (suc n) x at over = let bad : ⊥ = cc in bad

          on : (n : ℕ) → AreOnIt (board (first_common M.launch words input ticks)) n (roles_of (get_or ((f ∷ []) ∷ []) n []))
          on zero = (subst (λ r. IsOnIt (board (first_common M.launch words input ticks)) 0 r) (sym none) tt, tt)
          on (suc n) = tt

          rise : (n : ℕ) → Rise (roles_of (get_or ((f ∷ []) ∷ []) n []))
          rise zero = (tt, tt)
          rise (suc n) = tt

          named : (n : ℕ) (x : Seen) (r : Role) → slice_get (let x : Seen = record { role = None; status = IsActive } in x ∷ []) n ≡ Some x → x.role ≡ Some r → ⊥
          named zero x r at is = let no : None ≡ Some r = ap (λ z. z.role) (some-same _ x at) ∙ is in let bad : ⊥ = cc in bad
          named (suc n) x r at is = let bad : ⊥ = cc in bad

          blocked : (n : ℕ) (need : Need) → option_map (λ x. x.status) (slice_get (let x : Seen = record { role = None; status = IsActive } in x ∷ []) n) ≡ Some (IsBlocked need) → ⊥
          blocked zero need at = let bad : ⊥ = cc in bad
          blocked (suc n) need at = let bad : ⊥ = cc in bad

          manned : (n : ℕ) (status : Status) → option_map (λ x. x.status) (slice_get (let x : Seen = record { role = None; status = IsActive } in x ∷ []) n) ≡ Some status → end_in status ≡ None → get_or ((f ∷ []) ∷ []) n [] ≢ []
          manned zero status at end = λ e. let bad : ⊥ = cc in bad
          manned (suc n) status at end = λ e. let bad : ⊥ = cc in bad

      by : (us : List (ℕ × List Value)) → begins_with M (first_common M.launch words input ticks) us ≡ Some s → Inner natives M Picking s
      by [] e = absurd (let bad : ⊥ = cc in bad)
      by (u ∷ us) e = entered (M.enter u.0 u.1) e
        where
          entered : (o : Option C) → option_map (λ f. record { common = record (first_common M.launch words input ticks) { to_run = us }; frames = []; others = (f ∷ []) ∷ [] }) (option_map (λ k. record { unit = u.0; role = None; control = k }) o) ≡ Some s → Inner natives M Picking s
          entered None e = absurd (let bad : ⊥ = cc in bad)
          entered (Some k) e = subst (Inner natives M Picking) (some-same _ s e) (first us (record { unit = u.0; role = None; control = k }) refl)

  -- ---- all states that are reached

  module _ (once : StartsOnce natives M) (some : WaitsForSome natives M) (words : List Text) (input : List ℕ) (ticks : ℕ) (texts : AreWords words) where
    asks-well : (s : State C) → IsReached natives M words input ticks Running s → (f : Frame C) (fs : List (Frame C)) → s.frames ≡ f ∷ fs → AsksWell f (M.look f.unit f.control)
    asks-well s r f fs is = by (M.look f.unit f.control) refl
      where
        by : (ask : Ask C) → M.look f.unit f.control ≡ ask → AsksWell f ask
        by (On k) look = tt
        by Stuck look = tt
        by (Does op vs k) look =
            ((λ e. once words input ticks s f fs vs k texts r is (look ∙ ap (λ o. Does o vs k) e)), (λ names e. some words input ticks s f fs names vs k texts r is (look ∙ ap (λ o. Does o vs k) e)))

    reached-inner : {phase : Phase} {n : ℕ} {order : List ℕ} {s : State C} → Reaches natives M words input ticks phase n order s → Inner natives M phase s
    reached-inner {s = s} (starts e) = start-inner words input ticks s e
    reached-inner (after_move {n = n} {order = order} {s = s} {t = t} r h) = step-inner s (Moved t) (reached-inner r) (asks-well s (n, order, r)) h
    reached-inner (after_block {n = n} {order = order} {s = s} {t = t} r h) = step-inner s (Blocked t) (reached-inner r) (asks-well s (n, order, r)) h
    reached-inner (after_end {n = n} {order = order} {s = s} {t = t} r h) = step-inner s (Ended t) (reached-inner r) (asks-well s (n, order, r)) h
    reached-inner (after_pick place {k = k} {s = s} r e) = picked-inner natives M s place k (reached-inner r) e

  -- ---- what holds, said of states

  module _ (phase : Phase) (s : State C) (inner : Inner natives M phase s) where
    abbrev c : Common
    c = s.common

    no-roles : (fs : List (Frame C)) → roles_of fs ≡ [] → fs ≡ []
    no-roles [] e = refl
    no-roles (f ∷ fs) e = absurd (let bad : ⊥ = cc in bad)

    runs-on : (n : ℕ) (r : Role) → RunsAt (board c) n r → RunsOn c n (Some r)
    runs-on n r i = ap (λ x. slice_get x.strands r.worker) (sym (board-crew c r.activation)) ∙ i

    are-on : (n : ℕ) (roles : List (Option Role)) → AreOnIt (board c) n roles → AreOn c n roles
    are-on n [] h = tt
    are-on n (None ∷ roles) h = (tt, are-on n roles h.1)
    are-on n (Some r ∷ roles) h = ((runs-on n r h.0.0, ap (λ x. slice_get x.ends r.worker) (sym (board-crew c r.activation)) ∙ h.0.1), are-on n roles h.1)

    top-waits : (need : Need) (fs : List (Frame C)) → met c need ≡ false → TopWaitsAs natives M c need fs → TopWaits natives M phase s need fs
    top-waits need [] unmet h = absurd h
    top-waits need (f ∷ fs) unmet h = by (M.look f.unit f.control) h
      where
        by : (ask : Ask C) → AskWaits natives M c need f fs ask → StillWaits natives M phase s need f fs ask
        by (Does op vs k) h = still-performs M.facts natives op vs (caller f fs) c need h unmet
        by (On k) h = absurd h
        by Stuck h = absurd h

    seen-at : (n : ℕ) (x : Strand) → slice_get c.strands n ≡ Some x → slice_get (board c).strands n ≡ Some (seen x)
    seen-at n x at = slice_get-map seen c.strands n ∙ ap (option_map seen) at

    strand-holds : (n : ℕ) (x : Strand) → slice_get c.strands n ≡ Some x → StrandHolds natives M phase s n x
    strand-holds n x at =
        record {
          ended = λ over. no-roles (frames_in phase s n) (inner.held.rest n (seen x) (seen-at n x at) over);
          manned = inner.manned n x.status (status-of c n x at);
          blocked = λ need e.
              let is = status-of c n x at ∙ ap Some e in
              let unmet = inner.unmet n need is in
              (unmet, top-waits need (frames_in phase s n) unmet (inner.stopped n need is));
          on = are-on n (roles_in natives M phase s n) (inner.held.on n);
          rise = inner.held.rise n;
          named = λ r e.
              let h = inner.held.named n (seen x) r (seen-at n x at) e in
              (runs-on n r h.1, (λ none. lowest r (inner.manned n x.status (status-of c n x at) none) h.2));
        }
      where
        lowest : (r : Role) → frames_in phase s n ≢ [] → (roles_in natives M phase s n ≡ []) ⊎ LowestIs r (roles_in natives M phase s n) → LowestIs r (roles_in natives M phase s n)
        lowest r ne (inl e) = absurd (ne (no-roles (frames_in phase s n) e))
        lowest r ne (inr low) = low

    activation-holds : (a : ℕ) (x : Activation) → slice_get c.activations a ≡ Some x → ActivationHolds natives M phase s a x
    activation-holds a x at =
        record {
          workers = λ w n i. let lt = inner.there a w n (ap (λ z. slice_get z.strands w) crew ∙ i) in let l = length-map c.strands seen in
              (omega (arith, lt, l), (λ unfinished. inner.held.crews a w n _ (ap (λ z. slice_get z.strands w) crew ∙ i) (slice_get-get_or (board c).strands n (record { role = None; status = IsActive }) lt) (ap (λ z. slice_get z.ends w) (board-crew c a) ∙ unfinished)));
          apart = λ v w n i j. inner.held.apart a v w n (ap (λ z. slice_get z.strands v) crew ∙ i) (ap (λ z. slice_get z.strands w) crew ∙ j);
          ends = sym (ap (λ z. length z.ends) crew) ∙ (inner.held.ends a ∙ ap (λ z. length z.strands) crew);
          queues = λ v w. inner.queues a v w;
        }
      where
        crew : crew_at (board c) a ≡ crew_of x
        crew = board-crew c a ∙ ap crew_of (get_or_from_slice_get c.activations a x no_activation at)

    same-due : (n : ℕ) → due_in phase c.running n (status_in (board c) n) ≡ due phase c n
    same-due n = ap (λ o. due_in phase c.running n (option_map (λ z. z.status) o)) (slice_get-map seen c.strands n) ∙ by (slice_get c.strands n)
      where
        by : (o : Option Strand) → due_in phase c.running n (option_map (λ z. z.status) (option_map seen o)) ≡ due_in phase c.running n (option_map (λ z. z.status) o)
        by (Some x) = refl
        by None = refl

    none-wakes : (n : ℕ) (x : Strand) → slice_get c.strands n ≡ Some x → wakes c x.status ≡ false
    none-wakes n x at = by x.status refl
      where
        by : (status : Status) → x.status ≡ status → wakes c x.status ≡ false
        by IsActive e = ap (wakes c) e
        by (IsEnded k end) e = ap (wakes c) e
        by (IsBlocked need) e = ap (wakes c) e ∙ inner.unmet n need (status-of c n x at ∙ ap Some e)

    all-still : (xs : List Strand) → ((n : ℕ) (x : Strand) → slice_get xs n ≡ Some x → wakes c x.status ≡ false) → map (woken c) xs ≡ xs
    all-still [] h = refl
    all-still (x ∷ xs) h = λ i. (if h 0 x refl i then with_status x IsActive else x) ∷ all-still xs (λ n y at. h (suc n) y at) i

    none-woken : (k : ℕ) (xs : List Strand) → ((n : ℕ) (x : Strand) → slice_get xs n ≡ Some x → wakes c x.status ≡ false) → woken_from c k xs ≡ []
    none-woken k [] h = refl
    none-woken k (x ∷ xs) h = ap (λ b. if b then k ∷ woken_from c (k + 1) xs else woken_from c (k + 1) xs) (h 0 x refl) ∙ none-woken (k + 1) xs (λ n y at. h (suc n) y at)

    none-behind : (ns : List ℕ) → ns ++ [] ≡ ns
    none-behind [] = refl
    none-behind (n ∷ ns) = ap (λ l. n ∷ l) (none-behind ns)

    is-settled : settled c ≡ c
    is-settled =
        (λ i. record c { strands = all-still c.strands none-wakes i; ready = c.ready ++ none-woken 0 c.strands none-wakes i })
        ∙ (λ i. record c { ready = none-behind c.ready i })

    runs-active : phase ≡ Running → IsSomeAnd (slice_get c.strands c.running) (λ x. x.status ≡ IsActive)
    runs-active e = by phase e inner.held.runs
      where
        by : (p : Phase) → p ≡ Running → RunsActive p (board c) → IsSomeAnd (slice_get c.strands c.running) (λ x. x.status ≡ IsActive)
        by Picking e runs = absurd (let bad : ⊥ = cc in bad)
        by Running e runs = let x = strand-of c c.running IsActive runs in subst (λ o. IsSomeAnd o (λ z. z.status ≡ IsActive)) (sym x.1) x.2

    strands-hold : StrandsHold natives M phase s
    strands-hold =
        record {
          strands = strand-holds;
          activations = activation-holds;
          ready = λ n. inner.held.ready n ∙ same-due n;
          settles = is-settled;
          running = runs-active;
          count = inner.count;
        }

pub hold-of-strands : {C : Type 0} (natives : Answers) (M : Machine C) → HoldOfStrands natives M
hold-of-strands natives M once some words input ticks phase s texts (n, order, r) =
    strands-hold natives M phase s (reached-inner natives M once some words input ticks texts r)
