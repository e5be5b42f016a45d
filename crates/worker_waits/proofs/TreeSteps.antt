-- Each step of typed trees keeps where their frames stand.
use Rattle.std.proofs.Common.{◌≡◌, ◌≢◌, ◌<◌, ◌⊎◌, ◌+◌, ◌++◌, ◌∙◌, ℕ, zero, suc, true, false, List, [], ◌∷◌, Option, Some, None, length, refl, sym, subst, ap, inl, inr, arith}
use Rattle.std.proofs.lemmas.Option.{none-some}
use Rattle.std.specs.Prelude.{nat_le, option_map, slice_get}
use Rattle.bal_base.specs.declared.text.Text.{Text}
use Rattle.type_model.specs.declared.atoms.AtomDef.{AtomDef}
use Rattle.operations.specs.declared.operation.Operation.{Operation}
use Rattle.operations.specs.declared.operation.Operation.TheVariants as op
use Rattle.value_model.specs.declared.filler.Filler.{Filler}
use Rattle.value_model.specs.declared.value.Value.{Value}
use Rattle.value_model.specs.declared.value.Value.TheVariants.{Nil, Bool as Truth, Int, Str, Struct, Error, Function, Future}
use Rattle.value_model.specs.Meaning.{Answers}
use Rattle.typed_tree.specs.declared.event.EventKind.{EventKind}
use Rattle.typed_tree.specs.declared.event.EventKind.TheVariants.{Send, Post, Receive}
use Rattle.typed_tree.specs.declared.package.TypedPackage.{TypedPackage}
use Rattle.op_model.specs.CallRows.{new_activation, starts_workers, strands_made, workers_from}
use Rattle.op_model.specs.Common.{Common, Panicked, Role}
use Rattle.op_model.specs.Effects.{Effect, Beyond, Spawns}
use Rattle.op_model.specs.ProgramFacts.{UnitFacts, WorkerFacts}
use Rattle.op_model.specs.Levels.{numbers_from}
use Rattle.op_model.specs.Limits.{most_strands}
use Rattle.op_model.specs.Local.{Act, Later as Awaited, Local, Never, Now, acts}
use Rattle.op_model.specs.Performs.{Performs}
use Rattle.op_model.specs.Strands.{no_activation}
use Rattle.bal_base.specs.declared.fault.LimitKind.TheVariants.{Strands}
use Rattle.machine_model.specs.Keeping.{AllBegin, AskFits, Caught, EffectFits, Invariant, IsKept, RunsOn, StateFits}
use Rattle.machine_model.specs.Machine.{Ask, Machine, State, asks, captured_slots}
use Rattle.machine_model.specs.Runs.{Picking, begins_with, first_common, units_to_run}
use Rattle.machine_model.specs.Strands.{role_of}
use Rattle.machine_model.proofs.Once.{some-same}
use Rattle.machine_model.proofs.Places.{get-more}
use Rattle.machine_model.proofs.ShapeRows.{performs-shape}
use Rattle.machine_model.proofs.Shapes.{in-if, in-none, in-one, in-some}
use Rattle.eval_model.specs.Expressions.{eval}
use Rattle.eval_model.specs.Loops.{turn}
use Rattle.eval_model.specs.Statements.{branch, exec}
use Rattle.eval_model.specs.Tasks.{Branch, Choose, Do, Doing, Eval, Exec, Get, Guard, Task, Turn, doing}
use Rattle.eval_model.specs.Trees.{caught, chosen, next_of, trees}
use Rattle.worker_pairing.specs.Events.{Crew, events_of}
use Rattle.worker_waits.specs.Left.{Lasts, Makes, Begins, Step, tasks_shown}
use Rattle.worker_waits.proofs.Ahead.{ahead-less, branch-lasts, eval-lasts, exec-lasts, turn-lasts}
use Rattle.worker_waits.proofs.Asking.{ActsAre, acts-are, patient, patient_ask}
use Rattle.worker_waits.proofs.Later.{Acts, Later, act, later-more, later-same, later-then, past-none}
use Rattle.worker_waits.proofs.Readying.{ReadyThere, below-at, below-remove, made-all, ready-ended, ready-settled}
use Rattle.worker_waits.proofs.Staying.{IsQuiet, performs-stays}
use Rattle.worker_waits.proofs.Stepping.{AtStep}
use Rattle.worker_waits.proofs.Told.{lasting, told-op}
use Rattle.worker_waits.proofs.TreeFits.{FrameFits, Goes, Unstarted, WorkerFits, events_in, fits-later, frame-goes, goes-behind, goes-by, goes-thrown, says-next, some-task, starts-all, starts-none}
use Rattle.worker_waits.proofs.TreeKeeping.{Begun, PeerThere, ended-later, ended-ready, frame, load-fits, new-worker, quiet-fits, receives-fit, sends-fit, tree_keeps}

-- ---- named workers start

module _ (natives : Answers) (K : ℕ → Crew) (atoms : List AtomDef) (fillers : ℕ → List Filler) (p : TypedPackage) (begun-well : Begun K (trees atoms fillers p)) (c : Common) (unit : ℕ) (u : UnitFacts) (is : slice_get (trees atoms fillers p).facts.units unit ≡ Some u) where
  abbrev k : ℕ
  k = length u.workers

  abbrev a : ℕ
  a = length c.activations

  abbrev more : Acts
  more = c.activations ++ new_activation c unit k ∷ []

  size : length (K unit) ≡ suc k
  size = begun-well.sizes unit u is

  numbers : (first n j : ℕ) → j < n → slice_get (numbers_from first n) j ≡ Some (first + j)
  numbers first zero j lt = absurd (omega (arith, lt))
  numbers first (suc n) zero lt = ap Some (omega arith)
  numbers first (suc n) (suc j) lt = numbers (first + 1) n j (omega (arith, lt)) ∙ ap Some (omega arith)

  within : {A : Type 0} (xs : List A) (j : ℕ) (x : A) → slice_get xs j ≡ Some x → j < length xs
  within [] zero x e = absurd (none-some x e)
  within [] (suc j) x e = absurd (none-some x e)
  within (y ∷ ys) zero x e = omega arith
  within (y ∷ ys) (suc j) x e = let h = within ys j x e in omega (arith, h)

  -- those from the i-th on, whose strands are made from here on
  all-begin : (d : Common) → d.activations ≡ more → (i n w : ℕ) (xs : List WorkerFacts) (vs : List Value) → n ≡ length c.strands + i → w ≡ suc i → ((j : ℕ) (x : WorkerFacts) → slice_get xs j ≡ Some x → slice_get u.workers (i + j) ≡ Some x) →
      AllBegin natives (patient (trees atoms fillers p)) (tree_keeps K) d n (workers_from a w xs vs)
  all-begin d same i n w [] vs at number are = tt
  all-begin d same i n w (x ∷ xs) vs at number are =
      let here : slice_get u.workers i ≡ Some x = subst (λ j. slice_get u.workers j ≡ Some x) (omega arith) (are 0 x refl) in
      let lt = within u.workers i x here in
      let runs : slice_get (new_activation c unit k).strands w ≡ Some n = subst (λ j. slice_get (new_activation c unit k).strands j ≡ Some n) (sym number) (numbers (length c.strands) k i lt ∙ ap Some (sym at)) in
      let new = get-more (λ z. z ≡ new_activation c unit k) c.activations (new_activation c unit k) no_activation a (λ last. refl) (λ ne. absurd (ne refl)) in (
        (
          (λ z e. subst (λ acts. WorkerFits K acts n (role_of a w) z.tasks) (sym same) (new-worker K c unit k w n z.tasks size runs (let s = begun-well.crews unit i u x _ z is here e in (s.0, s.1, subst (λ j. AtStep (events_of (K unit) j) 0 s.0) (sym number) s.2)))),
          subst (λ acts. slice_get (act acts a).strands w ≡ Some n) (sym same) (ap (λ z. slice_get z.strands w) new ∙ runs),
          tt,
        ),
        all-begin d same (suc i) (suc n) (w + 1) xs _ (omega (arith, at)) (omega (arith, number)) (λ j y e. subst (λ m. slice_get u.workers m ≡ Some y) (omega arith) (are (suc j) y e)),
      )

  pub workers-fit : (depth : ℕ) (control : Doing) (l : Local) (ts : List Task) (o : Operation) (vs : List Value) → ReadyThere c → (told-op o).steps ≡ Begins ∷ [] → Unstarted K unit (Do o ∷ ts) →
      EffectFits natives (patient (trees atoms fillers p)) (tree_keeps K) c depth (frame unit None control) (doing l ts) (starts_workers c unit u.workers vs)
  workers-fit depth control l ts o vs ready told h =
      let ss = workers_from a 1 u.workers vs in
      let first : Common = record c { activations = more } in
      let d = strands_made ss first in
      let m = made-all ss first in
      in-if (nat_le (length c.strands + k) most_strands) (EffectFits natives (patient (trees atoms fillers p)) (tree_keeps K) c depth (frame unit None control) (doing l ts)) (Spawns ss (Some (role_of a 0)) [] d) (Beyond Strands)
      (λ b. (
        m.ready ready,
        m.running,
        m.count,
        (λ q apart. subst (Later q c.activations) (sym m.activations) (later-more c.activations (new_activation c unit k) q)),
        inr ((λ n runs. past-none c.activations a 0 n refl runs), subst (λ acts. slice_get (act acts a).strands 0 ≡ Some c.running) (sym m.activations) (ap (λ z. slice_get z.strands 0) (get-more (λ z. z ≡ new_activation c unit k) c.activations (new_activation c unit k) no_activation a (λ last. refl) (λ ne. absurd (ne refl))))),
        subst (λ acts. WorkerFits K acts c.running (role_of a 0) ts) (sym m.activations) (new-worker K c unit k 0 c.running ts size refl (starts-all K unit o ts told h)),
        all-begin d m.activations 0 (length c.strands) 1 u.workers vs (omega arith) refl (λ j x e. subst (λ i. slice_get u.workers i ≡ Some x) (omega arith) e),
      ))
      (λ b. tt)

-- ---- any operation

module _ (natives : Answers) (K : ℕ → Crew) (atoms : List AtomDef) (fillers : ℕ → List Filler) (p : TypedPackage) (begun-well : Begun K (trees atoms fillers p)) where
  abbrev M : Machine Doing
  M = trees atoms fillers p

  abbrev N : Machine Doing
  N = patient M

  abbrev I : Invariant Doing
  I = tree_keeps K

  -- what a frame has to do is right
  pub frame-right : (acts : Acts) (n unit : ℕ) (role : Option Role) (t : Task) (ts : List Task) → FrameFits K acts n unit role (t ∷ ts) → (tasks_shown (t ∷ ts)).wrong ≡ 0
  frame-right acts n unit None t ts (inl none) = absurd (some-task K t ts none)
  frame-right acts n unit None t ts (inr (steps, left, first)) = left.wrong
  frame-right acts n unit (Some r) t ts h = by h.left
    where
      by : (t ∷ ts ≡ []) ⊎ ((steps : List Step) × Lasts (t ∷ ts) steps × AtStep (events_in K acts r) h.made steps) → (tasks_shown (t ∷ ts)).wrong ≡ 0
      by (inl none) = absurd (some-task K t ts none)
      by (inr (steps, left, at)) = left.wrong

  module _ (c : Common) (depth unit : ℕ) (control : Doing) (ts : List Task) (l : Local) (ready : ReadyThere c) where
    abbrev Fits : Option Role → Effect → Type 0
    Fits role effect = EffectFits natives N I c depth (frame unit role control) (doing l ts) effect

    abbrev Performed : Option Role → Operation → List Value → Effect → Type 0
    Performed role o vs effect = Performs M.facts natives o vs (record { unit = unit; role = role; depth = depth }) c effect

    quiet : (role : Option Role) (o : Operation) → IsQuiet o → FrameFits K c.activations c.running unit role (Do o ∷ ts) → ((names : List (Option ℕ)) → o ≡ op.WaitAny names → names ≢ []) → (vs : List Value) (effect : Effect) → Performed role o vs effect → Fits role effect
    quiet role o q h some vs effect performs =
        quiet-fits natives K atoms fillers p begun-well c depth unit role control o ts l ready h q vs effect
        (performs-shape M.facts natives vs (record { unit = unit; role = role; depth = depth }) c effect o some performs)
        (performs-stays M.facts natives vs (record { unit = unit; role = role; depth = depth }) c effect o q performs)

    no-names : (names other : List (Option ℕ)) (role : Option Role) → FrameFits K c.activations c.running unit role (Do (op.WaitAny names) ∷ ts) → op.WaitAny names ≡ op.WaitAny other → other ≢ []
    no-names [] other role h e none = let w = frame-right c.activations c.running unit role (Do (op.WaitAny [])) ts h in omega (arith, w)
    no-names (name ∷ names) other role h e none = let n = ap (λ x. length (names_in x)) e in let z = ap length none in omega (arith, n, z)
      where
        names_in : Operation → List (Option ℕ)
        names_in (op.WaitAny ns) = ns
        names_in o = []

    peer-of : (o : Operation) (e : EventKind) (r : Role) → (told-op o).steps ≡ Makes e ∷ [] → WorkerFits K c.activations c.running r (Do o ∷ ts) → PeerThere (length (K (act c.activations r.activation).unit)) e
    peer-of o e r told h = begun-well.peers (act c.activations r.activation).unit r.worker h.made e (says-next K c.activations c.running r o ts e told h)

    pub op-fits : (role : Option Role) (o : Operation) → FrameFits K c.activations c.running unit role (Do o ∷ ts) → (vs : List Value) (effect : Effect) → Performed role o vs effect → Fits role effect
    op-fits None (op.Send w) h vs effect performs = in-one vs performs (λ v is k. absurd k)
    op-fits (Some r) (op.Send w) h vs effect performs =
        in-one vs performs (λ v is e. subst (Fits (Some r)) (sym e) (sends-fit natives K atoms fillers p begun-well c depth unit r control (op.Send w) ts l ready h w (Send (Some w)) v (Nil ∷ []) refl (λ u. refl) (λ u. refl) (peer-of (op.Send w) (Send (Some w)) r refl h)))
    op-fits None (op.Post w) h vs effect performs = in-one vs performs (λ v is k. absurd k)
    op-fits (Some r) (op.Post w) h vs effect performs =
        in-one vs performs (λ v is e. subst (Fits (Some r)) (sym e) (sends-fit natives K atoms fillers p begun-well c depth unit r control (op.Post w) ts l ready h w (Post (Some w)) v [] refl (λ u. refl) (λ u. refl) (peer-of (op.Post w) (Post (Some w)) r refl h)))
    op-fits None (op.Receive w) h vs effect performs = in-none vs performs (λ is k. absurd k)
    op-fits (Some r) (op.Receive w) h vs effect performs =
        in-none vs performs (λ is e. subst (Fits (Some r)) (sym e) (receives-fit natives K atoms fillers p begun-well c depth unit r control (op.Receive w) ts l ready h w (Receive (Some w)) refl refl (λ u. refl) (λ u. refl) (peer-of (op.Receive w) (Receive (Some w)) r refl h)))
    op-fits (Some r) op.Workers h vs effect performs = absurd (starts-none K c.activations c.running r op.Workers ts refl h)
    op-fits None op.Workers h vs effect performs =
        in-some (slice_get M.facts.units unit) performs (λ u is e. subst (Fits None) (sym e) (workers-fit natives K atoms fillers p begun-well c unit u is depth control l ts op.Workers vs ready refl h))
    op-fits role (op.WaitAny names) h vs effect performs = quiet role (op.WaitAny names) tt h (λ other e. no-names names other role h e) vs effect performs
    op-fits role (op.Const k) h vs effect performs = quiet role (op.Const k) tt h (λ other e. let none : ⊥ = cc in absurd none) vs effect performs
    op-fits role (op.Load slot) h vs effect performs = quiet role (op.Load slot) tt h (λ other e. let none : ⊥ = cc in absurd none) vs effect performs
    op-fits role (op.Store slot) h vs effect performs = quiet role (op.Store slot) tt h (λ other e. let none : ⊥ = cc in absurd none) vs effect performs
    op-fits role op.Pop h vs effect performs = quiet role op.Pop tt h (λ other e. let none : ⊥ = cc in absurd none) vs effect performs
    op-fits role (op.LoadModule m) h vs effect performs = quiet role (op.LoadModule m) tt h (λ other e. let none : ⊥ = cc in absurd none) vs effect performs
    op-fits role (op.StoreModule m) h vs effect performs = quiet role (op.StoreModule m) tt h (λ other e. let none : ⊥ = cc in absurd none) vs effect performs
    op-fits role op.Tick h vs effect performs = quiet role op.Tick tt h (λ other e. let none : ⊥ = cc in absurd none) vs effect performs
    op-fits role op.Add h vs effect performs = quiet role op.Add tt h (λ other e. let none : ⊥ = cc in absurd none) vs effect performs
    op-fits role op.Subtract h vs effect performs = quiet role op.Subtract tt h (λ other e. let none : ⊥ = cc in absurd none) vs effect performs
    op-fits role op.Multiply h vs effect performs = quiet role op.Multiply tt h (λ other e. let none : ⊥ = cc in absurd none) vs effect performs
    op-fits role op.Divide h vs effect performs = quiet role op.Divide tt h (λ other e. let none : ⊥ = cc in absurd none) vs effect performs
    op-fits role op.Remainder h vs effect performs = quiet role op.Remainder tt h (λ other e. let none : ⊥ = cc in absurd none) vs effect performs
    op-fits role op.Negate h vs effect performs = quiet role op.Negate tt h (λ other e. let none : ⊥ = cc in absurd none) vs effect performs
    op-fits role op.Concat h vs effect performs = quiet role op.Concat tt h (λ other e. let none : ⊥ = cc in absurd none) vs effect performs
    op-fits role op.Less h vs effect performs = quiet role op.Less tt h (λ other e. let none : ⊥ = cc in absurd none) vs effect performs
    op-fits role op.LessEqual h vs effect performs = quiet role op.LessEqual tt h (λ other e. let none : ⊥ = cc in absurd none) vs effect performs
    op-fits role op.Not h vs effect performs = quiet role op.Not tt h (λ other e. let none : ⊥ = cc in absurd none) vs effect performs
    op-fits role op.Equal h vs effect performs = quiet role op.Equal tt h (λ other e. let none : ⊥ = cc in absurd none) vs effect performs
    op-fits role op.Same h vs effect performs = quiet role op.Same tt h (λ other e. let none : ⊥ = cc in absurd none) vs effect performs
    op-fits role (op.MakeList atom immutable count) h vs effect performs = quiet role (op.MakeList atom immutable count) tt h (λ other e. let none : ⊥ = cc in absurd none) vs effect performs
    op-fits role (op.MakeMapping atom immutable count) h vs effect performs = quiet role (op.MakeMapping atom immutable count) tt h (λ other e. let none : ⊥ = cc in absurd none) vs effect performs
    op-fits role (op.MakeError count) h vs effect performs = quiet role (op.MakeError count) tt h (λ other e. let none : ⊥ = cc in absurd none) vs effect performs
    op-fits role (op.MakeFunction unit count) h vs effect performs = quiet role (op.MakeFunction unit count) tt h (λ other e. let none : ⊥ = cc in absurd none) vs effect performs
    op-fits role op.GetItem h vs effect performs = quiet role op.GetItem tt h (λ other e. let none : ⊥ = cc in absurd none) vs effect performs
    op-fits role op.GetKey h vs effect performs = quiet role op.GetKey tt h (λ other e. let none : ⊥ = cc in absurd none) vs effect performs
    op-fits role op.GetChar h vs effect performs = quiet role op.GetChar tt h (λ other e. let none : ⊥ = cc in absurd none) vs effect performs
    op-fits role (op.GetField name) h vs effect performs = quiet role (op.GetField name) tt h (λ other e. let none : ⊥ = cc in absurd none) vs effect performs
    op-fits role (op.GetOptional name) h vs effect performs = quiet role (op.GetOptional name) tt h (λ other e. let none : ⊥ = cc in absurd none) vs effect performs
    op-fits role op.SetItem h vs effect performs = quiet role op.SetItem tt h (λ other e. let none : ⊥ = cc in absurd none) vs effect performs
    op-fits role op.SetKey h vs effect performs = quiet role op.SetKey tt h (λ other e. let none : ⊥ = cc in absurd none) vs effect performs
    op-fits role (op.Test t) h vs effect performs = quiet role (op.Test t) tt h (λ other e. let none : ⊥ = cc in absurd none) vs effect performs
    op-fits role (op.Cast t) h vs effect performs = quiet role (op.Cast t) tt h (λ other e. let none : ⊥ = cc in absurd none) vs effect performs
    op-fits role (op.Call unit count) h vs effect performs = quiet role (op.Call unit count) tt h (λ other e. let none : ⊥ = cc in absurd none) vs effect performs
    op-fits role (op.CallValue count) h vs effect performs = quiet role (op.CallValue count) tt h (λ other e. let none : ⊥ = cc in absurd none) vs effect performs
    op-fits role (op.Library call atom count) h vs effect performs = quiet role (op.Library call atom count) tt h (λ other e. let none : ⊥ = cc in absurd none) vs effect performs
    op-fits role op.Return h vs effect performs = quiet role op.Return tt h (λ other e. let none : ⊥ = cc in absurd none) vs effect performs
    op-fits role op.Panic h vs effect performs = quiet role op.Panic tt h (λ other e. let none : ⊥ = cc in absurd none) vs effect performs
    op-fits role (op.Start unit count) h vs effect performs = quiet role (op.Start unit count) tt h (λ other e. let none : ⊥ = cc in absurd none) vs effect performs
    op-fits role (op.StartValue count) h vs effect performs = quiet role (op.StartValue count) tt h (λ other e. let none : ⊥ = cc in absurd none) vs effect performs
    op-fits role (op.Done w) h vs effect performs = quiet role (op.Done w) tt h (λ other e. let none : ⊥ = cc in absurd none) vs effect performs
    op-fits role (op.Flush w) h vs effect performs = quiet role (op.Flush w) tt h (λ other e. let none : ⊥ = cc in absurd none) vs effect performs
    op-fits role (op.WaitWorker w) h vs effect performs = quiet role (op.WaitWorker w) tt h (λ other e. let none : ⊥ = cc in absurd none) vs effect performs
    op-fits role op.WaitFuture h vs effect performs = quiet role op.WaitFuture tt h (λ other e. let none : ⊥ = cc in absurd none) vs effect performs
    op-fits role (op.WaitAll atom names) h vs effect performs = quiet role (op.WaitAll atom names) tt h (λ other e. let none : ⊥ = cc in absurd none) vs effect performs

  -- ---- what a frame asks

  abbrev Asks : Common → ℕ → ℕ → Option Role → Doing → Ask Doing → Type 0
  Asks c depth unit role control ask = AskFits natives N I c depth (frame unit role control) (patient_ask control ask)

  act-asks : (c : Common) (depth unit : ℕ) (role : Option Role) (control : Doing) (o : Operation) (ts : List Task) → ReadyThere c → FrameFits K c.activations c.running unit role (Do o ∷ ts) → (x : Act) → ActsAre o x → Asks c depth unit role control (asks (λ m. doing m ts) x)
  act-asks c depth unit role control o ts ready h (Now m) are = frame-goes K c.activations c.running unit role (Do o ∷ ts) ts (some-task K (Do o) ts) (goes-behind o ts (ap lasting are)) h
  act-asks c depth unit role control o ts ready h (Awaited other vs m) (inl is) = λ effect performs.
      op-fits c depth unit control ts m ready role o h vs effect (subst (λ x. Performs M.facts natives x vs (record { unit = unit; role = role; depth = depth }) c effect) is performs)
  act-asks c depth unit role control o ts ready h (Awaited other vs m) (inr (slot, is)) = λ effect performs.
      load-fits natives K atoms fillers p begun-well c depth unit role control o ts m ready h slot vs effect (subst (λ x. Performs M.facts natives x vs (record { unit = unit; role = role; depth = depth }) c effect) is performs)
  act-asks c depth unit role control o ts ready h Never are = λ effect performs. absurd performs

  -- to load a variable is to do so
  goes-get : (slot : ℕ) (narrowed : _) (ts : List Task) → Goes (Get slot narrowed ∷ ts) (Do (op.Load slot) ∷ ts)
  goes-get slot narrowed ts steps h = goes-by (Do (op.Load slot) ∷ ts) steps (inr (record { wrong = h.wrong; left = h.left; ahead = ahead-less ts _ _ _ _ (omega arith) (omega arith) h.ahead }))

  goes-guard : (vs : List Value) (ts : List Task) → Goes (Guard vs ∷ ts) ts
  goes-guard vs ts steps h = goes-by ts steps (inr (record { wrong = let w = h.wrong in omega (arith, w); left = h.left; ahead = h.ahead.1 }))

  on : (acts : Acts) (n unit : ℕ) (role : Option Role) (t : Task) (ts new : List Task) → Goes (t ∷ ts) new → FrameFits K acts n unit role (t ∷ ts) → FrameFits K acts n unit role new
  on acts n unit role t ts new goes h = frame-goes K acts n unit role (t ∷ ts) new (some-task K t ts) goes h

  choice-asks : (c : Common) (depth unit : ℕ) (role : Option Role) (control : Doing) (first second : Branch) (ts : List Task) (l : Local) → FrameFits K c.activations c.running unit role (Choose first second ∷ ts) → (stack : List Value) → Asks c depth unit role control (chosen first second ts l stack)
  choice-asks c depth unit role control first second ts l h (Truth true ∷ rest) = on c.activations c.running unit role (Choose first second) ts (branch first ts) (λ steps left. goes-by (branch first ts) steps (inr (branch-lasts first second ts steps left).0)) h
  choice-asks c depth unit role control first second ts l h (Truth false ∷ rest) = on c.activations c.running unit role (Choose first second) ts (branch second ts) (λ steps left. goes-by (branch second ts) steps (inr (branch-lasts first second ts steps left).1)) h
  choice-asks c depth unit role control first second ts l h [] = λ effect performs. absurd performs
  choice-asks c depth unit role control first second ts l h (Nil ∷ rest) = λ effect performs. absurd performs
  choice-asks c depth unit role control first second ts l h (Int i ∷ rest) = λ effect performs. absurd performs
  choice-asks c depth unit role control first second ts l h (Str t ∷ rest) = λ effect performs. absurd performs
  choice-asks c depth unit role control first second ts l h (Struct n ∷ rest) = λ effect performs. absurd performs
  choice-asks c depth unit role control first second ts l h (Error n ∷ rest) = λ effect performs. absurd performs
  choice-asks c depth unit role control first second ts l h (Function n ∷ rest) = λ effect performs. absurd performs
  choice-asks c depth unit role control first second ts l h (Future n u ∷ rest) = λ effect performs. absurd performs

  tasks-ask : (c : Common) (depth unit : ℕ) (role : Option Role) (captured : List ℕ) (l : Local) (ts : List Task) → ReadyThere c → FrameFits K c.activations c.running unit role ts → Asks c depth unit role (doing l ts) (next_of captured l ts)
  tasks-ask c depth unit role captured l [] ready h = λ effect performs. absurd performs
  tasks-ask c depth unit role captured l (Eval e ∷ ts) ready h = on c.activations c.running unit role (Eval e) ts (eval e l.stack ts) (λ steps left. goes-by (eval e l.stack ts) steps (inr (eval-lasts e l.stack ts steps left))) h
  tasks-ask c depth unit role captured l (Exec s ∷ ts) ready h = on c.activations c.running unit role (Exec s) ts (exec s ts) (λ steps left. goes-by (exec s ts) steps (exec-lasts s ts steps left)) h
  tasks-ask c depth unit role captured l (Do o ∷ ts) ready h = act-asks c depth unit role (doing l (Do o ∷ ts)) o ts ready h (acts captured o l) (acts-are captured o l)
  tasks-ask c depth unit role captured l (Get slot narrowed ∷ ts) ready h =
      act-asks c depth unit role (doing l (Get slot narrowed ∷ ts)) (op.Load slot) ts ready (on c.activations c.running unit role (Get slot narrowed) ts (Do (op.Load slot) ∷ ts) (goes-get slot narrowed ts) h) (acts captured (op.Load slot) l) (acts-are captured (op.Load slot) l)
  tasks-ask c depth unit role captured l (Choose first second ∷ ts) ready h = choice-asks c depth unit role (doing l (Choose first second ∷ ts)) first second ts l h l.stack
  tasks-ask c depth unit role captured l (Turn loop ∷ ts) ready h = on c.activations c.running unit role (Turn loop) ts (turn loop ts) (λ steps left. goes-by (turn loop ts) steps (inr (turn-lasts loop ts steps left))) h
  tasks-ask c depth unit role captured l (Guard vs ∷ ts) ready h = on c.activations c.running unit role (Guard vs) ts ts (goes-guard vs ts) h

  -- ---- how a run begins

  begins-fit : (words : List Text) (input : List ℕ) (ticks : ℕ) (us : List (ℕ × List Value)) (s : State Doing) → begins_with N (first_common N.launch words input ticks) us ≡ Some s → StateFits I Picking s
  begins-fit words input ticks [] s e = absurd (none-some s e)
  begins-fit words input ticks (u ∷ us) s e = by (N.enter u.0 u.1) refl e
    where
      c : Common
      c = record (first_common N.launch words input ticks) { to_run = us }

      with : Option Doing → Option (State Doing)
      with o = option_map (λ f. record { common = c; frames = []; others = (f ∷ []) ∷ [] }) (option_map (λ k. frame u.0 None k) o)

      by : (o : Option Doing) → N.enter u.0 u.1 ≡ o → with o ≡ Some s → StateFits I Picking s
      by None is e = absurd (none-some s e)
      by (Some k) is e =
          subst (StateFits I Picking) (some-same _ s e) (record {
            good = (omega arith, tt);
            others = ((λ idle. (begun-well.calls u.0 u.1 k is, tt, tt, tt)), tt);
            count = refl;
            frames = refl;
          })

  -- ---- all of it

  caught-by : (c : Common) (n depth unit : ℕ) (role : Option Role) (control : Doing) (x : Option Doing) → ((y : Doing) → x ≡ Some y → FrameFits K c.activations n unit role y.tasks) → Caught (I.fits c n depth) (frame unit role control) x
  caught-by c n depth unit role control None f = tt
  caught-by c n depth unit role control (Some y) f = f y refl

  pub trees-keep : IsKept natives N I
  trees-keep =
      record {
        asks = λ c depth f ready h. tasks-ask c depth f.unit f.role (captured_slots M.facts f.unit) f.control.local f.control.tasks ready h;
        stays = λ q c. later-same q c.activations c.activations refl;
        follows = λ q c d e h k. later-then q c.activations d.activations e.activations h k;
        resumes = λ c n depth f callee v h k. h;
        catches = λ c n depth f callee e h k. caught-by c n depth f.unit f.role f.control (caught f.control.local e f.control.tasks) (λ y is.
            frame-goes K c.activations n f.unit f.role f.control.tasks y.tasks (λ none. none-some y (sym (ap (λ l. caught f.control.local e l) none) ∙ is)) (goes-thrown f.control.local e f.control.tasks y is) h);
        fits = λ c d n depth f later h. fits-later K f.role c.activations d.activations n f.unit f.control.tasks later h;
        awaits = λ c d n depth f callee later h. fits-later K f.role c.activations d.activations n f.unit f.control.tasks later h;
        holds = λ c d v unit later h. tt;
        throws = λ c d e later h. tt;
        lowest = λ c d n unit later h. tt;
        gone = λ c d n later h. tt;
        runs_on = runs-on;
        settles = λ phase c h. (ready-settled c h, (λ q. later-same q c.activations c.activations refl));
        closes = λ c e role h k. (ended-ready (Panicked e) role c h, (λ q apart. ended-later (Panicked e) role q c));
        ends = λ c end h k none. (ready-ended end c h, (λ q. later-same q c.activations c.activations refl), tt);
        begins = λ c end u us h k is. (ready-settled (record c { to_run = us }) h, (λ q. later-same q c.activations c.activations refl), (λ z e. begun-well.calls u.0 u.1 z e), tt);
        picks = λ c place n h is. (below-remove c.ready (length c.strands) place h, (λ q. later-same q c.activations c.activations refl), below-at c.ready (length c.strands) place n h is);
        starts = λ words input ticks s texts e. begins-fit words input ticks (units_to_run N) s e;
      }
    where
      runs-on : (c d : Common) (n : ℕ) (role : Option Role) → Later None c.activations d.activations → RunsOn c n role → RunsOn d n role
      runs-on c d n None later h = tt
      runs-on c d n (Some r) later h = later r.activation r.worker n h
