-- Where a frame of a typed tree stands: a worker among its events, and any other one before the start of its workers.
use Rattle.std.proofs.Common.{◌≡◌, ◌≢◌, ◌<◌, ◌⊎◌, ◌+◌, ◌++◌, ◌∙◌, ℕ, suc, List, [], ◌∷◌, Option, Some, None, map, length, refl, sym, subst, ap, inl, inr, arith}
use Rattle.std.proofs.lemmas.List.{append_assoc}
use Rattle.std.proofs.lemmas.Option.{none-some}
use Rattle.std.specs.Prelude.{slice_get}
use Rattle.operations.specs.declared.operation.Operation.{Operation}
use Rattle.value_model.specs.declared.value.Value.{Value}
use Rattle.typed_tree.specs.declared.event.EventKind.{EventKind}
use Rattle.typed_tree.specs.declared.event.EventKind.TheVariants.{End}
use Rattle.op_model.specs.Common.{Role}
use Rattle.op_model.specs.Local.{Local}
use Rattle.machine_model.proofs.Once.{some-same}
use Rattle.eval_model.specs.Tasks.{Task, Eval, Exec, Do, Get, Choose, Turn, Guard, Doing}
use Rattle.eval_model.specs.Trees.{caught}
use Rattle.worker_pairing.specs.Events.{Crew, before, events_of, receives_from, sends_to}
use Rattle.worker_waits.specs.Left.{AheadOf, Lasts, Makes, Begins, Step, op_shown, task_shown, tasks_shown}
use Rattle.worker_waits.proofs.Ahead.{ahead-less}
use Rattle.worker_waits.proofs.Later.{Acts, HasRoom, Later, Runs, act, channel_in}
use Rattle.worker_waits.proofs.Stepping.{AtStep, moves, never-begins, not-begins, not-made, one_if, skips, stands-inside, the_event}
use Rattle.worker_waits.proofs.Told.{lasting, lasting-both, lasts, told-op, told-task}

-- ---- from tasks to tasks

-- some steps that are no messages are passed over, and then just the rest is left, or the frame can do nothing
pub record GoesOn (ts : List Task) (steps : List Step) : Type 0 where
  pub passed : List Step
  pub rest : List Step
  pub same : steps ≡ passed ++ rest
  pub quiet : lasting passed ≡ 0
  pub left : (ts ≡ []) ⊎ Lasts ts rest

abbrev pub Goes : List Task → List Task → Type 0
Goes ts new = (steps : List Step) → Lasts ts steps → GoesOn new steps

pub goes-by : (ts : List Task) (steps : List Step) → (ts ≡ []) ⊎ Lasts ts steps → GoesOn ts steps
goes-by ts steps h = record { passed = []; rest = steps; same = refl; quiet = refl; left = h }

-- behind an operation
pub record Does (o : Operation) (ts : List Task) (steps : List Step) : Type 0 where
  pub rest : List Step
  pub same : steps ≡ (told-op o).steps ++ rest
  pub left : Lasts ts rest

pub does : (o : Operation) (ts : List Task) (steps : List Step) → Lasts (Do o ∷ ts) steps → Does o ts steps
does o ts steps h =
    let w = h.wrong in
    record { rest = (tasks_shown ts).own []; same = sym h.left ∙ (told-op o).own ((tasks_shown ts).own []); left = record { wrong = omega (arith, w); left = refl; ahead = ahead-less ts _ _ _ _ (omega arith) (omega arith) h.ahead } }

pub goes-behind : (o : Operation) (ts : List Task) → lasting (told-op o).steps ≡ 0 → Goes (Do o ∷ ts) ts
goes-behind o ts quiet steps h = let d = does o ts steps h in record { passed = (told-op o).steps; rest = d.rest; same = d.same; quiet = quiet; left = inr d.left }

-- where a panic goes on: no message is passed over
pub record Lands (new ts : List Task) (m : ℕ) : Type 0 where
  pub none : m ≡ 0
  pub passed : List Step
  pub rest : List Step
  pub same : (tasks_shown ts).own [] ≡ passed ++ rest
  pub quiet : lasting passed ≡ 0
  pub left : Lasts new rest

lands-more : (t : Task) (new ts : List Task) (m : ℕ) → Lands new ts (m + (task_shown t).messages) → Lands new (t ∷ ts) m
lands-more t new ts m h =
    let none = h.none in
    let told = told-task t in
    let q = h.quiet in
    let messages = told.messages in
    let both = lasting-both told.steps h.passed in
    record {
      none = omega (arith, none);
      passed = told.steps ++ h.passed;
      rest = h.rest;
      same = told.own ((tasks_shown ts).own []) ∙ ap (λ l. told.steps ++ l) h.same ∙ sym (append_assoc told.steps h.passed h.rest);
      quiet = omega (arith, both, messages, none, q);
      left = h.left;
    }

pub lands : (l : Local) (e : Value) (ts : List Task) (n m : ℕ) (x : Doing) → AheadOf n m ts → (tasks_shown ts).wrong ≡ 0 → caught l e ts ≡ Some x → Lands x.tasks ts m
lands l e [] n m x h w is = absurd (none-some x is)
lands l e (Guard vs ∷ ts) n m x (none, h) w is =
    let same = ap (λ d. d.tasks) (some-same _ x is) in
    record { none = none; passed = []; rest = (tasks_shown ts).own []; same = refl; quiet = refl; left = subst (λ new. Lasts new ((tasks_shown ts).own [])) same (record { wrong = omega (arith, w); left = refl; ahead = ahead-less ts _ _ _ _ (omega arith) (omega arith) h }) }
lands l e (Eval expr ∷ ts) n m x h w is = lands-more (Eval expr) x.tasks ts m (lands l e ts _ _ x h (omega (arith, w)) is)
lands l e (Exec s ∷ ts) n m x h w is = lands-more (Exec s) x.tasks ts m (lands l e ts _ _ x h (omega (arith, w)) is)
lands l e (Do o ∷ ts) n m x h w is = lands-more (Do o) x.tasks ts m (lands l e ts _ _ x h (omega (arith, w)) is)
lands l e (Get slot narrowed ∷ ts) n m x h w is = lands-more (Get slot narrowed) x.tasks ts m (let r = lands l e ts n m x h (omega (arith, w)) is in subst (λ k. Lands x.tasks ts k) (omega arith) r)
lands l e (Choose first second ∷ ts) n m x h w is = lands-more (Choose first second) x.tasks ts m (let r = lands l e ts n m x h (omega (arith, w)) is in subst (λ k. Lands x.tasks ts k) (omega arith) r)
lands l e (Turn loop ∷ ts) n m x (none, h) w is = lands-more (Turn loop) x.tasks ts m (let r = lands l e ts n m x h (omega (arith, w)) is in subst (λ k. Lands x.tasks ts k) (omega arith) r)

-- by a panic of an operation, or of a call
pub goes-caught : (l : Local) (e : Value) (o : Operation) (ts : List Task) (x : Doing) → caught l e ts ≡ Some x → Goes (Do o ∷ ts) x.tasks
goes-caught l e o ts x is steps h =
    let w = h.wrong in
    let k = lands l e (Do o ∷ ts) 0 0 x h.ahead w is in
    record { passed = k.passed; rest = k.rest; same = sym h.left ∙ k.same; quiet = k.quiet; left = inr k.left }

pub goes-thrown : (l : Local) (e : Value) (ts : List Task) (x : Doing) → caught l e ts ≡ Some x → Goes ts x.tasks
goes-thrown l e ts x is steps h =
    let k = lands l e ts 0 0 x h.ahead h.wrong is in
    record { passed = k.passed; rest = k.rest; same = sym h.left ∙ k.same; quiet = k.quiet; left = inr k.left }

-- behind a message nothing is caught
pub never-caught : (l : Local) (e : Value) (o : Operation) (ts : List Task) (x : Doing) (steps : List Step) → caught l e ts ≡ Some x → Lasts (Do o ∷ ts) steps → (op_shown o).messages ≡ 0
never-caught l e o ts x steps is h = let w = h.wrong in let k = lands l e ts _ _ x h.ahead (omega (arith, w)) is in let none = k.none in omega (arith, none)

-- ---- frames

module _ (K : ℕ → Crew) where
  -- the events of a worker, by the unit of its activation
  abbrev pub events_in : Acts → Role → List EventKind
  events_in acts r = events_of (K (act acts r.activation).unit) r.worker

  abbrev pub Left : Acts → Role → ℕ → List Task → Type 0
  Left acts r made ts = (ts ≡ []) ⊎ ((steps : List Step) × Lasts ts steps × AtStep (events_in acts r) made steps)

  pub record WorkerFits (acts : Acts) (n : ℕ) (r : Role) (ts : List Task) : Type 0 where
    pub runs : Runs acts n r
    pub room : (v w : ℕ) → v < length (K (act acts r.activation).unit) → w < length (K (act acts r.activation).unit) → HasRoom (act acts r.activation) v w
    pub made : ℕ
    pub inside : made < length (events_in acts r)
    pub sent : (w : ℕ) → (channel_in (act acts r.activation) r.worker w).sent ≡ before (sends_to w) (events_in acts r) made
    pub received : (v : ℕ) → (channel_in (act acts r.activation) v r.worker).received ≡ before (receives_from v) (events_in acts r) made
    pub left : Left acts r made ts

  -- before its named workers are started all events of the default one are left, and a unit without any has none to start
  abbrev pub IsFirst : ℕ → List Step → Type 0
  IsFirst unit steps = ((es : List EventKind) × (steps ≡ map Makes es)) ⊎ ((es : List EventKind) × (steps ≡ Begins ∷ map Makes es) × (events_of (K unit) 0 ≡ es ++ End ∷ []))

  abbrev pub Unstarted : ℕ → List Task → Type 0
  Unstarted unit ts = (ts ≡ []) ⊎ ((steps : List Step) × Lasts ts steps × IsFirst unit steps)

  abbrev pub FrameFits : Acts → ℕ → ℕ → Option Role → List Task → Type 0
  FrameFits acts n unit None ts = Unstarted unit ts
  FrameFits acts n unit (Some r) ts = WorkerFits acts n r ts

  -- ---- what comes later

  pub fits-later : (role : Option Role) (acts bcts : Acts) (n unit : ℕ) (ts : List Task) → Later role acts bcts → FrameFits acts n unit role ts → FrameFits bcts n unit role ts
  fits-later None acts bcts n unit ts later h = h
  fits-later (Some r) acts bcts n unit ts later h =
      let s = later n h.runs in
      let e : (act acts r.activation).unit ≡ (act bcts r.activation).unit = sym s.unit in
      let es : events_in acts r ≡ events_in bcts r = ap (λ u. events_of (K u) r.worker) e in
      record {
        runs = s.runs n h.runs;
        room = λ v w lv lw. s.room v w (h.room v w (subst (λ u. v < length (K u)) s.unit lv) (subst (λ u. w < length (K u)) s.unit lw));
        made = h.made;
        inside = subst (λ l. h.made < length l) es h.inside;
        sent = λ w. s.sent w ∙ h.sent w ∙ ap (λ l. before (sends_to w) l h.made) es;
        received = λ v. s.received v ∙ h.received v ∙ ap (λ l. before (receives_from v) l h.made) es;
        left = subst (λ l. (ts ≡ []) ⊎ ((steps : List Step) × Lasts ts steps × AtStep l h.made steps)) es h.left;
      }

  -- ---- where no message is passed over

  goes-left : (acts : Acts) (n : ℕ) (r : Role) (ts new : List Task) → ts ≢ [] → Goes ts new → WorkerFits acts n r ts → WorkerFits acts n r new
  goes-left acts n r ts new some goes h = by h.left
    where
      stays : WorkerFits acts n r ts → new ≡ [] → WorkerFits acts n r new
      stays h none = record { runs = h.runs; room = h.room; made = h.made; inside = h.inside; sent = h.sent; received = h.received; left = inl none }

      on : (steps : List Step) → AtStep (events_in acts r) h.made steps → GoesOn new steps → WorkerFits acts n r new
      on steps at g = to g.left
        where
          to : (new ≡ []) ⊎ Lasts new g.rest → WorkerFits acts n r new
          to (inl none) = stays h none
          to (inr left) =
              let s = skips (events_in acts r) h.made g.passed g.rest g.quiet (subst (λ l. AtStep (events_in acts r) h.made l) g.same at) in
              record {
                runs = h.runs;
                room = h.room;
                made = s.0;
                inside = stands-inside (events_in acts r) s.0 g.rest s.1;
                sent = λ w. h.sent w ∙ sym (s.2.sent w);
                received = λ v. h.received v ∙ sym (s.2.received v);
                left = inr (g.rest, left, s.1);
              }

      by : Left acts r h.made ts → WorkerFits acts n r new
      by (inl none) = absurd (some none)
      by (inr (steps, lasts, at)) = on steps at (goes steps lasts)

  made-rest : (xs rest : List Step) (es : List EventKind) → xs ++ rest ≡ map Makes es → (fs : List EventKind) × (rest ≡ map Makes fs)
  made-rest [] rest es h = (es, h)
  made-rest (x ∷ xs) rest [] h = absurd (let n = ap length h in omega (arith, n))
  made-rest (x ∷ xs) rest (e ∷ es) h = made-rest xs rest es (ap tail h)
    where
      tail : List Step → List Step
      tail [] = []
      tail (y ∷ ys) = ys

  first-rest : (unit : ℕ) (xs rest : List Step) → lasting xs ≡ 0 → IsFirst unit (xs ++ rest) → IsFirst unit rest
  first-rest unit [] rest quiet h = h
  first-rest unit (x ∷ xs) rest quiet (inl (es, e)) = inl (made-rest (x ∷ xs) rest es e)
  first-rest unit (Makes y ∷ xs) rest quiet (inr (es, e, all)) = absurd (not-begins y (xs ++ rest) (map Makes es) e)
  first-rest unit (Begins ∷ xs) rest quiet (inr (es, e, all)) = absurd (omega (arith, quiet))

  goes-unstarted : (unit : ℕ) (ts new : List Task) → ts ≢ [] → Goes ts new → Unstarted unit ts → Unstarted unit new
  goes-unstarted unit ts new some goes (inl none) = absurd (some none)
  goes-unstarted unit ts new some goes (inr (steps, lasts, first)) = by (goes steps lasts)
    where
      by : GoesOn new steps → Unstarted unit new
      by g = to g.left
        where
          to : (new ≡ []) ⊎ Lasts new g.rest → Unstarted unit new
          to (inl none) = inl none
          to (inr left) = inr (g.rest, left, first-rest unit g.passed g.rest g.quiet (subst (IsFirst unit) g.same first))

  pub frame-goes : (acts : Acts) (n unit : ℕ) (role : Option Role) (ts new : List Task) → ts ≢ [] → Goes ts new → FrameFits acts n unit role ts → FrameFits acts n unit role new
  frame-goes acts n unit None ts new some goes h = goes-unstarted unit ts new some goes h
  frame-goes acts n unit (Some r) ts new some goes h = goes-left acts n r ts new some goes h

  -- ---- where a message is passed over

  pub some-task : (t : Task) (ts : List Task) → (t ∷ ts) ≢ []
  some-task t ts e = let n = ap length e in omega (arith, n)

  -- the event that it is
  pub says-next : (acts : Acts) (n : ℕ) (r : Role) (o : Operation) (ts : List Task) (e : EventKind) → (told-op o).steps ≡ Makes e ∷ [] → (h : WorkerFits acts n r (Do o ∷ ts)) → slice_get (events_in acts r) h.made ≡ Some e
  says-next acts n r o ts e is h = by h.left
    where
      by : Left acts r h.made (Do o ∷ ts) → slice_get (events_in acts r) h.made ≡ Some e
      by (inl none) = absurd (some-task (Do o) ts none)
      by (inr (steps, left, at)) =
          let d = does o ts steps left in
          let m = moves (events_in acts r) h.made (Makes e) d.rest (subst (λ l. AtStep (events_in acts r) h.made l) (d.same ∙ ap (λ l. l ++ d.rest) is) at) in
          m.next.here ∙ ap Some (sym (ap the_event m.is))

  -- behind it the counts are as the event says
  pub says : (acts bcts : Acts) (n : ℕ) (r : Role) (o : Operation) (ts : List Task) (e : EventKind) → (told-op o).steps ≡ Makes e ∷ [] → (h : WorkerFits acts n r (Do o ∷ ts)) →
      Runs bcts n r → (act bcts r.activation).unit ≡ (act acts r.activation).unit → ((v w : ℕ) → HasRoom (act acts r.activation) v w → HasRoom (act bcts r.activation) v w) →
      ((w : ℕ) → (channel_in (act bcts r.activation) r.worker w).sent ≡ (channel_in (act acts r.activation) r.worker w).sent + one_if (sends_to w e)) →
      ((v : ℕ) → (channel_in (act bcts r.activation) v r.worker).received ≡ (channel_in (act acts r.activation) v r.worker).received + one_if (receives_from v e)) →
      WorkerFits bcts n r ts
  says acts bcts n r o ts e is h runs unit room sent received = by h.left
    where
      es : events_in acts r ≡ events_in bcts r
      es = ap (λ u. events_of (K u) r.worker) (sym unit)

      by : Left acts r h.made (Do o ∷ ts) → WorkerFits bcts n r ts
      by (inl none) = absurd (some-task (Do o) ts none)
      by (inr (steps, left, at)) =
          let d = does o ts steps left in
          let m = moves (events_in acts r) h.made (Makes e) d.rest (subst (λ l. AtStep (events_in acts r) h.made l) (d.same ∙ ap (λ l. l ++ d.rest) is) at) in
          let same : m.event ≡ e = sym (ap the_event m.is) in
          record {
            runs = runs;
            room = λ v w lv lw. room v w (h.room v w (subst (λ u. v < length (K u)) unit lv) (subst (λ u. w < length (K u)) unit lw));
            made = suc h.made;
            inside = subst (λ l. suc h.made < length l) es (stands-inside (events_in acts r) (suc h.made) d.rest m.onward);
            sent = λ w. sent w ∙ ap (λ k. k + one_if (sends_to w e)) (h.sent w) ∙ ap (λ x. before (sends_to w) (events_in acts r) h.made + one_if (sends_to w x)) (sym same) ∙ sym (m.next.counts (sends_to w)) ∙ ap (λ l. before (sends_to w) l (suc h.made)) es;
            received = λ v. received v ∙ ap (λ k. k + one_if (receives_from v e)) (h.received v) ∙ ap (λ x. before (receives_from v) (events_in acts r) h.made + one_if (receives_from v x)) (sym same) ∙ sym (m.next.counts (receives_from v)) ∙ ap (λ l. before (receives_from v) l (suc h.made)) es;
            left = inr (d.rest, d.left, subst (λ l. AtStep l (suc h.made) d.rest) es m.onward);
          }

  -- a worker starts no workers
  pub starts-none : (acts : Acts) (n : ℕ) (r : Role) (o : Operation) (ts : List Task) → (told-op o).steps ≡ Begins ∷ [] → WorkerFits acts n r (Do o ∷ ts) → ⊥
  starts-none acts n r o ts is h = by h.left
    where
      by : Left acts r h.made (Do o ∷ ts) → ⊥
      by (inl none) = some-task (Do o) ts none
      by (inr (steps, left, at)) =
          let d = does o ts steps left in
          never-begins (events_in acts r) h.made d.rest (subst (λ l. AtStep (events_in acts r) h.made l) (d.same ∙ ap (λ l. l ++ d.rest) is) at)

  -- and where they are started, all events of the default one are left
  pub starts-all : (unit : ℕ) (o : Operation) (ts : List Task) → (told-op o).steps ≡ Begins ∷ [] → Unstarted unit (Do o ∷ ts) → (steps : List Step) × Lasts ts steps × AtStep (events_of (K unit) 0) 0 steps
  starts-all unit o ts is (inl none) = absurd (some-task (Do o) ts none)
  starts-all unit o ts is (inr (steps, left, first)) = by first
    where
      d : Does o ts steps
      d = does o ts steps left

      so : steps ≡ Begins ∷ d.rest
      so = d.same ∙ ap (λ l. l ++ d.rest) is

      tail : List Step → List Step
      tail [] = []
      tail (y ∷ ys) = ys

      made-end : (es : List EventKind) → map Makes (es ++ End ∷ []) ≡ map Makes es ++ Makes End ∷ []
      made-end [] = refl
      made-end (e ∷ es) = ap (λ l. Makes e ∷ l) (made-end es)

      by : IsFirst unit steps → (steps : List Step) × Lasts ts steps × AtStep (events_of (K unit) 0) 0 steps
      by (inl (es, e)) = absurd (not-made es d.rest (sym so ∙ e))
      by (inr (es, e, all)) =
          let rest : d.rest ≡ map Makes es = ap tail (sym so ∙ e) in
          (d.rest, d.left, ap (λ l. map Makes l) all ∙ made-end es ∙ ap (λ l. l ++ Makes End ∷ []) (sym rest))
