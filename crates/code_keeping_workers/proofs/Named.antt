-- What a frame asks for where its function's named workers are started: a strand for each begins it with what it captures.
use Rattle.std.proofs.Common.{◌≡◌, ◌≢◌, ◌<◌, ◌≤◌, ◌+◌, ◌-◌, ◌∙◌, ℕ, zero, suc, Bool, true, false, List, [], ◌∷◌, ◌++◌, Option, Some, None, inl, inr, length, map, reverse, refl, sym, ap, subst, arith}
use Rattle.std.proofs.Math.Seq.{get_or-append_seam}
use Rattle.std.proofs.lemmas.List.{append-nil, get_or_past, length-map, length-replicate}
use Rattle.std.proofs.lemmas.List.Elements.{All-head, All-tail}
use Rattle.std.proofs.lemmas.Option.{get_or_from_slice_get, slice_get_within}
use Rattle.std.specs.Prelude.{All, IsSomeAnd, drop, get_or, if◌then◌else◌, nat_le, option_map, option_to_list, replicate, slice_get, take, ⊤}
use Rattle.std.specs.List.{AllZip, concat}
use Rattle.bal_base.specs.declared.fault.LimitKind.TheVariants.{Strands}
use Rattle.type_model.specs.declared.basic.SemType.{SemType}
use Rattle.operations.specs.declared.operation.Operation.TheVariants as op
use Rattle.value_model.specs.declared.filler.Filler.{Filler}
use Rattle.value_model.specs.declared.panics.PanicName.TheVariants.{NotInitialised}
use Rattle.value_model.specs.declared.value.Value.{Value}
use Rattle.value_model.specs.declared.value.Value.TheVariants.{Error}
use Rattle.value_model.specs.Heap.{cells}
use Rattle.value_model.specs.Meaning.{Answers}
use Rattle.value_model.specs.PanicName.{panic_message}
use Rattle.value_model.specs.World.{Came, PassesCells, Threw}
use Rattle.op_model.specs.CallRows.{new_activation, starts_workers, strands_made, workers_from}
use Rattle.op_model.specs.Common.{Activation, Common, Role}
use Rattle.op_model.specs.Effects.{Beyond, Effect, Spawned, Spawns, lifted}
use Rattle.op_model.specs.ProgramFacts.{WorkerFacts}
use Rattle.op_model.specs.Levels.{numbers_from}
use Rattle.op_model.specs.Limits.{most_cells, most_strands}
use Rattle.op_model.specs.Local.{Local, captured_from, captures, Later}
use Rattle.op_model.specs.Rows.{makes_error, next_error, panics}
use Rattle.op_model.specs.Strands.{activation_at, no_activation, no_channel}
use Rattle.machine_model.specs.Keeping.{AllBegin, AskFits, BeginsWell, EffectFits, RunsOn}
use Rattle.machine_model.specs.Machine.{Ask, Frame, asks, captured_by, captured_slots}
use Rattle.machine_model.specs.Runs.{Running}
use Rattle.machine_model.proofs.BoardMakes.{length-numbers, numbers-at}
use Rattle.machine_model.proofs.Commons.{new-channel}
use Rattle.machine_model.proofs.Once.{some-same}
use Rattle.stack_code.specs.declared.code.Code.{Code}
use Rattle.stack_code.specs.declared.code.Spawn.{Spawn}
use Rattle.stack_code.specs.declared.code.Unit.{Unit as CodeUnit}
use Rattle.stack_code.specs.Activations.{GoodActivation, HasQueue, IsCallOf, QueueFits, WorkerEndFits}
use Rattle.stack_code.specs.CodeMachine.{Standing, code_facts, codes, entry, obeys, standing, unit_facts}
use Rattle.stack_code.specs.Commands.{Do, command_at}
use Rattle.stack_code.specs.Flow.{DoesTyped, no_messages, tally_landing}
use Rattle.stack_code.specs.Frames.{IsLowest, IsOfItsUnit, StandsIn, TallyIs, TopFits, TrapFits, TrapsFit, channel_in, end_in_call}
use Rattle.stack_code.specs.Good.{GoodCommon, IsLater, code_invariant}
use Rattle.stack_code.specs.Places.{IsStation, IsWorkerUnit, Station, crew, crew_of, stack_at, tally_at, traps_at}
use Rattle.stack_code.specs.Tables.{CapturesWell, UnitAt}
use Rattle.stack_code.specs.Values.{AllFit, HeldFits}
use Rattle.stack_code.specs.WellTyped.{WellTyped}
use Rattle.code_keeping.specs.Laws.{AskComes}
use Rattle.code_keeping.specs.Rows.{EffectTyped}
use Rattle.code_keeping.proofs.Entering.{begins, entry-in}
use Rattle.code_keeping.proofs.Growing.{get-last}
use Rattle.code_keeping.proofs.Landing.{caught}
use Rattle.code_keeping.proofs.Lists.{assoc, at-some, of-some, some-there, some-to, there, zip-to}
use Rattle.code_keeping.proofs.Making.{panic-typed}
use Rattle.code_keeping.proofs.Places.{IsAt, at-place, done-behind, first-of-crew, typed-by, typed-in}
use Rattle.code_keeping.proofs.Shapes.{get-map}
use Rattle.code_keeping.proofs.Staying.{above, all-later, for-none, slots-later, tally-later, unit-later}
use Rattle.code_keeping_talk.proofs.Following.{later-follows}
use Rattle.code_keeping_workers.specs.Laws.{WorkersAreStarted}
use Rattle.code_keeping_workers.proofs.Captured.{AllCaptured, AreHeld, all-captured}
use Rattle.code_keeping_workers.proofs.Crewed.{AreMade, IsMadeFor, are-made, made-beside}
use Rattle.code_keeping_workers.proofs.Opened.{opened, opened-good, opened-later}

-- ---- lists

none-in : {A : Type 0} (k v : ℕ) (x : A) → get_or (replicate k x) v x ≡ x
none-in zero v x = refl
none-in (suc k) zero x = refl
none-in (suc k) (suc v) x = none-in k v x

zero-there : (n v : ℕ) → v < length {A = ℕ} (replicate n 0) → slice_get {X = ℕ} (replicate n 0) v ≡ Some 0
zero-there zero v lt = absurd (omega (arith, lt))
zero-there (suc n) zero lt = refl
zero-there (suc n) (suc v) lt = zero-there n v (omega (arith, lt))

each-one : {A : Type 0} (P : A → Type 0) (n : ℕ) (x : A) → P x → All P (replicate n x)
each-one P zero x h k d lt = absurd (omega (arith, lt))
each-one P (suc n) x h zero d lt = h
each-one P (suc n) x h (suc k) d lt = each-one P n x h k d (omega (arith, lt))

numbers-there : (first k i : ℕ) → i < k → slice_get (numbers_from first k) i ≡ Some (first + i)
numbers-there first zero i lt = absurd (omega (arith, lt))
numbers-there first (suc k) zero lt = ap (λ n. Some n) (let q : first ≡ first + 0 = omega arith in q)
numbers-there first (suc k) (suc i) lt = numbers-there (first + 1) k i (omega (arith, lt)) ∙ ap (λ n. Some n) (let q : first + 1 + i ≡ first + suc i = omega arith in q)

some-long : {A : Type 0} (xs : List A) → xs ≢ [] → 1 ≤ length xs
some-long [] h = absurd (h refl)
some-long (x ∷ xs) h = omega arith

-- ---- workers as the table has them

abbrev facts-of : List Spawn → List WorkerFacts
facts-of ws = map (λ (w : Spawn). let x : WorkerFacts = record { unit = w.unit; captured = w.slots } in x) ws

abbrev slots-of : List Spawn → List ℕ
slots-of ws = concat (map (λ (w : Spawn). w.slots) ws)

slots-are : (ws : List Spawn) → concat (map (λ (x : WorkerFacts). x.captured) (facts-of ws)) ≡ slots-of ws
slots-are [] = refl
slots-are (w ∷ ws) = ap (λ ns. w.slots ++ ns) (slots-are ws)

abbrev worker-role : ℕ → ℕ → Option Role
worker-role a w = Some (record { activation = a; worker = w })

spawned-at : (a : ℕ) (ws : List Spawn) (k : ℕ) (vs : List Value) (i : ℕ) (y : Spawn) → slice_get ws i ≡ Some y →
    (s : Spawned) × (slice_get (workers_from a k (facts-of ws) vs) i ≡ Some s) × (s.unit ≡ y.unit) × (s.role ≡ worker-role a (k + i))
spawned-at a [] k vs i y e = absurd (let q : ⊥ = cc in q)
spawned-at a (w ∷ ws) k vs zero y e =
    (record { unit = w.unit; args = take (length w.slots) vs; role = worker-role a k }, refl, ap (λ (z : Spawn). z.unit) (some-same w y e), ap (worker-role a) (let q : k ≡ k + 0 = omega arith in q))
spawned-at a (w ∷ ws) k vs (suc i) y e =
    let (s, es, unit, role) = spawned-at a ws (k + 1) (drop (length w.slots) vs) i y e in
    (s, es, unit, role ∙ ap (worker-role a) (let q : k + 1 + i ≡ k + suc i = omega arith in q))

-- ---- slots of declared types

abbrev AreTyped : CodeUnit → List ℕ → Type 0
AreTyped u [] = ⊤
AreTyped u (n ∷ ns) = IsSomeAnd (slice_get u.slots n) (λ t. ⊤) × AreTyped u ns

typed-append : (u : CodeUnit) (ns ms : List ℕ) → AreTyped u ns → AreTyped u ms → AreTyped u (ns ++ ms)
typed-append u [] ms h k = k
typed-append u (n ∷ ns) ms (h, hs) k = (h, typed-append u ns ms hs k)

module _ (code : Code) (u : CodeUnit) where
  typed-slots : (P : SemType → SemType → Type 0) (ns : List ℕ) (ts : List SemType) → AllZip (λ slot t. IsSomeAnd (slice_get u.slots slot) (P t)) ns ts → AreTyped u ns
  typed-slots P [] [] h = tt
  typed-slots P [] (t ∷ ts) h = absurd h
  typed-slots P (n ∷ ns) [] h = absurd h
  typed-slots P (n ∷ ns) (t ∷ ts) (h, hs) = (some-to (P t) (λ s. ⊤) (slice_get u.slots n) (λ s k. tt) h, typed-slots P ns ts hs)

  all-typed : (ws : List Spawn) → All (CapturesWell code u) ws → AreTyped u (slots-of ws)
  all-typed [] h = tt
  all-typed (w ∷ ws) h =
      let (g, eg, captures) = some-there _ (slice_get code.units w.unit) (All-head (CapturesWell code u) w ws h) in
      typed-append u w.slots (slots-of ws) (typed-slots _ w.slots g.captured captures) (all-typed ws (All-tail (CapturesWell code u) w ws h))

slot-there : (code : Code) (c : Common) (slots : List (Option Value)) (types : List SemType) (s : ℕ) → AllZip (HeldFits code c) slots types → IsSomeAnd (slice_get types s) (λ t. ⊤) → (x : Option Value) × (slice_get slots s ≡ Some x)
slot-there code c [] [] s h k = absurd k
slot-there code c [] (y ∷ types) s h k = absurd h
slot-there code c (x ∷ slots) [] s h k = absurd h
slot-there code c (x ∷ slots) (y ∷ types) zero h k = (x, refl)
slot-there code c (x ∷ slots) (y ∷ types) (suc s) (h, more) k = slot-there code c slots types s more k

-- ---- the frame

no-role : (code : Code) (c : Common) (role : Option Role) → TallyIs code c role None → role ≡ None
no-role code c None h = refl
no-role code c (Some r) h = absurd h

module _ (code : Code) (fillers : ℕ → List Filler) (natives : Answers) (t : WellTyped code) (c : Common) (depth : ℕ) (good : GoodCommon code c Running) (f : Frame Standing) (fits : TopFits code c f) (at : IsAt code c f)
    (ec : command_at code f.control.place ≡ Some (Do op.Workers)) where
  abbrev p : ℕ
  p = f.control.place

  abbrev l : Local
  l = f.control.local

  -- before they are started the frame is no worker
  none : tally_at code p ≡ None
  none = (typed-by code at.u at.station p (Do op.Workers) ec (typed-in code t f.unit at.u at.is at.station at.stationed p at.here.0)).unstarted refl

  role-none : f.role ≡ None
  role-none = no-role code c f.role (subst (λ k. TallyIs code c f.role k) none fits.0.1)

  no-worker : ¬ (IsWorkerUnit code f.unit)
  no-worker = subst (λ r. IsOfItsUnit code c f.unit r) role-none fits.0.2

  abbrev station : ℕ → Station
  station w = record { function = f.unit; worker = w }

  stationed : IsStation code f.unit (station 0)
  stationed = (first-of-crew code f.unit at.u at.is, λ z. no-worker)

  typed : DoesTyped code at.u (station 0) p op.Workers
  typed = typed-by code at.u (station 0) p (Do op.Workers) ec (typed-in code t f.unit at.u at.is (station 0) stationed p at.here.0)

  abbrev ws : List Spawn
  ws = at.u.workers

  abbrev many : ℕ
  many = length (facts-of ws)

  many-is : many ≡ length ws
  many-is = length-map ws (λ (w : Spawn). let x : WorkerFacts = record { unit = w.unit; captured = w.slots } in x)

  crew-long : length (crew code f.unit) ≡ many + 1
  crew-long = let k : length (crew code f.unit) ≡ suc (length (map (λ (w : Spawn). w.unit) ws)) = ap (λ o. length (crew_of f.unit o)) at.is in let l = length-map ws (λ (w : Spawn). w.unit) in omega (arith, k, l, many-is)

  abbrev a : ℕ
  a = length c.activations

  abbrev x : Activation
  x = new_activation c f.unit many

  quiet : (v w : ℕ) → channel_in x v w ≡ no_channel
  quiet v w = new-channel c f.unit many v w

  unended : (v : ℕ) → end_in_call x v ≡ None
  unended v = none-in (many + 1) v None

  stationed-at : (i : ℕ) (y : Spawn) → slice_get ws i ≡ Some y → IsStation code y.unit (station (suc i))
  stationed-at i y e = (
    ap (λ o. slice_get (crew_of f.unit o) (suc i)) at.is ∙ (get-map (λ (w : Spawn). w.unit) ws i ∙ ap (λ o. option_map (λ (w : Spawn). w.unit) o) e),
    (λ z. absurd (let q : ⊥ = cc in q)),
  )

  is-worker : (i : ℕ) (y : Spawn) → slice_get ws i ≡ Some y → IsWorkerUnit code y.unit
  is-worker i y e = (f.unit, at.u, slice_get_within code.units f.unit at.u at.is, get_or_from_slice_get code.units f.unit at.u at.u at.is, (i, y, slice_get_within ws i y e, get_or_from_slice_get ws i y y e, refl))

  abbrev Fit : Effect → Type 0
  Fit effect = EffectFits natives (codes fillers code) (code_invariant code) c depth f (standing (p + 1) f.control.traps l) effect

  module _ (vs : List Value) (captured : AllCaptured code c at.u l.slots at.here.1.0 ws vs) where
    abbrev ss : List Spawned
    ss = workers_from a 1 (facts-of ws) vs

    abbrev e : Common
    e = strands_made ss c

    made : AreMade code c ss e
    made = are-made code ss c good

    -- ---- the activation

    call : IsCallOf code e a x
    call =
        record {
          some = let l = some-long ws (((t.places p).uses f.unit at.u at.is at.here.0).starts ec) in omega (arith, l, many-is, crew-long);
          strands = let l = length-numbers (length c.strands) many in omega (arith, l, crew-long);
          ends = length-replicate (many + 1) None ∙ sym crew-long;
          senders = length-replicate (many + 1) (replicate (many + 1) no_channel) ∙ sym crew-long;
          channels = each-one (λ row. length row ≡ length (crew code f.unit)) (many + 1) (replicate (many + 1) no_channel) (length-replicate (many + 1) no_channel ∙ sym crew-long);
          workers = at-number;
        }
      where
        at-number : (w n : ℕ) → slice_get (numbers_from (length c.strands) many) w ≡ Some n →
            IsSomeAnd (slice_get e.strands n) (λ s. (s.role ≡ worker-role a (suc w)) × (slice_get (crew code f.unit) (suc w) ≡ Some s.unit))
        at-number w n en =
            let below = slice_get_within (numbers_from (length c.strands) many) w n en in
            let long = length-numbers (length c.strands) many in
            let (y, ey) = there ws w (omega (arith, below, long, many-is)) in
            let (s, es, unit, role) = spawned-at a ws 1 vs w y ey in
            subst (λ m. IsSomeAnd (slice_get e.strands m) (λ s. (s.role ≡ worker-role a (suc w)) × (slice_get (crew code f.unit) (suc w) ≡ Some s.unit))) (sym (numbers-at (length c.strands) many w n en))
            (some-to (IsMadeFor s) (λ s. (s.role ≡ worker-role a (suc w)) × (slice_get (crew code f.unit) (suc w) ≡ Some s.unit)) (slice_get e.strands (length c.strands + w))
            (λ z h. (h.1 ∙ (role ∙ ap (worker-role a) (let q : 1 + w ≡ suc w = omega arith in q)), (stationed-at w y ey).0 ∙ ap (λ n. Some n) (sym (h.0 ∙ unit)))) (made.each w s es))

    fresh : GoodActivation code e a x
    fresh =
        record {
          call = call;
          queues = λ v w. subst (λ ch. HasQueue (end_in_call x v) ch × QueueFits code e f.unit v w ch) (sym (quiet v w)) (
            ((let q : 0 ≡ 0 - 0 = omega arith in q), (λ lt. absurd (omega (arith, lt)))),
            record { sent = λ k lt. absurd (omega (arith, lt)); fit = λ k q m em. absurd (let q : ⊥ = cc in q) },
          );
          ends = λ v t lt tally. subst (λ o. WorkerEndFits code e f.unit v t o) (sym (unended v)) tt;
        }

    abbrev z : Common
    z = opened code e made.sound x quiet unended

    z-good : GoodCommon code z Running
    z-good = opened-good code e made.sound x quiet unended (subst (λ n. GoodActivation code e n x) (ap length (sym made.activations)) fresh)

    z-later : (q : Option Role) → IsLater q c z
    z-later q = later-follows q c e z (made.later q) (opened-later code e made.sound x quiet unended q)

    last : activation_at z a ≡ x
    last = ap (λ xs. get_or (xs ++ x ∷ []) a no_activation) made.activations ∙ get_or-append_seam c.activations x [] no_activation

    last-there : slice_get z.activations a ≡ Some x
    last-there = ap (λ xs. slice_get (xs ++ x ∷ []) a) made.activations ∙ get-last c.activations x

    -- ---- its workers

    tally-so : (w : ℕ) → TallyIs code z (worker-role a w) (Some (no_messages (length (crew code f.unit))))
    tally-so w = (
      (λ v lt. zero-there (length (crew code f.unit)) v lt ∙ ap (λ n. Some n) (sym (ap (λ y. (channel_in y w v).sent) last ∙ ap (λ ch. ch.sent) (quiet w v)))),
      (λ v lt. zero-there (length (crew code f.unit)) v lt ∙ ap (λ n. Some n) (sym (ap (λ y. (channel_in y v w).received) last ∙ ap (λ ch. ch.received) (quiet v w)))),
    )

    own-unit : (w unit : ℕ) → IsStation code unit (station w) → IsOfItsUnit code z unit (worker-role a w)
    own-unit w unit st = (
      at-some (λ y. IsStation code unit (record { function = y.unit; worker = w })) (slice_get z.activations a) x last-there st,
      ap (λ y. end_in_call y w) last ∙ unended w,
    )

    abbrev Begun : (n w : ℕ) → Spawn → List Value → Type 0
    Begun n w y args = BeginsWell natives (codes fillers code) (code_invariant code) z n 1 y.unit args (worker-role a w) × RunsOn z n (worker-role a w) × IsLowest code z n y.unit

    enters : (i : ℕ) (y : Spawn) → slice_get ws i ≡ Some y → (args : List Value) → UnitAt code y.unit (λ g. AllFit code c args g.captured) →
        (k : Standing) → (codes fillers code).enter y.unit args ≡ Some k → TopFits code z (record { unit = y.unit; role = worker-role a (suc i); control = k })
    enters i y ey args fit k ek =
        let (g, eg, ok) = some-there (λ g. AllFit code c args g.captured) (slice_get code.units y.unit) fit in
        let named = is-worker i y ey in
        let all : AllFit code z args (g.params ++ g.captured) = subst (λ ps. AllFit code z args (ps ++ g.captured)) (sym (t.fields.workers y.unit g eg named).0) (all-later code None c z (z-later None) args g.captured ok) in
        let tally : tally_at code g.first ≡ Some (no_messages (length (crew code f.unit))) = ((((t.places g.first).typed y.unit g eg (entry-in code t y.unit g eg) (station (suc i)) (stationed-at i y ey)).1).0 refl).2 named in
        let is : entry args g ≡ k = some-same (entry args g) k (sym (ap (λ o. option_map (entry args) o) eg) ∙ ek) in
        subst (λ k. TopFits code z (record { unit = y.unit; role = worker-role a (suc i); control = k })) is
        (begins code t z y.unit g eg (station (suc i)) (stationed-at i y ey) args (worker-role a (suc i)) all (subst (λ q. TallyIs code z (worker-role a (suc i)) q) (sym tally) (tally-so (suc i))) (own-unit (suc i) y.unit (stationed-at i y ey)))

    begun : (i : ℕ) (y : Spawn) → slice_get ws i ≡ Some y → (args : List Value) → UnitAt code y.unit (λ g. AllFit code c args g.captured) → Begun (length c.strands + i) (suc i) y args
    begun i y ey args fit =
        let below = slice_get_within ws i y ey in
        let (s, es, unit, role) = spawned-at a ws 1 vs i y ey in (
          (λ k ek. enters i y ey args fit k ek),
          ap (λ y. slice_get y.strands (suc i)) last ∙ numbers-there (length c.strands) many i (omega (arith, below, many-is)),
          inl (some-to (IsMadeFor s) (λ q. q.unit ≡ y.unit) (slice_get e.strands (length c.strands + i)) (λ q h. h.0 ∙ unit) (made.each i s es)),
        )

    all-begin : (rest : List Spawn) (done n k : ℕ) (us : List Value) → n ≡ length c.strands + done → k ≡ suc done → ((i : ℕ) (y : Spawn) → slice_get rest i ≡ Some y → slice_get ws (done + i) ≡ Some y) →
        AllCaptured code c at.u l.slots at.here.1.0 rest us → AllBegin natives (codes fillers code) (code_invariant code) z n (workers_from a k (facts-of rest) us)
    all-begin [] done n k us en ek from h = tt
    all-begin (y ∷ rest) done n k us en ek from (h, hs) = (
      subst (λ m. Begun m k y (take (length y.slots) us)) (sym en) (subst (λ w. Begun (length c.strands + done) w y (take (length y.slots) us)) (sym ek)
          (begun done y (subst (λ i. slice_get ws i ≡ Some y) (let q : done + 0 ≡ done = omega arith in q) (from 0 y refl)) (take (length y.slots) us) h)),
      all-begin rest (suc done) (suc n) (k + 1) (drop (length y.slots) us) (omega (arith, en)) (omega (arith, ek))
          (λ i w e. subst (λ j. slice_get ws j ≡ Some w) (let q : done + suc i ≡ suc done + i = omega arith in q) (from (suc i) w e)) hs,
    )

    -- ---- the frame itself

    traps-so : (r : Option (List ℕ)) → traps_at code at.u p ≡ r → IsSomeAnd r (λ ts. AllZip (TrapFits code c l.stack) f.control.traps ts) → TrapsFit code z at.u (p + 1) l.stack f.control.traps
    traps-so None er h = absurd h
    traps-so (Some ts) er h =
        at-some (λ ts. AllZip (TrapFits code z l.stack) f.control.traps ts) (traps_at code at.u (p + 1)) ts (done-behind code at.u p at.here.0.0 op.Workers ts ec er)
        (zip-to (TrapFits code c l.stack) (TrapFits code z l.stack) (λ trap k m. (m.0, all-later code None c z (z-later None) (reverse trap.below) (stack_at code k) m.1, m.2)) f.control.traps ts h)

    stack-so : AllFit code z (reverse l.stack) (stack_at code (p + 1))
    stack-so =
        let before : stack_at code p ≡ typed.rest = typed.stack ∙ (ap (λ os. typed.rest ++ os) typed.typed.0 ∙ append-nil typed.rest) in
        let behind : typed.rest ++ option_to_list typed.result ≡ typed.rest = ap (λ r. typed.rest ++ option_to_list r) typed.typed.1 ∙ append-nil typed.rest in
        above code z (reverse l.stack) (typed.rest ++ option_to_list typed.result) (stack_at code (p + 1))
        (subst (λ ts. AllFit code z (reverse l.stack) ts) (sym behind) (all-later code None c z (z-later None) (reverse l.stack) typed.rest (subst (λ ts. AllFit code c (reverse l.stack) ts) before fits.1))) (typed.next (λ h. h)).1

    frame-fits : TopFits code z (record { unit = f.unit; role = worker-role a 0; control = standing (p + 1) f.control.traps l })
    frame-fits = (
      (
        at-some (StandsIn code z (p + 1) l.slots l.stack f.control.traps) (slice_get code.units f.unit) at.u at.is
            ((typed.next (λ h. h)).0, slots-later code None c z (z-later None) at.u l.slots at.here.1, traps-so (traps_at code at.u p) refl at.here.2),
        subst (λ k. TallyIs code z (worker-role a 0) k) (sym (typed.next (λ h. h)).2) (tally-so 0),
        own-unit 0 f.unit stationed,
      ),
      stack-so,
    )

    new-role : (n : ℕ) → ¬ (RunsOn c n (worker-role a 0))
    new-role n h = let k : slice_get no_activation.strands 0 ≡ Some n = subst (λ y. slice_get y.strands 0 ≡ Some n) (get_or_past c.activations a no_activation (omega arith)) h in let q : ⊥ = cc in q

    spawns : Fit (Spawns ss (worker-role a 0) [] z)
    spawns = (
      z-good,
      made.running,
      made.count,
      (λ q apart. z-later q),
      inr (new-role, ap (λ y. slice_get y.strands 0) last),
      frame-fits,
      all-begin ws 0 (length c.strands) 1 vs (omega arith) refl (λ i y ey. subst (λ j. slice_get ws j ≡ Some y) (let q : i ≡ 0 + i = omega arith in q) ey) captured,
    )

    started : Fit (starts_workers c f.unit (facts-of ws) vs)
    started = by (nat_le (length c.strands + many) most_strands)
      where
        is : strands_made ss (record c { activations = c.activations ++ x ∷ [] }) ≡ z
        is = made-beside ss c (c.activations ++ x ∷ []) ∙ ap (λ xs. record e { activations = xs ++ x ∷ [] }) (sym made.activations)

        by : (b : Bool) → Fit (if b then Spawns ss (worker-role a 0) [] (strands_made ss (record c { activations = c.activations ++ x ∷ [] })) else Beyond Strands)
        by true = subst (λ d. Fit (Spawns ss (worker-role a 0) [] d)) (sym is) spawns
        by false = tt

  -- ---- a slot that was never stored

  unset : EffectTyped code c None (lifted c (panics c.world NotInitialised)) → Fit (lifted c (panics c.world NotInitialised))
  unset h = by (nat_le (cells (makes_error c.world (panic_message NotInitialised) None []).heap) most_cells) h
    where
      w-of : Bool → Came
      w-of b = if b then Threw (Error (next_error c.world)) (makes_error c.world (panic_message NotInitialised) None []) else PassesCells

      landing : tally_landing (command_at code p) (tally_at code p) ≡ tally_at code p
      landing = ap (λ y. tally_landing y (tally_at code p)) ec

      by : (b : Bool) → EffectTyped code c None (lifted c (w-of b)) → Fit (lifted c (w-of b))
      by true (nearly, keeps, later, error) =
          let d : Common = record c { world = makes_error c.world (panic_message NotInitialised) None [] } in (
            nearly,
            keeps,
            (λ q apart. later q),
            error,
            caught code f at.u at.is at.station (λ q inside. typed-in code t f.unit at.u at.is at.station at.stationed q inside) p at.here.0 c d (Error (next_error c.world)) nearly.heap.closed error (for-none f.role c d (later f.role)) at.here.1
                (subst (λ k. TallyIs code d f.role k) (sym landing) (tally-later code c d f.role (tally_at code p) (later f.role) fits.0.1)) (unit-later code f.role c d (later f.role) f.unit fits.0.2)
                l.stack l.stack f.control.traps (traps_at code at.u p) refl at.here.2,
          )
      by false h = tt

  -- ---- what is asked for

  abbrev Looks : Ask Standing → Type 0
  Looks ask = AskFits natives (codes fillers code) (code_invariant code) c depth f ask × AskComes natives (code_facts fillers code) c depth f ask

  abbrev go : Local → Standing
  go = standing (p + 1) f.control.traps

  each-slot : (ns : List ℕ) (us : List Value) → AreTyped at.u ns → ((vs : List Value) → AreHeld l.slots ns vs → Looks (asks go (Later op.Workers (us ++ vs) l))) → Looks (asks go (captures op.Workers l ns us))
  each-slot [] us h k = subst (λ vs. Looks (asks go (Later op.Workers vs l))) (append-nil us) (k [] tt)
  each-slot (n ∷ ns) us (h, hs) k =
      let (held, en) = slot-there code c l.slots at.u.slots n at.here.1.0 h in
      subst (λ o. Looks (asks go (captured_from l n o (λ v. captures op.Workers l ns (us ++ v ∷ []))))) (sym en) (by held en (λ v. each-slot ns (us ++ v ∷ []) hs))
    where
      by : (held : Option Value) → slice_get l.slots n ≡ Some held → ((v : Value) → ((vs : List Value) → AreHeld l.slots ns vs → Looks (asks go (Later op.Workers ((us ++ v ∷ []) ++ vs) l))) → Looks (asks go (captures op.Workers l ns (us ++ v ∷ [])))) →
          Looks (asks go (captured_from l n (Some held) (λ v. captures op.Workers l ns (us ++ v ∷ []))))
      by (Some v) en more = more v (λ vs held. subst (λ xs. Looks (asks go (Later op.Workers xs l))) (sym (assoc us (v ∷ []) vs)) (k (v ∷ vs) (en, held)))
      by None en more = (
        (λ effect is. subst Fit (sym is) (unset (panic-typed code c None NotInitialised refl good.nearly))),
        (λ never. never (lifted c (panics c.world NotInitialised)) refl),
      )

  unit-there : slice_get (map unit_facts code.units) f.unit ≡ Some (unit_facts at.u)
  unit-there = get-map unit_facts code.units f.unit ∙ ap (λ o. option_map unit_facts o) at.is

  slots-here : captured_slots (code_facts fillers code) f.unit ≡ slots-of ws
  slots-here = ap captured_by unit-there ∙ slots-are ws

  pub workers-done : Looks ((codes fillers code).look f.unit f.control)
  workers-done =
      subst (λ y. Looks (obeys (captured_slots (code_facts fillers code) f.unit) f.control y)) (sym ec)
      (subst (λ ns. Looks (asks go (captures op.Workers l ns []))) (sym slots-here)
      (each-slot (slots-of ws) [] (all-typed code at.u ws spawns-well) (λ vs held. (
        (λ effect does. subst Fit (sym (of-some (λ u. effect ≡ starts_workers c f.unit u.workers vs) (slice_get (map unit_facts code.units) f.unit) (unit_facts at.u) unit-there does)) (started vs (all-captured code c at.u l.slots at.here.1.0 ws vs spawns-well held))),
        (λ never. never (starts_workers c f.unit (facts-of ws) vs) (at-some (λ u. starts_workers c f.unit (facts-of ws) vs ≡ starts_workers c f.unit u.workers vs) (slice_get (map unit_facts code.units) f.unit) (unit_facts at.u) unit-there refl)),
      ))))
    where
      spawns-well : All (CapturesWell code at.u) ws
      spawns-well = t.fields.spawns f.unit at.u at.is

pub workers-are-started : (natives : Answers) → WorkersAreStarted natives
workers-are-started natives fillers code c t = (
  (λ depth f good fits ec. (workers-done code fillers natives t c depth good f fits (at-place code c f fits.0) ec).0),
  (λ depth f good fits ec. (workers-done code fillers natives t c depth good f fits (at-place code c f fits.0) ec).1),
)
