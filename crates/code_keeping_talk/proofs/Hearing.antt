-- What a frame asks for with a receive, a flush and the second half of a synchronous send.
use Rattle.std.proofs.Common.{◌≡◌, ◌≢◌, ◌≤◌, ◌<◌, ◌+◌, ◌∙◌, ℕ, true, false, List, [], ◌∷◌, ◌++◌, Option, Some, None, inl, inr, length, reverse, refl, sym, ap, subst, arith}
use Rattle.std.proofs.lemmas.Bool.Decides.{leb_tells}
use Rattle.std.proofs.lemmas.List.{append-nil, length-map, reverse-append}
use Rattle.std.specs.Prelude.{◌⊎◌, ◌||◌, ◌↔◌, All, IsSome, IsSomeAnd, if◌then◌else◌, is_some, nat_le, option_to_list, slice_get}
use Rattle.type_model.specs.declared.basic.SemType.{SemType}
use Rattle.operations.specs.declared.operation.Constant.TheVariants.{Nil as NilConstant}
use Rattle.operations.specs.declared.operation.Operation.{Operation}
use Rattle.operations.specs.declared.operation.Operation.TheVariants as op
use Rattle.operations.specs.Kinds.{IsNil}
use Rattle.operations.specs.Rows.{AreBelow, NoOperand, ResultHas, Surroundings}
use Rattle.operations.specs.Talk.{Flushes, talk_of}
use Rattle.operations.specs.Typing.{OpTyped}
use Rattle.value_model.specs.declared.filler.Filler.{Filler}
use Rattle.value_model.specs.declared.value.Value.{Value}
use Rattle.value_model.specs.declared.value.Value.TheVariants.{Nil}
use Rattle.value_model.specs.Meaning.{Answers}
use Rattle.op_model.specs.Common.{Activation, Caller, Channel, Common, End, Message, Panicked, Received, Returned, Role}
use Rattle.op_model.specs.Effects.{Effect, Fails, Gives}
use Rattle.op_model.specs.Local.{Later, Local, acts, with_stack}
use Rattle.op_model.specs.Messages.{flushes, receives, receives_end, receives_from, flushes_end}
use Rattle.op_model.specs.Operands.{NoOperand as PerformsNone}
use Rattle.op_model.specs.Performs.{AsWorker, Performs}
use Rattle.op_model.specs.Strands.{activation_at, channel_at, is_there, settled, woken, worker_end}
use Rattle.machine_model.specs.Following.{EndsFrame}
use Rattle.machine_model.specs.Keeping.{AskFits, EffectFits, KeepsStrands}
use Rattle.machine_model.specs.Machine.{Ask, Frame, asks, captured_slots, goes_to}
use Rattle.machine_model.specs.Runs.{Running}
use Rattle.stack_code.specs.declared.code.Code.{Code}
use Rattle.stack_code.specs.Activations.{FitsBehind}
use Rattle.stack_code.specs.CodeMachine.{Standing, code_facts, codes, obeys, standing}
use Rattle.stack_code.specs.Commands.{Do, command_at}
use Rattle.stack_code.specs.Flow.{DoesTyped, tally_behind, tally_landing, tally_then, tally_thrown}
use Rattle.stack_code.specs.Frames.{IsOfItsUnit, TallyIs, TopFits, end_in_call}
use Rattle.stack_code.specs.Good.{GoodCommon, IsLater, IsWorkerOf, NearlyCommon, code_invariant}
use Rattle.stack_code.specs.Messages.{peers_in}
use Rattle.stack_code.specs.Places.{IsIn, IsStation, Tally, crew, stack_at, surroundings, tally_at, traps_at}
use Rattle.stack_code.specs.Values.{AllFit, Fits, IsMadeError}
use Rattle.stack_code.specs.WellTyped.{WellTyped}
use Rattle.code_keeping.specs.Laws.{AskComes, OnlyOf, StandsAt, TalkedWell}
use Rattle.code_keeping.proofs.Calling.{ends-with}
use Rattle.code_keeping.proofs.Changing.{get-set-same}
use Rattle.code_keeping.proofs.Doing.{fits-behind, well-behind}
use Rattle.code_keeping.proofs.Flushing.{flushes-keep}
use Rattle.code_keeping.proofs.Growing.{one-given}
use Rattle.code_keeping.proofs.Itself.{its-shape}
use Rattle.code_keeping.proofs.Landing.{caught}
use Rattle.code_keeping.proofs.Lists.{at-some, zip-both}
use Rattle.code_keeping.proofs.Places.{IsAt, typed-by, typed-in}
use Rattle.code_keeping.proofs.Receiving.{ends-keep, messages-keep}
use Rattle.code_keeping.proofs.Returning.{nearly-so}
use Rattle.code_keeping.proofs.Settling.{settling-keeps}
use Rattle.code_keeping.proofs.Staying.{above, all-later, fits-later, same, tally-later, unit-later}
use Rattle.code_keeping.proofs.Talking.{IsTalking, changed, now-is, peer-number, own-number, talking, was}
use Rattle.code_keeping_talk.proofs.Blocking.{blocking-keeps}
use Rattle.code_keeping_talk.proofs.Following.{later-follows}

-- ---- a frame at an operation that hears from a worker, or waits until one has heard

module _ (code : Code) (fillers : ℕ → List Filler) (natives : Answers) (t : WellTyped code) (c : Common) (depth : ℕ) (good : GoodCommon code c Running) (f : Frame Standing) (fits : TopFits code c f) (at : IsAt code c f)
    (o : Operation) (ec : command_at code f.control.place ≡ Some (Do o)) (goes : ¬ (EndsFrame o)) where
  abbrev p : ℕ
  p = f.control.place

  abbrev l : Local
  l = f.control.local

  abbrev typed : DoesTyped code at.u at.station p o
  typed = typed-by code at.u at.station p (Do o) ec (typed-in code t f.unit at.u at.is at.station at.stationed p at.here.0)

  abbrev Effects : Effect → Type 0
  Effects effect = EffectFits natives (codes fillers code) (code_invariant code) c depth f (standing (p + 1) f.control.traps l) effect

  -- it is a worker, since it names another one
  pub its-role : (w : ℕ) → peers_in (talk_of o) ≡ w ∷ [] → (r : Role) × (f.role ≡ Some r)
  its-role w e = by f.role refl (tally_at code p) fits.0.1 some
    where
      some : tally_at code p ≢ None
      some =
          let named = ((t.places p).talks.workers at.station.function at.station.worker o (f.unit, at.stationed, at-some (λ u. IsIn u p) (slice_get code.units f.unit) at.u at.is at.here.0) ec).0 in
          (subst (λ ws. All (λ w. (w < length (crew code at.station.function)) × (w ≢ at.station.worker) × (tally_at code p ≢ None)) ws) e named 0 w (omega arith)).2

      by : (q : Option Role) → f.role ≡ q → (tally : Option Tally) → TallyIs code c f.role tally → tally ≢ None → (r : Role) × (f.role ≡ Some r)
      by (Some r) e tally h ne = (r, e)
      by None e None h ne = absurd (ne refl)
      by None e (Some tally) h ne = absurd (subst (λ q. TallyIs code c q (Some tally)) e h)

  module _ (r : Role) (er : f.role ≡ Some r) (none : typed.operands ≡ []) (same-then : (n : ℕ) → tally_then n (talk_of o) (tally_at code p) ≡ tally_then 0 (talk_of o) (tally_at code p)) (same-thrown : tally_thrown (talk_of o) (tally_at code p) ≡ tally_then 0 (talk_of o) (tally_at code p)) where
    abbrev s : StandsAt code c f r o
    s = record { typed = t; role = er; fits = fits; command = ec; good = good.nearly.activations }

    k : IsTalking code c f r o
    k = talking code c f r o s

    all-stay : AllFit code c (reverse l.stack) typed.rest
    all-stay = subst (λ ts. AllFit code c (reverse l.stack) ts) (typed.stack ∙ (ap (λ os. typed.rest ++ os) none ∙ append-nil typed.rest)) fits.1

    -- ---- what is given

    module _ (d : Common) (later : IsLater None c d) (numbers : TallyIs code d f.role (tally_then 0 (talk_of o) (tally_at code p))) (own : IsOfItsUnit code d f.unit f.role) where
      behind-numbers : TallyIs code d f.role (tally_behind (length (crew code at.station.function)) o (tally_at code p))
      behind-numbers = subst (λ x. TallyIs code d f.role x) (sym (same-then (length (crew code at.station.function)))) numbers

      given : (vs : List Value) → AllFit code d vs (option_to_list typed.result) → TopFits code d (goes_to f (standing (p + 1) f.control.traps (with_stack l (vs ++ l.stack))))
      given vs fit = fits-behind code f at.u at.is at.station o ec typed goes c d later [] l.stack vs refl all-stay fit fits.0 behind-numbers own

      -- where it fits what stands behind
      heard : (v : Value) (result : SemType) → typed.result ≡ Some result → FitsBehind code d v p → TopFits code d (goes_to f (standing (p + 1) f.control.traps (with_stack l (v ∷ l.stack))))
      heard v result is fit =
          let next = typed.next goes in
          let e = ends-with (λ s t. (x : _) → _ → _) typed.rest result (stack_at code (p + 1)) (subst (λ r. AreBelow code.atoms (typed.rest ++ option_to_list r) (stack_at code (p + 1))) is next.1) in (
            well-behind code f at.u at.is at.station o ec typed goes c d later [] l.stack (v ∷ []) refl all-stay fits.0 (subst (λ x. TallyIs code d f.role x) (sym next.2) behind-numbers) own,
            subst (λ ts. AllFit code d (reverse (v ∷ l.stack)) ts) (sym e.is)
                (subst (λ xs. AllFit code d xs (e.front ++ e.last ∷ [])) (sym (reverse-append (v ∷ []) l.stack))
                (zip-both (Fits code d) (reverse l.stack) (v ∷ []) e.front (e.last ∷ []) (above code d (reverse l.stack) typed.rest e.front (all-later code None c d later (reverse l.stack) typed.rest all-stay) e.below) (fit e.last (e.front, e.is), tt))),
          )

    -- ---- a panic

    thrown : (d : Common) (e : Value) → NearlyCommon code d Running → KeepsStrands c d → OnlyOf f.role c d → TallyIs code d f.role (tally_then 0 (talk_of o) (tally_at code p)) → IsOfItsUnit code d f.unit f.role → IsMadeError code d e → Effects (Fails e d)
    thrown d e nearly keeps others numbers own error = (
      nearly,
      keeps,
      others,
      error,
      caught code f at.u at.is at.station (λ q inside. typed-in code t f.unit at.u at.is at.station at.stationed q inside) p at.here.0 c d e nearly.heap.closed error (others None tt) at.here.1
          (subst (λ x. TallyIs code d f.role x) (sym (ap (λ x. tally_landing x (tally_at code p)) ec ∙ same-thrown)) numbers) own
          l.stack l.stack f.control.traps (traps_at code at.u p) refl at.here.2,
    )

    -- ---- where a channel of the activation has changed

    abbrev a : ℕ
    a = r.activation

    abbrev x : Activation
    x = activation_at c a

    x-is : x ≡ k.x
    x-is = was code c a k.x k.x k.there

    x-there : slice_get c.activations a ≡ Some x
    x-there = k.there ∙ ap (λ z. Some z) (sym x-is)

    module _ (channels : List (List Channel)) where
      abbrev y : Activation
      y = record { unit = x.unit; strands = x.strands; ends = x.ends; channels = channels }

      abbrev d : Common
      d = changed c a y

      own-so : IsOfItsUnit code d f.unit f.role
      own-so = subst (λ q. IsOfItsUnit code d f.unit q) (sym er) (
        at-some (λ z. IsStation code f.unit (record { function = z.unit; worker = r.worker })) (slice_get d.activations a) y (get-set-same c.activations a y x x-there)
            (subst (λ z. IsStation code f.unit (record { function = z.unit; worker = r.worker })) (sym x-is) k.stationed),
        subst (λ z. end_in_call z r.worker ≡ None) (sym (now-is code c a x y x-there)) (subst (λ z. end_in_call z r.worker ≡ None) (sym x-is) k.open-end),
      )

      module _ (talked : TalkedWell code c d f o) where
        nearly : NearlyCommon code d Running
        nearly = nearly-so code c a x y x-there refl Running good.nearly talked.good

        abbrev z : Common
        z = settled d

        settles : GoodCommon code z Running × ((q : Option Role) → IsLater q d z)
        settles = settling-keeps code d Running nearly

        -- what fits behind is given
        heard-so : (v : Value) (result : SemType) → typed.result ≡ Some result → FitsBehind code d v p → Effects (Gives (v ∷ []) z)
        heard-so v result is fit = (
          settles.0,
          (refl, length-map d.strands (woken d)),
          (λ q apart. later-follows q c d z (talked.others q apart) (settles.1 q)),
          heard z (later-follows None c d z (talked.others None tt) (settles.1 None)) (tally-later code d z f.role (tally_then 0 (talk_of o) (tally_at code p)) (settles.1 f.role) talked.numbers) (unit-later code f.role d z (settles.1 f.role) f.unit own-so) v result is
              (λ t last. fits-later code None d z (settles.1 None) v t (fit t last)),
        )

        thrown-so : (e : Value) → IsMadeError code d e → Effects (Fails e d)
        thrown-so e error = thrown d e nearly (refl, refl) talked.others talked.numbers own-so error

    -- a worker of the activation
    its-worker : (w : ℕ) → w < length (crew code k.x.unit) → IsWorkerOf code c a w
    its-worker w l = at-some (λ z. w < length z.ends) (slice_get c.activations a) k.x k.there (subst (λ n. w < n) (sym k.good.call.ends) l)

    own-worker : IsWorkerOf code c a r.worker
    own-worker = its-worker r.worker (own-number code c f r o s k)

    peer : (w : ℕ) → peers_in (talk_of o) ≡ w ∷ [] → IsWorkerOf code c a w
    peer w e = its-worker w (peer-number code c f r o s k w e)

-- ---- receives

some-result : (result : Option SemType) → IsSome result → (r : SemType) × (result ≡ Some r)
some-result (Some r) h = (r, refl)
some-result None h = absurd (let q : ⊥ = cc in q)

module _ (code : Code) (fillers : ℕ → List Filler) (natives : Answers) (t : WellTyped code) (c : Common) (depth : ℕ) (good : GoodCommon code c Running) (f : Frame Standing) (fits : TopFits code c f) (at : IsAt code c f)
    (w : ℕ) (ec : command_at code f.control.place ≡ Some (Do (op.Receive w))) where
  abbrev o : Operation
  o = op.Receive w

  abbrev row : DoesTyped code at.u at.station f.control.place o
  row = typed-by code at.u at.station f.control.place (Do o) ec (typed-in code t f.unit at.u at.is at.station at.stationed f.control.place at.here.0)

  module _ (r : Role) (er : f.role ≡ Some r) where
    abbrev Fit : Effect → Type 0
    Fit effect = EffectFits natives (codes fillers code) (code_invariant code) c depth f (standing (f.control.place + 1) f.control.traps f.control.local) effect

    abbrev its : StandsAt code c f r o
    its = record { typed = t; role = er; fits = fits; command = ec; good = good.nearly.activations }

    of-end : (end : Option End) → worker_end c r.activation w ≡ end → (channel_at c r.activation w r.worker).queue ≡ [] → Fit (receives_end c r w end)
    of-end (Some (Returned e)) ee eq =
        let (talked, behind) = ends-keep code c f r w (Returned e) its eq ee in
        let (result, is) = some-result row.result row.typed.1 in
        heard-so code fillers natives t c depth good f fits at o ec (λ z. z) r er row.typed.0 (λ n. refl) refl _ talked e result is behind
    of-end (Some (Panicked e)) ee eq =
        let (talked, error) = ends-keep code c f r w (Panicked e) its eq ee in
        thrown-so code fillers natives t c depth good f fits at o ec (λ z. z) r er row.typed.0 (λ n. refl) refl _ talked e error
    of-end None ee eq =
        blocking-keeps code c (Message r.activation w r.worker) good
        (peer code fillers natives t c depth good f fits at o ec (λ z. z) r er row.typed.0 (λ n. refl) refl w refl, own-worker code fillers natives t c depth good f fits at o ec (λ z. z) r er row.typed.0 (λ n. refl) refl)
        (ap (λ q. is_there q || is_some (worker_end c r.activation w)) eq ∙ ap (λ e. is_some e) ee)

    of-queue : (queue : List Value) → (channel_at c r.activation w r.worker).queue ≡ queue → Fit (receives_from c r w queue)
    of-queue (v ∷ queue) eq =
        let (talked, behind) = messages-keep code c f r w v queue its eq in
        let (result, is) = some-result row.result row.typed.1 in
        heard-so code fillers natives t c depth good f fits at o ec (λ z. z) r er row.typed.0 (λ n. refl) refl _ talked v result is behind
    of-queue [] eq = of-end (worker_end c r.activation w) refl eq

    received : Fit (receives c r w)
    received = of-queue (channel_at c r.activation w r.worker).queue refl

  abbrev Looks : Ask Standing → Type 0
  Looks ask = AskFits natives (codes fillers code) (code_invariant code) c depth f ask × AskComes natives (code_facts fillers code) c depth f ask

  pub receive-done : Looks ((codes fillers code).look f.unit f.control)
  receive-done =
      let (r, er) = its-role code fillers natives t c depth good f fits at o ec (λ z. z) w refl in
      subst (λ x. Looks (obeys (captured_slots (code_facts fillers code) f.unit) f.control x)) (sym ec) (
        (λ effect is. subst (λ e. EffectFits natives (codes fillers code) (code_invariant code) c depth f (standing (f.control.place + 1) f.control.traps f.control.local) e) (sym (subst (λ q. IsSomeAnd q (λ r. effect ≡ receives c r w)) er is)) (received r er)),
        (λ never. never (receives c r w) (subst (λ q. IsSomeAnd q (λ z. receives c r w ≡ receives c z w)) (sym er) refl)),
      )

-- ---- flushes: of a send, and of the first half of a synchronous one

flushes-so : (c : Common) (r : Role) (w : ℕ) (P : Effect → Type 0) → (let x = channel_at c r.activation r.worker w in x.sent ≤ x.received → P (Gives (Nil ∷ []) c)) → (let x = channel_at c r.activation r.worker w in nat_le x.sent x.received ≡ false → x.received < x.sent → P (flushes_end c r w x.sent (worker_end c r.activation w))) → P (flushes c r w)
flushes-so c r w P all open-messages = by (leb_tells (channel_at c r.activation r.worker w).sent (channel_at c r.activation r.worker w).received)
  where
    by : ((nat_le (channel_at c r.activation r.worker w).sent (channel_at c r.activation r.worker w).received ≡ true) × ((channel_at c r.activation r.worker w).sent ≤ (channel_at c r.activation r.worker w).received))
        ⊎ ((nat_le (channel_at c r.activation r.worker w).sent (channel_at c r.activation r.worker w).received ≡ false) × ((channel_at c r.activation r.worker w).received < (channel_at c r.activation r.worker w).sent)) → P (flushes c r w)
    by (inl (e, le)) = subst (λ b. P (if b then Gives (Nil ∷ []) c else flushes_end c r w (channel_at c r.activation r.worker w).sent (worker_end c r.activation w))) (sym e) (all le)
    by (inr (e, lt)) = subst (λ b. P (if b then Gives (Nil ∷ []) c else flushes_end c r w (channel_at c r.activation r.worker w).sent (worker_end c r.activation w))) (sym e) (open-messages e lt)

module _ (code : Code) (fillers : ℕ → List Filler) (natives : Answers) (t : WellTyped code) (c : Common) (depth : ℕ) (good : GoodCommon code c Running) (f : Frame Standing) (fits : TopFits code c f) (at : IsAt code c f)
    (w : ℕ) (o : Operation) (which : (o ≡ op.Flush w) ⊎ (o ≡ op.Done w)) (ec : command_at code f.control.place ≡ Some (Do o)) where
  -- what both have in common
  pub record IsFlush : Type 0 where
    pub goes : ¬ (EndsFrame o)
    pub talk : talk_of o ≡ Flushes w
    pub row : (place : Surroundings) (operands : List SemType) (result : Option SemType) → OpTyped code.atoms place o operands result → NoOperand operands × ResultHas code.atoms result IsNil
    pub begins : (captured : List ℕ) (l : Local) → acts captured o l ≡ Later o [] l
    pub performs : (vs : List Value) (caller : Caller) (effect : Effect) → Performs (code_facts fillers code) natives o vs caller c effect ↔ PerformsNone vs (AsWorker caller (λ r. effect ≡ flushes c r w))

  is-flush : IsFlush
  is-flush = by which
    where
      by : (o ≡ op.Flush w) ⊎ (o ≡ op.Done w) → IsFlush
      by (inl e) = record {
        goes = λ h. subst EndsFrame e h;
        talk = ap talk_of e;
        row = λ place os res h. subst (λ z. OpTyped code.atoms place z os res) e h;
        begins = λ captured l. ap (λ z. acts captured z l) e ∙ ap (λ z. Later z [] l) (sym e);
        performs = λ vs caller effect. ((λ h. subst (λ z. Performs (code_facts fillers code) natives z vs caller c effect) e h), (λ h. subst (λ z. Performs (code_facts fillers code) natives z vs caller c effect) (sym e) h));
      }
      by (inr e) = record {
        goes = λ h. subst EndsFrame e h;
        talk = ap talk_of e;
        row = λ place os res h. subst (λ z. OpTyped code.atoms place z os res) e h;
        begins = λ captured l. ap (λ z. acts captured z l) e ∙ ap (λ z. Later z [] l) (sym e);
        performs = λ vs caller effect. ((λ h. subst (λ z. Performs (code_facts fillers code) natives z vs caller c effect) e h), (λ h. subst (λ z. Performs (code_facts fillers code) natives z vs caller c effect) (sym e) h));
      }

  abbrev it : IsFlush
  it = is-flush

  abbrev typed-row : DoesTyped code at.u at.station f.control.place o
  typed-row = typed-by code at.u at.station f.control.place (Do o) ec (typed-in code t f.unit at.u at.is at.station at.stationed f.control.place at.here.0)

  takes-none : typed-row.operands ≡ []
  takes-none = (it.row (surroundings code at.u at.station) typed-row.operands typed-row.result typed-row.typed).0

  gives-nil : ResultHas code.atoms typed-row.result IsNil
  gives-nil = (it.row (surroundings code at.u at.station) typed-row.operands typed-row.result typed-row.typed).1

  result-some : (result : Option SemType) → ResultHas code.atoms result IsNil → (s : SemType) × (result ≡ Some s)
  result-some (Some s) h = (s, refl)
  result-some None h = absurd h

  then-same : (n : ℕ) → tally_then n (talk_of o) (tally_at code f.control.place) ≡ tally_then 0 (talk_of o) (tally_at code f.control.place)
  then-same n = ap (λ k. tally_then n k (tally_at code f.control.place)) it.talk ∙ sym (ap (λ k. tally_then 0 k (tally_at code f.control.place)) it.talk)

  thrown-same : tally_thrown (talk_of o) (tally_at code f.control.place) ≡ tally_then 0 (talk_of o) (tally_at code f.control.place)
  thrown-same = ap (λ k. tally_thrown k (tally_at code f.control.place)) it.talk ∙ sym (ap (λ k. tally_then 0 k (tally_at code f.control.place)) it.talk)

  numbers-same : TallyIs code c f.role (tally_then 0 (talk_of o) (tally_at code f.control.place))
  numbers-same = subst (λ x. TallyIs code c f.role x) (sym (ap (λ k. tally_then 0 k (tally_at code f.control.place)) it.talk)) fits.0.1

  module _ (r : Role) (er : f.role ≡ Some r) where
    abbrev FlushFits : Effect → Type 0
    FlushFits effect = EffectFits natives (codes fillers code) (code_invariant code) c depth f (standing (f.control.place + 1) f.control.traps f.control.local) effect

    abbrev stands : StandsAt code c f r o
    stands = record { typed = t; role = er; fits = fits; command = ec; good = good.nearly.activations }

    nil-fits : FlushFits (Gives (Nil ∷ []) c)
    nil-fits = (
      good,
      (refl, refl),
      (λ q apart. same q c),
      given code fillers natives t c depth good f fits at o ec it.goes r er takes-none then-same thrown-same c (same None c) numbers-same fits.0.2 (Nil ∷ [])
          (one-given code c typed-row.result IsNil Nil gives-nil good.nearly.heap.closed (tt, tt, tt) (λ x valid s. its-shape code c NilConstant x s)),
    )

    end-fits : (end : Option End) → worker_end c r.activation w ≡ end → (let x = channel_at c r.activation r.worker w in nat_le x.sent x.received ≡ false → x.received < x.sent → FlushFits (flushes_end c r w x.sent end))
    end-fits (Some (Returned e)) ee closed lt =
        let (s, is) = result-some typed-row.result gives-nil in (
          good,
          (refl, refl),
          (λ q apart. same q c),
          heard code fillers natives t c depth good f fits at o ec it.goes r er takes-none then-same thrown-same c (same None c) numbers-same fits.0.2 e s is (flushes-keep code c f r o w (Returned e) stands which lt ee),
        )
    end-fits (Some (Panicked e)) ee closed lt =
        thrown code fillers natives t c depth good f fits at o ec it.goes r er takes-none then-same thrown-same c e good.nearly (refl, refl) (λ q apart. same q c) numbers-same fits.0.2 (flushes-keep code c f r o w (Panicked e) stands which lt ee)
    end-fits None ee closed lt =
        blocking-keeps code c (Received r.activation r.worker w (channel_at c r.activation r.worker w).sent) good
        (own-worker code fillers natives t c depth good f fits at o ec it.goes r er takes-none then-same thrown-same, peer code fillers natives t c depth good f fits at o ec it.goes r er takes-none then-same thrown-same w (ap peers_in it.talk))
        (ap (λ b. b || is_some (worker_end c r.activation w)) closed ∙ ap (λ e. is_some e) ee)

    flushed : FlushFits (flushes c r w)
    flushed = flushes-so c r w FlushFits (λ le. nil-fits) (λ closed lt. end-fits (worker_end c r.activation w) refl closed lt)

  abbrev FlushLooks : Ask Standing → Type 0
  FlushLooks ask = AskFits natives (codes fillers code) (code_invariant code) c depth f ask × AskComes natives (code_facts fillers code) c depth f ask

  pub flush-done : FlushLooks ((codes fillers code).look f.unit f.control)
  flush-done =
      let (r, er) = its-role code fillers natives t c depth good f fits at o ec it.goes w (ap peers_in it.talk) in
      let caller : Caller = record { unit = f.unit; role = f.role; depth = depth } in
      subst (λ x. FlushLooks (obeys (captured_slots (code_facts fillers code) f.unit) f.control x)) (sym ec)
      (subst (λ a. FlushLooks (asks (standing (f.control.place + 1) f.control.traps) a)) (sym (it.begins (captured_slots (code_facts fillers code) f.unit) f.control.local)) (
        (λ effect does. subst (λ e. EffectFits natives (codes fillers code) (code_invariant code) c depth f (standing (f.control.place + 1) f.control.traps f.control.local) e)
            (sym (subst (λ q. IsSomeAnd q (λ z. effect ≡ flushes c z w)) er ((it.performs [] caller effect).0 does))) (flushed r er)),
        (λ never. never (flushes c r w) ((it.performs [] caller (flushes c r w)).1 (subst (λ q. IsSomeAnd q (λ z. flushes c r w ≡ flushes c z w)) (sym er) refl))),
      ))
