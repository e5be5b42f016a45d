-- What a frame asks for at a return: its value is in the unit's result, and where it is a worker the activation stays good.
use Rattle.std.proofs.Common.{◌≡◌, ◌≢◌, ◌<◌, ◌∙◌, ◌+◌, ℕ, List, [], ◌∷◌, ◌++◌, Option, Some, None, inl, inr, length, reverse, refl, sym, ap, subst}
use Rattle.std.specs.Prelude.{◌⊎◌, IsSomeAnd, IsTrue, is_some, slice_get, slice_set}
use Rattle.type_model.specs.declared.basic.SemType.{SemType}
use Rattle.type_model.specs.Membership.{In}
use Rattle.operations.specs.declared.operation.Operation.TheVariants as op
use Rattle.operations.specs.Rows.{IsWithin, One}
use Rattle.value_model.specs.declared.filler.Filler.{Filler}
use Rattle.value_model.specs.declared.value.Value.{Value}
use Rattle.value_model.specs.Meaning.{Answers}
use Rattle.op_model.specs.Common.{Activation, Common, End, Returned, Need, Message, Received, AllEnded, AnyGiven, Role, Strand}
use Rattle.op_model.specs.Effects.{Effect, Leaves as LeavesWith}
use Rattle.op_model.specs.Local.{Local, takes, with_stack}
use Rattle.op_model.specs.Operands.{One as OneValue}
use Rattle.op_model.specs.Strands.{end_in, is_error, worker_ended}
use Rattle.machine_model.specs.Keeping.{AskFits, EffectFits}
use Rattle.machine_model.specs.Machine.{Ask, Frame, asks, captured_slots}
use Rattle.machine_model.specs.Runs.{Phase, Running}
use Rattle.stack_code.specs.declared.code.Code.{Code}
use Rattle.stack_code.specs.declared.code.Unit.{Unit as CodeUnit}
use Rattle.stack_code.specs.Activations.{FitsBehind, GoodActivation, GoodActivations, HasTally, WorkerEndFits}
use Rattle.stack_code.specs.CodeMachine.{Standing, code_facts, codes, obeys, standing}
use Rattle.stack_code.specs.Commands.{Do, command_at}
use Rattle.stack_code.specs.Flow.{DoesTyped}
use Rattle.stack_code.specs.Frames.{TopFits, end_in_call}
use Rattle.stack_code.specs.Good.{EndFits, GoodCommon, IsWorkerOf, NearlyCommon, NeedIsThere, RunsOne, StrandFits, code_invariant}
use Rattle.stack_code.specs.Messages.{HasAll, IsLast, Leaves, ReturnsWell, worker}
use Rattle.stack_code.specs.Places.{Tally, crew, stack_at}
use Rattle.stack_code.specs.Tables.{UnitAt}
use Rattle.stack_code.specs.Values.{AllFit, Fits, GoodHeap}
use Rattle.stack_code.specs.WellTyped.{WellTyped}
use Rattle.code_keeping.specs.Laws.{OnlyOf, ReturnsKeep, StandsAt}
use Rattle.code_keeping.proofs.Changing.{get-set-other, get-set-same, length-set, list-same, or-set-other, or-set-same, same-or-not, within}
use Rattle.code_keeping.proofs.Lists.{at-some, of-some}
use Rattle.code_keeping.proofs.Places.{IsAt, at-place, typed-by, typed-in}
use Rattle.code_keeping.proofs.Shapes.{an-error}
use Rattle.code_keeping.proofs.Staying.{same}
use Rattle.code_keeping.proofs.Taking.{take-operands}
use Rattle.code_keeping.proofs.Talking.{IsTalking, all-good, changed, later-but, of-worker, talking, was}

-- ---- all that is shared, where an activation changes that has as many workers

module _ (code : Code) (c : Common) (a : ℕ) (x y : Activation) (ex : slice_get c.activations a ≡ Some x) (many : length y.ends ≡ length x.ends) where
  abbrev d : Common
  d = changed c a y

  heap-so : GoodHeap code c → GoodHeap code d
  heap-so h = record { mutable = h.mutable; immutable = h.immutable; members = h.members; functions = h.functions; valid = h.valid; closed = h.closed; short = h.short; apart = h.apart }

  worker-so : (b w : ℕ) → IsWorkerOf code c b w → IsWorkerOf code d b w
  worker-so b w h = by (same-or-not a b)
    where
      by : (a ≡ b) ⊎ (a ≢ b) → IsWorkerOf code d b w
      by (inr ne) = subst (λ o. IsSomeAnd o (λ z. w < length z.ends)) (sym (get-set-other c.activations a b y ne)) h
      by (inl e) =
          let l : w < length x.ends = of-some (λ z. w < length z.ends) (slice_get c.activations a) x ex (subst (λ k. IsSomeAnd (slice_get c.activations k) (λ z. w < length z.ends)) (sym e) h) in
          subst (λ k. IsSomeAnd (slice_get (slice_set c.activations a y) k) (λ z. w < length z.ends)) e
          (at-some (λ z. w < length z.ends) (slice_get (slice_set c.activations a y) a) y (get-set-same c.activations a y x ex) (subst (λ n. w < n) (sym many) l))

  need-so : (need : Need) → NeedIsThere code c need → NeedIsThere code d need
  need-so (Message b from to) (h, k) = (worker-so b from h, worker-so b to k)
  need-so (Received b from to count) (h, k) = (worker-so b from h, worker-so b to k)
  need-so (AllEnded ns) h = h
  need-so (AnyGiven ns) h = h

  strand-so : (n : ℕ) (s : Strand) → StrandFits code c n s → StrandFits code d n s
  strand-so n s h = record { end = end-so (end_in s.status) h.end; need = λ need e. need-so need (h.need need e); before = h.before; taken = h.taken }
    where
      end-so : (o : Option End) → EndFits code c n s.unit o → EndFits code d n s.unit o
      end-so o h = h

  pub nearly-so : (phase : Phase) → NearlyCommon code c phase → GoodActivations code d → NearlyCommon code d phase
  nearly-so phase h good =
      record {
        heap = heap-so h.heap;
        variables = h.variables;
        strands = λ n s e. strand-so n s (h.strands n s e);
        activations = good;
        to_run = h.to_run;
        ready = record { active = h.ready.active; once = h.ready.once; known = h.ready.known; running = running-so phase h.ready.running; there = h.ready.there };
        main = h.main;
      }
    where
      running-so : (phase : Phase) → RunsOne code c phase → RunsOne code d phase
      running-so phase h = h

-- ---- a worker ends with a value

module _ (code : Code) (c : Common) (f : Frame Standing) (r : Role) (s : StandsAt code c f r op.Return) (k : IsTalking code c f r op.Return) (heap : GoodHeap code c) (v : Value) (a : SemType) (last : IsLast (stack_at code f.control.place) a)
    (fit : Fits code c v a) (own : Fits code c v k.u.result) where
  abbrev x : Activation
  x = k.x

  abbrev y : Activation
  y = record { unit = x.unit; strands = x.strands; ends = slice_set x.ends r.worker (Some (Returned v)); channels = x.channels }

  abbrev z : Common
  z = changed c r.activation y

  many : length y.ends ≡ length x.ends
  many = length-set x.ends r.worker (Some (Returned v))

  own-place : r.worker < length x.ends
  own-place = subst (λ n. r.worker < n) (sym k.good.call.ends) (within (crew code x.unit) r.worker f.unit k.stationed.0)

  its-end : end_in_call y r.worker ≡ Some (Returned v)
  its-end = or-set-same x.ends r.worker (Some (Returned v)) None own-place

  other-end : (w : ℕ) → r.worker ≢ w → end_in_call y w ≡ end_in_call x w
  other-end w ne = or-set-other x.ends r.worker w (Some (Returned v)) None ne

  still-ended : (w : ℕ) → IsTrue (is_some (end_in_call x w)) → IsTrue (is_some (end_in_call y w))
  still-ended w h = by (same-or-not r.worker w)
    where
      by : (r.worker ≡ w) ⊎ (r.worker ≢ w) → IsTrue (is_some (end_in_call y w))
      by (inl e) = subst (λ n. IsTrue (is_some (end_in_call y n))) e (subst (λ o. IsTrue (is_some o)) (sym its-end) refl)
      by (inr ne) = subst (λ o. IsTrue (is_some o)) (sym (other-end w ne)) h

  -- its numbers are those of the place
  same-tally : (t : Tally) → HasTally y r.worker t → k.tally ≡ t
  same-tally t (ls, lr, hs, hr) =
      let sent : k.tally.sent ≡ t.sent = list-same k.tally.sent t.sent (k.many-sent ∙ sym (ls ∙ (many ∙ k.good.call.ends))) (λ w l. k.sent w l ∙ sym (hs w (subst (λ n. w < n) (k.many-sent ∙ sym (ls ∙ (many ∙ k.good.call.ends))) l))) in
      let received : k.tally.received ≡ t.received = list-same k.tally.received t.received (k.many-received ∙ sym (lr ∙ (many ∙ k.good.call.ends))) (λ w l. k.received w l ∙ sym (hr w (subst (λ n. w < n) (k.many-received ∙ sym (lr ∙ (many ∙ k.good.call.ends))) l))) in
      λ i. record { sent = sent i; received = received i }

  left-well : WorkerEndFits code z x.unit r.worker k.tally (Some (Returned v))
  left-well = (
    at-some (λ unit. UnitAt code unit (λ u. Fits code z v u.result)) (slice_get (crew code x.unit) r.worker) f.unit k.stationed.0 (at-some (λ u. Fits code z v u.result) (slice_get code.units f.unit) k.u k.is own),
    by ((s.typed.places f.control.place).talks.returns x.unit r.worker k.tally (of-worker code c f r op.Return s k) s.command k.counts),
  )
    where
      by : ReturnsWell code x.unit r.worker f.control.place k.tally → HasAll code (worker code x.unit r.worker) k.tally ⊎ (IsTrue (is_error v) × ((w q : ℕ) → Leaves code x.unit r.worker w q k.tally → FitsBehind code z v q))
      by (inl all) = inl all
      by (inr h) =
          let (errors, behind) = h a last in
          inr (an-error code s.typed c heap v a fit errors, (λ w q leaves t last-t. (fit.0, fit.1, (λ x valid stands. behind w q leaves t last-t x (valid, fit.2 x valid stands)))))

  good-still : GoodActivation code z r.activation y
  good-still =
      record {
        call = record { some = k.good.call.some; strands = k.good.call.strands; ends = many ∙ k.good.call.ends; senders = k.good.call.senders; channels = k.good.call.channels; workers = k.good.call.workers };
        queues = λ v w. (((k.good.queues v w).0.0, λ l. still-ended v ((k.good.queues v w).0.1 l)), record { sent = (k.good.queues v w).1.sent; fit = (k.good.queues v w).1.fit });
        ends = λ w t l h. by w t (subst (λ n. w < n) many l) h (same-or-not r.worker w);
      }
    where
      end-same : (w : ℕ) (t : Tally) (o : Option End) → WorkerEndFits code c x.unit w t o → WorkerEndFits code z x.unit w t o
      end-same w t o h = h

      by : (w : ℕ) (t : Tally) → w < length x.ends → HasTally y w t → (r.worker ≡ w) ⊎ (r.worker ≢ w) → WorkerEndFits code z x.unit w t (end_in_call y w)
      by w t l (ls, lr, hs, hr) (inr ne) = subst (λ o. WorkerEndFits code z x.unit w t o) (sym (other-end w ne)) (end-same w t (end_in_call x w) (k.good.ends w t l (ls ∙ many, lr ∙ many, hs, hr)))
      by w t l h (inl e) =
          subst (λ n. WorkerEndFits code z x.unit n t (end_in_call y n)) e (subst (λ o. WorkerEndFits code z x.unit r.worker t o) (sym its-end)
          (subst (λ t. WorkerEndFits code z x.unit r.worker t (Some (Returned v))) (same-tally t (subst (λ n. HasTally y n t) (sym e) h)) left-well))

  pub worker-returns : NearlyCommon code c Running → NearlyCommon code z Running × OnlyOf (Some r) c z
  worker-returns nearly = (
    nearly-so code c r.activation x y k.there many Running nearly (all-good code c r.activation x y k.there nearly.activations good-still),
    later-but code c r.activation x y k.there r.worker (refl, refl) (λ w ne. ((λ u. (refl, refl)), other-end w (λ e. ne (sym e)))),
  )

-- ---- a return

module _ (code : Code) (fillers : ℕ → List Filler) (natives : Answers) (t : WellTyped code) (c : Common) (depth : ℕ) (good : GoodCommon code c Running) (f : Frame Standing) (fits : TopFits code c f) (at : IsAt code c f)
    (ec : command_at code f.control.place ≡ Some (Do op.Return)) where
  abbrev p : ℕ
  p = f.control.place

  abbrev l : Local
  l = f.control.local

  abbrev typed : DoesTyped code at.u at.station p op.Return
  typed = typed-by code at.u at.station p (Do op.Return) ec (typed-in code t f.unit at.u at.is at.station at.stationed p at.here.0)

  abbrev Asks : Ask Standing → Type 0
  Asks ask = AskFits natives (codes fillers code) (code_invariant code) c depth f ask

  -- what a value leaves, in a frame with this role
  abbrev LeavesWell : Value → Option Role → Type 0
  LeavesWell v role = let d = worker_ended (Returned v) role c in NearlyCommon code d Running × OnlyOf role c d × UnitAt code f.unit (λ u. Fits code d v u.result)

  leaves : (v : Value) (a : SemType) → IsLast (stack_at code p) a → Fits code c v a → IsWithin code.atoms (λ x. In code.atoms x at.u.result) a → (role : Option Role) → f.role ≡ role → LeavesWell v role
  leaves v a last fit within None e =
      (good.nearly, (λ q apart. same q c), at-some (λ u. Fits code c v u.result) (slice_get code.units f.unit) at.u at.is (fit.0, fit.1, (λ x valid stands. within x (valid, fit.2 x valid stands))))
  leaves v a last fit within (Some r) e =
      let s : StandsAt code c f r op.Return = record { typed = t; role = e; fits = fits; command = ec; good = good.nearly.activations } in
      let k = talking code c f r op.Return s in
      by s k
    where
      own : (u : CodeUnit) → slice_get code.units f.unit ≡ Some u → Fits code c v u.result
      own u eu = (fit.0, fit.1, (λ x valid stands. subst (λ o. IsSomeAnd o (λ u. In code.atoms x u.result)) eu (at-some (λ u. In code.atoms x u.result) (slice_get code.units f.unit) at.u at.is (within x (valid, fit.2 x valid stands)))))

      by : (s : StandsAt code c f r op.Return) (k : IsTalking code c f r op.Return) → LeavesWell v (Some r)
      by s k =
          let (nearly, later) = worker-returns code c f r s k good.nearly.heap v a last fit (own k.u k.is) good.nearly in
          subst (λ x. let d = changed c r.activation (record { unit = x.unit; strands = x.strands; ends = slice_set x.ends r.worker (Some (Returned v)); channels = x.channels }) in NearlyCommon code d Running × OnlyOf (Some r) c d × UnitAt code f.unit (λ u. Fits code d v u.result))
          (sym (was code c r.activation k.x k.x k.there))
          (nearly, later, at-some (λ u. Fits code c v u.result) (slice_get code.units f.unit) k.u k.is (own k.u k.is))

  returned : (args below : List Value) → (os : List SemType) → typed.operands ≡ os → One os (λ v. IsWithin code.atoms (λ x. In code.atoms x at.u.result) v) → AllFit code c args os → (effect : Effect) → OneValue args (λ v. effect ≡ LeavesWith v) →
      EffectFits natives (codes fillers code) (code_invariant code) c depth f (standing (p + 1) f.control.traps (with_stack l below)) effect
  returned (v ∷ []) below (a ∷ []) is within (fit, end) effect e =
      subst (λ x. EffectFits natives (codes fillers code) (code_invariant code) c depth f (standing (p + 1) f.control.traps (with_stack l below)) x) (sym e)
      (leaves v a (typed.rest, typed.stack ∙ ap (λ os. typed.rest ++ os) is) fit within f.role refl)
  returned (v ∷ w ∷ args) below (a ∷ []) is within fit effect e = absurd e
  returned [] below (a ∷ []) is within fit effect e = absurd e
  returned args below [] is within fit effect e = absurd within
  returned args below (a ∷ b ∷ os) is within fit effect e = absurd within

  pub asks-return : Asks ((codes fillers code).look f.unit f.control)
  asks-return =
      let captured = captured_slots (code_facts fillers code) f.unit in
      let taken = take-operands (Fits code c) op.Return l typed.rest typed.operands (subst (λ ts. AllFit code c (reverse l.stack) ts) typed.stack fits.1) in
      subst (λ x. Asks (obeys captured f.control x)) (sym ec)
      (subst (λ a. Asks (asks (standing (p + 1) f.control.traps) a)) (sym (ap (λ n. takes op.Return l n) (sym (single typed.operands typed.typed.0)) ∙ taken.is))
      (λ effect does. returned taken.args taken.below typed.operands refl typed.typed.0 taken.fit effect does))
    where
      single : (os : List SemType) → One os (λ v. IsWithin code.atoms (λ x. In code.atoms x at.u.result) v) → length os ≡ 1
      single (a ∷ []) h = refl
      single [] h = absurd h
      single (a ∷ b ∷ os) h = absurd h

pub returns-keep : (natives : Answers) → ReturnsKeep natives
returns-keep natives fillers code c t depth f good fits ec = asks-return code fillers natives t c depth good f fits (at-place code c f fits.0) ec
