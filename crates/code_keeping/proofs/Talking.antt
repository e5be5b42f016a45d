-- Activations in which a message was sent or received, where a frame stood at such an operation.
use Rattle.std.proofs.Common.{◌≡◌, ◌≢◌, ◌<◌, ◌∙◌, ℕ, true, false, [], ◌∷◌, Option, Some, None, inl, inr, length, refl, sym, ap, subst, arith}
use Rattle.std.specs.Prelude.{◌⊎◌, All, IsSomeAnd, IsTrue, get_or, if◌then◌else◌, slice_get, slice_set}
use Rattle.operations.specs.declared.operation.Operation.{Operation}
use Rattle.operations.specs.Talk.{talk_of}
use Rattle.op_model.specs.Common.{Activation, Channel, Common, End, Role}
use Rattle.op_model.specs.Strands.{activation_at, no_activation, with_activation}
use Rattle.machine_model.specs.Keeping.{AreApart}
use Rattle.machine_model.specs.Machine.{Frame}
use Rattle.machine_model.proofs.Once.{some-same}
use Rattle.stack_code.specs.declared.code.Code.{Code}
use Rattle.stack_code.specs.declared.code.Unit.{Unit as CodeUnit}
use Rattle.stack_code.specs.declared.code.StackMap.{StackMap}
use Rattle.stack_code.specs.CodeMachine.{Standing}
use Rattle.stack_code.specs.Activations.{GoodActivation, GoodActivations, HasQueue, HasTally, QueueFits, WorkerEndFits}
use Rattle.stack_code.specs.Frames.{HasReceived, HasSent, IsOfItsUnit, StandsIn, TallyIs, channel_in, end_in_call}
use Rattle.stack_code.specs.Good.{IsSameCall, IsSameWorker, WorkerStays}
use Rattle.stack_code.specs.Messages.{IsOf, peers_in, worker}
use Rattle.stack_code.specs.Places.{IsIn, IsStation, Tally, crew, map_at, tally_at, tally_of}
use Rattle.code_keeping.specs.Laws.{OnlyOf, StandsAt}
use Rattle.code_keeping.proofs.Changing.{all-or, all-set, channel-cases, get-set-other, get-set-same, length-set, or-set-other, or-there, same-or-not, with_channel_in, within}
use Rattle.code_keeping.proofs.Lists.{at-some, some-there}
use Rattle.code_keeping.proofs.Staying.{later-so, same-strands}

-- ---- an activation is changed

abbrev pub changed : Common → ℕ → Activation → Common
changed c a y = with_activation c a y

module _ (code : Code) (c : Common) (a : ℕ) (x y : Activation) (ex : slice_get c.activations a ≡ Some x) where
  pub now-is : activation_at (changed c a y) a ≡ y
  now-is = or-there (slice_set c.activations a y) a y no_activation (get-set-same c.activations a y x ex)

  pub was : activation_at c a ≡ x
  was = or-there c.activations a x no_activation ex

  elsewhere : (b : ℕ) (z : Activation) → GoodActivation code c b z → GoodActivation code (changed c a y) b z
  elsewhere b z g =
      record {
        call = record { some = g.call.some; strands = g.call.strands; ends = g.call.ends; senders = g.call.senders; channels = g.call.channels; workers = g.call.workers };
        queues = λ v w. ((g.queues v w).0, record { sent = (g.queues v w).1.sent; fit = (g.queues v w).1.fit });
        ends = λ v t l h. end-same z.unit v t (end_in_call z v) (g.ends v t l h);
      }
    where
      end-same : (f v : ℕ) (t : Tally) (o : Option End) → WorkerEndFits code c f v t o → WorkerEndFits code (changed c a y) f v t o
      end-same f v t o h = h

  -- all others stay good
  pub all-good : GoodActivations code c → GoodActivation code (changed c a y) a y → GoodActivations code (changed c a y)
  all-good good mine b z e = by (same-or-not a b)
    where
      by : (a ≡ b) ⊎ (a ≢ b) → GoodActivation code (changed c a y) b z
      by (inr ne) = elsewhere b z (good b z (sym (get-set-other c.activations a b y ne) ∙ e))
      by (inl is) =
          let e2 : slice_get (slice_set c.activations a y) a ≡ Some z = subst (λ k. slice_get (slice_set c.activations a y) k ≡ Some z) (sym is) e in
          subst (λ k. GoodActivation code (changed c a y) k z) is
          (subst (λ w. GoodActivation code (changed c a y) a w) (some-same y z (sym (get-set-same c.activations a y x ex) ∙ e2)) mine)

  -- what comes later, where the workers but one are as they were
  pub later-but : (worker : ℕ) → (y.unit ≡ x.unit) × (y.strands ≡ x.strands) → ((v : ℕ) → v ≢ worker → IsSameWorker v x y) → OnlyOf (Some (record { activation = a; worker = worker })) c (changed c a y)
  later-but worker call same q apart = later-so q c (changed c a y) refl (same-strands c) calls (stays q apart)
    where
      calls : (b : ℕ) (z : Activation) → slice_get c.activations b ≡ Some z → IsSomeAnd (slice_get (slice_set c.activations a y) b) (IsSameCall z)
      calls b z e = by (same-or-not a b)
        where
          by : (a ≡ b) ⊎ (a ≢ b) → IsSomeAnd (slice_get (slice_set c.activations a y) b) (IsSameCall z)
          by (inr ne) = at-some (IsSameCall z) (slice_get (slice_set c.activations a y) b) z (get-set-other c.activations a b y ne ∙ e) (refl, refl)
          by (inl is) =
              let xz : x ≡ z = some-same x z (sym ex ∙ subst (λ k. slice_get c.activations k ≡ Some z) (sym is) e) in
              at-some (IsSameCall z) (slice_get (slice_set c.activations a y) b) y (subst (λ k. slice_get (slice_set c.activations a y) k ≡ Some y) is (get-set-same c.activations a y x ex)) (subst (λ k. IsSameCall k y) xz call)

      stays : (q : Option Role) → AreApart q (Some (record { activation = a; worker = worker })) → WorkerStays q c (changed c a y)
      stays None apart = tt
      stays (Some r) apart = by (same-or-not a r.activation)
        where
          mine : a ≡ r.activation → IsSameWorker r.worker (activation_at c a) (activation_at (changed c a y) a)
          mine is = subst (λ k. IsSameWorker r.worker k (activation_at (changed c a y) a)) (sym was) (subst (λ k. IsSameWorker r.worker x k) (sym now-is)
              (same r.worker (λ e. apart (λ i. record { activation = sym is i; worker = e i }))))

          by : (a ≡ r.activation) ⊎ (a ≢ r.activation) → IsSameWorker r.worker (activation_at c r.activation) (activation_at (changed c a y) r.activation)
          by (inr ne) = subst (λ k. IsSameWorker r.worker (activation_at c r.activation) k) (sym (or-set-other c.activations a r.activation y no_activation ne)) ((λ w. (refl, refl)), refl)
          by (inl is) = subst (λ k. IsSameWorker r.worker (activation_at c k) (activation_at (changed c a y) k)) is (mine is)

-- ---- a worker's frame in well-typed code, at its operation

pub record IsTalking (code : Code) (c : Common) (f : Frame Standing) (r : Role) (o : Operation) : Type 0 where
  pub x : Activation
  pub there : slice_get c.activations r.activation ≡ Some x
  pub stationed : IsStation code f.unit (record { function = x.unit; worker = r.worker })
  pub open-end : end_in_call x r.worker ≡ None
  pub u : CodeUnit
  pub is : slice_get code.units f.unit ≡ Some u
  pub inside : IsIn u f.control.place
  pub tally : Tally
  pub counts : tally_at code f.control.place ≡ Some tally
  pub sent : HasSent x r.worker tally.sent
  pub received : HasReceived x r.worker tally.received
  pub many-sent : length tally.sent ≡ length (crew code x.unit)
  pub many-received : length tally.received ≡ length (crew code x.unit)
  pub good : GoodActivation code c r.activation x

pub sizes : (m : StackMap) (n : ℕ) (t : Tally) → tally_of m ≡ Some t → (IsTrue m.counted → (length m.sent ≡ n) × (length m.received ≡ n)) → (length t.sent ≡ n) × (length t.received ≡ n)
sizes m n t e h = by m.counted refl
  where
    by : (b : _) → m.counted ≡ b → (length t.sent ≡ n) × (length t.received ≡ n)
    by true eb =
        let k : Some (record { sent = m.sent; received = m.received }) ≡ Some t = sym (ap (λ b. if b then Some (record { sent = m.sent; received = m.received }) else None) eb) ∙ e in
        let same : record { sent = m.sent; received = m.received } ≡ t = some-same _ t k in
        subst (λ s. (length s.sent ≡ n) × (length s.received ≡ n)) same (h (subst IsTrue (sym eb) refl))
    by false eb = absurd (let k : None ≡ Some t = sym (ap (λ b. if b then Some (record { sent = m.sent; received = m.received }) else None) eb) ∙ e in let q : ⊥ = cc in q)

pub talking : (code : Code) (c : Common) (f : Frame Standing) (r : Role) (o : Operation) → StandsAt code c f r o → IsTalking code c f r o
talking code c f r o s =
    let ((unit, numbers, own), operands) = s.fits in
    let (u, is, here) = some-there (StandsIn code c f.control.place f.control.local.slots f.control.local.stack f.control.traps) (slice_get code.units f.unit) unit in
    let (own2, open-end) = subst (λ q. IsOfItsUnit code c f.unit q) s.role own in
    let (x, there, stationed) = some-there (λ x. IsStation code f.unit (record { function = x.unit; worker = r.worker })) (slice_get c.activations r.activation) own2 in
    let was-x : activation_at c r.activation ≡ x = or-there c.activations r.activation x no_activation there in
    by u is here.0 x there stationed was-x open-end (tally_at code f.control.place) refl (subst (λ q. TallyIs code c q (tally_at code f.control.place)) s.role numbers)
  where
    by : (u : CodeUnit) → slice_get code.units f.unit ≡ Some u → IsIn u f.control.place → (x : Activation) → slice_get c.activations r.activation ≡ Some x → IsStation code f.unit (record { function = x.unit; worker = r.worker }) → activation_at c r.activation ≡ x →
        end_in_call (activation_at c r.activation) r.worker ≡ None → (t : Option Tally) → tally_at code f.control.place ≡ t → TallyIs code c (Some r) t → IsTalking code c f r o
    by u is inside x there stationed was-x open-end None e h = absurd h
    by u is inside x there stationed was-x open-end (Some t) e (sent, received) =
        let (s1, r1) = sizes (map_at code f.control.place) (length (crew code x.unit)) t e (((s.typed.places f.control.place).uses f.unit u is inside).numbers (record { function = x.unit; worker = r.worker }) stationed) in
        record {
          x = x;
          there = there;
          stationed = stationed;
          open-end = subst (λ k. end_in_call k r.worker ≡ None) was-x open-end;
          u = u;
          is = is;
          inside = inside;
          tally = t;
          counts = e;
          sent = subst (λ k. HasSent k r.worker t.sent) was-x sent;
          received = subst (λ k. HasReceived k r.worker t.received) was-x received;
          many-sent = s1;
          many-received = r1;
          good = s.good r.activation x there;
        }

-- ---- what a channel that is set leaves

module _ (code : Code) (c : Common) (f : Frame Standing) (r : Role) (o : Operation) (s : StandsAt code c f r o) (k : IsTalking code c f r o) where
  abbrev a : ℕ
  a = r.activation

  abbrev x : Activation
  x = k.x

  abbrev workers : ℕ
  workers = length (crew code x.unit)

  pub own-number : r.worker < workers
  own-number = within (crew code x.unit) r.worker f.unit k.stationed.0

  pub of-worker : IsOf code (worker code x.unit r.worker) f.control.place
  of-worker = (f.unit, k.stationed, at-some (λ u. IsIn u f.control.place) (slice_get code.units f.unit) k.u k.is k.inside)

  pub peer-number : (w : ℕ) → peers_in (talk_of o) ≡ w ∷ [] → w < workers
  peer-number w e =
      let named = ((s.typed.places f.control.place).talks.workers x.unit r.worker o of-worker s.command).0 in
      (subst (λ ws. All (λ w. (w < workers) × (w ≢ r.worker) × (tally_at code f.control.place ≢ None)) ws) e named 0 w (omega arith)).0

  module _ (from to : ℕ) (lf : from < workers) (lt : to < workers) (ch : Channel) where
    abbrev y : Activation
    y = with_channel_in x from to ch

    abbrev d : Common
    d = changed c a y

    pub row : from < length x.channels
    row = subst (λ n. from < n) (sym k.good.call.senders) lf

    pub width : length (get_or x.channels from []) ≡ workers
    width = all-or (λ r. length r ≡ workers) x.channels from [] k.good.call.channels row

    pub column : to < length (get_or x.channels from [])
    column = subst (λ n. to < n) (sym width) lt

    pub cases : (P : ℕ → ℕ → Channel → Type 0) → P from to ch → ((v w : ℕ) → (from ≢ v) ⊎ (to ≢ w) → P v w (channel_in x v w)) → (v w : ℕ) → P v w (channel_in y v w)
    cases P here other v w = channel-cases x from to ch row P column here other v w

    -- the activation is good, where the channel is, and the numbers of other workers than this one stay
    pub good-so : HasQueue (end_in_call x from) ch → QueueFits code c x.unit from to ch → ((v : ℕ) (t : Tally) → v ≢ r.worker → HasTally y v t → HasTally x v t) → GoodActivation code d a y
    good-so queue fit others =
        record {
          call = record {
            some = k.good.call.some;
            strands = k.good.call.strands;
            ends = k.good.call.ends;
            senders = length-set x.channels from (slice_set (get_or x.channels from []) to ch) ∙ k.good.call.senders;
            channels = all-set (λ r. length r ≡ workers) x.channels from (slice_set (get_or x.channels from []) to ch) k.good.call.channels (length-set (get_or x.channels from []) to ch ∙ width);
            workers = k.good.call.workers;
          };
          queues = λ v w. cases (λ v w q. HasQueue (end_in_call x v) q × QueueFits code d x.unit v w q) (queue, record { sent = fit.sent; fit = fit.fit })
              (λ v w ne. ((k.good.queues v w).0, record { sent = (k.good.queues v w).1.sent; fit = (k.good.queues v w).1.fit })) v w;
          ends = λ v t l h. by v t l h (same-or-not v r.worker);
        }
      where
        by : (v : ℕ) (t : Tally) → v < length x.ends → HasTally y v t → (v ≡ r.worker) ⊎ (v ≢ r.worker) → WorkerEndFits code d x.unit v t (end_in_call x v)
        by v t l h (inl e) = subst (λ o. WorkerEndFits code d x.unit v t o) (sym (ap (λ n. end_in_call x n) e ∙ k.open-end)) tt
        by v t l h (inr ne) = k.good.ends v t l (others v t ne h)
