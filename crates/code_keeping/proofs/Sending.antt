-- What a send keeps.
use Rattle.std.proofs.Common.{◌≡◌, ◌≢◌, ◌≤◌, ◌<◌, ◌-◌, ◌+◌, ◌∙◌, ℕ, suc, List, [], ◌∷◌, ◌++◌, Option, Some, None, inl, inr, length, refl, sym, ap, subst, arith}
use Rattle.std.proofs.lemmas.List.{length-append}
use Rattle.std.specs.Prelude.{◌⊎◌, IsTrue, get_or, is_some, option_map, slice_get, ⊤}
use Rattle.type_model.specs.declared.basic.SemType.{SemType}
use Rattle.operations.specs.declared.operation.Operation.{Operation}
use Rattle.operations.specs.declared.operation.Operation.TheVariants as op
use Rattle.operations.specs.Rows.{One, Surroundings}
use Rattle.operations.specs.Talk.{Sends, talk_of}
use Rattle.operations.specs.Typing.{OpTyped}
use Rattle.value_model.specs.declared.value.Value.{Value}
use Rattle.op_model.specs.Common.{Activation, Channel, Common, End, Role}
use Rattle.op_model.specs.Messages.{one_sent}
use Rattle.op_model.specs.Strands.{channel_at, with_channel}
use Rattle.machine_model.specs.Machine.{Frame}
use Rattle.stack_code.specs.declared.code.Code.{Code}
use Rattle.stack_code.specs.CodeMachine.{Standing}
use Rattle.stack_code.specs.Commands.{Do, command_at}
use Rattle.stack_code.specs.Activations.{FitsBehind, HasQueue, HasTally, QueueFits}
use Rattle.stack_code.specs.Flow.{DoesTyped, one_more, sent_one, tally_then}
use Rattle.stack_code.specs.Frames.{HasReceived, HasSent, TallyIs, channel_in, end_in_call}
use Rattle.stack_code.specs.Messages.{IsLast, ReceivesAt, SendsAt, peers_in}
use Rattle.stack_code.specs.Places.{Station, Tally, crew, stack_at, surroundings, tally_at}
use Rattle.stack_code.specs.Values.{Fits}
use Rattle.code_keeping.specs.Laws.{OnlyOf, SendsKeep, StandsAt, TalkedWell}
use Rattle.code_keeping.proofs.Changing.{below-or-not, get-set-other, get-set-same, length-set, or-there, same-or-not, sent-fits, with_channel_in}
use Rattle.code_keeping.proofs.Lists.{at-some}
use Rattle.code_keeping.proofs.Places.{typed-by, typed-in}
use Rattle.code_keeping.proofs.Talking.{IsTalking, all-good, cases, changed, good-so, later-but, now-is, of-worker, own-number, peer-number, talking, was}

-- ---- numbers: one more was sent to w

sent-more : (x y : Activation) (worker w : ℕ) (ns : List ℕ) → (channel_in y worker w).sent ≡ (channel_in x worker w).sent + 1 → ((v : ℕ) → w ≢ v → (channel_in y worker v).sent ≡ (channel_in x worker v).sent) →
    w < length ns → HasSent x worker ns → HasSent y worker (one_more ns w)
sent-more x y worker w ns here other lw h v l = by (same-or-not w v)
  where
    in-ns : v < length ns
    in-ns = let e : length (one_more ns w) ≡ length ns = length-set ns w (suc (get_or ns w 0)) in omega (arith, e, l)

    by : (w ≡ v) ⊎ (w ≢ v) → slice_get (one_more ns w) v ≡ Some (channel_in y worker v).sent
    by (inr ne) = get-set-other ns w v (suc (get_or ns w 0)) ne ∙ (h v in-ns ∙ ap (λ n. Some n) (sym (other v ne)))
    by (inl e) =
        let count : get_or ns w 0 ≡ (channel_in x worker w).sent = or-there ns w (channel_in x worker w).sent 0 (h w lw) in
        let more : suc (get_or ns w 0) ≡ (channel_in y worker w).sent = omega (arith, count, here) in
        subst (λ k. slice_get (one_more ns w) k ≡ Some (channel_in y worker k).sent) e (get-set-same ns w (suc (get_or ns w 0)) _ (h w lw) ∙ ap (λ n. Some n) more)

module _ (code : Code) (c : Common) (f : Frame Standing) (r : Role) (o : Operation) (w : ℕ) (m : Value) (s : StandsAt code c f r o) (talk : talk_of o ≡ Sends w) (fits : (t : SemType) → IsLast (stack_at code f.control.place) t → Fits code c m t)
    (last : (t : SemType) × IsLast (stack_at code f.control.place) t) (k : IsTalking code c f r o) where
  abbrev p : ℕ
  p = f.control.place

  abbrev x : Activation
  x = k.x

  abbrev from : ℕ
  from = r.worker

  abbrev old : Channel
  old = channel_in x from w

  abbrev new : Channel
  new = one_sent old m

  abbrev y : Activation
  y = with_channel_in x from w new

  lf : from < length (crew code x.unit)
  lf = own-number code c f r o s k

  lw : w < length (crew code x.unit)
  lw = peer-number code c f r o s k w (ap peers_in talk)

  -- the send that is made
  sends-at : SendsAt code x.unit from w old.sent p
  sends-at =
      (of-worker code c f r o s k, at-some _ (command_at code p) (Do o) s.command talk, at-some (λ t. slice_get t.sent w ≡ Some old.sent) (tally_at code p) k.tally k.counts (k.sent w (subst (λ n. w < n) (sym k.many-sent) lw)))

  not-more : old.sent < old.received → ⊥
  not-more l = let q : IsTrue (is_some (end_in_call x from)) = (k.good.queues from w).0.1 l in let b : IsTrue (is_some {T = End} None) = subst (λ e. IsTrue (is_some e)) k.open-end q in let z : ⊥ = cc in z

  at-most : old.received ≤ old.sent
  at-most = by (below-or-not old.sent old.received)
    where
      by : (old.sent < old.received) ⊎ (old.received ≤ old.sent) → old.received ≤ old.sent
      by (inl l) = absurd (not-more l)
      by (inr l) = l

  queue : HasQueue (end_in_call x from) new
  queue =
      let e : length old.queue ≡ old.sent - old.received = (k.good.queues from w).0.0 in
      let n : length (old.queue ++ m ∷ []) ≡ length old.queue + 1 = length-append old.queue (m ∷ []) in
      (omega (arith, e, n, at-most), λ l. absurd (omega (arith, l, at-most)))

  -- the message fits behind each receive of its number
  message : (q : ℕ) → ReceivesAt code x.unit from w old.sent q → FitsBehind code c m q
  message q at t last-t =
      let below = (((s.typed.places p).talks.sends x.unit from w old.sent sends-at).1 q at) last.0 t last.1 last-t in
      let (closed, made, belongs) = fits last.0 last.1 in
      (closed, made, (λ y valid stands. below y (valid, belongs y valid stands)))

  fit : QueueFits code c x.unit from w new
  fit =
      let before = (k.good.queues from w).1 in
      record {
        sent = λ n l. by n l (below-or-not n old.sent);
        fit = λ n q v e at. (sent-fits (λ v n. (q : ℕ) → ReceivesAt code x.unit from w n q → FitsBehind code c v q) old.received old.queue m (λ j v e q at. before.fit j q v e at)
            (λ q at. message q (subst (λ n. ReceivesAt code x.unit from w n q) number at))) n v e q at;
      }
    where
      number : old.received + length old.queue ≡ old.sent
      number = let e : length old.queue ≡ old.sent - old.received = (k.good.queues from w).0.0 in omega (arith, e, at-most)

      by : (n : ℕ) → n < old.sent + 1 → (n < old.sent) ⊎ (old.sent ≤ n) → (p : ℕ) × SendsAt code x.unit from w n p
      by n l (inl h) = (k.good.queues from w).1.sent n h
      by n l (inr h) = (p, subst (λ i. SendsAt code x.unit from w i p) (let e : old.sent ≡ n = omega (arith, l, h) in e) sends-at)

  -- only this worker's sends change
  received-same : (v u : ℕ) → (channel_in y v u).received ≡ (channel_in x v u).received
  received-same v u = cases code c f r o s k from w lf lw new (λ v u q. q.received ≡ (channel_in x v u).received) refl (λ v u ne. refl) v u

  sent-same : (v u : ℕ) → (from ≢ v) ⊎ (w ≢ u) → (channel_in y v u).sent ≡ (channel_in x v u).sent
  sent-same v u ne = cases code c f r o s k from w lf lw new (λ v u q. (from ≢ v) ⊎ (w ≢ u) → q.sent ≡ (channel_in x v u).sent) (λ ne. absurd (both ne)) (λ v u ne d. refl) v u ne
    where
      both : (from ≢ from) ⊎ (w ≢ w) → ⊥
      both (inl n) = n refl
      both (inr n) = n refl

  sent-here : (channel_in y from w).sent ≡ old.sent + 1
  sent-here = cases code c f r o s k from w lf lw new (λ v u q. from ≡ v → w ≡ u → q.sent ≡ old.sent + 1) (λ e d. refl) (λ v u ne e d. absurd (both e d ne)) from w refl refl
    where
      both : {v u : ℕ} → from ≡ v → w ≡ u → (from ≢ v) ⊎ (w ≢ u) → ⊥
      both e d (inl n) = n e
      both e d (inr n) = n d

  others : (v : ℕ) (t : Tally) → v ≢ from → HasTally y v t → HasTally x v t
  others v t ne (ls, lr, hs, hr) =
      (ls, lr, (λ u l. hs u l ∙ ap (λ n. Some n) (sent-same v u (inl (λ e. ne (sym e))))), (λ u l. hr u l ∙ ap (λ n. Some n) (received-same u v)))

  abbrev d : Common
  d = changed c r.activation y

  talked : TalkedWell code c d f o
  talked =
      record {
        good = all-good code c r.activation x y k.there s.good (good-so code c f r o s k from w lf lw new queue fit others);
        numbers = subst (λ q. TallyIs code d q (tally_then 0 (talk_of o) (tally_at code p))) (sym s.role)
            (subst (λ t. TallyIs code d (Some r) (tally_then 0 t (tally_at code p))) (sym talk) (subst (λ t. TallyIs code d (Some r) (option_map (sent_one w) t)) (sym k.counts)
            (subst (λ z. HasSent z from (one_more k.tally.sent w) × HasReceived z from k.tally.received) (sym (now-is code c r.activation x y k.there))
            (sent-more x y from w k.tally.sent sent-here (λ v ne. sent-same from v (inr ne)) (subst (λ n. w < n) (sym k.many-sent) lw) k.sent, (λ u l. k.received u l ∙ ap (λ n. Some n) (sym (received-same u from)))))));
        others = subst (λ q. OnlyOf q c d) (sym s.role)
            (later-but code c r.activation x y k.there from (refl, refl) (λ v ne. ((λ u. (sent-same v u (inl (λ e. ne (sym e))), received-same u v)), refl)));
      }

-- the operand of a send is the last of its stack
send-takes : (code : Code) (place : Surroundings) (w : ℕ) (o : Operation) → (o ≡ op.Send w) ⊎ (o ≡ op.Post w) → (os : List SemType) (res : Option SemType) → OpTyped code.atoms place o os res → One os (λ t. ⊤)
send-takes code place w o (inl e) os res h = by os (subst (λ z. OpTyped code.atoms place z os res) e h)
  where
    by : (os : List SemType) → OpTyped code.atoms place (op.Send w) os res → One os (λ t. ⊤)
    by [] h = absurd h
    by (a ∷ []) h = tt
    by (a ∷ b ∷ os) h = absurd h
send-takes code place w o (inr e) os res h = by os (subst (λ z. OpTyped code.atoms place z os res) e h)
  where
    by : (os : List SemType) → OpTyped code.atoms place (op.Post w) os res → One os (λ t. ⊤)
    by [] h = absurd h
    by (a ∷ []) h = tt
    by (a ∷ b ∷ os) h = absurd h

last-one : (stack rest os : List SemType) → stack ≡ rest ++ os → One os (λ t. ⊤) → (t : SemType) × IsLast stack t
last-one stack rest [] e h = absurd h
last-one stack rest (a ∷ []) e h = (a, (rest, e))
last-one stack rest (a ∷ b ∷ os) e h = absurd h

last-of : (code : Code) (c : Common) (f : Frame Standing) (r : Role) (o : Operation) → StandsAt code c f r o → (k : IsTalking code c f r o) → (w : ℕ) → (o ≡ op.Send w) ⊎ (o ≡ op.Post w) → (t : SemType) × IsLast (stack_at code f.control.place) t
last-of code c f r o s k w which =
    let station : Station = record { function = k.x.unit; worker = r.worker } in
    let d : DoesTyped code k.u station f.control.place o = typed-by code k.u station f.control.place (Do o) s.command (typed-in code s.typed f.unit k.u k.is station k.stationed f.control.place k.inside) in
    last-one (stack_at code f.control.place) d.rest d.operands d.stack (send-takes code (surroundings code k.u station) w o which d.operands d.result d.typed)

pub sends-keep : SendsKeep
sends-keep code c f r o w m s which fits =
    let k = talking code c f r o s in
    back k (talked code c f r o w m s (talk which) fits (last-of code c f r o s k w which) k)
  where
    talk : (o ≡ op.Send w) ⊎ (o ≡ op.Post w) → talk_of o ≡ Sends w
    talk (inl e) = ap talk_of e
    talk (inr e) = ap talk_of e

    -- what is written in the definitions is said of the activation that stands there
    back : (k : IsTalking code c f r o) → TalkedWell code c (changed c r.activation (with_channel_in k.x r.worker w (one_sent (channel_in k.x r.worker w) m))) f o → TalkedWell code c (with_channel c r.activation r.worker w (one_sent (channel_at c r.activation r.worker w) m)) f o
    back k h = subst (λ z. TalkedWell code c (changed c r.activation (with_channel_in z r.worker w (one_sent (channel_in z r.worker w) m))) f o) (sym (was code c r.activation k.x k.x k.there)) h
