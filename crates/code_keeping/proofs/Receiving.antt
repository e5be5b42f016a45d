-- What a receive keeps: of a message, and of a sender that has ended.
use Rattle.std.proofs.Common.{◌≡◌, ◌≢◌, ◌≤◌, ◌<◌, ◌-◌, ◌+◌, ◌∙◌, ℕ, suc, List, [], ◌∷◌, Some, inl, inr, length, refl, sym, ap, subst, arith}
use Rattle.std.specs.Prelude.{◌⊎◌, IsSomeAnd, IsTrue, get_or, is_some, option_map, slice_get}
use Rattle.operations.specs.declared.operation.Operation.TheVariants as op
use Rattle.operations.specs.Talk.{Receives}
use Rattle.value_model.specs.declared.value.Value.{Value}
use Rattle.op_model.specs.Common.{Activation, Channel, Common, End, Returned, Panicked, Role}
use Rattle.op_model.specs.Messages.{one_received}
use Rattle.op_model.specs.Strands.{is_error}
use Rattle.machine_model.specs.Machine.{Frame}
use Rattle.stack_code.specs.declared.code.Code.{Code}
use Rattle.stack_code.specs.CodeMachine.{Standing}
use Rattle.stack_code.specs.Commands.{Do, command_at}
use Rattle.stack_code.specs.Activations.{FitsBehind, HasQueue, HasTally, QueueFits, WorkerEndFits}
use Rattle.stack_code.specs.Flow.{one_more, received_one, tally_then}
use Rattle.stack_code.specs.Frames.{HasReceived, HasSent, TallyIs, channel_in, end_in_call}
use Rattle.stack_code.specs.Messages.{DoesAt, HasAll, IsReceive, IsSend, Leaves, ReceivesAt, SendsAt, worker}
use Rattle.stack_code.specs.Places.{Tally, crew, tally_at}
use Rattle.code_keeping.specs.Laws.{EndIsReceived, EndsKeep, MessagesKeep, OnlyOf, StandsAt, TalkedWell}
use Rattle.code_keeping.proofs.Changing.{get-set-other, get-set-same, length-set, listed, or-there, received-fits, same-or-not, with_channel_in}
use Rattle.code_keeping.proofs.Lists.{at-some, of-some, some-there}
use Rattle.code_keeping.proofs.Talking.{IsTalking, all-good, cases, changed, good-so, later-but, now-is, of-worker, own-number, peer-number, talking, was}

-- ---- numbers: one more was received from v

received-more : (x y : Activation) (worker v : ℕ) (ns : List ℕ) → (channel_in y v worker).received ≡ (channel_in x v worker).received + 1 → ((w : ℕ) → v ≢ w → (channel_in y w worker).received ≡ (channel_in x w worker).received) →
    v < length ns → HasReceived x worker ns → HasReceived y worker (one_more ns v)
received-more x y worker v ns here other lv h w l = by (same-or-not v w)
  where
    in-ns : w < length ns
    in-ns = let e : length (one_more ns v) ≡ length ns = length-set ns v (suc (get_or ns v 0)) in omega (arith, e, l)

    by : (v ≡ w) ⊎ (v ≢ w) → slice_get (one_more ns v) w ≡ Some (channel_in y w worker).received
    by (inr ne) = get-set-other ns v w (suc (get_or ns v 0)) ne ∙ (h w in-ns ∙ ap (λ n. Some n) (sym (other w ne)))
    by (inl e) =
        let count : get_or ns v 0 ≡ (channel_in x v worker).received = or-there ns v (channel_in x v worker).received 0 (h v lv) in
        let more : suc (get_or ns v 0) ≡ (channel_in y v worker).received = omega (arith, count, here) in
        subst (λ k. slice_get (one_more ns v) k ≡ Some (channel_in y k worker).received) e (get-set-same ns v (suc (get_or ns v 0)) _ (h v lv) ∙ ap (λ n. Some n) more)

module _ (code : Code) (c : Common) (f : Frame Standing) (r : Role) (v : ℕ) (s : StandsAt code c f r (op.Receive v)) (k : IsTalking code c f r (op.Receive v)) where
  abbrev p : ℕ
  p = f.control.place

  abbrev x : Activation
  x = k.x

  abbrev to : ℕ
  to = r.worker

  abbrev old : Channel
  old = channel_in x v to

  lt : to < length (crew code x.unit)
  lt = own-number code c f r (op.Receive v) s k

  lv : v < length (crew code x.unit)
  lv = peer-number code c f r (op.Receive v) s k v refl

  -- the receive that is made
  receives-at : ReceivesAt code x.unit v to old.received p
  receives-at =
      (of-worker code c f r (op.Receive v) s k, at-some _ (command_at code p) (Do (op.Receive v)) s.command refl, at-some (λ t. slice_get t.received v ≡ Some old.received) (tally_at code p) k.tally k.counts (k.received v (subst (λ n. v < n) (sym k.many-received) lv)))

  module _ (queue : List Value) where
    abbrev new : Channel
    new = one_received old queue

    abbrev y : Activation
    y = with_channel_in x v to new

    abbrev d : Common
    d = changed c r.activation y

    -- only this worker's receives change
    sent-same : (u w : ℕ) → (channel_in y u w).sent ≡ (channel_in x u w).sent
    sent-same u w = cases code c f r (op.Receive v) s k v to lv lt new (λ u w q. q.sent ≡ (channel_in x u w).sent) refl (λ u w ne. refl) u w

    received-same : (u w : ℕ) → (v ≢ u) ⊎ (to ≢ w) → (channel_in y u w).received ≡ (channel_in x u w).received
    received-same u w ne = cases code c f r (op.Receive v) s k v to lv lt new (λ u w q. (v ≢ u) ⊎ (to ≢ w) → q.received ≡ (channel_in x u w).received) (λ ne. absurd (both ne)) (λ u w ne d. refl) u w ne
      where
        both : (v ≢ v) ⊎ (to ≢ to) → ⊥
        both (inl n) = n refl
        both (inr n) = n refl

    received-here : (channel_in y v to).received ≡ old.received + 1
    received-here = cases code c f r (op.Receive v) s k v to lv lt new (λ u w q. v ≡ u → to ≡ w → q.received ≡ old.received + 1) (λ e d. refl) (λ u w ne e d. absurd (both u w e d ne)) v to refl refl
      where
        both : (u w : ℕ) → v ≡ u → to ≡ w → (v ≢ u) ⊎ (to ≢ w) → ⊥
        both u w e d (inl n) = n e
        both u w e d (inr n) = n d

    others : (u : ℕ) (t : Tally) → u ≢ to → HasTally y u t → HasTally x u t
    others u t ne (ls, lr, hs, hr) =
        (ls, lr, (λ w l. hs w l ∙ ap (λ n. Some n) (sent-same u w)), (λ w l. hr w l ∙ ap (λ n. Some n) (received-same w u (inr (λ e. ne (sym e))))))

    received-well : HasQueue (end_in_call x v) new → QueueFits code c x.unit v to new → TalkedWell code c d f (op.Receive v)
    received-well well fit =
        record {
          good = all-good code c r.activation x y k.there s.good (good-so code c f r (op.Receive v) s k v to lv lt new well fit others);
          numbers = subst (λ q. TallyIs code d q (tally_then 0 (Receives v) (tally_at code p))) (sym s.role)
              (subst (λ t. TallyIs code d (Some r) (option_map (received_one v) t)) (sym k.counts)
              (subst (λ z. HasSent z to k.tally.sent × HasReceived z to (one_more k.tally.received v)) (sym (now-is code c r.activation x y k.there))
              ((λ w l. k.sent w l ∙ ap (λ n. Some n) (sym (sent-same to w))), received-more x y to v k.tally.received received-here (λ w ne. received-same w to (inl ne)) (subst (λ n. v < n) (sym k.many-received) lv) k.received)));
          others = subst (λ q. OnlyOf q c d) (sym s.role)
              (later-but code c r.activation x y k.there to (refl, refl) (λ u ne. ((λ w. (sent-same u w, received-same w u (inr (λ e. ne (sym e))))), refl)));
        }

  -- ---- a message

  module _ (m : Value) (queue : List Value) (is : old.queue ≡ m ∷ queue) where
    abbrev before : QueueFits code c x.unit v to old
    before = (k.good.queues v to).1

    both : ((q : ℕ) → ReceivesAt code x.unit v to old.received q → FitsBehind code c m q) × ((j : ℕ) (w : Value) → slice_get queue j ≡ Some w → (q : ℕ) → ReceivesAt code x.unit v to (old.received + 1 + j) q → FitsBehind code c w q)
    both =
        received-fits (λ w n. (q : ℕ) → ReceivesAt code x.unit v to n q → FitsBehind code c w q) old.received m queue
        (λ j w e q at. before.fit j q w (subst (λ ms. slice_get ms j ≡ Some w) (sym is) e) at)

    message-received : TalkedWell code c (d queue) f (op.Receive v) × FitsBehind code (d queue) m p
    message-received =
        let e : length old.queue ≡ old.sent - old.received = (k.good.queues v to).0.0 in
        let n : length old.queue ≡ suc (length queue) = ap length is in (
          received-well queue (omega (arith, e, n), λ l. absurd (omega (arith, e, n, l)))
              (record { sent = before.sent; fit = λ j q w h at. both.1 j w h q at }),
          both.0 p receives-at,
        )

  -- ---- an end

  module _ (end : End) (none : old.queue ≡ []) (ended : end_in_call x v ≡ Some end) where
    abbrev before-end : QueueFits code c x.unit v to old
    before-end = (k.good.queues v to).1

    at-most : old.sent ≤ old.received
    at-most = let e : length old.queue ≡ old.sent - old.received = (k.good.queues v to).0.0 in let n : length old.queue ≡ 0 = ap length none in omega (arith, e, n)

    well : TalkedWell code c (d []) f (op.Receive v)
    well =
        received-well [] ((let l = at-most in omega (arith, l)), λ l. subst (λ o. IsTrue (is_some o)) (sym ended) refl)
        (record { sent = before-end.sent; fit = λ j q w h at. absurd (let z : ⊥ = cc in z) })

    -- the numbers of the sender
    its-end : (t : Tally) → HasTally x v t → WorkerEndFits code c x.unit v t (Some end)
    its-end t h = subst (λ o. WorkerEndFits code c x.unit v t o) ended (k.good.ends v t (subst (λ n. v < n) (sym k.good.call.ends) lv) h)

    -- it hasn't made all, since this receive has no partner
    not-all : (t : Tally) → HasTally x v t → HasAll code (worker code x.unit v) t → ⊥
    not-all t (ls, lr, hs, hr) all =
        let (q, at) = ((s.typed.places p).talks.receives x.unit v to old.received receives-at).0 in
        by q at (all q to at.0)
      where
        count : get_or t.sent to 0 ≡ old.sent
        count = or-there t.sent to old.sent 0 (hs to (subst (λ n. to < n) (sym (ls ∙ k.good.call.ends)) lt))

        by : (q : ℕ) → SendsAt code x.unit v to old.received q → (DoesAt code q (IsSend to) → IsSomeAnd (tally_at code q) (λ z. get_or z.sent to 0 < get_or t.sent to 0)) × (DoesAt code q (IsReceive to) → IsSomeAnd (tally_at code q) (λ z. get_or z.received to 0 < get_or t.received to 0)) → ⊥
        by q at h =
            let (z, ez, less) = some-there (λ z. get_or z.sent to 0 < get_or t.sent to 0) (tally_at code q) (h.0 at.1) in
            let number : get_or z.sent to 0 ≡ old.received = or-there z.sent to old.received 0 (of-some (λ z. slice_get z.sent to ≡ Some old.received) (tally_at code q) z ez at.2) in
            let l = at-most in
            let e = count in
            omega (arith, less, number, l, e)

    -- what it leaves is this receive
    left : (t : Tally) → HasTally x v t → Leaves code x.unit v to p t
    left t (ls, lr, hs, hr) = (
      receives-at.0,
      inl (
        receives-at.1,
        at-some (λ z. get_or t.sent to 0 ≤ get_or z.received v 0) (tally_at code p) k.tally k.counts
            (let e : get_or t.sent to 0 ≡ old.sent = or-there t.sent to old.sent 0 (hs to (subst (λ n. to < n) (sym (ls ∙ k.good.call.ends)) lt)) in
            let n : get_or k.tally.received v 0 ≡ old.received = or-there k.tally.received v old.received 0 (k.received v (subst (λ n. v < n) (sym k.many-received) lv)) in
            let l = at-most in omega (arith, e, n, l)),
      ),
    )

    its-tally : (t : Tally) × HasTally x v t
    its-tally =
        let (sent, es, hs) = listed (length x.ends) (λ w. (channel_in x v w).sent) in
        let (received, er, hr) = listed (length x.ends) (λ w. (channel_in x w v).received) in
        (record { sent = sent; received = received }, (es, er, hs, hr))

  end-received : (end : End) (none : old.queue ≡ []) (ended : end_in_call x v ≡ Some end) → TalkedWell code c (d []) f (op.Receive v) × EndIsReceived code (d []) p end
  end-received (Returned e) none ended =
      let (t, h) = its-tally (Returned e) none ended in
      (well (Returned e) none ended, by t h (its-end (Returned e) none ended t h).1)
    where
      by : (t : Tally) → HasTally x v t → HasAll code (worker code x.unit v) t ⊎ (IsTrue (is_error e) × ((w q : ℕ) → Leaves code x.unit v w q t → FitsBehind code c e q)) → FitsBehind code (d []) e p
      by t h (inl all) = absurd (not-all (Returned e) none ended t h all)
      by t h (inr (is, leaves)) = leaves to p (left (Returned e) none ended t h)
  end-received (Panicked e) none ended =
      let (t, h) = its-tally (Panicked e) none ended in
      (well (Panicked e) none ended, its-end (Panicked e) none ended t h)

-- ---- as the definitions say it, of the activation that stands there

pub messages-keep : MessagesKeep
messages-keep code c f r v m queue s is =
    let k = talking code c f r (op.Receive v) s in
    let e = was code c r.activation k.x k.x k.there in
    subst (λ z. TalkedWell code c (changed c r.activation (with_channel_in z v r.worker (one_received (channel_in z v r.worker) queue))) f (op.Receive v)
    × FitsBehind code (changed c r.activation (with_channel_in z v r.worker (one_received (channel_in z v r.worker) queue))) m f.control.place) (sym e)
    (message-received code c f r v s k m queue (subst (λ z. (channel_in z v r.worker).queue ≡ m ∷ queue) e is))

pub ends-keep : EndsKeep
ends-keep code c f r v end s none ended =
    let k = talking code c f r (op.Receive v) s in
    let e = was code c r.activation k.x k.x k.there in
    subst (λ z. TalkedWell code c (changed c r.activation (with_channel_in z v r.worker (one_received (channel_in z v r.worker) []))) f (op.Receive v)
    × EndIsReceived code (changed c r.activation (with_channel_in z v r.worker (one_received (channel_in z v r.worker) []))) f.control.place end) (sym e)
    (end-received code c f r v s k end (subst (λ z. (channel_in z v r.worker).queue ≡ []) e none) (subst (λ z. end_in_call z v ≡ Some end) e ended))
