-- What a flush comes to where the peer has ended and has not received all.
use Rattle.std.proofs.Common.{◌≡◌, ◌<◌, ◌∙◌, ℕ, Some, inl, inr, length, sym, ap, subst, arith}
use Rattle.std.specs.Prelude.{◌⊎◌, IsSomeAnd, get_or, slice_get}
use Rattle.operations.specs.declared.operation.Operation.{Operation}
use Rattle.operations.specs.declared.operation.Operation.TheVariants as op
use Rattle.operations.specs.Talk.{Flushes, talk_of}
use Rattle.op_model.specs.Common.{Activation, Channel, Common, End, Returned, Panicked, Role}
use Rattle.machine_model.specs.Machine.{Frame}
use Rattle.stack_code.specs.declared.code.Code.{Code}
use Rattle.stack_code.specs.CodeMachine.{Standing}
use Rattle.stack_code.specs.Commands.{Do, command_at}
use Rattle.stack_code.specs.Activations.{HasTally, WorkerEndFits}
use Rattle.stack_code.specs.Frames.{channel_in, end_in_call}
use Rattle.stack_code.specs.Messages.{DoesAt, HasAll, IsReceive, Leaves, ReceivesAt, peers_in, worker}
use Rattle.stack_code.specs.Places.{Tally, crew, tally_at}
use Rattle.code_keeping.specs.Laws.{EndIsReceived, FlushesKeep, StandsAt}
use Rattle.code_keeping.proofs.Changing.{listed, or-there}
use Rattle.code_keeping.proofs.Lists.{at-some, of-some, some-there}
use Rattle.code_keeping.proofs.Talking.{IsTalking, of-worker, own-number, peer-number, talking, was}

module _ (code : Code) (c : Common) (f : Frame Standing) (r : Role) (o : Operation) (w : ℕ) (s : StandsAt code c f r o) (talk : talk_of o ≡ Flushes w) (k : IsTalking code c f r o) (end : End)
    (open-messages : (channel_in k.x r.worker w).received < (channel_in k.x r.worker w).sent) (ended : end_in_call k.x w ≡ Some end) where
  abbrev p : ℕ
  p = f.control.place

  abbrev x : Activation
  x = k.x

  abbrev me : ℕ
  me = r.worker

  abbrev old : Channel
  old = channel_in x me w

  lm : me < length (crew code x.unit)
  lm = own-number code c f r o s k

  lw : w < length (crew code x.unit)
  lw = peer-number code c f r o s k w (ap peers_in talk)

  its-end : (t : Tally) → HasTally x w t → WorkerEndFits code c x.unit w t (Some end)
  its-end t h = subst (λ o. WorkerEndFits code c x.unit w t o) ended (k.good.ends w t (subst (λ n. w < n) (sym k.good.call.ends) lw) h)

  count : (t : Tally) → HasTally x w t → get_or t.received me 0 ≡ old.received
  count t (ls, lr, hs, hr) = or-there t.received me old.received 0 (hr me (subst (λ n. me < n) (sym (lr ∙ k.good.call.ends)) lm))

  -- the first message that it has not received was sent at a place, and is received at one that it has not made
  not-all : (t : Tally) → HasTally x w t → HasAll code (worker code x.unit w) t → ⊥
  not-all t h all =
      let (q, sends) = (k.good.queues me w).1.sent old.received open-messages in
      let (z, at) = ((s.typed.places q).talks.sends x.unit me w old.received sends).0 in
      by z at (all z me at.0).1
    where
      by : (q : ℕ) → ReceivesAt code x.unit me w old.received q → (DoesAt code q (IsReceive me) → IsSomeAnd (tally_at code q) (λ z. get_or z.received me 0 < get_or t.received me 0)) → ⊥
      by q at made =
          let (z, ez, less) = some-there (λ z. get_or z.received me 0 < get_or t.received me 0) (tally_at code q) (made at.1) in
          let number : get_or z.received me 0 ≡ old.received = or-there z.received me old.received 0 (of-some (λ z. slice_get z.received me ≡ Some old.received) (tally_at code q) z ez at.2) in
          let e = count t h in
          omega (arith, less, number, e)

  left : (t : Tally) → HasTally x w t → Leaves code x.unit w me p t
  left t h = (
    of-worker code c f r o s k,
    inr (
      at-some _ (command_at code p) (Do o) s.command talk,
      at-some (λ z. get_or t.received me 0 < get_or z.sent w 0) (tally_at code p) k.tally k.counts
          (let e = count t h in
          let n : get_or k.tally.sent w 0 ≡ old.sent = or-there k.tally.sent w old.sent 0 (k.sent w (subst (λ n. w < n) (sym k.many-sent) lw)) in
          let l = open-messages in omega (arith, e, n, l)),
    ),
  )

  its-tally : (t : Tally) × HasTally x w t
  its-tally =
      let (sent, es, hs) = listed (length x.ends) (λ v. (channel_in x w v).sent) in
      let (received, er, hr) = listed (length x.ends) (λ v. (channel_in x v w).received) in
      (record { sent = sent; received = received }, (es, er, hs, hr))

  comes : EndIsReceived code c p end
  comes = let (t, h) = its-tally in by end t h (its-end t h)
    where
      by : (end : End) (t : Tally) → HasTally x w t → WorkerEndFits code c x.unit w t (Some end) → EndIsReceived code c p end
      by (Panicked e) t h fits = fits
      by (Returned e) t h (fits, inl all) = absurd (not-all t h all)
      by (Returned e) t h (fits, inr (is, leaves)) = leaves me p (left t h)

pub flushes-keep : FlushesKeep
flushes-keep code c f r o w end s which open-messages ended =
    let k = talking code c f r o s in
    let e = was code c r.activation k.x k.x k.there in
    comes code c f r o w s (talk which) k end (subst (λ z. (channel_in z r.worker w).received < (channel_in z r.worker w).sent) e open-messages) (subst (λ z. end_in_call z w ≡ Some end) e ended)
  where
    talk : (o ≡ op.Flush w) ⊎ (o ≡ op.Done w) → talk_of o ≡ Flushes w
    talk (inl e) = ap talk_of e
    talk (inr e) = ap talk_of e
