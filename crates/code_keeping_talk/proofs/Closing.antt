-- A panic ends a worker: what is shared stays good.
use Rattle.std.proofs.Common.{◌≡◌, ◌≢◌, ◌<◌, ◌∙◌, ℕ, zero, suc, List, [], ◌∷◌, Option, Some, None, inl, inr, length, refl, sym, ap, subst}
use Rattle.std.specs.Prelude.{◌⊎◌, IsTrue, get_or, is_some, slice_get, slice_set}
use Rattle.value_model.specs.declared.value.Value.{Value}
use Rattle.op_model.specs.Common.{Activation, Common, End, Panicked, Role}
use Rattle.op_model.specs.Strands.{with_activation, worker_ended}
use Rattle.machine_model.specs.Runs.{Running}
use Rattle.stack_code.specs.declared.code.Code.{Code}
use Rattle.stack_code.specs.Activations.{GoodActivation, HasTally, WorkerEndFits}
use Rattle.stack_code.specs.Frames.{end_in_call}
use Rattle.stack_code.specs.Good.{NearlyCommon}
use Rattle.stack_code.specs.Places.{Tally}
use Rattle.stack_code.specs.Values.{IsMadeError}
use Rattle.code_keeping.specs.Laws.{OnlyOf}
use Rattle.code_keeping.proofs.Changing.{length-set, or-set-other, or-set-same, same-or-not}
use Rattle.code_keeping.proofs.Returning.{nearly-so}
use Rattle.code_keeping.proofs.Staying.{same}
use Rattle.code_keeping.proofs.Talking.{all-good, changed, later-but, was}
use Rattle.code_keeping_talk.specs.Laws.{ClosingKeeps}

set-past : {A : Type 0} (xs : List A) (n : ℕ) (y : A) → slice_get xs n ≡ None → slice_set xs n y ≡ xs
set-past [] n y e = refl
set-past (x ∷ xs) zero y e = absurd (let q : ⊥ = cc in q)
set-past (x ∷ xs) (suc n) y e = ap (λ zs. x ∷ zs) (set-past xs n y e)

module _ (code : Code) (c : Common) (e : Value) (r : Role) (nearly : NearlyCommon code c Running) (error : IsMadeError code c e) (x : Activation) (ex : slice_get c.activations r.activation ≡ Some x) where
  abbrev y : Activation
  y = record { unit = x.unit; strands = x.strands; ends = slice_set x.ends r.worker (Some (Panicked e)); channels = x.channels }

  abbrev z : Common
  z = changed c r.activation y

  many : length y.ends ≡ length x.ends
  many = length-set x.ends r.worker (Some (Panicked e))

  other-end : (w : ℕ) → r.worker ≢ w → end_in_call y w ≡ end_in_call x w
  other-end w ne = or-set-other x.ends r.worker w (Some (Panicked e)) None ne

  its-end : r.worker < length x.ends → end_in_call y r.worker ≡ Some (Panicked e)
  its-end l = or-set-same x.ends r.worker (Some (Panicked e)) None l

  -- a worker that had ended has ended
  still-ended : (xs : List (Option End)) (n w : ℕ) → IsTrue (is_some (get_or xs w None)) → IsTrue (is_some (get_or (slice_set xs n (Some (Panicked e))) w None))
  still-ended [] n w h = h
  still-ended (o ∷ xs) zero zero h = refl
  still-ended (o ∷ xs) zero (suc w) h = h
  still-ended (o ∷ xs) (suc n) zero h = h
  still-ended (o ∷ xs) (suc n) (suc w) h = still-ended xs n w h

  abbrev old : GoodActivation code c r.activation x
  old = nearly.activations r.activation x ex

  good-still : GoodActivation code z r.activation y
  good-still =
      record {
        call = record { some = old.call.some; strands = old.call.strands; ends = many ∙ old.call.ends; senders = old.call.senders; channels = old.call.channels; workers = old.call.workers };
        queues = λ v w. (((old.queues v w).0.0, λ l. still-ended x.ends r.worker v ((old.queues v w).0.1 l)), record { sent = (old.queues v w).1.sent; fit = (old.queues v w).1.fit });
        ends = λ w t l h. by w t (subst (λ n. w < n) many l) h (same-or-not r.worker w);
      }
    where
      end-same : (w : ℕ) (t : Tally) (o : Option End) → WorkerEndFits code c x.unit w t o → WorkerEndFits code z x.unit w t o
      end-same w t o h = h

      by : (w : ℕ) (t : Tally) → w < length x.ends → HasTally y w t → (r.worker ≡ w) ⊎ (r.worker ≢ w) → WorkerEndFits code z x.unit w t (end_in_call y w)
      by w t l (ls, lr, hs, hr) (inr ne) = subst (λ o. WorkerEndFits code z x.unit w t o) (sym (other-end w ne)) (end-same w t (end_in_call x w) (old.ends w t l (ls ∙ many, lr ∙ many, hs, hr)))
      by w t l h (inl is) =
          subst (λ n. WorkerEndFits code z x.unit n t (end_in_call y n)) is (subst (λ o. WorkerEndFits code z x.unit r.worker t o) (sym (its-end (subst (λ n. n < length x.ends) (sym is) l))) error)

  closed : NearlyCommon code z Running × OnlyOf (Some r) c z
  closed = (
    nearly-so code c r.activation x y ex many Running nearly (all-good code c r.activation x y ex nearly.activations good-still),
    later-but code c r.activation x y ex r.worker (refl, refl) (λ w ne. ((λ u. (refl, refl)), other-end w (λ is. ne (sym is)))),
  )

pub closing-keeps : ClosingKeeps
closing-keeps code c e None nearly error = (nearly, (λ q apart. same q c))
closing-keeps code c e (Some r) nearly error = by (slice_get c.activations r.activation) refl
  where
    abroad : (y : Activation) → slice_get c.activations r.activation ≡ None → NearlyCommon code (with_activation c r.activation y) Running × OnlyOf (Some r) c (with_activation c r.activation y)
    abroad y none = subst (λ xs. NearlyCommon code (record c { activations = xs }) Running × OnlyOf (Some r) c (record c { activations = xs })) (sym (set-past c.activations r.activation y none)) (nearly, (λ q apart. same q c))

    by : (o : Option Activation) → slice_get c.activations r.activation ≡ o → NearlyCommon code (worker_ended (Panicked e) (Some r) c) Running × OnlyOf (Some r) c (worker_ended (Panicked e) (Some r) c)
    by None none = abroad _ none
    by (Some x) ex =
        subst (λ x. let z = changed c r.activation (record { unit = x.unit; strands = x.strands; ends = slice_set x.ends r.worker (Some (Panicked e)); channels = x.channels }) in NearlyCommon code z Running × OnlyOf (Some r) c z)
        (sym (was code c r.activation x x ex)) (closed code c e r nearly error x ex)
