-- What is shared and fits, fits later: ends, variables, what is still to be run, and activations.
use Rattle.std.proofs.Common.{◌≡◌, ℕ, suc, List, Option, Some, None, inl, inr, subst, sym}
use Rattle.std.specs.Prelude.{All, IsSomeAnd, slice_get}
use Rattle.std.specs.List.{AllZip}
use Rattle.type_model.specs.declared.basic.SemType.{SemType}
use Rattle.value_model.specs.declared.value.Value.{Value}
use Rattle.op_model.specs.Common.{Activation, Common, End, Panicked, Returned, Role, Strand}
use Rattle.stack_code.specs.declared.code.Code.{Code}
use Rattle.stack_code.specs.Activations.{GoodActivation, WorkerEndFits}
use Rattle.stack_code.specs.Frames.{end_in_call}
use Rattle.stack_code.specs.Good.{EndFits, IsLater, IsSameStrand, IsToRun}
use Rattle.stack_code.specs.Places.{Tally, crew}
use Rattle.stack_code.specs.Values.{AllFit, Fits, HeldFits}
use Rattle.code_keeping.proofs.Lists.{some-there, some-to, zip-to}
use Rattle.code_keeping.proofs.Serving.{all-to}
use Rattle.code_keeping.proofs.Staying.{all-later, error-later, fits-later, made-later}

module _ (code : Code) (c d : Common) (l : IsLater None c d) where
  result-later : (v : Value) (unit : ℕ) → IsSomeAnd (slice_get code.units unit) (λ u. Fits code c v u.result) → IsSomeAnd (slice_get code.units unit) (λ u. Fits code d v u.result)
  result-later v unit h = some-to (λ u. Fits code c v u.result) (λ u. Fits code d v u.result) (slice_get code.units unit) (λ u k. fits-later code None c d l v u.result k) h

  pub end-later : (n unit : ℕ) (o : Option End) → EndFits code c n unit o → EndFits code d n unit o
  end-later n unit (Some (Returned v)) (made, fit, nil) = (made-later code None c d l v made, (λ ne. result-later v unit (fit ne)), nil)
  end-later n unit (Some (Panicked e)) h = error-later code None c d l e h
  end-later n unit None h = tt

  pub variables-later : (vs : List (Option Value)) (ts : List SemType) → AllZip (HeldFits code c) vs ts → AllZip (HeldFits code d) vs ts
  variables-later vs ts h = zip-to (HeldFits code c) (HeldFits code d) (λ held t k v e. fits-later code None c d l v t (k v e)) vs ts h

  pub to-run-later : (us : List (ℕ × List Value)) → All (IsToRun code c) us → All (IsToRun code d) us
  to-run-later us h =
      all-to (IsToRun code c) (IsToRun code d) (λ u k. (k.0, some-to (λ x. AllFit code c u.1 x.params) (λ x. AllFit code d u.1 x.params) (slice_get code.units u.0) (λ x m. all-later code None c d l u.1 x.params m) k.1)) us h

  -- a strand is of its unit and role still
  pub strand-later : (n : ℕ) (P : ℕ → Option Role → Type 0) → IsSomeAnd (slice_get c.strands n) (λ s. P s.unit s.role) → IsSomeAnd (slice_get d.strands n) (λ s. P s.unit s.role)
  strand-later n P h =
      let (s, e, k) = some-there (λ (s : Strand). P s.unit s.role) (slice_get c.strands n) h in
      some-to (IsSameStrand s) (λ t. P t.unit t.role) (slice_get d.strands n) (λ t same. subst (λ u. P u t.role) (sym same.0) (subst (λ r. P s.unit r) (sym same.1) k)) (l.strands n s e)

  worker-end-later : (f v : ℕ) (t : Tally) (o : Option End) → WorkerEndFits code c f v t o → WorkerEndFits code d f v t o
  worker-end-later f v t (Some (Returned e)) (fit, inl all) = (some-to _ _ (slice_get (crew code f) v) (λ unit k. result-later e unit k) fit, inl all)
  worker-end-later f v t (Some (Returned e)) (fit, inr (is, leaves)) =
      (some-to _ _ (slice_get (crew code f) v) (λ unit k. result-later e unit k) fit, inr (is, (λ w q left s last. fits-later code None c d l e s (leaves w q left s last))))
  worker-end-later f v t (Some (Panicked e)) h = error-later code None c d l e h
  worker-end-later f v t None h = tt

  pub activation-later : (a : ℕ) (x : Activation) → GoodActivation code c a x → GoodActivation code d a x
  activation-later a x g =
      record {
        call = record {
          some = g.call.some;
          strands = g.call.strands;
          ends = g.call.ends;
          senders = g.call.senders;
          channels = g.call.channels;
          workers = λ w n e. strand-later n (λ unit role. (role ≡ Some (record { activation = a; worker = suc w })) × (slice_get (crew code x.unit) (suc w) ≡ Some unit)) (g.call.workers w n e);
        };
        queues = λ v w. ((g.queues v w).0, record { sent = (g.queues v w).1.sent; fit = λ k q m e at s last. fits-later code None c d l m s ((g.queues v w).1.fit k q m e at s last) });
        ends = λ v t lt h. worker-end-later x.unit v t (end_in_call x v) (g.ends v t lt h);
      }
