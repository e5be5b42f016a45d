-- An activation is added in which nothing was sent and nobody has ended: all that is shared stays good, and what held holds.
use Rattle.std.proofs.Common.{◌≡◌, ◌<◌, ◌≤◌, ◌-◌, ℕ, zero, suc, [], ◌∷◌, ◌++◌, Option, Some, None, inl, inr, length, refl, sym, ap, subst, arith}
use Rattle.std.proofs.Math.ListN.{get_or-append}
use Rattle.std.proofs.Math.Seq.{get_or-append_right}
use Rattle.std.proofs.lemmas.List.{get_or_past}
use Rattle.std.proofs.lemmas.Option.{slice_get_within}
use Rattle.std.specs.Prelude.{◌⊎◌, ◌||◌, IsTrue, get_or, is_some, nat_le, slice_get}
use Rattle.op_model.specs.Common.{Activation, AllEnded, AnyGiven, Common, Message, Need, Received, Role, Strand}
use Rattle.op_model.specs.Strands.{activation_at, is_there, met, no_activation, no_channel}
use Rattle.machine_model.specs.Runs.{Running}
use Rattle.stack_code.specs.declared.code.Code.{Code}
use Rattle.stack_code.specs.Activations.{GoodActivation}
use Rattle.stack_code.specs.Frames.{channel_in, end_in_call}
use Rattle.stack_code.specs.Good.{GoodCommon, GoodReady, IsLater, IsSameCall, IsSameWorker, IsWorkerOf, NeedIsThere, StrandFits, WorkerStays}
use Rattle.stack_code.specs.Values.{GoodHeap}
use Rattle.code_keeping.proofs.Changing.{below-or-not}
use Rattle.code_keeping.proofs.Growing.{IsIn, front-or-behind, get-front}
use Rattle.code_keeping.proofs.Later.{activation-later, to-run-later, variables-later}
use Rattle.code_keeping.proofs.Lists.{at-some, some-there}
use Rattle.code_keeping.proofs.Staying.{later-so, same-strands}

module _ (code : Code) (c : Common) (good : GoodCommon code c Running) (x : Activation) (quiet : (v w : ℕ) → channel_in x v w ≡ no_channel) (unended : (v : ℕ) → end_in_call x v ≡ None) where
  abbrev pub opened : Common
  opened = record c { activations = c.activations ++ x ∷ [] }

  abbrev number : ℕ
  number = length c.activations

  one-or-none : (P : Activation → Type 0) → P x → P no_activation → (k : ℕ) → P (get_or (x ∷ []) k no_activation)
  one-or-none P h g zero = h
  one-or-none P h g (suc k) = g

  -- an activation is as it was, or is the new one where there was none
  at-each : (P : Activation → Activation → Type 0) → ((y : Activation) → P y y) → P no_activation x → (a : ℕ) → P (activation_at c a) (activation_at opened a)
  at-each P same new a = by (below-or-not a number)
    where
      by : (a < number) ⊎ (number ≤ a) → P (activation_at c a) (activation_at opened a)
      by (inl lt) = subst (λ z. P (activation_at c a) z) (sym (get_or-append c.activations (x ∷ []) no_activation a lt)) (same (activation_at c a))
      by (inr le) =
          subst (λ z. P z (activation_at opened a)) (sym (get_or_past c.activations a no_activation le))
          (subst (λ z. P no_activation z) (sym (get_or-append_right c.activations (x ∷ []) a no_activation le)) (one-or-none (P no_activation) new (same no_activation) (a - number)))

  -- ---- what comes later

  pub opened-later : (q : Option Role) → IsLater q c opened
  opened-later q =
      later-so q c opened refl (same-strands c) (λ a y e. at-some (IsSameCall y) (slice_get opened.activations a) y (get-front c.activations (x ∷ []) a y e) (refl, refl)) (stay q)
    where
      stay : (q : Option Role) → WorkerStays q c opened
      stay (Some r) = at-each (IsSameWorker r.worker) (λ y. ((λ w. (refl, refl)), refl)) ((λ w. (ap (λ z. z.sent) (quiet r.worker w), ap (λ z. z.received) (quiet w r.worker))), unended r.worker) r.activation
      stay None = tt

  -- ---- needs

  same-at : (a : ℕ) → a < number → activation_at opened a ≡ activation_at c a
  same-at a lt = get_or-append c.activations (x ∷ []) no_activation a lt

  there-before : (a w : ℕ) → IsWorkerOf code c a w → a < number
  there-before a w h = let (y, e, k) = some-there (λ y. w < length y.ends) (slice_get c.activations a) h in slice_get_within c.activations a y e

  met-is : (need : Need) → NeedIsThere code c need → met opened need ≡ met c need
  met-is (Message a from to) h = ap (λ y. is_there (channel_in y from to).queue || is_some (end_in_call y from)) (same-at a (there-before a from h.0))
  met-is (Received a from to count) h = ap (λ y. nat_le count (channel_in y from to).received || is_some (end_in_call y to)) (same-at a (there-before a from h.0))
  met-is (AllEnded ns) h = refl
  met-is (AnyGiven ns) h = refl

  worker-so : (a w : ℕ) → IsWorkerOf code c a w → IsWorkerOf code opened a w
  worker-so a w h = let (y, e, k) = some-there (λ y. w < length y.ends) (slice_get c.activations a) h in at-some (λ y. w < length y.ends) (slice_get opened.activations a) y (get-front c.activations (x ∷ []) a y e) k

  need-so : (need : Need) → NeedIsThere code c need → NeedIsThere code opened need
  need-so (Message a from to) h = (worker-so a from h.0, worker-so a to h.1)
  need-so (Received a from to count) h = (worker-so a from h.0, worker-so a to h.1)
  need-so (AllEnded ns) h = h
  need-so (AnyGiven ns) h = h

  -- ---- all that is shared

  heap-so : GoodHeap code c → GoodHeap code opened
  heap-so h = record { mutable = h.mutable; immutable = h.immutable; members = h.members; functions = h.functions; valid = h.valid; closed = h.closed; short = h.short; apart = h.apart }

  ready-so : GoodReady code c Running → GoodReady code opened Running
  ready-so h = record { active = h.active; once = h.once; known = h.known; running = h.running; there = h.there }

  strand-so : (n : ℕ) (s : Strand) → StrandFits code c n s → StrandFits code opened n s
  strand-so n s h = record { end = h.end; need = λ need e. need-so need (h.need need e); before = h.before; taken = h.taken }

  pub opened-good : GoodActivation code c number x → GoodCommon code opened Running
  opened-good fresh =
      record {
        nearly = record {
          heap = heap-so good.nearly.heap;
          variables = variables-later code c opened (opened-later None) c.variables code.variables good.nearly.variables;
          strands = λ n s e. strand-so n s (good.nearly.strands n s e);
          activations = λ a y e. each a y (front-or-behind c.activations (x ∷ []) a y e);
          to_run = to-run-later code c opened (opened-later None) c.to_run good.nearly.to_run;
          ready = ready-so good.nearly.ready;
          main = good.nearly.main;
        };
        settled = λ n s e need is m. good.settled n s e need is (subst IsTrue (met-is need ((good.nearly.strands n s e).need need is)) m);
      }
    where
      each : (a : ℕ) (y : Activation) → IsIn c.activations (x ∷ []) a y → GoodActivation code opened a y
      each a y (inl e) = activation-later code c opened (opened-later None) a y (good.nearly.activations a y e)
      each a y (inr (zero, at, e)) =
          let is : x ≡ y = let k : Some x ≡ Some y = e in (let q : x ≡ y = cc in q) in
          subst (λ k. GoodActivation code opened k y) (let q : number ≡ a = omega (arith, at) in q)
          (subst (λ z. GoodActivation code opened number z) is (activation-later code c opened (opened-later None) number x fresh))
      each a y (inr (suc m, at, e)) = absurd (let q : ⊥ = cc in q)
