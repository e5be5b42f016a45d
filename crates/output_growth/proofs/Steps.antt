-- No step and no run takes back what was written.
use Rattle.std.proofs.Common.{ℕ, List, [], ◌∷◌, Option, Some, None, sym, subst}
use Rattle.std.specs.Prelude.{⊤, option_map}
use Rattle.bal_io.specs.Content.{IsPrefixOf}
use Rattle.value_model.specs.declared.value.Value.{Value}
use Rattle.value_model.specs.Meaning.{Answers}
use Rattle.op_model.specs.Common.{Common, End, Panicked, Returned, Role}
use Rattle.op_model.specs.Effects.{Beyond, Effect, Enters, Fails, Gives, Leaves, NoTick, Spawns, Waits}
use Rattle.op_model.specs.Strands.{worker_ended, workers_ended}
use Rattle.machine_model.specs.Machine.{Ask, Does, Frame, Machine, Next, On, State, Stuck, Takes, TakesTop, all_begun, caller, begun, carried, goes_on, goes_to, given, left_with, next_units, roles_left, unwound}
use Rattle.machine_model.specs.Runs.{Phase, Runs, Stop, blocks, ends, moves, needs_tick, over, passes, picks}
use Rattle.output_growth.specs.Growth.{AnswersGrow, NextBegins, OutputGrows, ReachedGrows}
use Rattle.output_growth.proofs.Effects.{EffectBegins, performs-begins}
use Rattle.output_growth.proofs.Rows.{all-of, and-then}

module _ {C : Type 0} (M : Machine C) (o : List ℕ) where
  abbrev MaybeBegins : Option (Next C) → Type 0
  MaybeBegins (Some next) = NextBegins o next
  MaybeBegins None = ⊤

  mapped-begins : {X : Type 0} (at : Option X) (f : X → Next C) → ((x : X) → NextBegins o (f x)) → MaybeBegins (option_map f at)
  mapped-begins (Some x) f h = h x
  mapped-begins None f h = tt

  left-begins : (s : State C) (c : Common) (end : End) (us : List (ℕ × List Value)) → IsPrefixOf o c.world.output → MaybeBegins (left_with M s c end us)
  left-begins s c end [] h = h
  left-begins s c end (u ∷ us) h = mapped-begins (begun M u.0 u.1 None) _ (λ f. h)

  goes-begins : (s : State C) (c : Common) (end : End) (fs : List (Frame C)) → IsPrefixOf o c.world.output → MaybeBegins (goes_on M s c end fs)
  goes-begins s c end [] h = left-begins s c end (next_units c end) h
  goes-begins s c end (f ∷ fs) h = h

  worker-begins : (end : End) (role : Option Role) (c : Common) → IsPrefixOf o c.world.output → IsPrefixOf o (worker_ended end role c).world.output
  worker-begins end None c h = h
  worker-begins end (Some r) c h = h

  workers-begin : (end : End) (roles : List (Option Role)) (c : Common) → IsPrefixOf o c.world.output → IsPrefixOf o (workers_ended end roles c).world.output
  workers-begin end [] c h = h
  workers-begin end (r ∷ rs) c h = workers-begin end rs (worker_ended end r c) (worker-begins end r c h)

  carried-begins : (s : State C) (f : Frame C) (k : C) (fs : List (Frame C)) (effect : Effect) → IsPrefixOf o s.common.world.output → EffectBegins o effect → MaybeBegins (carried M s f k fs effect)
  carried-begins s f k fs (Gives vs c) before h = h
  carried-begins s f k fs (Fails e c) before h =
      goes-begins s (workers_ended (Panicked e) (roles_left M e (goes_to f k ∷ fs)) c) (Panicked e) (unwound M e (goes_to f k ∷ fs)) (workers-begin (Panicked e) (roles_left M e (goes_to f k ∷ fs)) c h)
  carried-begins s f k fs (Waits need) before h = before
  carried-begins s f k fs (Enters unit args c) before h = mapped-begins (begun M unit args None) _ (λ g. h)
  carried-begins s f k fs (Leaves v) before h =
      goes-begins s (worker_ended (Returned v) f.role s.common) (Returned v) (given M v fs) (worker-begins (Returned v) f.role s.common before)
  carried-begins s f k fs (Spawns ss role vs c) before h = mapped-begins (all_begun M ss) _ (λ more. h)
  carried-begins s f k fs NoTick before h = tt
  carried-begins s f k fs (Beyond limit) before h = tt

module _ {C : Type 0} (natives : Answers) (M : Machine C) where
  takes-begins : AnswersGrow natives → (s : State C) (f : Frame C) (fs : List (Frame C)) (ask : Ask C) (next : Next C) → Takes natives M s f fs ask next → NextBegins s.common.world.output next
  takes-begins grow s f fs (On c) next e = subst (NextBegins s.common.world.output) (sym e) (all-of s.common.world.output)
  takes-begins grow s f fs (Does op vs k) next (effect, performs, e) =
      let o = s.common.world.output in
      subst (MaybeBegins M o) e
      (carried-begins M o s f k fs effect (all-of o) (performs-begins M.facts natives grow vs (caller f fs) s.common effect op performs))
  takes-begins grow s f fs Stuck next h = absurd h

  top-begins : AnswersGrow natives → (s : State C) (fs : List (Frame C)) (next : Next C) → TakesTop natives M s fs next → NextBegins s.common.world.output next
  top-begins grow s [] next h = absurd h
  top-begins grow s (f ∷ fs) next h = takes-begins grow s f fs (M.look f.unit f.control) next h

  pub output-grows : OutputGrows natives M
  output-grows grow s next h = top-begins grow s s.frames next h

  pub run-grows : AnswersGrow natives → {phase : Phase} {n : ℕ} {s : State C} {order : List ℕ} {stop : Stop} {c : Common} → Runs natives M phase n s order stop c → IsPrefixOf s.common.world.output c.world.output
  run-grows grow (moves h r) = and-then _ _ _ (output-grows grow _ _ h) (run-grows grow r)
  run-grows grow (blocks h r) = and-then _ _ _ (output-grows grow _ _ h) (run-grows grow r)
  run-grows grow (ends h r) = and-then _ _ _ (output-grows grow _ _ h) (run-grows grow r)
  run-grows grow (needs_tick h) = all-of _
  run-grows grow (passes h) = all-of _
  run-grows grow (picks at r) = run-grows grow r
  run-grows grow (over none) = all-of _

  pub reached-grows : ReachedGrows natives M
  reached-grows grow phase n s order stop c r = run-grows grow r
