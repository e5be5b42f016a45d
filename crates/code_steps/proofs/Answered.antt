-- What was answered for a step, from what its parts answered.
use Rattle.std.proofs.Common.{◌≡◌, ◌+◌, ℕ, suc, List, [], ◌∷◌, Result, Ok, Err, length, map, arith, refl, sym, ap, subst, ◌∙◌}
use Rattle.std.specs.Prelude.{IfOk, option_map}
use Rattle.operations.specs.declared.operation.Operation.{Operation}
use Rattle.value_model.specs.declared.value.Value.{Value}
use Rattle.op_model.specs.Common.{Common}
use Rattle.op_model.specs.Effects.{Effect}
use Rattle.op_model.specs.Library.{LibraryAnswers}
use Rattle.op_model.specs.Performs.{Performs}
use Rattle.machine_model.specs.Machine as machine
use Rattle.machine_model.specs.Machine.{Ask, Does, Frame, On, Stuck as IsStuck, Takes, TakesTop, caller, carried, goes_to, put}
use Rattle.machine_model.specs.Runs.{does_in}
use Rattle.stack_code.specs.CodeMachine.{Standing}
use Rattle.plain_run.specs.ProgramFacts.{facts_of}
use Rattle.plain_run.specs.Held.{caller_of, common_of, role_of}
use Rattle.plain_operations.specs.Parts.{IsUndecided}
use Rattle.held_operations.specs.Operation.{operation_of}
use Rattle.plain_run.specs.Effects.{EffectStays, IsPerformed, effect_of}
use Rattle.plain_run.specs.declared.effect.Performed.TheVariants as effects_done
use Rattle.plain_run.specs.declared.effect.Effect.{Effect as HeldEffect}
use Rattle.plain_run.specs.declared.effect.Effect.TheVariants as effects
use Rattle.plain_run.specs.declared.held.Common.{Common as HeldCommon}
use Rattle.held_operations.specs.declared.op.Op.{Op}
use Rattle.code_steps.specs.declared.carrying.Next.TheVariants.{Moved}
use Rattle.code_steps.specs.declared.carrying.Stepped.{Stepped}
use Rattle.code_steps.specs.declared.carrying.Stepped.TheVariants.{Did, NeedsTick, Limit, NoUnit, Stuck, Undecided}
use Rattle.code_frames.specs.declared.held.Program.{Program}
use Rattle.code_steps.specs.declared.held.State.{State}
use Rattle.code_frames.specs.Programs.{machine_of}
use Rattle.code_steps.specs.States.{call_of, calls_of, others_of, state_of}
use Rattle.code_steps.specs.Steps.{IsCarried, Stays, StopsSame, awaiting, next_of}
use Rattle.code_steps.specs.declared.held.Call.{Call}
use Rattle.code_steps.proofs.Calling.{calls-length}
use Rattle.code_frames.specs.Frames.{standing_of}
use Rattle.plain_run.specs.Effects as left
use Rattle.plain_run.specs.declared.effect.Performed.{Performed}
use Rattle.code_steps.specs.declared.held.Asking.{Asking}
use Rattle.code_steps.specs.Answered.{IsFinished, IsStepped, caller_over, over}

-- the frame over the calls of the state, which asks this
takes : (p : Program) (f : Frame Standing) (s : State) (a : Ask Standing) (next : machine.Next Standing) → (machine_of p).look f.unit f.control ≡ a → Takes LibraryAnswers (machine_of p) (over f s) f (calls_of s.calls.items) a next → TakesTop LibraryAnswers (machine_of p) (over f s) (f ∷ calls_of s.calls.items) next
takes p f s a next e h = subst (λ x. Takes LibraryAnswers (machine_of p) (over f s) f (calls_of s.calls.items) x next) (sym e) h

pub moves : (p : Program) (f : Frame Standing) (s new : State) (d : Standing) → (machine_of p).look f.unit f.control ≡ On d → state_of new ≡ put (over f s) (common_of s.common) (goes_to f d ∷ calls_of s.calls.items) → IsStepped p (over f s) (Did Moved) new
moves p f s new d e h = takes p f s (On d) (machine.Moved (state_of new)) e (ap machine.Moved h)

pub stuck : (p : Program) (f : Frame Standing) (s new : State) → (machine_of p).look f.unit f.control ≡ IsStuck → IsStepped p (over f s) Stuck new
stuck p f s new e = λ next h. subst (λ x. Takes LibraryAnswers (machine_of p) (over f s) f (calls_of s.calls.items) x next) e h

-- ---- an operation

pub stuck-operands : (p : Program) (f : Frame Standing) (s new : State) (op : Operation) (vs : List Value) (k : Standing) → (machine_of p).look f.unit f.control ≡ Does op vs k → ((effect : Effect) → ¬ (Performs (facts_of p.facts) LibraryAnswers op vs (caller f (calls_of s.calls.items)) (common_of s.common) effect)) → IsStepped p (over f s) Stuck new
stuck-operands p f s new op vs k e none = λ next h. by next (subst (λ x. Takes LibraryAnswers (machine_of p) (over f s) f (calls_of s.calls.items) x next) e h)
  where
    by : (next : machine.Next Standing) → Takes LibraryAnswers (machine_of p) (over f s) f (calls_of s.calls.items) (Does op vs k) next → ⊥
    by next (effect, performs, c) = none effect performs

pub undecided : (p : Program) (f : Frame Standing) (s new : State) (op : Op) (vs : List Value) (k : Standing) → (machine_of p).look f.unit f.control ≡ Does (operation_of op) vs k → IsUndecided p.facts vs s.common op → IsStepped p (over f s) Undecided new
undecided p f s new op vs k e cause = (op, vs, s.common, ap does_in e, refl, cause)

abbrev top : Frame Standing → Common → List (Frame Standing) → List (List (Frame Standing)) → machine.State Standing
top f c fs os = record { common = c; frames = f ∷ fs; others = os }

done-so : (p : Program) (f : Frame Standing) (c : Common) (fs : List (Frame Standing)) (os : List (List (Frame Standing))) (op : Operation) (vs : List Value) (k : Standing) (next : machine.Next Standing) → (machine_of p).look f.unit f.control ≡ Does op vs k → Takes LibraryAnswers (machine_of p) (top f c fs os) f fs (Does op vs k) next → TakesTop LibraryAnswers (machine_of p) (top f c fs os) (f ∷ fs) next
done-so p f c fs os op vs k next e h = subst (λ x. Takes LibraryAnswers (machine_of p) (top f c fs os) f fs x next) (sym e) h

pub done-at : (p : Program) (f : Frame Standing) (c : Common) (fs : List (Frame Standing)) (os : List (List (Frame Standing))) (new : State) (op : Operation) (vs : List Value) (k : Standing) (effect : Effect) (d : Stepped) → (machine_of p).look f.unit f.control ≡ Does op vs k → Performs (facts_of p.facts) LibraryAnswers op vs (caller f fs) c effect → IsCarried d new (carried (machine_of p) (top f c fs os) f k fs effect) → StopsSame d c (common_of new.common) → IsStepped p (top f c fs os) d new
done-at p f c fs os new op vs k effect (Did n) e performs is same = done-so p f c fs os op vs k (next_of n new) e (effect, performs, sym is)
done-at p f c fs os new op vs k effect NeedsTick e performs is same = (done-so p f c fs os op vs k machine.NeedsTick e (effect, performs, is), same)
done-at p f c fs os new op vs k effect (Limit kind) e performs is same = (done-so p f c fs os op vs k (machine.Limit kind) e (effect, performs, is), same)
done-at p f c fs os new op vs k effect NoUnit e performs is same =
    record { f = f; fs = fs; op = op; vs = vs; k = k; effect = effect; frames = refl; asks = e; performs = performs; none = is }
done-at p f c fs os new op vs k effect Stuck e performs is same = absurd is
done-at p f c fs os new op vs k effect Undecided e performs is same = absurd is

pub done : (p : Program) (f : Frame Standing) (s new : State) (op : Operation) (vs : List Value) (k : Standing) (effect : Effect) (d : Stepped) → (machine_of p).look f.unit f.control ≡ Does op vs k → Performs (facts_of p.facts) LibraryAnswers op vs (caller f (calls_of s.calls.items)) (common_of s.common) effect → IsCarried d new (carried (machine_of p) (over f s) f k (calls_of s.calls.items) effect) → StopsSame d (common_of s.common) (common_of new.common) → IsStepped p (over f s) d new
done p f s new = done-at p f (common_of s.common) (calls_of s.calls.items) (others_of s) new

-- what an operation left as it was, in the words of states
pub stays-so : (effect : HeldEffect) (old new : HeldCommon) → EffectStays old new effect → Stays effect (common_of old) (common_of new)
stays-so (effects.Gives v) old new h = h
stays-so (effects.Fails e) old new h = h
stays-so (effects.Waits need) old new h = h
stays-so (effects.Enters unit args) old new h = h
stays-so (effects.Leaves v) old new h = h
stays-so (effects.Spawns spawned role given) old new h = h
stays-so effects.NoTick old new h = h
stays-so (effects.Beyond limit) old new h = h

-- two things that hold of a result
pub if-both : {A E : Type 0} (P Q R : A → Type 0) (r : Result A E) → ((a : A) → P a → Q a → R a) → IfOk r P → IfOk r Q → IfOk r R
if-both P Q R (Ok a) f h k = f a h k
if-both P Q R (Err e) f h k = h

-- the depth of the frame that asks
pub asks-so : (f : Frame Standing) (fs : List (Frame Standing)) (n : ℕ) → n ≡ length fs → caller f fs ≡ record { unit = f.unit; role = f.role; depth = n + 1 }
asks-so f fs n e = λ i. record { unit = f.unit; role = f.role; depth = deep (length fs) n e i }
  where
    deep : (m k : ℕ) → k ≡ m → suc m ≡ k + 1
    deep m k e = omega arith

module _ (p : Program) (call : Call) (s : State) (op : Op) (vs : List Value) (depth : ℕ) (deep : depth ≡ length s.calls.items + 1) (mid : HeldCommon) (cause : Type 0) where
  asked-so : caller (call_of call) (calls_of s.calls.items) ≡ caller_of (record { unit = call.unit; role = call.role; depth = depth })
  asked-so =
      asks-so (call_of call) (calls_of s.calls.items) (length s.calls.items) (sym (calls-length s.calls.items))
      ∙ (λ i. record { unit = call.unit; role = option_map role_of call.role; depth = sym deep i })

  -- what was done is an effect of the operation for the frame that asks
  pub performed-by : (effect : HeldEffect) → IsPerformed p.facts (operation_of op) vs (record { unit = call.unit; role = call.role; depth = depth }) s.common mid cause (effects_done.Done effect) → Performs (facts_of p.facts) LibraryAnswers (operation_of op) vs (caller (call_of call) (calls_of s.calls.items)) (common_of s.common) (effect_of effect mid)
  performed-by effect h = subst (λ a. Performs (facts_of p.facts) LibraryAnswers (operation_of op) vs a (common_of s.common) (effect_of effect mid)) (sym asked-so) h

  -- and there is none where it said so
  pub stuck-by : IsPerformed p.facts (operation_of op) vs (record { unit = call.unit; role = call.role; depth = depth }) s.common mid cause effects_done.Stuck → (effect : Effect) → ¬ (Performs (facts_of p.facts) LibraryAnswers (operation_of op) vs (caller (call_of call) (calls_of s.calls.items)) (common_of s.common) effect)
  stuck-by none effect h = none effect (subst (λ a. Performs (facts_of p.facts) LibraryAnswers (operation_of op) vs a (common_of s.common) effect) asked-so h)

-- ---- the last call of the running strand

abbrev framed : State → List (Frame Standing) → machine.State Standing
framed s fs = record { common = common_of s.common; frames = fs; others = others_of s }

pub at-last : (p : Program) (f : Frame Standing) (old mid new : State) (d : Stepped) → calls_of old.calls.items ≡ f ∷ calls_of mid.calls.items → common_of mid.common ≡ common_of old.common → others_of mid ≡ others_of old → IsStepped p (over f mid) d new → IsStepped p (state_of old) d new
at-last p f old mid new d e c o h =
    subst (λ s. IsStepped p s d new) (λ i. record { common = c i; frames = sym e i; others = o i }) h

pub at-none : (p : Program) (old new : State) → calls_of old.calls.items ≡ [] → IsStepped p (state_of old) Stuck new
at-none p old new e = λ next h. subst (λ fs. TakesTop LibraryAnswers (machine_of p) (framed old (calls_of old.calls.items)) fs next) e h

-- ---- an operation that was done

-- the calls and the other strands are as they were
pub finished : (p : Program) (a : Asking) (s mid new : State) (done : Performed) (op : Op) (vs : List Value) (d : Stepped) → IsFinished p a done mid d new → mid.calls ≡ s.calls → mid.others ≡ s.others → (machine_of p).look a.call.unit (standing_of a.call.frame) ≡ Does (operation_of op) vs (awaiting a) → IsPerformed p.facts (operation_of op) vs (caller_over a.call mid.calls.items) s.common mid.common (IsUndecided p.facts vs s.common op) done → left.Stays s.common mid.common done → s.common.running ≡ a.running → IsStepped p (over (call_of a.call) s) d new
finished p a s mid new done op vs d h calls others asks row stays running =
    subst (λ t. IsStepped p t d new) (λ i. record { common = common_of s.common; frames = call_of a.call ∷ calls_of (calls i).items; others = map (λ cs. calls_of cs.items) (others i).items }) (h s.common op vs asks row stays running)

pub ruleset answering = (at-last, at-none, moves, stuck)
