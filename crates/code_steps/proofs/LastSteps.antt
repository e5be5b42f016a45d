-- What the last call asks for, and the steps that change it where it stands.
use Rattle.std.proofs.Common.{◌≡◌, ◌≤◌, ◌+◌, ◌-◌, ℕ, suc, zero, true, false, List, [], ◌∷◌, Option, Some, None, Result, Ok, Err, length, map, refl, sym, ap, subst, arith, ◌∙◌}
use Rattle.std.specs.Prelude.{IfOk, IfSome, option_map, option_to_list, slice_get}
use Rattle.std.proofs.lemmas.List.{length-reverse}
use Rattle.operations.specs.declared.operation.Operation.TheVariants as operation
use Rattle.value_model.specs.declared.value.Value.{Value}
use Rattle.op_model.specs.Common.{Common}
use Rattle.op_model.specs.Effects as model
use Rattle.op_model.specs.Library.{LibraryAnswers}
use Rattle.op_model.specs.Local.{captures}
use Rattle.op_model.specs.Performs.{Performs}
use Rattle.machine_model.specs.Machine as machine
use Rattle.machine_model.specs.Machine.{Does, Frame, Takes, TakesTop, asks, begun, caller, carried, given, goes_to, put}
use Rattle.machine_model.specs.Runs.{does_in}
use Rattle.stack_code.specs.CodeMachine.{Standing, obeys, standing}
use Rattle.held_operations.specs.Operation.{operation_of}
use Rattle.held_operations.specs.declared.op.Op.{Op}
use Rattle.held_operations.specs.declared.op.Op.TheVariants as ops
use Rattle.plain_run.specs.Effects as left
use Rattle.plain_run.specs.Effects.{effect_of}
use Rattle.plain_run.specs.Held.{caller_of, common_of, role_of}
use Rattle.plain_run.specs.ProgramFacts.{facts_of}
use Rattle.plain_run.specs.declared.effect.Effect.{Effect as HeldEffect}
use Rattle.plain_run.specs.declared.effect.Effect.TheVariants as effects
use Rattle.plain_run.specs.declared.effect.Performed.TheVariants as performed
use Rattle.plain_run.specs.declared.held.Caller.{Caller as HeldCaller}
use Rattle.plain_run.specs.declared.held.Common.{Common as HeldCommon}
use Rattle.code_frames.specs.Asking.{HasOperands, Stays, ask_of, awaits, last_values}
use Rattle.code_frames.specs.Frames.{standing_of}
use Rattle.code_frames.specs.Programs.{captured_in, command_at, machine_of}
use Rattle.code_frames.specs.declared.frame.Asked.{Asked}
use Rattle.code_frames.specs.declared.frame.Asked.TheVariants as asked
use Rattle.code_frames.specs.declared.held.Frame.{Frame as HeldFrame}
use Rattle.code_frames.specs.declared.held.Program.{Program}
use Rattle.code_steps.specs.Answered.{IsStepped}
use Rattle.code_steps.specs.inner.Lasts.{AsksLast, CapturesLast, Enough, EnoughLast, EntersLast, IsBegunFor, IsDoneFor, LooksLast, StepsFor, awaiting_last, given_last, values_last}
use Rattle.code_steps.specs.States.{call_of, calls_of, state_of}
use Rattle.code_steps.specs.Steps.{IsCarried, StopsSame, resumed}
use Rattle.code_steps.specs.declared.carrying.Stepped.{Stepped}
use Rattle.code_steps.specs.declared.carrying.Stepped.TheVariants.{NoUnit, Undecided}
use Rattle.code_steps.specs.declared.held.Call.{Call}
use Rattle.code_steps.specs.declared.held.State.{State}
use Rattle.code_steps.proofs.Answered.{done-at}

-- three things that hold of a result
pub if-three : {A E : Type 0} (P Q R S : A → Type 0) (r : Result A E) → ((a : A) → P a → Q a → R a → S a) → IfOk r P → IfOk r Q → IfOk r R → IfOk r S
if-three P Q R S (Ok a) f h k l = f a h k l
if-three P Q R S (Err e) f h k l = h

-- the state with these calls of the running strand
abbrev pub at : Common → List (Frame Standing) → List (List (Frame Standing)) → machine.State Standing
at c calls os = record { common = c; frames = calls; others = os }

-- ---- what it is about to do

enough-so : (a : Asked) (frame : HeldFrame) → HasOperands a frame.local → Enough a (standing_of frame)
enough-so asked.On frame h = tt
enough-so (asked.Does op n) frame h = subst (λ k. n ≤ k) (sym (length-reverse frame.local.stack.items)) h
enough-so asked.Captures frame h = tt
enough-so asked.Stuck frame h = tt

asks-none : (op : Op) (n : ℕ) → asked.Does op n ≡ asked.Stuck → ⊥
asks-none op n e = cc

captures-none : asked.Captures ≡ asked.Stuck → ⊥
captures-none e = cc

goes-none : asked.On ≡ asked.Stuck → ⊥
goes-none e = cc

module _ (p : Program) where
  looks-so : (f : Frame Standing) (fs new : List (Frame Standing)) (frame : HeldFrame) (a : Asked) → new ≡ goes_to f (standing_of frame) ∷ fs
      → ((slots : List ℕ) → obeys slots f.control (command_at p.steps.items f.control.place) ≡ ask_of slots a (standing_of frame))
      → Stays a f.control (standing_of frame) → HasOperands a frame.local → LooksLast p a (f ∷ fs) new
  looks-so f fs new frame a is looks stays enough = (standing_of frame, is, looks (captured_in p.units.items f.unit), stays, enough-so a frame enough)

  pub looks-there : (old new : List (Frame Standing)) (f : Frame Standing) (fs : List (Frame Standing)) (frame : HeldFrame) (a : Asked) → old ≡ f ∷ fs → new ≡ goes_to f (standing_of frame) ∷ fs
      → ((slots : List ℕ) → obeys slots f.control (command_at p.steps.items f.control.place) ≡ ask_of slots a (standing_of frame))
      → Stays a f.control (standing_of frame) → HasOperands a frame.local → LooksLast p a old new
  looks-there old new f fs frame a was is looks stays enough = subst (λ cs. LooksLast p a cs new) (sym was) (looks-so f fs new frame a is looks stays enough)

  pub asks-of : (op : Op) (n : ℕ) (old new : List (Frame Standing)) → LooksLast p (asked.Does op n) old new → AsksLast p op n old × (new ≡ old)
  asks-of op n [] new e = absurd (asks-none op n e)
  asks-of op n (f ∷ fs) new (now, is, looks, stays, enough) = (
    (looks ∙ (λ i. Does (operation_of op) (last_values n (stays i).local) (awaits n (stays i))), subst (λ (s : Standing). n ≤ length s.local.stack) stays enough),
    is ∙ ap (λ s. goes_to f s ∷ fs) stays,
  )

  pub captures-of : (old new : List (Frame Standing)) → LooksLast p asked.Captures old new → CapturesLast p old × (new ≡ old)
  captures-of [] new e = absurd (captures-none e)
  captures-of (f ∷ fs) new (now, is, looks, stays, enough) = (
    looks ∙ (λ i. asks (standing ((stays i).place + 1) (stays i).traps) (captures operation.Workers (stays i).local (captured_in p.units.items f.unit) [])),
    is ∙ ap (λ s. goes_to f s ∷ fs) stays,
  )

  pub stuck-of : (s : machine.State Standing) (next : machine.Next Standing) (old new : List (Frame Standing)) → LooksLast p asked.Stuck old new → ¬ (TakesTop LibraryAnswers (machine_of p) s old next)
  stuck-of s next [] new e = λ h. h
  stuck-of s next (f ∷ fs) new (now, is, looks, stays, enough) = λ h. subst (λ x. Takes LibraryAnswers (machine_of p) s f fs x next) looks h

  pub goes-of : (s : machine.State Standing) (old new : List (Frame Standing)) → LooksLast p asked.On old new → TakesTop LibraryAnswers (machine_of p) s old (machine.Moved (put s s.common new))
  goes-of s [] new e = absurd (goes-none e)
  goes-of s (f ∷ fs) new (now, is, looks, stays, enough) =
      subst (λ x. Takes LibraryAnswers (machine_of p) s f fs x (machine.Moved (put s s.common new))) (sym looks) (ap (λ l. machine.Moved (put s s.common l)) is)

  -- ---- an operation of it

  pub enough-of : (op : Op) (n : ℕ) (calls : List (Frame Standing)) → AsksLast p op n calls → EnoughLast n calls
  enough-of op n [] h = h
  enough-of op n (f ∷ fs) h = h.1

  module _ (op : Op) (n : ℕ) where
    -- the caller that was told is the frame that asks
    asked-by : (f : Frame Standing) (fs : List (Frame Standing)) (who : HeldCaller) (c : Common) (effect : model.Effect) → caller_of who ≡ caller f fs
        → Performs (facts_of p.facts) LibraryAnswers (operation_of op) (last_values n f.control.local) (caller_of who) c effect
        → Performs (facts_of p.facts) LibraryAnswers (operation_of op) (last_values n f.control.local) (caller f fs) c effect
    asked-by f fs who c effect is h = subst (λ a. Performs (facts_of p.facts) LibraryAnswers (operation_of op) (last_values n f.control.local) a c effect) is h

    pub stuck-done : (calls : List (Frame Standing)) (os : List (List (Frame Standing))) (old mid : HeldCommon) → AsksLast p op n calls → IsDoneFor p op n calls old mid performed.Stuck → (next : machine.Next Standing) → ¬ (TakesTop LibraryAnswers (machine_of p) (at (common_of old) calls os) calls next)
    stuck-done [] os old mid h done next = absurd h
    stuck-done (f ∷ fs) os old mid h (who, is, none) next = λ takes. by next (subst (λ x. Takes LibraryAnswers (machine_of p) (at (common_of old) (f ∷ fs) os) f fs x next) h.0 takes)
      where
        by : (next : machine.Next Standing) → Takes LibraryAnswers (machine_of p) (at (common_of old) (f ∷ fs) os) f fs (Does (operation_of op) (last_values n f.control.local) (awaits n f.control)) next → ⊥
        by next (effect, performs, c) =
            none effect (subst (λ a. Performs (facts_of p.facts) LibraryAnswers (operation_of op) (last_values n f.control.local) a (common_of old) effect) (sym is) performs)

    pub undecided-done : (calls : List (Frame Standing)) (os : List (List (Frame Standing))) (old mid : HeldCommon) (new : State) → AsksLast p op n calls → IsDoneFor p op n calls old mid performed.Undecided → IsStepped p (at (common_of old) calls os) Undecided new
    undecided-done [] os old mid new h done = absurd h
    undecided-done (f ∷ fs) os old mid new h (who, is, cause) = (op, last_values n f.control.local, old, ap does_in h.0, refl, cause)

    pub gives-done : (calls : List (Frame Standing)) (os : List (List (Frame Standing))) (old mid : HeldCommon) (gave : Option Value) → AsksLast p op n calls → IsDoneFor p op n calls old mid (performed.Done (effects.Gives gave))
        → TakesTop LibraryAnswers (machine_of p) (at (common_of old) calls os) calls (machine.Moved (at (common_of mid) (given_last n (option_to_list gave) calls) os))
    gives-done [] os old mid gave h done = absurd h
    gives-done (f ∷ fs) os old mid gave h (who, is, done) =
        subst (λ x. Takes LibraryAnswers (machine_of p) (at (common_of old) (f ∷ fs) os) f fs x (machine.Moved (at (common_of mid) (given_last n (option_to_list gave) (f ∷ fs)) os))) (sym h.0)
        (model.Gives (option_to_list gave) (common_of mid), asked-by f fs who (common_of old) (model.Gives (option_to_list gave) (common_of mid)) is done, refl)

    pub carried-done : (f : Frame Standing) (fs : List (Frame Standing)) (os : List (List (Frame Standing))) (old mid : HeldCommon) (effect : HeldEffect) (d : Stepped) (new : State)
        → AsksLast p op n (f ∷ fs) → IsDoneFor p op n (f ∷ fs) old mid (performed.Done effect)
        → IsCarried d new (carried (machine_of p) (at (common_of old) (f ∷ fs) os) f (awaits n f.control) fs (effect_of effect mid)) → StopsSame d (common_of old) (common_of new.common)
        → IsStepped p (at (common_of old) (f ∷ fs) os) d new
    carried-done f fs os old mid effect d new h (who, is, done) c same =
        done-at p f (common_of old) fs os new (operation_of op) (last_values n f.control.local) (awaits n f.control) (effect_of effect mid) d h.0 (asked-by f fs who (common_of old) (effect_of effect mid) is done) c same

  -- ---- calls and returns

  pub enters-done : (unit k n : ℕ) (calls new : List (Frame Standing)) (c : Common) (os : List (List (Frame Standing))) → AsksLast p (ops.Call unit k) n calls → EntersLast p unit n calls true new
      → TakesTop LibraryAnswers (machine_of p) (at c calls os) calls (machine.Moved (at c new os))
  enters-done unit k n [] new c os h enters = absurd h
  enters-done unit k n (f ∷ fs) new c os h (g, begins, is) =
      let vs = last_values n f.control.local in
      subst (λ x. Takes LibraryAnswers (machine_of p) (at c (f ∷ fs) os) f fs x (machine.Moved (at c new os))) (sym h.0)
      (model.Enters unit vs c, refl, ap (option_map (λ g. machine.Moved (at c (g ∷ goes_to f (awaits n f.control) ∷ fs) os))) begins ∙ ap (λ l. Some (machine.Moved (at c l os))) (sym is))

  pub enters-none : (unit k n : ℕ) (calls new : List (Frame Standing)) (c : Common) (os : List (List (Frame Standing))) (t : State) → AsksLast p (ops.Call unit k) n calls → EntersLast p unit n calls false new
      → IsStepped p (at c calls os) NoUnit t
  enters-none unit k n [] new c os t h none = absurd h
  enters-none unit k n (f ∷ fs) new c os t h none =
      let vs = last_values n f.control.local in
      record {
        f = f;
        fs = fs;
        op = operation.Call unit k;
        vs = vs;
        k = awaits n f.control;
        effect = model.Enters unit vs c;
        frames = refl;
        asks = h.0;
        performs = refl;
        none = ap (option_map (λ g. machine.Moved (at c (g ∷ goes_to f (awaits n f.control) ∷ fs) os))) none;
      }

  pub leaves-done : (n : ℕ) (f : Frame Standing) (fs : List (Frame Standing)) (os : List (List (Frame Standing))) (c : Common) (v : Value) (d : Stepped) (new : State) → AsksLast p ops.Return n (f ∷ fs) → values_last n (f ∷ fs) ≡ v ∷ []
      → IsCarried d new (carried (machine_of p) (at c (f ∷ fs) os) f (awaits n f.control) fs (model.Leaves v)) → StopsSame d c (common_of new.common) → IsStepped p (at c (f ∷ fs) os) d new
  leaves-done n f fs os c v d new h one carries same =
      done-at p f c fs os new operation.Return (last_values n f.control.local) (awaits n f.control) (model.Leaves v) d h.0
      (subst (λ vs. Performs (facts_of p.facts) LibraryAnswers operation.Return vs (caller f fs) c (model.Leaves v)) (sym one) refl) carries same

-- ---- how it stands among the calls

-- the call that asks, as an operation knows it
pub caller-so : (call : Call) (below : List (Frame Standing)) (depth : ℕ) → length below + 1 ≡ depth → caller_of (record { unit = call.unit; role = call.role; depth = depth }) ≡ caller (call_of call) below
caller-so call below depth e = λ i. record { unit = call.unit; role = option_map role_of call.role; depth = deep (length below) depth e i }
  where
    deep : (m k : ℕ) → m + 1 ≡ k → k ≡ suc m
    deep m k e = omega arith

-- what waits in it is enough
pub has-enough : (n : ℕ) (calls below : List (Frame Standing)) (call : Call) → calls ≡ call_of call ∷ below → EnoughLast n calls → n ≤ length call.frame.local.stack.items
has-enough n calls below call is h = subst (λ k. n ≤ k) (length-reverse call.frame.local.stack.items) (subst (EnoughLast n) is h)

pub has-call : (n : ℕ) (calls : List (Frame Standing)) → calls ≡ [] → EnoughLast n calls → ⊥
has-call n calls is h = subst (EnoughLast n) is h

-- ---- an operation that was done: the calls and the other strands are as they were
pub performed-so : (p : Program) (op : Op) (n running : ℕ) (s mid new : State) (effect : HeldEffect) (d : Stepped) → StepsFor p n running effect mid d new → mid.calls ≡ s.calls → mid.others ≡ s.others
    → AsksLast p op n (calls_of s.calls.items) → IsDoneFor p op n (calls_of s.calls.items) s.common mid.common (performed.Done effect) → left.Stays s.common mid.common (performed.Done effect) → s.common.running ≡ running
    → IsStepped p (state_of s) d new
performed-so p op n running s mid new effect d h calls others asks done stays is =
    subst (λ t. IsStepped p t d new) (λ i. record { common = common_of s.common; frames = calls_of (calls i).items; others = map (λ cs. calls_of cs.items) (others i).items })
    (h op s.common (subst (λ cs. AsksLast p op n (calls_of cs.items)) (sym calls) asks) (subst (λ cs. IsDoneFor p op n (calls_of cs.items) s.common mid.common (performed.Done effect)) (sym calls) done) stays is)

-- ---- the last one is changed

pub captures-none-of : (p : Program) (calls : List (Frame Standing)) → calls ≡ [] → CapturesLast p calls → ⊥
captures-none-of p calls is h = subst (CapturesLast p) is h

pub awaits-so : (n : ℕ) (old new below : List (Frame Standing)) (f : Frame Standing) (s : Standing) → old ≡ f ∷ below → new ≡ goes_to f s ∷ below → s ≡ awaits n f.control → new ≡ awaiting_last n old
awaits-so n old new below f s was is e = is ∙ ap (λ t. goes_to f t ∷ below) e ∙ ap (awaiting_last n) (sym was)

pub gives-so : (n : ℕ) (vs : List Value) (old new below : List (Frame Standing)) (f : Frame Standing) (s t : Standing) → old ≡ f ∷ below → new ≡ goes_to f t ∷ below → s ≡ awaits n f.control → t ≡ resumed s vs → new ≡ given_last n vs old
gives-so n vs old new below f s t was is e h = is ∙ ap (λ k. goes_to f k ∷ below) (h ∙ ap (λ k. resumed k vs) e) ∙ ap (given_last n vs) (sym was)

pub begun-so : (p : Program) (unit n : ℕ) (calls below : List (Frame Standing)) (call : Call) (vs : List Value) (g : Option Call) → calls ≡ call_of call ∷ below → vs ≡ last_values n (standing_of call.frame).local
    → option_map call_of g ≡ begun (machine_of p) unit vs None → IsBegunFor p unit n calls g
begun-so p unit n calls below call vs g is e h = h ∙ ap (λ ws. begun (machine_of p) unit ws None) (e ∙ ap (values_last n) (sym is))

pub values-so : (n : ℕ) (calls below : List (Frame Standing)) (call : Call) (vs : List Value) → calls ≡ call_of call ∷ below → vs ≡ last_values n (standing_of call.frame).local
    → (r : Option Value) → IfSome r (λ v. vs ≡ v ∷ []) → IfSome r (λ v. values_last n calls ≡ v ∷ [])
values-so n calls below call vs is e (Some v) h = ap (values_last n) is ∙ sym e ∙ h
values-so n calls below call vs is e None h = h

pub given-so : (p : Program) (v : Value) (old new below : List (Frame Standing)) (f : Frame Standing) (s : Standing) → old ≡ f ∷ below → new ≡ goes_to f s ∷ below → s ≡ resumed f.control (v ∷ []) → new ≡ given (machine_of p) v old
given-so p v old new below f s was is e = is ∙ ap (λ k. goes_to f k ∷ below) e ∙ ap (given (machine_of p) v) (sym was)

-- there is none where none was lent
some-none : (c : Call) → Some c ≡ None → ⊥
some-none c h = cc

last-there : (c : Call) (cs : List Call) (n : ℕ) → n ≡ length cs → slice_get (c ∷ cs) n ≡ None → ⊥
last-there c [] zero e h = some-none c h
last-there c [] (suc n) e h = absurd (omega (arith, e))
last-there c (d ∷ cs) zero e h = absurd (omega (arith, e))
last-there c (d ∷ cs) (suc n) e h = last-there d cs n (omega (arith, e)) h

less-one : (c : Call) (cs : List Call) → length (c ∷ cs) - 1 ≡ length cs
less-one c cs = omega arith

pub no-call : (cs ds : List Call) → ds ≡ cs → slice_get ds (length ds - 1) ≡ None → calls_of cs ≡ []
no-call [] ds e h = refl
no-call (c ∷ cs) ds e h = absurd (last-there c cs (length (c ∷ cs) - 1) (less-one c cs) (subst (λ xs. slice_get xs (length xs - 1) ≡ None) e h))
