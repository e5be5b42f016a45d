-- What instructions do to numbers of messages, by their operations, and which of them spend a tick.
use Rattle.std.proofs.Common.{◌≡◌, ◌∙◌, ◌↔◌, ◌==◌, ℕ, Bool, true, false, Option, Some, None, IsTrue, ap, if◌then◌else◌, length, option_map, refl, slice_get, sym}
use Rattle.std.proofs.lemmas.Bool.{false≢true}
use Rattle.bal_base.specs.declared.text.Text.{Text}
use Rattle.operations.specs.declared.library.LibraryCall.{LibraryCall}
use Rattle.operations.specs.declared.operation.Constant.{Constant}
use Rattle.operations.specs.declared.operation.Constant.TheVariants.{Nil, Bool as Truth, Int, Str}
use Rattle.operations.specs.declared.operation.Operation.{Operation}
use Rattle.operations.specs.declared.operation.Operation.TheVariants as op
use Rattle.operations.specs.Talk.{Talk, Sends, Receives, Flushes, StartsWorkers, AwaitsWorkers, NoTalk, talk_of}
use Rattle.stack_code.specs.declared.code.Code.{Code}
use Rattle.stack_code.specs.declared.instr.Instr.{Instr}
use Rattle.stack_code.specs.declared.instr.Instr.TheVariants as instr
use Rattle.stack_code.specs.Commands.{Command, Do, command_in, command_of, library_calls, makes_list, of_call, of_name}
use Rattle.stack_code.specs.Flow.{IsBeforeWorkers, tally_behind, tally_landing, tally_then}
use Rattle.stack_code.specs.Places.{Tally}
use Rattle.needs_of_commands.proofs.Numbered.{called, mapped, named, of_command}
use Rattle.place_numbers.specs.declared.changes.Change.{Change}
use Rattle.place_numbers.specs.declared.changes.Change.TheVariants.{Begun, More}
use Rattle.place_numbers.specs.inner.Changing.{change_by, change_so, changed, more_of, thrown}
use Rattle.place_numbers.specs.inner.Parts.{tick_so}

-- ---- changes

abbrev change_in : Operation → Change
change_in o = change_by (talk_of o)

pub change-is : (code : Code) (o : Operation) (i : Instr) → command_of code i ≡ Some (Do o) → change_so i ≡ change_by (talk_of o)
change-is code o (instr.Const c) e = mapped change_in o op.Const (More None None) (λ k. refl) (slice_get code.constants c) e
change-is code o (instr.GetField c) e = named change_in o op.GetField (More None None) (λ name. refl) (slice_get code.constants c) e
change-is code o (instr.GetOptional c) e = named change_in o op.GetOptional (More None None) (λ name. refl) (slice_get code.constants c) e
change-is code o (instr.Test t) e = mapped change_in o op.Test (More None None) (λ type. refl) (slice_get code.tested t) e
change-is code o (instr.Cast t) e = mapped change_in o op.Cast (More None None) (λ type. refl) (slice_get code.tested t) e
change-is code o (instr.Call u) e = mapped change_in o (λ unit. op.Call u (length unit.params)) (More None None) (λ unit. refl) (slice_get code.units u) e
change-is code o (instr.StartCall u) e = mapped change_in o (λ unit. op.Start u (length unit.params)) (More None None) (λ unit. refl) (slice_get code.units u) e
change-is code o (instr.Native number atom count) e = called change_in o (More None None) atom count (λ call a. refl) (slice_get library_calls number) e
change-is code o i e = ap (of_command change_in o (More None None)) e

-- nothing more
stays : (tally : Option Tally) → option_map (more_of None None) tally ≡ tally
stays (Some t) = refl
stays None = refl

pub same-tally : (workers : ℕ) (tally : Option Tally) → changed workers (More None None) tally ≡ tally
same-tally workers tally = stays tally

then-is : (workers : ℕ) (talk : Talk) (tally : Option Tally) → tally_then workers talk tally ≡ changed workers (change_by talk) tally
then-is workers (Sends w) tally = refl
then-is workers (Receives w) tally = refl
then-is workers (Flushes w) tally = sym (stays tally)
then-is workers StartsWorkers tally = refl
then-is workers (AwaitsWorkers ws) tally = sym (stays tally)
then-is workers NoTalk tally = sym (stays tally)

pub behind-is : (workers : ℕ) (o : Operation) (tally : Option Tally) → tally_behind workers o tally ≡ changed workers (change_by (talk_of o)) tally
behind-is workers o tally = then-is workers (talk_of o) tally

-- ---- workers that are started

abbrev is-begun : Change → Bool
is-begun Begun = true
is-begun (More sent received) = false

starts-is : (talk : Talk) → change_by talk ≡ Begun → talk ≡ StartsWorkers
starts-is StartsWorkers e = refl
starts-is (Sends w) e = absurd (false≢true (ap is-begun e))
starts-is (Receives w) e = absurd (false≢true (ap is-begun e))
starts-is (Flushes w) e = absurd (false≢true (ap is-begun e))
starts-is (AwaitsWorkers ws) e = absurd (false≢true (ap is-begun e))
starts-is NoTalk e = absurd (false≢true (ap is-begun e))

pub unstarted-is : (change : Change) (o : Operation) (tally : Option Tally) → change ≡ change_by (talk_of o) → (change ≡ Begun → tally ≡ None) ↔ IsBeforeWorkers o tally
unstarted-is change o tally is = ((λ h e. h (is ∙ ap change_by e)), (λ h e. h (starts-is (talk_of o) (sym is ∙ e))))

pub more-unbegun : {A : Type 0} (sent received : Option ℕ) → More sent received ≡ Begun → A
more-unbegun sent received e = absurd (false≢true (ap is-begun e))

-- ---- where panics land

module _ (tally : Option Tally) where
  abbrev Kept : Option Command → Type 0
  Kept c = tally_landing c tally ≡ tally

  of-some : {A : Type 0} (f : A → Operation) → ((a : A) → Kept (Some (Do (f a)))) → (q : Option A) → Kept (option_map (λ a. Do (f a)) q)
  of-some f all (Some a) = all a
  of-some f all None = refl

  of-text : (f : Text → Operation) → ((a : Text) → Kept (Some (Do (f a)))) → (q : Option Constant) → Kept (of_name f q)
  of-text f all (Some (Str name)) = all name
  of-text f all (Some Nil) = refl
  of-text f all (Some (Truth b)) = refl
  of-text f all (Some (Int i)) = refl
  of-text f all None = refl

  of-library : (atom count : ℕ) (q : Option LibraryCall) → Kept (of_call atom count q)
  of-library atom count None = refl
  of-library atom count (Some call) = by (makes_list call) (atom == 0)
    where
      by : (b c : Bool) → Kept (if b then Some (Do (op.Library call (Some atom) count)) else if c then Some (Do (op.Library call None count)) else None)
      by true c = refl
      by false true = refl
      by false false = refl

  pub lands-is : (code : Code) (i : Instr) → tally_landing (command_of code i) tally ≡ changed 0 (thrown (change_so i)) tally
  lands-is code (instr.Send w) = refl
  lands-is code (instr.Post w) = refl
  lands-is code (instr.Receive w) = refl
  lands-is code (instr.Const c) = of-some op.Const (λ k. refl) (slice_get code.constants c) ∙ sym (stays tally)
  lands-is code (instr.GetField c) = of-text op.GetField (λ k. refl) (slice_get code.constants c) ∙ sym (stays tally)
  lands-is code (instr.GetOptional c) = of-text op.GetOptional (λ k. refl) (slice_get code.constants c) ∙ sym (stays tally)
  lands-is code (instr.Test t) = of-some op.Test (λ k. refl) (slice_get code.tested t) ∙ sym (stays tally)
  lands-is code (instr.Cast t) = of-some op.Cast (λ k. refl) (slice_get code.tested t) ∙ sym (stays tally)
  lands-is code (instr.Call u) = of-some (λ unit. op.Call u (length unit.params)) (λ k. refl) (slice_get code.units u) ∙ sym (stays tally)
  lands-is code (instr.StartCall u) = of-some (λ unit. op.Start u (length unit.params)) (λ k. refl) (slice_get code.units u) ∙ sym (stays tally)
  lands-is code (instr.Native number atom count) = of-library atom count (slice_get library_calls number) ∙ sym (stays tally)
  lands-is code i = sym (stays tally)

-- ---- ticks

abbrev tick_in : Operation → Bool
tick_in op.Tick = true
tick_in _ = false

is-tick : (code : Code) (i : Instr) → command_of code i ≡ Some (Do op.Tick) → tick_so i ≡ true
is-tick code (instr.Const c) e = mapped tick_in op.Tick op.Const false (λ k. refl) (slice_get code.constants c) e
is-tick code (instr.GetField c) e = named tick_in op.Tick op.GetField false (λ name. refl) (slice_get code.constants c) e
is-tick code (instr.GetOptional c) e = named tick_in op.Tick op.GetOptional false (λ name. refl) (slice_get code.constants c) e
is-tick code (instr.Test t) e = mapped tick_in op.Tick op.Test false (λ type. refl) (slice_get code.tested t) e
is-tick code (instr.Cast t) e = mapped tick_in op.Tick op.Cast false (λ type. refl) (slice_get code.tested t) e
is-tick code (instr.Call u) e = mapped tick_in op.Tick (λ unit. op.Call u (length unit.params)) false (λ unit. refl) (slice_get code.units u) e
is-tick code (instr.StartCall u) e = mapped tick_in op.Tick (λ unit. op.Start u (length unit.params)) false (λ unit. refl) (slice_get code.units u) e
is-tick code (instr.Native number atom count) e = called tick_in op.Tick false atom count (λ call a. refl) (slice_get library_calls number) e
is-tick code i e = ap (of_command tick_in op.Tick false) e

of-tick : (code : Code) (i : Instr) → tick_so i ≡ true → command_of code i ≡ Some (Do op.Tick)
of-tick code instr.Tick e = refl
of-tick code i e = absurd (false≢true e)

-- the instruction at a place
pub tick-at : (code : Code) (i : Instr) (q : Option Instr) (r : Bool) → q ≡ Some i → r ≡ tick_so i → IsTrue r ↔ (command_in code q ≡ Some (Do op.Tick))
tick-at code i q r at is = (
  (λ t. ap (command_in code) at ∙ of-tick code i (sym is ∙ t)),
  (λ e. is ∙ is-tick code i (sym (ap (command_in code) at) ∙ e)),
)

abbrev is-some : Option Command → Bool
is-some (Some c) = true
is-some None = false

pub no-tick : (code : Code) (q : Option Instr) → q ≡ None → IsTrue false ↔ (command_in code q ≡ Some (Do op.Tick))
no-tick code q at = ((λ t. absurd (false≢true t)), (λ e. absurd (false≢true (ap is-some (sym (ap (command_in code) at) ∙ e)))))
