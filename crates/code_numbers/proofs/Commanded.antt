-- What instructions do to traps.
use Rattle.std.proofs.Common.{◌≡◌, ◌≢◌, ℕ, Bool, true, false, List, [], ◌∷◌, Option, Some, None, if◌then◌else◌, length, option_map, refl, slice_get, ◌==◌}
use Rattle.operations.specs.declared.library.LibraryCall.{LibraryCall}
use Rattle.operations.specs.declared.operation.Constant.{Constant}
use Rattle.operations.specs.declared.operation.Constant.TheVariants.{Nil, Bool as Truth, Int, Str}
use Rattle.operations.specs.declared.operation.Operation.{Operation}
use Rattle.operations.specs.declared.operation.Operation.TheVariants as op
use Rattle.stack_code.specs.declared.code.Code.{Code}
use Rattle.stack_code.specs.declared.instr.Instr.{Instr}
use Rattle.stack_code.specs.declared.instr.Instr.TheVariants.{Const, GetField, GetOptional, Test, Cast, Call, Native, Trap, Untrap, StartCall}
use Rattle.stack_code.specs.Commands.{Command, CloseTrap, Do, command_of, library_calls, makes_list, of_call, of_name}
use Rattle.stack_code.specs.Places.{traps_behind}
use Rattle.bal_base.specs.declared.text.Text.{Text}
use Rattle.code_numbers.specs.inner.Behind.{outer, trap_step}

module _ (p : ℕ) (ts : List ℕ) where
  -- nothing changes
  abbrev Stays : Option Command → Type 0
  Stays c = traps_behind p c ts ≡ Some ts

  of-some : {A : Type 0} (f : A → Operation) (o : Option A) → Stays (option_map (λ a. Do (f a)) o)
  of-some f (Some a) = refl
  of-some f None = refl

  named : (f : Text → Operation) (o : Option Constant) → Stays (of_name f o)
  named f (Some (Str name)) = refl
  named f (Some Nil) = refl
  named f (Some (Truth b)) = refl
  named f (Some (Int i)) = refl
  named f None = refl

  called : (atom count : ℕ) (o : Option LibraryCall) → Stays (of_call atom count o)
  called atom count None = refl
  called atom count (Some call) = by (makes_list call) (atom == 0)
    where
      by : (b c : Bool) → Stays (if b then Some (Do (op.Library call (Some atom) count)) else if c then Some (Do (op.Library call None count)) else None)
      by true c = refl
      by false true = refl
      by false false = refl

  pub told : (code : Code) (i : Instr) → traps_behind p (command_of code i) ts ≡ trap_step p i ts
  told code (Trap l) = refl
  told code Untrap = closes ts
    where
      closes : (us : List ℕ) → traps_behind p (Some CloseTrap) us ≡ outer us
      closes [] = refl
      closes (u ∷ us) = refl
  told code (Const c) = of-some op.Const (slice_get code.constants c)
  told code (GetField c) = named op.GetField (slice_get code.constants c)
  told code (GetOptional c) = named op.GetOptional (slice_get code.constants c)
  told code (Test t) = of-some op.Test (slice_get code.tested t)
  told code (Cast t) = of-some op.Cast (slice_get code.tested t)
  told code (Call u) = of-some (λ unit. op.Call u (length unit.params)) (slice_get code.units u)
  told code (StartCall u) = of-some (λ unit. op.Start u (length unit.params)) (slice_get code.units u)
  told code (Native number atom count) = called atom count (slice_get library_calls number)
  told code i = refl

  -- neither a trap nor its end
  pub plain : (i : Instr) → ((l : _) → i ≢ Trap l) → i ≢ Untrap → trap_step p i ts ≡ Some ts
  plain (Trap l) n m = absurd (n l refl)
  plain Untrap n m = absurd (m refl)
  plain i n m = refl
