-- Instructions that go nowhere, and places without an instruction.
use Rattle.std.proofs.Common.{◌≡◌, ◌==◌, ℕ, Bool, true, false, Option, Some, None, ap, if◌then◌else◌, length, option_map, refl, slice_get, subst, sym}
use Rattle.bal_base.specs.declared.text.Text.{Text}
use Rattle.operations.specs.declared.library.LibraryCall.{LibraryCall}
use Rattle.operations.specs.declared.operation.Constant.{Constant}
use Rattle.operations.specs.declared.operation.Constant.TheVariants.{Nil, Bool as Truth, Int, Str}
use Rattle.operations.specs.declared.operation.Operation.{Operation}
use Rattle.operations.specs.declared.operation.Operation.TheVariants as op
use Rattle.stack_code.specs.declared.instr.Instr.{Instr}
use Rattle.stack_code.specs.declared.instr.Instr.TheVariants as instr
use Rattle.stack_code.specs.Commands.{Command, Do, command_at, command_in, command_of, library_calls, makes_list, of_call, of_name}
use Rattle.code_needs.specs.Combining.{Needs, of_some}
use Rattle.code_needs.specs.PlaceNeeds.{command_needs}
use Rattle.needs_of_rows.specs.declared.found.Found.{Found}
use Rattle.needs_of_rows.specs.Finding.{Finds}
use Rattle.needs_of_rows.proofs.Finding.{found-as}
use Rattle.needs_of_places.specs.declared.site.Site.{Site}
use Rattle.needs_of_places.specs.Sites.{station_of}
use Rattle.needs_of_commands.specs.inner.Doing.{doing}

module _ (site : Site) (p : ℕ) where
  abbrev pub at_place : Option Command → Needs
  at_place c = of_some c (command_needs site.code.now site.unit.now (station_of site) p)

  abbrev Same : Option Command → Type 0
  Same c = doing site p c ≡ at_place c

  mapped : {A : Type 0} (f : A → Operation) (q : Option A) → Same (option_map (λ a. Do (f a)) q)
  mapped f (Some a) = refl
  mapped f None = refl

  named : (f : Text → Operation) (q : Option Constant) → Same (of_name f q)
  named f (Some (Str name)) = refl
  named f (Some Nil) = refl
  named f (Some (Truth b)) = refl
  named f (Some (Int i)) = refl
  named f None = refl

  called : (atom count : ℕ) (q : Option LibraryCall) → Same (of_call atom count q)
  called atom count None = refl
  called atom count (Some call) = by (makes_list call) (atom == 0)
    where
      by : (b c : Bool) → Same (if b then Some (Do (op.Library call (Some atom) count)) else if c then Some (Do (op.Library call None count)) else None)
      by true c = refl
      by false true = refl
      by false false = refl

  pub done : (i : Instr) → ((to : ℕ) → i ≡ instr.Jump to → ⊥) → ((to : ℕ) → i ≡ instr.JumpIfNot to → ⊥) → ((to : ℕ) → i ≡ instr.Trap to → ⊥) → (i ≡ instr.Untrap → ⊥)
      → doing site p (command_of site.code.now i) ≡ at_place (command_of site.code.now i)
  done (instr.Jump to) a b c d = absurd (a to refl)
  done (instr.JumpIfNot to) a b c d = absurd (b to refl)
  done (instr.Trap to) a b c d = absurd (c to refl)
  done instr.Untrap a b c d = absurd (d refl)
  done (instr.Const c) e f g h = mapped op.Const (slice_get site.code.now.constants c)
  done (instr.GetField c) e f g h = named op.GetField (slice_get site.code.now.constants c)
  done (instr.GetOptional c) e f g h = named op.GetOptional (slice_get site.code.now.constants c)
  done (instr.Test t) e f g h = mapped op.Test (slice_get site.code.now.tested t)
  done (instr.Cast t) e f g h = mapped op.Cast (slice_get site.code.now.tested t)
  done (instr.Call u) e f g h = mapped (λ unit. op.Call u (length unit.params)) (slice_get site.code.now.units u)
  done (instr.StartCall u) e f g h = mapped (λ unit. op.Start u (length unit.params)) (slice_get site.code.now.units u)
  done (instr.Native number atom count) e f g h = called atom count (slice_get library_calls number)
  done i e f g h = refl

  -- an instruction by another name
  pub goes-so : (i j : Instr) (old new : Found) → i ≡ j → Finds (at_place (command_of site.code.now j)) old new → Finds (at_place (command_of site.code.now i)) old new
  goes-so i j old new is finds = subst (λ (k : Instr). Finds (at_place (command_of site.code.now k)) old new) (sym is) finds

  pub placed : (i : Instr) (old new : Found) → slice_get site.code.now.instrs p ≡ Some i → Finds (at_place (command_of site.code.now i)) old new → Finds (at_place (command_at site.code.now p)) old new
  placed i old new at finds = found-as (at_place (command_of site.code.now i)) (at_place (command_at site.code.now p)) old new (ap (λ (q : Option Instr). at_place (command_in site.code.now q)) (sym at)) finds

  pub unplaced : (old new : Found) → slice_get site.code.now.instrs p ≡ None → Finds None old new → Finds (at_place (command_at site.code.now p)) old new
  unplaced old new at finds = found-as None (at_place (command_at site.code.now p)) old new (ap (λ (q : Option Instr). at_place (command_in site.code.now q)) (sym at)) finds
