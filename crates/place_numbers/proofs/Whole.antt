-- The numbers of a place by those of its instruction.
use Rattle.std.proofs.Common.{◌≡◌, ◌∙◌, ◌↔◌, ◌≤◌, ◌-◌, ◌+◌, ◌==◌, ℕ, zero, suc, Bool, true, false, List, [], ◌∷◌, Option, Some, None, IsTrue, ap, arith, if◌then◌else◌, length, option_map, refl, slice_get, subst, sym, take}
use Rattle.std.specs.Prelude.{⊤}
use Rattle.std.proofs.lemmas.Bool.{false≢true}
use Rattle.bal_base.specs.declared.text.Text.{Text}
use Rattle.type_model.specs.declared.basic.SemType.{SemType}
use Rattle.operations.specs.declared.library.LibraryCall.{LibraryCall}
use Rattle.operations.specs.declared.operation.Constant.{Constant}
use Rattle.operations.specs.declared.operation.Constant.TheVariants.{Nil, Bool as Truth, Int, Str}
use Rattle.operations.specs.declared.operation.Operation.{Operation}
use Rattle.operations.specs.declared.operation.Operation.TheVariants as op
use Rattle.operations.specs.Talk.{talk_of}
use Rattle.machine_model.specs.Following.{EndsFrame}
use Rattle.stack_code.specs.declared.code.Code.{Code}
use Rattle.stack_code.specs.declared.code.Unit.{Unit as CodeUnit}
use Rattle.stack_code.specs.declared.instr.Instr.{Instr}
use Rattle.stack_code.specs.declared.instr.Instr.TheVariants as instr
use Rattle.stack_code.specs.Commands.{Command, CloseTrap, Do, GoTo, GoToIfNot, OpenTrap, command_of, library_calls, makes_list, of_call, of_name}
use Rattle.stack_code.specs.Flow.{tally_behind, workers_here}
use Rattle.stack_code.specs.Places.{Station, Tally, tally_at}
use Rattle.code_needs.specs.PlaceNeeds.{BranchPasses, CommandPasses, DoesPass, Reaches}
use Rattle.code_needs.specs.Stacks.{ends, front_of, operand_count, rest_of}
use Rattle.place_numbers.specs.declared.changes.Change.{Change}
use Rattle.place_numbers.specs.inner.Changing.{change_by, changed}
use Rattle.place_numbers.specs.inner.Parts.{BranchParts, ReachesSo, TellsInstr}
use Rattle.place_numbers.proofs.Carried.{behind-is}
use Rattle.place_numbers.proofs.Counted.{of-there}

-- ---- ends of frames

pub ended-frame : (o : Operation) → ends o ≡ true → EndsFrame o
ended-frame op.Return e = tt
ended-frame op.Panic e = tt
ended-frame o e = absurd (false≢true e)

pub goes-frame : (o : Operation) → ends o ≡ false → EndsFrame o → ⊥
goes-frame op.Return e f = false≢true (sym e)
goes-frame op.Panic e f = false≢true (sym e)
goes-frame o e f = f

-- ---- how much stays

take-long : {A : Type 0} (k : ℕ) (xs : List A) → k ≤ length xs → length (take k xs) ≡ k
take-long zero xs le = refl
take-long (suc k) [] le = absurd (omega (arith, le))
take-long (suc k) (x ∷ xs) le = ap suc (take-long k xs (omega (arith, le)))

pub rest-long : (o : Operation) (stack types : List SemType) (count below : ℕ) → types ≡ stack → count ≡ operand_count o → below ≡ length types - count → length (rest_of o stack) ≡ below
rest-long o stack types count below same counted is =
    take-long (length stack - operand_count o) stack (omega arith) ∙ sym (is ∙ (λ i. length (same i) - counted i))

fronts : (types : List SemType) → length (front_of types) ≡ length types - 1
fronts [] = refl
fronts (t ∷ []) = refl
fronts (t ∷ s ∷ more) =
    let rest : length (front_of (s ∷ more)) ≡ length (s ∷ more) - 1 = fronts (s ∷ more) in
    omega (arith, rest)

pub front-long : (stack types : List SemType) (below : ℕ) → types ≡ stack → below ≡ length types - 1 → length (front_of stack) ≡ below
front-long stack types below same is = fronts stack ∙ sym (is ∙ (λ i. length (same i) - 1))

module _ (code : Code) (u : CodeUnit) (station : Station) (p : ℕ) where
  -- ---- where it goes on

  pub next-so : (o : Operation) (change : Change) → change ≡ change_by (talk_of o) → (r : Bool) → IsTrue r ↔ ((¬ (EndsFrame o)) → ReachesSo code u station p (p + 1) change)
      → IsTrue r ↔ ((¬ (EndsFrame o)) → Reaches code u station p (p + 1) (tally_behind (workers_here code u station) o (tally_at code p)))
  next-so o change is r h =
      let w = workers_here code u station in
      let t = tally_at code p in
      let same : changed w change t ≡ tally_behind w o t = ap (λ (x : Change). changed w x t) is ∙ sym (behind-is w o t) in
      subst (λ (q : Option Tally). IsTrue r ↔ ((¬ (EndsFrame o)) → Reaches code u station p (p + 1) q)) same h

  pub branch-as : (to : ℕ) (r : Bool) → IsTrue r ↔ BranchParts code u station p to → IsTrue r ↔ BranchPasses code u station p to
  branch-as to r h = ((λ t. let q = h.0 t in record { kept = q.0; lands = q.1; next = q.2; other = q.3 }), (λ b. h.1 (b.kept, b.lands, b.next, b.other)))

  -- ---- instructions

  -- by another name
  pub by-command : (i j : Instr) (c : Command) (r : Bool) → i ≡ j → command_of code j ≡ Some c → IsTrue r ↔ CommandPasses code u station p c → TellsInstr code u station p i r
  by-command i j c r is f h = λ command e.
      subst (λ (x : Command). IsTrue r ↔ CommandPasses code u station p x) (of-there c command (sym f ∙ sym (ap (command_of code) is) ∙ e)) h

  abbrev Done : Option Command → Type 0
  Done (Some (Do o)) = ⊤
  Done (Some (GoTo to)) = ⊥
  Done (Some (GoToIfNot to)) = ⊥
  Done (Some (OpenTrap to)) = ⊥
  Done (Some CloseTrap) = ⊥
  Done None = ⊤

  of-some : {A : Type 0} (f : A → Operation) (q : Option A) → Done (option_map (λ a. Do (f a)) q)
  of-some f (Some a) = tt
  of-some f None = tt

  of-text : (f : Text → Operation) (q : Option Constant) → Done (of_name f q)
  of-text f (Some (Str name)) = tt
  of-text f (Some Nil) = tt
  of-text f (Some (Truth b)) = tt
  of-text f (Some (Int i)) = tt
  of-text f None = tt

  of-library : (atom count : ℕ) (q : Option LibraryCall) → Done (of_call atom count q)
  of-library atom count None = tt
  of-library atom count (Some call) = by (makes_list call) (atom == 0)
    where
      by : (b c : Bool) → Done (if b then Some (Do (op.Library call (Some atom) count)) else if c then Some (Do (op.Library call None count)) else None)
      by true c = tt
      by false true = tt
      by false false = tt

  done-so : (i : Instr) → ((to : ℕ) → i ≡ instr.Jump to → ⊥) → ((to : ℕ) → i ≡ instr.JumpIfNot to → ⊥) → ((to : ℕ) → i ≡ instr.Trap to → ⊥) → (i ≡ instr.Untrap → ⊥) → Done (command_of code i)
  done-so (instr.Jump to) a b c d = absurd (a to refl)
  done-so (instr.JumpIfNot to) a b c d = absurd (b to refl)
  done-so (instr.Trap to) a b c d = absurd (c to refl)
  done-so instr.Untrap a b c d = absurd (d refl)
  done-so (instr.Const k) a b c d = of-some op.Const (slice_get code.constants k)
  done-so (instr.GetField k) a b c d = of-text op.GetField (slice_get code.constants k)
  done-so (instr.GetOptional k) a b c d = of-text op.GetOptional (slice_get code.constants k)
  done-so (instr.Test t) a b c d = of-some op.Test (slice_get code.tested t)
  done-so (instr.Cast t) a b c d = of-some op.Cast (slice_get code.tested t)
  done-so (instr.Call v) a b c d = of-some (λ unit. op.Call v (length unit.params)) (slice_get code.units v)
  done-so (instr.StartCall v) a b c d = of-some (λ unit. op.Start v (length unit.params)) (slice_get code.units v)
  done-so (instr.Native number atom count) a b c d = of-library atom count (slice_get library_calls number)
  done-so i a b c d = tt

  pub by-done : (i : Instr) → ((to : ℕ) → i ≡ instr.Jump to → ⊥) → ((to : ℕ) → i ≡ instr.JumpIfNot to → ⊥) → ((to : ℕ) → i ≡ instr.Trap to → ⊥) → (i ≡ instr.Untrap → ⊥) → (r : Bool)
      → ((o : Operation) → command_of code i ≡ Some (Do o) → IsTrue r ↔ DoesPass code u station p o) → TellsInstr code u station p i r
  by-done i a b c d r h = λ command e. by command e (subst Done e (done-so i a b c d))
    where
      by : (command : Command) → command_of code i ≡ Some command → Done (Some command) → IsTrue r ↔ CommandPasses code u station p command
      by (Do o) e k = h o e
      by (GoTo to) e k = absurd k
      by (GoToIfNot to) e k = absurd k
      by (OpenTrap to) e k = absurd k
      by CloseTrap e k = absurd k
