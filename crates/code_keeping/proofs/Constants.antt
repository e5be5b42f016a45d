-- The constant that a command gives stands in the code's table.
use Rattle.std.proofs.Common.{◌≡◌, ◌∙◌, ℕ, Bool, true, false, Option, Some, None, length, ap, refl}
use Rattle.std.specs.Prelude.{◌==◌, if◌then◌else◌, option_map, slice_get}
use Rattle.bal_base.specs.declared.text.Text.{Text}
use Rattle.operations.specs.declared.library.LibraryCall.{LibraryCall}
use Rattle.operations.specs.declared.operation.Constant.{Constant}
use Rattle.operations.specs.declared.operation.Constant.TheVariants.{Nil, Bool as Truth, Int, Str}
use Rattle.operations.specs.declared.operation.Operation.{Operation}
use Rattle.operations.specs.declared.operation.Operation.TheVariants as op
use Rattle.stack_code.specs.declared.code.Code.{Code}
use Rattle.stack_code.specs.declared.instr.Instr.{Instr}
use Rattle.stack_code.specs.declared.instr.Instr.TheVariants as instr
use Rattle.stack_code.specs.Commands.{Command, Do, command_at, command_in, command_of, library_calls, makes_list, of_call, of_name}

abbrev Gives : Constant → Option Command → Type 0
Gives k r = r ≡ Some (Do (op.Const k))

module _ (k : Constant) where
  no-name : (f : Text → Operation) → ((name : Text) → Gives k (Some (Do (f name))) → ⊥) → (r : Option Constant) → Gives k (of_name f r) → ⊥
  no-name f never (Some (Str name)) e = never name e
  no-name f never (Some Nil) e = let q : ⊥ = cc in q
  no-name f never (Some (Truth b)) e = let q : ⊥ = cc in q
  no-name f never (Some (Int i)) e = let q : ⊥ = cc in q
  no-name f never None e = let q : ⊥ = cc in q

  no-mapped : {X : Type 0} (f : X → Command) → ((x : X) → Gives k (Some (f x)) → ⊥) → (r : Option X) → Gives k (option_map f r) → ⊥
  no-mapped f never (Some x) e = never x e
  no-mapped f never None e = let q : ⊥ = cc in q

  no-call : (atom count : ℕ) (r : Option LibraryCall) → Gives k (of_call atom count r) → ⊥
  no-call atom count None e = let q : ⊥ = cc in q
  no-call atom count (Some call) e = by (makes_list call) (atom == 0) e
    where
      by : (b d : Bool) → Gives k (if b then Some (Do (op.Library call (Some atom) count)) else if d then Some (Do (op.Library call None count)) else None) → ⊥
      by true d e = let q : ⊥ = cc in q
      by false true e = let q : ⊥ = cc in q
      by false false e = let q : ⊥ = cc in q

  const-in : (code : Code) (i : ℕ) (r : Option Constant) → slice_get code.constants i ≡ r → Gives k (option_map (λ x. Do (op.Const x)) r) → slice_get code.constants i ≡ Some k
  const-in code i None e h = absurd (let q : ⊥ = cc in q)
  const-in code i (Some x) e h = e ∙ ap (λ y. Some y) (let q : x ≡ k = cc in q)

  const-of : (code : Code) (i : Instr) → Gives k (command_of code i) → (n : ℕ) × (slice_get code.constants n ≡ Some k)
  const-of code (instr.Const n) e = (n, const-in code n (slice_get code.constants n) refl e)
  const-of code (instr.GetField n) e = absurd (no-name op.GetField (λ name h. let q : ⊥ = cc in q) (slice_get code.constants n) e)
  const-of code (instr.GetOptional n) e = absurd (no-name op.GetOptional (λ name h. let q : ⊥ = cc in q) (slice_get code.constants n) e)
  const-of code (instr.Test n) e = absurd (no-mapped (λ type. Do (op.Test type)) (λ x h. let q : ⊥ = cc in q) (slice_get code.tested n) e)
  const-of code (instr.Cast n) e = absurd (no-mapped (λ type. Do (op.Cast type)) (λ x h. let q : ⊥ = cc in q) (slice_get code.tested n) e)
  const-of code (instr.Call n) e = absurd (no-mapped (λ unit. Do (op.Call n (length unit.params))) (λ x h. let q : ⊥ = cc in q) (slice_get code.units n) e)
  const-of code (instr.StartCall n) e = absurd (no-mapped (λ unit. Do (op.Start n (length unit.params))) (λ x h. let q : ⊥ = cc in q) (slice_get code.units n) e)
  const-of code (instr.Native number atom count) e = absurd (no-call atom count (slice_get library_calls number) e)
  const-of code instr.Pop e = absurd (let q : ⊥ = cc in q)
  const-of code (instr.Load s) e = absurd (let q : ⊥ = cc in q)
  const-of code (instr.Store s) e = absurd (let q : ⊥ = cc in q)
  const-of code (instr.LoadModule m) e = absurd (let q : ⊥ = cc in q)
  const-of code (instr.StoreModule m) e = absurd (let q : ⊥ = cc in q)
  const-of code instr.Tick e = absurd (let q : ⊥ = cc in q)
  const-of code (instr.Jump q) e = absurd (let q : ⊥ = cc in q)
  const-of code (instr.JumpIfNot q) e = absurd (let q : ⊥ = cc in q)
  const-of code instr.Add e = absurd (let q : ⊥ = cc in q)
  const-of code instr.Sub e = absurd (let q : ⊥ = cc in q)
  const-of code instr.Mul e = absurd (let q : ⊥ = cc in q)
  const-of code instr.Div e = absurd (let q : ⊥ = cc in q)
  const-of code instr.Rem e = absurd (let q : ⊥ = cc in q)
  const-of code instr.Neg e = absurd (let q : ⊥ = cc in q)
  const-of code instr.Concat e = absurd (let q : ⊥ = cc in q)
  const-of code instr.Less e = absurd (let q : ⊥ = cc in q)
  const-of code instr.LessEqual e = absurd (let q : ⊥ = cc in q)
  const-of code instr.Not e = absurd (let q : ⊥ = cc in q)
  const-of code instr.Equal e = absurd (let q : ⊥ = cc in q)
  const-of code instr.Same e = absurd (let q : ⊥ = cc in q)
  const-of code (instr.MakeList a n m) e = absurd (let q : ⊥ = cc in q)
  const-of code (instr.MakeMap a n m) e = absurd (let q : ⊥ = cc in q)
  const-of code (instr.MakeError n) e = absurd (let q : ⊥ = cc in q)
  const-of code (instr.MakeFunction u n) e = absurd (let q : ⊥ = cc in q)
  const-of code instr.GetItem e = absurd (let q : ⊥ = cc in q)
  const-of code instr.GetKey e = absurd (let q : ⊥ = cc in q)
  const-of code instr.GetChar e = absurd (let q : ⊥ = cc in q)
  const-of code instr.SetItem e = absurd (let q : ⊥ = cc in q)
  const-of code instr.SetKey e = absurd (let q : ⊥ = cc in q)
  const-of code (instr.CallValue n) e = absurd (let q : ⊥ = cc in q)
  const-of code instr.Return e = absurd (let q : ⊥ = cc in q)
  const-of code (instr.Trap q) e = absurd (let q : ⊥ = cc in q)
  const-of code instr.Untrap e = absurd (let q : ⊥ = cc in q)
  const-of code instr.Panic e = absurd (let q : ⊥ = cc in q)
  const-of code (instr.StartValue n) e = absurd (let q : ⊥ = cc in q)
  const-of code instr.Workers e = absurd (let q : ⊥ = cc in q)
  const-of code (instr.Send w) e = absurd (let q : ⊥ = cc in q)
  const-of code (instr.Post w) e = absurd (let q : ⊥ = cc in q)
  const-of code (instr.Done w) e = absurd (let q : ⊥ = cc in q)
  const-of code (instr.Receive w) e = absurd (let q : ⊥ = cc in q)
  const-of code (instr.Flush w) e = absurd (let q : ⊥ = cc in q)
  const-of code (instr.WaitWorker w) e = absurd (let q : ⊥ = cc in q)
  const-of code instr.WaitFuture e = absurd (let q : ⊥ = cc in q)
  const-of code (instr.WaitAny ns) e = absurd (let q : ⊥ = cc in q)
  const-of code (instr.WaitAll a ns) e = absurd (let q : ⊥ = cc in q)

  const-at : (code : Code) (r : Option Instr) → Gives k (command_in code r) → (n : ℕ) × (slice_get code.constants n ≡ Some k)
  const-at code (Some i) e = const-of code i e
  const-at code None e = absurd (let q : ⊥ = cc in q)

pub constant-at : (code : Code) (k : Constant) (p : ℕ) → command_at code p ≡ Some (Do (op.Const k)) → (n : ℕ) × (slice_get code.constants n ≡ Some k)
constant-at code k p e = const-at k code (slice_get code.instrs p) e
