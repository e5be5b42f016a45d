-- Tables that grow, and which instruction stands for an operation or a command.
use Rattle.std.proofs.Common.{◌≡◌, ◌∙◌, ℕ, List, [], ◌∷◌, ◌++◌, Option, Some, None, true, false, refl, sym, ap, subst, length, arith}
use Rattle.std.specs.Prelude.{◌==◌, if◌then◌else◌, IfOk, IsSomeAnd, OnOk, Result, Ok, Err, option_map, slice_get}
use Rattle.bal_base.specs.declared.stop.Memory.{Memory}
use Rattle.type_model.specs.declared.basic.SemType.{SemType}
use Rattle.type_model.specs.SameType.{IsSameType}
use Rattle.operations.specs.LibraryNumbers.{number_of}
use Rattle.operations.specs.declared.library.LibraryCall.{LibraryCall}
use Rattle.operations.specs.declared.library.LibraryCall.TheVariants.{Println}
use Rattle.operations.specs.declared.operation.Constant.{Constant}
use Rattle.operations.specs.declared.operation.Constant.TheVariants.{Str}
use Rattle.operations.specs.declared.operation.Operation.{Operation}
use Rattle.operations.specs.declared.operation.Operation.TheVariants as op
use Rattle.bal_base.specs.declared.text.Text.{Text}
use Rattle.stack_code.specs.declared.code.Code.{Code}
use Rattle.stack_code.specs.declared.code.Unit.{Unit as CodeUnit}
use Rattle.stack_code.specs.declared.instr.Instr.{Instr}
use Rattle.stack_code.specs.declared.instr.Instr.TheVariants as instr
use Rattle.stack_code.specs.Commands.{Do, GoTo, GoToIfNot, OpenTrap, CloseTrap, command_of, library_calls, makes_list, of_call, of_name}
use Rattle.lower_model.specs.Lowered.{same, test, cast}
use Rattle.lower_model.specs.Making.{placed}
use Rattle.lower_model.proofs.Laying.{get-front}
use Rattle.code_assembly.specs.Standing.{Comes, DoesSo, Everywhere, Grows, HasSame, Stock}

-- ---- tables that grow

pub get-last : {X : Type 0} (xs : List X) (x : X) → slice_get (xs ++ x ∷ []) (length xs) ≡ Some x
get-last [] x = refl
get-last (y ∷ xs) x = get-last xs x

pub grows-same : (s : Stock) → Grows s s
grows-same s = record { has = λ code h. h; tested = refl; params = refl }

pub with-constant : (s : Stock) (c : Constant) → Grows s (record { constants = s.constants ++ c ∷ []; tested = s.tested; params = s.params })
with-constant s c =
    record { has = λ code h. record { constants = λ n d e. h.constants n d (get-front s.constants (c ∷ []) n d e); tested = h.tested; params = h.params }; tested = refl; params = refl }

-- a type that stands there has its number
pub there-if : (s : Stock) (type : SemType) (place : ℕ) (r : Result ℕ Memory) → IfOk r (λ n. n ≡ place) → IsSomeAnd (slice_get s.tested place) (IsSameType type) → IfOk r (HasSame s type)
there-if s type place (Err e) is at = tt
there-if s type place (Ok n) e at = subst (HasSame s type) (sym e) (there (slice_get s.tested place) refl at)
  where
    there : (o : Option SemType) → slice_get s.tested place ≡ o → IsSomeAnd o (IsSameType type) → HasSame s type place
    there (Some kept) is alike = record { kept = kept; there = is; same = alike }
    there None is alike = absurd alike

-- ---- operations

pub does-const : (s : Stock) (n : ℕ) (c : Constant) → slice_get s.constants n ≡ Some c → DoesSo s (op.Const c) (instr.Const n)
does-const s n c at = record { is = λ code h. (op.Const c, ap (option_map (λ k. Do (op.Const k))) (h.constants n c at), same) }

pub does-field : (s : Stock) (n : ℕ) (name : Text) → slice_get s.constants n ≡ Some (Str name) → DoesSo s (op.GetField name) (instr.GetField n)
does-field s n name at = record { is = λ code h. (op.GetField name, ap (of_name op.GetField) (h.constants n (Str name) at), same) }

pub does-optional : (s : Stock) (n : ℕ) (name : Text) → slice_get s.constants n ≡ Some (Str name) → DoesSo s (op.GetOptional name) (instr.GetOptional n)
does-optional s n name at = record { is = λ code h. (op.GetOptional name, ap (of_name op.GetOptional) (h.constants n (Str name) at), same) }

pub does-test : (s : Stock) (n : ℕ) (t : SemType) → HasSame s t n → DoesSo s (op.Test t) (instr.Test n)
does-test s n t x = record { is = λ code h. (op.Test x.kept, ap (option_map (λ k. Do (op.Test k))) (h.tested n x.kept x.there), test x.same) }

pub does-cast : (s : Stock) (n : ℕ) (t : SemType) → HasSame s t n → DoesSo s (op.Cast t) (instr.Cast n)
does-cast s n t x = record { is = λ code h. (op.Cast x.kept, ap (option_map (λ k. Do (op.Cast k))) (h.tested n x.kept x.there), cast x.same) }

with-params : (o : Option CodeUnit) (f : ℕ → Operation) (k : ℕ) → option_map (λ u. length u.params) o ≡ Some k → option_map (λ u. Do (f (length u.params))) o ≡ Some (Do (f k))
with-params (Some v) f k e = ap (option_map (λ n. Do (f n))) e
with-params None f k e = absurd (grind (arith, e))

pub does-call : (s : Stock) (u k : ℕ) → slice_get s.params u ≡ Some k → DoesSo s (op.Call u k) (instr.Call u)
does-call s u k at = record { is = λ code h. (op.Call u k, with-params (slice_get code.units u) (op.Call u) k (h.params u k at), same) }

pub does-start : (s : Stock) (u k : ℕ) → slice_get s.params u ≡ Some k → DoesSo s (op.Start u k) (instr.StartCall u)
does-start s u k at = record { is = λ code h. (op.Start u k, with-params (slice_get code.units u) (op.Start u) k (h.params u k at), same) }

pub does-everywhere : (s : Stock) (o : Operation) (i : Instr) → Everywhere o i → DoesSo s o i
does-everywhere s o i e = record { is = λ code h. (o, e.is code, same) }

-- ---- the library

stands : (call : LibraryCall) → slice_get library_calls (number_of call) ≡ Some call
stands Println = refl
stands _ = refl

pub library-list : (call : LibraryCall) (atom count : ℕ) → makes_list call ≡ true → Everywhere (op.Library call (Some atom) count) (instr.Native (number_of call) atom count)
library-list call atom count e =
    record { is = λ code. ap (of_call atom count) (stands call) ∙ ap (λ b. if b then Some (Do (op.Library call (Some atom) count)) else (if atom == 0 then Some (Do (op.Library call None count)) else None)) e }

pub library-other : (call : LibraryCall) (count : ℕ) → makes_list call ≡ false → Everywhere (op.Library call None count) (instr.Native (number_of call) 0 count)
library-other call count e =
    record { is = λ code. ap (of_call 0 count) (stands call) ∙ ap (λ b. if b then Some (Do (op.Library call (Some 0) count)) else Some (Do (op.Library call None count))) e }

-- ---- commands

module _ (s : Stock) (labels : List (Option ℕ)) where
  pub comes-do : (o : Operation) (i : Instr) → DoesSo s o i → Comes s labels (Do o) i
  comes-do o i d = record { is = λ code h. d.is code h }

  pub comes-jump : (l p : ℕ) → slice_get labels l ≡ Some (Some p) → Comes s labels (GoTo l) (instr.Jump p)
  comes-jump l p at = record { is = λ code h. ap (λ o. Some (GoTo (placed o))) (sym at) }

  pub comes-jump-if-not : (l p : ℕ) → slice_get labels l ≡ Some (Some p) → Comes s labels (GoToIfNot l) (instr.JumpIfNot p)
  comes-jump-if-not l p at = record { is = λ code h. ap (λ o. Some (GoToIfNot (placed o))) (sym at) }

  pub comes-trap : (l p : ℕ) → slice_get labels l ≡ Some (Some p) → Comes s labels (OpenTrap l) (instr.Trap p)
  comes-trap l p at = record { is = λ code h. ap (λ o. Some (OpenTrap (placed o))) (sym at) }

  pub comes-untrap : Comes s labels CloseTrap instr.Untrap
  comes-untrap = record { is = λ code h. refl }

-- ---- under an answer

pub everywhere : (o : Operation) (i : Instr) → ((code : Code) → command_of code i ≡ Some (Do o)) → Everywhere o i
everywhere o i e = record { is = e }

pub grows-anyway : (s : Stock) (r : Result Instr Memory) → OnOk r (Grows s s)
grows-anyway s (Ok i) = grows-same s
grows-anyway s (Err e) = tt

pub does-if : (s : Stock) (o : Operation) (r : Result Instr Memory) → IfOk r (Everywhere o) → IfOk r (DoesSo s o)
does-if s o (Ok i) e = does-everywhere s o i e
does-if s o (Err m) e = tt

pub comes-if : (s : Stock) (labels : List (Option ℕ)) (o : Operation) (r : Result Instr Memory) → IfOk r (DoesSo s o) → IfOk r (Comes s labels (Do o))
comes-if s labels o (Ok i) d = comes-do s labels o i d
comes-if s labels o (Err m) d = tt

pub ruleset stocks =
    (grows-same, with-constant, get-last, does-const, does-field, does-optional, does-test, does-cast, does-call, does-start, does-everywhere, library-list, library-other, comes-do, comes-jump, comes-jump-if-not, comes-trap, comes-untrap, everywhere, grows-anyway, does-if, comes-if)
