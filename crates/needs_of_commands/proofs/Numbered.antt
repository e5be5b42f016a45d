-- How many operands operations take, whether they give results, and whether the frame ends there, by their instructions.
use Rattle.std.proofs.Common.{◌≡◌, ◌∙◌, ◌≤◌, ◌<◌, ◌+◌, ◌++◌, ◌==◌, ℕ, suc, Bool, true, false, List, [], ◌∷◌, Option, Some, None, ap, arith, if◌then◌else◌, length, option_map, refl, slice_get, sym, take}
use Rattle.std.proofs.lemmas.List.{take_all, take_more}
use Rattle.std.proofs.lemmas.Option.{get_or_from_slice_get, slice_get_within}
use Rattle.bal_base.specs.declared.text.Text.{Text}
use Rattle.operations.specs.declared.library.LibraryCall.{LibraryCall}
use Rattle.operations.specs.declared.operation.Constant.{Constant}
use Rattle.operations.specs.declared.operation.Constant.TheVariants.{Nil, Bool as Truth, Int, Str}
use Rattle.operations.specs.declared.operation.Operation.{Operation}
use Rattle.operations.specs.declared.operation.Operation.TheVariants as op
use Rattle.stack_code.specs.declared.code.Code.{Code}
use Rattle.stack_code.specs.declared.code.Unit.{Unit as CodeUnit}
use Rattle.stack_code.specs.declared.instr.Instr.{Instr}
use Rattle.stack_code.specs.declared.instr.Instr.TheVariants as instr
use Rattle.stack_code.specs.Commands.{Command, CloseTrap, Do, GoTo, GoToIfNot, OpenTrap, command_of, library_calls, makes_list, of_call, of_name}
use Rattle.code_needs.specs.Stacks.{ends, futures_in, gives, operand_count}
use Rattle.needs_of_commands.specs.inner.Counted.{ends_so, gives_so, params_in, plain_count}

module _ {X : Type 0} (g : Operation → X) (o : Operation) where
  -- what it is of a command's operation
  abbrev pub of_command : X → Option Command → X
  of_command d (Some (Do p)) = g p
  of_command d (Some (GoTo to)) = d
  of_command d (Some (GoToIfNot to)) = d
  of_command d (Some (OpenTrap to)) = d
  of_command d (Some CloseTrap) = d
  of_command d None = d

  same-op : (p : Operation) → Some (Do p) ≡ Some (Do o) → g p ≡ g o
  same-op p e = ap (of_command (g p)) e

  no-op : {A : Type 0} → None ≡ Some (Do o) → A
  no-op e = absurd (let bad : None ≡ Some (Do o) = e in let bot : ⊥ = cc in bot)

  pub mapped : {A : Type 0} (f : A → Operation) (x : X) → ((a : A) → x ≡ g (f a)) → (q : Option A) → option_map (λ a. Do (f a)) q ≡ Some (Do o) → x ≡ g o
  mapped f x all (Some a) e = all a ∙ same-op (f a) e
  mapped f x all None e = no-op e

  pub named : (f : Text → Operation) (x : X) → ((a : Text) → x ≡ g (f a)) → (q : Option Constant) → of_name f q ≡ Some (Do o) → x ≡ g o
  named f x all (Some (Str name)) e = all name ∙ same-op (f name) e
  named f x all (Some Nil) e = no-op e
  named f x all (Some (Truth b)) e = no-op e
  named f x all (Some (Int i)) e = no-op e
  named f x all None e = no-op e

  pub called : (x : X) (atom count : ℕ) → ((call : LibraryCall) (a : Option ℕ) → x ≡ g (op.Library call a count)) → (q : Option LibraryCall) → of_call atom count q ≡ Some (Do o) → x ≡ g o
  called x atom count all None e = no-op e
  called x atom count all (Some call) e = by (makes_list call) (atom == 0) e
    where
      by : (b c : Bool) → (if b then Some (Do (op.Library call (Some atom) count)) else if c then Some (Do (op.Library call None count)) else None) ≡ Some (Do o) → x ≡ g o
      by true c e = all call (Some atom) ∙ same-op (op.Library call (Some atom) count) e
      by false true e = all call None ∙ same-op (op.Library call None count) e
      by false false e = no-op e

  -- an instruction by another name
  pub as-op : (code : Code) (i j : Instr) (p : Operation) → i ≡ j → command_of code j ≡ Some (Do p) → command_of code i ≡ Some (Do o) → g p ≡ g o
  as-op code i j p is e f = same-op p (sym (ap (command_of code) is ∙ e) ∙ f)

module _ (code : Code) (o : Operation) where
  -- ---- results and ends

  pub gives-is : (i : Instr) → command_of code i ≡ Some (Do o) → gives_so i ≡ gives o
  gives-is (instr.Const c) e = mapped gives o op.Const true (λ k. refl) (slice_get code.constants c) e
  gives-is (instr.GetField c) e = named gives o op.GetField true (λ name. refl) (slice_get code.constants c) e
  gives-is (instr.GetOptional c) e = named gives o op.GetOptional true (λ name. refl) (slice_get code.constants c) e
  gives-is (instr.Test t) e = mapped gives o op.Test true (λ type. refl) (slice_get code.tested t) e
  gives-is (instr.Cast t) e = mapped gives o op.Cast true (λ type. refl) (slice_get code.tested t) e
  gives-is (instr.Call u) e = mapped gives o (λ unit. op.Call u (length unit.params)) true (λ unit. refl) (slice_get code.units u) e
  gives-is (instr.StartCall u) e = mapped gives o (λ unit. op.Start u (length unit.params)) true (λ unit. refl) (slice_get code.units u) e
  gives-is (instr.Native number atom count) e = called gives o true atom count (λ call a. refl) (slice_get library_calls number) e
  gives-is i e = ap (of_command gives o true) e

  pub ends-is : (i : Instr) → command_of code i ≡ Some (Do o) → ends_so i ≡ ends o
  ends-is (instr.Const c) e = mapped ends o op.Const false (λ k. refl) (slice_get code.constants c) e
  ends-is (instr.GetField c) e = named ends o op.GetField false (λ name. refl) (slice_get code.constants c) e
  ends-is (instr.GetOptional c) e = named ends o op.GetOptional false (λ name. refl) (slice_get code.constants c) e
  ends-is (instr.Test t) e = mapped ends o op.Test false (λ type. refl) (slice_get code.tested t) e
  ends-is (instr.Cast t) e = mapped ends o op.Cast false (λ type. refl) (slice_get code.tested t) e
  ends-is (instr.Call u) e = mapped ends o (λ unit. op.Call u (length unit.params)) false (λ unit. refl) (slice_get code.units u) e
  ends-is (instr.StartCall u) e = mapped ends o (λ unit. op.Start u (length unit.params)) false (λ unit. refl) (slice_get code.units u) e
  ends-is (instr.Native number atom count) e = called ends o false atom count (λ call a. refl) (slice_get library_calls number) e
  ends-is i e = ap (of_command ends o false) e

  -- ---- operands

  pub of-list : (i : Instr) (atom count : ℕ) (immutable : Bool) → i ≡ instr.MakeList atom count immutable → command_of code i ≡ Some (Do o) → count ≡ operand_count o
  of-list i atom count immutable is e = as-op operand_count o code i (instr.MakeList atom count immutable) (op.MakeList atom immutable count) is refl e

  pub of-mapping : (i : Instr) (atom count : ℕ) (immutable : Bool) → i ≡ instr.MakeMap atom count immutable → command_of code i ≡ Some (Do o) → count + count ≡ operand_count o
  of-mapping i atom count immutable is e = as-op operand_count o code i (instr.MakeMap atom count immutable) (op.MakeMapping atom immutable count) is refl e

  pub of-error : (i : Instr) (count : ℕ) → i ≡ instr.MakeError count → command_of code i ≡ Some (Do o) → 2 + (count + count) ≡ operand_count o
  of-error i count is e =
      let same : 2 + (count + count) ≡ suc (suc (count + count)) = omega arith in
      same ∙ as-op operand_count o code i (instr.MakeError count) (op.MakeError count) is refl e

  pub of-function : (i : Instr) (unit count : ℕ) → i ≡ instr.MakeFunction unit count → command_of code i ≡ Some (Do o) → count ≡ operand_count o
  of-function i unit count is e = as-op operand_count o code i (instr.MakeFunction unit count) (op.MakeFunction unit count) is refl e

  pub of-value : (i : Instr) (count : ℕ) → i ≡ instr.CallValue count → command_of code i ≡ Some (Do o) → 1 + count ≡ operand_count o
  of-value i count is e =
      let same : 1 + count ≡ suc count = omega arith in
      same ∙ as-op operand_count o code i (instr.CallValue count) (op.CallValue count) is refl e

  pub of-start_value : (i : Instr) (count : ℕ) → i ≡ instr.StartValue count → command_of code i ≡ Some (Do o) → 1 + count ≡ operand_count o
  of-start_value i count is e =
      let same : 1 + count ≡ suc count = omega arith in
      same ∙ as-op operand_count o code i (instr.StartValue count) (op.StartValue count) is refl e

  params-are : (f : ℕ → Operation) → ((n : ℕ) → n ≡ operand_count (f n)) → (q : Option CodeUnit) → option_map (λ unit. Do (f (length unit.params))) q ≡ Some (Do o) → params_in q ≡ operand_count o
  params-are f all (Some unit) e = all (length unit.params) ∙ same-op operand_count o (f (length unit.params)) e
  params-are f all None e = no-op operand_count o e

  pub of-call : (i : Instr) (u : ℕ) → i ≡ instr.Call u → command_of code i ≡ Some (Do o) → params_in (slice_get code.units u) ≡ operand_count o
  of-call i u is e = params-are (op.Call u) (λ n. refl) (slice_get code.units u) (sym (ap (command_of code) is) ∙ e)

  pub of-start : (i : Instr) (u : ℕ) → i ≡ instr.StartCall u → command_of code i ≡ Some (Do o) → params_in (slice_get code.units u) ≡ operand_count o
  of-start i u is e = params-are (op.Start u) (λ n. refl) (slice_get code.units u) (sym (ap (command_of code) is) ∙ e)

  pub of-native : (i : Instr) (number atom count : ℕ) → i ≡ instr.Native number atom count → command_of code i ≡ Some (Do o) → count ≡ operand_count o
  of-native i number atom count is e = called operand_count o count atom count (λ call a. refl) (slice_get library_calls number) (sym (ap (command_of code) is) ∙ e)

  pub of-any : (i : Instr) (names : List (Option ℕ)) → i ≡ instr.WaitAny names → command_of code i ≡ Some (Do o) → futures_in names ≡ operand_count o
  of-any i names is e = as-op operand_count o code i (instr.WaitAny names) (op.WaitAny names) is refl e

  pub of-all : (i : Instr) (atom : ℕ) (names : List (Option ℕ)) → i ≡ instr.WaitAll atom names → command_of code i ≡ Some (Do o) → futures_in names ≡ operand_count o
  of-all i atom names is e = as-op operand_count o code i (instr.WaitAll atom names) (op.WaitAll atom names) is refl e

  pub plain-is : (i : Instr) → ((x : ℕ) (y : ℕ) (z : Bool) → i ≡ instr.MakeList x y z → ⊥) → ((x : ℕ) (y : ℕ) (z : Bool) → i ≡ instr.MakeMap x y z → ⊥) → ((x : ℕ) → i ≡ instr.MakeError x → ⊥)
      → ((x : ℕ) (y : ℕ) → i ≡ instr.MakeFunction x y → ⊥) → ((x : ℕ) → i ≡ instr.Call x → ⊥) → ((x : ℕ) → i ≡ instr.CallValue x → ⊥) → ((x : ℕ) (y : ℕ) (z : ℕ) → i ≡ instr.Native x y z → ⊥)
      → ((x : ℕ) → i ≡ instr.StartCall x → ⊥) → ((x : ℕ) → i ≡ instr.StartValue x → ⊥) → ((x : List (Option ℕ)) → i ≡ instr.WaitAny x → ⊥) → ((x : ℕ) (y : List (Option ℕ)) → i ≡ instr.WaitAll x y → ⊥)
      → command_of code i ≡ Some (Do o) → plain_count i ≡ operand_count o
  plain-is (instr.MakeList x y z) e0 e1 e2 e3 e4 e5 e6 e7 e8 e9 e10 e = absurd (e0 x y z refl)
  plain-is (instr.MakeMap x y z) e0 e1 e2 e3 e4 e5 e6 e7 e8 e9 e10 e = absurd (e1 x y z refl)
  plain-is (instr.MakeError x) e0 e1 e2 e3 e4 e5 e6 e7 e8 e9 e10 e = absurd (e2 x refl)
  plain-is (instr.MakeFunction x y) e0 e1 e2 e3 e4 e5 e6 e7 e8 e9 e10 e = absurd (e3 x y refl)
  plain-is (instr.Call x) e0 e1 e2 e3 e4 e5 e6 e7 e8 e9 e10 e = absurd (e4 x refl)
  plain-is (instr.CallValue x) e0 e1 e2 e3 e4 e5 e6 e7 e8 e9 e10 e = absurd (e5 x refl)
  plain-is (instr.Native x y z) e0 e1 e2 e3 e4 e5 e6 e7 e8 e9 e10 e = absurd (e6 x y z refl)
  plain-is (instr.StartCall x) e0 e1 e2 e3 e4 e5 e6 e7 e8 e9 e10 e = absurd (e7 x refl)
  plain-is (instr.StartValue x) e0 e1 e2 e3 e4 e5 e6 e7 e8 e9 e10 e = absurd (e8 x refl)
  plain-is (instr.WaitAny x) e0 e1 e2 e3 e4 e5 e6 e7 e8 e9 e10 e = absurd (e9 x refl)
  plain-is (instr.WaitAll x y) e0 e1 e2 e3 e4 e5 e6 e7 e8 e9 e10 e = absurd (e10 x y refl)
  plain-is (instr.Const c) e0 e1 e2 e3 e4 e5 e6 e7 e8 e9 e10 e = mapped operand_count o op.Const 0 (λ k. refl) (slice_get code.constants c) e
  plain-is (instr.GetField c) e0 e1 e2 e3 e4 e5 e6 e7 e8 e9 e10 e = named operand_count o op.GetField 1 (λ name. refl) (slice_get code.constants c) e
  plain-is (instr.GetOptional c) e0 e1 e2 e3 e4 e5 e6 e7 e8 e9 e10 e = named operand_count o op.GetOptional 1 (λ name. refl) (slice_get code.constants c) e
  plain-is (instr.Test t) e0 e1 e2 e3 e4 e5 e6 e7 e8 e9 e10 e = mapped operand_count o op.Test 1 (λ type. refl) (slice_get code.tested t) e
  plain-is (instr.Cast t) e0 e1 e2 e3 e4 e5 e6 e7 e8 e9 e10 e = mapped operand_count o op.Cast 1 (λ type. refl) (slice_get code.tested t) e
  plain-is i e0 e1 e2 e3 e4 e5 e6 e7 e8 e9 e10 e = ap (of_command operand_count o 0) e

-- ---- futures, one name more

futures-end : (xs : List (Option ℕ)) (x : Option ℕ) → futures_in (xs ++ x ∷ []) ≡ futures_in xs + futures_in (x ∷ [])
futures-end [] x = omega arith
futures-end (Some w ∷ xs) x = futures-end xs x
futures-end (None ∷ xs) x =
    let more : futures_in (xs ++ x ∷ []) ≡ futures_in xs + futures_in (x ∷ []) = futures-end xs x in
    omega (arith, more)

pub futures-more : (names : List (Option ℕ)) (k : ℕ) (name : Option ℕ) (count n : ℕ) → slice_get names k ≡ Some name → count ≡ futures_in (take k names) → n ≡ futures_in (name ∷ []) → count + n ≡ futures_in (take (k + 1) names)
futures-more names k name count n at e f =
    let lt : k < length names = slice_get_within names k name at in
    (λ i. e i + f i) ∙ sym (futures-end (take k names) name)
    ∙ ap (λ (x : Option ℕ). futures_in (take k names ++ x ∷ [])) (sym (get_or_from_slice_get names k name name at)) ∙ sym (ap futures_in (take_more names k name lt))

pub futures-whole : (names : List (Option ℕ)) (k count : ℕ) → length names ≤ k → count ≡ futures_in (take k names) → count ≡ futures_in names
futures-whole names k count all e = e ∙ ap futures_in (take_all k names all)
