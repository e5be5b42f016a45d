-- Of which unit instructions make values, by their operations.
use Rattle.std.proofs.Common.{◌≡◌, ◌∙◌, ◌↔◌, ℕ, Bool, true, List, [], ◌∷◌, Option, Some, None, All, IsTrue, ap, length, option_map, refl, slice_get, subst, sym}
use Rattle.std.specs.Prelude.{option_to_list}
use Rattle.std.proofs.lemmas.List.Elements.{All-cons, All-head, All-nil}
use Rattle.operations.specs.declared.operation.Operation.{Operation}
use Rattle.operations.specs.declared.operation.Operation.TheVariants as op
use Rattle.operations.specs.Uses.{units_valued, use_of}
use Rattle.stack_code.specs.declared.code.Code.{Code}
use Rattle.stack_code.specs.declared.code.Unit.{Unit as CodeUnit}
use Rattle.stack_code.specs.declared.instr.Instr.{Instr}
use Rattle.stack_code.specs.declared.instr.Instr.TheVariants as instr
use Rattle.stack_code.specs.Commands.{Command, Do, command_at, command_in, command_of, library_calls}
use Rattle.stack_code.specs.Tables.{IsCallable}
use Rattle.needs_of_commands.proofs.Descent.{no-such}
use Rattle.needs_of_commands.proofs.Numbered.{called, mapped, named, of_command}
use Rattle.unit_checks.specs.Calling.{TellsMade}
use Rattle.unit_checks.specs.inner.Valued.{valued_so}

abbrev valued_in : Operation → List ℕ
valued_in o = units_valued (use_of o)

pub valued-is : (code : Code) (o : Operation) (i : Instr) → command_of code i ≡ Some (Do o) → valued_so i ≡ units_valued (use_of o)
valued-is code o (instr.Const c) e = mapped valued_in o op.Const [] (λ k. refl) (slice_get code.constants c) e
valued-is code o (instr.GetField c) e = named valued_in o op.GetField [] (λ name. refl) (slice_get code.constants c) e
valued-is code o (instr.GetOptional c) e = named valued_in o op.GetOptional [] (λ name. refl) (slice_get code.constants c) e
valued-is code o (instr.Test t) e = mapped valued_in o op.Test [] (λ type. refl) (slice_get code.tested t) e
valued-is code o (instr.Cast t) e = mapped valued_in o op.Cast [] (λ type. refl) (slice_get code.tested t) e
valued-is code o (instr.Call u) e = mapped valued_in o (λ unit. op.Call u (length unit.params)) [] (λ unit. refl) (slice_get code.units u) e
valued-is code o (instr.StartCall u) e = mapped valued_in o (λ unit. op.Start u (length unit.params)) (u ∷ []) (λ unit. refl) (slice_get code.units u) e
valued-is code o (instr.Native number atom count) e = called valued_in o [] atom count (λ call a. refl) (slice_get library_calls number) e
valued-is code o i e = ap (of_command valued_in o []) e

-- the unit, where there is one
pub of-one : (P : ℕ → Type 0) (unit : Option ℕ) (n : ℕ) (r : Bool) → unit ≡ Some n → IsTrue r ↔ P n → IsTrue r ↔ All P (option_to_list unit)
of-one P unit n r is h =
    subst (λ (o : Option ℕ). IsTrue r ↔ All P (option_to_list o)) (sym is) ((λ t. All-cons P n [] (h.0 t) (All-nil P)), (λ all. h.1 (All-head P n [] all)))

pub of-no : (P : ℕ → Type 0) (unit : Option ℕ) → unit ≡ None → IsTrue true ↔ All P (option_to_list unit)
of-no P unit is = subst (λ (o : Option ℕ). IsTrue true ↔ All P (option_to_list o)) (sym is) ((λ t. All-nil P), (λ all. refl))

-- ---- a place

module _ (code : Code) where
  back : (i : Instr) (c : Command) → command_of code i ≡ Some c → ((o : Operation) → Some c ≡ Some (Do o) → All (IsCallable code) (units_valued (use_of o))) → All (IsCallable code) (valued_so i)
  back (instr.MakeFunction unit count) c e h = h (op.MakeFunction unit count) (sym e)
  back (instr.StartCall u) c e h = started (slice_get code.units u) e
    where
      started : (q : Option CodeUnit) → option_map (λ unit. Do (op.Start u (length unit.params))) q ≡ Some c → All (IsCallable code) (u ∷ [])
      started (Some unit) e = h (op.Start u (length unit.params)) (sym e)
      started None e = no-such c e
  back i c e h = All-nil (IsCallable code)

  -- the instruction at a place
  pub made-as : (p : ℕ) (i : Instr) (r : Bool) → slice_get code.instrs p ≡ Some i → IsTrue r ↔ All (IsCallable code) (valued_so i) → TellsMade code p r
  made-as p i r at h = λ command e.
      let here : command_of code i ≡ command_at code p = sym (ap (command_in code) at) in (
        (λ t o g. subst (All (IsCallable code)) (valued-is code o i (here ∙ g)) (h.0 t)),
        (λ m. h.1 (back i command (here ∙ e) (λ o same. m o (e ∙ same)))),
      )

  pub unmade : (p : ℕ) (r : Bool) → slice_get code.instrs p ≡ None → TellsMade code p r
  unmade p r at = λ command e. no-such command (sym (ap (command_in code) at) ∙ e)
