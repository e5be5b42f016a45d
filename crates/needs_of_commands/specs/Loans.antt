-- What is lent to the questions of a place.
use Rattle.std.specs.Prelude.{◌≡◌, ℕ, List, Option, Some, IfSome, option_copied, option_map, slice_get}
use Rattle.type_model.specs.declared.answers.Keys.{Keys}
use Rattle.type_model.specs.declared.answers.Keys.TheVariants.{AnyField, AnyIndex, Results}
use Rattle.type_model.specs.declared.basic.BasicSet.TheVariants.{Never}
use Rattle.type_model.specs.declared.basic.SemType.{SemType, Atom, Basic}
use Rattle.operations.specs.declared.operation.Operation.{Operation}
use Rattle.stack_code.specs.declared.code.Code.{Code}
use Rattle.stack_code.specs.declared.instr.Instr.{Instr}
use Rattle.stack_code.specs.Commands.{Do, command_of}
use Rattle.stack_code.specs.Places.{stack_at}
use Rattle.code_needs.specs.Stacks.{operands_of}
use Rattle.pair_questions.specs.declared.pair.Pair.{Pair}
use Rattle.needs_of_places.specs.declared.site.Lent.{Lent}
use Rattle.needs_of_places.specs.Lending.{AreLent, ArePairsOf, IsFieldOf, own_atom}
use Rattle.needs_of_commands.specs.declared.loans.Always.{Always}
use Rattle.needs_of_commands.specs.declared.loans.Loan.{Loan}

-- all keys of their kind, and no shape
pub record IsAlways (always : Always) : Type 0 where
  pub indexes : always.indexes ≡ AnyIndex
  pub members : always.members ≡ AnyField
  pub results : always.results ≡ Results
  pub never : always.never ≡ Basic Never

-- ---- for one place

-- what the questions of an instruction name, over this stack: the type of its own atom, the key of its field, and the operands of its
-- operation in pairs
pub record AreOf (code : Code) (stack : List SemType) (type : SemType) (key : Keys) (taken : Option (List Pair)) (i : Instr) : Type 0 where
  pub own : type ≡ Atom (own_atom code i)
  pub field : IsFieldOf code i key
  pub pairs : (o : Operation) → command_of code i ≡ Some (Do o) → ArePairsOf i (operands_of o stack) taken

-- the same of the instruction at a place, where there is one
abbrev pub IsLoanAt : Code → ℕ → Loan → Type 0
IsLoanAt code p loan = IfSome (slice_get code.instrs p) (AreOf code (stack_at code p) loan.own loan.field (option_map (λ v. v.items) loan.pairs))

-- lent with what is so at all places
pub record AreLentAt (code : Code) (p : ℕ) (lent : Lent) : Type 0 where
  pub always : AreLent lent
  pub here : IfSome (slice_get code.instrs p) (AreOf code (stack_at code p) lent.own.now lent.field.now (option_copied lent.pairs))
