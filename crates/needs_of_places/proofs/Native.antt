-- Calls of the library, with the atom of the list that they make.
use Rattle.std.proofs.Common.{◌≡◌, ◌==◌, ℕ, Bool, true, false, Option, Some, None, if◌then◌else◌, ap}
use Rattle.operations.specs.declared.library.LibraryCall.{LibraryCall}
use Rattle.operations.specs.declared.operation.Operation.TheVariants as op
use Rattle.stack_code.specs.Commands.{Command, Do, library_operation, makes_list}

-- as it is chosen
abbrev chosen : ℕ → ℕ → LibraryCall → Bool → Bool → Option Command
chosen atom count k lists zero = if lists then Some (Do (op.Library k (Some atom) count)) else if zero then Some (Do (op.Library k None count)) else None

pub a-list : (atom count : ℕ) (k : LibraryCall) → makes_list k ≡ true → library_operation atom count k ≡ Some (Do (op.Library k (Some atom) count))
a-list atom count k e = ap (λ b. chosen atom count k b (atom == 0)) e

pub no-atom : (atom count : ℕ) (k : LibraryCall) → makes_list k ≡ false → (atom == 0) ≡ true → library_operation atom count k ≡ Some (Do (op.Library k None count))
no-atom atom count k e z = λ i. chosen atom count k (e i) (z i)

pub some-atom : (atom count : ℕ) (k : LibraryCall) → makes_list k ≡ false → (atom == 0) ≡ false → library_operation atom count k ≡ None
some-atom atom count k e z = λ i. chosen atom count k (e i) (z i)
