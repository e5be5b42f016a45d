-- Constants that are no names.
use Rattle.std.proofs.Common.{◌≡◌, Some, None, refl}
use Rattle.bal_base.specs.declared.text.Text.{Text}
use Rattle.operations.specs.declared.operation.Constant.{Constant}
use Rattle.operations.specs.declared.operation.Constant.TheVariants as constant
use Rattle.operations.specs.declared.operation.Operation.{Operation}
use Rattle.stack_code.specs.Commands.{of_name}

pub no-name : (f : Text → Operation) (k : Constant) → ((t : Text) → k ≡ constant.Str t → ⊥) → of_name f (Some k) ≡ None
no-name f (constant.Str t) e = absurd (e t refl)
no-name f constant.Nil e = refl
no-name f (constant.Bool b) e = refl
no-name f (constant.Int i) e = refl
