-- Errors by their details.
use Rattle.std.specs.Prelude.{◌≡◌}
use Rattle.std.proofs.Common.{Box, Global}
use Rattle.bal_base.specs.declared.shape.Shape.{Shape, Error as AnError}

-- the shape is an error with the detail
abbrev pub IsErrorWith : Shape → Shape → Type 0
IsErrorWith detail x = (held : Box Shape Global) × (held.value ≡ detail) × (x ≡ AnError held)
