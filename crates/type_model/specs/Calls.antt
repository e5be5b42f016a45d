-- What calls on an environment of types ask and keep.
use Rattle.std.specs.Prelude.{◌↔◌, List}
use Rattle.bal_base.specs.declared.shape.Shape.{Shape}
use Rattle.type_model.specs.declared.basic.SemType.{SemType}
use Rattle.type_model.specs.declared.atoms.AtomDef.{AtomDef}
use Rattle.type_model.specs.Defined.{IsDefined}
use Rattle.type_model.specs.Membership.{In}

-- each type over the older atoms is one over the new ones, with the same shapes
pub record KeepsTypes (old new : List AtomDef) : Type 0 where
  pub defined : (t : SemType) → IsDefined old t → IsDefined new t
  pub shapes : (t : SemType) → IsDefined old t → (x : Shape) → In old x t ↔ In new x t

-- what a call asks of types, as the limits count it
pub data Asked : Type 0 where
  -- for a shape of the first type that isn't in the second
  Without : SemType → SemType → Asked
  -- for a shape of the type
  Alone : SemType → Asked
  -- for what the functions of the first type give to arguments of the second
  Applied : SemType → SemType → Asked
