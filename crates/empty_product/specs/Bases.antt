-- What is asked of the parts of marked shapes.
use Rattle.std.specs.Prelude.{Bool, true, false}
use Rattle.type_diagrams.specs.Conditions.{Condition, and_of, frozen}

-- a condition, and where the shapes are marked only what may stand in them
abbrev pub frozen_where : Bool → Condition → Condition
frozen_where true c = and_of c frozen
frozen_where false c = c
