-- Strands and activations that are made.
use Rattle.std.specs.Prelude.{◌++◌, [], ◌∷◌}
use Rattle.op_model.specs.Common.{Activation, Common}

-- one activation more
abbrev pub with_another : Common → Activation → Common
with_another c x = record c { activations = c.activations ++ x ∷ [] }
