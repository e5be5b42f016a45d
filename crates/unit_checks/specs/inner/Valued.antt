-- Of which unit instructions make values.
use Rattle.std.specs.Prelude.{ℕ, List, [], ◌∷◌}
use Rattle.stack_code.specs.declared.instr.Instr.{Instr}
use Rattle.stack_code.specs.declared.instr.Instr.TheVariants as instr

-- the units, as a list of one or none
abbrev pub valued_so : Instr → List ℕ
valued_so (instr.MakeFunction unit count) = unit ∷ []
valued_so (instr.StartCall unit) = unit ∷ []
valued_so _ = []
