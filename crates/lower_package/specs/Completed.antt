-- A code with other inherent atoms and other maps, and one over other definitions of atoms.
use Rattle.std.specs.Prelude.{ℕ, List}
use Rattle.type_model.specs.declared.atoms.AtomDef.{AtomDef}
use Rattle.stack_code.specs.declared.code.Code.{Code}
use Rattle.stack_code.specs.declared.code.StackMap.{StackMap}

abbrev pub completed : Code → List ℕ → List StackMap → Code
completed code inherent maps =
    record {
      atoms = code.atoms;
      inherent = inherent;
      tested = code.tested;
      constants = code.constants;
      variables = code.variables;
      units = code.units;
      initialisers = code.initialisers;
      start = code.start;
      words = code.words;
      instrs = code.instrs;
      maps = maps;
    }

-- the same code over these definitions of atoms
abbrev pub over : List AtomDef → Code → Code
over atoms code = record code { atoms = atoms }
