-- Where no question about types is asked any more.
use Rattle.std.specs.Prelude.{List}
use Rattle.type_model.specs.Calls.{Asked}
use Rattle.type_model.specs.declared.answers.TypeLimit.{TypeLimit}
use Rattle.type_model.specs.declared.atoms.AtomDef.{AtomDef}

abbrev pub none_passes : List AtomDef → Asked → TypeLimit → Type 0
none_passes atoms asked limit = ⊥
