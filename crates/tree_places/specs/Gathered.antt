-- Names with their places, gathered one behind another.
use Rattle.std.specs.Prelude.{List, [], ◌∷◌, ◌++◌}
use Rattle.bal_tree.specs.declared.name.Word.{Word}

abbrev pub gather : Word → List Word → List Word
gather word words = words ++ word ∷ []
