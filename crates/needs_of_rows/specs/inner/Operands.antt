-- Operands, where there are so many of them.
use Rattle.std.specs.Prelude.{List, [], ◌∷◌, Option, Some, None}
use Rattle.type_model.specs.declared.basic.SemType.{SemType}

abbrev pub the_one : List SemType → Option SemType
the_one (a ∷ []) = Some a
the_one [] = None
the_one (a ∷ b ∷ more) = None

abbrev pub the_two : List SemType → Option (SemType × SemType)
the_two (a ∷ b ∷ []) = Some (a, b)
the_two [] = None
the_two (a ∷ []) = None
the_two (a ∷ b ∷ c ∷ more) = None

abbrev pub the_three : List SemType → Option (SemType × SemType × SemType)
the_three (a ∷ b ∷ c ∷ []) = Some (a, b, c)
the_three [] = None
the_three (a ∷ []) = None
the_three (a ∷ b ∷ []) = None
the_three (a ∷ b ∷ c ∷ d ∷ more) = None

-- the first one, and those behind it
abbrev pub the_first : List SemType → Option (SemType × List SemType)
the_first (a ∷ more) = Some (a, more)
the_first [] = None
