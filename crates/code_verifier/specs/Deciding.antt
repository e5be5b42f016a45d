-- What a Boolean answer says of two types.
use Rattle.std.specs.Prelude.{◌↔◌, Bool, IsTrue, List}
use Rattle.type_model.specs.declared.atoms.AtomDef.{AtomDef}
use Rattle.type_model.specs.declared.basic.SemType.{SemType}
use Rattle.type_model.specs.Inclusion.{Sub}

-- yes exactly where the one type is below the other
abbrev pub DecidesSub : List AtomDef → SemType → SemType → Bool → Type 0
DecidesSub env s t answer = IsTrue answer ↔ Sub env s t
