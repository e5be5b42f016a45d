-- What names are, as typed parts.
use Rattle.std.specs.Prelude.{List}
use Rattle.bal_tree.specs.declared.name.QualifiedName.{QualifiedName}
use Rattle.descriptors.specs.declared.names.Names.{Names}
use Rattle.type_model.specs.declared.answers.TypeLimit.{TypeLimit}
use Rattle.type_model.specs.declared.atoms.AtomDef.{AtomDef}
use Rattle.type_model.specs.Calls.{Asked}
use Rattle.operations.specs.Rows.{Surroundings}
use Rattle.expr_needs.specs.Needs.{GivesNamed}
use Rattle.check_words.specs.State.{State}
use Rattle.typed_needs.specs.Pieces.{IsBefore, IsMet, MakesTyped}
use Rattle.typed_needs.specs.Placing.{AreNamed, AreStored}

-- a variable that is seen, a constant, or what a module defines
abbrev pub NameIsTyped : (List AtomDef → Asked → TypeLimit → Type 0) → Names → List AtomDef → Surroundings → Type 0
NameIsTyped passes names env place =
    (q : QualifiedName) (old new : State) → IsBefore env new → IsMet passes names env (GivesNamed q) old new → AreStored place old → AreNamed env names place
    → MakesTyped passes names env place 0 old new

abbrev pub NamesAreTyped : (List AtomDef → Asked → TypeLimit → Type 0) → Type 0
NamesAreTyped passes = (names : Names) (env : List AtomDef) (place : Surroundings) → NameIsTyped passes names env place
