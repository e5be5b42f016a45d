-- What is made for units that are typed as they are written is typed by their maps.
use Rattle.std.specs.Prelude.{◌≡◌, List, length, map}
use Rattle.type_model.specs.declared.atoms.AtomDef.{AtomDef}
use Rattle.typed_tree.specs.declared.package.TypedPackage.{TypedPackage}
use Rattle.typed_tree.specs.Units.{UnitBody}
use Rattle.stack_code.specs.declared.code.Code.{Code}
use Rattle.lower_model.specs.Laying.{Agrees}
use Rattle.lower_model.specs.Making.{place_of, units_made, unmade}
use Rattle.tree_promises.specs.Placed.{Placed}
use Rattle.tree_promises.specs.Types.{Stack}
use Rattle.map_model.specs.Points.{PlainTypes}
use Rattle.lowered_typing.specs.Typed.{AreTypedFrom, AreTypedIn, AreWritten}

abbrev pub bodies_in : List Placed → List UnitBody
bodies_in us = map (λ u. u.tree.body) us

abbrev pub UnitsAreTypedInTurn : Type 0
UnitsAreTypedInTurn =
    (plain : PlainTypes) (env : List AtomDef) (p : TypedPackage) (us : List Placed) → AreWritten plain env p us →
    (wants : List Stack) × (length (units_made (bodies_in us) unmade).labels ≡ length wants) × AreTypedIn plain env p us unmade (units_made (bodies_in us) unmade) wants

-- so is each command of a code that has it
abbrev pub CodeIsTypedByMaps : Type 0
CodeIsTypedByMaps =
    (plain : PlainTypes) (env : List AtomDef) (p : TypedPackage) (us : List Placed) → AreWritten plain env p us →
    (code : Code) → Agrees code (place_of (units_made (bodies_in us) unmade)) (units_made (bodies_in us) unmade) → AreTypedFrom plain env p code us unmade
