-- The line of the table of expressions for elements: of a string, of a list or of a mapping, by an index or a key.
use Rattle.std.specs.Prelude.{Bool, List}
use Rattle.bal_base.specs.declared.place.Place.{Place}
use Rattle.descriptors.specs.declared.names.Names.{Names}
use Rattle.type_model.specs.declared.answers.TypeLimit.{TypeLimit}
use Rattle.type_model.specs.declared.atoms.AtomDef.{AtomDef}
use Rattle.type_model.specs.Calls.{Asked}
use Rattle.typed_tree.specs.Listed.{one, ◌&◌}
use Rattle.expr_needs.specs.ExprTable.{Reading, element_needs}
use Rattle.expr_needs.specs.Needs.{ReadsElement}
use Rattle.typed_exprs.specs.Lines.{Claim, Knows}

-- where `texts` says so, a string has elements too
abbrev pub AllElementsAreTyped : (List AtomDef → Asked → TypeLimit → Type 0) → Type 0
AllElementsAreTyped passes =
    (names : Names) (env : List AtomDef) (texts : Bool) (a i : Reading) (at : Place) → Knows passes names env a → Knows passes names env i
    → Claim passes names env (λ e. element_needs texts a i & one (ReadsElement at))
