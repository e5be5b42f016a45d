-- Lines of the table of expressions behind a prefix, and those that name a type.
use Rattle.std.specs.Prelude.{List, Option}
use Rattle.bal_base.specs.declared.place.Place.{Place}
use Rattle.bal_tree.specs.declared.expr.PrefixOp.{PrefixOp}
use Rattle.bal_tree.specs.declared.name.QualifiedName.{QualifiedName}
use Rattle.bal_tree.specs.declared.types.TypeTree.{TypeTree}
use Rattle.descriptors.specs.declared.names.Names.{Names}
use Rattle.operations.specs.Kinds.{IsBoolean}
use Rattle.type_model.specs.declared.answers.TypeLimit.{TypeLimit}
use Rattle.type_model.specs.declared.atoms.AtomDef.{AtomDef}
use Rattle.type_model.specs.declared.basic.SemType.{SemType}
use Rattle.type_model.specs.Calls.{Asked}
use Rattle.type_model.specs.Inclusion.{HasExactly}
use Rattle.typed_tree.specs.Listed.{one, ◌&◌}
use Rattle.expr_needs.specs.ExprTable.{Reading, freely}
use Rattle.expr_needs.specs.Needs.{Casts, Describes, Tests}
use Rattle.expr_needs.specs.Operators.{prefix_expects, prefix_needs}
use Rattle.typed_exprs.specs.Lines.{Claim, Knows}

-- `-a`, `!a`, `check a` and `checkpanic a`; `<T>a` and `a is T`
pub record PrefixesAreTyped (passes : List AtomDef → Asked → TypeLimit → Type 0) (names : Names) (env : List AtomDef) : Type 0 where
  pub prefixes : (o : PrefixOp) (a : Reading) (at : Place) → Knows passes names env a → Claim passes names env (λ e. a.needs (prefix_expects o) & prefix_needs o a.at at)
  pub casts : (type : TypeTree) (a : Reading) (at : Place) → Knows passes names env a → Claim passes names env (λ e. one (Describes type) & freely a & one (Casts at))
  pub tests : (type : TypeTree) (a : Reading) (name : Option QualifiedName) (at : Place) → Knows passes names env a
      → Claim passes names env (λ e. freely a & one (Describes type) & one (Tests name at))

abbrev pub AllPrefixesAreTyped : (List AtomDef → Asked → TypeLimit → Type 0) → Type 0
AllPrefixesAreTyped passes = (names : Names) (env : List AtomDef) (truth : SemType) → HasExactly env truth IsBoolean → PrefixesAreTyped passes names env
