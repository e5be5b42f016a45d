-- What values and blocks leave of what is known of variables.
use Rattle.std.specs.Prelude.{List}
use Rattle.bal_tree.specs.declared.action.Rhs.{Rhs}
use Rattle.bal_tree.specs.declared.expr.Expr.{Expr}
use Rattle.bal_tree.specs.declared.expr.Postfix.{Postfix}
use Rattle.bal_tree.specs.declared.stmt.Block.{Block}
use Rattle.bal_tree.specs.declared.stmt.Else.{Else}
use Rattle.check_laws.specs.StmtLaws.{HasUnit}
use Rattle.check_words.specs.State.{State}
use Rattle.checks.specs.Checks.{Gives}
use Rattle.descriptors.specs.declared.names.Names.{Names}
use Rattle.expr_needs.specs.ActionTable.{read_rhs}
use Rattle.expr_needs.specs.ExprTable.{read_expr, read_postfix}
use Rattle.expr_needs.specs.Needs.{BeginsBlock, EndsBlock, Need}
use Rattle.expr_needs.specs.declared.expected.Expected.{Expected}
use Rattle.needs.specs.Needs.{all_met}
use Rattle.stmt_needs.specs.StmtTable.{Within, read_block, read_else}
use Rattle.type_model.specs.Calls.{Asked}
use Rattle.type_model.specs.declared.answers.TypeLimit.{TypeLimit}
use Rattle.type_model.specs.declared.atoms.AtomDef.{AtomDef}
use Rattle.typed_bodies.specs.Claims.{SameAtHand, SameButNarrowed}
use Rattle.typed_needs.specs.Between.{stood}
use Rattle.typed_tree.specs.Listed.{Listed, one, ◌&◌}

module _ (passes : List AtomDef → Asked → TypeLimit → Type 0) (names : Names) where
  abbrev LeavesFlow : Listed Need → Type 0
  LeavesFlow needs = (old new : State) → all_met (stood passes names) needs old (Gives tt) new → SameAtHand old new

  abbrev SeesSame : Listed Need → Type 0
  SeesSame needs = (old new : State) → HasUnit old → all_met (stood passes names) needs old (Gives tt) new → SameButNarrowed old new

  -- behind a value the same is known of variables as before it
  pub record ValuesKeepFlows : Type 0 where
    pub expr : (x : Expr) (e : Expected) → LeavesFlow ((read_expr x).needs e)
    pub postfix : (x : Postfix) (e : Expected) → LeavesFlow ((read_postfix x).needs e)
    pub rhs : (x : Rhs) (e : Expected) → LeavesFlow ((read_rhs x).needs e)

  -- behind a block the same variables are seen, if narrowed otherwise
  pub record BlocksSeeTheSame : Type 0 where
    pub block : (x : Block) (w : Within) → SeesSame ((read_block x).needs w)
    pub else : (x : Else) (w : Within) → SeesSame ((read_else x).needs w)
    -- where nothing is done
    pub none : SeesSame (one BeginsBlock & one EndsBlock)

abbrev pub AllValuesKeepFlows : (List AtomDef → Asked → TypeLimit → Type 0) → Type 0
AllValuesKeepFlows passes = (names : Names) → ValuesKeepFlows passes names

abbrev pub AllBlocksSeeTheSame : (List AtomDef → Asked → TypeLimit → Type 0) → Type 0
AllBlocksSeeTheSame passes = (names : Names) → BlocksSeeTheSame passes names
