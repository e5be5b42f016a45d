-- What whole runs leave behind: one part more.
use Rattle.std.proofs.Common.{List, subst, ◌≡◌}
use Rattle.std.specs.Ptr.{null_ptr}
use Rattle.bal_tree.specs.declared.action.Action.{Action}
use Rattle.bal_tree.specs.declared.action.Rhs.{Rhs}
use Rattle.bal_tree.specs.declared.action.Rhs.TheVariants.{Action as ActionRhs}
use Rattle.bal_tree.specs.declared.expr.Call.{Call}
use Rattle.bal_tree.specs.declared.expr.Detail.{Detail}
use Rattle.bal_tree.specs.declared.expr.Call.TheOpen as layer
use Rattle.bal_tree.specs.declared.expr.Expr.{Expr, Expr-F, fold-roll-Expr, map-Expr, roll-Expr}
use Rattle.bal_tree.specs.declared.expr.Key.{Key}
use Rattle.bal_tree.specs.declared.expr.Member.{Member}
use Rattle.bal_tree.specs.declared.expr.Postfix.{Postfix}
use Rattle.bal_tree.specs.declared.expr.Primary.{Primary}
use Rattle.check_laws.specs.Laws.{IsOneMore, IsReady, KeepsPositions, PositionsAreKept}
use Rattle.check_words.specs.Meets.{meets}
use Rattle.check_words.specs.State.{State}
use Rattle.checks.specs.Checks.{Gives, ◌▷◌}
use Rattle.descriptors.specs.declared.names.Names.{Names}
use Rattle.expr_needs.specs.ActionTable.{action_needs, read_rhs}
use Rattle.expr_needs.specs.ExprTable.{Reading, read_call, read_detail, read_expr, read_key, read_member, read_postfix, read_primary, reading}
use Rattle.expr_needs.specs.Needs.{Need}
use Rattle.needs.specs.Needs.{all_met}
use Rattle.type_model.specs.Calls.{Asked}
use Rattle.type_model.specs.declared.answers.TypeLimit.{TypeLimit}
use Rattle.type_model.specs.declared.atoms.AtomDef.{AtomDef}
use Rattle.typed_exprs.proofs.Steps.{more-path}
use Rattle.typed_exprs.specs.Lines.{Leaves, Run}
use Rattle.typed_needs.specs.WholeRuns.{AllRunsGoOn}
use Rattle.typed_tree.specs.Listed.{Listed, nothing, one, ◌&◌}

-- a layer of an expression is read as its parts are
pub rolled-expr : (x : Expr-F Call Expr Key Postfix Primary Detail Member) → read_expr (roll-Expr x)
    ≡ reading.expr (map-Expr Call Expr Key Postfix Primary Detail Member Reading Reading Reading Reading Reading Reading Reading read_call read_expr read_key read_postfix read_primary read_detail read_member x)
rolled-expr x = fold-roll-Expr Reading Reading Reading Reading Reading Reading Reading reading.call reading.expr reading.key reading.postfix reading.primary reading.detail reading.member x

module _ (passes : List AtomDef → Asked → TypeLimit → Type 0) (names : Names) (env : List AtomDef) where
  -- that each state stands is more than that all needs are met
  pub only-met : (needs : Listed Need) (old new : State) → Run passes names env needs old new → all_met (meets passes names) needs old (Gives tt) new
  unfolding ◌▷◌
  only-met nothing old new run = run
  only-met (one need) old new run = run.0
  only-met (p & q) old new (u, mid, a, b) = (u, mid, only-met p old mid a, only-met q mid new b)

  module _ (positions : PositionsAreKept passes names) (goes : AllRunsGoOn passes names) where
    pub expr-leaves : (x : Expr) → Leaves passes names env (λ e. (read_expr x).needs e)
    expr-leaves x e old new ready run =
        let met = only-met ((read_expr x).needs e) old new run in
        let kept : KeepsPositions passes names (IsReady e) IsOneMore ((read_expr x).needs e) = positions.expr x e in
        let more : IsOneMore old new = kept.comes old new ready met in
        record { more = more; path = more-path old new (goes.expr x e old new ready met) more }

    pub postfix-leaves : (x : Postfix) → Leaves passes names env (λ e. (read_postfix x).needs e)
    postfix-leaves x = subst (λ (r : Reading). Leaves passes names env (λ e. r.needs e)) (rolled-expr (layer.Postfix x)) (expr-leaves (roll-Expr (layer.Postfix x)))

    pub rhs-leaves : (x : Rhs) → Leaves passes names env (λ e. (read_rhs x).needs e)
    rhs-leaves x e old new ready run =
        let met = only-met ((read_rhs x).needs e) old new run in
        let kept : KeepsPositions passes names (IsReady e) IsOneMore ((read_rhs x).needs e) = positions.rhs x e in
        let more : IsOneMore old new = kept.comes old new ready met in
        record { more = more; path = more-path old new (goes.rhs x e old new ready met) more }

    pub action-leaves : (a : Action) → Leaves passes names env (action_needs a)
    action-leaves a = rhs-leaves (ActionRhs (record { ptr = null_ptr; alloc = record { memory = _ }; value = a }))
