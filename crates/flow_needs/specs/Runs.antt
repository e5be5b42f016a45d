-- What whole runs of expressions come to for flows: one part more, which keeps what the checkers know of variables, and behind it what they know where it is true and where
-- it is false.
use Rattle.std.specs.Prelude.{◌≡◌, ◌++◌, All, Bool, List, [], ◌∷◌, length, IfSome, Option, Some, None}
use Rattle.bal_tree.specs.declared.action.Rhs.{Rhs}
use Rattle.bal_tree.specs.declared.expr.Call.{Call}
use Rattle.bal_tree.specs.declared.expr.Expr.{Expr}
use Rattle.bal_tree.specs.declared.expr.Postfix.{Postfix}
use Rattle.bal_tree.specs.declared.expr.Primary.{Primary}
use Rattle.descriptors.specs.declared.names.Names.{Names}
use Rattle.operations.specs.Rows.{Surroundings}
use Rattle.type_model.specs.declared.answers.TypeLimit.{TypeLimit}
use Rattle.type_model.specs.declared.atoms.AtomDef.{AtomDef}
use Rattle.type_model.specs.Calls.{Asked}
use Rattle.typed_tree.specs.declared.expr.TypedExpr.{TypedExpr}
use Rattle.typed_tree.specs.Listed.{Listed, one}
use Rattle.expr_needs.specs.ActionTable.{read_rhs}
use Rattle.expr_needs.specs.declared.expected.Expected.{Expected}
use Rattle.expr_needs.specs.ExprTable.{Reading, read_call, read_expr, read_postfix, read_primary}
use Rattle.expr_needs.specs.Needs.{Need, GivesNamed}
use Rattle.flow_narrowing.specs.declared.flow.Flow.{Flow as CheckedFlow}
use Rattle.check_words.specs.State.{IsLast, State, UnitAtWork, Ways, ways_or_same}
use Rattle.check_laws.specs.Laws.{IsReady}
use Rattle.eval_model.specs.TaskWalk.{TasksOver}
use Rattle.eval_model.specs.Trees.{body_tasks}
use Rattle.tree_promises.specs.Flows.{Around, flow_ways}
use Rattle.tree_promises.specs.Known.{Flow, FlowBelow, plain}
use Rattle.tree_promises.specs.KnownOf.{if_reached, known_by}
use Rattle.tree_promises.specs.MadeFlows.{LeavesFlow}
use Rattle.tree_promises.specs.Placed.{Placed}
use Rattle.tree_promises.specs.WellTyped.{around_of}
use Rattle.typed_needs.specs.Between.{IsSoFar, IsStanding, units_in}
use Rattle.typed_exprs.specs.Lines.{Leaves, Run}
use Rattle.flow_needs.specs.Narrower.{AreNarrower}
use Rattle.flow_needs.specs.Quiet.{KnowsOn}
use Rattle.flow_needs.specs.Slots.{HasOwnSlots, IsFreeFrom}

-- What the variables of a checker's flow say of the slots of the unit, where the place is reached. `live`: whether it is; for the claim holds both where it is and where it
-- isn't, whatever the checkers found. Functions that stand in an expression that isn't reached have units all the same.
abbrev pub known_in : Around → Bool → CheckedFlow → Flow
known_in around live f = if_reached live (known_by (length around.slots) f.variables)

-- there is a way through the unit's body by what is known of its slots
abbrev pub IsFlowingUnit : List AtomDef → Placed → Type 0
IsFlowingUnit env u = TasksOver (flow_ways env (around_of u.tree)) (body_tasks u.tree.body) (plain (Some u.known) None) None

module _ (env : List AtomDef) (around : Around) (live : Bool) where
  -- What may be known wherever a panic lands while parts of the unit are found: nothing of slots that come later, and no more than is known by now.
  pub record IsBaseAt (u : UnitAtWork) (base : Option Flow) : Type 0 where
    pub free : IsFreeFrom (length u.slots) (length around.slots) base
    pub below : IfSome base (FlowBelow env (known_in around live u.flow))

  -- where the unit's flow is known the part may be evaluated, and leaves it; and where the part is true and where it is false this is known
  abbrev pub LeavesWays : UnitAtWork → TypedExpr → Ways → Type 0
  LeavesWays u part w =
      (base : Option Flow) → IsBaseAt u base
      → LeavesFlow env around base part (known_in around live u.flow) (known_in around live u.flow) (known_in around live w.yes) (known_in around live w.no)

  -- one part more: in all units the same is known of variables, the part leaves it so, and the functions in it flow in units of their own
  pub record ComesToFlow (old new : State) : Type 0 where
    pub part : TypedExpr
    pub found : new.found ≡ old.found ++ part ∷ []
    pub on : KnowsOn old new
    pub was : UnitAtWork
    pub before : IsLast old.units was
    pub now : UnitAtWork
    pub behind : IsLast new.units now
    pub leaves : LeavesWays was part (ways_or_same new.ways now.flow)
    pub narrower : AreNarrower env was.flow (ways_or_same new.ways now.flow)
    pub units : All (IsFlowingUnit env) (units_in (part ∷ []))

module _ (passes : List AtomDef → Asked → TypeLimit → Type 0) (names : Names) (env : List AtomDef) where
  -- where a state is ready, each variable stands in a slot of its own, and the end is the place's, they come to one such part more
  abbrev pub FlowClaim : (Expected → Listed Need) → Type 0
  FlowClaim needs =
      (e : Expected) (place : Surroundings) (around : Around) (live : Bool) (old new : State) → around.slots ≡ place.slots → IsReady e old → Run passes names env (needs e) old new
      → IsStanding old → HasOwnSlots old → IsSoFar env place new → ComesToFlow env around live old new

  -- what is known of a reading whose tree is smaller; a reading with a name is what gives the name
  pub record KnowsFlow (a : Reading) : Type 0 where
    pub claim : FlowClaim a.needs
    pub leaves : Leaves passes names env a.needs
    pub named : IfSome a.name (λ q. a.needs ≡ (λ e. one (GivesNamed q)))

  -- all needs of an expression, of a part of one, or of an action, come to one part more that keeps the flow
  pub record RunsKeepFlow : Type 0 where
    pub expr : (x : Expr) → FlowClaim (read_expr x).needs
    pub postfix : (x : Postfix) → FlowClaim (read_postfix x).needs
    pub primary : (x : Primary) → FlowClaim (read_primary x).needs
    pub call : (x : Call) → FlowClaim (read_call x).needs
    pub rhs : (x : Rhs) → FlowClaim (read_rhs x).needs

-- ---- the law, of each package, whatever atoms there are at the end

abbrev pub AllRunsKeepFlow : (List AtomDef → Asked → TypeLimit → Type 0) → Type 0
AllRunsKeepFlow passes = (names : Names) (env : List AtomDef) → RunsKeepFlow passes names env
