-- The table of actions, and of what stands at the right of an assignment (Ballerina specification, "Actions"). A line a construct.
use Rattle.std.specs.Prelude.{map}
use Rattle.bal_base.specs.declared.place.Place.{Place}
use Rattle.bal_tree.specs.declared.action.Action.{Action, Prefix', Start, WaitAny, WaitAll, Flush, Receive, Send, SyncSend}
use Rattle.bal_tree.specs.declared.action.ActionOp.{ActionOp}
use Rattle.bal_tree.specs.declared.action.ActionOp.TheVariants.{Check, CheckPanic, Trap}
use Rattle.bal_tree.specs.declared.action.Rhs.{Rhs}
use Rattle.bal_tree.specs.declared.action.Rhs.TheVariants.{Expr as ExprRhs, Action as ActionRhs}
use Rattle.bal_tree.specs.declared.action.WaitMember.{WaitMember}
use Rattle.bal_tree.specs.declared.name.QualifiedName.{QualifiedName}
use Rattle.needs.specs.Needs.{in_turn}
use Rattle.tree_places.specs.StmtPlaces.{place_of_action}
use Rattle.tree_places.specs.UsedInStmts.{used_in_action}
use Rattle.typed_tree.specs.Listed.{Listed, one, ◌&◌}
use Rattle.expr_needs.specs.declared.expected.Expected.{Expected}
use Rattle.expr_needs.specs.declared.expected.Expected.TheVariants.{Nothing, Immutable, Wanted}
use Rattle.expr_needs.specs.declared.kind.Kind.TheVariants as kind
use Rattle.expr_needs.specs.Needs.{Need, WantsErrorToo, DropsWant, Checks, ChecksPanicking, Traps, BeginsKeys, TakesKey, Starts, Awaits, WaitsForAny, WaitsForAll, Receives, Sends, SendsAndWaits, Flushes}
use Rattle.expr_needs.specs.ExprTable.{Reading, against, read_call, read_expr, reads}

-- under `check` an error may come beside what is expected
abbrev pub checked_needs : (Expected → Listed Need) → Expected → Place → Listed Need
checked_needs needs Wanted at = (one WantsErrorToo & needs Wanted & one DropsWant) & one (Checks at)
checked_needs needs Nothing at = needs Nothing & one (Checks at)
checked_needs needs Immutable at = needs Nothing & one (Checks at)

-- `check a`, `checkpanic a`, `trap a`
abbrev pub behind_word : ActionOp → (Expected → Listed Need) → Expected → Place → Listed Need
behind_word Check needs e at = checked_needs needs e at
behind_word CheckPanic needs e at = needs Nothing & one (ChecksPanicking at)
behind_word Trap needs e at = needs Nothing & one (Traps at)

-- `start f(..)`
abbrev pub start_needs : Reading → Place → Listed Need
start_needs call at = call.starts & one (Starts call.at at)

abbrev pub await_needs : QualifiedName → Listed Need
await_needs q = one (Awaits q)

abbrev pub await_member_needs : WaitMember → Listed Need
await_member_needs m = one (TakesKey m.key.name m.key.at) & one (Awaits m.name)

abbrev pub action_needs : Action → Expected → Listed Need
action_needs (Prefix' op _ action at) e = behind_word op (action_needs action) e at
action_needs (Start call at) e = start_needs (read_call call) at
action_needs (WaitAny names at) e = in_turn await_needs names.items & one (WaitsForAny names.items at)
action_needs (WaitAll members at) e =
    one BeginsKeys & in_turn await_member_needs members.items & one (WaitsForAll (map (λ m. m.name) members.items) at)
action_needs (Flush peer at) e = one (Flushes peer at)
action_needs (Receive peer at) e = one (Receives e peer at)
action_needs (Send value peer at) e = against kind.Sendable (read_expr value.value) & one (Sends peer at)
action_needs (SyncSend value peer at) e = against kind.Sendable (read_expr value.value) & one (SendsAndWaits peer at)

abbrev pub read_action : Action → Reading
read_action a = reads (place_of_action a) (used_in_action a) (action_needs a)

abbrev pub read_rhs : Rhs → Reading
read_rhs (ExprRhs e) = read_expr e.value
read_rhs (ActionRhs a) = read_action a.value
