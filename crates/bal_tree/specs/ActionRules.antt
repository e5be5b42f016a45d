-- Which actions are well formed.
use Rattle.std.specs.Prelude.{Bool, true, false, ◌&&◌, not, nat_eq, List, length}
use Rattle.bal_tree.specs.declared.action.Rhs.{Rhs}
use Rattle.bal_tree.specs.declared.action.Rhs.TheVariants.{Expr as ExprRhs, Action as ActionRhs}
use Rattle.bal_tree.specs.declared.action.Action.{Action, Prefix', Start, WaitAny, WaitAll, Flush, Receive, Send, SyncSend}
use Rattle.bal_tree.specs.declared.action.ActionOp.{ActionOp}
use Rattle.bal_tree.specs.declared.action.ActionOp.TheVariants.{Check, CheckPanic, Trap}
use Rattle.bal_tree.specs.declared.action.Sending.{Sending}
use Rattle.bal_tree.specs.declared.action.Sending.TheVariants.{Nothing, Async, Sync}
use Rattle.bal_tree.specs.ExprRules.{expr_facts, expr_is_formed, call_is_formed}

-- whether the action is a send, behind any words: by `->` it is asynchronous, by `->>` it is synchronous
abbrev pub sending : Action → Sending
sending (Prefix' op _ action at) = sending action
sending (Start call at) = Nothing
sending (WaitAny names at) = Nothing
sending (WaitAll members at) = Nothing
sending (Flush peer at) = Nothing
sending (Receive peer at) = Nothing
sending (Send value peer at) = Async
sending (SyncSend value peer at) = Sync

abbrev pub may_be_checked : Sending → Bool
may_be_checked Nothing = true
may_be_checked Async = false
may_be_checked Sync = true

abbrev pub may_be_trapped : Sending → Bool
may_be_trapped Nothing = true
may_be_trapped Async = false
may_be_trapped Sync = false

-- Before a send, `trap` and what follows it belong to the sent expression. So do `check` and `checkpanic` before a send by
-- `->`; before one by `->>` they belong to the action.
abbrev pub may_stand_before : ActionOp → Sending → Bool
may_stand_before Check = may_be_checked
may_stand_before CheckPanic = may_be_checked
may_stand_before Trap = may_be_trapped

-- there is a first member
abbrev pub has_members : {X : Type 0} → List X → Bool
has_members xs = not (nat_eq (length xs) 0)

abbrev pub action_is_formed : Action → Bool
action_is_formed (Prefix' op _ action at) = may_stand_before op (sending action) && action_is_formed action
action_is_formed (Start call at) = call_is_formed call false
action_is_formed (WaitAny names at) = has_members names.items
action_is_formed (WaitAll members at) = has_members members.items
action_is_formed (Flush peer at) = true
action_is_formed (Receive peer at) = true
action_is_formed (Send value peer at) = expr_is_formed value.value false
action_is_formed (SyncSend value peer at) = not (expr_facts value.value).begins_with_check && expr_is_formed value.value false

abbrev pub rhs_is_formed : Rhs → Bool
rhs_is_formed (ExprRhs e) = expr_is_formed e.value false
rhs_is_formed (ActionRhs a) = action_is_formed a.value
