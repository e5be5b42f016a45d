-- Actions, and what may stand at the right of an assignment, written out.
use Rattle.std.specs.Prelude.{map}
use Rattle.bal_base.specs.declared.token.Keyword.{Keyword}
use Rattle.bal_base.specs.declared.token.Keyword.TheVariants.{Check as CheckKey, CheckPanic as CheckPanicKey, Trap as TrapKey, Start as StartKey, Wait as WaitKey, Flush as FlushKey, Function as FunctionKey}
use Rattle.bal_base.specs.declared.token.Sign.TheVariants.{Bar, OpenBrace, CloseBrace, Colon, Comma, LeftArrow, Arrow, DoubleArrow}
use Rattle.bal_tree.specs.declared.action.Rhs.{Rhs}
use Rattle.bal_tree.specs.declared.action.Rhs.TheVariants.{Expr as ExprRhs, Action as ActionRhs}
use Rattle.bal_tree.specs.declared.action.Action.{Action, Prefix', Start, WaitAny, WaitAll, Flush, Receive, Send, SyncSend}
use Rattle.bal_tree.specs.declared.action.ActionOp.{ActionOp}
use Rattle.bal_tree.specs.declared.action.ActionOp.TheVariants.{Check, CheckPanic, Trap}
use Rattle.bal_tree.specs.declared.action.Peer.{Peer}
use Rattle.bal_tree.specs.declared.action.Peer.TheVariants.{Word as WordPeer, Function as FunctionPeer}
use Rattle.bal_tree.specs.declared.action.WaitMember.{WaitMember}
use Rattle.bal_tree.specs.Pieces.{Pieces, starts, ◌&◌, key, sign, separated}
use Rattle.bal_tree.specs.NamePieces.{word_pieces, name_pieces}
use Rattle.bal_tree.specs.ExprPieces.{expr_pieces, call_pieces}

abbrev pub action_key : ActionOp → Keyword
action_key Check = CheckKey
action_key CheckPanic = CheckPanicKey
action_key Trap = TrapKey

abbrev pub peer_pieces : Peer → Pieces
peer_pieces (WordPeer w) = word_pieces w
peer_pieces (FunctionPeer at) = starts at & key FunctionKey

abbrev pub wait_member_pieces : WaitMember → Pieces
wait_member_pieces m = starts m.at & word_pieces m.key & sign Colon & name_pieces m.name

abbrev pub action_pieces : Action → Pieces
action_pieces (Prefix' op _ action at) = starts at & key (action_key op) & action_pieces action
action_pieces (Start call at) = starts at & key StartKey & call_pieces call
action_pieces (WaitAny names at) = starts at & key WaitKey & separated Bar (map name_pieces names.items)
action_pieces (WaitAll members at) =
    starts at & key WaitKey & sign OpenBrace & separated Comma (map wait_member_pieces members.items) & sign CloseBrace
action_pieces (Flush peer at) = starts at & key FlushKey & peer_pieces peer
action_pieces (Receive peer at) = starts at & sign LeftArrow & peer_pieces peer
action_pieces (Send value peer at) = starts at & expr_pieces value.value & sign Arrow & peer_pieces peer
action_pieces (SyncSend value peer at) = starts at & expr_pieces value.value & sign DoubleArrow & peer_pieces peer

abbrev pub rhs_pieces : Rhs → Pieces
rhs_pieces (ExprRhs e) = expr_pieces e.value
rhs_pieces (ActionRhs a) = action_pieces a.value
