-- Actions whose peers are other workers of the function, and waits for a name at least.
use Rattle.std.specs.Prelude.{IsSome, List, length, ℕ, ⊤, ◌≤◌}
use Rattle.bal_base.specs.declared.text.Name.{Name}
use Rattle.bal_tree.specs.declared.action.Action.{Action, Flush, Prefix', Receive, Send, Start, SyncSend, WaitAll, WaitAny}
use Rattle.bal_tree.specs.declared.action.Peer.{Peer}
use Rattle.bal_tree.specs.declared.action.Rhs.TheVariants.{Action as ActionRhs, Expr as ExprRhs}
use Rattle.bal_tree.specs.declared.action.Rhs.{Rhs}
use Rattle.check_words.specs.Actions.{peer_named}

-- `workers`: the names of the function's workers; `own`: the number of the one that acts
module _ (workers : List Name) (own : ℕ) where
  abbrev pub IsPeer : Peer → Type 0
  IsPeer p = IsSome (peer_named workers own p)

  abbrev pub HasPeers : Action → Type 0
  HasPeers (Prefix' op _ a at) = HasPeers a
  HasPeers (Start call at) = ⊤
  HasPeers (WaitAny names at) = 1 ≤ length names.items
  HasPeers (WaitAll members at) = ⊤
  HasPeers (Flush p at) = IsPeer p
  HasPeers (Receive p at) = IsPeer p
  HasPeers (Send value p at) = IsPeer p
  HasPeers (SyncSend value p at) = IsPeer p

  abbrev pub ActsOnPeers : Rhs → Type 0
  ActsOnPeers (ExprRhs e) = ⊤
  ActsOnPeers (ActionRhs a) = HasPeers a.value
