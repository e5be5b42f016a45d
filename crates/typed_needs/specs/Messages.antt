-- What messages are, as typed parts: sends, receives and flushes. Where an action names no worker nothing is done in its place, so each has to name one.
use Rattle.std.specs.Prelude.{List, IsSome}
use Rattle.bal_base.specs.declared.place.Place.{Place}
use Rattle.bal_tree.specs.declared.action.Peer.{Peer}
use Rattle.descriptors.specs.declared.names.Names.{Names}
use Rattle.type_model.specs.declared.answers.TypeLimit.{TypeLimit}
use Rattle.type_model.specs.declared.atoms.AtomDef.{AtomDef}
use Rattle.type_model.specs.Calls.{Asked}
use Rattle.operations.specs.Rows.{Surroundings}
use Rattle.typed_tree.specs.declared.expr.TypedExpr.{TypedExpr}
use Rattle.expr_needs.specs.declared.expected.Expected.{Expected}
use Rattle.expr_needs.specs.declared.kind.Kind.TheVariants as kind
use Rattle.expr_needs.specs.Needs.{Need, Flushes, Receives, Sends, SendsAndWaits}
use Rattle.check_words.specs.Actions.{peer_named}
use Rattle.check_words.specs.State.{IsLast, State, UnitAtWork}
use Rattle.tree_promises.specs.Types.{IsTypedExpr}
use Rattle.typed_needs.specs.Asked.{IsOfIt}
use Rattle.typed_needs.specs.Pieces.{IsBefore, IsMet, MakesTyped}

-- another worker of the function is named
pub record NamesWorker (peer : Peer) (s : State) : Type 0 where
  pub unit : UnitAtWork
  pub at_hand : IsLast s.units unit
  pub known : IsSome (peer_named s.site.workers unit.worker peer)

module _ (passes : List AtomDef → Asked → TypeLimit → Type 0) (names : Names) (env : List AtomDef) (place : Surroundings) where
  -- `e -> w`, and `e ->> w`
  abbrev pub MessageIsTyped : (Peer → Place → Need) → Type 0
  MessageIsTyped need =
      (peer : Peer) (at : Place) (old new : State) (e : TypedExpr) → IsBefore env new → IsMet passes names env (need peer at) old new → NamesWorker peer old
      → IsLast old.found e → IsTypedExpr env place e → IsOfIt passes names env kind.Sendable e → MakesTyped passes names env place 1 old new

  -- `<- w`
  abbrev pub ReceiveIsTyped : Type 0
  ReceiveIsTyped =
      (x : Expected) (peer : Peer) (at : Place) (old new : State) → IsBefore env new → IsMet passes names env (Receives x peer at) old new → NamesWorker peer old
      → MakesTyped passes names env place 0 old new

  -- `flush w`
  abbrev pub FlushIsTyped : Type 0
  FlushIsTyped =
      (peer : Peer) (at : Place) (old new : State) → IsBefore env new → IsMet passes names env (Flushes peer at) old new → NamesWorker peer old
      → MakesTyped passes names env place 0 old new

  pub record MessagesAreTyped : Type 0 where
    pub sends : MessageIsTyped Sends
    pub waiting : MessageIsTyped SendsAndWaits
    pub receives : ReceiveIsTyped
    pub flushes : FlushIsTyped

abbrev pub AllMessagesAreTyped : (List AtomDef → Asked → TypeLimit → Type 0) → Type 0
AllMessagesAreTyped passes = (names : Names) (env : List AtomDef) (place : Surroundings) → MessagesAreTyped passes names env place
