-- Lines of the table of actions: messages, waits, and what stands behind `check`, `checkpanic` and `trap`.
use Rattle.std.specs.Prelude.{List, ◌∷◌, map, ⊤}
use Rattle.bal_base.specs.declared.place.Place.{Place}
use Rattle.bal_tree.specs.declared.action.Action.{Action}
use Rattle.bal_tree.specs.declared.action.ActionOp.{ActionOp}
use Rattle.bal_tree.specs.declared.action.Peer.{Peer}
use Rattle.bal_tree.specs.declared.action.WaitMember.{WaitMember}
use Rattle.bal_tree.specs.declared.name.QualifiedName.{QualifiedName}
use Rattle.descriptors.specs.declared.names.Names.{Names}
use Rattle.needs.specs.Needs.{in_turn}
use Rattle.operations.specs.Kinds.{IsBoolean}
use Rattle.operations.specs.Rows.{Surroundings}
use Rattle.type_model.specs.declared.answers.TypeLimit.{TypeLimit}
use Rattle.type_model.specs.declared.atoms.AtomDef.{AtomDef}
use Rattle.type_model.specs.declared.basic.SemType.{SemType}
use Rattle.type_model.specs.Calls.{Asked}
use Rattle.type_model.specs.Inclusion.{HasExactly}
use Rattle.typed_tree.specs.Listed.{Listed, one, ◌&◌}
use Rattle.expr_needs.specs.ActionTable.{await_member_needs, await_needs, behind_word}
use Rattle.expr_needs.specs.declared.expected.Expected.{Expected}
use Rattle.expr_needs.specs.declared.kind.Kind.TheVariants as kind
use Rattle.expr_needs.specs.ExprTable.{Reading, against}
use Rattle.expr_needs.specs.Needs.{Need, BeginsKeys, Flushes, Receives, Sends, SendsAndWaits, WaitsForAll, WaitsForAny}
use Rattle.check_words.specs.State.{State}
use Rattle.check_laws.specs.Laws.{IsReady}
use Rattle.typed_needs.specs.Between.{IsKept, IsSoFar}
use Rattle.typed_needs.specs.Messages.{NamesWorker}
use Rattle.typed_needs.specs.Placing.{AreNamed}
use Rattle.typed_needs.specs.TypedRuns.{ComesToTyped, NamesOfAction}
use Rattle.typed_needs.specs.Waits.{AreResults}
use Rattle.typed_exprs.specs.Lines.{Knows, Leaves, Run}

module _ (passes : List AtomDef → Asked → TypeLimit → Type 0) (names : Names) (env : List AtomDef) where
  -- of an action also what its workers are, and what they give
  abbrev pub ActClaim : (State → Type 0) → (Expected → Listed Need) → Type 0
  ActClaim Peers needs =
      (e : Expected) (place : Surroundings) (old new : State) → IsReady e old → Peers old → AreResults env place old.site.results → Run passes names env (needs e) old new
      → IsKept place old → IsSoFar env place new → AreNamed env names place → ComesToTyped env place old new

  abbrev pub MessageClaim : (Peer → Place → Need) → Type 0
  MessageClaim need =
      (x : Reading) (peer : Peer) (at : Place) → Knows passes names env x → ActClaim (NamesWorker peer) (λ e. against kind.Sendable x & one (need peer at))

  pub record ActionsAreTyped : Type 0 where
    -- `e -> w` and `e ->> w`, `<- w`, and `flush w`
    pub sends : MessageClaim Sends
    pub waiting : MessageClaim SendsAndWaits
    pub receives : (peer : Peer) (at : Place) → ActClaim (NamesWorker peer) (λ e. one (Receives e peer at))
    pub flushes : (peer : Peer) (at : Place) → ActClaim (NamesWorker peer) (λ e. one (Flushes peer at))
    -- `wait a|b`, and `wait {a, b}`
    pub any : (q : QualifiedName) (more : List QualifiedName) (at : Place) → ActClaim (λ s. ⊤) (λ e. in_turn await_needs (q ∷ more) & one (WaitsForAny (q ∷ more) at))
    pub all : (ms : List WaitMember) (at : Place)
        → ActClaim (λ s. ⊤) (λ e. one BeginsKeys & in_turn await_member_needs ms & one (WaitsForAll (map (λ m. m.name) ms) at))
    -- `check`, `checkpanic` and `trap` before an action
    pub behind : (op : ActionOp) (a : Action) (needs : Expected → Listed Need) (at : Place) → Leaves passes names env needs → ActClaim (NamesOfAction a) needs
        → ActClaim (NamesOfAction a) (λ e. behind_word op needs e at)

abbrev pub AllActionsAreTyped : (List AtomDef → Asked → TypeLimit → Type 0) → Type 0
AllActionsAreTyped passes = (names : Names) (env : List AtomDef) (truth : SemType) → HasExactly env truth IsBoolean → ActionsAreTyped passes names env
