-- Where actions may be done they may be done in what the state goes on to.
use Rattle.std.proofs.Common.{All, List, [], ap, append-nil, arith, length, length-append, refl, subst, sym, ◌++◌, ◌+◌, ◌∙◌, ◌∷◌, ◌≡◌}
use Rattle.std.proofs.lemmas.List.Elements.{All-cons, All-head, All-nil, All-tail}
use Rattle.std.specs.List.{AllZip}
use Rattle.std.specs.Prelude.{IsSome}
use Rattle.bal_tree.specs.declared.action.Action.{Action, Prefix', Start, WaitAny, WaitAll, Flush, Receive, Send, SyncSend}
use Rattle.bal_tree.specs.declared.action.Peer.{Peer}
use Rattle.bal_tree.specs.declared.action.Rhs.TheVariants.{Expr as ExprRhs, Action as ActionRhs}
use Rattle.bal_tree.specs.declared.action.Rhs.{Rhs}
use Rattle.check_words.specs.Actions.{peer_named}
use Rattle.check_words.specs.State.{Site, State, UnitAtWork}
use Rattle.operations.specs.Rows.{Surroundings}
use Rattle.type_model.specs.declared.atoms.AtomDef.{AtomDef}
use Rattle.typed_bodies.specs.Claims.{CanAct, StaysIn}
use Rattle.typed_needs.proofs.Going.{each-long}
use Rattle.typed_needs.specs.Going.{IsSameUnit}
use Rattle.typed_needs.specs.Messages.{NamesWorker}
use Rattle.typed_needs.specs.TypedRuns.{NamesOfAction, NamesWorkers}
use Rattle.typed_needs.specs.Waits.{AreResults}
use Rattle.typed_stmts.proofs.Looping.{zip-last}

none-above : (xs : List UnitAtWork) → length xs ≡ 0 → xs ≡ []
none-above [] e = refl
none-above (x ∷ xs) e = absurd (omega (arith, e))

module _ (s t : State) (stays : StaysIn s t) where
  -- no unit came
  units-going : t.units ≡ stays.goes.going
  units-going =
      let long : length t.units ≡ length stays.goes.going + length stays.goes.above = ap length stays.goes.units ∙ length-append stays.goes.going stays.goes.above in
      let same = each-long s.units stays.goes.going stays.goes.each in
      let many = stays.many in
      stays.goes.units ∙ ap (λ l. stays.goes.going ++ l) (none-above stays.goes.above (omega (arith, many, long, same))) ∙ append-nil stays.goes.going

  names-worker : (peer : Peer) → NamesWorker peer s → NamesWorker peer t
  names-worker peer h =
      let each : AllZip IsSameUnit (h.at_hand.kept ++ h.unit ∷ []) t.units =
      subst (λ us. AllZip IsSameUnit us t.units) h.at_hand.is (subst (λ vs. AllZip IsSameUnit s.units vs) (sym units-going) stays.goes.each) in
      let (v, last, same) = zip-last IsSameUnit h.at_hand.kept h.unit t.units each in
      record {
        unit = v;
        at_hand = last;
        known = subst (λ n. IsSome (peer_named t.site.workers n peer)) (sym same.worker) (subst (λ (x : Site). IsSome (peer_named x.workers h.unit.worker peer)) (sym stays.site) h.known);
      }

  names-of : (a : Action) → NamesOfAction a s → NamesOfAction a t
  names-of (Prefix' op _ a at) h = names-of a h
  names-of (Start call at) h = tt
  names-of (WaitAny names at) h = h
  names-of (WaitAll members at) h = tt
  names-of (Flush peer at) h = names-worker peer h
  names-of (Receive peer at) h = names-worker peer h
  names-of (Send value peer at) h = names-worker peer h
  names-of (SyncSend value peer at) h = names-worker peer h

  names-workers : (r : Rhs) → NamesWorkers r s → NamesWorkers r t
  names-workers (ExprRhs e) h = tt
  names-workers (ActionRhs a) h = names-of a.value h

  all-name : (rs : List Rhs) → All (λ r. NamesWorkers r s) rs → All (λ r. NamesWorkers r t) rs
  all-name [] h = All-nil (λ r. NamesWorkers r t)
  all-name (r ∷ rs) h =
      All-cons (λ r. NamesWorkers r t) r rs (names-workers r (All-head (λ r. NamesWorkers r s) r rs h)) (all-name rs (All-tail (λ r. NamesWorkers r s) r rs h))

pub can-act : (env : List AtomDef) (place : Surroundings) (actions : List Rhs) (s t : State) → StaysIn s t → CanAct env place actions s → CanAct env place actions t
can-act env place actions s t stays c =
    record { peers = all-name s t stays actions c.peers; results = subst (λ (x : Site). AreResults env place x.results) (sym stays.site) c.results }
