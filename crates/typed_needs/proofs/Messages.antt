-- Messages of typed parts.
use Rattle.std.proofs.Common.{◌≡◌, ◌∙◌, ◌++◌, inl, ℕ, Bool, true, false, List, [], ◌∷◌, length, map, Option, Some, None, append-nil, refl, sym, subst, ap}
use Rattle.std.specs.Prelude.{IsSome, Result, Ok, Err, ⊤}
use Rattle.bal_base.specs.declared.fault.Fault.{Fault}
use Rattle.bal_base.specs.declared.fault.FaultCode.TheVariants.{NeedsType}
use Rattle.bal_base.specs.declared.place.Place.{Place}
use Rattle.bal_base.specs.declared.shape.Shape.{Shape}
use Rattle.bal_base.specs.Valid.{IsValid}
use Rattle.bal_tree.specs.declared.action.Peer.{Peer}
use Rattle.checks.specs.Checks.{Gives, ◌▷◌, gives_some, refuses}
use Rattle.descriptors.specs.declared.names.Names.{Names}
use Rattle.type_model.specs.declared.answers.TypeLimit.{TypeLimit}
use Rattle.type_model.specs.declared.atoms.AtomDef.{AtomDef}
use Rattle.type_model.specs.declared.basic.SemType.{SemType}
use Rattle.type_model.specs.declared.basic.Ty.{Ty}
use Rattle.type_model.specs.Calls.{Asked, KeepsTypes}
use Rattle.type_model.specs.Defined.{IsDefined}
use Rattle.type_model.specs.Membership.{In}
use Rattle.operations.specs.declared.operation.Operation.{Operation}
use Rattle.operations.specs.declared.operation.Operation.TheVariants.{Done, Flush, Post, Receive, Send, Tick}
use Rattle.operations.specs.Kinds.{IsNil}
use Rattle.operations.specs.Rows.{AreBelow, ResultHas, Surroundings}
use Rattle.operations.specs.Typing.{OpTyped}
use Rattle.typed_tree.specs.declared.event.SeenEvent.{SeenEvent}
use Rattle.typed_tree.specs.declared.expr.TypedExpr.{TypedExpr}
use Rattle.typed_tree.specs.declared.form.StrictForm.{StrictForm}
use Rattle.typed_tree.specs.declared.form.StrictForm.TheVariants as form
use Rattle.typed_tree.specs.SharedTypes.{Shared, sem_of}
use Rattle.held_operations.specs.Constructs.{operations_of}
use Rattle.eval_model.specs.Walk.{OpsOver}
use Rattle.expr_needs.specs.declared.expected.Expected.{Expected}
use Rattle.expr_needs.specs.declared.expected.Expected.TheVariants as expected
use Rattle.expr_needs.specs.declared.kind.Kind.TheVariants as kind
use Rattle.expr_needs.specs.Needs.{Sends, SendsAndWaits}
use Rattle.check_words.specs.Actions.{NilOrErrors, flush_fails, flushes, known_result, may_fail, sent_before, makes_message, message_to, peer_named, peer_of, receives, receives_as, result_of, sends, sends_and_waits}
use Rattle.check_words.specs.State.{AreLast, IsLast, State, UnitAtWork}
use Rattle.check_words.specs.Words.{Atoms, OfKind}
use Rattle.tree_promises.specs.Made.{AreTypedExprs, LeadsTo, MadeIsTyped, sem}
use Rattle.tree_promises.specs.Types.{Stack, type_ways}
use Rattle.tree_promises.proofs.Pieces.{made-is-typed}
use Rattle.typed_needs.specs.Messages.{FlushIsTyped, MessageIsTyped, MessagesAreTyped, NamesWorker, ReceiveIsTyped}
use Rattle.typed_needs.specs.Pieces.{IsBefore, MakesTyped}
use Rattle.typed_needs.proofs.Leaving.{LeavesAll, Makes, all-some, all-then, as-same, between, made}
use Rattle.typed_needs.proofs.Opened.{as-lasts}
use Rattle.typed_needs.proofs.Placed.{last-same}
use Rattle.typed_needs.proofs.Strict.{StrictMade, never, strict-typed, types-itself}

-- ---- who is named

peer-leaves : (p : Peer) → LeavesAll (peer_of p)
peer-leaves p = all-then _ _ (all-some _) (λ site. all-then _ _ (all-some _) (λ u. all-some _))

peer-is : (p : Peer) (o : Option ℕ) (old new : State) → peer_of p old (Gives o) new → (u : UnitAtWork) × IsLast old.units u × (o ≡ peer_named old.site.workers u.worker p)
unfolding ◌▷◌ gives_some
peer-is p o old new (site, a, (is, first), (u, b, (last, second), (same, third))) = (
  u,
  subst (λ (s : State). IsLast s.units u) first last,
  same ∙ ap (λ x. peer_named x.workers u.worker p) is,
)

-- where a worker is named it is given
peer-some : (p : Peer) (o : Option ℕ) (old new : State) → peer_of p old (Gives o) new → NamesWorker p old → (w : ℕ) × (o ≡ Some w)
peer-some p o old new met named =
    let (u, last, is) = peer-is p o old new met in
    let unit : named.unit ≡ u = last-same old.units named.unit u named.at_hand last in
    let known : IsSome (peer_named old.site.workers u.worker p) = subst (λ (v : UnitAtWork). IsSome (peer_named old.site.workers v.worker p)) unit named.known in
    by o (subst IsSome (sym is) known)
  where
    by : (o : Option ℕ) → IsSome o → (w : ℕ) × (o ≡ Some w)
    by (Some w) h = (w, refl)
    by None h = absurd (let bad : ⊥ = cc in bad)

-- ---- what is made

-- nil is of the type
abbrev HasNil : Atoms → Ty → Type 0
HasNil env t = (x : Shape) → IsValid x → IsNil x → In env x t.sem

-- any type
abbrev IsAny : Atoms → Ty → Type 0
IsAny env t = ⊤

makes-weaker : (f : StrictForm) (P Q : Atoms → Ty → Type 0) (count : ℕ) (at : Place) (old new : State) → ((env : Atoms) (t : Ty) → P env t → Q env t)
    → Makes count (StrictMade f P at) old new → Makes count (StrictMade f Q at) old new
makes-weaker f P Q count at old new weaker (ps, e, l, (t, holds, view), found, atoms) = (ps, e, l, (t, weaker old.atoms t.value holds, view), found, atoms)

-- a message to the worker, if one is named
abbrev MessageMade : ℕ → (Option ℕ → StrictForm) → (Atoms → Ty → Type 0) → Peer → Place → State → State → Type 0
MessageMade count f P p at old new = (o : Option ℕ) × (NamesWorker p old → (w : ℕ) × (o ≡ Some w)) × Makes count (StrictMade (f o) P at) old new

abbrev NilMade : StrictForm → Place → Atoms → List TypedExpr → TypedExpr → Type 0
NilMade f at = StrictMade f (OfKind kind.Nothing) at

abbrev ErrorsMade : SemType → StrictForm → Place → Atoms → List TypedExpr → TypedExpr → Type 0
ErrorsMade r f at = StrictMade f (NilOrErrors r) at

abbrev SameMade : Shared → StrictForm → Place → Atoms → List TypedExpr → TypedExpr → Type 0
SameMade t f at = StrictMade f (λ env u. u ≡ t.value) at

nil-of-kind : (env : Atoms) (t : Ty) → OfKind kind.Nothing env t → HasNil env t
nil-of-kind env t h x valid nil = (h.0.shapes x valid).1 nil

nil-or-errors : (r : SemType) (env : Atoms) (t : Ty) → NilOrErrors r env t → HasNil env t
nil-or-errors r env t h x valid nil = (h.shapes x valid).1 (inl nil)

send-made : (p : Peer) (at : Place) (old new : State) → sends p at old (Gives tt) new → MessageMade 1 form.Send HasNil p at old new
unfolding ◌▷◌
send-made p at old new (o, mid, asked, makes-it) = (
  o,
  peer-some p o old mid asked,
  makes-weaker (form.Send o) (OfKind kind.Nothing) HasNil 1 at old new nil-of-kind
      (between 1 (NilMade (form.Send o) at) old mid new new (as-same old mid (peer-leaves p old mid o asked)) (made 1 (NilMade (form.Send o) at) tt mid new makes-it) (as-same new new refl)),
)

refused-leaves : (fault : Fault) → LeavesAll (known_result (Some (Err fault)))
unfolding refuses
refused-leaves fault old new a x = absurd x

known-leaves : (r : Option (Result Shared Fault)) → LeavesAll (known_result r)
known-leaves (Some (Ok t)) = all-some _
known-leaves (Some (Err fault)) = refused-leaves fault
known-leaves None = all-some _

result-leaves : (w : ℕ) → LeavesAll (result_of w)
result-leaves w = all-then _ _ (all-some _) (λ site. known-leaves _)

-- it gives nil, whatever else
nil-made : (may_fail : Bool) (count : ℕ) (f : StrictForm) (peer : ℕ) (at : Place) (old new : State) → makes_message may_fail count f peer at old (Gives tt) new
    → Makes count (StrictMade f HasNil at) old new
unfolding ◌▷◌
nil-made false count f peer at old new met = makes-weaker f (OfKind kind.Nothing) HasNil count at old new nil-of-kind (made count (NilMade f at) tt old new met)
nil-made true count f peer at old new (t, mid, asked, makes-it) =
    makes-weaker f (NilOrErrors (sem_of t)) HasNil count at old new (nil-or-errors (sem_of t))
    (between count (ErrorsMade (sem_of t) f at) old mid new new (as-same old mid (result-leaves peer old mid t asked)) (made count (ErrorsMade (sem_of t) f at) tt mid new makes-it) (as-same new new refl))

to-made : (by : ℕ → ℕ → List SeenEvent → Bool) (count : ℕ) (f : StrictForm) (o : Option ℕ) (at : Place) (old new : State) → message_to by count f o at old (Gives tt) new
    → Makes count (StrictMade f HasNil at) old new
unfolding ◌▷◌ gives_some
to-made by count f None at old new met = makes-weaker f (OfKind kind.Nothing) HasNil count at old new nil-of-kind (made count (NilMade f at) tt old new met)
to-made by count f (Some peer) at old new (site, a, (is, first), (u, b, (last, second), met)) =
    nil-made (by u.worker peer site.events) count f peer at old new
    (subst (λ (s : State). makes_message (by u.worker peer site.events) count f peer at s (Gives tt) new) (second ∙ first) met)

-- whether the peer may have failed
abbrev waiting_fails : Place → ℕ → ℕ → List SeenEvent → Bool
waiting_fails at own w events = may_fail own w (sent_before own w at events) events

abbrev flushing_fails : Place → ℕ → ℕ → List SeenEvent → Bool
flushing_fails at own w events = flush_fails own w (sent_before own w at events) events

waiting-made : (p : Peer) (at : Place) (old new : State) → sends_and_waits p at old (Gives tt) new → MessageMade 1 form.SyncSend HasNil p at old new
unfolding ◌▷◌
waiting-made p at old new (o, mid, asked, met) = (
  o,
  peer-some p o old mid asked,
  to-made (waiting_fails at) 1 (form.SyncSend o) o at old new
      (subst (λ (s : State). message_to (waiting_fails at) 1 (form.SyncSend o) o at s (Gives tt) new) (peer-leaves p old mid o asked) met),
)

flush-made : (p : Peer) (at : Place) (old new : State) → flushes p at old (Gives tt) new → MessageMade 0 form.Flush HasNil p at old new
unfolding ◌▷◌
flush-made p at old new (o, mid, asked, met) = (
  o,
  peer-some p o old mid asked,
  to-made (flushing_fails at) 0 (form.Flush o) o at old new
      (subst (λ (s : State). message_to (flushing_fails at) 0 (form.Flush o) o at s (Gives tt) new) (peer-leaves p old mid o asked) met),
)

receive-as-made : (w : Option Shared) (p : Peer) (at : Place) (old new : State) → receives_as w p at old (Gives tt) new → MessageMade 0 form.Receive IsAny p at old new
unfolding ◌▷◌
receive-as-made None p at old new met = absurd (never NeedsType at old new met)
receive-as-made (Some t) p at old new (o, mid, asked, makes-it) = (
  o,
  peer-some p o old mid asked,
  makes-weaker (form.Receive o) (λ env u. u ≡ t.value) IsAny 0 at old new (λ env u h. tt)
      (between 0 (SameMade t (form.Receive o) at) old mid new new (as-same old mid (peer-leaves p old mid o asked)) (made 0 (SameMade t (form.Receive o) at) tt mid new makes-it) (as-same new new refl)),
)

receive-made : (x : Expected) (p : Peer) (at : Place) (old new : State) → receives x p at old (Gives tt) new → MessageMade 0 form.Receive IsAny p at old new
unfolding ◌▷◌ gives_some
receive-made expected.Nothing p at old new met = receive-as-made None p at old new met
receive-made expected.Immutable p at old new met = receive-as-made None p at old new met
receive-made expected.Wanted p at old new (w, mid, (last, same), met) =
    receive-as-made w p at old new (subst (λ (s : State). receives_as w p at s (Gives tt) new) same met)

-- ---- what they are

module _ (passes : List AtomDef → Asked → TypeLimit → Type 0) (names : Names) (env : List AtomDef) (place : Surroundings) where
  -- a tick is spent first
  pub ticked : (ops : List Operation) (operands : Stack) (t : SemType) → LeadsTo env place ops operands t → LeadsTo env place (Tick ∷ ops) operands t
  ticked ops operands t leads below = (
    below ++ operands,
    record {
      below = below ++ operands;
      operands = [];
      result = None;
      are = sym (append-nil (below ++ operands));
      row = (refl, refl);
      behind = λ goes. subst (λ z. AreBelow env z (below ++ operands)) (sym (append-nil (below ++ operands))) (types-itself env (below ++ operands));
    },
    leads below,
  )

  pub one-op : (op : Operation) (operands : Stack) (t : SemType) → OpTyped env place op operands (Some t) → LeadsTo env place (op ∷ []) operands t
  one-op op operands t row = let pieces : MadeIsTyped env place t = made-is-typed env place t in pieces.one_row op operands t row

  -- one that gives nothing, and then one that takes nothing
  posted : (w : ℕ) (v t : SemType) → OpTyped env place (Post w) (v ∷ []) None → OpTyped env place (Done w) [] (Some t) → LeadsTo env place (Post w ∷ Done w ∷ []) (v ∷ []) t
  posted w v t first second below = (
    below,
    record {
      below = below;
      operands = v ∷ [];
      result = None;
      are = refl;
      row = first;
      behind = λ goes. subst (λ z. AreBelow env z below) (sym (append-nil below)) (types-itself env below);
    },
    subst (λ z. OpsOver (type_ways env place) (Done w ∷ []) z (below ++ t ∷ [])) (append-nil below) (one-op (Done w) [] t second below),
  )

  nil-later : (old : Atoms) (t : Shared) → HasNil old t.value → IsDefined old (sem_of t) → KeepsTypes old env → ResultHas env (Some (sem_of t)) IsNil
  nil-later old t has defined keeps x valid nil = (keeps.shapes (sem_of t) defined x).0 (has x valid nil)

  message : (count : ℕ) (f : Option ℕ → StrictForm) (P : Atoms → Ty → Type 0) (parts : List TypedExpr) (p : Peer) (at : Place) (old new : State) → IsBefore env new
      → MessageMade count f P p at old new → NamesWorker p old → AreLast old.found count parts → AreTypedExprs env place parts
      → ((w : ℕ) (t : Shared) → P old.atoms t.value → IsDefined old.atoms (sem_of t) → KeepsTypes old.atoms env
      → LeadsTo env place (operations_of (f (Some w)) (length parts)) (map sem parts) (sem_of t))
      → MakesTyped passes names env place count old new
  message count f P parts p at old new after (o, known, makes-it) named last typed leads =
      let (w, is) = known named in
      strict-typed env passes names place (f (Some w)) count parts P at old new after last typed
      (subst (λ (q : Option ℕ). Makes count (StrictMade (f q) P at) old new) is makes-it) (leads w)

  sent : MessageIsTyped passes names env place Sends
  sent p at old new e after met named last typed sendable =
      message 1 form.Send HasNil (e ∷ []) p at old new after (send-made p at old new met) named (as-lasts old.found e last) (typed, tt)
      (λ w t nil defined keeps. ticked (Send w ∷ []) (sem e ∷ []) (sem_of t) (one-op (Send w) (sem e ∷ []) (sem_of t) (sendable, nil-later old.atoms t nil defined keeps)))

  waited : MessageIsTyped passes names env place SendsAndWaits
  waited p at old new e after met named last typed sendable =
      message 1 form.SyncSend HasNil (e ∷ []) p at old new after (waiting-made p at old new met) named (as-lasts old.found e last) (typed, tt)
      (λ w t nil defined keeps. ticked (Post w ∷ Done w ∷ []) (sem e ∷ []) (sem_of t) (posted w (sem e) (sem_of t) (sendable, refl) (refl, nil-later old.atoms t nil defined keeps)))

  received : ReceiveIsTyped passes names env place
  received x p at old new after met named =
      message 0 form.Receive IsAny [] p at old new after (receive-made x p at old new met) named (record { kept = old.found; is = sym (append-nil old.found); many = refl }) tt
      (λ w t any defined keeps. ticked (Receive w ∷ []) [] (sem_of t) (one-op (Receive w) [] (sem_of t) (refl, refl)))

  flushed : FlushIsTyped passes names env place
  flushed p at old new after met named =
      message 0 form.Flush HasNil [] p at old new after (flush-made p at old new met) named (record { kept = old.found; is = sym (append-nil old.found); many = refl }) tt
      (λ w t nil defined keeps. ticked (Flush w ∷ []) [] (sem_of t) (one-op (Flush w) [] (sem_of t) (refl, nil-later old.atoms t nil defined keeps)))

  pub messages-are-typed : MessagesAreTyped passes names env place
  messages-are-typed = record { sends = sent; waiting = waited; receives = received; flushes = flushed }
