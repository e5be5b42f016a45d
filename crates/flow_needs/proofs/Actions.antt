-- Actions: what stands behind `check` and `trap`, calls that are started, waits and messages.
use Rattle.std.proofs.Common.{◌≡◌, ◌++◌, ℕ, Bool, true, false, List, [], ◌∷◌, length, map, Option, None, Some, arith, subst}
use Rattle.std.specs.Ptr.{null_ptr}
use Rattle.bal_base.specs.declared.fault.FaultCode.{FaultCode}
use Rattle.bal_base.specs.declared.place.Place.{Place}
use Rattle.bal_tree.specs.declared.action.Action.{Action, Prefix', Start, WaitAny, WaitAll, Flush, Receive, Send, SyncSend}
use Rattle.bal_tree.specs.declared.action.ActionOp.{ActionOp}
use Rattle.bal_tree.specs.declared.action.ActionOp.TheVariants as word
use Rattle.bal_tree.specs.declared.action.Peer.{Peer}
use Rattle.bal_tree.specs.declared.action.Rhs.{Rhs}
use Rattle.bal_tree.specs.declared.action.Rhs.TheVariants.{Expr as ExprRhs, Action as ActionRhs}
use Rattle.bal_tree.specs.declared.action.WaitMember.{WaitMember}
use Rattle.bal_tree.specs.declared.name.QualifiedName.{QualifiedName}
use Rattle.checks.specs.Checks.{Gives, ◌▷◌, gives_some, refuses}
use Rattle.descriptors.specs.declared.names.Names.{Names}
use Rattle.needs.specs.Needs.{in_turn}
use Rattle.operations.specs.Rows.{Surroundings}
use Rattle.type_model.specs.declared.answers.TypeLimit.{TypeLimit}
use Rattle.type_model.specs.declared.atoms.AtomDef.{AtomDef}
use Rattle.type_model.specs.Calls.{Asked}
use Rattle.typed_tree.specs.declared.expr.TypedExpr.{TypedExpr}
use Rattle.typed_tree.specs.Listed.{Listed, nothing, one, ◌&◌}
use Rattle.typed_tree.specs.SharedTypes.{Shared}
use Rattle.expr_needs.specs.ActionTable.{action_needs, await_member_needs, await_needs, behind_word, checked_needs, read_rhs}
use Rattle.expr_needs.specs.declared.expected.Expected.{Expected}
use Rattle.expr_needs.specs.declared.expected.Expected.TheVariants as expected
use Rattle.expr_needs.specs.declared.kind.Kind.TheVariants as kind
use Rattle.expr_needs.specs.ExprTable.{Reading, against, freely, read_call, read_expr, reads}
use Rattle.expr_needs.specs.Needs.{Need, Awaits, BeginsKeys, Checks, ChecksPanicking, DropsWant, Flushes, Receives, Sends, SendsAndWaits, TakesKey, WaitsForAll, WaitsForAny, WantsErrorToo}
use Rattle.check_words.specs.Actions.{awaits, awaits_by, awaits_future, receives_as}
use Rattle.check_words.specs.Meets.{meets}
use Rattle.check_words.specs.Seen.{worker_named}
use Rattle.check_words.specs.State.{State, UnitAtWork}
use Rattle.check_words.specs.Words.{fails}
use Rattle.check_laws.specs.Laws.{IsOneMore, IsReady, KeepsPositions}
use Rattle.tree_promises.specs.Flows.{Around}
use Rattle.typed_needs.specs.Between.{IsSoFar}
use Rattle.typed_needs.proofs.Placed.{last-same}
use Rattle.calm_needs.specs.Calm.{IsCalmNeed}
use Rattle.typed_exprs.specs.Lines.{Leaves, Left, Run}
use Rattle.typed_exprs.proofs.Steps.{more-path, parted, so-far}
use Rattle.flow_needs.specs.Quiet.{IsQuiet}
use Rattle.flow_needs.specs.Runs.{ComesToFlow, FlowClaim, KnowsFlow}
use Rattle.flow_needs.specs.Slots.{HaveSlots}
use Rattle.flow_needs.proofs.Growing.{GrowsBy, Weaving, grows-part, grows-quiet, grows-then, weave-makes, weave-then}
use Rattle.flow_needs.proofs.Lines.{before-of, checked, trapped}
use Rattle.flow_needs.proofs.MemberLines.{grow-one, grows-added}
use Rattle.flow_needs.proofs.Needs.{quiet-begins-keys, quiet-drops, quiet-error-too}
use Rattle.flow_needs.proofs.Own.{checks-opened, comes-checked}
use Rattle.flow_needs.proofs.Quieting.{quiet-asking, quiet-closes-constructor, quiet-on, quiet-some, quiet-then, quiet-wants, quiet-wants-some}
use Rattle.flow_needs.proofs.QuietWords.{quiet-is-of, quiet-member-at, quiet-peer, quiet-result, quiet-takes-key, quiet-takes-wants}
use Rattle.flow_needs.proofs.Reading.{GivenBy, IsSeenHere, NamesOne, adds-before, given-keeps, given-units, named-given}
use Rattle.flow_needs.proofs.Stepping.{AtHand, FlowLine, Growing, own-slots, slots-within, step-path, strict-line}
use Rattle.flow_needs.proofs.StrictLines.{both, last, leads, operand, quietly, turns-of}
use Rattle.flow_needs.proofs.Trees.{AllKnown, call-known, expr-known, only-met}
use Rattle.flow_needs.proofs.Wanting.{error-wanted}
use Rattle.flow_needs.proofs.WeaveWords.{strict-made, weave-message-to}

module _ (passes : List AtomDef → Asked → TypeLimit → Type 0) (names : Names) (env : List AtomDef) (l : AllKnown passes names env) where
  abbrev Reads : Reading → Type 0
  Reads = KnowsFlow passes names env

  abbrev Says : (Expected → Listed Need) → Type 0
  Says = FlowLine passes names env

  abbrev W : Need → Type 0
  W need = Weaving (meets passes names need)

  -- ---- what makes one of the last parts

  weave-any : (qs : List QualifiedName) (at : Place) → W (WaitsForAny qs at)
  weave-any qs at = weave-then _ _ (quiet-some _) (λ site. weave-then _ _ (quiet-takes-wants _) (λ ts. weave-makes _ _ (λ env parts e h. strict-made e h.2)))

  weave-all : (qs : List QualifiedName) (at : Place) → W (WaitsForAll qs at)
  weave-all qs at =
      weave-then _ _ (quiet-some _) (λ site. weave-then _ _ quiet-closes-constructor (λ c. weave-then _ _ (quiet-takes-wants _) (λ ts. weave-then _ _ (quiet-asking _) (λ atom.
      weave-makes _ _ (λ env parts e h. strict-made e h.2)))))

  weave-fails : (code : FaultCode) (at : Place) → Weaving (fails code at)
  unfolding refuses
  weave-fails code at old new a met = absurd met

  weave-receives-as : (w : Option Shared) (peer : Peer) (at : Place) → Weaving (receives_as w peer at)
  weave-receives-as None peer at = weave-fails _ at
  weave-receives-as (Some t) peer at = weave-then _ _ (quiet-peer peer) (λ p. weave-makes 0 _ (λ env parts e h. strict-made e h.2))

  weave-receives : (e : Expected) (peer : Peer) (at : Place) → W (Receives e peer at)
  weave-receives expected.Nothing peer at = weave-receives-as None peer at
  weave-receives expected.Immutable peer at = weave-receives-as None peer at
  weave-receives expected.Wanted peer at = weave-then _ _ (quiet-some _) (λ w. weave-receives-as w peer at)

  weave-sends : (peer : Peer) (at : Place) → W (Sends peer at)
  weave-sends peer at = weave-then _ _ (quiet-peer peer) (λ p. weave-makes 1 _ (λ env parts e h. strict-made e h.2))

  weave-waits : (peer : Peer) (at : Place) → W (SendsAndWaits peer at)
  weave-waits peer at = weave-then _ _ (quiet-peer peer) (λ p. weave-message-to _ 1 _ p at)

  weave-flushes : (peer : Peer) (at : Place) → W (Flushes peer at)
  weave-flushes peer at = weave-then _ _ (quiet-peer peer) (λ p. weave-message-to _ 0 _ p at)

  -- ---- names in waits

  module _ (place : Surroundings) (around : Around) (live : Bool) (slots : around.slots ≡ place.slots) where
    abbrev H : Listed Need → Type 0
    H = Growing passes names env l.calm l.flows place around live slots

    future-grows : (q : QualifiedName) (old new : State) → AtHand old → IsSoFar env place old → awaits_future passes names q old (Gives tt) new → GrowsBy env around live old new
    unfolding ◌▷◌
    future-grows q old new h far (u, s, given, (v, t, asked, (e, k, seen, (m, j, member, wanting)))) =
        let n : NamesOne names q old s = named-given names q old s u given in
        let quiet : IsQuiet s new =
        quiet-on s t new (quiet-is-of passes kind.AnyFuture q.at s t v asked)
        (quiet-on t k new (quiet-some _ t k e seen) (quiet-on k j new (quiet-member-at passes _ _ q.at k j m member) (quiet-wants-some _ j new tt wanting))) in
        grows-added passes names env l.calm l.flows place around live slots (GivenBy n.seen) old new (adds-before (GivenBy n.seen) old s new n.one quiet)
        (λ w last-w base e is.
        let one : n.unit ≡ w = last-same old.units n.unit w n.at_hand last-w in
        let two : h.slots.unit ≡ w = last-same old.units h.slots.unit w h.slots.at_hand last-w in
        given-keeps env around live l.flows w old.site names q n.seen e base (subst (λ (z : UnitAtWork). HaveSlots (length z.slots) z.flow.variables) two h.slots.slots)
        (slots-within place around live env old w slots last-w far) (subst (λ (z : UnitAtWork). IsSeenHere names old.site z.flow.variables q n.seen) one n.here) is) (given-units n.seen)

    awaited-grows : (q : QualifiedName) (w : Option ℕ) (old new : State) → AtHand old → IsSoFar env place old → awaits_by passes names q w old (Gives tt) new → GrowsBy env around live old new
    awaited-grows q (Some w) old new h far met = grows-quiet env around live old new (quiet-then _ _ (quiet-result w) (λ t. quiet-wants (Some t)) old new tt met)
    awaited-grows q None old new h far met = future-grows q old new h far met

    awaits-grow : (q : QualifiedName) (old new : State) → AtHand old → IsSoFar env place old → awaits passes names q old (Gives tt) new → GrowsBy env around live old new
    unfolding ◌▷◌ gives_some
    awaits-grow q old new h far (site, mid, (is, same), met) =
        awaited-grows q (worker_named site.workers q) old new h far (subst (λ (z : State). awaits_by passes names q (worker_named site.workers q) z (Gives tt) new) same met)

    await : (q : QualifiedName) → H (await_needs q)
    await q =
        grow-one passes names env l.calm l.flows place around live slots (Awaits q) tt
        (λ old new h s far.
        awaits-grow q old new h (so-far env place old new (step-path passes names env l.calm l.flows place around live slots (Awaits q) tt old new s) far) s.0)

    await-member : (m : WaitMember) → H (await_member_needs m)
    await-member m =
        both passes names env l.calm l.flows place around live slots (one (TakesKey m.key.name m.key.at)) (one (Awaits m.name))
        (quietly passes names env l.calm l.flows place around live slots (TakesKey m.key.name m.key.at) tt (quiet-takes-key m.key.name m.key.at)) (await m.name)

  -- ---- the lines

  any-of : (qs : List QualifiedName) (at : Place) → Says (λ e. in_turn await_needs qs & one (WaitsForAny qs at))
  any-of qs at =
      strict-line passes names env l.calm l.flows (λ e. WaitsForAny qs at) (λ e. in_turn await_needs qs & one (WaitsForAny qs at)) (λ e. weave-any qs at)
      (λ place around live slots e.
      leads passes names env l.calm l.flows place around live slots (WaitsForAny qs at) (in_turn await_needs qs) (one (WaitsForAny qs at))
      (turns-of passes names env l.calm l.flows place around live slots await_needs (await place around live slots) qs) (last passes names env l.calm l.flows place around live slots (WaitsForAny qs at) tt))

  all-of : (ms : List WaitMember) (at : Place) → Says (λ e. one BeginsKeys & in_turn await_member_needs ms & one (WaitsForAll (map (λ m. m.name) ms) at))
  all-of ms at =
      let qs : List QualifiedName = map (λ m. m.name) ms in
      strict-line passes names env l.calm l.flows (λ e. WaitsForAll qs at) (λ e. one BeginsKeys & in_turn await_member_needs ms & one (WaitsForAll qs at)) (λ e. weave-all qs at)
      (λ place around live slots e.
      leads passes names env l.calm l.flows place around live slots (WaitsForAll qs at) (one BeginsKeys) (in_turn await_member_needs ms & one (WaitsForAll qs at))
      (quietly passes names env l.calm l.flows place around live slots BeginsKeys tt (quiet-begins-keys passes names))
      (leads passes names env l.calm l.flows place around live slots (WaitsForAll qs at) (in_turn await_member_needs ms) (one (WaitsForAll qs at))
      (turns-of passes names env l.calm l.flows place around live slots await_member_needs (await-member place around live slots) ms)
      (last passes names env l.calm l.flows place around live slots (WaitsForAll qs at) tt)))

  single : (need : Expected → Need) → ((e : Expected) → IsCalmNeed (need e)) → ((e : Expected) → W (need e)) → Says (λ e. one (need e))
  single need is weaves =
      strict-line passes names env l.calm l.flows need (λ e. one (need e)) weaves (λ place around live slots e. last passes names env l.calm l.flows place around live slots (need e) (is e))

  sent : (need : Need) → IsCalmNeed need → W need → (a : Reading) → Reads a → Says (λ e. against kind.Sendable a & one need)
  sent need is weaves a k =
      strict-line passes names env l.calm l.flows (λ e. need) (λ e. against kind.Sendable a & one need) (λ e. weaves)
      (λ place around live slots e.
      leads passes names env l.calm l.flows place around live slots need (against kind.Sendable a) (one need) (operand passes names env l.calm l.flows place around live slots kind.Sendable a k)
      (last passes names env l.calm l.flows place around live slots need is))

  -- ---- behind words

  -- under `check`, where a type is wanted, an error may come beside it
  check-wanted : (a : Reading) (at : Place) → Reads a → (place : Surroundings) (around : Around) (live : Bool) (old new : State) → around.slots ≡ place.slots → IsReady expected.Wanted old
      → Run passes names env ((one WantsErrorToo & a.needs expected.Wanted & one DropsWant) & one (Checks at)) old new → AtHand old → IsSoFar env place new → (r : TypedExpr)
      → new.found ≡ old.found ++ r ∷ [] → ComesToFlow env around live old new
  check-wanted a at ka place around live old new slots ready run h far r more =
      let (c, r1, sc) = parted passes names env (one WantsErrorToo & a.needs expected.Wanted & one DropsWant) (one (Checks at)) old new run in
      let (m, sw, r2) = parted passes names env (one WantsErrorToo) (a.needs expected.Wanted & one DropsWant) old c r1 in
      let (n, ra, sd) = parted passes names env (a.needs expected.Wanted) (one DropsWant) m c r2 in
      let path-m = step-path passes names env l.calm l.flows place around live slots WantsErrorToo tt old m sw in
      let ready-m : IsReady expected.Wanted m = record { unit = (let u = h.unit in let q = path-m.many in omega (arith, u, q)); wants = error-wanted old m sw.0 } in
      let far-c = so-far env place c new (step-path passes names env l.calm l.flows place around live slots (Checks at) tt c new sc) far in
      let far-n = so-far env place n c (step-path passes names env l.calm l.flows place around live slots DropsWant tt n c sd) far-c in
      let quiet-m : IsQuiet old m = quiet-error-too passes names old m tt sw.0 in
      let x = ka.claim expected.Wanted place around live m n slots ready-m ra sw.1 (own-slots old m quiet-m.on h.slots) far-n in
      let quiet-c : IsQuiet n c = quiet-drops passes names n c tt sd.0 in
      comes-checked env around live l.flows place slots false at old c new r h.slots.unit h.slots.at_hand h.slots.slots
      (grows-then env around live old m c (grows-quiet env around live old m quiet-m) (grows-then env around live m n c (grows-part env around live m n x) (grows-quiet env around live n c quiet-c)))
      (before-of passes names env l.calm l.stay l.flows place c sd.1 far-c) (before-of passes names env l.calm l.stay l.flows place new sc.1 far) far.placed (checks-opened passes at c new sc.0) more

  nothing-ready : (e : Expected) (s : State) → IsReady e s → IsReady expected.Nothing s
  nothing-ready e s h = record { unit = h.unit; wants = tt }

  -- what is said whatever is expected, where it is left where nothing is
  freely-said : (needs : Listed Need) → ((old new : State) → IsReady expected.Nothing old → Run passes names env needs old new → Left old new) → Says (λ e. needs)
      → FlowClaim passes names env (λ e. needs)
  freely-said needs leaves says = says (λ e old new ready run. leaves old new (nothing-ready e old ready) run)

  checks-of : (a : Reading) (at : Place) → Reads a → Says (λ e. checked_needs a.needs e at)
  checks-of a at ka leaves expected.Wanted place around live old new slots ready run standing own far =
      let left = leaves expected.Wanted old new ready run in
      check-wanted a at ka place around live old new slots ready run (record { unit = ready.unit; standing = standing; slots = own }) far left.more.part left.more.found
  checks-of a at ka leaves expected.Nothing place around live old new slots ready run standing own far =
      freely-said (freely a & one (Checks at)) (leaves expected.Nothing) (checked passes names env l.calm l.stay l.flows false (Checks at) tt at (λ o n s. checks-opened passes at o n s.0) a ka)
      expected.Nothing place around live old new slots ready run standing own far
  checks-of a at ka leaves expected.Immutable place around live old new slots ready run standing own far =
      freely-said (freely a & one (Checks at)) (λ o n h r. leaves expected.Immutable o n (record { unit = h.unit; wants = tt }) r)
      (checked passes names env l.calm l.stay l.flows false (Checks at) tt at (λ o n s. checks-opened passes at o n s.0) a ka)
      expected.Immutable place around live old new slots ready run standing own far

  behind : (o : ActionOp) (a : Reading) (at : Place) → Reads a → Says (λ e. behind_word o a.needs e at)
  behind word.Check a at ka = checks-of a at ka
  behind word.CheckPanic a at ka = checked passes names env l.calm l.stay l.flows true (ChecksPanicking at) tt at (λ o n s. s.0) a ka
  behind word.Trap a at ka = trapped passes names env l.calm l.stay l.flows a at ka

  -- ---- actions as trees

  rhs-leaves : (x : Rhs) → Leaves passes names env (λ e. (read_rhs x).needs e)
  rhs-leaves x e old new ready run =
      let met = only-met passes names env l ((read_rhs x).needs e) old new run in
      let positions : KeepsPositions passes names (IsReady e) IsOneMore ((read_rhs x).needs e) = l.positions.rhs x e in
      let more : IsOneMore old new = positions.comes old new ready met in
      record { more = more; path = more-path old new (l.goes.rhs x e old new ready met) more }

  action-leaves : (a : Action) → Leaves passes names env (action_needs a)
  action-leaves a = rhs-leaves (ActionRhs (record { ptr = null_ptr; alloc = record { memory = _ }; value = a }))

  -- the action as it is read
  abbrev read_as : Place → Action → Reading
  read_as at a = reads at nothing (action_needs a)

  action-line : (a : Action) → Says (action_needs a)
  action-line (Prefix' op _ a at) =
      behind op (read_as at a) at (record { claim = action-line a (action-leaves a); leaves = action-leaves a; named = tt })
  action-line (Start call at) = (let c = call-known passes names env l call in c.started (read_call call).at at)
  action-line (WaitAny qs at) = any-of qs.items at
  action-line (WaitAll ms at) = all-of ms.items at
  action-line (Flush peer at) = single (λ e. Flushes peer at) (λ e. tt) (λ e. weave-flushes peer at)
  action-line (Receive peer at) = single (λ e. Receives e peer at) (λ e. tt) (λ e. weave-receives e peer at)
  action-line (Send value peer at) = sent (Sends peer at) tt (weave-sends peer at) (read_expr value.value) (expr-known passes names env l value.value)
  action-line (SyncSend value peer at) = sent (SendsAndWaits peer at) tt (weave-waits peer at) (read_expr value.value) (expr-known passes names env l value.value)

  pub rhs-flow : (x : Rhs) → FlowClaim passes names env (λ e. (read_rhs x).needs e)
  rhs-flow (ExprRhs x) = (let k = expr-known passes names env l x.value in k.claim)
  rhs-flow (ActionRhs a) = action-line a.value (action-leaves a.value)
