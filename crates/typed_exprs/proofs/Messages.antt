-- Messages, and actions behind a word.
use Rattle.std.proofs.Common.{◌≡◌, ◌∙◌, ◌++◌, List, [], ◌∷◌, length, Option, Some, None, append-nil, arith, length-append, refl, sym, subst, ap}
use Rattle.std.specs.Prelude.{IsSome}
use Rattle.std.specs.List.{AllZip}
use Rattle.std.proofs.lemmas.List.Elements.{All-nil}
use Rattle.bal_base.specs.declared.place.Place.{Place}
use Rattle.bal_tree.specs.declared.action.Action.{Action, Prefix', Start, WaitAny, WaitAll, Flush, Receive, Send, SyncSend}
use Rattle.bal_tree.specs.declared.action.ActionOp.{ActionOp}
use Rattle.bal_tree.specs.declared.action.ActionOp.TheVariants as word
use Rattle.bal_tree.specs.declared.action.Peer.{Peer}
use Rattle.checks.specs.Checks.{Gives, ◌▷◌, gives_some}
use Rattle.descriptors.specs.declared.names.Names.{Names}
use Rattle.needs.specs.Needs.{does}
use Rattle.operations.specs.Kinds.{IsBoolean}
use Rattle.operations.specs.Rows.{Surroundings}
use Rattle.type_model.specs.declared.answers.TypeLimit.{TypeLimit}
use Rattle.type_model.specs.declared.atoms.AtomDef.{AtomDef}
use Rattle.type_model.specs.declared.basic.SemType.{SemType}
use Rattle.type_model.specs.Calls.{Asked}
use Rattle.type_model.specs.Inclusion.{HasExactly}
use Rattle.typed_tree.specs.declared.expr.TypedExpr.{TypedExpr}
use Rattle.typed_tree.specs.Listed.{Listed, one, ◌&◌}
use Rattle.typed_tree.specs.SharedTypes.{Shared}
use Rattle.expr_needs.specs.ActionTable.{behind_word}
use Rattle.expr_needs.specs.declared.expected.Expected.{Expected}
use Rattle.expr_needs.specs.declared.expected.Expected.TheVariants as expected
use Rattle.expr_needs.specs.declared.kind.Kind.TheVariants as kind
use Rattle.expr_needs.specs.ExprTable.{Reading, against}
use Rattle.expr_needs.specs.Needs.{Need, Checks, ChecksPanicking, DropsWant, Flushes, Receives, Sends, SendsAndWaits, Traps, WantsErrorToo}
use Rattle.check_words.specs.Actions.{peer_named}
use Rattle.check_words.specs.State.{IsLast, State}
use Rattle.check_words.specs.Values.{wants_beside_error, wants_error_too}
use Rattle.check_words.specs.Words.{wants_no_more}
use Rattle.check_laws.specs.Laws.{IsReady}
use Rattle.tree_promises.specs.Types.{IsTypedExpr}
use Rattle.typed_needs.specs.Asked.{IsOfIt}
use Rattle.typed_needs.specs.Between.{IsKept, IsSoFar, IsTypedUnit}
use Rattle.typed_needs.specs.Choices.{ChoicesAreTyped}
use Rattle.typed_needs.specs.Going.{IsSameUnit}
use Rattle.typed_needs.specs.Messages.{MessagesAreTyped, NamesWorker}
use Rattle.typed_needs.specs.Pieces.{IsBefore, IsMet, MakesTyped}
use Rattle.typed_needs.specs.TypedRuns.{ComesToTyped, NamesOfAction}
use Rattle.typed_needs.specs.Waits.{AreResults}
use Rattle.typed_needs.proofs.Choices.{choices-are-typed}
use Rattle.typed_needs.proofs.Going.{each-long}
use Rattle.typed_needs.proofs.Items.{want-put}
use Rattle.typed_needs.proofs.Messages.{messages-are-typed}
use Rattle.typed_needs.proofs.Opened.{trap-is-typed}
use Rattle.calm_needs.specs.Calm.{IsCalmNeed, NeedsAreCalm}
use Rattle.typed_exprs.specs.Actions.{ActClaim, MessageClaim}
use Rattle.typed_exprs.specs.Lines.{Knows, Leaves, Path}
use Rattle.typed_exprs.proofs.Loops.{more-units, want-more}
use Rattle.typed_exprs.proofs.Operands.{against-left, against-typed}
use Rattle.typed_exprs.proofs.Operators.{calm-so, made-step, of-kind-ready, step-path}
use Rattle.typed_exprs.proofs.Steps.{Step, before, calm-keeps, parted, so-far}

-- ---- workers that are named

last-of-zip : {A B : Type 0} (R : A → B → Type 0) (ks : List A) (u : A) (vs : List B) → AllZip R (ks ++ u ∷ []) vs → (v : B) × IsLast vs v × R u v
last-of-zip R [] u (v ∷ []) h = (v, record { kept = []; is = refl }, h.0)
last-of-zip R [] u (v ∷ w ∷ vs) h = absurd h.1
last-of-zip R [] u [] h = absurd h
last-of-zip R (k ∷ ks) u (v ∷ vs) h = let (w, last, r) = last-of-zip R ks u vs h.1 in (w, record { kept = v ∷ last.kept; is = ap (λ xs. v ∷ xs) last.is }, r)
last-of-zip R (k ∷ ks) u [] h = absurd h

none-above : {A : Type 0} (xs ys : List A) → length (xs ++ ys) ≡ length xs → xs ++ ys ≡ xs
none-above xs [] e = append-nil xs
none-above xs (y ∷ ys) e = absurd (let l = length-append xs (y ∷ ys) in omega (arith, e, l))

-- a worker that is named stays so
steady-peer : (peer : Peer) (s t : State) → t.site ≡ s.site → Path s t → NamesWorker peer s → NamesWorker peer t
steady-peer peer s t site path h =
    let long = each-long s.units path.goes.going path.goes.each in
    let all : t.units ≡ path.goes.going =
    path.goes.units ∙ none-above path.goes.going path.goes.above (ap length (sym path.goes.units) ∙ path.many ∙ sym long) in
    let (v, last, same) = last-of-zip IsSameUnit h.at_hand.kept h.unit path.goes.going (subst (λ us. AllZip IsSameUnit us path.goes.going) h.at_hand.is path.goes.each) in
    record {
      unit = v;
      at_hand = subst (λ us. IsLast us v) (sym all) last;
      known = subst (λ k. IsSome (peer_named t.site.workers k peer)) (sym same.worker)
          (subst (λ x. IsSome (peer_named x.workers h.unit.worker peer)) (sym site) h.known);
    }

pub steady : (a : Action) (s t : State) → t.site ≡ s.site → Path s t → NamesOfAction a s → NamesOfAction a t
steady (Prefix' op b a at) s t site path h = steady a s t site path h
steady (Start call at) s t site path h = tt
steady (WaitAny names at) s t site path h = h
steady (WaitAll ms at) s t site path h = tt
steady (Flush peer at) s t site path h = steady-peer peer s t site path h
steady (Receive peer at) s t site path h = steady-peer peer s t site path h
steady (Send value peer at) s t site path h = steady-peer peer s t site path h
steady (SyncSend value peer at) s t site path h = steady-peer peer s t site path h

-- ---- what is wanted beside errors

-- one want more, and nothing else
pub record WantsMore (old new : State) : Type 0 where
  pub want : Option Shared
  pub is : new ≡ record old { wants = old.wants ++ want ∷ [] }

error-wanted : (old new : State) → wants_error_too old (Gives tt) new → WantsMore old new
unfolding ◌▷◌ gives_some
error-wanted old new (w, mid, (last, same), put) = by w put
  where
    by : (w : Option Shared) → wants_beside_error w mid (Gives tt) new → WantsMore old new
    by None put = let (x, alike, is) = want-put None tt mid new put in record { want = x; is = is ∙ ap (λ (s : State). record s { wants = s.wants ++ x ∷ [] }) same }
    by (Some t) (u, next, (either, here), put) =
        let (x, alike, is) = want-put (Some u) tt next new put in record { want = x; is = is ∙ ap (λ (s : State). record s { wants = s.wants ++ x ∷ [] }) (here ∙ same) }

want-dropped : (old new : State) → wants_no_more 1 old (Gives tt) new → new.found ≡ old.found
unfolding does
want-dropped old new is = ap (λ (s : State). s.found) is

module _ (passes : List AtomDef → Asked → TypeLimit → Type 0) (names : Names) (env : List AtomDef) (calm : NeedsAreCalm passes names) where
  -- ---- messages

  message : (need : Need) → IsCalmNeed need → (peer : Peer)
      → ((place : Surroundings) (m new : State) (x : TypedExpr) → IsBefore env new → IsMet passes names env need m new → NamesWorker peer m → IsLast m.found x → IsTypedExpr env place x
      → IsOfIt passes names env kind.Sendable x → MakesTyped passes names env place 1 m new)
      → (x : Reading) → Knows passes names env x → ActClaim passes names env (NamesWorker peer) (λ e. against kind.Sendable x & one need)
  message need is-calm peer made x kx e place old new ready peers results run kept far named =
      let (m, rx, s) = parted passes names env (against kind.Sendable x) (one need) old new run in
      let ready-x = of-kind-ready passes names env calm e kind.Sendable old ready in
      let left = against-left passes names env kind.Sendable x kx old m ready-x rx in
      let far-m = so-far env place m new (step-path passes names env calm need is-calm m new s) far in
      let y = against-typed passes names env kind.Sendable x kx place old m ready-x rx kept far-m named in
      let kept-new = calm-keeps place m new (calm-so passes names env calm need is-calm m new s) s.1 y.kept in
      made-step passes names env calm need is-calm place 1 (y.part ∷ []) old m new y.found refl y.units y.kept s
      (made place m new y.part (before env place new kept-new far) s.0 (steady-peer peer old m left.more.same.site left.path peers) (record { kept = old.found; is = y.found }) y.typed y.holds)

  pub sends : MessageClaim passes names env Sends
  sends x peer at kx =
      message (Sends peer at) tt peer (λ place m new y after met peers last typed of.
      let messages : MessagesAreTyped passes names env place = messages-are-typed passes names env place in messages.sends peer at m new y after met peers last typed of) x kx

  pub waiting : MessageClaim passes names env SendsAndWaits
  waiting x peer at kx =
      message (SendsAndWaits peer at) tt peer (λ place m new y after met peers last typed of.
      let messages : MessagesAreTyped passes names env place = messages-are-typed passes names env place in messages.waiting peer at m new y after met peers last typed of) x kx

  -- one need, which makes a part of none
  alone : (need : Need) → IsCalmNeed need → (place : Surroundings) (old new : State) → Step passes names env need old new → IsKept place old → IsSoFar env place new
      → (IsBefore env new → MakesTyped passes names env place 0 old new) → ComesToTyped env place old new
  alone need is-calm place old new s kept far made =
      let kept-new = calm-keeps place old new (calm-so passes names env calm need is-calm old new s) s.1 kept in
      made-step passes names env calm need is-calm place 0 [] old old new (sym (append-nil old.found)) refl (All-nil (IsTypedUnit env place)) kept s (made (before env place new kept-new far))

  pub receives : (peer : Peer) (at : Place) → ActClaim passes names env (NamesWorker peer) (λ e. one (Receives e peer at))
  receives peer at e place old new ready peers results s kept far named =
      let messages : MessagesAreTyped passes names env place = messages-are-typed passes names env place in
      alone (Receives e peer at) tt place old new s kept far (λ after. messages.receives e peer at old new after s.0 peers)

  pub flushes : (peer : Peer) (at : Place) → ActClaim passes names env (NamesWorker peer) (λ e. one (Flushes peer at))
  flushes peer at e place old new ready peers results s kept far named =
      let messages : MessagesAreTyped passes names env place = messages-are-typed passes names env place in
      alone (Flushes peer at) tt place old new s kept far (λ after. messages.flushes peer at old new after s.0 peers)

  -- ---- behind a word

  module _ (a : Action) (needs : Expected → Listed Need) (leaves : Leaves passes names env needs) (claim : ActClaim passes names env (NamesOfAction a) needs) where
    -- of what was evaluated one need makes the part
    last-step : (need : Need) → IsCalmNeed need
        → ((place : Surroundings) (m new : State) (x : TypedExpr) → IsBefore env m → IsBefore env new → IsSoFar env place new → IsMet passes names env need m new → IsLast m.found x
        → IsTypedExpr env place x → MakesTyped passes names env place 1 m new)
        → ActClaim passes names env (NamesOfAction a) (λ e. needs expected.Nothing & one need)
    last-step need is-calm made e place old new ready peers results run kept far named =
        let (m, ra, s) = parted passes names env (needs expected.Nothing) (one need) old new run in
        let far-m = so-far env place m new (step-path passes names env calm need is-calm m new s) far in
        let x = claim expected.Nothing place old m (record { unit = ready.unit; wants = tt }) peers results ra kept far-m named in
        let kept-new = calm-keeps place m new (calm-so passes names env calm need is-calm m new s) s.1 x.kept in
        made-step passes names env calm need is-calm place 1 (x.part ∷ []) old m new x.found refl x.units x.kept s
        (made place m new x.part (before env place m x.kept far-m) (before env place new kept-new far) far s.0 (record { kept = old.found; is = x.found }) x.typed)

    module _ (truth : SemType) (boolean : HasExactly env truth IsBoolean) where
      checked : (at : Place) (place : Surroundings) (m new : State) (x : TypedExpr) → IsBefore env m → IsBefore env new → IsSoFar env place new → IsMet passes names env (Checks at) m new
          → IsLast m.found x → IsTypedExpr env place x → MakesTyped passes names env place 1 m new
      checked at place m new x ready after far met last typed =
          let choices : ChoicesAreTyped passes names env place = choices-are-typed env passes names place in choices.checks at m new x truth ready met last typed far.placed boolean

      panicking : (at : Place) (place : Surroundings) (m new : State) (x : TypedExpr) → IsBefore env m → IsBefore env new → IsSoFar env place new
          → IsMet passes names env (ChecksPanicking at) m new → IsLast m.found x → IsTypedExpr env place x → MakesTyped passes names env place 1 m new
      panicking at place m new x ready after far met last typed =
          let choices : ChoicesAreTyped passes names env place = choices-are-typed env passes names place in choices.panicking at m new x truth ready met last typed far.placed boolean

      -- what is expected, or an error, is wanted of the action
      wanted : (at : Place) → ActClaim passes names env (NamesOfAction a) (λ e. (one WantsErrorToo & needs expected.Wanted & one DropsWant) & one (Checks at))
      wanted at e place old new ready peers results run kept far named =
          let (c, front, s) = parted passes names env (one WantsErrorToo & needs expected.Wanted & one DropsWant) (one (Checks at)) old new run in
          let (k, sw, rest) = parted passes names env (one WantsErrorToo) (needs expected.Wanted & one DropsWant) old c front in
          let (m, ra, sd) = parted passes names env (needs expected.Wanted) (one DropsWant) k c rest in
          let w = error-wanted old k sw.0 in
          let path-k = step-path passes names env calm WantsErrorToo tt old k sw in
          let ready-k : IsReady expected.Wanted k = record { unit = more-units old k path-k ready.unit; wants = want-more w.want old k w.is } in
          let left = leaves expected.Wanted k m ready-k ra in
          let far-c = so-far env place c new (step-path passes names env calm (Checks at) tt c new s) far in
          let far-m = so-far env place m c (step-path passes names env calm DropsWant tt m c sd) far-c in
          let site : k.site ≡ old.site = ap (λ (x : State). x.site) w.is in
          let x = claim expected.Wanted place k m ready-k (steady a old k site path-k peers) (subst (λ y. AreResults env place y.results) (sym site) results) ra
          (calm-keeps place old k (calm-so passes names env calm WantsErrorToo tt old k sw) sw.1 kept) far-m named in
          let kept-c = calm-keeps place m c (calm-so passes names env calm DropsWant tt m c sd) sd.1 x.kept in
          let found : c.found ≡ old.found ++ x.part ∷ [] = want-dropped m c sd.0 ∙ x.found ∙ ap (λ (y : State). y.found ++ x.part ∷ []) w.is in
          let kept-new = calm-keeps place c new (calm-so passes names env calm (Checks at) tt c new s) s.1 kept-c in
          made-step passes names env calm (Checks at) tt place 1 (x.part ∷ []) old c new found refl x.units kept-c s
          (checked at place c new x.part (before env place c kept-c far-c) (before env place new kept-new far) far s.0 (record { kept = old.found; is = found }) x.typed)

      pub behind : (op : ActionOp) (at : Place) → ActClaim passes names env (NamesOfAction a) (λ e. behind_word op needs e at)
      behind word.Check at expected.Wanted = wanted at expected.Wanted
      behind word.Check at expected.Nothing = last-step (Checks at) tt (checked at) expected.Nothing
      behind word.Check at expected.Immutable = last-step (Checks at) tt (checked at) expected.Immutable
      behind word.CheckPanic at e = last-step (ChecksPanicking at) tt (panicking at) e
      behind word.Trap at e =
          last-step (Traps at) tt (λ place m new x ready after far met last typed. trap-is-typed env passes names place at m new x ready after met last typed) e
