-- The law at actions, and at what stands at the right of an assignment: the reader leaves what stands behind them.
use Rattle.std.proofs.Common.{rules, ◌≡◌, ℕ, zero, suc, ◌<◌, Bool, true, false, List, [], ◌∷◌, map, length, Option, None, Some, refl, sym, ap, ◌∙◌, subst, arith, ◌&&◌}
use Rattle.std.specs.Prelude.{if◌then◌else◌, not, is_some}
use Rattle.std.proofs.lemmas.Bool.{false≢true}
use denote.Enum.Bare.{sameb}
use Rattle.bal_base.specs.contracts.token.Sign.{the_type as the_signs}
use Rattle.bal_base.specs.declared.token.TokenKind.{TokenKind}
use Rattle.bal_base.specs.declared.token.TokenKind.TheVariants.{Word as WordKind, Keyword as KeywordKind, Sign as SignKind}
use Rattle.bal_base.specs.declared.token.Keyword.TheVariants.{Check as CheckKey, CheckPanic as CheckPanicKey}
use Rattle.bal_base.specs.declared.token.Sign.{Sign}
use Rattle.bal_base.specs.declared.token.Sign.TheVariants.{Semicolon, Equal, Arrow, DoubleArrow, Bar, Colon, Comma, CloseBrace, OpenBrace}
use Rattle.bal_tree.specs.declared.name.Prefix.{Prefix}
use Rattle.bal_tree.specs.declared.name.Prefix.TheVariants.{Word as WordPrefix, Int as IntPrefix}
use Rattle.bal_tree.specs.declared.name.QualifiedName.{QualifiedName}
use Rattle.bal_tree.specs.declared.name.Word.{Word}
use Rattle.bal_tree.specs.declared.action.Rhs.{Rhs}
use Rattle.bal_tree.specs.declared.action.Rhs.TheVariants.{Expr as ExprRhs, Action as ActionRhs}
use Rattle.bal_tree.specs.declared.action.Action.{Action, Prefix', Start, WaitAny, WaitAll, Flush, Receive, Send, SyncSend}
use Rattle.bal_tree.specs.declared.action.ActionOp.{ActionOp}
use Rattle.bal_tree.specs.declared.action.ActionOp.TheVariants.{Check, CheckPanic, Trap}
use Rattle.bal_tree.specs.declared.action.Peer.{Peer}
use Rattle.bal_tree.specs.declared.action.Peer.TheVariants.{Word as WordPeer, Function as FunctionPeer}
use Rattle.bal_tree.specs.declared.action.Sending.{Sending}
use Rattle.bal_tree.specs.declared.action.Sending.TheVariants.{Nothing as NoSending, Async, Sync}
use Rattle.bal_tree.specs.declared.action.WaitMember.{WaitMember}
use Rattle.bal_tree.specs.declared.expr.Call.{Call}
use Rattle.bal_tree.specs.declared.expr.Expr.{Expr}
use Rattle.bal_tree.specs.declared.expr.Expr.TheVariants.{Postfix as PostfixExpr}
use Rattle.bal_tree.specs.declared.expr.Postfix.TheVariants.{Call as CallPostfix}
use Rattle.bal_tree.proofs.ExprLayers.{expr_layers}
use Rattle.bal_tree.specs.ActionPieces.{action_pieces, peer_pieces, rhs_pieces, wait_member_pieces}
use Rattle.bal_tree.specs.ActionRules.{action_is_formed, has_members, rhs_is_formed, sending, may_stand_before}
use Rattle.bal_tree.specs.ExprPieces.{call_pieces, expr_pieces}
use Rattle.bal_tree.specs.ExprRules.{call_is_formed, expr_facts, expr_is_formed}
use Rattle.bal_tree.specs.NamePieces.{name_pieces, prefix_pieces, word_pieces}
use Rattle.bal_tree.specs.Pieces.{Pieces, ◌&◌, sign, if_there, separated, behind}
use Rattle.bal_tree.specs.Spells.{onto}
use Rattle.parse_types.specs.Loops.{◌>>=◌, or_else, else_stays, many}
use Rattle.token_steps.specs.Tokens.{Kinds, take_sign, take_word}
use Rattle.parse_types.specs.Reaches.{colon_word}
use Rattle.parse_types.proofs.Going.{many-stops, many-goes}
use Rattle.parse_types.proofs.Law.{both_pass, not_true}
use Rattle.parse_types.proofs.Onto.{onto-longer}
use Rattle.parse_expr.specs.Reaches.{expr}
use Rattle.parse_stmt.specs.declared.ahead.Mark.{Mark}
use Rattle.parse_stmt.specs.declared.ahead.Mark.TheVariants.{Declares, Assigns, Sends, SendsSync, Nothing}
use Rattle.parse_stmt.specs.Ahead.{semicolon, first_mark, mark_or, if_outside, word_mark}
use Rattle.parse_stmt.specs.Reaches.{any_name, bar_name, names, wait_member, comma_member, wait_members, waiting_or, peer, call, is_call, ended, simple, begins_simple, begins_with_check, send, sync_send, plain_sync_send, simple_or, rhs_by, rhs}
use Rattle.parse_stmt.specs.Shapes.{arguments_last, last_of, last_read}
use Rattle.parse_stmt.proofs.Known.{Known}
use Rattle.parse_stmt.proofs.Passing.{Passes}

-- ---- names

-- no name goes on here
abbrev pub NoColon : Kinds → Type 0
NoColon ks = take_sign Colon ks ≡ None

name-at : (prefix : Option Prefix) (w : Word) (ks : Kinds) → NoColon ks → any_name (onto (if_there prefix_pieces prefix & word_pieces w) ks) ≡ Some ks
name-at None w ks h = ap (λ o. Some (else_stays (o >>= take_word) ks)) h
name-at (Some (WordPrefix p)) w ks h = refl
name-at (Some (IntPrefix at)) w ks h = refl

pub name-law : (n : QualifiedName) (ks : Kinds) → NoColon ks → any_name (onto (name_pieces n) ks) ≡ Some ks
name-law n ks h = name-at n.prefix n.word ks h

name-passes-at : (prefix : Option Prefix) (w : Word) → Passes (if_there prefix_pieces prefix & word_pieces w)
name-passes-at None w = record {
  semicolon = λ depth ks. refl;
  mark = λ joined depth ks e. ap (λ o. mark_or (if_outside (word_mark joined (is_some o)) depth) (first_mark false depth ks)) e;
}
name-passes-at (Some (WordPrefix p)) w = record {
  semicolon = λ depth ks. refl;
  mark = λ joined depth ks e. ap (λ o. mark_or (if_outside (word_mark true (is_some o)) depth) (first_mark false depth ks)) e;
}
name-passes-at (Some (IntPrefix at)) w = record {
  semicolon = λ depth ks. refl;
  mark = λ joined depth ks e. ap (λ o. mark_or (if_outside (word_mark true (is_some o)) depth) (first_mark false depth ks)) e;
}

pub name-passes : (n : QualifiedName) → Passes (name_pieces n)
name-passes n = let h = name-passes-at n.prefix n.word in record { semicolon = h.semicolon; mark = h.mark }

-- ---- parts with a sign between each two

module _ {X : Type 0} (f : X → Pieces) (item : Kinds → Option Kinds) (s : Sign) (Stops : Kinds → Type 0) where
  abbrev next : Kinds → Option Kinds
  next ks = take_sign s ks >>= item

  module _ (same : sameb the_signs s s ≡ true) (at-sign : (ks : Kinds) → Stops (SignKind s ∷ ks)) (law : (x : X) (ks : Kinds) → Stops ks → item (onto (f x) ks) ≡ Some ks) where
    stops-behind : (xs : List X) (ks : Kinds) → Stops ks → Stops (onto (behind s (map f xs)) ks)
    stops-behind [] ks h = h
    stops-behind (x ∷ xs) ks h = at-sign (onto (f x) (onto (behind s (map f xs)) ks))

    goes-behind : (xs : List X) (ks : Kinds) → Stops ks → take_sign s ks ≡ None → many length next (onto (behind s (map f xs)) ks) ≡ ks
    goes-behind [] ks h e = many-stops length next ks (ap (λ o. o >>= item) e)
    goes-behind (x ∷ xs) ks h e =
        let zs = onto (behind s (map f xs)) ks in
        let longer = onto-longer (f x) zs in
        many-goes length next (SignKind s ∷ onto (f x) zs) zs (ap (λ b. (if b then Some (onto (f x) zs) else None) >>= item) same ∙ law x zs (stops-behind xs ks h)) (omega arith)
        ∙ goes-behind xs ks h e

    pub separated-law : (x : X) (xs : List X) (ks : Kinds) → Stops ks → take_sign s ks ≡ None → (item (onto (separated s (map f (x ∷ xs))) ks) >>= λ a. Some (many length next a)) ≡ Some ks
    separated-law x xs ks h e =
        ap (λ o. o >>= λ a. Some (many length next a)) (law x (onto (behind s (map f xs)) ks) (stops-behind xs ks h)) ∙ ap Some (goes-behind xs ks h e)

-- looking ahead passes over them
module _ {X : Type 0} (f : X → Pieces) (s : Sign) (quiet : (joined : Bool) (depth : ℕ) (ks : Kinds) → (semicolon depth (SignKind s ∷ ks) ≡ semicolon depth ks) × (first_mark joined depth (SignKind s ∷ ks) ≡ first_mark false depth ks)) (not-equal : (ks : Kinds) → take_sign Equal (SignKind s ∷ ks) ≡ None) (each : (x : X) → Passes (f x)) where
  not-equal-behind : (xs : List X) (ks : Kinds) → take_sign Equal ks ≡ None → take_sign Equal (onto (behind s (map f xs)) ks) ≡ None
  not-equal-behind [] ks h = h
  not-equal-behind (x ∷ xs) ks h = not-equal (onto (f x) (onto (behind s (map f xs)) ks))

  behind-semicolon : (xs : List X) (depth : ℕ) (ks : Kinds) → semicolon depth (onto (behind s (map f xs)) ks) ≡ semicolon depth ks
  behind-semicolon [] depth ks = refl
  behind-semicolon (x ∷ xs) depth ks = (quiet false depth (onto (f x) (onto (behind s (map f xs)) ks))).0 ∙ (each x).semicolon depth (onto (behind s (map f xs)) ks) ∙ behind-semicolon xs depth ks

  behind-mark : (xs : List X) (depth : ℕ) (ks : Kinds) → take_sign Equal ks ≡ None → first_mark false depth (onto (behind s (map f xs)) ks) ≡ first_mark false depth ks
  behind-mark [] depth ks h = refl
  behind-mark (x ∷ xs) depth ks h =
      let zs = onto (behind s (map f xs)) ks in
      (quiet false depth (onto (f x) zs)).1 ∙ (each x).mark false depth zs (not-equal-behind xs ks h) ∙ behind-mark xs depth ks h

  pub separated-passes : (x : X) (xs : List X) → Passes (separated s (map f (x ∷ xs)))
  separated-passes x xs = record {
    semicolon = λ depth ks. (each x).semicolon depth (onto (behind s (map f xs)) ks) ∙ behind-semicolon xs depth ks;
    mark = λ joined depth ks e. (each x).mark joined depth (onto (behind s (map f xs)) ks) (not-equal-behind xs ks e) ∙ behind-mark xs depth ks e;
  }

-- ---- peers and members

pub peer-law : (p : Peer) (ks : Kinds) → peer (onto (peer_pieces p) ks) ≡ Some ks
peer-law (WordPeer w) ks = refl
peer-law (FunctionPeer at) ks = refl

peer-passes : (p : Peer) → Passes (peer_pieces p)
peer-passes (WordPeer w) = record {
  semicolon = λ depth ks. refl;
  mark = λ joined depth ks e. ap (λ o. mark_or (if_outside (word_mark joined (is_some o)) depth) (first_mark false depth ks)) e;
}
peer-passes (FunctionPeer at) = record { semicolon = λ depth ks. refl; mark = λ joined depth ks e. refl }

member-law : (m : WaitMember) (ks : Kinds) → NoColon ks → wait_member (onto (wait_member_pieces m) ks) ≡ Some ks
member-law m ks h = name-law m.name ks h

member-passes : (m : WaitMember) → Passes (wait_member_pieces m)
member-passes m = record {
  semicolon = λ depth ks. (name-passes m.name).semicolon depth ks;
  mark = λ joined depth ks e. (name-passes m.name).mark true depth ks e;
}

no-brace : (prefix : Option Prefix) (w : Word) (ks : Kinds) → take_sign OpenBrace (onto (if_there prefix_pieces prefix & word_pieces w) ks) ≡ None
no-brace None w ks = refl
no-brace (Some (WordPrefix p)) w ks = refl
no-brace (Some (IntPrefix at)) w ks = refl

names-law : (ns : List QualifiedName) (ks : Kinds) → has_members ns ≡ true → names (onto (separated Bar (map name_pieces ns)) (SignKind Semicolon ∷ ks)) ≡ Some (SignKind Semicolon ∷ ks)
names-law [] ks h = cc h
names-law (n ∷ ns) ks h = separated-law name_pieces any_name Bar NoColon refl (λ zs. refl) name-law n ns (SignKind Semicolon ∷ ks) refl refl

pub names-no-brace : (ns : List QualifiedName) (ks : Kinds) → has_members ns ≡ true → take_sign OpenBrace (onto (separated Bar (map name_pieces ns)) ks) ≡ None
names-no-brace [] ks h = cc h
names-no-brace (n ∷ ns) ks h = no-brace n.prefix n.word (onto (behind Bar (map name_pieces ns)) ks)

names-pass : (ns : List QualifiedName) → has_members ns ≡ true → Passes (separated Bar (map name_pieces ns))
names-pass [] h = cc h
names-pass (n ∷ ns) h = separated-passes name_pieces Bar (λ joined depth ks. (refl, refl)) (λ ks. refl) name-passes n ns

members-law : (ms : List WaitMember) (ks : Kinds) → has_members ms ≡ true → wait_members (onto (separated Comma (map wait_member_pieces ms)) (SignKind CloseBrace ∷ ks)) ≡ Some (SignKind CloseBrace ∷ ks)
members-law [] ks h = cc h
members-law (m ∷ ms) ks h = separated-law wait_member_pieces wait_member Comma NoColon refl (λ zs. refl) member-law m ms (SignKind CloseBrace ∷ ks) refl refl

members-pass : (ms : List WaitMember) → has_members ms ≡ true → Passes (separated Comma (map wait_member_pieces ms))
members-pass [] h = cc h
members-pass (m ∷ ms) h = separated-passes wait_member_pieces Comma (λ joined depth ks. (refl, refl)) (λ ks. refl) member-passes m ms

-- ---- a call as an expression

abbrev pub as_expr : Call → Expr
as_expr c = PostfixExpr (CallPostfix c)

pub call-pieces : (c : Call) → expr_pieces (as_expr c) ≡ call_pieces c
call-pieces c = search (rules, expr_layers)

pub call-last : (c : Call) → last_of (as_expr c) ≡ arguments_last
call-last c = search (rules, expr_layers)

pub call-formed : (c : Call) → expr_is_formed (as_expr c) false ≡ ((call_is_formed c false && true) && true)
call-formed c = search (rules, expr_layers)

-- ---- words that belong to an action

plain-sync : (xs : Kinds) → begins_with_check xs ≡ false → sync_send xs ≡ plain_sync_send xs
plain-sync [] h = refl
plain-sync (KeywordKind CheckKey ∷ xs) h = cc h
plain-sync (KeywordKind CheckPanicKey ∷ xs) h = cc h
plain-sync (KeywordKind k ∷ xs) h = refl
plain-sync (k ∷ xs) h = refl

abbrev pub mark_by : Sending → Mark
mark_by NoSending = Nothing
mark_by Async = Sends
mark_by Sync = SendsSync

module _ (known : Known) where
  -- what stands behind it: a semicolon
  pub call-law : (c : Call) (ks : Kinds) → call_is_formed c false ≡ true → call (onto (call_pieces c) (SignKind Semicolon ∷ ks)) ≡ Some (SignKind Semicolon ∷ ks)
  call-law c ks formed =
      let zs = SignKind Semicolon ∷ ks in
      subst (λ p. call (onto p zs) ≡ Some zs) (call-pieces c)
      (ap (λ o. o >>= λ a. if is_call (last_read (onto (expr_pieces (as_expr c)) zs) a) then Some a else None) (known.expr_before (as_expr c) Semicolon ks (call-formed c ∙ ap (λ b. (b && true) && true) formed) refl)
      ∙ ap (λ l. if is_call l then Some zs else None) (known.last_law (as_expr c) zs ∙ call-last c))

  call-passes : (c : Call) → Passes (call_pieces c)
  call-passes c = subst Passes (call-pieces c) (known.expr_passes (as_expr c))

  pub simple-law : (a : Action) (ks : Kinds) → action_is_formed a ≡ true → sending a ≡ NoSending → simple (onto (action_pieces a) (SignKind Semicolon ∷ ks)) ≡ Some (SignKind Semicolon ∷ ks)
  simple-law (Prefix' Check _ action at) ks f n = simple-law action ks (both_pass (may_stand_before Check (sending action)) (action_is_formed action) f).1 n
  simple-law (Prefix' CheckPanic _ action at) ks f n = simple-law action ks (both_pass (may_stand_before CheckPanic (sending action)) (action_is_formed action) f).1 n
  simple-law (Prefix' Trap _ action at) ks f n = simple-law action ks (both_pass (may_stand_before Trap (sending action)) (action_is_formed action) f).1 n
  simple-law (Start c at) ks f n = call-law c ks f
  simple-law (WaitAny ns at) ks f n =
      let xs = onto (separated Bar (map name_pieces ns.items)) (SignKind Semicolon ∷ ks) in
      ap (λ o. waiting_or o xs) (names-no-brace ns.items (SignKind Semicolon ∷ ks) f) ∙ names-law ns.items ks f
  simple-law (WaitAll ms at) ks f n = ap (λ o. o >>= take_sign CloseBrace) (members-law ms.items (SignKind Semicolon ∷ ks) f)
  simple-law (Flush p at) ks f n = peer-law p (SignKind Semicolon ∷ ks)
  simple-law (Receive p at) ks f n = peer-law p (SignKind Semicolon ∷ ks)
  simple-law (Send value p at) ks f n = cc n
  simple-law (SyncSend value p at) ks f n = cc n

  pub simple-begins : (a : Action) (ks : Kinds) → sending a ≡ NoSending → begins_simple (onto (action_pieces a) ks) ≡ true
  simple-begins (Prefix' Check _ action at) ks n = simple-begins action ks n
  simple-begins (Prefix' CheckPanic _ action at) ks n = simple-begins action ks n
  simple-begins (Prefix' Trap _ action at) ks n = simple-begins action ks n
  simple-begins (Start c at) ks n = refl
  simple-begins (WaitAny ns at) ks n = refl
  simple-begins (WaitAll ms at) ks n = refl
  simple-begins (Flush p at) ks n = refl
  simple-begins (Receive p at) ks n = refl
  simple-begins (Send value p at) ks n = cc n
  simple-begins (SyncSend value p at) ks n = cc n

  -- the first mark tells how it sends, and the first semicolon stands behind it
  pub action-mark : (a : Action) (joined : Bool) (ks : Kinds) → action_is_formed a ≡ true → first_mark joined 0 (onto (action_pieces a) (SignKind Semicolon ∷ ks)) ≡ mark_by (sending a)
  action-mark (Prefix' Check _ action at) joined ks f = action-mark action false ks (both_pass (may_stand_before Check (sending action)) (action_is_formed action) f).1
  action-mark (Prefix' CheckPanic _ action at) joined ks f = action-mark action false ks (both_pass (may_stand_before CheckPanic (sending action)) (action_is_formed action) f).1
  action-mark (Prefix' Trap _ action at) joined ks f = action-mark action false ks (both_pass (may_stand_before Trap (sending action)) (action_is_formed action) f).1
  action-mark (Start c at) joined ks f = (call-passes c).mark false 0 (SignKind Semicolon ∷ ks) refl
  action-mark (WaitAny ns at) joined ks f = (names-pass ns.items f).mark false 0 (SignKind Semicolon ∷ ks) refl
  action-mark (WaitAll ms at) joined ks f = (members-pass ms.items f).mark false 1 (SignKind CloseBrace ∷ SignKind Semicolon ∷ ks) refl
  action-mark (Flush p at) joined ks f = (peer-passes p).mark false 0 (SignKind Semicolon ∷ ks) refl
  action-mark (Receive p at) joined ks f = (peer-passes p).mark false 0 (SignKind Semicolon ∷ ks) refl
  action-mark (Send value p at) joined ks f = (known.expr_passes value.value).mark joined 0 (SignKind Arrow ∷ onto (peer_pieces p) (SignKind Semicolon ∷ ks)) refl
  action-mark (SyncSend value p at) joined ks f = (known.expr_passes value.value).mark joined 0 (SignKind DoubleArrow ∷ onto (peer_pieces p) (SignKind Semicolon ∷ ks)) refl

  pub action-semicolon : (a : Action) (ks : Kinds) → action_is_formed a ≡ true → semicolon 0 (onto (action_pieces a) (SignKind Semicolon ∷ ks)) ≡ Some ks
  action-semicolon (Prefix' Check _ action at) ks f = action-semicolon action ks (both_pass (may_stand_before Check (sending action)) (action_is_formed action) f).1
  action-semicolon (Prefix' CheckPanic _ action at) ks f = action-semicolon action ks (both_pass (may_stand_before CheckPanic (sending action)) (action_is_formed action) f).1
  action-semicolon (Prefix' Trap _ action at) ks f = action-semicolon action ks (both_pass (may_stand_before Trap (sending action)) (action_is_formed action) f).1
  action-semicolon (Start c at) ks f = (call-passes c).semicolon 0 (SignKind Semicolon ∷ ks)
  action-semicolon (WaitAny ns at) ks f = (names-pass ns.items f).semicolon 0 (SignKind Semicolon ∷ ks)
  action-semicolon (WaitAll ms at) ks f = (members-pass ms.items f).semicolon 1 (SignKind CloseBrace ∷ SignKind Semicolon ∷ ks)
  action-semicolon (Flush p at) ks f = (peer-passes p).semicolon 0 (SignKind Semicolon ∷ ks)
  action-semicolon (Receive p at) ks f = (peer-passes p).semicolon 0 (SignKind Semicolon ∷ ks)
  action-semicolon (Send value p at) ks f = (known.expr_passes value.value).semicolon 0 (SignKind Arrow ∷ onto (peer_pieces p) (SignKind Semicolon ∷ ks)) ∙ (peer-passes p).semicolon 0 (SignKind Semicolon ∷ ks)
  action-semicolon (SyncSend value p at) ks f = (known.expr_passes value.value).semicolon 0 (SignKind DoubleArrow ∷ onto (peer_pieces p) (SignKind Semicolon ∷ ks)) ∙ (peer-passes p).semicolon 0 (SignKind Semicolon ∷ ks)

  -- ---- sends

  pub send-law : (a : Action) (ks : Kinds) → action_is_formed a ≡ true → sending a ≡ Async → send (onto (action_pieces a) (SignKind Semicolon ∷ ks)) ≡ Some (SignKind Semicolon ∷ ks)
  send-law (Prefix' Check _ action at) ks f n = absurd (false≢true (subst (λ s. may_stand_before Check s ≡ true) n (both_pass (may_stand_before Check (sending action)) (action_is_formed action) f).0))
  send-law (Prefix' CheckPanic _ action at) ks f n = absurd (false≢true (subst (λ s. may_stand_before CheckPanic s ≡ true) n (both_pass (may_stand_before CheckPanic (sending action)) (action_is_formed action) f).0))
  send-law (Prefix' Trap _ action at) ks f n = absurd (false≢true (subst (λ s. may_stand_before Trap s ≡ true) n (both_pass (may_stand_before Trap (sending action)) (action_is_formed action) f).0))
  send-law (Start c at) ks f n = cc n
  send-law (WaitAny ns at) ks f n = cc n
  send-law (WaitAll ms at) ks f n = cc n
  send-law (Flush p at) ks f n = cc n
  send-law (Receive p at) ks f n = cc n
  send-law (Send value p at) ks f n =
      let zs = onto (peer_pieces p) (SignKind Semicolon ∷ ks) in
      ap (λ o. o >>= take_sign Arrow >>= peer) (known.expr_before value.value Arrow zs f refl) ∙ peer-law p (SignKind Semicolon ∷ ks)
  send-law (SyncSend value p at) ks f n = cc n

  pub sync-law : (a : Action) (ks : Kinds) → action_is_formed a ≡ true → sending a ≡ Sync → sync_send (onto (action_pieces a) (SignKind Semicolon ∷ ks)) ≡ Some (SignKind Semicolon ∷ ks)
  sync-law (Prefix' Check _ action at) ks f n = sync-law action ks (both_pass (may_stand_before Check (sending action)) (action_is_formed action) f).1 n
  sync-law (Prefix' CheckPanic _ action at) ks f n = sync-law action ks (both_pass (may_stand_before CheckPanic (sending action)) (action_is_formed action) f).1 n
  sync-law (Prefix' Trap _ action at) ks f n = absurd (false≢true (subst (λ s. may_stand_before Trap s ≡ true) n (both_pass (may_stand_before Trap (sending action)) (action_is_formed action) f).0))
  sync-law (Start c at) ks f n = cc n
  sync-law (WaitAny ns at) ks f n = cc n
  sync-law (WaitAll ms at) ks f n = cc n
  sync-law (Flush p at) ks f n = cc n
  sync-law (Receive p at) ks f n = cc n
  sync-law (Send value p at) ks f n = cc n
  sync-law (SyncSend value p at) ks f n =
      let zs = onto (peer_pieces p) (SignKind Semicolon ∷ ks) in
      let b = both_pass (not (expr_facts value.value).begins_with_check) (expr_is_formed value.value false) f in
      plain-sync (onto (expr_pieces value.value) (SignKind DoubleArrow ∷ zs)) (known.checks value.value (SignKind DoubleArrow ∷ zs) ∙ not_true (expr_facts value.value).begins_with_check b.0)
      ∙ ap (λ o. o >>= take_sign DoubleArrow >>= peer) (known.expr_before value.value DoubleArrow zs b.1 refl) ∙ peer-law p (SignKind Semicolon ∷ ks)

  -- ---- what stands at the right of an assignment

  action-rhs : (a : Action) (ks : Kinds) (s : Sending) → sending a ≡ s → action_is_formed a ≡ true → rhs_by (mark_by s) (onto (action_pieces a) (SignKind Semicolon ∷ ks)) ≡ Some (SignKind Semicolon ∷ ks)
  action-rhs a ks NoSending n f = ap (λ b. simple_or b (onto (action_pieces a) (SignKind Semicolon ∷ ks))) (simple-begins a (SignKind Semicolon ∷ ks) n) ∙ simple-law a ks f n
  action-rhs a ks Async n f = send-law a ks f n
  action-rhs a ks Sync n f = sync-law a ks f n

  pub rhs-law : (r : Rhs) (ks : Kinds) → rhs_is_formed r ≡ true → rhs (onto (rhs_pieces r) (SignKind Semicolon ∷ ks)) ≡ Some (SignKind Semicolon ∷ ks)
  rhs-law (ExprRhs e) ks f =
      let xs = onto (expr_pieces e.value) (SignKind Semicolon ∷ ks) in
      ap (λ m. rhs_by m xs) ((known.expr_passes e.value).mark true 0 (SignKind Semicolon ∷ ks) refl)
      ∙ ap (λ b. simple_or b xs) (known.no_action e.value (SignKind Semicolon ∷ ks)) ∙ known.expr_before e.value Semicolon ks f refl
  rhs-law (ActionRhs a) ks f =
      let xs = onto (action_pieces a.value) (SignKind Semicolon ∷ ks) in
      ap (λ m. rhs_by m xs) (action-mark a.value true ks f) ∙ action-rhs a.value ks (sending a.value) refl f

  pub rhs-semicolon : (r : Rhs) (ks : Kinds) → rhs_is_formed r ≡ true → semicolon 0 (onto (rhs_pieces r) (SignKind Semicolon ∷ ks)) ≡ Some ks
  rhs-semicolon (ExprRhs e) ks f = (known.expr_passes e.value).semicolon 0 (SignKind Semicolon ∷ ks)
  rhs-semicolon (ActionRhs a) ks f = action-semicolon a.value ks f

  pub ended-law : (r : Rhs) (ks : Kinds) → rhs_is_formed r ≡ true → ended (onto (rhs_pieces r) (SignKind Semicolon ∷ ks)) ≡ Some ks
  ended-law r ks f = ap (λ o. o >>= take_sign Semicolon) (rhs-law r ks f)
