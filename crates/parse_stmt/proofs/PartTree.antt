-- The parts of statements without blocks: where two stand in front of what may stand there, they are alike.
use Rattle.std.proofs.Common.{◌≡◌, Bool, true, false, ◌&&◌, List, [], ◌∷◌, map, Option, None, Some, refl, sym, ap, ◌∙◌, subst}
use Rattle.std.specs.Prelude.{not}
use Rattle.std.proofs.lemmas.Bool.{false≢true}
use Rattle.bal_base.specs.declared.token.TokenKind.TheVariants.{Word as WordKind, Keyword as KeywordKind, Sign as SignKind}
use Rattle.bal_base.specs.declared.token.Keyword.TheVariants.{Var as VarKey, Check as CheckKey, CheckPanic as CheckPanicKey, Trap as TrapKey, Start as StartKey, Wait as WaitKey, Flush as FlushKey, Int as IntKey}
use Rattle.bal_base.specs.declared.token.Sign.{Sign}
use Rattle.bal_base.specs.declared.token.Sign.TheVariants.{Semicolon, Equal, Colon, OpenBrace, CloseBrace, Arrow, DoubleArrow, LeftArrow, FatArrow, Bar, Comma, Underscore}
use Rattle.bal_tree.specs.declared.action.Action.{Action}
use Rattle.bal_tree.specs.declared.action.Action.TheVariants.{Prefix', Start, WaitAny, WaitAll, Flush, Receive, Send, SyncSend}
use Rattle.bal_tree.specs.declared.action.ActionOp.{ActionOp}
use Rattle.bal_tree.specs.declared.action.ActionOp.TheVariants.{Check, CheckPanic, Trap}
use Rattle.bal_tree.specs.declared.action.Peer.{Peer}
use Rattle.bal_tree.specs.declared.action.Peer.TheVariants.{Word as WordPeer, Function as FunctionPeer}
use Rattle.bal_tree.specs.declared.action.WaitMember.{WaitMember}
use Rattle.bal_tree.specs.declared.expr.Call.{Call}
use Rattle.bal_tree.specs.declared.name.ConstValue.{ConstValue}
use Rattle.bal_tree.specs.declared.name.ConstValue.TheVariants.{Literal as LiteralValue, Negative}
use Rattle.bal_tree.specs.declared.name.Literal.TheVariants.{Int as IntLiteral, Str as StrLiteral, True as TrueLiteral, False as FalseLiteral, Nil as NilLiteral}
use Rattle.bal_tree.specs.declared.stmt.Pattern.{Pattern}
use Rattle.bal_tree.specs.declared.stmt.Pattern.TheVariants.{Any, Value, Name as NamePattern}
use Rattle.bal_tree.specs.declared.action.Rhs.{Rhs}
use Rattle.bal_tree.specs.declared.action.Rhs.TheVariants.{Expr as ExprRhs, Action as ActionRhs}
use Rattle.bal_tree.specs.declared.action.Sending.{Sending}
use Rattle.bal_tree.specs.declared.action.Sending.TheVariants.{Nothing as NoSending, Async, Sync}
use Rattle.bal_tree.specs.declared.expr.Expr.{Expr}
use Rattle.bal_tree.specs.declared.name.Prefix.{Prefix}
use Rattle.bal_tree.specs.declared.name.Prefix.TheVariants.{Word as WordPrefix, Int as IntPrefix}
use Rattle.bal_tree.specs.declared.name.QualifiedName.{QualifiedName}
use Rattle.bal_tree.specs.declared.name.Word.{Word}
use Rattle.bal_tree.specs.declared.stmt.AssignOp.{AssignOp}
use Rattle.bal_tree.specs.declared.stmt.LocalType.{LocalType}
use Rattle.bal_tree.specs.declared.stmt.LocalType.TheVariants.{«Type» as TypeOf, Var}
use Rattle.bal_tree.specs.declared.stmt.Target.{Target}
use Rattle.bal_tree.specs.declared.types.TypeTree.{TypeTree}
use Rattle.bal_tree.specs.ActionPieces.{action_key, action_pieces, peer_pieces, rhs_pieces, wait_member_pieces}
use Rattle.bal_tree.specs.ActionRules.{action_is_formed, has_members, may_stand_before, rhs_is_formed, sending}
use Rattle.bal_tree.specs.ExprPieces.{call_pieces, expr_pieces}
use Rattle.bal_tree.specs.ExprRules.{call_is_formed, expr_facts, expr_is_formed}
use Rattle.bal_tree.specs.NamePieces.{const_pieces, name_pieces, prefix_pieces, word_pieces}
use Rattle.bal_tree.specs.Pieces.{Pieces, ◌&◌, behind, if_there, separated, sign}
use Rattle.bal_tree.specs.Spells.{onto}
use Rattle.bal_tree.specs.StmtPieces.{assign_sign, ended as ended_pieces, local_pieces, local_type_pieces, pattern_pieces, target_pieces}
use Rattle.bal_tree.specs.StmtRules.{local_type_is_formed, target_is_formed, value_is_formed}
use Rattle.bal_tree.specs.TypePieces.{type_pieces}
use Rattle.bal_tree.specs.TypeRules.{type_is_formed}
use Rattle.token_steps.specs.Tokens.{Kinds, take_sign}
use Rattle.parse_types.proofs.Follows.{Closes}
use Rattle.parse_types.proofs.Law.{both_pass, not_true}
use Rattle.parse_types.proofs.PrimaryLaw.{word-closes}
use Rattle.parse_expr.specs.Reaches.{expr, type_at}
use Rattle.parse_stmt.specs.declared.ahead.Mark.TheVariants.{Nothing}
use Rattle.parse_stmt.specs.Ahead.{first_mark}
use Rattle.parse_stmt.specs.Reaches.{begins_simple, begins_with_check}
use Rattle.parse_stmt.proofs.ActionLaw.{NoColon, action-mark, as_expr, call-formed, call-pieces, mark_by, names-no-brace, simple-begins}
use Rattle.parse_stmt.proofs.Alike.{Alike, Same, behind_first, same-kinds}
use Rattle.parse_stmt.proofs.Known.{Known, ends_expr, leads}
use Rattle.parse_stmt.proofs.LedLaw.{as-expr, assign-ends}
use Rattle.parse_stmt.proofs.OneBelow.{OneBelow}
use Rattle.parse_stmt.proofs.PlainLaw.{no-semicolon, rhs-leads}

-- ---- names

abbrev pub name_at : Option Prefix → Word → Pieces
name_at prefix w = if_there prefix_pieces prefix & word_pieces w

no-colon-before : (w : Word) (ks ls : Kinds) → NoColon ks → ks ≡ SignKind Colon ∷ onto (word_pieces w) ls → ⊥
no-colon-before w ks ls h e = let bad : None ≡ Some (onto (word_pieces w) ls) = sym h ∙ ap (take_sign Colon) e in cc bad

names-same : (p q : Option Prefix) (w v : Word) (ks ls : Kinds) → NoColon ks → NoColon ls → onto (name_at p w) ks ≡ onto (name_at q v) ls → Same (name_at p w) (name_at q v) ks ls
names-same None None w v ks ls h k e = ((tt, (tt, cc e)), cc e)
names-same None (Some (WordPrefix p)) w v ks ls h k e = absurd (no-colon-before v ks ls h (cc e))
names-same None (Some (IntPrefix at)) w v ks ls h k e = cc e
names-same (Some (WordPrefix p)) None w v ks ls h k e = absurd (no-colon-before w ls ks k (sym (cc e)))
names-same (Some (WordPrefix p)) (Some (WordPrefix q)) w v ks ls h k e = ((((tt, cc e), refl), (tt, cc e)), cc e)
names-same (Some (WordPrefix p)) (Some (IntPrefix at)) w v ks ls h k e = cc e
names-same (Some (IntPrefix at)) None w v ks ls h k e = cc e
names-same (Some (IntPrefix at)) (Some (WordPrefix q)) w v ks ls h k e = cc e
names-same (Some (IntPrefix at)) (Some (IntPrefix other)) w v ks ls h k e = (((tt, (refl, refl)), (tt, cc e)), cc e)

pub name-same : (n m : QualifiedName) (ks ls : Kinds) → NoColon ks → NoColon ls → onto (name_pieces n) ks ≡ onto (name_pieces m) ls → Same (name_pieces n) (name_pieces m) ks ls
name-same n m ks ls h k e = let s = names-same n.prefix m.prefix n.word m.word ks ls h k e in ((tt, s.0), s.1)

-- ---- peers, and parts with a sign between each two

pub peer-same : (p q : Peer) (ks ls : Kinds) → onto (peer_pieces p) (SignKind Semicolon ∷ ks) ≡ onto (peer_pieces q) (SignKind Semicolon ∷ ls) → Same (peer_pieces p) (peer_pieces q) ks ls
peer-same (WordPeer w) (WordPeer v) ks ls e = ((tt, cc e), cc e)
peer-same (FunctionPeer at) (FunctionPeer other) ks ls e = ((tt, refl), cc e)
peer-same (WordPeer w) (FunctionPeer at) ks ls e = cc e
peer-same (FunctionPeer at) (WordPeer w) ks ls e = cc e

module _ {X Y : Type 0} (f : X → Pieces) (g : Y → Pieces) (s c : Sign) (Stops : Kinds → Type 0) (differ : (ks ls : Kinds) → SignKind c ∷ ks ≡ SignKind s ∷ ls → ⊥) (at-sign : (ks : Kinds) → Stops (SignKind s ∷ ks)) (at-end : (ks : Kinds) → Stops (SignKind c ∷ ks)) (each : (x : X) (y : Y) (ks ls : Kinds) → Stops ks → Stops ls → onto (f x) ks ≡ onto (g y) ls → Same (f x) (g y) ks ls) where
  stops-f : (xs : List X) (ks : Kinds) → Stops (onto (behind s (map f xs)) (SignKind c ∷ ks))
  stops-f [] ks = at-end ks
  stops-f (x ∷ xs) ks = at-sign (onto (f x) (onto (behind s (map f xs)) (SignKind c ∷ ks)))

  stops-g : (ys : List Y) (ks : Kinds) → Stops (onto (behind s (map g ys)) (SignKind c ∷ ks))
  stops-g [] ks = at-end ks
  stops-g (y ∷ ys) ks = at-sign (onto (g y) (onto (behind s (map g ys)) (SignKind c ∷ ks)))

  pub behind-same : (xs : List X) (ys : List Y) (ks ls : Kinds) → onto (behind s (map f xs)) (SignKind c ∷ ks) ≡ onto (behind s (map g ys)) (SignKind c ∷ ls) → Same (behind s (map f xs)) (behind s (map g ys)) (SignKind c ∷ ks) (SignKind c ∷ ls)
  behind-same [] [] ks ls e = (tt, e)
  behind-same [] (y ∷ ys) ks ls e = absurd (differ ks _ e)
  behind-same (x ∷ xs) [] ks ls e = absurd (differ ls _ (sym e))
  behind-same (x ∷ xs) (y ∷ ys) ks ls e =
      let a = each x y (onto (behind s (map f xs)) (SignKind c ∷ ks)) (onto (behind s (map g ys)) (SignKind c ∷ ls)) (stops-f xs ks) (stops-g ys ls) (ap behind_first e) in
      let b = behind-same xs ys ks ls a.1 in
      ((refl, (a.0, b.0)), b.1)

  -- some on both sides
  pub members-same : (x : X) (xs : List X) (y : Y) (ys : List Y) (ks ls : Kinds) → onto (separated s (map f (x ∷ xs))) (SignKind c ∷ ks) ≡ onto (separated s (map g (y ∷ ys))) (SignKind c ∷ ls) → Same (separated s (map f (x ∷ xs))) (separated s (map g (y ∷ ys))) (SignKind c ∷ ks) (SignKind c ∷ ls)
  members-same x xs y ys ks ls e =
      let a = each x y (onto (behind s (map f xs)) (SignKind c ∷ ks)) (onto (behind s (map g ys)) (SignKind c ∷ ls)) (stops-f xs ks) (stops-g ys ls) e in
      let b = behind-same xs ys ks ls a.1 in
      ((a.0, b.0), b.1)

  -- or none, where no member begins like the end
  module _ (no-f : (x : X) (ks zs : Kinds) → Stops ks → SignKind c ∷ zs ≡ onto (f x) ks → ⊥) (no-g : (y : Y) (ks zs : Kinds) → Stops ks → SignKind c ∷ zs ≡ onto (g y) ks → ⊥) where
    pub lists-same : (xs : List X) (ys : List Y) (ks ls : Kinds) → onto (separated s (map f xs)) (SignKind c ∷ ks) ≡ onto (separated s (map g ys)) (SignKind c ∷ ls) → Same (separated s (map f xs)) (separated s (map g ys)) (SignKind c ∷ ks) (SignKind c ∷ ls)
    lists-same [] [] ks ls e = (tt, e)
    lists-same [] (y ∷ ys) ks ls e = absurd (no-g y _ ks (stops-g ys ls) e)
    lists-same (x ∷ xs) [] ks ls e = absurd (no-f x _ ls (stops-f xs ks) (sym e))
    lists-same (x ∷ xs) (y ∷ ys) ks ls e = members-same x xs y ys ks ls e

module _ {X : Type 0} (f : X → Pieces) (s c : Sign) (Stops : Kinds → Type 0) (differ : (ks ls : Kinds) → SignKind c ∷ ks ≡ SignKind s ∷ ls → ⊥) (at-sign : (ks : Kinds) → Stops (SignKind s ∷ ks)) (at-end : (ks : Kinds) → Stops (SignKind c ∷ ks)) (each : (x y : X) (ks ls : Kinds) → Stops ks → Stops ls → onto (f x) ks ≡ onto (f y) ls → Same (f x) (f y) ks ls) where
  pub separated-same : (xs ys : List X) (ks ls : Kinds) → has_members xs ≡ true → has_members ys ≡ true → onto (separated s (map f xs)) (SignKind c ∷ ks) ≡ onto (separated s (map f ys)) (SignKind c ∷ ls) → Same (separated s (map f xs)) (separated s (map f ys)) (SignKind c ∷ ks) (SignKind c ∷ ls)
  separated-same [] ys ks ls h k e = cc h
  separated-same xs [] ks ls h k e = cc k
  separated-same (x ∷ xs) (y ∷ ys) ks ls h k e = members-same f f s c Stops differ at-sign at-end each x xs y ys ks ls e

names-alike : (ns ms : List QualifiedName) (ks ls : Kinds) → has_members ns ≡ true → has_members ms ≡ true → onto (separated Bar (map name_pieces ns)) (SignKind Semicolon ∷ ks) ≡ onto (separated Bar (map name_pieces ms)) (SignKind Semicolon ∷ ls) → Same (separated Bar (map name_pieces ns)) (separated Bar (map name_pieces ms)) ks ls
names-alike ns ms ks ls h k e =
    let s = separated-same name_pieces Bar Semicolon NoColon (λ xs ys q. cc q) (λ xs. refl) (λ xs. refl) name-same ns ms ks ls h k e in
    let rest : SignKind Semicolon ∷ ks ≡ SignKind Semicolon ∷ ls = s.1 in
    (s.0, cc rest)

member-same : (m n : WaitMember) (ks ls : Kinds) → NoColon ks → NoColon ls → onto (wait_member_pieces m) ks ≡ onto (wait_member_pieces n) ls → Same (wait_member_pieces m) (wait_member_pieces n) ks ls
member-same m n ks ls h k e =
    let s = name-same m.name n.name ks ls h k (cc e) in
    ((tt, ((tt, cc e), (refl, s.0))), s.1)

members-alike : (ns ms : List WaitMember) (ks ls : Kinds) → has_members ns ≡ true → has_members ms ≡ true → onto (separated Comma (map wait_member_pieces ns)) (SignKind CloseBrace ∷ ks) ≡ onto (separated Comma (map wait_member_pieces ms)) (SignKind CloseBrace ∷ ls) → Same (separated Comma (map wait_member_pieces ns)) (separated Comma (map wait_member_pieces ms)) ks ls
members-alike ns ms ks ls h k e =
    let s = separated-same wait_member_pieces Comma CloseBrace NoColon (λ xs ys q. cc q) (λ xs. refl) (λ xs. refl) member-same ns ms ks ls h k e in
    let rest : SignKind CloseBrace ∷ ks ≡ SignKind CloseBrace ∷ ls = s.1 in
    (s.0, cc rest)

-- ---- patterns

pub const-same : (v w : ConstValue) (ks ls : Kinds) → onto (const_pieces v) ks ≡ onto (const_pieces w) ls → Same (const_pieces v) (const_pieces w) ks ls
const-same (LiteralValue (IntLiteral i at)) (LiteralValue (IntLiteral j other)) ks ls e = ((tt, cc e), cc e)
const-same (LiteralValue (StrLiteral i at)) (LiteralValue (StrLiteral j other)) ks ls e = ((tt, cc e), cc e)
const-same (LiteralValue (TrueLiteral at)) (LiteralValue (TrueLiteral other)) ks ls e = ((tt, refl), cc e)
const-same (LiteralValue (FalseLiteral at)) (LiteralValue (FalseLiteral other)) ks ls e = ((tt, refl), cc e)
const-same (LiteralValue (NilLiteral at)) (LiteralValue (NilLiteral other)) ks ls e = ((tt, (refl, refl)), cc e)
const-same (Negative i at) (Negative j other) ks ls e = ((tt, (refl, cc e)), cc e)
const-same (LiteralValue l) (LiteralValue m) ks ls e = cc e
const-same (LiteralValue (IntLiteral i at)) (Negative j other) ks ls e = cc e
const-same (LiteralValue (StrLiteral i at)) (Negative j other) ks ls e = cc e
const-same (LiteralValue (TrueLiteral at)) (Negative j other) ks ls e = cc e
const-same (LiteralValue (FalseLiteral at)) (Negative j other) ks ls e = cc e
const-same (LiteralValue (NilLiteral at)) (Negative j other) ks ls e = cc e
const-same (Negative j other) (LiteralValue (IntLiteral i at)) ks ls e = cc e
const-same (Negative j other) (LiteralValue (StrLiteral i at)) ks ls e = cc e
const-same (Negative j other) (LiteralValue (TrueLiteral at)) ks ls e = cc e
const-same (Negative j other) (LiteralValue (FalseLiteral at)) ks ls e = cc e
const-same (Negative j other) (LiteralValue (NilLiteral at)) ks ls e = cc e

-- whether a name begins here
abbrev is_named : Kinds → Bool
is_named (WordKind w ∷ ks) = true
is_named (KeywordKind IntKey ∷ ks) = true
is_named ks = false

named-at : (p : Option Prefix) (w : Word) (ks : Kinds) → is_named (onto (name_at p w) ks) ≡ true
named-at None w ks = refl
named-at (Some (WordPrefix p)) w ks = refl
named-at (Some (IntPrefix at)) w ks = refl

value-named : (v : ConstValue) (ks : Kinds) → (is_named (onto (const_pieces v) ks) ≡ false) × (take_sign Underscore (onto (const_pieces v) ks) ≡ None)
value-named (LiteralValue (IntLiteral i at)) ks = (refl, refl)
value-named (LiteralValue (StrLiteral i at)) ks = (refl, refl)
value-named (LiteralValue (TrueLiteral at)) ks = (refl, refl)
value-named (LiteralValue (FalseLiteral at)) ks = (refl, refl)
value-named (LiteralValue (NilLiteral at)) ks = (refl, refl)
value-named (Negative i at) ks = (refl, refl)

no-name-any : (n : QualifiedName) (ks ls : Kinds) → onto (name_pieces n) ks ≡ SignKind Underscore ∷ ls → ⊥
no-name-any n ks ls e = false≢true (sym (ap is_named e) ∙ named-at n.prefix n.word ks)

no-name-value : (n : QualifiedName) (v : ConstValue) (ks ls : Kinds) → onto (name_pieces n) ks ≡ onto (const_pieces v) ls → ⊥
no-name-value n v ks ls e = false≢true (sym (value-named v ls).0 ∙ ap is_named (sym e) ∙ named-at n.prefix n.word ks)

no-value-any : (v : ConstValue) (ks ls : Kinds) → onto (const_pieces v) ks ≡ SignKind Underscore ∷ ls → ⊥
no-value-any v ks ls e = let bad : None ≡ Some ls = sym (value-named v ks).1 ∙ ap (take_sign Underscore) e in cc bad

pattern-same : (p q : Pattern) (ks ls : Kinds) → NoColon ks → NoColon ls → onto (pattern_pieces p) ks ≡ onto (pattern_pieces q) ls → Same (pattern_pieces p) (pattern_pieces q) ks ls
pattern-same (Any at) (Any other) ks ls h k e = ((tt, refl), cc e)
pattern-same (Any at) (Value v) ks ls h k e = absurd (no-value-any v ls ks (sym e))
pattern-same (Any at) (NamePattern n) ks ls h k e = absurd (no-name-any n ls ks (sym e))
pattern-same (Value v) (Any at) ks ls h k e = absurd (no-value-any v ks ls e)
pattern-same (Value v) (Value w) ks ls h k e = const-same v w ks ls e
pattern-same (Value v) (NamePattern n) ks ls h k e = absurd (no-name-value n v ls ks (sym e))
pattern-same (NamePattern n) (Any at) ks ls h k e = absurd (no-name-any n ks ls e)
pattern-same (NamePattern n) (Value v) ks ls h k e = absurd (no-name-value n v ks ls e)
pattern-same (NamePattern n) (NamePattern m) ks ls h k e = name-same n m ks ls h k e

pub patterns-same : (ps qs : List Pattern) (ks ls : Kinds) → has_members ps ≡ true → has_members qs ≡ true → onto (separated Bar (map pattern_pieces ps)) (SignKind FatArrow ∷ ks) ≡ onto (separated Bar (map pattern_pieces qs)) (SignKind FatArrow ∷ ls) → Same (separated Bar (map pattern_pieces ps)) (separated Bar (map pattern_pieces qs)) ks ls
patterns-same ps qs ks ls h k e =
    let s = separated-same pattern_pieces Bar FatArrow NoColon (λ xs ys q. cc q) (λ xs. refl) (λ xs. refl) pattern-same ps qs ks ls h k e in
    let rest : SignKind FatArrow ∷ ks ≡ SignKind FatArrow ∷ ls = s.1 in
    (s.0, cc rest)

-- ---- which action that is no send begins here

data Bare : Type 0 where
  prefix_bare : Bare
  start_bare : Bare
  any_bare : Bare
  all_bare : Bare
  flush_bare : Bare
  receive_bare : Bare
  other_bare : Bare

abbrev bare_of : Kinds → Bare
bare_of (KeywordKind CheckKey ∷ ks) = prefix_bare
bare_of (KeywordKind CheckPanicKey ∷ ks) = prefix_bare
bare_of (KeywordKind TrapKey ∷ ks) = prefix_bare
bare_of (KeywordKind StartKey ∷ ks) = start_bare
bare_of (KeywordKind WaitKey ∷ SignKind OpenBrace ∷ ks) = all_bare
bare_of (KeywordKind WaitKey ∷ ks) = any_bare
bare_of (KeywordKind FlushKey ∷ ks) = flush_bare
bare_of (SignKind LeftArrow ∷ ks) = receive_bare
bare_of ks = other_bare

abbrev bare_form : Action → Bare
bare_form (Prefix' op _ action at) = prefix_bare
bare_form (Start c at) = start_bare
bare_form (WaitAny ns at) = any_bare
bare_form (WaitAll ms at) = all_bare
bare_form (Flush p at) = flush_bare
bare_form (Receive p at) = receive_bare
bare_form (Send value p at) = other_bare
bare_form (SyncSend value p at) = other_bare

wait-any : (xs : Kinds) → take_sign OpenBrace xs ≡ None → bare_of (KeywordKind WaitKey ∷ xs) ≡ any_bare
wait-any [] h = refl
wait-any (SignKind OpenBrace ∷ xs) h = cc h
wait-any (SignKind s ∷ xs) h = refl
wait-any (k ∷ xs) h = refl

bare-form : (a : Action) (ks : Kinds) → action_is_formed a ≡ true → sending a ≡ NoSending → bare_of (onto (action_pieces a) ks) ≡ bare_form a
bare-form (Prefix' Check _ action at) ks f n = refl
bare-form (Prefix' CheckPanic _ action at) ks f n = refl
bare-form (Prefix' Trap _ action at) ks f n = refl
bare-form (Start c at) ks f n = refl
bare-form (WaitAny ns at) ks f n = wait-any (onto (separated Bar (map name_pieces ns.items)) ks) (names-no-brace ns.items ks f)
bare-form (WaitAll ms at) ks f n = refl
bare-form (Flush p at) ks f n = refl
bare-form (Receive p at) ks f n = refl
bare-form (Send value p at) ks f n = cc n
bare-form (SyncSend value p at) ks f n = cc n

-- words before a synchronous send begin with `check`
words-check : (op : ActionOp) (a : Action) (ks : Kinds) → may_stand_before op (sending a) ≡ true → sending a ≡ Sync → begins_with_check (KeywordKind (action_key op) ∷ ks) ≡ true
words-check Check a ks f n = refl
words-check CheckPanic a ks f n = refl
words-check Trap a ks f n = absurd (false≢true (subst (λ s. may_stand_before Trap s ≡ true) n f))

no-words : (op : ActionOp) (s : Sending) → may_stand_before op s ≡ true → s ≡ Async → ⊥
no-words Check s f n = false≢true (subst (λ t. may_stand_before Check t ≡ true) n f)
no-words CheckPanic s f n = false≢true (subst (λ t. may_stand_before CheckPanic t ≡ true) n f)
no-words Trap s f n = false≢true (subst (λ t. may_stand_before Trap t ≡ true) n f)

module _ (known : Known) (one : OneBelow) where
  -- ---- expressions and types

  pub expr-then : (e f : Expr) (ks ls : Kinds) → expr_is_formed e false ≡ true → expr_is_formed f false ≡ true → expr (onto (expr_pieces e) ks) ≡ Some ks → expr (onto (expr_pieces f) ls) ≡ Some ls → onto (expr_pieces e) ks ≡ onto (expr_pieces f) ls → Same (expr_pieces e) (expr_pieces f) ks ls
  expr-then e f ks ls fe ff re rf q =
      let both : Some ks ≡ Some ls = sym re ∙ ap expr q ∙ rf in
      let same : ks ≡ ls = cc both in
      (one.exprs e f fe ff (same-kinds (expr_pieces e) (expr_pieces f) ks ls same q), same)

  pub expr-same : (e f : Expr) (s r : Sign) (ks ls : Kinds) → expr_is_formed e false ≡ true → expr_is_formed f false ≡ true → ends_expr s ≡ true → ends_expr r ≡ true → onto (expr_pieces e) (SignKind s ∷ ks) ≡ onto (expr_pieces f) (SignKind r ∷ ls) → Same (expr_pieces e) (expr_pieces f) (SignKind s ∷ ks) (SignKind r ∷ ls)
  expr-same e f s r ks ls fe ff es er q = expr-then e f (SignKind s ∷ ks) (SignKind r ∷ ls) fe ff (known.expr_before e s ks fe es) (known.expr_before f r ls ff er) q

  pub type-same : (t u : TypeTree) (ks ls : Kinds) → type_is_formed t false ≡ true → type_is_formed u false ≡ true → Closes ks → Closes ls → onto (type_pieces t) ks ≡ onto (type_pieces u) ls → Same (type_pieces t) (type_pieces u) ks ls
  type-same t u ks ls ft fu ck cl q =
      let both : Some ks ≡ Some ls = sym (known.type_before t ks ft ck) ∙ ap (type_at false) q ∙ known.type_before u ls fu cl in
      let same : ks ≡ ls = cc both in
      (one.types t u ft fu (same-kinds (type_pieces t) (type_pieces u) ks ls same q), same)

  no-var-type : (t : TypeTree) (ks ls : Kinds) → onto (type_pieces t) ks ≡ KeywordKind VarKey ∷ ls → ⊥
  no-var-type t ks ls q = false≢true (sym (ap leads q) ∙ known.type_leads t ks)

  -- a type or `var`, and the word behind it
  pub local_type-same : (t u : LocalType) (w v : Word) (ks ls : Kinds) → local_type_is_formed t ≡ true → local_type_is_formed u ≡ true → onto (local_type_pieces t & word_pieces w) ks ≡ onto (local_type_pieces u & word_pieces v) ls → Same (local_type_pieces t & word_pieces w) (local_type_pieces u & word_pieces v) ks ls
  local_type-same (TypeOf t) (TypeOf u) w v ks ls ft fu q =
      let s = type-same t.value u.value (WordKind w.name ∷ ks) (WordKind v.name ∷ ls) ft fu (word-closes w.name ks) (word-closes v.name ls) q in
      let rest : WordKind w.name ∷ ks ≡ WordKind v.name ∷ ls = s.1 in
      ((s.0, (tt, cc rest)), cc rest)
  local_type-same (TypeOf t) (Var at) w v ks ls ft fu q = absurd (no-var-type t.value (WordKind w.name ∷ ks) (WordKind v.name ∷ ls) q)
  local_type-same (Var at) (TypeOf u) w v ks ls ft fu q = absurd (no-var-type u.value (WordKind v.name ∷ ls) (WordKind w.name ∷ ks) (sym q))
  local_type-same (Var at) (Var other) w v ks ls ft fu q = (((tt, refl), (tt, cc q)), cc q)

  -- ---- what is assigned to

  pub target-same : (t u : Target) (o p : AssignOp) (ks ls : Kinds) → target_is_formed t ≡ true → target_is_formed u ≡ true → onto (target_pieces t) (SignKind (assign_sign o) ∷ ks) ≡ onto (target_pieces u) (SignKind (assign_sign p) ∷ ls) → Same (target_pieces t) (target_pieces u) (SignKind (assign_sign o) ∷ ks) (SignKind (assign_sign p) ∷ ls)
  target-same t u o p ks ls ft fu q =
      let a = as-expr t in
      let b = as-expr u in
      let s = expr-same a.e b.e (assign_sign o) (assign_sign p) ks ls (a.formed ft) (b.formed fu) (assign-ends o) (assign-ends p)
      (ap (λ r. onto r (SignKind (assign_sign o) ∷ ks)) a.written ∙ q ∙ sym (ap (λ r. onto r (SignKind (assign_sign p) ∷ ls)) b.written)) in
      (subst (λ r. Alike r (target_pieces u)) a.written (subst (λ r. Alike (expr_pieces a.e) r) b.written s.0), s.1)

  -- ---- actions

  -- an expression before a semicolon is no action
  no-action : (e : Expr) (a : Action) (ks ls : Kinds) (s : Sending) → sending a ≡ s → action_is_formed a ≡ true → onto (expr_pieces e) (SignKind Semicolon ∷ ks) ≡ onto (action_pieces a) (SignKind Semicolon ∷ ls) → ⊥
  no-action e a ks ls s n f q =
      let mark : Nothing ≡ mark_by s = sym ((known.expr_passes e).mark true 0 (SignKind Semicolon ∷ ks) refl) ∙ ap (first_mark true 0) q ∙ action-mark known a true ls f ∙ ap mark_by n in
      by s n mark
    where
      by : (s : Sending) → sending a ≡ s → Nothing ≡ mark_by s → ⊥
      by NoSending n m = false≢true (sym (known.no_action e (SignKind Semicolon ∷ ks)) ∙ ap begins_simple q ∙ simple-begins known a (SignKind Semicolon ∷ ls) n)
      by Async n m = cc m
      by Sync n m = cc m

  one-sending : (s t : Sending) → mark_by s ≡ mark_by t → s ≡ t
  one-sending NoSending NoSending e = refl
  one-sending Async Async e = refl
  one-sending Sync Sync e = refl
  one-sending s t e = cc e

  -- both send so, or neither does
  same-sending : (a b : Action) (ks ls : Kinds) → action_is_formed a ≡ true → action_is_formed b ≡ true → onto (action_pieces a) (SignKind Semicolon ∷ ks) ≡ onto (action_pieces b) (SignKind Semicolon ∷ ls) → sending a ≡ sending b
  same-sending a b ks ls f g e =
      one-sending (sending a) (sending b) (sym (action-mark known a true ks f) ∙ ap (first_mark true 0) e ∙ action-mark known b true ls g)

  sends-same : (v w : Expr) (p q : Peer) (s : Sign) (ks ls : Kinds) → ends_expr s ≡ true → expr_is_formed v false ≡ true → expr_is_formed w false ≡ true → onto (expr_pieces v) (SignKind s ∷ onto (peer_pieces p) (SignKind Semicolon ∷ ks)) ≡ onto (expr_pieces w) (SignKind s ∷ onto (peer_pieces q) (SignKind Semicolon ∷ ls)) → Same (expr_pieces v & sign s & peer_pieces p) (expr_pieces w & sign s & peer_pieces q) ks ls
  sends-same v w p q s ks ls es fv fw e =
      let x = expr-same v w s s (onto (peer_pieces p) (SignKind Semicolon ∷ ks)) (onto (peer_pieces q) (SignKind Semicolon ∷ ls)) fv fw es es e in
      let rest : SignKind s ∷ onto (peer_pieces p) (SignKind Semicolon ∷ ks) ≡ SignKind s ∷ onto (peer_pieces q) (SignKind Semicolon ∷ ls) = x.1 in
      let y = peer-same p q ks ls (cc rest) in
      ((x.0, (refl, y.0)), y.1)

  call-same : (c d : Call) (ks ls : Kinds) → call_is_formed c false ≡ true → call_is_formed d false ≡ true → onto (call_pieces c) (SignKind Semicolon ∷ ks) ≡ onto (call_pieces d) (SignKind Semicolon ∷ ls) → Same (call_pieces c) (call_pieces d) ks ls
  call-same c d ks ls fc fd e =
      let s = expr-same (as_expr c) (as_expr d) Semicolon Semicolon ks ls (call-formed c ∙ ap (λ b. (b && true) && true) fc) (call-formed d ∙ ap (λ b. (b && true) && true) fd) refl refl
      (ap (λ r. onto r (SignKind Semicolon ∷ ks)) (call-pieces c) ∙ e ∙ sym (ap (λ r. onto r (SignKind Semicolon ∷ ls)) (call-pieces d))) in
      let rest : SignKind Semicolon ∷ ks ≡ SignKind Semicolon ∷ ls = s.1 in
      (subst (λ r. Alike r (call_pieces d)) (call-pieces c) (subst (λ r. Alike (expr_pieces (as_expr c)) r) (call-pieces d) s.0), cc rest)

  -- what tells an action by its first tokens
  bare-same : (a b : Action) (ks ls : Kinds) → action_is_formed a ≡ true → action_is_formed b ≡ true → sending a ≡ NoSending → sending b ≡ NoSending → onto (action_pieces a) (SignKind Semicolon ∷ ks) ≡ onto (action_pieces b) (SignKind Semicolon ∷ ls) → Same (action_pieces a) (action_pieces b) ks ls
  bare-same (Prefix' op _ a at) (Prefix' next _ b other) ks ls f g m n e =
      let s = bare-same a b ks ls (both_pass (may_stand_before op (sending a)) (action_is_formed a) f).1 (both_pass (may_stand_before next (sending b)) (action_is_formed b) g).1 m n (cc e) in
      ((tt, (cc e, s.0)), s.1)
  bare-same (Start c at) (Start d other) ks ls f g m n e = let s = call-same c d ks ls f g (cc e) in ((tt, (refl, s.0)), s.1)
  bare-same (WaitAny ns at) (WaitAny ms other) ks ls f g m n e = let s = names-alike ns.items ms.items ks ls f g (cc e) in ((tt, (refl, s.0)), s.1)
  bare-same (WaitAll ns at) (WaitAll ms other) ks ls f g m n e = let s = members-alike ns.items ms.items (SignKind Semicolon ∷ ks) (SignKind Semicolon ∷ ls) f g (cc e) in let rest : SignKind Semicolon ∷ ks ≡ SignKind Semicolon ∷ ls = s.1 in ((tt, (refl, (refl, (s.0, refl)))), cc rest)
  bare-same (Flush p at) (Flush q other) ks ls f g m n e = let s = peer-same p q ks ls (cc e) in ((tt, (refl, s.0)), s.1)
  bare-same (Receive p at) (Receive q other) ks ls f g m n e = let s = peer-same p q ks ls (cc e) in ((tt, (refl, s.0)), s.1)
  bare-same (Send v p at) b ks ls f g m n e = cc m
  bare-same (SyncSend v p at) b ks ls f g m n e = cc m
  bare-same a (Send v p at) ks ls f g m n e = cc n
  bare-same a (SyncSend v p at) ks ls f g m n e = cc n
  bare-same a b ks ls f g m n e =
      let same : bare_form a ≡ bare_form b = sym (bare-form a (SignKind Semicolon ∷ ks) f m) ∙ ap bare_of e ∙ bare-form b (SignKind Semicolon ∷ ls) g n in
      cc same

  async-same : (a b : Action) (ks ls : Kinds) → action_is_formed a ≡ true → action_is_formed b ≡ true → sending a ≡ Async → sending b ≡ Async → onto (action_pieces a) (SignKind Semicolon ∷ ks) ≡ onto (action_pieces b) (SignKind Semicolon ∷ ls) → Same (action_pieces a) (action_pieces b) ks ls
  async-same (Send v p at) (Send w q other) ks ls f g m n e = let s = sends-same v.value w.value p q Arrow ks ls refl f g e in ((tt, s.0), s.1)
  async-same (Prefix' op _ a at) b ks ls f g m n e = absurd (no-words op (sending a) (both_pass (may_stand_before op (sending a)) (action_is_formed a) f).0 m)
  async-same a (Prefix' op _ b at) ks ls f g m n e = absurd (no-words op (sending b) (both_pass (may_stand_before op (sending b)) (action_is_formed b) g).0 n)
  async-same (Send v p at) b ks ls f g m n e = cc n
  async-same a b ks ls f g m n e = cc m

  -- a synchronous send is no word and a send behind it
  no-check : (v : Expr) (op : ActionOp) (a : Action) (xs ks : Kinds) → not (expr_facts v).begins_with_check ≡ true → may_stand_before op (sending a) ≡ true → sending a ≡ Sync → KeywordKind (action_key op) ∷ xs ≡ onto (expr_pieces v) ks → ⊥
  no-check v op a xs ks h f n e =
      false≢true (sym (not_true (expr_facts v).begins_with_check h) ∙ sym (known.checks v ks) ∙ ap begins_with_check (sym e) ∙ words-check op a xs f n)

  sync-same : (a b : Action) (ks ls : Kinds) → action_is_formed a ≡ true → action_is_formed b ≡ true → sending a ≡ Sync → sending b ≡ Sync → onto (action_pieces a) (SignKind Semicolon ∷ ks) ≡ onto (action_pieces b) (SignKind Semicolon ∷ ls) → Same (action_pieces a) (action_pieces b) ks ls
  sync-same (SyncSend v p at) (SyncSend w q other) ks ls f g m n e =
      let a = both_pass (not (expr_facts v.value).begins_with_check) (expr_is_formed v.value false) f in
      let b = both_pass (not (expr_facts w.value).begins_with_check) (expr_is_formed w.value false) g in
      let s = sends-same v.value w.value p q DoubleArrow ks ls refl a.1 b.1 e in
      ((tt, s.0), s.1)
  sync-same (Prefix' op _ a at) (Prefix' next _ b other) ks ls f g m n e =
      let s = sync-same a b ks ls (both_pass (may_stand_before op (sending a)) (action_is_formed a) f).1 (both_pass (may_stand_before next (sending b)) (action_is_formed b) g).1 m n (cc e) in
      ((tt, (cc e, s.0)), s.1)
  sync-same (Prefix' op _ a at) (SyncSend w q other) ks ls f g m n e =
      absurd (no-check w.value op a _ _ (both_pass (not (expr_facts w.value).begins_with_check) (expr_is_formed w.value false) g).0 (both_pass (may_stand_before op (sending a)) (action_is_formed a) f).0 m e)
  sync-same (SyncSend v p at) (Prefix' next _ b other) ks ls f g m n e =
      absurd (no-check v.value next b _ _ (both_pass (not (expr_facts v.value).begins_with_check) (expr_is_formed v.value false) f).0 (both_pass (may_stand_before next (sending b)) (action_is_formed b) g).0 n (sym e))
  sync-same (Prefix' op _ a at) b ks ls f g m n e = cc n
  sync-same (SyncSend v p at) b ks ls f g m n e = cc n
  sync-same a b ks ls f g m n e = cc m

  action-same : (a b : Action) (ks ls : Kinds) → action_is_formed a ≡ true → action_is_formed b ≡ true → onto (action_pieces a) (SignKind Semicolon ∷ ks) ≡ onto (action_pieces b) (SignKind Semicolon ∷ ls) → Same (action_pieces a) (action_pieces b) ks ls
  action-same a b ks ls f g e = by (sending a) refl
    where
      by : (s : Sending) → sending a ≡ s → Same (action_pieces a) (action_pieces b) ks ls
      by NoSending n = bare-same a b ks ls f g n (sym (same-sending a b ks ls f g e) ∙ n) e
      by Async n = async-same a b ks ls f g n (sym (same-sending a b ks ls f g e) ∙ n) e
      by Sync n = sync-same a b ks ls f g n (sym (same-sending a b ks ls f g e) ∙ n) e

  -- ---- what stands at the right of an assignment

  rhs-same : (r q : Rhs) (ks ls : Kinds) → rhs_is_formed r ≡ true → rhs_is_formed q ≡ true → onto (rhs_pieces r) (SignKind Semicolon ∷ ks) ≡ onto (rhs_pieces q) (SignKind Semicolon ∷ ls) → Same (rhs_pieces r) (rhs_pieces q) ks ls
  rhs-same (ExprRhs v) (ExprRhs w) ks ls f g e =
      let s = expr-same v.value w.value Semicolon Semicolon ks ls f g refl refl e in
      let rest : SignKind Semicolon ∷ ks ≡ SignKind Semicolon ∷ ls = s.1 in
      (s.0, cc rest)
  rhs-same (ExprRhs v) (ActionRhs a) ks ls f g e = absurd (no-action v.value a.value ks ls (sending a.value) refl g e)
  rhs-same (ActionRhs a) (ExprRhs v) ks ls f g e = absurd (no-action v.value a.value ls ks (sending a.value) refl f (sym e))
  rhs-same (ActionRhs a) (ActionRhs b) ks ls f g e = action-same a.value b.value ks ls f g e

  pub ended-same : (r q : Rhs) (ks ls : Kinds) → rhs_is_formed r ≡ true → rhs_is_formed q ≡ true → onto (ended_pieces r) ks ≡ onto (ended_pieces q) ls → Same (ended_pieces r) (ended_pieces q) ks ls
  ended-same r q ks ls f g e = let s = rhs-same r q ks ls f g e in ((s.0, refl), s.1)

  pub local-same : (t u : LocalType) (w v : Word) (r q : Rhs) (ks ls : Kinds) → local_type_is_formed t ≡ true → local_type_is_formed u ≡ true → rhs_is_formed r ≡ true → rhs_is_formed q ≡ true → onto (local_pieces t w r) ks ≡ onto (local_pieces u v q) ls → Same (local_pieces t w r) (local_pieces u v q) ks ls
  local-same t u w v r q ks ls ft fu fr fq e =
      let s = local_type-same t u w v (SignKind Equal ∷ onto (ended_pieces r) ks) (SignKind Equal ∷ onto (ended_pieces q) ls) ft fu e in
      let rest : SignKind Equal ∷ onto (ended_pieces r) ks ≡ SignKind Equal ∷ onto (ended_pieces q) ls = s.1 in
      let z = ended-same r q ks ls fr fq (cc rest) in
      ((s.0.0, (s.0.1, (refl, z.0))), z.1)

  no-ended : (r : Rhs) (ks ls : Kinds) → SignKind Semicolon ∷ ks ≡ onto (ended_pieces r) ls → ⊥
  no-ended r ks ls e = let bad : None ≡ Some ks = sym (no-semicolon (onto (ended_pieces r) ls) (rhs-leads known r ls)) ∙ ap (take_sign Semicolon) (sym e) in cc bad

  pub return-same : (m n : Option Rhs) (ks ls : Kinds) → value_is_formed m ≡ true → value_is_formed n ≡ true → onto (if_there rhs_pieces m & sign Semicolon) ks ≡ onto (if_there rhs_pieces n & sign Semicolon) ls → Same (if_there rhs_pieces m & sign Semicolon) (if_there rhs_pieces n & sign Semicolon) ks ls
  return-same None None ks ls f g e = ((tt, refl), cc e)
  return-same None (Some q) ks ls f g e = absurd (no-ended q ks ls e)
  return-same (Some r) None ks ls f g e = absurd (no-ended r ls ks (sym e))
  return-same (Some r) (Some q) ks ls f g e = ended-same r q ks ls f g e
