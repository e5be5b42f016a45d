-- The law at patterns, at constant values, and at statements without blocks.
use Rattle.std.proofs.Common.{◌≡◌, ℕ, ◌<◌, ◌≤◌, Bool, true, false, List, [], ◌∷◌, map, length, Option, None, Some, refl, sym, ap, ◌∙◌, arith, ◌&&◌}
use Rattle.std.specs.Global.{Box}
use Rattle.std.specs.Prelude.{is_some}
use Rattle.bal_base.specs.declared.token.TokenKind.TheVariants.{Keyword as KeywordKind, Sign as SignKind}
use Rattle.bal_base.specs.declared.token.Keyword.TheVariants.{Else, Final, Return, Panic, Break, Continue, In, Foreach}
use Rattle.bal_base.specs.declared.token.Sign.TheVariants.{Semicolon, Equal, Underscore, Bar, Colon, FatArrow, OpenBrace, Ellipsis, DotDotLess, Arrow, DoubleArrow}
use Rattle.bal_base.specs.declared.place.Place.{Place}
use Rattle.bal_tree.specs.declared.action.Action.{Action, Prefix', Start, WaitAny, WaitAll, Flush, Receive, Send, SyncSend}
use Rattle.bal_tree.specs.declared.action.ActionOp.TheVariants.{Check, CheckPanic, Trap}
use Rattle.bal_tree.specs.declared.action.Rhs.{Rhs}
use Rattle.bal_tree.specs.declared.action.Rhs.TheVariants.{Expr as ExprRhs, Action as ActionRhs}
use Rattle.bal_tree.specs.declared.expr.Expr.{Expr}
use Rattle.bal_tree.specs.declared.name.ConstValue.{ConstValue}
use Rattle.bal_tree.specs.declared.name.ConstValue.TheVariants.{Literal as LiteralValue, Negative}
use Rattle.bal_tree.specs.declared.name.Literal.TheVariants.{Int, Str, True, False, Nil}
use Rattle.bal_tree.specs.declared.name.Prefix.{Prefix}
use Rattle.bal_tree.specs.declared.name.Prefix.TheVariants.{Word as WordPrefix, Int as IntPrefix}
use Rattle.bal_tree.specs.declared.name.Word.{Word}
use Rattle.bal_tree.specs.declared.stmt.AssignOp.{AssignOp}
use Rattle.bal_tree.specs.declared.stmt.AssignOp.TheVariants.{Set, Add, Subtract, Multiply, Divide}
use Rattle.bal_tree.specs.declared.stmt.LocalType.{LocalType}
use Rattle.bal_tree.specs.declared.stmt.LocalType.TheVariants.{«Type» as TypeOf, Var}
use Rattle.bal_tree.specs.declared.stmt.Pattern.{Pattern}
use Rattle.bal_tree.specs.declared.stmt.Pattern.TheVariants.{Any, Value, Name as NamePattern}
use Rattle.bal_tree.specs.declared.stmt.Range.{Range}
use Rattle.bal_tree.specs.declared.stmt.RangeOp.{RangeOp}
use Rattle.bal_tree.specs.declared.stmt.RangeOp.TheVariants.{Through, Below}
use Rattle.bal_tree.specs.declared.stmt.Target.{Target}
use Rattle.bal_tree.specs.declared.types.TypeTree.{TypeTree}
use Rattle.bal_tree.specs.ActionPieces.{action_pieces, peer_pieces, rhs_pieces}
use Rattle.bal_tree.specs.ActionRules.{has_members, rhs_is_formed}
use Rattle.bal_tree.specs.ExprPieces.{expr_pieces}
use Rattle.bal_tree.specs.ExprRules.{expr_is_formed}
use Rattle.bal_tree.specs.NamePieces.{const_pieces, prefix_pieces, word_pieces}
use Rattle.bal_tree.specs.Pieces.{Pieces, ◌&◌, key, sign, if_there, separated}
use Rattle.bal_tree.specs.Spells.{onto}
use Rattle.bal_tree.specs.StmtPieces.{assign_sign, ended as ended_pieces, foreach_head as foreach_pieces, local_pieces, local_type_pieces, pattern_pieces, range_pieces, range_sign, target_pieces}
use Rattle.bal_tree.specs.StmtRules.{local_type_is_formed, range_is_formed, stands_alone, target_is_formed, value_is_formed}
use Rattle.bal_tree.specs.TypePieces.{type_pieces}
use Rattle.bal_tree.specs.TypeRules.{type_is_formed}
use Rattle.parse_types.specs.Loops.{◌>>=◌, or_else, else_stays}
use Rattle.token_steps.specs.Tokens.{Kinds, take_key, take_sign, take_word}
use Rattle.parse_types.proofs.Law.{both_pass}
use Rattle.parse_types.proofs.Onto.{onto-longer}
use Rattle.parse_types.proofs.PrimaryLaw.{word-closes}
use Rattle.parse_expr.specs.Reaches.{expr, type_at}
use Rattle.parse_stmt.specs.Reaches.{const_value, ended, foreach_head, goes_on, inside, led, local, local_type, pattern, patterns, range_if, range_or, return_behind, stmt}
use Rattle.parse_stmt.proofs.ActionLaw.{NoColon, ended-law, name-law, rhs-law, separated-law}
use Rattle.parse_stmt.proofs.Going.{Ready, StmtAt, led-stmt, one-stmt}
use Rattle.parse_stmt.proofs.Known.{Known, ends_expr, leads}
use Rattle.parse_stmt.proofs.LedLaw.{alone-law, as-expr, assign-law, declared-law, local-law, local_type-law}

-- ---- constant values and patterns

pub const-law : (v : ConstValue) (ks : Kinds) → const_value (onto (const_pieces v) ks) ≡ Some ks
const-law (LiteralValue (Int value at)) ks = refl
const-law (LiteralValue (Str text at)) ks = refl
const-law (LiteralValue (True at)) ks = refl
const-law (LiteralValue (False at)) ks = refl
const-law (LiteralValue (Nil at)) ks = refl
const-law (Negative i at) ks = refl

name-pattern : (prefix : Option Prefix) (w : Word) (ks : Kinds) → NoColon ks → pattern (onto (if_there prefix_pieces prefix & word_pieces w) ks) ≡ Some ks
name-pattern None w ks h = ap (λ o. Some (else_stays (o >>= take_word) ks)) h
name-pattern (Some (WordPrefix p)) w ks h = refl
name-pattern (Some (IntPrefix at)) w ks h = refl

pub pattern-law : (p : Pattern) (ks : Kinds) → NoColon ks → pattern (onto (pattern_pieces p) ks) ≡ Some ks
pattern-law (Any at) ks h = refl
pattern-law (Value (LiteralValue (Int value at))) ks h = refl
pattern-law (Value (LiteralValue (Str text at))) ks h = refl
pattern-law (Value (LiteralValue (True at))) ks h = refl
pattern-law (Value (LiteralValue (False at))) ks h = refl
pattern-law (Value (LiteralValue (Nil at))) ks h = refl
pattern-law (Value (Negative i at)) ks h = refl
pattern-law (NamePattern n) ks h = name-pattern n.prefix n.word ks h

pub patterns-law : (ps : List Pattern) (ks : Kinds) → has_members ps ≡ true → patterns (onto (separated Bar (map pattern_pieces ps)) (SignKind FatArrow ∷ ks)) ≡ Some (SignKind FatArrow ∷ ks)
patterns-law [] ks h = cc h
patterns-law (p ∷ ps) ks h = separated-law pattern_pieces pattern Bar NoColon refl (λ zs. refl) pattern-law p ps (SignKind FatArrow ∷ ks) refl refl

-- no value begins with a semicolon
pub no-semicolon : (xs : Kinds) → leads xs ≡ true → take_sign Semicolon xs ≡ None
no-semicolon [] h = refl
no-semicolon (SignKind Semicolon ∷ xs) h = cc h
no-semicolon (SignKind s ∷ xs) h = refl
no-semicolon (k ∷ xs) h = refl

-- ---- ranges

range-ends : (op : RangeOp) → ends_expr (range_sign op) ≡ true
range-ends Through = refl
range-ends Below = refl

module _ (known : Known) where
  range-law : (range : Option Range) (ks : Kinds) → range_is_formed range ≡ true → range_if (onto (if_there range_pieces range) (SignKind OpenBrace ∷ ks)) ≡ Some (SignKind OpenBrace ∷ ks)
  range-law None ks f = refl
  range-law (Some r) ks f = of_op r.op r.end f
    where
      of_op : (op : RangeOp) (end : Box Expr) → expr_is_formed end.value false ≡ true → range_if (SignKind (range_sign op) ∷ onto (expr_pieces end.value) (SignKind OpenBrace ∷ ks)) ≡ Some (SignKind OpenBrace ∷ ks)
      of_op Through end f = known.expr_before end.value OpenBrace ks f refl
      of_op Below end f = known.expr_before end.value OpenBrace ks f refl

  -- an expression before a range or a block
  pub before-range : (e : Expr) (range : Option Range) (ks : Kinds) → expr_is_formed e false ≡ true → expr (onto (expr_pieces e) (onto (if_there range_pieces range) (SignKind OpenBrace ∷ ks))) ≡ Some (onto (if_there range_pieces range) (SignKind OpenBrace ∷ ks))
  before-range e None ks f = known.expr_before e OpenBrace ks f refl
  before-range e (Some r) ks f = known.expr_before e (range_sign r.op) (onto (expr_pieces r.end.value) (SignKind OpenBrace ∷ ks)) f (range-ends r.op)

  pub foreach-law : (t : LocalType) (w : Word) (e : Expr) (range : Option Range) (ks : Kinds) → local_type_is_formed t ≡ true → expr_is_formed e false ≡ true → range_is_formed range ≡ true → foreach_head (onto (foreach_pieces t w e range) (SignKind OpenBrace ∷ ks)) ≡ Some (SignKind OpenBrace ∷ ks)
  foreach-law t w e range ks f g h =
      let zs = onto (if_there range_pieces range) (SignKind OpenBrace ∷ ks) in
      let ys = KeywordKind In ∷ onto (expr_pieces e) zs in
      ap (λ o. o >>= take_word >>= take_key In >>= expr >>= range_if) (local_type-law known t w ys f)
      ∙ ap (λ o. o >>= range_if) (before-range e range ks g) ∙ range-law range ks h

  -- ---- how expressions and actions begin

  action-leads : (a : Action) (ks : Kinds) → leads (onto (action_pieces a) ks) ≡ true
  action-leads (Prefix' Check _ action at) ks = refl
  action-leads (Prefix' CheckPanic _ action at) ks = refl
  action-leads (Prefix' Trap _ action at) ks = refl
  action-leads (Start c at) ks = refl
  action-leads (WaitAny ns at) ks = refl
  action-leads (WaitAll ms at) ks = refl
  action-leads (Flush p at) ks = refl
  action-leads (Receive p at) ks = refl
  action-leads (Send value p at) ks = known.expr_leads value.value (onto (sign Arrow & peer_pieces p) ks) refl
  action-leads (SyncSend value p at) ks = known.expr_leads value.value (onto (sign DoubleArrow & peer_pieces p) ks) refl

  pub rhs-leads : (r : Rhs) (ks : Kinds) → leads (onto (ended_pieces r) ks) ≡ true
  rhs-leads (ExprRhs e) ks = known.expr_leads e.value (SignKind Semicolon ∷ ks) refl
  rhs-leads (ActionRhs a) ks = action-leads a.value (SignKind Semicolon ∷ ks)

  assign-goes : (op : AssignOp) (ks : Kinds) → goes_on (SignKind (assign_sign op) ∷ ks) ≡ true
  assign-goes Set ks = refl
  assign-goes Add ks = refl
  assign-goes Subtract ks = refl
  assign-goes Multiply ks = refl
  assign-goes Divide ks = refl

  pub target-leads : (t : Target) (op : AssignOp) (ks : Kinds) → leads (onto (target_pieces t) (SignKind (assign_sign op) ∷ ks)) ≡ true
  target-leads t op ks =
      let a = as-expr t in
      ap leads (sym (a.pieces (SignKind (assign_sign op) ∷ ks))) ∙ known.expr_leads a.e (SignKind (assign_sign op) ∷ ks) (assign-goes op ks)

  -- ---- statements without blocks

  pub declared-stmt : (t : TypeTree) (w : Word) (value : Rhs) → type_is_formed t false ≡ true → rhs_is_formed value ≡ true → StmtAt (type_pieces t & word_pieces w & sign Equal & ended_pieces value)
  declared-stmt t w value f g =
      led-stmt (type_pieces t & word_pieces w & sign Equal & ended_pieces value)
      (λ ks. known.type_leads t (onto (word_pieces w & sign Equal & ended_pieces value) ks)) (λ ks. declared-law known t w value ks f g)

  pub var-stmt : (at : Place) (w : Word) (value : Rhs) → rhs_is_formed value ≡ true → StmtAt (local_pieces (Var at) w value)
  var-stmt at w value g =
      one-stmt (local_pieces (Var at) w value) (λ n ks fits. local-law known (Var at) w value ks refl g)
      (λ ks. let l = onto-longer (word_pieces w & sign Equal & ended_pieces value) ks in omega arith)
      (λ ks. record { no_else = refl; of_its_own = λ h. cc h }) (λ ks. refl) (λ ks. refl)

  pub final-stmt : (t : LocalType) (w : Word) (value : Rhs) → local_type_is_formed t ≡ true → rhs_is_formed value ≡ true → StmtAt (key Final & local_pieces t w value)
  final-stmt t w value f g =
      one-stmt (key Final & local_pieces t w value) (λ n ks fits. local-law known t w value ks f g)
      (λ ks. let l = onto-longer (local_pieces t w value) ks in omega arith)
      (λ ks. record { no_else = refl; of_its_own = λ h. cc h }) (λ ks. refl) (λ ks. refl)

  pub assign-stmt : (t : Target) (op : AssignOp) (value : Rhs) → target_is_formed t ≡ true → rhs_is_formed value ≡ true → StmtAt (target_pieces t & sign (assign_sign op) & ended_pieces value)
  assign-stmt t op value f g =
      led-stmt (target_pieces t & sign (assign_sign op) & ended_pieces value)
      (λ ks. target-leads t op (onto (ended_pieces value) ks)) (λ ks. assign-law known t op value ks f g)

  pub alone-stmt : (r : Rhs) → stands_alone r ≡ true → rhs_is_formed r ≡ true → StmtAt (ended_pieces r)
  alone-stmt r h f = led-stmt (ended_pieces r) (rhs-leads r) (λ ks. alone-law known r ks h f)

  pub ignore-stmt : (value : Rhs) → rhs_is_formed value ≡ true → StmtAt (sign Underscore & sign Equal & ended_pieces value)
  ignore-stmt value g =
      one-stmt (sign Underscore & sign Equal & ended_pieces value) (λ n ks fits. ended-law known value ks g)
      (λ ks. let l = onto-longer (ended_pieces value) ks in omega arith)
      (λ ks. record { no_else = refl; of_its_own = λ h. cc h }) (λ ks. refl) (λ ks. refl)

  pub return-stmt : (value : Option Rhs) → value_is_formed value ≡ true → StmtAt (key Return & if_there rhs_pieces value & sign Semicolon)
  return-stmt None f =
      one-stmt (key Return & if_there rhs_pieces None & sign Semicolon) (λ n ks fits. refl) (λ ks. omega arith)
      (λ ks. record { no_else = refl; of_its_own = λ h. cc h }) (λ ks. refl) (λ ks. refl)
  return-stmt (Some value) f =
      one-stmt (key Return & rhs_pieces value & sign Semicolon)
      (λ n ks fits. ap (λ o. or_else o (ended (onto (ended_pieces value) ks))) (no-semicolon (onto (ended_pieces value) ks) (rhs-leads value ks)) ∙ ended-law known value ks f)
      (λ ks. let l = onto-longer (ended_pieces value) ks in omega arith)
      (λ ks. record { no_else = refl; of_its_own = λ h. cc h }) (λ ks. refl) (λ ks. refl)

  pub panic-stmt : (e : Expr) → expr_is_formed e false ≡ true → StmtAt (key Panic & expr_pieces e & sign Semicolon)
  panic-stmt e f =
      one-stmt (key Panic & expr_pieces e & sign Semicolon)
      (λ n ks fits. ap (λ o. o >>= take_sign Semicolon) (known.expr_before e Semicolon ks f refl))
      (λ ks. let l = onto-longer (expr_pieces e) (SignKind Semicolon ∷ ks) in omega arith)
      (λ ks. record { no_else = refl; of_its_own = λ h. cc h }) (λ ks. refl) (λ ks. refl)

  pub break-stmt : StmtAt (key Break & sign Semicolon)
  break-stmt = one-stmt (key Break & sign Semicolon) (λ n ks fits. refl) (λ ks. omega arith) (λ ks. record { no_else = refl; of_its_own = λ h. cc h }) (λ ks. refl) (λ ks. refl)

  pub continue-stmt : StmtAt (key Continue & sign Semicolon)
  continue-stmt = one-stmt (key Continue & sign Semicolon) (λ n ks fits. refl) (λ ks. omega arith) (λ ks. record { no_else = refl; of_its_own = λ h. cc h }) (λ ks. refl) (λ ks. refl)
