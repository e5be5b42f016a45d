-- The law at imports and definitions: the reader leaves just what stands behind them.
use Rattle.std.proofs.Common.{◌≡◌, ℕ, ◌<◌, ◌≤◌, Bool, true, false, ◌&&◌, List, [], ◌∷◌, map, length, Option, None, Some, refl, sym, ap, ◌∙◌, subst, arith}
use Rattle.std.specs.Global.{Box}
use Rattle.std.specs.List.{list_all}
use Rattle.std.specs.Prelude.{is_some, not, ◌||◌, if◌then◌else◌}
use Rattle.std.proofs.lemmas.Bool.{false≢true}
use Rattle.bal_base.specs.declared.text.Name.{Name}
use Rattle.bal_base.specs.declared.token.TokenKind.TheVariants.{Word as WordKind, Keyword as KeywordKind, Sign as SignKind}
use Rattle.bal_base.specs.declared.token.Keyword.TheVariants.{As, Public as PublicKey, «Type» as TypeKey, Const as ConstKey, Final as FinalKey, Worker as WorkerKey, Function as FunctionKey, Isolated as IsolatedKey, Returns}
use Rattle.bal_base.specs.declared.token.Sign.TheVariants.{Semicolon, Equal, OpenBrace, CloseBrace, OpenParen, FatArrow, Slash, Dot, Arrow, DoubleArrow}
use Rattle.bal_tree.specs.declared.def.Import.{Import}
use Rattle.bal_tree.specs.declared.def.Def.{Def}
use Rattle.bal_tree.specs.declared.def.Def.TheVariants.{«Type» as TypeOf, Const, Variable, Function}
use Rattle.bal_tree.specs.declared.def.TypeDef.{TypeDef}
use Rattle.bal_tree.specs.declared.def.ConstDef.{ConstDef}
use Rattle.bal_tree.specs.declared.def.VariableDef.{VariableDef}
use Rattle.bal_tree.specs.declared.def.FunctionDef.{FunctionDef}
use Rattle.bal_tree.specs.declared.def.Body.{Body}
use Rattle.bal_tree.specs.declared.def.Body.TheVariants.{Block as BlockBody, Expr as ExprBody}
use Rattle.bal_tree.specs.declared.def.Worker.{Worker}
use Rattle.bal_tree.specs.declared.expr.Expr.{Expr}
use Rattle.bal_tree.specs.declared.name.Word.{Word}
use Rattle.bal_tree.specs.declared.stmt.Stmt.{Stmt}
use Rattle.bal_tree.specs.declared.types.TypeTree.{TypeTree}
use Rattle.bal_tree.specs.ActionRules.{has_members}
use Rattle.bal_tree.specs.DefPieces.{import_pieces, def_pieces, body_pieces, worker_pieces, word_after, word_behind}
use Rattle.bal_tree.specs.DefRules.{body_is_formed, def_is_formed, function_is_formed, type_is_formed_if, worker_is_formed}
use Rattle.bal_tree.specs.ExprPieces.{expr_pieces}
use Rattle.bal_tree.specs.ExprRules.{expr_is_formed}
use Rattle.bal_tree.specs.NamePieces.{const_pieces, word_pieces}
use Rattle.bal_tree.specs.Pieces.{Pieces, ◌&◌, behind, key, key_if, sign, if_boxed, if_there, joined}
use Rattle.bal_tree.specs.Spells.{onto}
use Rattle.bal_tree.specs.StmtPieces.{block_pieces, stmt_pieces}
use Rattle.bal_tree.specs.StmtRules.{block_is_formed, stmt_is_formed}
use Rattle.bal_tree.specs.TypePieces.{function_word as isolated_word, params_pieces, returning, type_pieces}
use Rattle.bal_tree.specs.TypeRules.{params_are_formed, type_is_formed}
use Rattle.parse_types.specs.Loops.{◌>>=◌, else_stays, many}
use Rattle.token_steps.specs.Tokens.{Kinds, take_key, take_sign, take_word}
use Rattle.parse_types.specs.Reaches.{isolated_if_there}
use Rattle.parse_types.proofs.Follows.{Closes}
use Rattle.parse_types.proofs.Going.{many-stops, many-goes}
use Rattle.parse_types.proofs.Law.{both_pass}
use Rattle.parse_types.proofs.Onto.{onto-longer}
use Rattle.parse_types.proofs.PrimaryLaw.{word-closes}
use Rattle.parse_expr.specs.Reaches.{expr, params, type_at}
use Rattle.parse_stmt.specs.declared.ahead.Mark.{Mark}
use Rattle.parse_stmt.specs.declared.ahead.Mark.TheVariants.{Declares, Assigns, Sends, SendsSync, Nothing}
use Rattle.parse_stmt.specs.Ahead.{semicolon, first_mark, if_outside, mark_or, word_mark}
use Rattle.parse_stmt.specs.Reaches.{assign_op, ended, is_call, is_target, peer, begins_function, body, body_or, const_def, const_type, const_value, def, def_behind, dot_word, function_def, function_or, function_word, import, import_behind, inside, is_named, led, led_by, result_if, result_or, second_or, stmt, stmts, type_def, up_to, variable_def, worker, workers, workers_if, workers_or}
use Rattle.parse_stmt.specs.Shapes.{last_read}
use Rattle.parse_stmt.proofs.StmtReadings.{some-members}
use Rattle.parse_stmt.proofs.Going.{Ready, StmtAt, StmtsAt, close-ready, stmts-close, stmts-go, stmts-is}
use Rattle.parse_stmt.proofs.Known.{Known, leads}
use Rattle.parse_stmt.proofs.PlainLaw.{const-law}
use Rattle.parse_stmt.proofs.StmtLaw.{block-law, inside-block, stmt-law}

-- ---- imports

dots-go : (ws : List Word) (zs : Kinds) → take_sign Dot zs ≡ None → many length dot_word (onto (behind Dot (map word_pieces ws)) zs) ≡ zs
dots-go [] zs e = many-stops length dot_word zs (ap (λ o. o >>= take_word) e)
dots-go (w ∷ ws) zs e =
    let ys = onto (behind Dot (map word_pieces ws)) zs in
    many-goes length dot_word (SignKind Dot ∷ WordKind w.name ∷ ys) ys refl (omega arith) ∙ dots-go ws zs e

no-slash : (ws : List Word) (zs : Kinds) → take_sign Slash zs ≡ None → take_sign Slash (onto (behind Dot (map word_pieces ws)) zs) ≡ None
no-slash [] zs e = e
no-slash (w ∷ ws) zs e = refl

prefix-law : (prefix : Option Word) (ks : Kinds) → (second_or (take_key As (onto (if_there (word_after As) prefix) (SignKind Semicolon ∷ ks))) (onto (if_there (word_after As) prefix) (SignKind Semicolon ∷ ks)) >>= take_sign Semicolon) ≡ Some ks
prefix-law None ks = refl
prefix-law (Some w) ks = refl

prefix-no-dot : (prefix : Option Word) (ks : Kinds) → take_sign Dot (onto (if_there (word_after As) prefix) (SignKind Semicolon ∷ ks)) ≡ None
prefix-no-dot None ks = refl
prefix-no-dot (Some w) ks = refl

prefix-no-slash : (prefix : Option Word) (ks : Kinds) → take_sign Slash (onto (if_there (word_after As) prefix) (SignKind Semicolon ∷ ks)) ≡ None
prefix-no-slash None ks = refl
prefix-no-slash (Some w) ks = refl

abbrev ended_by : Kinds → Option Kinds
ended_by a = let b = many length dot_word a in second_or (take_key As b) b >>= take_sign Semicolon

second-law : (second : Option Word) (ws : List Word) (prefix : Option Word) (ks : Kinds) → import_behind (onto (if_there (word_behind Slash) second & behind Dot (map word_pieces ws) & if_there (word_after As) prefix & sign Semicolon) ks) ≡ Some ks
second-law None ws prefix ks =
    let zs = onto (if_there (word_after As) prefix) (SignKind Semicolon ∷ ks) in
    let xs = onto (behind Dot (map word_pieces ws)) zs in
    ap (λ o. second_or o xs >>= ended_by) (no-slash ws zs (prefix-no-slash prefix ks))
    ∙ ap (λ b. second_or (take_key As b) b >>= take_sign Semicolon) (dots-go ws zs (prefix-no-dot prefix ks)) ∙ prefix-law prefix ks
second-law (Some w) ws prefix ks =
    let zs = onto (if_there (word_after As) prefix) (SignKind Semicolon ∷ ks) in
    ap (λ b. second_or (take_key As b) b >>= take_sign Semicolon) (dots-go ws zs (prefix-no-dot prefix ks)) ∙ prefix-law prefix ks

pub import-law : (i : Import) (ks : Kinds) → import (onto (import_pieces i) ks) ≡ Some ks
import-law i ks = second-law i.second i.more.items i.prefix ks

-- ---- what begins no definition of another form

pub no-key : (xs : Kinds) → leads xs ≡ true → (take_key PublicKey xs ≡ None) × (take_key FinalKey xs ≡ None)
no-key [] h = (refl, refl)
no-key (KeywordKind PublicKey ∷ xs) h = cc h
no-key (KeywordKind FinalKey ∷ xs) h = cc h
no-key (KeywordKind k ∷ xs) h = (refl, refl)
no-key (k ∷ xs) h = (refl, refl)

other-def : (n : ℕ) (xs : Kinds) → leads xs ≡ true → def_behind n xs ≡ function_or n (begins_function xs) xs
other-def n [] h = cc h
other-def n (KeywordKind TypeKey ∷ xs) h = cc h
other-def n (KeywordKind ConstKey ∷ xs) h = cc h
other-def n (KeywordKind k ∷ xs) h = refl
other-def n (k ∷ xs) h = refl

-- `T a =` is not `a =`
pub not-named : (xs : Kinds) → first_mark true 0 xs ≡ Declares → is_named xs ≡ false
not-named [] h = refl
not-named (WordKind w ∷ zs) h = test (is_some (take_sign Equal zs)) refl
  where
    test : (b : Bool) → is_some (take_sign Equal zs) ≡ b → is_some (take_sign Equal zs) ≡ false
    test true e = let bad : Assigns ≡ Declares = sym (ap (λ c. mark_or (if_outside (word_mark true c) 0) (first_mark false 0 zs)) e) ∙ h in cc bad
    test false e = e
not-named (k ∷ zs) h = refl

-- ---- what stands behind a result

pub record Behind (zs : Kinds) : Type 0 where
  pub closes : Closes zs
  pub no_returns : take_key Returns zs ≡ None

pub brace-behind : (ks : Kinds) → Behind (SignKind OpenBrace ∷ ks)
brace-behind ks = record { closes = record { less = refl; paren = refl; colon = refl; returns = refl; ends = record { no_suffix = refl; no_ampersand = refl; no_bar = refl } }; no_returns = refl }

pub arrow-behind : (ks : Kinds) → Behind (SignKind FatArrow ∷ ks)
arrow-behind ks = record { closes = record { less = refl; paren = refl; colon = refl; returns = refl; ends = record { no_suffix = refl; no_ampersand = refl; no_bar = refl } }; no_returns = refl }

pub semicolon-closes : (ks : Kinds) → Closes (SignKind Semicolon ∷ ks)
semicolon-closes ks = record { less = refl; paren = refl; colon = refl; returns = refl; ends = record { no_suffix = refl; no_ampersand = refl; no_bar = refl } }

pub body-behind : (b : Body) (ks : Kinds) → Behind (onto (body_pieces b) ks)
body-behind (BlockBody stmts workers rest close at) ks = brace-behind (onto (joined (map stmt_pieces stmts.items) & joined (map worker_pieces workers.items) & joined (map stmt_pieces rest.items) & sign CloseBrace) ks)
body-behind (ExprBody value at) ks = arrow-behind (onto (expr_pieces value.value & sign Semicolon) ks)

none-up-to : (o q : Option Kinds) → q ≡ None → (o >>= λ end. q >>= up_to end) ≡ None
none-up-to None q e = refl
none-up-to (Some end) q e = ap (λ r. r >>= up_to end) e

module _ (known : Known) where
  pub result-law : (result : Option (Box TypeTree)) (zs : Kinds) → type_is_formed_if result ≡ true → Behind zs → result_if (onto (if_boxed (λ t. returning (type_pieces t)) result) zs) ≡ Some zs
  result-law None zs f b = ap (λ o. result_or o zs) b.no_returns
  result-law (Some t) zs f b = known.type_before t.value zs f b.closes

  -- ---- workers, and the statements around them

  no-led : (m : Mark) (ks : Kinds) → led_by m (KeywordKind WorkerKey ∷ ks) ≡ None
  no-led Declares ks = ap (λ o. o >>= take_word >>= take_sign Equal >>= ended) (known.no_type ks)
  no-led Assigns ks = ap (λ o. o >>= (λ a. if is_target (last_read (KeywordKind WorkerKey ∷ ks) a) then Some a else None) >>= assign_op >>= ended) (known.no_expr ks)
  no-led Sends ks = ap (λ o. o >>= take_sign Arrow >>= peer >>= take_sign Semicolon) (known.no_expr ks)
  no-led SendsSync ks = ap (λ o. o >>= take_sign DoubleArrow >>= peer >>= take_sign Semicolon) (known.no_expr ks)
  no-led Nothing ks = ap (λ o. (o >>= λ a. if is_call (last_read (KeywordKind WorkerKey ∷ ks) a) then Some a else None) >>= take_sign Semicolon) (known.no_expr ks)

  worker-stops : (n : ℕ) (ks : Kinds) → stmt (inside n) (KeywordKind WorkerKey ∷ ks) ≡ None
  unfolding led
  worker-stops n ks =
      none-up-to (semicolon 0 (KeywordKind WorkerKey ∷ ks)) (led_by (first_mark true 0 (KeywordKind WorkerKey ∷ ks)) (KeywordKind WorkerKey ∷ ks)) (no-led (first_mark true 0 (KeywordKind WorkerKey ∷ ks)) ks)

  worker-ready : (ks : Kinds) → Ready (KeywordKind WorkerKey ∷ ks)
  worker-ready ks = record { no_else = refl; of_its_own = λ h. cc h }

  pub stmts-at : (xs : List Stmt) → list_all stmt_is_formed xs ≡ true → StmtsAt (map stmt_pieces xs)
  stmts-at [] h = tt
  stmts-at (x ∷ xs) h = let b = both_pass (stmt_is_formed x) (list_all stmt_is_formed xs) h in (stmt-law known x b.0, stmts-at xs b.1)

  pub worker-law : (n : ℕ) (w : Worker) (ks : Kinds) → worker_is_formed w ≡ true → length (onto (worker_pieces w) ks) < n → worker n (onto (worker_pieces w) ks) ≡ Some ks
  worker-law n w ks f fits =
      let b = both_pass (type_is_formed_if w.result) (block_is_formed w.body) f in
      let at = block-law known w.body b.1 in
      let o = at.opens ks in
      let zs = onto (block_pieces w.body) ks in
      let l = onto-longer (if_boxed (λ t. returning (type_pieces t)) w.result) zs in
      ap (λ q. q >>= inside n false) (result-law w.result zs b.0 (subst Behind (sym o.1.0) (brace-behind o.0))) ∙ inside-block (block_pieces w.body) at n ks (omega arith)

  worker-longer : (w : Worker) (ks : Kinds) → length ks < length (onto (worker_pieces w) ks)
  worker-longer w ks = let l = onto-longer (if_boxed (λ t. returning (type_pieces t)) w.result & block_pieces w.body) ks in omega arith

  workers-go : (n : ℕ) (ws : List Worker) (zs : Kinds) → list_all worker_is_formed ws ≡ true → take_key WorkerKey zs ≡ None → length (onto (joined (map worker_pieces ws)) zs) < n → many length (worker n) (onto (joined (map worker_pieces ws)) zs) ≡ zs
  workers-go n [] zs f e fits = many-stops length (worker n) zs (ap (λ o. o >>= take_word >>= result_if >>= inside n false) e)
  workers-go n (w ∷ ws) zs f e fits =
      let b = both_pass (worker_is_formed w) (list_all worker_is_formed ws) f in
      let ys = onto (joined (map worker_pieces ws)) zs in
      let l = worker-longer w ys in
      many-goes length (worker n) (onto (worker_pieces w) ys) ys (worker-law n w ys b.0 fits) l ∙ workers-go n ws zs b.1 e (omega arith)

  pub rest-no-worker : (xs : List Stmt) (ks : Kinds) → list_all stmt_is_formed xs ≡ true → take_key WorkerKey (onto (joined (map stmt_pieces xs)) (SignKind CloseBrace ∷ ks)) ≡ None
  rest-no-worker [] ks f = refl
  rest-no-worker (x ∷ xs) ks f = (stmt-law known x (both_pass (stmt_is_formed x) (list_all stmt_is_formed xs) f).0).no_worker (onto (joined (map stmt_pieces xs)) (SignKind CloseBrace ∷ ks))

  rest-law : (n : ℕ) (xs : List Stmt) (ks : Kinds) → list_all stmt_is_formed xs ≡ true → length (onto (joined (map stmt_pieces xs)) (SignKind CloseBrace ∷ ks)) < n → stmts (inside n) (onto (joined (map stmt_pieces xs)) (SignKind CloseBrace ∷ ks)) ≡ SignKind CloseBrace ∷ ks
  rest-law n xs ks f fits =
      stmts-is (inside n) (onto (joined (map stmt_pieces xs)) (SignKind CloseBrace ∷ ks))
      ∙ stmts-go n (map stmt_pieces xs) (SignKind CloseBrace ∷ ks) (stmts-at xs f) fits (close-ready ks) ∙ stmts-close (inside n) ks

  -- ---- bodies

  body-list : (n : ℕ) (stmts_ rest : List Stmt) (ws : List Worker) (ks : Kinds) → list_all stmt_is_formed stmts_ ≡ true → list_all worker_is_formed ws ≡ true → list_all stmt_is_formed rest ≡ true → (has_members ws || not (has_members rest)) ≡ true → length (onto (joined (map stmt_pieces stmts_) & joined (map worker_pieces ws) & joined (map stmt_pieces rest)) (SignKind CloseBrace ∷ ks)) < n → workers_if n (stmts (inside n) (onto (joined (map stmt_pieces stmts_) & joined (map worker_pieces ws) & joined (map stmt_pieces rest)) (SignKind CloseBrace ∷ ks))) ≡ Some (SignKind CloseBrace ∷ ks)
  body-list n stmts_ [] [] ks f g h k fits = ap (workers_if n) (rest-law n stmts_ ks f fits)
  body-list n stmts_ (x ∷ xs) [] ks f g h k fits = absurd (false≢true (sym (ap not (some-members (length (x ∷ xs)) (omega arith))) ∙ k))
  body-list n stmts_ rest (w ∷ ws) ks f g h k fits =
      let zs = onto (joined (map stmt_pieces rest)) (SignKind CloseBrace ∷ ks) in
      let ys = onto (joined (map worker_pieces ws)) zs in
      let us = onto (worker_pieces w) ys in
      let l = onto-longer (joined (map stmt_pieces stmts_)) us in
      let m = worker-longer w ys in
      let o = onto-longer (joined (map worker_pieces ws)) zs in
      let b = both_pass (worker_is_formed w) (list_all worker_is_formed ws) g in
      ap (workers_if n) (stmts-is (inside n) (onto (joined (map stmt_pieces stmts_)) us) ∙ stmts-go n (map stmt_pieces stmts_) us (stmts-at stmts_ f) fits (worker-ready (onto (word_pieces w.name & if_boxed (λ t. returning (type_pieces t)) w.result & block_pieces w.body) ys)) ∙ many-stops length (stmt (inside n)) us (worker-stops n (onto (word_pieces w.name & if_boxed (λ t. returning (type_pieces t)) w.result & block_pieces w.body) ys)))
      ∙ ap (λ q. q >>= (λ a. Some (many length (worker n) a)) >>= λ a. Some (stmts (inside n) a)) (worker-law n w ys b.0 (omega arith))
      ∙ ap (λ a. Some (stmts (inside n) a)) (workers-go n ws zs b.1 (rest-no-worker rest ks h) (omega arith))
      ∙ ap Some (rest-law n rest ks h (omega arith))

  body-law : (n : ℕ) (b : Body) (ks : Kinds) → body_is_formed b ≡ true → length (onto (body_pieces b) ks) ≤ n → body n (onto (body_pieces b) ks) ≡ Some ks
  body-law n (BlockBody stmts_ ws rest close at) ks f fits =
      let a = both_pass (list_all stmt_is_formed stmts_.items && list_all worker_is_formed ws.items && list_all stmt_is_formed rest.items) (has_members ws.items || not (has_members rest.items)) f in
      let b = both_pass (list_all stmt_is_formed stmts_.items && list_all worker_is_formed ws.items) (list_all stmt_is_formed rest.items) a.0 in
      let c = both_pass (list_all stmt_is_formed stmts_.items) (list_all worker_is_formed ws.items) b.0 in
      ap (λ o. o >>= take_sign CloseBrace) (body-list n stmts_.items rest.items ws.items ks c.0 c.1 b.1 a.1 (omega arith))
  body-law n (ExprBody value at) ks f fits = ap (λ o. o >>= take_sign Semicolon) (known.expr_before value.value Semicolon ks f refl)

  -- ---- functions

  function-law : (n : ℕ) (d : FunctionDef) (ks : Kinds) → function_is_formed d ≡ true → length (onto (body_pieces d.body) ks) ≤ n → (function_word (onto (key_if d.isolated IsolatedKey & key FunctionKey & word_pieces d.name & params_pieces d.params & if_boxed (λ t. returning (type_pieces t)) d.result & body_pieces d.body) ks) >>= params >>= result_if >>= body n) ≡ Some ks
  function-law n d ks f fits =
      let b = both_pass (params_are_formed d.params && type_is_formed_if d.result) (body_is_formed d.body) f in
      let c = both_pass (params_are_formed d.params) (type_is_formed_if d.result) b.0 in
      let zs = onto (body_pieces d.body) ks in
      let ys = onto (if_boxed (λ t. returning (type_pieces t)) d.result) zs in
      head d.isolated (onto (params_pieces d.params) ys)
      ∙ ap (λ o. o >>= result_if >>= body n) (known.params_law d.params ys c.0) ∙ ap (λ o. o >>= body n) (result-law d.result zs c.1 (body-behind d.body ks)) ∙ body-law n d.body ks b.1 fits
    where
      head : (isolated : Bool) (zs : Kinds) → (function_word (onto (key_if isolated IsolatedKey & key FunctionKey & word_pieces d.name) zs) >>= params >>= result_if >>= body n) ≡ (params zs >>= result_if >>= body n)
      head true zs = refl
      head false zs = refl

  function-def-law : (n : ℕ) (public : Bool) (d : FunctionDef) (ks : Kinds) → function_is_formed d ≡ true → length (onto (body_pieces d.body) ks) ≤ n → def n (onto (key_if public PublicKey & key_if d.isolated IsolatedKey & key FunctionKey & word_pieces d.name & params_pieces d.params & if_boxed (λ t. returning (type_pieces t)) d.result & body_pieces d.body) ks) ≡ Some ks
  function-def-law n public d ks f fits =
      head public d.isolated (onto (if_boxed (λ t. returning (type_pieces t)) d.result & body_pieces d.body) ks) ∙ function-law n d ks f fits
    where
      head : (public isolated : Bool) (zs : Kinds) → def n (onto (key_if public PublicKey & key_if isolated IsolatedKey & key FunctionKey & word_pieces d.name & params_pieces d.params) zs) ≡ (function_word (onto (key_if isolated IsolatedKey & key FunctionKey & word_pieces d.name & params_pieces d.params) zs) >>= params >>= result_if >>= body n)
      head true true zs = refl
      head true false zs = refl
      head false true zs = refl
      head false false zs = refl

  -- ---- types, constants and variables

  type-def-law : (n : ℕ) (public : Bool) (w : Word) (t : TypeTree) (ks : Kinds) → type_is_formed t false ≡ true → def n (onto (key_if public PublicKey & key TypeKey & word_pieces w & type_pieces t & sign Semicolon) ks) ≡ Some ks
  type-def-law n public w t ks f = head public (onto (type_pieces t) (SignKind Semicolon ∷ ks)) ∙ ap (λ o. o >>= take_sign Semicolon) (known.type_before t (SignKind Semicolon ∷ ks) f (semicolon-closes ks))
    where
      head : (public : Bool) (zs : Kinds) → def n (onto (key_if public PublicKey & key TypeKey & word_pieces w) zs) ≡ (type_at false zs >>= take_sign Semicolon)
      head true zs = refl
      head false zs = refl

  pub const-type-law : (t : Option (Box TypeTree)) (w : Word) (ks : Kinds) → type_is_formed_if t ≡ true → const_type (onto (if_boxed type_pieces t & word_pieces w) (SignKind Equal ∷ ks)) ≡ Some (WordKind w.name ∷ SignKind Equal ∷ ks)
  const-type-law None w ks f = refl
  const-type-law (Some t) w ks f =
      let zs = WordKind w.name ∷ SignKind Equal ∷ ks in
      let xs = onto (type_pieces t.value) zs in
      ap (λ b. if b then Some xs else type_at false xs) (not-named xs ((known.type_passes t.value).mark true 0 zs refl)) ∙ known.type_before t.value zs f (word-closes w.name (SignKind Equal ∷ ks))

  const-def-law : (n : ℕ) (public : Bool) (d : ConstDef) (ks : Kinds) → type_is_formed_if d.ty ≡ true → def n (onto (key_if public PublicKey & key ConstKey & if_boxed type_pieces d.ty & word_pieces d.name & sign Equal & const_pieces d.value & sign Semicolon) ks) ≡ Some ks
  const-def-law n public d ks f =
      let zs = onto (const_pieces d.value) (SignKind Semicolon ∷ ks) in
      head public (onto (if_boxed type_pieces d.ty & word_pieces d.name) (SignKind Equal ∷ zs))
      ∙ ap (λ o. o >>= take_word >>= take_sign Equal >>= const_value >>= take_sign Semicolon) (const-type-law d.ty d.name zs f)
      ∙ ap (λ o. o >>= take_sign Semicolon) (const-law d.value (SignKind Semicolon ∷ ks))
    where
      head : (public : Bool) (zs : Kinds) → def n (onto (key_if public PublicKey & key ConstKey) zs) ≡ (const_type zs >>= take_word >>= take_sign Equal >>= const_value >>= take_sign Semicolon)
      head true zs = refl
      head false zs = refl

  -- a type before a word and `=` begins no function
  no-paren : (w f : Name) (ks zs : Kinds) → type_at false (onto (isolated_word false) (WordKind f ∷ zs)) ≡ Some (WordKind w ∷ SignKind Equal ∷ ks) → is_some (take_sign OpenParen zs) ≡ false
  no-paren w f ks zs e =
      let both : Some (WordKind f ∷ zs) ≡ Some (WordKind w ∷ SignKind Equal ∷ ks) = sym (known.any_function false f zs) ∙ e in
      let same : zs ≡ SignKind Equal ∷ ks = cc both in
      ap (λ xs. is_some (take_sign OpenParen xs)) same

  no-paren-isolated : (w f : Name) (ks zs : Kinds) → type_at false (onto (isolated_word true) (WordKind f ∷ zs)) ≡ Some (WordKind w ∷ SignKind Equal ∷ ks) → is_some (take_sign OpenParen zs) ≡ false
  no-paren-isolated w f ks zs e =
      let both : Some (WordKind f ∷ zs) ≡ Some (WordKind w ∷ SignKind Equal ∷ ks) = sym (known.any_function true f zs) ∙ e in
      let same : zs ≡ SignKind Equal ∷ ks = cc both in
      ap (λ xs. is_some (take_sign OpenParen xs)) same

  pub no-function : (xs : Kinds) (w : Name) (ks : Kinds) → type_at false xs ≡ Some (WordKind w ∷ SignKind Equal ∷ ks) → begins_function xs ≡ false
  no-function [] w ks e = refl
  no-function (KeywordKind FunctionKey ∷ WordKind f ∷ zs) w ks e = no-paren w f ks zs e
  no-function (KeywordKind FunctionKey ∷ []) w ks e = refl
  no-function (KeywordKind FunctionKey ∷ k ∷ zs) w ks e = refl
  no-function (KeywordKind IsolatedKey ∷ KeywordKind FunctionKey ∷ WordKind f ∷ zs) w ks e = no-paren-isolated w f ks zs e
  no-function (KeywordKind IsolatedKey ∷ KeywordKind FunctionKey ∷ []) w ks e = refl
  no-function (KeywordKind IsolatedKey ∷ KeywordKind FunctionKey ∷ k ∷ zs) w ks e = refl
  no-function (KeywordKind IsolatedKey ∷ []) w ks e = refl
  no-function (KeywordKind IsolatedKey ∷ KeywordKind k ∷ zs) w ks e = refl
  no-function (KeywordKind IsolatedKey ∷ k ∷ zs) w ks e = refl
  no-function (KeywordKind k ∷ zs) w ks e = refl
  no-function (k ∷ zs) w ks e = refl

  variable-law : (t : TypeTree) (w : Word) (value : Expr) (ks : Kinds) → type_is_formed t false ≡ true → expr_is_formed value false ≡ true → (type_at false (onto (type_pieces t & word_pieces w & sign Equal & expr_pieces value & sign Semicolon) ks) >>= take_word >>= take_sign Equal >>= expr >>= take_sign Semicolon) ≡ Some ks
  variable-law t w value ks f g =
      let zs = onto (expr_pieces value) (SignKind Semicolon ∷ ks) in
      ap (λ o. o >>= take_word >>= take_sign Equal >>= expr >>= take_sign Semicolon) (known.type_before t (WordKind w.name ∷ SignKind Equal ∷ zs) f (word-closes w.name (SignKind Equal ∷ zs)))
      ∙ ap (λ o. o >>= take_sign Semicolon) (known.expr_before value Semicolon ks g refl)

  behind_public : (n : ℕ) (t : TypeTree) (w : Word) (value : Expr) (ks : Kinds) → type_is_formed t false ≡ true → expr_is_formed value false ≡ true → def_behind n (onto (type_pieces t & word_pieces w & sign Equal & expr_pieces value & sign Semicolon) ks) ≡ Some ks
  behind_public n t w value ks f g =
      let zs = onto (expr_pieces value) (SignKind Semicolon ∷ ks) in
      let xs = onto (type_pieces t) (WordKind w.name ∷ SignKind Equal ∷ zs) in
      let first = known.type_leads t (WordKind w.name ∷ SignKind Equal ∷ zs) in
      other-def n xs first
      ∙ ap (λ b. function_or n b xs) (no-function xs w.name zs (known.type_before t (WordKind w.name ∷ SignKind Equal ∷ zs) f (word-closes w.name (SignKind Equal ∷ zs))))
      ∙ ap (λ o. type_at false (else_stays o xs) >>= take_word >>= take_sign Equal >>= expr >>= take_sign Semicolon) (no-key xs first).1 ∙ variable-law t w value ks f g

  variable-def-law : (n : ℕ) (public is_final : Bool) (t : TypeTree) (w : Word) (value : Expr) (ks : Kinds) → type_is_formed t false ≡ true → expr_is_formed value false ≡ true → def n (onto (key_if public PublicKey & key_if is_final FinalKey & type_pieces t & word_pieces w & sign Equal & expr_pieces value & sign Semicolon) ks) ≡ Some ks
  variable-def-law n true true t w value ks f g = variable-law t w value ks f g
  variable-def-law n false true t w value ks f g = variable-law t w value ks f g
  variable-def-law n true false t w value ks f g = behind_public n t w value ks f g
  variable-def-law n false false t w value ks f g =
      let xs = onto (type_pieces t & word_pieces w & sign Equal & expr_pieces value & sign Semicolon) ks in
      ap (λ o. def_behind n (else_stays o xs)) (no-key xs (known.type_leads t (onto (word_pieces w & sign Equal & expr_pieces value & sign Semicolon) ks))).0 ∙ behind_public n t w value ks f g

  pub def-law : (n : ℕ) (d : Def) (ks : Kinds) → def_is_formed d ≡ true → length (onto (def_pieces d) ks) ≤ n → def n (onto (def_pieces d) ks) ≡ Some ks
  def-law n (TypeOf d) ks f fits = type-def-law n d.public d.name d.ty.value ks f
  def-law n (Const d) ks f fits = const-def-law n d.public d ks f
  def-law n (Variable d) ks f fits = let b = both_pass (type_is_formed d.ty.value false) (expr_is_formed d.value.value false) f in variable-def-law n d.public d.is_final d.ty.value d.name d.value.value ks b.0 b.1
  def-law n (Function d) ks f fits =
      let l = onto-longer (key_if d.public PublicKey & key_if d.isolated IsolatedKey & key FunctionKey & word_pieces d.name & params_pieces d.params & if_boxed (λ t. returning (type_pieces t)) d.result) (onto (body_pieces d.body) ks) in
      function-def-law n d.public d ks f (omega arith)
