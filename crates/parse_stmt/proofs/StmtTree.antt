-- Two chosen statements of the same tokens are alike, by induction on the first.
use Rattle.std.proofs.Common.{◌≡◌, ℕ, zero, suc, ◌<◌, true, false, List, [], ◌∷◌, ◌++◌, map, length, All, get_or, None, Some, refl, sym, ap, ◌∙◌, subst, arith}
use Rattle.std.proofs.lemmas.Bool.{false≢true}
use Rattle.bal_base.specs.declared.token.TokenKind.TheVariants.{Keyword as KeywordKind, Sign as SignKind}
use Rattle.bal_base.specs.declared.token.Keyword.TheVariants.{Else as ElseKey, Worker as WorkerKey}
use Rattle.bal_base.specs.declared.token.Sign.TheVariants.{OpenBrace, CloseBrace}
use Rattle.bal_tree.specs.declared.stmt.LocalType.TheVariants.{«Type» as TypeOf, Var}
use Rattle.bal_tree.specs.declared.stmt.Else.TheOpen as layer
use Rattle.bal_tree.specs.declared.stmt.Else.{Else}
use Rattle.bal_tree.specs.declared.stmt.Stmt.{Stmt}
use Rattle.bal_tree.specs.declared.stmt.Block.{Block, Block-F, roll-Block, out-Block, roll-out-Block}
use Rattle.bal_tree.specs.declared.stmt.Clause.{Clause}
use Rattle.bal_tree.specs.declared.stmt.IfStmt.{IfStmt}
use Rattle.bal_tree.specs.Pieces.{Pieces, ◌&◌, joined, sign}
use Rattle.bal_tree.specs.Spells.{onto}
use Rattle.bal_tree.specs.StmtPieces.{stmt_pieces, block_pieces, writing}
use Rattle.bal_tree.specs.StmtRules.{are_formed, block_is_formed, forming, stmt_is_formed}
use Rattle.token_steps.specs.Tokens.{Kinds, take_key}
use Rattle.parse_types.proofs.Law.{both_pass}
use Rattle.parse_stmt.specs.Ahead.{semicolon}
use Rattle.parse_stmt.specs.Chosen.{AreChosen, IsBlockFirst, listing}
use Rattle.parse_stmt.specs.Reaches.{goes_on, led}
use Rattle.parse_stmt.specs.Starts.{ends_stmts}
use Rattle.parse_stmt.proofs.Alike.{same-kinds}
use Rattle.parse_stmt.proofs.FormTree.{AStmtLayer, Fits, Form, by_first, by_mark, fits, form, is_led, led-of}
use Rattle.parse_stmt.proofs.Known.{Known, leads}
use Rattle.parse_stmt.proofs.LedLaw.{led-end}
use Rattle.parse_stmt.proofs.StmtLaw.{stmt-law}
use Rattle.parse_stmt.proofs.StmtRolls.{parts_of_stmt, rolled-block}

-- ---- what is chosen in lists

tail : {X : Type 0} (P : X → Type 0) (x : X) (xs : List X) → All P (x ∷ xs) → All P xs
tail P x xs h = λ i d lt. h (suc i) d (omega arith)

first-and : {X : Type 0} (P : X → Type 0) (x : X) (xs : List X) → P x → All P xs → (i : ℕ) (d : X) → i < length (x ∷ xs) → P (get_or (x ∷ xs) i d)
first-and P x xs p h zero d lt = p
first-and P x xs p h (suc i) d lt = h i d (omega arith)

front : {X : Type 0} (P : X → Type 0) (xs ys : List X) → All P (xs ++ ys) → All P xs
front P [] ys h = λ i d lt. absurd (omega arith)
front P (x ∷ xs) ys h = first-and P x xs (h 0 x (omega arith)) (front P xs ys (tail P x (xs ++ ys) h))

back : {X : Type 0} (P : X → Type 0) (xs ys : List X) → All P (xs ++ ys) → All P ys
back P [] ys h = h
back P (x ∷ xs) ys h = back P xs ys (tail P x (xs ++ ys) h)

pub chosen-front : (xs ys : List Pieces) → AreChosen (xs ++ ys) → AreChosen xs
chosen-front xs ys = front (λ p. IsBlockFirst p → ⊥) xs ys

pub chosen-back : (xs ys : List Pieces) → AreChosen (xs ++ ys) → AreChosen ys
chosen-back xs ys = back (λ p. IsBlockFirst p → ⊥) xs ys

-- ---- what may stand behind a statement of a list: no `else`, and a statement where an expression could go on

pub record Behind (ks : Kinds) : Type 0 where
  pub no_else : take_key ElseKey ks ≡ None
  pub stmt : goes_on ks ≡ true → (s : Stmt) × (rest : Kinds) × (stmt_is_formed s ≡ true) × (ks ≡ onto (stmt_pieces s) rest)

ends-behind : (ks : Kinds) → ends_stmts ks ≡ true → Behind ks
ends-behind [] h = record { no_else = refl; stmt = λ g. cc g }
ends-behind (SignKind CloseBrace ∷ ks) h = record { no_else = refl; stmt = λ g. cc g }
ends-behind (KeywordKind WorkerKey ∷ ks) h = record { no_else = refl; stmt = λ g. cc g }
ends-behind (k ∷ ks) h = cc h

module _ (known : Known) where
  pub behind : (ss : List Stmt) (ks : Kinds) → are_formed (map stmt_is_formed ss) ≡ true → ends_stmts ks ≡ true → Behind (onto (joined (map stmt_pieces ss)) ks)
  behind [] ks f h = ends-behind ks h
  behind (s ∷ ss) ks f h =
      let b = both_pass (stmt_is_formed s) (are_formed (map stmt_is_formed ss)) f in
      let zs = onto (joined (map stmt_pieces ss)) ks in
      record { no_else = ((stmt-law known s b.0).ready zs).no_else; stmt = λ g. (s, zs, b.0, refl) }

  -- ---- an empty block and a statement that begins with a mapping

  -- a statement that leads is among those that are listed
  own-listed : (x : AStmtLayer) → is_led (form x) ≡ true → AreChosen (listing.stmt (parts_of_stmt listing x)) → IsBlockFirst (writing.stmt (parts_of_stmt writing x)) → ⊥
  own-listed (layer.Local true t name value at) h c = cc h
  own-listed (layer.Local false (TypeOf t) name value at) h c = c 0 (writing.stmt (parts_of_stmt writing (layer.Local false (TypeOf t) name value at))) (omega arith)
  own-listed (layer.Local false (Var place) name value at) h c = cc h
  own-listed (layer.Assign target op value at) h c = c 0 (writing.stmt (parts_of_stmt writing (layer.Assign target op value at))) (omega arith)
  own-listed (layer.Ignore value at) h c = cc h
  own-listed (layer.Rhs value at) h c = c 0 (writing.stmt (parts_of_stmt writing (layer.Rhs value at))) (omega arith)
  own-listed (layer.«Stmt::If» s) h c = cc h
  own-listed (layer.While condition body at) h c = cc h
  own-listed (layer.Foreach t name from range body at) h c = cc h
  own-listed (layer.Match value clauses at) h c = cc h
  own-listed (layer.Return value at) h c = cc h
  own-listed (layer.Panic value at) h c = cc h
  own-listed (layer.Break at) h c = cc h
  own-listed (layer.Continue at) h c = cc h
  own-listed (layer.«Stmt::Block» b) h c = cc h

  -- what a statement that leads says of its tokens
  led-fits : (a : Form) (xs ks : Kinds) → is_led a ≡ true → Fits a xs ks → (leads xs ≡ true) × (led xs ≡ Some ks)
  led-fits (by_first f) xs ks h p = cc h
  led-fits (by_mark m) xs ks h p = (p.0, p.2)

  empty-first : (p : Pieces) (ks ls : Kinds) → Behind ks → leads (onto p ls) ≡ true → led (onto p ls) ≡ Some ls → SignKind OpenBrace ∷ SignKind CloseBrace ∷ ks ≡ onto p ls → IsBlockFirst p
  empty-first p ks ls r leads-p led-p e =
      let goes : goes_on ks ≡ true = ap leads e ∙ leads-p in
      let s = r.stmt goes in
      let here : led (onto (stmt_pieces s.0) s.1) ≡ Some s.1 = led-of known s.0 s.1 s.2 (ap goes_on (sym s.3) ∙ goes) in
      let end : semicolon 0 (onto (stmt_pieces s.0) s.1) ≡ Some s.1 = led-end (onto (stmt_pieces s.0) s.1) s.1 here in
      let whole : semicolon 0 (SignKind OpenBrace ∷ SignKind CloseBrace ∷ ks) ≡ Some ls = ap (semicolon 0) e ∙ led-end (onto p ls) ls led-p in
      let both : Some s.1 ≡ Some ls = sym end ∙ ap (semicolon 0) (sym s.3) ∙ whole in
      let same : s.1 ≡ ls = cc both in
      (s.0, s.2, same-kinds p (sign OpenBrace & sign CloseBrace & stmt_pieces s.0) ls s.1 (sym same) (sym e ∙ ap (λ z. SignKind OpenBrace ∷ SignKind CloseBrace ∷ z) s.3))

  braces-first : (ss : List Stmt) (p : Pieces) (ks ls : Kinds) → are_formed (map stmt_is_formed ss) ≡ true → Behind ks → leads (onto p ls) ≡ true → led (onto p ls) ≡ Some ls → SignKind OpenBrace ∷ onto (joined (map stmt_pieces ss)) (SignKind CloseBrace ∷ ks) ≡ onto p ls → IsBlockFirst p
  braces-first [] p ks ls f r leads-p led-p e = empty-first p ks ls r leads-p led-p e
  braces-first (s ∷ ss) p ks ls f r leads-p led-p e =
      let b = both_pass (stmt_is_formed s) (are_formed (map stmt_is_formed ss)) f in
      let none = (stmt-law known s b.0).no_mapping (onto (joined (map stmt_pieces ss)) (SignKind CloseBrace ∷ ks)) in
      absurd (false≢true (sym none ∙ ap leads e ∙ leads-p))

  abbrev IsNoMapping : Block → Type 0
  IsNoMapping b = (x : AStmtLayer) (ks ls : Kinds) → block_is_formed b ≡ true → forming.stmt (parts_of_stmt forming x) ≡ true → AreChosen (listing.stmt (parts_of_stmt listing x)) → is_led (form x) ≡ true → Behind ks → onto (block_pieces b) ks ≡ onto (writing.stmt (parts_of_stmt writing x)) ls → ⊥

  -- a block is no statement that is chosen and leads
  pub no-mapping : (b : Block) → IsNoMapping b
  no-mapping b = subst IsNoMapping (roll-out-Block b) (at (out-Block b))
    where
      at : (y : Block-F Else Stmt Block Clause IfStmt) → IsNoMapping (roll-Block y)
      at y x ks ls f g c h r e =
          let l = led-fits (form x) (onto (writing.stmt (parts_of_stmt writing x)) ls) ls h (fits known x ls g) in
          own-listed x h c
          (braces-first y.stmts.items (writing.stmt (parts_of_stmt writing x)) ks ls (sym (rolled-block forming y) ∙ f) r l.0 l.1
          (ap (λ p. onto p ks) (sym (rolled-block writing y)) ∙ e))
