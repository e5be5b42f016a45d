-- The law at every statement, by induction.
use Rattle.std.proofs.Common.{◌≡◌, ℕ, zero, suc, ◌<◌, ◌≤◌, Bool, true, false, ◌&&◌, List, [], ◌∷◌, map, length, Option, None, Some, refl, sym, ap, ◌∙◌, subst, arith, inl, inr}
use Rattle.std.specs.Global.{Box}
use Rattle.std.specs.Prelude.{is_some, not, nat_le, if◌then◌else◌, ◌⊎◌}
use Rattle.std.proofs.lemmas.Bool.{false≢true, cases_Bool, leb-true}
use Rattle.bal_base.specs.declared.token.TokenKind.TheVariants.{Keyword as KeywordKind, Sign as SignKind}
use Rattle.bal_base.specs.declared.token.Keyword.TheVariants.{If as IfKey, Else as ElseKey, While as WhileKey, Match as MatchKey, In as InKey, Worker as WorkerKey}
use Rattle.bal_base.specs.declared.token.Sign.TheVariants.{OpenBrace, CloseBrace, FatArrow, Bar}
use Rattle.bal_tree.specs.declared.stmt.LocalType.TheVariants.{«Type» as TypeOf, Var}
use Rattle.bal_tree.specs.declared.stmt.Else.TheOpen as layer
use Rattle.bal_tree.specs.declared.stmt.Else.{Else, Else-F, roll-Else, map-Else}
use Rattle.bal_tree.specs.declared.stmt.Stmt.{Stmt, Stmt-F, roll-Stmt, map-Stmt, ind-Stmt}
use Rattle.bal_tree.specs.declared.stmt.Block.{Block, Block-F, roll-Block, map-Block, ind-Block}
use Rattle.bal_tree.specs.declared.stmt.Clause.{Clause, Clause-F, roll-Clause, map-Clause, ind-Clause}
use Rattle.bal_tree.specs.declared.stmt.IfStmt.{IfStmt, IfStmt-F, roll-IfStmt, map-IfStmt, ind-IfStmt}
use Rattle.bal_tree.specs.ActionRules.{has_members, rhs_is_formed}
use Rattle.bal_tree.specs.declared.expr.Expr.{Expr}
use Rattle.parse_expr.specs.Reaches.{expr}
use Rattle.bal_tree.specs.ExprPieces.{expr_pieces}
use Rattle.bal_tree.specs.ExprRules.{expr_is_formed}
use Rattle.bal_tree.specs.Pieces.{Pieces, ◌&◌, starts, key, sign, if_there, joined, separated}
use Rattle.bal_tree.specs.Spells.{onto}
use Rattle.bal_tree.specs.StmtLayers.{of_else, of_stmt, of_block, of_clause, of_if_stmt}
use Rattle.bal_tree.specs.NamePieces.{word_pieces}
use Rattle.bal_tree.specs.StmtPieces.{writing, local_type_pieces, range_pieces, stmt_pieces, else_pieces, if_pieces, block_pieces, clause_pieces, foreach_head as foreach_pieces, pattern_pieces}
use Rattle.bal_tree.specs.StmtRules.{forming, stmt_is_formed, else_is_formed, if_is_formed, block_is_formed, clause_is_formed, are_formed, local_type_is_formed, target_is_formed, range_is_formed, value_is_formed, stands_alone}
use Rattle.parse_types.specs.Loops.{◌>>=◌, many, or_else}
use Rattle.token_steps.specs.Tokens.{Kinds, take_key, take_sign}
use Rattle.parse_types.proofs.Going.{many-stops, many-goes}
use Rattle.parse_types.proofs.Law.{both_pass}
use Rattle.parse_types.proofs.Onto.{onto-longer}
use Rattle.parse_stmt.specs.Reaches.{begins_mapping, block, brace_stmt, clause, clauses, clauses as clauses_of, goes_on, is_followed, led, may_be_mapping, foreach_head, else_behind, else_if_there, else_or, if_or_block, if_stmt, inside, no_more, stmt}
use Rattle.parse_stmt.specs.Ahead.{semicolon}
use Rattle.parse_stmt.proofs.Going.{Ready, StepAt, StmtAt, StmtsAt, block-is, close-ready, just, no_more-passes, one-stmt, semicolon-less, stmts-close, stmts-go}
use Rattle.parse_stmt.proofs.LedLaw.{led-end}
use Rattle.parse_stmt.proofs.Known.{Known}
use Rattle.parse_stmt.proofs.PlainLaw.{alone-stmt, assign-stmt, break-stmt, continue-stmt, declared-stmt, final-stmt, foreach-law, ignore-stmt, panic-stmt, patterns-law, return-stmt, var-stmt}
use Rattle.parse_stmt.proofs.StmtRolls.{parts_of_else, parts_of_stmt, parts_of_block, parts_of_clause, parts_of_if_stmt, rolled-else, rolled-stmt, rolled-block, rolled-clause, rolled-if_stmt}

-- ---- what is claimed of each kind of tree: `p` are its pieces

-- it was read, and no more is left than this
pub record Reaches (o : Option Kinds) (ks : Kinds) : Type 0 where
  pub left : Kinds
  pub is : o ≡ Some left
  pub no_more : length left ≤ length ks

-- what is read exactly is so
reads-reach : (o : Option Kinds) (ks : Kinds) → o ≡ Some ks → Reaches o ks
reads-reach o ks e = record { left = ks; is = e; no_more = omega arith }

-- no mapping begins behind the brace, or its own brace is all that stands before what follows
abbrev BeginsMapping : Kinds → Kinds → Type 0
BeginsMapping zs ks = (begins_mapping zs ≡ false) ⊎ (zs ≡ SignKind CloseBrace ∷ ks)

pub record BlockAt (p : Pieces) : Type 0 where
  pub reads : (n : ℕ) (ks : Kinds) → length (onto p ks) ≤ n → block (inside n) (onto p ks) ≡ Some ks
  pub opens : (ks : Kinds) → (zs : Kinds) × ((onto p ks ≡ SignKind OpenBrace ∷ zs) × (Ready ks → begins_mapping zs ≡ false))
  pub begins : (ks : Kinds) → BeginsMapping (opens ks).0 ks
  pub longer : (ks : Kinds) → length ks < length (onto p ks)

pub record IfAt (p : Pieces) : Type 0 where
  pub reads : (n : ℕ) (ks : Kinds) → length (onto p ks) ≤ n → take_key ElseKey ks ≡ None → if_stmt (inside n) (onto p ks) ≡ Some ks
  pub reaches : (n : ℕ) (ks : Kinds) → length (onto p ks) ≤ n → Reaches (if_stmt (inside n) (onto p ks)) ks
  pub opens : (ks : Kinds) → (zs : Kinds) × (onto p ks ≡ KeywordKind IfKey ∷ zs)
  pub longer : (ks : Kinds) → length ks < length (onto p ks)

pub record ElseAt (p : Pieces) : Type 0 where
  pub reads : (n : ℕ) (ks : Kinds) → length (onto p ks) < n → take_key ElseKey ks ≡ None → else_behind (inside n) (onto p ks) ≡ Some ks
  pub reaches : (n : ℕ) (ks : Kinds) → length (onto p ks) < n → Reaches (else_behind (inside n) (onto p ks)) ks

pub record ClauseAt (p : Pieces) : Type 0 where
  pub reads : (n : ℕ) (ks : Kinds) → length (onto p ks) ≤ n → clause (inside n) (onto p ks) ≡ Some ks
  pub longer : (ks : Kinds) → length ks < length (onto p ks)

-- ---- a block or an if statement inside another one

pub inside-block : (p : Pieces) → BlockAt p → (n : ℕ) (ks : Kinds) → length (onto p ks) < n → inside n false (onto p ks) ≡ Some ks
inside-block p at zero ks fits = absurd (omega arith)
inside-block p at (suc n) ks fits = let longer = onto-longer p ks in ap (no_more (onto p ks)) (at.reads n ks (omega arith)) ∙ no_more-passes (onto p ks) ks longer

inside-if : (p : Pieces) → IfAt p → (n : ℕ) (ks : Kinds) → length (onto p ks) < n → take_key ElseKey ks ≡ None → inside n true (onto p ks) ≡ Some ks
inside-if p at zero ks fits e = absurd (omega arith)
inside-if p at (suc n) ks fits e = let longer = onto-longer p ks in ap (no_more (onto p ks)) (at.reads n ks (omega arith) e) ∙ no_more-passes (onto p ks) ks longer

reaching-if : (p : Pieces) → IfAt p → (n : ℕ) (ks : Kinds) → length (onto p ks) < n → Reaches (inside n true (onto p ks)) ks
reaching-if p at zero ks fits = absurd (omega arith)
reaching-if p at (suc n) ks fits =
    let longer = onto-longer p ks in
    let r = at.reaches n ks (omega arith) in
    let less = r.no_more in
    record { left = r.left; is = ap (no_more (onto p ks)) r.is ∙ no_more-passes (onto p ks) r.left (omega arith); no_more = r.no_more }

-- ---- a block as a statement, whatever stands behind it

-- empty braces with which a mapping begins: the statement goes on behind them, where it reads
mapping-step : (n : ℕ) (ks : Kinds) → begins_mapping (SignKind CloseBrace ∷ ks) ≡ true → inside n false (SignKind OpenBrace ∷ SignKind CloseBrace ∷ ks) ≡ Some ks → StepAt n (SignKind OpenBrace ∷ SignKind CloseBrace ∷ ks) ks
mapping-step n ks is as_block = by (led (SignKind OpenBrace ∷ SignKind CloseBrace ∷ ks)) refl
  where
    read : (o : Option Kinds) → led (SignKind OpenBrace ∷ SignKind CloseBrace ∷ ks) ≡ o → stmt (inside n) (SignKind OpenBrace ∷ SignKind CloseBrace ∷ ks) ≡ or_else o (Some ks)
    read o e =
        ap (λ b. brace_stmt (inside n) b (SignKind OpenBrace ∷ SignKind CloseBrace ∷ ks)) is
        ∙ ap (λ p. or_else p (inside n false (SignKind OpenBrace ∷ SignKind CloseBrace ∷ ks))) e ∙ ap (or_else o) as_block

    no-led : (o : Option Kinds) → not (is_some o) ≡ true → o ≡ None
    no-led None h = refl
    no-led (Some a) h = cc h

    by : (o : Option Kinds) → led (SignKind OpenBrace ∷ SignKind CloseBrace ∷ ks) ≡ o → StepAt n (SignKind OpenBrace ∷ SignKind CloseBrace ∷ ks) ks
    by None e = just n (SignKind OpenBrace ∷ SignKind CloseBrace ∷ ks) ks (read None e)
    by (Some left) e =
        let b = both_pass (goes_on ks) (not (is_some (led ks))) is in
        let end : semicolon 0 (SignKind OpenBrace ∷ SignKind CloseBrace ∷ ks) ≡ Some left = led-end (SignKind OpenBrace ∷ SignKind CloseBrace ∷ ks) left e in
        let less = semicolon-less 0 ks left end in
        record {
          left = left;
          is = read (Some left) e;
          ends = inr (inr (inl record { braces = refl; longer = less; goes = b.0; no_stmt = no-led (led ks) b.1 }));
        }

brace-step : (n : ℕ) (p : Pieces) → BlockAt p → (ks zs : Kinds) → onto p ks ≡ SignKind OpenBrace ∷ zs → BeginsMapping zs ks → length (onto p ks) < n → StepAt n (onto p ks) ks
brace-step n p at ks zs opens (inl other) fits =
    just n (onto p ks) ks
    (ap (stmt (inside n)) opens ∙ ap (λ b. brace_stmt (inside n) b (SignKind OpenBrace ∷ zs)) other ∙ ap (inside n false) (sym opens) ∙ inside-block p at n ks fits)
brace-step n p at ks zs opens (inr empty) fits = subst (λ xs. StepAt n xs ks) (sym braces) (test (begins_mapping (SignKind CloseBrace ∷ ks)) refl)
  where
    braces : onto p ks ≡ SignKind OpenBrace ∷ SignKind CloseBrace ∷ ks
    braces = opens ∙ ap (λ ys. SignKind OpenBrace ∷ ys) empty

    as-block : inside n false (SignKind OpenBrace ∷ SignKind CloseBrace ∷ ks) ≡ Some ks
    as-block = ap (inside n false) (sym braces) ∙ inside-block p at n ks fits

    test : (b : Bool) → begins_mapping (SignKind CloseBrace ∷ ks) ≡ b → StepAt n (SignKind OpenBrace ∷ SignKind CloseBrace ∷ ks) ks
    test true is = mapping-step n ks is as-block
    test false is =
        just n (SignKind OpenBrace ∷ SignKind CloseBrace ∷ ks) ks
        (ap (λ b. brace_stmt (inside n) b (SignKind OpenBrace ∷ SignKind CloseBrace ∷ ks)) is ∙ as-block)

block-stmt : (p : Pieces) → BlockAt p → StmtAt p
block-stmt p at = record {
  goes = λ n ks fits r.
      let o = at.opens ks in
      many-goes length (stmt (inside n)) (onto p ks) ks
      (ap (stmt (inside n)) o.1.0 ∙ ap (λ b. brace_stmt (inside n) b (SignKind OpenBrace ∷ o.0)) (o.1.1 r) ∙ ap (inside n false) (sym o.1.0) ∙ inside-block p at n ks fits)
      (at.longer ks);
  step = λ n ks fits. let o = at.opens ks in brace-step n p at ks o.0 o.1.0 (at.begins ks) fits;
  ready = λ ks. let o = at.opens ks in subst Ready (sym o.1.0) record { no_else = refl; of_its_own = λ h. cc h };
  no_mapping = λ ks. let o = at.opens ks in ap may_be_mapping o.1.0;
  no_worker = λ ks. let o = at.opens ks in ap (take_key WorkerKey) o.1.0;
}

-- ---- clauses, one behind the other

abbrev ClausesAt : List Pieces → Type 0
ClausesAt [] = Unit {0}
ClausesAt (p ∷ ps) = ClauseAt p × ClausesAt ps

clauses-go : (n : ℕ) (ps : List Pieces) (ks : Kinds) → ClausesAt ps → length (onto (joined ps) (SignKind CloseBrace ∷ ks)) ≤ n → many length (clause (inside n)) (onto (joined ps) (SignKind CloseBrace ∷ ks)) ≡ SignKind CloseBrace ∷ ks
clauses-go n [] ks all fits = many-stops length (clause (inside n)) (SignKind CloseBrace ∷ ks) refl
clauses-go n (p ∷ ps) ks all fits =
    let zs = onto (joined ps) (SignKind CloseBrace ∷ ks) in
    let longer = all.0.longer zs in
    many-goes length (clause (inside n)) (onto p zs) zs (all.0.reads n zs fits) longer ∙ clauses-go n ps ks all.1 (omega arith)

clauses-law : (n : ℕ) (p : Pieces) (ps : List Pieces) (ks : Kinds) → ClauseAt p → ClausesAt ps → length (onto (joined (p ∷ ps)) (SignKind CloseBrace ∷ ks)) ≤ n → clauses (inside n) (onto (joined (p ∷ ps)) (SignKind CloseBrace ∷ ks)) ≡ Some (SignKind CloseBrace ∷ ks)
clauses-law n p ps ks one all fits =
    let zs = onto (joined ps) (SignKind CloseBrace ∷ ks) in
    let longer = one.longer zs in
    ap (λ o. o >>= λ a. Some (many length (clause (inside n)) a)) (one.reads n zs fits) ∙ ap Some (clauses-go n ps ks all (omega arith))

-- ---- a block as a statement

-- no mapping begins with its brace, where what follows lets it stand alone
no-mapping : (ks : Kinds) → Ready ks → begins_mapping (SignKind CloseBrace ∷ ks) ≡ false
no-mapping ks r = test (goes_on ks) refl
  where
    test : (b : Bool) → goes_on ks ≡ b → (goes_on ks && not (is_some (led ks))) ≡ false
    test true e = ap (λ c. c && not (is_some (led ks))) e ∙ ap not (r.of_its_own e)
    test false e = ap (λ c. c && not (is_some (led ks))) e

block-opens : (ps : List Pieces) (ks : Kinds) → StmtsAt ps → Ready ks → begins_mapping (onto (joined ps) (SignKind CloseBrace ∷ ks)) ≡ false
block-opens [] ks all r = no-mapping ks r
block-opens (p ∷ ps) ks all r =
    let xs = onto p (onto (joined ps) (SignKind CloseBrace ∷ ks)) in
    ap (λ c. c && not (is_followed xs)) (all.0.no_mapping (onto (joined ps) (SignKind CloseBrace ∷ ks)))

block-begins : (ps : List Pieces) (ks : Kinds) → StmtsAt ps → BeginsMapping (onto (joined ps) (SignKind CloseBrace ∷ ks)) ks
block-begins [] ks all = inr refl
block-begins (p ∷ ps) ks all =
    let xs = onto p (onto (joined ps) (SignKind CloseBrace ∷ ks)) in
    inl (ap (λ c. c && not (is_followed xs)) (all.0.no_mapping (onto (joined ps) (SignKind CloseBrace ∷ ks))))

-- ---- what stands behind `else`, where it is there, is passed over

else-stays : (n : ℕ) (ks a : Kinds) (o : Option Kinds) → length a ≤ length ks → ((b : Kinds) → o ≡ Some b → length b ≤ length a) → Reaches (or_else o (Some ks)) ks
else-stays n ks a None h less = record { left = ks; is = refl; no_more = omega arith }
else-stays n ks a (Some b) h less = record { left = b; is = refl; no_more = let l = less b refl in omega arith }

inside-less : (n : ℕ) (is_if : Bool) (ks b : Kinds) → inside n is_if ks ≡ Some b → length b ≤ length ks
inside-less zero is_if ks b e = cc e
inside-less (suc n) is_if ks b e = by (if_or_block (inside n) is_if ks) e
  where
    by : (o : Option Kinds) → no_more ks o ≡ Some b → length b ≤ length ks
    by None e = cc e
    by (Some a) e =
        elim (cases_Bool (nat_le (length a) (length ks))) [
          | inl below ↦ let same : Some a ≡ Some b = sym (ap (λ c. if c then Some a else None) below) ∙ e in let is : a ≡ b = cc same in let size = ap length is in let le = leb-true (length a) (length ks) below in omega arith
          | inr above ↦ let bad : None ≡ Some b = sym (ap (λ c. if c then Some a else None) above) ∙ e in cc bad
        ]

else-if-reaches : (n : ℕ) (ks : Kinds) → Reaches (else_if_there (inside n) ks) ks
else-if-reaches n [] = record { left = []; is = refl; no_more = omega arith }
else-if-reaches n (KeywordKind ElseKey ∷ ks) = else-stays n (KeywordKind ElseKey ∷ ks) ks (else_behind (inside n) ks) (omega arith) (λ b e. inside-less n (is_some (take_key IfKey ks)) ks b e)
else-if-reaches n (KeywordKind k ∷ ks) = record { left = KeywordKind k ∷ ks; is = refl; no_more = omega arith }
else-if-reaches n (k ∷ ks) = record { left = k ∷ ks; is = refl; no_more = omega arith }

-- ---- the claims

abbrev ClaimElse : Else → Type 0
ClaimElse t = else_is_formed t ≡ true → ElseAt (else_pieces t)

abbrev ClaimStmt : Stmt → Type 0
ClaimStmt t = stmt_is_formed t ≡ true → StmtAt (stmt_pieces t)

abbrev ClaimBlock : Block → Type 0
ClaimBlock t = block_is_formed t ≡ true → BlockAt (block_pieces t)

abbrev ClaimClause : Clause → Type 0
ClaimClause t = clause_is_formed t ≡ true → ClauseAt (clause_pieces t)

abbrev ClaimIf : IfStmt → Type 0
ClaimIf t = if_is_formed t ≡ true → IfAt (if_pieces t)

-- a tree of which it is known
abbrev AnElse : Type 0
AnElse = (t : Else) × ClaimElse t

abbrev AStmt : Type 0
AStmt = (t : Stmt) × ClaimStmt t

abbrev ABlock : Type 0
ABlock = (t : Block) × ClaimBlock t

abbrev AClause : Type 0
AClause = (t : Clause) × ClaimClause t

abbrev AnIf : Type 0
AnIf = (t : IfStmt) × ClaimIf t

stmts-at : (xs : List AStmt) → are_formed (map stmt_is_formed (map (λ e. e.0) xs)) ≡ true → StmtsAt (map stmt_pieces (map (λ e. e.0) xs))
stmts-at [] h = tt
stmts-at (x ∷ xs) h =
    let b = both_pass (stmt_is_formed x.0) (are_formed (map stmt_is_formed (map (λ e. e.0) xs))) h in
    (x.1 b.0, stmts-at xs b.1)

clauses-at : (xs : List AClause) → are_formed (map clause_is_formed (map (λ e. e.0) xs)) ≡ true → ClausesAt (map clause_pieces (map (λ e. e.0) xs))
clauses-at [] h = tt
clauses-at (x ∷ xs) h =
    let b = both_pass (clause_is_formed x.0) (are_formed (map clause_is_formed (map (λ e. e.0) xs))) h in
    (x.1 b.0, clauses-at xs b.1)

-- ---- one layer of a tree, of whose parts it is known

abbrev firsts_of_else : Else-F AnElse AStmt ABlock AClause AnIf → Else-F Else Stmt Block Clause IfStmt
firsts_of_else = map-Else AnElse AStmt ABlock AClause AnIf Else Stmt Block Clause IfStmt (λ e. e.0) (λ e. e.0) (λ e. e.0) (λ e. e.0) (λ e. e.0)

abbrev Layer_else : Else-F AnElse AStmt ABlock AClause AnIf → Type 0
Layer_else y = forming.else (parts_of_else forming (firsts_of_else y)) ≡ true → ElseAt (writing.else (parts_of_else writing (firsts_of_else y)))

abbrev firsts_of_stmt : Stmt-F AnElse AStmt ABlock AClause AnIf → Stmt-F Else Stmt Block Clause IfStmt
firsts_of_stmt = map-Stmt AnElse AStmt ABlock AClause AnIf Else Stmt Block Clause IfStmt (λ e. e.0) (λ e. e.0) (λ e. e.0) (λ e. e.0) (λ e. e.0)

abbrev Layer_stmt : Stmt-F AnElse AStmt ABlock AClause AnIf → Type 0
Layer_stmt y = forming.stmt (parts_of_stmt forming (firsts_of_stmt y)) ≡ true → StmtAt (writing.stmt (parts_of_stmt writing (firsts_of_stmt y)))

abbrev firsts_of_block : Block-F AnElse AStmt ABlock AClause AnIf → Block-F Else Stmt Block Clause IfStmt
firsts_of_block = map-Block AnElse AStmt ABlock AClause AnIf Else Stmt Block Clause IfStmt (λ e. e.0) (λ e. e.0) (λ e. e.0) (λ e. e.0) (λ e. e.0)

abbrev Layer_block : Block-F AnElse AStmt ABlock AClause AnIf → Type 0
Layer_block y = forming.block (parts_of_block forming (firsts_of_block y)) ≡ true → BlockAt (writing.block (parts_of_block writing (firsts_of_block y)))

abbrev firsts_of_clause : Clause-F AnElse AStmt ABlock AClause AnIf → Clause-F Else Stmt Block Clause IfStmt
firsts_of_clause = map-Clause AnElse AStmt ABlock AClause AnIf Else Stmt Block Clause IfStmt (λ e. e.0) (λ e. e.0) (λ e. e.0) (λ e. e.0) (λ e. e.0)

abbrev Layer_clause : Clause-F AnElse AStmt ABlock AClause AnIf → Type 0
Layer_clause y = forming.clause (parts_of_clause forming (firsts_of_clause y)) ≡ true → ClauseAt (writing.clause (parts_of_clause writing (firsts_of_clause y)))

abbrev firsts_of_if_stmt : IfStmt-F AnElse AStmt ABlock AClause AnIf → IfStmt-F Else Stmt Block Clause IfStmt
firsts_of_if_stmt = map-IfStmt AnElse AStmt ABlock AClause AnIf Else Stmt Block Clause IfStmt (λ e. e.0) (λ e. e.0) (λ e. e.0) (λ e. e.0) (λ e. e.0)

abbrev Layer_if_stmt : IfStmt-F AnElse AStmt ABlock AClause AnIf → Type 0
Layer_if_stmt y = forming.if_stmt (parts_of_if_stmt forming (firsts_of_if_stmt y)) ≡ true → IfAt (writing.if_stmt (parts_of_if_stmt writing (firsts_of_if_stmt y)))

module _ (known : Known) where
  else-layer : (y : Else-F AnElse AStmt ABlock AClause AnIf) → Layer_else y
  else-layer (layer.«Else::If» s) h = record {
    reads = λ n ks fits e.
        let at = s.1 (both_pass (if_is_formed s.0) true h).0 in
        let o = at.opens ks in
        ap (λ b. inside n b (onto (if_pieces s.0) ks)) (ap (λ xs. is_some (take_key IfKey xs)) o.1) ∙ inside-if (if_pieces s.0) at n ks fits e;
    reaches = λ n ks fits.
        let at = s.1 (both_pass (if_is_formed s.0) true h).0 in
        let o = at.opens ks in
        let r = reaching-if (if_pieces s.0) at n ks fits in
        record { left = r.left; is = ap (λ b. inside n b (onto (if_pieces s.0) ks)) (ap (λ xs. is_some (take_key IfKey xs)) o.1) ∙ r.is; no_more = r.no_more };
  }
  else-layer (layer.«Else::Block» b) h = record {
    reads = λ n ks fits e.
        let at = b.1 (both_pass (block_is_formed b.0) true h).0 in
        let o = at.opens ks in
        ap (λ c. inside n c (onto (block_pieces b.0) ks)) (ap (λ xs. is_some (take_key IfKey xs)) o.1.0) ∙ inside-block (block_pieces b.0) at n ks fits;
    reaches = λ n ks fits.
        let at = b.1 (both_pass (block_is_formed b.0) true h).0 in
        let o = at.opens ks in
        reads-reach (else_behind (inside n) (onto (block_pieces b.0) ks)) ks
        (ap (λ c. inside n c (onto (block_pieces b.0) ks)) (ap (λ xs. is_some (take_key IfKey xs)) o.1.0) ∙ inside-block (block_pieces b.0) at n ks fits);
  }

  block-layer : (y : Block-F AnElse AStmt ABlock AClause AnIf) → Layer_block y
  block-layer y h =
      let ps = map stmt_pieces (map (λ e. e.0) y.stmts.items) in
      record {
        reads = λ n ks fits.
            let zs = SignKind CloseBrace ∷ ks in
            block-is (inside n) (onto (joined ps) zs)
            ∙ ap (take_sign CloseBrace) (stmts-go n ps zs (stmts-at y.stmts.items h) (omega arith) (close-ready ks) ∙ stmts-close (inside n) ks);
        opens = λ ks. (onto (joined ps) (SignKind CloseBrace ∷ ks), (refl, λ r. block-opens ps ks (stmts-at y.stmts.items h) r));
        begins = λ ks. block-begins ps ks (stmts-at y.stmts.items h);
        longer = λ ks. let l = onto-longer (joined ps) (SignKind CloseBrace ∷ ks) in omega arith;
      }

  clause-layer : (y : Clause-F AnElse AStmt ABlock AClause AnIf) → Layer_clause y
  clause-layer y h =
      let b = both_pass (has_members y.patterns.items) (block_is_formed y.body.0) h in
      let at = y.body.1 b.1 in
      let q = separated Bar (map pattern_pieces y.patterns.items) in
      record {
        reads = λ n ks fits.
            let body = onto (block_pieces y.body.0) ks in
            let l = onto-longer q (SignKind FatArrow ∷ body) in
            ap (λ o. o >>= take_sign FatArrow >>= inside n false) (patterns-law y.patterns.items body b.0) ∙ inside-block (block_pieces y.body.0) at n ks (omega arith);
        longer = λ ks. let l = onto-longer q (SignKind FatArrow ∷ onto (block_pieces y.body.0) ks) in let k = at.longer ks in omega arith;
      }

  -- a condition and a block
  pub before-block : (e : Expr) (p : Pieces) (ks : Kinds) → expr_is_formed e false ≡ true → BlockAt p → expr (onto (expr_pieces e) (onto p ks)) ≡ Some (onto p ks)
  before-block e p ks f at =
      let o = at.opens ks in
      ap (λ xs. expr (onto (expr_pieces e) xs)) o.1.0 ∙ known.expr_before e OpenBrace o.0 f refl ∙ ap Some (sym o.1.0)

  if-layer : (y : IfStmt-F AnElse AStmt ABlock AClause AnIf) → Layer_if_stmt y
  if-layer y h = record {
    reads = λ n ks fits e. reads n ks y.otherwise h fits e;
    reaches = λ n ks fits. reaches n ks y.otherwise h fits;
    opens = λ ks. (_, refl);
    longer = λ ks. longer ks y.otherwise h;
  }
    where
      reads : (n : ℕ) (ks : Kinds) (otherwise : Option (Box AnElse)) → forming.if_stmt (parts_of_if_stmt forming (firsts_of_if_stmt record { condition = y.condition; then = y.then; otherwise = otherwise; at = y.at })) ≡ true → length (onto (writing.if_stmt (parts_of_if_stmt writing (firsts_of_if_stmt record { condition = y.condition; then = y.then; otherwise = otherwise; at = y.at }))) ks) ≤ n → take_key ElseKey ks ≡ None → if_stmt (inside n) (onto (writing.if_stmt (parts_of_if_stmt writing (firsts_of_if_stmt record { condition = y.condition; then = y.then; otherwise = otherwise; at = y.at }))) ks) ≡ Some ks
      reads n ks None h fits e =
          let b = both_pass (expr_is_formed y.condition.value false) (block_is_formed y.then.0 && true) h in
          let at = y.then.1 (both_pass (block_is_formed y.then.0) true b.1).0 in
          let l = onto-longer (expr_pieces y.condition.value) (onto (block_pieces y.then.0) ks) in
          ap (λ o. o >>= inside n false >>= else_if_there (inside n)) (before-block y.condition.value (block_pieces y.then.0) ks b.0 at)
          ∙ ap (λ o. o >>= else_if_there (inside n)) (inside-block (block_pieces y.then.0) at n ks (omega arith)) ∙ ap (λ o. else_or (inside n) o ks) e
      reads n ks (Some s) h fits e =
          let b = both_pass (expr_is_formed y.condition.value false) (block_is_formed y.then.0 && (else_is_formed s.value.0 && true)) h in
          let c = both_pass (block_is_formed y.then.0) (else_is_formed s.value.0 && true) b.1 in
          let at = y.then.1 c.0 in
          let other = s.value.1 (both_pass (else_is_formed s.value.0) true c.1).0 in
          let zs = KeywordKind ElseKey ∷ onto (else_pieces s.value.0) ks in
          let l = onto-longer (expr_pieces y.condition.value) (onto (block_pieces y.then.0) zs) in
          let m = onto-longer (block_pieces y.then.0) zs in
          ap (λ o. o >>= inside n false >>= else_if_there (inside n)) (before-block y.condition.value (block_pieces y.then.0) zs b.0 at)
          ∙ ap (λ o. o >>= else_if_there (inside n)) (inside-block (block_pieces y.then.0) at n zs (omega arith)) ∙ ap (λ o. or_else o (Some zs)) (other.reads n ks (omega arith) e)

      reaches : (n : ℕ) (ks : Kinds) (otherwise : Option (Box AnElse)) → forming.if_stmt (parts_of_if_stmt forming (firsts_of_if_stmt record { condition = y.condition; then = y.then; otherwise = otherwise; at = y.at })) ≡ true → length (onto (writing.if_stmt (parts_of_if_stmt writing (firsts_of_if_stmt record { condition = y.condition; then = y.then; otherwise = otherwise; at = y.at }))) ks) ≤ n → Reaches (if_stmt (inside n) (onto (writing.if_stmt (parts_of_if_stmt writing (firsts_of_if_stmt record { condition = y.condition; then = y.then; otherwise = otherwise; at = y.at }))) ks)) ks
      reaches n ks None h fits =
          let b = both_pass (expr_is_formed y.condition.value false) (block_is_formed y.then.0 && true) h in
          let at = y.then.1 (both_pass (block_is_formed y.then.0) true b.1).0 in
          let l = onto-longer (expr_pieces y.condition.value) (onto (block_pieces y.then.0) ks) in
          let r = else-if-reaches n ks in
          record {
            left = r.left;
            is =
                ap (λ o. o >>= inside n false >>= else_if_there (inside n)) (before-block y.condition.value (block_pieces y.then.0) ks b.0 at)
                ∙ ap (λ o. o >>= else_if_there (inside n)) (inside-block (block_pieces y.then.0) at n ks (omega arith)) ∙ r.is;
            no_more = r.no_more;
          }
      reaches n ks (Some s) h fits =
          let b = both_pass (expr_is_formed y.condition.value false) (block_is_formed y.then.0 && (else_is_formed s.value.0 && true)) h in
          let c = both_pass (block_is_formed y.then.0) (else_is_formed s.value.0 && true) b.1 in
          let at = y.then.1 c.0 in
          let other = s.value.1 (both_pass (else_is_formed s.value.0) true c.1).0 in
          let zs = KeywordKind ElseKey ∷ onto (else_pieces s.value.0) ks in
          let l = onto-longer (expr_pieces y.condition.value) (onto (block_pieces y.then.0) zs) in
          let m = onto-longer (block_pieces y.then.0) zs in
          let r = other.reaches n ks (omega arith) in
          record {
            left = r.left;
            is =
                ap (λ o. o >>= inside n false >>= else_if_there (inside n)) (before-block y.condition.value (block_pieces y.then.0) zs b.0 at)
                ∙ ap (λ o. o >>= else_if_there (inside n)) (inside-block (block_pieces y.then.0) at n zs (omega arith)) ∙ ap (λ o. or_else o (Some zs)) r.is;
            no_more = r.no_more;
          }

      longer : (ks : Kinds) (otherwise : Option (Box AnElse)) → forming.if_stmt (parts_of_if_stmt forming (firsts_of_if_stmt record { condition = y.condition; then = y.then; otherwise = otherwise; at = y.at })) ≡ true → length ks < length (onto (writing.if_stmt (parts_of_if_stmt writing (firsts_of_if_stmt record { condition = y.condition; then = y.then; otherwise = otherwise; at = y.at }))) ks)
      longer ks None h =
          let l = onto-longer (expr_pieces y.condition.value) (onto (block_pieces y.then.0) ks) in
          let m = onto-longer (block_pieces y.then.0) ks in omega arith
      longer ks (Some s) h =
          let zs = KeywordKind ElseKey ∷ onto (else_pieces s.value.0) ks in
          let l = onto-longer (expr_pieces y.condition.value) (onto (block_pieces y.then.0) zs) in
          let m = onto-longer (block_pieces y.then.0) zs in
          let k = onto-longer (else_pieces s.value.0) ks in omega arith

  stmt-layer : (y : Stmt-F AnElse AStmt ABlock AClause AnIf) → Layer_stmt y
  stmt-layer (layer.Local true t name value at) h =
      let b = both_pass (local_type_is_formed t) (rhs_is_formed value) (both_pass (local_type_is_formed t && rhs_is_formed value) true h).0 in
      let s = final-stmt known t name value b.0 b.1 in
      record { goes = s.goes; step = s.step; ready = s.ready; no_mapping = s.no_mapping; no_worker = s.no_worker }
  stmt-layer (layer.Local false (TypeOf t) name value at) h =
      let b = both_pass (local_type_is_formed (TypeOf t)) (rhs_is_formed value) (both_pass (local_type_is_formed (TypeOf t) && rhs_is_formed value) true h).0 in
      let s = declared-stmt known t.value name value b.0 b.1 in
      record { goes = s.goes; step = s.step; ready = s.ready; no_mapping = s.no_mapping; no_worker = s.no_worker }
  stmt-layer (layer.Local false (Var place) name value at) h =
      let b = both_pass (rhs_is_formed value) true h in
      let s = var-stmt known place name value b.0 in
      record { goes = s.goes; step = s.step; ready = s.ready; no_mapping = s.no_mapping; no_worker = s.no_worker }
  stmt-layer (layer.Assign target op value at) h =
      let b = both_pass (target_is_formed target) (rhs_is_formed value) (both_pass (target_is_formed target && rhs_is_formed value) true h).0 in
      let s = assign-stmt known target op value b.0 b.1 in
      record { goes = s.goes; step = s.step; ready = s.ready; no_mapping = s.no_mapping; no_worker = s.no_worker }
  stmt-layer (layer.Ignore value at) h =
      let s = ignore-stmt known value (both_pass (rhs_is_formed value) true h).0 in
      record { goes = s.goes; step = s.step; ready = s.ready; no_mapping = s.no_mapping; no_worker = s.no_worker }
  stmt-layer (layer.Rhs value at) h =
      let b = both_pass (stands_alone value) (rhs_is_formed value) (both_pass (stands_alone value && rhs_is_formed value) true h).0 in
      let s = alone-stmt known value b.0 b.1 in
      record { goes = s.goes; step = s.step; ready = s.ready; no_mapping = s.no_mapping; no_worker = s.no_worker }
  stmt-layer (layer.«Stmt::If» s) h =
      let at = s.1 (both_pass (if_is_formed s.0) true h).0 in
      record {
        goes = λ n ks fits r.
            let o = at.opens ks in
            many-goes length (stmt (inside n)) (onto (if_pieces s.0) ks) ks (ap (stmt (inside n)) o.1 ∙ ap (if_stmt (inside n)) (sym o.1) ∙ at.reads n ks (omega arith) r.no_else) (at.longer ks);
        step = λ n ks fits.
            let o = at.opens ks in
            let r = at.reaches n ks (omega arith) in
            record { left = r.left; is = ap (stmt (inside n)) o.1 ∙ ap (if_stmt (inside n)) (sym o.1) ∙ r.is; ends = inr (inl (ap (λ xs. is_some (take_key IfKey xs)) o.1)) };
        ready = λ ks. let o = at.opens ks in subst Ready (sym o.1) record { no_else = refl; of_its_own = λ h. cc h };
        no_mapping = λ ks. let o = at.opens ks in ap may_be_mapping o.1;
        no_worker = λ ks. let o = at.opens ks in ap (take_key WorkerKey) o.1;
      }
  stmt-layer (layer.While condition body at) h =
      let b = both_pass (expr_is_formed condition.value false) (block_is_formed body.0 && true) h in
      let inner = body.1 (both_pass (block_is_formed body.0) true b.1).0 in
      let p = expr_pieces condition.value & block_pieces body.0 in
      let s = one-stmt (key WhileKey & p)
      (λ n ks fits.
      let l = onto-longer (expr_pieces condition.value) (onto (block_pieces body.0) ks) in
      ap (λ o. o >>= inside n false) (before-block condition.value (block_pieces body.0) ks b.0 inner) ∙ inside-block (block_pieces body.0) inner n ks (omega arith))
      (λ ks. let l = onto-longer p ks in omega arith)
      (λ ks. record { no_else = refl; of_its_own = λ h. cc h }) (λ ks. refl) (λ ks. refl) in
      record { goes = s.goes; step = s.step; ready = s.ready; no_mapping = s.no_mapping; no_worker = s.no_worker }
  stmt-layer (layer.Foreach t name from range body at) h =
      let b = both_pass (local_type_is_formed t && expr_is_formed from.value false && range_is_formed range) (block_is_formed body.0 && true) h in
      let c = both_pass (local_type_is_formed t && expr_is_formed from.value false) (range_is_formed range) b.0 in
      let d = both_pass (local_type_is_formed t) (expr_is_formed from.value false) c.0 in
      let inner = body.1 (both_pass (block_is_formed body.0) true b.1).0 in
      let p = foreach_pieces t name from.value range in
      let s = one-stmt (p & block_pieces body.0)
      (λ n ks fits.
      let o = inner.opens ks in
      let l = onto-longer (local_type_pieces t & word_pieces name & key InKey & expr_pieces from.value & if_there range_pieces range) (onto (block_pieces body.0) ks) in
      ap (λ xs. foreach_head (onto p xs) >>= inside n false) o.1.0 ∙ ap (λ q. q >>= inside n false) (foreach-law known t name from.value range o.0 d.0 d.1 c.1)
      ∙ ap (λ xs. inside n false xs) (sym o.1.0) ∙ inside-block (block_pieces body.0) inner n ks (omega arith))
      (λ ks. let l = onto-longer p (onto (block_pieces body.0) ks) in let k = inner.longer ks in omega arith)
      (λ ks. record { no_else = refl; of_its_own = λ h. cc h }) (λ ks. refl) (λ ks. refl) in
      record { goes = s.goes; step = s.step; ready = s.ready; no_mapping = s.no_mapping; no_worker = s.no_worker }
  stmt-layer (layer.Match value list at) h = of_clauses list.items h
    where
      of_clauses : (cs : List AClause) → ((expr_is_formed value.value false && has_members (map clause_is_formed (map (λ e. e.0) cs))) && are_formed (map clause_is_formed (map (λ e. e.0) cs))) ≡ true → StmtAt (starts at & key MatchKey & expr_pieces value.value & sign OpenBrace & joined (map clause_pieces (map (λ e. e.0) cs)) & sign CloseBrace)
      of_clauses [] h = absurd (false≢true ((both_pass (expr_is_formed value.value false) false (both_pass (expr_is_formed value.value false && false) true h).0).1))
      of_clauses (c ∷ cs) h =
          let b = both_pass (expr_is_formed value.value false && has_members (map clause_is_formed (map (λ e. e.0) (c ∷ cs)))) (are_formed (map clause_is_formed (map (λ e. e.0) (c ∷ cs)))) h in
          let f = both_pass (expr_is_formed value.value false) (has_members (map clause_is_formed (map (λ e. e.0) (c ∷ cs)))) b.0 in
          let d = both_pass (clause_is_formed c.0) (are_formed (map clause_is_formed (map (λ e. e.0) cs))) b.1 in
          let one = c.1 d.0 in
          let all = clauses-at cs d.1 in
          let q = joined (clause_pieces c.0 ∷ map clause_pieces (map (λ e. e.0) cs)) in
          let s = one-stmt (key MatchKey & expr_pieces value.value & sign OpenBrace & q & sign CloseBrace)
          (λ n ks fits.
          let zs = onto q (SignKind CloseBrace ∷ ks) in
          let l = onto-longer (expr_pieces value.value) (SignKind OpenBrace ∷ zs) in
          ap (λ o. o >>= take_sign OpenBrace >>= clauses_of (inside n) >>= take_sign CloseBrace) (known.expr_before value.value OpenBrace zs f.0 refl)
          ∙ ap (λ o. o >>= take_sign CloseBrace) (clauses-law n (clause_pieces c.0) (map clause_pieces (map (λ e. e.0) cs)) ks one all (omega arith)))
          (λ ks. let l = onto-longer (expr_pieces value.value) (SignKind OpenBrace ∷ onto q (SignKind CloseBrace ∷ ks)) in let k = onto-longer q (SignKind CloseBrace ∷ ks) in omega arith)
          (λ ks. record { no_else = refl; of_its_own = λ h. cc h }) (λ ks. refl) (λ ks. refl) in
          record { goes = s.goes; step = s.step; ready = s.ready; no_mapping = s.no_mapping; no_worker = s.no_worker }
  stmt-layer (layer.Return value at) h =
      let s = return-stmt known value (both_pass (value_is_formed value) true h).0 in
      record { goes = s.goes; step = s.step; ready = s.ready; no_mapping = s.no_mapping; no_worker = s.no_worker }
  stmt-layer (layer.Panic value at) h =
      let s = panic-stmt known value.value (both_pass (expr_is_formed value.value false) true h).0 in
      record { goes = s.goes; step = s.step; ready = s.ready; no_mapping = s.no_mapping; no_worker = s.no_worker }
  stmt-layer (layer.Break at) h = let s = break-stmt known in record { goes = s.goes; step = s.step; ready = s.ready; no_mapping = s.no_mapping; no_worker = s.no_worker }
  stmt-layer (layer.Continue at) h = let s = continue-stmt known in record { goes = s.goes; step = s.step; ready = s.ready; no_mapping = s.no_mapping; no_worker = s.no_worker }
  stmt-layer (layer.«Stmt::Block» b) h = block-stmt (block_pieces b.0) (b.1 (both_pass (block_is_formed b.0) true h).0)

  -- ---- the whole

  else-rolled : (x : Else-F Else Stmt Block Clause IfStmt) → (forming.else (parts_of_else forming x) ≡ true → ElseAt (writing.else (parts_of_else writing x))) → ClaimElse (roll-Else x)
  else-rolled x h = subst (λ b. b ≡ true → ElseAt (of_else writing (roll-Else x))) (sym (rolled-else forming x)) (subst (λ p. forming.else (parts_of_else forming x) ≡ true → ElseAt p) (sym (rolled-else writing x)) h)

  else-step : (x : Else-F Else Stmt Block Clause IfStmt) (y : Else-F AnElse AStmt ABlock AClause AnIf) → firsts_of_else y ≡ x → ClaimElse (roll-Else x)
  else-step x y is = subst (λ z. ClaimElse (roll-Else z)) is (else-rolled (firsts_of_else y) (else-layer y))

  stmt-rolled : (x : Stmt-F Else Stmt Block Clause IfStmt) → (forming.stmt (parts_of_stmt forming x) ≡ true → StmtAt (writing.stmt (parts_of_stmt writing x))) → ClaimStmt (roll-Stmt x)
  stmt-rolled x h = subst (λ b. b ≡ true → StmtAt (of_stmt writing (roll-Stmt x))) (sym (rolled-stmt forming x)) (subst (λ p. forming.stmt (parts_of_stmt forming x) ≡ true → StmtAt p) (sym (rolled-stmt writing x)) h)

  stmt-step : (x : Stmt-F Else Stmt Block Clause IfStmt) (y : Stmt-F AnElse AStmt ABlock AClause AnIf) → firsts_of_stmt y ≡ x → ClaimStmt (roll-Stmt x)
  stmt-step x y is = subst (λ z. ClaimStmt (roll-Stmt z)) is (stmt-rolled (firsts_of_stmt y) (stmt-layer y))

  block-rolled : (x : Block-F Else Stmt Block Clause IfStmt) → (forming.block (parts_of_block forming x) ≡ true → BlockAt (writing.block (parts_of_block writing x))) → ClaimBlock (roll-Block x)
  block-rolled x h = subst (λ b. b ≡ true → BlockAt (of_block writing (roll-Block x))) (sym (rolled-block forming x)) (subst (λ p. forming.block (parts_of_block forming x) ≡ true → BlockAt p) (sym (rolled-block writing x)) h)

  block-step : (x : Block-F Else Stmt Block Clause IfStmt) (y : Block-F AnElse AStmt ABlock AClause AnIf) → firsts_of_block y ≡ x → ClaimBlock (roll-Block x)
  block-step x y is = subst (λ z. ClaimBlock (roll-Block z)) is (block-rolled (firsts_of_block y) (block-layer y))

  clause-rolled : (x : Clause-F Else Stmt Block Clause IfStmt) → (forming.clause (parts_of_clause forming x) ≡ true → ClauseAt (writing.clause (parts_of_clause writing x))) → ClaimClause (roll-Clause x)
  clause-rolled x h = subst (λ b. b ≡ true → ClauseAt (of_clause writing (roll-Clause x))) (sym (rolled-clause forming x)) (subst (λ p. forming.clause (parts_of_clause forming x) ≡ true → ClauseAt p) (sym (rolled-clause writing x)) h)

  clause-step : (x : Clause-F Else Stmt Block Clause IfStmt) (y : Clause-F AnElse AStmt ABlock AClause AnIf) → firsts_of_clause y ≡ x → ClaimClause (roll-Clause x)
  clause-step x y is = subst (λ z. ClaimClause (roll-Clause z)) is (clause-rolled (firsts_of_clause y) (clause-layer y))

  if-rolled : (x : IfStmt-F Else Stmt Block Clause IfStmt) → (forming.if_stmt (parts_of_if_stmt forming x) ≡ true → IfAt (writing.if_stmt (parts_of_if_stmt writing x))) → ClaimIf (roll-IfStmt x)
  if-rolled x h = subst (λ b. b ≡ true → IfAt (of_if_stmt writing (roll-IfStmt x))) (sym (rolled-if_stmt forming x)) (subst (λ p. forming.if_stmt (parts_of_if_stmt forming x) ≡ true → IfAt p) (sym (rolled-if_stmt writing x)) h)

  if-step : (x : IfStmt-F Else Stmt Block Clause IfStmt) (y : IfStmt-F AnElse AStmt ABlock AClause AnIf) → firsts_of_if_stmt y ≡ x → ClaimIf (roll-IfStmt x)
  if-step x y is = subst (λ z. ClaimIf (roll-IfStmt z)) is (if-rolled (firsts_of_if_stmt y) (if-layer y))

  pub stmt-law : (t : Stmt) → stmt_is_formed t ≡ true → StmtAt (stmt_pieces t)
  stmt-law = ind-Stmt ClaimElse ClaimStmt ClaimBlock ClaimClause ClaimIf else-step stmt-step block-step clause-step if-step

  pub block-law : (t : Block) → block_is_formed t ≡ true → BlockAt (block_pieces t)
  block-law = ind-Block ClaimElse ClaimStmt ClaimBlock ClaimClause ClaimIf else-step stmt-step block-step clause-step if-step

  pub if-law : (t : IfStmt) → if_is_formed t ≡ true → IfAt (if_pieces t)
  if-law = ind-IfStmt ClaimElse ClaimStmt ClaimBlock ClaimClause ClaimIf else-step stmt-step block-step clause-step if-step

  pub clause-law : (t : Clause) → clause_is_formed t ≡ true → ClauseAt (clause_pieces t)
  clause-law = ind-Clause ClaimElse ClaimStmt ClaimBlock ClaimClause ClaimIf else-step stmt-step block-step clause-step if-step
