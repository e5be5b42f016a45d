-- What the reader of statements takes is chosen: at empty braces it takes a mapping only where no statement of its own
-- stands behind them.
use Rattle.std.proofs.Common.{◌≡◌, ℕ, zero, suc, Bool, true, false, ◌&&◌, [], ◌∷◌, ◌++◌, length, Some, refl, sym, ap, ◌∙◌, arith}
use Rattle.std.specs.Prelude.{is_some, not}
use Rattle.std.proofs.lemmas.Bool.{false≢true}
use Rattle.std.proofs.lemmas.List.{length-append}
use Rattle.bal_base.specs.declared.token.TokenKind.TheVariants.{Sign as SignKind}
use Rattle.bal_base.specs.declared.token.Sign.TheVariants.{OpenBrace, CloseBrace}
use Rattle.bal_tree.specs.Pieces.{Pieces, kinds}
use Rattle.bal_tree.specs.Spells.{onto}
use Rattle.bal_tree.specs.StmtPieces.{stmt_pieces}
use Rattle.bal_tree.proofs.Spelling.{onto-kinds}
use Rattle.token_steps.specs.Tokens.{Kinds}
use Rattle.parse_types.proofs.Law.{both_pass}
use Rattle.parse_stmt.specs.Chosen.{IsBlockFirst}
use Rattle.parse_stmt.specs.Reaches.{begins_mapping, brace_stmt, goes_on, inside, led, stmt}
use Rattle.parse_stmt.specs.Starts.{ends_stmts}
use Rattle.parse_stmt.proofs.FormTree.{no-end}
use Rattle.parse_stmt.proofs.Going.{empty-block}
use Rattle.parse_stmt.proofs.Known.{Known}
use Rattle.parse_stmt.proofs.StmtLaw.{stmt-law}

-- whether a statement that begins with a type or an expression may be taken here
abbrev pub may_lead : Kinds → Bool
may_lead (SignKind OpenBrace ∷ ks) = begins_mapping ks
may_lead ks = true

pub is-chosen : (known : Known) (p : Pieces) (ks : Kinds) → may_lead (onto p ks) ≡ true → IsBlockFirst p → ⊥
is-chosen known p ks h (s, formed, e) =
    let zs = onto (stmt_pieces s) ks in
    let tokens : onto p ks ≡ SignKind OpenBrace ∷ SignKind CloseBrace ∷ zs =
    onto-kinds p ks ∙ ap (λ xs. xs ++ ks) e ∙ ap (λ xs. SignKind OpenBrace ∷ SignKind CloseBrace ∷ xs) (sym (onto-kinds (stmt_pieces s) ks)) in
    let here : (goes_on zs && not (is_some (led zs))) ≡ true = sym (ap may_lead tokens) ∙ h in
    let both = both_pass (goes_on zs) (not (is_some (led zs))) here in
    let own = ((stmt-law known s formed).ready ks).of_its_own both.0 in
    false≢true (sym (ap not own) ∙ both.1)

-- ---- a statement that was read

block-behind : (n : ℕ) (zs ks : Kinds) → inside n false (SignKind OpenBrace ∷ SignKind CloseBrace ∷ zs) ≡ Some ks → zs ≡ ks
block-behind zero zs ks e = cc e
block-behind (suc n) zs ks e = let same : Some zs ≡ Some ks = sym (empty-block (suc n) zs (omega arith)) ∙ e in cc same

no-kinds : (xs ks : Kinds) → xs ++ ks ≡ ks → xs ≡ []
no-kinds [] ks e = refl
no-kinds (x ∷ xs) ks e = absurd (let size = ap length e in let l = length-append xs ks in omega arith)

-- Were it a mapping before a statement of its own, the reader would have taken the braces as a block, and that statement
-- would be left.
pub own-chosen : (known : Known) (n : ℕ) (p : Pieces) (ks : Kinds) → stmt (inside n) (onto p ks) ≡ Some ks → IsBlockFirst p → ⊥
own-chosen known n p ks read first = test (begins_mapping (SignKind CloseBrace ∷ zs)) refl
  where
    q : Pieces
    q = stmt_pieces first.0

    zs : Kinds
    zs = onto q ks

    tokens : onto p ks ≡ SignKind OpenBrace ∷ SignKind CloseBrace ∷ zs
    tokens = onto-kinds p ks ∙ ap (λ xs. xs ++ ks) first.2 ∙ ap (λ xs. SignKind OpenBrace ∷ SignKind CloseBrace ∷ xs) (sym (onto-kinds q ks))

    test : (b : Bool) → begins_mapping (SignKind CloseBrace ∷ zs) ≡ b → ⊥
    test true is = is-chosen known p ks (ap may_lead tokens ∙ is) first
    test false is =
        let here : inside n false (SignKind OpenBrace ∷ SignKind CloseBrace ∷ zs) ≡ Some ks =
        sym (ap (λ b. brace_stmt (inside n) b (SignKind OpenBrace ∷ SignKind CloseBrace ∷ zs)) is) ∙ ap (stmt (inside n)) (sym tokens) ∙ read in
        let none = no-kinds (kinds q) ks (sym (onto-kinds q ks) ∙ block-behind n zs ks here) in
        no-end known first.0 [] first.1 (ap ends_stmts (onto-kinds q [] ∙ ap (λ xs. xs ++ []) none))
