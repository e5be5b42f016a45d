-- What the tokens of an expression tell of it, in the words of the readers.
use Rattle.std.proofs.Common.{◌≡◌, ℕ, ◌+◌, ◌-◌, Bool, List, [], ◌++◌, length, take, Option, None, Some, refl, sym, ap, ◌∙◌, arith}
use Rattle.std.proofs.lemmas.List.{append-nil, length-append}
use Rattle.std.proofs.Math.Seq.{take-append_seam}
use Rattle.bal_base.specs.declared.token.TokenKind.{TokenKind}
use Rattle.bal_tree.specs.declared.expr.Expr.{Expr}
use Rattle.bal_tree.specs.ExprPieces.{expr_pieces}
use Rattle.bal_tree.specs.ExprRules.{expr_facts}
use Rattle.bal_tree.specs.Pieces.{Pieces, kinds}
use Rattle.bal_tree.specs.Spells.{onto}
use Rattle.bal_tree.proofs.Spelling.{onto-kinds}
use Rattle.token_steps.specs.Tokens.{Kinds}
use Rattle.parse_stmt.specs.Reaches.{begins_with_check}
use Rattle.parse_stmt.specs.Shapes.{Last, name_alone, other_alone, arguments_last, field_last, optional_last, index_last, operators, last_in, last_of, last_read, nothing_yet, shape, so_far}
use Rattle.parse_stmt.proofs.ExprsCalm.{Front, expr-calm}

-- the tokens before the rest
front-is : (p : Pieces) (ks : Kinds) → take (length (onto p ks) - length ks) (onto p ks) ≡ onto p []
front-is p ks =
    let whole = onto-kinds p ks in
    let size = ap length whole ∙ length-append (kinds p) ks in
    let at : length (onto p ks) - length ks ≡ length (kinds p) = omega arith in
    ap (λ n. take n (onto p ks)) at ∙ ap (take (length (kinds p))) whole ∙ take-append_seam (kinds p) ks ∙ sym (append-nil (kinds p)) ∙ sym (onto-kinds p [])

at-end : (l : Last) (xs : Kinds) → Front l (shape nothing_yet 0 xs) [] → last_in (shape nothing_yet 0 xs) ≡ l
at-end name_alone xs f = ap last_in f
at-end other_alone xs f = ap last_in f
at-end arguments_last xs f = ap last_in f
at-end field_last xs f = ap last_in f
at-end optional_last xs f = ap last_in f
at-end index_last xs f = ap last_in f
at-end operators xs f = f

pub last-law : (e : Expr) (ks : Kinds) → last_read (onto (expr_pieces e) ks) ks ≡ last_of e
unfolding last_read
last-law e ks = ap (λ xs. last_in (shape nothing_yet 0 xs)) (front-is (expr_pieces e) ks) ∙ at-end (last_of e) (onto (expr_pieces e) []) ((expr-calm e).front [])

pub checks-law : (e : Expr) (ks : Kinds) → begins_with_check (onto (expr_pieces e) ks) ≡ (expr_facts e).begins_with_check
checks-law e ks = (expr-calm e).checks ks
