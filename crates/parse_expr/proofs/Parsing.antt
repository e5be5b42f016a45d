-- The whole answer: the longest expression, that there is none, and an expression before what ends it.
use Rattle.std.proofs.Common.{◌≡◌, ℕ, ◌≤◌, Bool, true, false, List, length, Option, None, Some, Result, Ok, Err, IfOk, IfErr, Bor, refl, sym, ap, subst, ◌∙◌, arith}
use Rattle.std.specs.Global.{Box}
use Rattle.bal_base.specs.declared.stop.Stop.{Stop}
use Rattle.bal_base.specs.declared.stop.Stop.TheVariants.{Memory, Fault}
use Rattle.bal_base.specs.declared.token.Token.{Token}
use Rattle.bal_tree.specs.declared.expr.Expr.{Expr}
use Rattle.bal_tree.specs.ExprPieces.{expr_pieces}
use Rattle.bal_tree.specs.ExprRules.{expr_facts, expr_is_formed}
use Rattle.bal_tree.specs.Spells.{onto, kinds_of}
use Rattle.token_steps.specs.declared.steps.Missing.{Missing}
use Rattle.parse_types.specs.Starts.{Leaves, IfMissing}
use Rattle.token_steps.specs.Tokens.{Kinds}
use Rattle.parse_types.proofs.Follows.{closes-stay}
use Rattle.parse_types.proofs.Readings.{length-kinds}
use Rattle.parse_expr.specs.Reaches.{up_to, inside, expr}
use Rattle.parse_expr.specs.Starts.{StartsExpr}
use Rattle.parse_expr.proofs.Follows.{Closes, ReadsAs, ends-anywhere}
use Rattle.parse_expr.proofs.Law.{operand, reads-loosest}
use Rattle.parse_expr.proofs.WholeLaw.{expr-law}

-- the reader at an expression
reads-expr : (e : Expr) (ks : Kinds) → expr_is_formed e false ≡ true → ReadsAs false expr 9 (operand (expr_pieces e) (expr_facts e)) ks
reads-expr e ks formed =
    let r = reads-loosest (expr_pieces e) (expr_facts e) (expr-law e) (length (onto (expr_pieces e) ks)) false ks formed (omega arith) in
    record { rest = r.rest; is = r.is; no_more = r.no_more; just = r.just }

pub expr-before : (e : Expr) (ks : Kinds) → expr_is_formed e false ≡ true → Closes ks → expr (onto (expr_pieces e) ks) ≡ Some ks
expr-before e ks formed c =
    let r = reads-expr e ks formed in
    r.is ∙ ap Some (r.just c.ends (λ _. (closes-stay false (expr_facts e).end.in_int ks c.type_closes, c.type_closes.ends)) c.calm)

-- the room of the code is the number of the tokens
pub expr-room : (tokens : List Token) → up_to (inside (length tokens)) false 10 (kinds_of tokens) ≡ expr (kinds_of tokens)
expr-room tokens = ap (λ n. up_to (inside n) false 10 (kinds_of tokens)) (sym (length-kinds tokens))

module _ (tokens : List Token) where
  is-longest : (rest : List Token) → expr (kinds_of tokens) ≡ Some (kinds_of rest) → (behind : Kinds) → StartsExpr tokens behind → length rest ≤ length behind
  is-longest rest is behind h =
      let r = reads-expr h.0 behind h.1 in
      let both : Some (kinds_of rest) ≡ Some r.rest = sym is ∙ ap expr h.2 ∙ r.is in
      let same : kinds_of rest ≡ r.rest = cc both in
      let size = ap length same in
      let kinds = length-kinds rest in
      let less = r.no_more in
      omega arith

  is-none : expr (kinds_of tokens) ≡ None → (behind : Kinds) → StartsExpr tokens behind → ⊥
  is-none is behind h =
      let r = reads-expr h.0 behind h.1 in
      let both : None ≡ Some r.rest = sym is ∙ ap expr h.2 ∙ r.is in
      cc both

  -- ---- the same of the answer of a call

  pub longest-of : (r : Result (Box Expr × Bor (List Token)) (Stop Missing)) → Leaves (expr (kinds_of tokens)) r → IfOk r (λ x. (behind : Kinds) → StartsExpr tokens behind → length x.1.now ≤ length behind)
  longest-of (Ok x) e = is-longest x.1.now e
  longest-of (Err stop) e = tt

  pub none-of : (r : Result (Box Expr × Bor (List Token)) (Stop Missing)) → Leaves (expr (kinds_of tokens)) r → IfErr r (λ stop. IfMissing stop ((behind : Kinds) → StartsExpr tokens behind → ⊥))
  none-of (Ok x) e = tt
  none-of (Err (Fault f)) e = is-none e
  none-of (Err Memory) e = tt
