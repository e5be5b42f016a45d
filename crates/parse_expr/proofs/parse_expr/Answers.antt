use Rattle.std.proofs.Common.{rules, ◌≡◌, ◌-◌, ◌≤◌, ◌⊎◌, inr, true, false, None, length, drop, sym, ap, subst, ◌∙◌, ℕ, Err}
use Rattle.bal_base.specs.declared.fault.FaultCode.TheVariants.{Syntax}
use Rattle.bal_base.specs.Stops.{IfFault}
use Rattle.bal_tree.specs.declared.expr.Expr.{Expr}
use Rattle.bal_tree.specs.Spells.{Spells, first_place, kinds_of}
use Rattle.bal_tree.specs.ExprPieces.{expr_pieces}
use Rattle.bal_tree.specs.ExprRules.{expr_is_formed}
use Rattle.bal_tree.specs.Reads.{ReadsExpr}
use Rattle.parse_types.specs.Nesting.{first_too_deep, enclosed}
use Rattle.parse_types.specs.Starts.{IsTooDeep, refusal}
use Rattle.token_steps.specs.Tokens.{Kinds}
use Rattle.parse_types.proofs.Parsing.{rest-place}
use Rattle.parse_expr.specs.Starts.{StartsExpr, HasNoExpr}
use Rattle.parse_expr.proofs.parse_expr.Goals as goal

pub returns-in-Ok-clause-reads : goal.returns-in-Ok-clause-reads
returns-in-Ok-clause-reads c =
    let reads = rw c.rest_from-front.ensures at c.in-Ok.ensures.reads in
    let e = c.in-Ok.tree.value in
    let place = rest-place c.args.file (expr_pieces e) c.args.tokens.now c.args.from c.in-Ok.rest.now reads.spells in
    let same : c.into_inner.result ≡ e = search rules in
    subst (λ x. ReadsExpr c.args.file (drop c.args.from c.args.tokens.now) x (drop (length c.args.tokens.now - length c.in-Ok.rest.now) c.args.tokens.now)) (sym same)
    (reads.formed, subst (λ l. Spells c.args.file (expr_pieces e) (drop c.args.from c.args.tokens.now) l) (sym place.1) reads.spells)

pub returns-in-Err-Fault-clause-refused : goal.returns-in-Err-Fault-clause-refused
returns-in-Err-Fault-clause-refused c =
    let file = c.args.file in
    let tokens = drop c.args.from c.args.tokens.now in
    let front = c.rest_from-front.ensures in
    let shallow : first_too_deep (enclosed 0 (kinds_of tokens)) ≡ None =
    ap (λ ts. first_too_deep (enclosed 0 (kinds_of ts))) (sym front) ∙ ap first_too_deep (sym c.enclosed.ensures.front) ∙ sym c.in_ok-deep.ensures.first ∙ c.in_default.is
    in
    let none = rw c.in-Err-Fault.field-0-is at c.in-Err-Fault.ensures.none in
    let at = c.place.ensures ∙ ap (first_place file) front in
    subst (λ stop. IfFault {T = Expr × ℕ} (Err stop) (λ f. IsTooDeep file tokens f ⊎ HasNoExpr file tokens f)) (sym c.refused-in-Err-Fault.ensures)
    (inr (shallow, subst (λ ts. (rest : Kinds) → StartsExpr ts rest → ⊥) front none, ap (refusal Syntax) at))
