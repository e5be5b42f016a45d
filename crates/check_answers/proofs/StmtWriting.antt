-- What is written of each statement.
use Rattle.std.proofs.Common.{◌≡◌, ℕ, List, map, rules}
use Rattle.bal_base.specs.declared.place.Place.{Place}
use Rattle.typed_tree.specs.declared.expr.TypedExpr.{TypedExpr}
use Rattle.typed_tree.specs.declared.form.Operator.{Operator}
use Rattle.typed_tree.specs.declared.stmt.PerformForm.{PerformForm}
use Rattle.typed_tree.specs.declared.stmt.Source.{Source}
use Rattle.typed_tree.specs.declared.stmt.TypedClause.{TypedClause}
use Rattle.typed_tree.specs.declared.stmt.TypedPattern.{TypedPattern}
use Rattle.typed_tree.specs.declared.stmt.TypedStmt.{TypedStmt}
use Rattle.typed_tree.specs.declared.stmt.UpdateTarget.{UpdateTarget}
use Rattle.typed_tree.specs.Listed.{◌&◌, joined}
use Rattle.typed_tree.proofs.StmtLayers.{stmt_layers}
use Rattle.check_words.specs.StmtViews.{IsBlock, IsBreak, IsClause, IsContinue, IsForeach, IsIf, IsMatch, IsPerform, IsReturn, IsReturnNil, IsSet, IsUpdate, IsWhile}
use Rattle.check_answers.specs.Pieces as say
use Rattle.check_answers.specs.Pieces.{clause_pieces, expr_pieces, says, source_pieces, stmt_pieces, stmts_pieces, target_pieces}

pub set-written : (slot : ℕ) (value : TypedExpr) (at : Place) (s : TypedStmt) → IsSet slot value at s → stmt_pieces s ≡ says (say.IsSet slot at) & expr_pieces value
set-written slot value at s (v, is, same) = search (rules, stmt_layers)

pub perform-written : (form : PerformForm) (parts : List TypedExpr) (at : Place) (s : TypedStmt) → IsPerform form parts at s
    → stmt_pieces s ≡ says (say.IsPerform form at) & joined (map expr_pieces parts)
perform-written form parts at s (v, is, same) = search (rules, stmt_layers)

pub update-written : (what : UpdateTarget) (op : Operator) (value : TypedExpr) (at : Place) (s : TypedStmt) → IsUpdate what op value at s
    → stmt_pieces s ≡ says (say.IsUpdate op at) & target_pieces what & expr_pieces value
update-written what op value at s (v, is, same) = search (rules, stmt_layers)

pub if-written : (c : TypedExpr) (first second : List TypedStmt) (at : Place) (s : TypedStmt) → IsIf c first second at s
    → stmt_pieces s ≡ says (say.IsIf at) & expr_pieces c & stmts_pieces first & stmts_pieces second
if-written c first second at s (b, v, w, is, x, y, z) = search (rules, stmt_layers)

pub while-written : (c : TypedExpr) (body : List TypedStmt) (at : Place) (s : TypedStmt) → IsWhile c body at s
    → stmt_pieces s ≡ says (say.IsWhile at) & expr_pieces c & stmts_pieces body
while-written c body at s (b, v, is, x, y) = search (rules, stmt_layers)

pub foreach-written : (slot : ℕ) (over : Source) (body : List TypedStmt) (at : Place) (s : TypedStmt) → IsForeach slot over body at s
    → stmt_pieces s ≡ says (say.IsForeach slot at) & source_pieces over & stmts_pieces body
foreach-written slot over body at s (v, is, x) = search (rules, stmt_layers)

pub match-written : (own : ℕ) (subject : TypedExpr) (clauses : List TypedClause) (at : Place) (s : TypedStmt) → IsMatch own subject clauses at s
    → stmt_pieces s ≡ says (say.IsMatch own at) & expr_pieces subject & joined (map clause_pieces clauses)
match-written own subject clauses at s (e, v, is, x, y) = search (rules, stmt_layers)

pub return-written : (value : TypedExpr) (at : Place) (s : TypedStmt) → IsReturn value at s → stmt_pieces s ≡ says (say.IsReturn at) & expr_pieces value
return-written value at s (v, is, x) = search (rules, stmt_layers)

pub nil-written : (at : Place) (s : TypedStmt) → IsReturnNil at s → stmt_pieces s ≡ says (say.IsReturn at) & says say.HasNone
nil-written at s is = search (rules, stmt_layers)

pub block-written : (stmts : List TypedStmt) (at : Place) (s : TypedStmt) → IsBlock stmts at s → stmt_pieces s ≡ says (say.IsBlock at) & stmts_pieces stmts
block-written stmts at s (v, is, x) = search (rules, stmt_layers)

pub break-written : (at : Place) (s : TypedStmt) → IsBreak at s → stmt_pieces s ≡ says (say.IsBreak at)
break-written at s is = search (rules, stmt_layers)

pub continue-written : (at : Place) (s : TypedStmt) → IsContinue at s → stmt_pieces s ≡ says (say.IsContinue at)
continue-written at s is = search (rules, stmt_layers)

pub clause-written : (patterns : List TypedPattern) (stmts : List TypedStmt) (at : Place) (c : TypedClause) → IsClause patterns stmts at c
    → clause_pieces c ≡ says (say.IsClause patterns at) & stmts_pieces stmts
clause-written patterns stmts at c (p, s, a) = search (rules, stmt_layers)
