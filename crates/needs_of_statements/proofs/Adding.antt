-- Blocks: one that begins, and a statement more of the one at hand.
use Rattle.std.proofs.Common.{◌≡◌, ◌∙◌, ℕ, List, [], Ok, ap, sym, subst}
use Rattle.checks.specs.Checks.{Comes}
use Rattle.typed_tree.specs.declared.stmt.TypedStmt.{TypedStmt}
use Rattle.check_words.specs.State.{BlockAtWork, State}
use Rattle.check_words.specs.Statements.{adds_stmt}
use Rattle.check_words.proofs.Blocks.{stmt-added}
use Rattle.check_work.specs.Blocks.{IsAdded}

pub added-comes : (P : TypedStmt → Type 0) (s : State) (bs : List BlockAtWork) (stmt : TypedStmt) → IsAdded stmt s.blocks bs → P stmt
    → Comes (adds_stmt P) s (Ok tt) (record s { blocks = bs })
added-comes P s bs stmt added p =
    subst (λ cs. Comes (adds_stmt P) s (Ok tt) (record s { blocks = cs })) (sym added.after) (stmt-added P s added.kept added.block stmt added.is p)

abbrev pub block_at : List TypedStmt → ℕ → BlockAtWork
block_at stmts scope = record { stmts = stmts; scope = scope }

pub opened : (stmts : List TypedStmt) (scope seen : ℕ) → stmts ≡ [] → scope ≡ seen → block_at stmts scope ≡ block_at [] seen
opened stmts scope seen e f = ap (λ ss. block_at ss scope) e ∙ ap (block_at []) f
