-- Loops that are put together, as answers of calls.
use Rattle.std.proofs.Common.{◌≡◌, List, [], ◌∷◌, length, All, Ok, refl, sym, subst, None, ap}
use Rattle.checks.specs.Checks.{Comes}
use Rattle.typed_tree.specs.declared.expr.TypedExpr.{TypedExpr}
use Rattle.typed_tree.specs.declared.stmt.TypedStmt.{TypedStmt}
use Rattle.check_words.specs.Stands.{PartBelow, Stands}
use Rattle.check_words.specs.State.{AreLast, BlockAtWork, State, all_but}
use Rattle.check_words.specs.Statements.{adds_stmt}
use Rattle.check_words.specs.Words.{takes}
use Rattle.check_words.proofs.Blocks.{stmt-added}
use Rattle.check_words.proofs.Coming.{became-this, given, next}
use Rattle.check_words.proofs.Standing.{others-have, stands-found}
use Rattle.check_work.specs.Blocks.{IsAdded}

pub stmt-put : (P : TypedStmt → Type 0) (s : State) (stmt : TypedStmt) (bs : List BlockAtWork) → IsAdded stmt s.blocks bs → P stmt
    → Comes (adds_stmt P) s (Ok tt) (record s { blocks = bs })
stmt-put P s stmt bs added p = subst (λ cs. Comes (adds_stmt P) s (Ok tt) (record s { blocks = cs })) (sym added.after) (stmt-added P s added.kept added.block stmt added.is p)

module _ (s : State) (a b : TypedExpr) (es : List TypedExpr) (last : AreLast s.found 2 (a ∷ b ∷ [])) (are : es ≡ all_but 2 s.found) where
  pub two-taken : Comes (takes 2) s (Ok (a ∷ b ∷ [])) (record s { found = es; ways = None })
  two-taken = let new : State = record s { found = es; ways = None } in
      next _ _ _ _ _ (a ∷ b ∷ []) s (given _ s (a ∷ b ∷ []) last)
      (next _ _ _ _ _ tt new (became-this _ s new (ap (λ xs. record s { found = xs; ways = None }) are)) (given _ new (a ∷ b ∷ []) refl))

  pub without-two-stands : Stands s → Stands (record s { found = es; ways = None })
  without-two-stands h = stands-found s h es (subst (All (PartBelow (length s.atoms))) (sym are) (others-have (PartBelow (length s.atoms)) 2 s.found h.found))
