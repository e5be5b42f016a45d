-- Blocks and their statements, as answers of calls.
use Rattle.std.proofs.Common.{◌≡◌, ◌++◌, List, [], ◌∷◌, length, None, Ok, refl, sym, subst, ap}
use Rattle.bal_base.specs.declared.place.Place.{Place}
use Rattle.checks.specs.Checks.{Comes, ◌▷◌}
use Rattle.flow_narrowing.specs.declared.flow.Flow.{Flow}
use Rattle.typed_tree.specs.declared.stmt.TypedStmt.{TypedStmt}
use Rattle.check_words.specs.Branches.{opens_loop}
use Rattle.check_words.specs.State.{BlockAtWork, ChoiceAtWork, IsLast, State, UnitAtWork, outside, stopped}
use Rattle.check_words.specs.Sharing.{SameChoice, SameFlow}
use Rattle.check_words.specs.Statements.{adds_stmt, begins_block, breaks, closes_block, continues, ends_block, stops}
use Rattle.check_words.specs.StmtViews.{IsBreak, IsContinue}
use Rattle.check_words.proofs.Coming.{became-this, given, next}
use Rattle.check_words.proofs.Flowing.{choice-opened, flow-changed, flow-now}
use Rattle.check_words.proofs.LastOnes.{kept-is}
use Rattle.check_words.proofs.Same.{same-flow}

abbrev pub with_stmt : BlockAtWork → TypedStmt → BlockAtWork
with_stmt b stmt = record b { stmts = b.stmts ++ stmt ∷ [] }

pub stmt-added : (P : TypedStmt → Type 0) (s : State) (kept : List BlockAtWork) (b : BlockAtWork) (stmt : TypedStmt) → s.blocks ≡ kept ++ b ∷ [] → P stmt
    → Comes (adds_stmt P) s (Ok tt) (record s { blocks = kept ++ with_stmt b stmt ∷ [] })
stmt-added P s kept b stmt is p =
    next _ _ _ _ _ b s (given _ s b (record { kept = kept; is = is }))
    (next _ _ _ _ _ stmt s (given _ s stmt p)
    (became-this _ s (record s { blocks = kept ++ with_stmt b stmt ∷ [] })
    (ap (λ bs. record s { blocks = bs ++ with_stmt b stmt ∷ [] }) (sym (kept-is 1 s.blocks kept (b ∷ []) is refl)))))

pub block-closed : (s : State) (kept : List BlockAtWork) (b : BlockAtWork) → s.blocks ≡ kept ++ b ∷ [] → Comes closes_block s (Ok b) (record s { blocks = kept })
block-closed s kept b is = let new : State = record s { blocks = kept } in
    next _ _ _ _ _ b s (given _ s b (record { kept = kept; is = is }))
    (next _ _ _ _ _ tt new (became-this _ s new (ap (λ bs. record s { blocks = bs }) (sym (kept-is 1 s.blocks kept (b ∷ []) is refl)))) (given _ new b refl))

module _ (s : State) (kept : List UnitAtWork) (u : UnitAtWork) (is : s.units ≡ kept ++ u ∷ []) where
  -- where this is known
  abbrev pub with_flow : Flow → State
  with_flow g = record s { units = kept ++ record u { flow = g } ∷ []; ways = None }

  pub stops-come : (g : Flow) → g ≡ stopped u.flow → Comes stops s (Ok tt) (with_flow g)
  stops-come g e = flow-changed s kept u is stopped g (subst (SameFlow (stopped u.flow)) (sym e) (same-flow (stopped u.flow))) (with_flow g) refl

  pub ends-block-comes : (b : BlockAtWork) (g : Flow) → IsLast s.blocks b → g ≡ outside b.scope u.flow → Comes ends_block s (Ok tt) (with_flow g)
  ends-block-comes b g last e =
      next _ _ _ _ _ b s (given _ s b last)
      (flow-changed s kept u is (outside b.scope) g (subst (SameFlow (outside b.scope u.flow)) (sym e) (same-flow (outside b.scope u.flow))) (with_flow g) refl)

  pub begins-block-comes : (bs : List BlockAtWork) → bs ≡ s.blocks ++ record { stmts = []; scope = length u.flow.variables } ∷ []
      → Comes begins_block s (Ok tt) (record s { blocks = bs })
  begins-block-comes bs more =
      next _ _ _ _ _ u.flow s (flow-now s kept u is) (became-this _ s (record s { blocks = bs }) (ap (λ xs. record s { blocks = xs }) more))

  pub opens-loop-comes : (c : ChoiceAtWork) (cs : List ChoiceAtWork) → SameChoice (record { before = u.flow; other = u.flow; first = u.flow }) c
      → cs ≡ s.choices ++ c ∷ [] → Comes opens_loop s (Ok tt) (record s { choices = cs })
  opens-loop-comes c cs same more =
      next _ _ _ _ _ u.flow s (flow-now s kept u is) (choice-opened s _ c same (record s { choices = cs }) (ap (λ xs. record s { choices = xs }) more))

-- a statement that ends its way
module _ (s : State) (kept : List UnitAtWork) (u : UnitAtWork) (is : s.units ≡ kept ++ u ∷ []) (opened : List BlockAtWork) (b : BlockAtWork) (are : s.blocks ≡ opened ++ b ∷ [])
    (stmt : TypedStmt) (bs : List BlockAtWork) (more : bs ≡ opened ++ with_stmt b stmt ∷ []) (g : Flow) (e : g ≡ stopped u.flow) where
  abbrev pub with_last : State
  with_last = record s { blocks = bs; units = kept ++ record u { flow = g } ∷ []; ways = None }

  ended : (P : TypedStmt → Type 0) → P stmt → Comes (adds_stmt P ▷ λ x. stops) s (Ok tt) with_last
  ended P p = let mid : State = record s { blocks = opened ++ with_stmt b stmt ∷ [] } in
      next _ _ _ _ _ tt mid (stmt-added P s opened b stmt are p)
      (subst (λ cs. Comes stops mid (Ok tt) (record s { blocks = cs; units = kept ++ record u { flow = g } ∷ []; ways = None })) (sym more) (stops-come mid kept u is g e))

  pub breaks-come : (at : Place) → IsBreak at stmt → Comes (breaks at) s (Ok tt) with_last
  breaks-come at made = ended (IsBreak at) made

  pub continues-come : (at : Place) → IsContinue at stmt → Comes (continues at) s (Ok tt) with_last
  continues-come at made = ended (IsContinue at) made
