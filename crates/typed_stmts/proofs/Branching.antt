-- Blocks, branches and loops on a condition.
use Rattle.std.proofs.Common.{true, Bool, List, [], ap, length, refl, subst, sym, ◌++◌, ◌∙◌, ◌∷◌, ◌≡◌}
use Rattle.bal_base.specs.declared.place.Place.{Place}
use Rattle.check_words.specs.Branches.{behind, makes_if, makes_while}
use Rattle.check_words.specs.State.{BlockAtWork, IsLast, State}
use Rattle.check_words.specs.Statements.{begins_block, makes_block}
use Rattle.check_words.specs.StmtViews.{IsBlock, IsIf, IsWhile}
use Rattle.checks.specs.Checks.{Gives, gives_some, ◌▷◌}
use Rattle.descriptors.specs.declared.names.Names.{Names}
use Rattle.eval_model.specs.Expressions.{nil_type}
use Rattle.needs.specs.Needs.{does}
use Rattle.operations.specs.Rows.{Surroundings}
use Rattle.tree_promises.specs.Laws.{MadeStatementsAreTyped}
use Rattle.tree_promises.specs.Made.{Booleans, sem}
use Rattle.tree_promises.specs.MadeStmts.{AreTypedStmts, IsTypedStmt, MadeStmtIsTyped}
use Rattle.tree_promises.specs.Types.{IsTypedExpr}
use Rattle.type_model.specs.Calls.{Asked}
use Rattle.type_model.specs.declared.answers.TypeLimit.{TypeLimit}
use Rattle.type_model.specs.declared.atoms.AtomDef.{AtomDef}
use Rattle.typed_needs.proofs.Opened.{as-lasts, cons-same, same-lasts}
use Rattle.typed_needs.proofs.Placed.{last-same}
use Rattle.typed_stmts.proofs.Words.{block-closed, choice-closed, flow-seen, flow-set, part-taken, put-before, put-behind, put-from, put-weaker, stmt-put, waiting-last}
use Rattle.typed_stmts.specs.Adding.{AddsStmt, AddsTyped}
use Rattle.typed_stmts.specs.Branched.{BlockBegins, BlockIsTyped, BranchIsTyped, LoopIsTyped}
use Rattle.typed_tree.specs.declared.expr.TypedExpr.{TypedExpr}
use Rattle.typed_tree.specs.declared.stmt.TypedStmt.{TypedStmt}

block-begun : (old new : State) → begins_block old (Gives tt) new → (b : BlockAtWork) × (new.blocks ≡ old.blocks ++ b ∷ []) × (b.stmts ≡ [])
unfolding ◌▷◌ does
block-begun old new (f, a, seen, e) =
    let (w, last, is, same) = flow-seen f old a seen in
    let b : BlockAtWork = record { stmts = []; scope = length f.variables } in
    (b, ap (λ (s : State). s.blocks) e ∙ ap (λ (s : State). s.blocks ++ b ∷ []) same, refl)

-- ---- what is closed

pub block-opened : (at : Place) (old new : State) → makes_block at old (Gives tt) new → (b : BlockAtWork) × AddsStmt (IsBlock b.stmts at) (b ∷ []) old new
unfolding ◌▷◌
block-opened at old new (b, a, closed, added) =
    let (last, e) = block-closed b old a closed in
    (b, put-behind (IsBlock b.stmts at) [] b old a new last (ap (λ (s : State). s.blocks) e) (put-from (IsBlock b.stmts at) a a new refl (stmt-put (IsBlock b.stmts at) tt a new added)))

pub record BranchOpened (at : Place) (old new : State) : Type 0 where
  pub condition : TypedExpr
  pub first : BlockAtWork
  pub second : BlockAtWork
  pub last_part : IsLast old.found condition
  pub put : AddsStmt (IsIf condition first.stmts second.stmts at) (first ∷ second ∷ []) old new

pub branch-opened : (at : Place) (old new : State) → makes_if at old (Gives tt) new → BranchOpened at old new
unfolding ◌▷◌ gives_some
branch-opened at old new (f, s1, seen, (c, s2, closed, (g, s3, (join, e3), (u, s4, flowed, (second, s5, close2, (first, s6, close1, (e, s7, taken, added))))))) =
    let (w, hand, is, e1) = flow-seen f old s1 seen in
    let (lc, e2) = choice-closed c s1 s2 closed in
    let s = flow-set g u s3 s4 flowed in
    let (l5, e5) = block-closed second s4 s5 close2 in
    let (l6, e6) = block-closed first s5 s6 close1 in
    let (l7, e7) = part-taken e s6 s7 taken in
    let P : TypedStmt → Type 0 = IsIf e first.stmts second.stmts at in
    let blocks : s4.blocks ≡ old.blocks =
    ap (λ (x : State). x.blocks) s.all ∙ ap (λ (x : State). x.blocks) e3 ∙ ap (λ (x : State). x.blocks) e2 ∙ ap (λ (x : State). x.blocks) e1 in
    let parts : s6.found ≡ old.found =
    ap (λ (x : State). x.found) e6 ∙ ap (λ (x : State). x.found) e5 ∙ ap (λ (x : State). x.found) s.all ∙ ap (λ (x : State). x.found) e3
    ∙ ap (λ (x : State). x.found) e2 ∙ ap (λ (x : State). x.found) e1 in
    record {
      condition = e;
      first = first;
      second = second;
      last_part = subst (λ xs. IsLast xs e) parts l7;
      put = put-before P (first ∷ second ∷ []) old s4 new blocks
          (put-behind P (first ∷ []) second s4 s5 new l5 (ap (λ (x : State). x.blocks) e5)
          (put-behind P [] first s5 s6 new l6 (ap (λ (x : State). x.blocks) e6)
          (put-from P s6 s7 new (ap (λ (x : State). x.blocks) e7) (stmt-put P tt s7 new added))));
    }

pub record LoopOpened (at : Place) (old new : State) : Type 0 where
  pub condition : TypedExpr
  pub body : BlockAtWork
  pub last_part : IsLast old.found condition
  pub put : AddsStmt (IsWhile condition body.stmts at) (body ∷ []) old new

pub loop-opened : (leaves : Bool) (at : Place) (old new : State) → makes_while leaves at old (Gives tt) new → LoopOpened at old new
unfolding ◌▷◌
loop-opened leaves at old new (c, s2, closed, (u, s4, flowed, (body, s5, close, (e, s7, taken, added)))) =
    let (lc, e2) = choice-closed c old s2 closed in
    let s = flow-set (behind leaves c.before) u s2 s4 flowed in
    let (l5, e5) = block-closed body s4 s5 close in
    let (l7, e7) = part-taken e s5 s7 taken in
    let P : TypedStmt → Type 0 = IsWhile e body.stmts at in
    record {
      condition = e;
      body = body;
      last_part = subst (λ xs. IsLast xs e) (ap (λ (x : State). x.found) e5 ∙ ap (λ (x : State). x.found) s.all ∙ ap (λ (x : State). x.found) e2) l7;
      put = put-before P (body ∷ []) old s4 new (ap (λ (x : State). x.blocks) s.all ∙ ap (λ (x : State). x.blocks) e2)
          (put-behind P [] body s4 s5 new l5 (ap (λ (x : State). x.blocks) e5) (put-from P s5 s7 new (ap (λ (x : State). x.blocks) e7) (stmt-put P tt s7 new added)));
    }

pub two-same : {A : Type 0} (a b x y : A) → a ∷ b ∷ [] ≡ x ∷ y ∷ [] → (a ≡ x) × (b ≡ y)
two-same a b x y e = let first = cons-same a x (b ∷ []) (y ∷ []) e in (first.0, (cons-same b y [] [] first.1).0)

-- the block that is gone was the last one
pub one-gone : (P : TypedStmt → Type 0) (b c : BlockAtWork) (old new : State) → AddsStmt P (b ∷ []) old new → IsLast old.blocks c → c ≡ b
one-gone P b c old new put last =
    (cons-same c b [] [] (same-lasts old.blocks 1 (c ∷ []) (b ∷ []) (as-lasts old.blocks c last) (waiting-last P (b ∷ []) 1 old new refl put))).0

module _ (made : MadeStatementsAreTyped) (passes : List AtomDef → Asked → TypeLimit → Type 0) (names : Names) (env : List AtomDef) (place : Surroundings) (inside : Bool) where
  made-pieces : (s : TypedStmt) (at : Place) → MadeStmtIsTyped env place nil_type inside s at
  made-pieces s at = (made env place inside nil_type s at).0

  abbrev Typed : TypedStmt → Type 0
  Typed = IsTypedStmt env place inside

  pub block-typed : BlockIsTyped passes names env place inside
  block-typed at old new b met last typed =
      let (c, put) = block-opened at old new met in
      let same : b ≡ c = one-gone (IsBlock c.stmts at) c b old new put last in
      subst (λ x. AddsTyped env place inside (x ∷ []) old new) (sym same)
      (put-weaker (IsBlock c.stmts at) Typed (c ∷ []) old new
      (λ s (v, is, stmts). let p = made-pieces s at in
      p.blocked v is (subst (λ xs. AreTypedStmts env place inside xs) (ap (λ (x : BlockAtWork). x.stmts) same ∙ sym stmts) typed)) put)

  pub branch-typed : BranchIsTyped passes names env place inside
  branch-typed at old new c a b met last typed truth lasts one other =
      let o = branch-opened at old new met in
      let P : TypedStmt → Type 0 = IsIf o.condition o.first.stmts o.second.stmts at in
      let (ea, eb) = two-same a b o.first o.second (same-lasts old.blocks 2 (a ∷ b ∷ []) (o.first ∷ o.second ∷ []) lasts (waiting-last P (o.first ∷ o.second ∷ []) 2 old new refl o.put)) in
      let ec : c ≡ o.condition = last-same old.found c o.condition last o.last_part in
      subst (λ y. AddsTyped env place inside (a ∷ y ∷ []) old new) (sym eb) (subst (λ x. AddsTyped env place inside (x ∷ o.second ∷ []) old new) (sym ea)
      (put-weaker P Typed (o.first ∷ o.second ∷ []) old new
      (λ s (e, v, w, is, condition, first, second). let p = made-pieces s at in
      p.branched e v w is (subst (λ x. IsTypedExpr env place x) (ec ∙ sym condition) typed) (subst (λ x. Booleans env (sem x)) (ec ∙ sym condition) truth)
      (subst (λ xs. AreTypedStmts env place inside xs) (ap (λ (x : BlockAtWork). x.stmts) ea ∙ sym first) one)
      (subst (λ xs. AreTypedStmts env place inside xs) (ap (λ (x : BlockAtWork). x.stmts) eb ∙ sym second) other)) o.put))

  pub loop-typed : LoopIsTyped passes names env place inside
  loop-typed leaves at old new c b met last typed truth block body =
      let o = loop-opened leaves at old new met in
      let P : TypedStmt → Type 0 = IsWhile o.condition o.body.stmts at in
      let eb : b ≡ o.body = one-gone P o.body b old new o.put block in
      let ec : c ≡ o.condition = last-same old.found c o.condition last o.last_part in
      subst (λ x. AddsTyped env place inside (x ∷ []) old new) (sym eb)
      (put-weaker P Typed (o.body ∷ []) old new
      (λ s (e, v, is, condition, stmts). let p = made-pieces s at in
      p.repeated e v is (subst (λ x. IsTypedExpr env place x) (ec ∙ sym condition) typed) (subst (λ x. Booleans env (sem x)) (ec ∙ sym condition) truth)
      (subst (λ xs. AreTypedStmts env place true xs) (ap (λ (x : BlockAtWork). x.stmts) eb ∙ sym stmts) body)) o.put)

  pub block-begins : BlockBegins passes names env place
  block-begins old new met = block-begun old new met
