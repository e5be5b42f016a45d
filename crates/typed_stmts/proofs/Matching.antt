-- Matches, clause by clause.
use Rattle.std.proofs.Common.{Bool, List, Option, Some, [], ap, false, slice_get, subst, sym, true, ℕ, ◌++◌, ◌∙◌, ◌∷◌, ◌≡◌}
use Rattle.bal_base.specs.declared.place.Place.{Place}
use Rattle.bal_tree.specs.declared.name.QualifiedName.{QualifiedName}
use Rattle.check_words.specs.Branches.{begins_match, closes_match, ends_clause, joins_all, makes_match, some_is_left, with_no_clause}
use Rattle.check_words.specs.Joins.{joins_from}
use Rattle.check_words.specs.State.{BlockAtWork, IsLast, MatchAtWork, State, all_but, replaced}
use Rattle.check_words.specs.StmtViews.{IsClause, IsMatch}
use Rattle.check_words.specs.Words.{by_handles}
use Rattle.checks.specs.Checks.{Gives, gives_some, ◌▷◌}
use Rattle.descriptors.specs.declared.names.Names.{Names}
use Rattle.flow_narrowing.specs.declared.flow.Flow.{Flow}
use Rattle.needs.specs.Needs.{does}
use Rattle.operations.specs.Rows.{Surroundings}
use Rattle.tree_promises.specs.Laws.{MadeStatementsAreTyped}
use Rattle.tree_promises.specs.Made.{sem}
use Rattle.tree_promises.specs.MadeStmts.{AreTypedClauses, AreTypedStmts, IsTypedStmt, MadeStmtIsTyped}
use Rattle.tree_promises.specs.Types.{IsTypedExpr}
use Rattle.type_model.specs.Calls.{Asked}
use Rattle.type_model.specs.Inclusion.{Sub}
use Rattle.type_model.specs.declared.answers.TypeLimit.{TypeLimit}
use Rattle.type_model.specs.declared.atoms.AtomDef.{AtomDef}
use Rattle.typed_needs.proofs.Leaving.{LeavesAll, all-asking, all-some, all-then}
use Rattle.typed_needs.proofs.Placed.{last-same}
use Rattle.typed_needs.proofs.Questions.{has-some-adds-none}
use Rattle.typed_needs.specs.Placing.{IsPlaced}
use Rattle.typed_stmts.proofs.Words.{block-closed, flow-seen, flow-set, part-taken, placed-beside, placed-more, put-from, put-weaker, slot-put, stmt-put}
use Rattle.typed_stmts.specs.Adding.{AddsStmt}
use Rattle.typed_stmts.specs.Branched.{ClauseIsTyped, MatchBegins, MatchIsTyped}
use Rattle.typed_tree.specs.Exprs.{type_of}
use Rattle.typed_tree.specs.SharedTypes.{Shared, sem_of}
use Rattle.typed_tree.specs.declared.expr.TypedExpr.{TypedExpr}
use Rattle.typed_tree.specs.declared.stmt.TypedClause.{TypedClause, out-TypedClause}
use Rattle.typed_tree.specs.declared.stmt.TypedStmt.{TypedStmt}

pub clause-opened : (at : Place) (old new : State) → ends_clause at old (Gives tt) new
    → (b : BlockAtWork) × (m n : MatchAtWork) × (c : TypedClause) × IsLast old.blocks b × IsLast old.matches m × IsClause m.patterns b.stmts at c
    × (n.clauses ≡ m.clauses ++ c ∷ []) × (new.matches ≡ replaced old.matches n) × (new.blocks ≡ all_but 1 old.blocks)
unfolding ◌▷◌ gives_some by_handles does
clause-opened at old new (f, s1, seen, (b, s2, closed, (m, s3, (lm, e3), (c, s4, (clause, e4), (n, s5, (same, e5), e6))))) =
    let (w, hand, is, e1) = flow-seen f old s1 seen in
    let (lb, e2) = block-closed b s1 s2 closed in
    let blocks : s5.blocks ≡ all_but 1 old.blocks =
    ap (λ (x : State). x.blocks) e5 ∙ ap (λ (x : State). x.blocks) e4 ∙ ap (λ (x : State). x.blocks) e3 ∙ ap (λ (x : State). x.blocks) e2 ∙ ap (λ (x : State). all_but 1 x.blocks) e1 in
    let before : s2.matches ≡ old.matches = ap (λ (x : State). x.matches) e2 ∙ ap (λ (x : State). x.matches) e1 in
    let matches : s5.matches ≡ old.matches = ap (λ (x : State). x.matches) e5 ∙ ap (λ (x : State). x.matches) e4 ∙ ap (λ (x : State). x.matches) e3 ∙ before in (
      b,
      m,
      n,
      c,
      subst (λ (x : State). IsLast x.blocks b) e1 lb,
      subst (λ ms. IsLast ms m) before lm,
      clause,
      same.clauses,
      ap (λ (x : State). x.matches) e6 ∙ ap (λ ms. replaced ms n) matches,
      ap (λ (x : State). x.blocks) e6 ∙ blocks,
    )

pub match-begun : (name : Option QualifiedName) (at : Place) (old new : State) → begins_match name at old (Gives tt) new
    → (m : MatchAtWork) × (new.matches ≡ old.matches ++ m ∷ []) × (m.clauses ≡ [])
unfolding ◌▷◌ gives_some by_handles does
match-begun name at old new (e, s1, (last, e1), (f, s2, seen, (n, s3, (same, e3), e4))) =
    let (w, hand, is, e2) = flow-seen f s1 s2 seen in (
      n,
      ap (λ (x : State). x.matches) e4
          ∙ ap (λ (ms : List MatchAtWork). ms ++ n ∷ []) (ap (λ (x : State). x.matches) e3 ∙ ap (λ (x : State). x.matches) e2 ∙ ap (λ (x : State). x.matches) e1),
      same.clauses,
    )

pub match-closed : (m : MatchAtWork) (old new : State) → closes_match old (Gives m) new → IsLast old.matches m × (new ≡ record old { matches = all_but 1 old.matches })
unfolding ◌▷◌ gives_some does
match-closed m old new (x, a, (last, e1), (u, b, e2, (is, e3))) = (
  subst (λ y. IsLast old.matches y) (sym is) last,
  e3 ∙ e2 ∙ ap (λ (s : State). record s { matches = all_but 1 s.matches }) e1,
)

joined-leaves : (f : Flow) (gs : List Flow) → LeavesAll (joins_from f gs)
joined-leaves f [] = all-some _
joined-leaves f (g ∷ gs) = all-then _ _ (all-some _) (λ h. joined-leaves h gs)

pub all-joined-leaves : (before : Flow) (fs : List Flow) → LeavesAll (joins_all before fs)
all-joined-leaves before [] = all-some _
all-joined-leaves before (f ∷ fs) = joined-leaves f fs

module _ (env : List AtomDef) (place : Surroundings) (inside : Bool) where
  pub clauses-more : (cs : List TypedClause) (c : TypedClause) → AreTypedClauses env place inside cs → AreTypedStmts env place inside (out-TypedClause c).stmts.items
      → AreTypedClauses env place inside (cs ++ c ∷ [])
  clauses-more [] c h typed = (typed, tt)
  clauses-more (d ∷ cs) c h typed = (h.0, clauses-more cs c h.1 typed)

module _ (passes : List AtomDef → Asked → TypeLimit → Type 0) where
  pub some-left-leaves : (any : Bool) (t : Shared) (at : Place) → LeavesAll (some_is_left passes any t at)
  some-left-leaves true t at = all-some _
  some-left-leaves false t at = all-asking _ (has-some-adds-none passes (sem_of t) (Some at))

  pub record MatchOpened (place : Surroundings) (at : Place) (old new : State) : Type 0 where
    pub subject : TypedExpr
    pub own : ℕ
    pub done : MatchAtWork
    pub last_part : IsLast old.found subject
    pub last_match : IsLast old.matches done
    pub held : slice_get place.slots own ≡ Some (sem subject)
    pub put : AddsStmt (IsMatch own subject done.clauses at) [] old new

  pub match-opened : (place : Surroundings) (any : Bool) (at : Place) (old new : State) → makes_match passes any at old (Gives tt) new → IsPlaced place new → MatchOpened place at old new
  unfolding ◌▷◌
  match-opened place any at old new (m, s1, closed, (left, s2, asked, (f, s3, joined, (u, s4, flowed, (e, s5, taken, (own, s6, slotted, added)))))) placed =
      let (lm, e1) = match-closed m old s1 closed in
      let e2 : s2 ≡ s1 = some-left-leaves any m.left m.at s1 s2 left asked in
      let e3 : s3 ≡ s2 = all-joined-leaves m.before (with_no_clause left m) s2 s3 f joined in
      let s = flow-set f u s3 s4 flowed in
      let (l5, e5) = part-taken e s4 s5 taken in
      let (s6s, is) = slot-put (type_of e) own s5 s6 slotted in
      let P : TypedStmt → Type 0 = IsMatch own e m.clauses at in
      let put = stmt-put P tt s6 new added in
      record {
        subject = e;
        own = own;
        done = m;
        last_part = subst (λ xs. IsLast xs e)
            (ap (λ (x : State). x.found) s.all ∙ ap (λ (x : State). x.found) e3 ∙ ap (λ (x : State). x.found) e2 ∙ ap (λ (x : State). x.found) e1) l5;
        last_match = lm;
        held = (placed-more place (type_of e) own s5 s6 s6s is (placed-beside place s6 new (ap (λ (x : State). x.units) put.all) placed)).1;
        put = put-from P old s6 new
            (ap (λ (x : State). x.blocks) s6s.all ∙ ap (λ (x : State). x.blocks) e5 ∙ ap (λ (x : State). x.blocks) s.all
            ∙ ap (λ (x : State). x.blocks) e3 ∙ ap (λ (x : State). x.blocks) e2 ∙ ap (λ (x : State). x.blocks) e1) put;
      }

  module _ (made : MadeStatementsAreTyped) (names : Names) (env : List AtomDef) (place : Surroundings) (inside : Bool) where
    pub match-begins : MatchBegins passes names env place inside
    match-begins name at old new met = match-begun name at old new met

    pub clause-typed : ClauseIsTyped passes names env place inside
    clause-typed at old new m b met lm lb typed block =
        let (c, k, n, clause, last, matched, is, clauses, matches, blocks) = clause-opened at old new met in
        let eb : b ≡ c = last-same old.blocks b c lb last in
        let em : m ≡ k = last-same old.matches m k lm matched in
        let stmts : AreTypedStmts env place inside (out-TypedClause clause).stmts.items =
        subst (λ xs. AreTypedStmts env place inside xs) (ap (λ (x : BlockAtWork). x.stmts) eb ∙ sym is.1) block in (
          n,
          matches,
          blocks,
          subst (λ cs. AreTypedClauses env place inside cs) (sym clauses)
              (clauses-more env place inside k.clauses clause (subst (λ (x : MatchAtWork). AreTypedClauses env place inside x.clauses) em typed) stmts),
        )

    pub match-typed : MatchIsTyped passes names env place inside
    match-typed any at old new e m truth booleans met last typed lm clauses placed =
        let o = match-opened place any at old new met placed in
        let P : TypedStmt → Type 0 = IsMatch o.own o.subject o.done.clauses at in
        let ee : e ≡ o.subject = last-same old.found e o.subject last o.last_part in
        let em : m ≡ o.done = last-same old.matches m o.done lm o.last_match in
        put-weaker P (IsTypedStmt env place inside) [] old new
        (λ s (v, w, is, subject, items). let p : MadeStmtIsTyped env place truth inside s at = (made env place inside truth s at).0 in
        p.matched o.own v w (sem o.subject) booleans is (subst (λ x. IsTypedExpr env place x) (ee ∙ sym subject) typed) o.held
        (subst (λ (x : TypedExpr). Sub env (sem x) (sem o.subject)) (sym subject) (λ x valid i. i))
        (subst (λ cs. AreTypedClauses env place inside cs) (ap (λ (x : MatchAtWork). x.clauses) em ∙ sym items) clauses)) o.put
