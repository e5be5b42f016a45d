-- Statements that end a way, and those that evaluate something.
use Rattle.std.proofs.Common.{Bool, List, None, Option, Some, [], ap, length, map, refl, subst, sym, true, ℕ, ◌++◌, ◌∙◌, ◌∷◌, ◌≡◌}
use Rattle.bal_base.specs.declared.place.Place.{Place}
use Rattle.bal_base.specs.declared.shape.Shape.{Shape, Nil, Bool as BoolShape, Int, Str, List', Mapping', Error', Function, Future'}
use Rattle.check_words.proofs.Standing.{last-has}
use Rattle.check_words.specs.Stands.{UnitBelow}
use Rattle.check_words.specs.State.{AreLast, IsLast, State, UnitAtWork, stopped}
use Rattle.check_words.specs.Statements.{adds_stmt, nil_is_result, performs, returns, returns_nil, stops}
use Rattle.check_words.specs.StmtViews.{IsBreak, IsContinue, IsPerform, IsReturn, IsReturnNil}
use Rattle.check_words.specs.Words.{Atoms, OfKind}
use Rattle.checks.specs.Checks.{Gives, gives_some, ◌▷◌}
use Rattle.checks.specs.Questions.{below}
use Rattle.descriptors.specs.declared.names.Names.{Names}
use Rattle.eval_model.specs.Expressions.{nil_type}
use Rattle.expr_needs.specs.declared.kind.Kind.TheVariants as kind
use Rattle.held_operations.specs.Constructs.{perform_operations}
use Rattle.needs.specs.Needs.{asks}
use Rattle.operations.specs.Kinds.{IsNil}
use Rattle.operations.specs.Rows.{Surroundings}
use Rattle.operations.specs.Typing.{OpTyped}
use Rattle.operations.specs.declared.operation.Operation.TheVariants.{Panic, Pop}
use Rattle.operations.specs.declared.operation.Operation.{Operation}
use Rattle.tree_promises.specs.Laws.{MadeStatementsAreTyped}
use Rattle.tree_promises.specs.Made.{AreTypedExprs, sem}
use Rattle.tree_promises.specs.MadeStmts.{IsTypedStmt, MadeStmtIsTyped}
use Rattle.tree_promises.specs.Types.{IsTypedExpr}
use Rattle.type_model.specs.Basic.{InBasic}
use Rattle.type_model.specs.Calls.{Asked}
use Rattle.type_model.specs.Inclusion.{Sub}
use Rattle.type_model.specs.Membership.{In}
use Rattle.type_model.specs.declared.answers.TypeLimit.{TypeLimit}
use Rattle.type_model.specs.declared.atoms.AtomDef.{AtomDef}
use Rattle.type_model.specs.declared.basic.BasicSet.TheVariants.{Nil as NilOnly}
use Rattle.type_model.specs.declared.basic.SemType.{SemType}
use Rattle.type_model.specs.declared.basic.Ty.{Ty}
use Rattle.typed_needs.proofs.Items.{same-some, want-put}
use Rattle.typed_needs.proofs.Opened.{as-lasts, same-lasts}
use Rattle.typed_needs.proofs.Placed.{last-same}
use Rattle.typed_needs.specs.Pieces.{IsBefore}
use Rattle.typed_needs.specs.Placing.{IsPlaced}
use Rattle.typed_stmts.proofs.Words.{parts-taken, put-from, put-then, put-weaker, stmt-put, wants-dropped, flow-changed, part-taken}
use Rattle.typed_stmts.specs.Adding.{AddsStmt, AddsTyped}
use Rattle.typed_stmts.specs.Ended.{EndsAreTyped, JumpsAreTyped, NilReturnIsTyped, PanicIsTyped, ResultIsWanted, ReturnIsTyped}
use Rattle.typed_tree.specs.SharedTypes.{Shared, sem_of}
use Rattle.typed_tree.specs.declared.expr.TypedExpr.{TypedExpr}
use Rattle.typed_tree.specs.declared.stmt.PerformForm.TheVariants as perform
use Rattle.typed_tree.specs.declared.stmt.PerformForm.{PerformForm}
use Rattle.typed_tree.specs.declared.stmt.TypedStmt.{TypedStmt}

module _ (made : MadeStatementsAreTyped) (passes : List AtomDef → Asked → TypeLimit → Type 0) (names : Names) (env : List AtomDef) (place : Surroundings) where
  pub result-wanted : ResultIsWanted passes names env place
  unfolding ◌▷◌ gives_some
  result-wanted old new (u, a, (last, e1), put) placed =
      let (x, same, e2) = want-put (Some u.result) tt a new put in
      let (w, is, value) = same-some (Some u.result) x u.result same refl in (
        w,
        e2 ∙ ap (λ (s : State). record s { wants = s.wants ++ x ∷ [] }) e1 ∙ ap (λ (y : Option Shared). record old { wants = old.wants ++ y ∷ [] }) is,
        ap (λ (t : Ty). t.sem) value ∙ ap (λ (v : UnitAtWork). sem_of v.result) (last-same old.units u placed.unit last placed.at_hand) ∙ sym placed.result,
      )

  -- nil is below the result of the unit
  nil-asked : (at : Place) (u : Unit {0}) (old new : State) → nil_is_result passes at old (Gives u) new
      → (w : UnitAtWork) × (nil : Ty) × IsLast old.units w × OfKind kind.Nothing old.atoms nil × Sub old.atoms nil.sem (sem_of w.result) × (new ≡ old)
  unfolding ◌▷◌ gives_some asks below
  nil-asked at u old new (w, a, (last, e1), (nil, b, (nothing, e2), ((under, atoms), over))) =
      let two : b ≡ old = e2 ∙ e1 in (
        w,
        nil,
        last,
        subst (λ (s : State). OfKind kind.Nothing s.atoms nil) e1 nothing,
        subst (λ (s : State). Sub s.atoms nil.sem (sem_of w.result)) two under,
        over ∙ ap (λ (xs : Atoms). record b { atoms = xs }) atoms ∙ two,
      )

  only-nil : (x : Shape) → InBasic x NilOnly → IsNil x
  only-nil Nil i = refl
  only-nil (BoolShape b) i = absurd i
  only-nil (Int n) i = absurd i
  only-nil (Str t) i = absurd i
  only-nil (List' mark _ items) i = absurd i
  only-nil (Mapping' mark _ fields) i = absurd i
  only-nil (Error' _ detail) i = absurd i
  only-nil (Function isolated graph) i = absurd i
  only-nil (Future' _ results) i = absurd i

  pub nil-below : (old : State) (w : UnitAtWork) (nil : Ty) → IsBefore env old → IsPlaced place old → IsLast old.units w → OfKind kind.Nothing old.atoms nil
      → Sub old.atoms nil.sem (sem_of w.result) → Sub env nil_type place.result
  nil-below old w nil before placed last nothing under x valid i =
      let unit : UnitBelow (length old.atoms) w = last-has (UnitBelow (length old.atoms)) old.units w last before.stands.units in
      let one : w ≡ placed.unit = last-same old.units w placed.unit last placed.at_hand in
      let result : place.result ≡ sem_of w.result = placed.result ∙ ap (λ (v : UnitAtWork). sem_of v.result) (sym one) in
      subst (λ t. In env x t) (sym result)
      ((before.keeps.shapes (sem_of w.result) unit.result.0 x).0 (under x valid ((nothing.0.shapes x valid).1 (only-nil x i))))

  module _ (inside : Bool) where
    pieces : (truth : SemType) (s : TypedStmt) (at : Place) → MadeStmtIsTyped env place truth inside s at
    pieces truth s at = (made env place inside truth s at).0

    pub performed-opened : (form : PerformForm) (count : ℕ) (at : Place) (old new : State) → performs form count at old (Gives tt) new
        → (parts : List TypedExpr) × AreLast old.found count parts × AddsStmt (IsPerform form parts at) [] old new
    unfolding ◌▷◌
    performed-opened form count at old new (parts, a, taken, added) =
        let (last, e1) = parts-taken count parts old a taken in
        (parts, last, put-from (IsPerform form parts at) old a new (ap (λ (s : State). s.blocks) e1) (stmt-put (IsPerform form parts at) tt a new added))

    pub performed-typed : (form : PerformForm) (op : Operation) (parts : List TypedExpr) (at : Place) (old new : State) → AddsStmt (IsPerform form parts at) [] old new
        → perform_operations form ≡ op ∷ [] → AreTypedExprs env place parts → OpTyped env place op (map sem parts) None → AddsTyped env place inside [] old new
    performed-typed form op parts at old new put ops typed row =
        put-weaker (IsPerform form parts at) (IsTypedStmt env place inside) [] old new
        (λ s (v, is, items). let p = pieces nil_type s at in
        p.performed form op v is ops (subst (λ xs. AreTypedExprs env place xs) (sym items) typed) (subst (λ xs. OpTyped env place op (map sem xs) None) (sym items) row)) put

    one-performed : (form : PerformForm) (op : Operation) (at : Place) (old new : State) (e : TypedExpr) → performs form 1 at old (Gives tt) new → IsLast old.found e
        → IsTypedExpr env place e → perform_operations form ≡ op ∷ [] → OpTyped env place op (sem e ∷ []) None → AddsTyped env place inside [] old new
    one-performed form op at old new e met last typed ops row =
        let (parts, lasts, put) = performed-opened form 1 at old new met in
        let same : parts ≡ e ∷ [] = same-lasts old.found 1 parts (e ∷ []) lasts (as-lasts old.found e last) in
        performed-typed form op (e ∷ []) at old new (subst (λ xs. AddsStmt (IsPerform form xs at) [] old new) same put) ops (typed, tt) row

    panics : PanicIsTyped passes names env place inside
    panics at old new e met last typed error = one-performed perform.Panic Panic at old new e met last typed refl (error, refl)

    pub return-opened : (at : Place) (old new : State) → returns at old (Gives tt) new
        → (e : TypedExpr) × IsLast old.found e × AddsStmt (IsReturn e at) [] old new
    unfolding ◌▷◌
    return-opened at old new (e, a, taken, (u, b, dropped, (v, c, added, ends))) =
        let (last, e1) = part-taken e old a taken in
        let e2 = wants-dropped 1 u a b dropped in
        let s = flow-changed stopped tt c new ends in (
          e,
          last,
          put-then (IsReturn e at) [] old c new
              (put-from (IsReturn e at) old b c (ap (λ (s : State). s.blocks) e2 ∙ ap (λ (s : State). s.blocks) e1) (stmt-put (IsReturn e at) v b c added))
              (ap (λ (s : State). s.blocks) s.all),
        )

    returned : ReturnIsTyped passes names env place inside
    returned at old new e met last typed under =
        let (f, l, put) = return-opened at old new met in
        let one : e ≡ f = last-same old.found e f last l in
        put-weaker (IsReturn f at) (IsTypedStmt env place inside) [] old new
        (λ s (v, is, value). let p = pieces nil_type s at in
        p.returned v is (subst (λ x. IsTypedExpr env place x) (one ∙ sym value) typed) (subst (λ x. Sub env (sem x) place.result) (one ∙ sym value) under)) put

    pub nil-opened : (at : Place) (old new : State) → returns_nil passes at old (Gives tt) new
        → (w : UnitAtWork) × (nil : Ty) × IsLast old.units w × OfKind kind.Nothing old.atoms nil × Sub old.atoms nil.sem (sem_of w.result) × AddsStmt (IsReturnNil at) [] old new
    unfolding ◌▷◌
    nil-opened at old new (u, a, asked, (v, b, added, ends)) =
        let (w, nil, last, nothing, under, e1) = nil-asked at u old a asked in
        let s = flow-changed stopped tt b new ends in (
          w,
          nil,
          last,
          nothing,
          under,
          put-then (IsReturnNil at) [] old b new (put-from (IsReturnNil at) old a b (ap (λ (s : State). s.blocks) e1) (stmt-put (IsReturnNil at) v a b added))
              (ap (λ (s : State). s.blocks) s.all),
        )

    nil-returned : NilReturnIsTyped passes names env place inside
    nil-returned at old new before met placed =
        let (w, nil, last, nothing, under, put) = nil-opened at old new met in
        put-weaker (IsReturnNil at) (IsTypedStmt env place inside) [] old new
        (λ s is. let p = pieces nil_type s at in p.nil_returned is (nil-below old w nil before placed last nothing under)) put

    ends-are-typed : EndsAreTyped passes names env place inside
    ends-are-typed =
        record {
          wanted = result-wanted;
          ignored = λ at old new e met last typed. one-performed perform.Ignore Pop at old new e met last typed refl refl;
          evaluated = λ at old new e met last typed. one-performed perform.Evaluate Pop at old new e met last typed refl refl;
          panics = panics;
          returned = returned;
          nil_returned = nil-returned;
        }

  pub jump-opened : (P : TypedStmt → Type 0) (old new : State) → (adds_stmt P ▷ λ u. stops) old (Gives tt) new → AddsStmt P [] old new
  unfolding ◌▷◌
  jump-opened P old new (v, b, added, ends) =
      let s = flow-changed stopped tt b new ends in
      put-then P [] old b new (put-from P old old b refl (stmt-put P v old b added)) (ap (λ (s : State). s.blocks) s.all)

  jumps : JumpsAreTyped passes names env place
  jumps =
      record {
        breaks = λ at old new met. put-weaker (IsBreak at) (IsTypedStmt env place true) [] old new
            (λ s is. let p = pieces true nil_type s at in p.broken is refl) (jump-opened (IsBreak at) old new met);
        continues = λ at old new met. put-weaker (IsContinue at) (IsTypedStmt env place true) [] old new
            (λ s is. let p = pieces true nil_type s at in p.continued is refl) (jump-opened (IsContinue at) old new met);
      }

  pub all-ends-are-typed : ((inside : Bool) → EndsAreTyped passes names env place inside) × JumpsAreTyped passes names env place
  all-ends-are-typed = (ends-are-typed, jumps)
