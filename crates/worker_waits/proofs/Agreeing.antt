-- What is marked in a tree is what the way through it shows.
use Rattle.std.proofs.Common.{◌≡◌, ◌++◌, ◌∙◌, ℕ, List, [], ◌∷◌, Some, None, map, refl, sym, subst, ap, arith, Bool, true, false}
use Rattle.std.specs.Prelude.{◌&&◌, ◌||◌, if◌then◌else◌, not}
use Rattle.std.proofs.lemmas.Bool.{false≢true}
use Rattle.std.proofs.lemmas.List.{append-nil, append_assoc}
use denote.Hole.Carrier
use mathlib.Core.Former
use Rattle.std.specs.Global.{Global}
use Rattle.std.specs.formers.vec.Vec
use Rattle.bal_base.specs.declared.place.Place.{Place}
use Rattle.type_model.specs.declared.basic.SemType.{SemType}
use Rattle.operations.specs.Talk.{workers_in}
use Rattle.typed_tree.specs.declared.event.EventKind.{EventKind}
use Rattle.typed_tree.specs.declared.event.EventKind.TheVariants.{Send, Post, Done, Receive, Flush, Wait}
use Rattle.typed_tree.specs.declared.expr.TypedExpr.{TypedExpr, Strict', Implied, Local as Variable, And', Or', Conditional', Elvis', Check', Trap', Function', Parens', out-TypedExpr, fold_out-TypedExpr, Row_of-TypedExpr, end_of-TypedExpr, more_of-TypedExpr, items-the_row-TypedExpr as exprs_in, items_shown-the_row-TypedExpr-0 as exprs-shown}
use Rattle.typed_tree.specs.declared.form.StrictForm.{StrictForm}
use Rattle.typed_tree.specs.declared.form.StrictForm.TheVariants as form
use Rattle.typed_tree.specs.declared.stmt.Source.{Source}
use Rattle.typed_tree.specs.declared.stmt.Source.TheVariants.{Range, List as ListSource}
use Rattle.typed_tree.specs.declared.stmt.TypedClause.{TypedClause, fold_out-TypedClause}
use Rattle.typed_tree.specs.declared.stmt.TypedStmt.{TypedStmt, Set, Perform, Update, If', While', Foreach', Match', Return, Block' as BlockStmt, Break, Continue, out-TypedStmt, fold_out-TypedStmt, Row_of-TypedStmt, end_of-TypedStmt, more_of-TypedStmt, items-the_row-TypedStmt as stmts_in, items_shown-the_row-TypedStmt-0 as stmts-shown, Row_of-TypedClause, end_of-TypedClause, more_of-TypedClause, items-the_row-TypedClause as clauses_in, items_shown-the_row-TypedClause-1 as clauses-shown}
use Rattle.typed_tree.specs.declared.stmt.TypedStmt.TheBlock.{shown-the_row-TypedStmt-0}
use Rattle.typed_tree.specs.declared.stmt.UpdateTarget.{UpdateTarget}
use Rattle.typed_tree.specs.declared.stmt.UpdateTarget.TheVariants as target
use Rattle.typed_tree.specs.Listed.{Listed, nothing, one, ◌&◌, joined}
use Rattle.typed_tree.specs.SharedTypes.{sem_of}
use Rattle.typed_tree.specs.StmtLayers.{of_typed_clause, of_typed_stmt}
use Rattle.worker_pairing.specs.Events.{is_message}
use Rattle.worker_pairing.specs.Marks.{Mark, Says, Early, Returns, With, expr_marks, exprs_marks, form_marks, guarded, if_checked, last_type, marked, marking, nil_type, set_apart, source_marks, stmts_marks, target_marks, typed_marks, wait_marks, expr_step as mark_step, stmt_step as mark_stmt, clause_step as mark_clause}
use Rattle.worker_waits.specs.Agreement.{AreShown, all_good, steps_in, names_one, no_messages, none_said}
use Rattle.worker_waits.specs.Left.{Shown, all_shown, expr_shown, exprs_shown, form_shown, nothing_shown, one_shown, showing, source_shown, stmts_shown, target_shown, then_shown, wait_shown, within, guarded as guards, expr_step as show_step, stmt_step as show_stmt, clause_step as show_clause}

-- ---- tests of two parts

both : (a b : Bool) → (a && b) ≡ true → (a ≡ true) × (b ≡ true)
both true true h = (refl, refl)
both true false h = absurd (false≢true h)
both false b h = absurd (false≢true h)

join : (a b : Bool) → a ≡ true → b ≡ true → (a && b) ≡ true
join true b e h = h
join false b e h = absurd (false≢true e)

-- ---- parts that are set apart say nothing, where all is good

apart-good : (p : Listed Mark) → all_good (set_apart p) ≡ true → none_said p ≡ true
apart-good nothing h = refl
apart-good (one (Says kind at inner type)) h = absurd (false≢true h)
apart-good (one Early) h = refl
apart-good (one (Returns type at)) h = refl
apart-good (p & q) h =
    let g = both (all_good (set_apart p)) (all_good (set_apart q)) h in join (none_said p) (none_said q) (apart-good p g.0) (apart-good q g.1)

apart-none : (p : Listed Mark) → none_said (set_apart p) ≡ true → none_said p ≡ true
apart-none nothing h = refl
apart-none (one (Says kind at inner type)) h = absurd (false≢true h)
apart-none (one Early) h = refl
apart-none (one (Returns type at)) h = refl
apart-none (p & q) h =
    let g = both (none_said (set_apart p)) (none_said (set_apart q)) h in join (none_said p) (none_said q) (apart-none p g.0) (apart-none q g.1)

apart-kinds : (p : Listed Mark) → none_said p ≡ true → steps_in (set_apart p) ≡ []
apart-kinds nothing h = refl
apart-kinds (one (Says kind at inner type)) h = absurd (false≢true h)
apart-kinds (one Early) h = refl
apart-kinds (one (Returns type at)) h = refl
apart-kinds (p & q) h =
    let g = both (none_said p) (none_said q) h in
    ap (λ z. z ++ steps_in (set_apart q)) (apart-kinds p g.0) ∙ apart-kinds q g.1

none-calm : (p : Listed Mark) → none_said p ≡ true → no_messages p ≡ true
none-calm nothing h = refl
none-calm (one (Says kind at inner type)) h = absurd (false≢true h)
none-calm (one Early) h = refl
none-calm (one (Returns type at)) h = refl
none-calm (p & q) h =
    let g = both (none_said p) (none_said q) h in join (no_messages p) (no_messages q) (none-calm p g.0) (none-calm q g.1)

-- ---- what a trap guards

one-guarded : (message inner named : Bool) → (not (message || inner) && named) ≡ true → ((not inner && named) ≡ true) × (not message ≡ true)
one-guarded true inner named h = absurd (false≢true h)
one-guarded false inner named h = (h, refl)

guard-good : (p : Listed Mark) → all_good (guarded p) ≡ true → (all_good p ≡ true) × (no_messages p ≡ true)
guard-good nothing h = (refl, refl)
guard-good (one (Says kind at inner type)) h = one-guarded (is_message kind) inner (names_one kind) h
guard-good (one Early) h = (refl, refl)
guard-good (one (Returns type at)) h = (refl, refl)
guard-good (p & q) h =
    let g = both (all_good (guarded p)) (all_good (guarded q)) h in
    let a = guard-good p g.0 in
    let b = guard-good q g.1 in
    (join (all_good p) (all_good q) a.0 b.0, join (no_messages p) (no_messages q) a.1 b.1)

guard-none : (p : Listed Mark) → none_said (guarded p) ≡ true → none_said p ≡ true
guard-none nothing h = refl
guard-none (one (Says kind at inner type)) h = absurd (false≢true h)
guard-none (one Early) h = refl
guard-none (one (Returns type at)) h = refl
guard-none (p & q) h =
    let g = both (none_said (guarded p)) (none_said (guarded q)) h in join (none_said p) (none_said q) (guard-none p g.0) (guard-none q g.1)

guard-calm : (p : Listed Mark) → no_messages (guarded p) ≡ true → no_messages p ≡ true
guard-calm nothing h = refl
guard-calm (one (Says kind at inner type)) h = h
guard-calm (one Early) h = refl
guard-calm (one (Returns type at)) h = refl
guard-calm (p & q) h =
    let g = both (no_messages (guarded p)) (no_messages (guarded q)) h in join (no_messages p) (no_messages q) (guard-calm p g.0) (guard-calm q g.1)

guard-kinds : (p : Listed Mark) → steps_in (guarded p) ≡ steps_in p
guard-kinds nothing = refl
guard-kinds (one (Says kind at inner type)) = refl
guard-kinds (one Early) = refl
guard-kinds (one (Returns type at)) = refl
guard-kinds (p & q) = ap (λ z. z ++ steps_in (guarded q)) (guard-kinds p) ∙ ap (λ z. steps_in p ++ z) (guard-kinds q)

-- ---- parts put together

agree-nothing : AreShown nothing nothing_shown
agree-nothing = record { made = λ h. (refl, λ k. refl); silent = λ h. (refl, refl); calm = λ h. refl }

agree-then : (p q : Listed Mark) (a b : Shown) → AreShown p a → AreShown q b → AreShown (p & q) (then_shown a b)
agree-then p q a b A B =
    record {
      made = λ h.
          let g = both (all_good p) (all_good q) h in
          let x = A.made g.0 in
          let y = B.made g.1 in
          let x0 = x.0 in
          let y0 = y.0 in
          (omega (arith, x0, y0), λ k. x.1 (b.own k) ∙ ap (λ z. steps_in p ++ z) (y.1 k) ∙ sym (append_assoc (steps_in p) (steps_in q) k));
      silent = λ h.
          let g = both (none_said p) (none_said q) h in
          let x = A.silent g.0 in
          let y = B.silent g.1 in
          let x0 = x.0 in
          let y0 = y.0 in
          let x1 = x.1 in
          let y1 = y.1 in
          (omega (arith, x0, y0), omega (arith, x1, y1));
      calm = λ h.
          let g = both (no_messages p) (no_messages q) h in
          let x = A.calm g.0 in
          let y = B.calm g.1 in
          omega (arith, x, y);
    }

-- what says nothing adds nothing
agree-mute : (p q : Listed Mark) (a : Shown) → steps_in q ≡ [] → AreShown p a → AreShown (p & q) a
agree-mute p q a none A =
    record {
      made = λ h.
          let x = A.made (both (all_good p) (all_good q) h).0 in
          (x.0, λ k. x.1 k ∙ ap (λ z. z ++ k) (sym (append-nil (steps_in p)) ∙ ap (λ z. steps_in p ++ z) (sym none)));
      silent = λ h. A.silent (both (none_said p) (none_said q) h).0;
      calm = λ h. A.calm (both (no_messages p) (no_messages q) h).0;
    }

agree-apart : (p : Listed Mark) (a : Shown) → AreShown p a → AreShown (set_apart p) (within a)
agree-apart p a A =
    record {
      made = λ h.
          let n = apart-good p h in
          let x = A.silent n in
          let x0 = x.0 in
          let x1 = x.1 in
          (omega (arith, x0, x1), λ k. ap (λ z. z ++ k) (sym (apart-kinds p n)));
      silent = λ h.
          let x = A.silent (apart-none p h) in
          let x0 = x.0 in
          let x1 = x.1 in
          (refl, omega (arith, x0, x1));
      calm = λ h. refl;
    }

agree-guarded : (p : Listed Mark) (a : Shown) → AreShown p a → AreShown (guarded p) (guards a)
agree-guarded p a A =
    record {
      made = λ h.
          let g = guard-good p h in
          let x = A.made g.0 in
          let c = A.calm g.1 in
          let w = x.0 in
          (omega (arith, c, w), λ k. x.1 k ∙ ap (λ z. z ++ k) (sym (guard-kinds p)));
      silent = λ h.
          let n = guard-none p h in
          let x = A.silent n in
          let c = A.calm (none-calm p n) in
          let w = x.1 in
          (x.0, omega (arith, c, w));
      calm = λ h. A.calm (guard-calm p h);
    }

-- ---- forms

if-message : (b : Bool) → not b ≡ true → ◌≡◌ {A = ℕ} (if b then 1 else 0) 0
if-message true h = absurd (false≢true h)
if-message false h = refl

agree-one : (e : EventKind) (at : Place) (type : SemType) → AreShown (one (Says e at false type)) (one_shown e)
agree-one e at type = record { made = λ h. (refl, λ k. refl); silent = λ h. absurd (false≢true h); calm = λ h. if-message (is_message e) h }

-- an event that names nobody is wrong
agree-none : (e : EventKind) (at : Place) (type : SemType) → names_one e ≡ false → AreShown (one (Says e at false type)) (record { own = λ k. k; size = 0; messages = 0; wrong = 1 })
agree-none e at type none =
    record { made = λ h. absurd (false≢true (sym none ∙ h)); silent = λ h. absurd (false≢true h); calm = λ h. refl }

agree-wait : (ns : List ℕ) (at : Place) → AreShown (wait_marks ns at) (wait_shown ns)
agree-wait [] at = agree-nothing
agree-wait (n ∷ ns) at = agree-one (Wait (n ∷ ns)) at nil_type

agree-form : (f : StrictForm) (sent gets : SemType) (at : Place) → AreShown (form_marks f sent gets at) (form_shown f)
agree-form (form.Literal c) sent gets at = agree-nothing
agree-form (form.Constant c) sent gets at = agree-nothing
agree-form (form.Variable m) sent gets at = agree-nothing
agree-form (form.FunctionName unit) sent gets at = agree-nothing
agree-form (form.Operator op) sent gets at = agree-nothing
agree-form (form.Is t) sent gets at = agree-nothing
agree-form (form.Cast t) sent gets at = agree-nothing
agree-form (form.List atom immutable) sent gets at = agree-nothing
agree-form (form.Mapping atom immutable) sent gets at = agree-nothing
agree-form form.Error sent gets at = agree-nothing
agree-form (form.Read how) sent gets at = agree-nothing
agree-form (form.Call called) sent gets at = agree-nothing
agree-form (form.Library call atom cast) sent gets at = agree-nothing
agree-form (form.Start started) sent gets at = agree-nothing
agree-form (form.Send (Some w)) sent gets at = agree-one (Send (Some w)) at sent
agree-form (form.Send None) sent gets at = agree-none (Send None) at sent refl
agree-form (form.SyncSend (Some w)) sent gets at =
    agree-then _ _ (one_shown (Post (Some w))) (one_shown (Done (Some w))) (agree-one (Post (Some w)) at sent) (agree-one (Done (Some w)) at nil_type)
agree-form (form.SyncSend None) sent gets at =
    record { made = λ h. absurd (false≢true h); silent = λ h. absurd (false≢true h); calm = λ h. refl }
agree-form (form.Receive (Some w)) sent gets at = agree-one (Receive (Some w)) at gets
agree-form (form.Receive None) sent gets at = agree-none (Receive None) at gets refl
agree-form (form.Flush (Some w)) sent gets at = agree-one (Flush (Some w)) at nil_type
agree-form (form.Flush None) sent gets at = agree-none (Flush None) at nil_type refl
agree-form (form.WaitAny []) sent gets at =
    record { made = λ h. absurd (false≢true h); silent = λ h. absurd (false≢true h); calm = λ h. refl }
agree-form (form.WaitAny (name ∷ names)) sent gets at = agree-wait (workers_in (name ∷ names)) at
agree-form (form.WaitAll atom names) sent gets at = agree-wait (workers_in names) at

agree-checked : (panics : Bool) (p : Listed Mark) (a : Shown) → AreShown p a → AreShown (p & if_checked panics) a
agree-checked true p a A = agree-mute p nothing a refl A
agree-checked false p a A = agree-mute p (one Early) a refl A

-- ---- expressions

by-layers : (e : TypedExpr) {m : With} {s : Shown} → typed_marks e ≡ m → expr_shown e ≡ s → AreShown m.1 s → AreShown (expr_marks e) (expr_shown e)
by-layers e {m} {s} marks shows h = subst (λ x. AreShown x.1 (expr_shown e)) (sym marks) (subst (λ x. AreShown m.1 x) (sym shows) h)

mutual
  unfolding out-TypedExpr Carrier.out

  pub expr-agrees : (e : TypedExpr) → AreShown (expr_marks e) (expr_shown e)
  expr-agrees (Implied value type at) = by-layers (Implied value type at) (fold_out-TypedExpr With mark_step (Implied value type at)) (fold_out-TypedExpr Shown show_step (Implied value type at)) agree-nothing
  expr-agrees (Variable slot narrowed type at) = by-layers (Variable slot narrowed type at) (fold_out-TypedExpr With mark_step (Variable slot narrowed type at)) (fold_out-TypedExpr Shown show_step (Variable slot narrowed type at)) agree-nothing
  expr-agrees (And' s left t right type at) =
      by-layers (And' s left t right type at) (fold_out-TypedExpr With mark_step (And' s left t right type at)) (fold_out-TypedExpr Shown show_step (And' s left t right type at))
      (agree-then (expr_marks left) (set_apart (expr_marks right)) (expr_shown left) (within (expr_shown right)) (expr-agrees left) (agree-apart (expr_marks right) (expr_shown right) (expr-agrees right)))
  expr-agrees (Or' s left t right type at) =
      by-layers (Or' s left t right type at) (fold_out-TypedExpr With mark_step (Or' s left t right type at)) (fold_out-TypedExpr Shown show_step (Or' s left t right type at))
      (agree-then (expr_marks left) (set_apart (expr_marks right)) (expr_shown left) (within (expr_shown right)) (expr-agrees left) (agree-apart (expr_marks right) (expr_shown right) (expr-agrees right)))
  expr-agrees (Conditional' s condition t middle u last type at) =
      by-layers (Conditional' s condition t middle u last type at) (fold_out-TypedExpr With mark_step (Conditional' s condition t middle u last type at)) (fold_out-TypedExpr Shown show_step (Conditional' s condition t middle u last type at))
      (agree-then (expr_marks condition) (set_apart (expr_marks middle) & set_apart (expr_marks last)) (expr_shown condition) (then_shown (within (expr_shown middle)) (within (expr_shown last))) (expr-agrees condition)
      (agree-then (set_apart (expr_marks middle)) (set_apart (expr_marks last)) (within (expr_shown middle)) (within (expr_shown last)) (agree-apart (expr_marks middle) (expr_shown middle) (expr-agrees middle)) (agree-apart (expr_marks last) (expr_shown last) (expr-agrees last))))
  expr-agrees (Elvis' own s left t right type at) =
      by-layers (Elvis' own s left t right type at) (fold_out-TypedExpr With mark_step (Elvis' own s left t right type at)) (fold_out-TypedExpr Shown show_step (Elvis' own s left t right type at))
      (agree-then (expr_marks left) (set_apart (expr_marks right)) (expr_shown left) (within (expr_shown right)) (expr-agrees left) (agree-apart (expr_marks right) (expr_shown right) (expr-agrees right)))
  expr-agrees (Check' panics own s operand type at) =
      by-layers (Check' panics own s operand type at) (fold_out-TypedExpr With mark_step (Check' panics own s operand type at)) (fold_out-TypedExpr Shown show_step (Check' panics own s operand type at))
      (agree-checked panics (expr_marks operand) (expr_shown operand) (expr-agrees operand))
  expr-agrees (Trap' s operand type at) =
      by-layers (Trap' s operand type at) (fold_out-TypedExpr With mark_step (Trap' s operand type at)) (fold_out-TypedExpr Shown show_step (Trap' s operand type at))
      (agree-guarded (expr_marks operand) (expr_shown operand) (expr-agrees operand))
  expr-agrees (Function' function s value type at) =
      by-layers (Function' function s value type at) (fold_out-TypedExpr With mark_step (Function' function s value type at)) (fold_out-TypedExpr Shown show_step (Function' function s value type at)) agree-nothing
  expr-agrees (Parens' s inner type at) =
      by-layers (Parens' s inner type at) (fold_out-TypedExpr With mark_step (Parens' s inner type at)) (fold_out-TypedExpr Shown show_step (Parens' s inner type at)) (expr-agrees inner)
  expr-agrees (Strict' f shape operands type at) =
      by-layers (Strict' f shape operands type at) (fold_out-TypedExpr With mark_step (Strict' f shape operands type at)) (fold_out-TypedExpr Shown show_step (Strict' f shape operands type at))
      (subst (λ es. AreShown (marked (map typed_marks es) & form_marks f (last_type (map typed_marks es)) (sem_of type) at) (then_shown (exprs_shown es) (form_shown f))) (sym (exprs-shown shape operands))
      (agree-then (marked (map typed_marks (exprs_in _ operands))) (form_marks f (last_type (map typed_marks (exprs_in _ operands))) (sem_of type) at) (exprs_shown (exprs_in _ operands)) (form_shown f) (row-agrees operands) (agree-form f (last_type (map typed_marks (exprs_in _ operands))) (sem_of type) at)))

  row-agrees : {n : _} (row : Row_of-TypedExpr n) → AreShown (marked (map typed_marks (exprs_in _ row))) (exprs_shown (exprs_in _ row))
  row-agrees end_of-TypedExpr = agree-nothing
  row-agrees (more_of-TypedExpr e rest) =
      agree-then (expr_marks e) (marked (map typed_marks (exprs_in _ rest))) (expr_shown e) (exprs_shown (exprs_in _ rest)) (expr-agrees e) (row-agrees rest)

exprs-agree : (es : List TypedExpr) → AreShown (exprs_marks es) (exprs_shown es)
exprs-agree [] = agree-nothing
exprs-agree (e ∷ es) = agree-then (expr_marks e) (exprs_marks es) (expr_shown e) (exprs_shown es) (expr-agrees e) (exprs-agree es)

-- ---- statements

target-agrees : (t : UpdateTarget) → AreShown (target_marks t) (target_shown t)
target-agrees (target.Local slot narrowed type) = agree-nothing
target-agrees (target.Variable m) = agree-nothing
target-agrees (target.Member own how container key type) =
    agree-then (expr_marks container.value) (expr_marks key.value) (expr_shown container.value) (expr_shown key.value) (expr-agrees container.value) (expr-agrees key.value)

source-agrees : (s : Source) → AreShown (source_marks s) (source_shown s)
source-agrees (Range own end from to) =
    agree-then (expr_marks from.value) (expr_marks to.value) (expr_shown from.value) (expr_shown to.value) (expr-agrees from.value) (expr-agrees to.value)
source-agrees (ListSource own list) = expr-agrees list.value

return-agrees : (type : SemType) (at : Place) → AreShown (one (Returns type at)) nothing_shown
return-agrees type at = record { made = λ h. (refl, λ k. refl); silent = λ h. (refl, refl); calm = λ h. refl }

abbrev stmt_marks : TypedStmt → Listed Mark
stmt_marks = of_typed_stmt marking

abbrev stmt_shows : TypedStmt → Shown
stmt_shows = of_typed_stmt showing

abbrev clause_marks : TypedClause → Listed Mark
clause_marks = of_typed_clause marking

abbrev clause_shows : TypedClause → Shown
clause_shows = of_typed_clause showing

by-two : {m n : Listed Mark} {a b : Shown} → m ≡ n → a ≡ b → AreShown n b → AreShown m a
by-two {m} {n} {a} {b} marks shows h = subst (λ x. AreShown x a) (sym marks) (subst (λ x. AreShown n x) (sym shows) h)

abbrev ClausesAgree : List TypedClause → Type 0
ClausesAgree cs = AreShown (joined (map clause_marks cs)) (all_shown (map clause_shows cs))

abbrev StmtsAgree : List TypedStmt → Type 0
StmtsAgree ss = AreShown (stmts_marks ss) (stmts_shown ss)

abbrev shown : (shape : (Vec.the_former (Former.this {0}) Global).Shape) → Row_of-TypedStmt (Former.arity (Vec.the_former (Former.this {0}) Global) shape) → List TypedStmt
shown shape row = (shown-the_row-TypedStmt-0 shape row).items

block-agrees : (shape : _) (row : _) → StmtsAgree (stmts_in _ row) → StmtsAgree (shown shape row)
block-agrees shape row h = subst StmtsAgree (sym (stmts-shown shape row)) h

apart-block : (ss : List TypedStmt) → StmtsAgree ss → AreShown (set_apart (stmts_marks ss)) (within (stmts_shown ss))
apart-block ss h = agree-apart (stmts_marks ss) (stmts_shown ss) h

mutual
  unfolding out-TypedStmt Carrier.out

  pub stmt-agrees : (s : TypedStmt) → AreShown (stmt_marks s) (stmt_shows s)
  stmt-agrees (Set slot value at) = by-two (fold_out-TypedStmt (Listed Mark) (Listed Mark) mark_stmt mark_clause (Set slot value at)) (fold_out-TypedStmt Shown Shown show_stmt show_clause (Set slot value at)) (expr-agrees value.value)
  stmt-agrees (Perform form operands at) = by-two (fold_out-TypedStmt (Listed Mark) (Listed Mark) mark_stmt mark_clause (Perform form operands at)) (fold_out-TypedStmt Shown Shown show_stmt show_clause (Perform form operands at)) (exprs-agree operands.items)
  stmt-agrees (Update t op value at) =
      by-two (fold_out-TypedStmt (Listed Mark) (Listed Mark) mark_stmt mark_clause (Update t op value at)) (fold_out-TypedStmt Shown Shown show_stmt show_clause (Update t op value at))
      (agree-then (target_marks t) (expr_marks value.value) (target_shown t) (expr_shown value.value) (target-agrees t) (expr-agrees value.value))
  stmt-agrees (If' condition shape first shape' second at) =
      by-two (fold_out-TypedStmt (Listed Mark) (Listed Mark) mark_stmt mark_clause (If' condition shape first shape' second at)) (fold_out-TypedStmt Shown Shown show_stmt show_clause (If' condition shape first shape' second at))
      (agree-then (expr_marks condition.value) _ (expr_shown condition.value) _ (expr-agrees condition.value)
      (agree-then _ _ _ _ (apart-block (shown shape first) (block-agrees shape first (stmts-agree first))) (apart-block (shown shape' second) (block-agrees shape' second (stmts-agree second)))))
  stmt-agrees (While' condition shape body at) =
      by-two (fold_out-TypedStmt (Listed Mark) (Listed Mark) mark_stmt mark_clause (While' condition shape body at)) (fold_out-TypedStmt Shown Shown show_stmt show_clause (While' condition shape body at))
      (agree-apart (expr_marks condition.value & stmts_marks (shown shape body)) (then_shown (expr_shown condition.value) (stmts_shown (shown shape body)))
      (agree-then (expr_marks condition.value) (stmts_marks (shown shape body)) (expr_shown condition.value) (stmts_shown (shown shape body)) (expr-agrees condition.value) (block-agrees shape body (stmts-agree body))))
  stmt-agrees (Foreach' slot source shape body at) =
      by-two (fold_out-TypedStmt (Listed Mark) (Listed Mark) mark_stmt mark_clause (Foreach' slot source shape body at)) (fold_out-TypedStmt Shown Shown show_stmt show_clause (Foreach' slot source shape body at))
      (agree-apart (source_marks source & stmts_marks (shown shape body)) (then_shown (source_shown source) (stmts_shown (shown shape body)))
      (agree-then (source_marks source) (stmts_marks (shown shape body)) (source_shown source) (stmts_shown (shown shape body)) (source-agrees source) (block-agrees shape body (stmts-agree body))))
  stmt-agrees (Match' own subject shape clauses at) =
      by-two (fold_out-TypedStmt (Listed Mark) (Listed Mark) mark_stmt mark_clause (Match' own subject shape clauses at)) (fold_out-TypedStmt Shown Shown show_stmt show_clause (Match' own subject shape clauses at))
      (subst (λ cs. AreShown (expr_marks subject.value & set_apart (joined (map clause_marks cs))) (then_shown (expr_shown subject.value) (within (all_shown (map clause_shows cs))))) (sym (clauses-shown shape clauses))
      (agree-then (expr_marks subject.value) _ (expr_shown subject.value) _ (expr-agrees subject.value)
      (agree-apart (joined (map clause_marks (clauses_in _ clauses))) (all_shown (map clause_shows (clauses_in _ clauses))) (clauses-agree clauses))))
  stmt-agrees (Return None at) = by-two (fold_out-TypedStmt (Listed Mark) (Listed Mark) mark_stmt mark_clause (Return None at)) (fold_out-TypedStmt Shown Shown show_stmt show_clause (Return None at)) (return-agrees nil_type at)
  stmt-agrees (Return (Some e) at) =
      by-two (fold_out-TypedStmt (Listed Mark) (Listed Mark) mark_stmt mark_clause (Return (Some e) at)) (fold_out-TypedStmt Shown Shown show_stmt show_clause (Return (Some e) at))
      (agree-mute (expr_marks e.value) _ (expr_shown e.value) refl (expr-agrees e.value))
  stmt-agrees (BlockStmt shape stmts at) =
      by-two (fold_out-TypedStmt (Listed Mark) (Listed Mark) mark_stmt mark_clause (BlockStmt shape stmts at)) (fold_out-TypedStmt Shown Shown show_stmt show_clause (BlockStmt shape stmts at))
      (apart-block (shown shape stmts) (block-agrees shape stmts (stmts-agree stmts)))
  stmt-agrees (Break at) = by-two (fold_out-TypedStmt (Listed Mark) (Listed Mark) mark_stmt mark_clause (Break at)) (fold_out-TypedStmt Shown Shown show_stmt show_clause (Break at)) agree-nothing
  stmt-agrees (Continue at) = by-two (fold_out-TypedStmt (Listed Mark) (Listed Mark) mark_stmt mark_clause (Continue at)) (fold_out-TypedStmt Shown Shown show_stmt show_clause (Continue at)) agree-nothing

  stmts-agree : {n : _} (row : Row_of-TypedStmt n) → StmtsAgree (stmts_in _ row)
  stmts-agree end_of-TypedStmt = agree-nothing
  stmts-agree (more_of-TypedStmt s rest) =
      agree-then (stmt_marks s) (stmts_marks (stmts_in _ rest)) (stmt_shows s) (stmts_shown (stmts_in _ rest)) (stmt-agrees s) (stmts-agree rest)

  clauses-agree : {n : _} (row : Row_of-TypedClause n) → ClausesAgree (clauses_in _ row)
  clauses-agree end_of-TypedClause = agree-nothing
  clauses-agree (more_of-TypedClause patterns shape stmts at rest) =
      let c : TypedClause = record { patterns = patterns; stmts = shown-the_row-TypedStmt-0 shape stmts; at = at } in
      agree-then (clause_marks c) (joined (map clause_marks (clauses_in _ rest))) (clause_shows c) (all_shown (map clause_shows (clauses_in _ rest)))
      (by-two (fold_out-TypedClause (Listed Mark) (Listed Mark) mark_stmt mark_clause c) (fold_out-TypedClause Shown Shown show_stmt show_clause c) (block-agrees shape stmts (stmts-agree stmts)))
      (clauses-agree rest)

pub all-agree : (ss : List TypedStmt) → StmtsAgree ss
all-agree [] = agree-nothing
all-agree (s ∷ ss) = agree-then (stmt_marks s) (stmts_marks ss) (stmt_shows s) (stmts_shown ss) (stmt-agrees s) (all-agree ss)
