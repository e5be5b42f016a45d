-- Statements that are put: typed, and with the units of the parts and blocks that they are made of.
use Rattle.std.proofs.Common.{All, Bool, List, [], ap, append-nil, append_assoc, length, refl, subst, sym, ◌++◌, ◌∙◌, ◌∷◌, ◌≡◌}
use Rattle.std.proofs.lemmas.List.Elements.{All-append}
use Rattle.std.specs.Prelude.{is_some}
use Rattle.bal_base.specs.declared.place.Place.{Place}
use Rattle.bal_base.specs.declared.text.Name.{Name}
use Rattle.bal_tree.specs.declared.name.QualifiedName.{QualifiedName}
use Rattle.bal_tree.specs.declared.name.Word.{Word}
use Rattle.bal_tree.specs.declared.stmt.AssignOp.{AssignOp}
use Rattle.check_words.proofs.LastOnes.{kept-is}
use Rattle.check_words.specs.Members.{read_of}
use Rattle.check_words.specs.State.{AreLast, BlockAtWork, IsLast, State}
use Rattle.check_words.specs.Statements.{Assigned, AssignsModule, AssignsVariable, assigns, assigns_to, breaks, continues, declares, performs, returns, returns_nil, stores, updates_assigned, updates_element, updates_field, updates_name}
use Rattle.check_words.specs.StmtViews.{IsBreak, IsContinue, IsPerform, IsReturn, IsReturnNil, IsSet, IsUpdate}
use Rattle.checks.specs.Checks.{Gives}
use Rattle.descriptors.specs.declared.names.Names.{Names}
use Rattle.operations.specs.Rows.{Surroundings}
use Rattle.tree_promises.specs.Laws.{MadeStatementsAreTyped}
use Rattle.tree_promises.specs.MadeStmts.{IsTypedStmt}
use Rattle.tree_promises.specs.Placed.{Placed}
use Rattle.type_model.specs.Calls.{Asked}
use Rattle.type_model.specs.declared.answers.TypeLimit.{TypeLimit}
use Rattle.type_model.specs.declared.atoms.AtomDef.{AtomDef}
use Rattle.typed_bodies.proofs.StmtUnits.{HasUnits, break-units, continue-units, local-units, member-units, nil-units, performed-units, returned-units, set-units, variable-units}
use Rattle.typed_bodies.specs.Claims.{IsDone}
use Rattle.typed_needs.proofs.Opened.{as-lasts, same-lasts}
use Rattle.typed_needs.proofs.Placed.{last-same}
use Rattle.typed_needs.specs.Between.{IsTypedUnit, units_in}
use Rattle.typed_needs.specs.Placing.{IsPlaced}
use Rattle.typed_stmts.proofs.Assigning.{assigned-to, declared-opened, variable-set}
use Rattle.typed_stmts.proofs.ElementUpdates.{MemberUpdated, member-updated}
use Rattle.typed_stmts.proofs.Ends.{jump-opened, nil-opened, performed-opened, return-opened}
use Rattle.typed_stmts.proofs.NameUpdates.{local-opened, module-opened, name-updated}
use Rattle.typed_stmts.proofs.Storing.{store-opened}
use Rattle.typed_stmts.proofs.Words.{put-before, put-from, put-weaker, stmt-put}
use Rattle.typed_stmts.specs.Adding.{AddsStmt, AddsTyped}
use Rattle.typed_tree.specs.SharedTypes.{Shared}
use Rattle.typed_tree.specs.declared.expr.TypedExpr.{TypedExpr}
use Rattle.typed_tree.specs.declared.form.Operator.{Operator}
use Rattle.typed_tree.specs.declared.form.Read.TheVariants as member
use Rattle.typed_tree.specs.declared.form.Read.{Read}
use Rattle.check_words.specs.declared.access.Access.{Access}
use Rattle.typed_tree.specs.declared.stmt.PerformForm.TheVariants as perform
use Rattle.typed_tree.specs.declared.stmt.PerformForm.{PerformForm}
use Rattle.typed_tree.specs.declared.stmt.TypedStmt.{TypedStmt}
use Rattle.typed_tree.specs.declared.stmt.UpdateTarget.TheVariants as target

-- ---- one statement of which two things hold

adds-both : (P Q : TypedStmt → Type 0) (waiting : List BlockAtWork) (old new : State) → AddsStmt P waiting old new → AddsStmt Q waiting old new
    → AddsStmt (λ s. P s × Q s) waiting old new
adds-both P Q waiting old new p q =
    let b : BlockAtWork = record p.block { stmts = p.block.stmts ++ p.stmt ∷ [] } in
    let c : BlockAtWork = record q.block { stmts = q.block.stmts ++ q.stmt ∷ [] } in
    let same : b ≡ c = last-same new.blocks b c (record { kept = p.around; is = p.now }) (record { kept = q.around; is = q.now }) in
    let one : p.stmt ≡ q.stmt =
    last-same b.stmts p.stmt q.stmt (record { kept = p.block.stmts; is = refl }) (record { kept = q.block.stmts; is = ap (λ (x : BlockAtWork). x.stmts) same }) in
    record { around = p.around; block = p.block; stmt = p.stmt; was = p.was; now = p.now; holds = (p.holds, subst Q (sym one) q.holds) }

-- what came before it put the blocks that are gone
pub behind-waiting : (P : TypedStmt → Type 0) (waiting : List BlockAtWork) (old m new : State) → m.blocks ≡ old.blocks ++ waiting → AddsStmt P waiting m new
    → AddsStmt P [] old new
behind-waiting P waiting old m new e put =
    record {
      around = put.around;
      block = put.block;
      stmt = put.stmt;
      was = sym (kept-is (length waiting) m.blocks old.blocks waiting e refl)
          ∙ kept-is (length waiting) m.blocks (put.around ++ put.block ∷ []) waiting (put.was ∙ sym (append_assoc put.around (put.block ∷ []) waiting)) refl;
      now = put.now;
      holds = put.holds;
    }

-- it is typed, and all functions in it are typed in units of their own
pub done : (env : List AtomDef) (place : Surroundings) (inside : Bool) (es : List TypedExpr) (inner : List Placed) (waiting : List BlockAtWork) (m new : State)
    → AddsTyped env place inside waiting m new → AddsStmt (HasUnits (units_in es ++ inner)) waiting m new → All (IsTypedUnit env place) (units_in es)
    → All (IsTypedUnit env place) inner → AddsStmt (IsDone env place inside) waiting m new
done env place inside es inner waiting m new typed put units inside-units =
    put-weaker (λ s. IsTypedStmt env place inside s × HasUnits (units_in es ++ inner) s) (IsDone env place inside) waiting m new
    (λ s h. record {
      typed = h.0;
      units = subst (All (IsTypedUnit env place)) (sym h.1) (All-append (IsTypedUnit env place) (units_in es) inner units inside-units);
    }) (adds-both (IsTypedStmt env place inside) (HasUnits (units_in es ++ inner)) waiting m new typed put)

-- ---- what is put in place of parts alone

abbrev pub PutsOf : List TypedExpr → State → State → Type 0
PutsOf es = AddsStmt (HasUnits (units_in es ++ [])) []

-- from a view of the statement
puts-by : (P : TypedStmt → Type 0) (es : List TypedExpr) (old new : State) → ((s : TypedStmt) → P s → HasUnits (units_in es) s) → AddsStmt P [] old new → PutsOf es old new
puts-by P es old new view put = put-weaker P (HasUnits (units_in es ++ [])) [] old new (λ s h. view s h ∙ sym (append-nil (units_in es))) put

one-of : (P : TypedExpr → Type 0) (xs : List TypedExpr) (e x : TypedExpr) → IsLast xs e → IsLast xs x → P x → P e
one-of P xs e x last l h = subst P (last-same xs x e l last) h

module _ (made : MadeStatementsAreTyped) (passes : List AtomDef → Asked → TypeLimit → Type 0) (names : Names) (env : List AtomDef) (place : Surroundings) (inside : Bool) where
  pub performs-put : (form : PerformForm) (at : Place) (old new : State) (e : TypedExpr) → performs form 1 at old (Gives tt) new → IsLast old.found e → PutsOf (e ∷ []) old new
  performs-put form at old new e met last =
      let (parts, lasts, put) = performed-opened made passes names env place inside form 1 at old new met in
      let same : parts ≡ e ∷ [] = same-lasts old.found 1 parts (e ∷ []) lasts (as-lasts old.found e last) in
      subst (λ es. PutsOf es old new) same (puts-by (IsPerform form parts at) parts old new (λ s h. performed-units form parts at s h) put)

  pub declares-put : (name : Name) (final assigned : Bool) (at : Place) (old new : State) (e : TypedExpr) → declares name final assigned at old (Gives tt) new → IsLast old.found e
      → IsPlaced place new → PutsOf (e ∷ []) old new
  declares-put name final assigned at old new e met last placed =
      let d = declared-opened passes names env made place inside name final assigned at old new met placed in
      one-of (λ x. PutsOf (x ∷ []) old new) old.found e d.value last d.last_part
      (puts-by (IsSet d.slot d.value at) (d.value ∷ []) old new (λ s h. set-units d.slot d.value at s h) d.put)

  assigned-put : (what : Assigned) (value : TypedExpr) (at : Place) (old mid new : State) → mid.blocks ≡ old.blocks → assigns_to what value at mid (Gives tt) new
      → PutsOf (value ∷ []) old new
  assigned-put (AssignsVariable v) value at old mid new same met =
      puts-by (IsSet v.slot value at) (value ∷ []) old new (λ s h. set-units v.slot value at s h) (variable-set passes names env made place inside v value at old mid new same met)
  assigned-put (AssignsModule number t) value at old mid new same met =
      puts-by (IsPerform (perform.SetVariable number) (value ∷ []) at) (value ∷ []) old new (λ s h. performed-units (perform.SetVariable number) (value ∷ []) at s h)
      (put-from (IsPerform (perform.SetVariable number) (value ∷ []) at) old mid new same (stmt-put (IsPerform (perform.SetVariable number) (value ∷ []) at) tt mid new met))

  pub assigns-put : (q : QualifiedName) (at : Place) (old new : State) (e : TypedExpr) → assigns names q at old (Gives tt) new → IsLast old.found e → PutsOf (e ∷ []) old new
  assigns-put q at old new e met last =
      let d = assigned-to passes names env made place inside q at old new met in
      one-of (λ x. PutsOf (x ∷ []) old new) old.found e d.value last d.last_part (assigned-put d.what d.value at old d.before new d.blocks d.does)

  pub returns-put : (at : Place) (old new : State) (e : TypedExpr) → returns at old (Gives tt) new → IsLast old.found e → PutsOf (e ∷ []) old new
  returns-put at old new e met last =
      let (x, l, put) = return-opened made passes names env place inside at old new met in
      one-of (λ y. PutsOf (y ∷ []) old new) old.found e x last l (puts-by (IsReturn x at) (x ∷ []) old new (λ s h. returned-units x at s h) put)

  pub nil-put : (at : Place) (old new : State) → returns_nil passes at old (Gives tt) new → PutsOf [] old new
  nil-put at old new met =
      let (w, nil, last, nothing, under, put) = nil-opened made passes names env place inside at old new met in
      puts-by (IsReturnNil at) [] old new (λ s h. nil-units at s h) put

  pub breaks-put : (at : Place) (old new : State) → breaks at old (Gives tt) new → PutsOf [] old new
  breaks-put at old new met = puts-by (IsBreak at) [] old new (λ s h. break-units at s h) (jump-opened made passes names env place (IsBreak at) old new met)

  pub continues-put : (at : Place) (old new : State) → continues at old (Gives tt) new → PutsOf [] old new
  continues-put at old new met = puts-by (IsContinue at) [] old new (λ s h. continue-units at s h) (jump-opened made passes names env place (IsContinue at) old new met)

  pub stores-put : (at : Place) (old new : State) (es : List TypedExpr) → stores at old (Gives tt) new → AreLast old.found 3 es → PutsOf es old new
  stores-put at old new es met lasts =
      let o = store-opened passes names env place made inside at old new met in
      subst (λ xs. PutsOf xs old new) (same-lasts old.found 3 o.parts es o.last_parts lasts)
      (puts-by (IsPerform o.form o.parts at) o.parts old new (λ s h. performed-units o.form o.parts at s h) o.put)

  -- ---- assignments with an operator

  updated-put : (what : Assigned) (read : Shared) (op : Operator) (value : TypedExpr) (at : Place) (old mid new : State) → mid.blocks ≡ old.blocks
      → updates_assigned what read op value at mid (Gives tt) new → PutsOf (value ∷ []) old new
  updated-put (AssignsVariable v) read op value at old mid new same met =
      puts-by (IsUpdate (target.Local v.slot (is_some v.narrowed) read) op value at) (value ∷ []) old new
      (λ s h. local-units v.slot (is_some v.narrowed) read op value at s h) (local-opened made passes names env place inside v read op value at old mid new same met)
  updated-put (AssignsModule number t) read op value at old mid new same met =
      puts-by (IsUpdate (target.Variable number) op value at) (value ∷ []) old new (λ s h. variable-units number op value at s h)
      (module-opened made passes names env place inside number t read op value at old mid new same met)

  pub updates-put : (q : QualifiedName) (assign : AssignOp) (at : Place) (old new : State) (e : TypedExpr) → updates_name passes names q assign at old (Gives tt) new
      → IsLast old.found e → PutsOf (e ∷ []) old new
  updates-put q assign at old new e met last =
      let d = name-updated made passes names env place inside q assign at old new met in
      one-of (λ x. PutsOf (x ∷ []) old new) old.found e d.value last d.last_part (updated-put d.what d.read d.op d.value at old d.before new d.blocks d.does)

  member-put-of : (how : Access → Read) (assign : AssignOp) (at : Place) (old new : State) (es : List TypedExpr) → MemberUpdated passes names env place how assign at old new
      → AreLast old.found 3 es → PutsOf es old new
  member-put-of how assign at old new es o lasts =
      let m = o.put in
      let are : m.container ∷ m.key ∷ m.value ∷ [] ≡ es = sym m.parts_are ∙ same-lasts old.found 3 o.parts es o.last_parts lasts in
      subst (λ xs. PutsOf xs old new) are
      (puts-by (IsUpdate m.what o.op m.value at) (m.container ∷ m.key ∷ m.value ∷ []) old new
      (λ s h. member-units m.own (how o.access) m.container m.key o.read m.what o.op m.value at s m.is h)
      (put-before (IsUpdate m.what o.op m.value at) [] old o.before new o.blocks m.put))

  pub element-put : (assign : AssignOp) (at : Place) (old new : State) (es : List TypedExpr) → updates_element passes assign at old (Gives tt) new → AreLast old.found 3 es
      → IsPlaced place new → PutsOf es old new
  element-put assign at old new es met lasts placed =
      member-put-of read_of assign at old new es (member-updated passes names env place read_of assign at old new met placed) lasts

  pub field-put : (w : Word) (assign : AssignOp) (at : Place) (old new : State) (es : List TypedExpr) → updates_field passes w assign at old (Gives tt) new
      → AreLast old.found 3 es → IsPlaced place new → PutsOf es old new
  field-put w assign at old new es met lasts placed =
      member-put-of (λ x. member.Field w.name) assign at old new es (member-updated passes names env place (λ x. member.Field w.name) assign at old new met placed) lasts
