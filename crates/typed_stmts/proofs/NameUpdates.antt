-- Assignments with an operator, to names and to members.
use Rattle.typed_needs.proofs.Naming.{StandsFor}
use Rattle.std.proofs.Common.{IfSome, Bool, List, None, Option, Some, [], ap, arith, length, refl, subst, sym, ℕ, ◌∙◌, ◌∷◌, ◌≡◌}
use Rattle.std.specs.Prelude.{IsSomeAnd, slice_get, is_some}
use Rattle.bal_base.specs.declared.place.Place.{Place}
use Rattle.bal_tree.specs.declared.name.QualifiedName.{QualifiedName}
use Rattle.bal_tree.specs.declared.stmt.AssignOp.{AssignOp}
use Rattle.check_words.proofs.Standing.{last-have}
use Rattle.check_words.specs.Seen.{Seen, SeenVariable, SeenWorker, SeenConstant, SeenLibrary, SeenMeaning, SeenNothing}
use Rattle.check_words.specs.State.{AreLast, IsLast, State, shared_now, with_type}
use Rattle.check_words.specs.Statements.{Assigned, AssignsModule, AssignsVariable, IsAssigned, update_operator, updates, updates_assigned, updates_name, stores}
use Rattle.check_words.specs.StmtViews.{IsUpdate}
use Rattle.checks.specs.Checks.{Gives, gives_some, ◌▷◌}
use Rattle.descriptors.specs.declared.names.Meaning.TheVariants as meaning
use Rattle.descriptors.specs.declared.names.Names.{Names}
use Rattle.flow_narrowing.specs.Flows.{IfShared}
use Rattle.flow_narrowing.specs.declared.flow.Variable.{Variable}
use Rattle.held_operations.specs.Constructs.{operator_operations}
use Rattle.operations.specs.Kinds.{IsBoolean}
use Rattle.operations.specs.Rows.{IsWithin, ResultHas, Surroundings}
use Rattle.tree_promises.proofs.Pieces.{made-is-typed}
use Rattle.tree_promises.specs.Laws.{MadeStatementsAreTyped}
use Rattle.tree_promises.specs.Made.{GivenBy, LeadsTo, MadeIsTyped, OperandsFit, sem}
use Rattle.tree_promises.specs.MadeStmts.{IsReadAs, IsTypedStmt, MadeStmtIsTyped}
use Rattle.tree_promises.specs.Types.{IsTypedExpr}
use Rattle.type_model.specs.Calls.{Asked}
use Rattle.type_model.specs.Defined.{TyBelow}
use Rattle.type_model.specs.Inclusion.{HasExactly, Sub}
use Rattle.type_model.specs.Membership.{In}
use Rattle.type_model.specs.declared.answers.TypeLimit.{TypeLimit}
use Rattle.type_model.specs.declared.atoms.AtomDef.{AtomDef}
use Rattle.type_model.specs.declared.basic.SemType.{SemType}
use Rattle.type_model.specs.declared.basic.Ty.{Ty}
use Rattle.typed_needs.proofs.Opened.{same-lasts, sub-later}
use Rattle.typed_needs.proofs.Placed.{last-same}
use Rattle.typed_needs.specs.Pieces.{IsBefore}
use Rattle.typed_needs.specs.Placing.{AreNamed, IsStored}
use Rattle.typed_stmts.proofs.Seeing.{assigned-opened, sees-from, sees-one, sees-stored}
use Rattle.typed_stmts.proofs.Updating.{operator-taken, result-taken, update-fits, name-read, operand-wanted}
use Rattle.typed_stmts.proofs.Words.{flow-changed, part-taken, put-before, put-from, put-weaker, stmt-put}
use Rattle.typed_stmts.specs.Adding.{AddsStmt, AddsTyped}
use Rattle.typed_stmts.specs.Assigned.{HasSame, Sees, TakeValues, assigned_type}
use Rattle.typed_stmts.specs.Updated.{NameUpdateIsTyped, read_type, UpdatesAreTyped}
use Rattle.typed_tree.specs.SharedTypes.{Shared, sem_of}
use Rattle.typed_tree.specs.declared.expr.TypedExpr.{TypedExpr}
use Rattle.typed_tree.specs.declared.form.Operator.{Operator}
use Rattle.typed_tree.specs.declared.stmt.UpdateTarget.TheVariants as target
use Rattle.typed_tree.specs.declared.stmt.UpdateTarget.{UpdateTarget}

updates-opened : (P : UpdateTarget → Type 0) (op : Operator) (value : TypedExpr) (at : Place) (u : Unit {0}) (old new : State) → updates P op value at old (Gives u) new
    → (what : UpdateTarget) × P what × AddsStmt (IsUpdate what op value at) [] old new
unfolding ◌▷◌ gives_some
updates-opened P op value at u old new (what, a, (holds, e), added) =
    (what, holds, put-from (IsUpdate what op value at) old a new (ap (λ (s : State). s.blocks) e) (stmt-put (IsUpdate what op value at) u a new added))

module _ (made : MadeStatementsAreTyped) (passes : List AtomDef → Asked → TypeLimit → Type 0) (names : Names) (env : List AtomDef) (place : Surroundings) (inside : Bool) where
  pub leads-so : (truth : SemType) (op : Operator) (s t r : SemType) → HasExactly env truth IsBoolean → OperandsFit env op (s ∷ t ∷ []) × ResultHas env (Some r) (GivenBy op)
      → LeadsTo env place (operator_operations op) (s ∷ t ∷ []) r
  leads-so truth op s t r booleans fits = let p : MadeIsTyped env place truth = made-is-typed env place truth in p.operators op (s ∷ t ∷ []) r booleans fits.0 fits.1

  -- what the operator gives is below what is stored, over the atoms at the end
  pub result-under : (old : State) (stored read result : Shared) → IsBefore env old → AreLast old.wants 3 (Some stored ∷ Some read ∷ Some result ∷ [])
      → Sub old.atoms (sem_of result) (sem_of stored) → Sub env (sem_of result) (sem_of stored)
  result-under old stored read result before lasts under =
      let all = last-have (IfShared (TyBelow (length old.atoms))) 3 old.wants (Some stored ∷ Some read ∷ Some result ∷ []) lasts before.stands.wants in
      sub-later env old.atoms (sem_of result) (sem_of stored) before.keeps (all 2 (Some result) (omega arith)).0 (all 0 (Some stored) (omega arith)).0 under

  -- ---- names

  pub record NameUpdated (q : QualifiedName) (assign : AssignOp) (at : Place) (old new : State) : Type 0 where
    pub read : Shared
    pub result : Shared
    pub stored : Shared
    pub lasts : AreLast old.wants 3 (Some stored ∷ Some read ∷ Some result ∷ [])
    pub under : Sub old.atoms (sem_of result) (sem_of stored)
    pub op : Operator
    pub ints : Bool
    pub last_sort : IsLast old.sorts ints
    pub is_op : update_operator assign ints op
    pub value : TypedExpr
    pub last_part : IsLast old.found value
    pub seen : Seen
    pub sees : Sees names old q seen
    pub what : Assigned
    pub is : IsAssigned seen what
    pub before : State
    pub blocks : before.blocks ≡ old.blocks
    pub does : updates_assigned what read op value at before (Gives tt) new

  pub name-updated : (q : QualifiedName) (assign : AssignOp) (at : Place) (old new : State) → updates_name passes names q assign at old (Gives tt) new → NameUpdated q assign at old new
  unfolding ◌▷◌
  name-updated q assign at old new (read, a, fits, (op, b, operator, (value, c, taken, (x, d, found, does)))) =
      let r = result-taken passes at read old a fits in
      let (ints, sort, is-op, e2) = operator-taken assign op a b operator in
      let (l3, e3) = part-taken value b c taken in
      let (seen, sees, is, e4) = assigned-opened names q x c d found in
      record {
        read = read;
        result = r.result;
        stored = r.stored;
        lasts = r.lasts;
        under = r.under;
        op = op;
        ints = ints;
        last_sort = subst (λ xs. IsLast xs ints) (ap (λ (s : State). s.sorts) r.all) sort;
        is_op = is-op;
        value = value;
        last_part = subst (λ xs. IsLast xs value) (ap (λ (s : State). s.found) e2 ∙ ap (λ (s : State). s.found) r.all) l3;
        seen = seen;
        sees = sees-from names old c q seen (ap (λ (s : State). s.units) e3 ∙ ap (λ (s : State). s.units) e2 ∙ ap (λ (s : State). s.units) r.all)
            (ap (λ (s : State). s.site) e3 ∙ ap (λ (s : State). s.site) e2 ∙ ap (λ (s : State). s.site) r.all) sees;
        what = x;
        is = is;
        before = d;
        blocks = ap (λ (s : State). s.blocks) e4 ∙ ap (λ (s : State). s.blocks) e3 ∙ ap (λ (s : State). s.blocks) e2 ∙ ap (λ (s : State). s.blocks) r.all;
        does = does;
      }

  -- a variable of the unit
  pub local-opened : (v : Variable) (read : Shared) (op : Operator) (value : TypedExpr) (at : Place) (old mid new : State) → mid.blocks ≡ old.blocks
      → updates_assigned (AssignsVariable v) read op value at mid (Gives tt) new → AddsStmt (IsUpdate (target.Local v.slot (is_some v.narrowed) read) op value at) [] old new
  unfolding ◌▷◌
  local-opened v read op value at old mid new same (u, a, flowed, updated) =
      let s = flow-changed (with_type v.name None) u mid a flowed in
      let (what, is, put) = updates-opened (λ w. w ≡ target.Local v.slot (is_some v.narrowed) read) op value at tt a new updated in
      put-before (IsUpdate (target.Local v.slot (is_some v.narrowed) read) op value at) [] old a new (ap (λ (x : State). x.blocks) s.all ∙ same)
      (subst (λ (w : UpdateTarget). AddsStmt (IsUpdate w op value at) [] a new) is put)

  pub module-opened : (number : ℕ) (t : Ty) (read : Shared) (op : Operator) (value : TypedExpr) (at : Place) (old mid new : State) → mid.blocks ≡ old.blocks
      → updates_assigned (AssignsModule number t) read op value at mid (Gives tt) new → AddsStmt (IsUpdate (target.Variable number) op value at) [] old new
  module-opened number t read op value at old mid new same updated =
      let (what, is, put) = updates-opened (λ w. w ≡ target.Variable number) op value at tt mid new updated in
      put-before (IsUpdate (target.Variable number) op value at) [] old mid new same (subst (λ (w : UpdateTarget). AddsStmt (IsUpdate w op value at) [] mid new) is put)

  read-as : (v : Variable) (read : Shared) → IsStored place v → HasSame env (sem_of (shared_now v)) (sem_of read)
      → IsReadAs env place v.slot (is_some v.narrowed) (sem_of v.declared) (sem_of read)
  read-as v read stored same = by v.narrowed refl
    where
      by : (n : Option Shared) → v.narrowed ≡ n → IsReadAs env place v.slot (is_some n) (sem_of v.declared) (sem_of read)
      by (Some t) is = stored
      by None is =
          let declared : shared_now v ≡ v.declared = ap (λ n. shared_now (record v { narrowed = n })) is in
          (stored, λ x valid i. (same x).0 (subst (λ (t : Shared). In env x (sem_of t)) (sym declared) i))

  loaded-row : (read : SemType) (t : SemType) (held : Option SemType) → IsSomeAnd held (λ s. Sub env s t) → HasSame env t read
      → IsSomeAnd held (λ s. ResultHas env (Some read) (λ x. In env x s))
  loaded-row read t (Some s) under same = λ x valid i. (same x).0 (under x valid i)
  loaded-row read t None under same = absurd under

  stored-row : (r : SemType) (t : SemType) (held : Option SemType) → Sub env r t → IsSomeAnd held (λ s. Sub env t s) → IsSomeAnd held (λ s. IsWithin env (λ x. In env x s) r)
  stored-row r t (Some s) under over = λ x i. over x i.0 (under x i.0 i.1)
  stored-row r t None under over = absurd over

  name-so : (seen : Seen) (a : Assigned) (q : QualifiedName) (read result stored : Shared) (op : Operator) (e : TypedExpr) (at : Place) (truth : SemType) (old mid new : State)
      → IsAssigned seen a → StandsFor names old.site place q seen → AreNamed env names place → TakeValues env names place → IsTypedExpr env place e
      → LeadsTo env place (operator_operations op) (sem_of read ∷ sem e ∷ []) (sem_of result) → Sub env (sem_of result) (sem_of stored)
      → IfSome (read_type seen) (λ t. HasSame env t (sem_of read)) → IfSome (assigned_type seen) (λ t. HasSame env t (sem_of stored)) → mid.blocks ≡ old.blocks
      → updates_assigned a read op e at mid (Gives tt) new → AddsTyped env place inside [] old new
  name-so (SeenVariable v) a q read result stored op e at truth old mid new is stands named takes typed leads under reads stores same met =
      let met' : updates_assigned (AssignsVariable v) read op e at mid (Gives tt) new = subst (λ (y : Assigned). updates_assigned y read op e at mid (Gives tt) new) is met in
      put-weaker (IsUpdate (target.Local v.slot (is_some v.narrowed) read) op e at) (IsTypedStmt env place inside) [] old new
      (λ s (box, tree, value). let p : MadeStmtIsTyped env place truth inside s at = (made env place inside truth s at).0 in
      p.local_updated v.slot (is_some v.narrowed) read op box (sem_of v.declared) (sem_of result) tree (subst (λ x. IsTypedExpr env place x) (sym value) typed) (read-as v read stands reads)
      (subst (λ (x : TypedExpr). LeadsTo env place (operator_operations op) (sem_of read ∷ sem x ∷ []) (sem_of result)) (sym value) leads)
      (λ x valid i. (stores x).1 (under x valid i))) (local-opened v read op e at old mid new same met')
  name-so (SeenMeaning (meaning.Variable number final t)) a q read result stored op e at truth old mid new is stands named takes typed leads under reads stores same met =
      let met' : updates_assigned (AssignsModule number t) read op e at mid (Gives tt) new = subst (λ (y : Assigned). updates_assigned y read op e at mid (Gives tt) new) is met in
      put-weaker (IsUpdate (target.Variable number) op e at) (IsTypedStmt env place inside) [] old new
      (λ s (box, tree, value). let p : MadeStmtIsTyped env place truth inside s at = (made env place inside truth s at).0 in
      p.variable_updated number op box (sem_of read) (sem_of result) tree (subst (λ x. IsTypedExpr env place x) (sym value) typed)
      (refl, loaded-row (sem_of read) t.sem (slice_get place.variables number) (named.variables old.site.scope q number final t stands) reads)
      (subst (λ (x : TypedExpr). LeadsTo env place (operator_operations op) (sem_of read ∷ sem x ∷ []) (sem_of result)) (sym value) leads)
      (stored-row (sem_of result) t.sem (slice_get place.variables number) (λ x valid i. (stores x).1 (under x valid i)) (takes old.site.scope q number final t stands), refl))
      (module-opened number t read op e at old mid new same met')
  name-so (SeenMeaning (meaning.TypeName t)) a q read result stored op e at truth old mid new is stands named takes typed leads under reads stores same met = absurd is
  name-so (SeenMeaning (meaning.Constant t)) a q read result stored op e at truth old mid new is stands named takes typed leads under reads stores same met = absurd is
  name-so (SeenMeaning (meaning.Function f)) a q read result stored op e at truth old mid new is stands named takes typed leads under reads stores same met = absurd is
  name-so (SeenWorker w) a q read result stored op e at truth old mid new is stands named takes typed leads under reads stores same met = absurd is
  name-so (SeenConstant c) a q read result stored op e at truth old mid new is stands named takes typed leads under reads stores same met = absurd is
  name-so (SeenLibrary r) a q read result stored op e at truth old mid new is stands named takes typed leads under reads stores same met = absurd is
  name-so (SeenNothing code) a q read result stored op e at truth old mid new is stands named takes typed leads under reads stores same met = absurd is

  -- the three types that are wanted are these
  pub same-three : (s r t s' r' t' : Shared) → Some s ∷ Some r ∷ Some t ∷ [] ≡ Some s' ∷ Some r' ∷ Some t' ∷ [] → (s ≡ s') × (r ≡ r') × (t ≡ t')
  same-three s r t s' r' t' e = ((let a : s ≡ s' = cc in a), (let b : r ≡ r' = cc in b), (let c : t ≡ t' = cc in c))

  pub name-update : NameUpdateIsTyped passes names env place inside
  name-update q assign at old new e seen stored read result ints truth before booleans met lasts sort fits last typed sees reads stores held named takes =
      let o = name-updated q assign at old new met in
      let (es, er, et) = same-three o.stored o.read o.result stored read result
      (same-lasts old.wants 3 (Some o.stored ∷ Some o.read ∷ Some o.result ∷ []) (Some stored ∷ Some read ∷ Some result ∷ []) o.lasts lasts) in
      let ev : e ≡ o.value = last-same old.found e o.value last o.last_part in
      let ei : o.ints ≡ ints = last-same old.sorts o.ints ints o.last_sort sort in
      let en : seen ≡ o.seen = sees-one names old q seen o.seen sees o.sees in
      let is-op : update_operator assign ints o.op = subst (λ b. update_operator assign b o.op) ei o.is_op in
      let under : Sub env (sem_of result) (sem_of stored) =
      result-under old stored read result before lasts (subst (λ (x : Shared). Sub old.atoms (sem_of x) (sem_of stored)) et (subst (λ (x : Shared). Sub old.atoms (sem_of o.result) (sem_of x)) es o.under)) in
      let leads = leads-so truth o.op (sem_of read) (sem e) (sem_of result) booleans (update-fits passes names env assign ints o.op read result e is-op fits) in
      let does : updates_assigned o.what read o.op e at o.before (Gives tt) new =
      subst (λ (x : TypedExpr). updates_assigned o.what read o.op x at o.before (Gives tt) new) (sym ev)
      (subst (λ (x : Shared). updates_assigned o.what x o.op o.value at o.before (Gives tt) new) er o.does) in
      name-so o.seen o.what q read result stored o.op e at truth old o.before new o.is (sees-stored names place old q o.seen held o.sees) named takes typed leads under
      (subst (λ x. IfSome (read_type x) (λ t. HasSame env t (sem_of read))) en reads) (subst (λ x. IfSome (assigned_type x) (λ t. HasSame env t (sem_of stored))) en stores) o.blocks does

  pub updates-are-typed : UpdatesAreTyped passes names env place inside
  updates-are-typed = record { operands = operand-wanted passes names env; names_read = name-read names env passes; names_updated = name-update }
