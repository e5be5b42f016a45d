-- Declarations and assignments to names.
use Rattle.typed_needs.proofs.Naming.{StandsFor}
use Rattle.std.proofs.Common.{IfSome, Bool, List, Option, Some, [], ap, false, not, refl, subst, sym, true, ℕ, ◌&&◌, ◌++◌, ◌∙◌, ◌∷◌, ◌≡◌, None}
use Rattle.std.specs.Prelude.{IsSomeAnd, slice_get}
use Rattle.bal_base.specs.declared.fault.FaultCode.TheVariants.{AssignFinal, Captured, NameAsValue, Unknown}
use Rattle.bal_base.specs.declared.place.Place.{Place}
use Rattle.bal_base.specs.declared.text.Name.{Name}
use Rattle.bal_tree.specs.declared.name.QualifiedName.{QualifiedName}
use Rattle.check_words.specs.Seen.{Seen, SeenVariable, SeenWorker, SeenConstant, SeenLibrary, SeenMeaning, SeenNothing}
use Rattle.check_words.specs.State.{IsLast, State, with_type, with_variable}
use Rattle.check_words.specs.Statements.{declares, variable_assignable, Assigned, AssignsModule, AssignsVariable, IsAssigned, assigns, assigns_to, is_assignable, meaning_assignable, seen_assignable, local_variable}
use Rattle.check_words.specs.StmtViews.{IsSet, IsPerform}
use Rattle.check_words.specs.Values.{uses}
use Rattle.check_words.specs.Words.{fails}
use Rattle.checks.specs.Checks.{Gives, either, ◌▷◌}
use Rattle.descriptors.specs.Described.{IsCopy}
use Rattle.descriptors.specs.declared.names.Meaning.TheVariants as meaning
use Rattle.descriptors.specs.declared.names.Names.{Names}
use Rattle.eval_model.specs.Expressions.{nil_type}
use Rattle.flow_narrowing.specs.declared.flow.Variable.{Variable}
use Rattle.operations.specs.Rows.{Surroundings, IsWithin}
use Rattle.operations.specs.declared.operation.Operation.TheVariants.{StoreModule}
use Rattle.tree_promises.specs.Laws.{MadeStatementsAreTyped}
use Rattle.tree_promises.specs.Made.{sem}
use Rattle.tree_promises.specs.MadeStmts.{IsTypedStmt, MadeStmtIsTyped}
use Rattle.tree_promises.specs.Types.{IsTypedExpr}
use Rattle.type_model.proofs.SameTypes.{In-same}
use Rattle.type_model.specs.Calls.{Asked}
use Rattle.type_model.specs.Inclusion.{Sub}
use Rattle.type_model.specs.Membership.{In}
use Rattle.type_model.specs.declared.answers.TypeLimit.{TypeLimit}
use Rattle.type_model.specs.declared.atoms.AtomDef.{AtomDef}
use Rattle.type_model.specs.declared.basic.SemType.{SemType}
use Rattle.type_model.specs.declared.basic.Ty.{Ty}
use Rattle.typed_needs.proofs.Placed.{last-same}
use Rattle.typed_needs.proofs.Strict.{unless-leaves, never}
use Rattle.typed_needs.specs.Placing.{IsPlaced}
use Rattle.typed_stmts.proofs.Ends.{performed-typed}
use Rattle.typed_stmts.proofs.Seeing.{assigned-opened, looked-up, sees-from, sees-one, sees-stored}
use Rattle.typed_stmts.proofs.Words.{flow-changed, part-taken, placed-beside, placed-flow, placed-more, put-from, put-weaker, slot-put, stmt-put, want-taken, with_flows, want-put-some, want-some-put, wants-dropped}
use Rattle.typed_stmts.specs.Adding.{AddsStmt, AddsTyped}
use Rattle.typed_stmts.specs.Assigned.{DeclarationIsTyped, AssignableIsWanted, AssignmentIsTyped, AssignmentsAreTyped, Sees, TakeValues, assigned_type, HasSame}
use Rattle.typed_tree.specs.SharedTypes.{Shared, sem_of}
use Rattle.typed_tree.specs.declared.expr.TypedExpr.{TypedExpr}
use Rattle.typed_tree.specs.declared.stmt.PerformForm.TheVariants as perform
use Rattle.typed_tree.specs.declared.stmt.TypedStmt.{TypedStmt}

module _ (passes : List AtomDef → Asked → TypeLimit → Type 0) (names : Names) (env : List AtomDef) where
  -- ---- what is wanted

  itself : (t : SemType) → HasSame env t t
  itself t x = ((λ i. i), (λ i. i))

  variable-wanted : (v : Variable) (at : Place) (old new : State) → variable_assignable v at old (Gives tt) new
      → (w : Shared) × (new ≡ record old { wants = old.wants ++ Some w ∷ [] }) × HasSame env (sem_of v.declared) (sem_of w)
  unfolding ◌▷◌
  variable-wanted v at old new (u, a, free, put) =
      let (w, e, value) = want-put-some v.declared tt a new put in
      let same : a ≡ old = free-leaves v.fixed a u free in
      (w, e ∙ ap (λ (s : State). record s { wants = s.wants ++ Some w ∷ [] }) same, subst (λ (t : Ty). HasSame env (sem_of v.declared) t.sem) (sym value) (itself (sem_of v.declared)))
    where
      free-leaves : (b : Bool) (a : State) (u : Unit {0}) → either b (fails AssignFinal at) (uses v at) old (Gives u) a → a ≡ old
      free-leaves true a u free = absurd (never AssignFinal at old a free)
      free-leaves false a u free = unless-leaves (not (v.captured && v.assigned)) Captured at old a u free

  abbrev Wanted : Seen → State → State → Type 0
  Wanted seen old new = (w : Shared) × (new ≡ record old { wants = old.wants ++ Some w ∷ [] }) × IsSomeAnd (assigned_type seen) (λ t. HasSame env t (sem_of w))

  module-wanted : (number : ℕ) (final : Bool) (t : Ty) (at : Place) (old new : State) → meaning_assignable (meaning.Variable number final t) at old (Gives tt) new
      → Wanted (SeenMeaning (meaning.Variable number final t)) old new
  module-wanted number true t at old new met = absurd (never AssignFinal at old new met)
  module-wanted number false t at old new met = let (w, e, copy) = want-some-put (λ env. IsCopy t) tt old new met in (w, e, λ x. In-same env x t.sem (sem_of w) copy.sem)

  seen-wanted : (seen : Seen) (at : Place) (old new : State) → seen_assignable seen at old (Gives tt) new → Wanted seen old new
  seen-wanted (SeenVariable v) at old new met = variable-wanted v at old new met
  seen-wanted (SeenWorker w) at old new met = absurd (never NameAsValue at old new met)
  seen-wanted (SeenConstant c) at old new met = absurd (never AssignFinal at old new met)
  seen-wanted (SeenLibrary r) at old new met = absurd (never Unknown at old new met)
  seen-wanted (SeenMeaning (meaning.TypeName t)) at old new met = absurd (never Unknown at old new met)
  seen-wanted (SeenMeaning (meaning.Constant t)) at old new met = absurd (never AssignFinal at old new met)
  seen-wanted (SeenMeaning (meaning.Variable number final t)) at old new met = module-wanted number final t at old new met
  seen-wanted (SeenMeaning (meaning.Function f)) at old new met = absurd (never AssignFinal at old new met)
  seen-wanted (SeenNothing code) at old new met = absurd (never code at old new met)

  assignable-opened : (q : QualifiedName) (old new : State) → is_assignable names q old (Gives tt) new → (x : Seen) × Sees names old q x × seen_assignable x q.at old (Gives tt) new
  unfolding ◌▷◌
  assignable-opened q old new (x, a, looked, met) =
      let (sees, same) = looked-up names q x old a looked in (x, sees, subst (λ (s : State). seen_assignable x q.at s (Gives tt) new) same met)

  assignable-wanted : AssignableIsWanted passes names env
  assignable-wanted q old new seen met sees =
      let (x, saw, asked) = assignable-opened q old new met in
      subst (λ y. Wanted y old new) (sees-one names old q x seen saw sees) (seen-wanted x q.at old new asked)

  module _ (made : MadeStatementsAreTyped) (place : Surroundings) (inside : Bool) where
    pieces : (s : TypedStmt) (at : Place) → MadeStmtIsTyped env place nil_type inside s at
    pieces s at = (made env place inside nil_type s at).0

    set-typed : (slot : ℕ) (e : TypedExpr) (t : SemType) (at : Place) (old new : State) → IsTypedExpr env place e → slice_get place.slots slot ≡ Some t → Sub env (sem e) t
        → AddsStmt (IsSet slot e at) [] old new → AddsTyped env place inside [] old new
    set-typed slot e t at old new typed held under put =
        put-weaker (IsSet slot e at) (IsTypedStmt env place inside) [] old new
        (λ s (v, is, value). let p = pieces s at in
        p.set slot v t is (subst (λ x. IsTypedExpr env place x) (sym value) typed) held (subst (λ x. Sub env (sem x) t) (sym value) under)) put

    -- ---- declarations

    pub record Declared (at : Place) (old new : State) : Type 0 where
      pub value : TypedExpr
      pub type : Shared
      pub slot : ℕ
      pub last_part : IsLast old.found value
      pub last_want : IsLast old.wants (Some type)
      pub held : slice_get place.slots slot ≡ Some (sem_of type)
      pub put : AddsStmt (IsSet slot value at) [] old new

    pub declared-opened : (name : Name) (final assigned : Bool) (at : Place) (old new : State) → declares name final assigned at old (Gives tt) new → IsPlaced place new → Declared at old new
    unfolding ◌▷◌
    declared-opened name final assigned at old new (value, a, taken, (t, b, want, (slot, c, slotted, (u, d, flowed, added)))) placed =
        let (l1, e1) = part-taken value old a taken in
        let (l2, e2) = want-taken t a b want in
        let (s3, own) = slot-put t slot b c slotted in
        let v : Variable = local_variable name slot t final assigned in
        let s4 = flow-changed (with_variable v) u c d flowed in
        let put = stmt-put (IsSet slot value at) tt d new added in
        let at-d = placed-beside place d new (ap (λ (s : State). s.units) put.all) placed in
        let at-c = placed-flow place (λ w. with_variable v w.flow) with_flows c d s4 (ap (λ (s : State). s.units) s4.all) at-d in
        record {
          value = value;
          type = t;
          slot = slot;
          last_part = l1;
          last_want = subst (λ ws. IsLast ws (Some t)) (ap (λ (s : State). s.wants) e1) l2;
          held = (placed-more place t slot b c s3 own at-c).1;
          put = put-from (IsSet slot value at) old d new
              (ap (λ (s : State). s.blocks) s4.all ∙ ap (λ (s : State). s.blocks) s3.all ∙ ap (λ (s : State). s.blocks) e2 ∙ ap (λ (s : State). s.blocks) e1) put;
        }

    declaration : DeclarationIsTyped passes names env place inside
    declaration name final assigned at old new e t met last typed want under placed =
        let d = declared-opened name final assigned at old new met placed in
        let one : e ≡ d.value = last-same old.found e d.value last d.last_part in
        let wanted : Some t ≡ Some d.type = last-same old.wants (Some t) (Some d.type) want d.last_want in
        set-typed d.slot d.value (sem_of d.type) at old new (subst (λ x. IsTypedExpr env place x) one typed) d.held
        (subst (λ (o : Option Shared). IfSome o (λ x. Sub env (sem d.value) (sem_of x))) wanted (subst (λ x. Sub env (sem x) (sem_of t)) one under)) d.put

    -- ---- assignments

    abbrev FitsType : Seen → TypedExpr → Type 0
    FitsType seen e = IfSome (assigned_type seen) (Sub env (sem e))

    pub variable-set : (v : Variable) (value : TypedExpr) (at : Place) (old mid new : State) → mid.blocks ≡ old.blocks
        → assigns_to (AssignsVariable v) value at mid (Gives tt) new → AddsStmt (IsSet v.slot value at) [] old new
    unfolding ◌▷◌
    variable-set v value at old mid new same (u, a, flowed, added) =
        let s = flow-changed (with_type v.name None) u mid a flowed in
        put-from (IsSet v.slot value at) old a new (ap (λ (s : State). s.blocks) s.all ∙ same) (stmt-put (IsSet v.slot value at) tt a new added)

    stored-row : (value : TypedExpr) (t : SemType) (held : Option SemType) → Sub env (sem value) t → IsSomeAnd held (λ s. Sub env t s)
        → IsSomeAnd held (λ s. IsWithin env (λ x. In env x s) (sem value))
    stored-row value t (Some s) under over = λ x i. over x i.0 (under x i.0 i.1)
    stored-row value t None under over = absurd over

    assigned-so : (seen : Seen) (x : Assigned) (q : QualifiedName) (value : TypedExpr) (at : Place) (old mid new : State) → IsAssigned seen x → TakeValues env names place
        → StandsFor names old.site place q seen → FitsType seen value → IsTypedExpr env place value → mid.blocks ≡ old.blocks
        → assigns_to x value at mid (Gives tt) new → AddsTyped env place inside [] old new
    assigned-so (SeenVariable v) x q value at old mid new is takes stands fits typed same met =
        set-typed v.slot value (sem_of v.declared) at old new typed stands fits
        (variable-set v value at old mid new same (subst (λ (y : Assigned). assigns_to y value at mid (Gives tt) new) is met))
    assigned-so (SeenMeaning (meaning.Variable number final t)) x q value at old mid new is takes stands fits typed same met =
        let met' : assigns_to (AssignsModule number t) value at mid (Gives tt) new = subst (λ (y : Assigned). assigns_to y value at mid (Gives tt) new) is met in
        performed-typed made passes names env place inside (perform.SetVariable number) (StoreModule number) (value ∷ []) at old new
        (put-from (IsPerform (perform.SetVariable number) (value ∷ []) at) old mid new same (stmt-put (IsPerform (perform.SetVariable number) (value ∷ []) at) tt mid new met'))
        refl (typed, tt) (stored-row value t.sem (slice_get place.variables number) fits (takes old.site.scope q number final t stands), refl)
    assigned-so (SeenMeaning (meaning.TypeName t)) x q value at old mid new is takes stands fits typed same met = absurd is
    assigned-so (SeenMeaning (meaning.Constant t)) x q value at old mid new is takes stands fits typed same met = absurd is
    assigned-so (SeenMeaning (meaning.Function f)) x q value at old mid new is takes stands fits typed same met = absurd is
    assigned-so (SeenWorker w) x q value at old mid new is takes stands fits typed same met = absurd is
    assigned-so (SeenConstant c) x q value at old mid new is takes stands fits typed same met = absurd is
    assigned-so (SeenLibrary r) x q value at old mid new is takes stands fits typed same met = absurd is
    assigned-so (SeenNothing code) x q value at old mid new is takes stands fits typed same met = absurd is

    pub record AssignedTo (q : QualifiedName) (at : Place) (old new : State) : Type 0 where
      pub value : TypedExpr
      pub last_part : IsLast old.found value
      pub seen : Seen
      pub sees : Sees names old q seen
      pub what : Assigned
      pub is : IsAssigned seen what
      pub before : State
      pub blocks : before.blocks ≡ old.blocks
      pub does : assigns_to what value at before (Gives tt) new

    pub assigned-to : (q : QualifiedName) (at : Place) (old new : State) → assigns names q at old (Gives tt) new → AssignedTo q at old new
    unfolding ◌▷◌
    assigned-to q at old new (value, a, taken, (u, b, dropped, (x, c, found, does))) =
        let (l1, e1) = part-taken value old a taken in
        let e2 = wants-dropped 1 u a b dropped in
        let (seen, sees, is, e3) = assigned-opened names q x b c found in
        record {
          value = value;
          last_part = l1;
          seen = seen;
          sees = sees-from names old b q seen (ap (λ (s : State). s.units) e2 ∙ ap (λ (s : State). s.units) e1) (ap (λ (s : State). s.site) e2 ∙ ap (λ (s : State). s.site) e1) sees;
          what = x;
          is = is;
          before = c;
          blocks = ap (λ (s : State). s.blocks) e3 ∙ ap (λ (s : State). s.blocks) e2 ∙ ap (λ (s : State). s.blocks) e1;
          does = does;
        }

    assignment : AssignmentIsTyped passes names env place inside
    assignment q at old new e seen met last typed sees fits stored takes =
        let d = assigned-to q at old new met in
        let one : e ≡ d.value = last-same old.found e d.value last d.last_part in
        let same : seen ≡ d.seen = sees-one names old q seen d.seen sees d.sees in
        assigned-so d.seen d.what q d.value at old d.before new d.is takes (sees-stored names place old q d.seen stored d.sees)
        (subst (λ x. FitsType x d.value) same (subst (λ x. FitsType seen x) one fits)) (subst (λ x. IsTypedExpr env place x) one typed) d.blocks d.does

    pub assignments-are-typed : AssignmentsAreTyped passes names env place inside
    assignments-are-typed = record { declared = declaration; wanted = assignable-wanted; assigned = assignment }
