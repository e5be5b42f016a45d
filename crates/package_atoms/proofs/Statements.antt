-- The needs of statements keep what was found, but for those of branches and loops.
use Rattle.std.proofs.Common.{◌++◌, ℕ, Bool, List, [], ◌∷◌, All, refl}
use Rattle.std.proofs.lemmas.List.Elements.{All-cons, All-nil}
use Rattle.bal_base.specs.declared.place.Place.{Place}
use Rattle.bal_base.specs.declared.text.Name.{Name}
use Rattle.bal_tree.specs.declared.name.QualifiedName.{QualifiedName}
use Rattle.bal_tree.specs.declared.name.Word.{Word}
use Rattle.bal_tree.specs.declared.stmt.AssignOp.{AssignOp}
use Rattle.bal_tree.specs.declared.stmt.AssignOp.TheVariants.{Set, Add, Subtract, Multiply, Divide}
use Rattle.descriptors.specs.declared.names.Meaning.{Meaning}
use Rattle.descriptors.specs.declared.names.Meaning.TheVariants as meaning
use Rattle.descriptors.specs.declared.names.Names.{Names}
use Rattle.type_model.specs.declared.answers.TypeLimit.{TypeLimit}
use Rattle.type_model.specs.declared.atoms.AtomDef.{AtomDef}
use Rattle.type_model.specs.Calls.{Asked}
use Rattle.typed_tree.specs.declared.expr.TypedExpr.{TypedExpr}
use Rattle.typed_tree.specs.declared.form.Operator.{Operator}
use Rattle.typed_tree.specs.declared.form.Read.{Read}
use Rattle.typed_tree.specs.declared.stmt.PerformForm.{PerformForm}
use Rattle.typed_tree.specs.declared.stmt.TypedStmt.{TypedStmt}
use Rattle.typed_tree.specs.declared.stmt.UpdateTarget.{UpdateTarget}
use Rattle.typed_tree.specs.SharedTypes.{Shared}
use Rattle.flow_narrowing.specs.declared.flow.Variable.{Variable}
use Rattle.check_words.specs.Seen.{Seen, SeenConstant, SeenLibrary, SeenMeaning, SeenNothing, SeenVariable, SeenWorker}
use Rattle.check_words.specs.Statements.{Assigned, AssignsModule, AssignsVariable, adds_stmt, IsAssigned, assigned_by, assigns, assigns_to, begins_block, breaks, closes_block, continues, declares, ends_block, is_assignable, is_ignorable, is_operand, last_block, makes_block, meaning_assignable, nil_is_result, operand_sort, performs, reads_assigned, reads_name, result_fits, returns, returns_nil, seen_assignable, stops, stores, takes_operator, takes_part, takes_want, updates, updates_assigned, updates_element, updates_field, updates_member, updates_name, variable_assignable}
use Rattle.isolation_check.proofs.Held.{ExprHeld, StmtHeld}
use Rattle.package_atoms.proofs.HeldStmts.{TargetHeld, block-held, break-held, continue-held, local-target, member-target, perform-held, return-held, return-nil-held, set-held, update-held, variable-target}
use Rattle.package_atoms.proofs.Keeping.{Any, Core, Keeps, asked, becoming, behind, chosen, chosen-as, given, knowing, one-of, refused, tested}
use Rattle.package_atoms.proofs.Members.{access-taken}
use Rattle.package_atoms.proofs.Questions.{below-grows}
use Rattle.package_atoms.proofs.Values.{held-three, looked-up, sort-added, sort-taken, used}
use Rattle.package_atoms.proofs.Words.{BlockHeld, Held, Stays, flow-changed, flow-seen, is-within, last-held, no-more, slot-added, taken, wanting, wanting-some, whether-within}
use Rattle.check_words.proofs.Standing.{also-has, last-has, others-have}

-- ---- of no account

module _ (I : Core → Type 0) (so : Type 0) where
  assigned-found : (names : Names) (q : QualifiedName) → Keeps I so (assigned_by names q) Any I
  assigned-found names q = behind (looked-up _ _ names q) (λ seen. chosen _ _ (λ s a. IsAssigned seen a))

  operator-taken : (assign : AssignOp) → Keeps I so (takes_operator assign) Any I
  operator-taken assign = behind (sort-taken _ _) (λ ints. chosen _ _ _)

  pub ignorable-kept : (passes : List AtomDef → Asked → TypeLimit → Type 0) (at : Place) → Keeps I so (is_ignorable passes at) Any I
  ignorable-kept passes at = behind (chosen _ _ _) (λ e. behind (whether-within _ _ _ _ _ _) (λ b. tested _ _ _ _ b))

  nil-asked : (passes : List AtomDef → Asked → TypeLimit → Type 0) (at : Place) → Keeps I so (nil_is_result passes at) Any I
  nil-asked passes at = behind (chosen _ _ _) (λ u. behind (chosen _ _ _) (λ nil. asked _ _ _ (below-grows _ _ _ _)))

  operand-sorted : (passes : List AtomDef → Asked → TypeLimit → Type 0) (assign : AssignOp) (t : Shared) (at : Place) → Keeps I so (operand_sort passes assign t at) Any I
  operand-sorted passes Set t at = chosen _ _ _
  operand-sorted passes Add t at = behind (whether-within _ _ _ _ _ _) (λ ints. behind (one-of ints (chosen _ _ _) (is-within _ _ _ _ _ _)) (λ u. chosen _ _ _))
  operand-sorted passes Subtract t at = chosen _ _ _
  operand-sorted passes Multiply t at = chosen _ _ _
  operand-sorted passes Divide t at = chosen _ _ _

-- ---- blocks

module _ (n : ℕ) where
  block-seen : (so : Type 0) → Keeps (Held n) so last_block (BlockHeld n) (Held n)
  unfolding Held
  block-seen so = chosen-as (Held n) _ _ (BlockHeld n) (λ old b l c h. last-has (BlockHeld n) old.blocks b l h.1)

  pub block-closed : (so : Type 0) → Keeps (Held n) so closes_block (BlockHeld n) (Held n)
  unfolding Held
  block-closed so =
      knowing (block-seen _) (λ b. behind (becoming (Held n) _ (Held n) _ (λ old. refl) (λ old c h. (h.0, others-have (BlockHeld n) 1 old.blocks h.1, h.2, h.3, h.4, h.5)))
      (λ u. given _ _ b (BlockHeld n) (λ c. c.1)))

  pub stmt-added : (so : Type 0) (P : TypedStmt → Type 0) → ((s : TypedStmt) → P s → so → StmtHeld n s) → Stays n so (adds_stmt P)
  unfolding Held
  stmt-added so P f =
      knowing (block-seen _) (λ b. knowing (chosen-as (Held n) _ _ (StmtHeld n) (λ old s p c h. f s p c.0)) (λ s.
      becoming (Held n) _ (Held n) _ (λ old. refl) (λ old c h. (
        h.0,
        also-has (BlockHeld n) _ (record b { stmts = b.stmts ++ s ∷ [] }) (others-have (BlockHeld n) 1 old.blocks h.1) (also-has (StmtHeld n) b.stmts s c.0.1 c.1),
        h.2,
        h.3,
        h.4,
        h.5,
      ))))

  pub block-begun : (so : Type 0) → Stays n so begins_block
  unfolding Held
  block-begun so =
      behind (flow-seen _ _) (λ f. becoming (Held n) _ (Held n) _ (λ old. refl) (λ old c h. (h.0, also-has (BlockHeld n) old.blocks _ h.1 (All-nil (StmtHeld n)), h.2, h.3, h.4, h.5)))

  pub block-ended : (so : Type 0) → Stays n so ends_block
  block-ended so = behind (chosen _ _ _) (λ b. flow-changed n _ _)

  pub block-kept : (so : Type 0) (at : Place) → Stays n so (makes_block at)
  block-kept so at = knowing (block-closed _) (λ b. stmt-added _ _ (λ s p c. block-held n b.stmts at s p c.1))

  pub part-taken : (so : Type 0) → Keeps (Held n) so takes_part (ExprHeld n) (Held n)
  part-taken so = knowing (last-held n _) (λ e. behind (taken n _ 1) (λ parts. given _ _ e (ExprHeld n) (λ c. c.1)))

  pub want-taken : (so : Type 0) → Stays n so takes_want
  want-taken so = behind (chosen _ _ _) (λ t. behind (no-more n _ 1) (λ u. chosen _ _ _))

  -- ---- declarations and assignments

  pub declared-kept : (so : Type 0) (name : Name) (final assigned : Bool) (at : Place) → Stays n so (declares name final assigned at)
  declared-kept so name final assigned at =
      knowing (part-taken _) (λ value. behind (want-taken _) (λ t. behind (slot-added n _ t) (λ slot. behind (flow-changed n _ _) (λ u.
      stmt-added _ _ (λ s p c. set-held n slot value at s p c.1)))))

  variable-assignable : (so : Type 0) (v : Variable) (at : Place) → Stays n so (variable_assignable v at)
  variable-assignable so v at = behind (one-of v.fixed (refused _ _ _ _ _) (used _ _ v at)) (λ u. wanting n _ _)

  meaning-assignable : (so : Type 0) (m : Meaning) (at : Place) → Stays n so (meaning_assignable m at)
  meaning-assignable so (meaning.TypeName t) at = refused _ _ _ _ _
  meaning-assignable so (meaning.Constant t) at = refused _ _ _ _ _
  meaning-assignable so (meaning.Variable number final t) at = one-of final (refused _ _ _ _ _) (wanting-some n _ _)
  meaning-assignable so (meaning.Function f) at = refused _ _ _ _ _

  seen-assignable : (so : Type 0) (seen : Seen) (at : Place) → Stays n so (seen_assignable seen at)
  seen-assignable so (SeenVariable v) at = variable-assignable _ v at
  seen-assignable so (SeenWorker w) at = refused _ _ _ _ _
  seen-assignable so (SeenConstant c) at = refused _ _ _ _ _
  seen-assignable so (SeenLibrary r) at = refused _ _ _ _ _
  seen-assignable so (SeenMeaning m) at = meaning-assignable _ m at
  seen-assignable so (SeenNothing code) at = refused _ _ _ _ _

  pub assignable-kept : (so : Type 0) (names : Names) (q : QualifiedName) → Stays n so (is_assignable names q)
  assignable-kept so names q = behind (looked-up _ _ names q) (λ seen. seen-assignable _ seen q.at)

  assigned-to : (so : Type 0) (a : Assigned) (value : TypedExpr) (at : Place) → (so → ExprHeld n value) → Stays n so (assigns_to a value at)
  assigned-to so (AssignsVariable v) value at h = behind (flow-changed n _ _) (λ u. stmt-added _ _ (λ s p c. set-held n v.slot value at s p (h c)))
  assigned-to so (AssignsModule number t) value at h =
      stmt-added _ _ (λ s p c. perform-held n _ (value ∷ []) at s p (All-cons (ExprHeld n) value [] (h c) (All-nil (ExprHeld n))))

  pub assigns-kept : (so : Type 0) (names : Names) (q : QualifiedName) (at : Place) → Stays n so (assigns names q at)
  assigns-kept so names q at =
      knowing (part-taken _) (λ value. behind (no-more n _ 1) (λ u. behind (assigned-found _ _ names q) (λ a. assigned-to _ a value at (λ c. c.1))))

  pub stores-kept : (so : Type 0) (at : Place) → Stays n so (stores at)
  stores-kept so at =
      behind (no-more n _ 1) (λ u. behind (access-taken _ _) (λ a. knowing (taken n _ 3) (λ parts. behind (chosen _ _ _) (λ form.
      stmt-added _ _ (λ s p c. perform-held n form parts at s p c.1)))))

  assigned-read : (so : Type 0) (a : Assigned) → Stays n so (reads_assigned a)
  assigned-read so (AssignsVariable v) = wanting n _ _
  assigned-read so (AssignsModule number t) = wanting-some n _ _

  pub name-read : (so : Type 0) (names : Names) (q : QualifiedName) → Stays n so (reads_name names q)
  name-read so names q = behind (assigned-found _ _ names q) (λ a. assigned-read _ a)

  -- ---- assignments with an operator

  updated : (so : Type 0) (P : UpdateTarget → Type 0) (op : Operator) (at : Place) (value : TypedExpr) → ((what : UpdateTarget) → P what → so → TargetHeld n what)
      → (so → ExprHeld n value) → Stays n so (updates P op value at)
  updated so P op at value f g =
      knowing (chosen-as (Held n) _ _ (TargetHeld n) (λ old what p c h. f what p c)) (λ what. stmt-added _ _ (λ s p c. update-held n what op value at s p c.1 (g c.0)))

  assigned-updated : (so : Type 0) (a : Assigned) (t : Shared) (op : Operator) (value : TypedExpr) (at : Place) → (so → ExprHeld n value)
      → Stays n so (updates_assigned a t op value at)
  assigned-updated so (AssignsVariable v) t op value at h = behind (flow-changed n _ _) (λ u. updated _ _ _ _ value (λ what p c. local-target n _ _ _ what p) h)
  assigned-updated so (AssignsModule number u) t op value at h = updated _ _ _ _ value (λ what p c. variable-target n _ what p) h

  member-updated : (so : Type 0) (how : Read) (t : Shared) (op : Operator) (parts : List TypedExpr) (at : Place) → (so → All (ExprHeld n) parts)
      → Stays n so (updates_member how t op parts at)
  member-updated so how t op parts at h =
      knowing (chosen-as (Held n) _ _ (λ (p : TypedExpr × TypedExpr × TypedExpr). ExprHeld n p.0 × ExprHeld n p.1 × ExprHeld n p.2) (λ old p is c i. held-three n parts p.0 p.1 p.2 is (h c)))
      (λ p. behind (behind (slot-added n _ _) (λ own. behind (slot-added n _ _) (λ next. chosen _ _ _))) (λ own.
      updated _ _ _ _ p.2 (λ what q c. member-target n own how p.0 p.1 t what q c.1.0 c.1.1) (λ c. c.1.2)))

  -- ---- other statements

  pub performs-kept : (so : Type 0) (form : PerformForm) (count : ℕ) (at : Place) → Stays n so (performs form count at)
  performs-kept so form count at = knowing (taken n _ count) (λ parts. stmt-added _ _ (λ s p c. perform-held n form parts at s p c.1))

  pub stops-kept : (so : Type 0) → Stays n so stops
  stops-kept so = flow-changed n _ _

  pub returns-kept : (so : Type 0) (at : Place) → Stays n so (returns at)
  returns-kept so at =
      knowing (part-taken _) (λ value. behind (no-more n _ 1) (λ u. behind (stmt-added _ _ (λ s p c. return-held n value at s p c.1)) (λ v. stops-kept _)))

  pub breaks-kept : (so : Type 0) (at : Place) → Stays n so (breaks at)
  breaks-kept so at = behind (stmt-added _ _ (λ s p c. break-held n at s p)) (λ u. stops-kept _)

  pub continues-kept : (so : Type 0) (at : Place) → Stays n so (continues at)
  continues-kept so at = behind (stmt-added _ _ (λ s p c. continue-held n at s p)) (λ u. stops-kept _)

  pub returns-nil-kept : (so : Type 0) (passes : List AtomDef → Asked → TypeLimit → Type 0) (at : Place) → Stays n so (returns_nil passes at)
  returns-nil-kept so passes at = behind (nil-asked _ _ passes at) (λ u. behind (stmt-added _ _ (λ s p c. return-nil-held n at s p)) (λ v. stops-kept _))

  pub operand-kept : (so : Type 0) (passes : List AtomDef → Asked → TypeLimit → Type 0) (assign : AssignOp) (at : Place) → Stays n so (is_operand passes assign at)
  operand-kept so passes assign at =
      behind (chosen _ _ _) (λ t. behind (is-within _ _ _ _ _ _) (λ u. behind (operand-sorted _ _ passes assign t at) (λ ints. behind (sort-added _ _ ints) (λ v. wanting-some n _ _))))

  result-fitted : (so : Type 0) (passes : List AtomDef → Asked → TypeLimit → Type 0) (at : Place) → Stays n so (result_fits passes at)
  result-fitted so passes at =
      behind (want-taken _) (λ result. behind (want-taken _) (λ read_type. behind (want-taken _) (λ stored. behind (asked _ _ _ (below-grows _ _ _ _)) (λ u. chosen _ _ _))))

  pub element-updated : (so : Type 0) (passes : List AtomDef → Asked → TypeLimit → Type 0) (assign : AssignOp) (at : Place) → Stays n so (updates_element passes assign at)
  element-updated so passes assign at =
      behind (result-fitted _ passes at) (λ t. behind (operator-taken _ _ assign) (λ op. behind (access-taken _ _) (λ a. knowing (taken n _ 3) (λ parts.
      member-updated _ _ t op parts at (λ c. c.1)))))

  pub field-updated : (so : Type 0) (passes : List AtomDef → Asked → TypeLimit → Type 0) (w : Word) (assign : AssignOp) (at : Place) → Stays n so (updates_field passes w assign at)
  field-updated so passes w assign at =
      behind (result-fitted _ passes at) (λ t. behind (operator-taken _ _ assign) (λ op. behind (access-taken _ _) (λ a. knowing (taken n _ 3) (λ parts.
      member-updated _ _ t op parts at (λ c. c.1)))))

  pub name-updated : (so : Type 0) (passes : List AtomDef → Asked → TypeLimit → Type 0) (names : Names) (q : QualifiedName) (assign : AssignOp) (at : Place) → Stays n so (updates_name passes names q assign at)
  name-updated so passes names q assign at =
      behind (result-fitted _ passes at) (λ t. behind (operator-taken _ _ assign) (λ op. knowing (part-taken _) (λ value. behind (assigned-found _ _ names q) (λ a.
      assigned-updated _ a t op value at (λ c. c.1)))))
