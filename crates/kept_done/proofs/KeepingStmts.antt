-- The words of statements, workers and functions: what is done of the package stays.
use Rattle.std.proofs.Common.{ℕ, Bool, true, false, List, [], ◌∷◌, Option, None, Some, refl}
use Rattle.std.specs.Global.{Box}
use Rattle.std.specs.Prelude.{◌||◌, pred, take}
use Rattle.std.specs.List.{list_any}
use Rattle.bal_base.specs.declared.fault.FaultCode.TheVariants.{Duplicate}
use Rattle.bal_base.specs.declared.place.Place.{Place}
use Rattle.bal_base.specs.declared.text.Name.{Name}
use Rattle.bal_tree.specs.declared.def.ConstDef.{ConstDef}
use Rattle.bal_tree.specs.declared.def.Worker.{Worker}
use Rattle.bal_tree.specs.declared.name.QualifiedName.{QualifiedName}
use Rattle.bal_tree.specs.declared.name.Word.{Word}
use Rattle.bal_tree.specs.declared.stmt.AssignOp.{AssignOp}
use Rattle.bal_tree.specs.declared.stmt.AssignOp.TheVariants.{Add, Divide, Multiply, Set, Subtract}
use Rattle.bal_tree.specs.declared.stmt.Pattern.{Pattern}
use Rattle.bal_tree.specs.declared.stmt.Pattern.TheVariants as pattern
use Rattle.bal_tree.specs.declared.types.TypeTree.{TypeTree}
use Rattle.descriptors.specs.declared.names.Meaning.{Meaning}
use Rattle.descriptors.specs.declared.names.Meaning.TheVariants as meaning
use Rattle.descriptors.specs.declared.names.Names.{Names}
use Rattle.operations.specs.declared.operation.Constant.{Constant}
use Rattle.type_model.specs.declared.answers.TypeLimit.{TypeLimit}
use Rattle.type_model.specs.declared.atoms.AtomDef.{AtomDef}
use Rattle.type_model.specs.declared.basic.SemType.{SemType}
use Rattle.type_model.specs.Calls.{Asked}
use Rattle.type_model.specs.Places.{is_same_text}
use Rattle.typed_tree.specs.declared.expr.TypedExpr.{TypedExpr}
use Rattle.typed_tree.specs.declared.form.Operator.{Operator}
use Rattle.typed_tree.specs.declared.form.Read.{Read}
use Rattle.typed_tree.specs.declared.stmt.TypedStmt.{TypedStmt}
use Rattle.typed_tree.specs.declared.stmt.UpdateTarget.{UpdateTarget}
use Rattle.typed_tree.specs.SharedTypes.{Shared}
use Rattle.expr_needs.specs.declared.kind.Kind.{Kind}
use Rattle.flow_narrowing.specs.declared.flow.Flow.{Flow}
use Rattle.flow_narrowing.specs.declared.flow.Variable.{Variable}
use Rattle.check_words.specs.declared.access.Access.{Access}
use Rattle.check_words.specs.declared.access.Access.TheVariants.{Char, Item, Key}
use Rattle.check_words.specs.Branches.{adds_pattern, begins_clause, closes_match, has_pattern, makes_match, item_type_at, item_variable, joins_all, kind_slot, meaning_pattern, opens_match, seen_pattern, sets_match, some_is_left}
use Rattle.check_words.specs.Calls.{is_new}
use Rattle.check_words.specs.Joins.{joins_from, narrows_to}
use Rattle.check_words.specs.Members.{stored_type, takes_access}
use Rattle.check_words.specs.Seen.{Seen, SeenVariable, SeenWorker, SeenConstant, SeenLibrary, SeenMeaning, SeenNothing}
use Rattle.check_words.specs.State.{MatchAtWork, UnitAtWork}
use Rattle.check_words.specs.Statements.{Assigned, AssignsModule, AssignsVariable, adds_stmt, assigned_by, assigns_to, closes_block, keeps_two, meaning_assignable, operand_sort, reads_assigned, result_fits, seen_assignable, takes_operator, takes_part, takes_want, updates, updates_assigned, updates_member, variable_assignable}
use Rattle.check_words.specs.Units.{constant_fits, descriptor_type, ends_by, is_worker_new}
use Rattle.check_words.specs.Words.{changes_flow, done, fails, takes}
use Rattle.kept_done.proofs.Keeping.{Keeps, keeps-asking, keeps-becomes, keeps-beside, keeps-done, keeps-either, keeps-fails, keeps-flow-now, keeps-handles, keeps-new-slot, keeps-no-more, keeps-sets-flow, keeps-some, keeps-then, keeps-unless, keeps-wants, keeps-wants-some}
use Rattle.kept_done.proofs.KeepingNeeds.{keeps-looks-up, keeps-member-at, keeps-takes-sort, keeps-whether, keeps-within}

pub keeps-changes-flow : (change : Flow → Flow) → Keeps (changes_flow change)
keeps-changes-flow change = keeps-then _ _ keeps-flow-now (λ f. keeps-sets-flow _)

pub keeps-takes : (count : ℕ) → Keeps (takes count)
keeps-takes count = keeps-then _ _ (keeps-some _) (λ all. keeps-then _ _ (keeps-becomes _ (λ s. keeps-beside s _ refl)) (λ u. keeps-some _))

pub keeps-takes-part : Keeps takes_part
keeps-takes-part = keeps-then _ _ (keeps-some _) (λ e. keeps-then _ _ (keeps-takes 1) (λ all. keeps-some _))

pub keeps-takes-want : Keeps takes_want
keeps-takes-want = keeps-then _ _ (keeps-some _) (λ t. keeps-then _ _ (keeps-no-more 1) (λ u. keeps-some _))

pub keeps-adds-stmt : (P : TypedStmt → Type 0) → Keeps (adds_stmt P)
keeps-adds-stmt P = keeps-then _ _ (keeps-some _) (λ b. keeps-then _ _ (keeps-some _) (λ stmt. keeps-becomes _ (λ s. keeps-beside s _ refl)))

pub keeps-closes-block : Keeps closes_block
keeps-closes-block = keeps-then _ _ (keeps-some _) (λ b. keeps-then _ _ (keeps-becomes _ (λ s. keeps-beside s _ refl)) (λ u. keeps-some _))

pub keeps-takes-access : Keeps takes_access
keeps-takes-access = keeps-then _ _ (keeps-some _) (λ a. keeps-then _ _ (keeps-becomes _ (λ s. keeps-beside s _ refl)) (λ u. keeps-some _))

-- ---- assignments

keeps-variable-assignable : (v : Variable) (at : Place) → Keeps (variable_assignable v at)
keeps-variable-assignable v at = keeps-then _ _ (keeps-either v.fixed _ _ (keeps-fails _ at) (keeps-unless _ _ at)) (λ u. keeps-wants _)

keeps-meaning-assignable : (m : Meaning) (at : Place) → Keeps (meaning_assignable m at)
keeps-meaning-assignable (meaning.TypeName t) at = keeps-fails _ at
keeps-meaning-assignable (meaning.Constant t) at = keeps-fails _ at
keeps-meaning-assignable (meaning.Variable number final t) at = keeps-either final _ _ (keeps-fails _ at) (keeps-wants-some _)
keeps-meaning-assignable (meaning.Function f) at = keeps-fails _ at

pub keeps-seen-assignable : (seen : Seen) (at : Place) → Keeps (seen_assignable seen at)
keeps-seen-assignable (SeenVariable v) at = keeps-variable-assignable v at
keeps-seen-assignable (SeenWorker w) at = keeps-fails _ at
keeps-seen-assignable (SeenConstant c) at = keeps-fails _ at
keeps-seen-assignable (SeenLibrary r) at = keeps-fails _ at
keeps-seen-assignable (SeenMeaning m) at = keeps-meaning-assignable m at
keeps-seen-assignable (SeenNothing code) at = keeps-fails code at

pub keeps-assigns-to : (a : Assigned) (value : TypedExpr) (at : Place) → Keeps (assigns_to a value at)
keeps-assigns-to (AssignsVariable v) value at = keeps-then _ _ (keeps-changes-flow _) (λ u. keeps-adds-stmt _)
keeps-assigns-to (AssignsModule number t) value at = keeps-adds-stmt _

pub keeps-reads-assigned : (a : Assigned) → Keeps (reads_assigned a)
keeps-reads-assigned (AssignsVariable v) = keeps-wants _
keeps-reads-assigned (AssignsModule number t) = keeps-wants-some _

pub keeps-assigned-by : (names : Names) (q : QualifiedName) → Keeps (assigned_by names q)
keeps-assigned-by names q = keeps-then _ _ (keeps-looks-up names q) (λ seen. keeps-some _)

pub keeps-takes-operator : (assign : AssignOp) → Keeps (takes_operator assign)
keeps-takes-operator assign = keeps-then _ _ keeps-takes-sort (λ ints. keeps-some _)

keeps-updates : (P : UpdateTarget → Type 0) (op : Operator) (value : TypedExpr) (at : Place) → Keeps (updates P op value at)
keeps-updates P op value at = keeps-then _ _ (keeps-some _) (λ what. keeps-adds-stmt _)

pub keeps-updates-assigned : (a : Assigned) (t : Shared) (op : Operator) (value : TypedExpr) (at : Place) → Keeps (updates_assigned a t op value at)
keeps-updates-assigned (AssignsVariable v) t op value at = keeps-then _ _ (keeps-changes-flow _) (λ u. keeps-updates _ op value at)
keeps-updates-assigned (AssignsModule number u) t op value at = keeps-updates _ op value at

keeps-keeps-two : (container key : TypedExpr) → Keeps (keeps_two container key)
keeps-keeps-two container key = keeps-then _ _ (keeps-new-slot _) (λ own. keeps-then _ _ (keeps-new-slot _) (λ next. keeps-some _))

pub keeps-updates-member : (how : Read) (t : Shared) (op : Operator) (all : List TypedExpr) (at : Place) → Keeps (updates_member how t op all at)
keeps-updates-member how t op all at = keeps-then _ _ (keeps-some _) (λ p. keeps-then _ _ (keeps-keeps-two p.0 p.1) (λ own. keeps-updates _ op p.2 at))

-- ---- branches, loops and matches

pub keeps-item-variable : Keeps item_variable
keeps-item-variable = keeps-then _ _ keeps-flow-now (λ f. keeps-some _)

pub keeps-kind-slot : (k : Kind) → Keeps (kind_slot k)
keeps-kind-slot k = keeps-then _ _ (keeps-some _) (λ t. keeps-new-slot _)

pub keeps-sets-match : (m : MatchAtWork) → Keeps (sets_match m)
keeps-sets-match m = keeps-then _ _ (keeps-handles _ _) (λ n. keeps-becomes _ (λ s. keeps-beside s _ refl))

pub keeps-opens-match : (m : MatchAtWork) → Keeps (opens_match m)
keeps-opens-match m = keeps-then _ _ (keeps-handles _ _) (λ n. keeps-becomes _ (λ s. keeps-beside s _ refl))

pub keeps-closes-match : Keeps closes_match
keeps-closes-match = keeps-then _ _ (keeps-some _) (λ m. keeps-then _ _ (keeps-becomes _ (λ s. keeps-beside s _ refl)) (λ u. keeps-some _))

keeps-adds-pattern : (c : Option Constant) (at : Place) → Keeps (adds_pattern c at)
keeps-adds-pattern c at = keeps-then _ _ (keeps-some _) (λ m. keeps-sets-match _)

keeps-meaning-pattern : (m : Meaning) (at : Place) → Keeps (meaning_pattern m at)
keeps-meaning-pattern (meaning.Constant t) at = keeps-then _ _ (keeps-some _) (λ c. keeps-adds-pattern _ at)
keeps-meaning-pattern (meaning.TypeName t) at = keeps-fails _ at
keeps-meaning-pattern (meaning.Variable number final t) at = keeps-fails _ at
keeps-meaning-pattern (meaning.Function f) at = keeps-fails _ at

keeps-seen-pattern : (seen : Seen) (at : Place) → Keeps (seen_pattern seen at)
keeps-seen-pattern (SeenVariable v) at = keeps-fails _ at
keeps-seen-pattern (SeenWorker w) at = keeps-fails _ at
keeps-seen-pattern (SeenConstant c) at = keeps-adds-pattern _ at
keeps-seen-pattern (SeenLibrary r) at = keeps-fails _ at
keeps-seen-pattern (SeenMeaning m) at = keeps-meaning-pattern m at
keeps-seen-pattern (SeenNothing code) at = keeps-fails code at

pub keeps-pattern : (names : Names) (p : Pattern) → Keeps (has_pattern names p)
keeps-pattern names (pattern.Any at) = keeps-adds-pattern None at
keeps-pattern names (pattern.Value v) = keeps-adds-pattern _ _
keeps-pattern names (pattern.Name q) = keeps-then _ _ (keeps-looks-up names q) (λ seen. keeps-seen-pattern seen q.at)

keeps-joins-from : (f : Flow) (gs : List Flow) → Keeps (joins_from f gs)
keeps-joins-from f [] = keeps-some _
keeps-joins-from f (g ∷ gs) = keeps-then _ _ (keeps-some _) (λ h. keeps-joins-from h gs)

pub keeps-joins-all : (before : Flow) (fs : List Flow) → Keeps (joins_all before fs)
keeps-joins-all before [] = keeps-some _
keeps-joins-all before (f ∷ fs) = keeps-joins-from f fs

pub keeps-is-new : (w : Word) → Keeps (is_new w)
keeps-is-new w = keeps-then _ _ (keeps-some _) (λ b. keeps-either b _ _ (keeps-fails _ _) (keeps-some _))

module _ (passes : List AtomDef → Asked → TypeLimit → Type 0) where
  pub keeps-operand-sort : (assign : AssignOp) (t : Shared) (at : Place) → Keeps (operand_sort passes assign t at)
  keeps-operand-sort Set t at = keeps-some _
  keeps-operand-sort Add t at =
      keeps-then _ _ (keeps-whether passes _ _ at) (λ ints. keeps-then _ _ (keeps-either ints _ _ (keeps-some _) (keeps-within passes _ _ at)) (λ u. keeps-some _))
  keeps-operand-sort Subtract t at = keeps-some _
  keeps-operand-sort Multiply t at = keeps-some _
  keeps-operand-sort Divide t at = keeps-some _

  pub keeps-result-fits : (at : Place) → Keeps (result_fits passes at)
  keeps-result-fits at =
      keeps-then _ _ keeps-takes-want (λ result. keeps-then _ _ keeps-takes-want (λ read_type. keeps-then _ _ keeps-takes-want (λ stored.
      keeps-then _ _ (keeps-asking _) (λ u. keeps-some _))))

  pub keeps-stored-type : (a : Access) (container key : SemType) (at : Place) → Keeps (stored_type passes a container key at)
  keeps-stored-type Char container key at = keeps-some _
  keeps-stored-type Item container key at =
      keeps-then _ _ (keeps-asking _) (λ keys. keeps-then _ _ (keeps-member-at passes container keys at) (λ m. keeps-some _))
  keeps-stored-type Key container key at =
      keeps-then _ _ (keeps-asking _) (λ keys. keeps-then _ _ (keeps-member-at passes container keys at) (λ m. keeps-some _))

  pub keeps-item-type : (at : Place) → Keeps (item_type_at passes at)
  keeps-item-type at = keeps-then _ _ (keeps-some _) (λ e. keeps-member-at passes _ _ at)

  keeps-narrows : (t u : Shared) (at : Place) → Keeps (narrows_to passes t u at)
  keeps-narrows t u at = keeps-then _ _ (keeps-some _) (λ y. keeps-then _ _ (keeps-asking _) (λ n. keeps-some _))

  pub keeps-begins-clause : (any : Bool) → Keeps (begins_clause passes any)
  keeps-begins-clause true = keeps-then _ _ (keeps-some _) (λ m. keeps-sets-flow _)
  keeps-begins-clause false =
      keeps-then _ _ (keeps-some _) (λ m. keeps-then _ _ (keeps-some _) (λ t. keeps-then _ _ (keeps-narrows m.left t m.at) (λ types.
      keeps-then _ _ (keeps-sets-match _) (λ u. keeps-sets-flow _))))

  keeps-some-left : (any : Bool) (t : Shared) (at : Place) → Keeps (some_is_left passes any t at)
  keeps-some-left true t at = keeps-some _
  keeps-some-left false t at = keeps-asking _

  pub keeps-makes-match : (any : Bool) (at : Place) → Keeps (makes_match passes any at)
  keeps-makes-match any at =
      keeps-then _ _ keeps-closes-match (λ m. keeps-then _ _ (keeps-some-left any m.left m.at) (λ left. keeps-then _ _ (keeps-joins-all m.before _) (λ f.
      keeps-then _ _ (keeps-sets-flow f) (λ u. keeps-then _ _ keeps-takes-part (λ subject. keeps-then _ _ (keeps-new-slot _) (λ own. keeps-adds-stmt _))))))

  -- ---- workers and constants

  pub keeps-ends-by : (reached : Bool) (u : UnitAtWork) (close : Place) → Keeps (ends_by passes reached u close)
  keeps-ends-by false u close = keeps-some _
  keeps-ends-by true u close = keeps-then _ _ (keeps-some _) (λ nil. keeps-then _ _ (keeps-asking _) (λ b. keeps-unless b _ close))

  keeps-descriptor : (names : Names) (tree : Option (Box TypeTree)) → Keeps (descriptor_type names tree)
  keeps-descriptor names None = keeps-some _
  keeps-descriptor names (Some tree) =
      keeps-then _ _ (keeps-some _) (λ site. keeps-then _ _ (keeps-asking _) (λ t. keeps-some _))

  pub keeps-constant : (names : Names) (tree : Option (Box TypeTree)) (d : ConstDef) → Keeps (constant_fits passes names tree d)
  keeps-constant names None d = keeps-some _
  keeps-constant names (Some tree) d =
      keeps-then _ _ (keeps-descriptor names (Some tree)) (λ t. keeps-then _ _ (keeps-some _) (λ v. keeps-asking _))

pub keeps-worker-new : (w : Worker) (number : ℕ) → Keeps (is_worker_new w number)
keeps-worker-new w number = keeps-then _ _ (keeps-some _) (λ site. keeps-then _ _ (keeps-some _) (λ u.
    keeps-either (list_any (λ v. is_same_text v.name w.name.name) u.flow.variables || list_any (is_same_text w.name.name) (take (pred number) site.workers))
    (fails Duplicate w.name.at) done (keeps-fails Duplicate w.name.at) keeps-done))
