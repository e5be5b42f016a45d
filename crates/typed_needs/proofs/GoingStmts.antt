-- The words of statements, workers and functions: atoms come behind those that are there, and units go on.
use Rattle.std.proofs.Common.{ℕ, Bool, true, false, List, [], ◌∷◌, Option, None, Some, refl}
use Rattle.std.specs.Global.{Box}
use Rattle.std.specs.Prelude.{◌||◌, pred, take}
use Rattle.std.specs.List.{list_any}
use Rattle.bal_base.specs.declared.fault.FaultCode.TheVariants.{Duplicate}
use Rattle.bal_base.specs.declared.place.Place.{Place}
use Rattle.bal_base.specs.declared.text.Name.{Name}
use Rattle.bal_tree.specs.declared.def.ConstDef.{ConstDef}
use Rattle.bal_tree.specs.declared.def.Worker.{Worker}
use Rattle.bal_tree.specs.declared.name.QualifiedName.{QualifiedName}
use Rattle.bal_tree.specs.declared.name.Word.{Word}
use Rattle.bal_tree.specs.declared.stmt.AssignOp.{AssignOp}
use Rattle.bal_tree.specs.declared.stmt.AssignOp.TheVariants.{Add, Divide, Multiply, Set, Subtract}
use Rattle.bal_tree.specs.declared.stmt.Pattern.{Pattern}
use Rattle.bal_tree.specs.declared.stmt.Pattern.TheVariants as pattern
use Rattle.bal_tree.specs.declared.types.TypeTree.{TypeTree}
use Rattle.descriptors.specs.declared.names.Meaning.{Meaning}
use Rattle.descriptors.specs.declared.names.Meaning.TheVariants as meaning
use Rattle.descriptors.specs.declared.names.Names.{Names}
use Rattle.operations.specs.declared.operation.Constant.{Constant}
use Rattle.type_model.specs.declared.answers.TypeLimit.{TypeLimit}
use Rattle.type_model.specs.declared.atoms.AtomDef.{AtomDef}
use Rattle.type_model.specs.declared.basic.SemType.{SemType}
use Rattle.type_model.specs.Calls.{Asked}
use Rattle.type_model.specs.Places.{is_same_text}
use Rattle.typed_tree.specs.declared.expr.TypedExpr.{TypedExpr}
use Rattle.typed_tree.specs.declared.form.Operator.{Operator}
use Rattle.typed_tree.specs.declared.form.Read.{Read}
use Rattle.typed_tree.specs.declared.stmt.TypedStmt.{TypedStmt}
use Rattle.typed_tree.specs.declared.stmt.UpdateTarget.{UpdateTarget}
use Rattle.typed_tree.specs.SharedTypes.{Shared}
use Rattle.expr_needs.specs.declared.kind.Kind.{Kind}
use Rattle.flow_narrowing.specs.declared.flow.Flow.{Flow}
use Rattle.flow_narrowing.specs.declared.flow.Variable.{Variable}
use Rattle.check_words.specs.declared.access.Access.{Access}
use Rattle.check_words.specs.declared.access.Access.TheVariants.{Char, Item, Key}
use Rattle.check_words.specs.Branches.{adds_pattern, begins_clause, closes_match, has_pattern, makes_match, item_type_at, item_variable, joins_all, kind_slot, meaning_pattern, opens_match, seen_pattern, sets_match, some_is_left}
use Rattle.check_words.specs.Calls.{is_new}
use Rattle.check_words.specs.Joins.{joins_from, narrows_to}
use Rattle.check_words.specs.Members.{stored_type, takes_access}
use Rattle.check_words.specs.Seen.{Seen, SeenVariable, SeenWorker, SeenConstant, SeenLibrary, SeenMeaning, SeenNothing}
use Rattle.check_words.specs.State.{MatchAtWork, UnitAtWork}
use Rattle.check_words.specs.Statements.{Assigned, AssignsModule, AssignsVariable, adds_stmt, assigned_by, assigns_to, closes_block, keeps_two, meaning_assignable, operand_sort, reads_assigned, result_fits, seen_assignable, takes_operator, takes_part, takes_want, updates, updates_assigned, updates_member, variable_assignable}
use Rattle.check_words.specs.Units.{constant_fits, descriptor_type, ends_by, is_worker_new}
use Rattle.check_words.specs.Words.{changes_flow, done, fails, takes}
use Rattle.typed_needs.proofs.Going.{Goes, goes-asking, goes-becomes, goes-beside, goes-done, goes-either, goes-fails, goes-flow-now, goes-handles, goes-new-slot, goes-no-more, goes-sets-flow, goes-some, goes-then, goes-unless, goes-wants, goes-wants-some}
use Rattle.typed_needs.proofs.GoingNeeds.{goes-looks-up, goes-member-at, goes-takes-sort, goes-whether, goes-within}
use Rattle.typed_needs.proofs.Questions.{below-behind, has-some-behind, is-below-behind, names-behind, where-false-behind, whole-behind}

pub goes-changes-flow : (change : Flow → Flow) → Goes (changes_flow change)
goes-changes-flow change = goes-then _ _ goes-flow-now (λ f. goes-sets-flow _)

pub goes-takes : (count : ℕ) → Goes (takes count)
goes-takes count = goes-then _ _ (goes-some _) (λ all. goes-then _ _ (goes-becomes _ (λ s. goes-beside s _ refl refl)) (λ u. goes-some _))

pub goes-takes-part : Goes takes_part
goes-takes-part = goes-then _ _ (goes-some _) (λ e. goes-then _ _ (goes-takes 1) (λ all. goes-some _))

pub goes-takes-want : Goes takes_want
goes-takes-want = goes-then _ _ (goes-some _) (λ t. goes-then _ _ (goes-no-more 1) (λ u. goes-some _))

pub goes-adds-stmt : (P : TypedStmt → Type 0) → Goes (adds_stmt P)
goes-adds-stmt P = goes-then _ _ (goes-some _) (λ b. goes-then _ _ (goes-some _) (λ stmt. goes-becomes _ (λ s. goes-beside s _ refl refl)))

pub goes-closes-block : Goes closes_block
goes-closes-block = goes-then _ _ (goes-some _) (λ b. goes-then _ _ (goes-becomes _ (λ s. goes-beside s _ refl refl)) (λ u. goes-some _))

pub goes-takes-access : Goes takes_access
goes-takes-access = goes-then _ _ (goes-some _) (λ a. goes-then _ _ (goes-becomes _ (λ s. goes-beside s _ refl refl)) (λ u. goes-some _))

-- ---- assignments

goes-variable-assignable : (v : Variable) (at : Place) → Goes (variable_assignable v at)
goes-variable-assignable v at = goes-then _ _ (goes-either v.fixed _ _ (goes-fails _ at) (goes-unless _ _ at)) (λ u. goes-wants _)

goes-meaning-assignable : (m : Meaning) (at : Place) → Goes (meaning_assignable m at)
goes-meaning-assignable (meaning.TypeName t) at = goes-fails _ at
goes-meaning-assignable (meaning.Constant t) at = goes-fails _ at
goes-meaning-assignable (meaning.Variable number final t) at = goes-either final _ _ (goes-fails _ at) (goes-wants-some _)
goes-meaning-assignable (meaning.Function f) at = goes-fails _ at

pub goes-seen-assignable : (seen : Seen) (at : Place) → Goes (seen_assignable seen at)
goes-seen-assignable (SeenVariable v) at = goes-variable-assignable v at
goes-seen-assignable (SeenWorker w) at = goes-fails _ at
goes-seen-assignable (SeenConstant c) at = goes-fails _ at
goes-seen-assignable (SeenLibrary r) at = goes-fails _ at
goes-seen-assignable (SeenMeaning m) at = goes-meaning-assignable m at
goes-seen-assignable (SeenNothing code) at = goes-fails code at

pub goes-assigns-to : (a : Assigned) (value : TypedExpr) (at : Place) → Goes (assigns_to a value at)
goes-assigns-to (AssignsVariable v) value at = goes-then _ _ (goes-changes-flow _) (λ u. goes-adds-stmt _)
goes-assigns-to (AssignsModule number t) value at = goes-adds-stmt _

pub goes-reads-assigned : (a : Assigned) → Goes (reads_assigned a)
goes-reads-assigned (AssignsVariable v) = goes-wants _
goes-reads-assigned (AssignsModule number t) = goes-wants-some _

pub goes-assigned-by : (names : Names) (q : QualifiedName) → Goes (assigned_by names q)
goes-assigned-by names q = goes-then _ _ (goes-looks-up names q) (λ seen. goes-some _)

pub goes-takes-operator : (assign : AssignOp) → Goes (takes_operator assign)
goes-takes-operator assign = goes-then _ _ goes-takes-sort (λ ints. goes-some _)

goes-updates : (P : UpdateTarget → Type 0) (op : Operator) (value : TypedExpr) (at : Place) → Goes (updates P op value at)
goes-updates P op value at = goes-then _ _ (goes-some _) (λ what. goes-adds-stmt _)

pub goes-updates-assigned : (a : Assigned) (t : Shared) (op : Operator) (value : TypedExpr) (at : Place) → Goes (updates_assigned a t op value at)
goes-updates-assigned (AssignsVariable v) t op value at = goes-then _ _ (goes-changes-flow _) (λ u. goes-updates _ op value at)
goes-updates-assigned (AssignsModule number u) t op value at = goes-updates _ op value at

goes-keeps-two : (container key : TypedExpr) → Goes (keeps_two container key)
goes-keeps-two container key = goes-then _ _ (goes-new-slot _) (λ own. goes-then _ _ (goes-new-slot _) (λ next. goes-some _))

pub goes-updates-member : (how : Read) (t : Shared) (op : Operator) (all : List TypedExpr) (at : Place) → Goes (updates_member how t op all at)
goes-updates-member how t op all at = goes-then _ _ (goes-some _) (λ p. goes-then _ _ (goes-keeps-two p.0 p.1) (λ own. goes-updates _ op p.2 at))

-- ---- branches, loops and matches

pub goes-item-variable : Goes item_variable
goes-item-variable = goes-then _ _ goes-flow-now (λ f. goes-some _)

pub goes-kind-slot : (k : Kind) → Goes (kind_slot k)
goes-kind-slot k = goes-then _ _ (goes-some _) (λ t. goes-new-slot _)

pub goes-sets-match : (m : MatchAtWork) → Goes (sets_match m)
goes-sets-match m = goes-then _ _ (goes-handles _ _) (λ n. goes-becomes _ (λ s. goes-beside s _ refl refl))

pub goes-opens-match : (m : MatchAtWork) → Goes (opens_match m)
goes-opens-match m = goes-then _ _ (goes-handles _ _) (λ n. goes-becomes _ (λ s. goes-beside s _ refl refl))

pub goes-closes-match : Goes closes_match
goes-closes-match = goes-then _ _ (goes-some _) (λ m. goes-then _ _ (goes-becomes _ (λ s. goes-beside s _ refl refl)) (λ u. goes-some _))

goes-adds-pattern : (c : Option Constant) (at : Place) → Goes (adds_pattern c at)
goes-adds-pattern c at = goes-then _ _ (goes-some _) (λ m. goes-sets-match _)

goes-meaning-pattern : (m : Meaning) (at : Place) → Goes (meaning_pattern m at)
goes-meaning-pattern (meaning.Constant t) at = goes-then _ _ (goes-some _) (λ c. goes-adds-pattern _ at)
goes-meaning-pattern (meaning.TypeName t) at = goes-fails _ at
goes-meaning-pattern (meaning.Variable number final t) at = goes-fails _ at
goes-meaning-pattern (meaning.Function f) at = goes-fails _ at

goes-seen-pattern : (seen : Seen) (at : Place) → Goes (seen_pattern seen at)
goes-seen-pattern (SeenVariable v) at = goes-fails _ at
goes-seen-pattern (SeenWorker w) at = goes-fails _ at
goes-seen-pattern (SeenConstant c) at = goes-adds-pattern _ at
goes-seen-pattern (SeenLibrary r) at = goes-fails _ at
goes-seen-pattern (SeenMeaning m) at = goes-meaning-pattern m at
goes-seen-pattern (SeenNothing code) at = goes-fails code at

pub goes-pattern : (names : Names) (p : Pattern) → Goes (has_pattern names p)
goes-pattern names (pattern.Any at) = goes-adds-pattern None at
goes-pattern names (pattern.Value v) = goes-adds-pattern _ _
goes-pattern names (pattern.Name q) = goes-then _ _ (goes-looks-up names q) (λ seen. goes-seen-pattern seen q.at)

goes-joins-from : (f : Flow) (gs : List Flow) → Goes (joins_from f gs)
goes-joins-from f [] = goes-some _
goes-joins-from f (g ∷ gs) = goes-then _ _ (goes-some _) (λ h. goes-joins-from h gs)

pub goes-joins-all : (before : Flow) (fs : List Flow) → Goes (joins_all before fs)
goes-joins-all before [] = goes-some _
goes-joins-all before (f ∷ fs) = goes-joins-from f fs

pub goes-is-new : (w : Word) → Goes (is_new w)
goes-is-new w = goes-then _ _ (goes-some _) (λ b. goes-either b _ _ (goes-fails _ _) (goes-some _))

module _ (passes : List AtomDef → Asked → TypeLimit → Type 0) where
  pub goes-operand-sort : (assign : AssignOp) (t : Shared) (at : Place) → Goes (operand_sort passes assign t at)
  goes-operand-sort Set t at = goes-some _
  goes-operand-sort Add t at =
      goes-then _ _ (goes-whether passes _ _ at) (λ ints. goes-then _ _ (goes-either ints _ _ (goes-some _) (goes-within passes _ _ at)) (λ u. goes-some _))
  goes-operand-sort Subtract t at = goes-some _
  goes-operand-sort Multiply t at = goes-some _
  goes-operand-sort Divide t at = goes-some _

  pub goes-result-fits : (at : Place) → Goes (result_fits passes at)
  goes-result-fits at =
      goes-then _ _ goes-takes-want (λ result. goes-then _ _ goes-takes-want (λ read_type. goes-then _ _ goes-takes-want (λ stored.
      goes-then _ _ (goes-asking _ (below-behind passes _ _ (Some at))) (λ u. goes-some _))))

  pub goes-stored-type : (a : Access) (container key : SemType) (at : Place) → Goes (stored_type passes a container key at)
  goes-stored-type Char container key at = goes-some _
  goes-stored-type Item container key at =
      goes-then _ _ (goes-asking _ (names-behind passes Item key at)) (λ keys. goes-then _ _ (goes-member-at passes container keys at) (λ m. goes-some _))
  goes-stored-type Key container key at =
      goes-then _ _ (goes-asking _ (names-behind passes Key key at)) (λ keys. goes-then _ _ (goes-member-at passes container keys at) (λ m. goes-some _))

  pub goes-item-type : (at : Place) → Goes (item_type_at passes at)
  goes-item-type at = goes-then _ _ (goes-some _) (λ e. goes-member-at passes _ _ at)

  goes-narrows : (t u : Shared) (at : Place) → Goes (narrows_to passes t u at)
  goes-narrows t u at = goes-then _ _ (goes-some _) (λ y. goes-then _ _ (goes-asking _ (where-false-behind passes t.value u.value at)) (λ n. goes-some _))

  pub goes-begins-clause : (any : Bool) → Goes (begins_clause passes any)
  goes-begins-clause true = goes-then _ _ (goes-some _) (λ m. goes-sets-flow _)
  goes-begins-clause false =
      goes-then _ _ (goes-some _) (λ m. goes-then _ _ (goes-some _) (λ t. goes-then _ _ (goes-narrows m.left t m.at) (λ types.
      goes-then _ _ (goes-sets-match _) (λ u. goes-sets-flow _))))

  goes-some-left : (any : Bool) (t : Shared) (at : Place) → Goes (some_is_left passes any t at)
  goes-some-left true t at = goes-some _
  goes-some-left false t at = goes-asking _ (has-some-behind passes _ (Some at))

  pub goes-makes-match : (any : Bool) (at : Place) → Goes (makes_match passes any at)
  goes-makes-match any at =
      goes-then _ _ goes-closes-match (λ m. goes-then _ _ (goes-some-left any m.left m.at) (λ left. goes-then _ _ (goes-joins-all m.before _) (λ f.
      goes-then _ _ (goes-sets-flow f) (λ u. goes-then _ _ goes-takes-part (λ subject. goes-then _ _ (goes-new-slot _) (λ own. goes-adds-stmt _))))))

  -- ---- workers and constants

  pub goes-ends-by : (reached : Bool) (u : UnitAtWork) (close : Place) → Goes (ends_by passes reached u close)
  goes-ends-by false u close = goes-some _
  goes-ends-by true u close = goes-then _ _ (goes-some _) (λ nil. goes-then _ _ (goes-asking _ (is-below-behind passes _ _ (Some close))) (λ b. goes-unless b _ close))

  goes-descriptor : (names : Names) (tree : Option (Box TypeTree)) → Goes (descriptor_type names tree)
  goes-descriptor names None = goes-some _
  goes-descriptor names (Some tree) =
      goes-then _ _ (goes-some _) (λ site. goes-then _ _ (goes-asking _ (whole-behind names site.scope _)) (λ t. goes-some _))

  pub goes-constant : (names : Names) (tree : Option (Box TypeTree)) (d : ConstDef) → Goes (constant_fits passes names tree d)
  goes-constant names None d = goes-some _
  goes-constant names (Some tree) d =
      goes-then _ _ (goes-descriptor names (Some tree)) (λ t. goes-then _ _ (goes-some _) (λ v. goes-asking _ (below-behind passes _ _ (Some _))))

pub goes-worker-new : (w : Worker) (number : ℕ) → Goes (is_worker_new w number)
goes-worker-new w number = goes-then _ _ (goes-some _) (λ site. goes-then _ _ (goes-some _) (λ u.
    goes-either (list_any (λ v. is_same_text v.name w.name.name) u.flow.variables || list_any (is_same_text w.name.name) (take (pred number) site.workers))
    (fails Duplicate w.name.at) done (goes-fails Duplicate w.name.at) goes-done))
