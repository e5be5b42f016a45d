-- How many the needs of branches, loops, matches and workers leave.
use Rattle.std.proofs.Common.{ℕ, suc, Bool, true, false, List, [], ◌∷◌, Option, None, Some}
use Rattle.std.specs.Prelude.{◌||◌, pred, take}
use Rattle.std.specs.List.{list_any}
use Rattle.std.specs.Global.{Box}
use Rattle.bal_base.specs.declared.fault.FaultCode.TheVariants.{Duplicate}
use Rattle.bal_base.specs.declared.place.Place.{Place}
use Rattle.bal_base.specs.declared.text.Name.{Name}
use Rattle.bal_tree.specs.declared.def.ConstDef.{ConstDef}
use Rattle.bal_tree.specs.declared.def.Worker.{Worker}
use Rattle.bal_tree.specs.declared.name.QualifiedName.{QualifiedName}
use Rattle.bal_tree.specs.declared.name.Word.{Word}
use Rattle.bal_tree.specs.declared.stmt.Pattern.{Pattern}
use Rattle.bal_tree.specs.declared.stmt.Pattern.TheVariants as pattern
use Rattle.bal_tree.specs.declared.stmt.RangeOp.{RangeOp}
use Rattle.bal_tree.specs.declared.types.TypeTree.{TypeTree}
use Rattle.descriptors.specs.declared.names.Meaning.{Meaning}
use Rattle.descriptors.specs.declared.names.Meaning.TheVariants as meaning
use Rattle.descriptors.specs.declared.names.Names.{Names}
use Rattle.operations.specs.declared.operation.Constant.{Constant}
use Rattle.type_model.specs.declared.answers.TypeLimit.{TypeLimit}
use Rattle.type_model.specs.declared.atoms.AtomDef.{AtomDef}
use Rattle.type_model.specs.Calls.{Asked}
use Rattle.type_model.specs.Places.{is_same_text}
use Rattle.typed_tree.specs.SharedTypes.{Shared}
use Rattle.expr_needs.specs.declared.kind.Kind.{Kind}
use Rattle.expr_needs.specs.declared.kind.Kind.TheVariants as kind
use Rattle.check_words.specs.Branches.{adds_pattern, begins_clause, begins_match, closes_match, ends_clause, has_item, has_pattern, heads, is_counter, is_item_of_loop, item_type_at, item_variable, joins_all, kind_slot, makes_foreach, makes_if, makes_match, makes_range, makes_while, meaning_pattern, opens_loop, seen_pattern, sets_match, some_is_left, wants_counter, widens_item}
use Rattle.check_words.specs.Joins.{joins_from, narrows_to}
use Rattle.check_words.specs.Seen.{Seen, SeenVariable, SeenWorker, SeenConstant, SeenLibrary, SeenMeaning, SeenNothing}
use Rattle.check_words.specs.State.{Done, MatchAtWork, State, UnitAtWork}
use Rattle.check_words.specs.Units.{begins_worker, changes_done, constant_fits, descriptor_type, ends_by, ends_worker, is_worker_new, names_parameter}
use Rattle.check_words.specs.Words.{done, fails}
use Rattle.flow_narrowing.specs.declared.flow.Flow.{Flow}
use Rattle.check_laws.specs.Heights.{Heights, ◌⊕◌, parts, wants, choices, matches, blocks, units, with_stmt}
use Rattle.check_laws.proofs.Actions.{goes-result}
use Rattle.check_laws.proofs.Calls.{goes-closes-unit, goes-is-new, goes-new-number, goes-opens-unit}
use Rattle.check_laws.proofs.Setting.{apart-from, with-matches}
use Rattle.check_laws.proofs.Stacks.{fewer-on, one-on, other-on}
use Rattle.check_laws.proofs.Statements.{goes-adds-stmt, goes-closes-block, goes-takes-part, goes-takes-want}
use Rattle.check_laws.proofs.Values.{goes-looks-up, goes-widened}
use Rattle.check_laws.proofs.Words.{Goes, goes-asking, goes-becomes, goes-changes-flow, goes-closes-choice, goes-done, goes-either, goes-fails, goes-flow-now, goes-handles, goes-new-slot, goes-opens-choice, goes-sets-flow, goes-some, goes-takes, goes-then, goes-unless, goes-wants, goes-wants-some}

module _ (s : State) where
  -- ---- branches

  pub goes-makes-if : (r : Heights) (at : Place) → Goes s (r ⊕ (parts 1 ⊕ (choices 1 ⊕ blocks 2))) (makes_if at) (with_stmt r)
  goes-makes-if r at =
      let h : Heights = r ⊕ (parts 1 ⊕ blocks 2) in
      goes-then s _ _ (goes-flow-now s (r ⊕ (parts 1 ⊕ (choices 1 ⊕ blocks 2)))) (λ f. goes-then s _ _ (goes-closes-choice s h) (λ c.
      goes-then s _ _ (goes-some s h _) (λ g. goes-then s _ _ (goes-sets-flow s h _) (λ u.
      goes-then s _ _ (goes-closes-block s (r ⊕ (parts 1 ⊕ blocks 1))) (λ second. goes-then s _ _ (goes-closes-block s (r ⊕ parts 1)) (λ first.
      goes-then s _ _ (goes-takes-part s r) (λ condition. goes-adds-stmt s r _)))))))

  -- ---- loops

  pub goes-heads : (h : Heights) (words : List Word) → Goes s h (heads words) h
  goes-heads h words = goes-changes-flow s h _

  pub goes-opens-loop : (r : Heights) → Goes s r opens_loop (r ⊕ choices 1)
  goes-opens-loop r = goes-then s _ _ (goes-flow-now s r) (λ f. goes-opens-choice s r _)

  pub goes-makes-while : (r : Heights) (leaves : Bool) (at : Place) → Goes s (r ⊕ (parts 1 ⊕ (choices 1 ⊕ blocks 1))) (makes_while leaves at) (with_stmt r)
  goes-makes-while r leaves at =
      goes-then s _ _ (goes-closes-choice s (r ⊕ (parts 1 ⊕ blocks 1))) (λ c. goes-then s _ _ (goes-sets-flow s (r ⊕ (parts 1 ⊕ blocks 1)) _) (λ u.
      goes-then s _ _ (goes-closes-block s (r ⊕ parts 1)) (λ body. goes-then s _ _ (goes-takes-part s r) (λ condition. goes-adds-stmt s r _))))

  pub goes-has-item : (r : Heights) (name : Name) (assigned : Bool) → Goes s (r ⊕ wants 1) (has_item name assigned) r
  goes-has-item r name assigned =
      goes-then s _ _ (goes-takes-want s r) (λ t. goes-then s _ _ (goes-new-slot s r _) (λ slot. goes-changes-flow s r _))

  goes-item-variable : (h : Heights) → Goes s h item_variable h
  goes-item-variable h = goes-then s _ _ (goes-flow-now s h) (λ f. goes-some s h _)

  goes-kind-slot : (h : Heights) (k : Kind) → Goes s h (kind_slot k) h
  goes-kind-slot h k = goes-then s _ _ (goes-some s h _) (λ t. goes-new-slot s h _)

  pub goes-makes-foreach : (r : Heights) (at : Place) → Goes s (r ⊕ (parts 1 ⊕ (choices 1 ⊕ blocks 1))) (makes_foreach at) (with_stmt r)
  goes-makes-foreach r at =
      goes-then s _ _ (goes-item-variable (r ⊕ (parts 1 ⊕ (choices 1 ⊕ blocks 1)))) (λ v.
      goes-then s _ _ (goes-closes-choice s (r ⊕ (parts 1 ⊕ blocks 1))) (λ c. goes-then s _ _ (goes-sets-flow s (r ⊕ (parts 1 ⊕ blocks 1)) _) (λ u.
      goes-then s _ _ (goes-closes-block s (r ⊕ parts 1)) (λ body. goes-then s _ _ (goes-takes-part s r) (λ list.
      goes-then s _ _ (goes-new-slot s r _) (λ own. goes-then s _ _ (goes-kind-slot r kind.Integer) (λ index. goes-then s _ _ (goes-some s r _) (λ over.
      goes-adds-stmt s r _))))))))

  pub goes-makes-range : (r : Heights) (op : RangeOp) (at : Place) → Goes s (r ⊕ (parts 2 ⊕ (choices 1 ⊕ blocks 1))) (makes_range op at) (with_stmt r)
  goes-makes-range r op at =
      goes-then s _ _ (goes-item-variable (r ⊕ (parts 2 ⊕ (choices 1 ⊕ blocks 1)))) (λ v.
      goes-then s _ _ (goes-closes-choice s (r ⊕ (parts 2 ⊕ blocks 1))) (λ c. goes-then s _ _ (goes-sets-flow s (r ⊕ (parts 2 ⊕ blocks 1)) _) (λ u.
      goes-then s _ _ (goes-closes-block s (r ⊕ parts 2)) (λ body. goes-then s _ _ (goes-some s (r ⊕ parts 2) _) (λ p.
      goes-then s _ _ (goes-takes s r 2) (λ all. goes-then s _ _ (goes-kind-slot r kind.Integer) (λ own. goes-then s _ _ (goes-kind-slot r kind.Integer) (λ last.
      goes-then s _ _ (goes-kind-slot r kind.Truth) (λ left. goes-then s _ _ (goes-some s r _) (λ over. goes-adds-stmt s r _))))))))))

  pub goes-wants-counter : (r : Heights) → Goes s r wants_counter (r ⊕ wants 1)
  goes-wants-counter r = goes-wants-some s r _

  -- ---- matches

  pub goes-begins-match : (r : Heights) (name : Option QualifiedName) (at : Place) → Goes s r (begins_match name at) (r ⊕ matches 1)
  goes-begins-match r name at =
      goes-then s _ _ (goes-some s r _) (λ e. goes-then s _ _ (goes-flow-now s r) (λ f.
      goes-then s _ _ (goes-handles s r _ _) (λ n. goes-becomes s r (r ⊕ matches 1) _ (λ old p. apart-from s _ old.atoms None old.done (with-matches s old _ _ p (one-on n p.matches))))))

  goes-sets-match : (r : Heights) (m : MatchAtWork) → Goes s (r ⊕ matches 1) (sets_match m) (r ⊕ matches 1)
  goes-sets-match r m =
      goes-then s _ _ (goes-handles s (r ⊕ matches 1) _ _) (λ n.
      goes-becomes s (r ⊕ matches 1) (r ⊕ matches 1) _ (λ old p. with-matches s old (suc r.matches) _ p (other-on n p.matches)))

  goes-closes-match : (r : Heights) → Goes s (r ⊕ matches 1) closes_match r
  goes-closes-match r =
      goes-then s _ _ (goes-some s (r ⊕ matches 1) _) (λ m. goes-then s _ _
      (goes-becomes s (r ⊕ matches 1) r _ (λ old p. with-matches s old _ _ p (fewer-on 1 r.matches p.matches))) (λ u. goes-some s r _))

  goes-adds-pattern : (r : Heights) (c : Option Constant) (at : Place) → Goes s (r ⊕ matches 1) (adds_pattern c at) (r ⊕ matches 1)
  goes-adds-pattern r c at = goes-then s _ _ (goes-some s (r ⊕ matches 1) _) (λ m. goes-sets-match r _)

  goes-meaning-pattern : (r : Heights) (m : Meaning) (at : Place) → Goes s (r ⊕ matches 1) (meaning_pattern m at) (r ⊕ matches 1)
  goes-meaning-pattern r (meaning.Constant t) at = goes-then s _ _ (goes-some s (r ⊕ matches 1) _) (λ c. goes-adds-pattern r _ at)
  goes-meaning-pattern r (meaning.TypeName t) at = goes-fails s _ _ _ at
  goes-meaning-pattern r (meaning.Variable number final t) at = goes-fails s _ _ _ at
  goes-meaning-pattern r (meaning.Function f) at = goes-fails s _ _ _ at

  goes-seen-pattern : (r : Heights) (seen : Seen) (at : Place) → Goes s (r ⊕ matches 1) (seen_pattern seen at) (r ⊕ matches 1)
  goes-seen-pattern r (SeenVariable v) at = goes-fails s _ _ _ at
  goes-seen-pattern r (SeenWorker w) at = goes-fails s _ _ _ at
  goes-seen-pattern r (SeenConstant c) at = goes-adds-pattern r _ at
  goes-seen-pattern r (SeenLibrary row) at = goes-fails s _ _ _ at
  goes-seen-pattern r (SeenMeaning m) at = goes-meaning-pattern r m at
  goes-seen-pattern r (SeenNothing code) at = goes-fails s _ _ code at

  pub goes-pattern : (names : Names) (r : Heights) (p : Pattern) → Goes s (r ⊕ matches 1) (has_pattern names p) (r ⊕ matches 1)
  goes-pattern names r (pattern.Any at) = goes-adds-pattern r None at
  goes-pattern names r (pattern.Value v) = goes-adds-pattern r _ _
  goes-pattern names r (pattern.Name q) = goes-then s _ _ (goes-looks-up s names (r ⊕ matches 1) q) (λ seen. goes-seen-pattern r seen q.at)

  pub goes-ends-clause : (r : Heights) (at : Place) → Goes s (r ⊕ (matches 1 ⊕ blocks 1)) (ends_clause at) (r ⊕ matches 1)
  goes-ends-clause r at =
      goes-then s _ _ (goes-flow-now s (r ⊕ (matches 1 ⊕ blocks 1))) (λ f. goes-then s _ _ (goes-closes-block s (r ⊕ matches 1)) (λ b.
      goes-then s _ _ (goes-some s (r ⊕ matches 1) _) (λ m. goes-then s _ _ (goes-some s (r ⊕ matches 1) _) (λ c. goes-sets-match r _))))

  goes-joins-from : (h : Heights) (f : Flow) (fs : List Flow) → Goes s h (joins_from f fs) h
  goes-joins-from h f [] = goes-some s h _
  goes-joins-from h f (g ∷ gs) = goes-then s _ _ (goes-some s h _) (λ k. goes-joins-from h k gs)

  goes-joins-all : (h : Heights) (before : Flow) (fs : List Flow) → Goes s h (joins_all before fs) h
  goes-joins-all h before [] = goes-some s h _
  goes-joins-all h before (f ∷ fs) = goes-joins-from h f fs

  -- `passes`: which questions pass a limit
  module _ (passes : List AtomDef → Asked → TypeLimit → Type 0) where
    -- ---- what a loop goes through

    goes-item-type : (h : Heights) (at : Place) → Goes s h (item_type_at passes at) h
    goes-item-type h at = goes-then s _ _ (goes-some s h _) (λ e. goes-asking s h _)

    pub goes-item-of-loop : (h : Heights) (at : Place) → Goes s h (is_item_of_loop passes at) h
    goes-item-of-loop h at = goes-then s _ _ (goes-item-type h at) (λ m. goes-then s _ _ (goes-some s h _) (λ t. goes-asking s h _))

    pub goes-widens-item : (r : Heights) (at : Place) → Goes s r (widens_item passes at) (r ⊕ wants 1)
    goes-widens-item r at =
        goes-then s _ _ (goes-item-type r at) (λ m. goes-then s _ _ (goes-some s r _) (λ t.
        goes-then s _ _ (goes-widened s passes r t at) (λ u. goes-wants s r _)))

    pub goes-counter : (h : Heights) (at : Place) → Goes s h (is_counter passes at) h
    goes-counter h at = goes-then s _ _ (goes-some s h _) (λ t. goes-then s _ _ (goes-some s h _) (λ int. goes-asking s h _))

    -- ---- clauses

    goes-narrows : (h : Heights) (t u : Shared) (at : Place) → Goes s h (narrows_to passes t u at) h
    goes-narrows h t u at = goes-then s _ _ (goes-some s h _) (λ yes. goes-then s _ _ (goes-asking s h _) (λ no. goes-some s h _))

    pub goes-begins-clause : (r : Heights) (any : Bool) → Goes s (r ⊕ matches 1) (begins_clause passes any) (r ⊕ matches 1)
    goes-begins-clause r true = goes-then s _ _ (goes-some s (r ⊕ matches 1) _) (λ m. goes-sets-flow s (r ⊕ matches 1) _)
    goes-begins-clause r false =
        goes-then s _ _ (goes-some s (r ⊕ matches 1) _) (λ m. goes-then s _ _ (goes-some s (r ⊕ matches 1) _) (λ t.
        goes-then s _ _ (goes-narrows (r ⊕ matches 1) m.left t _) (λ types. goes-then s _ _ (goes-sets-match r _) (λ u. goes-sets-flow s (r ⊕ matches 1) _))))

    goes-some-left : (h : Heights) (any : Bool) (t : Shared) (at : Place) → Goes s h (some_is_left passes any t at) h
    goes-some-left h true t at = goes-some s h _
    goes-some-left h false t at = goes-asking s h _

    pub goes-makes-match : (r : Heights) (any : Bool) (at : Place) → Goes s (r ⊕ (parts 1 ⊕ matches 1)) (makes_match passes any at) (with_stmt r)
    goes-makes-match r any at =
        goes-then s _ _ (goes-closes-match (r ⊕ parts 1)) (λ m. goes-then s _ _ (goes-some-left (r ⊕ parts 1) any _ _) (λ left.
        goes-then s _ _ (goes-joins-all (r ⊕ parts 1) m.before _) (λ f. goes-then s _ _ (goes-sets-flow s (r ⊕ parts 1) f) (λ u.
        goes-then s _ _ (goes-takes-part s r) (λ subject. goes-then s _ _ (goes-new-slot s r _) (λ own. goes-adds-stmt s r _))))))

    -- ---- workers, parameters and constants

    goes-ends-by : (h : Heights) (reached : Bool) (u : UnitAtWork) (close : Place) → Goes s h (ends_by passes reached u close) h
    goes-ends-by h false u close = goes-done s h
    goes-ends-by h true u close =
        goes-then s _ _ (goes-some s h _) (λ nil. goes-then s _ _ (goes-asking s h _) (λ b. goes-unless s h b _ close))

    pub goes-ends-worker : (r : Heights) (w : Worker) (close : Place) → Goes s (r ⊕ (units 1 ⊕ blocks 1)) (ends_worker passes w close) r
    goes-ends-worker r w close =
        goes-then s _ _ (goes-closes-unit s (r ⊕ blocks 1)) (λ u. goes-then s _ _ (goes-ends-by (r ⊕ blocks 1) _ u close) (λ v.
        goes-then s _ _ (goes-closes-block s r) (λ b. goes-then s _ _ (goes-some s r _) (λ t. goes-changes-done r _))))
      where
        goes-changes-done : (h : Heights) (change : Done → Done) → Goes s h (changes_done change) h
        goes-changes-done h change = goes-becomes s h h _ (λ old p. apart-from s old old.atoms old.ways _ p)

    goes-descriptor : (names : Names) (h : Heights) (tree : Option (Box TypeTree)) → Goes s h (descriptor_type names tree) h
    goes-descriptor names h None = goes-some s h _
    goes-descriptor names h (Some tree) =
        goes-then s _ _ (goes-some s h _) (λ site. goes-then s _ _ (goes-asking s h _) (λ t. goes-some s h _))

    pub goes-constant : (names : Names) (h : Heights) (tree : Option (Box TypeTree)) (d : ConstDef) → Goes s h (constant_fits passes names tree d) h
    goes-constant names h None d = goes-done s h
    goes-constant names h (Some tree) d =
        goes-then s _ _ (goes-descriptor names h (Some tree)) (λ t. goes-then s _ _ (goes-some s h _) (λ v. goes-asking s h _))

  goes-worker-new : (h : Heights) (w : Worker) (number : ℕ) → Goes s h (is_worker_new w number) h
  goes-worker-new h w number =
      goes-then s _ _ (goes-some s h _) (λ site. goes-then s _ _ (goes-some s h _) (λ u.
      goes-either s
      (list_any (λ v. is_same_text v.name w.name.name) u.flow.variables || list_any (is_same_text w.name.name) (take (pred number) site.workers))
      (fails Duplicate w.name.at) done (goes-fails s h h Duplicate w.name.at) (goes-done s h)))

  pub goes-begins-worker : (r : Heights) (w : Worker) (number : ℕ) (used : List Word) → Goes s r (begins_worker w number used) (r ⊕ units 1)
  goes-begins-worker r w number used =
      goes-then s _ _ (goes-worker-new r w number) (λ u. goes-then s _ _ (goes-result s r number) (λ result.
      goes-then s _ _ (goes-some s r _) (λ around. goes-then s _ _ (goes-new-number s r) (λ n. goes-opens-unit s r _))))

  pub goes-names-parameter : (h : Heights) (w : Word) (assigned : Bool) → Goes s h (names_parameter w assigned) h
  goes-names-parameter h w assigned =
      goes-then s _ _ (goes-is-new s h w) (λ u. goes-then s _ _ (goes-some s h _) (λ unit. goes-then s _ _ (goes-some s h _) (λ t. goes-changes-flow s h _)))
