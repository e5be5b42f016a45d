-- How many the needs of statements leave, but for branches and loops.
use Rattle.std.proofs.Common.{◌≡◌, ℕ, zero, suc, Bool, List, sym, subst, ap, ◌∙◌}
use Rattle.bal_base.specs.declared.place.Place.{Place}
use Rattle.bal_base.specs.declared.text.Name.{Name}
use Rattle.bal_tree.specs.declared.name.QualifiedName.{QualifiedName}
use Rattle.bal_tree.specs.declared.name.Word.{Word}
use Rattle.bal_tree.specs.declared.stmt.AssignOp.{AssignOp}
use Rattle.bal_tree.specs.declared.stmt.AssignOp.TheVariants.{Set, Add, Subtract, Multiply, Divide}
use Rattle.checks.specs.Checks.{gives_some, ◌▷◌}
use Rattle.descriptors.specs.declared.names.Meaning.{Meaning}
use Rattle.descriptors.specs.declared.names.Meaning.TheVariants as meaning
use Rattle.descriptors.specs.declared.names.Names.{Names}
use Rattle.needs.specs.Needs.{does}
use Rattle.type_model.specs.declared.answers.TypeLimit.{TypeLimit}
use Rattle.type_model.specs.declared.atoms.AtomDef.{AtomDef}
use Rattle.type_model.specs.declared.basic.SemType.{SemType}
use Rattle.type_model.specs.Calls.{Asked}
use Rattle.typed_tree.specs.declared.expr.TypedExpr.{TypedExpr}
use Rattle.typed_tree.specs.declared.form.Operator.{Operator}
use Rattle.typed_tree.specs.declared.form.Read.{Read}
use Rattle.typed_tree.specs.declared.stmt.PerformForm.{PerformForm}
use Rattle.typed_tree.specs.declared.stmt.TypedStmt.{TypedStmt}
use Rattle.typed_tree.specs.declared.stmt.UpdateTarget.{UpdateTarget}
use Rattle.typed_tree.specs.SharedTypes.{Shared}
use Rattle.check_words.specs.declared.access.Access.{Access}
use Rattle.check_words.specs.declared.access.Access.TheVariants.{Char, Item, Key}
use Rattle.check_words.specs.Members.{expects_stored, has_field, reads_stored, reads_stored_field, stored_type}
use Rattle.check_words.specs.Seen.{Seen, SeenVariable, SeenWorker, SeenConstant, SeenLibrary, SeenMeaning, SeenNothing}
use Rattle.check_words.specs.State.{BlockAtWork, IsLast, State, replaced}
use Rattle.check_words.specs.Statements.{Assigned, AssignsModule, AssignsVariable, adds_stmt, assigned_by, assigns, assigns_to, begins_block, breaks, closes_block, continues, declares, ends_block, is_assignable, is_ignorable, is_operand, makes_block, meaning_assignable, operand_sort, performs, reads_assigned, reads_name, result_fits, returns, returns_nil, seen_assignable, stops, stores, takes_operator, takes_part, takes_want, updates, updates_assigned, updates_element, updates_field, updates_member, updates_name, variable_assignable}
use Rattle.flow_narrowing.specs.declared.flow.Variable.{Variable}
use Rattle.check_laws.specs.Heights.{Heights, ◌⊕◌, parts, wants, sorts, accesses, blocks, with_stmt}
use Rattle.check_laws.specs.Positions.{Above}
use Rattle.check_laws.proofs.Setting.{with-blocks}
use Rattle.check_laws.proofs.Stacks.{block-above, block-off, block-on, stmt-at-hand, with_more}
use Rattle.check_laws.proofs.Values.{goes-accesses, goes-field-type, goes-key, goes-looks-up, goes-some-member, goes-sorts, goes-takes-access, goes-takes-sort, goes-whether, goes-within}
use Rattle.check_laws.proofs.Words.{Goes, goes-asking, goes-becomes, goes-changes-flow, goes-done, goes-either, goes-fails, goes-flow-now, goes-new-slot, goes-no-more, goes-some, goes-takes, goes-then, goes-unless, goes-wants, goes-wants-some}

module _ (s : State) where
  -- ---- blocks

  pub goes-begins-block : (r : Heights) → Goes s r begins_block (r ⊕ blocks 1)
  goes-begins-block r =
      goes-then s _ _ (goes-flow-now s r) (λ f.
      goes-becomes s r (r ⊕ blocks 1) _ (λ old p. with-blocks s old (suc r.blocks) r.stmts _ p (block-on s.blocks old.blocks r.blocks r.stmts _ p.blocks)))

  pub goes-closes-block : (r : Heights) → Goes s (r ⊕ blocks 1) closes_block r
  goes-closes-block r =
      goes-then s _ _ (goes-some s (r ⊕ blocks 1) _) (λ b. goes-then s _ _
      (goes-becomes s (r ⊕ blocks 1) r _ (λ old p. with-blocks s old r.blocks r.stmts _ p (block-off s.blocks old.blocks r.blocks r.stmts p.blocks))) (λ u. goes-some s r _))

  -- a statement more in a block that stands on those that were there, and in the block at hand
  added : (k : ℕ) (g : Heights) (old : State) (b : BlockAtWork) (stmt : TypedStmt) → Above s (record g { blocks = k }) old → IsLast old.blocks b
      → Above s (with_stmt (record g { blocks = k })) (record old { blocks = replaced old.blocks (with_more b stmt) })
  added zero g old b stmt p last = with-blocks s old 0 (suc g.stmts) _ p (stmt-at-hand s.blocks old.blocks g.stmts b stmt p.blocks last)
  added (suc k) g old b stmt p last = with-blocks s old (suc k) g.stmts _ p (block-above s.blocks old.blocks k g.stmts _ p.blocks)

  pub goes-adds-stmt : (r : Heights) (P : TypedStmt → Type 0) → Goes s r (adds_stmt P) (with_stmt r)
  unfolding ◌▷◌ gives_some does
  goes-adds-stmt r P old new a p (b, m1, (last, e1), (stmt, m2, (x, e2), e3)) =
      let is : new ≡ record old { blocks = replaced old.blocks (with_more b stmt) } =
      e3 ∙ ap (λ (m : State). record m { blocks = replaced m.blocks (with_more b stmt) }) (e2 ∙ e1) in
      subst (Above s (with_stmt r)) (sym is) (added r.blocks r old b stmt p last)

  pub goes-ends-block : (h : Heights) → Goes s h ends_block h
  goes-ends-block h = goes-then s _ _ (goes-some s h _) (λ b. goes-changes-flow s h _)

  pub goes-makes-block : (r : Heights) (at : Place) → Goes s (r ⊕ blocks 1) (makes_block at) (with_stmt r)
  goes-makes-block r at = goes-then s _ _ (goes-closes-block r) (λ b. goes-adds-stmt r _)

  -- ---- parts and wants

  pub goes-takes-part : (r : Heights) → Goes s (r ⊕ parts 1) takes_part r
  goes-takes-part r = goes-then s _ _ (goes-some s (r ⊕ parts 1) _) (λ e. goes-then s _ _ (goes-takes s r 1) (λ all. goes-some s r _))

  pub goes-takes-want : (r : Heights) → Goes s (r ⊕ wants 1) takes_want r
  goes-takes-want r = goes-then s _ _ (goes-some s (r ⊕ wants 1) _) (λ t. goes-then s _ _ (goes-no-more s r 1) (λ u. goes-some s r _))

  -- ---- declarations and assignments

  pub goes-declares : (r : Heights) (name : Name) (final assigned : Bool) (at : Place)
      → Goes s (r ⊕ (parts 1 ⊕ wants 1)) (declares name final assigned at) (with_stmt r)
  goes-declares r name final assigned at =
      goes-then s _ _ (goes-takes-part (r ⊕ wants 1)) (λ value. goes-then s _ _ (goes-takes-want r) (λ t.
      goes-then s _ _ (goes-new-slot s r _) (λ slot. goes-then s _ _ (goes-changes-flow s r _) (λ u. goes-adds-stmt r _))))

  goes-variable : (r : Heights) (v : Variable) (at : Place) → Goes s r (variable_assignable v at) (r ⊕ wants 1)
  goes-variable r v at =
      goes-then s _ _ (goes-either s v.fixed _ _ (goes-fails s r r _ at) (goes-unless s r _ _ at)) (λ u. goes-wants s r _)

  goes-meaning-assignable : (r : Heights) (m : Meaning) (at : Place) → Goes s r (meaning_assignable m at) (r ⊕ wants 1)
  goes-meaning-assignable r (meaning.TypeName t) at = goes-fails s r _ _ at
  goes-meaning-assignable r (meaning.Constant t) at = goes-fails s r _ _ at
  goes-meaning-assignable r (meaning.Variable number final t) at = goes-either s final _ _ (goes-fails s r _ _ at) (goes-wants-some s r _)
  goes-meaning-assignable r (meaning.Function f) at = goes-fails s r _ _ at

  goes-seen-assignable : (r : Heights) (seen : Seen) (at : Place) → Goes s r (seen_assignable seen at) (r ⊕ wants 1)
  goes-seen-assignable r (SeenVariable v) at = goes-variable r v at
  goes-seen-assignable r (SeenWorker w) at = goes-fails s r _ _ at
  goes-seen-assignable r (SeenConstant c) at = goes-fails s r _ _ at
  goes-seen-assignable r (SeenLibrary row) at = goes-fails s r _ _ at
  goes-seen-assignable r (SeenMeaning m) at = goes-meaning-assignable r m at
  goes-seen-assignable r (SeenNothing code) at = goes-fails s r _ code at

  pub goes-assignable : (names : Names) (r : Heights) (q : QualifiedName) → Goes s r (is_assignable names q) (r ⊕ wants 1)
  goes-assignable names r q = goes-then s _ _ (goes-looks-up s names r q) (λ seen. goes-seen-assignable r seen q.at)

  goes-assigned-by : (names : Names) (h : Heights) (q : QualifiedName) → Goes s h (assigned_by names q) h
  goes-assigned-by names h q = goes-then s _ _ (goes-looks-up s names h q) (λ seen. goes-some s h _)

  goes-assigns-to : (r : Heights) (a : Assigned) (value : TypedExpr) (at : Place) → Goes s r (assigns_to a value at) (with_stmt r)
  goes-assigns-to r (AssignsVariable v) value at = goes-then s _ _ (goes-changes-flow s r _) (λ u. goes-adds-stmt r _)
  goes-assigns-to r (AssignsModule number t) value at = goes-adds-stmt r _

  pub goes-assigns : (names : Names) (r : Heights) (q : QualifiedName) (at : Place) → Goes s (r ⊕ (parts 1 ⊕ wants 1)) (assigns names q at) (with_stmt r)
  goes-assigns names r q at =
      goes-then s _ _ (goes-takes-part (r ⊕ wants 1)) (λ value. goes-then s _ _ (goes-no-more s r 1) (λ u.
      goes-then s _ _ (goes-assigned-by names r q) (λ a. goes-assigns-to r a value at)))

  -- ---- stores

  pub goes-has-field : (r : Heights) (w : Word) → Goes s r (has_field w) (r ⊕ (parts 1 ⊕ accesses 1))
  goes-has-field r w = goes-then s _ _ (goes-key s r _ _) (λ u. goes-accesses s (r ⊕ parts 1) Key)

  pub goes-stores : (r : Heights) (at : Place) → Goes s (r ⊕ (parts 3 ⊕ (accesses 1 ⊕ wants 1))) (stores at) (with_stmt r)
  goes-stores r at =
      goes-then s _ _ (goes-no-more s (r ⊕ (parts 3 ⊕ accesses 1)) 1) (λ u. goes-then s _ _ (goes-takes-access s (r ⊕ parts 3)) (λ a.
      goes-then s _ _ (goes-takes s r 3) (λ all. goes-then s _ _ (goes-some s r _) (λ form. goes-adds-stmt r _))))

  -- ---- assignments with an operator

  goes-reads-assigned : (r : Heights) (a : Assigned) → Goes s r (reads_assigned a) (r ⊕ wants 1)
  goes-reads-assigned r (AssignsVariable v) = goes-wants s r _
  goes-reads-assigned r (AssignsModule number t) = goes-wants-some s r _

  pub goes-reads-name : (names : Names) (r : Heights) (q : QualifiedName) → Goes s r (reads_name names q) (r ⊕ wants 1)
  goes-reads-name names r q = goes-then s _ _ (goes-assigned-by names r q) (λ a. goes-reads-assigned r a)

  goes-takes-operator : (r : Heights) (assign : AssignOp) → Goes s (r ⊕ sorts 1) (takes_operator assign) r
  goes-takes-operator r assign = goes-then s _ _ (goes-takes-sort s r) (λ ints. goes-some s r _)

  goes-updates : (r : Heights) (P : UpdateTarget → Type 0) (op : Operator) (value : TypedExpr) (at : Place) → Goes s r (updates P op value at) (with_stmt r)
  goes-updates r P op value at = goes-then s _ _ (goes-some s r _) (λ what. goes-adds-stmt r _)

  goes-updates-assigned : (r : Heights) (a : Assigned) (t : Shared) (op : Operator) (value : TypedExpr) (at : Place)
      → Goes s r (updates_assigned a t op value at) (with_stmt r)
  goes-updates-assigned r (AssignsVariable v) t op value at = goes-then s _ _ (goes-changes-flow s r _) (λ u. goes-updates r _ op value at)
  goes-updates-assigned r (AssignsModule number u) t op value at = goes-updates r _ op value at

  goes-updates-member : (r : Heights) (how : Read) (t : Shared) (op : Operator) (all : List TypedExpr) (at : Place)
      → Goes s r (updates_member how t op all at) (with_stmt r)
  goes-updates-member r how t op all at =
      goes-then s _ _ (goes-some s r _) (λ p. goes-then s _ _
      (goes-then s _ _ (goes-new-slot s r _) (λ own. goes-then s _ _ (goes-new-slot s r _) (λ next. goes-some s r _))) (λ own. goes-updates r _ op _ at))

  -- ---- other statements

  pub goes-performs : (r : Heights) (form : PerformForm) (count : ℕ) (at : Place) → Goes s (r ⊕ parts count) (performs form count at) (with_stmt r)
  goes-performs r form count at = goes-then s _ _ (goes-takes s r count) (λ all. goes-adds-stmt r _)

  pub goes-stops : (h : Heights) → Goes s h stops h
  goes-stops h = goes-changes-flow s h _

  pub goes-returns : (r : Heights) (at : Place) → Goes s (r ⊕ (parts 1 ⊕ wants 1)) (returns at) (with_stmt r)
  goes-returns r at =
      goes-then s _ _ (goes-takes-part (r ⊕ wants 1)) (λ value. goes-then s _ _ (goes-no-more s r 1) (λ u.
      goes-then s _ _ (goes-adds-stmt r _) (λ v. goes-stops (with_stmt r))))

  pub goes-breaks : (r : Heights) (at : Place) → Goes s r (breaks at) (with_stmt r)
  goes-breaks r at = goes-then s _ _ (goes-adds-stmt r _) (λ u. goes-stops (with_stmt r))

  pub goes-continues : (r : Heights) (at : Place) → Goes s r (continues at) (with_stmt r)
  goes-continues r at = goes-then s _ _ (goes-adds-stmt r _) (λ u. goes-stops (with_stmt r))

  -- `passes`: which questions pass a limit
  module _ (passes : List AtomDef → Asked → TypeLimit → Type 0) where
    pub goes-ignorable : (h : Heights) (at : Place) → Goes s h (is_ignorable passes at) h
    goes-ignorable h at = goes-then s _ _ (goes-some s h _) (λ e. goes-then s _ _ (goes-whether s passes h _ _ at) (λ b. goes-unless s h b _ at))

    pub goes-returns-nil : (r : Heights) (at : Place) → Goes s r (returns_nil passes at) (with_stmt r)
    goes-returns-nil r at =
        goes-then s _ _ (goes-then s _ _ (goes-some s r _) (λ u. goes-then s _ _ (goes-some s r _) (λ nil. goes-asking s r _)))
        (λ u. goes-then s _ _ (goes-adds-stmt r _) (λ v. goes-stops (with_stmt r)))

    pub goes-expects-stored : (r : Heights) (at : Place) → Goes s r (expects_stored passes at) (r ⊕ wants 1)
    goes-expects-stored r at =
        goes-then s _ _ (goes-some s r _) (λ p. goes-then s _ _ (goes-some s r _) (λ a. goes-then s _ _ (goes-asking s r _) (λ keys.
        goes-then s _ _ (goes-some-member s passes r _ keys at) (λ m. goes-wants-some s r _))))

    goes-stored-type : (h : Heights) (a : Access) (container key : SemType) (at : Place) → Goes s h (stored_type passes a container key at) h
    goes-stored-type h Char container key at = goes-some s h _
    goes-stored-type h Item container key at =
        goes-then s _ _ (goes-asking s h _) (λ keys. goes-then s _ _ (goes-asking s h _) (λ m. goes-some s h _))
    goes-stored-type h Key container key at =
        goes-then s _ _ (goes-asking s h _) (λ keys. goes-then s _ _ (goes-asking s h _) (λ m. goes-some s h _))

    pub goes-reads-stored : (r : Heights) (at : Place) → Goes s r (reads_stored passes at) (r ⊕ wants 1)
    goes-reads-stored r at =
        goes-then s _ _ (goes-some s r _) (λ p. goes-then s _ _ (goes-some s r _) (λ a.
        goes-then s _ _ (goes-stored-type r a _ _ at) (λ t. goes-wants-some s r _)))

    pub goes-reads-stored-field : (r : Heights) (w : Word) (at : Place) → Goes s r (reads_stored_field passes w at) (r ⊕ wants 1)
    goes-reads-stored-field r w at =
        goes-then s _ _ (goes-some s r _) (λ p. goes-then s _ _ (goes-field-type s passes r _ _ at) (λ m. goes-wants-some s r _))

    goes-operand-sort : (h : Heights) (op : AssignOp) (t : Shared) (at : Place) → Goes s h (operand_sort passes op t at) h
    goes-operand-sort h Set t at = goes-some s h _
    goes-operand-sort h Add t at =
        goes-then s _ _ (goes-whether s passes h _ _ at) (λ ints.
        goes-then s _ _ (goes-either s ints _ _ (goes-done s h) (goes-within s passes h _ _ at)) (λ u. goes-some s h _))
    goes-operand-sort h Subtract t at = goes-some s h _
    goes-operand-sort h Multiply t at = goes-some s h _
    goes-operand-sort h Divide t at = goes-some s h _

    pub goes-operand : (r : Heights) (op : AssignOp) (at : Place) → Goes s r (is_operand passes op at) (r ⊕ (wants 1 ⊕ sorts 1))
    goes-operand r op at =
        goes-then s _ _ (goes-some s r _) (λ t. goes-then s _ _ (goes-within s passes r _ _ at) (λ u. goes-then s _ _ (goes-operand-sort r op t at) (λ ints.
        goes-then s _ _ (goes-sorts s r ints) (λ v. goes-wants-some s (r ⊕ sorts 1) _))))

    goes-result : (r : Heights) (at : Place) → Goes s (r ⊕ wants 3) (result_fits passes at) r
    goes-result r at =
        goes-then s _ _ (goes-takes-want (r ⊕ wants 2)) (λ result. goes-then s _ _ (goes-takes-want (r ⊕ wants 1)) (λ read_type.
        goes-then s _ _ (goes-takes-want r) (λ stored. goes-then s _ _ (goes-asking s r _) (λ u. goes-some s r _))))

    pub goes-updates-element : (r : Heights) (op : AssignOp) (at : Place)
        → Goes s (r ⊕ (parts 3 ⊕ (accesses 1 ⊕ (wants 3 ⊕ sorts 1)))) (updates_element passes op at) (with_stmt r)
    goes-updates-element r op at =
        goes-then s _ _ (goes-result (r ⊕ (parts 3 ⊕ (accesses 1 ⊕ sorts 1))) at) (λ t.
        goes-then s _ _ (goes-takes-operator (r ⊕ (parts 3 ⊕ accesses 1)) op) (λ o. goes-then s _ _ (goes-takes-access s (r ⊕ parts 3)) (λ a.
        goes-then s _ _ (goes-takes s r 3) (λ all. goes-updates-member r _ t o all at))))

    pub goes-updates-field : (r : Heights) (w : Word) (op : AssignOp) (at : Place)
        → Goes s (r ⊕ (parts 3 ⊕ (accesses 1 ⊕ (wants 3 ⊕ sorts 1)))) (updates_field passes w op at) (with_stmt r)
    goes-updates-field r w op at =
        goes-then s _ _ (goes-result (r ⊕ (parts 3 ⊕ (accesses 1 ⊕ sorts 1))) at) (λ t.
        goes-then s _ _ (goes-takes-operator (r ⊕ (parts 3 ⊕ accesses 1)) op) (λ o. goes-then s _ _ (goes-takes-access s (r ⊕ parts 3)) (λ a.
        goes-then s _ _ (goes-takes s r 3) (λ all. goes-updates-member r _ t o all at))))

    pub goes-updates-name : (names : Names) (r : Heights) (q : QualifiedName) (op : AssignOp) (at : Place)
        → Goes s (r ⊕ (parts 1 ⊕ (wants 3 ⊕ sorts 1))) (updates_name passes names q op at) (with_stmt r)
    goes-updates-name names r q op at =
        goes-then s _ _ (goes-result (r ⊕ (parts 1 ⊕ sorts 1)) at) (λ t. goes-then s _ _ (goes-takes-operator (r ⊕ parts 1) op) (λ o.
        goes-then s _ _ (goes-takes-part r) (λ value. goes-then s _ _ (goes-assigned-by names r q) (λ a. goes-updates-assigned r a t o value at))))
