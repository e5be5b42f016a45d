-- Names that are assigned: what they stand for, and what is put there.
use Rattle.std.proofs.Common.{◌≡◌, ◌∙◌, ◌++◌, List, [], ◌∷◌, length, Some, Result, Ok, refl, sym, subst, ap}
use Rattle.bal_base.specs.declared.fault.Fault.{Fault}
use Rattle.bal_base.specs.declared.place.Place.{Place}
use Rattle.bal_base.specs.declared.stop.Stop.{Stop}
use Rattle.bal_tree.specs.declared.name.QualifiedName.{QualifiedName}
use Rattle.checks.specs.Checks.{Comes, gives_some}
use Rattle.descriptors.specs.declared.names.Meaning.TheVariants as meaning
use Rattle.descriptors.specs.declared.names.Names.{Names}
use Rattle.descriptors.specs.Steps.{AreNames}
use Rattle.flow_narrowing.specs.declared.flow.Variable.{Variable}
use Rattle.typed_tree.specs.declared.expr.TypedExpr.{TypedExpr}
use Rattle.typed_tree.specs.declared.form.Operator.{Operator}
use Rattle.typed_tree.specs.declared.stmt.TypedStmt.{TypedStmt}
use Rattle.typed_tree.specs.declared.stmt.UpdateTarget.{UpdateTarget}
use Rattle.typed_tree.specs.SharedTypes.{Shared}
use Rattle.check_words.specs.Seen.{Seen, SeenConstant, SeenLibrary, SeenMeaning, SeenNothing, SeenVariable, SeenWorker, looks_up, seen_as}
use Rattle.check_words.specs.Stands.{Stands}
use Rattle.check_words.specs.State.{BlockAtWork, State, UnitAtWork}
use Rattle.check_words.specs.Statements.{AssignsModule, AssignsVariable, IsAssigned, adds_stmt, assigned_by, assigns_to, is_assignable, reads_assigned, seen_assignable, updates_assigned}
use Rattle.check_words.specs.Statements.{Assigned as AssignedWords}
use Rattle.check_words.specs.StmtViews.{IsUpdate}
use Rattle.check_words.specs.Words.{done}
use Rattle.check_words.proofs.Coming.{given, next}
use Rattle.check_words.proofs.Entering.{unit-stands}
use Rattle.check_words.proofs.Flowing.{want-put}
use Rattle.check_work.specs.Blocks.{IsAdded}
use Rattle.seen_names.specs.Given.{SeenBelow}
use Rattle.seen_names.proofs.SeenAtoms.{looks-up, seen-below}
use Rattle.needs_of_assignments.specs.declared.assigned.Assigned.{Assigned}
use Rattle.needs_of_assignments.specs.Assigning.{IsAssignedAs, IsAssignment, IsHeld, IsReadAs, Wants, ended, forgets, target_of, with_want}
use Rattle.needs_of_statements.proofs.Adding.{added-comes}

-- ---- what a name stands for

module _ (names : Names) (q : QualifiedName) (s : State) (kept : List UnitAtWork) (u : UnitAtWork) (is : s.units ≡ kept ++ u ∷ []) (seen : Seen) (vs : List Variable)
    (e : seen ≡ seen_as names s.site vs q) (f : vs ≡ u.flow.variables) where
  here : seen ≡ seen_as names s.site u.flow.variables q
  here = e ∙ ap (λ ws. seen_as names s.site ws q) f

  looked : Comes (looks_up names q) s (Ok seen) s
  looked = subst (λ x. Comes (looks_up names q) s (Ok x) s) (sym here) (looks-up names q s kept u is)

  pub found-below : AreNames s.atoms names → Stands s → SeenBelow (length s.atoms) seen
  found-below are h = subst (SeenBelow (length s.atoms)) (sym here) (seen-below s.atoms names are s.site u.flow.variables q (unit-stands s h kept u is).flow)

  pub assignable-comes : (r : Result Shared (Stop Fault)) → Wants (seen_assignable seen q.at) r → Comes (is_assignable names q) s (ended r) (with_want s r)
  unfolding Wants
  assignable-comes r h = next _ _ _ _ _ seen s looked (h s)

  pub assigned-comes : (a : AssignedWords) → IsAssigned seen a → Comes (assigned_by names q) s (Ok a) s
  assigned-comes a h = next _ _ _ _ _ seen s looked (given _ s a h)

pub as-assigned : (seen : Seen) (what : Assigned) → IsAssignedAs seen what → (a : AssignedWords) × IsAssigned seen a × IsHeld a what
as-assigned (SeenVariable v) what h = (AssignsVariable v, refl, h)
as-assigned (SeenMeaning (meaning.Variable number final t)) what h = (AssignsModule number t, refl, h)
as-assigned (SeenMeaning (meaning.TypeName t)) what h = absurd h
as-assigned (SeenMeaning (meaning.Constant t)) what h = absurd h
as-assigned (SeenMeaning (meaning.Function g)) what h = absurd h
as-assigned (SeenWorker w) what h = absurd h
as-assigned (SeenConstant c) what h = absurd h
as-assigned (SeenLibrary r) what h = absurd h
as-assigned (SeenNothing code) what h = absurd h

-- ---- what is read of it

pub as-read : (seen : Seen) (t : Shared) → IsReadAs seen t → (a : AssignedWords) × IsAssigned seen a × ((s : State) → Comes (reads_assigned a) s (Ok tt) (with_want s (Ok t)))
as-read (SeenVariable v) t h = (AssignsVariable v, refl, λ s. want-put s _ (Some t) _ h refl)
as-read (SeenMeaning (meaning.Variable number final u)) t h =
    (AssignsModule number u, refl, λ s. next _ _ _ _ _ t s (given _ s t h) (want-put s (Some t) (Some t) _ refl refl))
as-read (SeenMeaning (meaning.TypeName u)) t h = absurd h
as-read (SeenMeaning (meaning.Constant u)) t h = absurd h
as-read (SeenMeaning (meaning.Function g)) t h = absurd h
as-read (SeenWorker w) t h = absurd h
as-read (SeenConstant c) t h = absurd h
as-read (SeenLibrary r) t h = absurd h
as-read (SeenNothing code) t h = absurd h

-- ---- what is put there

done-same : (s mid : State) → Comes done s (Ok tt) mid → mid ≡ s
unfolding Comes gives_some
done-same s mid h = h.1

module _ (s mid : State) (bs : List BlockAtWork) (stmt : TypedStmt) (added : IsAdded stmt mid.blocks bs) where
  abbrev after : State
  after = record mid { blocks = bs }

  -- behind what changed nothing
  here-added : (P : TypedStmt → Type 0) → P stmt → Comes done s (Ok tt) mid → Comes (adds_stmt P) s (Ok tt) after
  here-added P p h = subst (λ (m : State). Comes (adds_stmt P) m (Ok tt) after) (done-same s mid h) (added-comes P mid bs stmt added p)

  -- the value becomes that of what is assigned
  module _ (value : TypedExpr) (at : Place) where
    pub put-comes : (a : AssignedWords) (what : Assigned) → IsHeld a what → Comes (forgets what) s (Ok tt) mid → IsAssignment what value at stmt
        → Comes (assigns_to a value at) s (Ok tt) after
    put-comes (AssignsVariable v) what e h is =
        next _ _ _ _ _ tt mid (subst (λ w. Comes (forgets w) s (Ok tt) mid) e h) (added-comes _ mid bs stmt added (subst (λ w. IsAssignment w value at stmt) e is))
    put-comes (AssignsModule number t) what e h is = here-added _ (subst (λ w. IsAssignment w value at stmt) e is) (subst (λ w. Comes (forgets w) s (Ok tt) mid) e h)

    -- and the same of an operator on what was read and the value
    module _ (read : Shared) (op : Operator) (to : UpdateTarget) (is : IsUpdate to op value at stmt) where
      pub update-comes : (a : AssignedWords) (what : Assigned) → IsHeld a what → Comes (forgets what) s (Ok tt) mid → to ≡ target_of what read
          → Comes (updates_assigned a read op value at) s (Ok tt) after
      update-comes (AssignsVariable v) what e h target =
          next _ _ _ _ _ tt mid (subst (λ w. Comes (forgets w) s (Ok tt) mid) e h)
          (next _ _ _ _ _ to mid (given _ mid to (subst (λ w. to ≡ target_of w read) e target)) (added-comes _ mid bs stmt added is))
      update-comes (AssignsModule number t) what e h target =
          next _ _ _ _ _ to s (given _ s to (subst (λ w. to ≡ target_of w read) e target)) (here-added _ is (subst (λ w. Comes (forgets w) s (Ok tt) mid) e h))
