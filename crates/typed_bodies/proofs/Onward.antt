-- Checks that put statements and blocks: atoms come, units go on, and variables that are seen stay in slots of their declared types.
use Rattle.std.proofs.Common.{Bool, List, Some, ℕ, ap, inl, inr, refl, subst, sym, ◌∙◌, ◌≡◌, ◌⊎◌, None}
use Rattle.bal_base.specs.declared.place.Place.{Place}
use Rattle.bal_base.specs.declared.text.Name.{Name}
use Rattle.bal_tree.specs.declared.name.QualifiedName.{QualifiedName}
use Rattle.bal_tree.specs.declared.name.Word.{Word}
use Rattle.bal_tree.specs.declared.stmt.AssignOp.{AssignOp}
use Rattle.calm_needs.proofs.Calming.{calm-new-slot, on-beside, on-on}
use Rattle.calm_needs.proofs.Flows.{hand-on, of-narrowed}
use Rattle.calm_needs.specs.Calm.{HandSees, IsCalm, IsFlowOf, IsStoredAt, StaysOn}
use Rattle.check_words.specs.Branches.{has_item, kind_slot}
use Rattle.check_words.specs.Members.{read_of, takes_access}
use Rattle.check_words.specs.State.{IsLast, State, with_type}
use Rattle.flow_narrowing.specs.declared.flow.Variable.{Variable}
use Rattle.check_words.specs.Statements.{stops, Assigned, AssignsModule, AssignsVariable, adds_stmt, assigned_by, assigns, assigns_to, begins_block, breaks, closes_block, continues, declares, ends_block, makes_block, performs, result_fits, returns, returns_nil, stores, takes_operator, takes_part, takes_want, updates, updates_assigned, updates_element, updates_field, updates_member, updates_name}
use Rattle.check_words.specs.Words.{Atoms, asking, becomes, flow_now, changes_flow, closes_choice, new_slot, sets_flow, takes, wants_no_more}
use Rattle.checks.specs.Checks.{Check, Gives, gives_some, ◌▷◌}
use Rattle.descriptors.specs.declared.names.Names.{Names}
use Rattle.expr_needs.specs.declared.kind.Kind.{Kind}
use Rattle.flow_narrowing.specs.declared.flow.Flow.{Flow}
use Rattle.needs.specs.Needs.{does}
use Rattle.operations.specs.Rows.{Surroundings}
use Rattle.type_model.specs.Calls.{Asked}
use Rattle.type_model.specs.declared.answers.TypeLimit.{TypeLimit}
use Rattle.type_model.specs.declared.atoms.AtomDef.{AtomDef}
use Rattle.typed_bodies.proofs.Aside.{Aside, aside-asking, aside-changes, aside-flow-now, aside-some, aside-stops, flow-stays}
use Rattle.typed_needs.proofs.Questions.{AddsBehind, below-behind}
use Rattle.typed_needs.specs.Between.{FlowIsStored}
use Rattle.typed_stmts.proofs.Keeping.{by-name, stored-beside}
use Rattle.typed_stmts.proofs.Words.{flow-changed, flow-set, slot-put}
use Rattle.typed_tree.specs.SharedTypes.{Shared}
use Rattle.typed_tree.specs.declared.expr.TypedExpr.{TypedExpr}
use Rattle.typed_tree.specs.declared.form.Operator.{Operator}
use Rattle.typed_tree.specs.declared.form.Read.{Read}
use Rattle.typed_tree.specs.declared.stmt.PerformForm.{PerformForm}
use Rattle.typed_tree.specs.declared.stmt.TypedStmt.{TypedStmt}
use Rattle.typed_tree.specs.declared.stmt.UpdateTarget.{UpdateTarget}

-- no unit comes or goes
pub record IsMoved (old new : State) : Type 0 where
  pub on : StaysOn old new
  pub site : new.site ≡ old.site

-- and variables stay stored
pub record IsOnward (old new : State) : Type 0 where
  pub moved : IsMoved old new
  pub stored : (place : Surroundings) → IsStoredAt place old → IsStoredAt place new
  -- and the same are seen in the unit at hand
  pub sees : (vs : List Variable) → HandSees vs old → HandSees vs new

pub moved-on : (r s t : State) → IsMoved r s → IsMoved s t → IsMoved r t
moved-on r s t f g = record { on = on-on r s t f.on g.on; site = g.site ∙ f.site }

-- ---- checks

abbrev pub Moved : {A : Type 0} → Check State A → Type 0
Moved {A} m = (old new : State) (a : A) → m old (Gives a) new → IsMoved old new

abbrev pub Onward : {A : Type 0} → Check State A → Type 0
Onward {A} m = (old new : State) (a : A) → m old (Gives a) new → IsOnward old new

pub moved-then : {A B : Type 0} (m : Check State A) (next : A → Check State B) → Moved m → ((a : A) → Moved (next a)) → Moved (m ▷ next)
unfolding ◌▷◌
moved-then m next f g old new b (a, mid, x, y) = moved-on old mid new (f old mid a x) (g a mid new b y)

pub onward-then : {A B : Type 0} (m : Check State A) (next : A → Check State B) → Onward m → ((a : A) → Onward (next a)) → Onward (m ▷ next)
unfolding ◌▷◌
onward-then m next f g old new b (a, mid, x, y) =
    let p = f old mid a x in let q = g a mid new b y in
    record { moved = moved-on old mid new p.moved q.moved; stored = λ place h. q.stored place (p.stored place h); sees = λ vs h. q.sees vs (p.sees vs h) }

pub as-moved : {A : Type 0} (m : Check State A) → Onward m → Moved m
as-moved m f old new a x = (f old new a x).moved

pub as-onward : {A : Type 0} (m : Check State A) → Aside m → Onward m
as-onward m f old new a x = let h = f old new a x in record { moved = record { on = h.stays.on; site = h.stays.site }; stored = h.stored; sees = h.sees }

pub onward-some : {A : Type 0} (P : State → A → Type 0) → Onward (gives_some P)
onward-some P = as-onward (gives_some P) (aside-some P)

onward-asking : {A : Type 0} (q : Check Atoms A) → AddsBehind q → Onward (asking q)
onward-asking q behind = as-onward (asking q) (aside-asking q behind)

onward-changes : (change : Flow → Flow) → ((place : Surroundings) (f : Flow) → FlowIsStored place f → FlowIsStored place (change f))
    → ((vs : List Variable) (f : Flow) → IsFlowOf vs f → IsFlowOf vs (change f)) → Onward (changes_flow change)
onward-changes change keeps same = as-onward (changes_flow change) (aside-changes change keeps same)

onward-flow-now : Onward flow_now
onward-flow-now = as-onward flow_now aside-flow-now

onward-stops : Onward stops
onward-stops = as-onward stops aside-stops

-- the same units, and no ways but those that were there
pub onward-beside : (s t : State) → t.atoms ≡ s.atoms → t.units ≡ s.units → t.site ≡ s.site → (t.ways ≡ s.ways) ⊎ (t.ways ≡ None) → IsOnward s t
onward-beside s t atoms units site ways =
    record {
      moved = record { on = on-beside s t atoms units; site = site };
      stored = λ place h. stored-beside place s t units ways h;
      sees = λ vs h u last. h u (subst (λ us. IsLast us u) units last);
    }

onward-becomes : (change : State → State) → ((s : State) → IsOnward s (change s)) → Onward (becomes change)
unfolding does
onward-becomes change f old new a e = subst (λ (x : State). IsOnward old x) (sym e) (f old)

-- ---- words

pub onward-takes : (count : ℕ) → Onward (takes count)
onward-takes count = onward-then _ _ (onward-some _) (λ all. onward-then _ _ (onward-becomes _ (λ s. onward-beside s _ refl refl refl (inr refl))) (λ u. onward-some _))

pub onward-takes-part : Onward takes_part
onward-takes-part = onward-then _ _ (onward-some _) (λ e. onward-then _ _ (onward-takes 1) (λ all. onward-some _))

onward-no-more : (count : ℕ) → Onward (wants_no_more count)
onward-no-more count = onward-becomes _ (λ s. onward-beside s _ refl refl refl (inl refl))

pub onward-takes-want : Onward takes_want
onward-takes-want = onward-then _ _ (onward-some _) (λ t. onward-then _ _ (onward-no-more 1) (λ u. onward-some _))

onward-takes-access : Onward takes_access
onward-takes-access = onward-then _ _ (onward-some _) (λ a. onward-then _ _ (onward-becomes _ (λ s. onward-beside s _ refl refl refl (inl refl))) (λ u. onward-some _))

onward-takes-operator : (assign : AssignOp) → Onward (takes_operator assign)
onward-takes-operator assign =
    onward-then _ _ (onward-then _ _ (onward-some _) (λ c. onward-then _ _ (onward-becomes _ (λ s. onward-beside s _ refl refl refl (inl refl))) (λ u. onward-some _))) (λ ints. onward-some _)

pub onward-adds : (P : TypedStmt → Type 0) → Onward (adds_stmt P)
onward-adds P = onward-then _ _ (onward-some _) (λ b. onward-then _ _ (onward-some _) (λ stmt. onward-becomes _ (λ s. onward-beside s _ refl refl refl (inl refl))))

pub onward-closes-block : Onward closes_block
onward-closes-block = onward-then _ _ (onward-some _) (λ b. onward-then _ _ (onward-becomes _ (λ s. onward-beside s _ refl refl refl (inl refl))) (λ u. onward-some _))

onward-closes-choice : Onward closes_choice
onward-closes-choice = onward-then _ _ (onward-some _) (λ b. onward-then _ _ (onward-becomes _ (λ s. onward-beside s _ refl refl refl (inl refl))) (λ u. onward-some _))

pub onward-new-slot : (t : Shared) → Onward (new_slot t)
onward-new-slot t old new own met =
    let c : IsCalm old new = calm-new-slot t old new own met in
    let (s, is) = slot-put t own old new met in
    record { moved = record { on = c.on; site = ap (λ (x : State). x.site) s.all }; stored = c.stored; sees = λ vs h. hand-on vs old new c.keeps.flows h }

pub onward-kind-slot : (k : Kind) → Onward (kind_slot k)
onward-kind-slot k = onward-then _ _ (onward-some _) (λ t. onward-new-slot t)

pub moved-sets-flow : (f : Flow) → Moved (sets_flow f)
moved-sets-flow f old new u met = let h = flow-stays (λ w. f) old new (flow-set f u old new met) in record { on = h.on; site = h.site }

moved-changes : (change : Flow → Flow) → Moved (changes_flow change)
moved-changes change old new u met = let h = flow-stays (λ w. change w.flow) old new (flow-changed change u old new met) in record { on = h.on; site = h.site }

-- ---- needs that put a statement

pub onward-performs : (form : PerformForm) (count : ℕ) (at : Place) → Onward (performs form count at)
onward-performs form count at = onward-then _ _ (onward-takes count) (λ all. onward-adds _)

pub onward-stores : (at : Place) → Onward (stores at)
onward-stores at =
    onward-then _ _ (onward-no-more 1) (λ u. onward-then _ _ onward-takes-access (λ a. onward-then _ _ (onward-takes 3) (λ all. onward-then _ _ (onward-some _) (λ form. onward-adds _))))

pub onward-returns : (at : Place) → Onward (returns at)
onward-returns at =
    onward-then _ _ onward-takes-part (λ value. onward-then _ _ (onward-no-more 1) (λ u. onward-then _ _ (onward-adds _) (λ v. onward-stops)))

pub onward-breaks : (at : Place) → Onward (breaks at)
onward-breaks at = onward-then _ _ (onward-adds _) (λ u. onward-stops)

pub onward-continues : (at : Place) → Onward (continues at)
onward-continues at = onward-then _ _ (onward-adds _) (λ u. onward-stops)

pub onward-makes-block : (at : Place) → Onward (makes_block at)
onward-makes-block at = onward-then _ _ onward-closes-block (λ b. onward-adds _)

pub onward-begins-block : Onward begins_block
onward-begins-block = onward-then _ _ (onward-flow-now) (λ f. onward-becomes _ (λ s. onward-beside s _ refl refl refl (inl refl)))

-- a variable gets its declared type back
onward-retypes : (name : Name) → Onward (changes_flow (with_type name None))
onward-retypes name = onward-changes (with_type name None) (λ place f h. by-name place f.variables name None h) (λ vs f h. of-narrowed vs f.variables name None h)

onward-assigns-to : (a : Assigned) (value : TypedExpr) (at : Place) → Onward (assigns_to a value at)
onward-assigns-to (AssignsVariable v) value at = onward-then _ _ (onward-retypes v.name) (λ u. onward-adds _)
onward-assigns-to (AssignsModule number t) value at = onward-adds _

onward-updates : (P : UpdateTarget → Type 0) (op : Operator) (value : TypedExpr) (at : Place) → Onward (updates P op value at)
onward-updates P op value at = onward-then _ _ (onward-some _) (λ what. onward-adds _)

onward-updates-assigned : (a : Assigned) (t : Shared) (op : Operator) (value : TypedExpr) (at : Place) → Onward (updates_assigned a t op value at)
onward-updates-assigned (AssignsVariable v) t op value at = onward-then _ _ (onward-retypes v.name) (λ u. onward-updates _ op value at)
onward-updates-assigned (AssignsModule number u) t op value at = onward-updates _ op value at

onward-updates-member : (how : Read) (t : Shared) (op : Operator) (all : List TypedExpr) (at : Place) → Onward (updates_member how t op all at)
onward-updates-member how t op all at =
    onward-then _ _ (onward-some _) (λ p. onward-then _ _ (onward-then _ _ (onward-new-slot _) (λ own. onward-then _ _ (onward-new-slot _) (λ next. onward-some _)))
    (λ own. onward-updates _ op p.2 at))

module _ (names : Names) where
  onward-assigned-by : (q : QualifiedName) → Onward (assigned_by names q)
  onward-assigned-by q = onward-then _ _ (onward-then _ _ (onward-some _) (λ u. onward-some _)) (λ seen. onward-some _)

  pub onward-assigns : (q : QualifiedName) (at : Place) → Onward (assigns names q at)
  onward-assigns q at =
      onward-then _ _ onward-takes-part (λ value. onward-then _ _ (onward-no-more 1) (λ u. onward-then _ _ (onward-assigned-by q) (λ a. onward-assigns-to a value at)))

module _ (passes : List AtomDef → Asked → TypeLimit → Type 0) where
  pub onward-returns-nil : (at : Place) → Onward (returns_nil passes at)
  onward-returns-nil at =
      onward-then _ _ (onward-then _ _ (onward-some _) (λ u. onward-then _ _ (onward-some _) (λ nil. onward-asking _ (below-behind passes _ _ (Some at)))))
      (λ u. onward-then _ _ (onward-adds _) (λ v. onward-stops))

  onward-result-fits : (at : Place) → Onward (result_fits passes at)
  onward-result-fits at =
      onward-then _ _ onward-takes-want (λ result. onward-then _ _ onward-takes-want (λ read_type. onward-then _ _ onward-takes-want (λ stored.
      onward-then _ _ (onward-asking _ (below-behind passes _ _ (Some at))) (λ u. onward-some _))))

  pub onward-updates-element : (assign : AssignOp) (at : Place) → Onward (updates_element passes assign at)
  onward-updates-element assign at =
      onward-then _ _ (onward-result-fits at) (λ t. onward-then _ _ (onward-takes-operator assign) (λ op. onward-then _ _ onward-takes-access (λ a.
      onward-then _ _ (onward-takes 3) (λ all. onward-updates-member (read_of a) t op all at))))

  pub onward-updates-field : (w : Word) (assign : AssignOp) (at : Place) → Onward (updates_field passes w assign at)
  onward-updates-field w assign at =
      onward-then _ _ (onward-result-fits at) (λ t. onward-then _ _ (onward-takes-operator assign) (λ op. onward-then _ _ onward-takes-access (λ a.
      onward-then _ _ (onward-takes 3) (λ all. onward-updates-member _ t op all at))))

  pub onward-updates-name : (names : Names) (q : QualifiedName) (assign : AssignOp) (at : Place) → Onward (updates_name passes names q assign at)
  onward-updates-name names q assign at =
      onward-then _ _ (onward-result-fits at) (λ t. onward-then _ _ (onward-takes-operator assign) (λ op. onward-then _ _ onward-takes-part (λ value.
      onward-then _ _ (onward-assigned-by names q) (λ a. onward-updates-assigned a t op value at))))

-- ---- needs that put a variable, or go to another flow

pub moved-some : {A : Type 0} (P : State → A → Type 0) → Moved (gives_some P)
moved-some P = as-moved (gives_some P) (onward-some P)

pub moved-flow-now : Moved flow_now
moved-flow-now = as-moved flow_now onward-flow-now

pub moved-closes-choice : Moved closes_choice
moved-closes-choice = as-moved closes_choice onward-closes-choice

pub moved-closes-block : Moved closes_block
moved-closes-block = as-moved closes_block onward-closes-block

pub moved-takes-part : Moved takes_part
moved-takes-part = as-moved takes_part onward-takes-part

moved-takes-want : Moved takes_want
moved-takes-want = as-moved takes_want onward-takes-want

pub moved-new-slot : (t : Shared) → Moved (new_slot t)
moved-new-slot t = as-moved (new_slot t) (onward-new-slot t)

pub moved-adds : (P : TypedStmt → Type 0) → Moved (adds_stmt P)
moved-adds P = as-moved (adds_stmt P) (onward-adds P)

pub moved-declares : (name : Name) (final assigned : Bool) (at : Place) → Moved (declares name final assigned at)
moved-declares name final assigned at =
    moved-then _ _ moved-takes-part (λ value. moved-then _ _ moved-takes-want (λ t. moved-then _ _ (moved-new-slot t) (λ slot.
    moved-then _ _ (moved-changes _) (λ u. moved-adds _))))

pub moved-has-item : (name : Name) (assigned : Bool) → Moved (has_item name assigned)
moved-has-item name assigned = moved-then _ _ moved-takes-want (λ t. moved-then _ _ (moved-new-slot t) (λ slot. moved-changes _))
