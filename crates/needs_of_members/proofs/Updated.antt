-- Members that are assigned with an operator.
use Rattle.std.proofs.Common.{◌≡◌, ◌++◌, ℕ, Bool, List, [], ◌∷◌, All, Option, Some, None, Result, Ok, length, refl, sym, subst, ap}
use Rattle.std.proofs.lemmas.List.Elements.{All-head, All-tail}
use Rattle.bal_base.specs.declared.fault.Fault.{Fault}
use Rattle.bal_base.specs.declared.place.Place.{Place}
use Rattle.bal_base.specs.declared.stop.Stop.{Stop}
use Rattle.bal_base.specs.declared.text.Text.{Text}
use Rattle.bal_tree.specs.declared.stmt.AssignOp.{AssignOp}
use Rattle.checks.specs.Checks.{Comes, ◌▷◌}
use Rattle.type_model.specs.declared.answers.TypeLimit.{TypeLimit}
use Rattle.type_model.specs.declared.atoms.AtomDef.{AtomDef}
use Rattle.type_model.specs.Calls.{Asked}
use Rattle.typed_tree.specs.declared.expr.TypedExpr.{TypedExpr}
use Rattle.typed_tree.specs.declared.form.Operator.{Operator}
use Rattle.typed_tree.specs.declared.form.Read.{Read}
use Rattle.typed_tree.specs.declared.form.Read.TheVariants as read
use Rattle.typed_tree.specs.declared.stmt.TypedStmt.{TypedStmt}
use Rattle.typed_tree.specs.declared.stmt.UpdateTarget.{UpdateTarget}
use Rattle.typed_tree.specs.Exprs.{type_of}
use Rattle.typed_tree.specs.SharedTypes.{Shared}
use Rattle.check_words.specs.declared.access.Access.{Access}
use Rattle.check_words.specs.Members.{read_of}
use Rattle.check_words.specs.Sharing.{SameShared}
use Rattle.check_words.specs.Stands.{PartBelow, SharedBelow, Stands, UnitBelow}
use Rattle.check_words.specs.State.{AreLast, BlockAtWork, IsLast, State, UnitAtWork, all_but}
use Rattle.check_words.specs.Statements.{is_operand, keeps_two, takes_operator}
use Rattle.check_words.specs.StmtViews.{IsMemberTarget, IsUpdate}
use Rattle.check_words.specs.Values.{sort_kind, sorts}
use Rattle.check_words.specs.Words.{OfKind, wants_some}
use Rattle.check_words.proofs.Coming.{became-this, given, next}
use Rattle.check_words.proofs.Flowing.{slot-made, want-put}
use Rattle.check_words.proofs.Regrouping.{regroup-all}
use Rattle.check_words.proofs.Standing.{last-have, others-have, shared-below, stands-beside, stands-found, stands-units, unit-has, unit-replaced, unit-with-slot}
use Rattle.check_work.specs.Blocks.{IsAdded}
use Rattle.needs_of_members.specs.Fronts.{sort_of, updates_by, updates_by_field, updates_parts}
use Rattle.needs_of_members.proofs.Answered.{access-taken, want-stands}
use Rattle.needs_of_members.proofs.Found.{added, parts-taken}

-- ---- two slots

module _ (s : State) (kept : List UnitAtWork) (u v w : UnitAtWork) (is : s.units ≡ kept ++ u ∷ []) (container key : TypedExpr) (x y : Shared)
    (left : SameShared (type_of container) x) (right : SameShared (type_of key) y)
    (first : v ≡ record u { slots = u.slots ++ x ∷ [] }) (second : w ≡ record v { slots = v.slots ++ y ∷ [] }) where
  pub two-kept : (own : ℕ) → own ≡ length u.slots → Comes (keeps_two container key) s (Ok own) (record s { units = kept ++ w ∷ [] })
  two-kept own e =
      let mid : State = record s { units = kept ++ v ∷ [] } in
      let new : State = record s { units = kept ++ w ∷ [] } in
      next _ _ _ _ _ (length u.slots) mid (slot-made s kept u is (type_of container) x left mid (ap (λ z. record s { units = kept ++ z ∷ [] }) first))
      (next _ _ _ _ _ (length v.slots) new (slot-made mid kept v refl (type_of key) y right new (ap (λ z. record s { units = kept ++ z ∷ [] }) second))
      (given _ new own e))

  pub two-stand : Stands s → PartBelow (length s.atoms) container → PartBelow (length s.atoms) key → Stands (record s { units = kept ++ w ∷ [] })
  two-stand h c k =
      let n : ℕ = length s.atoms in
      let one = subst (UnitBelow n) (sym first) (unit-with-slot n u x (unit-has n s.units kept u is h.units) (shared-below n (type_of container) x left c)) in
      let two = subst (UnitBelow n) (sym second) (unit-with-slot n v y one (shared-below n (type_of key) y right k)) in
      stands-units s h (kept ++ w ∷ []) (unit-replaced n s.units kept u w is h.units two)

-- ---- three parts that become one assignment

module _ (s : State) (container key value : TypedExpr) (last : AreLast s.found 3 (container ∷ key ∷ value ∷ [])) (es : List TypedExpr) (others : es ≡ all_but 3 s.found) where
  pub parts-come : (mid : State) (c k : TypedExpr) → c ≡ container → k ≡ key → (own : ℕ) (how : Read) (t : Shared) (what : UpdateTarget) (op : Operator) (at : Place) (stmt : TypedStmt)
      (bs : List BlockAtWork) → Comes (keeps_two c k) (record s { found = es; ways = None }) (Ok own) mid → IsMemberTarget own how container key t what → IsUpdate what op value at stmt
      → IsAdded stmt mid.blocks bs → Comes (updates_parts how t op at) s (Ok tt) (record mid { blocks = bs })
  parts-come mid c k left right own how t what op at stmt bs slots target update more =
      let taken : State = record s { found = es; ways = None } in
      let kept = subst (λ x. Comes (keeps_two container x) taken (Ok own) mid) right (subst (λ x. Comes (keeps_two x k) taken (Ok own) mid) left slots) in
      next _ _ _ _ _ (container ∷ key ∷ value ∷ []) taken (parts-taken 3 s (container ∷ key ∷ value ∷ []) es last others)
      (next _ _ _ _ _ (container, key, value) taken (given _ taken (container, key, value) refl)
      (next _ _ _ _ _ own mid kept
      (next _ _ _ _ _ what mid (given _ mid what target) (added (IsUpdate what op value at) mid stmt bs more update))))

  three-below : Stands s → All (PartBelow (length s.atoms)) (container ∷ key ∷ value ∷ [])
  three-below h = last-have (PartBelow (length s.atoms)) 3 s.found (container ∷ key ∷ value ∷ []) last h.found

  pub others-stand : Stands s → Stands (record s { found = es; ways = None })
  others-stand h = stands-found s h es (subst (All (PartBelow (length s.atoms))) (sym others) (others-have (PartBelow (length s.atoms)) 3 s.found h.found))

  pub first-below : Stands s → PartBelow (length s.atoms) container
  first-below h = All-head (PartBelow (length s.atoms)) container (key ∷ value ∷ []) (three-below h)

  pub second-below : Stands s → PartBelow (length s.atoms) key
  second-below h =
      All-head (PartBelow (length s.atoms)) key (value ∷ []) (All-tail (PartBelow (length s.atoms)) container (key ∷ value ∷ []) (three-below h))

module _ (s mid new : State) (assign : AssignOp) (op : Operator) (t : Shared) (at : Place) (accs : List Access) (a : Access) (how : Read)
    (first : Comes (takes_operator assign) s (Ok op) mid) (is : mid.accesses ≡ accs ++ a ∷ [])
    (behind : Comes (updates_parts how t op at) (record mid { accesses = accs }) (Ok tt) new) where
  pub element-updated : how ≡ read_of a → Comes (updates_by assign t at) s (Ok tt) new
  element-updated e =
      next _ _ _ _ _ op mid first
      (next _ _ _ _ _ a (record mid { accesses = accs }) (access-taken mid accs a is)
      (subst (λ r. Comes (updates_parts r t op at) (record mid { accesses = accs }) (Ok tt) new) e behind))

  pub field-updated : (name : Text) → how ≡ read.Field name → Comes (updates_by_field name assign t at) s (Ok tt) new
  field-updated name e =
      next _ _ _ _ _ op mid first
      (next _ _ _ _ _ a (record mid { accesses = accs }) (access-taken mid accs a is)
      (subst (λ r. Comes (updates_parts r t op at) (record mid { accesses = accs }) (Ok tt) new) e behind))

-- ---- the other operand

pub operand-wanted : (s : State) (ints : Bool) (t : Shared) (xs : List Bool) (ws : List (Option Shared)) → OfKind (sort_kind ints) s.atoms t.value
    → xs ≡ s.sorts ++ ints ∷ [] → ws ≡ s.wants ++ Some t ∷ [] → Comes (sorts ints ▷ λ u. wants_some (OfKind (sort_kind ints))) s (Ok tt) (record s { sorts = xs; wants = ws })
operand-wanted s ints t xs ws kind more also =
    let mid : State = record s { sorts = xs } in
    next _ _ _ _ _ tt mid (became-this _ s mid (ap (λ ys. record s { sorts = ys }) more))
    (next _ _ _ _ _ t mid (given _ mid t kind) (want-put mid (Some t) (Some t) ws refl also))

pub operand-stands : (s : State) → Stands s → (ints : Bool) (t : Shared) (xs : List Bool) (ws : List (Option Shared)) → SharedBelow (length s.atoms) t
    → ws ≡ s.wants ++ Some t ∷ [] → Stands (record s { sorts = xs; wants = ws })
operand-stands s h ints t xs ws below also = want-stands (record s { sorts = xs }) (stands-beside s h xs s.accesses s.blocks s.done) t ws below also

pub operand-found : (passes : List AtomDef → Asked → TypeLimit → Type 0) (s new : State) (r : Result (Unit {0}) (Stop Fault)) (assign : AssignOp) (at : Place) (t : Shared) → IsLast s.wants (Some t)
    → Comes (sort_of passes assign t at ▷ λ ints. sorts ints ▷ λ v. wants_some (OfKind (sort_kind ints))) s r new → Comes (is_operand passes assign at) s r new
operand-found passes s new r assign at t last h = next _ _ _ _ _ t s (given _ s t last) (regroup-all _ _ _ s new r h)
