-- Loops over lists and ranges: what stays, and what is kept.
use Rattle.std.proofs.Common.{Bool, List, Option, Some, ap, refl, subst, sym, true, ◌∙◌, ◌≡◌}
use Rattle.std.specs.List.{AllZip}
use Rattle.bal_base.specs.declared.place.Place.{Place}
use Rattle.bal_base.specs.declared.text.Name.{Name}
use Rattle.bal_tree.specs.declared.stmt.RangeOp.{RangeOp}
use Rattle.calm_needs.proofs.Calming.{on-beside}
use Rattle.calm_needs.specs.Calm.{ChoiceIsStored, HandSees, IsFlowOf, IsStoredAt}
use Rattle.check_words.specs.Branches.{has_item, kind_slot, makes_foreach, makes_range, range_end}
use Rattle.check_words.specs.State.{ChoiceAtWork, IsLast, State, all_but, with_variable}
use Rattle.check_words.specs.Statements.{adds_stmt, closes_block, local_variable, takes_part}
use Rattle.check_words.specs.StmtViews.{IsForeach, IsListSource, IsRangeSource}
use Rattle.check_words.specs.Words.{Step, last_two, new_slot, takes}
use Rattle.checks.specs.Checks.{Gives, gives_some, ◌▷◌}
use Rattle.expr_needs.specs.declared.kind.Kind.TheVariants as kind
use Rattle.flow_narrowing.specs.Flows.{IsSameVariable}
use Rattle.flow_narrowing.specs.declared.flow.Variable.{Variable}
use Rattle.operations.specs.Rows.{Surroundings}
use Rattle.typed_bodies.proofs.Aside.{Stays, flow-stays, set-sees, slot-stays, stays-on}
use Rattle.typed_bodies.proofs.Onward.{Moved, Onward, moved-closes-choice, moved-flow-now, moved-sets-flow, moved-some, moved-then, onward-adds, onward-closes-block, onward-kind-slot, onward-new-slot, onward-some, onward-takes, onward-takes-part, onward-then}
use Rattle.typed_needs.proofs.Placed.{last-same}
use Rattle.typed_needs.specs.Between.{FlowIsStored}
use Rattle.typed_stmts.proofs.Keeping.{set-stored}
use Rattle.typed_stmts.proofs.Looping.{variable-seen, zip-last}
use Rattle.typed_stmts.proofs.Words.{choice-closed, flow-changed, flow-set, slot-put, want-taken}
use Rattle.typed_tree.specs.Exprs.{type_of}
use Rattle.typed_tree.specs.SharedTypes.{Shared}

-- ---- the variable of a loop

wants-stay : (s : State) (ws : List (Option Shared)) → Stays s (record s { wants = ws })
wants-stay s ws = record { on = on-beside s _ refl refl; site = refl; found = refl; blocks = refl; matches = refl; choices = refl }

-- what was wanted is its type
pub record ItemPut (old new : State) : Type 0 where
  pub stays : Stays old new
  pub want : Shared
  pub last : IsLast old.wants (Some want)
  pub wants : new.wants ≡ all_but 1 old.wants

pub item-put : (name : Name) (assigned : Bool) (old new : State) → has_item name assigned old (Gives tt) new → ItemPut old new
unfolding ◌▷◌
item-put name assigned old new (t, a, taken, (slot, b, slotted, flowed)) =
    let (last, e1) = want-taken t old a taken in
    let (s, own) = slot-put t slot a b slotted in
    let v : Variable = local_variable name slot t true assigned in
    let f = flow-changed (with_variable v) tt b new flowed in
    let first : Stays old a = subst (λ (x : State). Stays old x) (sym e1) (wants-stay old (all_but 1 old.wants)) in
    record {
      stays = stays-on old b new (stays-on old a b first (slot-stays t a b s)) (flow-stays (λ w. with_variable v w.flow) b new f);
      want = t;
      last = last;
      wants = ap (λ (x : State). x.wants) f.all ∙ ap (λ (x : State). x.wants) s.all ∙ ap (λ (x : State). x.wants) e1;
    }

-- ---- what is made of the body

abbrev walk_end : Variable → Place → Step
walk_end v at =
    closes_block ▷ λ body. takes_part ▷ λ list. new_slot (type_of list) ▷ λ own. kind_slot kind.Integer ▷ λ index. gives_some (λ s over. IsListSource own list over) ▷ λ over.
    adds_stmt (IsForeach v.slot over body.stmts at)

walk-end : (v : Variable) (at : Place) → Onward (walk_end v at)
walk-end v at =
    onward-then _ _ onward-closes-block (λ body. onward-then _ _ onward-takes-part (λ list. onward-then _ _ (onward-new-slot _) (λ own.
    onward-then _ _ (onward-kind-slot kind.Integer) (λ index. onward-then _ _ (onward-some _) (λ over. onward-adds _)))))

abbrev count_end : Variable → RangeOp → Place → Step
count_end v op at =
    closes_block ▷ λ body. last_two ▷ λ p. takes 2 ▷ λ parts. kind_slot kind.Integer ▷ λ own. kind_slot kind.Integer ▷ λ last. kind_slot kind.Truth ▷ λ left.
    gives_some (λ s over. IsRangeSource own (range_end op) p.0 p.1 over) ▷ λ over. adds_stmt (IsForeach v.slot over body.stmts at)

count-end : (v : Variable) (op : RangeOp) (at : Place) → Onward (count_end v op at)
count-end v op at =
    onward-then _ _ onward-closes-block (λ body. onward-then _ _ (onward-some _) (λ p. onward-then _ _ (onward-takes 2) (λ all. onward-then _ _ (onward-kind-slot kind.Integer) (λ own.
    onward-then _ _ (onward-kind-slot kind.Integer) (λ last. onward-then _ _ (onward-kind-slot kind.Truth) (λ left. onward-then _ _ (onward-some _) (λ over. onward-adds _)))))))

pub moved-makes-foreach : (at : Place) → Moved (makes_foreach at)
moved-makes-foreach at =
    moved-then _ _ (moved-then _ _ moved-flow-now (λ f. moved-some _)) (λ v. moved-then _ _ moved-closes-choice (λ c. moved-then _ _ (moved-sets-flow _) (λ u. walk-moves v at)))
  where
    walk-moves : (v : Variable) (at : Place) → Moved (walk_end v at)
    walk-moves v at old new a x = let h = walk-end v at old new a x in h.moved

pub moved-makes-range : (op : RangeOp) (at : Place) → Moved (makes_range op at)
moved-makes-range op at =
    moved-then _ _ (moved-then _ _ moved-flow-now (λ f. moved-some _)) (λ v. moved-then _ _ moved-closes-choice (λ c. moved-then _ _ (moved-sets-flow _) (λ u. count-moves v op at)))
  where
    count-moves : (v : Variable) (op : RangeOp) (at : Place) → Moved (count_end v op at)
    count-moves v op at old new a x = let h = count-end v op at old new a x in h.moved

-- behind the loop the variables are those of its head
pub foreach-sees : (vs : List Variable) (at : Place) (old new : State) (c : ChoiceAtWork) → makes_foreach at old (Gives tt) new → IsLast old.choices c → IsFlowOf vs c.before → HandSees vs new
unfolding ◌▷◌
foreach-sees vs at old new c (v, s1, item, (d, s2, closed, (u, s3, flowed, rest))) last before =
    let (w, hand, seen, e1) = variable-seen v old s1 item in
    let (l, e2) = choice-closed d s1 s2 closed in
    let one : d ≡ c = last-same old.choices d c (subst (λ (s : State). IsLast s.choices d) e1 l) last in
    let here : IsFlowOf vs d.before = subst (λ (x : ChoiceAtWork). IsFlowOf vs x.before) (sym one) before in
    (walk-end v at s3 new tt rest).sees vs (set-sees vs d.before s2 s3 (flow-set d.before u s2 s3 flowed) here)

pub range-sees : (vs : List Variable) (op : RangeOp) (at : Place) (old new : State) (c : ChoiceAtWork) → makes_range op at old (Gives tt) new → IsLast old.choices c
    → IsFlowOf vs c.before → HandSees vs new
unfolding ◌▷◌
range-sees vs op at old new c (v, s1, item, (d, s2, closed, (u, s3, flowed, rest))) last before =
    let (w, hand, seen, e1) = variable-seen v old s1 item in
    let (l, e2) = choice-closed d s1 s2 closed in
    let one : d ≡ c = last-same old.choices d c (subst (λ (s : State). IsLast s.choices d) e1 l) last in
    let here : IsFlowOf vs d.before = subst (λ (x : ChoiceAtWork). IsFlowOf vs x.before) (sym one) before in
    (count-end v op at s3 new tt rest).sees vs (set-sees vs d.before s2 s3 (flow-set d.before u s2 s3 flowed) here)

module _ (place : Surroundings) where
  -- behind the loop the flow is that of its head
  before-known : (old new : State) (c d : ChoiceAtWork) → IsLast old.choices c → IsLast old.choices d → ChoiceIsStored place c → FlowIsStored place d.before
  before-known old new c d last here known =
      subst (λ (x : ChoiceAtWork). FlowIsStored place x.before) (last-same old.choices c d last here) known.before

  pub foreach-stored : (at : Place) (old new : State) (c : ChoiceAtWork) → makes_foreach at old (Gives tt) new → IsLast old.choices c → ChoiceIsStored place c → IsStoredAt place new
  unfolding ◌▷◌
  foreach-stored at old new c (v, s1, item, (d, s2, closed, (u, s3, flowed, rest))) last known =
      let (w, hand, seen, e1) = variable-seen v old s1 item in
      let (l, e2) = choice-closed d s1 s2 closed in
      let flow = before-known old new c d last (subst (λ (s : State). IsLast s.choices d) e1 l) known in
      (walk-end v at s3 new tt rest).stored place (set-stored place d.before u s2 s3 flowed flow)

  pub range-stored : (op : RangeOp) (at : Place) (old new : State) (c : ChoiceAtWork) → makes_range op at old (Gives tt) new → IsLast old.choices c → ChoiceIsStored place c
      → IsStoredAt place new
  unfolding ◌▷◌
  range-stored op at old new c (v, s1, item, (d, s2, closed, (u, s3, flowed, rest))) last known =
      let (w, hand, seen, e1) = variable-seen v old s1 item in
      let (l, e2) = choice-closed d s1 s2 closed in
      let flow = before-known old new c d last (subst (λ (s : State). IsLast s.choices d) e1 l) known in
      (count-end v op at s3 new tt rest).stored place (set-stored place d.before u s2 s3 flowed flow)

  -- the last variable is the same one, in the same slot
  pub last-variable : (vs us : List Variable) (v : Variable) → AllZip IsSameVariable vs us → IsLast vs v → (u : Variable) × IsLast us u × IsSameVariable v u
  last-variable vs us v h last =
      zip-last IsSameVariable last.kept v us (subst (λ l. AllZip IsSameVariable l us) last.is h)
