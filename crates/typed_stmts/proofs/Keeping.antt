-- Variables stay in slots of their declared types.
use Rattle.std.proofs.Common.{true, false, inl, inr, IfSome, zero, suc, All, Bool, List, None, Option, Some, [], ap, refl, slice_get, subst, sym, ℕ, ◌++◌, ◌∙◌, ◌∷◌, ◌≡◌, ◌⊎◌}
use Rattle.std.proofs.lemmas.List.Elements.{All-cons, All-head, All-nil, All-tail}
use Rattle.std.specs.List.{AllZip}
use Rattle.std.specs.Prelude.{if◌then◌else◌, take}
use Rattle.bal_base.specs.declared.fault.FaultCode.{FaultCode}
use Rattle.bal_base.specs.declared.place.Place.{Place}
use Rattle.bal_base.specs.declared.text.Name.{Name}
use Rattle.bal_tree.specs.declared.name.QualifiedName.{QualifiedName}
use Rattle.bal_tree.specs.declared.name.Word.{Word}
use Rattle.calm_needs.specs.Calm.{IsStoredAt}
use Rattle.check_words.specs.Branches.{at_head}
use Rattle.check_words.specs.Seen.{looks_up}
use Rattle.check_words.specs.Sharing.{SameVariable}
use Rattle.check_words.specs.State.{IsLast, State, UnitAtWork, Ways, narrowed_by_name, outside, replaced, stopped, with_type, with_variable}
use Rattle.check_words.specs.Statements.{Assigned, AssignsModule, AssignsVariable, adds_stmt, assigns, assigns_to, closes_block, declares, local_variable, performs, returns, stops, takes_part, assigned_by, begins_block, ends_block, makes_block}
use Rattle.check_words.specs.StmtViews.{IsBlock, IsBreak, IsContinue, IsPerform, IsReturn, IsSet}
use Rattle.check_words.specs.Words.{becomes, changes_flow, fails, takes, flow_now, new_slot, sets_flow, wants_no_more}
use Rattle.checks.specs.Checks.{Check, Gives, gives_some, refuses, ◌▷◌}
use Rattle.descriptors.specs.declared.names.Names.{Names}
use Rattle.expr_needs.specs.Needs.{Declares, HasItem}
use Rattle.flow_narrowing.specs.Changes.{with_narrowed}
use Rattle.flow_narrowing.specs.declared.flow.Flow.{Flow}
use Rattle.flow_narrowing.specs.declared.flow.Variable.{Variable}
use Rattle.needs.specs.Needs.{does}
use Rattle.operations.specs.Rows.{Surroundings}
use Rattle.type_model.specs.Calls.{Asked}
use Rattle.type_model.specs.Places.{is_same_text}
use Rattle.type_model.specs.declared.answers.TypeLimit.{TypeLimit}
use Rattle.type_model.specs.declared.atoms.AtomDef.{AtomDef}
use Rattle.type_model.specs.declared.basic.Ty.{Ty}
use Rattle.typed_needs.proofs.Placed.{last-same}
use Rattle.typed_needs.specs.Between.{FlowIsStored, WaysAreStored}
use Rattle.typed_needs.specs.Placing.{AreStored, IsStored}
use Rattle.typed_stmts.proofs.Words.{UnitSet, flow-changed, flow-set, last-replaced, placed-beside, placed-flow, placed-more, slot-put, stmt-put, want-taken, with_flows, with_units}
use Rattle.typed_stmts.specs.Kept.{KeepsPlaced, StmtsKeepStored}
use Rattle.typed_tree.specs.SharedTypes.{Shared, sem_of}
use Rattle.typed_tree.specs.declared.expr.TypedExpr.{TypedExpr}
use Rattle.typed_tree.specs.declared.stmt.PerformForm.{PerformForm}
use Rattle.typed_tree.specs.declared.stmt.TypedStmt.{TypedStmt}

module _ (place : Surroundings) where
  -- ---- variables, one by one

  stored-same : (v u : Variable) → SameVariable v u → IsStored place v → IsStored place u
  stored-same v u same stored =
      subst (λ n. slice_get place.slots n ≡ Some (sem_of u.declared)) (sym same.variable.slot) (stored ∙ ap (λ (t : Ty). Some t.sem) (sym same.variable.declared))

  all-same : (vs us : List Variable) → AllZip SameVariable vs us → All (IsStored place) vs → All (IsStored place) us
  all-same [] [] same h = All-nil (IsStored place)
  all-same (v ∷ vs) (u ∷ us) same h =
      All-cons (IsStored place) u us (stored-same v u same.0 (All-head (IsStored place) v vs h)) (all-same vs us same.1 (All-tail (IsStored place) v vs h))
  all-same [] (u ∷ us) same h = absurd same
  all-same (v ∷ vs) [] same h = absurd same

  pub by-name : (vs : List Variable) (name : Name) (t : Option Shared) → All (IsStored place) vs → All (IsStored place) (narrowed_by_name vs name t)
  by-name [] name t h = h
  by-name (v ∷ vs) name t h = by (is_same_text v.name name) (by-name vs name t (All-tail (IsStored place) v vs h))
    where
      by : (b : Bool) → All (IsStored place) (narrowed_by_name vs name t) → All (IsStored place) (if b then with_narrowed v t ∷ vs else v ∷ narrowed_by_name vs name t)
      by true later = All-cons (IsStored place) (with_narrowed v t) vs (All-head (IsStored place) v vs h) (All-tail (IsStored place) v vs h)
      by false later = All-cons (IsStored place) v (narrowed_by_name vs name t) (All-head (IsStored place) v vs h) later

  one-more : (vs : List Variable) (v : Variable) → All (IsStored place) vs → IsStored place v → All (IsStored place) (vs ++ v ∷ [])
  one-more [] v h stored = All-cons (IsStored place) v [] stored (All-nil (IsStored place))
  one-more (w ∷ vs) v h stored =
      All-cons (IsStored place) w (vs ++ v ∷ []) (All-head (IsStored place) w vs h) (one-more vs v (All-tail (IsStored place) w vs h) stored)

  pub first-ones : (n : ℕ) (vs : List Variable) → All (IsStored place) vs → All (IsStored place) (take n vs)
  first-ones zero vs h = All-nil (IsStored place)
  first-ones (suc n) [] h = All-nil (IsStored place)
  first-ones (suc n) (v ∷ vs) h = All-cons (IsStored place) v (take n vs) (All-head (IsStored place) v vs h) (first-ones n vs (All-tail (IsStored place) v vs h))

  pub heads-stored : (words : List Word) (f : Flow) → FlowIsStored place f → FlowIsStored place (at_head words f)
  heads-stored [] f h = h
  heads-stored (w ∷ words) f h = heads-stored words (with_type w.name None f) (by-name f.variables w.name None h)

  -- ---- the unit at hand

  pub hand-stored : (next : UnitAtWork → UnitAtWork) (change : State → List UnitAtWork → State) (old new : State) (s : UnitSet old new next change)
      → new.units ≡ replaced old.units s.now → FlowIsStored place (next s.was).flow → AreStored place new
  hand-stored next change old new s units h =
      record {
        unit = s.now;
        at_hand = subst (λ us. IsLast us s.now) (sym units) (last-replaced old.units s.now);
        variables = all-same (next s.was).flow.variables s.now.flow.variables s.same.flow.variables h;
      }

  pub was-stored : (old : State) (u : UnitAtWork) → IsLast old.units u → AreStored place old → FlowIsStored place u.flow
  was-stored old u last stored =
      subst (λ (w : UnitAtWork). FlowIsStored place w.flow) (last-same old.units stored.unit u stored.at_hand last) stored.variables

  abbrev KeepsAll : {A : Type 0} → Check State A → Type 0
  KeepsAll {A} m = (old new : State) (a : A) → m old (Gives a) new → IsStoredAt place old → IsStoredAt place new

  -- in another state whose units are the same, and whose ways are, or are none
  abbrev SameOrNone : Option Ways → Option Ways → Type 0
  SameOrNone before behind = (behind ≡ before) ⊎ (behind ≡ None)

  ways-beside : (before behind : Option Ways) → SameOrNone before behind → IfSome before (WaysAreStored place) → IfSome behind (WaysAreStored place)
  ways-beside before behind (inl same) h = subst (λ w. IfSome w (WaysAreStored place)) (sym same) h
  ways-beside before behind (inr none) h = subst (λ w. IfSome w (WaysAreStored place)) (sym none) tt

  pub stored-beside : (old new : State) → new.units ≡ old.units → SameOrNone old.ways new.ways → IsStoredAt place old → IsStoredAt place new
  stored-beside old new same ways kept =
      let stored = kept.stored in
      record {
        stored = record { unit = stored.unit; at_hand = subst (λ us. IsLast us stored.unit) (sym same) stored.at_hand; variables = stored.variables };
        ways = ways-beside old.ways new.ways ways kept.ways;
      }

  pub set-stored : (f : Flow) (u : Unit {0}) (old new : State) → sets_flow f old (Gives u) new → FlowIsStored place f → IsStoredAt place new
  set-stored f u old new met h =
      let s = flow-set f u old new met in
      record {
        stored = hand-stored (λ w. record w { flow = f }) with_flows old new s (ap (λ (x : State). x.units) s.all) h;
        ways = subst (λ w. IfSome w (WaysAreStored place)) (sym (ap (λ (x : State). x.ways) s.all)) tt;
      }

  -- a change of the flow that keeps it so
  pub changed-stored : (change : Flow → Flow) (u : Unit {0}) (old new : State) → changes_flow change old (Gives u) new
      → ((f : Flow) → FlowIsStored place f → FlowIsStored place (change f)) → IsStoredAt place old → IsStoredAt place new
  changed-stored change u old new met keeps kept =
      let s = flow-changed change u old new met in
      record {
        stored = hand-stored (λ w. record w { flow = change w.flow }) with_flows old new s (ap (λ (x : State). x.units) s.all) (keeps s.was.flow (was-stored old s.was s.before kept.stored));
        ways = subst (λ w. IfSome w (WaysAreStored place)) (sym (ap (λ (x : State). x.ways) s.all)) tt;
      }

  -- a slot more
  slot-stored : (t : Shared) → KeepsAll (new_slot t)
  slot-stored t old new own met kept =
      let (s, is) = slot-put t own old new met in
      record {
        stored = hand-stored (λ w. record w { slots = w.slots ++ t ∷ [] }) with_units old new s (ap (λ (x : State). x.units) s.all) (was-stored old s.was s.before kept.stored);
        ways = subst (λ w. IfSome w (WaysAreStored place)) (sym (ap (λ (x : State). x.ways) s.all)) kept.ways;
      }

  -- ---- words that keep it so

  keeps-then : {A B : Type 0} (m : Check State A) (next : A → Check State B) → KeepsAll m → ((a : A) → KeepsAll (next a)) → KeepsAll (m ▷ next)
  unfolding ◌▷◌
  keeps-then m next f g old new b (a, mid, first, second) kept = g a mid new b second (f old mid a first kept)

  keeps-some : {A : Type 0} (P : State → A → Type 0) → KeepsAll (gives_some P)
  unfolding gives_some
  keeps-some P old new a (holds, same) kept = stored-beside old new (ap (λ (s : State). s.units) same) (inl (ap (λ (s : State). s.ways) same)) kept

  keeps-becomes : (change : State → State) → ((s : State) → (change s).units ≡ s.units) → ((s : State) → SameOrNone s.ways (change s).ways) → KeepsAll (becomes change)
  unfolding does
  keeps-becomes change same ways old new u is kept =
      subst (λ (s : State). IsStoredAt place s) (sym is) (stored-beside old (change old) (same old) (ways old) kept)

  keeps-fails : {A : Type 0} (code : FaultCode) (at : Place) → KeepsAll (fails {A = A} code at)
  unfolding refuses
  keeps-fails code at old new a met kept = absurd met

  keeps-takes : (count : ℕ) → KeepsAll (takes count)
  keeps-takes count = keeps-then _ _ (keeps-some _) (λ ps. keeps-then _ _ (keeps-becomes _ (λ s. refl) (λ s. inr refl)) (λ u. keeps-some _))

  keeps-takes-part : KeepsAll takes_part
  keeps-takes-part = keeps-then _ _ (keeps-some _) (λ e. keeps-then _ _ (keeps-takes 1) (λ ps. keeps-some _))

  keeps-no-more : (count : ℕ) → KeepsAll (wants_no_more count)
  keeps-no-more count = keeps-becomes _ (λ s. refl) (λ s. inl refl)

  keeps-adds : (P : TypedStmt → Type 0) → KeepsAll (adds_stmt P)
  keeps-adds P = keeps-then _ _ (keeps-some _) (λ b. keeps-then _ _ (keeps-some _) (λ s. keeps-becomes _ (λ s. refl) (λ s. inl refl)))

  keeps-closes-block : KeepsAll closes_block
  keeps-closes-block = keeps-then _ _ (keeps-some _) (λ b. keeps-then _ _ (keeps-becomes _ (λ s. refl) (λ s. inl refl)) (λ u. keeps-some _))

  keeps-flow-now : KeepsAll flow_now
  keeps-flow-now = keeps-then _ _ (keeps-some _) (λ u. keeps-some _)

  keeps-changes : (change : Flow → Flow) → ((f : Flow) → FlowIsStored place f → FlowIsStored place (change f)) → KeepsAll (changes_flow change)
  keeps-changes change keeps old new u met kept = changed-stored change u old new met keeps kept

  keeps-stops : KeepsAll stops
  keeps-stops = keeps-changes stopped (λ f h. h)

  keeps-looks-up : (names : Names) (q : QualifiedName) → KeepsAll (looks_up names q)
  keeps-looks-up names q = keeps-then _ _ (keeps-some _) (λ u. keeps-some _)

  keeps-assigns-to : (a : Assigned) (value : TypedExpr) (at : Place) → KeepsAll (assigns_to a value at)
  keeps-assigns-to (AssignsVariable v) value at =
      keeps-then _ _ (keeps-changes (with_type v.name None) (λ f h. by-name f.variables v.name None h)) (λ u. keeps-adds _)
  keeps-assigns-to (AssignsModule number t) value at = keeps-adds _

  -- a variable more
  more-stored : (v : Variable) (u : Unit {0}) (old new : State) → changes_flow (with_variable v) old (Gives u) new → IsStored place v → IsStoredAt place old → IsStoredAt place new
  more-stored v u old new met stored kept = changed-stored (with_variable v) u old new met (λ f h. one-more f.variables v h stored) kept

-- ---- needs

module _ (passes : List AtomDef → Asked → TypeLimit → Type 0) (names : Names) (env : List AtomDef) (place : Surroundings) where
  declares-stored : (name : Name) (final assigned : Bool) (at : Place) → KeepsPlaced passes names env place (Declares name final assigned at)
  unfolding ◌▷◌
  declares-stored name final assigned at old new (value, a, taken, (t, b, want, (slot, c, slotted, (u, d, flowed, added)))) placed kept =
      let v : Variable = local_variable name slot t final assigned in
      let (l2, e2) = want-taken t a b want in
      let (s3, own) = slot-put t slot b c slotted in
      let s4 = flow-changed (with_variable v) u c d flowed in
      let put = stmt-put (IsSet slot value at) tt d new added in
      let at-d = placed-beside place d new (ap (λ (s : State). s.units) put.all) placed in
      let at-c = placed-flow place (λ w. with_variable v w.flow) with_flows c d s4 (ap (λ (s : State). s.units) s4.all) at-d in
      let held = (placed-more place t slot b c s3 own at-c).1 in
      let at-a : IsStoredAt place a = keeps-takes-part place old a value taken kept in
      let at-b : IsStoredAt place b = stored-beside place a b (ap (λ (s : State). s.units) e2) (inl (ap (λ (s : State). s.ways) e2)) at-a in
      keeps-adds place (IsSet slot value at) d new tt added (more-stored place v u c d flowed held (slot-stored place t b c slot slotted at-b))

  items-stored : (name : Name) (assigned : Bool) → KeepsPlaced passes names env place (HasItem name assigned)
  unfolding ◌▷◌
  items-stored name assigned old new (t, a, want, (slot, b, slotted, flowed)) placed kept =
      let v : Variable = local_variable name slot t true assigned in
      let (l1, e1) = want-taken t old a want in
      let (s2, own) = slot-put t slot a b slotted in
      let s3 = flow-changed (with_variable v) tt b new flowed in
      let at-b = placed-flow place (λ w. with_variable v w.flow) with_flows b new s3 (ap (λ (s : State). s.units) s3.all) placed in
      let held = (placed-more place t slot a b s2 own at-b).1 in
      let at-a : IsStoredAt place a = stored-beside place old a (ap (λ (s : State). s.units) e1) (inl (ap (λ (s : State). s.ways) e1)) kept in
      more-stored place v tt b new flowed held (slot-stored place t a b slot slotted at-a)

  returns-so : (at : Place) → KeepsAll place (returns at)
  returns-so at =
      keeps-then place _ _ (keeps-takes-part place) (λ value. keeps-then place _ _ (keeps-no-more place 1)
      (λ u. keeps-then place _ _ (keeps-adds place (IsReturn value at)) (λ v. keeps-stops place)))

  jump-so : (P : TypedStmt → Type 0) → KeepsAll place (adds_stmt P ▷ λ u. stops)
  jump-so P = keeps-then place _ _ (keeps-adds place P) (λ u. keeps-stops place)

  performs-so : (form : PerformForm) (count : ℕ) (at : Place) → KeepsAll place (performs form count at)
  performs-so form count at = keeps-then place _ _ (keeps-takes place count) (λ parts. keeps-adds place (IsPerform form parts at))

  assigned-so : (q : QualifiedName) → KeepsAll place (assigned_by names q)
  assigned-so q = keeps-then place _ _ (keeps-looks-up place names q) (λ seen. keeps-some place _)

  assigns-so : (q : QualifiedName) (at : Place) → KeepsAll place (assigns names q at)
  assigns-so q at =
      keeps-then place _ _ (keeps-takes-part place) (λ value. keeps-then place _ _ (keeps-no-more place 1)
      (λ u. keeps-then place _ _ (assigned-so q) (λ a. keeps-assigns-to place a value at)))

  begins-so : KeepsAll place begins_block
  begins-so = keeps-then place _ _ (keeps-flow-now place) (λ f. keeps-becomes place _ (λ s. refl) (λ s. inl refl))

  ends-so : KeepsAll place ends_block
  ends-so = keeps-then place _ _ (keeps-some place _) (λ b. keeps-changes place (outside b.scope) (λ f h. first-ones place b.scope f.variables h))

  blocks-so : (at : Place) → KeepsAll place (makes_block at)
  blocks-so at = keeps-then place _ _ (keeps-closes-block place) (λ b. keeps-adds place (IsBlock b.stmts at))

  pub stmts-keep-stored : StmtsKeepStored passes names env place
  stmts-keep-stored =
      record {
        declares = declares-stored;
        items = items-stored;
        assigns = λ q at old new met kept. assigns-so q at old new tt met kept;
        begins = λ old new met kept. begins-so old new tt met kept;
        ends = λ old new met kept. ends-so old new tt met kept;
        blocks = λ at old new met kept. blocks-so at old new tt met kept;
        heads = λ words old new met kept. keeps-changes place (at_head words) (λ f h. heads-stored place words f h) old new tt met kept;
        stops = λ old new met kept. keeps-stops place old new tt met kept;
        returns = λ at old new met kept. returns-so at old new tt met kept;
        breaks = λ at old new met kept. jump-so (IsBreak at) old new tt met kept;
        continues = λ at old new met kept. jump-so (IsContinue at) old new tt met kept;
        performs = λ form count at old new met kept. performs-so form count at old new tt met kept;
      }
