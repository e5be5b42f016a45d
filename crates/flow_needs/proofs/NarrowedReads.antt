-- `a is T`: where a is a variable, it is narrowed on both ways.
use Rattle.std.proofs.Common.{◌≡◌, ◌≤◌, ◌∙◌, ◌++◌, ◌⊎◌, inl, inr, ℕ, Bool, true, false, List, [], ◌∷◌, length, IfSome, Option, None, Some, refl, sym, subst, ap}
use Rattle.std.specs.Prelude.{if◌then◌else◌, is_some, slice_get}
use Rattle.std.specs.List.{AllZip}
use Rattle.std.proofs.lemmas.List.Elements.{All-head, All-tail}
use Rattle.bal_base.specs.declared.place.Place.{Place}
use Rattle.bal_base.specs.declared.text.Name.{Name}
use Rattle.bal_tree.specs.declared.name.QualifiedName.{QualifiedName}
use Rattle.descriptors.specs.declared.names.Names.{Names}
use Rattle.type_model.specs.declared.answers.TypeLimit.{TypeLimit}
use Rattle.type_model.specs.declared.atoms.AtomDef.{AtomDef}
use Rattle.type_model.specs.declared.basic.SemType.{SemType}
use Rattle.type_model.specs.declared.basic.Ty.{Ty}
use Rattle.type_model.specs.Calls.{Asked}
use Rattle.type_model.specs.Defined.{TyBelow}
use Rattle.type_model.specs.Inclusion.{Sub}
use Rattle.type_model.specs.Places.{is_same_text}
use Rattle.typed_tree.specs.declared.expr.TypedExpr.{TypedExpr}
use Rattle.typed_tree.specs.declared.form.StrictForm.TheVariants as form
use Rattle.typed_tree.specs.SharedTypes.{Shared, sem_of}
use Rattle.typed_tree.specs.Views.{IsLocal, IsStrict}
use Rattle.flow_narrowing.specs.declared.flow.Flow.{Flow as CheckedFlow}
use Rattle.flow_narrowing.specs.declared.flow.Variable.{Variable}
use Rattle.flow_narrowing.specs.Changes.{with_narrowed}
use Rattle.flow_narrowing.specs.Flows.{IfShared, VariableBelow, VariablesBelow, now}
use Rattle.flow_narrowing.specs.Narrowed.{WhereFalse, WhereTrue}
use Rattle.check_words.specs.Seen.{Seen, SeenVariable, seen_as, seen_behind, variable_or}
use Rattle.check_words.specs.Sharing.{SameFlow, SameOption, SameVariable, SameWays}
use Rattle.check_words.specs.Stands.{UnitBelow, WaysBelow}
use Rattle.check_words.specs.State.{IsLast, Site, State, UnitAtWork, Ways, find_variable, narrowed_by_name, shared_now, ways_or_same, with_type}
use Rattle.check_words.proofs.Same.{same-ways}
use Rattle.check_words.proofs.Standing.{flow-below, last-has}
use Rattle.tree_promises.specs.Flows.{Around, LeavesFalse, LeavesTrue}
use Rattle.tree_promises.specs.Known.{Flow, Known, set_in}
use Rattle.tree_promises.specs.KnownOf.{if_reached, known_by}
use Rattle.tree_promises.specs.Laws.{MadeExprsKeepFlows}
use Rattle.tree_promises.specs.MadeFlows.{IsKnown, KeepsFlow, LeavesFlow, MadeKeepsFlow}
use Rattle.typed_needs.specs.Pieces.{IsBefore}
use Rattle.typed_needs.proofs.Placed.{last-same}
use Rattle.calm_needs.proofs.PlacedParts.{strict-units}
use Rattle.flow_needs.specs.Narrower.{IsNarrower}
use Rattle.flow_needs.specs.Quiet.{IsQuiet}
use Rattle.flow_needs.specs.Runs.{ComesToFlow}
use Rattle.flow_needs.specs.Slots.{HaveSlots}
use Rattle.flow_needs.proofs.Conditions.{back-flow, known-same, leaves-same, narrower-same}
use Rattle.flow_needs.proofs.Forms.{form-keeps}
use Rattle.flow_needs.proofs.Growing.{as_live, comes-plain, keeps-part, known, units-from}
use Rattle.flow_needs.proofs.Known.{Found, all-variables-are-known, known-at, same-now, same-some}
use Rattle.flow_needs.proofs.Narrowing.{all-ways-are-narrower, now-below}
use Rattle.flow_needs.proofs.Own.{all-found, cons-of}
use Rattle.flow_needs.proofs.Quieting.{knows-at-hand, on-beside, on-then}
use Rattle.flow_needs.proofs.Reading.{GivenBy, NamesOne, ReadOf, now-shared, read-known, within-more}
use Rattle.flow_needs.proofs.Testing.{Narrowing, Says, TestOf, Tested, comes-said}

-- ---- one variable, as other handles have it

-- the same variable is found by its name
abbrev FoundSame : List Variable → Name → Variable → Type 0
FoundSame vs name w = (x : Variable) × (find_variable vs name ≡ Some x) × SameVariable x w

find-same : (vs us : List Variable) (name : Name) (w : Variable) → AllZip SameVariable vs us → find_variable us name ≡ Some w → FoundSame vs name w
find-same [] [] name w same e = absurd (let bad : ⊥ = cc in bad)
find-same (v ∷ vs) (u ∷ us) name w same e =
    by (is_same_text v.name name) (λ k. find-same vs us name w same.1 k)
    (subst (λ n. Found (is_same_text n name) u us name ≡ Some w) same.0.variable.name e)
  where
    by : (b : Bool) → (find_variable us name ≡ Some w → FoundSame vs name w) → Found b u us name ≡ Some w → (x : Variable) × (Found b v vs name ≡ Some x) × SameVariable x w
    by true later e = (v, refl, subst (λ (y : Variable). SameVariable v y) (same-some u w e) same.0)
    by false later e = later e
find-same [] (u ∷ us) name w same e = absurd same
find-same (v ∷ vs) [] name w same e = absurd same

-- its types are there
found-below : (n : ℕ) (vs : List Variable) (name : Name) (v : Variable) → VariablesBelow n vs → find_variable vs name ≡ Some v → VariableBelow n v
found-below n [] name v below e = absurd (let bad : ⊥ = cc in bad)
found-below n (u ∷ vs) name v below e =
    by (is_same_text u.name name) (λ k. found-below n vs name v (All-tail (VariableBelow n) u vs below) k) e
  where
    by : (b : Bool) → (find_variable vs name ≡ Some v → VariableBelow n v) → Found b u vs name ≡ Some v → VariableBelow n v
    by true later e = subst (VariableBelow n) (same-some u v e) (All-head (VariableBelow n) u vs below)
    by false later e = later e

-- and so is that to which it was narrowed
narrowed-there : (n : ℕ) (vs : List Variable) (name : Name) (v : Variable) (t : Shared) → find_variable vs name ≡ Some v → VariablesBelow n (narrowed_by_name vs name (Some t))
    → TyBelow n t.value
narrowed-there n [] name v t e below = absurd (let bad : ⊥ = cc in bad)
narrowed-there n (u ∷ vs) name v t e below = by (is_same_text u.name name) (λ k h. narrowed-there n vs name v t k h) e below
  where
    by : (b : Bool) → (find_variable vs name ≡ Some v → VariablesBelow n (narrowed_by_name vs name (Some t)) → TyBelow n t.value) → Found b u vs name ≡ Some v
        → VariablesBelow n (if b then with_narrowed u (Some t) ∷ vs else u ∷ narrowed_by_name vs name (Some t)) → TyBelow n t.value
    by true later e below = (let h = All-head (VariableBelow n) (with_narrowed u (Some t)) vs below in h.narrowed)
    by false later e below = later e (All-tail (VariableBelow n) u (narrowed_by_name vs name (Some t)) below)

-- a name without a prefix stands for the variable of this name
seen-variable : (names : Names) (site : Site) (vs : List Variable) (q : QualifiedName) (v : Variable) → q.prefix ≡ None → find_variable vs q.word.name ≡ Some v
    → seen_as names site vs q ≡ SeenVariable v
seen-variable names site vs q v none e = ap (λ p. seen_behind names site vs q p) none ∙ ap (λ o. variable_or names site q o) e

-- the types on both ways of a condition are there
yes-there : (n : ℕ) (w : Ways) (o : Option Ways) → SameOption SameWays (Some w) o → IfSome o (WaysBelow n) → VariablesBelow n w.yes.variables
yes-there n w (Some x) same h = flow-below n x.yes w.yes (back-flow w.yes x.yes same.yes) h.yes
yes-there n w None same h = absurd same

no-there : (n : ℕ) (w : Ways) (o : Option Ways) → SameOption SameWays (Some w) o → IfSome o (WaysBelow n) → VariablesBelow n w.no.variables
no-there n w (Some x) same h = flow-below n x.no w.no (back-flow w.no x.no same.no) h.no
no-there n w None same h = absurd same

-- ---- a part that was found, and then something quiet

same-or-flow : (o : Option Ways) (f g : CheckedFlow) → SameFlow f g → SameWays (ways_or_same o f) (ways_or_same o g)
same-or-flow None f g same = record { yes = same; no = same }
same-or-flow (Some w) f g same = same-ways w

module _ (env : List AtomDef) (around : Around) (live : Bool) where
  abbrev K : CheckedFlow → Flow
  K = known env around live

  pub comes-on : (old k l : State) → ComesToFlow env around live old k → IsQuiet k l → ComesToFlow env around live old l
  comes-on old k l x q =
      let (v, hand, same) = knows-at-hand k.units l.units x.now q.on.units x.behind in
      let ways : SameWays (ways_or_same k.ways x.now.flow) (ways_or_same l.ways v.flow) =
      subst (λ o. SameWays (ways_or_same k.ways x.now.flow) (ways_or_same o v.flow)) (sym q.ways) (same-or-flow k.ways x.now.flow v.flow same.flow) in
      record {
        part = x.part;
        found = q.found ∙ x.found;
        on = on-then old k l x.on q.on;
        was = x.was;
        before = x.before;
        now = v;
        behind = hand;
        leaves = λ base at-base.
            leaves-same env around live base x.part (K x.was.flow) (ways_or_same k.ways x.now.flow) (ways_or_same l.ways v.flow) ways (x.leaves base at-base);
        narrower = narrower-same env around live x.was.flow (ways_or_same k.ways x.now.flow) (ways_or_same l.ways v.flow) ways x.narrower;
        units = x.units;
      }

  none-there : (o : Option Ways) → SameOption SameWays None o → o ≡ None
  none-there None same = refl
  none-there (Some w) same = absurd same

  module _ (flows : MadeExprsKeepFlows) where
    -- where the test says nothing of variables
    comes-untold : (t : Shared) (at : Place) (old l new : State) (x : ComesToFlow env around live old l) → Says (TestOf t at) None l new → (r : TypedExpr) → new.found ≡ old.found ++ r ∷ []
        → ComesToFlow env around live old new
    comes-untold t at old l new x s r more =
        let (parts, found) = all-found 1 old l new (s.before ∷ []) s.part r (x.part ∷ []) x.found s.last s.found more in
        let (u, view) = s.view in
        let view' : IsStrict (form.Is t) (x.part ∷ []) u at s.part = subst (λ a. IsStrict (form.Is t) (a ∷ []) u at s.part) (cons-of s.before x.part [] [] parts).0 view in
        comes-plain env around live old new s.part x.was x.before found (on-then old l new x.on (on-beside l new s.units)) (none-there new.ways s.ways)
        (λ base at-base.
        let made : MadeKeepsFlow env around base = flows env around base in
        made.strict (form.Is t) (x.part ∷ []) u at s.part (K x.was.flow) view' (keeps-part env around live old l x base at-base, tt)
        (form-keeps env around base (K x.was.flow) (form.Is t) 1))
        (units-from env around live s.part (x.part ∷ []) (strict-units s.part view') x.units)

    -- where it narrows the variable that was read
    tested-leaves : (base : Option Flow) (a e : TypedExpr) (v : Variable) (r t u : Shared) (at here : Place) (holds fails : SemType) (b : Bool) (ks : Known)
        → IsLocal v.slot (is_some v.narrowed) r at a → IsKnown env around v.slot (is_some v.narrowed) (sem_of r) (if_reached b ks) → KeepsFlow env around base a (if_reached b ks)
        → IsStrict (form.Is t) (a ∷ []) u here e → slice_get ks v.slot ≡ Some (Some (now v).sem) → LeavesTrue env (now v).sem (sem_of t) holds
        → LeavesFalse env (now v).sem (sem_of t) fails
        → LeavesFlow env around base e (if_reached b ks) (if_reached b ks) (set_in v.slot holds (if_reached b ks)) (set_in v.slot fails (if_reached b ks))
    tested-leaves base a e v r t u at here holds fails true ks view known keep test at-slot truly falsely =
        let made : MadeKeepsFlow env around base = flows env around base in
        made.tested v.slot (is_some v.narrowed) t r u at here a e ks (now v).sem holds fails view known test at-slot truly falsely
    tested-leaves base a e v r t u at here holds fails false ks view known keep test at-slot truly falsely =
        let made : MadeKeepsFlow env around base = flows env around base in
        made.strict (form.Is t) (a ∷ []) u here e None test (keep, tt) (form-keeps env around base None (form.Is t) 1)

    comes-told : (names : Names) (q : QualifiedName) (t : Shared) (at : Place) (w : Option Ways) (old k l new : State) (x : ComesToFlow env around live old k) (quiet : IsQuiet k l)
        → NamesOne names q old k → HaveSlots (length x.was.slots) x.was.flow.variables → length x.was.slots ≤ length around.slots → IsBefore env l → IsBefore env new
        → IsLast l.wants (Some t) → Narrowing q t w l → Says (TestOf t at) w l new → (r : TypedExpr) → new.found ≡ old.found ++ r ∷ [] → ComesToFlow env around live old new
    unfolding comes-on
    comes-told names q t at w old k l new x quiet named slots long before after wanted n s r more =
        let y : ComesToFlow env around live old l = comes-on old k l x quiet in
        let hand : n.unit ≡ y.now = last-same l.units n.unit y.now n.at_hand y.behind in
        let (v1, hand1, same1) = knows-at-hand old.units l.units x.was y.on.units x.before in
        let one : v1 ≡ n.unit = last-same l.units v1 n.unit hand1 n.at_hand in
        let same : SameFlow x.was.flow n.unit.flow = subst (λ (u : UnitAtWork). SameFlow x.was.flow u.flow) one same1.flow in
        let (v, found-v, same-v) = find-same x.was.flow.variables n.unit.flow.variables q.word.name n.variable same.variables n.stands_for in
        let unit : named.unit ≡ x.was = last-same old.units named.unit x.was named.at_hand x.before in
        let seen : named.seen ≡ SeenVariable v =
        named.is ∙ ap (λ (u : UnitAtWork). seen_as names old.site u.flow.variables q) unit ∙ seen-variable names old.site x.was.flow.variables q v n.no_prefix found-v in
        let given : ReadOf v named.one.part = subst (λ (z : Seen). GivenBy z named.one.part) seen named.one.is in
        let part : named.one.part ≡ x.part = last-same k.found named.one.part x.part (record { kept = old.found; is = named.one.found }) (record { kept = old.found; is = x.found }) in
        let (r0, at0, is0, view0) = subst (λ e. ReadOf v e) part given in
        let types : now n.variable ≡ now v = same-now v.narrowed n.variable.narrowed v.declared n.variable.declared same-v.narrowed same-v.variable.declared in
        let slot : n.variable.slot ≡ v.slot = same-v.variable.slot in
        let count : ℕ = length l.atoms in
        let flow-there : VariablesBelow count n.unit.flow.variables = (last-has (UnitBelow count) l.units n.unit n.at_hand before.stands.units).flow in
        let here : TyBelow count (now n.variable) = now-below count n.variable (found-below count n.unit.flow.variables q.word.name n.variable flow-there n.stands_for) in
        let of-test : TyBelow count t.value = last-has (IfShared (TyBelow count)) l.wants (Some t) wanted before.stands.wants in
        let W : Ways = record { yes = with_type q.word.name (Some n.holds) n.unit.flow; no = with_type q.word.name (Some n.fails) n.unit.flow } in
        let put : SameOption SameWays (Some W) new.ways = subst (λ o. SameOption SameWays o new.ways) n.is s.ways in
        let there : IfSome new.ways (WaysBelow count) = subst (λ (xs : List AtomDef). IfSome new.ways (WaysBelow (length xs))) s.atoms after.stands.ways in
        let holds-there : TyBelow count n.holds.value = narrowed-there count n.unit.flow.variables q.word.name n.variable n.holds n.stands_for (yes-there count W new.ways put there) in
        let fails-there : TyBelow count n.fails.value = narrowed-there count n.unit.flow.variables q.word.name n.variable n.fails n.stands_for (no-there count W new.ways put there) in
        let shared : (shared_now n.variable).value ≡ now n.variable = now-shared n.variable in
        let ways = all-ways-are-narrower l.atoms env in
        let truly : LeavesTrue env (now n.variable).sem (sem_of t) (sem_of n.holds) =
        ways.holds (now n.variable) t.value n.holds.value before.keeps here.0 of-test.0 holds-there.0
        (subst (λ (z : Ty). WhereTrue l.atoms z t.value n.holds.value) shared n.where_true) in
        let falsely : LeavesFalse env (now n.variable).sem (sem_of t) (sem_of n.fails) =
        ways.fails (now n.variable) t.value n.fails.value before.keeps here.0 of-test.0 fails-there.0
        (subst (λ (z : Ty). WhereFalse l.atoms z t.value n.fails.value) shared n.where_false) in
        let own : HaveSlots (length around.slots) x.was.flow.variables = record { apart = slots.apart; within = within-more (length x.was.slots) (length around.slots) x.was.flow.variables long slots.within } in
        let own-l : HaveSlots (length around.slots) n.unit.flow.variables = ways.slots (length around.slots) x.was.flow n.unit.flow (ways.handles x.was.flow n.unit.flow same).0 own in
        let all = all-variables-are-known env around (length around.slots) in
        let set : (z : Shared) → K (with_type q.word.name (Some z) n.unit.flow) ≡ set_in v.slot (sem_of z) (K x.was.flow) = λ z.
        all.narrows (as_live env around live n.unit.flow) q.word.name n.variable z own-l n.stands_for ∙ ap (λ i. set_in i (sem_of z) (K n.unit.flow)) slot
        ∙ ap (λ f. set_in v.slot (sem_of z) f) (known-same env around live x.was.flow n.unit.flow same) in
        let narrow : (z : Shared) → Sub env (sem_of z) (now n.variable).sem → IsNarrower env x.was.flow (with_type q.word.name (Some z) n.unit.flow) = λ z under.
        ways.then x.was.flow n.unit.flow (with_type q.word.name (Some z) n.unit.flow) (ways.handles x.was.flow n.unit.flow same).0
        (ways.tested n.unit.flow q.word.name n.variable z n.stands_for under) in
        comes-said env around live (TestOf t at) (Some W) old l new y (subst (λ o. Says (TestOf t at) o l new) n.is s) r more
        (λ e (u, view) base at-base.
        subst (λ f. LeavesFlow env around base e (K x.was.flow) (K x.was.flow) f (K W.no)) (sym (set n.holds))
        (subst (λ f. LeavesFlow env around base e (K x.was.flow) (K x.was.flow) (set_in v.slot (sem_of n.holds) (K x.was.flow)) f) (sym (set n.fails))
        (tested-leaves base x.part e v r0 t u at0 at (sem_of n.holds) (sem_of n.fails) live (known_by (length around.slots) x.was.flow.variables) view0
        (read-known env around live flows x.was q.word.name v r0 slots long found-v is0) (keeps-part env around live old k x base at-base) view
        (known-at (length around.slots) x.was.flow.variables q.word.name v own.apart own.within found-v)
        (subst (λ (z : Ty). LeavesTrue env z.sem (sem_of t) (sem_of n.holds)) types truly) (subst (λ (z : Ty). LeavesFalse env z.sem (sem_of t) (sem_of n.fails)) types falsely))))
        (record {
          yes = narrow n.holds (λ z valid i. ((truly z valid).0 i).0);
          no = narrow n.fails (λ z valid i. ((falsely z valid).0 i).0);
        })
        (λ e (u, view). strict-units e view)

    pub comes-tested : (passes : List AtomDef → Asked → TypeLimit → Type 0) (names : Names) (name : Option QualifiedName) (at : Place) (old k l new : State)
        (x : ComesToFlow env around live old k) (quiet : IsQuiet k l) → IfSome name (λ q. NamesOne names q old k) → HaveSlots (length x.was.slots) x.was.flow.variables
        → length x.was.slots ≤ length around.slots → IsBefore env l → IsBefore env new → Tested passes name at l new → (r : TypedExpr) → new.found ≡ old.found ++ r ∷ []
        → ComesToFlow env around live old new
    comes-tested passes names None at old k l new x quiet named slots long before after t r more =
        comes-untold t.type at old l new (comes-on old k l x quiet) (subst (λ o. Says (TestOf t.type at) o l new) t.narrows t.says) r more
    comes-tested passes names (Some q) at old k l new x quiet named slots long before after t r more = by t.narrows
      where
        by : (t.ways ≡ None) ⊎ Narrowing q t.type t.ways l → ComesToFlow env around live old new
        by (inl none) = comes-untold t.type at old l new (comes-on old k l x quiet) (subst (λ o. Says (TestOf t.type at) o l new) none t.says) r more
        by (inr n) = comes-told names q t.type at t.ways old k l new x quiet named slots long before after t.wanted n t.says r more
