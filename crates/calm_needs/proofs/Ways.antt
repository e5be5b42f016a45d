-- Ways that are entered and left: what is known there is of variables in slots of their declared types.
use Rattle.std.proofs.Common.{◌≡◌, ◌<◌, ◌∙◌, ◌++◌, ℕ, zero, suc, Bool, true, false, not, List, [], ◌∷◌, length, All, Option, None, Some, IfSome, arith, refl, sym, subst, ap}
use Rattle.std.specs.Prelude.{IsSomeAnd, if◌then◌else◌, slice_get}
use Rattle.std.proofs.lemmas.List.Elements.{All-cons, All-head, All-nil, All-tail}
use Rattle.bal_base.specs.declared.place.Place.{Place}
use Rattle.bal_base.specs.declared.text.Name.{Name}
use Rattle.bal_tree.specs.declared.name.QualifiedName.{QualifiedName}
use Rattle.checks.specs.Checks.{Gives, ◌▷◌, gives_some}
use Rattle.needs.specs.Needs.{does}
use Rattle.operations.specs.Rows.{Surroundings}
use Rattle.type_model.specs.declared.answers.TypeLimit.{TypeLimit}
use Rattle.type_model.specs.declared.atoms.AtomDef.{AtomDef}
use Rattle.type_model.specs.declared.basic.Ty.{Ty}
use Rattle.type_model.specs.Calls.{Asked}
use Rattle.type_model.specs.Places.{is_same_text}
use Rattle.typed_tree.specs.declared.expr.TypedExpr.{TypedExpr}
use Rattle.typed_tree.specs.SharedTypes.{Shared}
use Rattle.flow_narrowing.specs.declared.flow.Flow.{Flow}
use Rattle.flow_narrowing.specs.declared.flow.Variable.{Variable}
use Rattle.flow_narrowing.specs.Flows.{IsJoin, IsJoined, joins}
use Rattle.check_words.specs.Joins.{joins_two, narrows_to}
use Rattle.check_words.specs.Sharing.{SameChoice, SameFlow, SameOption, SameWays}
use Rattle.check_words.specs.State.{ChoiceAtWork, IsLast, State, UnitAtWork, Ways, all_but, narrowed_by_name, shared_now, ways_or_same}
use Rattle.check_words.specs.Values.{chooses, conjoins, disjoins, encloses, narrowed_by, splits, switches, tests, turns, way_of, ways_if, ways_of_test}
use Rattle.check_words.specs.Words.{Atoms, by_handles, closes_choice, flow_now, makes, opens_choice, sets_flow, sets_ways, ways_now}
use Rattle.typed_needs.specs.Between.{FlowIsStored, WaysAreStored, units_in}
use Rattle.typed_needs.specs.Placing.{AreStored, IsStored}
use Rattle.typed_needs.proofs.Going.{with-flow}
use Rattle.typed_needs.proofs.Placed.{last-same}
use Rattle.typed_needs.proofs.Questions.{where-false-behind}
use Rattle.calm_needs.specs.Calm.{ChangesChoice, ChoiceIsStored, ClosesChoice, HandSees, IsCalm, IsFlowOf, IsStoredAt, KeepsFlows, OpensChoice, StaysOn}
use Rattle.calm_needs.proofs.Flows.{hand-on, keeps-on, keeps-telling, keeps-with, of-narrowed, ways-of}
use Rattle.calm_needs.proofs.Calming.{Calm, calm-asking, calm-flow-now, calm-makes, calm-no-more, calm-on, calm-same, calm-some, calm-then, on-beside, on-on, same-stored, stored-by, unit-on, unit-stored}
use Rattle.calm_needs.proofs.PlacedParts.{and-units, conditional-units, of-these, or-units, parens-units, strict-units}

-- ---- what is open

pub choice-opened : (c : ChoiceAtWork) (u : Unit {0}) (old new : State) → opens_choice c old (Gives u) new
    → (d : ChoiceAtWork) × SameChoice c d × (new ≡ record old { choices = old.choices ++ d ∷ [] })
unfolding ◌▷◌ by_handles does
choice-opened c u old new (d, mid, (same, first), is) = (d, same, is ∙ ap (λ (s : State). record s { choices = s.choices ++ d ∷ [] }) first)

module _ (place : Surroundings) where
  -- ---- flows

  pub flow-by-handles : (f g : Flow) → SameFlow f g → FlowIsStored place f → FlowIsStored place g
  flow-by-handles f g same h = same-stored place f.variables g.variables same.variables h

  ways-by-handles : (v w : Option Ways) → SameOption SameWays v w → IfSome v (WaysAreStored place) → IfSome w (WaysAreStored place)
  ways-by-handles None None same h = tt
  ways-by-handles (Some v) (Some w) same h = record { yes = flow-by-handles v.yes w.yes same.yes h.yes; no = flow-by-handles v.no w.no same.no h.no }
  ways-by-handles None (Some w) same h = absurd same
  ways-by-handles (Some v) None same h = absurd same

  pub choice-by-handles : (c d : ChoiceAtWork) → SameChoice c d → ChoiceIsStored place c → ChoiceIsStored place d
  choice-by-handles c d same h =
      record {
        before = flow-by-handles c.before d.before same.before h.before;
        other = flow-by-handles c.other d.other same.other h.other;
        first = flow-by-handles c.first d.first same.first h.first;
      }

  -- narrowed by its name a variable is in the same slot
  pub narrowed-stored : (vs : List Variable) (name : Name) (t : Option Shared) → All (IsStored place) vs → All (IsStored place) (narrowed_by_name vs name t)
  narrowed-stored [] name t h = All-nil _
  narrowed-stored (v ∷ vs) name t h = by (narrowed-stored vs name t (All-tail (IsStored place) v vs h)) (is_same_text v.name name)
    where
      first : IsStored place v
      first = All-head (IsStored place) v vs h

      by : All (IsStored place) (narrowed_by_name vs name t) → (b : Bool) → All (IsStored place) (if b then record { name = v.name; slot = v.slot; declared = v.declared; narrowed = t; fixed = v.fixed; assigned = v.assigned; captured = v.captured } ∷ vs else v ∷ narrowed_by_name vs name t)
      by rest true = All-cons (IsStored place) _ vs first (All-tail (IsStored place) v vs h)
      by rest false = All-cons (IsStored place) v (narrowed_by_name vs name t) first rest

  -- and where ways meet
  all-by-place : (us : List Variable) → ((i : ℕ) (u : Variable) → slice_get us i ≡ Some u → IsStored place u) → All (IsStored place) us
  all-by-place [] f = All-nil _
  all-by-place (u ∷ us) f = All-cons (IsStored place) u us (f 0 u refl) (all-by-place us (λ i x e. f (suc i) x e))

  at-place : (vs : List Variable) (i : ℕ) (v : Variable) → All (IsStored place) vs → slice_get vs i ≡ Some v → IsStored place v
  at-place (w ∷ vs) zero v h e = let one : w ≡ v = cc in subst (IsStored place) one (All-head (IsStored place) w vs h)
  at-place (w ∷ vs) (suc i) v h e = at-place vs i v (All-tail (IsStored place) w vs h) e
  at-place [] i v h e = absurd (let bad : ⊥ = cc in bad)

  there : (vs : List Variable) (i : ℕ) → i < length vs → (v : Variable) × (slice_get vs i ≡ Some v)
  there (v ∷ vs) zero lt = (v, refl)
  there (v ∷ vs) (suc i) lt = there vs i (omega (arith, lt))
  there [] i lt = absurd (omega (arith, lt))

  within : (us : List Variable) (i : ℕ) (u : Variable) → slice_get us i ≡ Some u → i < length us
  within (w ∷ us) zero u e = omega arith
  within (w ∷ us) (suc i) u e = let lt = within us i u e in omega (arith, lt)
  within [] i u e = absurd (let bad : ⊥ = cc in bad)

  pub joined-stored : (env : Atoms) (f g h : Flow) → IsJoin env f g h → FlowIsStored place f → FlowIsStored place h
  joined-stored env f g h join stored = all-by-place h.variables each
    where
      each : (i : ℕ) (u : Variable) → slice_get h.variables i ≡ Some u → IsStored place u
      each i u e =
          let lt = within h.variables i u e in
          let short : i < length f.variables = (let many = join.variables.length in omega (arith, lt, many)) in
          let (v, ev) = there f.variables i short in
          let (w, ew) = there g.variables i (let many = join.as_many in omega (arith, short, many)) in
          let j : IsJoined env (joins f.reached g.reached) v w u =
          subst (λ o. IsSomeAnd o (IsJoined env (joins f.reached g.reached) v w)) e (join.variables.each i v w short ev ew) in
          ap (λ n. slice_get place.slots n) j.same.slot ∙ at-place f.variables i v stored ev ∙ ap (λ (t : Ty). Some t.sem) (sym j.same.declared)

  -- ---- small steps

  pub flow-known : (f : Flow) (old new : State) → flow_now old (Gives f) new → AreStored place old → FlowIsStored place f × (new ≡ old)
  unfolding ◌▷◌ gives_some
  flow-known f old new (u, a, (last, first), (is, same)) h =
      let one : h.unit ≡ u = last-same old.units h.unit u h.at_hand last in (
        subst (FlowIsStored place) (sym is) (subst (λ (v : UnitAtWork). FlowIsStored place v.flow) one h.variables),
        same ∙ first,
      )

  ways-or-same : (o : Option Ways) (f : Flow) → IfSome o (WaysAreStored place) → FlowIsStored place f → WaysAreStored place (ways_or_same o f)
  ways-or-same None f h stored = record { yes = stored; no = stored }
  ways-or-same (Some w) f h stored = h

  ways-known : (w : Ways) (old new : State) → ways_now old (Gives w) new → IsStoredAt place old → WaysAreStored place w × (new ≡ old)
  unfolding ◌▷◌ gives_some
  ways-known w old new (f, a, flow, (is, same)) h =
      let (stored, first) = flow-known f old a flow h.stored in (
        subst (WaysAreStored place) (sym (is ∙ ap (λ (s : State). ways_or_same s.ways f) first)) (ways-or-same old.ways f h.ways stored),
        same ∙ first,
      )

  -- the parts and what is open stay
  record Beside (old new : State) : Type 0 where
    pub on : StaysOn old new
    pub found : new.found ≡ old.found
    pub choices : new.choices ≡ old.choices

  flow-set : (f : Flow) (u : Unit {0}) (old new : State) → sets_flow f old (Gives u) new → FlowIsStored place f → IsStoredAt place new × Beside old new
  unfolding ◌▷◌ gives_some does
  flow-set f u old new (v, mid, (w, a, (last, first), set), is) stored =
      let (at-mid, found, ways, choices) = unit-stored place (record w { flow = f }) v a mid set stored in (
        record {
          stored = stored-by place mid new (ap (λ (s : State). s.units) is) at-mid;
          ways = subst (λ y. IfSome y (WaysAreStored place)) (sym (ap (λ (s : State). s.ways) is)) tt;
        },
        record {
          on = on-on old a new (on-beside old a (ap (λ (s : State). s.atoms) first) (ap (λ (s : State). s.units) first))
              (on-on a mid new (unit-on w (record w { flow = f }) v a mid (subst (λ (s : State). IsLast s.units w) (sym first) last) (with-flow w f) set)
              (on-beside mid new (ap (λ (s : State). s.atoms) is) (ap (λ (s : State). s.units) is)));
          found = ap (λ (s : State). s.found) is ∙ found ∙ ap (λ (s : State). s.found) first;
          choices = ap (λ (s : State). s.choices) is ∙ choices ∙ ap (λ (s : State). s.choices) first;
        },
      )

  ways-put : (w : Option Ways) (u : Unit {0}) (old new : State) → sets_ways w old (Gives u) new → IfSome w (WaysAreStored place) → AreStored place old
      → IsStoredAt place new × Beside old new
  unfolding ◌▷◌ by_handles does
  ways-put w u old new (x, mid, (same, first), is) h stored = (
    record {
      stored = stored-by place old new (ap (λ (s : State). s.units) is ∙ ap (λ (s : State). s.units) first) stored;
      ways = subst (λ y. IfSome y (WaysAreStored place)) (sym (ap (λ (s : State). s.ways) is)) (ways-by-handles w x same h);
    },
    record {
      on = on-on old mid new (on-beside old mid (ap (λ (s : State). s.atoms) first) (ap (λ (s : State). s.units) first))
          (on-beside mid new (ap (λ (s : State). s.atoms) is) (ap (λ (s : State). s.units) is));
      found = ap (λ (s : State). s.found) is ∙ ap (λ (s : State). s.found) first;
      choices = ap (λ (s : State). s.choices) is ∙ ap (λ (s : State). s.choices) first;
    },
  )

  choice-closed : (c : ChoiceAtWork) (old new : State) → closes_choice old (Gives c) new → IsLast old.choices c × (new ≡ record old { choices = all_but 1 old.choices })
  unfolding ◌▷◌ gives_some does
  choice-closed c old new (d, a, (last, first), (u, b, second, (is, third))) = (
    subst (λ (x : ChoiceAtWork). IsLast old.choices x) (sym is) last,
    third ∙ second ∙ ap (λ (s : State). record s { choices = all_but 1 s.choices }) first,
  )

  join-known : (f g h : Flow) (old new : State) → joins_two f g old (Gives h) new → FlowIsStored place f → FlowIsStored place h × (new ≡ old)
  unfolding gives_some
  join-known f g h old new (join, same) stored = (joined-stored old.atoms f g h join stored, same)

  -- where only what is open changes
  still-stored : (old new : State) → new.units ≡ old.units → new.ways ≡ old.ways → IsStoredAt place old → IsStoredAt place new
  still-stored old new units ways h =
      record { stored = stored-by place old new units h.stored; ways = subst (λ y. IfSome y (WaysAreStored place)) (sym ways) h.ways }

  way-stored : (way : Bool) (w : Ways) → WaysAreStored place w → FlowIsStored place (way_of way w)
  way-stored true w h = h.yes
  way-stored false w h = h.no

  units-beside : (old new : State) → new.found ≡ old.found → units_in new.found ≡ units_in old.found
  units-beside old new is = ap (λ (xs : List TypedExpr). units_in xs) is

  -- ---- choices

  pub split : (way : Bool) (old new : State) → IsStoredAt place old → splits way old (Gives tt) new → OpensChoice place old new
  unfolding ◌▷◌
  split way old new h (f, a, x1, (w, b, x2, (u, c, x3, x4))) =
      let (flow, first) = flow-known f old a x1 h.stored in
      let at-a : IsStoredAt place a = subst (IsStoredAt place) (sym first) h in
      let (known, second) = ways-known w a b x2 at-a in
      let (d, same, third) = choice-opened (record { before = f; other = way_of (not way) w; first = f }) u b c x3 in
      let (stored, beside) = flow-set (way_of way w) tt c new x4 (way-stored way w known) in
      record {
        choice = d;
        choices = beside.choices ∙ ap (λ (s : State). s.choices) third ∙ ap (λ (s : State). s.choices ++ d ∷ []) (second ∙ first);
        is_stored = choice-by-handles (record { before = f; other = way_of (not way) w; first = f }) d same (record { before = flow; other = way-stored (not way) w known; first = flow });
        stored = stored;
        found = beside.found ∙ ap (λ (s : State). s.found) third ∙ ap (λ (s : State). s.found) (second ∙ first);
        on = on-on old c new (on-beside old c (ap (λ (s : State). s.atoms) third ∙ ap (λ (s : State). s.atoms) (second ∙ first)) (ap (λ (s : State). s.units) third ∙ ap (λ (s : State). s.units) (second ∙ first))) beside.on;
      }

  pub switch : (old new : State) (c : ChoiceAtWork) → IsStoredAt place old → switches old (Gives tt) new → IsLast old.choices c → ChoiceIsStored place c → ChangesChoice place old new
  unfolding ◌▷◌
  switch old new c h (f, a, x1, (d, b, x2, (u, m, x3, x4))) last is-stored =
      let (flow, first) = flow-known f old a x1 h.stored in
      let (l, second) = choice-closed d a b x2 in
      let one : d ≡ c = last-same old.choices d c (subst (λ (s : State). IsLast s.choices d) first l) last in
      let known : ChoiceIsStored place d = subst (ChoiceIsStored place) (sym one) is-stored in
      let (e, same, third) = choice-opened (record d { first = f }) u b m x3 in
      let (stored, beside) = flow-set d.other tt m new x4 known.other in
      record {
        choice = e;
        choices = beside.choices ∙ ap (λ (s : State). s.choices) third ∙ ap (λ (s : State). s.choices ++ e ∷ []) second ∙ ap (λ (s : State). all_but 1 s.choices ++ e ∷ []) first;
        is_stored = choice-by-handles (record d { first = f }) e same (record { before = known.before; other = known.other; first = flow });
        stored = stored;
        found = beside.found ∙ ap (λ (s : State). s.found) third ∙ ap (λ (s : State). s.found) second ∙ ap (λ (s : State). s.found) first;
        on = on-on old m new
            (on-beside old m (ap (λ (s : State). s.atoms) third ∙ ap (λ (s : State). s.atoms) second ∙ ap (λ (s : State). s.atoms) first)
            (ap (λ (s : State). s.units) third ∙ ap (λ (s : State). s.units) second ∙ ap (λ (s : State). s.units) first))
            beside.on;
      }

  -- what is made leaves the choices
  made-beside : (count : ℕ) (P : Atoms → List TypedExpr → TypedExpr → Type 0) (u : Unit {0}) (old new : State) → makes count P old (Gives u) new → new.choices ≡ old.choices
  unfolding does
  made-beside count P u old new (parts, last, e, x, is) = ap (λ (s : State). s.choices) is

  pub conjoin : (at : Place) (old new : State) (c : ChoiceAtWork) → IsStoredAt place old → conjoins at old (Gives tt) new → IsLast old.choices c → ChoiceIsStored place c → ClosesChoice place old new
  unfolding ◌▷◌
  conjoin at old new c h (w, s1, x1, (d, s2, x2, (left, s3, x3, (u, s4, x4, (v, s5, x5, x6))))) last is-stored =
      let (known, first) = ways-known w old s1 x1 h in
      let (l, second) = choice-closed d s1 s2 x2 in
      let one : d ≡ c = last-same old.choices d c (subst (λ (s : State). IsLast s.choices d) first l) last in
      let at-d : ChoiceIsStored place d = subst (ChoiceIsStored place) (sym one) is-stored in
      let (joined, third) = join-known d.other w.no left s2 s3 x3 at-d.other in
      let (at-4, beside) = flow-set d.before u s3 s4 x4 at-d.before in
      let calm : IsCalm s4 s5 = calm-makes 2 _ (λ env parts e (a, b, is, (t, k, view)). of-these e is (and-units e view)) s4 s5 v x5 in
      let at-5 = calm.stored place at-4 in
      let (at-6, put) = ways-put (Some (record { yes = w.yes; no = left })) tt s5 new x6 (record { yes = known.yes; no = joined }) at-5.stored in
      let to-3 : s3 ≡ record old { choices = all_but 1 old.choices } = third ∙ second ∙ ap (λ (s : State). record s { choices = all_but 1 s.choices }) first in
      record {
        choices = put.choices ∙ made-beside 2 _ v s4 s5 x5 ∙ beside.choices ∙ ap (λ (s : State). s.choices) to-3;
        stored = at-6;
        units = units-beside s5 new put.found ∙ calm.units ∙ units-beside old s4 (beside.found ∙ ap (λ (s : State). s.found) to-3);
        on = on-on old s5 new
            (on-on old s4 s5 (on-on old s3 s4 (on-beside old s3 (ap (λ (s : State). s.atoms) to-3) (ap (λ (s : State). s.units) to-3)) beside.on) calm.on) put.on;
      }

  pub disjoin : (at : Place) (old new : State) (c : ChoiceAtWork) → IsStoredAt place old → disjoins at old (Gives tt) new → IsLast old.choices c → ChoiceIsStored place c → ClosesChoice place old new
  unfolding ◌▷◌
  disjoin at old new c h (w, s1, x1, (d, s2, x2, (right, s3, x3, (u, s4, x4, (v, s5, x5, x6))))) last is-stored =
      let (known, first) = ways-known w old s1 x1 h in
      let (l, second) = choice-closed d s1 s2 x2 in
      let one : d ≡ c = last-same old.choices d c (subst (λ (s : State). IsLast s.choices d) first l) last in
      let at-d : ChoiceIsStored place d = subst (ChoiceIsStored place) (sym one) is-stored in
      let (joined, third) = join-known d.other w.yes right s2 s3 x3 at-d.other in
      let (at-4, beside) = flow-set d.before u s3 s4 x4 at-d.before in
      let calm : IsCalm s4 s5 = calm-makes 2 _ (λ env parts e (a, b, is, (t, k, view)). of-these e is (or-units e view)) s4 s5 v x5 in
      let at-5 = calm.stored place at-4 in
      let (at-6, put) = ways-put (Some (record { yes = right; no = w.no })) tt s5 new x6 (record { yes = joined; no = known.no }) at-5.stored in
      let to-3 : s3 ≡ record old { choices = all_but 1 old.choices } = third ∙ second ∙ ap (λ (s : State). record s { choices = all_but 1 s.choices }) first in
      record {
        choices = put.choices ∙ made-beside 2 _ v s4 s5 x5 ∙ beside.choices ∙ ap (λ (s : State). s.choices) to-3;
        stored = at-6;
        units = units-beside s5 new put.found ∙ calm.units ∙ units-beside old s4 (beside.found ∙ ap (λ (s : State). s.found) to-3);
        on = on-on old s5 new
            (on-on old s4 s5 (on-on old s3 s4 (on-beside old s3 (ap (λ (s : State). s.atoms) to-3) (ap (λ (s : State). s.units) to-3)) beside.on) calm.on) put.on;
      }

  pub choose : (at : Place) (old new : State) (c : ChoiceAtWork) → IsStoredAt place old → chooses at old (Gives tt) new → IsLast old.choices c → ChoiceIsStored place c → ClosesChoice place old new
  unfolding ◌▷◌
  choose at old new c h (d, s1, x1, (u, s2, x2, x3)) last is-stored =
      let (l, first) = choice-closed d old s1 x1 in
      let one : d ≡ c = last-same old.choices d c l last in
      let at-d : ChoiceIsStored place d = subst (ChoiceIsStored place) (sym one) is-stored in
      let (at-2, beside) = flow-set d.before u s1 s2 x2 at-d.before in
      let calm : IsCalm s2 new = calm-makes 3 _ (λ env parts e (a, b, z, is, (t, k, view)). of-these e is (conditional-units e view)) s2 new tt x3 in
      record {
        choices = made-beside 3 _ tt s2 new x3 ∙ beside.choices ∙ ap (λ (s : State). s.choices) first;
        stored = calm.stored place at-2;
        units = calm.units ∙ units-beside old s2 (beside.found ∙ ap (λ (s : State). s.found) first);
        on = on-on old s2 new (on-on old s1 s2 (on-beside old s1 (ap (λ (s : State). s.atoms) first) (ap (λ (s : State). s.units) first)) beside.on) calm.on;
      }

-- ---- what says something of variables

keeps-same : (s t : State) → t ≡ s → KeepsFlows s t
keeps-same s t is = keeps-with s t (ap (λ (x : State). x.units) is) (ap (λ (x : State). x.choices) is) (ap (λ (x : State). x.ways) is)

flow-of : (vs : List Variable) (f : Flow) (old new : State) → flow_now old (Gives f) new → HandSees vs old → IsFlowOf vs f
unfolding ◌▷◌ gives_some
flow-of vs f old new (u, b, (last, first), (is, same)) hand = subst (IsFlowOf vs) (sym is) (hand u last)

-- ways that are put say nothing of parts
pub ways-set-parts : (w : Option Ways) (u : Unit {0}) (old new : State) → sets_ways w old (Gives u) new → (new.found ≡ old.found) × StaysOn old new
unfolding ◌▷◌ by_handles does
ways-set-parts w u old new (x, mid, (same, first), is) = (
  ap (λ (s : State). s.found) is ∙ ap (λ (s : State). s.found) first,
  on-on old mid new (on-beside old mid (ap (λ (s : State). s.atoms) first) (ap (λ (s : State). s.units) first)) (on-beside mid new (ap (λ (s : State). s.atoms) is) (ap (λ (s : State). s.units) is)),
)

pub ways-seen : (w : Ways) (old new : State) → ways_now old (Gives w) new → new ≡ old
unfolding ◌▷◌ gives_some
ways-seen w old new (f, a, (u, b, (last, first), (is, same)), (are, second)) = second ∙ same ∙ first

pub turn : (at : Place) (old new : State) → turns at old (Gives tt) new → IsCalm old new
unfolding ◌▷◌
turn at old new (w, s1, x1, (u, s2, x2, x3)) =
    let first : s1 ≡ old = ways-seen w old s1 x1 in
    let calm : IsCalm s1 s2 = calm-makes 1 _ (λ env parts e h. strict-units e h.2) s1 s2 u x2 in
    let put = ways-set-parts (Some (record { yes = w.no; no = w.yes })) tt s2 new x3 in
    record {
      on = on-on old s2 new (on-on old s1 s2 (on-beside old s1 (ap (λ (s : State). s.atoms) first) (ap (λ (s : State). s.units) first)) calm.on) put.1;
      units = ap (λ (xs : List TypedExpr). units_in xs) put.0 ∙ calm.units ∙ ap (λ (s : State). units_in s.found) first;
      stored = λ place h.
          let (known, same) = ways-known place w old s1 x1 h in
          let at-2 = calm.stored place (subst (IsStoredAt place) (sym first) h) in
          (ways-put place (Some (record { yes = w.no; no = w.yes })) tt s2 new x3 (record { yes = known.no; no = known.yes }) at-2.stored).0;
      keeps = keeps-telling (Some (record { yes = w.no; no = w.yes })) tt old s2 new (keeps-on old s1 s2 (keeps-same old s1 first) calm.keeps) x3
          (λ vs hand h. let (holds, fails) = ways-of vs w old s1 x1 hand h in (fails, holds));
    }

pub enclose : (at : Place) (old new : State) → encloses at old (Gives tt) new → IsCalm old new
unfolding ◌▷◌ gives_some
enclose at old new (w, s1, (is, first), (u, s2, x2, x3)) =
    let calm : IsCalm s1 s2 = calm-makes 1 _ (λ env parts e (a, are, (t, same, view)). of-these e are (parens-units e view)) s1 s2 u x2 in
    let put = ways-set-parts w tt s2 new x3 in
    record {
      on = on-on old s2 new (on-on old s1 s2 (on-beside old s1 (ap (λ (s : State). s.atoms) first) (ap (λ (s : State). s.units) first)) calm.on) put.1;
      units = ap (λ (xs : List TypedExpr). units_in xs) put.0 ∙ calm.units ∙ ap (λ (s : State). units_in s.found) first;
      stored = λ place h.
          let at-2 = calm.stored place (subst (IsStoredAt place) (sym first) h) in
          (ways-put place w tt s2 new x3 (subst (λ y. IfSome y (WaysAreStored place)) (sym is) h.ways) at-2.stored).0;
      keeps = keeps-telling w tt old s2 new (keeps-on old s1 s2 (keeps-same old s1 first) calm.keeps) x3
          (λ vs hand h. subst (λ y. IfSome y (λ z. IsFlowOf vs z.yes × IsFlowOf vs z.no)) (sym is) h);
    }

module _ (passes : List AtomDef → Asked → TypeLimit → Type 0) where
  -- what a test says of a variable
  abbrev Says : Option Ways → State → State → Type 0
  Says w old new =
      IsCalm old new × ((place : Surroundings) → IsStoredAt place old → IfSome w (WaysAreStored place))
      × ((vs : List Variable) → HandSees vs old → IfSome w (λ x. IsFlowOf vs x.yes × IsFlowOf vs x.no))

  says-none : (w : Option Ways) (old new : State) → w ≡ None → new ≡ old → Says w old new
  says-none w old new is same = (
    calm-same old new same,
    λ place h. subst (λ y. IfSome y (WaysAreStored place)) (sym is) tt,
    λ vs hand. subst (λ y. IfSome y (λ x. IsFlowOf vs x.yes × IsFlowOf vs x.no)) (sym is) tt,
  )

  narrows-calm : (s t : Shared) (at : Place) → Calm (narrows_to passes s t at)
  narrows-calm s t at = calm-then _ _ (calm-some _) (λ u. calm-then _ _ (calm-asking _ (where-false-behind passes s.value t.value at)) (λ v. calm-some _))

  narrowed-says : (name : Name) (v : Variable) (t : Shared) (at : Place) (w : Option Ways) (old new : State) → narrowed_by passes name v t at old (Gives w) new → Says w old new
  unfolding ◌▷◌ gives_some
  narrowed-says name v t at w old new (f, a, x1, (types, b, x2, (is, same))) = (
    calm-on old a new (calm-flow-now old a f x1) (calm-on a b new (narrows-calm (shared_now v) t at a b types x2) (calm-same b new same)),
    λ place h.
        let (flow, first) = flow-known place f old a x1 h.stored in
        subst (λ y. IfSome y (WaysAreStored place)) (sym is)
        (record { yes = narrowed-stored place f.variables name (Some types.0) flow; no = narrowed-stored place f.variables name (Some types.1) flow }),
    λ vs hand.
        let known : IsFlowOf vs f = flow-of vs f old a x1 hand in
        subst (λ y. IfSome y (λ z. IsFlowOf vs z.yes × IsFlowOf vs z.no)) (sym is)
        (of-narrowed vs f.variables name (Some types.0) known, of-narrowed vs f.variables name (Some types.1) known),
  )

  if-says : (q : QualifiedName) (v : Option Variable) (t : Shared) (at : Place) (w : Option Ways) (old new : State) → ways_if passes q v t at old (Gives w) new → Says w old new
  unfolding gives_some
  if-says q None t at w old new (is, same) = says-none w old new is same
  if-says q (Some v) t at w old new met = narrowed-says q.word.name v t at w old new met

  test-says : (name : Option QualifiedName) (t : Shared) (at : Place) (w : Option Ways) (old new : State) → ways_of_test passes name t at old (Gives w) new → Says w old new
  unfolding ◌▷◌ gives_some
  test-says None t at w old new (is, same) = says-none w old new is same
  test-says (Some q) t at w old new (f, a, x1, x2) =
      let calm : IsCalm old a = calm-flow-now old a f x1 in
      let (next, says, tells) = if-says q _ t at w a new x2 in
      (calm-on old a new calm next, λ place h. says place (calm.stored place h), λ vs hand. tells vs (hand-on vs old a calm.keeps.flows hand))

  pub test : (name : Option QualifiedName) (at : Place) (old new : State) → tests passes name at old (Gives tt) new → IsCalm old new
  unfolding ◌▷◌ gives_some
  test name at old new (t, s1, (last, first), (u, s2, x2, (w, s3, x3, (v, s4, x4, x5)))) =
      let one : IsCalm old s2 = calm-on old s1 s2 (calm-same old s1 first) (calm-no-more 1 s1 s2 u x2) in
      let (two, says, tells) = test-says name t at w s2 s3 x3 in
      let three : IsCalm s3 s4 = calm-makes 1 _ (λ env parts e h. strict-units e h.2) s3 s4 v x4 in
      let all = calm-on old s3 s4 (calm-on old s2 s3 one two) three in
      let put = ways-set-parts w tt s4 new x5 in
      record {
        on = on-on old s4 new all.on put.1;
        units = ap (λ (xs : List TypedExpr). units_in xs) put.0 ∙ all.units;
        stored = λ place h.
            let at-2 = one.stored place h in
            let at-4 = all.stored place h in
            (ways-put place w tt s4 new x5 (says place at-2) at-4.stored).0;
        keeps = keeps-telling w tt old s4 new all.keeps x5 (λ vs hand h. tells vs (hand-on vs old s2 one.keeps.flows hand));
      }
