-- Conditions that are put together are what the needs mean.
use Rattle.std.proofs.Common.{◌≡◌, ◌++◌, ℕ, List, [], ◌∷◌, length, Option, Some, None, Ok, refl, rules, sym, subst, ap}
use Rattle.bal_base.specs.declared.place.Place.{Place}
use Rattle.checks.specs.Checks.{Comes}
use Rattle.expr_needs.specs.declared.kind.Kind.TheVariants as kind
use Rattle.flow_joins.proofs.Meeting.{join-by-handles}
use Rattle.flow_narrowing.specs.declared.flow.Flow.{Flow}
use Rattle.flow_narrowing.specs.Flows.{IsJoin}
use Rattle.typed_tree.specs.declared.expr.TypedExpr.{TypedExpr}
use Rattle.typed_tree.specs.declared.form.Operator.TheVariants as operator
use Rattle.typed_tree.specs.declared.form.StrictForm.TheVariants as form
use Rattle.typed_tree.specs.Exprs.{type_of}
use Rattle.typed_tree.specs.SharedTypes.{Shared}
use Rattle.typed_tree.specs.Views.{IsAnd, IsOr}
use Rattle.typed_tree.proofs.ExprLayers.{expr_layers}
use Rattle.check_words.specs.Sharing.{SameFlow, SameWays}
use Rattle.check_words.specs.Stands.{ChoiceBelow, FlowBelow, SharedBelow, Stands, WaysBelow}
use Rattle.check_words.specs.State.{ChoiceAtWork, State, UnitAtWork, Ways, all_but, ways_or_same}
use Rattle.check_words.specs.Values.{conjoins, disjoins, turns}
use Rattle.check_words.specs.Words.{OfKind}
use Rattle.check_words.proofs.Coming.{given, made, next}
use Rattle.check_words.proofs.Entering.{forgets-stand, unit-stands, ways-below}
use Rattle.check_words.proofs.Flowing.{choice-closed, flow-set, ways-now, ways-set}
use Rattle.check_words.proofs.Same.{same-flow}
use Rattle.check_words.proofs.Standing.{flow-below, last-has, stands-ways}
use Rattle.check_work.specs.Parts.{Gathered}
use Rattle.check_work.proofs.Making.{made-stands, strict-made, strict-stands}
use Rattle.needs_of_values.specs.Parts.{MadeOfTwo}

and-type : (a b : TypedExpr) (t : Shared) (at : Place) (e : TypedExpr) → IsAnd a b t at e → type_of e ≡ t
and-type a b t at e (x, y, is, k, l) = search (rules, expr_layers)

or-type : (a b : TypedExpr) (t : Shared) (at : Place) (e : TypedExpr) → IsOr a b t at e → type_of e ≡ t
or-type a b t at e (x, y, is, k, l) = search (rules, expr_layers)

-- ---- the ways of the last part

module _ (s : State) (h : Stands s) (kept : List UnitAtWork) (u : UnitAtWork) (is : s.units ≡ kept ++ u ∷ []) (w : Ways) (same : SameWays (ways_or_same s.ways u.flow) w) where
  pub ways-stand : WaysBelow (length s.atoms) w
  ways-stand = let n : ℕ = length s.atoms in
      let own = ways-below n s.ways u.flow h.ways (unit-stands s h kept u is).flow in
      record { yes = flow-below n _ w.yes same.yes own.yes; no = flow-below n _ w.no same.no own.no }

-- ---- `!`

module _ (s : State) (kept : List UnitAtWork) (u : UnitAtWork) (is : s.units ≡ kept ++ u ∷ []) (w : Ways) (same : SameWays (ways_or_same s.ways u.flow) w)
    (t : Shared) (at : Place) (es : List TypedExpr) (g : Gathered (form.Operator operator.Not) 1 t at s.found es) where
  -- the part, with its ways exchanged
  abbrev pub with_turned : State
  with_turned = record s { found = es; ways = Some (record { yes = w.no; no = w.yes }) }

  pub turns-come : OfKind kind.Truth s.atoms t.value → Comes (turns at) s (Ok tt) with_turned
  turns-come of =
      let own : Ways = ways_or_same s.ways u.flow in
      let mid : State = record s { found = es; ways = None } in
      next _ _ _ _ _ own s (ways-now s kept u is)
      (next _ _ _ _ _ tt mid (strict-made (form.Operator operator.Not) 1 t at s es g (OfKind kind.Truth) of)
      (ways-set mid (Some (record { yes = own.no; no = own.yes })) (Some (record { yes = w.no; no = w.yes })) (record { yes = same.no; no = same.yes }) with_turned refl))

  pub turns-stand : Stands s → SharedBelow (length s.atoms) t → Stands with_turned
  turns-stand h below = let ways = ways-stand s h kept u is w same in
      stands-ways (record s { found = es; ways = None }) (strict-stands (form.Operator operator.Not) 1 t at s es g h below) _ (record { yes = ways.no; no = ways.yes })

-- ---- `&&` and `||`

module _ (s : State) (kept : List UnitAtWork) (u : UnitAtWork) (is : s.units ≡ kept ++ u ∷ []) (opened : List ChoiceAtWork) (c : ChoiceAtWork) (are : s.choices ≡ opened ++ c ∷ [])
    (g : Flow) (same : SameFlow c.before g) (us : List UnitAtWork) (now : us ≡ kept ++ record u { flow = g } ∷ []) (w : Ways) (own : SameWays (ways_or_same s.ways u.flow) w) where
  -- behind the choice, with these parts
  abbrev pub with_closed : List TypedExpr → Option Ways → State
  with_closed es ways = record s { found = es; choices = opened; units = us; ways = ways }

  closed-stands : Stands s → Stands (with_closed s.found None)
  closed-stands h = subst (λ vs. Stands (record s { choices = opened; units = vs; ways = None })) (sym now) (forgets-stand s h kept u is opened c g are same)

  pub other-stands : Stands s → FlowBelow (length s.atoms) c.other
  other-stands h = (last-has (ChoiceBelow (length s.atoms)) s.choices c (record { kept = opened; is = are }) h.choices).other

  module _ (at : Place) (t : Shared) (es : List TypedExpr) (joined : Flow) where
    pub conjoins-come : IsJoin s.atoms c.other w.no joined → OfKind kind.Truth s.atoms t.value → MadeOfTwo (λ a b e. IsAnd a b t at e) s.found es
        → Comes (conjoins at) s (Ok tt) (with_closed es (Some (record { yes = w.yes; no = joined })))
    conjoins-come join of m =
        let closed : State = record s { choices = opened } in
        let ways : Ways = ways_or_same s.ways u.flow in
        next _ _ _ _ _ ways s (ways-now s kept u is)
        (next _ _ _ _ _ c closed (choice-closed s opened c are closed refl)
        (next _ _ _ _ _ joined closed (given _ closed joined (join-by-handles s.atoms c.other ways.no joined c.other w.no joined (same-flow c.other) own.no (same-flow joined) join))
        (next _ _ _ _ _ tt (with_closed s.found None) (flow-set closed kept u is c.before g same _ (ap (λ vs. record closed { units = vs; ways = None }) now))
        (next _ _ _ _ _ tt (with_closed es None) (made 2 _ (with_closed s.found None) _ (m.a ∷ m.b ∷ []) m.e m.last (m.a, m.b, refl, (t, of, m.made)) (ap (λ xs. with_closed xs None) m.after))
        (ways-set (with_closed es None) (Some (record { yes = ways.yes; no = joined })) (Some (record { yes = w.yes; no = joined })) (record { yes = own.yes; no = same-flow joined }) _ refl)))))

    pub disjoins-come : IsJoin s.atoms c.other w.yes joined → OfKind kind.Truth s.atoms t.value → MadeOfTwo (λ a b e. IsOr a b t at e) s.found es
        → Comes (disjoins at) s (Ok tt) (with_closed es (Some (record { yes = joined; no = w.no })))
    disjoins-come join of m =
        let closed : State = record s { choices = opened } in
        let ways : Ways = ways_or_same s.ways u.flow in
        next _ _ _ _ _ ways s (ways-now s kept u is)
        (next _ _ _ _ _ c closed (choice-closed s opened c are closed refl)
        (next _ _ _ _ _ joined closed (given _ closed joined (join-by-handles s.atoms c.other ways.yes joined c.other w.yes joined (same-flow c.other) own.yes (same-flow joined) join))
        (next _ _ _ _ _ tt (with_closed s.found None) (flow-set closed kept u is c.before g same _ (ap (λ vs. record closed { units = vs; ways = None }) now))
        (next _ _ _ _ _ tt (with_closed es None) (made 2 _ (with_closed s.found None) _ (m.a ∷ m.b ∷ []) m.e m.last (m.a, m.b, refl, (t, of, m.made)) (ap (λ xs. with_closed xs None) m.after))
        (ways-set (with_closed es None) (Some (record { yes = joined; no = ways.no })) (Some (record { yes = joined; no = w.no })) (record { yes = same-flow joined; no = own.no }) _ refl)))))

    -- whichever of the two, with ways that stand
    two-stand : Stands s → SharedBelow (length s.atoms) t → (e : TypedExpr) → type_of e ≡ t → es ≡ all_but 2 s.found ++ e ∷ [] → (x : Ways) → WaysBelow (length s.atoms) x
        → Stands (with_closed es (Some x))
    two-stand h below e typed after x ways = stands-ways (with_closed es None) (made-stands (with_closed s.found None) (closed-stands h) 2 e t es typed below after) (Some x) ways

    pub conjoins-stand : Stands s → SharedBelow (length s.atoms) t → MadeOfTwo (λ a b e. IsAnd a b t at e) s.found es → FlowBelow (length s.atoms) joined
        → Stands (with_closed es (Some (record { yes = w.yes; no = joined })))
    conjoins-stand h below m k = two-stand h below m.e (and-type m.a m.b t at m.e m.made) m.after _ (record { yes = (ways-stand s h kept u is w own).yes; no = k })

    pub disjoins-stand : Stands s → SharedBelow (length s.atoms) t → MadeOfTwo (λ a b e. IsOr a b t at e) s.found es → FlowBelow (length s.atoms) joined
        → Stands (with_closed es (Some (record { yes = joined; no = w.no })))
    disjoins-stand h below m k = two-stand h below m.e (or-type m.a m.b t at m.e m.made) m.after _ (record { yes = k; no = (ways-stand s h kept u is w own).no })
