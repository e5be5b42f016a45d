-- What is known, and what is opened, as answers of calls.
use Rattle.std.proofs.Common.{◌≡◌, ◌++◌, ◌∙◌, Bool, List, [], ◌∷◌, length, Option, None, Ok, not, refl, sym, subst, ap}
use Rattle.std.specs.List.{AllZip}
use Rattle.std.proofs.lemmas.List.Elements.{AllZip-push}
use Rattle.checks.specs.Checks.{Comes, ◌▷◌}
use Rattle.flow_narrowing.specs.declared.flow.Flow.{Flow}
use Rattle.flow_narrowing.specs.Flows.{AreSame}
use Rattle.typed_tree.specs.SharedTypes.{Shared}
use Rattle.check_words.specs.Sharing.{SameChoice, SameFlow, SameOption, SameShared, SameUnit, SameWays}
use Rattle.check_words.specs.State.{ChoiceAtWork, State, UnitAtWork, Ways, replaced, ways_or_same}
use Rattle.check_words.specs.Values.{splits, switches, takes_sort, way_of}
use Rattle.check_words.specs.Words.{changes_flow, closes_choice, flow_now, new_slot, opens_choice, sets_flow, sets_unit, sets_ways, unit_now, wants, ways_now}
use Rattle.check_words.proofs.Coming.{became-this, given, handed, next}
use Rattle.check_words.proofs.LastOnes.{kept-is}
use Rattle.check_words.proofs.Same.{are-same, same-choice, same-list, same-unit}

pub with-flow : (u : UnitAtWork) (f g : Flow) → SameFlow f g → SameUnit (record u { flow = f }) (record u { flow = g })
with-flow u f g same = let h = same-unit u in
    record {
      number = refl;
      worker = refl;
      slots = h.slots;
      params = refl;
      rest = refl;
      rest_member = h.rest_member;
      result = refl;
      arrow = refl;
      future = refl;
      captured = h.captured;
      flow = same;
    }

with-slot : (u : UnitAtWork) (t x : Shared) → SameShared t x → SameUnit (record u { slots = u.slots ++ t ∷ [] }) (record u { slots = u.slots ++ x ∷ [] })
with-slot u t x same = let h = same-unit u in
    record {
      number = refl;
      worker = refl;
      slots = AllZip-push SameShared u.slots u.slots t x h.slots same;
      params = refl;
      rest = refl;
      rest_member = h.rest_member;
      result = refl;
      arrow = refl;
      future = refl;
      captured = h.captured;
      flow = h.flow;
    }

-- ---- the unit at hand

module _ (s : State) (kept : List UnitAtWork) (u : UnitAtWork) (is : s.units ≡ kept ++ u ∷ []) where
  pub unit-now : Comes unit_now s (Ok u) s
  unit-now = given _ s u (record { kept = kept; is = is })

  pub flow-now : Comes flow_now s (Ok u.flow) s
  flow-now = next _ _ _ _ _ u s unit-now (given _ s u.flow refl)

  pub ways-now : Comes ways_now s (Ok (ways_or_same s.ways u.flow)) s
  ways-now = next _ _ _ _ _ u.flow s flow-now (given _ s (ways_or_same s.ways u.flow) refl)

  pub unit-set : (v w : UnitAtWork) → SameUnit v w → (new : State) → new ≡ record s { units = kept ++ w ∷ [] } → Comes (sets_unit v) s (Ok tt) new
  unit-set v w same new e =
      next _ _ _ _ _ w s (handed _ s v w same)
      (became-this _ s new (e ∙ ap (λ us. record s { units = us ++ w ∷ [] }) (sym (kept-is 1 s.units kept (u ∷ []) is refl))))

  pub flow-set : (f g : Flow) → SameFlow f g → (new : State) → new ≡ record s { units = kept ++ record u { flow = g } ∷ []; ways = None }
      → Comes (sets_flow f) s (Ok tt) new
  flow-set f g same new e = let mid : State = record s { units = kept ++ record u { flow = g } ∷ [] } in
      next _ _ _ _ _ tt mid (next _ _ _ _ _ u s unit-now (unit-set (record u { flow = f }) (record u { flow = g }) (with-flow u f g same) mid refl)) (became-this _ mid new e)

  pub flow-changed : (change : Flow → Flow) (g : Flow) → SameFlow (change u.flow) g → (new : State)
      → new ≡ record s { units = kept ++ record u { flow = g } ∷ []; ways = None } → Comes (changes_flow change) s (Ok tt) new
  flow-changed change g same new e = next _ _ _ _ _ u.flow s flow-now (flow-set (change u.flow) g same new e)

  pub slot-made : (t x : Shared) → SameShared t x → (new : State) → new ≡ record s { units = kept ++ record u { slots = u.slots ++ x ∷ [] } ∷ [] }
      → Comes (new_slot t) s (Ok (length u.slots)) new
  slot-made t x same new e =
      next _ _ _ _ _ u s unit-now (next _ _ _ _ _ tt new (unit-set (record u { slots = u.slots ++ t ∷ [] }) (record u { slots = u.slots ++ x ∷ [] }) (with-slot u t x same) new e)
      (given _ new (length u.slots) refl))

-- ---- choices

pub choice-opened : (s : State) (c d : ChoiceAtWork) → SameChoice c d → (new : State) → new ≡ record s { choices = s.choices ++ d ∷ [] }
    → Comes (opens_choice c) s (Ok tt) new
choice-opened s c d same new e = next _ _ _ _ _ d s (handed _ s c d same) (became-this _ s new e)

pub choice-closed : (s : State) (kept : List ChoiceAtWork) (c : ChoiceAtWork) → s.choices ≡ kept ++ c ∷ [] → (new : State) → new ≡ record s { choices = kept }
    → Comes closes_choice s (Ok c) new
choice-closed s kept c is new e =
    next _ _ _ _ _ c s (given _ s c (record { kept = kept; is = is }))
    (next _ _ _ _ _ tt new (became-this _ s new (e ∙ ap (λ cs. record s { choices = cs }) (sym (kept-is 1 s.choices kept (c ∷ []) is refl)))) (given _ new c refl))

pub ways-set : (s : State) (w x : Option Ways) → SameOption SameWays w x → (new : State) → new ≡ record s { ways = x } → Comes (sets_ways w) s (Ok tt) new
ways-set s w x same new e = next _ _ _ _ _ x s (handed _ s w x same) (became-this _ s new e)

-- ---- what is wanted

pub want-put : (s : State) (w x : Option Shared) (ws : List (Option Shared)) → AreSame w x → ws ≡ s.wants ++ x ∷ [] → Comes (wants w) s (Ok tt) (record s { wants = ws })
want-put s w x ws same more =
    next _ _ _ _ _ x s (handed _ s w x same) (became-this _ s (record s { wants = ws }) (ap (λ us. record s { wants = us }) more))

-- ---- operators that wait

pub sort-taken : (s : State) (kept : List Bool) (ints : Bool) → s.sorts ≡ kept ++ ints ∷ [] → Comes takes_sort s (Ok ints) (record s { sorts = kept })
sort-taken s kept ints is = let new : State = record s { sorts = kept } in
    next _ _ _ _ _ ints s (given _ s ints (record { kept = kept; is = is }))
    (next _ _ _ _ _ tt new (became-this _ s new (ap (λ xs. record s { sorts = xs }) (sym (kept-is 1 s.sorts kept (ints ∷ []) is refl)))) (given _ new ints refl))

-- ---- ways that are entered

module _ (s : State) (kept : List UnitAtWork) (u : UnitAtWork) (is : s.units ≡ kept ++ u ∷ []) where
  -- where the choices are these, and this is known
  abbrev pub with_choices_and_flow : List ChoiceAtWork → Flow → State
  with_choices_and_flow cs g = record s { choices = cs; units = kept ++ record u { flow = g } ∷ []; ways = None }

  pub splits-come : (way : Bool) (c : ChoiceAtWork) (g : Flow) (cs : List ChoiceAtWork)
      → SameChoice (record { before = u.flow; other = way_of (not way) (ways_or_same s.ways u.flow); first = u.flow }) c
      → SameFlow (way_of way (ways_or_same s.ways u.flow)) g → cs ≡ s.choices ++ c ∷ []
      → Comes (splits way) s (Ok tt) (with_choices_and_flow cs g)
  splits-come way c g cs choice same more = let mid : State = record s { choices = s.choices ++ c ∷ [] } in
      next _ _ _ _ _ u.flow s (flow-now s kept u is)
      (next _ _ _ _ _ (ways_or_same s.ways u.flow) s (ways-now s kept u is)
      (next _ _ _ _ _ tt mid (choice-opened s _ c choice mid refl)
      (flow-set mid kept u is _ g same (with_choices_and_flow cs g) (ap (λ ds. with_choices_and_flow ds g) more))))

  pub switches-come : (opened : List ChoiceAtWork) (c d : ChoiceAtWork) (g : Flow) (cs : List ChoiceAtWork) → s.choices ≡ opened ++ c ∷ []
      → SameChoice (record c { first = u.flow }) d → SameFlow c.other g → cs ≡ opened ++ d ∷ []
      → Comes switches s (Ok tt) (with_choices_and_flow cs g)
  switches-come opened c d g cs are choice same more =
      let closed : State = record s { choices = opened } in
      let mid : State = record s { choices = opened ++ d ∷ [] } in
      next _ _ _ _ _ u.flow s (flow-now s kept u is)
      (next _ _ _ _ _ c closed (choice-closed s opened c are closed refl)
      (next _ _ _ _ _ tt mid (choice-opened closed (record c { first = u.flow }) d choice mid refl)
      (flow-set mid kept u is c.other g same (with_choices_and_flow cs g) (ap (λ ds. with_choices_and_flow ds g) more))))

  pub forgets-come : (opened : List ChoiceAtWork) (c : ChoiceAtWork) (g : Flow) → s.choices ≡ opened ++ c ∷ [] → SameFlow c.before g
      → Comes (closes_choice ▷ λ c. sets_flow c.before) s (Ok tt) (with_choices_and_flow opened g)
  forgets-come opened c g are same =
      next _ _ _ _ _ c (record s { choices = opened }) (choice-closed s opened c are (record s { choices = opened }) refl)
      (flow-set (record s { choices = opened }) kept u is c.before g same (with_choices_and_flow opened g) refl)
