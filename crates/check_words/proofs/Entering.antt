-- What stands still stands where a way is entered.
use Rattle.std.proofs.Common.{◌≡◌, ◌++◌, ℕ, Bool, true, false, List, [], ◌∷◌, length, All, Option, Some, None, IfSome, not, sym, subst}
use Rattle.std.proofs.lemmas.List.Elements.{All-take}
use Rattle.flow_narrowing.specs.declared.flow.Flow.{Flow}
use Rattle.flow_narrowing.specs.Flows.{VariableBelow}
use Rattle.check_words.specs.Sharing.{SameChoice, SameFlow}
use Rattle.check_words.specs.Stands.{ChoiceBelow, FlowBelow, Stands, UnitBelow, WaysBelow}
use Rattle.check_words.specs.State.{BlockAtWork, ChoiceAtWork, State, UnitAtWork, Ways, outside, stopped, ways_or_same}
use Rattle.check_words.specs.Values.{way_of}
use Rattle.check_words.proofs.Flowing.{with_choices_and_flow}
use Rattle.check_words.proofs.Standing.{also-has, flow-below, front-have, last-has, stands-beside, stands-choices, stands-units, stands-ways, unit-has, unit-replaced, unit-with-flow}

module _ (n : ℕ) where
  pub ways-below : (w : Option Ways) (f : Flow) → IfSome w (WaysBelow n) → FlowBelow n f → WaysBelow n (ways_or_same w f)
  ways-below None f h k = record { yes = k; no = k }
  ways-below (Some w) f h k = h

  pub way-below : (way : Bool) (w : Ways) → WaysBelow n w → FlowBelow n (way_of way w)
  way-below true w h = h.yes
  way-below false w h = h.no

  pub choice-below : (c d : ChoiceAtWork) → SameChoice c d → ChoiceBelow n c → ChoiceBelow n d
  choice-below c d same h =
      record {
        before = flow-below n c.before d.before same.before h.before;
        other = flow-below n c.other d.other same.other h.other;
        first = flow-below n c.first d.first same.first h.first;
      }

module _ (s : State) (h : Stands s) (kept : List UnitAtWork) (u : UnitAtWork) (is : s.units ≡ kept ++ u ∷ []) where
  pub unit-stands : UnitBelow (length s.atoms) u
  unit-stands = unit-has (length s.atoms) s.units kept u is h.units

  pub entered-stands : (cs : List ChoiceAtWork) (g : Flow) → All (ChoiceBelow (length s.atoms)) cs → FlowBelow (length s.atoms) g
      → Stands (with_choices_and_flow s kept u is cs g)
  entered-stands cs g choices flow =
      stands-units (record s { choices = cs; ways = None }) (stands-choices (record s { ways = None }) (stands-ways s h None tt) cs choices)
      (kept ++ record u { flow = g } ∷ [])
      (unit-replaced (length s.atoms) s.units kept u (record u { flow = g }) is h.units (unit-with-flow (length s.atoms) u g unit-stands flow))

  pub splits-stand : (way : Bool) (c : ChoiceAtWork) (g : Flow) (cs : List ChoiceAtWork)
      → SameChoice (record { before = u.flow; other = way_of (not way) (ways_or_same s.ways u.flow); first = u.flow }) c
      → SameFlow (way_of way (ways_or_same s.ways u.flow)) g → cs ≡ s.choices ++ c ∷ []
      → Stands (with_choices_and_flow s kept u is cs g)
  splits-stand way c g cs choice same more =
      let n : ℕ = length s.atoms in
      let ways = ways-below n s.ways u.flow h.ways unit-stands.flow in
      entered-stands cs g
      (subst (All (ChoiceBelow n)) (sym more)
      (also-has (ChoiceBelow n) s.choices c h.choices
      (choice-below n _ c choice (record { before = unit-stands.flow; other = way-below n (not way) _ ways; first = unit-stands.flow }))))
      (flow-below n _ g same (way-below n way _ ways))

  pub switches-stand : (opened : List ChoiceAtWork) (c d : ChoiceAtWork) (g : Flow) (cs : List ChoiceAtWork) → s.choices ≡ opened ++ c ∷ []
      → SameChoice (record c { first = u.flow }) d → SameFlow c.other g → cs ≡ opened ++ d ∷ []
      → Stands (with_choices_and_flow s kept u is cs g)
  switches-stand opened c d g cs are choice same more =
      let n : ℕ = length s.atoms in
      let all = subst (All (ChoiceBelow n)) are h.choices in
      let last = last-has (ChoiceBelow n) s.choices c (record { kept = opened; is = are }) h.choices in
      entered-stands cs g
      (subst (All (ChoiceBelow n)) (sym more)
      (also-has (ChoiceBelow n) opened d (front-have (ChoiceBelow n) opened (c ∷ []) all)
      (choice-below n _ d choice (record { before = last.before; other = last.other; first = unit-stands.flow }))))
      (flow-below n c.other g same last.other)

  -- where this is known, and the blocks are these
  pub known-stands : (bs : List BlockAtWork) (g : Flow) → FlowBelow (length s.atoms) g
      → Stands (record s { blocks = bs; units = kept ++ record u { flow = g } ∷ []; ways = None })
  known-stands bs g flow =
      stands-units (record s { blocks = bs; ways = None }) (stands-beside (record s { ways = None }) (stands-ways s h None tt) s.sorts s.accesses bs s.done)
      (kept ++ record u { flow = g } ∷ [])
      (unit-replaced (length s.atoms) s.units kept u (record u { flow = g }) is h.units (unit-with-flow (length s.atoms) u g unit-stands flow))

  pub stopped-stands : (bs : List BlockAtWork) (g : Flow) → g ≡ stopped u.flow → Stands (record s { blocks = bs; units = kept ++ record u { flow = g } ∷ []; ways = None })
  stopped-stands bs g e = known-stands bs g (subst (FlowBelow (length s.atoms)) (sym e) unit-stands.flow)

  pub outside-stands : (scope : ℕ) (g : Flow) → g ≡ outside scope u.flow → Stands (record s { units = kept ++ record u { flow = g } ∷ []; ways = None })
  outside-stands scope g e =
      known-stands s.blocks g (subst (FlowBelow (length s.atoms)) (sym e) (All-take (VariableBelow (length s.atoms)) scope u.flow.variables unit-stands.flow))

  pub loop-stands : (c : ChoiceAtWork) (cs : List ChoiceAtWork) → SameChoice (record { before = u.flow; other = u.flow; first = u.flow }) c → cs ≡ s.choices ++ c ∷ []
      → Stands (record s { choices = cs })
  loop-stands c cs same more =
      let n : ℕ = length s.atoms in
      stands-choices s h cs
      (subst (All (ChoiceBelow n)) (sym more)
      (also-has (ChoiceBelow n) s.choices c h.choices
      (choice-below n _ c same (record { before = unit-stands.flow; other = unit-stands.flow; first = unit-stands.flow }))))

  pub forgets-stand : (opened : List ChoiceAtWork) (c : ChoiceAtWork) (g : Flow) → s.choices ≡ opened ++ c ∷ [] → SameFlow c.before g
      → Stands (with_choices_and_flow s kept u is opened g)
  forgets-stand opened c g are same =
      let n : ℕ = length s.atoms in
      entered-stands opened g (front-have (ChoiceBelow n) opened (c ∷ []) (subst (All (ChoiceBelow n)) are h.choices))
      (flow-below n c.before g same (last-has (ChoiceBelow n) s.choices c (record { kept = opened; is = are }) h.choices).before)
