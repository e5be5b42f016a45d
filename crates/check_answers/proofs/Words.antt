-- The words of needs: two runs of each, from states that correspond.
use Rattle.std.proofs.Common.{◌≡◌, ◌++◌, ℕ, List, [], ◌∷◌, length, Option, None, Some, sym, subst, ap, ◌∙◌}
use Rattle.std.specs.List.{AllZip}
use Rattle.flow_narrowing.specs.declared.flow.Flow.{Flow}
use Rattle.flow_narrowing.specs.Flows.{AreSame}
use Rattle.type_model.specs.declared.basic.Ty.{Ty}
use Rattle.typed_tree.specs.declared.expr.TypedExpr.{TypedExpr}
use Rattle.typed_tree.specs.SharedTypes.{Shared}
use Rattle.check_words.specs.Sharing.{SameChoice, SameOption, SameUnit, SameWays}
use Rattle.check_words.specs.State.{CallAtWork, ChoiceAtWork, ConstructorAtWork, State, UnitAtWork, Ways, all_but, ways_or_same}
use Rattle.check_words.specs.Words.{Atoms, becomes, changes_flow, closes_call, closes_choice, closes_constructor, flow_now, last_call, last_choice, last_constructor, last_part, last_parts, last_two, last_want, last_wants, makes, new_slot, opens_call, opens_choice, opens_constructor, sets_call, sets_constructor, sets_flow, sets_unit, sets_ways, takes, unit_now, wanted, wants as wanting, wants_no_more, wants_some, ways_now}
use Rattle.check_answers.specs.TwinStates.{CallTwins, ChoiceTwins, ConstructorTwins, FlowTwins, PartTwins, SharedTwins, StateTwins, UnitTwins, WaysTwins}
use Rattle.check_answers.proofs.Handed.{choice-handed, option-copies, unit-handed, want-handed, ways-handed}
use Rattle.check_answers.proofs.Leading.{Any2, Leads, Pairs, leads-becomes, leads-does, leads-gives, leads-handles, leads-over, leads-some, leads-then}
use Rattle.check_answers.proofs.Mapping.{state-map}
use Rattle.check_answers.proofs.Setting.{with-calls, with-choices, with-constructors, with-found, with-units, with-wants, with-ways}
use Rattle.check_answers.proofs.Zips.{zip-but, zip-last, zip-lasts, zip-long, zip-one, zip-other}

-- over these atoms
pub record At (m n : Atoms) (D R : Ty → Ty → Type 0) (s t : State) : Type 0 where
  pub first : s.atoms ≡ m
  pub second : t.atoms ≡ n
  pub states : StateTwins D R s t

pub at-atoms : (m n : Atoms) (D R : Ty → Ty → Type 0) (s t : State) → At m n D R s t → (s.atoms ≡ m) × (t.atoms ≡ n)
at-atoms m n D R s t p = (p.first, p.second)

module _ (m n : Atoms) (D R : Ty → Ty → Type 0) where
  abbrev F : Pairs
  F = At m n D R

  -- ---- what is there

  pub part-leads : Leads F F (PartTwins D R) last_part last_part
  part-leads = leads-some F (PartTwins D R) _ _ (λ s t a b p x y. zip-last (PartTwins D R) s.found t.found a b p.states.found x y)

  abbrev pub PairTwins : TypedExpr × TypedExpr → TypedExpr × TypedExpr → Type 0
  PairTwins p q = PartTwins D R p.0 q.0 × PartTwins D R p.1 q.1

  two-of : (a b c d : TypedExpr) → AllZip (PartTwins D R) (a ∷ b ∷ []) (c ∷ d ∷ []) → PartTwins D R a c × PartTwins D R b d
  two-of a b c d h = (h.0, h.1.0)

  pub two-leads : Leads F F PairTwins last_two last_two
  two-leads =
      leads-some F PairTwins _ _ (λ s t a b p x y. two-of a.0 a.1 b.0 b.1 (zip-lasts (PartTwins D R) 2 s.found t.found _ _ p.states.found x y))

  pub parts-leads : (count : ℕ) → Leads F F (AllZip (PartTwins D R)) (last_parts count) (last_parts count)
  parts-leads count = leads-some F _ _ _ (λ s t a b p x y. zip-lasts (PartTwins D R) count s.found t.found a b p.states.found x y)

  pub want-leads : Leads F F (SameOption (SharedTwins D R)) last_want last_want
  want-leads = leads-some F _ _ _ (λ s t a b p x y. zip-last (SameOption (SharedTwins D R)) s.wants t.wants a b p.states.wants x y)

  pub wanted-leads : Leads F F (SharedTwins D R) wanted wanted
  wanted-leads = leads-some F _ _ _ (λ s t a b p x y. zip-last (SameOption (SharedTwins D R)) s.wants t.wants (Some a) (Some b) p.states.wants x y)

  pub last-wants-leads : (count : ℕ) → Leads F F (AllZip (SameOption (SharedTwins D R))) (last_wants count) (last_wants count)
  last-wants-leads count = leads-some F _ _ _ (λ s t a b p x y. zip-lasts (SameOption (SharedTwins D R)) count s.wants t.wants a b p.states.wants x y)

  pub unit-leads : Leads F F (UnitTwins D R) unit_now unit_now
  unit-leads = leads-some F _ _ _ (λ s t a b p x y. zip-last (UnitTwins D R) s.units t.units a b p.states.units x y)

  pub flow-leads : Leads F F (FlowTwins D R) flow_now flow_now
  flow-leads = leads-then F F F _ _ _ _ _ _ unit-leads (λ u v h. leads-gives F _ u.flow v.flow h.flow)

  pub ways-same : (w x : Option Ways) (f g : Flow) → SameOption (WaysTwins D R) w x → FlowTwins D R f g → WaysTwins D R (ways_or_same w f) (ways_or_same x g)
  ways-same None None f g h k = record { yes = k; no = k }
  ways-same (Some w) (Some x) f g h k = h
  ways-same None (Some x) f g h k = absurd h
  ways-same (Some w) None f g h k = absurd h

  equal-ways : (w x y z : Ways) → y ≡ w → z ≡ x → WaysTwins D R w x → WaysTwins D R y z
  equal-ways w x y z e f h = subst (λ k. WaysTwins D R k z) (sym e) (subst (WaysTwins D R w) (sym f) h)

  pub ways-leads : Leads F F (WaysTwins D R) ways_now ways_now
  ways-leads =
      leads-then F F F _ _ _ _ _ _ flow-leads
      (λ f g h. leads-some F _ _ _ (λ s t a b p x y. equal-ways _ _ a b x y (ways-same s.ways t.ways f g p.states.ways h)))

  pub choice-leads : Leads F F (ChoiceTwins D R) last_choice last_choice
  choice-leads = leads-some F _ _ _ (λ s t a b p x y. zip-last (ChoiceTwins D R) s.choices t.choices a b p.states.choices x y)

  pub constructor-leads : Leads F F (ConstructorTwins D R) last_constructor last_constructor
  constructor-leads = leads-some F _ _ _ (λ s t a b p x y. zip-last (ConstructorTwins D R) s.constructors t.constructors a b p.states.constructors x y)

  pub call-leads : Leads F F (CallTwins D R) last_call last_call
  call-leads = leads-some F _ _ _ (λ s t a b p x y. zip-last (CallTwins D R) s.calls t.calls a b p.states.calls x y)

  -- ---- what is wanted

  pub wants-leads : (w x : Option Shared) → SameOption (SharedTwins D R) w x → Leads F F Any2 (wanting w) (wanting x)
  wants-leads w x h =
      leads-then F F F (SameOption (SharedTwins D R)) _ _ _ _ _
      (leads-handles F _ AreSame AreSame w x (λ a b p q. want-handed D R w x a b h p q))
      (λ a b k. leads-becomes F F _ _ (λ s t p. record {
        first = p.first;
        second = p.second;
        states = with-wants D R s t p.states _ _ (zip-one _ s.wants t.wants a b p.states.wants k);
      }))

  pub wants-some-leads : (P Q : Atoms → Ty → Type 0) → ((s t : Ty) → P m s → Q n t → R s t) → Leads F F Any2 (wants_some P) (wants_some Q)
  wants-some-leads P Q f =
      leads-then F F F (SharedTwins D R) _ _ _ _ _
      (leads-over m n F _ _ _ (at-atoms m n D R) (λ t u x y. f t.value u.value x y))
      (λ t u h. wants-leads (Some t) (Some u) h)

  pub no-more-leads : (count : ℕ) → Leads F F Any2 (wants_no_more count) (wants_no_more count)
  no-more-leads count =
      leads-becomes F F _ _ (λ s t p. record {
        first = p.first;
        second = p.second;
        states = with-wants D R s t p.states _ _ (zip-but _ count s.wants t.wants p.states.wants);
      })

  -- ---- the unit at hand

  pub sets-unit-leads : (u v : UnitAtWork) → UnitTwins D R u v → Leads F F Any2 (sets_unit u) (sets_unit v)
  sets-unit-leads u v h =
      leads-then F F F (UnitTwins D R) _ _ _ _ _
      (leads-handles F _ SameUnit SameUnit u v (λ a b p q. unit-handed D R u v a b h p q))
      (λ a b k. leads-becomes F F _ _ (λ s t p. record {
        first = p.first;
        second = p.second;
        states = with-units D R s t p.states _ _ (zip-other _ s.units t.units a b p.states.units k);
      }))

  with-flow : (u v : UnitAtWork) (f g : Flow) → UnitTwins D R u v → FlowTwins D R f g → UnitTwins D R (record u { flow = f }) (record v { flow = g })
  with-flow u v f g h k =
      record {
        number = h.number;
        worker = h.worker;
        slots = h.slots;
        params = h.params;
        rest = h.rest;
        rest_member = h.rest_member;
        result = h.result;
        arrow = h.arrow;
        future = h.future;
        captured = h.captured;
        flow = k;
      }

  with-slot : (u v : UnitAtWork) (t w : Shared) → UnitTwins D R u v → SharedTwins D R t w
      → UnitTwins D R (record u { slots = u.slots ++ t ∷ [] }) (record v { slots = v.slots ++ w ∷ [] })
  with-slot u v t w h k =
      record {
        number = h.number;
        worker = h.worker;
        slots = zip-one _ u.slots v.slots t w h.slots k;
        params = h.params;
        rest = h.rest;
        rest_member = h.rest_member;
        result = h.result;
        arrow = h.arrow;
        future = h.future;
        captured = h.captured;
        flow = h.flow;
      }

  no-ways-leads : Leads F F Any2 (becomes (λ s. record s { ways = None })) (becomes (λ s. record s { ways = None }))
  no-ways-leads =
      leads-becomes F F _ _ (λ s t p. record { first = p.first; second = p.second; states = with-ways D R s t p.states None None tt })

  pub sets-flow-leads : (f g : Flow) → FlowTwins D R f g → Leads F F Any2 (sets_flow f) (sets_flow g)
  sets-flow-leads f g h =
      leads-then F F F Any2 Any2 _ _ _ _
      (leads-then F F F _ _ _ _ _ _ unit-leads (λ u v k. sets-unit-leads _ _ (with-flow u v f g k h)))
      (λ x y e. no-ways-leads)

  pub changes-flow-leads : (change other : Flow → Flow) → ((f g : Flow) → FlowTwins D R f g → FlowTwins D R (change f) (other g))
      → Leads F F Any2 (changes_flow change) (changes_flow other)
  changes-flow-leads change other f = leads-then F F F _ _ _ _ _ _ flow-leads (λ a b h. sets-flow-leads (change a) (other b) (f a b h))

  -- the number of the slot is the same
  pub new-slot-leads : (t w : Shared) → SharedTwins D R t w → Leads F F (λ a b. b ≡ a) (new_slot t) (new_slot w)
  new-slot-leads t w h =
      leads-then F F F _ _ _ _ _ _ unit-leads
      (λ u v k. leads-then F F F Any2 _ _ _ _ _ (sets-unit-leads _ _ (with-slot u v t w k h))
      (λ x y e. leads-gives F _ (length u.slots) (length v.slots) (sym (zip-long _ u.slots v.slots k.slots))))

  pub sets-ways-leads : (w x : Option Ways) → SameOption (WaysTwins D R) w x → Leads F F Any2 (sets_ways w) (sets_ways x)
  sets-ways-leads w x h =
      leads-then F F F (SameOption (WaysTwins D R)) _ _ _ _ _
      (leads-handles F _ (SameOption SameWays) (SameOption SameWays) w x (λ a b p q. option-copies _ _ (ways-handed D R) w x a b h p q))
      (λ a b k. leads-becomes F F _ _ (λ s t p. record { first = p.first; second = p.second; states = with-ways D R s t p.states a b k }))

  -- ---- what is open

  pub opens-choice-leads : (c d : ChoiceAtWork) → ChoiceTwins D R c d → Leads F F Any2 (opens_choice c) (opens_choice d)
  opens-choice-leads c d h =
      leads-then F F F (ChoiceTwins D R) _ _ _ _ _
      (leads-handles F _ SameChoice SameChoice c d (λ a b p q. choice-handed D R c d a b h p q))
      (λ a b k. leads-becomes F F _ _ (λ s t p. record {
        first = p.first;
        second = p.second;
        states = with-choices D R s t p.states _ _ (zip-one _ s.choices t.choices a b p.states.choices k);
      }))

  pub closes-choice-leads : Leads F F (ChoiceTwins D R) closes_choice closes_choice
  closes-choice-leads =
      leads-then F F F _ _ _ _ _ _ choice-leads
      (λ c d h. leads-then F F F Any2 _ _ _ _ _
      (leads-becomes F F _ _ (λ s t p. record {
        first = p.first;
        second = p.second;
        states = with-choices D R s t p.states _ _ (zip-but _ 1 s.choices t.choices p.states.choices);
      }))
      (λ x y e. leads-gives F _ c d h))

  pub opens-constructor-leads : (c d : ConstructorAtWork) → ConstructorTwins D R c d → Leads F F Any2 (opens_constructor c) (opens_constructor d)
  opens-constructor-leads c d h =
      leads-becomes F F _ _ (λ s t p. record {
        first = p.first;
        second = p.second;
        states = with-constructors D R s t p.states _ _ (zip-one _ s.constructors t.constructors c d p.states.constructors h);
      })

  pub sets-constructor-leads : (c d : ConstructorAtWork) → ConstructorTwins D R c d → Leads F F Any2 (sets_constructor c) (sets_constructor d)
  sets-constructor-leads c d h =
      leads-becomes F F _ _ (λ s t p. record {
        first = p.first;
        second = p.second;
        states = with-constructors D R s t p.states _ _ (zip-other _ s.constructors t.constructors c d p.states.constructors h);
      })

  pub closes-constructor-leads : Leads F F (ConstructorTwins D R) closes_constructor closes_constructor
  closes-constructor-leads =
      leads-then F F F _ _ _ _ _ _ constructor-leads
      (λ c d h. leads-then F F F Any2 _ _ _ _ _
      (leads-becomes F F _ _ (λ s t p. record {
        first = p.first;
        second = p.second;
        states = with-constructors D R s t p.states _ _ (zip-but _ 1 s.constructors t.constructors p.states.constructors);
      }))
      (λ x y e. leads-gives F _ c d h))

  pub opens-call-leads : (c d : CallAtWork) → CallTwins D R c d → Leads F F Any2 (opens_call c) (opens_call d)
  opens-call-leads c d h =
      leads-becomes F F _ _ (λ s t p. record {
        first = p.first;
        second = p.second;
        states = with-calls D R s t p.states _ _ (zip-one _ s.calls t.calls c d p.states.calls h);
      })

  pub sets-call-leads : (c d : CallAtWork) → CallTwins D R c d → Leads F F Any2 (sets_call c) (sets_call d)
  sets-call-leads c d h =
      leads-becomes F F _ _ (λ s t p. record {
        first = p.first;
        second = p.second;
        states = with-calls D R s t p.states _ _ (zip-other _ s.calls t.calls c d p.states.calls h);
      })

  pub closes-call-leads : Leads F F (CallTwins D R) closes_call closes_call
  closes-call-leads =
      leads-then F F F _ _ _ _ _ _ call-leads
      (λ c d h. leads-then F F F Any2 _ _ _ _ _
      (leads-becomes F F _ _ (λ s t p. record {
        first = p.first;
        second = p.second;
        states = with-calls D R s t p.states _ _ (zip-but _ 1 s.calls t.calls p.states.calls);
      }))
      (λ x y e. leads-gives F _ c d h))

  -- ---- parts

  pub takes-leads : (count : ℕ) → Leads F F (AllZip (PartTwins D R)) (takes count) (takes count)
  takes-leads count =
      leads-then F F F _ _ _ _ _ _ (parts-leads count)
      (λ es fs h. leads-then F F F Any2 _ _ _ _ _
      (leads-becomes F F _ _ (λ s t p. record {
        first = p.first;
        second = p.second;
        states = with-found D R s t p.states _ _ None None (zip-but _ count s.found t.found p.states.found) tt;
      }))
      (λ x y e. leads-gives F _ es fs h))

  -- the part that is made may correspond in a wider way than those that are there
  module _ (Q : Ty → Ty → Type 0) (wider : (s t : Ty) → R s t → Q s t) where
    made-at : (count : ℕ) (s t new other : State) (e f : TypedExpr) → At m n D R s t → PartTwins D Q e f
        → new ≡ record s { found = all_but count s.found ++ e ∷ []; ways = None } → other ≡ record t { found = all_but count t.found ++ f ∷ []; ways = None }
        → At m n D Q new other
    made-at count s t new other e f p h x y =
        let q = state-map D R D Q (λ a b k. k) wider s t p.states in
        record {
          first = ap (λ (k : State). k.atoms) x ∙ p.first;
          second = ap (λ (k : State). k.atoms) y ∙ p.second;
          states = subst (λ k. StateTwins D Q k other) (sym x) (subst (StateTwins D Q _) (sym y)
              (with-found D Q s t q _ _ None None (zip-one _ _ _ e f (zip-but _ count s.found t.found q.found) h) tt));
        }

    pub makes-leads : (count : ℕ) (P S : Atoms → List TypedExpr → TypedExpr → Type 0)
        → ((es fs : List TypedExpr) (e f : TypedExpr) → AllZip (PartTwins D R) es fs → P m es e → S n fs f → PartTwins D Q e f)
        → Leads F (At m n D Q) Any2 (makes count P) (makes count S)
    makes-leads count P S k =
        leads-does F (At m n D Q) _ _ (λ s t new other p x y.
        made-at count s t new other x.2 y.2 p
        (k x.0 y.0 x.2 y.2 (zip-lasts (PartTwins D R) count s.found t.found x.0 y.0 p.states.found x.1 y.1)
        (subst (λ i. P i x.0 x.2) p.first x.3) (subst (λ i. S i y.0 y.2) p.second y.3))
        x.4 y.4)
