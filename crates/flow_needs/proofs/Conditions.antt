-- Conditions that are put together of two, and conditional expressions.
use Rattle.std.proofs.Common.{◌≡◌, ◌∙◌, ◌++◌, ℕ, Bool, true, false, not, List, [], ◌∷◌, length, All, IfSome, Option, None, Some, append_assoc, refl, sym, subst, ap}
use Rattle.std.specs.List.{AllZip}
use Rattle.std.proofs.lemmas.List.Elements.{All-append}
use Rattle.bal_base.specs.declared.place.Place.{Place}
use Rattle.type_model.specs.declared.atoms.AtomDef.{AtomDef}
use Rattle.typed_tree.specs.declared.expr.TypedExpr.{TypedExpr}
use Rattle.typed_tree.specs.SharedTypes.{Shared}
use Rattle.typed_tree.specs.Views.{IsConditional}
use Rattle.flow_narrowing.specs.declared.flow.Flow.{Flow as CheckedFlow}
use Rattle.flow_narrowing.specs.declared.flow.Variable.{Variable}
use Rattle.flow_narrowing.specs.Flows.{AreSame, IsJoin, VariablesBelow}
use Rattle.check_words.specs.Sharing.{SameFlow, SameOption, SameVariable, SameWays}
use Rattle.check_words.specs.Stands.{ChoiceBelow, UnitBelow, WaysBelow}
use Rattle.check_words.specs.State.{ChoiceAtWork, IsLast, State, UnitAtWork, Ways, all_but, ways_or_same}
use Rattle.check_words.specs.Values.{way_of}
use Rattle.check_words.proofs.Standing.{flow-below, last-has}
use Rattle.tree_promises.specs.Flows.{Around}
use Rattle.tree_promises.specs.Known.{Flow, FlowBelow}
use Rattle.tree_promises.specs.Laws.{MadeExprsKeepFlows}
use Rattle.tree_promises.specs.MadeFlows.{KeepsFlow, LeavesFlow, MadeKeepsFlow}
use Rattle.typed_needs.specs.Pieces.{IsBefore}
use Rattle.typed_needs.proofs.Placed.{last-same}
use Rattle.typed_needs.specs.Between.{units_in}
use Rattle.calm_needs.proofs.PlacedParts.{and-units, conditional-units, or-units, units-append, units_of}
use Rattle.flow_needs.specs.Meeting.{MeetsNarrower, WaysAreNarrower}
use Rattle.flow_needs.specs.Narrower.{AreNarrower, IsNarrower}
use Rattle.flow_needs.specs.Runs.{ComesToFlow, IsBaseAt, IsFlowingUnit, LeavesWays}
use Rattle.flow_needs.specs.Slots.{HasOwnSlots, HaveSlots}
use Rattle.flow_needs.proofs.Growing.{base-later, comes-plain, keeps-part, known, known-alike, known-under, units-from}
use Rattle.flow_needs.proofs.Narrowing.{all-ways-are-narrower}
use Rattle.flow_needs.proofs.Own.{all-found, cons-of}
use Rattle.flow_needs.proofs.Quieting.{same-then-flow}
use Rattle.flow_needs.proofs.Reading.{within-more}
use Rattle.flow_needs.proofs.Ways.{BothOf, Chosen, Paired, Reach, Splitted, Switched, reach-end, reach-on, reach-then, set-last, ways_of_both}

-- ---- other handles

back-narrowed : (a b : Option Shared) → AreSame a b → AreSame b a
back-narrowed None None x = tt
back-narrowed (Some a) (Some b) x = sym x
back-narrowed None (Some b) x = absurd x
back-narrowed (Some a) None x = absurd x

back-variables : (vs us : List Variable) → AllZip SameVariable vs us → AllZip SameVariable us vs
back-variables [] [] same = tt
back-variables (v ∷ vs) (u ∷ us) same =
    let s = same.0.variable in (
      record {
        variable = record {
          name = sym s.name;
          slot = sym s.slot;
          declared = sym s.declared;
          fixed = sym s.fixed;
          assigned = sym s.assigned;
          captured = sym s.captured;
        };
        narrowed = back-narrowed v.narrowed u.narrowed same.0.narrowed;
      },
      back-variables vs us same.1,
    )
back-variables [] (u ∷ us) same = absurd same
back-variables (v ∷ vs) [] same = absurd same

pub back-flow : (f g : CheckedFlow) → SameFlow f g → SameFlow g f
back-flow f g same = record { variables = back-variables f.variables g.variables same.variables; reached = sym same.reached }

-- what is so of ways that are there
pub same-as-there : (w : Ways) (o : Option Ways) (f : CheckedFlow) → SameOption SameWays (Some w) o → SameWays w (ways_or_same o f)
same-as-there w (Some x) f same = same
same-as-there w None f same = absurd same

-- its types are there
pub way-there : (n : ℕ) (o : Option Ways) (f : CheckedFlow) (b : Bool) → IfSome o (WaysBelow n) → VariablesBelow n f.variables
    → VariablesBelow n (way_of b (ways_or_same o f)).variables
way-there n (Some w) f true h below = h.yes
way-there n (Some w) f false h below = h.no
way-there n None f true h below = below
way-there n None f false h below = below

met-there : (holds : Bool) (n : ℕ) (held met : CheckedFlow) (o : Option Ways) → SameOption SameWays (Some (ways_of_both holds held met)) o → IfSome o (WaysBelow n)
    → VariablesBelow n met.variables
met-there true n held met (Some x) same h = flow-below n x.no met (back-flow met x.no same.no) h.no
met-there false n held met (Some x) same h = flow-below n x.yes met (back-flow met x.yes same.yes) h.yes
met-there holds n held met None same h = absurd same

-- the functions in both conditions
both-units : (holds : Bool) (a b e : TypedExpr) (t : Shared) (at : Place) → BothOf holds a b t at e → units_of e ≡ units_in (a ∷ b ∷ [])
both-units true a b e t at view = and-units e view
both-units false a b e t at view = or-units e view

-- where units are reached one behind another
reach-through : (u v w x : UnitAtWork) (us vs ws : List UnitAtWork) → Reach u v us vs → Reach w x vs ws → Reach u x us ws
reach-through u v w x us vs ws f g =
    let one : w ≡ v = last-same vs w v (record { kept = g.kept; is = g.is }) (record { kept = f.later; is = f.now }) in
    reach-then u v x us vs ws f (subst (λ (y : UnitAtWork). Reach y x vs ws) one g)

module _ (env : List AtomDef) (around : Around) (live : Bool) where
  abbrev K : CheckedFlow → Flow
  K = known env around live

  narrow : WaysAreNarrower [] env
  narrow = all-ways-are-narrower [] env

  handles : (f g : CheckedFlow) → SameFlow f g → IsNarrower env f g
  handles f g same = (narrow.handles f g same).0

  after : (f g h : CheckedFlow) → IsNarrower env f g → IsNarrower env g h → IsNarrower env f h
  after f g h x y = narrow.then f g h x y

  narrow-way : (f : CheckedFlow) (w : Ways) (b : Bool) → AreNarrower env f w → IsNarrower env f (way_of b w)
  narrow-way f w true h = h.yes
  narrow-way f w false h = h.no

  pub known-same : (f g : CheckedFlow) → SameFlow f g → K g ≡ K f
  known-same f g same = known-alike env around live f g same

  pub known-below : (f g : CheckedFlow) → IsNarrower env f g → FlowBelow env (K g) (K f)
  known-below f g narrower = known-under env around live f g narrower

  pub leaves-same : (base : Option Flow) (e : TypedExpr) (f : Flow) (w x : Ways) → SameWays w x → LeavesFlow env around base e f f (K w.yes) (K w.no)
      → LeavesFlow env around base e f f (K x.yes) (K x.no)
  leaves-same base e f w x same leaves =
      subst (λ n. LeavesFlow env around base e f f (K x.yes) n) (sym (known-same w.no x.no same.no))
      (subst (λ y. LeavesFlow env around base e f f y (K w.no)) (sym (known-same w.yes x.yes same.yes)) leaves)

  pub narrower-same : (f : CheckedFlow) (w x : Ways) → SameWays w x → AreNarrower env f w → AreNarrower env f x
  narrower-same f w x same h =
      record { yes = after f w.yes x.yes h.yes (handles w.yes x.yes same.yes); no = after f w.no x.no h.no (handles w.no x.no same.no) }

  module _ (flows : MadeExprsKeepFlows) where
    -- `a && b` and `a || b`
    made-both : (holds : Bool) (base : Option Flow) (a b e : TypedExpr) (t : Shared) (at : Place) (f : Flow) (wk wn : Ways) (met : CheckedFlow) → BothOf holds a b t at e
        → LeavesFlow env around base a f f (K wk.yes) (K wk.no)
        → LeavesFlow env around base b (K (way_of holds wk)) (K (way_of holds wk)) (K wn.yes) (K wn.no)
        → FlowBelow env (K (way_of holds wk)) f → FlowBelow env (K (way_of (not holds) wk)) f → FlowBelow env (K (way_of (not holds) wn)) (K met)
        → FlowBelow env (K (way_of (not holds) wk)) (K met)
        → (let w = ways_of_both holds (way_of holds wn) met in LeavesFlow env around base e f f (K w.yes) (K w.no))
    made-both true base a b e t at f wk wn met view first second c d x y =
        let made : MadeKeepsFlow env around base = flows env around base in
        made.conjoined a b e t at f f (K wk.yes) (K wk.no) (K wk.yes) (K wn.yes) (K wn.no) f (K met) view first second c d x y
    made-both false base a b e t at f wk wn met view first second c d x y =
        let made : MadeKeepsFlow env around base = flows env around base in
        made.disjoined a b e t at f f (K wk.yes) (K wk.no) (K wk.no) (K wn.yes) (K wn.no) f (K met) view first second c d x y

    narrower-both : (holds : Bool) (f : CheckedFlow) (wn : Ways) (met : CheckedFlow) → IsNarrower env f (way_of holds wn) → IsNarrower env f met
        → AreNarrower env f (ways_of_both holds (way_of holds wn) met)
    narrower-both true f wn met x y = record { yes = x; no = y }
    narrower-both false f wn met x y = record { yes = y; no = x }

    units-two : (a b : TypedExpr) → All (IsFlowingUnit env) (units_in (a ∷ [])) → All (IsFlowingUnit env) (units_in (b ∷ [])) → All (IsFlowingUnit env) (units_in (a ∷ b ∷ []))
    units-two a b h k =
        subst (All (IsFlowingUnit env)) (sym (units-append (a ∷ []) (b ∷ []))) (All-append (IsFlowingUnit env) (units_in (a ∷ [])) (units_in (b ∷ [])) h k)

    two-same : (a b c d : TypedExpr) → a ∷ b ∷ [] ≡ c ∷ d ∷ [] → (a ≡ c) × (b ≡ d)
    two-same a b c d e = let first = cons-of a c (b ∷ []) (d ∷ []) e in (first.0, (cons-of b d [] [] first.1).0)

    -- a way that was entered
    pub record Entered (holds : Bool) (old k m : State) (x : ComesToFlow env around live old k) (s : Splitted holds k m) : Type 0 where
      pub ways : Ways
      pub is : ways ≡ ways_or_same k.ways x.now.flow
      pub reach : Reach x.was s.set.now old.units m.units
      pub flow : SameFlow (way_of holds ways) s.set.now.flow
      pub other : SameFlow (way_of (not holds) ways) s.choice.other
      pub before : SameFlow x.was.flow s.choice.before
      pub narrower : AreNarrower env x.was.flow ways
      pub leaves : LeavesWays env around live x.was x.part ways

    entered : (holds : Bool) (old k m : State) (x : ComesToFlow env around live old k) (s : Splitted holds k m) → Entered holds old k m x s
    entered holds old k m x s =
        let one : s.unit ≡ x.now = last-same k.units s.unit x.now s.at_hand x.behind in
        let all : ways_or_same k.ways s.unit.flow ≡ ways_or_same k.ways x.now.flow = ap (λ (u : UnitAtWork). ways_or_same k.ways u.flow) one in
        let (v, hand, reach, same) = reach-on old k x.was x.on x.before in
        let two : v ≡ s.unit = last-same k.units v s.unit hand s.at_hand in
        record {
          ways = ways_or_same k.ways x.now.flow;
          is = refl;
          reach = reach-through x.was v s.set.was s.set.now old.units k.units m.units reach s.set.reach;
          flow = subst (λ w. SameFlow (way_of holds w) s.set.now.flow) all s.set.flow;
          other = subst (λ w. SameFlow (way_of (not holds) w) s.choice.other) all s.same.other;
          before = same-then-flow x.was.flow v.flow s.choice.before same (subst (λ (u : UnitAtWork). SameFlow u.flow s.choice.before) (sym two) s.same.before);
          narrower = x.narrower;
          leaves = x.leaves;
        }

    -- what stands there may be evaluated, also where a panic lands where less is known
    base-entered : (u v y : UnitAtWork) (base : Option Flow) (us vs : List UnitAtWork) → Reach u v us vs → y ≡ v → IsNarrower env u.flow v.flow → IsBaseAt env around live u base
        → IsBaseAt env around live y base
    base-entered u v y base us vs r one narrower h =
        subst (λ (z : UnitAtWork). IsBaseAt env around live z base) (sym one) (base-later env around live u v base r.slots (known-below u.flow v.flow narrower) h)

    -- the variables keep their slots
    own-narrower : (s : State) (u v : UnitAtWork) (os us : List UnitAtWork) → Reach u v os us → IsLast us v → IsNarrower env u.flow v.flow → HaveSlots (length u.slots) u.flow.variables
        → s.units ≡ us → HasOwnSlots s
    own-narrower s u v os us r last narrower h is =
        let slots : HaveSlots (length u.slots) v.flow.variables = narrow.slots (length u.slots) u.flow v.flow narrower h in
        record {
          unit = v;
          at_hand = subst (λ xs. IsLast xs v) (sym is) last;
          slots = record { apart = slots.apart; within = within-more (length u.slots) (length v.slots) v.flow.variables r.slots slots.within };
        }

    was-own : (old : State) (u : UnitAtWork) → IsLast old.units u → HasOwnSlots old → HaveSlots (length u.slots) u.flow.variables
    was-own old u last own =
        subst (λ (z : UnitAtWork). HaveSlots (length z.slots) z.flow.variables) (last-same old.units own.unit u own.at_hand last) own.slots

    pub own-entered : (holds : Bool) (old k m : State) (x : ComesToFlow env around live old k) (s : Splitted holds k m) → HasOwnSlots old → HasOwnSlots m
    own-entered holds old k m x s own =
        let e = entered holds old k m x s in
        own-narrower m x.was s.set.now old.units m.units e.reach (set-last _ k.units m.units s.set).1
        (after x.was.flow (way_of holds e.ways) s.set.now.flow (narrow-way x.was.flow e.ways holds e.narrower) (handles (way_of holds e.ways) s.set.now.flow e.flow))
        (was-own old x.was x.before own) refl

    pub own-switched : (old k m p q : State) (x : ComesToFlow env around live old k) (s : Splitted true k m) (y : ComesToFlow env around live m p) (w : Switched p q) → p.choices ≡ m.choices → HasOwnSlots old
        → HasOwnSlots q
    own-switched old k m p q x s y w choices own =
        let e = entered true old k m x s in
        let (vp, hand-p, reach-p, same-p) = reach-on m p y.was y.on y.before in
        let opened : w.choice ≡ s.choice = last-same p.choices w.choice s.choice w.last (record { kept = k.choices; is = choices ∙ s.choices }) in
        let reach-2 : Reach x.was vp old.units p.units = reach-through x.was s.set.now y.was vp old.units m.units p.units e.reach reach-p in
        let reach-3 : Reach x.was w.set.now old.units q.units = reach-through x.was vp w.set.was w.set.now old.units p.units q.units reach-2 w.set.reach in
        let other : SameFlow e.ways.no w.set.now.flow =
        same-then-flow e.ways.no s.choice.other w.set.now.flow e.other (subst (λ (d : ChoiceAtWork). SameFlow d.other w.set.now.flow) opened w.set.flow) in
        own-narrower q x.was w.set.now old.units q.units reach-3 (set-last _ p.units q.units w.set).1
        (after x.was.flow e.ways.no w.set.now.flow e.narrower.no (handles e.ways.no w.set.now.flow other)) (was-own old x.was x.before own) refl

    pub comes-both : (holds : Bool) (at : Place) (old k m n new : State) (x : ComesToFlow env around live old k) (s : Splitted holds k m) (y : ComesToFlow env around live m n) (p : Paired holds at n new)
        → n.choices ≡ m.choices → IsBefore env n → IsBefore env new → (r : TypedExpr) → new.found ≡ old.found ++ r ∷ [] → ComesToFlow env around live old new
    comes-both holds at old k m n new x s y p choices before-n after-new r more =
        let e = entered holds old k m x s in
        let (vn, hand-n, reach-n, same-n) = reach-on m n y.was y.on y.before in
        let at-v : y.was ≡ s.set.now = last-same m.units y.was s.set.now y.before (set-last _ k.units m.units s.set).1 in
        let at-n : p.unit ≡ y.now = last-same n.units p.unit y.now p.at_hand y.behind in
        let closed : p.choice ≡ s.choice = last-same n.choices p.choice s.choice p.last (record { kept = k.choices; is = choices ∙ s.choices }) in
        let wn : Ways = ways_or_same n.ways y.now.flow in
        let all-n : ways_or_same n.ways p.unit.flow ≡ wn = ap (λ (u : UnitAtWork). ways_or_same n.ways u.flow) at-n in
        let joined = subst (λ w. IsJoin n.atoms p.choice.other (way_of (not holds) w) p.met) all-n p.joined in
        let reach-all : Reach x.was p.set.now old.units new.units =
        reach-through x.was vn p.set.was p.set.now old.units n.units new.units
        (reach-through x.was s.set.now y.was vn old.units m.units n.units e.reach reach-n) p.set.reach in
        let back : SameFlow x.was.flow p.set.now.flow =
        same-then-flow x.was.flow s.choice.before p.set.now.flow e.before (subst (λ (c : ChoiceAtWork). SameFlow c.before p.set.now.flow) closed p.set.flow) in
        let first : IsNarrower env x.was.flow (way_of holds e.ways) = narrow-way x.was.flow e.ways holds e.narrower in
        let here : IsNarrower env x.was.flow y.was.flow =
        subst (λ (u : UnitAtWork). IsNarrower env x.was.flow u.flow) (sym at-v)
        (after x.was.flow (way_of holds e.ways) s.set.now.flow first (handles (way_of holds e.ways) s.set.now.flow e.flow)) in
        let side : (b : Bool) → IsNarrower env x.was.flow (way_of b wn) = λ b. after x.was.flow y.was.flow (way_of b wn) here (narrow-way y.was.flow wn b y.narrower) in
        let otherwise : IsNarrower env x.was.flow (way_of (not holds) e.ways) = narrow-way x.was.flow e.ways (not holds) e.narrower in
        let same-other : SameFlow (way_of (not holds) e.ways) p.choice.other = subst (λ (c : ChoiceAtWork). SameFlow (way_of (not holds) e.ways) c.other) (sym closed) e.other in
        let other : IsNarrower env x.was.flow p.choice.other = after x.was.flow (way_of (not holds) e.ways) p.choice.other otherwise (handles (way_of (not holds) e.ways) p.choice.other same-other) in
        let count : ℕ = length n.atoms in
        let there-other : VariablesBelow count p.choice.other.variables =
        (last-has (ChoiceBelow count) n.choices p.choice p.last before-n.stands.choices).other in
        let there-now : VariablesBelow count y.now.flow.variables = (last-has (UnitBelow count) n.units y.now y.behind before-n.stands.units).flow in
        let there-side : VariablesBelow count (way_of (not holds) wn).variables = way-there count n.ways y.now.flow (not holds) before-n.stands.ways there-now in
        let w : Ways = ways_of_both holds (way_of holds wn) p.met in
        let put : SameOption SameWays (Some w) new.ways = subst (λ z. SameOption SameWays (Some (ways_of_both holds (way_of holds z) p.met)) new.ways) all-n p.ways in
        let there-met : VariablesBelow count p.met.variables = met-there holds count (way_of holds wn) p.met new.ways put
        (subst (λ (xs : List AtomDef). IfSome new.ways (WaysBelow (length xs))) p.atoms after-new.stands.ways) in
        let meets : MeetsNarrower env x.was.flow p.choice.other (way_of (not holds) wn) p.met =
        (let ways = all-ways-are-narrower n.atoms env in
        ways.meet x.was.flow p.choice.other (way_of (not holds) wn) p.met before-n.keeps there-other there-side there-met other (side (not holds)) joined) in
        let (a, b, is, (t, view)) = p.view in
        let (parts, found) = all-found 2 old n new p.parts p.part r (x.part ∷ y.part ∷ [])
        (y.found ∙ ap (λ xs. xs ++ y.part ∷ []) (s.found ∙ x.found) ∙ append_assoc old.found (x.part ∷ []) (y.part ∷ [])) p.lasts p.found more in
        let (ea, eb) = two-same a b x.part y.part (sym is ∙ parts) in
        let view' : BothOf holds x.part y.part t at p.part = subst (λ z. BothOf holds x.part z t at p.part) eb (subst (λ z. BothOf holds z b t at p.part) ea view) in
        let same : SameWays w (ways_or_same new.ways p.set.now.flow) = same-as-there w new.ways p.set.now.flow put in
        let enters : K y.was.flow ≡ K (way_of holds e.ways) =
        subst (λ (u : UnitAtWork). K u.flow ≡ K (way_of holds e.ways)) (sym at-v) (known-same (way_of holds e.ways) s.set.now.flow e.flow) in
        record {
          part = p.part;
          found = found;
          on = reach-end x.was p.set.now old new reach-all back;
          was = x.was;
          before = x.before;
          now = p.set.now;
          behind = (set-last _ n.units new.units p.set).1;
          leaves = λ base at-base.
              let inner : IsBaseAt env around live y.was base =
              base-entered x.was s.set.now y.was base old.units m.units e.reach at-v (subst (λ (u : UnitAtWork). IsNarrower env x.was.flow u.flow) at-v here) at-base in
              leaves-same base p.part (K x.was.flow) w (ways_or_same new.ways p.set.now.flow) same
              (made-both holds base x.part y.part p.part t at (K x.was.flow) e.ways wn p.met view' (e.leaves base at-base)
              (subst (λ f. LeavesFlow env around base y.part f f (K wn.yes) (K wn.no)) enters (y.leaves base inner))
              (known-below x.was.flow (way_of holds e.ways) first) (known-below x.was.flow (way_of (not holds) e.ways) otherwise)
              (known-below p.met (way_of (not holds) wn) meets.second)
              (subst (λ f. FlowBelow env f (K p.met)) (known-same (way_of (not holds) e.ways) p.choice.other same-other) (known-below p.met p.choice.other meets.first)));
          narrower = narrower-same x.was.flow w (ways_or_same new.ways p.set.now.flow) same (narrower-both holds x.was.flow wn p.met (side holds) meets.narrower);
          units = units-from env around live p.part (x.part ∷ y.part ∷ []) (both-units holds x.part y.part p.part t at view') (units-two x.part y.part x.units y.units);
        }

    -- ---- `c ? a : b`

    three-same : (a b c x y z : TypedExpr) → a ∷ b ∷ c ∷ [] ≡ x ∷ y ∷ z ∷ [] → (a ≡ x) × (b ≡ y) × (c ≡ z)
    three-same a b c x y z e =
        let first = cons-of a x (b ∷ c ∷ []) (y ∷ z ∷ []) e in let second = cons-of b y (c ∷ []) (z ∷ []) first.1 in
        (first.0, second.0, (cons-of c z [] [] second.1).0)

    pub comes-chosen : (at : Place) (old k m p q r new : State) (x : ComesToFlow env around live old k) (s : Splitted true k m) (y : ComesToFlow env around live m p) (w : Switched p q)
        (z : ComesToFlow env around live q r) (c : Chosen at r new) → p.choices ≡ m.choices → r.choices ≡ q.choices → (i : TypedExpr) → new.found ≡ old.found ++ i ∷ []
        → ComesToFlow env around live old new
    comes-chosen at old k m p q r new x s y w z c choices-p choices-r i more =
        let e = entered true old k m x s in
        let (vp, hand-p, reach-p, same-p) = reach-on m p y.was y.on y.before in
        let (vr, hand-r, reach-r, same-r) = reach-on q r z.was z.on z.before in
        let at-v : y.was ≡ s.set.now = last-same m.units y.was s.set.now y.before (set-last _ k.units m.units s.set).1 in
        let at-q : z.was ≡ w.set.now = last-same q.units z.was w.set.now z.before (set-last _ p.units q.units w.set).1 in
        let opened : w.choice ≡ s.choice = last-same p.choices w.choice s.choice w.last (record { kept = k.choices; is = choices-p ∙ s.choices }) in
        let closed : c.choice ≡ w.now = last-same r.choices c.choice w.now c.last (record { kept = all_but 1 p.choices; is = choices-r ∙ w.choices }) in
        let reach-2 : Reach x.was vp old.units p.units = reach-through x.was s.set.now y.was vp old.units m.units p.units e.reach reach-p in
        let reach-3 : Reach x.was w.set.now old.units q.units = reach-through x.was vp w.set.was w.set.now old.units p.units q.units reach-2 w.set.reach in
        let reach-4 : Reach x.was vr old.units r.units = reach-through x.was w.set.now z.was vr old.units q.units r.units reach-3 reach-r in
        let reach-all : Reach x.was c.set.now old.units new.units = reach-through x.was vr c.set.was c.set.now old.units r.units new.units reach-4 c.set.reach in
        let before-2 : SameFlow x.was.flow w.now.before =
        same-then-flow x.was.flow s.choice.before w.now.before e.before (subst (λ (d : ChoiceAtWork). SameFlow d.before w.now.before) opened w.before) in
        let back : SameFlow x.was.flow c.set.now.flow =
        same-then-flow x.was.flow w.now.before c.set.now.flow before-2 (subst (λ (d : ChoiceAtWork). SameFlow d.before c.set.now.flow) closed c.set.flow) in
        let other : SameFlow e.ways.no w.set.now.flow =
        same-then-flow e.ways.no s.choice.other w.set.now.flow e.other (subst (λ (d : ChoiceAtWork). SameFlow d.other w.set.now.flow) opened w.set.flow) in
        let into-first : IsNarrower env x.was.flow s.set.now.flow = after x.was.flow e.ways.yes s.set.now.flow e.narrower.yes (handles e.ways.yes s.set.now.flow e.flow) in
        let into-second : IsNarrower env x.was.flow w.set.now.flow = after x.was.flow e.ways.no w.set.now.flow e.narrower.no (handles e.ways.no w.set.now.flow other) in
        let (d, a, b, is, (t, view)) = c.view in
        let found-q : q.found ≡ old.found ++ x.part ∷ y.part ∷ [] =
        w.found ∙ y.found ∙ ap (λ xs. xs ++ y.part ∷ []) (s.found ∙ x.found) ∙ append_assoc old.found (x.part ∷ []) (y.part ∷ []) in
        let (parts, found) = all-found 3 old r new c.parts c.part i (x.part ∷ y.part ∷ z.part ∷ [])
        (z.found ∙ ap (λ xs. xs ++ z.part ∷ []) found-q ∙ append_assoc old.found (x.part ∷ y.part ∷ []) (z.part ∷ [])) c.lasts c.found more in
        let (ed, ea, eb) = three-same d a b x.part y.part z.part (sym is ∙ parts) in
        let view' : IsConditional x.part y.part z.part t at c.part =
        subst (λ g. IsConditional x.part y.part g t at c.part) eb (subst (λ g. IsConditional x.part g b t at c.part) ea (subst (λ g. IsConditional g a b t at c.part) ed view)) in
        comes-plain env around live old new c.part x.was x.before found (reach-end x.was c.set.now old new reach-all back) c.ways
        (λ base at-base.
        let first : IsBaseAt env around live y.was base = base-entered x.was s.set.now y.was base old.units m.units e.reach at-v into-first at-base in
        let second : IsBaseAt env around live z.was base = base-entered x.was w.set.now z.was base old.units q.units reach-3 at-q into-second at-base in
        let enters : K y.was.flow ≡ K e.ways.yes = subst (λ (u : UnitAtWork). K u.flow ≡ K e.ways.yes) (sym at-v) (known-same e.ways.yes s.set.now.flow e.flow) in
        let passes : K z.was.flow ≡ K e.ways.no = subst (λ (u : UnitAtWork). K u.flow ≡ K e.ways.no) (sym at-q) (known-same e.ways.no w.set.now.flow other) in
        let made : MadeKeepsFlow env around base = flows env around base in
        made.chosen x.part y.part z.part c.part t at (K x.was.flow) (K x.was.flow) (K e.ways.yes) (K e.ways.no) (K x.was.flow) view' (e.leaves base at-base)
        (subst (λ f. KeepsFlow env around base y.part f) enters (keeps-part env around live m p y base first))
        (subst (λ f. KeepsFlow env around base z.part f) passes (keeps-part env around live q r z base second))
        (known-below x.was.flow e.ways.yes e.narrower.yes) (known-below x.was.flow e.ways.no e.narrower.no))
        (units-from env around live c.part (x.part ∷ y.part ∷ z.part ∷ []) (conditional-units c.part view')
        (subst (All (IsFlowingUnit env)) (sym (units-append (x.part ∷ []) (y.part ∷ z.part ∷ [])))
        (All-append (IsFlowingUnit env) (units_in (x.part ∷ [])) (units_in (y.part ∷ z.part ∷ [])) x.units (units-two y.part z.part y.units z.units))))
