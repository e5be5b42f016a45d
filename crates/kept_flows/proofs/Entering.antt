-- Ways that are entered and left: what is known where they meet the rest.
use Rattle.std.proofs.Common.{Bool, ℕ, IfSome, List, None, Some, [], ap, arith, false, length, length-append, not, subst, sym, true, ◌++◌, ◌∙◌, ◌∷◌, ◌≡◌, ◌≤◌}
use Rattle.bal_base.specs.declared.place.Place.{Place}
use Rattle.calm_needs.proofs.Flows.{join-of, of-handles, ways-of}
use Rattle.calm_needs.proofs.Ways.{choice-opened, ways-seen}
use Rattle.calm_needs.specs.Calm.{HandSees, IsFlowOf, TellsOf}
use Rattle.check_words.specs.Joins.{joins_two}
use Rattle.check_words.specs.Sharing.{SameChoice, SameFlow}
use Rattle.check_words.specs.State.{ChoiceAtWork, IsLast, State, UnitAtWork, Ways, all_but, replaced}
use Rattle.check_words.specs.Values.{chooses, conjoins, disjoins, splits, switches, way_of}
use Rattle.check_words.specs.Words.{Atoms, by_handles, makes, sets_ways}
use Rattle.needs.specs.Needs.{does}
use Rattle.checks.specs.Checks.{Gives, gives_some, ◌▷◌}
use Rattle.flow_narrowing.specs.declared.flow.Flow.{Flow}
use Rattle.flow_narrowing.specs.declared.flow.Variable.{Variable}
use Rattle.kept_flows.proofs.Hands.{Others, hand-is, replaced-others}
use Rattle.typed_needs.proofs.Placed.{last-same}
use Rattle.typed_stmts.proofs.Words.{UnitSet, choice-closed, flow-seen, flow-set, last-replaced, with_flows}
use Rattle.typed_tree.specs.declared.expr.TypedExpr.{TypedExpr}

-- the flow before a choice, that of the way that isn't entered, and where the first way has come to are of these variables
pub record ChoiceOf (vs : List Variable) (c : ChoiceAtWork) : Type 0 where
  pub before : IsFlowOf vs c.before
  pub other : IsFlowOf vs c.other
  pub first : IsFlowOf vs c.first

choice-by-handles : (vs : List Variable) (c d : ChoiceAtWork) → SameChoice c d → ChoiceOf vs c → ChoiceOf vs d
choice-by-handles vs c d same h =
    record {
      before = of-handles vs c.before d.before same.before h.before;
      other = of-handles vs c.other d.other same.other h.other;
      first = of-handles vs c.first d.first same.first h.first;
    }

-- the flow at hand is set
pub record Sets (old new : State) (f : Flow) : Type 0 where
  pub now : UnitAtWork
  pub last : IsLast new.units now
  pub others : Others old.units new.units
  pub same : SameFlow f now.flow

set-so : (f : Flow) (old new : State) → UnitSet old new (λ w. record w { flow = f }) with_flows → Sets old new f
set-so f old new s =
    let units : new.units ≡ replaced old.units s.now = ap (λ (x : State). x.units) s.all in
    record {
      now = s.now;
      last = subst (λ us. IsLast us s.now) (sym units) (last-replaced old.units s.now);
      others = subst (λ us. Others old.units us) (sym units) (replaced-others old.units s.now);
      same = s.same.flow;
    }

sets-from : (f : Flow) (old mid new : State) → mid.units ≡ old.units → Sets mid new f → Sets old new f
sets-from f old mid new units s = record { now = s.now; last = s.last; others = subst (λ us. Others us new.units) units s.others; same = s.same }

pub set-sees : (vs : List Variable) (f : Flow) (old new : State) → Sets old new f → IsFlowOf vs f → HandSees vs new
set-sees vs f old new s of = hand-is vs new s.now s.last (of-handles vs f s.now.flow s.same of)

way-of : (vs : List Variable) (way : Bool) (w : Ways) → IsFlowOf vs w.yes × IsFlowOf vs w.no → IsFlowOf vs (way_of way w)
way-of vs true w h = h.0
way-of vs false w h = h.1

pub some-last : (us : List UnitAtWork) (u : UnitAtWork) → IsLast us u → 1 ≤ length us
some-last us u last = (let e = ap length last.is in let l = length-append last.kept (u ∷ []) in omega (arith, e, l))

-- ---- one way is entered

pub record Splits (old new : State) : Type 0 where
  pub choice : ChoiceAtWork
  pub choices : new.choices ≡ old.choices ++ choice ∷ []
  pub hand : UnitAtWork
  pub at_hand : IsLast old.units hand
  pub before : SameFlow hand.flow choice.before
  pub others : Others old.units new.units
  pub of : (vs : List Variable) → HandSees vs old → TellsOf vs old → ChoiceOf vs choice × HandSees vs new
  pub matches : new.matches ≡ old.matches
  pub unit : 1 ≤ length new.units

pub split : (way : Bool) (old new : State) → splits way old (Gives tt) new → Splits old new
unfolding ◌▷◌
split way old new (f, a, x1, (w, b, x2, (u, c, x3, x4))) =
    let (unit, hand, is, e1) = flow-seen f old a x1 in
    let e2 : b ≡ a = ways-seen w a b x2 in
    let opened : ChoiceAtWork = record { before = f; other = way_of (not way) w; first = f } in
    let (d, same, e3) = choice-opened opened u b c x3 in
    let s = flow-set (way_of way w) tt c new x4 in
    let to-c : c ≡ record old { choices = old.choices ++ d ∷ [] } = e3 ∙ ap (λ (x : State). record x { choices = x.choices ++ d ∷ [] }) (e2 ∙ e1) in
    let set : Sets old new (way_of way w) = sets-from (way_of way w) old c new (ap (λ (x : State). x.units) to-c) (set-so (way_of way w) c new s) in
    record {
      choice = d;
      choices = ap (λ (x : State). x.choices) s.all ∙ ap (λ (x : State). x.choices) to-c;
      hand = unit;
      at_hand = hand;
      before = subst (λ (g : Flow). SameFlow g d.before) is same.before;
      others = set.others;
      of = λ vs sees tells.
          let known = ways-of vs w a b x2 (subst (λ (x : State). HandSees vs x) (sym e1) sees) (subst (λ (x : State). TellsOf vs x) (sym e1) tells) in
          let here : IsFlowOf vs f = subst (IsFlowOf vs) (sym is) (sees unit hand) in (
            choice-by-handles vs opened d same (record { before = here; other = way-of vs (not way) w known; first = here }),
            set-sees vs (way_of way w) old new set (way-of vs way w known),
          );
      matches = ap (λ (x : State). x.matches) s.all ∙ ap (λ (x : State). x.matches) to-c;
      unit = some-last new.units set.now set.last;
    }

-- ---- the other way is entered

pub record Switched (c : ChoiceAtWork) (old new : State) : Type 0 where
  pub choice : ChoiceAtWork
  pub choices : new.choices ≡ all_but 1 old.choices ++ choice ∷ []
  pub before : SameFlow c.before choice.before
  pub others : Others old.units new.units
  pub of : (vs : List Variable) → HandSees vs old → ChoiceOf vs c → ChoiceOf vs choice × HandSees vs new
  pub matches : new.matches ≡ old.matches
  pub unit : 1 ≤ length new.units

pub switch : (c : ChoiceAtWork) (old new : State) → IsLast old.choices c → switches old (Gives tt) new → Switched c old new
unfolding ◌▷◌
switch c old new last (f, a, x1, (d, b, x2, (u, m, x3, x4))) =
    let (unit, hand, is, e1) = flow-seen f old a x1 in
    let (l, e2) = choice-closed d a b x2 in
    let one : d ≡ c = last-same old.choices d c (subst (λ (x : State). IsLast x.choices d) e1 l) last in
    let opened : ChoiceAtWork = record d { first = f } in
    let (e, same, e3) = choice-opened opened u b m x3 in
    let s = flow-set d.other tt m new x4 in
    let to-m : m ≡ record old { choices = all_but 1 old.choices ++ e ∷ [] } =
    e3 ∙ ap (λ (x : State). record x { choices = x.choices ++ e ∷ [] }) (e2 ∙ ap (λ (x : State). record x { choices = all_but 1 x.choices }) e1) in
    let set : Sets old new d.other = sets-from d.other old m new (ap (λ (x : State). x.units) to-m) (set-so d.other m new s) in
    record {
      choice = e;
      choices = ap (λ (x : State). x.choices) s.all ∙ ap (λ (x : State). x.choices) to-m;
      before = subst (λ (x : ChoiceAtWork). SameFlow x.before e.before) one same.before;
      others = set.others;
      of = λ vs sees h.
          let k : ChoiceOf vs d = subst (ChoiceOf vs) (sym one) h in
          let here : IsFlowOf vs f = subst (IsFlowOf vs) (sym is) (sees unit hand) in
          (choice-by-handles vs opened e same (record { before = k.before; other = k.other; first = here }), set-sees vs d.other old new set k.other);
      matches = ap (λ (x : State). x.matches) s.all ∙ ap (λ (x : State). x.matches) to-m;
      unit = some-last new.units set.now set.last;
    }

-- ---- behind both ways the flow is the one before them

pub record Leaves (c : ChoiceAtWork) (old new : State) : Type 0 where
  pub choices : new.choices ≡ all_but 1 old.choices
  pub now : UnitAtWork
  pub last : IsLast new.units now
  pub others : Others old.units new.units
  pub flow : SameFlow c.before now.flow
  pub tells : (vs : List Variable) → HandSees vs old → TellsOf vs old → ChoiceOf vs c → TellsOf vs new

made-so : (count : ℕ) (P : Atoms → List TypedExpr → TypedExpr → Type 0) (u : Unit {0}) (old new : State) → makes count P old (Gives u) new
    → (new.units ≡ old.units) × (new.choices ≡ old.choices) × (new.ways ≡ None)
unfolding does
made-so count P u old new (parts, last, e, x, is) = (ap (λ (s : State). s.units) is, ap (λ (s : State). s.choices) is, ap (λ (s : State). s.ways) is)

-- what is put into the ways
ways-put : (w : Ways) (u : Unit {0}) (old new : State) → sets_ways (Some w) old (Gives u) new
    → (new.units ≡ old.units) × (new.choices ≡ old.choices) × ((vs : List Variable) → IsFlowOf vs w.yes × IsFlowOf vs w.no → TellsOf vs new)
unfolding ◌▷◌ by_handles does
ways-put w u old new (None, mid, (same, first), is) = absurd same
ways-put w u old new (Some x, mid, (same, first), is) =
    let now : new ≡ record old { ways = Some x } = is ∙ ap (λ (s : State). record s { ways = Some x }) first in (
      ap (λ (s : State). s.units) now,
      ap (λ (s : State). s.choices) now,
      λ vs h. subst (λ y. IfSome y (λ z. IsFlowOf vs z.yes × IsFlowOf vs z.no)) (sym (ap (λ (s : State). s.ways) now))
          (of-handles vs w.yes x.yes same.yes h.0, of-handles vs w.no x.no same.no h.1),
    )

joined-so : (f g h : Flow) (old new : State) → joins_two f g old (Gives h) new → (new ≡ old) × ((vs : List Variable) → IsFlowOf vs f → IsFlowOf vs h)
unfolding gives_some
joined-so f g h old new (join, same) = (same, λ vs of. join-of vs old.atoms f g h join of)

-- the flow is set, a part is made, and it is told what the part says
module _ (c d : ChoiceAtWork) (old s1 s2 s3 s4 s5 new : State) (count : ℕ) (P : Atoms → List TypedExpr → TypedExpr → Type 0) (told : Ways) (u v : Unit {0}) where
  leaves-telling : d ≡ c → s3 ≡ record old { choices = all_but 1 old.choices } → Sets s3 s4 d.before → (s4.choices ≡ s3.choices) → makes count P s4 (Gives v) s5
      → sets_ways (Some told) s5 (Gives tt) new
      → ((vs : List Variable) → HandSees vs old → TellsOf vs old → ChoiceOf vs c → IsFlowOf vs told.yes × IsFlowOf vs told.no) → Leaves c old new
  leaves-telling one to-3 set unclosed made put says =
      let (units, choices, ways) = made-so count P v s4 s5 made in
      let (units-put, choices-put, telling) = ways-put told tt s5 new put in
      let all : new.units ≡ s4.units = units-put ∙ units in
      record {
        choices = choices-put ∙ choices ∙ unclosed ∙ ap (λ (s : State). s.choices) to-3;
        now = set.now;
        last = subst (λ us. IsLast us set.now) (sym all) set.last;
        others = subst (λ us. Others old.units us) (sym all) (subst (λ us. Others us s4.units) (ap (λ (s : State). s.units) to-3) set.others);
        flow = subst (λ (x : ChoiceAtWork). SameFlow x.before set.now.flow) one set.same;
        tells = λ vs sees tells h. telling vs (says vs sees tells h);
      }

pub conjoin : (at : Place) (c : ChoiceAtWork) (old new : State) → IsLast old.choices c → conjoins at old (Gives tt) new → Leaves c old new
unfolding ◌▷◌
conjoin at c old new last (w, s1, x1, (d, s2, x2, (left, s3, x3, (u, s4, x4, (v, s5, x5, x6))))) =
    let first : s1 ≡ old = ways-seen w old s1 x1 in
    let (l, second) = choice-closed d s1 s2 x2 in
    let one : d ≡ c = last-same old.choices d c (subst (λ (s : State). IsLast s.choices d) first l) last in
    let (third, joined) = joined-so d.other w.no left s2 s3 x3 in
    let to-3 : s3 ≡ record old { choices = all_but 1 old.choices } = third ∙ second ∙ ap (λ (s : State). record s { choices = all_but 1 s.choices }) first in
    let s = flow-set d.before u s3 s4 x4 in
    leaves-telling c d old s1 s2 s3 s4 s5 new 2 _ (record { yes = w.yes; no = left }) u v one to-3 (set-so d.before s3 s4 s) (ap (λ (x : State). x.choices) s.all) x5 x6
    (λ vs sees tells h.
    let known = ways-of vs w old s1 x1 sees tells in
    (known.0, joined vs (subst (λ (x : ChoiceAtWork). IsFlowOf vs x.other) (sym one) h.other)))

pub disjoin : (at : Place) (c : ChoiceAtWork) (old new : State) → IsLast old.choices c → disjoins at old (Gives tt) new → Leaves c old new
unfolding ◌▷◌
disjoin at c old new last (w, s1, x1, (d, s2, x2, (right, s3, x3, (u, s4, x4, (v, s5, x5, x6))))) =
    let first : s1 ≡ old = ways-seen w old s1 x1 in
    let (l, second) = choice-closed d s1 s2 x2 in
    let one : d ≡ c = last-same old.choices d c (subst (λ (s : State). IsLast s.choices d) first l) last in
    let (third, joined) = joined-so d.other w.yes right s2 s3 x3 in
    let to-3 : s3 ≡ record old { choices = all_but 1 old.choices } = third ∙ second ∙ ap (λ (s : State). record s { choices = all_but 1 s.choices }) first in
    let s = flow-set d.before u s3 s4 x4 in
    leaves-telling c d old s1 s2 s3 s4 s5 new 2 _ (record { yes = right; no = w.no }) u v one to-3 (set-so d.before s3 s4 s) (ap (λ (x : State). x.choices) s.all) x5 x6
    (λ vs sees tells h.
    let known = ways-of vs w old s1 x1 sees tells in
    (joined vs (subst (λ (x : ChoiceAtWork). IsFlowOf vs x.other) (sym one) h.other), known.1))

pub choose : (at : Place) (c : ChoiceAtWork) (old new : State) → IsLast old.choices c → chooses at old (Gives tt) new → Leaves c old new
unfolding ◌▷◌
choose at c old new last (d, s1, x1, (u, s2, x2, x3)) =
    let (l, first) = choice-closed d old s1 x1 in
    let one : d ≡ c = last-same old.choices d c l last in
    let s = flow-set d.before u s1 s2 x2 in
    let set = set-so d.before s1 s2 s in
    let (units, choices, ways) = made-so 3 _ tt s2 new x3 in
    record {
      choices = choices ∙ ap (λ (x : State). x.choices) s.all ∙ ap (λ (x : State). x.choices) first;
      now = set.now;
      last = subst (λ us. IsLast us set.now) (sym units) set.last;
      others = subst (λ us. Others old.units us) (sym units) (subst (λ us. Others us s2.units) (ap (λ (x : State). x.units) first) set.others);
      flow = subst (λ (x : ChoiceAtWork). SameFlow x.before set.now.flow) one set.same;
      tells = λ vs sees tells h. subst (λ y. IfSome y (λ z. IsFlowOf vs z.yes × IsFlowOf vs z.no)) (sym ways) tt;
    }
