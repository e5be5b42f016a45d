-- Ways that are entered and left: what becomes of the flow at hand and of the choices that are open.
use Rattle.std.proofs.Common.{◌≡◌, ◌≤◌, ◌∙◌, ◌++◌, Bool, true, false, not, List, [], ◌∷◌, length, Option, None, Some, arith, refl, sym, subst, ap}
use Rattle.std.specs.List.{AllZip}
use Rattle.std.proofs.lemmas.List.Elements.{AllZip-push}
use Rattle.bal_base.specs.declared.place.Place.{Place}
use Rattle.checks.specs.Checks.{Gives, ◌▷◌, gives_some}
use Rattle.needs.specs.Needs.{does}
use Rattle.typed_tree.specs.declared.expr.TypedExpr.{TypedExpr}
use Rattle.typed_tree.specs.SharedTypes.{Shared}
use Rattle.typed_tree.specs.Views.{IsAnd, IsConditional, IsOr}
use Rattle.flow_narrowing.specs.declared.flow.Flow.{Flow}
use Rattle.flow_narrowing.specs.Flows.{IsJoin}
use Rattle.check_words.specs.Sharing.{SameCaptured, SameChoice, SameFlow, SameOption, SameWays}
use Rattle.check_words.specs.State.{AreLast, ChoiceAtWork, IsLast, State, UnitAtWork, Ways, all_but, replaced, ways_or_same}
use Rattle.check_words.specs.Values.{chooses, conjoins, disjoins, splits, switches, way_of}
use Rattle.check_words.specs.Words.{Atoms, Three, Two, by_handles, closes_choice, flow_now, sets_flow, sets_ways, ways_now}
use Rattle.typed_needs.proofs.Placed.{all-but-last, last-same}
use Rattle.calm_needs.proofs.Ways.{choice-opened}
use Rattle.flow_needs.specs.Quiet.{KnowsOn, KnowsSame}
use Rattle.flow_needs.proofs.Quieting.{all-same-long, captured-then, knows-itself, knows-then}

-- ---- units, where the flow at hand becomes another one

-- Below the unit at hand the same is known; and that has as many slots or more.
pub record Reach (u v : UnitAtWork) (us vs : List UnitAtWork) : Type 0 where
  pub kept : List UnitAtWork
  pub is : us ≡ kept ++ u ∷ []
  pub later : List UnitAtWork
  pub now : vs ≡ later ++ v ∷ []
  pub each : AllZip KnowsSame kept later
  pub slots : length u.slots ≤ length v.slots
  pub captured : AllZip SameCaptured u.captured v.captured

split-known : (kept vs : List UnitAtWork) (u : UnitAtWork) → AllZip KnowsSame (kept ++ u ∷ []) vs
    → (later : List UnitAtWork) × (v : UnitAtWork) × (vs ≡ later ++ v ∷ []) × AllZip KnowsSame kept later × KnowsSame u v
split-known [] (v ∷ []) u each = ([], v, refl, tt, each.0)
split-known [] (v ∷ w ∷ vs) u each = absurd each.1
split-known [] [] u each = absurd each
split-known (k ∷ kept) (v ∷ vs) u each = let (later, w, is, all, same) = split-known kept vs u each.1 in (v ∷ later, w, ap (λ xs. v ∷ xs) is, (each.0, all), same)
split-known (k ∷ kept) [] u each = absurd each

pub reach-on : (s t : State) (u : UnitAtWork) → KnowsOn s t → IsLast s.units u → (v : UnitAtWork) × IsLast t.units v × Reach u v s.units t.units × SameFlow u.flow v.flow
reach-on s t u on last =
    let (later, v, is, each, same) = split-known last.kept t.units u (subst (λ us. AllZip KnowsSame us t.units) last.is on.units) in (
      v,
      record { kept = later; is = is },
      record { kept = last.kept; is = last.is; later = later; now = is; each = each; slots = same.slots; captured = same.captured },
      same.flow,
    )

pub reach-then : (u v w : UnitAtWork) (us vs ws : List UnitAtWork) → Reach u v us vs → Reach v w vs ws → Reach u w us ws
reach-then u v w us vs ws f g =
    let same : f.later ≡ g.kept = sym (all-but-last f.later v) ∙ ap (λ xs. all_but 1 xs) (sym f.now ∙ g.is) ∙ all-but-last g.kept v in
    let a = f.slots in let b = g.slots in
    record {
      kept = f.kept;
      is = f.is;
      later = g.later;
      now = g.now;
      each = knows-then f.kept f.later g.later f.each (subst (λ xs. AllZip KnowsSame xs g.later) (sym same) g.each);
      slots = omega (arith, a, b);
      captured = captured-then u.captured v.captured w.captured f.captured g.captured;
    }

-- where the same is known of the unit at hand too
pub reach-end : (u v : UnitAtWork) (s t : State) → Reach u v s.units t.units → SameFlow u.flow v.flow → KnowsOn s t
reach-end u v s t r same =
    record {
      units = subst (λ us. AllZip KnowsSame us t.units) (sym r.is)
          (subst (λ vs. AllZip KnowsSame (r.kept ++ u ∷ []) vs) (sym r.now) (AllZip-push KnowsSame r.kept r.later u v r.each (record { flow = same; slots = r.slots; captured = r.captured })));
    }

-- the flow of the unit at hand becomes this one
pub record SetsFlow (f : Flow) (us vs : List UnitAtWork) : Type 0 where
  pub was : UnitAtWork
  pub now : UnitAtWork
  pub reach : Reach was now us vs
  pub flow : SameFlow f now.flow

pub set-last : (f : Flow) (us vs : List UnitAtWork) (s : SetsFlow f us vs) → IsLast us s.was × IsLast vs s.now
set-last f us vs s = let r = s.reach in (record { kept = r.kept; is = r.is }, record { kept = r.later; is = r.now })

pub flow-set : (f : Flow) (a : Unit {0}) (old new : State) → sets_flow f old (Gives a) new → SetsFlow f old.units new.units × (new ≡ record old { units = new.units; ways = None })
unfolding ◌▷◌ gives_some by_handles does
flow-set f x old new (v, mid, (w, a, (last, first), (z, b, (same, second), third)), is) =
    let all : new ≡ record old { units = replaced old.units z; ways = None } =
    is ∙ ap (λ (s : State). record s { ways = None }) third ∙ ap (λ (s : State). record s { units = replaced s.units z; ways = None }) (second ∙ first) in
    let units : new.units ≡ last.kept ++ z ∷ [] =
    ap (λ (s : State). s.units) all ∙ ap (λ us. all_but 1 us ++ z ∷ []) last.is ∙ ap (λ us. us ++ z ∷ []) (all-but-last last.kept w) in
    let long = all-same-long w.slots z.slots same.slots in (
      record {
        was = w;
        now = z;
        reach = record { kept = last.kept; is = last.is; later = last.kept; now = units; each = knows-itself last.kept; slots = omega (arith, long); captured = same.captured };
        flow = same.flow;
      },
      all ∙ ap (λ us. record old { units = us; ways = None }) (sym (ap (λ (s : State). s.units) all)),
    )

-- ---- what is seen

pub flow-seen : (f : Flow) (old new : State) → flow_now old (Gives f) new → (u : UnitAtWork) × IsLast old.units u × (f ≡ u.flow) × (new ≡ old)
unfolding ◌▷◌ gives_some
flow-seen f old new (u, a, (last, first), (is, same)) = (u, last, is, same ∙ first)

pub ways-seen : (w : Ways) (old new : State) → ways_now old (Gives w) new → (u : UnitAtWork) × IsLast old.units u × (w ≡ ways_or_same old.ways u.flow) × (new ≡ old)
unfolding ◌▷◌ gives_some
ways-seen w old new (f, a, flow, (is, same)) =
    let (u, last, known, first) = flow-seen f old a flow in
    (u, last, is ∙ ap (λ (s : State). ways_or_same s.ways f) first ∙ ap (λ g. ways_or_same old.ways g) known, same ∙ first)

pub choice-closed : (c : ChoiceAtWork) (old new : State) → closes_choice old (Gives c) new → IsLast old.choices c × (new ≡ record old { choices = all_but 1 old.choices })
unfolding ◌▷◌ gives_some does
choice-closed c old new (d, a, (last, first), (u, b, second, (is, same))) = (
  subst (λ x. IsLast old.choices x) (sym is) last,
  same ∙ second ∙ ap (λ (s : State). record s { choices = all_but 1 s.choices }) first,
)

pub ways-put : (w : Option Ways) (a : Unit {0}) (old new : State) → sets_ways w old (Gives a) new → (x : Option Ways) × SameOption SameWays w x × (new ≡ record old { ways = x })
unfolding ◌▷◌ by_handles does
ways-put w a old new (x, mid, (same, first), is) = (x, same, is ∙ ap (λ (s : State). record s { ways = x }) first)

-- ---- a way is entered

pub record Splitted (way : Bool) (old new : State) : Type 0 where
  pub unit : UnitAtWork
  pub at_hand : IsLast old.units unit
  pub choice : ChoiceAtWork
  pub same : SameChoice
      (record { before = unit.flow; other = way_of (not way) (ways_or_same old.ways unit.flow); first = unit.flow }) choice
  pub choices : new.choices ≡ old.choices ++ choice ∷ []
  pub found : new.found ≡ old.found
  pub set : SetsFlow (way_of way (ways_or_same old.ways unit.flow)) old.units new.units

pub splitted : (way : Bool) (old new : State) → splits way old (Gives tt) new → Splitted way old new
unfolding ◌▷◌
splitted way old new (f, s1, x1, (w, s2, x2, (u, s3, x3, x4))) =
    let (v, last, is-f, first) = flow-seen f old s1 x1 in
    let (v', last', is-w, second) = ways-seen w s1 s2 x2 in
    let two : s2 ≡ old = second ∙ first in
    let hand : IsLast old.units v' = subst (λ (s : State). IsLast s.units v') first last' in
    let one : v' ≡ v = last-same old.units v' v hand last in
    let what : w ≡ ways_or_same old.ways v.flow = is-w ∙ ap (λ (s : State). ways_or_same s.ways v'.flow) first ∙ ap (λ (y : UnitAtWork). ways_or_same old.ways y.flow) one in
    let (d, same, third) = choice-opened _ u s2 s3 x3 in
    let three : s3 ≡ record old { choices = old.choices ++ d ∷ [] } = third ∙ ap (λ (s : State). record s { choices = s.choices ++ d ∷ [] }) two in
    let (set, fourth) = flow-set (way_of way w) tt s3 new x4 in
    record {
      unit = v;
      at_hand = last;
      choice = d;
      same = subst (λ (y : Ways). SameChoice (record { before = v.flow; other = way_of (not way) y; first = v.flow }) d) what
          (subst (λ (g : Flow). SameChoice (record { before = g; other = way_of (not way) w; first = g }) d) is-f same);
      choices = ap (λ (s : State). s.choices) fourth ∙ ap (λ (s : State). s.choices) three;
      found = ap (λ (s : State). s.found) fourth ∙ ap (λ (s : State). s.found) three;
      set = subst (λ (y : Ways). SetsFlow (way_of way y) old.units new.units) what (subst (λ us. SetsFlow (way_of way w) us new.units) (ap (λ (s : State). s.units) three) set);
    }

-- ---- the other way is entered

pub record Switched (old new : State) : Type 0 where
  pub choice : ChoiceAtWork
  pub last : IsLast old.choices choice
  pub now : ChoiceAtWork
  pub choices : new.choices ≡ all_but 1 old.choices ++ now ∷ []
  pub before : SameFlow choice.before now.before
  pub found : new.found ≡ old.found
  pub set : SetsFlow choice.other old.units new.units

pub switched : (old new : State) → switches old (Gives tt) new → Switched old new
unfolding ◌▷◌
switched old new (f, s1, x1, (c, s2, x2, (u, s3, x3, x4))) =
    let (v, hand, is-f, first) = flow-seen f old s1 x1 in
    let (last, second) = choice-closed c s1 s2 x2 in
    let (d, same, third) = choice-opened _ u s2 s3 x3 in
    let two : s2 ≡ record old { choices = all_but 1 old.choices } = second ∙ ap (λ (s : State). record s { choices = all_but 1 s.choices }) first in
    let three : s3 ≡ record old { choices = all_but 1 old.choices ++ d ∷ [] } = third ∙ ap (λ (s : State). record s { choices = s.choices ++ d ∷ [] }) two in
    let (set, fourth) = flow-set c.other tt s3 new x4 in
    record {
      choice = c;
      last = subst (λ (s : State). IsLast s.choices c) first last;
      now = d;
      choices = ap (λ (s : State). s.choices) fourth ∙ ap (λ (s : State). s.choices) three;
      before = same.before;
      found = ap (λ (s : State). s.found) fourth ∙ ap (λ (s : State). s.found) three;
      set = subst (λ us. SetsFlow c.other us new.units) (ap (λ (s : State). s.units) three) set;
    }

-- ---- both ways are left

abbrev pub ChosenOf : Place → List TypedExpr → TypedExpr → Type 0
ChosenOf at parts e = Three parts (λ c a b. (t : Shared) × IsConditional c a b t at e)

pub record Chosen (at : Place) (old new : State) : Type 0 where
  pub choice : ChoiceAtWork
  pub last : IsLast old.choices choice
  pub set : SetsFlow choice.before old.units new.units
  pub parts : List TypedExpr
  pub lasts : AreLast old.found 3 parts
  pub part : TypedExpr
  pub view : ChosenOf at parts part
  pub found : new.found ≡ all_but 3 old.found ++ part ∷ []
  pub ways : new.ways ≡ None

pub chosen : (at : Place) (old new : State) → chooses at old (Gives tt) new → Chosen at old new
unfolding ◌▷◌ does
chosen at old new (c, s1, x1, (u, s2, x2, (parts, lasts, e, (a, b, d, is, (t, k, view)), last-step))) =
    let (last, first) = choice-closed c old s1 x1 in
    let (set, second) = flow-set c.before u s1 s2 x2 in
    let found : s2.found ≡ old.found = ap (λ (s : State). s.found) second ∙ ap (λ (s : State). s.found) first in
    record {
      choice = c;
      last = last;
      set = subst (λ vs. SetsFlow c.before old.units vs) (sym (ap (λ (s : State). s.units) last-step))
          (subst (λ us. SetsFlow c.before us s2.units) (ap (λ (s : State). s.units) first) set);
      parts = parts;
      lasts = subst (λ xs. AreLast xs 3 parts) found lasts;
      part = e;
      view = (a, b, d, is, (t, view));
      found = ap (λ (s : State). s.found) last-step ∙ ap (λ xs. all_but 3 xs ++ e ∷ []) found;
      ways = ap (λ (s : State). s.ways) last-step;
    }

-- ---- both conditions are put together

-- `a && b`, which holds where b does and fails where it does or a has failed; and the other way round `a || b`
abbrev pub BothOf : Bool → TypedExpr → TypedExpr → Shared → Place → TypedExpr → Type 0
BothOf true = IsAnd
BothOf false = IsOr

abbrev pub ways_of_both : Bool → Flow → Flow → Ways
ways_of_both true held met = record { yes = held; no = met }
ways_of_both false held met = record { yes = met; no = held }

pub record Paired (holds : Bool) (at : Place) (old new : State) : Type 0 where
  pub unit : UnitAtWork
  pub at_hand : IsLast old.units unit
  pub choice : ChoiceAtWork
  pub last : IsLast old.choices choice
  pub met : Flow
  pub joined : IsJoin old.atoms choice.other (way_of (not holds) (ways_or_same old.ways unit.flow)) met
  pub set : SetsFlow choice.before old.units new.units
  pub parts : List TypedExpr
  pub lasts : AreLast old.found 2 parts
  pub part : TypedExpr
  pub view : Two parts (λ a b. (t : Shared) × BothOf holds a b t at part)
  pub found : new.found ≡ all_but 2 old.found ++ part ∷ []
  pub ways : SameOption SameWays (Some (ways_of_both holds (way_of holds (ways_or_same old.ways unit.flow)) met)) new.ways
  pub atoms : new.atoms ≡ old.atoms

pub conjoined : (at : Place) (old new : State) → conjoins at old (Gives tt) new → Paired true at old new
unfolding ◌▷◌ gives_some does
conjoined at old new (w, s1, x1, (c, s2, x2, (met, s3, (joined, third), (u, s4, x4, (v, s5, (parts, lasts, e, (a, b, is, (t, k, view)), fifth), x6))))) =
    let (z, hand, is-w, first) = ways-seen w old s1 x1 in
    let (last, second) = choice-closed c s1 s2 x2 in
    let three : s3 ≡ record old { choices = all_but 1 old.choices } = third ∙ second ∙ ap (λ (s : State). record s { choices = all_but 1 s.choices }) first in
    let two : s2 ≡ record old { choices = all_but 1 old.choices } = second ∙ ap (λ (s : State). record s { choices = all_but 1 s.choices }) first in
    let (set, fourth) = flow-set c.before u s3 s4 x4 in
    let (x, same, sixth) = ways-put _ tt s5 new x6 in
    let found : s4.found ≡ old.found = ap (λ (s : State). s.found) fourth ∙ ap (λ (s : State). s.found) three in
    let units : new.units ≡ s4.units = ap (λ (s : State). s.units) sixth ∙ ap (λ (s : State). s.units) fifth in
    record {
      unit = z;
      at_hand = hand;
      choice = c;
      last = subst (λ (s : State). IsLast s.choices c) first last;
      met = met;
      joined = subst (λ (y : Ways). IsJoin old.atoms c.other y.no met) is-w (subst (λ (xs : Atoms). IsJoin xs c.other w.no met) (ap (λ (s : State). s.atoms) two) joined);
      set = subst (λ vs. SetsFlow c.before old.units vs) (sym units) (subst (λ us. SetsFlow c.before us s4.units) (ap (λ (s : State). s.units) three) set);
      parts = parts;
      lasts = subst (λ xs. AreLast xs 2 parts) found lasts;
      part = e;
      view = (a, b, is, (t, view));
      found = ap (λ (s : State). s.found) sixth ∙ ap (λ (s : State). s.found) fifth ∙ ap (λ xs. all_but 2 xs ++ e ∷ []) found;
      ways = subst (λ y. SameOption SameWays (Some (ways_of_both true (way_of true (ways_or_same old.ways z.flow)) met)) y) (sym (ap (λ (s : State). s.ways) sixth))
          (subst (λ (y : Ways). SameOption SameWays (Some (record { yes = y.yes; no = met })) x) is-w same);
      atoms = ap (λ (s : State). s.atoms) sixth ∙ ap (λ (s : State). s.atoms) fifth ∙ ap (λ (s : State). s.atoms) fourth ∙ ap (λ (s : State). s.atoms) three;
    }

pub disjoined : (at : Place) (old new : State) → disjoins at old (Gives tt) new → Paired false at old new
unfolding ◌▷◌ gives_some does
disjoined at old new (w, s1, x1, (c, s2, x2, (met, s3, (joined, third), (u, s4, x4, (v, s5, (parts, lasts, e, (a, b, is, (t, k, view)), fifth), x6))))) =
    let (z, hand, is-w, first) = ways-seen w old s1 x1 in
    let (last, second) = choice-closed c s1 s2 x2 in
    let three : s3 ≡ record old { choices = all_but 1 old.choices } = third ∙ second ∙ ap (λ (s : State). record s { choices = all_but 1 s.choices }) first in
    let two : s2 ≡ record old { choices = all_but 1 old.choices } = second ∙ ap (λ (s : State). record s { choices = all_but 1 s.choices }) first in
    let (set, fourth) = flow-set c.before u s3 s4 x4 in
    let (x, same, sixth) = ways-put _ tt s5 new x6 in
    let found : s4.found ≡ old.found = ap (λ (s : State). s.found) fourth ∙ ap (λ (s : State). s.found) three in
    let units : new.units ≡ s4.units = ap (λ (s : State). s.units) sixth ∙ ap (λ (s : State). s.units) fifth in
    record {
      unit = z;
      at_hand = hand;
      choice = c;
      last = subst (λ (s : State). IsLast s.choices c) first last;
      met = met;
      joined = subst (λ (y : Ways). IsJoin old.atoms c.other y.yes met) is-w (subst (λ (xs : Atoms). IsJoin xs c.other w.yes met) (ap (λ (s : State). s.atoms) two) joined);
      set = subst (λ vs. SetsFlow c.before old.units vs) (sym units) (subst (λ us. SetsFlow c.before us s4.units) (ap (λ (s : State). s.units) three) set);
      parts = parts;
      lasts = subst (λ xs. AreLast xs 2 parts) found lasts;
      part = e;
      view = (a, b, is, (t, view));
      found = ap (λ (s : State). s.found) sixth ∙ ap (λ (s : State). s.found) fifth ∙ ap (λ xs. all_but 2 xs ++ e ∷ []) found;
      ways = subst (λ y. SameOption SameWays (Some (ways_of_both false (way_of false (ways_or_same old.ways z.flow)) met)) y) (sym (ap (λ (s : State). s.ways) sixth))
          (subst (λ (y : Ways). SameOption SameWays (Some (record { yes = met; no = y.no })) x) is-w same);
      atoms = ap (λ (s : State). s.atoms) sixth ∙ ap (λ (s : State). s.atoms) fifth ∙ ap (λ (s : State). s.atoms) fourth ∙ ap (λ (s : State). s.atoms) three;
    }
