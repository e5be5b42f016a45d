-- What is known of variables stays, by other handles maybe.
use Rattle.std.proofs.Common.{Bool, IfSome, List, None, Option, Some, [], ap, arith, false, length, refl, subst, suc, sym, true, zero, ℕ, ◌++◌, ◌<◌, ◌∙◌, ◌∷◌, ◌≡◌}
use Rattle.std.proofs.lemmas.List.Elements.{AllZip-push}
use Rattle.std.specs.List.{AllZip}
use Rattle.std.specs.Prelude.{IsSomeAnd, if◌then◌else◌, slice_get}
use Rattle.typed_tree.specs.SharedTypes.{Shared}
use Rattle.calm_needs.specs.Calm.{HandSees, IsFlowOf, KeepsFlows, SameKnown, TellsOf}
use Rattle.check_words.proofs.Handles.{flow-through, same-variable-through}
use Rattle.check_words.proofs.Same.{same-flow}
use Rattle.check_words.specs.Sharing.{SameFlow, SameOption, SameUnit, SameVariable, SameWays}
use Rattle.check_words.specs.State.{IsLast, State, UnitAtWork, Ways, all_but, narrowed_by_name, replaced, ways_or_same}
use Rattle.check_words.specs.Words.{by_handles, sets_unit, sets_ways, ways_now}
use Rattle.checks.specs.Checks.{Gives, gives_some, ◌▷◌}
use Rattle.bal_base.specs.declared.text.Name.{Name}
use Rattle.type_model.specs.Places.{is_same_text}
use Rattle.flow_narrowing.specs.Changes.{with_narrowed}
use Rattle.check_words.specs.Words.{Atoms}
use Rattle.flow_narrowing.specs.Flows.{IsJoin, IsJoined, IsSameVariable, joins}
use Rattle.flow_narrowing.specs.declared.flow.Flow.{Flow}
use Rattle.flow_narrowing.specs.declared.flow.Variable.{Variable}
use Rattle.needs.specs.Needs.{does}
use Rattle.typed_needs.proofs.Placed.{all-but-last}

-- ---- lists, member by member

none-last : {A : Type 0} (kept : List A) (y : A) → [] ≡ kept ++ y ∷ [] → ⊥
none-last [] y is = (let e = ap length is in omega (arith, e))
none-last (k ∷ kept) y is = (let e = ap length is in omega (arith, e))

-- the last one of the second list stands beside the last one of the first
pub zip-came : {A B : Type 0} (R : A → B → Type 0) (xs : List A) (ys : List B) (y : B) → AllZip R xs ys → IsLast ys y → (x : A) × IsLast xs x × R x y
zip-came R [] [] y h last = absurd (none-last last.kept y last.is)
zip-came R [] (z ∷ ys) y h last = absurd h
zip-came R (x ∷ xs) [] y h last = absurd h
zip-came R (x ∷ []) (z ∷ []) y h last = (x, record { kept = []; is = refl }, subst (λ b. R x b) (only z y last.kept last.is) h.0)
  where
    only : {B : Type 0} (z y : B) (kept : List B) → z ∷ [] ≡ kept ++ y ∷ [] → z ≡ y
    only z y [] is = let q : z ≡ y = cc in q
    only z y (k ∷ []) is = absurd (let e = ap length is in omega (arith, e))
    only z y (k ∷ l ∷ kept) is = absurd (let e = ap length is in omega (arith, e))
zip-came R (x ∷ w ∷ xs) (z ∷ []) y h last = absurd h.1
zip-came R (x ∷ []) (z ∷ v ∷ ys) y h last = absurd h.1
zip-came R (x ∷ w ∷ xs) (z ∷ v ∷ ys) y h last =
    let (u, at, r) = zip-came R (w ∷ xs) (v ∷ ys) y h.1 (behind z v ys y last.kept last.is) in (u, record { kept = x ∷ at.kept; is = ap (λ l. x ∷ l) at.is }, r)
  where
    behind : {B : Type 0} (z v : B) (ys : List B) (y : B) (kept : List B) → z ∷ v ∷ ys ≡ kept ++ y ∷ [] → IsLast (v ∷ ys) y
    behind z v ys y [] is = absurd (let e = ap length is in omega (arith, e))
    behind z v ys y (k ∷ kept) is = record { kept = kept; is = (let q : v ∷ ys ≡ kept ++ y ∷ [] = cc in q) }

-- ---- flows

pub variables-through : (vs ws xs : List Variable) → AllZip IsSameVariable vs ws → AllZip IsSameVariable ws xs → AllZip IsSameVariable vs xs
variables-through [] [] [] h k = tt
variables-through (v ∷ vs) (w ∷ ws) (x ∷ xs) h k = (same-variable-through v w x h.0 k.0, variables-through vs ws xs h.1 k.1)
variables-through [] (w ∷ ws) xs h k = absurd h
variables-through (v ∷ vs) [] xs h k = absurd h
variables-through [] [] (x ∷ xs) h k = absurd k
variables-through (v ∷ vs) (w ∷ ws) [] h k = absurd k

same-variables : (vs ws : List Variable) → AllZip SameVariable vs ws → AllZip IsSameVariable vs ws
same-variables [] [] h = tt
same-variables (v ∷ vs) (w ∷ ws) h = (h.0.variable, same-variables vs ws h.1)
same-variables [] (w ∷ ws) h = absurd h
same-variables (v ∷ vs) [] h = absurd h

-- of the same variables by other handles
pub of-handles : (vs : List Variable) (f g : Flow) → SameFlow f g → IsFlowOf vs f → IsFlowOf vs g
of-handles vs f g same h = variables-through vs f.variables g.variables h (same-variables f.variables g.variables same.variables)

pub flows-itself : (us : List UnitAtWork) → AllZip SameKnown us us
flows-itself [] = tt
flows-itself (u ∷ us) = (same-flow u.flow, flows-itself us)

pub flows-then : (us vs ws : List UnitAtWork) → AllZip SameKnown us vs → AllZip SameKnown vs ws → AllZip SameKnown us ws
flows-then [] [] [] h k = tt
flows-then (u ∷ us) (v ∷ vs) (w ∷ ws) h k = (flow-through u.flow v.flow w.flow h.0 k.0, flows-then us vs ws h.1 k.1)
flows-then [] (v ∷ vs) ws h k = absurd h
flows-then (u ∷ us) [] ws h k = absurd h
flows-then [] [] (w ∷ ws) h k = absurd k
flows-then (u ∷ us) (v ∷ vs) [] h k = absurd k

-- ---- states

pub hand-on : (vs : List Variable) (s t : State) → AllZip SameKnown s.units t.units → HandSees vs s → HandSees vs t
hand-on vs s t flows h u last = let (v, before, same) = zip-came SameKnown s.units t.units u flows last in of-handles vs v.flow u.flow same (h v before)

pub keeps-on : (r s t : State) → KeepsFlows r s → KeepsFlows s t → KeepsFlows r t
keeps-on r s t f g =
    record {
      flows = flows-then r.units s.units t.units f.flows g.flows;
      choices = g.choices ∙ f.choices;
      tells = λ vs hand h. g.tells vs (hand-on vs r s f.flows hand) (f.tells vs hand h);
    }

-- where units and what is open are as they were, and the last part says what it said
pub keeps-with : (s t : State) → t.units ≡ s.units → t.choices ≡ s.choices → t.ways ≡ s.ways → KeepsFlows s t
keeps-with s t units choices ways =
    record {
      flows = subst (λ us. AllZip SameKnown s.units us) (sym units) (flows-itself s.units);
      choices = choices;
      tells = λ vs hand h. subst (λ w. IfSome w (λ x. IsFlowOf vs x.yes × IsFlowOf vs x.no)) (sym ways) h;
    }

-- or the last part says nothing
pub keeps-telling-none : (s t : State) → t.units ≡ s.units → t.choices ≡ s.choices → t.ways ≡ None → KeepsFlows s t
keeps-telling-none s t units choices ways =
    record {
      flows = subst (λ us. AllZip SameKnown s.units us) (sym units) (flows-itself s.units);
      choices = choices;
      tells = λ vs hand h. subst (λ w. IfSome w (λ x. IsFlowOf vs x.yes × IsFlowOf vs x.no)) (sym ways) tt;
    }

pub keeps-itself : (s : State) → KeepsFlows s s
keeps-itself s = keeps-with s s refl refl refl

-- the unit at hand is set to one of which the same is known
pub keeps-unit : (was next : UnitAtWork) (a : Unit {0}) (old new : State) → IsLast old.units was → SameFlow was.flow next.flow → sets_unit next old (Gives a) new → KeepsFlows old new
unfolding ◌▷◌ by_handles does
keeps-unit was next a old new last same (v, mid, (handles, first), is) =
    let now : new ≡ record old { units = replaced old.units v } = is ∙ ap (λ (s : State). record s { units = replaced s.units v }) first in
    let units : new.units ≡ last.kept ++ v ∷ [] =
    ap (λ (s : State). s.units) now ∙ ap (λ us. all_but 1 us ++ v ∷ []) last.is ∙ ap (λ us. us ++ v ∷ []) (all-but-last last.kept was) in
    let h : SameUnit next v = handles in
    record {
      flows = subst (λ us. AllZip SameKnown us new.units) (sym last.is)
          (subst (λ vs. AllZip SameKnown (last.kept ++ was ∷ []) vs) (sym units)
          (AllZip-push SameKnown last.kept last.kept was v (flows-itself last.kept) (flow-through was.flow next.flow v.flow same h.flow)));
      choices = ap (λ (s : State). s.choices) now;
      tells = λ vs hand t. subst (λ w. IfSome w (λ x. IsFlowOf vs x.yes × IsFlowOf vs x.no)) (sym (ap (λ (s : State). s.ways) now)) t;
    }

-- what the last part says is put
told-so : (vs : List Variable) (v w : Option Ways) → SameOption SameWays v w → IfSome v (λ x. IsFlowOf vs x.yes × IsFlowOf vs x.no) → IfSome w (λ x. IsFlowOf vs x.yes × IsFlowOf vs x.no)
told-so vs None None same h = tt
told-so vs (Some v) (Some w) same h =
    let s : SameWays v w = same in (of-handles vs v.yes w.yes s.yes h.0, of-handles vs v.no w.no s.no h.1)
told-so vs None (Some w) same h = absurd same
told-so vs (Some v) None same h = absurd same

pub keeps-telling : (w : Option Ways) (u : Unit {0}) (old mid new : State) → KeepsFlows old mid → sets_ways w mid (Gives u) new
    → ((vs : List Variable) → HandSees vs old → TellsOf vs old → IfSome w (λ x. IsFlowOf vs x.yes × IsFlowOf vs x.no)) → KeepsFlows old new
unfolding ◌▷◌ by_handles does
keeps-telling w u old mid new k (x, m, (same, first), is) said =
    let now : new ≡ record mid { ways = x } = is ∙ ap (λ (s : State). record s { ways = x }) first in
    record {
      flows = subst (λ us. AllZip SameKnown old.units us) (sym (ap (λ (s : State). s.units) now)) k.flows;
      choices = ap (λ (s : State). s.choices) now ∙ k.choices;
      tells = λ vs hand h. subst (λ y. IfSome y (λ z. IsFlowOf vs z.yes × IsFlowOf vs z.no)) (sym (ap (λ (s : State). s.ways) now)) (told-so vs w x same (said vs hand h));
    }

-- ---- conditions

so-told : (vs : List Variable) (ways : Option Ways) (f : Flow) → IsFlowOf vs f → IfSome ways (λ x. IsFlowOf vs x.yes × IsFlowOf vs x.no)
    → IsFlowOf vs (ways_or_same ways f).yes × IsFlowOf vs (ways_or_same ways f).no
so-told vs None f k h = (k, k)
so-told vs (Some x) f k h = h

pub ways-of : (vs : List Variable) (w : Ways) (old new : State) → ways_now old (Gives w) new → HandSees vs old → TellsOf vs old → IsFlowOf vs w.yes × IsFlowOf vs w.no
unfolding ◌▷◌ gives_some
ways-of vs w old new (f, a, (u, b, (last, first), (is, same)), (are, second)) hand h =
    subst (λ (x : Ways). IsFlowOf vs x.yes × IsFlowOf vs x.no) (sym are)
    (so-told vs a.ways f (subst (IsFlowOf vs) (sym is) (hand u last)) (subst (λ (s : State). TellsOf vs s) (sym (same ∙ first)) h))

-- a variable is narrowed by its name
pub of-narrowed : (vs ws : List Variable) (name : Name) (t : Option Shared) → AllZip IsSameVariable vs ws → AllZip IsSameVariable vs (narrowed_by_name ws name t)
of-narrowed [] [] name t h = tt
of-narrowed (v ∷ vs) (w ∷ ws) name t h = by (of-narrowed vs ws name t h.1) (is_same_text w.name name)
  where
    by : AllZip IsSameVariable vs (narrowed_by_name ws name t) → (b : Bool) → AllZip IsSameVariable (v ∷ vs) (if b then with_narrowed w t ∷ ws else w ∷ narrowed_by_name ws name t)
    by rest true = (let s : IsSameVariable v w = h.0 in record { name = s.name; slot = s.slot; declared = s.declared; fixed = s.fixed; assigned = s.assigned; captured = s.captured }, h.1)
    by rest false = (h.0, rest)
of-narrowed [] (w ∷ ws) name t h = absurd h
of-narrowed (v ∷ vs) [] name t h = absurd h

-- ---- joins

pub variables-themselves : (vs : List Variable) → AllZip IsSameVariable vs vs
variables-themselves [] = tt
variables-themselves (v ∷ vs) = (record { name = refl; slot = refl; declared = refl; fixed = refl; assigned = refl; captured = refl }, variables-themselves vs)

-- by place
zip-by-place : (xs ys : List Variable) → length ys ≡ length xs → ((i : ℕ) (x : Variable) → i < length xs → slice_get xs i ≡ Some x → IsSomeAnd (slice_get ys i) (IsSameVariable x))
    → AllZip IsSameVariable xs ys
zip-by-place [] [] long each = tt
zip-by-place [] (y ∷ ys) long each = absurd (omega (arith, long))
zip-by-place (x ∷ xs) [] long each = absurd (omega (arith, long))
zip-by-place (x ∷ xs) (y ∷ ys) long each =
    (each 0 x (omega arith) refl, zip-by-place xs ys (omega (arith, long)) (λ i z lt e. each (suc i) z (omega (arith, lt)) e))

there : (vs : List Variable) (i : ℕ) → i < length vs → (v : Variable) × (slice_get vs i ≡ Some v)
there (v ∷ vs) zero lt = (v, refl)
there (v ∷ vs) (suc i) lt = there vs i (omega (arith, lt))
there [] i lt = absurd (omega (arith, lt))

-- where two ways meet the variables are those of the first one
pub join-of : (vs : List Variable) (env : Atoms) (f g h : Flow) → IsJoin env f g h → IsFlowOf vs f → IsFlowOf vs h
join-of vs env f g h join of = variables-through vs f.variables h.variables of (zip-by-place f.variables h.variables join.variables.length each)
  where
    each : (i : ℕ) (x : Variable) → i < length f.variables → slice_get f.variables i ≡ Some x → IsSomeAnd (slice_get h.variables i) (IsSameVariable x)
    each i x lt e =
        let (w, ew) = there g.variables i (let many = join.as_many in omega (arith, lt, many)) in
        let (u, eu) = there h.variables i (let many = join.variables.length in omega (arith, lt, many)) in
        let j : IsJoined env (joins f.reached g.reached) x w u =
        subst (λ o. IsSomeAnd o (IsJoined env (joins f.reached g.reached) x w)) eu (join.variables.each i x w lt e ew) in
        subst (λ o. IsSomeAnd o (IsSameVariable x)) (sym eu) j.same
