-- Units of anonymous functions: where they begin, and what they capture.
use Rattle.std.proofs.Common.{◌≡◌, ◌≤◌, ◌+◌, ◌∙◌, ◌++◌, ℕ, suc, Bool, true, false, List, [], ◌∷◌, length, map, All, Option, None, Some, arith, length-append, refl, sym, subst, ap}
use Rattle.std.specs.Prelude.{fold, if◌then◌else◌}
use Rattle.std.specs.List.{AllZip}
use Rattle.std.proofs.lemmas.List.{length-map}
use Rattle.std.proofs.lemmas.List.Elements.{All-append, All-cons, All-nil, length_all_zip}
use Rattle.bal_base.specs.declared.place.Place.{Place}
use Rattle.bal_base.specs.declared.text.Name.{Name}
use Rattle.bal_tree.specs.declared.name.Word.{Word}
use Rattle.bal_tree.specs.declared.types.TypeTree.{TypeTree}
use Rattle.checks.specs.Checks.{Gives, ◌▷◌, gives_some, refuses}
use Rattle.needs.specs.Needs.{asks, does}
use Rattle.descriptors.specs.declared.names.Names.{Names}
use Rattle.typed_tree.specs.SharedTypes.{Shared}
use Rattle.flow_narrowing.specs.declared.flow.Variable.{Variable}
use Rattle.check_words.specs.Calls.{Capture, begins_anonymous, begins_value, capture_if, captured_as, captures, has_parameter, has_rest, in_function, is_captured, is_new, parameter, with_captured, with_parameter, with_rest}
use Rattle.check_words.specs.Sharing.{SameCaptured, SameShared, SameUnit}
use Rattle.check_words.specs.State.{IsLast, State, UnitAtWork, all_but, find_variable, replaced, shared_now}
use Rattle.check_words.specs.Values.{describes}
use Rattle.check_words.specs.Words.{by_handles, sets_unit}
use Rattle.typed_needs.proofs.Placed.{all-but-last, last-same}
use Rattle.flow_needs.specs.Quiet.{KnowsSame}
use Rattle.flow_needs.proofs.InTurn.{AreInTurn, turn-more, turn-same}
use Rattle.flow_needs.proofs.Quieting.{knows-itself}

-- ---- a unit above those that there were

-- Its variables stand in its slots, one in each, as these are declared, and all are parameters.
pub record Inside (old s : State) : Type 0 where
  pub outer : List UnitAtWork
  pub unit : UnitAtWork
  pub units : s.units ≡ outer ++ unit ∷ []
  pub each : AllZip KnowsSame old.units outer
  pub found : s.found ≡ old.found
  pub turn : AreInTurn 0 unit.flow.variables unit.slots
  pub many : length unit.slots ≡ unit.params

inside-same : (old s t : State) → t.units ≡ s.units → t.found ≡ s.found → Inside old s → Inside old t
inside-same old s t units found h =
    record { outer = h.outer; unit = h.unit; units = units ∙ h.units; each = h.each; found = found ∙ h.found; turn = h.turn; many = h.many }

turn-by-handles : (u v : UnitAtWork) → SameUnit u v → AreInTurn 0 u.flow.variables u.slots → AreInTurn 0 v.flow.variables v.slots
turn-by-handles u v same h = turn-same 0 u.flow.variables v.flow.variables u.slots v.slots same.flow.variables same.slots h

unit-put : (next : UnitAtWork) (a : Unit {0}) (old new : State) → sets_unit next old (Gives a) new → (z : UnitAtWork) × SameUnit next z × (new ≡ record old { units = replaced old.units z })
unfolding ◌▷◌ by_handles does
unit-put next a old new (z, mid, (same, first), is) = (z, same, is ∙ ap (λ (s : State). record s { units = replaced s.units z }) first)

put-last : (us outer : List UnitAtWork) (v z : UnitAtWork) → us ≡ outer ++ v ∷ [] → replaced us z ≡ outer ++ z ∷ []
put-last us outer v z is = ap (λ ws. all_but 1 ws ++ z ∷ []) is ∙ ap (λ ws. ws ++ z ∷ []) (all-but-last outer v)

-- a parameter more
inside-set : (old s t : State) (next z : UnitAtWork) (h : Inside old s) → SameUnit next z → AreInTurn 0 next.flow.variables next.slots → length next.slots ≡ next.params
    → t.units ≡ replaced s.units z → t.found ≡ s.found → Inside old t
inside-set old s t next z h same turn many units found =
    let long = length_all_zip SameShared next.slots z.slots same.slots in let params = same.params in
    record {
      outer = h.outer;
      unit = z;
      units = units ∙ put-last s.units h.outer h.unit z h.units;
      each = h.each;
      found = found ∙ h.found;
      turn = turn-by-handles next z same turn;
      many = omega (arith, long, params, many);
    }

-- ---- where it begins

pub entered : (old new : State) → begins_anonymous old (Gives tt) new → Inside old new
unfolding ◌▷◌ gives_some by_handles does
entered old new (around, s1, (last, e1), (n, s2, (k, a, (is, e2), (u, b, e3, (same-n, e4))), (v, c, (same, e5), e6))) =
    let all : s2.units ≡ old.units = ap (λ (s : State). s.units) e4 ∙ ap (λ (s : State). s.units) e3 ∙ ap (λ (s : State). s.units) e2 ∙ ap (λ (s : State). s.units) e1 in
    let parts : s2.found ≡ old.found = ap (λ (s : State). s.found) e4 ∙ ap (λ (s : State). s.found) e3 ∙ ap (λ (s : State). s.found) e2 ∙ ap (λ (s : State). s.found) e1 in
    let long = length_all_zip SameShared [] v.slots same.slots in let params = same.params in
    record {
      outer = old.units;
      unit = v;
      units = ap (λ (s : State). s.units) e6 ∙ ap (λ (s : State). s.units ++ v ∷ []) e5 ∙ ap (λ us. us ++ v ∷ []) all;
      each = knows-itself old.units;
      found = ap (λ (s : State). s.found) e6 ∙ ap (λ (s : State). s.found) e5 ∙ parts;
      turn = turn-same 0 [] v.flow.variables [] v.slots same.flow.variables same.slots tt;
      many = omega (arith, long, params);
    }

-- ---- what is between

new-same : (w : Word) (old new : State) (a : Unit {0}) → is_new w old (Gives a) new → new ≡ old
unfolding ◌▷◌ gives_some refuses
new-same w old new a (true, s, (is, e), met) = absurd met
new-same w old new a (false, s, (is, e), (same, e2)) = e2 ∙ e

pub described : (names : Names) (tree : TypeTree) (old s t : State) → describes names tree s (Gives tt) t → Inside old s → Inside old t
unfolding ◌▷◌ gives_some asks by_handles does
described names tree old s t (scope, a, (is, first), (x, b, (asked, second), (u, c, (copy, third), (w, d, (same, fourth), fifth)))) h =
    inside-same old s t
    (ap (λ (z : State). z.units) fifth ∙ ap (λ (z : State). z.units) fourth ∙ ap (λ (z : State). z.units) third ∙ ap (λ (z : State). z.units) second ∙ ap (λ (z : State). z.units) first)
    (ap (λ (z : State). z.found) fifth ∙ ap (λ (z : State). z.found) fourth ∙ ap (λ (z : State). z.found) third ∙ ap (λ (z : State). z.found) second ∙ ap (λ (z : State). z.found) first)
    h

with-one : (u : UnitAtWork) (name : Name) (t : Shared) → AreInTurn 0 u.flow.variables u.slots → (let p = with_parameter name t u in AreInTurn 0 p.flow.variables p.slots)
with-one u name t h =
    turn-more 0 (length u.slots) u.flow.variables (parameter name (length u.slots) t false ∷ []) u.slots (t ∷ []) (omega arith) h (refl, refl, refl, tt)

pub parameter-added : (w : Word) (old s t : State) → has_parameter w s (Gives tt) t → Inside old s → Inside old t
unfolding ◌▷◌ gives_some does
parameter-added w old s t (u, s1, new-step, (x, s2, (last-want, e2), (v, s3, e3, (unit, s4, (last, e4), set)))) h =
    let (z, same, put) = unit-put (with_parameter w.name x unit) tt s4 t set in
    let e1 : s1 ≡ s = new-same w s s1 u new-step in
    let units-3 : s3.units ≡ s.units = ap (λ (y : State). y.units) e3 ∙ ap (λ (y : State). y.units) e2 ∙ ap (λ (y : State). y.units) e1 in
    let found-3 : s3.found ≡ s.found = ap (λ (y : State). y.found) e3 ∙ ap (λ (y : State). y.found) e2 ∙ ap (λ (y : State). y.found) e1 in
    let units-4 : s4.units ≡ s.units = ap (λ (y : State). y.units) e4 ∙ units-3 in
    let one : unit ≡ h.unit = last-same s.units unit h.unit (subst (λ us. IsLast us unit) units-3 last) (record { kept = h.outer; is = h.units }) in
    let turn : AreInTurn 0 unit.flow.variables unit.slots = subst (λ (y : UnitAtWork). AreInTurn 0 y.flow.variables y.slots) (sym one) h.turn in
    let many : length unit.slots ≡ unit.params = subst (λ (y : UnitAtWork). length y.slots ≡ y.params) (sym one) h.many in
    let more = length-append unit.slots (x ∷ []) in
    inside-set old s t (with_parameter w.name x unit) z h same (with-one unit w.name x turn) (omega (arith, more, many))
    (ap (λ (y : State). y.units) put ∙ ap (λ us. replaced us z) units-4) (ap (λ (y : State). y.found) put ∙ ap (λ (y : State). y.found) e4 ∙ found-3)

pub rest-added : (w : Word) (old s t : State) → has_rest w s (Gives tt) t → Inside old s → Inside old t
unfolding ◌▷◌ gives_some does asks
rest-added w old s t (u, s1, new-step, (x, s2, (last-want, e2), (v, s3, e3, (atom, s4, (asked, e4), (l, s5, (is-list, e5), (unit, s6, (last, e6), set)))))) h =
    let (z, same, put) = unit-put (with_rest w.name l atom x unit) tt s6 t set in
    let e1 : s1 ≡ s = new-same w s s1 u new-step in
    let units-5 : s5.units ≡ s.units =
    ap (λ (y : State). y.units) e5 ∙ ap (λ (y : State). y.units) e4 ∙ ap (λ (y : State). y.units) e3 ∙ ap (λ (y : State). y.units) e2 ∙ ap (λ (y : State). y.units) e1 in
    let found-5 : s5.found ≡ s.found =
    ap (λ (y : State). y.found) e5 ∙ ap (λ (y : State). y.found) e4 ∙ ap (λ (y : State). y.found) e3 ∙ ap (λ (y : State). y.found) e2 ∙ ap (λ (y : State). y.found) e1 in
    let units-6 : s6.units ≡ s.units = ap (λ (y : State). y.units) e6 ∙ units-5 in
    let one : unit ≡ h.unit = last-same s.units unit h.unit (subst (λ us. IsLast us unit) units-5 last) (record { kept = h.outer; is = h.units }) in
    let turn : AreInTurn 0 unit.flow.variables unit.slots = subst (λ (y : UnitAtWork). AreInTurn 0 y.flow.variables y.slots) (sym one) h.turn in
    let many : length unit.slots ≡ unit.params = subst (λ (y : UnitAtWork). length y.slots ≡ y.params) (sym one) h.many in
    let more = length-append unit.slots (l ∷ []) in
    inside-set old s t (with_rest w.name l atom x unit) z h same (with-one unit w.name l turn) (omega (arith, more, many))
    (ap (λ (y : State). y.units) put ∙ ap (λ us. replaced us z) units-6) (ap (λ (y : State). y.found) put ∙ ap (λ (y : State). y.found) e6 ∙ found-5)

-- ---- what is captured

-- each is found by a name
abbrev pub IsFoundIn : List Variable → Capture → Type 0
IsFoundIn vs c = (name : Name) × (find_variable vs name ≡ Some c.0)

capture-found : (vs : List Variable) (name : Name) (at : Place) (done : List Capture) (o : Option Variable) → find_variable vs name ≡ o → All (IsFoundIn vs) done
    → All (IsFoundIn vs) (capture_if done at o)
capture-found vs name at done None e h = h
capture-found vs name at done (Some v) e h = by (is_captured done v.name)
  where
    by : (b : Bool) → All (IsFoundIn vs) (if b then done else done ++ (v, at) ∷ [])
    by true = h
    by false = All-append (IsFoundIn vs) done ((v, at) ∷ []) h (All-cons (IsFoundIn vs) (v, at) [] (name, e) (All-nil (IsFoundIn vs)))

captures-from : (vs : List Variable) (uses : List Word) (done : List Capture) → All (IsFoundIn vs) done
    → All (IsFoundIn vs) (fold (λ done u. capture_if done u.at (find_variable vs u.name)) done uses)
captures-from vs [] done h = h
captures-from vs (u ∷ uses) done h =
    captures-from vs uses (capture_if done u.at (find_variable vs u.name)) (capture-found vs u.name u.at done (find_variable vs u.name) refl h)

pub captures-found : (vs : List Variable) (uses : List Word) → All (IsFoundIn vs) (captures vs uses)
captures-found vs uses = captures-from vs uses [] (All-nil (IsFoundIn vs))

function-turn : (slot : ℕ) (cs : List Capture) → AreInTurn slot (in_function slot cs) (map (λ c. shared_now c.0) cs)
function-turn slot [] = tt
function-turn slot (c ∷ cs) = (refl, refl, refl, function-turn (suc slot) cs)

-- the unit with its captured variables, behind its parameters
pub record Valued (old : State) (uses : List Word) (t : State) : Type 0 where
  pub outer : List UnitAtWork
  pub unit : UnitAtWork
  pub units : t.units ≡ outer ++ unit ∷ []
  pub each : AllZip KnowsSame old.units outer
  pub found : t.found ≡ old.found
  pub turn : AreInTurn 0 unit.flow.variables unit.slots
  pub many : length unit.slots ≡ unit.params + length unit.captured
  pub around : UnitAtWork
  pub at_hand : IsLast outer around
  pub captured : AllZip SameCaptured (map captured_as (captures around.flow.variables uses)) unit.captured
  pub wanted : 1 ≤ length t.wants

last-there : {A : Type 0} (xs : List A) (x : A) → IsLast xs x → 1 ≤ length xs
last-there xs x last = let e = ap length last.is in let more = length-append last.kept (x ∷ []) in omega (arith, e, more)

pub valued : (uses : List Word) (old s t : State) → begins_value uses s (Gives tt) t → Inside old s → Valued old uses t
unfolding ◌▷◌ gives_some
valued uses old s t (x, s1, (want, e1), (a, s2, (last-a, e2), (unit, s3, (last-u, e3), set))) h =
    let cs : List Capture = captures a.flow.variables uses in
    let next : UnitAtWork = with_captured cs x unit in
    let (z, same, put) = unit-put next tt s3 t set in
    let units-1 : s1.units ≡ s.units = ap (λ (y : State). y.units) e1 in
    let units-2 : s2.units ≡ s.units = ap (λ (y : State). y.units) e2 ∙ units-1 in
    let units-3 : s3.units ≡ s.units = ap (λ (y : State). y.units) e3 ∙ units-2 in
    let one : unit ≡ h.unit = last-same s.units unit h.unit (subst (λ us. IsLast us unit) units-2 last-u) (record { kept = h.outer; is = h.units }) in
    let turn : AreInTurn 0 unit.flow.variables unit.slots = subst (λ (y : UnitAtWork). AreInTurn 0 y.flow.variables y.slots) (sym one) h.turn in
    let many : length unit.slots ≡ unit.params = subst (λ (y : UnitAtWork). length y.slots ≡ y.params) (sym one) h.many in
    let all : all_but 1 s1.units ≡ h.outer = ap (λ us. all_but 1 us) (units-1 ∙ h.units) ∙ all-but-last h.outer h.unit in
    let turn-all : AreInTurn 0 next.flow.variables next.slots =
    turn-more 0 (length unit.slots) unit.flow.variables (in_function (length unit.slots) cs) unit.slots (map (λ c. shared_now c.0) cs) (omega arith) turn (function-turn (length unit.slots) cs) in
    let long = length_all_zip SameShared next.slots z.slots same.slots in
    let held = length_all_zip SameCaptured next.captured z.captured same.captured in
    let more = length-append unit.slots (map (λ c. shared_now c.0) cs) in
    let of-slots = length-map cs (λ c. shared_now c.0) in
    let of-captured = length-map cs captured_as in
    let params = same.params in
    record {
      outer = h.outer;
      unit = z;
      units = ap (λ (y : State). y.units) put ∙ ap (λ us. replaced us z) units-3 ∙ put-last s.units h.outer h.unit z h.units;
      each = h.each;
      found = ap (λ (y : State). y.found) put ∙ ap (λ (y : State). y.found) e3 ∙ ap (λ (y : State). y.found) e2 ∙ ap (λ (y : State). y.found) e1 ∙ h.found;
      turn = turn-by-handles next z same turn-all;
      many = omega (arith, long, held, more, of-slots, of-captured, params, many);
      around = a;
      at_hand = subst (λ us. IsLast us a) all last-a;
      captured = same.captured;
      wanted = last-there t.wants (Some x) (subst (λ ws. IsLast ws (Some x))
          (sym (ap (λ (y : State). y.wants) put ∙ ap (λ (y : State). y.wants) e3 ∙ ap (λ (y : State). y.wants) e2 ∙ ap (λ (y : State). y.wants) e1)) want);
    }
