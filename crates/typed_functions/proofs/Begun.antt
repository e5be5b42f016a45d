-- A function at work, from where it begins to where its value does.
use Rattle.std.proofs.Common.{◌≡◌, ◌∙◌, ◌++◌, ◌+◌, ℕ, suc, false, List, [], ◌∷◌, length, map, All, Option, Some, None, append-nil, append_assoc, arith, length-append, refl, sym, subst, ap}
use Rattle.std.specs.Prelude.{slice_get}
use Rattle.std.specs.List.{AllZip}
use Rattle.std.proofs.lemmas.List.{length-map}
use Rattle.std.proofs.lemmas.List.Elements.{All-append, All-cons, All-nil}
use Rattle.bal_base.specs.declared.text.Name.{Name}
use Rattle.bal_tree.specs.declared.name.Word.{Word}
use Rattle.checks.specs.Checks.{Gives, gives_some, ◌▷◌}
use Rattle.needs.specs.Needs.{does}
use Rattle.operations.specs.Rows.{Surroundings}
use Rattle.type_model.specs.declared.basic.SemType.{SemType}
use Rattle.typed_tree.specs.SharedTypes.{Shared, sem_of}
use Rattle.flow_narrowing.specs.declared.flow.Variable.{Variable}
use Rattle.check_words.specs.Calls.{Capture, begins_anonymous, begins_value, captured_as, captures, has_parameter, has_rest, in_function, parameter, with_captured, with_parameter, with_rest}
use Rattle.check_words.specs.Sharing.{SameCaptured, SameShared, SameUnit}
use Rattle.check_words.specs.State.{IsLast, State, UnitAtWork, all_but, replaced, shared_now}
use Rattle.check_words.specs.Words.{by_handles, sets_unit}
use Rattle.calm_needs.proofs.Calming.{same-stored}
use Rattle.typed_needs.proofs.Going.{types-same}
use Rattle.typed_needs.proofs.Placed.{all-but-last, get-behind, last-same}
use Rattle.typed_functions.proofs.Beside.{IsBeside, beside-asking, beside-new, beside-no-more, beside-number, beside-on, beside-same, unit-set-so}
use Rattle.typed_functions.proofs.Captures.{InSlots, captured-in, more-slots, types-append, types_of}

-- the last one is another one then
last-replaced : (us kept : List UnitAtWork) (u v : UnitAtWork) → us ≡ kept ++ u ∷ [] → replaced us v ≡ kept ++ v ∷ []
last-replaced us kept u v is = ap (λ xs. replaced xs v) is ∙ ap (λ xs. xs ++ v ∷ []) (all-but-last kept u)

-- by other handles there are as many slots
slots-long : (ts us : List Shared) → AllZip SameShared ts us → length us ≡ length ts
slots-long ts us h = sym (length-map us sem_of) ∙ ap (λ (xs : List SemType). length xs) (types-same ts us h) ∙ length-map ts sem_of

-- the variables of a unit are in its slots
abbrev pub AreIn : Surroundings → UnitAtWork → Type 0
AreIn place u = All (InSlots place (map sem_of u.slots)) u.flow.variables

pub by-handles : (place : Surroundings) (u v : UnitAtWork) → SameUnit u v → AreIn place u → AreIn place v
by-handles place u v same h =
    let slots : map sem_of v.slots ≡ map sem_of u.slots = types-same u.slots v.slots same.slots in
    subst (λ xs. All (InSlots place xs) v.flow.variables) (sym slots)
    (same-stored (record place { slots = map sem_of u.slots }) u.flow.variables v.flow.variables same.flow.variables h)

-- The unit of a function stands on those that were there: it has a slot for each parameter, and no others, and in them are the variables that are seen in it.
pub record IsOpen (place : Surroundings) (base s : State) : Type 0 where
  pub unit : UnitAtWork
  pub units : s.units ≡ base.units ++ unit ∷ []
  pub params : length unit.slots ≡ unit.params
  pub stored : AreIn place unit
  pub found : s.found ≡ base.found
  pub ways : s.ways ≡ None
  pub choices : s.choices ≡ base.choices

pub open-beside : (place : Surroundings) (base s t : State) → IsBeside s t → IsOpen place base s → IsOpen place base t
open-beside place base s t b h =
    record { unit = h.unit; units = b.units ∙ h.units; params = h.params; stored = h.stored; found = b.found ∙ h.found; ways = b.ways ∙ h.ways; choices = b.choices ∙ h.choices }

-- ---- where it begins

pub begun : (place : Surroundings) (base new : State) → begins_anonymous base (Gives tt) new → IsOpen place base new
unfolding ◌▷◌ gives_some by_handles does
begun place base new (around, s1, (last, e1), (n, s2, numbered, (v, s3, (same, e3), is))) =
    let beside : IsBeside base s3 =
    beside-on base s1 s3 (beside-same base s1 e1) (beside-on s1 s2 s3 (beside-number s1 s2 n numbered) (beside-same s2 s3 e3)) in
    let long : length v.slots ≡ 0 = slots-long [] v.slots same.slots in
    record {
      unit = v;
      units = ap (λ (s : State). s.units) is ∙ ap (λ us. us ++ v ∷ []) beside.units;
      params = long ∙ sym same.params;
      stored = same-stored (record place { slots = map sem_of v.slots }) [] v.flow.variables same.flow.variables (All-nil _);
      found = ap (λ (s : State). s.found) is ∙ beside.found;
      ways = ap (λ (s : State). s.ways) is;
      choices = ap (λ (s : State). s.choices) is ∙ beside.choices;
    }

-- ---- parameters

-- a unit with one parameter more
record HasOneMore (u v : UnitAtWork) : Type 0 where
  pub name : Name
  pub type : Shared
  pub slots : v.slots ≡ u.slots ++ type ∷ []
  pub params : v.params ≡ suc u.params
  pub variables : v.flow.variables ≡ u.flow.variables ++ parameter name (length u.slots) type false ∷ []

more-in : (place : Surroundings) (u v : UnitAtWork) → HasOneMore u v → AreIn place u → AreIn place v
more-in place u v more h =
    let slots : map sem_of v.slots ≡ map sem_of u.slots ++ sem_of more.type ∷ [] =
    ap (λ (ts : List Shared). map sem_of ts) more.slots ∙ types-append u.slots (more.type ∷ []) in
    let p : Variable = parameter more.name (length u.slots) more.type false in
    let here : slice_get (map sem_of u.slots ++ sem_of more.type ∷ []) (length u.slots) ≡ Some (sem_of more.type) =
    subst (λ n. slice_get (map sem_of u.slots ++ sem_of more.type ∷ []) n ≡ Some (sem_of more.type)) (length-map u.slots sem_of)
    (get-behind (map sem_of u.slots) (sem_of more.type) []) in
    let all : All (InSlots place (map sem_of u.slots ++ sem_of more.type ∷ [])) (u.flow.variables ++ p ∷ []) =
    All-append (InSlots place (map sem_of u.slots ++ sem_of more.type ∷ [])) u.flow.variables (p ∷ [])
    (more-slots place (map sem_of u.slots) (sem_of more.type ∷ []) u.flow.variables h)
    (All-cons (InSlots place (map sem_of u.slots ++ sem_of more.type ∷ [])) p [] here (All-nil _)) in
    subst (λ xs. All (InSlots place xs) v.flow.variables) (sym slots)
    (subst (λ vs. All (InSlots place (map sem_of u.slots ++ sem_of more.type ∷ [])) vs) (sym more.variables) all)

one-more : (place : Surroundings) (base old new : State) (u next : UnitAtWork) (a : Unit {0}) → IsOpen place base old → IsLast old.units u → HasOneMore u next
    → sets_unit next old (Gives a) new → IsOpen place base new
one-more place base old new u next a h last more set =
    let (v, same, is) = unit-set-so next a old new set in
    let one : h.unit ≡ u = last-same old.units h.unit u (record { kept = base.units; is = h.units }) last in
    let params : length u.slots ≡ u.params = subst (λ (w : UnitAtWork). length w.slots ≡ w.params) one h.params in
    let stored : AreIn place u = subst (λ (w : UnitAtWork). AreIn place w) one h.stored in
    let long : length next.slots ≡ suc (length u.slots) =
    (let first = ap (λ (ts : List Shared). length ts) more.slots in let then = length-append u.slots (more.type ∷ []) in omega (arith, first, then)) in
    record {
      unit = v;
      units = ap (λ (s : State). s.units) is ∙ last-replaced old.units base.units h.unit v h.units;
      params = slots-long next.slots v.slots same.slots ∙ long ∙ ap (λ n. suc n) params ∙ sym more.params ∙ sym same.params;
      stored = by-handles place next v same (more-in place u next more stored);
      found = ap (λ (s : State). s.found) is ∙ h.found;
      ways = ap (λ (s : State). s.ways) is ∙ h.ways;
      choices = ap (λ (s : State). s.choices) is ∙ h.choices;
    }

pub parameter-had : (place : Surroundings) (base old new : State) (w : Word) → IsOpen place base old → has_parameter w old (Gives tt) new → IsOpen place base new
unfolding ◌▷◌ gives_some
parameter-had place base old new w h (u, s1, seen, (t, s2, (want, e2), (v, s3, dropped, (unit, s4, (last, e4), set)))) =
    let beside : IsBeside old s3 =
    beside-on old s1 s3 (beside-new w old s1 u seen) (beside-on s1 s2 s3 (beside-same s1 s2 e2) (beside-no-more 1 s2 s3 v dropped)) in
    one-more place base s4 new unit (with_parameter w.name t unit) tt
    (open-beside place base old s4 (beside-on old s3 s4 beside (beside-same s3 s4 e4)) h) (subst (λ (s : State). IsLast s.units unit) (sym e4) last)
    (record { name = w.name; type = t; slots = refl; params = refl; variables = refl }) set

pub rest-had : (place : Surroundings) (base old new : State) (w : Word) → IsOpen place base old → has_rest w old (Gives tt) new → IsOpen place base new
unfolding ◌▷◌ gives_some
rest-had place base old new w h (u, s1, seen, (t, s2, (want, e2), (v, s3, dropped, (atom, s4, asked, (l, s5, (list, e5), (unit, s6, (last, e6), set)))))) =
    let first : IsBeside old s3 =
    beside-on old s1 s3 (beside-new w old s1 u seen) (beside-on s1 s2 s3 (beside-same s1 s2 e2) (beside-no-more 1 s2 s3 v dropped)) in
    let second : IsBeside s3 s6 = beside-on s3 s4 s6 (beside-asking _ s3 s4 atom asked) (beside-on s4 s5 s6 (beside-same s4 s5 e5) (beside-same s5 s6 e6)) in
    one-more place base s6 new unit (with_rest w.name l atom t unit) tt (open-beside place base old s6 (beside-on old s3 s6 first second) h)
    (subst (λ (s : State). IsLast s.units unit) (sym e6) last) (record { name = w.name; type = l; slots = refl; params = refl; variables = refl }) set

-- ---- where its value begins

-- Behind the slots of its parameters it has those of what it captures of the unit around it, and the type that is wanted is its result.
pub record HasBegun (place : Surroundings) (base new : State) : Type 0 where
  pub unit : UnitAtWork
  pub units : new.units ≡ base.units ++ unit ∷ []
  pub around : UnitAtWork
  pub at_hand : IsLast base.units around
  pub uses : List Word
  pub want : Shared
  pub wanted : IsLast new.wants (Some want)
  pub result : SameShared want unit.result
  pub front : List SemType
  pub params : unit.params ≡ length front
  pub slots : map sem_of unit.slots ≡ front ++ types_of (captures around.flow.variables uses)
  pub captured : AllZip SameCaptured (map captured_as (captures around.flow.variables uses)) unit.captured
  pub stored : AreIn place unit
  pub found : new.found ≡ base.found
  pub ways : new.ways ≡ None
  pub choices : new.choices ≡ base.choices

captured-so : (place : Surroundings) (u : UnitAtWork) (cs : List Capture) (t : Shared) → AreIn place u → AreIn place (with_captured cs t u)
captured-so place u cs t h =
    let front : List SemType = map sem_of u.slots in
    let slots : map sem_of (u.slots ++ map (λ (c : Capture). shared_now c.0) cs) ≡ front ++ types_of cs = types-append u.slots (map (λ (c : Capture). shared_now c.0) cs) in
    let these : All (InSlots place (front ++ types_of cs)) (in_function (length u.slots) cs) =
    subst (λ n. All (InSlots place (front ++ types_of cs)) (in_function n cs)) (length-map u.slots sem_of) (captured-in place front cs) in
    subst (λ xs. All (InSlots place xs) (u.flow.variables ++ in_function (length u.slots) cs)) (sym slots)
    (All-append (InSlots place (front ++ types_of cs)) u.flow.variables (in_function (length u.slots) cs) (more-slots place front (types_of cs) u.flow.variables h) these)

pub value-begun : (place : Surroundings) (base old new : State) (uses : List Word) → IsOpen place base old → begins_value uses old (Gives tt) new → HasBegun place base new
unfolding ◌▷◌ gives_some
value-begun place base old new uses h (t, s1, (want, e1), (around, s2, (last, e2), (unit, s3, (hand, e3), set))) =
    let cs : List Capture = captures around.flow.variables uses in
    let all : s3 ≡ old = e3 ∙ e2 ∙ e1 in
    let beside : IsBeside old s3 = beside-same old s3 all in
    let units : s3.units ≡ base.units ++ h.unit ∷ [] = beside.units ∙ h.units in
    let (v, same, is) = unit-set-so (with_captured cs t unit) tt s3 new set in
    let one : h.unit ≡ unit =
    last-same s3.units h.unit unit (record { kept = base.units; is = units }) (subst (λ (s : State). IsLast s.units unit) (sym e3) hand) in
    let params : length unit.slots ≡ unit.params = subst (λ (w : UnitAtWork). length w.slots ≡ w.params) one h.params in
    let stored : AreIn place unit = subst (λ (w : UnitAtWork). AreIn place w) one h.stored in
    let others : all_but 1 s1.units ≡ base.units = ap (λ (s : State). all_but 1 s.units) e1 ∙ ap (λ us. all_but 1 us) h.units ∙ all-but-last base.units h.unit in
    let wants : new.wants ≡ old.wants = ap (λ (s : State). s.wants) is ∙ ap (λ (s : State). s.wants) all in
    record {
      unit = v;
      units = ap (λ (s : State). s.units) is ∙ last-replaced s3.units base.units h.unit v units;
      around = around;
      at_hand = subst (λ us. IsLast us around) others last;
      uses = uses;
      want = t;
      wanted = subst (λ ws. IsLast ws (Some t)) (sym wants) want;
      result = same.result;
      front = map sem_of unit.slots;
      params = same.params ∙ sym params ∙ sym (length-map unit.slots sem_of);
      slots = types-same (unit.slots ++ map (λ (c : Capture). shared_now c.0) cs) v.slots same.slots ∙ types-append unit.slots (map (λ (c : Capture). shared_now c.0) cs);
      captured = same.captured;
      stored = by-handles place (with_captured cs t unit) v same (captured-so place unit cs t stored);
      found = ap (λ (s : State). s.found) is ∙ beside.found ∙ h.found;
      ways = ap (λ (s : State). s.ways) is ∙ beside.ways ∙ h.ways;
      choices = ap (λ (s : State). s.choices) is ∙ beside.choices ∙ h.choices;
    }
