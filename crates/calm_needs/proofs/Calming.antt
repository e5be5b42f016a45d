-- Checks that keep the units in the parts, and that variables that are seen are in slots of their declared types.
use Rattle.std.proofs.Common.{◌≡◌, ◌∙◌, ◌++◌, ℕ, Bool, true, false, List, [], ◌∷◌, length, All, Option, Some, IfSome, append-nil, append_assoc, arith, refl, sym, subst, ap}
use Rattle.std.specs.Prelude.{slice_get}
use Rattle.std.specs.List.{AllZip}
use Rattle.std.proofs.lemmas.List.Elements.{All-cons, All-head, All-nil, All-tail}
use Rattle.bal_base.specs.declared.fault.Fault.{Fault}
use Rattle.bal_base.specs.declared.fault.FaultCode.{FaultCode}
use Rattle.bal_base.specs.declared.place.Place.{Place}
use Rattle.checks.specs.Checks.{Check, Gives, ◌▷◌, either, gives_some, refuses}
use Rattle.needs.specs.Needs.{asks, does}
use Rattle.operations.specs.Rows.{Surroundings}
use Rattle.type_model.specs.declared.atoms.AtomDef.{AtomDef}
use Rattle.type_model.specs.declared.basic.Ty.{Ty}
use Rattle.typed_tree.specs.declared.expr.TypedExpr.{TypedExpr}
use Rattle.typed_tree.specs.SharedTypes.{Shared}
use Rattle.flow_narrowing.specs.declared.flow.Variable.{Variable}
use Rattle.check_words.specs.Sharing.{SameVariable}
use Rattle.check_words.specs.State.{AreLast, ConstructorAtWork, IsLast, State, UnitAtWork, all_but, replaced}
use Rattle.check_words.specs.Words.{Atoms, asking, becomes, by_handles, closes_constructor, fails, flow_now, makes, new_slot, opens_constructor, sets_constructor, sets_unit, unless, wants as wanting, wants_no_more, wants_some}
use Rattle.check_words.proofs.LastOnes.{kept-is}
use Rattle.typed_needs.specs.Between.{WaysAreStored, units_in}
use Rattle.typed_needs.specs.Placing.{AreStored, IsStored}
use Rattle.typed_needs.proofs.Placed.{all-but-last, last-same}
use Rattle.typed_needs.specs.Going.{IsSameUnit}
use Rattle.typed_needs.proofs.Going.{each-itself, each-last, each-then, unit-by-handles, with-slot}
use Rattle.typed_needs.proofs.Questions.{AddsBehind}
use Rattle.calm_needs.specs.Calm.{IsCalm, StaysOn}
use Rattle.calm_needs.proofs.Flows.{keeps-itself, keeps-on, keeps-telling-none, keeps-unit, keeps-with}
use Rattle.check_words.proofs.Same.{same-flow}
use Rattle.calm_needs.proofs.PlacedParts.{one-units, units-append, units_of}

-- ---- states

pub on-itself : (s : State) → StaysOn s s
on-itself s = record { more = []; atoms = sym (append-nil s.atoms); each = each-itself s.units }

pub on-on : (r s t : State) → StaysOn r s → StaysOn s t → StaysOn r t
on-on r s t f g =
    record {
      more = f.more ++ g.more;
      atoms = g.atoms ∙ ap (λ xs. xs ++ g.more) f.atoms ∙ append_assoc r.atoms f.more g.more;
      each = each-then r.units s.units t.units f.each g.each;
    }

-- where units are as they were, and some atoms come
pub on-with : (s t : State) (more : List AtomDef) → t.atoms ≡ s.atoms ++ more → t.units ≡ s.units → StaysOn s t
on-with s t more atoms units = record { more = more; atoms = atoms; each = subst (λ us. AllZip IsSameUnit s.units us) (sym units) (each-itself s.units) }

pub on-beside : (s t : State) → t.atoms ≡ s.atoms → t.units ≡ s.units → StaysOn s t
on-beside s t atoms units = on-with s t [] (atoms ∙ sym (append-nil s.atoms)) units

pub calm-itself : (s : State) → IsCalm s s
calm-itself s = record { on = on-itself s; units = refl; stored = λ place h. h; keeps = keeps-itself s }

pub calm-same : (s t : State) → t ≡ s → IsCalm s t
calm-same s t e = subst (λ (x : State). IsCalm s x) (sym e) (calm-itself s)

pub calm-on : (r s t : State) → IsCalm r s → IsCalm s t → IsCalm r t
calm-on r s t f g =
    record {
      on = on-on r s t f.on g.on;
      units = g.units ∙ f.units;
      stored = λ place h. g.stored place (f.stored place h);
      keeps = keeps-on r s t f.keeps g.keeps;
    }

-- the same units at hand
pub stored-by : (place : Surroundings) (s t : State) → t.units ≡ s.units → AreStored place s → AreStored place t
stored-by place s t units h = record { unit = h.unit; at_hand = subst (λ us. IsLast us h.unit) (sym units) h.at_hand; variables = h.variables }

-- with other atoms behind those that are there
pub calm-with : (s t : State) → StaysOn s t → t.found ≡ s.found → t.units ≡ s.units → t.ways ≡ s.ways → t.choices ≡ s.choices → IsCalm s t
calm-with s t on found units ways choices =
    record {
      on = on;
      units = ap (λ (xs : List TypedExpr). units_in xs) found;
      stored = λ place h. record { stored = stored-by place s t units h.stored; ways = subst (λ w. IfSome w (WaysAreStored place)) (sym ways) h.ways };
      keeps = keeps-with s t units choices ways;
    }

pub calm-beside : (s t : State) → t.atoms ≡ s.atoms → t.found ≡ s.found → t.units ≡ s.units → t.ways ≡ s.ways → t.choices ≡ s.choices → IsCalm s t
calm-beside s t atoms found units ways choices = calm-with s t (on-beside s t atoms units) found units ways choices

-- ---- checks

abbrev pub Calm : {A : Type 0} → Check State A → Type 0
Calm {A} m = (old new : State) (a : A) → m old (Gives a) new → IsCalm old new

pub calm-then : {A B : Type 0} (m : Check State A) (next : A → Check State B) → Calm m → ((a : A) → Calm (next a)) → Calm (m ▷ next)
unfolding ◌▷◌
calm-then m next f g old new b (a, mid, x, y) = calm-on old mid new (f old mid a x) (g a mid new b y)

pub calm-some : {A : Type 0} (P : State → A → Type 0) → Calm (gives_some P)
unfolding gives_some
calm-some P old new a (x, e) = calm-same old new e

pub calm-refuses : {A : Type 0} (P : State → Fault → Type 0) → Calm (refuses {S = State} {A = A} P)
unfolding refuses
calm-refuses P old new a x = absurd x

pub calm-fails : {A : Type 0} (code : FaultCode) (at : Place) → Calm (fails {A = A} code at)
calm-fails code at = calm-refuses _

pub calm-unless : (b : Bool) (code : FaultCode) (at : Place) → Calm (unless b code at)
calm-unless true code at = calm-some _
calm-unless false code at = calm-fails code at

pub calm-either : {A : Type 0} (b : Bool) (m n : Check State A) → Calm m → Calm n → Calm (either b m n)
calm-either true m n f g = f
calm-either false m n f g = g

pub calm-becomes : (change : State → State) → ((s : State) → IsCalm s (change s)) → Calm (becomes change)
unfolding does
calm-becomes change f old new a e = subst (λ (x : State). IsCalm old x) (sym e) (f old)

pub calm-handles : {A : Type 0} (Same : A → A → Type 0) (a : A) → Calm (by_handles Same a)
unfolding by_handles
calm-handles Same a old new b (x, e) = calm-same old new e

pub calm-asking : {A : Type 0} (q : Check Atoms A) → AddsBehind q → Calm (asking q)
unfolding asks
calm-asking q behind old new a (asked, e) =
    let (more, is) = behind old.atoms new.atoms a asked in
    calm-with old new (on-with old new more is (ap (λ (s : State). s.units) e)) (ap (λ (s : State). s.found) e) (ap (λ (s : State). s.units) e) (ap (λ (s : State). s.ways) e) (ap (λ (s : State). s.choices) e)

-- ---- parts and what is wanted

-- the units of what is made are those of what it is made of
pub units-made : (count : ℕ) (old new : State) (parts : List TypedExpr) (e : TypedExpr) → AreLast old.found count parts → new.found ≡ all_but count old.found ++ e ∷ []
    → units_of e ≡ units_in parts → units_in new.found ≡ units_in old.found
units-made count old new parts e last is made =
    ap (λ (xs : List TypedExpr). units_in xs) (is ∙ ap (λ xs. xs ++ e ∷ []) (kept-is count old.found last.kept parts last.is last.many))
    ∙ units-append last.kept (e ∷ []) ∙ ap (λ l. units_in last.kept ++ l) (one-units e ∙ made) ∙ sym (units-append last.kept parts)
    ∙ ap (λ (xs : List TypedExpr). units_in xs) (sym last.is)

pub calm-makes : (count : ℕ) (P : Atoms → List TypedExpr → TypedExpr → Type 0)
    → ((env : Atoms) (parts : List TypedExpr) (e : TypedExpr) → P env parts e → units_of e ≡ units_in parts) → Calm (makes count P)
unfolding does
calm-makes count P view old new a (parts, last, e, x, is) =
    record {
      on = on-beside old new (ap (λ (s : State). s.atoms) is) (ap (λ (s : State). s.units) is);
      units = units-made count old new parts e last (ap (λ (s : State). s.found) is) (view old.atoms parts e x);
      stored = λ place h.
          record {
            stored = stored-by place old new (ap (λ (s : State). s.units) is) h.stored;
            ways = subst (λ w. IfSome w (WaysAreStored place)) (sym (ap (λ (s : State). s.ways) is)) tt;
          };
      keeps = keeps-telling-none old new (ap (λ (s : State). s.units) is) (ap (λ (s : State). s.choices) is) (ap (λ (s : State). s.ways) is);
    }

-- of nothing
pub calm-none : (P : Atoms → List TypedExpr → TypedExpr → Type 0) → ((env : Atoms) (parts : List TypedExpr) (e : TypedExpr) → P env parts e → units_of e ≡ []) → Calm (makes 0 P)
unfolding does
calm-none P view old new a (parts, last, e, x, is) =
    record {
      on = on-beside old new (ap (λ (s : State). s.atoms) is) (ap (λ (s : State). s.units) is);
      units = units-made 0 old new parts e last (ap (λ (s : State). s.found) is) (view old.atoms parts e x ∙ sym (ap (λ (xs : List TypedExpr). units_in xs) (no-parts parts last.many)));
      stored = λ place h.
          record {
            stored = stored-by place old new (ap (λ (s : State). s.units) is) h.stored;
            ways = subst (λ w. IfSome w (WaysAreStored place)) (sym (ap (λ (s : State). s.ways) is)) tt;
          };
      keeps = keeps-telling-none old new (ap (λ (s : State). s.units) is) (ap (λ (s : State). s.choices) is) (ap (λ (s : State). s.ways) is);
    }
  where
    no-parts : (xs : List TypedExpr) → length xs ≡ 0 → xs ≡ []
    no-parts [] e = refl
    no-parts (x ∷ xs) e = absurd (omega (arith, e))

pub calm-wants : (w : Option Shared) → Calm (wanting w)
calm-wants w = calm-then _ _ (calm-handles _ _) (λ x. calm-becomes _ (λ s. calm-beside s _ refl refl refl refl refl))

pub calm-wants-some : (P : Atoms → Ty → Type 0) → Calm (wants_some P)
calm-wants-some P = calm-then _ _ (calm-some _) (λ t. calm-wants (Some t))

pub calm-no-more : (count : ℕ) → Calm (wants_no_more count)
calm-no-more count = calm-becomes _ (λ s. calm-beside s _ refl refl refl refl refl)

pub calm-opens-constructor : (c : ConstructorAtWork) → Calm (opens_constructor c)
calm-opens-constructor c = calm-becomes _ (λ s. calm-beside s _ refl refl refl refl refl)

pub calm-sets-constructor : (c : ConstructorAtWork) → Calm (sets_constructor c)
calm-sets-constructor c = calm-becomes _ (λ s. calm-beside s _ refl refl refl refl refl)

pub calm-closes-constructor : Calm closes_constructor
calm-closes-constructor = calm-then _ _ (calm-some _) (λ c. calm-then _ _ (calm-becomes _ (λ s. calm-beside s _ refl refl refl refl refl)) (λ u. calm-some _))

-- ---- the unit at hand

pub calm-flow-now : Calm flow_now
calm-flow-now = calm-then _ _ (calm-some _) (λ u. calm-some _)

pub same-stored : (place : Surroundings) (vs us : List Variable) → AllZip SameVariable vs us → All (IsStored place) vs → All (IsStored place) us
same-stored place [] [] same h = All-nil _
same-stored place (v ∷ vs) (u ∷ us) same h =
    All-cons (IsStored place) u us (one-stored v u same.0 (All-head (IsStored place) v vs h)) (same-stored place vs us same.1 (All-tail (IsStored place) v vs h))
  where
    one-stored : (v u : Variable) → SameVariable v u → IsStored place v → IsStored place u
    one-stored v u s stored = ap (λ n. slice_get place.slots n) s.variable.slot ∙ stored ∙ ap (λ (t : Ty). Some t.sem) (sym s.variable.declared)
same-stored place [] (u ∷ us) same h = absurd same
same-stored place (v ∷ vs) [] same h = absurd same

-- it is set to a form of itself that knows of these variables
pub unit-stored : (place : Surroundings) (u : UnitAtWork) (a : Unit {0}) (old new : State) → sets_unit u old (Gives a) new → All (IsStored place) u.flow.variables
    → AreStored place new × (new.found ≡ old.found) × (new.ways ≡ old.ways) × (new.choices ≡ old.choices)
unfolding ◌▷◌ by_handles does
unit-stored place u a old new (w, mid, (same, first), is) stored = (
  record {
    unit = w;
    at_hand = record { kept = all_but 1 mid.units; is = ap (λ (s : State). s.units) is };
    variables = same-stored place u.flow.variables w.flow.variables same.flow.variables stored;
  },
  ap (λ (s : State). s.found) is ∙ ap (λ (s : State). s.found) first,
  ap (λ (s : State). s.ways) is ∙ ap (λ (s : State). s.ways) first,
  ap (λ (s : State). s.choices) is ∙ ap (λ (s : State). s.choices) first,
)

-- and goes on, where it is the same unit
pub unit-on : (was next : UnitAtWork) (a : Unit {0}) (old new : State) → IsLast old.units was → IsSameUnit was next → sets_unit next old (Gives a) new → StaysOn old new
unfolding ◌▷◌ by_handles does
unit-on was next a old new last same (v, mid, (handles, first), is) =
    let now : new ≡ record old { units = replaced old.units v } = is ∙ ap (λ (s : State). record s { units = replaced s.units v }) first in
    let units : new.units ≡ last.kept ++ v ∷ [] =
    ap (λ (s : State). s.units) now ∙ ap (λ us. all_but 1 us ++ v ∷ []) last.is ∙ ap (λ us. us ++ v ∷ []) (all-but-last last.kept was) in
    record {
      more = [];
      atoms = ap (λ (s : State). s.atoms) now ∙ sym (append-nil old.atoms);
      each = subst (λ us. AllZip IsSameUnit us new.units) (sym last.is)
          (subst (λ vs. AllZip IsSameUnit (last.kept ++ was ∷ []) vs) (sym units) (each-last last.kept was v (unit-by-handles was next v same handles)));
    }

-- where the unit is set it has the same parts
pub unit-parts : (u : UnitAtWork) (a : Unit {0}) (old new : State) → sets_unit u old (Gives a) new → (new.found ≡ old.found) × (new.ways ≡ old.ways)
unfolding ◌▷◌ by_handles does
unit-parts u a old new (w, mid, (same, first), is) =
    (ap (λ (s : State). s.found) is ∙ ap (λ (s : State). s.found) first, ap (λ (s : State). s.ways) is ∙ ap (λ (s : State). s.ways) first)

pub calm-new-slot : (t : Shared) → Calm (new_slot t)
unfolding ◌▷◌ gives_some
calm-new-slot t old new own (w, a, (last, first), (v, mid, set, (is, same))) =
    let (found, ways) = unit-parts (record w { slots = w.slots ++ t ∷ [] }) v a mid set in
    let on-set = unit-on w (record w { slots = w.slots ++ t ∷ [] }) v a mid (subst (λ (s : State). IsLast s.units w) (sym first) last) (with-slot w t) set in
    calm-on old mid new
    (record {
      on = on-on old a mid (on-beside old a (ap (λ (s : State). s.atoms) first) (ap (λ (s : State). s.units) first)) on-set;
      units = ap (λ (xs : List TypedExpr). units_in xs) (found ∙ ap (λ (s : State). s.found) first);
      stored = λ place h.
          let one : h.stored.unit ≡ w = last-same old.units h.stored.unit w h.stored.at_hand last in
          let all : All (IsStored place) w.flow.variables = subst (λ (u : UnitAtWork). All (IsStored place) u.flow.variables) one h.stored.variables in
          let s = unit-stored place (record w { slots = w.slots ++ t ∷ [] }) v a mid set all in
          record { stored = s.0; ways = subst (λ y. IfSome y (WaysAreStored place)) (sym (ways ∙ ap (λ (s : State). s.ways) first)) h.ways };
      keeps = keeps-on old a mid (keeps-with old a (ap (λ (s : State). s.units) first) (ap (λ (s : State). s.choices) first) (ap (λ (s : State). s.ways) first))
          (keeps-unit w (record w { slots = w.slots ++ t ∷ [] }) v a mid (subst (λ (s : State). IsLast s.units w) (sym first) last) (same-flow w.flow) set);
    })
    (calm-same mid new same)
