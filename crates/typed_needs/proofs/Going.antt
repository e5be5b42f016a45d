-- The words of needs: atoms come behind those that are there, and units go on.
use Rattle.std.proofs.Common.{◌≡◌, ◌∙◌, ◌++◌, ℕ, Bool, true, false, List, [], ◌∷◌, length, arith, map, Option, Some, append-nil, append_assoc, refl, sym, subst, ap}
use Rattle.std.specs.List.{AllZip}
use Rattle.bal_base.specs.declared.fault.Fault.{Fault}
use Rattle.bal_base.specs.declared.fault.FaultCode.{FaultCode}
use Rattle.bal_base.specs.declared.place.Place.{Place}
use Rattle.checks.specs.Checks.{Check, Gives, either, gives_some, refuses, ◌▷◌}
use Rattle.needs.specs.Needs.{asks, does}
use Rattle.type_model.specs.declared.basic.Ty.{Ty}
use Rattle.typed_tree.specs.declared.expr.TypedExpr.{TypedExpr}
use Rattle.typed_tree.specs.declared.unit.Captured.{Captured}
use Rattle.typed_tree.specs.SharedTypes.{Shared, sem_of}
use Rattle.flow_narrowing.specs.declared.flow.Flow.{Flow}
use Rattle.check_words.specs.Sharing.{SameCaptured, SameShared, SameUnit}
use Rattle.check_words.specs.State.{ChoiceAtWork, ConstructorAtWork, IsLast, State, UnitAtWork, Ways, all_but, replaced}
use Rattle.check_words.specs.Words.{Atoms, asking, becomes, by_handles, closes_choice, closes_constructor, done, fails, flow_now, makes, new_slot, opens_choice, opens_constructor, sets_constructor, sets_flow, sets_unit, sets_ways, unless, wants as wanting, wants_no_more, wants_some, ways_now}
use Rattle.typed_needs.specs.Going.{GoesOn, IsSameUnit}
use Rattle.typed_needs.proofs.Placed.{all-but-last}
use Rattle.typed_needs.proofs.Questions.{AddsBehind}

-- ---- what is captured

captured-itself : (cs : List Captured) → AllZip SameCaptured cs cs
captured-itself [] = tt
captured-itself (c ∷ cs) = (record { slot = refl; narrowed = refl; ty = refl; at = refl }, captured-itself cs)

pub captured-then : (bs cs ds : List Captured) → AllZip SameCaptured bs cs → AllZip SameCaptured cs ds → AllZip SameCaptured bs ds
captured-then [] [] [] f g = tt
captured-then (b ∷ bs) (c ∷ cs) (d ∷ ds) f g = (one b c d f.0 g.0, captured-then bs cs ds f.1 g.1)
  where
    one : (b c d : Captured) → SameCaptured b c → SameCaptured c d → SameCaptured b d
    one b c d f g = record { slot = g.slot ∙ f.slot; narrowed = g.narrowed ∙ f.narrowed; ty = g.ty ∙ f.ty; at = g.at ∙ f.at }
captured-then [] (c ∷ cs) ds f g = absurd f
captured-then (b ∷ bs) [] ds f g = absurd f
captured-then [] [] (d ∷ ds) f g = absurd g
captured-then (b ∷ bs) (c ∷ cs) [] f g = absurd g

-- ---- one unit

pub unit-itself : (u : UnitAtWork) → IsSameUnit u u
unit-itself u =
    record { number = refl; worker = refl; params = refl; rest = refl; arrow = refl; future = refl; result = refl; more = []; slots = sym (append-nil (map sem_of u.slots)); captured = captured-itself u.captured }

pub unit-then : (u v w : UnitAtWork) → IsSameUnit u v → IsSameUnit v w → IsSameUnit u w
unit-then u v w f g =
    record {
      number = g.number ∙ f.number;
      worker = g.worker ∙ f.worker;
      params = g.params ∙ f.params;
      rest = g.rest ∙ f.rest;
      arrow = g.arrow ∙ f.arrow;
      future = g.future ∙ f.future;
      result = g.result ∙ f.result;
      more = f.more ++ g.more;
      slots = g.slots ∙ ap (λ ts. ts ++ g.more) f.slots ∙ append_assoc (map sem_of u.slots) f.more g.more;
      captured = captured-then u.captured v.captured w.captured f.captured g.captured;
    }

pub types-same : (us vs : List Shared) → AllZip SameShared us vs → map sem_of vs ≡ map sem_of us
types-same [] [] h = refl
types-same (u ∷ us) (v ∷ vs) h = ap (λ t. t ∷ map sem_of vs) (ap (λ (t : Ty). t.sem) h.0) ∙ ap (λ ts. sem_of u ∷ ts) (types-same us vs h.1)
types-same [] (v ∷ vs) h = absurd h
types-same (u ∷ us) [] h = absurd h

-- by other handles, with further slots
pub unit-by-handles : (u v w : UnitAtWork) → IsSameUnit u v → SameUnit v w → IsSameUnit u w
unit-by-handles u v w f h =
    record {
      number = h.number ∙ f.number;
      worker = h.worker ∙ f.worker;
      params = h.params ∙ f.params;
      rest = h.rest ∙ f.rest;
      arrow = h.arrow ∙ f.arrow;
      future = h.future ∙ f.future;
      result = ap (λ (t : Ty). t.sem) h.result ∙ f.result;
      more = f.more;
      slots = types-same v.slots w.slots h.slots ∙ f.slots;
      captured = captured-then u.captured v.captured w.captured f.captured h.captured;
    }

-- ---- units

pub each-itself : (us : List UnitAtWork) → AllZip IsSameUnit us us
each-itself [] = tt
each-itself (u ∷ us) = (unit-itself u, each-itself us)

pub each-then : (us vs ws : List UnitAtWork) → AllZip IsSameUnit us vs → AllZip IsSameUnit vs ws → AllZip IsSameUnit us ws
each-then [] [] [] f g = tt
each-then (u ∷ us) (v ∷ vs) (w ∷ ws) f g = (unit-then u v w f.0 g.0, each-then us vs ws f.1 g.1)
each-then [] (v ∷ vs) ws f g = absurd f
each-then (u ∷ us) [] ws f g = absurd f
each-then [] [] (w ∷ ws) f g = absurd g
each-then (u ∷ us) (v ∷ vs) [] f g = absurd g

pub each-long : (us vs : List UnitAtWork) → AllZip IsSameUnit us vs → length vs ≡ length us
each-long [] [] h = refl
each-long (u ∷ us) (v ∷ vs) h = let more = each-long us vs h.1 in omega (arith, more)
each-long [] (v ∷ vs) h = absurd h
each-long (u ∷ us) [] h = absurd h

-- those that go on from the first ones, and those from the others
record Cut (us vs ws : List UnitAtWork) : Type 0 where
  pub front : List UnitAtWork
  pub back : List UnitAtWork
  pub is : ws ≡ front ++ back
  pub fronts : AllZip IsSameUnit us front

cut : (us vs ws : List UnitAtWork) → AllZip IsSameUnit (us ++ vs) ws → Cut us vs ws
cut [] vs ws h = record { front = []; back = ws; is = refl; fronts = tt }
cut (u ∷ us) vs (w ∷ ws) h =
    let c = cut us vs ws h.1 in record { front = w ∷ c.front; back = c.back; is = ap (λ l. w ∷ l) c.is; fronts = (h.0, c.fronts) }
cut (u ∷ us) vs [] h = absurd h

pub each-last : (us : List UnitAtWork) (u v : UnitAtWork) → IsSameUnit u v → AllZip IsSameUnit (us ++ u ∷ []) (us ++ v ∷ [])
each-last [] u v h = (h, tt)
each-last (w ∷ us) u v h = (unit-itself w, each-last us u v h)

-- ---- states

pub goes-self : (s : State) → GoesOn s s
goes-self s =
    record { more = []; atoms = sym (append-nil s.atoms); going = s.units; above = []; units = sym (append-nil s.units); each = each-itself s.units }

pub goes-same : (s t : State) → t ≡ s → GoesOn s t
goes-same s t e = subst (λ (x : State). GoesOn s x) (sym e) (goes-self s)

pub goes-on : (r s t : State) → GoesOn r s → GoesOn s t → GoesOn r t
goes-on r s t f g =
    let c = cut f.going f.above g.going (subst (λ us. AllZip IsSameUnit us g.going) f.units g.each) in
    record {
      more = f.more ++ g.more;
      atoms = g.atoms ∙ ap (λ xs. xs ++ g.more) f.atoms ∙ append_assoc r.atoms f.more g.more;
      going = c.front;
      above = c.back ++ g.above;
      units = g.units ∙ ap (λ us. us ++ g.above) c.is ∙ append_assoc c.front c.back g.above;
      each = each-then r.units f.going c.front f.each c.fronts;
    }

-- where atoms and units are as they were
pub goes-beside : (s t : State) → t.atoms ≡ s.atoms → t.units ≡ s.units → GoesOn s t
goes-beside s t atoms units =
    record { more = []; atoms = atoms ∙ sym (append-nil s.atoms); going = s.units; above = []; units = units ∙ sym (append-nil s.units); each = each-itself s.units }

-- ---- checks from which a state goes on

abbrev pub Goes : {A : Type 0} → Check State A → Type 0
Goes {A} m = (old new : State) (a : A) → m old (Gives a) new → GoesOn old new

pub goes-then : {A B : Type 0} (m : Check State A) (next : A → Check State B) → Goes m → ((a : A) → Goes (next a)) → Goes (m ▷ next)
unfolding ◌▷◌
goes-then m next f g old new b (a, mid, x, y) = goes-on old mid new (f old mid a x) (g a mid new b y)

pub goes-some : {A : Type 0} (P : State → A → Type 0) → Goes (gives_some P)
unfolding gives_some
goes-some P old new a (x, e) = goes-same old new e

pub goes-refuses : {A : Type 0} (P : State → Fault → Type 0) → Goes (refuses {S = State} {A = A} P)
unfolding refuses
goes-refuses P old new a x = absurd x

pub goes-fails : {A : Type 0} (code : FaultCode) (at : Place) → Goes (fails {A = A} code at)
goes-fails code at = goes-refuses _

pub goes-unless : (b : Bool) (code : FaultCode) (at : Place) → Goes (unless b code at)
goes-unless true code at = goes-some _
goes-unless false code at = goes-fails code at

pub goes-done : Goes done
goes-done = goes-some _

pub goes-either : {A : Type 0} (b : Bool) (m n : Check State A) → Goes m → Goes n → Goes (either b m n)
goes-either true m n f g = f
goes-either false m n f g = g

pub goes-becomes : (change : State → State) → ((s : State) → GoesOn s (change s)) → Goes (becomes change)
unfolding does
goes-becomes change f old new a e = subst (λ (x : State). GoesOn old x) (sym e) (f old)

pub goes-handles : {A : Type 0} (Same : A → A → Type 0) (a : A) → Goes (by_handles Same a)
unfolding by_handles
goes-handles Same a old new b (x, e) = goes-same old new e

-- ---- questions

pub goes-asking : {A : Type 0} (q : Check Atoms A) → AddsBehind q → Goes (asking q)
unfolding asks
goes-asking q f old new a (asked, e) =
    let (more, is) = f old.atoms new.atoms a asked in
    record { more = more; atoms = is; going = old.units; above = []; units = ap (λ (s : State). s.units) e ∙ sym (append-nil old.units); each = each-itself old.units }

-- ---- parts and what is wanted

pub goes-makes : (count : ℕ) (P : Atoms → List TypedExpr → TypedExpr → Type 0) → Goes (makes count P)
unfolding does
goes-makes count P old new a (parts, last, e, x, is) = goes-beside old new (ap (λ (s : State). s.atoms) is) (ap (λ (s : State). s.units) is)

pub goes-wants : (w : Option Shared) → Goes (wanting w)
goes-wants w = goes-then _ _ (goes-handles _ _) (λ x. goes-becomes _ (λ s. goes-beside s _ refl refl))

pub goes-wants-some : (P : Atoms → Ty → Type 0) → Goes (wants_some P)
goes-wants-some P = goes-then _ _ (goes-some _) (λ t. goes-wants (Some t))

pub goes-no-more : (count : ℕ) → Goes (wants_no_more count)
goes-no-more count = goes-becomes _ (λ s. goes-beside s _ refl refl)

-- ---- the unit at hand

-- it is set to a form of itself
unit-goes : (was next : UnitAtWork) (u : Unit {0}) (old new : State) → IsLast old.units was → IsSameUnit was next → sets_unit next old (Gives u) new → GoesOn old new
unfolding ◌▷◌ by_handles does
unit-goes was next u old new last same (v, mid, (handles, first), is) =
    let now : new ≡ record old { units = replaced old.units v } = is ∙ ap (λ (s : State). record s { units = replaced s.units v }) first in
    let units : new.units ≡ last.kept ++ v ∷ [] =
    ap (λ (s : State). s.units) now ∙ ap (λ us. all_but 1 us ++ v ∷ []) last.is ∙ ap (λ us. us ++ v ∷ []) (all-but-last last.kept was) in
    record {
      more = [];
      atoms = ap (λ (s : State). s.atoms) now ∙ sym (append-nil old.atoms);
      going = last.kept ++ v ∷ [];
      above = [];
      units = units ∙ sym (append-nil (last.kept ++ v ∷ []));
      each = subst (λ us. AllZip IsSameUnit us (last.kept ++ v ∷ [])) (sym last.is) (each-last last.kept was v (unit-by-handles was next v same handles));
    }

pub with-flow : (w : UnitAtWork) (f : Flow) → IsSameUnit w (record w { flow = f })
with-flow w f =
    record { number = refl; worker = refl; params = refl; rest = refl; arrow = refl; future = refl; result = refl; more = []; slots = sym (append-nil (map sem_of w.slots)); captured = captured-itself w.captured }

pub goes-sets-flow : (f : Flow) → Goes (sets_flow f)
unfolding ◌▷◌ gives_some does
goes-sets-flow f old new u (v, mid, (w, a, (last, first), set), is) =
    let hand : IsLast a.units w = subst (λ (s : State). IsLast s.units w) (sym first) last in
    goes-on old mid new (goes-on old a mid (goes-same old a first) (unit-goes w (record w { flow = f }) v a mid hand (with-flow w f) set))
    (goes-beside mid new (ap (λ (s : State). s.atoms) is) (ap (λ (s : State). s.units) is))

pub with-slot : (w : UnitAtWork) (t : Shared) → IsSameUnit w (record w { slots = w.slots ++ t ∷ [] })
with-slot w t =
    record { number = refl; worker = refl; params = refl; rest = refl; arrow = refl; future = refl; result = refl; more = sem_of t ∷ []; slots = slots-more w.slots; captured = captured-itself w.captured }
  where
    slots-more : (ts : List Shared) → map sem_of (ts ++ t ∷ []) ≡ map sem_of ts ++ sem_of t ∷ []
    slots-more [] = refl
    slots-more (s ∷ ts) = ap (λ l. sem_of s ∷ l) (slots-more ts)

pub goes-new-slot : (t : Shared) → Goes (new_slot t)
unfolding ◌▷◌ gives_some
goes-new-slot t old new own (w, a, (last, first), (v, mid, set, (is, same))) =
    let hand : IsLast a.units w = subst (λ (s : State). IsLast s.units w) (sym first) last in
    goes-on old mid new (goes-on old a mid (goes-same old a first) (unit-goes w (record w { slots = w.slots ++ t ∷ [] }) v a mid hand (with-slot w t) set)) (goes-same mid new same)

pub goes-flow-now : Goes flow_now
goes-flow-now = goes-then _ _ (goes-some _) (λ u. goes-some _)

pub goes-ways-now : Goes ways_now
goes-ways-now = goes-then _ _ goes-flow-now (λ f. goes-some _)

pub goes-sets-ways : (w : Option Ways) → Goes (sets_ways w)
goes-sets-ways w = goes-then _ _ (goes-handles _ _) (λ x. goes-becomes _ (λ s. goes-beside s _ refl refl))

-- another unit stands on those that are there
pub goes-with-unit : (s t : State) (u : UnitAtWork) → t.atoms ≡ s.atoms → t.units ≡ s.units ++ u ∷ [] → GoesOn s t
goes-with-unit s t u atoms units =
    record { more = []; atoms = atoms ∙ sym (append-nil s.atoms); going = s.units; above = u ∷ []; units = units; each = each-itself s.units }

-- ---- what is open

pub goes-opens-choice : (c : ChoiceAtWork) → Goes (opens_choice c)
goes-opens-choice c = goes-then _ _ (goes-handles _ _) (λ d. goes-becomes _ (λ s. goes-beside s _ refl refl))

pub goes-closes-choice : Goes closes_choice
goes-closes-choice = goes-then _ _ (goes-some _) (λ c. goes-then _ _ (goes-becomes _ (λ s. goes-beside s _ refl refl)) (λ u. goes-some _))

pub goes-opens-constructor : (c : ConstructorAtWork) → Goes (opens_constructor c)
goes-opens-constructor c = goes-becomes _ (λ s. goes-beside s _ refl refl)

pub goes-sets-constructor : (c : ConstructorAtWork) → Goes (sets_constructor c)
goes-sets-constructor c = goes-becomes _ (λ s. goes-beside s _ refl refl)

pub goes-closes-constructor : Goes closes_constructor
goes-closes-constructor = goes-then _ _ (goes-some _) (λ c. goes-then _ _ (goes-becomes _ (λ s. goes-beside s _ refl refl)) (λ u. goes-some _))
