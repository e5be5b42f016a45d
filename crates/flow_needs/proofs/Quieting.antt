-- Checks that leave parts and what is known of variables.
use Rattle.std.proofs.Common.{◌≡◌, ◌≤◌, ◌∙◌, ◌++◌, ℕ, suc, Bool, true, false, List, [], ◌∷◌, length, Option, None, Some, arith, length-append, refl, sym, subst, ap}
use Rattle.std.specs.List.{AllZip}
use Rattle.bal_base.specs.declared.fault.Fault.{Fault}
use Rattle.bal_base.specs.declared.fault.FaultCode.{FaultCode}
use Rattle.bal_base.specs.declared.place.Place.{Place}
use Rattle.checks.specs.Checks.{Check, Gives, ◌▷◌, either, gives_some, refuses}
use Rattle.needs.specs.Needs.{asks, does}
use Rattle.type_model.specs.declared.basic.Ty.{Ty}
use Rattle.typed_tree.specs.SharedTypes.{Shared}
use Rattle.typed_tree.specs.declared.unit.Captured.{Captured}
use Rattle.flow_narrowing.specs.declared.flow.Flow.{Flow}
use Rattle.flow_narrowing.specs.declared.flow.Variable.{Variable}
use Rattle.flow_narrowing.specs.Flows.{AreSame}
use Rattle.check_words.specs.Sharing.{SameCaptured, SameFlow, SameShared, SameVariable}
use Rattle.check_words.specs.State.{ConstructorAtWork, IsLast, State, UnitAtWork, all_but, replaced}
use Rattle.check_words.specs.Words.{Atoms, asking, becomes, by_handles, closes_constructor, fails, flow_now, new_slot, opens_constructor, sets_constructor, sets_unit, unless, wants as wanting, wants_no_more, wants_some}
use Rattle.check_words.proofs.Same.{same-flow, same-unit}
use Rattle.typed_needs.proofs.Placed.{all-but-last}
use Rattle.flow_needs.specs.Quiet.{IsQuiet, KnowsOn, KnowsSame}

-- ---- handles

same-then-variable : (u v w : Variable) → SameVariable u v → SameVariable v w → SameVariable u w
same-then-variable u v w f g =
    let a = f.variable in let b = g.variable in
    record {
      variable = record {
        name = b.name ∙ a.name;
        slot = b.slot ∙ a.slot;
        declared = b.declared ∙ a.declared;
        fixed = b.fixed ∙ a.fixed;
        assigned = b.assigned ∙ a.assigned;
        captured = b.captured ∙ a.captured;
      };
      narrowed = by u.narrowed v.narrowed w.narrowed f.narrowed g.narrowed;
    }
  where
    by : (a b c : Option Shared) → AreSame a b → AreSame b c → AreSame a c
    by None None None x y = tt
    by (Some a) (Some b) (Some c) x y = y ∙ x
    by None None (Some c) x y = absurd y
    by None (Some b) c x y = absurd x
    by (Some a) None c x y = absurd x
    by (Some a) (Some b) None x y = absurd y

same-then-variables : (us vs ws : List Variable) → AllZip SameVariable us vs → AllZip SameVariable vs ws → AllZip SameVariable us ws
same-then-variables [] [] [] f g = tt
same-then-variables (u ∷ us) (v ∷ vs) (w ∷ ws) f g = (same-then-variable u v w f.0 g.0, same-then-variables us vs ws f.1 g.1)
same-then-variables [] [] (w ∷ ws) f g = absurd g
same-then-variables [] (v ∷ vs) ws f g = absurd f
same-then-variables (u ∷ us) [] ws f g = absurd f
same-then-variables (u ∷ us) (v ∷ vs) [] f g = absurd g

pub same-then-flow : (f g h : Flow) → SameFlow f g → SameFlow g h → SameFlow f h
same-then-flow f g h x y =
    record { variables = same-then-variables f.variables g.variables h.variables x.variables y.variables; reached = y.reached ∙ x.reached }

-- what is captured
one-captured : (a b c : Captured) → SameCaptured a b → SameCaptured b c → SameCaptured a c
one-captured a b c f g = record { slot = g.slot ∙ f.slot; narrowed = g.narrowed ∙ f.narrowed; ty = g.ty ∙ f.ty; at = g.at ∙ f.at }

pub captured-then : (xs ys zs : List Captured) → AllZip SameCaptured xs ys → AllZip SameCaptured ys zs → AllZip SameCaptured xs zs
captured-then [] [] [] f g = tt
captured-then (a ∷ xs) (b ∷ ys) (c ∷ zs) f g = (one-captured a b c f.0 g.0, captured-then xs ys zs f.1 g.1)
captured-then [] [] (c ∷ zs) f g = absurd g
captured-then [] (b ∷ ys) zs f g = absurd f
captured-then (a ∷ xs) [] zs f g = absurd f
captured-then (a ∷ xs) (b ∷ ys) [] f g = absurd g

pub captured-itself : (u : UnitAtWork) → AllZip SameCaptured u.captured u.captured
captured-itself u = let h = same-unit u in h.captured

-- ---- units

pub knows-itself : (us : List UnitAtWork) → AllZip KnowsSame us us
knows-itself [] = tt
knows-itself (u ∷ us) = (record { flow = same-flow u.flow; slots = omega arith; captured = captured-itself u }, knows-itself us)

pub knows-then : (us vs ws : List UnitAtWork) → AllZip KnowsSame us vs → AllZip KnowsSame vs ws → AllZip KnowsSame us ws
knows-then [] [] [] f g = tt
knows-then (u ∷ us) (v ∷ vs) (w ∷ ws) f g =
    let a = f.0.slots in let b = g.0.slots in (
      record {
        flow = same-then-flow u.flow v.flow w.flow f.0.flow g.0.flow;
        slots = omega (arith, a, b);
        captured = captured-then u.captured v.captured w.captured f.0.captured g.0.captured;
      },
      knows-then us vs ws f.1 g.1,
    )
knows-then [] [] (w ∷ ws) f g = absurd g
knows-then [] (v ∷ vs) ws f g = absurd f
knows-then (u ∷ us) [] ws f g = absurd f
knows-then (u ∷ us) (v ∷ vs) [] f g = absurd g

knows-last : (us : List UnitAtWork) (u v : UnitAtWork) → KnowsSame u v → AllZip KnowsSame (us ++ u ∷ []) (us ++ v ∷ [])
knows-last [] u v same = (same, tt)
knows-last (w ∷ us) u v same = (record { flow = same-flow w.flow; slots = omega arith; captured = captured-itself w }, knows-last us u v same)

last-known : (kept vs : List UnitAtWork) (u : UnitAtWork) → AllZip KnowsSame (kept ++ u ∷ []) vs → (v : UnitAtWork) × IsLast vs v × KnowsSame u v
last-known [] (v ∷ []) u each = (v, record { kept = []; is = refl }, each.0)
last-known [] (v ∷ w ∷ vs) u each = absurd each.1
last-known [] [] u each = absurd each
last-known (k ∷ kept) (v ∷ vs) u each = let (w, l, same) = last-known kept vs u each.1 in (w, record { kept = v ∷ l.kept; is = ap (λ xs. v ∷ xs) l.is }, same)
last-known (k ∷ kept) [] u each = absurd each

-- of the unit at hand the same is known as of the one before
pub knows-at-hand : (us vs : List UnitAtWork) (u : UnitAtWork) → AllZip KnowsSame us vs → IsLast us u → (v : UnitAtWork) × IsLast vs v × KnowsSame u v
knows-at-hand us vs u each last = last-known last.kept vs u (subst (λ xs. AllZip KnowsSame xs vs) last.is each)

-- ---- states

pub on-itself : (s : State) → KnowsOn s s
on-itself s = record { units = knows-itself s.units }

pub on-then : (r s t : State) → KnowsOn r s → KnowsOn s t → KnowsOn r t
on-then r s t f g = record { units = knows-then r.units s.units t.units f.units g.units }

pub on-beside : (s t : State) → t.units ≡ s.units → KnowsOn s t
on-beside s t e = record { units = subst (λ us. AllZip KnowsSame s.units us) (sym e) (knows-itself s.units) }

pub quiet-itself : (s : State) → IsQuiet s s
quiet-itself s = record { on = on-itself s; found = refl; ways = refl; choices = refl }

pub quiet-same : (s t : State) → t ≡ s → IsQuiet s t
quiet-same s t e = subst (λ (x : State). IsQuiet s x) (sym e) (quiet-itself s)

pub quiet-on : (r s t : State) → IsQuiet r s → IsQuiet s t → IsQuiet r t
quiet-on r s t f g = record { on = on-then r s t f.on g.on; found = g.found ∙ f.found; ways = g.ways ∙ f.ways; choices = g.choices ∙ f.choices }

pub quiet-beside : (s t : State) → t.found ≡ s.found → t.units ≡ s.units → t.ways ≡ s.ways → t.choices ≡ s.choices → IsQuiet s t
quiet-beside s t found units ways choices = record { on = on-beside s t units; found = found; ways = ways; choices = choices }

-- ---- checks

abbrev pub Quiet : {A : Type 0} → Check State A → Type 0
Quiet {A} m = (old new : State) (a : A) → m old (Gives a) new → IsQuiet old new

pub quiet-then : {A B : Type 0} (m : Check State A) (next : A → Check State B) → Quiet m → ((a : A) → Quiet (next a)) → Quiet (m ▷ next)
unfolding ◌▷◌
quiet-then m next f g old new b (a, mid, x, y) = quiet-on old mid new (f old mid a x) (g a mid new b y)

pub quiet-some : {A : Type 0} (P : State → A → Type 0) → Quiet (gives_some P)
unfolding gives_some
quiet-some P old new a (x, e) = quiet-same old new e

pub quiet-refuses : {A : Type 0} (P : State → Fault → Type 0) → Quiet (refuses {S = State} {A = A} P)
unfolding refuses
quiet-refuses P old new a x = absurd x

pub quiet-fails : {A : Type 0} (code : FaultCode) (at : Place) → Quiet (fails {A = A} code at)
quiet-fails code at = quiet-refuses _

pub quiet-unless : (b : Bool) (code : FaultCode) (at : Place) → Quiet (unless b code at)
quiet-unless true code at = quiet-some _
quiet-unless false code at = quiet-fails code at

pub quiet-either : {A : Type 0} (b : Bool) (m n : Check State A) → Quiet m → Quiet n → Quiet (either b m n)
quiet-either true m n f g = f
quiet-either false m n f g = g

pub quiet-becomes : (change : State → State) → ((s : State) → IsQuiet s (change s)) → Quiet (becomes change)
unfolding does
quiet-becomes change f old new a e = subst (λ (x : State). IsQuiet old x) (sym e) (f old)

pub quiet-handles : {A : Type 0} (Same : A → A → Type 0) (a : A) → Quiet (by_handles Same a)
unfolding by_handles
quiet-handles Same a old new b (x, e) = quiet-same old new e

pub quiet-asking : {A : Type 0} (q : Check Atoms A) → Quiet (asking q)
unfolding asks
quiet-asking q old new a (asked, e) =
    quiet-beside old new (ap (λ (s : State). s.found) e) (ap (λ (s : State). s.units) e) (ap (λ (s : State). s.ways) e) (ap (λ (s : State). s.choices) e)

pub quiet-wants : (w : Option Shared) → Quiet (wanting w)
quiet-wants w = quiet-then _ _ (quiet-handles _ _) (λ x. quiet-becomes _ (λ s. quiet-beside s _ refl refl refl refl))

pub quiet-wants-some : (P : Atoms → Ty → Type 0) → Quiet (wants_some P)
quiet-wants-some P = quiet-then _ _ (quiet-some _) (λ t. quiet-wants (Some t))

pub quiet-no-more : (count : ℕ) → Quiet (wants_no_more count)
quiet-no-more count = quiet-becomes _ (λ s. quiet-beside s _ refl refl refl refl)

pub quiet-opens-constructor : (c : ConstructorAtWork) → Quiet (opens_constructor c)
quiet-opens-constructor c = quiet-becomes _ (λ s. quiet-beside s _ refl refl refl refl)

pub quiet-sets-constructor : (c : ConstructorAtWork) → Quiet (sets_constructor c)
quiet-sets-constructor c = quiet-becomes _ (λ s. quiet-beside s _ refl refl refl refl)

pub quiet-closes-constructor : Quiet closes_constructor
quiet-closes-constructor = quiet-then _ _ (quiet-some _) (λ c. quiet-then _ _ (quiet-becomes _ (λ s. quiet-beside s _ refl refl refl refl)) (λ u. quiet-some _))

pub quiet-flow-now : Quiet flow_now
quiet-flow-now = quiet-then _ _ (quiet-some _) (λ u. quiet-some _)

-- ---- a slot more

pub all-same-long : (us vs : List Shared) → AllZip SameShared us vs → length vs ≡ length us
all-same-long [] [] same = refl
all-same-long (u ∷ us) (v ∷ vs) same = ap (λ n. suc n) (all-same-long us vs same.1)
all-same-long [] (v ∷ vs) same = absurd same
all-same-long (u ∷ us) [] same = absurd same

-- the unit at hand is set to one of which the same is known
pub quiet-set : (was next : UnitAtWork) (a : Unit {0}) (old new : State) → IsLast old.units was → SameFlow was.flow next.flow → length was.slots ≤ length next.slots
    → AllZip SameCaptured was.captured next.captured → sets_unit next old (Gives a) new → IsQuiet old new
unfolding ◌▷◌ by_handles does
quiet-set was next a old new last flow slots captured (v, mid, (handles, first), is) =
    let now : new ≡ record old { units = replaced old.units v } = is ∙ ap (λ (s : State). record s { units = replaced s.units v }) first in
    let units : new.units ≡ last.kept ++ v ∷ [] =
    ap (λ (s : State). s.units) now ∙ ap (λ us. all_but 1 us ++ v ∷ []) last.is ∙ ap (λ us. us ++ v ∷ []) (all-but-last last.kept was) in
    let long = all-same-long next.slots v.slots handles.slots in
    let same : KnowsSame was v = record {
      flow = same-then-flow was.flow next.flow v.flow flow handles.flow;
      slots = omega (arith, long, slots);
      captured = captured-then was.captured next.captured v.captured captured handles.captured;
    } in
    record {
      on = record {
        units = subst (λ us. AllZip KnowsSame us new.units) (sym last.is) (subst (λ vs. AllZip KnowsSame (last.kept ++ was ∷ []) vs) (sym units) (knows-last last.kept was v same));
      };
      found = ap (λ (s : State). s.found) now;
      ways = ap (λ (s : State). s.ways) now;
      choices = ap (λ (s : State). s.choices) now;
    }

pub quiet-new-slot : (t : Shared) → Quiet (new_slot t)
unfolding ◌▷◌ gives_some
quiet-new-slot t old new own (w, a, (last, first), (v, mid, set, (is, same))) =
    let more = length-append w.slots (t ∷ []) in
    quiet-on old mid new
    (quiet-on old a mid (quiet-same old a first)
    (quiet-set w (record w { slots = w.slots ++ t ∷ [] }) v a mid (subst (λ (s : State). IsLast s.units w) (sym first) last) (same-flow w.flow) (omega (arith, more)) (captured-itself w) set))
    (quiet-same mid new same)
