-- Units below the last one go on, whatever becomes of that.
use Rattle.std.proofs.Common.{◌≡◌, ◌≤◌, ◌<◌, ◌-◌, ◌+◌, ◌∙◌, ◌++◌, ℕ, zero, suc, Bool, true, false, List, [], ◌∷◌, length, take, None, append-nil, append_assoc, arith, length-append, refl, sym, subst, ap}
use Rattle.std.specs.List.{AllZip}
use Rattle.std.proofs.lemmas.List.{length-take-le, take-take}
use Rattle.bal_base.specs.declared.fault.FaultCode.{FaultCode}
use Rattle.bal_base.specs.declared.fault.FaultCode.TheVariants.{Duplicate}
use Rattle.bal_base.specs.declared.place.Place.{Place}
use Rattle.bal_tree.specs.declared.def.Worker.{Worker}
use Rattle.bal_tree.specs.declared.name.Word.{Word}
use Rattle.checks.specs.Checks.{Check, Gives, either, gives_some, ◌▷◌}
use Rattle.needs.specs.Needs.{asks, does}
use Rattle.type_model.specs.declared.answers.TypeLimit.{TypeLimit}
use Rattle.type_model.specs.declared.atoms.AtomDef.{AtomDef}
use Rattle.type_model.specs.Calls.{Asked}
use Rattle.check_words.specs.Calls.{begins_value, closes_unit, has_parameter, has_rest, is_new, makes_anonymous}
use Rattle.check_words.specs.State.{State, UnitAtWork, all_but, replaced}
use Rattle.check_words.specs.Units.{ends_worker}
use Rattle.check_words.specs.Words.{Atoms, asking, by_handles, done, fails, sets_unit, wants_no_more}
use Rattle.typed_needs.specs.Going.{GoesOn, GoesOnBelow, IsSameUnit}
use Rattle.typed_needs.proofs.Going.{Goes, each-itself, each-long, each-then, goes-asking, goes-becomes, goes-beside, goes-makes, goes-no-more, goes-some, goes-then}
use Rattle.typed_needs.proofs.GoingStmts.{goes-closes-block, goes-ends-by, goes-is-new}
use Rattle.typed_needs.proofs.Questions.{adds-behind}
use Rattle.typed_needs.proofs.Strict.{never}

-- ---- the first units

take-front : {A : Type 0} (n : ℕ) (xs ys : List A) → n ≤ length xs → take n (xs ++ ys) ≡ take n xs
take-front zero xs ys le = refl
take-front (suc n) [] ys le = absurd (omega (arith, le))
take-front (suc n) (x ∷ xs) ys le = ap (λ l. x ∷ l) (take-front n xs ys (omega (arith, le)))

zip-take : (n : ℕ) (us vs : List UnitAtWork) → AllZip IsSameUnit us vs → AllZip IsSameUnit (take n us) (take n vs)
zip-take zero us vs h = tt
zip-take (suc n) [] [] h = tt
zip-take (suc n) (u ∷ us) (v ∷ vs) h = (h.0, zip-take n us vs h.1)
zip-take (suc n) [] (v ∷ vs) h = absurd h
zip-take (suc n) (u ∷ us) [] h = absurd h

-- those before the last one
front-kept : (n : ℕ) (us : List UnitAtWork) → n < length us → take n (all_but 1 us) ≡ take n us
front-kept n us lt = take-take n (length us - 1) us (omega (arith, lt))

front-long : (us : List UnitAtWork) → length (all_but 1 us) ≡ length us - 1
front-long us = length-take-le (length us - 1) us (omega arith)

-- ---- where they go on

pub on-below : (count : ℕ) (old new : State) → count ≤ length old.units → GoesOn old new → GoesOnBelow count old new
on-below count old new le g =
    let same : length g.going ≡ length old.units = each-long old.units g.going g.each in
    let long : length new.units ≡ length g.going + length g.above = ap length g.units ∙ length-append g.going g.above in
    let first : take count new.units ≡ take count g.going = ap (λ us. take count us) g.units ∙ take-front count g.going g.above (omega (arith, le, same)) in
    record {
      more = g.more;
      atoms = g.atoms;
      there = omega (arith, le, same, long);
      each = subst (λ us. AllZip IsSameUnit (take count old.units) us) (sym first) (zip-take count old.units g.going g.each);
    }

pub below-then : (count : ℕ) (a b c : State) → GoesOnBelow count a b → GoesOnBelow count b c → GoesOnBelow count a c
below-then count a b c f g =
    record {
      more = f.more ++ g.more;
      atoms = g.atoms ∙ ap (λ xs. xs ++ g.more) f.atoms ∙ append_assoc a.atoms f.more g.more;
      there = g.there;
      each = each-then (take count a.units) (take count b.units) (take count c.units) f.each g.each;
    }

-- where the first ones are the same ones
same-below : (count : ℕ) (old new : State) → new.atoms ≡ old.atoms → take count new.units ≡ take count old.units → count ≤ length new.units → GoesOnBelow count old new
same-below count old new atoms first le =
    record {
      more = [];
      atoms = atoms ∙ sym (append-nil old.atoms);
      there = le;
      each = subst (λ us. AllZip IsSameUnit (take count old.units) us) (sym first) (each-itself (take count old.units));
    }

-- ---- checks

abbrev Below : {A : Type 0} → ℕ → Check State A → Type 0
Below {A} count m = (old new : State) (a : A) → count < length old.units → m old (Gives a) new → GoesOnBelow count old new

abbrev LeavesUnits : {A : Type 0} → Check State A → Type 0
LeavesUnits {A} m = (old new : State) (a : A) → m old (Gives a) new → new.units ≡ old.units

units-some : {A : Type 0} (P : State → A → Type 0) → LeavesUnits (gives_some P)
unfolding gives_some
units-some P old new a (x, e) = ap (λ (s : State). s.units) e

units-asking : {A : Type 0} (q : Check Atoms A) → LeavesUnits (asking q)
unfolding asks
units-asking q old new a (asked, e) = ap (λ (s : State). s.units) e

units-no-more : (count : ℕ) → LeavesUnits (wants_no_more count)
unfolding does
units-no-more count old new a e = ap (λ (s : State). s.units) e

units-or-fails : (b : Bool) (code : FaultCode) (at : Place) → LeavesUnits (either b (fails {A = Unit {0}} code at) done)
units-or-fails true code at = λ old new a x. absurd (never code at old new x)
units-or-fails false code at = units-some _

units-is-new : (w : Word) → LeavesUnits (is_new w)
unfolding ◌▷◌
units-is-new w old new a (b, mid, first, second) = units-or-fails b Duplicate w.at mid new a second ∙ units-some _ old mid b first

below-next : {A B : Type 0} (count : ℕ) (m : Check State A) (next : A → Check State B) → Goes m → LeavesUnits m → ((a : A) → Below count (next a)) → Below count (m ▷ next)
unfolding ◌▷◌
below-next count m next f units g old new b lt (a, mid, x, y) =
    let same : length mid.units ≡ length old.units = ap length (units old mid a x) in
    below-then count old mid new (on-below count old mid (omega (arith, lt)) (f old mid a x)) (g a mid new b (omega (arith, lt, same)) y)

below-goes : {A B : Type 0} (count : ℕ) (m : Check State A) (next : A → Check State B) → Below count m → ((a : A) → Goes (next a)) → Below count (m ▷ next)
unfolding ◌▷◌
below-goes count m next f g old new b lt (a, mid, x, y) =
    let first = f old mid a lt x in below-then count old mid new first (on-below count mid new first.there (g a mid new b y))

sets-unit-below : (count : ℕ) (u : UnitAtWork) → Below count (sets_unit u)
unfolding ◌▷◌ by_handles does
sets-unit-below count u old new a lt (v, mid, (same, first), is) =
    let now : new ≡ record old { units = replaced old.units v } = is ∙ ap (λ (s : State). record s { units = replaced s.units v }) first in
    let units : new.units ≡ all_but 1 old.units ++ v ∷ [] = ap (λ (s : State). s.units) now in
    let short : length (all_but 1 old.units) ≡ length old.units - 1 = front-long old.units in
    let long : length new.units ≡ length (all_but 1 old.units) + 1 = ap length units ∙ length-append (all_but 1 old.units) (v ∷ []) in
    same-below count old new (ap (λ (s : State). s.atoms) now)
    (ap (λ us. take count us) units ∙ take-front count (all_but 1 old.units) (v ∷ []) (omega (arith, lt, short)) ∙ front-kept count old.units lt) (omega (arith, lt, short, long))

closes-unit-below : (count : ℕ) → Below count closes_unit
unfolding ◌▷◌ gives_some does
closes-unit-below count old new u lt (v, a, (last, first), (w, b, second, (is, third))) =
    let now : new ≡ record a { units = all_but 1 a.units; ways = None } = third ∙ second in
    let units : new.units ≡ all_but 1 old.units = ap (λ (s : State). s.units) now ∙ ap (λ (s : State). all_but 1 s.units) first in
    let short : length (all_but 1 old.units) ≡ length old.units - 1 = front-long old.units in
    let long : length new.units ≡ length (all_but 1 old.units) = ap length units in
    same-below count old new (ap (λ (s : State). s.atoms) now ∙ ap (λ (s : State). s.atoms) first) (ap (λ us. take count us) units ∙ front-kept count old.units lt) (omega (arith, lt, short, long))

-- ---- the needs

pub parameter-below : (count : ℕ) (w : Word) → Below count (has_parameter w)
parameter-below count w =
    below-next count _ _ (goes-is-new w) (units-is-new w) (λ u. below-next count _ _ (goes-some _) (units-some _) (λ t.
    below-next count _ _ (goes-no-more 1) (units-no-more 1) (λ v. below-next count _ _ (goes-some _) (units-some _) (λ unit. sets-unit-below count _))))

pub rest-below : (count : ℕ) (w : Word) → Below count (has_rest w)
rest-below count w =
    below-next count _ _ (goes-is-new w) (units-is-new w) (λ u. below-next count _ _ (goes-some _) (units-some _) (λ t.
    below-next count _ _ (goes-no-more 1) (units-no-more 1) (λ v. below-next count _ _ (goes-asking _ (adds-behind _ _)) (units-asking _) (λ atom.
    below-next count _ _ (goes-some _) (units-some _) (λ l. below-next count _ _ (goes-some _) (units-some _) (λ unit. sets-unit-below count _))))))

pub value-below : (count : ℕ) (used : List Word) → Below count (begins_value used)
value-below count used =
    below-next count _ _ (goes-some _) (units-some _) (λ t. below-next count _ _ (goes-some _) (units-some _) (λ around.
    below-next count _ _ (goes-some _) (units-some _) (λ unit. sets-unit-below count _)))

pub anonymous-below : (count : ℕ) (isolated : Bool) (at : Place) → Below count (makes_anonymous isolated at)
anonymous-below count isolated at =
    below-next count _ _ (goes-no-more 1) (units-no-more 1) (λ v. below-goes count _ _ (closes-unit-below count) (λ u.
    goes-then _ _ (goes-asking _ (adds-behind _ _)) (λ first. goes-makes 1 _)))

pub worker-below : (passes : List AtomDef → Asked → TypeLimit → Type 0) (count : ℕ) (w : Worker) (close : Place) → Below count (ends_worker passes w close)
worker-below passes count w close =
    below-goes count _ _ (closes-unit-below count) (λ u. goes-then _ _ (goes-ends-by passes _ u close) (λ v. goes-then _ _ goes-closes-block (λ b.
    goes-then _ _ (goes-some _) (λ t. goes-becomes _ (λ s. goes-beside s _ refl refl)))))
