-- Slots of the unit at hand, and its result, as the place of its body has them.
use Rattle.std.proofs.Common.{◌≡◌, ◌∙◌, ◌++◌, ℕ, zero, suc, List, [], ◌∷◌, length, map, Some, refl, sym, subst, ap}
use Rattle.std.specs.Prelude.{slice_get}
use Rattle.std.specs.List.{AllZip}
use Rattle.checks.specs.Checks.{Gives, ◌▷◌, gives_some}
use Rattle.needs.specs.Needs.{does}
use Rattle.type_model.specs.declared.basic.Ty.{Ty}
use Rattle.operations.specs.Rows.{Surroundings}
use Rattle.typed_tree.specs.declared.expr.TypedExpr.{TypedExpr}
use Rattle.typed_tree.specs.SharedTypes.{Shared, sem_of}
use Rattle.check_words.specs.Sharing.{SameShared, SameUnit}
use Rattle.check_words.specs.State.{IsLast, State, UnitAtWork, all_but}
use Rattle.check_words.specs.Words.{Atoms, by_handles, makes, new_slot, sets_unit}
use Rattle.check_words.proofs.LastOnes.{kept-is}
use Rattle.typed_needs.specs.Placing.{IsPlaced}
use Rattle.typed_needs.proofs.Leaving.{SameParts, as-same, still, then-same}
use Rattle.typed_needs.proofs.Opened.{as-lasts, cons-same, same-lasts}

pub last-same : {A : Type 0} (xs : List A) (x y : A) → IsLast xs x → IsLast xs y → x ≡ y
last-same xs x y l m = (cons-same x y [] [] (same-lasts xs 1 (x ∷ []) (y ∷ []) (as-lasts xs x l) (as-lasts xs y m))).0

pub get-in-front : {A : Type 0} (xs ys : List A) (i : ℕ) (x : A) → slice_get xs i ≡ Some x → slice_get (xs ++ ys) i ≡ Some x
get-in-front [] ys i x e = absurd (let bad : ⊥ = cc in bad)
get-in-front (z ∷ xs) ys zero x e = e
get-in-front (z ∷ xs) ys (suc i) x e = get-in-front xs ys i x e

pub get-behind : {A : Type 0} (xs : List A) (x : A) (ys : List A) → slice_get (xs ++ x ∷ ys) (length xs) ≡ Some x
get-behind [] x ys = refl
get-behind (z ∷ xs) x ys = get-behind xs x ys

pub all-but-last : {A : Type 0} (xs : List A) (x : A) → all_but 1 (xs ++ x ∷ []) ≡ xs
all-but-last xs x = kept-is 1 (xs ++ x ∷ []) xs (x ∷ []) refl refl

-- a slot more, by other handles
slot-there : (us vs : List Shared) (t : Shared) → AllZip SameShared (us ++ t ∷ []) vs → slice_get (map sem_of vs) (length us) ≡ Some (sem_of t)
slot-there [] [] t same = absurd same
slot-there [] (v ∷ vs) t same = ap (λ (u : Ty). Some u.sem) same.0
slot-there (u ∷ us) [] t same = absurd same
slot-there (u ∷ us) (v ∷ vs) t same = slot-there us vs t same.1

-- one unit is at hand before, and another form of it behind, which has the slot
pub record SlotMade (t : Shared) (own : ℕ) (old new : State) : Type 0 where
  pub was : UnitAtWork
  pub now : UnitAtWork
  pub before : IsLast old.units was
  pub behind : IsLast new.units now
  pub slot : slice_get (map sem_of now.slots) own ≡ Some (sem_of t)
  pub result : SameShared was.result now.result
  pub same : SameParts old new

unit-set : (u : UnitAtWork) (v : Unit {0}) (old new : State) → sets_unit u old (Gives v) new → (w : UnitAtWork) × SameUnit u w × IsLast new.units w × SameParts old new
unfolding ◌▷◌ by_handles does
unit-set u v old new (w, mid, (same, first), is) = (
  w,
  same,
  record { kept = all_but 1 mid.units; is = ap (λ (s : State). s.units) is },
  then-same old mid new (as-same old mid first) (still mid new (ap (λ (s : State). s.found) is) (ap (λ (s : State). s.atoms) is)),
)

pub slot-made : (t : Shared) (own : ℕ) (old new : State) → new_slot t old (Gives own) new → SlotMade t own old new
unfolding ◌▷◌ gives_some
slot-made t own old new (u, a, (last, first), (v, b, set, (is, same))) =
    let (w, unit, hand, parts) = unit-set _ v a b set in
    record {
      was = u;
      now = w;
      before = last;
      behind = subst (λ (s : State). IsLast s.units w) (sym same) hand;
      slot = subst (λ n. slice_get (map sem_of w.slots) n ≡ Some (sem_of t)) (sym is) (slot-there u.slots w.slots t unit.slots);
      result = unit.result;
      same = then-same old a new (as-same old a first) (then-same a b new parts (as-same b new same));
    }

-- what is made leaves the unit
pub units-kept : (count : ℕ) (P : Atoms → List TypedExpr → TypedExpr → Type 0) (u : Unit {0}) (old new : State) → makes count P old (Gives u) new → new.units ≡ old.units
unfolding does
units-kept count P u old new (parts, last, e, p, is) = ap (λ (s : State). s.units) is

-- the slot as the place has it, and the result
pub placed-slot : (place : Surroundings) (t : Shared) (own : ℕ) (old mid new : State) → SlotMade t own old mid → new.units ≡ mid.units → IsPlaced place new
    → slice_get place.slots own ≡ Some (sem_of t)
placed-slot place t own old mid new made same placed =
    let hand : IsLast new.units made.now = subst (λ us. IsLast us made.now) (sym same) made.behind in
    let unit : placed.unit ≡ made.now = last-same new.units placed.unit made.now placed.at_hand hand in
    let slots : place.slots ≡ map sem_of made.now.slots ++ placed.later =
    subst (λ (u : UnitAtWork). place.slots ≡ map sem_of u.slots ++ placed.later) unit placed.slots in
    subst (λ xs. slice_get xs own ≡ Some (sem_of t)) (sym slots) (get-in-front (map sem_of made.now.slots) placed.later own (sem_of t) made.slot)

pub placed-result : (place : Surroundings) (t : Shared) (own : ℕ) (old mid new : State) (u : UnitAtWork) → SlotMade t own old mid → new.units ≡ mid.units → IsPlaced place new
    → IsLast old.units u → place.result ≡ sem_of u.result
placed-result place t own old mid new u made same placed last =
    let hand : IsLast new.units made.now = subst (λ us. IsLast us made.now) (sym same) made.behind in
    let unit : placed.unit ≡ made.now = last-same new.units placed.unit made.now placed.at_hand hand in
    let was : made.was ≡ u = last-same old.units made.was u made.before last in
    placed.result ∙ ap (λ (v : UnitAtWork). sem_of v.result) unit ∙ ap (λ (y : Ty). y.sem) made.result ∙ ap (λ (v : UnitAtWork). sem_of v.result) was
