-- States on the way.
use Rattle.std.proofs.Common.{◌≡◌, ◌∙◌, ◌++◌, ◌+◌, List, [], ◌∷◌, drop, length, map, append-nil, append_assoc, arith, length-append, refl, sym, subst, ap}
use Rattle.std.specs.List.{AllZip}
use Rattle.type_model.specs.declared.atoms.AtomDef.{AtomDef}
use Rattle.type_model.specs.Calls.{KeepsTypes}
use Rattle.type_model.proofs.Kept.{KeepsTypes-append}
use Rattle.typed_tree.specs.SharedTypes.{sem_of}
use Rattle.check_words.specs.State.{IsLast, State, UnitAtWork}
use Rattle.typed_needs.specs.Going.{GoesOn, IsSameUnit}
use Rattle.typed_needs.specs.OnTheWay.{PlacesAreKept, StatesAreBefore}
use Rattle.typed_needs.proofs.Going.{each-long}
use Rattle.typed_needs.proofs.Placed.{last-same}

pub states-are-before : StatesAreBefore
states-are-before env old new is-env stands goes (more, is) =
    let rest : List AtomDef = goes.more ++ more in
    let first : env ≡ old.atoms ++ rest = is ∙ ap (λ xs. xs ++ more) goes.atoms ∙ append_assoc old.atoms goes.more more in (
      record { stands = stands; keeps = subst (λ xs. KeepsTypes old.atoms xs) (sym first) (KeepsTypes-append old.atoms rest is-env) },
      (rest, first),
    )

-- ---- the unit at hand

tail-last : (w x : UnitAtWork) (vs : List UnitAtWork) (v : UnitAtWork) → IsLast (w ∷ x ∷ vs) v → IsLast (x ∷ vs) v
tail-last w x vs v last = by last.kept last.is
  where
    by : (kept : List UnitAtWork) → w ∷ x ∷ vs ≡ kept ++ v ∷ [] → IsLast (x ∷ vs) v
    by [] is = absurd (let long = ap length is in omega (arith, long))
    by (k ∷ kept) is = record { kept = kept; is = ap (λ l. drop 1 l) is }

-- of units that go on the last one goes on to the last one
pub record Came (us : List UnitAtWork) (v : UnitAtWork) : Type 0 where
  pub was : UnitAtWork
  pub at_hand : IsLast us was
  pub same : IsSameUnit was v

last-came : (us vs : List UnitAtWork) (v : UnitAtWork) → AllZip IsSameUnit us vs → IsLast vs v → Came us v
last-came [] [] v h last = absurd (let long = ap length last.is in let more = length-append last.kept (v ∷ []) in omega (arith, long, more))
last-came (u ∷ []) (w ∷ []) v h last =
    let one : w ≡ v = last-same (w ∷ []) w v (record { kept = []; is = refl }) last in
    record { was = u; at_hand = record { kept = []; is = refl }; same = subst (λ x. IsSameUnit u x) one h.0 }
last-came (u ∷ x ∷ us) (w ∷ y ∷ vs) v h last =
    let c = last-came (x ∷ us) (y ∷ vs) v h.1 (tail-last w y vs v last) in
    record { was = c.was; at_hand = record { kept = u ∷ c.at_hand.kept; is = ap (λ l. u ∷ l) c.at_hand.is }; same = c.same }
last-came [] (w ∷ vs) v h last = absurd h
last-came (u ∷ us) [] v h last = absurd h
last-came (u ∷ []) (w ∷ y ∷ vs) v h last = absurd h.1
last-came (u ∷ x ∷ us) (w ∷ []) v h last = absurd h.1

none-above : (xs : List UnitAtWork) → length xs ≡ 0 → xs ≡ []
none-above [] e = refl
none-above (x ∷ xs) e = absurd (omega (arith, e))

-- no unit came, so the last one is the last one as it went on
pub unit-came : (old new : State) (v : UnitAtWork) → GoesOn old new → length new.units ≡ length old.units → IsLast new.units v → Came old.units v
unit-came old new v goes many last =
    let long : length new.units ≡ length goes.going + length goes.above = ap length goes.units ∙ length-append goes.going goes.above in
    let same-long = each-long old.units goes.going goes.each in
    let none : goes.above ≡ [] = none-above goes.above (omega (arith, many, long, same-long)) in
    let units : new.units ≡ goes.going = goes.units ∙ ap (λ l. goes.going ++ l) none ∙ append-nil goes.going in
    last-came old.units goes.going v goes.each (subst (λ us. IsLast us v) units last)

pub places-are-kept : PlacesAreKept
places-are-kept place old new goes many placed =
    let c = unit-came old new placed.unit goes many placed.at_hand in
    record {
      unit = c.was;
      at_hand = c.at_hand;
      later = c.same.more ++ placed.later;
      slots = placed.slots ∙ ap (λ ts. ts ++ placed.later) c.same.slots ∙ append_assoc (map sem_of c.was.slots) c.same.more placed.later;
      result = placed.result ∙ c.same.result;
    }
