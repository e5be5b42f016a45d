-- A frame that goes on at a place of its unit: with slots, operands and traps that fit there.
use Rattle.std.proofs.Common.{◌≡◌, ℕ, zero, suc, List, [], ◌∷◌, ◌++◌, Option, Some, reverse, refl, sym, subst, arith}
use Rattle.std.proofs.lemmas.List.Elements.{All-head, All-tail}
use Rattle.std.specs.Prelude.{All, IsSomeAnd, IsTrue, is_some, slice_get, slice_set, take}
use Rattle.std.specs.List.{AllZip}
use Rattle.type_model.specs.declared.basic.SemType.{SemType}
use Rattle.operations.specs.declared.operation.Operation.TheVariants as op
use Rattle.value_model.specs.declared.value.Value.{Value}
use Rattle.op_model.specs.Common.{Common}
use Rattle.op_model.specs.Local.{Local}
use Rattle.machine_model.specs.Machine.{Frame, goes_to}
use Rattle.machine_model.proofs.Once.{some-same}
use Rattle.stack_code.specs.declared.code.Code.{Code}
use Rattle.stack_code.specs.declared.code.Unit.{Unit as CodeUnit}
use Rattle.stack_code.specs.CodeMachine.{OpenedTrap, Standing, standing}
use Rattle.stack_code.specs.Flow.{GoesOnAt}
use Rattle.stack_code.specs.Frames.{AreStored, IsOfItsUnit, SlotsFit, StandsIn, TallyIs, TopFits, TrapFits}
use Rattle.stack_code.specs.Places.{Station, Tally, stack_at, traps_at}
use Rattle.stack_code.specs.Values.{AllFit, Fits, HeldFits}
use Rattle.code_keeping.proofs.Lists.{at-some}
use Rattle.code_keeping.proofs.Staying.{above}
use Rattle.code_keeping.proofs.Taking.{take-operands}

pub arrives : (code : Code) (f : Frame Standing) (u : CodeUnit) → slice_get code.units f.unit ≡ Some u → (station : Station) (c : Common) →
    (to : ℕ) (types : List SemType) (tally : Option Tally) (slots : List (Option Value)) (stack : List Value) (traps : List OpenedTrap) (ts : List ℕ) →
    GoesOnAt code u station to types tally → SlotsFit code c u slots → AllFit code c (reverse stack) types → traps_at code u to ≡ Some ts → AllZip (TrapFits code c stack) traps ts →
    TallyIs code c f.role tally → IsOfItsUnit code c f.unit f.role → TopFits code c (goes_to f (standing to traps (record { slots = slots; stack = stack })))
arrives code f u eu station c to types tally slots stack traps ts (inside, under, counts) slots-fit fit et traps-fit numbers own = (
  (
    at-some (StandsIn code c to slots stack traps) (slice_get code.units f.unit) u eu (inside, slots-fit, at-some (λ ts. AllZip (TrapFits code c stack) traps ts) (traps_at code u to) ts et traps-fit),
    subst (λ k. TallyIs code c f.role k) (sym counts) numbers,
    own,
  ),
  above code c (reverse stack) types (stack_at code to) fit under,
)

-- ---- slots

abbrev Held : Option Value → Type 0
Held held = IsTrue (is_some held)

module _ (code : Code) (c : Common) where
  stored-zip : (slots : List (Option Value)) (types : List SemType) (s : ℕ) (v : Value) → AllZip (HeldFits code c) slots types → IsSomeAnd (slice_get types s) (λ t. Fits code c v t) → AllZip (HeldFits code c) (slice_set slots s (Some v)) types
  stored-zip [] [] s v h k = h
  stored-zip [] (t ∷ types) s v h k = absurd h
  stored-zip (x ∷ slots) [] s v h k = absurd h
  stored-zip (x ∷ slots) (t ∷ types) zero v (h, more) k = ((λ w e. subst (λ y. Fits code c y t) (some-same v w e) k), more)
  stored-zip (x ∷ slots) (t ∷ types) (suc s) v (h, more) k = (h, stored-zip slots types s v more k)

  stored-there : (count : ℕ) (slots : List (Option Value)) (s : ℕ) (v : Value) → AreStored count slots → AreStored count (slice_set slots s (Some v))
  stored-there count slots s v h = by count slots s h
    where
      more : (x : Option Value) (xs : List (Option Value)) → Held x → All Held xs → All Held (x ∷ xs)
      more x xs h all zero d l = h
      more x xs h all (suc k) d l = all k d (omega (arith, l))

      by : (count : ℕ) (slots : List (Option Value)) (s : ℕ) → AreStored count slots → AreStored count (slice_set slots s (Some v))
      by zero [] s h = h
      by zero (x ∷ slots) zero h = h
      by zero (x ∷ slots) (suc s) h = h
      by (suc count) [] s h = h
      by (suc count) (x ∷ slots) zero h = more (Some v) (take count slots) refl (All-tail Held x (take count slots) h)
      by (suc count) (x ∷ slots) (suc s) h = more x (take count (slice_set slots s (Some v))) (All-head Held x (take count slots) h) (by count slots s (All-tail Held x (take count slots) h))

  -- a slot is stored
  pub stored-fits : (u : CodeUnit) (slots : List (Option Value)) (s : ℕ) (v : Value) → SlotsFit code c u slots → IsSomeAnd (slice_get u.slots s) (λ t. Fits code c v t) → SlotsFit code c u (slice_set slots s (Some v))
  stored-fits u slots s v (h, there) k = (stored-zip slots u.slots s v h k, stored-there _ slots s v there)

  -- a slot that has a value has one of its type
  pub loaded-fits : (slots : List (Option Value)) (types : List SemType) (s : ℕ) (v : Value) → AllZip (HeldFits code c) slots types → slice_get slots s ≡ Some (Some v) → IsSomeAnd (slice_get types s) (λ t. Fits code c v t)
  loaded-fits [] types s v h e = absurd (let q : ⊥ = cc in q)
  loaded-fits (x ∷ slots) [] s v h e = absurd h
  loaded-fits (x ∷ slots) (t ∷ types) zero v (h, more) e = h v (some-same x (Some v) e)
  loaded-fits (x ∷ slots) (t ∷ types) (suc s) v (h, more) e = loaded-fits slots types s v more e

-- ---- one operand

-- the last operand of a stack that fits a map
pub record IsOneOff (code : Code) (c : Common) (stack : List Value) (rest : List SemType) (t : SemType) : Type 0 where
  pub value : Value
  pub below : List Value
  pub is : stack ≡ value ∷ below
  pub fits : Fits code c value t
  pub others : AllFit code c (reverse below) rest

pub one-off : (code : Code) (c : Common) (stack : List Value) (rest : List SemType) (t : SemType) → AllFit code c (reverse stack) (rest ++ t ∷ []) → IsOneOff code c stack rest t
one-off code c stack rest t h =
    let l : Local = record { slots = []; stack = stack } in
    let taken = take-operands (Fits code c) op.Pop l rest (t ∷ []) h in
    by taken.args taken.below taken.fit taken.stack taken.others
  where
    by : (args below : List Value) → AllFit code c args (t ∷ []) → stack ≡ reverse args ++ below → AllFit code c (reverse below) rest → IsOneOff code c stack rest t
    by [] below fit e others = absurd fit
    by (v ∷ []) below (fit, end) e others = record { value = v; below = below; is = e; fits = fit; others = others }
    by (v ∷ w ∷ args) below (fit, end) e others = absurd end
