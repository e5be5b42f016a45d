-- A call begins well, and what awaits its result goes on with it.
use Rattle.std.proofs.Common.{◌≡◌, ◌≤◌, ◌<◌, ◌∙◌, ◌+◌, ◌-◌, ℕ, zero, suc, List, [], ◌∷◌, ◌++◌, Option, Some, None, inl, inr, length, map, replicate, reverse, take, refl, sym, ap, subst, arith}
use Rattle.std.proofs.lemmas.List.{length-append, reverse-append}
use Rattle.std.specs.Prelude.{IsSomeAnd, IsTrue, is_some, slice_get, slice_index_or}
use Rattle.std.specs.List.{AllZip}
use Rattle.type_model.specs.declared.basic.SemType.{SemType}
use Rattle.operations.specs.declared.operation.Operation.{Operation}
use Rattle.operations.specs.declared.operation.Operation.TheVariants as op
use Rattle.operations.specs.Talk.{NoTalk, talk_of}
use Rattle.value_model.specs.declared.value.Value.{Value}
use Rattle.value_model.specs.Heap.{IsClosed}
use Rattle.op_model.specs.Common.{Common, Role}
use Rattle.op_model.specs.Local.{with_stack}
use Rattle.machine_model.specs.Following.{EndsFrame}
use Rattle.machine_model.specs.Keeping.{Caught}
use Rattle.machine_model.specs.Machine.{Frame, first_slots, goes_to}
use Rattle.machine_model.proofs.Once.{some-same}
use Rattle.stack_code.specs.declared.code.Code.{Code}
use Rattle.stack_code.specs.declared.code.Unit.{Unit as CodeUnit}
use Rattle.stack_code.specs.CodeMachine.{Standing, entry, lands, standing}
use Rattle.stack_code.specs.Commands.{Do, command_at}
use Rattle.stack_code.specs.Flow.{DoesTyped, IsBoundedAt, tally_landing, tally_then, tally_thrown}
use Rattle.stack_code.specs.Frames.{AwaitsResult, IsCall, IsOfItsUnit, SlotsFit, StandsIn, StandsWell, TallyIs, TopFits, TrapFits, TrapsFit}
use Rattle.stack_code.specs.Messages.{IsBelow}
use Rattle.stack_code.specs.Places.{IsIn, IsStation, Station, crew, stack_at, tally_at, traps_at, traps_from}
use Rattle.stack_code.specs.Tables.{FollowFrom, HasSlots, UnitAt}
use Rattle.stack_code.specs.Values.{AllFit, Fits, HeldFits, IsMadeError}
use Rattle.stack_code.specs.WellTyped.{WellTyped}
use Rattle.code_keeping.specs.Laws.{AwaitedComes}
use Rattle.code_keeping.proofs.Landing.{back-same, caught}
use Rattle.code_keeping.proofs.Lists.{at-some, of-some, some-to, zip-both, zip-to}
use Rattle.code_keeping.proofs.Places.{IsAt, at-place, done-behind, nothing-behind, typed-by, typed-in}
use Rattle.code_keeping.proofs.Staying.{same}
use Rattle.code_keeping.proofs.Taking.{zip-length}

-- ---- what awaits a result

-- a frame that stands well does so with one operand more
one-more : (code : Code) (c : Common) (f : Frame Standing) (v : Value) → StandsWell code c f → StandsWell code c (goes_to f (standing f.control.place f.control.traps (with_stack f.control.local (v ∷ f.control.local.stack))))
one-more code c f v (unit, tally, own) =
    (some-to _ _ (slice_get code.units f.unit) (λ x h. (h.0, h.1, some-to _ _ (traps_at code x f.control.place) (λ ts h. zip-to _ _ (λ trap t k. (k.0, k.1, (v ∷ k.2.0, ap (λ xs. v ∷ xs) k.2.1))) f.control.traps ts h) h.2)) unit, tally, own)

-- a result of the unit, in the place's type
result-fits : (code : Code) (c : Common) (callee : ℕ) (v : Value) (r : SemType) → UnitAt code callee (λ u. IsBelow code u.result r) → UnitAt code callee (λ u. Fits code c v u.result) → Fits code c v r
result-fits code c callee v r below holds = by (slice_get code.units callee) below holds
  where
    by : (o : Option CodeUnit) → IsSomeAnd o (λ u. IsBelow code u.result r) → IsSomeAnd o (λ u. Fits code c v u.result) → Fits code c v r
    by None b h = absurd h
    by (Some u) b (closed, made, belongs) = (closed, made, (λ x valid stands. b x (valid, belongs x valid stands)))

resumes : (code : Code) (c : Common) (f : Frame Standing) (callee : ℕ) (v : Value) → AwaitsResult code c f callee → UnitAt code callee (λ u. Fits code c v u.result) →
    TopFits code c (goes_to f (standing f.control.place f.control.traps (with_stack f.control.local (v ∷ f.control.local.stack))))
resumes code c f callee v a holds = (
  one-more code c f v a.stands,
  subst (λ ts. AllFit code c (reverse (v ∷ f.control.local.stack)) ts) (sym a.stack)
      (subst (λ xs. AllFit code c xs (a.rest ++ a.result ∷ [])) (sym (reverse-append (v ∷ []) f.control.local.stack))
      (zip-both (Fits code c) (reverse f.control.local.stack) (v ∷ []) a.rest (a.result ∷ []) a.operands (result-fits code c callee v a.result a.below holds, tt))),
)

-- a call says nothing to workers and doesn't end its frame
call-is : (code : Code) (p : ℕ) → IsCall code p → (o : Operation) × (command_at code p ≡ Some (Do o)) × (talk_of o ≡ NoTalk) × (¬ (EndsFrame o))
call-is code p (inl (unit, count, e)) = (op.Call unit count, e, refl, λ h. h)
call-is code p (inr (count, e)) = (op.CallValue count, e, refl, λ h. h)

catches : (code : Code) (t : WellTyped code) (c : Common) (f : Frame Standing) (callee : ℕ) (e : Value) → AwaitsResult code c f callee → IsClosed c.world.heap → IsMadeError code c e → Caught (TopFits code c) f (lands f.control.local e f.control.traps)
catches code t c f callee e a closed error =
    let at = at-place code c f a.stands in
    let inside : IsIn at.u a.call = of-some (λ u. IsIn u a.call) (slice_get code.units f.unit) at.u at.is a.inside in
    let (o, ec, quiet, goes) = call-is code a.call a.is_call in
    let typed : DoesTyped code at.u at.station a.call o = typed-by code at.u at.station a.call (Do o) ec (typed-in code t f.unit at.u at.is at.station at.stationed a.call inside) in
    let counts : tally_landing (command_at code a.call) (tally_at code a.call) ≡ tally_at code f.control.place =
    ap (λ x. tally_landing x (tally_at code a.call)) ec ∙ (ap (λ k. tally_thrown k (tally_at code a.call)) quiet
    ∙ (sym (ap (λ k. tally_then (length (crew code at.station.function)) k (tally_at code a.call)) quiet) ∙ (sym (typed.next goes).2 ∙ ap (λ q. tally_at code q) (sym a.behind)))) in
    by at (at.here.2) inside o ec counts
  where
    by : (at : IsAt code c f) → TrapsFit code c at.u f.control.place f.control.local.stack f.control.traps → IsIn at.u a.call → (o : Operation) → command_at code a.call ≡ Some (Do o) → tally_landing (command_at code a.call) (tally_at code a.call) ≡ tally_at code f.control.place →
        Caught (TopFits code c) f (lands f.control.local e f.control.traps)
    by at held inside o ec counts =
        caught code f at.u at.is at.station (λ q i. typed-in code t f.unit at.u at.is at.station at.stationed q i) a.call inside c c e closed error (same None c) at.here.1 (subst (λ k. TallyIs code c f.role k) (sym counts) a.stands.1) a.stands.2
        f.control.local.stack f.control.local.stack f.control.traps (traps_at code at.u a.call) refl (back (traps_at code at.u a.call) refl)
      where
        back : (r : Option (List ℕ)) → traps_at code at.u a.call ≡ r → IsSomeAnd r (λ ts. AllZip (TrapFits code c f.control.local.stack) f.control.traps ts)
        back (Some ts) e =
            let same-traps : traps_at code at.u f.control.place ≡ Some ts = ap (λ q. traps_at code at.u q) a.behind ∙ done-behind code at.u a.call inside.0 o ts ec e in
            of-some (λ ts. AllZip (TrapFits code c f.control.local.stack) f.control.traps ts) (traps_at code at.u f.control.place) ts same-traps held
        back None e = absurd (subst (λ r. IsSomeAnd r (λ ts. AllZip (TrapFits code c f.control.local.stack) f.control.traps ts)) (ap (λ q. traps_at code at.u q) a.behind ∙ nothing-behind code at.u a.call inside.0 o ec e) held)

pub awaited-comes : AwaitedComes
awaited-comes code fillers c f callee t a = ((λ v holds. resumes code c f callee v a holds), (λ e closed error. catches code t c f callee e a closed error))

-- ---- the slots of a call

pub nothing-stored : (code : Code) (c : Common) (k : ℕ) (ts : List SemType) → k ≡ length ts → AllZip (HeldFits code c) (replicate k None) ts
nothing-stored code c zero [] e = tt
nothing-stored code c zero (t ∷ ts) e = absurd (omega (arith, e))
nothing-stored code c (suc k) [] e = absurd (omega (arith, e))
nothing-stored code c (suc k) (t ∷ ts) e = ((λ v h. absurd (let q : ⊥ = cc in q)), nothing-stored code c k ts (omega (arith, e)))

slots-from : (code : Code) (c : Common) (k : ℕ) (args : List Value) (types : List SemType) → k + length args ≡ length types → AllFit code c args (take (length args) types) → AllZip (HeldFits code c) (map Some args ++ replicate k None) types
slots-from code c k [] types e h = nothing-stored code c k types (omega (arith, e))
slots-from code c k (v ∷ args) [] e h = absurd (omega (arith, e))
slots-from code c k (v ∷ args) (t ∷ types) e (h, more) = ((λ w d. subst (λ y. Fits code c y t) (some-same v w d) h), slots-from code c k args types (omega (arith, e)) more)

stored-first : (args : List Value) (more : List (Option Value)) (count : ℕ) → count ≤ length args → (k : ℕ) (d : Option Value) → k < length (take count (map Some args ++ more)) → IsTrue (is_some (slice_index_or (take count (map Some args ++ more)) k d))
stored-first args more zero le k d l = absurd (omega (arith, l))
stored-first [] more (suc count) le k d l = absurd (omega (arith, le))
stored-first (v ∷ args) more (suc count) le zero d l = refl
stored-first (v ∷ args) more (suc count) le (suc k) d l = stored-first args more count (omega (arith, le)) k d (omega (arith, l))

-- arguments that fit the parameters and what is captured fit the first slots
module _ (code : Code) (c : Common) (g : CodeUnit) (args : List Value) (fit : AllFit code c args (g.params ++ g.captured)) (slots : HasSlots code g) where
  as-many : length args ≡ length g.params + length g.captured
  as-many = zip-length (Fits code c) args (g.params ++ g.captured) fit ∙ length-append g.params g.captured

  in-slots : AllFit code c args (take (length g.params + length g.captured) g.slots)
  in-slots = back-same code c args (take (length g.params + length g.captured) g.slots) (g.params ++ g.captured) fit slots

  short : {A : Type 0} (n : ℕ) (xs : List A) → length (take n xs) ≤ length xs
  short zero xs = omega arith
  short (suc n) [] = omega arith
  short (suc n) (x ∷ xs) = let l : length (take n xs) ≤ length xs = short n xs in omega (arith, l)

  slots-begin : SlotsFit code c g (first_slots (length g.slots) args)
  slots-begin =
      let e : length args ≡ length (take (length g.params + length g.captured) g.slots) = zip-length (Fits code c) args (take (length g.params + length g.captured) g.slots) in-slots in
      let le : length (take (length g.params + length g.captured) g.slots) ≤ length g.slots = short (length g.params + length g.captured) g.slots in (
        slots-from code c (length g.slots - length args) args g.slots (omega (arith, e, le)) (subst (λ n. AllFit code c args (take n g.slots)) (sym as-many) in-slots),
        stored-first args (replicate (length g.slots - length args) None) (length g.params + length g.captured) (omega (arith, as-many)),
      )

-- ---- a call begins

open-unit : (code : Code) (p : ℕ) (us : List CodeUnit) (q n : ℕ) (u : CodeUnit) → FollowFrom code p us q → slice_get us n ≡ Some u → u.first < u.end
open-unit code p [] q n u h s = absurd (let q : ⊥ = cc in q)
open-unit code p (x ∷ us) q zero u (e, lt, more) s = subst (λ y. y.first < y.end) (some-same x u s) (omega (arith, e, lt))
open-unit code p (x ∷ us) q (suc n) u (e, lt, more) s = open-unit code x.end us q n u more s

pub entry-in : (code : Code) → WellTyped code → (unit : ℕ) (g : CodeUnit) → slice_get code.units unit ≡ Some g → IsIn g g.first
entry-in code t unit g eg = (omega arith, open-unit code 0 code.units (length code.instrs) unit g t.fields.places eg)

-- with arguments that fit, and the numbers that the entry has
pub begins : (code : Code) (t : WellTyped code) (c : Common) (unit : ℕ) (g : CodeUnit) (eg : slice_get code.units unit ≡ Some g) (station : Station) → IsStation code unit station → (args : List Value) (role : Option Role) →
    AllFit code c args (g.params ++ g.captured) → TallyIs code c role (tally_at code g.first) → IsOfItsUnit code c unit role →
    TopFits code c (record { unit = unit; role = role; control = entry args g })
begins code t c unit g eg station stationed args role fit numbers own =
    let inside : IsIn g g.first = entry-in code t unit g eg in
    let bounded : IsBoundedAt code g station _ g.first = ((t.places g.first).typed unit g eg inside station stationed).1 in
    let empty : stack_at code g.first ≡ [] = (bounded.0 refl).1 in (
      (
        at-some (StandsIn code c g.first (first_slots (length g.slots) args) [] []) (slice_get code.units unit) g eg
            (inside, slots-begin code c g args fit (t.fields.slots unit g eg), at-some (λ ts. AllZip (TrapFits code c []) [] ts) (traps_at code g g.first) [] (ap (λ k. traps_from code g.first k) (none g.first)) tt),
        numbers,
        own,
      ),
      subst (λ ts. AllFit code c [] ts) (sym empty) tt,
    )
  where
    none : (n : ℕ) → n - n ≡ 0
    none n = omega arith
