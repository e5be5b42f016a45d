-- What a frame asks for with a panic, and with the load of a slot that was never stored: the error is caught where a trap is open.
use Rattle.std.proofs.Common.{◌≡◌, ◌<◌, ◌+◌, ◌∙◌, ℕ, zero, suc, List, [], ◌∷◌, ◌++◌, Option, Some, None, length, reverse, refl, sym, ap, subst, arith}
use Rattle.std.proofs.lemmas.List.{append-nil}
use Rattle.std.specs.Prelude.{IsSomeAnd, IsTrue, slice_get}
use Rattle.std.specs.List.{AllZip}
use Rattle.type_model.specs.declared.basic.SemType.{SemType}
use Rattle.operations.specs.declared.operation.Operation.{Operation}
use Rattle.operations.specs.declared.operation.Operation.TheVariants as op
use Rattle.operations.specs.Talk.{NoTalk, talk_of}
use Rattle.value_model.specs.declared.filler.Filler.{Filler}
use Rattle.value_model.specs.declared.panics.PanicName.TheVariants.{NotInitialised}
use Rattle.value_model.specs.declared.value.Value.{Value}
use Rattle.value_model.specs.declared.value.Value.TheVariants.{Error}
use Rattle.value_model.specs.Meaning.{Answers}
use Rattle.op_model.specs.Common.{Common}
use Rattle.op_model.specs.Effects.{Effect, Fails, lifted}
use Rattle.op_model.specs.Local.{Local, acts, loaded, pushed, takes, with_stack}
use Rattle.op_model.specs.Performs.{Performs}
use Rattle.op_model.specs.Rows.{panics}
use Rattle.machine_model.specs.Keeping.{AskFits, EffectFits}
use Rattle.machine_model.specs.Machine.{Ask, Frame, On, asks, captured_slots, goes_to}
use Rattle.machine_model.specs.Runs.{Running}
use Rattle.stack_code.specs.declared.code.Code.{Code}
use Rattle.stack_code.specs.CodeMachine.{Standing, code_facts, codes, obeys, standing}
use Rattle.stack_code.specs.Commands.{Do, command_at}
use Rattle.stack_code.specs.Flow.{DoesTyped, tally_landing, tally_thrown}
use Rattle.stack_code.specs.Frames.{TallyIs, TopFits}
use Rattle.stack_code.specs.Good.{GoodCommon, IsLater, NearlyCommon, code_invariant}
use Rattle.stack_code.specs.Places.{stack_at, surroundings, tally_at, traps_at}
use Rattle.stack_code.specs.Values.{AllFit, Fits, HeldFits, IsMadeError}
use Rattle.stack_code.specs.WellTyped.{WellTyped}
use Rattle.code_keeping.specs.Laws.{AskComes, IsDone, PanicsAreDone}
use Rattle.code_keeping.specs.Kinds.{Errors}
use Rattle.code_keeping.specs.Rows.{Comes, EffectTyped}
use Rattle.code_keeping.proofs.Asks.{effect-fits}
use Rattle.code_keeping.proofs.Itself.{goes-on-by-itself}
use Rattle.code_keeping.proofs.Landing.{caught}
use Rattle.code_keeping.proofs.Making.{panic-typed}
use Rattle.code_keeping.proofs.OfKind.{of-kind}
use Rattle.code_keeping.proofs.Operands.{an-error, errors, one-fit, one-long}
use Rattle.code_keeping.proofs.Places.{IsAt, at-place, typed-by, typed-in}
use Rattle.code_keeping.proofs.Staying.{for-none, same, tally-later, unit-later}
use Rattle.code_keeping.proofs.Taking.{IsTaken, take-operands}

module _ (code : Code) (fillers : ℕ → List Filler) (natives : Answers) (t : WellTyped code) (c : Common) (depth : ℕ) (good : GoodCommon code c Running) (f : Frame Standing) (fits : TopFits code c f) (at : IsAt code c f) where
  abbrev p : ℕ
  p = f.control.place

  abbrev l : Local
  l = f.control.local

  abbrev Asks : Ask Standing → Type 0
  Asks ask = AskFits natives (codes fillers code) (code_invariant code) c depth f ask

  abbrev AsksComes : Ask Standing → Type 0
  AsksComes ask = AskComes natives (code_facts fillers code) c depth f ask

  -- ---- a panic

  module _ (ec : command_at code p ≡ Some (Do op.Panic)) where
    abbrev typed : DoesTyped code at.u at.station p op.Panic
    typed = typed-by code at.u at.station p (Do op.Panic) ec (typed-in code t f.unit at.u at.is at.station at.stationed p at.here.0)

    abbrev Effects : List Value → Effect → Type 0
    Effects below effect = EffectFits natives (codes fillers code) (code_invariant code) c depth f (standing (p + 1) f.control.traps (with_stack l below)) effect

    fails : (n : ℕ) (below : List Value) → IsMadeError code c (Error n) → Effects below (Fails (Error n) c)
    fails n below error = (
      good.nearly,
      (refl, refl),
      (λ q apart. same q c),
      error,
      caught code f at.u at.is at.station (λ q inside. typed-in code t f.unit at.u at.is at.station at.stationed q inside) p at.here.0 c c (Error n) good.nearly.heap.closed error (same None c) at.here.1
          (subst (λ k. TallyIs code c f.role k) (sym (ap (λ x. tally_landing x (tally_at code p)) ec)) fits.0.1) fits.0.2
          l.stack below f.control.traps (traps_at code at.u p) refl at.here.2,
    )

    -- on such operands it fails with an error, and in no other way
    abbrev Panics : List Value → List Value → Type 0
    Panics below args =
        ((effect : Effect) → Performs (code_facts fillers code) natives op.Panic args (record { unit = f.unit; role = f.role; depth = depth }) c effect → Effects below effect)
        × Comes (Performs (code_facts fillers code) natives op.Panic args (record { unit = f.unit; role = f.role; depth = depth }) c)

    panics-so : (args below : List Value) → AllFit code c args typed.operands → Panics below args
    panics-so args below fit =
        one-fit code c (Panics below) typed.operands args _ typed.typed.0 fit
        (λ a v within g. an-error c.world.heap (λ z. Fits code c z a → Panics below (z ∷ [])) v (of-kind code t c good.nearly.heap (λ k. k ≡ Errors) v a g (λ x h. errors x (within x h)))
        (λ n made. ((λ effect e. subst (λ y. Effects below y) (sym e) (fails n below (refl, made.1))), (λ never. never (Fails (Error n) c) refl))) g)

    pub panics-done : Asks ((codes fillers code).look f.unit f.control) × AsksComes ((codes fillers code).look f.unit f.control)
    panics-done =
        let captured = captured_slots (code_facts fillers code) f.unit in
        let taken = take-operands (Fits code c) op.Panic l typed.rest typed.operands (subst (λ ts. AllFit code c (reverse l.stack) ts) typed.stack fits.1) in
        subst (λ x. Asks (obeys captured f.control x) × AsksComes (obeys captured f.control x)) (sym ec)
        (subst (λ a. Asks (asks (standing (p + 1) f.control.traps) a) × AsksComes (asks (standing (p + 1) f.control.traps) a)) (sym (ap (λ n. takes op.Panic l n) (sym (one-long typed.operands _ typed.typed.0)) ∙ taken.is))
        (panics-so taken.args taken.below taken.fit))

  -- ---- a slot

  slot-there : (slots : List (Option Value)) (types : List SemType) (s : ℕ) (P : SemType → Type 0) → AllZip (HeldFits code c) slots types → IsSomeAnd (slice_get types s) P → (x : Option Value) × (slice_get slots s ≡ Some x)
  slot-there [] [] s P h k = absurd k
  slot-there [] (y ∷ types) s P h k = absurd h
  slot-there (x ∷ slots) [] s P h k = absurd h
  slot-there (x ∷ slots) (y ∷ types) zero P h k = (x, refl)
  slot-there (x ∷ slots) (y ∷ types) (suc s) P (h, more) k = slot-there slots types s P more k

  module _ (slot : ℕ) (ec : command_at code p ≡ Some (Do (op.Load slot))) where
    abbrev load-typed : DoesTyped code at.u at.station p (op.Load slot)
    load-typed = typed-by code at.u at.station p (Do (op.Load slot)) ec (typed-in code t f.unit at.u at.is at.station at.stationed p at.here.0)

    abbrev Looks : Ask Standing → Type 0
    Looks ask = Asks ask × AsksComes ask

    look-is : (x : Option Value) → slice_get l.slots slot ≡ Some x → (codes fillers code).look f.unit f.control ≡ asks (standing (p + 1) f.control.traps) (loaded l slot (Some x))
    look-is x e =
        ap (λ o. obeys (captured_slots (code_facts fillers code) f.unit) f.control o) ec ∙ ap (λ o. asks (standing (p + 1) f.control.traps) (loaded l slot o)) e

    loads : (x : Option Value) → slice_get l.slots slot ≡ Some x → Looks (asks (standing (p + 1) f.control.traps) (loaded l slot (Some x)))
    loads (Some v) e = (goes-on-by-itself code fillers c f (standing (p + 1) f.control.traps (pushed l v)) t good.nearly.heap.closed fits (look-is (Some v) e), tt)
    loads None e = (
      (λ effect is. subst (λ y. EffectFits natives (codes fillers code) (code_invariant code) c depth f (standing (p + 1) f.control.traps (with_stack l l.stack)) y) (sym is)
          (effect-fits code fillers natives t c depth good f fits at (op.Load slot) ec refl (λ z. z) [] l.stack refl all-stay (lifted c (panics c.world NotInitialised)) (panic-typed code c load-typed.result NotInitialised refl good.nearly))),
      (λ never. never (lifted c (panics c.world NotInitialised)) refl),
    )
      where
        all-stay : AllFit code c (reverse l.stack) load-typed.rest
        all-stay = subst (λ ts. AllFit code c (reverse l.stack) ts) (load-typed.stack ∙ (ap (λ os. load-typed.rest ++ os) load-typed.typed.0 ∙ append-nil load-typed.rest)) fits.1

    pub load-done : Looks ((codes fillers code).look f.unit f.control)
    load-done =
        let (x, e) = slot-there l.slots at.u.slots slot _ at.here.1.0 load-typed.typed.1 in subst Looks (sym (look-is x e)) (loads x e)

pub panics-are-done : (natives : Answers) → PanicsAreDone natives
panics-are-done natives fillers code c t = (
  (λ depth f good fits ec. (panics-done code fillers natives t c depth good f fits (at-place code c f fits.0) ec).0),
  (λ depth f good fits ec. (panics-done code fillers natives t c depth good f fits (at-place code c f fits.0) ec).1),
)

pub loads-are-done : (natives : Answers) (fillers : ℕ → List Filler) (slot : ℕ) → IsDone fillers natives (op.Load slot)
loads-are-done natives fillers slot code c t = (
  (λ depth f good fits ec. (load-done code fillers natives t c depth good f fits (at-place code c f fits.0) slot ec).0),
  (λ depth f good fits ec. (load-done code fillers natives t c depth good f fits (at-place code c f fits.0) slot ec).1),
)
