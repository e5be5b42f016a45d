-- What a frame asks for with an operation that takes all its operands: whatever comes, it fits.
use Rattle.std.proofs.Common.{◌≡◌, ◌+◌, ◌∙◌, ℕ, List, ◌++◌, Some, length, reverse, refl, sym, ap, subst}
use Rattle.std.specs.Prelude.{slice_get}
use Rattle.operations.specs.declared.operation.Operation.{Operation}
use Rattle.operations.specs.Talk.{NoTalk, talk_of}
use Rattle.value_model.specs.declared.filler.Filler.{Filler}
use Rattle.value_model.specs.declared.value.Value.{Value}
use Rattle.value_model.specs.Meaning.{Answers}
use Rattle.op_model.specs.Common.{Common}
use Rattle.op_model.specs.Effects.{Effect, Gives, Fails, Waits, Enters, Leaves, Spawns, NoTick, Beyond}
use Rattle.op_model.specs.Local.{Local, acts, takes, with_stack}
use Rattle.machine_model.specs.Following.{EndsFrame}
use Rattle.machine_model.specs.Keeping.{AskFits, EffectFits}
use Rattle.machine_model.specs.Machine.{Ask, Frame, asks, captured_slots}
use Rattle.machine_model.specs.Runs.{Running}
use Rattle.stack_code.specs.declared.code.Code.{Code}
use Rattle.stack_code.specs.declared.code.Unit.{Unit as CodeUnit}
use Rattle.stack_code.specs.CodeMachine.{Standing, code_facts, codes, obeys, standing}
use Rattle.stack_code.specs.Commands.{Do, command_at}
use Rattle.stack_code.specs.Flow.{DoesTyped, tally_landing, tally_thrown}
use Rattle.stack_code.specs.Frames.{TallyIs, TopFits}
use Rattle.stack_code.specs.Good.{GoodCommon, code_invariant}
use Rattle.stack_code.specs.Places.{IsIn, Station, surroundings, tally_at, traps_at}
use Rattle.stack_code.specs.Values.{AllFit, Fits}
use Rattle.stack_code.specs.WellTyped.{WellTyped}
use Rattle.code_keeping.specs.Laws.{AskComes, StrictOperationsCome, StrictOperationsKeep, TakesAll}
use Rattle.code_keeping.specs.Rows.{EffectTyped, NamesWell, RowKeeps}
use Rattle.code_keeping.proofs.Doing.{quietly-behind}
use Rattle.code_keeping.proofs.Landing.{caught}
use Rattle.code_keeping.proofs.Places.{IsAt, at-place, typed-by, typed-in}
use Rattle.code_keeping.proofs.Staying.{for-none, tally-later, unit-later}
use Rattle.code_keeping.proofs.Taking.{IsTaken, take-operands}

-- what the operation at the place names is as it should be
names-well : (code : Code) → WellTyped code → (f : Frame Standing) (u : CodeUnit) → slice_get code.units f.unit ≡ Some u → IsIn u f.control.place → (o : Operation) → command_at code f.control.place ≡ Some (Do o) → NamesWell code o
names-well code t f u e inside o ec =
    let uses = (t.places f.control.place).uses f.unit u e inside in record { units = uses.named o ec; atoms = uses.made o ec; values = uses.functions o ec }

module _ (code : Code) (fillers : ℕ → List Filler) (natives : Answers) (t : WellTyped code) (c : Common) (depth : ℕ) (good : GoodCommon code c Running) (f : Frame Standing) (fits : TopFits code c f) (at : IsAt code c f)
    (o : Operation) (ec : command_at code f.control.place ≡ Some (Do o)) (quiet : talk_of o ≡ NoTalk) (goes : ¬ (EndsFrame o)) where
  abbrev p : ℕ
  p = f.control.place

  abbrev l : Local
  l = f.control.local

  abbrev typed : DoesTyped code at.u at.station p o
  typed = typed-by code at.u at.station p (Do o) ec (typed-in code t f.unit at.u at.is at.station at.stationed p at.here.0)

  abbrev Asks : Ask Standing → Type 0
  Asks ask = AskFits natives (codes fillers code) (code_invariant code) c depth f ask

  landing : tally_landing (command_at code p) (tally_at code p) ≡ tally_at code p
  landing = ap (λ x. tally_landing x (tally_at code p)) ec ∙ ap (λ k. tally_thrown k (tally_at code p)) quiet

  pub effect-fits : (args below : List Value) → l.stack ≡ reverse args ++ below → AllFit code c (reverse below) typed.rest → (effect : Effect) → EffectTyped code c typed.result effect →
      EffectFits natives (codes fillers code) (code_invariant code) c depth f (standing (p + 1) f.control.traps (with_stack l below)) effect
  effect-fits args below is fit (Gives vs d) (better, keeps, later, given) =
      (better, keeps, (λ q apart. later q), quietly-behind code f at.u at.is at.station o ec typed goes quiet c d (later f.role) (reverse args) below vs is fit given fits.0)
  effect-fits args below is fit (Fails e d) (nearly, keeps, later, error) = (
    nearly,
    keeps,
    (λ q apart. later q),
    error,
    caught code f at.u at.is at.station (λ q inside. typed-in code t f.unit at.u at.is at.station at.stationed q inside) p at.here.0 c d e nearly.heap.closed error (for-none f.role c d (later f.role)) at.here.1
        (subst (λ k. TallyIs code d f.role k) (sym landing) (tally-later code c d f.role (tally_at code p) (later f.role) fits.0.1)) (unit-later code f.role c d (later f.role) f.unit fits.0.2)
        l.stack below f.control.traps (traps_at code at.u p) refl at.here.2,
  )
  effect-fits args below is fit (Waits need) h = absurd h
  effect-fits args below is fit (Enters unit vs d) h = absurd h
  effect-fits args below is fit (Leaves v) h = absurd h
  effect-fits args below is fit (Spawns ss role vs d) h = absurd h
  effect-fits args below is fit NoTick h = tt
  effect-fits args below is fit (Beyond limit) h = tt

  strict-fits : (captured : List ℕ) → acts captured o l ≡ takes o l (length typed.operands) → RowKeeps code fillers natives c (surroundings code at.u at.station) o → Asks (asks (standing (p + 1) f.control.traps) (acts captured o l))
  strict-fits captured strict row =
      let taken = take-operands (Fits code c) o l typed.rest typed.operands (subst (λ ts. AllFit code c (reverse l.stack) ts) typed.stack fits.1) in
      subst (λ a. Asks (asks (standing (p + 1) f.control.traps) a)) (sym (strict ∙ taken.is))
      (λ effect does. effect-fits taken.args taken.below taken.stack taken.others effect
      (row typed.operands typed.result taken.args (record { unit = f.unit; role = f.role; depth = depth }) effect good typed.typed taken.fit does))

  pub asks-well : TakesAll o → ((u : CodeUnit) (station : Station) → NamesWell code o → RowKeeps code fillers natives c (surroundings code u station) o) → Asks ((codes fillers code).look f.unit f.control)
  asks-well strict row =
      let captured = captured_slots (code_facts fillers code) f.unit in
      subst (λ x. Asks (obeys captured f.control x)) (sym ec)
      (strict-fits captured (strict code (surroundings code at.u at.station) typed.operands typed.result typed.typed captured l) (row at.u at.station (names-well code t f at.u at.is at.here.0 o ec)))

pub strict-operations-keep : (natives : Answers) → StrictOperationsKeep natives
strict-operations-keep natives fillers code c o t quiet goes strict row depth f good fits ec =
    asks-well code fillers natives t c depth good f fits (at-place code c f fits.0) o ec quiet goes strict row

-- and something comes
pub strict-operations-come : (natives : Answers) → StrictOperationsCome natives
strict-operations-come natives fillers code c o t strict row depth f good fits ec =
    let at = at-place code c f fits.0 in
    let typed = typed-by code at.u at.station f.control.place (Do o) ec (typed-in code t f.unit at.u at.is at.station at.stationed f.control.place at.here.0) in
    by at typed (take-operands (Fits code c) o f.control.local typed.rest typed.operands (subst (λ ts. AllFit code c (reverse f.control.local.stack) ts) typed.stack fits.1))
  where
    captured : List ℕ
    captured = captured_slots (code_facts fillers code) f.unit

    by : (at : IsAt code c f) (typed : DoesTyped code at.u at.station f.control.place o) → IsTaken (Fits code c) o f.control.local typed.rest typed.operands → AskComes natives (code_facts fillers code) c depth f ((codes fillers code).look f.unit f.control)
    by at typed taken =
        subst (λ x. AskComes natives (code_facts fillers code) c depth f (obeys captured f.control x)) (sym ec)
        (subst (λ a. AskComes natives (code_facts fillers code) c depth f (asks (standing (f.control.place + 1) f.control.traps) a)) (sym (strict code (surroundings code at.u at.station) typed.operands typed.result typed.typed captured f.control.local ∙ taken.is))
        (row at.u at.station (names-well code t f at.u at.is at.here.0 o ec) typed.operands typed.result taken.args (record { unit = f.unit; role = f.role; depth = depth }) good typed.typed taken.fit))
