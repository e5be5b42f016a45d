-- What a frame asks for with an operation that may have to wait: whatever comes of its row fits.
use Rattle.std.proofs.Common.{◌≡◌, ◌∙◌, ◌+◌, ℕ, false, List, ◌++◌, Option, Some, length, reverse, refl, sym, ap, subst}
use Rattle.type_model.specs.declared.basic.SemType.{SemType}
use Rattle.operations.specs.declared.operation.Operation.{Operation}
use Rattle.operations.specs.Talk.{talk_of}
use Rattle.value_model.specs.declared.filler.Filler.{Filler}
use Rattle.value_model.specs.declared.value.Value.{Value}
use Rattle.value_model.specs.Meaning.{Answers}
use Rattle.op_model.specs.Common.{Caller, Common}
use Rattle.op_model.specs.Effects.{Beyond, Effect, Enters, Fails, Gives, Leaves, NoTick, Spawns, Waits}
use Rattle.op_model.specs.Local.{Local, acts, takes, with_stack}
use Rattle.op_model.specs.Performs.{Performs}
use Rattle.op_model.specs.Strands.{met}
use Rattle.machine_model.specs.Following.{EndsFrame}
use Rattle.machine_model.specs.Keeping.{AskFits, EffectFits}
use Rattle.machine_model.specs.Machine.{Ask, Frame, asks, captured_slots}
use Rattle.machine_model.specs.Runs.{Running}
use Rattle.stack_code.specs.declared.code.Code.{Code}
use Rattle.stack_code.specs.CodeMachine.{Standing, code_facts, codes, obeys, standing}
use Rattle.stack_code.specs.Commands.{Do, command_at}
use Rattle.stack_code.specs.Flow.{DoesTyped, tally_landing, tally_then, tally_thrown}
use Rattle.stack_code.specs.Frames.{TallyIs, TopFits}
use Rattle.stack_code.specs.Good.{GoodCommon, NeedIsThere, code_invariant}
use Rattle.stack_code.specs.Places.{Tally, crew, tally_at, traps_at}
use Rattle.stack_code.specs.Values.{AllFit, Fits}
use Rattle.stack_code.specs.WellTyped.{WellTyped}
use Rattle.code_keeping.specs.Laws.{AskComes}
use Rattle.code_keeping.specs.Rows.{Comes, EffectTyped}
use Rattle.code_keeping.proofs.Doing.{fits-behind}
use Rattle.code_keeping.proofs.Landing.{caught}
use Rattle.code_keeping.proofs.Places.{IsAt, typed-by, typed-in}
use Rattle.code_keeping.proofs.Staying.{for-none, tally-later, unit-later}
use Rattle.code_keeping.proofs.Taking.{take-operands}
use Rattle.code_keeping_talk.proofs.Blocking.{blocking-keeps}

-- it gives what is in its result's type, or panics with an error, or waits for what is there and not met
abbrev pub WaitTyped : Code → Common → Option SemType → Effect → Type 0
WaitTyped code c result (Gives vs d) = EffectTyped code c result (Gives vs d)
WaitTyped code c result (Fails e d) = EffectTyped code c result (Fails e d)
WaitTyped code c result (Waits need) = NeedIsThere code c need × (met c need ≡ false)
WaitTyped code c result (Enters unit args d) = ⊥
WaitTyped code c result (Leaves v) = ⊥
WaitTyped code c result (Spawns ss role vs d) = ⊥
WaitTyped code c result NoTick = Unit {0}
WaitTyped code c result (Beyond limit) = Unit {0}

module _ (code : Code) (fillers : ℕ → List Filler) (natives : Answers) (t : WellTyped code) (c : Common) (depth : ℕ) (good : GoodCommon code c Running) (f : Frame Standing) (fits : TopFits code c f) (at : IsAt code c f)
    (o : Operation) (ec : command_at code f.control.place ≡ Some (Do o)) (goes : ¬ (EndsFrame o)) (still-then : (n : ℕ) (tally : Option Tally) → tally_then n (talk_of o) tally ≡ tally) (still-thrown : (tally : Option Tally) → tally_thrown (talk_of o) tally ≡ tally) where
  abbrev p : ℕ
  p = f.control.place

  abbrev l : Local
  l = f.control.local

  abbrev pub typed : DoesTyped code at.u at.station p o
  typed = typed-by code at.u at.station p (Do o) ec (typed-in code t f.unit at.u at.is at.station at.stationed p at.here.0)

  landing : tally_landing (command_at code p) (tally_at code p) ≡ tally_at code p
  landing = ap (λ x. tally_landing x (tally_at code p)) ec ∙ still-thrown (tally_at code p)

  effect-fits : (args below : List Value) → l.stack ≡ reverse args ++ below → AllFit code c (reverse below) typed.rest → (effect : Effect) → WaitTyped code c typed.result effect →
      EffectFits natives (codes fillers code) (code_invariant code) c depth f (standing (p + 1) f.control.traps (with_stack l below)) effect
  effect-fits args below is fit (Gives vs d) (better, keeps, later, given) = (
    better,
    keeps,
    (λ q apart. later q),
    fits-behind code f at.u at.is at.station o ec typed goes c d (for-none f.role c d (later f.role)) (reverse args) below vs is fit given fits.0
        (subst (λ k. TallyIs code d f.role k) (sym (still-then (length (crew code at.station.function)) (tally_at code p))) (tally-later code c d f.role (tally_at code p) (later f.role) fits.0.1))
        (unit-later code f.role c d (later f.role) f.unit fits.0.2),
  )
  effect-fits args below is fit (Fails e d) (nearly, keeps, later, error) = (
    nearly,
    keeps,
    (λ q apart. later q),
    error,
    caught code f at.u at.is at.station (λ q inside. typed-in code t f.unit at.u at.is at.station at.stationed q inside) p at.here.0 c d e nearly.heap.closed error (for-none f.role c d (later f.role)) at.here.1
        (subst (λ k. TallyIs code d f.role k) (sym landing) (tally-later code c d f.role (tally_at code p) (later f.role) fits.0.1)) (unit-later code f.role c d (later f.role) f.unit fits.0.2)
        l.stack below f.control.traps (traps_at code at.u p) refl at.here.2,
  )
  effect-fits args below is fit (Waits need) (there, unmet) = blocking-keeps code c need good there unmet
  effect-fits args below is fit (Enters unit vs d) h = absurd h
  effect-fits args below is fit (Leaves v) h = absurd h
  effect-fits args below is fit (Spawns ss role vs d) h = absurd h
  effect-fits args below is fit NoTick h = tt
  effect-fits args below is fit (Beyond limit) h = tt

  abbrev pub caller : Caller
  caller = record { unit = f.unit; role = f.role; depth = depth }

  -- all that comes of it is so, and something comes
  abbrev pub RowWaits : Type 0
  RowWaits =
      (args : List Value) → AllFit code c args typed.operands →
      ((effect : Effect) → Performs (code_facts fillers code) natives o args caller c effect → WaitTyped code c typed.result effect) × Comes (Performs (code_facts fillers code) natives o args caller c)

  abbrev pub Looks : Ask Standing → Type 0
  Looks ask = AskFits natives (codes fillers code) (code_invariant code) c depth f ask × AskComes natives (code_facts fillers code) c depth f ask

  pub waits-done : ((captured : List ℕ) → acts captured o l ≡ takes o l (length typed.operands)) → RowWaits → Looks ((codes fillers code).look f.unit f.control)
  waits-done strict row =
      let captured = captured_slots (code_facts fillers code) f.unit in
      let taken = take-operands (Fits code c) o l typed.rest typed.operands (subst (λ ts. AllFit code c (reverse l.stack) ts) typed.stack fits.1) in
      subst (λ x. Looks (obeys captured f.control x)) (sym ec)
      (subst (λ a. Looks (asks (standing (p + 1) f.control.traps) a)) (sym (strict captured ∙ taken.is)) (
        (λ effect does. effect-fits taken.args taken.below taken.stack taken.others effect ((row taken.args taken.fit).0 effect does)),
        (row taken.args taken.fit).1,
      ))
