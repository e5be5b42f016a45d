-- A run of well-typed code is never stuck.
use Rattle.std.proofs.Common.{◌≡◌, ◌≢◌, ◌∙◌, ℕ, List, [], ◌∷◌, Some, length, refl, ap, subst}
use Rattle.std.proofs.lemmas.Bool.{eq-eqb}
use Rattle.std.proofs.lemmas.List.Elements.{All-nil}
use Rattle.std.specs.Prelude.{All, if◌then◌else◌, slice_get, ⊤}
use Rattle.bal_base.specs.declared.text.Text.{Text}
use Rattle.operations.specs.declared.operation.Operation.{Operation}
use Rattle.operations.specs.declared.operation.Operation.TheVariants as op
use Rattle.operations.specs.Uses.{units_called, use_of}
use Rattle.value_model.specs.declared.filler.Filler.{Filler}
use Rattle.value_model.specs.declared.value.Value.{Value}
use Rattle.op_model.specs.Common.{IsActive, Strand}
use Rattle.value_model.specs.Meaning.{Answers}
use Rattle.op_model.specs.Strands.{end_in}
use Rattle.machine_model.specs.Keeping.{AskFits, FramesFit}
use Rattle.machine_model.specs.Machine.{Ask, Does, Frame, Moved, On, State, Stuck, Takes, TakesTop, caller, captured_slots, goes_to, put}
use Rattle.machine_model.specs.Runs.{AreWords, IsReached, Phase, Picking, Running}
use Rattle.machine_model.specs.Strands.{StrandsHold, frames_of}
use Rattle.stack_code.specs.declared.code.Code.{Code}
use Rattle.stack_code.specs.declared.code.Unit.{Unit as CodeUnit}
use Rattle.stack_code.specs.CodeMachine.{Standing, code_facts, codes}
use Rattle.stack_code.specs.Commands.{Do, command_at}
use Rattle.stack_code.specs.Frames.{TopFits}
use Rattle.stack_code.specs.Good.{Good, GoodCommon, code_invariant}
use Rattle.stack_code.specs.Tables.{NamesUnits, UnitAt}
use Rattle.stack_code.specs.WellTyped.{WellTyped}
use Rattle.code_keeping.specs.Laws.{AskComes}
use Rattle.code_keeping.specs.Rows.{Comes}
use Rattle.code_keeping.proofs.Lists.{some-there, some-to}
use Rattle.code_keeping.proofs.Places.{at-place}
use Rattle.code_keeping.proofs.Serving.{all-to}
use Rattle.code_keeping.proofs.Starting.{at-command}
use Rattle.code_keeping_all.specs.Laws.{FillersAreKnown, GoesOnTyped, HasNext, IsSafe, LibraryIsDone}
use Rattle.code_keeping_all.proofs.Operations.{asks-done}
use Rattle.code_keeping_all.proofs.Spawning.{IsUnit, has-units}
use Rattle.code_keeping_all.proofs.Stepping.{is-carried}
use Rattle.code_keeping_all.proofs.Kept.{code-goes-on, reached-code-is-good}

module _ (natives : Answers) (fillers : ℕ → List Filler) (code : Code) (t : WellTyped code) (knows : FillersAreKnown fillers code) (library : LibraryIsDone fillers natives code) (words : List Text) (input : List ℕ) (ticks : ℕ) (words-are : AreWords words) where
  abbrev Reached : Phase → State Standing → Type 0
  Reached phase s = IsReached natives (codes fillers code) words input ticks phase s

  abbrev Holds : Phase → State Standing → Type 0
  Holds phase s = Good code phase s × StrandsHold natives (codes fillers code) phase s

  all-holds : (phase : Phase) (s : State Standing) → Reached phase s → Holds phase s
  all-holds phase s r = reached-code-is-good natives fillers code t knows library words input ticks phase s words-are r

  -- the strand that runs has frames
  some-frames : (s : State Standing) → StrandsHold natives (codes fillers code) Running s → s.frames ≢ []
  some-frames s h none =
      let (x, ex, active) = some-there (λ (x : Strand). x.status ≡ IsActive) (slice_get s.common.strands s.common.running) (h.running refl) in
      (h.strands s.common.running x ex).manned (ap end_in active) (ap (λ b. if b then s.frames else frames_of s s.common.running) (eq-eqb s.common.running s.common.running refl) ∙ none)

  frames-go-on : (s : State Standing) → Reached Running s → (fs : List (Frame Standing)) → s.frames ≡ fs → Holds Running s → GoesOnTyped natives fillers code s.common fs
  frames-go-on s r [] e h = absurd (some-frames s h.1 e)
  frames-go-on s r (f ∷ fs) e h = (
    (subst (λ l. FramesFit (code_invariant code) s.common s.common.running l) e h.0.fits.frames.0).0.1,
    code-goes-on natives fillers code t knows library words input ticks s f fs words-are r e,
  )

  -- ---- and a step is there

  module _ (s : State Standing) (f : Frame Standing) (fs : List (Frame Standing)) (good : GoodCommon code s.common Running) (fits : TopFits code s.common f) where
    abbrev look : Ask Standing
    look = (codes fillers code).look f.unit f.control

    names : (o : Operation) → command_at code f.control.place ≡ Some (Do o) → NamesUnits code o
    names o ec = let at = at-place code s.common f fits.0 in ((t.places f.control.place).uses f.unit at.u at.is at.here.0).named o ec

    abbrev IsCalled : Operation → Type 0
    IsCalled o = All (IsUnit code) (units_called (use_of o))

    names-units : (o : Operation) → command_at code f.control.place ≡ Some (Do o) → IsCalled o
    names-units o ec = all-to (λ n. UnitAt code n (λ u. u.captured ≡ [])) (IsUnit code) (λ n h. some-to (λ (u : CodeUnit). u.captured ≡ []) (λ (u : CodeUnit). ⊤) (slice_get code.units n) (λ u k. tt) h) (units_called (use_of o)) (names o ec).1

    -- what is called and started by its name is a unit of the code
    called : (o : Operation) (vs : List Value) (k : Standing) → look ≡ Does o vs k → IsCalled o
    called (op.Call unit count) vs k looks = names-units (op.Call unit count) (at-command code f.control (captured_slots (code_facts fillers code) f.unit) (op.Call unit count) vs k (λ slot e. let q : ⊥ = cc in q) looks)
    called (op.Start unit count) vs k looks = names-units (op.Start unit count) (at-command code f.control (captured_slots (code_facts fillers code) f.unit) (op.Start unit count) vs k (λ slot e. let q : ⊥ = cc in q) looks)
    called _ vs k looks = All-nil (IsUnit code)

    steps : (ask : Ask Standing) → look ≡ ask → AskFits natives (codes fillers code) (code_invariant code) s.common (length (f ∷ fs)) f ask → AskComes natives (code_facts fillers code) s.common (length (f ∷ fs)) f ask → Comes (Takes natives (codes fillers code) s f fs ask)
    steps (On k) looks fit comes = λ never. never (Moved (put s s.common (goes_to f k ∷ fs))) refl
    steps (Does o vs k) looks fit comes = λ never.
        comes (λ effect does.
        let (next, e) = is-carried fillers natives code s f k fs (length (f ∷ fs)) effect (has-units code t fillers natives vs (caller f fs) s.common effect o (called o vs k looks) does) (fit effect does) in
        never next (effect, does, e))
    steps Stuck looks fit comes = absurd comes

    pub has-step : Comes (Takes natives (codes fillers code) s f fs look)
    has-step = let both = asks-done natives fillers code t s.common knows library (length (f ∷ fs)) good f fits in steps look refl both.0 both.1

  frames-step : (s : State Standing) → (fs : List (Frame Standing)) → s.frames ≡ fs → Holds Running s → Comes (TakesTop natives (codes fillers code) s fs)
  frames-step s [] e h = absurd (some-frames s h.1 e)
  frames-step s (f ∷ fs) e h = has-step s f fs h.0.fits.good (subst (λ l. FramesFit (code_invariant code) s.common s.common.running l) e h.0.fits.frames.0).0

  next-there : (phase : Phase) (s : State Standing) → Reached phase s → phase ≡ Running → HasNext natives fillers code s
  next-there Running s r e = frames-step s s.frames refl (all-holds Running s r)
  next-there Picking s r e = absurd (let q : ⊥ = cc in q)

  goes-on : (phase : Phase) (s : State Standing) → Reached phase s → phase ≡ Running → GoesOnTyped natives fillers code s.common s.frames
  goes-on Running s r e = frames-go-on s r s.frames refl (all-holds Running s r)
  goes-on Picking s r e = absurd (let q : ⊥ = cc in q)

  pub is-safe : (phase : Phase) (s : State Standing) → Reached phase s → IsSafe natives fillers code phase s
  is-safe phase s r = ((all-holds phase s r).0, (λ e. (goes-on phase s r e, next-there phase s r e)))
