-- Each step of well-typed code keeps what is to hold, and so each state that it reaches is good.
use Rattle.std.proofs.Common.{◌≡◌, ◌≢◌, ◌∙◌, ℕ, suc, List, [], ◌∷◌, Some, None, length, refl, sym, subst}
use Rattle.std.specs.Prelude.{get_or, slice_get}
use Rattle.bal_base.specs.declared.text.Text.{Text}
use Rattle.operations.specs.declared.operation.Operation.TheVariants as op
use Rattle.operations.specs.Structures.{AwaitsAny}
use Rattle.value_model.specs.declared.filler.Filler.{Filler}
use Rattle.value_model.specs.Meaning.{Answers}
use Rattle.op_model.specs.Common.{Common, End, Panicked, Returned, Strand}
use Rattle.op_model.specs.Effects.{Beyond, Effect, Enters, Fails, Gives, Leaves, NoTick, Spawned, Spawns, Waits}
use Rattle.op_model.specs.Strands.{end_in}
use Rattle.machine_model.specs.Keeping.{AllBegin, AskFits, BelowFit, EffectFits, EndFits, FramesFit, Invariant, IsIdle, IsKept, OthersFit, RunningFits, StateFits}
use Rattle.machine_model.specs.Machine.{Ask, Does, Frame, On, State, Stuck, captured_slots}
use Rattle.machine_model.specs.Runs.{AreWords, IsReached, Phase, Picking, Running}
use Rattle.machine_model.specs.Strands.{StartsOnce, StrandsHold, WaitsForSome}
use Rattle.machine_model.proofs.HoldOfStrands.{hold-of-strands}
use Rattle.machine_model.proofs.Keeping.{kept-holds}
use Rattle.stack_code.specs.declared.code.Code.{Code}
use Rattle.stack_code.specs.CodeMachine.{Standing, code_facts, codes}
use Rattle.stack_code.specs.Frames.{TallyIs, TopFits}
use Rattle.stack_code.specs.Good.{Good, code_invariant}
use Rattle.stack_code.specs.Places.{surroundings, tally_at}
use Rattle.stack_code.specs.WellTyped.{WellTyped}
use Rattle.code_keeping.specs.Laws.{AskComes}
use Rattle.code_keeping.proofs.Beginning.{starts-well}
use Rattle.code_keeping.proofs.Entering.{awaited-comes}
use Rattle.code_keeping.proofs.Lists.{some-there}
use Rattle.code_keeping.proofs.Places.{at-place}
use Rattle.code_keeping.proofs.Settling.{settling-keeps}
use Rattle.code_keeping.proofs.Starting.{at-command, ends-with, idle-frames, no-role, typed-at}
use Rattle.code_keeping.proofs.Staying.{same}
use Rattle.code_keeping_talk.specs.Laws.{EndOfStrand}
use Rattle.code_keeping_talk.proofs.Closing.{closing-keeps}
use Rattle.code_keeping_talk.proofs.Continuing.{continuing-keeps}
use Rattle.code_keeping_talk.proofs.Ending.{ending-keeps}
use Rattle.code_keeping_talk.proofs.Following.{later-follows}
use Rattle.code_keeping_talk.proofs.Lasting.{what-held-holds}
use Rattle.code_keeping_talk.proofs.Picking.{picking-keeps}
use Rattle.code_keeping_all.specs.Laws.{CallsAreNotThere, CodeGoesOn, CodeIsKept, FillersAreKnown, LibraryIsDone, ReachedCodeIsGood, kept_invariant}
use Rattle.code_keeping_all.proofs.Operations.{asks-done}

module _ (natives : Answers) (fillers : ℕ → List Filler) (code : Code) where
  abbrev I : Invariant Standing
  I = code_invariant code

  abbrev J : Invariant Standing
  J = kept_invariant code

  -- ---- what holds by the one holds by the other: they differ in errors that are thrown alone

  all-begin : (d : Common) (n : ℕ) (ss : List Spawned) → AllBegin natives (codes fillers code) I d n ss → AllBegin natives (codes fillers code) J d n ss
  all-begin d n [] h = tt
  all-begin d n (s ∷ ss) (h, hs) = (h, all-begin d (suc n) ss hs)

  below-to : (c : Common) (n callee : ℕ) (fs : List (Frame Standing)) → BelowFit I c n callee fs → BelowFit J c n callee fs
  below-to c n callee [] h = h
  below-to c n callee (f ∷ fs) (awaits, runs, apart, more) = (awaits, runs, apart, below-to c n f.unit fs more)

  frames-to : (c : Common) (n : ℕ) (fs : List (Frame Standing)) → FramesFit I c n fs → FramesFit J c n fs
  frames-to c n [] h = h
  frames-to c n (f ∷ fs) (fits, runs, apart, more) = (fits, runs, apart, below-to c n f.unit fs more)

  below-from : (c : Common) (n callee : ℕ) (fs : List (Frame Standing)) → BelowFit J c n callee fs → BelowFit I c n callee fs
  below-from c n callee [] h = h
  below-from c n callee (f ∷ fs) (awaits, runs, apart, more) = (awaits, runs, apart, below-from c n f.unit fs more)

  frames-from : (c : Common) (n : ℕ) (fs : List (Frame Standing)) → FramesFit J c n fs → FramesFit I c n fs
  frames-from c n [] h = h
  frames-from c n (f ∷ fs) (fits, runs, apart, more) = (fits, runs, apart, below-from c n f.unit fs more)

  others-to : (phase : Phase) (c : Common) (k : ℕ) (xs : List (List (Frame Standing))) → OthersFit I phase c k xs → OthersFit J phase c k xs
  others-to phase c k [] h = tt
  others-to phase c k (x ∷ xs) (h, hs) = ((λ idle. frames-to c k x (h idle)), others-to phase c (suc k) xs hs)

  others-from : (phase : Phase) (c : Common) (k : ℕ) (xs : List (List (Frame Standing))) → OthersFit J phase c k xs → OthersFit I phase c k xs
  others-from phase c k [] h = tt
  others-from phase c k (x ∷ xs) (h, hs) = ((λ idle. frames-from c k x (h idle)), others-from phase c (suc k) xs hs)

  running-to : (phase : Phase) (s : State Standing) → RunningFits I phase s → RunningFits J phase s
  running-to Running s (h, there) = (frames-to s.common s.common.running s.frames h, there)
  running-to Picking s h = h

  running-from : (phase : Phase) (s : State Standing) → RunningFits J phase s → RunningFits I phase s
  running-from Running s (h, there) = (frames-from s.common s.common.running s.frames h, there)
  running-from Picking s h = h

  state-to : (phase : Phase) (s : State Standing) → StateFits I phase s → StateFits J phase s
  state-to phase s h = record { good = h.good; others = others-to phase s.common 0 s.others h.others; count = h.count; frames = running-to phase s h.frames }

  state-from : (phase : Phase) (s : State Standing) → StateFits J phase s → StateFits I phase s
  state-from phase s h = record { good = h.good; others = others-from phase s.common 0 s.others h.others; count = h.count; frames = running-from phase s h.frames }

  effect-kept : (c : Common) (depth : ℕ) (f : Frame Standing) (k : Standing) (effect : Effect) →
      EffectFits natives (codes fillers code) (code_invariant code) c depth f k effect → EffectFits natives (codes fillers code) (kept_invariant code) c depth f k effect
  effect-kept c depth f k (Gives vs d) h = h
  effect-kept c depth f k (Fails e d) (nearly, keeps, later, error, caught) = (nearly, keeps, later, (nearly.heap.closed, error), caught)
  effect-kept c depth f k (Waits need) h = h
  effect-kept c depth f k (Enters unit args d) h = h
  effect-kept c depth f k (Leaves v) h = h
  effect-kept c depth f k (Spawns ss role vs d) (good, running, many, later, role-is, fits, begin) = (good, running, many, later, role-is, fits, all-begin d (length c.strands) ss begin)
  effect-kept c depth f k NoTick h = tt
  effect-kept c depth f k (Beyond limit) h = tt

  ask-kept : (c : Common) (depth : ℕ) (f : Frame Standing) (ask : Ask Standing) → AskFits natives (codes fillers code) (code_invariant code) c depth f ask → AskFits natives (codes fillers code) (kept_invariant code) c depth f ask
  ask-kept c depth f (On next) h = h
  ask-kept c depth f (Does o vs k) h = λ effect does. effect-kept c depth f k effect (h effect does)
  ask-kept c depth f Stuck h = absurd h

  -- ---- steps

  end-so : (c : Common) (end : End) → EndFits natives (codes fillers code) J c end → EndOfStrand code c end
  end-so c (Returned v) h = h
  end-so c (Panicked e) h = h.1

  module _ (t : WellTyped code) (knows : FillersAreKnown fillers code) (library : LibraryIsDone fillers natives code) where
    kept : IsKept natives (codes fillers code) J
    kept =
        record {
          asks = λ c depth f good fits. ask-kept c depth f ((codes fillers code).look f.unit f.control) (asks-done natives fillers code t c knows library depth good f fits).0;
          stays = λ q c. same q c;
          follows = λ q c d e. later-follows q c d e;
          resumes = λ c n depth f callee v awaits holds. (awaited-comes code fillers c f callee t awaits).0 v holds;
          catches = λ c n depth f callee e awaits thrown. (awaited-comes code fillers c f callee t awaits).1 e thrown.0 thrown.1;
          fits = λ c d n depth f later. (what-held-holds code c d).0 f later;
          awaits = λ c d n depth f callee later. (what-held-holds code c d).1 f callee later;
          holds = λ c d v unit later. ((what-held-holds code c d).2 later).0 v unit;
          throws = λ c d e later h. (later.closed h.0, ((what-held-holds code c d).2 later).1 e h.1);
          lowest = λ c d n unit later. ((what-held-holds code c d).2 later).2 n unit;
          gone = λ c d n later. ((what-held-holds code c d).2 later).3 n;
          runs_on = λ c d n role later. ((what-held-holds code c d).2 later).4 n role;
          settles = λ phase c nearly. settling-keeps code c phase nearly;
          closes = λ c e role nearly thrown. closing-keeps code c e role nearly thrown.1;
          ends = λ c end nearly fits none. ending-keeps code c end t nearly (end-so c end fits);
          begins = λ c end u us nearly fits next. continuing-keeps code fillers c end u us t nearly next;
          picks = λ c place n good there. let k = picking-keeps code c place n good there in (k.0.0, k.0.1, k.1);
          starts = λ words input ticks s words-are is. state-to Picking s (starts-well code fillers words input ticks s t words-are is).fits;
        }

    reached : (words : List Text) (input : List ℕ) (ticks : ℕ) (phase : Phase) (s : State Standing) → AreWords words → IsReached natives (codes fillers code) words input ticks phase s → StateFits I phase s
    reached words input ticks phase s words-are r = state-from phase s (kept-holds natives (codes fillers code) J kept words input ticks phase s words-are r)

    -- ---- strands

    top-fits : (words : List Text) (input : List ℕ) (ticks : ℕ) (s : State Standing) (f : Frame Standing) (fs : List (Frame Standing)) → AreWords words → IsReached natives (codes fillers code) words input ticks Running s → s.frames ≡ f ∷ fs → TopFits code s.common f
    top-fits words input ticks s f fs words-are r frames =
        (subst (λ l. FramesFit I s.common s.common.running l) frames (reached words input ticks Running s words-are r).frames.0).0

    starts-once : StartsOnce natives (codes fillers code)
    starts-once words input ticks s f fs vs k words-are r frames looks =
        let fits = top-fits words input ticks s f fs words-are r frames in
        let ec = at-command code f.control (captured_slots (code_facts fillers code) f.unit) op.Workers vs k (λ slot e. let q : ⊥ = cc in q) looks in
        let none : tally_at code f.control.place ≡ None = (typed-at code s.common f t fits op.Workers ec).unstarted refl in
        no-role code s.common f.role (subst (λ r. TallyIs code s.common f.role r) none fits.0.1)

    waits-for-some : WaitsForSome natives (codes fillers code)
    waits-for-some words input ticks s f fs names vs k words-are r frames looks empty =
        let fits = top-fits words input ticks s f fs words-are r frames in
        let ec = at-command code f.control (captured_slots (code_facts fillers code) f.unit) (op.WaitAny names) vs k (λ slot e. let q : ⊥ = cc in q) looks in
        let d = typed-at code s.common f t fits (op.WaitAny names) ec in
        let at = at-place code s.common f fits.0 in
        subst (λ ns. AwaitsAny code.atoms (surroundings code at.u at.station) ns d.operands d.result) empty d.typed

    strands : (words : List Text) (input : List ℕ) (ticks : ℕ) (phase : Phase) (s : State Standing) → AreWords words → IsReached natives (codes fillers code) words input ticks phase s → StrandsHold natives (codes fillers code) phase s
    strands = hold-of-strands natives (codes fillers code) starts-once waits-for-some

    good-state : (words : List Text) (input : List ℕ) (ticks : ℕ) (phase : Phase) (s : State Standing) → AreWords words → IsReached natives (codes fillers code) words input ticks phase s → Good code phase s
    good-state words input ticks phase s words-are r =
        record { fits = reached words input ticks phase s words-are r; ended = λ n idle h. by n idle (some-there (λ (x : Strand). end_in x.status ≢ None) (slice_get s.common.strands n) (ends-with s.common n (slice_get s.common.strands n) refl h)) }
      where
        by : (n : ℕ) → IsIdle phase s.common n → (x : Strand) × (slice_get s.common.strands n ≡ Some x) × (end_in x.status ≢ None) → get_or s.others n [] ≡ []
        by n idle (x, e, ended) = sym (idle-frames phase s n idle) ∙ ((strands words input ticks phase s words-are r).strands n x e).ended ended

    -- ---- and it goes on

    goes-on : (words : List Text) (input : List ℕ) (ticks : ℕ) (s : State Standing) (f : Frame Standing) (fs : List (Frame Standing)) → AreWords words → IsReached natives (codes fillers code) words input ticks Running s → s.frames ≡ f ∷ fs →
        AskComes natives (code_facts fillers code) s.common (length (f ∷ fs)) f ((codes fillers code).look f.unit f.control)
    goes-on words input ticks s f fs words-are r frames =
        (asks-done natives fillers code t s.common knows library (length (f ∷ fs)) (reached words input ticks Running s words-are r).good f (top-fits words input ticks s f fs words-are r frames)).1

pub code-is-kept : (natives : Answers) → CodeIsKept natives
code-is-kept natives fillers code t knows library = kept natives fillers code t knows library

pub reached-code-is-good : (natives : Answers) → ReachedCodeIsGood natives
reached-code-is-good natives fillers code t knows library words input ticks phase s words-are r =
    (good-state natives fillers code t knows library words input ticks phase s words-are r, strands natives fillers code t knows library words input ticks phase s words-are r)

pub code-goes-on : (natives : Answers) → CodeGoesOn natives
code-goes-on natives fillers code t knows library words input ticks s f fs words-are r frames = goes-on natives fillers code t knows library words input ticks s f fs words-are r frames

pub calls-are-not-there : (natives : Answers) → CallsAreNotThere natives
calls-are-not-there natives fillers code none c call atom count =
    ((λ depth f good fits ec. absurd (none f.control.place call atom count ec)), (λ depth f good fits ec. absurd (none f.control.place call atom count ec)))
