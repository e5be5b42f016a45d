-- What a frame asks for with a wait for one worker or for one future.
use Rattle.std.proofs.Common.{◌≡◌, ◌≢◌, ◌∙◌, ℕ, zero, suc, true, List, [], ◌∷◌, Option, Some, None, map, refl, sym, ap, subst, arith}
use Rattle.std.proofs.lemmas.Option.{slice_get_within}
use Rattle.std.specs.Prelude.{All, IsSome, IsSomeAnd, option_map, slice_get}
use Rattle.type_model.specs.declared.basic.SemType.{SemType}
use Rattle.type_model.specs.Membership.{In}
use Rattle.operations.specs.declared.operation.Operation.{Operation}
use Rattle.operations.specs.declared.operation.Operation.TheVariants as op
use Rattle.operations.specs.Rows.{ResultHas}
use Rattle.operations.specs.Structures.{GivenByWorker}
use Rattle.operations.specs.Talk.{talk_of}
use Rattle.value_model.specs.declared.filler.Filler.{Filler}
use Rattle.value_model.specs.declared.value.Value.{Value}
use Rattle.value_model.specs.Meaning.{Answers}
use Rattle.op_model.specs.Common.{Activation, Caller, Common, Role, Strand}
use Rattle.op_model.specs.Effects.{Effect}
use Rattle.op_model.specs.Local.{takes}
use Rattle.op_model.specs.Performs.{Performs}
use Rattle.op_model.specs.Strands.{activation_at, no_activation}
use Rattle.op_model.specs.Waits.{Target, future_target, waits, worker_target}
use Rattle.machine_model.specs.Keeping.{AskFits}
use Rattle.machine_model.specs.Machine.{Frame}
use Rattle.machine_model.specs.Runs.{Running}
use Rattle.machine_model.proofs.Once.{some-same}
use Rattle.stack_code.specs.declared.code.Code.{Code}
use Rattle.stack_code.specs.declared.code.Unit.{Unit as CodeUnit}
use Rattle.stack_code.specs.CodeMachine.{Standing, code_facts, codes}
use Rattle.stack_code.specs.Activations.{GoodActivation}
use Rattle.stack_code.specs.Commands.{Do, command_at}
use Rattle.stack_code.specs.Frames.{IsOfItsUnit, TallyIs, TopFits}
use Rattle.stack_code.specs.Good.{GoodCommon, code_invariant}
use Rattle.stack_code.specs.Messages.{awaited_in}
use Rattle.stack_code.specs.Flow.{DoesTyped}
use Rattle.stack_code.specs.Places.{IsIn, IsStation, Tally, crew, crew_of, result_in, surroundings, tally_at}
use Rattle.stack_code.specs.Tables.{CapturesWell}
use Rattle.stack_code.specs.Values.{Fits}
use Rattle.stack_code.specs.WellTyped.{WellTyped}
use Rattle.code_keeping.specs.Kinds.{Futures}
use Rattle.code_keeping.specs.Laws.{AskComes}
use Rattle.code_keeping.specs.Rows.{Comes}
use Rattle.code_keeping.proofs.Changing.{or-there}
use Rattle.code_keeping.proofs.Lists.{all-at, at-some, of-some, some-there, there}
use Rattle.code_keeping.proofs.OfKind.{of-kind}
use Rattle.code_keeping.proofs.Operands.{a-future, futures, none-fit, none-long, one-fit, one-long}
use Rattle.code_keeping.proofs.Places.{IsAt, at-place}
use Rattle.code_keeping_waits.specs.Laws.{SingleWaitsAreDone}
use Rattle.code_keeping_waits.proofs.Targets.{future-waits, worker-waits}
use Rattle.code_keeping_waits.proofs.Waiting.{Looks, RowWaits, WaitTyped, caller, typed, waits-done}

-- ---- the strand of a worker

pub from-map : {A B : Type 0} (f : A → B) (xs : List A) (j : ℕ) (y : B) → slice_get (map f xs) j ≡ Some y → (x : A) × (slice_get xs j ≡ Some x) × (f x ≡ y)
from-map f [] j y e = absurd (let q : ⊥ = cc in q)
from-map f (x ∷ xs) zero y e = (x, refl, some-same (f x) y e)
from-map f (x ∷ xs) (suc j) y e = from-map f xs j y e

-- the unit of a named worker is there
worker-unit : (code : Code) → WellTyped code → (function w unit : ℕ) → slice_get (crew code function) (suc w) ≡ Some unit → (u : CodeUnit) × (slice_get code.units unit ≡ Some u)
worker-unit code t function w unit e = by (slice_get code.units function) refl e
  where
    by : (o : Option CodeUnit) → slice_get code.units function ≡ o → slice_get (crew_of function o) (suc w) ≡ Some unit → (u : CodeUnit) × (slice_get code.units unit ≡ Some u)
    by None is e = absurd (let q : ⊥ = cc in q)
    by (Some g) is e =
        let (spawn, at, same) = from-map (λ w. w.unit) g.workers w unit e in
        let (u, eu, captures) = some-there _ (slice_get code.units spawn.unit) (all-at (CapturesWell code g) g.workers w spawn (t.fields.spawns function g is) at) in
        (u, ap (λ k. slice_get code.units k) (sym same) ∙ eu)

-- the strand that runs a named worker of the frame's activation, and the worker's unit
pub record WorkerStrand (code : Code) (c : Common) (r : Role) (w : ℕ) (t : SemType) : Type 0 where
  pub number : ℕ
  pub runs : slice_get (activation_at c r.activation).strands w ≡ Some number
  pub strand : Strand
  pub is : slice_get c.strands number ≡ Some strand
  pub not-main : number ≢ 0
  pub u : CodeUnit
  pub unit : slice_get code.units strand.unit ≡ Some u
  pub result : u.result ≡ t

module _ (code : Code) (t : WellTyped code) (c : Common) (good : GoodCommon code c Running) (f : Frame Standing) (fits : TopFits code c f) (at : IsAt code c f) (o : Operation) (ec : command_at code f.control.place ≡ Some (Do o)) where
  abbrev pub named : All (λ w. (w ≢ 0) × (tally_at code f.control.place ≢ None)) (awaited_in (talk_of o))
  named = ((t.places f.control.place).talks.workers at.station.function at.station.worker o (f.unit, at.stationed, at-some (λ u. IsIn u f.control.place) (slice_get code.units f.unit) at.u at.is at.here.0) ec).1

  -- a frame at a place with numbers is a worker
  pub its-role : tally_at code f.control.place ≢ None → (r : Role) × (f.role ≡ Some r)
  its-role some = by f.role refl (tally_at code f.control.place) fits.0.1 some
    where
      by : (q : Option Role) → f.role ≡ q → (tally : Option Tally) → TallyIs code c f.role tally → tally ≢ None → (r : Role) × (f.role ≡ Some r)
      by (Some r) e tally h ne = (r, e)
      by None e None h ne = absurd (ne refl)
      by None e (Some tally) h ne = absurd (subst (λ q. TallyIs code c q (Some tally)) e h)

module _ (code : Code) (t : WellTyped code) (c : Common) (good : GoodCommon code c Running) (f : Frame Standing) (fits : TopFits code c f) (at : IsAt code c f) (r : Role) (er : f.role ≡ Some r) where
  -- the activation of the frame, whose function is that of each station of the frame's unit
  pub its-activation : (x : Activation) × (slice_get c.activations r.activation ≡ Some x) × IsStation code f.unit (record { function = x.unit; worker = r.worker })
  its-activation = some-there (λ x. IsStation code f.unit (record { function = x.unit; worker = r.worker })) (slice_get c.activations r.activation) (subst (λ q. IsOfItsUnit code c f.unit q) er fits.0.2).0

  abbrev x : Activation
  x = its-activation.0

  -- a station like it
  abbrev pub at-worker : IsAt code c f
  at-worker = record { u = at.u; is = at.is; station = record { function = x.unit; worker = r.worker }; stationed = its-activation.2; here = at.here }

  pub worker-strand : (w : ℕ) → w ≢ 0 → (s : SemType) → slice_get (map (λ n. result_in (slice_get code.units n)) (crew code x.unit)) w ≡ Some s → WorkerStrand code c r w s
  worker-strand zero ne s e = absurd (ne refl)
  worker-strand (suc w) ne s e =
      let g : GoodActivation code c r.activation x = good.nearly.activations r.activation x its-activation.1 in
      let (unit, at-crew, is) = from-map (λ n. result_in (slice_get code.units n)) (crew code x.unit) (suc w) s e in
      let (n, runs) = there x.strands (suc w) (let l = slice_get_within (crew code x.unit) (suc w) unit at-crew in let m = g.call.strands in omega (arith, l, m)) in
      let (z, ez, (role, names)) = some-there (λ (z : Strand). (z.role ≡ Some (record { activation = r.activation; worker = suc w })) × (slice_get (crew code x.unit) (suc w) ≡ Some z.unit)) (slice_get c.strands n) (g.call.workers w n runs) in
      let same : unit ≡ z.unit = some-same unit z.unit (sym at-crew ∙ names) in
      by n runs z ez role unit at-crew same is
    where
      main-none : (n : ℕ) (z : Strand) → slice_get c.strands n ≡ Some z → z.role ≡ Some (record { activation = r.activation; worker = suc w }) → n ≢ 0
      main-none n z ez role is =
          let (unit-is, none) = of-some (λ (s : Strand). (s.unit ≡ code.start) × (s.role ≡ None)) (slice_get c.strands 0) z (subst (λ k. slice_get c.strands k ≡ Some z) is ez) good.nearly.main in
          let q : None ≡ Some (record { activation = r.activation; worker = suc w }) = sym none ∙ role in let b : ⊥ = cc in b

      by : (n : ℕ) → slice_get x.strands (suc w) ≡ Some n → (z : Strand) → slice_get c.strands n ≡ Some z → z.role ≡ Some (record { activation = r.activation; worker = suc w }) → (unit : ℕ) →
          slice_get (crew code x.unit) (suc w) ≡ Some unit → unit ≡ z.unit → result_in (slice_get code.units unit) ≡ s → WorkerStrand code c r (suc w) s
      by n runs z ez role unit at-crew same is =
          let (u, eu) = worker-unit code t x.unit w unit at-crew in
          record {
            number = n;
            runs = subst (λ (y : Activation). slice_get y.strands (suc w) ≡ Some n) (sym (or-there c.activations r.activation x no_activation its-activation.1)) runs;
            strand = z;
            is = ez;
            not-main = main-none n z ez role;
            u = u;
            unit = ap (λ k. slice_get code.units k) (sym same) ∙ eu;
            result = ap result_in (sym eu) ∙ is;
          }

-- ---- rows

module _ (code : Code) (fillers : ℕ → List Filler) (natives : Answers) (t : WellTyped code) (c : Common) (depth : ℕ) (good : GoodCommon code c Running) (f : Frame Standing) (fits : TopFits code c f) (at : IsAt code c f) where
  module _ (ec : command_at code f.control.place ≡ Some (Do op.WaitFuture)) where
    abbrev who : Caller
    who = caller code fillers natives t c depth good f fits at op.WaitFuture ec (λ h. h) (λ n tally. refl) (λ tally. refl)

    abbrev future-typed : DoesTyped code at.u at.station f.control.place op.WaitFuture
    future-typed = typed code fillers natives t c depth good f fits at op.WaitFuture ec (λ h. h) (λ n tally. refl) (λ tally. refl)

    future-row : RowWaits code fillers natives t c depth good f fits at op.WaitFuture ec (λ h. h) (λ n tally. refl) (λ tally. refl)
    future-row args fit =
        one-fit code c (λ us. ((effect : Effect) → Performs (code_facts fillers code) natives op.WaitFuture us who c effect → WaitTyped code c future-typed.result effect) × Comes (Performs (code_facts fillers code) natives op.WaitFuture us who c)) future-typed.operands args _ future-typed.typed fit
        (λ a v (is-future, has) fv.
        a-future c.world.heap (λ z. Fits code c z a → ((effect : Effect) → Performs (code_facts fillers code) natives op.WaitFuture (z ∷ []) who c effect → WaitTyped code c future-typed.result effect) × Comes (Performs (code_facts fillers code) natives op.WaitFuture (z ∷ []) who c)) v
        (of-kind code t c good.nearly.heap (λ k. k ≡ Futures) v a fv (λ x h. futures x (is-future x h)))
        (λ n unit fz. ((λ effect e. subst (WaitTyped code c future-typed.result) (sym e) (future-waits code t c good future-typed.result n unit a fz has)), (λ never. never (waits c (future_target n)) refl))) fv)

    pub wait-future : Looks code fillers natives t c depth good f fits at op.WaitFuture ec (λ h. h) (λ n tally. refl) (λ tally. refl) ((codes fillers code).look f.unit f.control)
    wait-future =
        waits-done code fillers natives t c depth good f fits at op.WaitFuture ec (λ h. h) (λ n tally. refl) (λ tally. refl)
        (λ captured. ap (λ n. takes op.WaitFuture f.control.local n) (sym (one-long _ _ future-typed.typed))) future-row

  module _ (w : ℕ) (ec : command_at code f.control.place ≡ Some (Do (op.WaitWorker w))) where
    abbrev o : Operation
    o = op.WaitWorker w

    module _ (r : Role) (er : f.role ≡ Some r) where
      abbrev here : IsAt code c f
      here = at-worker code t c good f fits at r er

      abbrev row : DoesTyped code here.u here.station f.control.place o
      row = typed code fillers natives t c depth good f fits here o ec (λ h. h) (λ n tally. refl) (λ tally. refl)

      abbrev its-caller : Caller
      its-caller = caller code fillers natives t c depth good f fits here o ec (λ h. h) (λ n tally. refl) (λ tally. refl)

      abbrev ComesTo : List Value → Type 0
      ComesTo us = ((effect : Effect) → Performs (code_facts fillers code) natives o us its-caller c effect → WaitTyped code c row.result effect) × Comes (Performs (code_facts fillers code) natives o us its-caller c)

      worker-row : RowWaits code fillers natives t c depth good f fits here o ec (λ h. h) (λ n tally. refl) (λ tally. refl)
      worker-row args fit =
          none-fit code c ComesTo row.operands args row.typed.0 fit
          (by (slice_get (surroundings code here.u here.station).workers w) refl row.typed.1 row.typed.2)
        where
          by : (q : Option SemType) → slice_get (surroundings code here.u here.station).workers w ≡ q → IsSome q → ResultHas code.atoms row.result (GivenByWorker code.atoms (surroundings code here.u here.station) w) → ComesTo []
          by None e some has = absurd (let q : ⊥ = cc in q)
          by (Some s) e some has =
              let k = worker-strand code t c good f fits at r er w (named code t c good f fits at o ec 0 w (omega arith)).0 s e in
              let target : Target = record { strand = k.number; is_worker = true } in
              let there : worker_target c r w ≡ Some target = ap (λ q. option_map (λ n. let z : Target = record { strand = n; is_worker = true } in z) q) k.runs in
              let results : ResultHas code.atoms row.result (λ x. In code.atoms x k.u.result) = result-so row.result has s e k.u k.result in
              let waited = worker-waits code t c good row.result k.number k.strand k.is k.not-main k.u k.unit results in (
                (λ effect does. subst (WaitTyped code c row.result) (sym (of-some (λ q. effect ≡ waits c q) (worker_target c r w) target there (of-some (λ r. IsSomeAnd (worker_target c r w) (λ q. effect ≡ waits c q)) f.role r er does))) waited),
                (λ never. never (waits c target) (at-some (λ r. IsSomeAnd (worker_target c r w) (λ q. waits c target ≡ waits c q)) f.role r er (at-some (λ q. waits c target ≡ waits c q) (worker_target c r w) target there refl))),
              )
            where
              result-so : (result : Option SemType) → ResultHas code.atoms result (GivenByWorker code.atoms (surroundings code here.u here.station) w) → (s : SemType) → slice_get (surroundings code here.u here.station).workers w ≡ Some s →
                  (u : CodeUnit) → u.result ≡ s → ResultHas code.atoms result (λ x. In code.atoms x u.result)
              result-so None has s e u is = has
              result-so (Some q) has s e u is = λ x valid h. has x valid (at-some (λ t. In code.atoms x t) (slice_get (surroundings code here.u here.station).workers w) s e (subst (λ t. In code.atoms x t) is h))

      wait-worker-as : Looks code fillers natives t c depth good f fits here o ec (λ h. h) (λ n tally. refl) (λ tally. refl) ((codes fillers code).look f.unit f.control)
      wait-worker-as =
          waits-done code fillers natives t c depth good f fits here o ec (λ h. h) (λ n tally. refl) (λ tally. refl) (λ captured. ap (λ n. takes o f.control.local n) (sym (none-long _ row.typed.0))) worker-row

    pub wait-worker : AskFits natives (codes fillers code) (code_invariant code) c depth f ((codes fillers code).look f.unit f.control) × AskComes natives (code_facts fillers code) c depth f ((codes fillers code).look f.unit f.control)
    wait-worker = let (r, er) = its-role code t c good f fits at o ec (named code t c good f fits at o ec 0 w (omega arith)).1 in wait-worker-as r er

pub single-waits-are-done : (natives : Answers) → SingleWaitsAreDone natives
single-waits-are-done natives fillers = (
  (λ w code c t. (
    (λ depth f good fits ec. (wait-worker code fillers natives t c depth good f fits (at-place code c f fits.0) w ec).0),
    (λ depth f good fits ec. (wait-worker code fillers natives t c depth good f fits (at-place code c f fits.0) w ec).1),
  )),
  (λ code c t. (
    (λ depth f good fits ec. (wait-future code fillers natives t c depth good f fits (at-place code c f fits.0) ec).0),
    (λ depth f good fits ec. (wait-future code fillers natives t c depth good f fits (at-place code c f fits.0) ec).1),
  )),
)
