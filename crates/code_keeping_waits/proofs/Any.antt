-- What a frame asks for with an alternate wait.
use Rattle.std.proofs.Common.{◌≡◌, ◌≢◌, ◌<◌, ◌+◌, ◌∙◌, ℕ, Bool, true, false, List, [], ◌∷◌, Option, Some, None, inr, length, refl, sym, ap, subst, arith}
use Rattle.std.proofs.lemmas.List.Elements.{All-cons, All-filter, All-head, All-nil, All-tail}
use Rattle.std.proofs.lemmas.Option.{slice_get_within}
use Rattle.std.specs.Prelude.{All, IsSome, IsSomeAnd, filter, if◌then◌else◌, nat_lt, option_map, slice_get}
use Rattle.std.specs.List.{fold}
use Rattle.bal_base.specs.declared.shape.Shape.{Shape}
use Rattle.type_model.specs.declared.basic.SemType.{SemType}
use Rattle.type_model.specs.Membership.{In}
use Rattle.operations.specs.declared.operation.Operation.{Operation}
use Rattle.operations.specs.declared.operation.Operation.TheVariants as op
use Rattle.operations.specs.Kinds.{IsError}
use Rattle.operations.specs.Rows.{ResultHas, Surroundings}
use Rattle.operations.specs.Structures.{GivenByFuture, GivenByWorker}
use Rattle.value_model.specs.declared.filler.Filler.{Filler}
use Rattle.value_model.specs.declared.value.Value.TheVariants.{Future}
use Rattle.value_model.specs.Meaning.{Answers}
use Rattle.op_model.specs.Common.{AnyGiven, Common, Role, Strand}
use Rattle.op_model.specs.Effects.{Effect, Waits}
use Rattle.op_model.specs.Local.{takes}
use Rattle.op_model.specs.Strands.{has_success, met}
use Rattle.op_model.specs.Waits.{Target, chosen, earlier, future_target, gives_chosen, later, place_of_end, strands_in, targets, waits, waits_any, worker_target}
use Rattle.machine_model.specs.Keeping.{AskFits}
use Rattle.machine_model.specs.Machine.{Frame}
use Rattle.machine_model.specs.Runs.{Running}
use Rattle.machine_model.proofs.Shapes.{in-if}
use Rattle.stack_code.specs.declared.code.Code.{Code}
use Rattle.stack_code.specs.declared.code.Unit.{Unit as CodeUnit}
use Rattle.stack_code.specs.CodeMachine.{Standing, code_facts, codes}
use Rattle.stack_code.specs.Commands.{Do, command_at}
use Rattle.stack_code.specs.Flow.{DoesTyped}
use Rattle.stack_code.specs.Frames.{TopFits}
use Rattle.stack_code.specs.Good.{GoodCommon, IsLater, IsSameStrand, code_invariant}
use Rattle.stack_code.specs.Places.{surroundings, tally_at}
use Rattle.stack_code.specs.Values.{Fits}
use Rattle.stack_code.specs.WellTyped.{WellTyped}
use Rattle.code_keeping.specs.Kinds.{Futures}
use Rattle.code_keeping.specs.Laws.{AskComes}
use Rattle.code_keeping.specs.Rows.{Comes}
use Rattle.code_keeping.proofs.Lists.{at-some, of-some, some-there}
use Rattle.code_keeping.proofs.OfKind.{of-kind}
use Rattle.code_keeping.proofs.Operands.{a-future, futures}
use Rattle.code_keeping.proofs.Places.{IsAt, at-place}
use Rattle.code_keeping.proofs.Staying.{fits-later, same}
use Rattle.code_keeping_waits.specs.Laws.{AlternateWaitsAreDone}
use Rattle.code_keeping_waits.proofs.One.{WorkerStrand, at-worker, its-role, named, worker-strand}
use Rattle.code_keeping_waits.proofs.Several.{FitFrom, FuturesFit, WorkersFit, futures-long, targets-fit}
use Rattle.code_keeping_waits.proofs.Targets.{future-waits, there, worker-waits}
use Rattle.code_keeping_waits.proofs.Waiting.{Looks, RowWaits, WaitTyped, typed, waits-done}

-- ---- one of several

-- one that is picked of all that fit fits
fold-fits : (P : Target → Type 0) (f : Target → Target → Target) → ((t u : Target) → P t → P u → P (f t u)) → (t : Target) (ts : List Target) → P t → All P ts → P (fold f t ts)
fold-fits P f h t [] p all = p
fold-fits P f h t (u ∷ ts) p all = fold-fits P f h (f t u) ts (h t u p (All-head P u ts all)) (All-tail P u ts all)

module _ (code : Code) (c : Common) (result : Option SemType) where
  -- now and later what is given by the strand is in the result; it is there, and of a future an error may be given
  abbrev pub IsFit : Target → Type 0
  IsFit t =
      ((d : Common) → GoodCommon code d Running → IsLater None c d → WaitTyped code d result (waits d t)) × (t.strand < length c.strands) × (t.is_worker ≡ false → ResultHas code.atoms result IsError)

  abbrev Waited : Target → Type 0
  Waited t = WaitTyped code c result (waits c t)

  earlier-fits : (t u : Target) → Waited t → Waited u → Waited (earlier c t u)
  earlier-fits t u p q = in-if (nat_lt (place_of_end c u) (place_of_end c t)) Waited u t (λ b. q) (λ b. p)

  later-fits : (t u : Target) → Waited t → Waited u → Waited (later c t u)
  later-fits t u p q = in-if (nat_lt (place_of_end c t) (place_of_end c u)) Waited u t (λ b. q) (λ b. p)

  chosen-fits : (some : List Target) (t : Target) (ts : List Target) → All Waited some → All Waited (t ∷ ts) → WaitTyped code c result (gives_chosen c (chosen c some (t ∷ ts)))
  chosen-fits [] t ts h all = fold-fits Waited (later c) later-fits t ts (All-head Waited t ts all) (All-tail Waited t ts all)
  chosen-fits (u ∷ some) t ts h all = fold-fits Waited (earlier c) earlier-fits u some (All-head Waited u some h) (All-tail Waited u some h)

  pub any-typed : (t : Target) (ts : List Target) → All Waited (t ∷ ts) → All (λ n. n < length c.strands) (strands_in (t ∷ ts)) → WaitTyped code c result (waits_any c (t ∷ ts))
  any-typed t ts all there = by (met c (AnyGiven (strands_in (t ∷ ts)))) refl
    where
      by : (b : Bool) → met c (AnyGiven (strands_in (t ∷ ts))) ≡ b → WaitTyped code c result (if b then gives_chosen c (chosen c (filter (λ t. has_success c t.strand) (t ∷ ts)) (t ∷ ts)) else Waits (AnyGiven (strands_in (t ∷ ts))))
      by true e = chosen-fits (filter (λ t. has_success c t.strand) (t ∷ ts)) t ts (All-filter (λ t. has_success c t.strand) Waited (t ∷ ts) all) all
      by false e = (there, e)

-- ---- workers and futures that are named

module _ (code : Code) (t : WellTyped code) (c : Common) (good : GoodCommon code c Running) (f : Frame Standing) (here : IsAt code c f) where
  abbrev pub place : Surroundings
  place = surroundings code here.u here.station

  abbrev pub Named : ℕ → Type 0
  Named w = (w ≢ 0) × (tally_at code f.control.place ≢ None)

  -- a named worker has a strand
  abbrev pub HasStrands : Type 0
  HasStrands = (w : ℕ) → Named w → (s : SemType) → slice_get place.workers w ≡ Some s → (r : Role) × (f.role ≡ Some r) × WorkerStrand code c r w s

  -- the strand of a worker is of its unit later too
  worker-later : (result : Option SemType) (n : ℕ) (s : Strand) → slice_get c.strands n ≡ Some s → n ≢ 0 → (u : CodeUnit) → slice_get code.units s.unit ≡ Some u → ResultHas code.atoms result (λ x. In code.atoms x u.result) →
      (d : Common) → GoodCommon code d Running → IsLater None c d → WaitTyped code d result (waits d (record { strand = n; is_worker = true }))
  worker-later result n s es not-main u eu has d gd l =
      let (z, ez, is) = some-there (IsSameStrand s) (slice_get d.strands n) (l.strands n s es) in
      worker-waits code t d gd result n z ez not-main u (ap (λ q. slice_get code.units q) is.0 ∙ eu) has

  module _ (strands : HasStrands) (result : ℕ → Option SemType) (each : ℕ → (Shape → Type 0) → Type 0) (has : (k : ℕ) (P : Shape → Type 0) → each k P → ResultHas code.atoms (result k) P) where
    pub workers-fit : WorkersFit code place each c f.role Named (λ k. IsFit code c (result k))
    workers-fit k w n some e = by (slice_get place.workers w) refl some
      where
        result-so : (q : Option SemType) → ResultHas code.atoms q (GivenByWorker code.atoms place w) → (s : SemType) → slice_get place.workers w ≡ Some s → (u : CodeUnit) → u.result ≡ s → ResultHas code.atoms q (λ x. In code.atoms x u.result)
        result-so None h s es u is = h
        result-so (Some q) h s es u is = λ x valid i. h x valid (at-some (λ t. In code.atoms x t) (slice_get place.workers w) s es (subst (λ t. In code.atoms x t) is i))

        by : (q : Option SemType) → slice_get place.workers w ≡ q → IsSome q → (r : Role) × (f.role ≡ Some r) × (t : Target) × (worker_target c r w ≡ Some t) × IsFit code c (result k) t
        by None es some = absurd (let q : ⊥ = cc in q)
        by (Some s) es some =
            let (r, er, k-strand) = strands w n s es in
            let target : Target = record { strand = k-strand.number; is_worker = true } in (
              r,
              er,
              target,
              ap (λ q. option_map (λ n. let z : Target = record { strand = n; is_worker = true } in z) q) k-strand.runs,
              (
                (λ d gd l. worker-later (result k) k-strand.number k-strand.strand k-strand.is k-strand.not-main k-strand.u k-strand.unit (result-so (result k) (has k (GivenByWorker code.atoms place w) e) s es k-strand.u k-strand.result) d gd l),
                slice_get_within c.strands k-strand.number k-strand.strand k-strand.is,
                (λ e. absurd (let q : ⊥ = cc in q)),
              ),
            )

    pub futures-fit : FuturesFit code place each c f.role Named (λ k. IsFit code c (result k))
    futures-fit k v a fv is-future e =
        a-future c.world.heap (λ z. Fits code c z a → (n unit : ℕ) × (z ≡ Future n unit) × IsFit code c (result k) (future_target n)) v (of-kind code t c good.nearly.heap (λ k. k ≡ Futures) v a fv (λ x h. futures x (is-future x h)))
        (λ n unit fz. (
          n,
          unit,
          refl,
          (
            (λ d gd l. future-waits code t d gd (result k) n unit a (fits-later code None c d l (Future n unit) a fz) (has k (GivenByFuture code.atoms a) e)),
            there code t c good (result k) n unit a fz (has k (GivenByFuture code.atoms a) e),
            (λ no-worker. errors-in (result k) (has k (GivenByFuture code.atoms a) e)),
          ),
        )) fv
      where
        errors-in : (q : Option SemType) → ResultHas code.atoms q (GivenByFuture code.atoms a) → ResultHas code.atoms q IsError
        errors-in None h = h
        errors-in (Some r) h = λ x valid error. h x valid (inr error)

-- each frame has a station at which its named workers have strands
pub at-strands : (code : Code) (t : WellTyped code) (c : Common) (good : GoodCommon code c Running) (f : Frame Standing) (fits : TopFits code c f) (at : IsAt code c f) (o : Operation) → command_at code f.control.place ≡ Some (Do o) →
    (here : IsAt code c f) × HasStrands code t c good f here
at-strands code t c good f fits at o ec = by f.role refl
  where
    by : (q : Option Role) → f.role ≡ q → (here : IsAt code c f) × HasStrands code t c good f here
    by (Some r) er = (at-worker code t c good f fits at r er, λ w n s e. (r, er, worker-strand code t c good f fits at r er w n.0 s e))
    by None er = (at, λ w n s e. let (r, e2) = its-role code t c good f fits at o ec n.1 in absurd (let q : None ≡ Some r = sym er ∙ e2 in let b : ⊥ = cc in b))

-- ---- the row

module _ (code : Code) (fillers : ℕ → List Filler) (natives : Answers) (t : WellTyped code) (c : Common) (depth : ℕ) (good : GoodCommon code c Running) (f : Frame Standing) (fits : TopFits code c f) (here : IsAt code c f) (strands : HasStrands code t c good f here)
    (name : Option ℕ) (names : List (Option ℕ)) (ec : command_at code f.control.place ≡ Some (Do (op.WaitAny (name ∷ names)))) where
  abbrev o : Operation
  o = op.WaitAny (name ∷ names)

  abbrev row : DoesTyped code here.u here.station f.control.place o
  row = typed code fillers natives t c depth good f fits here o ec (λ h. h) (λ n tally. refl) (λ tally. refl)

  abbrev each : ℕ → (Shape → Type 0) → Type 0
  each k P = ResultHas code.atoms row.result P

  all-fit : (k : ℕ) (ts : List Target) → FitFrom code (place code t c good f here) each c f.role (Named code t c good f here) (λ k. IsFit code c row.result) k ts →
      All (λ t. WaitTyped code c row.result (waits c t)) ts × All (λ n. n < length c.strands) (strands_in ts)
  all-fit k [] h = (All-nil _, All-nil _)
  all-fit k (u ∷ ts) (h, more) =
      let (a, b) = all-fit (k + 1) ts more in
      (All-cons (λ t. WaitTyped code c row.result (waits c t)) u ts (h.0 c good (same None c)) a, All-cons (λ n. n < length c.strands) u.strand (strands_in ts) h.1 b)

  any-row : RowWaits code fillers natives t c depth good f fits here o ec (λ h. h) (λ n tally. refl) (λ tally. refl)
  any-row args fit =
      let k = targets-fit code (place code t c good f here) each c f.role (Named code t c good f here) (λ k. IsFit code c row.result)
      (workers-fit code t c good f here strands (λ k. row.result) each (λ k P h. h)) (futures-fit code t c good f here strands (λ k. row.result) each (λ k P h. h)) (name ∷ names) 0 row.operands args
      (named code t c good f fits here o ec) row.typed fit in
      by k.targets-are k.is k.fit k.many
    where
      by : (ts : List Target) → targets c f.role (name ∷ names) args ≡ Some ts → FitFrom code (place code t c good f here) each c f.role (Named code t c good f here) (λ k. IsFit code c row.result) 0 ts → length ts ≡ length (name ∷ names) →
          ((effect : Effect) → IsSomeAnd (targets c f.role (name ∷ names) args) (λ ts. effect ≡ waits_any c ts) → WaitTyped code c row.result effect) × Comes (λ effect. IsSomeAnd (targets c f.role (name ∷ names) args) (λ ts. effect ≡ waits_any c ts))
      by [] is ok many = absurd (omega (arith, many))
      by (u ∷ ts) is ok many =
          let (a, b) = all-fit 0 (u ∷ ts) ok in (
            (λ effect does. subst (WaitTyped code c row.result) (sym (of-some (λ ts. effect ≡ waits_any c ts) (targets c f.role (name ∷ names) args) (u ∷ ts) is does)) (any-typed code c row.result u ts a b)),
            (λ never. never (waits_any c (u ∷ ts)) (at-some (λ z. waits_any c (u ∷ ts) ≡ waits_any c z) (targets c f.role (name ∷ names) args) (u ∷ ts) is refl)),
          )

  pub wait-any : Looks code fillers natives t c depth good f fits here o ec (λ h. h) (λ n tally. refl) (λ tally. refl) ((codes fillers code).look f.unit f.control)
  wait-any =
      waits-done code fillers natives t c depth good f fits here o ec (λ h. h) (λ n tally. refl) (λ tally. refl)
      (λ captured. ap (λ n. takes o f.control.local n) (sym (futures-long code (place code t c good f here) each (name ∷ names) 0 row.operands row.typed))) any-row

-- an alternate wait is for something
pub any-done : (code : Code) (fillers : ℕ → List Filler) (natives : Answers) (t : WellTyped code) (c : Common) (depth : ℕ) (good : GoodCommon code c Running) (f : Frame Standing) (fits : TopFits code c f) (names : List (Option ℕ)) →
    command_at code f.control.place ≡ Some (Do (op.WaitAny names)) →
    AskFits natives (codes fillers code) (code_invariant code) c depth f ((codes fillers code).look f.unit f.control) × AskComes natives (code_facts fillers code) c depth f ((codes fillers code).look f.unit f.control)
any-done code fillers natives t c depth good f fits [] ec = absurd (typed code fillers natives t c depth good f fits (at-place code c f fits.0) (op.WaitAny []) ec (λ h. h) (λ n tally. refl) (λ tally. refl)).typed
any-done code fillers natives t c depth good f fits (name ∷ names) ec =
    let (here, strands) = at-strands code t c good f fits (at-place code c f fits.0) (op.WaitAny (name ∷ names)) ec in
    wait-any code fillers natives t c depth good f fits here strands name names ec

pub alternate-waits-are-done : (natives : Answers) → AlternateWaitsAreDone natives
alternate-waits-are-done natives fillers names code c t = (
  (λ depth f good fits ec. (any-done code fillers natives t c depth good f fits names ec).0),
  (λ depth f good fits ec. (any-done code fillers natives t c depth good f fits names ec).1),
)
