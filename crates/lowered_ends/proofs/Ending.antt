-- In a package without `start` each strand has ended when none is ready, and so in its code.
use Rattle.std.proofs.Common.{◌≡◌, ◌<◌, ◌++◌, ◌∙◌, ℕ, zero, suc, true, List, [], ◌∷◌, Option, Some, None, IsSomeAnd, length, reverse, refl, sym, subst, ap, arith}
use Rattle.std.proofs.lemmas.Option.{none-some, slice_get-get_or}
use Rattle.std.specs.Prelude.{get_or, is_some, slice_get}
use Rattle.bal_base.specs.declared.text.Text.{Text}
use Rattle.type_model.specs.declared.answers.TypeLimit.{TypeLimit}
use Rattle.type_model.specs.declared.atoms.AtomDef.{AtomDef}
use Rattle.type_model.specs.Calls.{Asked}
use Rattle.operations.specs.declared.operation.Operation.{Operation}
use Rattle.typed_tree.specs.declared.package.TypedPackage.{TypedPackage}
use Rattle.value_model.specs.declared.filler.Filler.{Filler}
use Rattle.value_model.specs.declared.value.Value.{Value}
use Rattle.value_model.specs.declared.value.Value.TheVariants.{Nil, Error, Future}
use Rattle.value_model.specs.Meaning.{Answers}
use Rattle.op_model.specs.Common.{Activation, Common, End, Returned, Panicked, Need, Message, Received, AllEnded, AnyGiven, IsBlocked}
use Rattle.op_model.specs.Strands.{activation_at, end_of, has_ended, no_activation, no_strand, strand_at}
use Rattle.machine_model.specs.Machine.{Does, Frame, Machine, State, captured_slots}
use Rattle.machine_model.specs.Keeping.{FramesFit}
use Rattle.machine_model.specs.Matching.{FramesMatch, StateMatch}
use Rattle.machine_model.specs.Outcomes.{Ending, HasMessage, IsEnding, IsMainEnd, Panics, ReturnsError, Stalls}
use Rattle.machine_model.specs.Runs.{AreWords, IsReached, Over, PastLimit, Picking, Runs, Stop, TicksSpent, over, start, starts}
use Rattle.machine_model.specs.Strands.{StrandsHold, frames_of, role_of}
use Rattle.machine_model.proofs.Forth.{forth}
use Rattle.machine_model.proofs.Lifts.{forth-some, picked-match}
use Rattle.machine_model.proofs.Once.{some-same}
use Rattle.machine_model.proofs.Reached.{reached-follow}
use Rattle.machine_model.proofs.SameOutcomes.{starts-match}
use Rattle.machine_model.proofs.Shapes.{in-some}
use Rattle.eval_model.specs.Narrowed.{IsFine}
use Rattle.eval_model.specs.Tasks.{Doing}
use Rattle.eval_model.specs.Trees.{facts_of, trees}
use Rattle.eval_model.proofs.Settled.{doing-settles}
use Rattle.worker_waits.proofs.NoStall.{ends-all}
use Rattle.worker_waits.proofs.PlannedTrees.{K, begun-well, planned-never-ring}
use Rattle.worker_waits.proofs.TreeStanding.{frames-at, trees-hold}
use Rattle.stack_code.specs.declared.code.Code.{Code}
use Rattle.stack_code.specs.CodeMachine.{Standing, codes}
use Rattle.stack_code.specs.Good.{Good, IsWorkerOf, NeedIsThere, code_invariant}
use Rattle.stack_code.specs.Places.{stack_at}
use Rattle.lower_model.specs.Following.{Follows}
use Rattle.lower_model.proofs.Whole.{frames-follow}
use Rattle.code_keeping_all.proofs.Kept.{reached-code-is-good}
use Rattle.lowered_ends.specs.Laws.{IsKept, KeptAllEnd, KeptHasNoStalls, KeptNeverStalls, NoStalls}
use Rattle.lowered_ends.specs.Starting.{AwaitsNamed, HasNoStart}
use Rattle.lowered_ends.proofs.Frames.{AllHold, Holds, at-one, reached-holds}
use Rattle.lowered_ends.proofs.Futures.{among-reverse, fits-among, next-taken, no-future}
use Rattle.lowered_ends.proofs.Roles.{AreWorkers, roles}
use Rattle.lowered_ends.proofs.Running.{from-start, run-ends}
use Rattle.lowered_ends.proofs.Starting.{AsksNone, awaits-named, kept-none}
use Rattle.lowered_ends.proofs.Stopping.{AreCrews, IsAmong, NamesWorker, NoFutures, TakesFutures, WaitForWorkers, are-stuck}

within : {A : Type 0} (xs : List A) (j : ℕ) (y : A) → slice_get xs j ≡ Some y → j < length xs
within [] zero y e = absurd (none-some y e)
within [] (suc j) y e = absurd (none-some y e)
within (z ∷ xs) zero y e = omega arith
within (z ∷ xs) (suc j) y e = let k = within xs j y e in omega (arith, k)

-- ---- what good code says of what is shared

module _ (code : Code) (t : State Standing) (good : Good code Picking t) where
  abbrev d : Common
  d = t.common

  activation-is : (a : ℕ) (x : Activation) → slice_get d.activations a ≡ Some x → activation_at d a ≡ x
  activation-is a x at = some-same _ _ (sym (slice_get-get_or d.activations a no_activation (within d.activations a x at)) ∙ at)

  worker-there : (a w : ℕ) → IsWorkerOf code d a w → w < length (activation_at d a).ends
  worker-there a w h = in-some (slice_get d.activations a) h (λ x at lt. subst (λ z. w < length z.ends) (sym (activation-is a x at)) lt)

  named-there : (need : Need) → NeedIsThere code d need → NamesWorker d need
  named-there (Message a from to) h = worker-there a from h.0
  named-there (Received a from to count) h = worker-there a to h.1
  named-there (AllEnded ns) h = tt
  named-there (AnyGiven ns) h = tt

  pub names-worker : (n : ℕ) (need : Need) → n < length d.strands → (strand_at d n).status ≡ IsBlocked need → NamesWorker d need
  names-worker n need lt blocked = named-there need ((good.fits.good.nearly.strands n (strand_at d n) (slice_get-get_or d.strands n no_strand lt)).need need blocked)

  pub crews-are : (a w n : ℕ) → slice_get (activation_at d a).strands (suc w) ≡ Some n → IsSomeAnd (slice_get d.strands n) (λ x. x.role ≡ Some (role_of a (suc w)))
  crews-are a w n runs = by (slice_get d.activations a) refl
    where
      by : (o : Option Activation) → slice_get d.activations a ≡ o → IsSomeAnd (slice_get d.strands n) (λ x. x.role ≡ Some (role_of a (suc w)))
      by (Some x) at =
          let h = (good.fits.good.nearly.activations a x at).call.workers w n (ap (λ z. slice_get z.strands (suc w)) (sym (activation-is a x at)) ∙ runs) in
          in-some (slice_get d.strands n) h (λ y there both. subst (λ o. IsSomeAnd o (λ x. x.role ≡ Some (role_of a (suc w)))) (sym there) both.0)
      by None at = absurd (none-some n (sym (ap (λ z. slice_get z.strands (suc w)) (none-there d.activations a at)) ∙ runs))
        where
          none-there : (xs : List Activation) (i : ℕ) → slice_get xs i ≡ None → get_or xs i no_activation ≡ no_activation
          none-there [] i e = refl
          none-there (x ∷ xs) zero e = absurd (none-some x (sym e))
          none-there (x ∷ xs) (suc i) e = none-there xs i e

  pub main-there : 0 < length d.strands
  main-there = in-some (slice_get d.strands 0) good.fits.good.nearly.main (λ x at h. within d.strands 0 x at)

-- ---- all strands have ended, and so has main

abbrev HasEnded : Common → Type 0
HasEnded c = ((n : ℕ) → n < length c.strands → has_ended c n ≡ true) × (has_ended c 0 ≡ true)

module _ (passes : List AtomDef → Asked → TypeLimit → Type 0) (natives : Answers) (atoms : List AtomDef) (fillers : ℕ → List Filler) (p : TypedPackage) (code : Code) (kept : IsKept passes natives atoms fillers p code) (none : HasNoStart p) where
  abbrev M : Machine Doing
  M = trees atoms fillers p

  abbrev N : Machine Standing
  N = codes fillers code

  module _ (words : List Text) (input : List ℕ) (ticks : ℕ) (texts : AreWords words) where
    -- ---- a state of the package and one of its code beside it

    module _ (s : State Doing) (came : IsReached natives M words input ticks Picking s) (t : State Standing) (good : Good code Picking t) (match : StateMatch M N (Follows code) s t) (idle : s.common.ready ≡ []) where
      holds : StrandsHold natives M Picking s
      holds = trees-hold natives (K passes p kept.planned) atoms fillers p (begun-well passes p kept.planned atoms fillers) words input ticks Picking s texts came

      frames-hold : Holds natives M AsksNone s
      frames-hold = reached-holds natives M AsksNone (kept-none natives atoms fillers p none kept.waits) words input ticks Picking s came

      same : t.common ≡ s.common
      same = sym match.0

      crews : AreCrews natives M s holds
      crews = subst (λ c. (a w n : ℕ) → slice_get (activation_at c a).strands (suc w) ≡ Some n → IsSomeAnd (slice_get c.strands n) (λ x. x.role ≡ Some (role_of a (suc w)))) same (crews-are code t good)

      -- no operand of a wait is a future
      module _ (n : ℕ) (lt : n < length s.common.strands) (f : Frame Doing) (o : Operation) (vs : List Value) (k : Doing) (looks : M.look f.unit f.control ≡ Does o vs k) where
        none-made : (gs : List (Frame Standing)) (fs : List (Frame Doing)) → FramesMatch M N (Follows code) (f ∷ fs) gs → FramesFit (code_invariant code) t.common n gs → TakesFutures o → NoFutures vs
        none-made [] fs follow fit takes m unit among = follow
        none-made (g ∷ gs) fs follow fit takes m unit among =
            no-future code t.common (subst (λ c. AreWorkers (roles c)) (sym same) frames-hold.workers) m unit
            (fits-among code t.common (Future m unit) (reverse g.control.local.stack) (stack_at code g.control.place) fit.0.1
            (among-reverse (Future m unit) g.control.local.stack
            (subst (λ l. IsAmong (Future m unit) l.stack) follow.1.local (next-taken (captured_slots M.facts f.unit) f.control.local f.control.tasks o vs k (Future m unit) takes looks among))))

        futureless : (fs : List (Frame Doing)) → frames_of s n ≡ f ∷ fs → TakesFutures o → NoFutures vs
        futureless fs is =
            let count : n < length t.common.strands = subst (λ c. n < length c.strands) (sym same) lt in
            none-made (frames_of t n) fs (subst (λ l. FramesMatch M N (Follows code) l (frames_of t n)) is (picked-match M N (Follows code) s.others t.others n match.2).0)
            (frames-at (code_invariant code) Picking t n good.fits count)

        top-holds : (fs : List (Frame Doing)) → frames_of s n ≡ f ∷ fs → AsksNone f.control
        top-holds fs is = (subst (λ l. AllHold natives M AsksNone l) is (at-one natives M AsksNone s.others n frames-hold.others)).0

        all-named : (fs : List (Frame Doing)) → frames_of s n ≡ f ∷ fs → AwaitsNamed o
        all-named fs is = (awaits-named natives atoms fillers p none kept.waits f.unit f.control k o vs (top-holds fs is) looks).0

      waits : WaitForWorkers natives M s holds crews
      waits n need f fs o vs k lt blocked is looks = (
        subst (λ c. NamesWorker c need) same (names-worker code t good n need (subst (λ c. n < length c.strands) (sym same) lt) (subst (λ c. (strand_at c n).status ≡ IsBlocked need) (sym same) blocked)),
        futureless n lt f o vs k looks fs is,
        all-named n lt f o vs k looks fs is,
      )

      all-ended : HasEnded s.common
      all-ended =
          let all = ends-all M s (are-stuck natives M s holds crews idle waits) (planned-never-ring passes natives atoms fillers p kept.planned words input ticks Picking s texts came) in
          (all, all 0 (subst (λ c. 0 < length c.strands) same (main-there code t good)))

    -- ---- of the code, and then of the package

    code-ends : (t : State Standing) → IsReached natives N words input ticks Picking t → t.common.ready ≡ [] → HasEnded t.common
    code-ends t came idle =
        by (reached-follow natives M N (Follows code) (IsFine (facts_of atoms fillers p)) (frames-follow natives atoms fillers p code kept.lowered) kept.narrows (doing-settles atoms fillers p) words input ticks Picking t texts came)
      where
        by : ((s : State Doing) × IsReached natives M words input ticks Picking s × StateMatch M N (Follows code) s t) → HasEnded t.common
        by (s, beside, match) =
            let good = (reached-code-is-good natives fillers code kept.typed kept.knows kept.library words input ticks Picking t texts came).0 in
            subst HasEnded match.0 (all-ended s beside t good match (ap (λ c. c.ready) match.0 ∙ idle))

    -- a run of the package that is over is one of the code
    package-over : (first : State Doing) (order : List ℕ) (m : ℕ) (c : Common) → start M words input ticks ≡ Some first → Runs natives M Picking m first order Over c → HasEnded c
    package-over first order m c begins run =
        let sim = frames-follow natives atoms fillers p code kept.lowered in
        let other = forth-some (StateMatch M N (Follows code)) first (start M words input ticks) (start N words input ticks) begins (starts-match natives M N (Follows code) (IsFine (facts_of atoms fillers p)) sim words input ticks) in
        let beside = forth natives M N (Follows code) (IsFine (facts_of atoms fillers p)) sim kept.narrows words input ticks texts other.0 run (0, [], starts begins) other.2 in
        let last = run-ends natives N words input ticks beside.1 (0, [], starts other.1) refl in
        subst HasEnded last.same (code-ends last.state last.reached last.idle)

    package-ends : (s : State Doing) → IsReached natives M words input ticks Picking s → s.common.ready ≡ [] → HasEnded s.common
    package-ends s (n, order, r) idle =
        let whole = from-start natives M words input ticks r [] Over s.common (0, over idle) in
        package-over whole.first (order ++ []) whole.run.0 s.common whole.begins whole.run.1

-- ---- no outcome is a stall

message-not : (c : Common) (ring : List ℕ) (v : Value) (P : Text → Ending) → ((m : Text) → Stalls ring ≡ P m → ⊥) → HasMessage c v (λ m. Stalls ring ≡ P m) → ⊥
message-not c ring (Error n) P h k = in-some (slice_get c.world.heap.errors n) k (λ e at is. h e.message is)
message-not c ring v P h k = k

main-end-not : (c : Common) (ring : List ℕ) (o : Option End) → is_some o ≡ true → IsMainEnd c o (Stalls ring) → ⊥
main-end-not c ring None some h = let q : ⊥ = cc in q
main-end-not c ring (Some (Panicked e)) some h = message-not c ring e Panics (λ m is. let q : ⊥ = cc in q) h
main-end-not c ring (Some (Returned Nil)) some h = let q : ⊥ = cc in q
main-end-not c ring (Some (Returned v)) some h = message-not c ring v ReturnsError (λ m is. let q : ⊥ = cc in q) h

ending-not : (stop : Stop) (c : Common) (ring : List ℕ) → (stop ≡ Over → has_ended c 0 ≡ true) → IsEnding stop c (Stalls ring) → ⊥
ending-not Over c ring ended h = main-end-not c ring (end_of c 0) (ended refl) h
ending-not TicksSpent c ring ended h = let q : ⊥ = cc in q
ending-not (PastLimit limit) c ring ended h = let q : ⊥ = cc in q

no-stalls : {C : Type 0} (natives : Answers) (M : Machine C) →
    ((words : List Text) (input : List ℕ) (ticks : ℕ) (s : State C) → AreWords words → IsReached natives M words input ticks Picking s → s.common.ready ≡ [] → HasEnded s.common) → NoStalls natives M
no-stalls natives M ended words input order ticks n o ring texts (s, stop, c, begins, run, comes) is =
    ending-not stop c ring (λ at.
    let last = run-ends natives M words input ticks run (0, [], starts begins) at in
    subst (λ d. has_ended d 0 ≡ true) last.same (ended words input ticks last.state texts last.reached last.idle).1)
    (subst (IsEnding stop c) is comes.ending)

pub kept-all-end : (passes : List AtomDef → Asked → TypeLimit → Type 0) (natives : Answers) → KeptAllEnd passes natives
kept-all-end passes natives atoms fillers p code kept none = (
  (λ words input ticks s texts came idle. (package-ends passes natives atoms fillers p code kept none words input ticks texts s came idle).0),
  (λ words input ticks t texts came idle. (code-ends passes natives atoms fillers p code kept none words input ticks texts t came idle).0),
)

pub kept-never-stalls : (passes : List AtomDef → Asked → TypeLimit → Type 0) (natives : Answers) → KeptNeverStalls passes natives
kept-never-stalls passes natives atoms fillers p code kept none = (
  (λ words input ticks s texts came idle. (package-ends passes natives atoms fillers p code kept none words input ticks texts s came idle).1),
  (λ words input ticks t texts came idle. (code-ends passes natives atoms fillers p code kept none words input ticks texts t came idle).1),
)

pub kept-has-no-stalls : (passes : List AtomDef → Asked → TypeLimit → Type 0) (natives : Answers) → KeptHasNoStalls passes natives
kept-has-no-stalls passes natives atoms fillers p code kept none = (
  no-stalls natives (trees atoms fillers p) (λ words input ticks s texts came idle. package-ends passes natives atoms fillers p code kept none words input ticks texts s came idle),
  no-stalls natives (codes fillers code) (λ words input ticks t texts came idle. code-ends passes natives atoms fillers p code kept none words input ticks texts t came idle),
)
