-- Strand 0 begins its next unit: what is shared is good, and so is the unit's first frame.
use Rattle.std.proofs.Common.{◌≡◌, ◌∙◌, ℕ, Bool, true, false, List, [], ◌∷◌, Option, Some, None, inl, inr, refl, sym, ap, subst}
use Rattle.std.proofs.lemmas.Bool.{eqb-true}
use Rattle.std.proofs.lemmas.List.Elements.{All-head, All-tail}
use Rattle.std.specs.Prelude.{◌⊎◌, ◌&&◌, ◌==◌, All, if◌then◌else◌, option_map, slice_get}
use Rattle.value_model.specs.declared.filler.Filler.{Filler}
use Rattle.value_model.specs.declared.value.Value.{Value}
use Rattle.op_model.specs.Common.{AllEnded, AnyGiven, Common, Message, Need, Received, Role, Strand}
use Rattle.op_model.specs.Strands.{end_in, is_success, settled}
use Rattle.machine_model.specs.Runs.{Running}
use Rattle.machine_model.proofs.Once.{some-same}
use Rattle.stack_code.specs.declared.code.Code.{Code}
use Rattle.stack_code.specs.CodeMachine.{Standing, codes, entry}
use Rattle.stack_code.specs.Frames.{IsLowest, TopFits}
use Rattle.stack_code.specs.Good.{GoodCommon, IsLater, IsToRun, NearlyCommon, NeedIsThere, WorkerStays}
use Rattle.stack_code.specs.Tables.{IsInitialiser}
use Rattle.stack_code.specs.Values.{AllFit, GoodHeap}
use Rattle.stack_code.specs.WellTyped.{WellTyped}
use Rattle.code_keeping.proofs.Beginning.{frame-fits}
use Rattle.code_keeping.proofs.Later.{activation-later, end-later, strand-later, to-run-later}
use Rattle.code_keeping.proofs.Lists.{some-there, some-to}
use Rattle.code_keeping.proofs.Settling.{settling-keeps}
use Rattle.code_keeping.proofs.Staying.{all-later, later-so, same-calls, same-strands}
use Rattle.code_keeping_talk.specs.Laws.{ContinuingKeeps}
use Rattle.code_keeping_talk.proofs.Following.{later-follows}

-- what comes next is the rest of what strand 0 has to run
next-of : (b : Bool) (run : List (ℕ × List Value)) (u : ℕ × List Value) (us : List (ℕ × List Value)) → (if b then run else []) ≡ u ∷ us → (b ≡ true) × (run ≡ u ∷ us)
next-of true run u us e = (refl, e)
next-of false run u us e = absurd (let q : ⊥ = cc in q)

first-true : (a b : Bool) → (a && b) ≡ true → a ≡ true
first-true true b e = refl
first-true false b e = e

module _ (code : Code) (fillers : ℕ → List Filler) (t : WellTyped code) (c : Common) (u : ℕ × List Value) (us : List (ℕ × List Value)) (good : NearlyCommon code c Running) (runs : c.to_run ≡ u ∷ us) (zero-is : c.running ≡ 0) where
  abbrev rest : Common
  rest = record c { to_run = us }

  abbrev d : Common
  d = settled rest

  rest-later : (q : Option Role) → IsLater q c rest
  rest-later q = later-so q c rest refl (same-strands c) (same-calls c) (stay q)
    where
      stay : (q : Option Role) → WorkerStays q c rest
      stay (Some r) = ((λ w. (refl, refl)), refl)
      stay None = tt

  all-run : All (IsToRun code c) (u ∷ us)
  all-run = subst (λ rs. All (IsToRun code c) rs) runs good.to_run

  its : IsToRun code c u
  its = All-head (IsToRun code c) u us all-run

  heap-so : GoodHeap code c → GoodHeap code rest
  heap-so h = record { mutable = h.mutable; immutable = h.immutable; members = h.members; functions = h.functions; valid = h.valid; closed = h.closed; short = h.short; apart = h.apart }

  need-so : (need : Need) → NeedIsThere code c need → NeedIsThere code rest need
  need-so (Message a from to) m = m
  need-so (Received a from to count) m = m
  need-so (AllEnded ns) m = m
  need-so (AnyGiven ns) m = m

  rest-good : NearlyCommon code rest Running
  rest-good =
      record {
        heap = heap-so good.heap;
        variables = good.variables;
        strands = λ n s e. let fits = good.strands n s e in record { end = end-later code c rest (rest-later None) n s.unit (end_in s.status) fits.end; need = λ need m. need-so need (fits.need need m); before = fits.before; taken = fits.taken };
        activations = λ a x e. activation-later code c rest (rest-later None) a x (good.activations a x e);
        to_run = to-run-later code c rest (rest-later None) us (All-tail (IsToRun code c) u us all-run);
        ready = record { active = good.ready.active; once = good.ready.once; known = good.ready.known; running = good.ready.running; there = good.ready.there };
        main = good.main;
      }

  settles : GoodCommon code d Running × ((q : Option Role) → IsLater q rest d)
  settles = settling-keeps code rest Running rest-good

  later : (q : Option Role) → IsLater q c d
  later q = later-follows q c rest d (rest-later q) (settles.1 q)

  begins-well : (k : Standing) → (codes fillers code).enter u.0 u.1 ≡ Some k → TopFits code d (record { unit = u.0; role = None; control = k })
  begins-well k e =
      let (g, eg, fit) = some-there (λ x. AllFit code c u.1 x.params) (slice_get code.units u.0) its.1 in
      let is : entry u.1 g ≡ k = some-same (entry u.1 g) k (sym (ap (λ o. option_map (entry u.1) o) eg) ∙ e) in
      subst (λ k. TopFits code d (record { unit = u.0; role = None; control = k })) is (frame-fits code t d u.0 u.1 g eg its.0 (all-later code None c d (later None) u.1 g.params fit))

  lowest : IsLowest code d c.running u.0
  lowest = subst (λ n. IsLowest code d n u.0) (sym zero-is) (by its.0)
    where
      by : IsInitialiser code u.0 ⊎ (u.0 ≡ code.start) → IsLowest code d 0 u.0
      by (inl initial) = inr (refl, initial)
      by (inr main) = inl (strand-later code c d (later None) 0 (λ unit role. unit ≡ u.0) (some-to (λ (s : Strand). (s.unit ≡ code.start) × (s.role ≡ None)) (λ (s : Strand). s.unit ≡ u.0) (slice_get c.strands 0) (λ s h. h.0 ∙ sym main) good.main))

pub continuing-keeps : ContinuingKeeps
continuing-keeps code fillers c end u us t good e =
    let (b, runs) = next-of ((c.running == 0) && is_success (Some end)) c.to_run u us e in
    let zero-is = eqb-true c.running 0 (first-true (c.running == 0) (is_success (Some end)) b) in
    ((settles code fillers t c u us good runs zero-is).0, later code fillers t c u us good runs zero-is, begins-well code fillers t c u us good runs zero-is, lowest code fillers t c u us good runs zero-is)
