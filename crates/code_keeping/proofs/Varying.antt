-- Ticks and module variables: what is shared stays good where only they change.
use Rattle.std.proofs.Common.{◌≡◌, ◌<◌, ◌∙◌, ℕ, zero, suc, Bool, true, false, List, [], ◌∷◌, Option, Some, None, length, map, refl, sym, subst, ap, arith}
use Rattle.std.specs.Prelude.{All, IsSomeAnd, IsTrue, if◌then◌else◌, nat_le, option_map, option_to_list, slice_get, slice_set}
use Rattle.std.specs.List.{AllZip}
use Rattle.type_model.specs.declared.basic.SemType.{SemType}
use Rattle.type_model.specs.Membership.{In}
use Rattle.operations.specs.declared.operation.Operation.{Operation}
use Rattle.operations.specs.declared.operation.Operation.TheVariants as op
use Rattle.operations.specs.Rows.{IsWithin, ResultHas}
use Rattle.value_model.specs.declared.filler.Filler.{Filler}
use Rattle.value_model.specs.declared.panics.PanicName.TheVariants.{NotInitialised, StackOverflow}
use Rattle.value_model.specs.declared.value.Value.{Value}
use Rattle.value_model.specs.Heap.{values_of}
use Rattle.value_model.specs.Meaning.{Answers}
use Rattle.op_model.specs.CallRows.{held_after, is_initialiser, ticks}
use Rattle.op_model.specs.Common.{AllEnded, AnyGiven, Caller, Common, Message, Need, Received, Role}
use Rattle.op_model.specs.Effects.{Beyond, Effect, Enters, Fails, Gives, Leaves, NoTick, Spawns, Waits, lifted}
use Rattle.op_model.specs.Limits.{most_frames}
use Rattle.op_model.specs.Performs.{Performs}
use Rattle.op_model.specs.Rows.{found, gives, panics}
use Rattle.op_model.specs.Strands.{end_in, met}
use Rattle.machine_model.specs.Runs.{Phase, Running}
use Rattle.machine_model.proofs.Once.{some-same}
use Rattle.stack_code.specs.declared.code.Code.{Code}
use Rattle.stack_code.specs.declared.code.Unit.{Unit as CodeUnit}
use Rattle.stack_code.specs.CodeMachine.{code_facts}
use Rattle.stack_code.specs.Good.{GoodCommon, IsLater, NearlyCommon, NeedIsThere, RunsOne, WorkerStays}
use Rattle.stack_code.specs.Places.{Station, surroundings}
use Rattle.stack_code.specs.Values.{AllFit, Fits, GoodHeap, HeldFits, IsMade, IsWithinUnit}
use Rattle.stack_code.specs.WellTyped.{WellTyped}
use Rattle.code_keeping.specs.Rows.{EffectTyped}
use Rattle.code_keeping.proofs.Coming.{AllCome, RowHolds, gives-typed}
use Rattle.code_keeping.proofs.Later.{activation-later, end-later, to-run-later}
use Rattle.code_keeping.proofs.Lists.{at-some, of-some, some-there}
use Rattle.code_keeping.proofs.Making.{panic-typed}
use Rattle.code_keeping.proofs.Operands.{none-fit, one-fit}
use Rattle.code_keeping.proofs.Staying.{later-so, same, same-calls, same-strands}

module _ (code : Code) (c : Common) (n : ℕ) (vs : List (Option Value)) where
  abbrev pub changed : Common
  changed = record c { ticks = n; variables = vs }

  pub changed-later : (q : Option Role) → IsLater q c changed
  changed-later q = later-so q c changed refl (same-strands c) (same-calls c) (stay q)
    where
      stay : (q : Option Role) → WorkerStays q c changed
      stay (Some r) = ((λ w. (refl, refl)), refl)
      stay None = tt

  heap-so : GoodHeap code c → GoodHeap code changed
  heap-so h = record { mutable = h.mutable; immutable = h.immutable; members = h.members; functions = h.functions; valid = h.valid; closed = h.closed; short = h.short; apart = h.apart }

  need-so : (need : Need) → NeedIsThere code c need → NeedIsThere code changed need
  need-so (Message a from to) m = m
  need-so (Received a from to count) m = m
  need-so (AllEnded ns) m = m
  need-so (AnyGiven ns) m = m

  met-so : (need : Need) → met changed need ≡ met c need
  met-so (Message a from to) = refl
  met-so (Received a from to count) = refl
  met-so (AllEnded ns) = refl
  met-so (AnyGiven ns) = refl

  running-so : (phase : Phase) → RunsOne code c phase → RunsOne code changed phase
  running-so phase h = h

  pub nearly-so : (phase : Phase) → AllZip (HeldFits code c) vs code.variables → NearlyCommon code c phase → NearlyCommon code changed phase
  nearly-so phase fit good =
      record {
        heap = heap-so good.heap;
        variables = fit;
        strands = λ k s e. let fits = good.strands k s e in record { end = end-later code c changed (changed-later None) k s.unit (end_in s.status) fits.end; need = λ need m. need-so need (fits.need need m); before = fits.before; taken = fits.taken };
        activations = λ a x e. activation-later code c changed (changed-later None) a x (good.activations a x e);
        to_run = to-run-later code c changed (changed-later None) c.to_run good.to_run;
        ready = record { active = good.ready.active; once = good.ready.once; known = good.ready.known; running = running-so phase good.ready.running; there = good.ready.there };
        main = good.main;
      }

  pub good-so : AllZip (HeldFits code c) vs code.variables → GoodCommon code c Running → GoodCommon code changed Running
  good-so fit good = record { nearly = nearly-so Running fit good.nearly; settled = λ k s e need is m. good.settled k s e need is (subst IsTrue (met-so need) m) }

-- ---- ticks

module _ (code : Code) (c : Common) (n : ℕ) (good : GoodCommon code c Running) (result : Option SemType) where
  abbrev d : Common
  d = changed code c n c.variables

  better : GoodCommon code d Running
  better = good-so code c n c.variables good.nearly.variables good

  -- what comes later than the state with one tick less comes later than the state before
  earlier : (q : Option Role) (e : Common) → IsLater q d e → IsLater q c e
  earlier q e l = record { heap = l.heap; closed = l.closed; strands = l.strands; calls = l.calls; worker = stays q l.worker }
    where
      stays : (q : Option Role) → WorkerStays q d e → WorkerStays q c e
      stays (Some r) h = h
      stays None h = h

  back : (effect : Effect) → EffectTyped code d result effect → EffectTyped code c result effect
  back (Gives vs e) (good, keeps, later, fit) = (good, keeps, (λ q. earlier q e (later q)), fit)
  back (Fails v e) (good, keeps, later, error) = (good, keeps, (λ q. earlier q e (later q)), error)
  back (Waits need) h = h
  back (Enters unit args e) h = h
  back (Leaves v) h = h
  back (Spawns ss role vs e) h = h
  back NoTick h = h
  back (Beyond limit) h = h

  spent-typed : (b : Bool) → result ≡ None → EffectTyped code c result (if b then Gives [] d else lifted d (panics c.world StackOverflow))
  spent-typed true none = (better, (refl, refl), changed-later code c n c.variables, subst (λ r. AllFit code d [] (option_to_list r)) (sym none) tt)
  spent-typed false none = back (lifted d (panics d.world StackOverflow)) (panic-typed code d result StackOverflow refl better.nearly)

tick-typed : (code : Code) (c : Common) (result : Option SemType) (depth left : ℕ) → GoodCommon code c Running → result ≡ None → EffectTyped code c result (ticks c depth left)
tick-typed code c result depth zero good none = tt
tick-typed code c result depth (suc n) good none = spent-typed code c n good result (nat_le depth most_frames) none

-- ---- module variables

module _ (code : Code) (c : Common) where
  set-held : (held : List (Option Value)) (types : List SemType) (m : ℕ) (x : Option Value) → AllZip (HeldFits code c) held types → IsSomeAnd (slice_get types m) (λ t. HeldFits code c x t) → AllZip (HeldFits code c) (slice_set held m x) types
  set-held [] [] m x h k = h
  set-held [] (t ∷ types) m x h k = absurd h
  set-held (y ∷ held) [] m x h k = absurd h
  set-held (y ∷ held) (t ∷ types) zero x (h, more) k = (k, more)
  set-held (y ∷ held) (t ∷ types) (suc m) x (h, more) k = (h, set-held held types m x more k)

  held-fits : (held : List (Option Value)) (types : List SemType) (m : ℕ) (x : Option Value) → AllZip (HeldFits code c) held types → slice_get held m ≡ Some x → IsSomeAnd (slice_get types m) (λ t. HeldFits code c x t)
  held-fits [] types m x h e = absurd (let q : ⊥ = cc in q)
  held-fits (y ∷ held) [] m x h e = absurd h
  held-fits (y ∷ held) (t ∷ types) zero x (h, more) e = subst (λ z. HeldFits code c z t) (some-same y x e) h
  held-fits (y ∷ held) (t ∷ types) (suc m) x (h, more) e = held-fits held types m x more e

  held-there : (held : List (Option Value)) (types : List SemType) (m : ℕ) (P : SemType → Type 0) → AllZip (HeldFits code c) held types → IsSomeAnd (slice_get types m) P → (x : Option Value) × (slice_get held m ≡ Some x)
  held-there [] [] m P h k = absurd k
  held-there [] (t ∷ types) m P h k = absurd h
  held-there (y ∷ held) [] m P h k = absurd h
  held-there (y ∷ held) (t ∷ types) zero P h k = (y, refl)
  held-there (y ∷ held) (t ∷ types) (suc m) P (h, more) k = held-there held types m P more k

  -- what a variable has after a store fits
  after-fits : (initialises : Bool) (held : Option Value) (v : Value) (t : SemType) → Fits code c v t → HeldFits code c (held_after initialises held v) t
  after-fits true held v t fits w e = subst (λ z. Fits code c z t) (some-same v w e) fits
  after-fits false (Some x) v t fits w e = subst (λ z. Fits code c z t) (some-same v w e) fits
  after-fits false None v t fits w e = absurd (let q : ⊥ = cc in q)

module _ (fillers : ℕ → List Filler) (natives : Answers) (code : Code) (t : WellTyped code) (u : CodeUnit) (station : Station) where
  abbrev Holds : Operation → Type 0
  Holds o = (c : Common) → RowHolds code fillers natives c (surroundings code u station) o

  pub tick : Holds op.Tick
  tick c operands result vs caller good (none, nothing) fit =
      none-fit code c (λ us. AllCome code c result (Performs (code_facts fillers code) natives op.Tick us caller c)) operands vs none fit
      ((λ effect e. subst (λ x. EffectTyped code c result x) (sym e) (tick-typed code c result caller.depth c.ticks good nothing)), (λ never. never (ticks c caller.depth c.ticks) refl))

  pub load-module : (m : ℕ) → Holds (op.LoadModule m)
  load-module m c operands result vs caller good (none, reads) fit =
      none-fit code c (λ us. AllCome code c result (Performs (code_facts fillers code) natives (op.LoadModule m) us caller c)) operands vs none fit
      (let (x, e) = held-there code c c.variables code.variables m _ good.nearly.variables reads in
      subst (λ o. AllCome code c result (λ effect. IsSomeAnd o (λ held. effect ≡ lifted c (found c.world NotInitialised held)))) (sym e)
      ((λ effect is. subst (λ y. EffectTyped code c result y) (sym is) (by x (held-fits code c c.variables code.variables m x good.nearly.variables e))), (λ never. never (lifted c (found c.world NotInitialised x)) refl)))
    where
      by : (x : Option Value) → IsSomeAnd (slice_get code.variables m) (λ s. HeldFits code c x s) → EffectTyped code c result (lifted c (found c.world NotInitialised x))
      by None h = panic-typed code c result NotInitialised refl good.nearly
      by (Some v) h =
          let (s, e, held) = some-there (λ s. HeldFits code c (Some v) s) (slice_get code.variables m) h in
          let has : ResultHas code.atoms result (λ x. In code.atoms x s) = of-some (λ s. ResultHas code.atoms result (λ x. In code.atoms x s)) (slice_get code.variables m) s e reads in
          let fits = held v refl in
          gives-typed code c good result v (λ x. In code.atoms x s) has fits.1 fits.2

  module _ (m : ℕ) (c : Common) (caller : Caller) (result : Option SemType) (good : GoodCommon code c Running) where
    abbrev new : Value → Option Value → List (Option Value)
    new v held = slice_set c.variables m (held_after (is_initialiser (code_facts fillers code) caller.unit) held v)

    abbrev after : Value → Option Value → Common
    after v held = record c { variables = new v held }

    stored : (a : SemType) (v : Value) → result ≡ None → Fits code c v a → IsSomeAnd (slice_get code.variables m) (λ s. IsWithin code.atoms (λ x. In code.atoms x s) a) → (x : Option Value) → EffectTyped code c result (Gives [] (after v x))
    stored a v nothing f below x =
        let (s, e, within) = some-there (λ s. IsWithin code.atoms (λ x. In code.atoms x s) a) (slice_get code.variables m) below in
        let fits : Fits code c v s = (f.0, f.1, (λ y valid stands. within y (valid, f.2 y valid stands))) in
        let initialises : Bool = is_initialiser (code_facts fillers code) caller.unit in
        let held = set-held code c c.variables code.variables m (held_after initialises x v) good.nearly.variables
        (at-some (λ s. HeldFits code c (held_after initialises x v) s) (slice_get code.variables m) s e (after-fits code c initialises x v s fits)) in
        (good-so code c c.ticks (new v x) held good, (refl, refl), changed-later code c c.ticks (new v x), subst (λ r. AllFit code (after v x) [] (option_to_list r)) (sym nothing) tt)

  pub store-module : (m : ℕ) → Holds (op.StoreModule m)
  store-module m c operands result vs caller good (writes, nothing) fit =
      one-fit code c (λ us. AllCome code c result (Performs (code_facts fillers code) natives (op.StoreModule m) us caller c)) operands vs _ writes fit
      (λ a v below f.
      let (x, e) = held-there code c c.variables code.variables m _ good.nearly.variables below in
      subst (λ o. AllCome code c result (λ effect. IsSomeAnd o (λ held. effect ≡ Gives [] (after m c caller result good v held)))) (sym e)
      ((λ effect is. subst (λ y. EffectTyped code c result y) (sym is) (stored m c caller result good a v nothing f below x)), (λ never. never (Gives [] (after m c caller result good v x)) refl)))
