-- The units for which operations make strands are units of the code.
use Rattle.std.proofs.Common.{◌≡◌, ◌+◌, ◌∙◌, ℕ, zero, suc, true, List, [], ◌∷◌, Option, Some, None, drop, length, map, nat_le, refl, sym, ap, subst, take}
use Rattle.std.proofs.lemmas.List.Elements.{All-cons, All-head, All-nil, All-tail}
use Rattle.std.specs.Prelude.{All, nat_lt, option_map, slice_get, ⊤}
use Rattle.bal_base.specs.declared.fault.LimitKind.TheVariants.{Cells}
use Rattle.bal_base.specs.declared.text.Text.{Text}
use Rattle.operations.specs.declared.operation.Operation.{Operation}
use Rattle.operations.specs.declared.operation.Operation.TheVariants.{Const, Load, Store, Pop, LoadModule, StoreModule, Tick, Add, Subtract, Multiply, Divide, Remainder, Negate, Concat, Less, LessEqual, Not, Equal, Same, MakeList, MakeMapping, MakeError, MakeFunction, GetItem, GetKey, GetChar, GetField, GetOptional, SetItem, SetKey, Test, Cast, Call, CallValue, Library, Return, Panic, Start, StartValue, Workers, Send, Post, Done, Receive, Flush, WaitWorker, WaitFuture, WaitAny, WaitAll}
use Rattle.operations.specs.Uses.{units_called, use_of}
use Rattle.value_model.specs.declared.filler.Filler.{Filler}
use Rattle.value_model.specs.declared.panics.PanicName.TheVariants.{StackOverflow}
use Rattle.value_model.specs.declared.value.Value.{Value}
use Rattle.value_model.specs.declared.value.Value.TheVariants.{Future, Nil}
use Rattle.value_model.specs.Heap.{cells}
use Rattle.value_model.specs.Meaning.{Answers}
use Rattle.value_model.specs.World.{Came, Gave, PassesCells, Threw}
use Rattle.op_model.specs.CallRows.{arguments, checked, starts, starts_workers, ticks, with_arguments, workers_from}
use Rattle.op_model.specs.Common.{AllEnded, AnyGiven, Caller, Common, End, Panicked, Returned, Role}
use Rattle.op_model.specs.Copies.{copy_of, with_copies}
use Rattle.op_model.specs.Effects.{Beyond, Effect, Enters, Fails, Gives, Leaves, NoTick, Spawned, Spawns, Waits, lifted, with_world}
use Rattle.op_model.specs.ProgramFacts.{UnitFacts, WorkerFacts}
use Rattle.op_model.specs.Limits.{most_cells, most_frames, most_strands}
use Rattle.op_model.specs.Messages.{flushes, flushes_end, one_sent, receives_end, receives_from, sends}
use Rattle.op_model.specs.Performs.{Performs}
use Rattle.op_model.specs.Rows.{panics}
use Rattle.op_model.specs.Strands.{channel_at, end_of, met, settled, strand_made, with_channel, worker_end}
use Rattle.op_model.specs.Waits.{Collected, FirstPanic, Results, Target, collects, ends_with, field_names, future_target, gives_chosen, gives_results, is_taken, strands_in, targets, took, waits, waits_all, waits_any, waits_for, worker_target}
use Rattle.machine_model.proofs.Shapes.{in-boolean, in-error, in-function, in-future, in-if, in-int, in-more, in-none, in-one, in-some, in-string, in-structure, in-three, in-two}
use Rattle.stack_code.specs.declared.code.Code.{Code}
use Rattle.stack_code.specs.declared.code.Spawn.{Spawn}
use Rattle.stack_code.specs.declared.code.Unit.{Unit as CodeUnit}
use Rattle.stack_code.specs.CodeMachine.{code_facts, unit_facts}
use Rattle.stack_code.specs.Tables.{CapturesWell, UnitAt}
use Rattle.stack_code.specs.WellTyped.{WellTyped}
use Rattle.code_keeping.proofs.Lists.{at-some, some-there}
use Rattle.code_keeping.proofs.Shapes.{get-map}

module _ (code : Code) where
  abbrev pub IsUnit : ℕ → Type 0
  IsUnit n = UnitAt code n (λ u. ⊤)

  -- each strand that is made is made for a unit of the code
  abbrev pub HasUnits : Effect → Type 0
  HasUnits (Spawns ss role vs d) = All (λ s. IsUnit s.unit) ss
  HasUnits (Gives vs d) = ⊤
  HasUnits (Fails e d) = ⊤
  HasUnits (Waits need) = ⊤
  HasUnits (Enters unit args d) = ⊤
  HasUnits (Leaves v) = ⊤
  HasUnits NoTick = ⊤
  HasUnits (Beyond limit) = ⊤

  lifted-units : (c : Common) (came : Came) → HasUnits (lifted c came)
  lifted-units c (Gave vs w) = tt
  lifted-units c (Threw e w) = tt
  lifted-units c PassesCells = tt

  -- ---- effects that make none

  checked-units : (d : Common) (effect : Effect) → HasUnits effect → HasUnits (checked d effect)
  checked-units d effect h = in-if (nat_le (cells d.world.heap) most_cells) HasUnits effect (Beyond _) (λ b. h) (λ b. tt)

  ticks-units : (c : Common) (depth n : ℕ) → HasUnits (ticks c depth n)
  ticks-units c depth zero = tt
  ticks-units c depth (suc n) =
      in-if (nat_le depth most_frames) HasUnits (Gives [] (record c { ticks = n })) (lifted (record c { ticks = n }) (panics c.world StackOverflow)) (λ b. tt) (λ b. lifted-units (record c { ticks = n }) (panics c.world StackOverflow))

  sends-units : (c : Common) (r : Role) (w : ℕ) (v : Value) (vs : List Value) → HasUnits (sends c r w v vs)
  sends-units c r w v vs =
      let d = with_copies true c.world v in
      let x = one_sent (channel_at c r.activation r.worker w) (copy_of c.world v) in
      in-if (nat_le (cells d.heap) most_cells) HasUnits (Gives vs (settled (with_channel (with_world c d) r.activation r.worker w x))) (Beyond Cells) (λ b. tt) (λ b. tt)

  receives-end : (c : Common) (r : Role) (w : ℕ) (o : Option End) → HasUnits (receives_end c r w o)
  receives-end c r w (Some (Returned v)) = tt
  receives-end c r w (Some (Panicked e)) = tt
  receives-end c r w None = tt

  receives-from : (c : Common) (r : Role) (w : ℕ) (queue : List Value) → HasUnits (receives_from c r w queue)
  receives-from c r w (v ∷ queue) = tt
  receives-from c r w [] = receives-end c r w (worker_end c r.activation w)

  flushes-end : (c : Common) (r : Role) (w sent : ℕ) (o : Option End) → HasUnits (flushes_end c r w sent o)
  flushes-end c r w sent (Some (Returned v)) = tt
  flushes-end c r w sent (Some (Panicked e)) = tt
  flushes-end c r w sent None = tt

  flushes-units : (c : Common) (r : Role) (w : ℕ) → HasUnits (flushes c r w)
  flushes-units c r w =
      let x = channel_at c r.activation r.worker w in
      in-if (nat_le x.sent x.received) HasUnits (Gives (Nil ∷ []) c) (flushes_end c r w x.sent (worker_end c r.activation w)) (λ b. tt) (λ b. flushes-end c r w x.sent (worker_end c r.activation w))

  ends-units : (c : Common) (end : End) → HasUnits (ends_with c end)
  ends-units c (Returned v) = tt
  ends-units c (Panicked e) = tt

  waits-for : (c : Common) (t : Target) (o : Option End) → HasUnits (waits_for c t o)
  waits-for c t (Some end) = in-if (is_taken c t) HasUnits _ _ (λ b. lifted-units c _) (λ b. ends-units (took c t) end)
  waits-for c t None = tt

  waits-units : (c : Common) (t : Target) → HasUnits (waits c t)
  waits-units c t = waits-for c t (end_of c t.strand)

  chosen-units : (c : Common) (o : Option Target) → HasUnits (gives_chosen c o)
  chosen-units c (Some t) = waits-units c t
  chosen-units c None = tt

  any-units : (c : Common) (ts : List Target) → HasUnits (waits_any c ts)
  any-units c ts = in-if (met c (AnyGiven (strands_in ts))) HasUnits _ _ (λ b. chosen-units c _) (λ b. tt)

  results-units : (atom : ℕ) (names : List Text) (x : Collected) → HasUnits (gives_results atom names x)
  results-units atom names (Results vs c) = lifted-units c _
  results-units atom names (FirstPanic e c) = tt

  all-units : (c : Common) (atom : ℕ) (names : List Text) (ts : List Target) → HasUnits (waits_all c atom names ts)
  all-units c atom names ts = in-if (met c (AllEnded (strands_in ts))) HasUnits _ _ (λ b. results-units atom names (collects ts c)) (λ b. tt)

  -- ---- and those that make some

  starts-units : (c : Common) (role : Option Role) (unit : ℕ) (args : List Value) → IsUnit unit → HasUnits (starts c role unit args)
  starts-units c role unit args is =
      in-if (nat_lt (length c.strands) most_strands) HasUnits (Spawns (record { unit = unit; args = args; role = None } ∷ []) role (Future (length c.strands) unit ∷ []) (strand_made unit None c)) (Beyond _)
      (λ b. All-cons (λ (s : Spawned). IsUnit s.unit) (record { unit = unit; args = args; role = None }) [] is (All-nil _)) (λ b. tt)

  -- a unit of the facts is one of the code
  of-facts : (fillers : ℕ → List Filler) (n : ℕ) (u : UnitFacts) → slice_get (code_facts fillers code).units n ≡ Some u → (x : CodeUnit) × (slice_get code.units n ≡ Some x) × (unit_facts x ≡ u)
  of-facts fillers n u e = by (slice_get code.units n) refl
    where
      by : (o : Option CodeUnit) → slice_get code.units n ≡ o → (x : CodeUnit) × (slice_get code.units n ≡ Some x) × (unit_facts x ≡ u)
      by (Some x) ex = (x, ex, let k : Some (unit_facts x) ≡ Some u = sym (get-map unit_facts code.units n ∙ ap (option_map unit_facts) ex) ∙ e in (let q : unit_facts x ≡ u = cc in q))
      by None ex = absurd (let k : None ≡ Some u = sym (get-map unit_facts code.units n ∙ ap (option_map unit_facts) ex) ∙ e in (let q : ⊥ = cc in q))

  unit-of : (fillers : ℕ → List Filler) (n : ℕ) (u : UnitFacts) → slice_get (code_facts fillers code).units n ≡ Some u → IsUnit n
  unit-of fillers n u e = let (x, ex, same) = of-facts fillers n u e in at-some (λ u. ⊤) (slice_get code.units n) x ex tt

  spawned-units : (a w : ℕ) (ws : List WorkerFacts) (vs : List Value) → All (λ w. IsUnit w.unit) ws → All (λ s. IsUnit s.unit) (workers_from a w ws vs)
  spawned-units a w [] vs h = All-nil _
  spawned-units a w (x ∷ xs) vs h =
      All-cons (λ (s : Spawned). IsUnit s.unit) (record { unit = x.unit; args = take (length x.captured) vs; role = Some (record { activation = a; worker = w }) }) (workers_from a (w + 1) xs (drop (length x.captured) vs))
      (All-head (λ (w : WorkerFacts). IsUnit w.unit) x xs h) (spawned-units a (w + 1) xs (drop (length x.captured) vs) (All-tail (λ (w : WorkerFacts). IsUnit w.unit) x xs h))

  workers-units : (u : CodeUnit) (ws : List Spawn) → All (CapturesWell code u) ws → All (λ w. IsUnit w.unit) (map (λ (w : Spawn). let f : WorkerFacts = record { unit = w.unit; captured = w.slots } in f) ws)
  workers-units u [] h = All-nil _
  workers-units u (w ∷ ws) h =
      All-cons (λ (w : WorkerFacts). IsUnit w.unit) (record { unit = w.unit; captured = w.slots }) (map (λ (w : Spawn). let f : WorkerFacts = record { unit = w.unit; captured = w.slots } in f) ws)
      (let (x, ex, fits) = some-there _ (slice_get code.units w.unit) (All-head (CapturesWell code u) w ws h) in at-some (λ u. ⊤) (slice_get code.units w.unit) x ex tt) (workers-units u ws (All-tail (CapturesWell code u) w ws h))

  crew-units : (t : WellTyped code) (fillers : ℕ → List Filler) (c : Common) (unit : ℕ) (u : UnitFacts) (vs : List Value) → slice_get (code_facts fillers code).units unit ≡ Some u → HasUnits (starts_workers c unit u.workers vs)
  crew-units t fillers c unit u vs e =
      let (x, ex, same) = of-facts fillers unit u e in
      in-if (nat_le (length c.strands + length u.workers) most_strands) HasUnits _ _
      (λ b. spawned-units (length c.activations) 1 u.workers vs (subst (λ y. All (λ (w : WorkerFacts). IsUnit w.unit) y.workers) same (workers-units x x.workers (t.fields.spawns unit x ex)))) (λ b. tt)

-- ---- all operations

module _ (code : Code) (t : WellTyped code) (fillers : ℕ → List Filler) (natives : Answers) (vs : List Value) (caller : Caller) (c : Common) (effect : Effect) where
  abbrev Has : Type 0
  Has = HasUnits code effect

  so : (other : Effect) → effect ≡ other → HasUnits code other → Has
  so other e h = subst (HasUnits code) (sym e) h

  only : (came : Came) → effect ≡ lifted c came → Has
  only came e = so (lifted c came) e (lifted-units code c came)

  world : {P : Came → Type 0} → (came : Came) × P came × (effect ≡ lifted c came) → Has
  world (came, p, e) = only came e

  pub has-units : (op : Operation) → All (IsUnit code) (units_called (use_of op)) → Performs (code_facts fillers code) natives op vs caller c effect → Has
  has-units (Const k) called h = absurd h
  has-units (Load slot) called h = in-none vs h (λ none e. only _ e)
  has-units (Store slot) called h = absurd h
  has-units Pop called h = absurd h
  has-units (LoadModule m) called h = in-none vs h (λ none k. in-some (slice_get c.variables m) k (λ held is e. only _ e))
  has-units (StoreModule m) called h = in-one vs h (λ v is k. in-some (slice_get c.variables m) k (λ held there e. so _ e tt))
  has-units Tick called h = in-none vs h (λ none e. so _ e (ticks-units code c caller.depth c.ticks))
  has-units Add called h = in-two vs h (λ a b k. in-int a k (λ x k. in-int b k (λ y k. world k)))
  has-units Subtract called h = in-two vs h (λ a b k. in-int a k (λ x k. in-int b k (λ y k. world k)))
  has-units Multiply called h = in-two vs h (λ a b k. in-int a k (λ x k. in-int b k (λ y k. world k)))
  has-units Divide called h = in-two vs h (λ a b k. in-int a k (λ x k. in-int b k (λ y k. world k)))
  has-units Remainder called h = in-two vs h (λ a b k. in-int a k (λ x k. in-int b k (λ y k. world k)))
  has-units Negate called h = in-one vs h (λ v is k. in-int v k (λ x k. world k))
  has-units Concat called h = in-two vs h (λ a b k. in-string a k (λ s k. in-string b k (λ t k. world k)))
  has-units Less called h = in-two vs h (λ a b k. world k)
  has-units LessEqual called h = in-two vs h (λ a b k. world k)
  has-units Not called h = in-one vs h (λ v is k. in-boolean v k (λ b e. so _ e tt))
  has-units Equal called h = in-two vs h (λ a b k. world k)
  has-units Same called h = in-two vs h (λ a b k. world k)
  has-units (Test s) called h = in-one vs h (λ v is k. world k)
  has-units (Cast s) called h = in-one vs h (λ v is k. world k)
  has-units (MakeList atom immutable count) called e = only _ e
  has-units (MakeMapping atom immutable count) called h = world h
  has-units (MakeError count) called h = in-more vs h (λ m more k. in-string m k (λ message k. in-more more k (λ cause details k. world k)))
  has-units (MakeFunction unit count) called e = only _ e
  has-units GetItem called h = in-two vs h (λ l i k. in-structure l k (λ n k. in-int i k (λ x k. world k)))
  has-units GetKey called h = in-two vs h (λ m k h. in-structure m h (λ n h. in-string k h (λ key h. world h)))
  has-units GetChar called h = in-two vs h (λ s i k. in-string s k (λ t k. in-int i k (λ x e. only _ e)))
  has-units (GetField name) called h = in-one vs h (λ v is k. in-structure v k (λ n k. world k))
  has-units (GetOptional name) called h = in-one vs h (λ v is k. world k)
  has-units SetItem called h = in-three vs h (λ l i v k. in-structure l k (λ n k. in-int i k (λ x k. world k)))
  has-units SetKey called h = in-three vs h (λ m k v h. in-structure m h (λ n h. in-string k h (λ key h. world h)))
  has-units (Call unit count) called e = so _ e tt
  has-units (CallValue count) called h =
      in-more vs h (λ f args k. in-function f k (λ n k. in-some (slice_get c.world.heap.functions n) k (λ o there k. in-some (slice_get (code_facts fillers code).units o.unit) k (λ u is e.
      so _ e (checked-units code (with_arguments c u args) (Enters o.unit (arguments c o u args) (with_arguments c u args)) tt)))))
  has-units (Library call atom count) called h = world h
  has-units Return called h = in-one vs h (λ v is e. so _ e tt)
  has-units Panic called h = in-one vs h (λ v is k. in-error v k (λ n e. so _ e tt))
  has-units (Start unit count) called e = so _ e (starts-units code c caller.role unit vs (All-head (IsUnit code) unit [] called))
  has-units (StartValue count) called h =
      in-more vs h (λ f args k. in-function f k (λ n k. in-some (slice_get c.world.heap.functions n) k (λ o there k. in-some (slice_get (code_facts fillers code).units o.unit) k (λ u is e.
      let d = with_arguments c u args in
      so _ e (checked-units code d (starts d caller.role o.unit (arguments c o u args)) (starts-units code d caller.role o.unit (arguments c o u args) (unit-of code fillers o.unit u is)))))))
  has-units Workers called h = in-some (slice_get (code_facts fillers code).units caller.unit) h (λ u is e. so _ e (crew-units code t fillers c caller.unit u vs is))
  has-units (Send w) called h = in-one vs h (λ v is k. in-some caller.role k (λ r role e. so _ e (sends-units code c r w v (Nil ∷ []))))
  has-units (Post w) called h = in-one vs h (λ v is k. in-some caller.role k (λ r role e. so _ e (sends-units code c r w v [])))
  has-units (Done w) called h = in-none vs h (λ none k. in-some caller.role k (λ r role e. so _ e (flushes-units code c r w)))
  has-units (Receive w) called h = in-none vs h (λ none k. in-some caller.role k (λ r role e. so _ e (receives-from code c r w (channel_at c r.activation w r.worker).queue)))
  has-units (Flush w) called h = in-none vs h (λ none k. in-some caller.role k (λ r role e. so _ e (flushes-units code c r w)))
  has-units (WaitWorker w) called h = in-none vs h (λ none k. in-some caller.role k (λ r role k. in-some (worker_target c r w) k (λ t is e. so _ e (waits-units code c t))))
  has-units WaitFuture called h = in-one vs h (λ f is k. in-future f k (λ n unit same e. so _ e (waits-units code c (future_target n))))
  has-units (WaitAny names) called h = in-some (targets c caller.role names vs) h (λ ts is e. so _ e (any-units code c ts))
  has-units (WaitAll atom names) called h = in-some (slice_get (code_facts fillers code).atoms atom) h (λ d there k. in-some (targets c caller.role names vs) k (λ ts is e. so _ e (all-units code c atom (field_names d) ts)))
