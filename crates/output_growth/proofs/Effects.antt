-- No operation takes back what was written, where no call of the natives does.
use Rattle.std.proofs.Common.{◌≡◌, ◌++◌, ◌+◌, ℕ, zero, suc, Bool, true, List, [], ◌∷◌, Option, Some, None, length, sym, subst}
use Rattle.std.specs.Prelude.{⊤, ◌+ℤ◌, ◌-ℤ◌, ◌*ℤ◌, ◌≤ℤ◌, ◌<ℤ◌, neg_ℤ, filter, nat_le, nat_lt, not, option_map, slice_get}
use Rattle.bal_base.specs.declared.fault.LimitKind.TheVariants.{Cells, Strands}
use Rattle.bal_base.specs.declared.text.Text.{Text}
use Rattle.bal_io.specs.Content.{IsPrefixOf}
use Rattle.operations.specs.LibraryNumbers.{number_of}
use Rattle.operations.specs.declared.operation.Operation.{Operation}
use Rattle.operations.specs.declared.operation.Operation.TheVariants.{Const, Load, Store, Pop, LoadModule, StoreModule, Tick, Add, Subtract, Multiply, Divide, Remainder, Negate, Concat, Less, LessEqual, Not, Equal, Same, MakeList, MakeMapping, MakeError, MakeFunction, GetItem, GetKey, GetChar, GetField, GetOptional, SetItem, SetKey, Test, Cast, Call, CallValue, Library, Return, Panic, Start, StartValue, Workers, Send, Post, Done, Receive, Flush, WaitWorker, WaitFuture, WaitAny, WaitAll}
use Rattle.value_model.specs.declared.panics.PanicName.TheVariants.{IndexOutOfRange, NotInitialised, StackOverflow}
use Rattle.value_model.specs.declared.value.Value.{Value}
use Rattle.value_model.specs.declared.value.Value.TheVariants.{Bool as Truth, Future, Nil, Str, Struct}
use Rattle.value_model.specs.Heap.{Items, cells}
use Rattle.value_model.specs.Meaning.{Answers}
use Rattle.value_model.specs.PanicName.{future_taken}
use Rattle.value_model.specs.Stands.{Belongs}
use Rattle.value_model.specs.World.{Came, Gave, PassesCells, Threw, World}
use Rattle.op_model.specs.CallRows.{arguments, checked, new_activation, starts, starts_workers, strands_made, ticks, with_arguments, with_rest, workers_from}
use Rattle.op_model.specs.Common.{AllEnded, AnyGiven, Caller, Common, End, Panicked, Returned, Role}
use Rattle.op_model.specs.Copies.{copy_of, with_copies}
use Rattle.op_model.specs.Effects.{Beyond, Effect, Enters, Fails, Gives, Leaves, NoTick, Spawned, Spawns, Waits, lifted, with_world}
use Rattle.op_model.specs.Equality.{AreEqual}
use Rattle.op_model.specs.ProgramFacts.{ProgramFacts, WorkerFacts, own_types}
use Rattle.op_model.specs.Limits.{most_cells, most_frames, most_strands}
use Rattle.op_model.specs.Messages.{flushes, flushes_end, one_sent, receives_end, receives_from, sends}
use Rattle.op_model.specs.Performs.{Performs, atom_number}
use Rattle.op_model.specs.Rows.{found, gives, gives_error, new_structure, next_structure, panics, within}
use Rattle.op_model.specs.Strands.{channel_at, end_of, has_success, met, settled, strand_at, strand_made, with_channel, with_strand, worker_end}
use Rattle.op_model.specs.StructureRows.{at_place, makes_function, makes_list, reads_char}
use Rattle.op_model.specs.ValueRows.{IsBefore, IsNotBehind}
use Rattle.op_model.specs.Waits.{Collected, FirstPanic, Results, Target, behind, chosen, collects, collects_end, ends_with, field_names, future_target, gives_chosen, gives_end, gives_results, is_taken, strands_in, targets, took, waits, waits_all, waits_any, waits_for, with_results, worker_target}
use Rattle.machine_model.proofs.Shapes.{in-boolean, in-error, in-function, in-future, in-if, in-int, in-more, in-none, in-one, in-some, in-string, in-structure, in-three, in-two}
use Rattle.output_growth.specs.Growth.{AnswersGrow, CameBegins}
use Rattle.output_growth.proofs.Rows.{Begins, all-of, casts-begins, compare-begins, divides-begins, error-begins, error-made-begins, field-read-begins, found-begins, function-begins, int-begins, item-read-begins, item-set-begins, key-read-begins, key-set-begins, mapping-made-begins, optional-read-begins, panic-begins, remains-begins, structure-begins, tells-begins, text-begins, within-begins}

abbrev pub EffectBegins : List ℕ → Effect → Type 0
EffectBegins o (Gives vs c) = IsPrefixOf o c.world.output
EffectBegins o (Fails e c) = IsPrefixOf o c.world.output
EffectBegins o (Waits need) = ⊤
EffectBegins o (Enters unit args c) = IsPrefixOf o c.world.output
EffectBegins o (Leaves v) = ⊤
EffectBegins o (Spawns ss role vs c) = IsPrefixOf o c.world.output
EffectBegins o NoTick = ⊤
EffectBegins o (Beyond limit) = ⊤

module _ (o : List ℕ) where
  lifted-begins : (c : Common) (came : Came) → CameBegins o came → EffectBegins o (lifted c came)
  lifted-begins c (Gave vs w) h = h
  lifted-begins c (Threw e w) h = h
  lifted-begins c PassesCells h = tt

  only : (c : Common) (came : Came) (effect : Effect) → CameBegins o came → effect ≡ lifted c came → EffectBegins o effect
  only c came effect h e = subst (EffectBegins o) (sym e) (lifted-begins c came h)

  on-world : (c : Common) {P : Came → Type 0} (effect : Effect) → Begins o P → (came : Came) × P came × (effect ≡ lifted c came) → EffectBegins o effect
  on-world c effect h (came, p, e) = only c came effect (h came p) e

  so : (effect other : Effect) → effect ≡ other → EffectBegins o other → EffectBegins o effect
  so effect other e h = subst (EffectBegins o) (sym e) h

  -- ---- calls and strands

  rest-begins : (rest : Option ℕ) (params : ℕ) (w : World) (args : List Value) → IsPrefixOf o w.output → IsPrefixOf o (with_rest rest params w args).output
  rest-begins None params w args h = h
  rest-begins (Some atom) params w args h = h

  checked-begins : (d : Common) (effect : Effect) → EffectBegins o effect → EffectBegins o (checked d effect)
  checked-begins d effect h = in-if (nat_le (cells d.world.heap) most_cells) (EffectBegins o) effect (Beyond Cells) (λ b. h) (λ b. tt)

  starts-begin : (d : Common) (role : Option Role) (unit : ℕ) (args : List Value) → IsPrefixOf o d.world.output → EffectBegins o (starts d role unit args)
  starts-begin d role unit args h =
      in-if (nat_lt (length d.strands) most_strands) (EffectBegins o)
      (Spawns (record { unit = unit; args = args; role = None } ∷ []) role (Future (length d.strands) unit ∷ []) (strand_made unit None d)) (Beyond Strands) (λ b. h) (λ b. tt)

  made-begin : (ss : List Spawned) (c : Common) → IsPrefixOf o c.world.output → IsPrefixOf o (strands_made ss c).world.output
  made-begin [] c h = h
  made-begin (s ∷ ss) c h = made-begin ss (strand_made s.unit s.role c) h

  module _ (c : Common) (h : IsPrefixOf o c.world.output) where
    ticks-begin : (depth n : ℕ) → EffectBegins o (ticks c depth n)
    ticks-begin depth zero = tt
    ticks-begin depth (suc n) =
        let d : Common = record c { ticks = n } in
        in-if (nat_le depth most_frames) (EffectBegins o) (Gives [] d) (lifted d (panics c.world StackOverflow)) (λ b. h) (λ b. lifted-begins d (panics c.world StackOverflow) (panic-begins o c.world h StackOverflow))

    workers-begin : (unit : ℕ) (workers : List WorkerFacts) (vs : List Value) → EffectBegins o (starts_workers c unit workers vs)
    workers-begin unit workers vs =
        let a = length c.activations in
        let ss = workers_from a 1 workers vs in
        let d : Common = record c { activations = c.activations ++ new_activation c unit (length workers) ∷ [] } in
        in-if (nat_le (length c.strands + length workers) most_strands) (EffectBegins o) (Spawns ss (Some (record { activation = a; worker = 0 })) [] (strands_made ss d)) (Beyond Strands) (λ b. made-begin ss d h) (λ b. tt)

    -- ---- messages

    sends-begin : (r : Role) (to : ℕ) (v : Value) (ws : List Value) → EffectBegins o (sends c r to v ws)
    sends-begin r to v ws =
        let w = with_copies Bool.true c.world v in
        let x = one_sent (channel_at c r.activation r.worker to) (copy_of c.world v) in
        in-if (nat_le (cells w.heap) most_cells) (EffectBegins o) (Gives ws (settled (with_channel (with_world c w) r.activation r.worker to x))) (Beyond Cells) (λ b. h) (λ b. tt)

    received-end-begins : (r : Role) (from : ℕ) (end : Option End) → EffectBegins o (receives_end c r from end)
    received-end-begins r from (Some (Returned v)) = h
    received-end-begins r from (Some (Panicked e)) = h
    received-end-begins r from None = tt

    received-begins : (r : Role) (from : ℕ) (queue : List Value) → EffectBegins o (receives_from c r from queue)
    received-begins r from (v ∷ queue) = h
    received-begins r from [] = received-end-begins r from (worker_end c r.activation from)

    flushed-end-begins : (r : Role) (to sent : ℕ) (end : Option End) → EffectBegins o (flushes_end c r to sent end)
    flushed-end-begins r to sent (Some (Returned v)) = h
    flushed-end-begins r to sent (Some (Panicked e)) = h
    flushed-end-begins r to sent None = tt

    flushes-begin : (r : Role) (to : ℕ) → EffectBegins o (flushes c r to)
    flushes-begin r to =
        let x = channel_at c r.activation r.worker to in
        in-if (nat_le x.sent x.received) (EffectBegins o) (Gives (Nil ∷ []) c) (flushes_end c r to x.sent (worker_end c r.activation to)) (λ b. h) (λ b. flushed-end-begins r to x.sent (worker_end c r.activation to))

  -- ---- waits

  took-begins : (c : Common) (t : Target) → IsPrefixOf o c.world.output → IsPrefixOf o (took c t).world.output
  took-begins c t h =
      in-if t.is_worker (λ (d : Common). IsPrefixOf o d.world.output) c
      (with_strand c t.strand (record { unit = (strand_at c t.strand).unit; role = (strand_at c t.strand).role; status = (strand_at c t.strand).status; taken = true })) (λ b. h) (λ b. h)

  ended-begins : (c : Common) (end : End) → IsPrefixOf o c.world.output → EffectBegins o (ends_with c end)
  ended-begins c (Returned v) h = h
  ended-begins c (Panicked e) h = h

  end-given-begins : (c : Common) (t : Target) (end : End) → IsPrefixOf o c.world.output → EffectBegins o (gives_end c t end)
  end-given-begins c t end h =
      in-if (is_taken c t) (EffectBegins o) (lifted c (gives_error c.world future_taken)) (ends_with (took c t) end) (λ b. lifted-begins c (gives_error c.world future_taken) (error-begins o c.world h future_taken)) (λ b. ended-begins (took c t) end (took-begins c t h))

  waits-for-begins : (c : Common) (t : Target) (end : Option End) → IsPrefixOf o c.world.output → EffectBegins o (waits_for c t end)
  waits-for-begins c t (Some end) h = end-given-begins c t end h
  waits-for-begins c t None h = tt

  waits-begin : (c : Common) (t : Target) → IsPrefixOf o c.world.output → EffectBegins o (waits c t)
  waits-begin c t h = waits-for-begins c t (end_of c t.strand) h

  chosen-begins : (c : Common) (t : Option Target) → IsPrefixOf o c.world.output → EffectBegins o (gives_chosen c t)
  chosen-begins c (Some t) h = waits-begin c t h
  chosen-begins c None h = tt

  any-begins : (c : Common) (ts : List Target) → IsPrefixOf o c.world.output → EffectBegins o (waits_any c ts)
  any-begins c ts h =
      let t = chosen c (filter (λ t. has_success c t.strand) ts) ts in
      in-if (met c (AnyGiven (strands_in ts))) (EffectBegins o) (gives_chosen c t) (Waits (AnyGiven (strands_in ts))) (λ b. chosen-begins c t h) (λ b. tt)

  abbrev CollectedBegins : Collected → Type 0
  CollectedBegins (Results vs c) = IsPrefixOf o c.world.output
  CollectedBegins (FirstPanic e c) = IsPrefixOf o c.world.output

  behind-begins : (v : Option Value) (x : Collected) → CollectedBegins x → CollectedBegins (behind v x)
  behind-begins v (Results vs c) h = h
  behind-begins v (FirstPanic e c) h = h

  collects-end-begins : (more : Common → Collected) → ((d : Common) → IsPrefixOf o d.world.output → CollectedBegins (more d)) → (c : Common) (t : Target) (end : Option End) → IsPrefixOf o c.world.output → CollectedBegins (collects_end more c t end)
  collects-end-begins more next c t (Some (Returned v)) h =
      in-if (is_taken c t) CollectedBegins (behind None (more c)) (behind (Some v) (more (took c t))) (λ b. behind-begins None (more c) (next c h)) (λ b. behind-begins (Some v) (more (took c t)) (next (took c t) (took-begins c t h)))
  collects-end-begins more next c t (Some (Panicked e)) h =
      in-if (is_taken c t) CollectedBegins (behind None (more c)) (FirstPanic e (took c t)) (λ b. behind-begins None (more c) (next c h)) (λ b. took-begins c t h)
  collects-end-begins more next c t None h = behind-begins None (more c) (next c h)

  collects-begin : (ts : List Target) (c : Common) → IsPrefixOf o c.world.output → CollectedBegins (collects ts c)
  collects-begin [] c h = h
  collects-begin (t ∷ ts) c h = collects-end-begins (collects ts) (λ d k. collects-begin ts d k) c t (end_of c t.strand) h

  results-begin : (atom : ℕ) (names : List Text) (x : Collected) → CollectedBegins x → EffectBegins o (gives_results atom names x)
  results-begin atom names (Results vs c) h =
      let given = gives (with_results c.world atom names vs) (Struct (next_structure c.world)) in
      lifted-begins c (within given) (within-begins o given h)
  results-begin atom names (FirstPanic e c) h = h

  all-begins : (c : Common) (atom : ℕ) (names : List Text) (ts : List Target) → IsPrefixOf o c.world.output → EffectBegins o (waits_all c atom names ts)
  all-begins c atom names ts h =
      in-if (met c (AllEnded (strands_in ts))) (EffectBegins o) (gives_results atom names (collects ts c)) (Waits (AllEnded (strands_in ts))) (λ b. results-begin atom names (collects ts c) (collects-begin ts c h)) (λ b. tt)

-- ---- a line for each operation

module _ (facts : ProgramFacts) (natives : Answers) (grow : AnswersGrow natives) (vs : List Value) (caller : Caller) (c : Common) (effect : Effect) where
  abbrev o : List ℕ
  o = c.world.output

  abbrev h : IsPrefixOf c.world.output c.world.output
  h = all-of c.world.output

  one : (came : Came) → CameBegins o came → effect ≡ lifted c came → EffectBegins o effect
  one came begins e = only o c came effect begins e

  this : (other : Effect) → effect ≡ other → EffectBegins o other → EffectBegins o effect
  this other e begins = so o effect other e begins

  pub performs-begins : (op : Operation) → Performs facts natives op vs caller c effect → EffectBegins c.world.output effect
  performs-begins (Const k) e = absurd e
  performs-begins (Load slot) k = in-none vs k (λ none e. one (panics c.world NotInitialised) (panic-begins o c.world h NotInitialised) e)
  performs-begins (Store slot) k = absurd k
  performs-begins Pop k = absurd k
  performs-begins (LoadModule m) k = in-none vs k (λ none k. in-some (slice_get c.variables m) k (λ held is e. one (found c.world NotInitialised held) (found-begins o c.world h NotInitialised held) e))
  performs-begins (StoreModule m) k = in-one vs k (λ v is k. in-some (slice_get c.variables m) k (λ held there e. this _ e h))
  performs-begins Tick k = in-none vs k (λ none e. this _ e (ticks-begin o c h caller.depth c.ticks))
  performs-begins Add k = in-two vs k (λ a b k. in-int a k (λ x k. in-int b k (λ y k. on-world o c effect (int-begins o c.world h (x +ℤ y)) k)))
  performs-begins Subtract k = in-two vs k (λ a b k. in-int a k (λ x k. in-int b k (λ y k. on-world o c effect (int-begins o c.world h (x -ℤ y)) k)))
  performs-begins Multiply k = in-two vs k (λ a b k. in-int a k (λ x k. in-int b k (λ y k. on-world o c effect (int-begins o c.world h (x *ℤ y)) k)))
  performs-begins Divide k = in-two vs k (λ a b k. in-int a k (λ x k. in-int b k (λ y k. on-world o c effect (divides-begins o c.world h x y) k)))
  performs-begins Remainder k = in-two vs k (λ a b k. in-int a k (λ x k. in-int b k (λ y k. on-world o c effect (remains-begins o c.world h x y) k)))
  performs-begins Negate k = in-one vs k (λ v is k. in-int v k (λ x k. on-world o c effect (int-begins o c.world h (neg_ℤ x)) k))
  performs-begins Concat k = in-two vs k (λ a b k. in-string a k (λ s k. in-string b k (λ t k. on-world o c effect (text-begins o c.world h (s ++ t)) k)))
  performs-begins Less k = in-two vs k (λ a b k. on-world o c effect (compare-begins o c.world h (λ x y. x <ℤ y) IsBefore a b) k)
  performs-begins LessEqual k = in-two vs k (λ a b k. on-world o c effect (compare-begins o c.world h (λ x y. x ≤ℤ y) IsNotBehind a b) k)
  performs-begins Not k = in-one vs k (λ v is k. in-boolean v k (λ b e. one (gives c.world (Truth (not b))) h e))
  performs-begins Equal k = in-two vs k (λ a b k. on-world o c effect (tells-begins o c.world h (AreEqual c.world.heap a b)) k)
  performs-begins Same k = in-two vs k (λ a b k. on-world o c effect (tells-begins o c.world h (a ≡ b)) k)
  performs-begins (Test t) k = in-one vs k (λ v is k. on-world o c effect (tells-begins o c.world h (Belongs (own_types facts) c.world.heap v t)) k)
  performs-begins (Cast t) k = in-one vs k (λ v is k. on-world o c effect (casts-begins o c.world h (own_types facts) t v) k)
  performs-begins (MakeList atom immutable count) e =
      one (makes_list c.world atom immutable vs) (structure-begins o c.world h (new_structure (Some atom) (not immutable) (Items vs))) e
  performs-begins (MakeMapping atom immutable count) k = on-world o c effect (mapping-made-begins o c.world h atom immutable vs) k
  performs-begins (MakeError count) k =
      in-more vs k (λ m more k. in-string m k (λ message k. in-more more k (λ cause details k. on-world o c effect (error-made-begins o c.world h message cause details) k)))
  performs-begins (MakeFunction unit count) e = one (makes_function c.world unit vs) (function-begins o c.world h unit vs) e
  performs-begins GetItem k = in-two vs k (λ l i k. in-structure l k (λ n k. in-int i k (λ x k. on-world o c effect (item-read-begins o c.world h n x) k)))
  performs-begins GetKey k = in-two vs k (λ m key k. in-structure m k (λ n k. in-string key k (λ t k. on-world o c effect (key-read-begins o c.world h n t) k)))
  performs-begins GetChar k = in-two vs k (λ s i k. in-string s k (λ t k. in-int i k (λ x e. one (reads_char c.world t x) (found-begins o c.world h IndexOutOfRange (option_map (λ z. Str (z ∷ [])) (at_place t x))) e)))
  performs-begins (GetField name) k = in-one vs k (λ v is k. in-structure v k (λ n k. on-world o c effect (field-read-begins o c.world h n name) k))
  performs-begins (GetOptional name) k = in-one vs k (λ v is k. on-world o c effect (optional-read-begins o c.world h v name) k)
  performs-begins SetItem k =
      in-three vs k (λ l i v k. in-structure l k (λ n k. in-int i k (λ x k. on-world o c effect (item-set-begins o c.world h (own_types facts) facts.fillers n x v) k)))
  performs-begins SetKey k =
      in-three vs k (λ m key v k. in-structure m k (λ n k. in-string key k (λ t k. on-world o c effect (key-set-begins o c.world h (own_types facts) facts.fillers n t v) k)))
  performs-begins (Call unit count) e = this _ e h
  performs-begins (CallValue count) k =
      in-more vs k (λ f args k. in-function f k (λ n k. in-some (slice_get c.world.heap.functions n) k (λ held there k. in-some (slice_get facts.units held.unit) k (λ u is e.
      let d = with_arguments c u args in
      this _ e (checked-begins o d (Enters held.unit (arguments c held u args) d) (rest-begins o u.rest u.params c.world args h))))))
  performs-begins (Library call atom count) k = on-world o c effect (λ came p. grow (own_types facts) (number_of call) (atom_number atom) vs c.world came p) k
  performs-begins Return k = in-one vs k (λ v is e. this _ e tt)
  performs-begins Panic k = in-one vs k (λ v is k. in-error v k (λ n e. this _ e h))
  performs-begins (Start unit count) e = this _ e (starts-begin o c caller.role unit vs h)
  performs-begins (StartValue count) k =
      in-more vs k (λ f args k. in-function f k (λ n k. in-some (slice_get c.world.heap.functions n) k (λ held there k. in-some (slice_get facts.units held.unit) k (λ u is e.
      let d = with_arguments c u args in
      this _ e (checked-begins o d (starts d caller.role held.unit (arguments c held u args)) (starts-begin o d caller.role held.unit (arguments c held u args) (rest-begins o u.rest u.params c.world args h)))))))
  performs-begins Workers k = in-some (slice_get facts.units caller.unit) k (λ u is e. this _ e (workers-begin o c h caller.unit u.workers vs))
  performs-begins (Send w) k = in-one vs k (λ v is k. in-some caller.role k (λ r role e. this _ e (sends-begin o c h r w v (Nil ∷ []))))
  performs-begins (Post w) k = in-one vs k (λ v is k. in-some caller.role k (λ r role e. this _ e (sends-begin o c h r w v [])))
  performs-begins (Done w) k = in-none vs k (λ none k. in-some caller.role k (λ r role e. this _ e (flushes-begin o c h r w)))
  performs-begins (Receive w) k =
      in-none vs k (λ none k. in-some caller.role k (λ r role e. this _ e (received-begins o c h r w (channel_at c r.activation w r.worker).queue)))
  performs-begins (Flush w) k = in-none vs k (λ none k. in-some caller.role k (λ r role e. this _ e (flushes-begin o c h r w)))
  performs-begins (WaitWorker w) k =
      in-none vs k (λ none k. in-some caller.role k (λ r role k. in-some (worker_target c r w) k (λ t is e. this _ e (waits-begin o c t h))))
  performs-begins WaitFuture k = in-one vs k (λ f is k. in-future f k (λ n unit same e. this _ e (waits-begin o c (future_target n) h)))
  performs-begins (WaitAny names) k = in-some (targets c caller.role names vs) k (λ ts is e. this _ e (any-begins o c ts h))
  performs-begins (WaitAll atom names) k =
      in-some (slice_get facts.atoms atom) k (λ d there k. in-some (targets c caller.role names vs) k (λ ts is e. this _ e (all-begins o c atom (field_names d) ts h)))
