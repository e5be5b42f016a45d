-- Each operation comes to an effect of a shape.
use Rattle.std.proofs.Common.{◌≡◌, ◌≢◌, ◌++◌, ◌||◌, ◌&&◌, ◌∙◌, ◌+◌, ℕ, zero, suc, Bool, true, false, List, [], ◌∷◌, Option, Some, None, IsSomeAnd, length, refl, sym, subst, ap, inl, inr, arith}
use Rattle.std.specs.Prelude.{⊤, cond, filter, fold, if◌then◌else◌, is_some, nat_le, nat_lt, not, slice_get}
use Rattle.std.specs.List.{list_all, list_any}
use Rattle.bal_base.specs.declared.fault.LimitKind.TheVariants.{Cells, Strands}
use Rattle.bal_base.specs.declared.text.Text.{Text}
use Rattle.operations.specs.declared.operation.Operation.{Operation}
use Rattle.operations.specs.declared.operation.Operation.TheVariants.{Const, Load, Store, Pop, LoadModule, StoreModule, Tick, Add, Subtract, Multiply, Divide, Remainder, Negate, Concat, Less, LessEqual, Not, Equal, Same, MakeList, MakeMapping, MakeError, MakeFunction, GetItem, GetKey, GetChar, GetField, GetOptional, SetItem, SetKey, Test, Cast, Call, CallValue, Library, Return, Panic, Start, StartValue, Workers, Send, Post, Done, Receive, Flush, WaitWorker, WaitFuture, WaitAny, WaitAll}
use Rattle.value_model.specs.declared.value.Value.{Value}
use Rattle.value_model.specs.declared.value.Value.TheVariants.{Nil, Bool as Truth, Future}
use Rattle.value_model.specs.declared.panics.PanicName.TheVariants.{StackOverflow}
use Rattle.value_model.specs.Heap.{cells}
use Rattle.value_model.specs.Meaning.{Answers}
use Rattle.value_model.specs.PanicName.{future_taken}
use Rattle.value_model.specs.World.{Came, Gave, Threw, PassesCells}
use Rattle.op_model.specs.CallRows.{arguments, checked, new_activation, starts, starts_workers, strands_made, ticks, with_arguments, workers_from}
use Rattle.op_model.specs.Common.{Caller, Common, End, Returned, Panicked, Need, Message, Received, AllEnded, AnyGiven, Role}
use Rattle.op_model.specs.Copies.{copy_of, with_copies}
use Rattle.op_model.specs.Effects.{Effect, Gives, Waits, Enters, Spawns, Beyond, lifted, with_world}
use Rattle.op_model.specs.ProgramFacts.{ProgramFacts, WorkerFacts}
use Rattle.op_model.specs.Limits.{most_cells, most_frames, most_strands}
use Rattle.op_model.specs.Messages.{flushes, flushes_end, one_sent, receives, receives_end, receives_from, sends, with_received}
use Rattle.op_model.specs.Operands.{NoOperand, One, AFuture}
use Rattle.op_model.specs.Performs.{AsWorker, Performs}
use Rattle.op_model.specs.Rows.{gives, gives_error, panics}
use Rattle.op_model.specs.Strands.{channel_at, end_of, has_ended, has_success, is_success, is_there, met, settled, strand_at, strand_made, with_channel, worker_end}
use Rattle.op_model.specs.Waits.{Collected, FirstPanic, Results, Target, chosen, collects, collects_end, behind, earlier, ends_with, field_names, future_target, gives_chosen, gives_end, gives_results, is_taken, later, place_of_end, strands_in, targets, took, waits, waits_all, waits_any, waits_for, with_target, worker_target}
use Rattle.machine_model.specs.Strands.{role_of}
use Rattle.machine_model.proofs.Alike.{Alike, Calm, alike-received, alike-sent, alike-then, calm-so, calm-still, calm-then, calm-took}
use Rattle.machine_model.proofs.Shapes.{ShapeOf, WaitsAs, in-boolean, in-error, in-function, in-future, in-if, in-int, in-more, in-none, in-one, in-some, in-string, in-structure, in-three, in-two}

-- ---- strands that have ended

abbrev pub AllOver : Common → List Target → Type 0
AllOver c [] = ⊤
AllOver c (t ∷ ts) = (has_ended c t.strand ≡ true) × AllOver c ts

success-over : (c : Common) (n : ℕ) → has_success c n ≡ true → has_ended c n ≡ true
success-over c n e = by (end_of c n) refl
  where
    by : (o : Option End) → end_of c n ≡ o → has_ended c n ≡ true
    by (Some end) is = ap is_some is
    by None is = absurd (let no : (is_success None && not (strand_at c n).taken) ≡ true = subst (λ o. (is_success o && not (strand_at c n).taken) ≡ true) is e in let bad : ⊥ = cc in bad)

filter-over : (c : Common) (ts : List Target) → AllOver c (filter (λ t. has_success c t.strand) ts)
filter-over c [] = tt
filter-over c (t ∷ ts) = by (has_success c t.strand) refl (filter-over c ts)
  where
    by : (b : Bool) → has_success c t.strand ≡ b → AllOver c (filter (λ t. has_success c t.strand) ts) → AllOver c (cond b (t ∷ filter (λ t. has_success c t.strand) ts) (filter (λ t. has_success c t.strand) ts))
    by true e more = (success-over c t.strand e, more)
    by false e more = more

none-left : (c : Common) (ts : List Target) → filter (λ t. has_success c t.strand) ts ≡ [] → list_any (has_success c) (strands_in ts) ≡ false
none-left c [] e = refl
none-left c (t ∷ ts) e = by (has_success c t.strand) e (none-left c ts)
  where
    by : (b : Bool) → cond b (t ∷ filter (λ t. has_success c t.strand) ts) (filter (λ t. has_success c t.strand) ts) ≡ [] → (filter (λ t. has_success c t.strand) ts ≡ [] → list_any (has_success c) (strands_in ts) ≡ false) → (b || list_any (has_success c) (strands_in ts)) ≡ false
    by true e more = absurd (let bad : ⊥ = cc in bad)
    by false e more = more e

and-true : (a b : Bool) → (a && b) ≡ true → (a ≡ true) × (b ≡ true)
and-true true b e = (refl, e)
and-true false b e = absurd (let bad : ⊥ = cc in bad)

all-over : (c : Common) (ts : List Target) → list_all (has_ended c) (strands_in ts) ≡ true → AllOver c ts
all-over c [] e = tt
all-over c (t ∷ ts) e = let both = and-true (has_ended c t.strand) (list_all (has_ended c) (strands_in ts)) e in (both.0, all-over c ts both.1)

-- one of two that have ended has
fold-over : (c : Common) (f : Target → Target → Target) → ((t u : Target) → has_ended c t.strand ≡ true → has_ended c u.strand ≡ true → has_ended c (f t u).strand ≡ true) → (t : Target) (ts : List Target) → has_ended c t.strand ≡ true → AllOver c ts → has_ended c (fold f t ts).strand ≡ true
fold-over c f h t [] e over = e
fold-over c f h t (u ∷ ts) e over = fold-over c f h (f t u) ts (h t u e over.0) over.1

earlier-over : (c : Common) (t u : Target) → has_ended c t.strand ≡ true → has_ended c u.strand ≡ true → has_ended c (earlier c t u).strand ≡ true
earlier-over c t u e d = in-if (nat_lt (place_of_end c u) (place_of_end c t)) (λ z. has_ended c z.strand ≡ true) u t (λ b. d) (λ b. e)

later-over : (c : Common) (t u : Target) → has_ended c t.strand ≡ true → has_ended c u.strand ≡ true → has_ended c (later c t u).strand ≡ true
later-over c t u e d = in-if (nat_lt (place_of_end c t) (place_of_end c u)) (λ z. has_ended c z.strand ≡ true) u t (λ b. d) (λ b. e)

-- ---- a wait is for as many as it names

with-some : (o : Option Target) (p : Option (List Target)) → with_target o p ≡ Some [] → ⊥
with-some (Some t) (Some ts) e = let bad : ⊥ = cc in bad
with-some (Some t) None e = let bad : ⊥ = cc in bad
with-some None p e = let bad : ⊥ = cc in bad

targets-some : (c : Common) (role : Option Role) (names : List (Option ℕ)) (vs : List Value) → targets c role names vs ≡ Some [] → names ≡ []
targets-some c role [] vs e = refl
targets-some c (Some r) (Some worker ∷ names) vs e = absurd (with-some (worker_target c r worker) (targets c (Some r) names vs) e)
targets-some c None (Some worker ∷ names) vs e = absurd (let bad : ⊥ = cc in bad)
targets-some c (Some r) (None ∷ names) (Future n unit ∷ vs) e = absurd (with-some (Some (future_target n)) (targets c (Some r) names vs) e)
targets-some c None (None ∷ names) (Future n unit ∷ vs) e = absurd (with-some (Some (future_target n)) (targets c None names vs) e)
targets-some c (Some r) (None ∷ names) _ e = absurd (let bad : ⊥ = cc in bad)
targets-some c None (None ∷ names) _ e = absurd (let bad : ⊥ = cc in bad)

module _ (facts : ProgramFacts) (natives : Answers) (op : Operation) (vs : List Value) (caller : Caller) (c : Common) where
  abbrev Shape : Effect → Type 0
  Shape effect = ShapeOf facts op vs caller c effect

  -- ---- the world

  lifted-shape : (d : Common) → Calm caller.role c d → (came : Came) → Shape (lifted d came)
  lifted-shape d calm (Gave ws w) = inl (calm-then calm (calm-so caller.role d w d.variables d.ticks))
  lifted-shape d calm (Threw e w) = alike-then calm.alike (calm-so caller.role d w d.variables d.ticks).alike
  lifted-shape d calm PassesCells = tt

  is-lifted : (came : Came) (effect : Effect) → effect ≡ lifted c came → Shape effect
  is-lifted came effect e = subst Shape (sym e) (lifted-shape c (calm-still caller.role c) came)

  on-world : {P : Came → Type 0} (effect : Effect) → (came : Came) × P came × (effect ≡ lifted c came) → Shape effect
  on-world effect (came, p, e) = is-lifted came effect e

  -- ---- ticks, variables and calls

  ticks-shape : (depth n : ℕ) → Shape (ticks c depth n)
  ticks-shape depth zero = tt
  ticks-shape depth (suc n) =
      let d : Common = record c { ticks = n } in
      in-if (nat_le depth most_frames) Shape (Gives [] d) (lifted d (panics d.world StackOverflow))
      (λ b. inl (calm-so caller.role c c.world c.variables n)) (λ b. lifted-shape d (calm-so caller.role c c.world c.variables n) (panics d.world StackOverflow))

  checked-shape : (d : Common) (effect : Effect) → Shape effect → Shape (checked d effect)
  checked-shape d effect h = by (nat_le (cells d.world.heap) most_cells)
    where
      by : (b : Bool) → Shape (if b then effect else Beyond Cells)
      by true = h
      by false = tt

  starts-shape : (d : Common) → Calm caller.role c d → (unit : ℕ) (args : List Value) → Shape (starts d caller.role unit args)
  starts-shape d calm unit args = by (nat_lt (length d.strands) most_strands)
    where
      by : (b : Bool) → Shape (if b then Spawns (record { unit = unit; args = args; role = None } ∷ []) caller.role (Future (length d.strands) unit ∷ []) (strand_made unit None d) else Beyond Strands)
      by true = inl (record { one = record { unit = unit; args = args; role = None }; before = d; is = refl; no_role = refl; same_role = refl; calm = calm; made = refl })
      by false = tt

  -- ---- messages

  sends-shape : (r : Role) (to : ℕ) (v : Value) (ws : List Value) → caller.role ≡ Some r → Shape (sends c r to v ws)
  sends-shape r to v ws e =
      let w = with_copies Bool.true c.world v in
      let copy = copy_of c.world v in
      let d = with_channel (with_world c w) r.activation r.worker to (one_sent (channel_at c r.activation r.worker to) copy) in
      let same : Alike (Some r) c d = alike-then (calm-so (Some r) c w c.variables c.ticks).alike (alike-sent (with_world c w) r to copy) in
      in-if (nat_le (cells w.heap) most_cells) Shape (Gives ws (settled d)) (Beyond Cells) (λ b. inr (d, subst (λ role. Alike role c d) (sym e) same, refl)) (λ b. tt)

  receives-shape : (r : Role) (from : ℕ) → ((need : Need) → need ≡ Message r.activation from r.worker → WaitsAs facts op vs caller c need) → Shape (receives c r from)
  receives-shape r from wanted = by (channel_at c r.activation from r.worker).queue refl
    where
      by-end : (o : Option End) → (channel_at c r.activation from r.worker).queue ≡ [] → worker_end c r.activation from ≡ o → Shape (receives_end c r from o)
      by-end (Some (Returned v)) e is = inr (with_received c r from [], alike-received caller.role c r from [] (let len = ap length e in omega (arith, len)), refl)
      by-end (Some (Panicked v)) e is = alike-received caller.role c r from [] (let len = ap length e in omega (arith, len))
      by-end None e is = (wanted (Message r.activation from r.worker) refl, (λ i. is_there (e i) || is_some (is i)))

      by : (q : List Value) → (channel_at c r.activation from r.worker).queue ≡ q → Shape (receives_from c r from q)
      by (v ∷ q) e = inr (with_received c r from q, alike-received caller.role c r from q (let len = ap length e in omega (arith, len)), refl)
      by [] e = by-end (worker_end c r.activation from) e refl

  flushes-shape : (r : Role) (to : ℕ) → ((need : Need) → need ≡ Received r.activation r.worker to (channel_at c r.activation r.worker to).sent → WaitsAs facts op vs caller c need) → Shape (flushes c r to)
  flushes-shape r to wanted =
      in-if (nat_le (channel_at c r.activation r.worker to).sent (channel_at c r.activation r.worker to).received) Shape (Gives (Nil ∷ []) c) (flushes_end c r to (channel_at c r.activation r.worker to).sent (worker_end c r.activation to)) (λ b. inl (calm-still caller.role c)) (λ b. by (worker_end c r.activation to) b refl)
    where
      by : (o : Option End) → nat_le (channel_at c r.activation r.worker to).sent (channel_at c r.activation r.worker to).received ≡ false → worker_end c r.activation to ≡ o → Shape (flushes_end c r to (channel_at c r.activation r.worker to).sent o)
      by (Some (Returned v)) b is = inl (calm-still caller.role c)
      by (Some (Panicked v)) b is = (calm-still caller.role c).alike
      by None b is = (wanted (Received r.activation r.worker to (channel_at c r.activation r.worker to).sent) refl, (λ i. b i || is_some (is i)))

  -- ---- waits

  ended-shape : (t : Target) (end : End) → Shape (gives_end c t end)
  ended-shape t end = in-if (is_taken c t) Shape (lifted c (gives_error c.world future_taken)) (ends_with (took c t) end) (λ b. lifted-shape c (calm-still caller.role c) (gives_error c.world future_taken)) (λ b. by end)
    where
      by : (end : End) → Shape (ends_with (took c t) end)
      by (Returned v) = inl (calm-took caller.role c t)
      by (Panicked e) = (calm-took caller.role c t).alike

  waits-shape : (t : Target) → ((need : Need) → need ≡ AllEnded (t.strand ∷ []) → WaitsAs facts op vs caller c need) → Shape (waits c t)
  waits-shape t wanted = by (end_of c t.strand) refl
    where
      by : (o : Option End) → end_of c t.strand ≡ o → Shape (waits_for c t o)
      by (Some end) is = ended-shape t end
      by None is = (wanted (AllEnded (t.strand ∷ [])) refl, (λ i. is_some (is i) && true))

  over-shape : (t : Target) → has_ended c t.strand ≡ true → Shape (waits c t)
  over-shape t over = by (end_of c t.strand) refl
    where
      by : (o : Option End) → end_of c t.strand ≡ o → Shape (waits_for c t o)
      by (Some end) is = ended-shape t end
      by None is = absurd (let no : is_some (end_of c t.strand) ≡ false = ap is_some is in let bad : ⊥ = cc in bad)

  any-shape : (ts : List Target) → ts ≢ [] → ((need : Need) → need ≡ AnyGiven (strands_in ts) → WaitsAs facts op vs caller c need) → Shape (waits_any c ts)
  any-shape ts some wanted =
      in-if (met c (AnyGiven (strands_in ts))) Shape (gives_chosen c (chosen c (filter (λ t. has_success c t.strand) ts) ts)) (Waits (AnyGiven (strands_in ts))) (λ b. by (filter (λ t. has_success c t.strand) ts) refl (filter-over c ts) b) (λ b. (wanted (AnyGiven (strands_in ts)) refl, b))
    where
      last : (all : List Target) → all ≡ ts → AllOver c all → Shape (gives_chosen c (chosen c [] all))
      last [] e over = absurd (some (sym e))
      last (t ∷ all) e over = over-shape (fold (later c) t all) (fold-over c (later c) (later-over c) t all over.0 over.1)

      by : (ss : List Target) → filter (λ t. has_success c t.strand) ts ≡ ss → AllOver c (filter (λ t. has_success c t.strand) ts) → met c (AnyGiven (strands_in ts)) ≡ true → Shape (gives_chosen c (chosen c ss ts))
      by (t ∷ ss) e over b = let all : AllOver c (t ∷ ss) = subst (AllOver c) e over in over-shape (fold (earlier c) t ss) (fold-over c (earlier c) (earlier-over c) t ss all.0 all.1)
      by [] e over b = last ts refl (all-over c ts (sym (ap (λ z. z || list_all (has_ended c) (strands_in ts)) (none-left c ts e)) ∙ b))

  abbrev CollectedCalm : Collected → Type 0
  CollectedCalm (Results rs d) = Calm caller.role c d
  CollectedCalm (FirstPanic e d) = Calm caller.role c d

  behind-calm : (v : Option Value) (x : Collected) → CollectedCalm x → CollectedCalm (behind v x)
  behind-calm v (Results rs d) h = h
  behind-calm v (FirstPanic e d) h = h

  collects-calm : (ts : List Target) (d : Common) → Calm caller.role c d → CollectedCalm (collects ts d)
  collects-calm [] d calm = calm
  collects-calm (t ∷ ts) d calm = by (end_of d t.strand) (collects-calm ts d calm) (collects-calm ts (took d t) (calm-then calm (calm-took caller.role d t)))
    where
      by : (o : Option End) → CollectedCalm (collects ts d) → CollectedCalm (collects ts (took d t)) → CollectedCalm (collects_end (collects ts) d t o)
      by (Some (Returned v)) h k = in-if (is_taken d t) CollectedCalm (behind None (collects ts d)) (behind (Some v) (collects ts (took d t))) (λ b. behind-calm None (collects ts d) h) (λ b. behind-calm (Some v) (collects ts (took d t)) k)
      by (Some (Panicked e)) h k = in-if (is_taken d t) CollectedCalm (behind None (collects ts d)) (FirstPanic e (took d t)) (λ b. behind-calm None (collects ts d) h) (λ b. calm-then calm (calm-took caller.role d t))
      by None h k = behind-calm None (collects ts d) h

  all-shape : (atom : ℕ) (names : List Text) (ts : List Target) → ((need : Need) → need ≡ AllEnded (strands_in ts) → WaitsAs facts op vs caller c need) → Shape (waits_all c atom names ts)
  all-shape atom names ts wanted =
      in-if (met c (AllEnded (strands_in ts))) Shape (gives_results atom names (collects ts c)) (Waits (AllEnded (strands_in ts))) (λ b. by (collects ts c) (collects-calm ts c (calm-still caller.role c))) (λ b. (wanted (AllEnded (strands_in ts)) refl, b))
    where
      by : (x : Collected) → CollectedCalm x → Shape (gives_results atom names x)
      by (Results rs d) calm = lifted-shape d calm _
      by (FirstPanic e d) calm = calm.alike

crew-shape : (facts : ProgramFacts) (vs : List Value) (caller : Caller) (c : Common) (workers : List WorkerFacts) (b : Bool) → ShapeOf facts Workers vs caller c (if b then Spawns (workers_from (length c.activations) 1 workers vs) (Some (role_of (length c.activations) 0)) [] (strands_made (workers_from (length c.activations) 1 workers vs) (record c { activations = c.activations ++ new_activation c caller.unit (length workers) ∷ [] })) else Beyond Strands)
crew-shape facts vs caller c workers true = inr (record { starts = refl; unit = caller.unit; workers = workers; captured = vs; are = refl; new_role = refl; made = refl })
crew-shape facts vs caller c workers false = tt

-- ---- all operations

module _ (facts : ProgramFacts) (natives : Answers) (vs : List Value) (caller : Caller) (c : Common) (effect : Effect) where
  abbrev Shapes : Operation → Type 0
  Shapes op = ShapeOf facts op vs caller c effect

  world : (op : Operation) {P : Came → Type 0} → (came : Came) × P came × (effect ≡ lifted c came) → Shapes op
  world op h = on-world facts natives op vs caller c effect h

  only : (op : Operation) (came : Came) → effect ≡ lifted c came → Shapes op
  only op came e = is-lifted facts natives op vs caller c came effect e

  so : (op : Operation) (other : Effect) → effect ≡ other → ShapeOf facts op vs caller c other → Shapes op
  so op other e h = subst (λ x. ShapeOf facts op vs caller c x) (sym e) h

  -- what a worker waits for
  as-worker : (P : Role → Type 0) (r : Role) → vs ≡ [] → caller.role ≡ Some r → P r → NoOperand vs (AsWorker caller P)
  as-worker P r none e p = subst (λ l. NoOperand l (AsWorker caller P)) (sym none) (subst (λ o. IsSomeAnd o P) (sym e) p)

  in-targets : (P : List Target → Type 0) (names : List (Option ℕ)) (ts : List Target) → targets c caller.role names vs ≡ Some ts → P ts → IsSomeAnd (targets c caller.role names vs) P
  in-targets P names ts e p = subst (λ o. IsSomeAnd o P) (sym e) p

  pub performs-shape : (op : Operation) → ((names : List (Option ℕ)) → op ≡ WaitAny names → names ≢ []) → Performs facts natives op vs caller c effect → Shapes op
  performs-shape (Const k) some h = absurd h
  performs-shape (Load slot) some h = in-none vs h (λ none e. only (Load slot) _ e)
  performs-shape (Store slot) some h = absurd h
  performs-shape Pop some h = absurd h
  performs-shape (LoadModule m) some h = in-none vs h (λ none k. in-some (slice_get c.variables m) k (λ held is e. only (LoadModule m) _ e))
  performs-shape (StoreModule m) some h = in-one vs h (λ v is k. in-some (slice_get c.variables m) k (λ held there e. so (StoreModule m) _ e (inl (calm-so caller.role c c.world _ c.ticks))))
  performs-shape Tick some h = in-none vs h (λ none e. so Tick _ e (ticks-shape facts natives Tick vs caller c caller.depth c.ticks))
  performs-shape Add some h = in-two vs h (λ a b k. in-int a k (λ x k. in-int b k (λ y k. world Add k)))
  performs-shape Subtract some h = in-two vs h (λ a b k. in-int a k (λ x k. in-int b k (λ y k. world Subtract k)))
  performs-shape Multiply some h = in-two vs h (λ a b k. in-int a k (λ x k. in-int b k (λ y k. world Multiply k)))
  performs-shape Divide some h = in-two vs h (λ a b k. in-int a k (λ x k. in-int b k (λ y k. world Divide k)))
  performs-shape Remainder some h = in-two vs h (λ a b k. in-int a k (λ x k. in-int b k (λ y k. world Remainder k)))
  performs-shape Negate some h = in-one vs h (λ v is k. in-int v k (λ x k. world Negate k))
  performs-shape Concat some h = in-two vs h (λ a b k. in-string a k (λ s k. in-string b k (λ t k. world Concat k)))
  performs-shape Less some h = in-two vs h (λ a b k. world Less k)
  performs-shape LessEqual some h = in-two vs h (λ a b k. world LessEqual k)
  performs-shape Not some h = in-one vs h (λ v is k. in-boolean v k (λ b e. only Not (gives c.world (Truth (not b))) e))
  performs-shape Equal some h = in-two vs h (λ a b k. world Equal k)
  performs-shape Same some h = in-two vs h (λ a b k. world Same k)
  performs-shape (Test t) some h = in-one vs h (λ v is k. world (Test t) k)
  performs-shape (Cast t) some h = in-one vs h (λ v is k. world (Cast t) k)
  performs-shape (MakeList atom immutable count) some e = only (MakeList atom immutable count) _ e
  performs-shape (MakeMapping atom immutable count) some h = world (MakeMapping atom immutable count) h
  performs-shape (MakeError count) some h = in-more vs h (λ m more k. in-string m k (λ message k. in-more more k (λ cause details k. world (MakeError count) k)))
  performs-shape (MakeFunction unit count) some e = only (MakeFunction unit count) _ e
  performs-shape GetItem some h = in-two vs h (λ l i k. in-structure l k (λ n k. in-int i k (λ x k. world GetItem k)))
  performs-shape GetKey some h = in-two vs h (λ m k h. in-structure m h (λ n h. in-string k h (λ key h. world GetKey h)))
  performs-shape GetChar some h = in-two vs h (λ s i k. in-string s k (λ t k. in-int i k (λ x e. only GetChar _ e)))
  performs-shape (GetField name) some h = in-one vs h (λ v is k. in-structure v k (λ n k. world (GetField name) k))
  performs-shape (GetOptional name) some h = in-one vs h (λ v is k. world (GetOptional name) k)
  performs-shape SetItem some h = in-three vs h (λ l i v k. in-structure l k (λ n k. in-int i k (λ x k. world SetItem k)))
  performs-shape SetKey some h = in-three vs h (λ m k v h. in-structure m h (λ n h. in-string k h (λ key h. world SetKey h)))
  performs-shape (Call unit count) some e = so (Call unit count) _ e (calm-still caller.role c)
  performs-shape (CallValue count) some h =
      in-more vs h (λ f args k. in-function f k (λ n k. in-some (slice_get c.world.heap.functions n) k (λ o there k. in-some (slice_get facts.units o.unit) k (λ u is e.
      so (CallValue count) _ e (checked-shape facts natives (CallValue count) vs caller c (with_arguments c u args) (Enters o.unit (arguments c o u args) (with_arguments c u args)) (calm-so caller.role c (with_arguments c u args).world c.variables c.ticks))))))
  performs-shape (Library call atom count) some h = world (Library call atom count) h
  performs-shape Return some h = in-one vs h (λ v is e. so Return _ e tt)
  performs-shape Panic some h = in-one vs h (λ v is k. in-error v k (λ n e. so Panic _ e (calm-still caller.role c).alike))
  performs-shape (Start unit count) some e = so (Start unit count) _ e (starts-shape facts natives (Start unit count) vs caller c c (calm-still caller.role c) unit vs)
  performs-shape (StartValue count) some h =
      in-more vs h (λ f args k. in-function f k (λ n k. in-some (slice_get c.world.heap.functions n) k (λ o there k. in-some (slice_get facts.units o.unit) k (λ u is e.
      let d = with_arguments c u args in
      so (StartValue count) _ e (checked-shape facts natives (StartValue count) vs caller c d (starts d caller.role o.unit (arguments c o u args)) (starts-shape facts natives (StartValue count) vs caller c d (calm-so caller.role c d.world c.variables c.ticks) o.unit (arguments c o u args)))))))
  performs-shape Workers some h =
      in-some (slice_get facts.units caller.unit) h (λ u is e.
      so Workers (starts_workers c caller.unit u.workers vs) e (crew-shape facts vs caller c u.workers (nat_le (length c.strands + length u.workers) most_strands)))
  performs-shape (Send w) some h = in-one vs h (λ v is k. in-some caller.role k (λ r role e. so (Send w) _ e (sends-shape facts natives (Send w) vs caller c r w v (Nil ∷ []) role)))
  performs-shape (Post w) some h = in-one vs h (λ v is k. in-some caller.role k (λ r role e. so (Post w) _ e (sends-shape facts natives (Post w) vs caller c r w v [] role)))
  performs-shape (Done w) some h =
      in-none vs h (λ none k. in-some caller.role k (λ r role e. so (Done w) _ e (flushes-shape facts natives (Done w) vs caller c r w (λ need is.
      as-worker (λ r. need ≡ Received r.activation r.worker w (channel_at c r.activation r.worker w).sent) r none role is))))
  performs-shape (Receive w) some h =
      in-none vs h (λ none k. in-some caller.role k (λ r role e. so (Receive w) _ e (receives-shape facts natives (Receive w) vs caller c r w (λ need is.
      as-worker (λ r. need ≡ Message r.activation w r.worker) r none role is))))
  performs-shape (Flush w) some h =
      in-none vs h (λ none k. in-some caller.role k (λ r role e. so (Flush w) _ e (flushes-shape facts natives (Flush w) vs caller c r w (λ need is.
      as-worker (λ r. need ≡ Received r.activation r.worker w (channel_at c r.activation r.worker w).sent) r none role is))))
  performs-shape (WaitWorker w) some h =
      in-none vs h (λ none k. in-some caller.role k (λ r role k. in-some (worker_target c r w) k (λ t is e. so (WaitWorker w) _ e (waits-shape facts natives (WaitWorker w) vs caller c t (λ need same.
      as-worker (λ r. IsSomeAnd (worker_target c r w) (λ t. need ≡ AllEnded (t.strand ∷ []))) r none role (subst (λ o. IsSomeAnd o (λ t. need ≡ AllEnded (t.strand ∷ []))) (sym is) same))))))
  performs-shape WaitFuture some h =
      in-one vs h (λ f is k. in-future f k (λ n unit same e. so WaitFuture _ e (waits-shape facts natives WaitFuture vs caller c (future_target n) (λ need wanted.
      subst (λ l. One l (λ g. AFuture g (λ m. need ≡ AllEnded (m ∷ [])))) (sym (is ∙ ap (λ g. g ∷ []) same)) wanted))))
  performs-shape (WaitAny names) some h =
      in-some (targets c caller.role names vs) h (λ ts is e. so (WaitAny names) _ e (any-shape facts natives (WaitAny names) vs caller c ts
      (λ none. some names refl (targets-some c caller.role names vs (is ∙ ap Some none)))
      (λ need wanted. in-targets (λ ts. need ≡ AnyGiven (strands_in ts)) names ts is wanted)))
  performs-shape (WaitAll atom names) some h =
      in-some (slice_get facts.atoms atom) h (λ d there k. in-some (targets c caller.role names vs) k (λ ts is e. so (WaitAll atom names) _ e (all-shape facts natives (WaitAll atom names) vs caller c atom (field_names d) ts (λ need wanted.
      subst (λ o. IsSomeAnd o (λ d. IsSomeAnd (targets c caller.role names vs) (λ ts. need ≡ AllEnded (strands_in ts)))) (sym there) (in-targets (λ ts. need ≡ AllEnded (strands_in ts)) names ts is wanted)))))
