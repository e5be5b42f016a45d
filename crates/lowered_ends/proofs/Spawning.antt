-- Only a `start`, and the start of named workers, make strands: all other operations leave each strand the worker that it was made for.
use Rattle.std.proofs.Common.{◌≡◌, ◌∙◌, ℕ, zero, suc, true, List, [], ◌∷◌, Option, Some, None, refl, sym, subst, inl, inr}
use Rattle.std.specs.Prelude.{⊤, filter, nat_le, not, slice_get}
use Rattle.bal_base.specs.declared.fault.LimitKind.TheVariants.{Cells}
use Rattle.bal_base.specs.declared.text.Text.{Text}
use Rattle.operations.specs.declared.operation.Operation.{Operation}
use Rattle.operations.specs.declared.operation.Operation.TheVariants.{Const, Load, Store, Pop, LoadModule, StoreModule, Tick, Add, Subtract, Multiply, Divide, Remainder, Negate, Concat, Less, LessEqual, Not, Equal, Same, MakeList, MakeMapping, MakeError, MakeFunction, GetItem, GetKey, GetChar, GetField, GetOptional, SetItem, SetKey, Test, Cast, Call, CallValue, Library, Return, Panic, Start, StartValue, Workers, Send, Post, Done, Receive, Flush, WaitWorker, WaitFuture, WaitAny, WaitAll}
use Rattle.value_model.specs.declared.value.Value.{Value}
use Rattle.value_model.specs.declared.value.Value.TheVariants.{Nil, Bool as Truth}
use Rattle.value_model.specs.declared.panics.PanicName.TheVariants.{StackOverflow}
use Rattle.value_model.specs.Heap.{cells}
use Rattle.value_model.specs.Meaning.{Answers}
use Rattle.value_model.specs.PanicName.{future_taken}
use Rattle.value_model.specs.World.{Came, Gave, Threw, PassesCells}
use Rattle.op_model.specs.CallRows.{arguments, checked, ticks, with_arguments}
use Rattle.op_model.specs.Common.{Caller, Common, End, Returned, Panicked, AllEnded, AnyGiven, Role}
use Rattle.op_model.specs.Copies.{copy_of, with_copies}
use Rattle.op_model.specs.Effects.{Effect, Gives, Fails, Waits, Enters, Leaves, Spawns, NoTick, Beyond, lifted, with_world}
use Rattle.op_model.specs.ProgramFacts.{ProgramFacts}
use Rattle.op_model.specs.Limits.{most_cells, most_frames}
use Rattle.op_model.specs.Messages.{flushes, flushes_end, one_sent, receives, receives_end, receives_from, sends, with_received}
use Rattle.op_model.specs.Performs.{Performs}
use Rattle.op_model.specs.Rows.{gives, gives_error, panics}
use Rattle.op_model.specs.Strands.{channel_at, end_of, has_success, met, settled, with_channel, worker_end}
use Rattle.op_model.specs.Waits.{Collected, FirstPanic, Results, Target, chosen, collects, collects_end, behind, ends_with, field_names, future_target, gives_chosen, gives_end, gives_results, is_taken, strands_in, targets, took, waits, waits_all, waits_any, waits_for, worker_target}
use Rattle.machine_model.proofs.Shapes.{in-boolean, in-error, in-function, in-future, in-if, in-int, in-more, in-none, in-one, in-some, in-string, in-structure, in-three, in-two}
use Rattle.lowered_ends.specs.Starting.{IsStart}
use Rattle.lowered_ends.proofs.Roles.{roles, settled-same, strand-same}

-- no strands are made, and those that are there stay those of their workers
abbrev pub KeepsRoles : List (Option Role) → Effect → Type 0
KeepsRoles rs (Gives vs d) = roles d ≡ rs
KeepsRoles rs (Fails e d) = roles d ≡ rs
KeepsRoles rs (Enters unit args d) = roles d ≡ rs
KeepsRoles rs (Spawns ss role vs d) = ⊥
KeepsRoles rs (Waits need) = ⊤
KeepsRoles rs (Leaves v) = ⊤
KeepsRoles rs NoTick = ⊤
KeepsRoles rs (Beyond limit) = ⊤

-- ---- the words of rows

module _ (rs : List (Option Role)) where
  lifted-keeps : (d : Common) → roles d ≡ rs → (came : Came) → KeepsRoles rs (lifted d came)
  lifted-keeps d e (Gave ws w) = e
  lifted-keeps d e (Threw v w) = e
  lifted-keeps d e PassesCells = tt

  ticks-keep : (c : Common) → roles c ≡ rs → (depth n : ℕ) → KeepsRoles rs (ticks c depth n)
  ticks-keep c e depth zero = tt
  ticks-keep c e depth (suc n) =
      let d : Common = record c { ticks = n } in
      in-if (nat_le depth most_frames) (KeepsRoles rs) (Gives [] d) (lifted d (panics d.world StackOverflow)) (λ b. e) (λ b. lifted-keeps d e (panics d.world StackOverflow))

  checked-keeps : (d : Common) (effect : Effect) → KeepsRoles rs effect → KeepsRoles rs (checked d effect)
  checked-keeps d effect h = in-if (nat_le (cells d.world.heap) most_cells) (KeepsRoles rs) effect (Beyond Cells) (λ b. h) (λ b. tt)

  sends-keep : (c : Common) → roles c ≡ rs → (r : Role) (to : ℕ) (v : Value) (vs : List Value) → KeepsRoles rs (sends c r to v vs)
  sends-keep c e r to v vs =
      let w = with_copies true c.world v in
      let d = with_channel (with_world c w) r.activation r.worker to (one_sent (channel_at c r.activation r.worker to) (copy_of c.world v)) in
      in-if (nat_le (cells w.heap) most_cells) (KeepsRoles rs) (Gives vs (settled d)) (Beyond Cells) (λ b. settled-same d ∙ e) (λ b. tt)

  receives-keep : (c : Common) → roles c ≡ rs → (r : Role) (from : ℕ) → KeepsRoles rs (receives c r from)
  receives-keep c e r from = by (channel_at c r.activation from r.worker).queue
    where
      by-end : (end : Option End) → KeepsRoles rs (receives_end c r from end)
      by-end (Some (Returned v)) = settled-same (with_received c r from []) ∙ e
      by-end (Some (Panicked v)) = e
      by-end None = tt

      by : (queue : List Value) → KeepsRoles rs (receives_from c r from queue)
      by (v ∷ queue) = settled-same (with_received c r from queue) ∙ e
      by [] = by-end (worker_end c r.activation from)

  flushes-keep : (c : Common) → roles c ≡ rs → (r : Role) (to : ℕ) → KeepsRoles rs (flushes c r to)
  flushes-keep c e r to =
      in-if (nat_le (channel_at c r.activation r.worker to).sent (channel_at c r.activation r.worker to).received) (KeepsRoles rs) (Gives (Nil ∷ []) c) (flushes_end c r to (channel_at c r.activation r.worker to).sent (worker_end c r.activation to)) (λ b. e) (λ b. by (worker_end c r.activation to))
    where
      by : (o : Option End) → KeepsRoles rs (flushes_end c r to (channel_at c r.activation r.worker to).sent o)
      by (Some (Returned v)) = e
      by (Some (Panicked v)) = e
      by None = tt

  took-keeps : (c : Common) → roles c ≡ rs → (t : Target) → roles (took c t) ≡ rs
  took-keeps c e t = in-if t.is_worker (λ x. roles x ≡ rs) c _ (λ b. e) (λ b. strand-same c t.strand _ refl ∙ e)

  end-keeps : (c : Common) → roles c ≡ rs → (t : Target) (end : End) → KeepsRoles rs (gives_end c t end)
  end-keeps c e t end =
      in-if (is_taken c t) (KeepsRoles rs) (lifted c (gives_error c.world future_taken)) (ends_with (took c t) end) (λ b. lifted-keeps c e (gives_error c.world future_taken)) (λ b. by end)
    where
      by : (end : End) → KeepsRoles rs (ends_with (took c t) end)
      by (Returned v) = took-keeps c e t
      by (Panicked v) = took-keeps c e t

  waits-keep : (c : Common) → roles c ≡ rs → (t : Target) → KeepsRoles rs (waits c t)
  waits-keep c e t = by (end_of c t.strand)
    where
      by : (o : Option End) → KeepsRoles rs (waits_for c t o)
      by (Some end) = end-keeps c e t end
      by None = tt

  any-keeps : (c : Common) → roles c ≡ rs → (ts : List Target) → KeepsRoles rs (waits_any c ts)
  any-keeps c e ts =
      in-if (met c (AnyGiven (strands_in ts))) (KeepsRoles rs) (gives_chosen c (chosen c (filter (λ t. has_success c t.strand) ts) ts)) (Waits (AnyGiven (strands_in ts))) (λ b. by (chosen c (filter (λ t. has_success c t.strand) ts) ts)) (λ b. tt)
    where
      by : (o : Option Target) → KeepsRoles rs (gives_chosen c o)
      by (Some t) = waits-keep c e t
      by None = tt

  abbrev Kept : Collected → Type 0
  Kept (Results vs d) = roles d ≡ rs
  Kept (FirstPanic v d) = roles d ≡ rs

  behind-keeps : (v : Option Value) (x : Collected) → Kept x → Kept (behind v x)
  behind-keeps v (Results vs d) h = h
  behind-keeps v (FirstPanic w d) h = h

  collects-keep : (ts : List Target) (d : Common) → roles d ≡ rs → Kept (collects ts d)
  collects-keep [] d e = e
  collects-keep (t ∷ ts) d e = by (end_of d t.strand) (collects-keep ts d e) (collects-keep ts (took d t) (took-keeps d e t))
    where
      by : (o : Option End) → Kept (collects ts d) → Kept (collects ts (took d t)) → Kept (collects_end (collects ts) d t o)
      by (Some (Returned v)) h k = in-if (is_taken d t) Kept (behind None (collects ts d)) (behind (Some v) (collects ts (took d t))) (λ b. behind-keeps None (collects ts d) h) (λ b. behind-keeps (Some v) (collects ts (took d t)) k)
      by (Some (Panicked v)) h k = in-if (is_taken d t) Kept (behind None (collects ts d)) (FirstPanic v (took d t)) (λ b. behind-keeps None (collects ts d) h) (λ b. took-keeps d e t)
      by None h k = behind-keeps None (collects ts d) h

  all-keeps : (c : Common) → roles c ≡ rs → (atom : ℕ) (names : List Text) (ts : List Target) → KeepsRoles rs (waits_all c atom names ts)
  all-keeps c e atom names ts =
      in-if (met c (AllEnded (strands_in ts))) (KeepsRoles rs) (gives_results atom names (collects ts c)) (Waits (AllEnded (strands_in ts))) (λ b. by (collects ts c) (collects-keep ts c e)) (λ b. tt)
    where
      by : (x : Collected) → Kept x → KeepsRoles rs (gives_results atom names x)
      by (Results vs d) h = lifted-keeps d h _
      by (FirstPanic v d) h = h

-- ---- a line for each operation

module _ (facts : ProgramFacts) (natives : Answers) (vs : List Value) (caller : Caller) (c : Common) (effect : Effect) where
  abbrev rs : List (Option Role)
  rs = roles c

  so : (other : Effect) → effect ≡ other → KeepsRoles rs other → KeepsRoles rs effect
  so other e h = subst (KeepsRoles rs) (sym e) h

  just : (came : Came) → effect ≡ lifted c came → KeepsRoles rs effect
  just came e = so _ e (lifted-keeps rs c refl came)

  world : {P : Came → Type 0} → (came : Came) × P came × (effect ≡ lifted c came) → KeepsRoles rs effect
  world (came, p, e) = just came e

  pub performs-keeps : (op : Operation) → ¬ (IsStart op) → ¬ (op ≡ Workers) → Performs facts natives op vs caller c effect → KeepsRoles rs effect
  performs-keeps (Const k) q p h = absurd h
  performs-keeps (Load slot) q p h = in-none vs h (λ none e. just _ e)
  performs-keeps (Store slot) q p h = absurd h
  performs-keeps Pop q p h = absurd h
  performs-keeps (LoadModule m) q p h = in-none vs h (λ none k. in-some (slice_get c.variables m) k (λ held is e. just _ e))
  performs-keeps (StoreModule m) q p h = in-one vs h (λ v is k. in-some (slice_get c.variables m) k (λ held there e. so _ e refl))
  performs-keeps Tick q p h = in-none vs h (λ none e. so _ e (ticks-keep rs c refl caller.depth c.ticks))
  performs-keeps Add q p h = in-two vs h (λ a b k. in-int a k (λ x k. in-int b k (λ y k. world k)))
  performs-keeps Subtract q p h = in-two vs h (λ a b k. in-int a k (λ x k. in-int b k (λ y k. world k)))
  performs-keeps Multiply q p h = in-two vs h (λ a b k. in-int a k (λ x k. in-int b k (λ y k. world k)))
  performs-keeps Divide q p h = in-two vs h (λ a b k. in-int a k (λ x k. in-int b k (λ y k. world k)))
  performs-keeps Remainder q p h = in-two vs h (λ a b k. in-int a k (λ x k. in-int b k (λ y k. world k)))
  performs-keeps Negate q p h = in-one vs h (λ v is k. in-int v k (λ x k. world k))
  performs-keeps Concat q p h = in-two vs h (λ a b k. in-string a k (λ s k. in-string b k (λ t k. world k)))
  performs-keeps Less q p h = in-two vs h (λ a b k. world k)
  performs-keeps LessEqual q p h = in-two vs h (λ a b k. world k)
  performs-keeps Not q p h = in-one vs h (λ v is k. in-boolean v k (λ b e. just (gives c.world (Truth (not b))) e))
  performs-keeps Equal q p h = in-two vs h (λ a b k. world k)
  performs-keeps Same q p h = in-two vs h (λ a b k. world k)
  performs-keeps (Test t) q p h = in-one vs h (λ v is k. world k)
  performs-keeps (Cast t) q p h = in-one vs h (λ v is k. world k)
  performs-keeps (MakeList atom immutable count) q p e = just _ e
  performs-keeps (MakeMapping atom immutable count) q p h = world h
  performs-keeps (MakeError count) q p h = in-more vs h (λ m more k. in-string m k (λ message k. in-more more k (λ cause details k. world k)))
  performs-keeps (MakeFunction unit count) q p e = just _ e
  performs-keeps GetItem q p h = in-two vs h (λ l i k. in-structure l k (λ n k. in-int i k (λ x k. world k)))
  performs-keeps GetKey q p h = in-two vs h (λ m k h. in-structure m h (λ n h. in-string k h (λ key h. world h)))
  performs-keeps GetChar q p h = in-two vs h (λ s i k. in-string s k (λ t k. in-int i k (λ x e. just _ e)))
  performs-keeps (GetField name) q p h = in-one vs h (λ v is k. in-structure v k (λ n k. world k))
  performs-keeps (GetOptional name) q p h = in-one vs h (λ v is k. world k)
  performs-keeps SetItem q p h = in-three vs h (λ l i v k. in-structure l k (λ n k. in-int i k (λ x k. world k)))
  performs-keeps SetKey q p h = in-three vs h (λ m k v h. in-structure m h (λ n h. in-string k h (λ key h. world h)))
  performs-keeps (Call unit count) q p e = so _ e refl
  performs-keeps (CallValue count) q p h =
      in-more vs h (λ f args k. in-function f k (λ n k. in-some (slice_get c.world.heap.functions n) k (λ o there k. in-some (slice_get facts.units o.unit) k (λ u is e.
      so _ e (checked-keeps rs (with_arguments c u args) (Enters o.unit (arguments c o u args) (with_arguments c u args)) refl)))))
  performs-keeps (Library call atom count) q p h = world h
  performs-keeps Return q p h = in-one vs h (λ v is e. so _ e tt)
  performs-keeps Panic q p h = in-one vs h (λ v is k. in-error v k (λ n e. so _ e refl))
  performs-keeps (Start unit count) q p e = absurd (q (inl (unit, count, refl)))
  performs-keeps (StartValue count) q p h = absurd (q (inr (count, refl)))
  performs-keeps Workers q p h = absurd (p refl)
  performs-keeps (Send w) q p h = in-one vs h (λ v is k. in-some caller.role k (λ r role e. so _ e (sends-keep rs c refl r w v (Nil ∷ []))))
  performs-keeps (Post w) q p h = in-one vs h (λ v is k. in-some caller.role k (λ r role e. so _ e (sends-keep rs c refl r w v [])))
  performs-keeps (Done w) q p h = in-none vs h (λ none k. in-some caller.role k (λ r role e. so _ e (flushes-keep rs c refl r w)))
  performs-keeps (Receive w) q p h = in-none vs h (λ none k. in-some caller.role k (λ r role e. so _ e (receives-keep rs c refl r w)))
  performs-keeps (Flush w) q p h = in-none vs h (λ none k. in-some caller.role k (λ r role e. so _ e (flushes-keep rs c refl r w)))
  performs-keeps (WaitWorker w) q p h = in-none vs h (λ none k. in-some caller.role k (λ r role k. in-some (worker_target c r w) k (λ t is e. so _ e (waits-keep rs c refl t))))
  performs-keeps WaitFuture q p h = in-one vs h (λ f is k. in-future f k (λ n unit same e. so _ e (waits-keep rs c refl (future_target n))))
  performs-keeps (WaitAny names) q p h = in-some (targets c caller.role names vs) h (λ ts is e. so _ e (any-keeps rs c refl ts))
  performs-keeps (WaitAll atom names) q p h =
      in-some (slice_get facts.atoms atom) h (λ d there k. in-some (targets c caller.role names vs) k (λ ts is e. so _ e (all-keeps rs c refl atom (field_names d) ts)))
