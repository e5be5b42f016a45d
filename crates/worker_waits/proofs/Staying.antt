-- Most operations leave activations as they are: all but messages, and the start of named workers.
use Rattle.std.proofs.Common.{◌≡◌, ℕ, zero, suc, List, [], ◌∷◌, Option, Some, None, length, refl, sym, subst}
use Rattle.std.specs.Prelude.{⊤, filter, nat_le, nat_lt, not, slice_get}
use Rattle.bal_base.specs.declared.fault.LimitKind.TheVariants.{Cells, Strands}
use Rattle.bal_base.specs.declared.text.Text.{Text}
use Rattle.operations.specs.declared.operation.Operation.{Operation}
use Rattle.operations.specs.declared.operation.Operation.TheVariants.{Const, Load, Store, Pop, LoadModule, StoreModule, Tick, Add, Subtract, Multiply, Divide, Remainder, Negate, Concat, Less, LessEqual, Not, Equal, Same, MakeList, MakeMapping, MakeError, MakeFunction, GetItem, GetKey, GetChar, GetField, GetOptional, SetItem, SetKey, Test, Cast, Call, CallValue, Library, Return, Panic, Start, StartValue, Workers, Send, Post, Done, Receive, Flush, WaitWorker, WaitFuture, WaitAny, WaitAll}
use Rattle.value_model.specs.declared.value.Value.{Value}
use Rattle.value_model.specs.declared.value.Value.TheVariants.{Nil, Bool as Truth, Future}
use Rattle.value_model.specs.declared.panics.PanicName.TheVariants.{StackOverflow}
use Rattle.value_model.specs.Heap.{cells}
use Rattle.value_model.specs.Meaning.{Answers}
use Rattle.value_model.specs.PanicName.{future_taken}
use Rattle.value_model.specs.World.{Came, Gave, Threw, PassesCells}
use Rattle.op_model.specs.CallRows.{arguments, checked, starts, ticks, with_arguments}
use Rattle.op_model.specs.Common.{Activation, Caller, Common, End, Returned, Panicked, AllEnded, AnyGiven, Role}
use Rattle.op_model.specs.Effects.{Effect, Gives, Fails, Waits, Enters, Leaves, Spawns, NoTick, Beyond, lifted}
use Rattle.op_model.specs.ProgramFacts.{ProgramFacts}
use Rattle.op_model.specs.Limits.{most_cells, most_frames, most_strands}
use Rattle.op_model.specs.Messages.{flushes, flushes_end}
use Rattle.op_model.specs.Performs.{Performs}
use Rattle.op_model.specs.Rows.{gives, gives_error, panics}
use Rattle.op_model.specs.Strands.{channel_at, end_of, has_success, met, strand_made, worker_end}
use Rattle.op_model.specs.Waits.{Collected, FirstPanic, Results, Target, chosen, collects, collects_end, behind, ends_with, field_names, future_target, gives_chosen, gives_end, gives_results, is_taken, strands_in, targets, took, waits, waits_all, waits_any, waits_for, worker_target}
use Rattle.machine_model.proofs.Shapes.{in-boolean, in-error, in-function, in-future, in-if, in-int, in-more, in-none, in-one, in-some, in-string, in-structure, in-three, in-two}

-- what is there behind the effect has these activations
abbrev pub Stays : List Activation → Effect → Type 0
Stays acts (Gives vs d) = d.activations ≡ acts
Stays acts (Fails e d) = d.activations ≡ acts
Stays acts (Enters unit args d) = d.activations ≡ acts
Stays acts (Spawns ss role vs d) = d.activations ≡ acts
Stays acts (Waits need) = ⊤
Stays acts (Leaves v) = ⊤
Stays acts NoTick = ⊤
Stays acts (Beyond limit) = ⊤

-- neither a message nor the start of workers
abbrev pub IsQuiet : Operation → Type 0
IsQuiet Workers = ⊥
IsQuiet (Send w) = ⊥
IsQuiet (Post w) = ⊥
IsQuiet (Receive w) = ⊥
IsQuiet op = ⊤

module _ (acts : List Activation) where
  lifted-stays : (d : Common) → d.activations ≡ acts → (came : Came) → Stays acts (lifted d came)
  lifted-stays d e (Gave ws w) = e
  lifted-stays d e (Threw v w) = e
  lifted-stays d e PassesCells = tt

  ticks-stay : (c : Common) → c.activations ≡ acts → (depth n : ℕ) → Stays acts (ticks c depth n)
  ticks-stay c e depth zero = tt
  ticks-stay c e depth (suc n) =
      let d : Common = record c { ticks = n } in
      in-if (nat_le depth most_frames) (Stays acts) (Gives [] d) (lifted d (panics d.world StackOverflow)) (λ b. e) (λ b. lifted-stays d e (panics d.world StackOverflow))

  checked-stays : (d : Common) (effect : Effect) → Stays acts effect → Stays acts (checked d effect)
  checked-stays d effect h = in-if (nat_le (cells d.world.heap) most_cells) (Stays acts) effect (Beyond Cells) (λ b. h) (λ b. tt)

  starts-stay : (d : Common) → d.activations ≡ acts → (role : Option Role) (unit : ℕ) (args : List Value) → Stays acts (starts d role unit args)
  starts-stay d e role unit args =
      in-if (nat_lt (length d.strands) most_strands) (Stays acts) (Spawns (record { unit = unit; args = args; role = None } ∷ []) role (Future (length d.strands) unit ∷ []) (strand_made unit None d)) (Beyond Strands) (λ b. e) (λ b. tt)

  flushes-stay : (c : Common) → c.activations ≡ acts → (r : Role) (to : ℕ) → Stays acts (flushes c r to)
  flushes-stay c e r to =
      in-if (nat_le (channel_at c r.activation r.worker to).sent (channel_at c r.activation r.worker to).received) (Stays acts) (Gives (Nil ∷ []) c) (flushes_end c r to (channel_at c r.activation r.worker to).sent (worker_end c r.activation to)) (λ b. e) (λ b. by (worker_end c r.activation to))
    where
      by : (o : Option End) → Stays acts (flushes_end c r to (channel_at c r.activation r.worker to).sent o)
      by (Some (Returned v)) = e
      by (Some (Panicked v)) = e
      by None = tt

  took-stays : (c : Common) → c.activations ≡ acts → (t : Target) → (took c t).activations ≡ acts
  took-stays c e t = in-if t.is_worker (λ x. x.activations ≡ acts) c _ (λ b. e) (λ b. e)

  ended-stays : (c : Common) → c.activations ≡ acts → (t : Target) (end : End) → Stays acts (gives_end c t end)
  ended-stays c e t end = in-if (is_taken c t) (Stays acts) (lifted c (gives_error c.world future_taken)) (ends_with (took c t) end) (λ b. lifted-stays c e (gives_error c.world future_taken)) (λ b. by end)
    where
      by : (end : End) → Stays acts (ends_with (took c t) end)
      by (Returned v) = took-stays c e t
      by (Panicked v) = took-stays c e t

  waits-stay : (c : Common) → c.activations ≡ acts → (t : Target) → Stays acts (waits c t)
  waits-stay c e t = by (end_of c t.strand)
    where
      by : (o : Option End) → Stays acts (waits_for c t o)
      by (Some end) = ended-stays c e t end
      by None = tt

  any-stays : (c : Common) → c.activations ≡ acts → (ts : List Target) → Stays acts (waits_any c ts)
  any-stays c e ts =
      in-if (met c (AnyGiven (strands_in ts))) (Stays acts) (gives_chosen c (chosen c (filter (λ t. has_success c t.strand) ts) ts)) (Waits (AnyGiven (strands_in ts))) (λ b. by (chosen c (filter (λ t. has_success c t.strand) ts) ts)) (λ b. tt)
    where
      by : (o : Option Target) → Stays acts (gives_chosen c o)
      by (Some t) = waits-stay c e t
      by None = tt

  abbrev CollectedStays : Collected → Type 0
  CollectedStays (Results rs d) = d.activations ≡ acts
  CollectedStays (FirstPanic v d) = d.activations ≡ acts

  behind-stays : (v : Option Value) (x : Collected) → CollectedStays x → CollectedStays (behind v x)
  behind-stays v (Results rs d) h = h
  behind-stays v (FirstPanic w d) h = h

  collects-stay : (ts : List Target) (d : Common) → d.activations ≡ acts → CollectedStays (collects ts d)
  collects-stay [] d e = e
  collects-stay (t ∷ ts) d e = by (end_of d t.strand) (collects-stay ts d e) (collects-stay ts (took d t) (took-stays d e t))
    where
      by : (o : Option End) → CollectedStays (collects ts d) → CollectedStays (collects ts (took d t)) → CollectedStays (collects_end (collects ts) d t o)
      by (Some (Returned v)) h k = in-if (is_taken d t) CollectedStays (behind None (collects ts d)) (behind (Some v) (collects ts (took d t))) (λ b. behind-stays None (collects ts d) h) (λ b. behind-stays (Some v) (collects ts (took d t)) k)
      by (Some (Panicked v)) h k = in-if (is_taken d t) CollectedStays (behind None (collects ts d)) (FirstPanic v (took d t)) (λ b. behind-stays None (collects ts d) h) (λ b. took-stays d e t)
      by None h k = behind-stays None (collects ts d) h

  all-stays : (c : Common) → c.activations ≡ acts → (atom : ℕ) (names : List Text) (ts : List Target) → Stays acts (waits_all c atom names ts)
  all-stays c e atom names ts =
      in-if (met c (AllEnded (strands_in ts))) (Stays acts) (gives_results atom names (collects ts c)) (Waits (AllEnded (strands_in ts))) (λ b. by (collects ts c) (collects-stay ts c e)) (λ b. tt)
    where
      by : (x : Collected) → CollectedStays x → Stays acts (gives_results atom names x)
      by (Results rs d) h = lifted-stays d h _
      by (FirstPanic v d) h = h

module _ (facts : ProgramFacts) (natives : Answers) (vs : List Value) (caller : Caller) (c : Common) (effect : Effect) where
  abbrev acts : List Activation
  acts = c.activations

  so : (other : Effect) → effect ≡ other → Stays acts other → Stays acts effect
  so other e h = subst (Stays acts) (sym e) h

  only : (came : Came) → effect ≡ lifted c came → Stays acts effect
  only came e = so _ e (lifted-stays acts c refl came)

  world : {P : Came → Type 0} → (came : Came) × P came × (effect ≡ lifted c came) → Stays acts effect
  world (came, p, e) = only came e

  pub performs-stays : (op : Operation) → IsQuiet op → Performs facts natives op vs caller c effect → Stays acts effect
  performs-stays (Const k) q h = absurd h
  performs-stays (Load slot) q h = in-none vs h (λ none e. only _ e)
  performs-stays (Store slot) q h = absurd h
  performs-stays Pop q h = absurd h
  performs-stays (LoadModule m) q h = in-none vs h (λ none k. in-some (slice_get c.variables m) k (λ held is e. only _ e))
  performs-stays (StoreModule m) q h = in-one vs h (λ v is k. in-some (slice_get c.variables m) k (λ held there e. so _ e refl))
  performs-stays Tick q h = in-none vs h (λ none e. so _ e (ticks-stay acts c refl caller.depth c.ticks))
  performs-stays Add q h = in-two vs h (λ a b k. in-int a k (λ x k. in-int b k (λ y k. world k)))
  performs-stays Subtract q h = in-two vs h (λ a b k. in-int a k (λ x k. in-int b k (λ y k. world k)))
  performs-stays Multiply q h = in-two vs h (λ a b k. in-int a k (λ x k. in-int b k (λ y k. world k)))
  performs-stays Divide q h = in-two vs h (λ a b k. in-int a k (λ x k. in-int b k (λ y k. world k)))
  performs-stays Remainder q h = in-two vs h (λ a b k. in-int a k (λ x k. in-int b k (λ y k. world k)))
  performs-stays Negate q h = in-one vs h (λ v is k. in-int v k (λ x k. world k))
  performs-stays Concat q h = in-two vs h (λ a b k. in-string a k (λ s k. in-string b k (λ t k. world k)))
  performs-stays Less q h = in-two vs h (λ a b k. world k)
  performs-stays LessEqual q h = in-two vs h (λ a b k. world k)
  performs-stays Not q h = in-one vs h (λ v is k. in-boolean v k (λ b e. only (gives c.world (Truth (not b))) e))
  performs-stays Equal q h = in-two vs h (λ a b k. world k)
  performs-stays Same q h = in-two vs h (λ a b k. world k)
  performs-stays (Test t) q h = in-one vs h (λ v is k. world k)
  performs-stays (Cast t) q h = in-one vs h (λ v is k. world k)
  performs-stays (MakeList atom immutable count) q e = only _ e
  performs-stays (MakeMapping atom immutable count) q h = world h
  performs-stays (MakeError count) q h = in-more vs h (λ m more k. in-string m k (λ message k. in-more more k (λ cause details k. world k)))
  performs-stays (MakeFunction unit count) q e = only _ e
  performs-stays GetItem q h = in-two vs h (λ l i k. in-structure l k (λ n k. in-int i k (λ x k. world k)))
  performs-stays GetKey q h = in-two vs h (λ m k h. in-structure m h (λ n h. in-string k h (λ key h. world h)))
  performs-stays GetChar q h = in-two vs h (λ s i k. in-string s k (λ t k. in-int i k (λ x e. only _ e)))
  performs-stays (GetField name) q h = in-one vs h (λ v is k. in-structure v k (λ n k. world k))
  performs-stays (GetOptional name) q h = in-one vs h (λ v is k. world k)
  performs-stays SetItem q h = in-three vs h (λ l i v k. in-structure l k (λ n k. in-int i k (λ x k. world k)))
  performs-stays SetKey q h = in-three vs h (λ m k v h. in-structure m h (λ n h. in-string k h (λ key h. world h)))
  performs-stays (Call unit count) q e = so _ e refl
  performs-stays (CallValue count) q h =
      in-more vs h (λ f args k. in-function f k (λ n k. in-some (slice_get c.world.heap.functions n) k (λ o there k. in-some (slice_get facts.units o.unit) k (λ u is e.
      so _ e (checked-stays acts (with_arguments c u args) (Enters o.unit (arguments c o u args) (with_arguments c u args)) refl)))))
  performs-stays (Library call atom count) q h = world h
  performs-stays Return q h = in-one vs h (λ v is e. so _ e tt)
  performs-stays Panic q h = in-one vs h (λ v is k. in-error v k (λ n e. so _ e refl))
  performs-stays (Start unit count) q e = so _ e (starts-stay acts c refl caller.role unit vs)
  performs-stays (StartValue count) q h =
      in-more vs h (λ f args k. in-function f k (λ n k. in-some (slice_get c.world.heap.functions n) k (λ o there k. in-some (slice_get facts.units o.unit) k (λ u is e.
      let d = with_arguments c u args in
      so _ e (checked-stays acts d (starts d caller.role o.unit (arguments c o u args)) (starts-stay acts d refl caller.role o.unit (arguments c o u args)))))))
  performs-stays Workers q h = absurd q
  performs-stays (Send w) q h = absurd q
  performs-stays (Post w) q h = absurd q
  performs-stays (Receive w) q h = absurd q
  performs-stays (Done w) q h = in-none vs h (λ none k. in-some caller.role k (λ r role e. so _ e (flushes-stay acts c refl r w)))
  performs-stays (Flush w) q h = in-none vs h (λ none k. in-some caller.role k (λ r role e. so _ e (flushes-stay acts c refl r w)))
  performs-stays (WaitWorker w) q h = in-none vs h (λ none k. in-some caller.role k (λ r role k. in-some (worker_target c r w) k (λ t is e. so _ e (waits-stay acts c refl t))))
  performs-stays WaitFuture q h = in-one vs h (λ f is k. in-future f k (λ n unit same e. so _ e (waits-stay acts c refl (future_target n))))
  performs-stays (WaitAny names) q h = in-some (targets c caller.role names vs) h (λ ts is e. so _ e (any-stays acts c refl ts))
  performs-stays (WaitAll atom names) q h =
      in-some (slice_get facts.atoms atom) h (λ d there k. in-some (targets c caller.role names vs) k (λ ts is e. so _ e (all-stays acts c refl atom (field_names d) ts)))
