-- What each operation comes to, as far as strands and workers are concerned.
use Rattle.std.proofs.Common.{◌≡◌, ◌++◌, ◌&&◌, ◌∙◌, ℕ, ℤ, Bool, true, false, List, [], ◌∷◌, Option, Some, None, IsSomeAnd, length, refl, ap, ◌⊎◌}
use Rattle.std.specs.Prelude.{⊤, if◌then◌else◌, is_some, nat_le, slice_get}
use Rattle.bal_base.specs.declared.text.Text.{Text}
use Rattle.operations.specs.declared.operation.Operation.{Operation}
use Rattle.operations.specs.declared.operation.Operation.TheVariants.{Workers, Done, Receive, Flush, WaitWorker, WaitFuture, WaitAny, WaitAll}
use Rattle.value_model.specs.declared.value.Value.{Value}
use Rattle.value_model.specs.declared.value.Value.TheVariants.{Nil, Bool as Truth, Int, Str, Struct, Error, Function, Future}
use Rattle.op_model.specs.CallRows.{new_activation, strands_made, workers_from}
use Rattle.op_model.specs.Common.{Caller, Common, End, Need, Message, Received, AllEnded, AnyGiven, Role}
use Rattle.op_model.specs.Effects.{Effect, Gives, Fails, Waits, Enters, Leaves, Spawns, NoTick, Beyond, Spawned}
use Rattle.op_model.specs.ProgramFacts.{ProgramFacts, WorkerFacts}
use Rattle.op_model.specs.Messages.{flushes, flushes_end, receives, receives_end, receives_from}
use Rattle.op_model.specs.Operands.{NoOperand, One, Two, Three, OneAndMore, AnInt, AString, ABoolean, AStructure, AnError, AFunction, AFuture}
use Rattle.op_model.specs.Performs.{AsWorker}
use Rattle.op_model.specs.Strands.{channel_at, end_of, has_ended, is_there, met, settled, strand_made, worker_end}
use Rattle.op_model.specs.Waits.{Target, strands_in, targets, waits, waits_for, worker_target}
use Rattle.machine_model.specs.Strands.{role_of}
use Rattle.machine_model.proofs.Alike.{Alike, Calm, or-both}

-- ---- what is on its operands

module _ {X : Type 0} where
  pub in-none : (vs : List Value) {P : Type 0} → NoOperand vs P → (vs ≡ [] → P → X) → X
  in-none [] h k = k refl h
  in-none (v ∷ vs) h k = absurd h

  pub in-one : (vs : List Value) {P : Value → Type 0} → One vs P → ((v : Value) → vs ≡ v ∷ [] → P v → X) → X
  in-one (v ∷ []) h k = k v refl h
  in-one _ h k = absurd h

  pub in-two : (vs : List Value) {P : Value → Value → Type 0} → Two vs P → ((v w : Value) → P v w → X) → X
  in-two (v ∷ w ∷ []) h k = k v w h
  in-two _ h k = absurd h

  pub in-three : (vs : List Value) {P : Value → Value → Value → Type 0} → Three vs P → ((v w x : Value) → P v w x → X) → X
  in-three (v ∷ w ∷ x ∷ []) h k = k v w x h
  in-three _ h k = absurd h

  pub in-more : (vs : List Value) {P : Value → List Value → Type 0} → OneAndMore vs P → ((v : Value) (ws : List Value) → P v ws → X) → X
  in-more (v ∷ ws) h k = k v ws h
  in-more [] h k = absurd h

  pub in-int : (v : Value) {P : ℤ → Type 0} → AnInt v P → ((n : ℤ) → P n → X) → X
  in-int (Int n) h k = k n h
  in-int _ h k = absurd h

  pub in-string : (v : Value) {P : Text → Type 0} → AString v P → ((t : Text) → P t → X) → X
  in-string (Str t) h k = k t h
  in-string _ h k = absurd h

  pub in-boolean : (v : Value) {P : Bool → Type 0} → ABoolean v P → ((b : Bool) → P b → X) → X
  in-boolean (Truth b) h k = k b h
  in-boolean _ h k = absurd h

  pub in-structure : (v : Value) {P : ℕ → Type 0} → AStructure v P → ((n : ℕ) → P n → X) → X
  in-structure (Struct n) h k = k n h
  in-structure _ h k = absurd h

  pub in-error : (v : Value) {P : ℕ → Type 0} → AnError v P → ((n : ℕ) → P n → X) → X
  in-error (Error n) h k = k n h
  in-error _ h k = absurd h

  pub in-function : (v : Value) {P : ℕ → Type 0} → AFunction v P → ((n : ℕ) → P n → X) → X
  in-function (Function n) h k = k n h
  in-function _ h k = absurd h

  pub in-future : (v : Value) {P : ℕ → Type 0} → AFuture v P → ((n unit : ℕ) → v ≡ Future n unit → P n → X) → X
  in-future (Future n unit) h k = k n unit refl h
  in-future _ h k = absurd h

  pub in-some : {A : Type 0} (o : Option A) {P : A → Type 0} → IsSomeAnd o P → ((a : A) → o ≡ Some a → P a → X) → X
  in-some (Some a) h k = k a refl h
  in-some None h k = absurd h

pub in-if : {A : Type 0} (b : Bool) (P : A → Type 0) (x y : A) → (b ≡ true → P x) → (b ≡ false → P y) → P (if b then x else y)
in-if true P x y h k = h refl
in-if false P x y h k = k refl

-- ---- shapes

module _ (facts : ProgramFacts) where
  -- by which need an operation waits, whether or not it is met
  abbrev pub WaitsAs : Operation → List Value → Caller → Common → Need → Type 0
  WaitsAs (Receive w) vs caller c need = NoOperand vs (AsWorker caller (λ r. need ≡ Message r.activation w r.worker))
  WaitsAs (Done w) vs caller c need = NoOperand vs (AsWorker caller (λ r. need ≡ Received r.activation r.worker w (channel_at c r.activation r.worker w).sent))
  WaitsAs (Flush w) vs caller c need = NoOperand vs (AsWorker caller (λ r. need ≡ Received r.activation r.worker w (channel_at c r.activation r.worker w).sent))
  WaitsAs (WaitWorker w) vs caller c need = NoOperand vs (AsWorker caller (λ r. IsSomeAnd (worker_target c r w) (λ t. need ≡ AllEnded (t.strand ∷ []))))
  WaitsAs WaitFuture vs caller c need = One vs (λ f. AFuture f (λ n. need ≡ AllEnded (n ∷ [])))
  WaitsAs (WaitAny names) vs caller c need = IsSomeAnd (targets c caller.role names vs) (λ ts. need ≡ AnyGiven (strands_in ts))
  WaitsAs (WaitAll atom names) vs caller c need =
      IsSomeAnd (slice_get facts.atoms atom) (λ d. IsSomeAnd (targets c caller.role names vs) (λ ts. need ≡ AllEnded (strands_in ts)))
  WaitsAs op vs caller c need = ⊥

  -- a strand is made for a future
  pub record SpawnsOne (caller : Caller) (c : Common) (ss : List Spawned) (role : Option Role) (d : Common) : Type 0 where
    pub one : Spawned
    pub before : Common
    pub is : ss ≡ one ∷ []
    pub no_role : one.role ≡ None
    pub same_role : role ≡ caller.role
    pub calm : Calm caller.role c before
    pub made : d ≡ strand_made one.unit None before

  -- an activation begins, and strands are made for its named workers
  pub record SpawnsCrew (op : Operation) (c : Common) (ss : List Spawned) (role : Option Role) (d : Common) : Type 0 where
    pub starts : op ≡ Workers
    pub unit : ℕ
    pub workers : List WorkerFacts
    pub captured : List Value
    pub are : ss ≡ workers_from (length c.activations) 1 workers captured
    pub new_role : role ≡ Some (role_of (length c.activations) 0)
    pub made : d ≡ strands_made ss (record c { activations = c.activations ++ new_activation c unit (length workers) ∷ [] })

  abbrev pub ShapeOf : Operation → List Value → Caller → Common → Effect → Type 0
  ShapeOf op vs caller c (Gives ws d) = Calm caller.role c d ⊎ ((e : Common) × Alike caller.role c e × (d ≡ settled e))
  ShapeOf op vs caller c (Fails e d) = Alike caller.role c d
  ShapeOf op vs caller c (Waits need) = WaitsAs op vs caller c need × (met c need ≡ false)
  ShapeOf op vs caller c (Enters unit args d) = Calm caller.role c d
  ShapeOf op vs caller c (Leaves v) = ⊤
  ShapeOf op vs caller c (Spawns ss role ws d) = SpawnsOne caller c ss role d ⊎ SpawnsCrew op c ss role d
  ShapeOf op vs caller c NoTick = ⊤
  ShapeOf op vs caller c (Beyond limit) = ⊤

-- ---- no need that is met blocks

no-value : (q : List Value) → is_there q ≡ false → q ≡ []
no-value [] e = refl
no-value (v ∷ q) e = absurd (let no : ⊥ = cc in no)

no-end : (o : Option End) → is_some o ≡ false → o ≡ None
no-end None e = refl
no-end (Some end) e = absurd (let no : ⊥ = cc in no)

pub receives-waits : (c : Common) (r : Role) (w : ℕ) → met c (Message r.activation w r.worker) ≡ false → receives c r w ≡ Waits (Message r.activation w r.worker)
receives-waits c r w unmet =
    let both = or-both (is_there (channel_at c r.activation w r.worker).queue) (is_some (worker_end c r.activation w)) unmet in
    ap (receives_from c r w) (no-value (channel_at c r.activation w r.worker).queue both.0) ∙ ap (receives_end c r w) (no-end (worker_end c r.activation w) both.1)

pub flushes-waits : (c : Common) (r : Role) (w : ℕ) → met c (Received r.activation r.worker w (channel_at c r.activation r.worker w).sent) ≡ false → flushes c r w ≡ Waits (Received r.activation r.worker w (channel_at c r.activation r.worker w).sent)
flushes-waits c r w unmet =
    let x = channel_at c r.activation r.worker w in
    let both = or-both (nat_le x.sent x.received) (is_some (worker_end c r.activation w)) unmet in
    ap (λ b. if b then Gives (Nil ∷ []) c else flushes_end c r w x.sent (worker_end c r.activation w)) both.0 ∙ ap (flushes_end c r w x.sent) (no-end (worker_end c r.activation w) both.1)

first-of : (a b : Bool) → (a && b) ≡ false → b ≡ true → a ≡ false
first-of false b e t = refl
first-of true false e t = absurd (let no : ⊥ = cc in no)
first-of true true e t = e

pub waits-waits : (c : Common) (t : Target) → met c (AllEnded (t.strand ∷ [])) ≡ false → waits c t ≡ Waits (AllEnded (t.strand ∷ []))
waits-waits c t unmet = ap (waits_for c t) (no-end (end_of c t.strand) (first-of (has_ended c t.strand) true unmet refl))
