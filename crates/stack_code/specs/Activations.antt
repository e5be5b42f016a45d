-- What holds of the workers of each activation and of their messages, in each state that well-typed code reaches.
use Rattle.std.specs.Prelude.{◌≡◌, ◌⊎◌, ◌≤◌, ◌<◌, ◌-◌, ◌+◌, ℕ, suc, Option, Some, None, IsSomeAnd, IsTrue, All, is_some, length, slice_get, ⊤}
use Rattle.type_model.specs.declared.basic.SemType.{SemType}
use Rattle.value_model.specs.declared.value.Value.{Value}
use Rattle.op_model.specs.Common.{Common, Activation, Channel, End, Returned, Panicked}
use Rattle.op_model.specs.Strands.{is_error}
use Rattle.stack_code.specs.declared.code.Code.{Code}
use Rattle.stack_code.specs.Frames.{HasReceived, HasSent, channel_in, end_in_call}
use Rattle.stack_code.specs.Messages.{HasAll, IsLast, Leaves, ReceivesAt, SendsAt, worker}
use Rattle.stack_code.specs.Places.{Tally, crew, stack_at}
use Rattle.stack_code.specs.Tables.{UnitAt}
use Rattle.stack_code.specs.Values.{Fits, IsMadeError}

-- a queue is as long as the sends exceed the receives, which are more only where the sender has ended
abbrev pub HasQueue : Option End → Channel → Type 0
HasQueue end x = (length x.queue ≡ x.sent - x.received) × (x.sent < x.received → IsTrue (is_some end))

-- the numbers of messages of a worker, one for each worker
abbrev pub HasTally : Activation → ℕ → Tally → Type 0
HasTally x v t = (length t.sent ≡ length x.ends) × (length t.received ≡ length x.ends) × HasSent x v t.sent × HasReceived x v t.received

module _ (code : Code) (c : Common) where
  -- of a call of the function with the activation's unit: it has all workers, and each named one's strand was made for the
  -- unit that the function names
  pub record IsCallOf (a : ℕ) (x : Activation) : Type 0 where
    pub some : 2 ≤ length (crew code x.unit)
    pub strands : length x.strands ≡ length (crew code x.unit)
    pub ends : length x.ends ≡ length (crew code x.unit)
    pub senders : length x.channels ≡ length (crew code x.unit)
    pub channels : All (λ row. length row ≡ length (crew code x.unit)) x.channels
    pub workers : (w n : ℕ) → slice_get x.strands (suc w) ≡ Some n → IsSomeAnd (slice_get c.strands n) (λ s.
        (s.role ≡ Some (record { activation = a; worker = suc w })) × (slice_get (crew code x.unit) (suc w) ≡ Some s.unit))

  -- ---- queues

  -- a value that comes of the operation at the place
  abbrev pub FitsBehind : Value → ℕ → Type 0
  FitsBehind v q = (t : SemType) → IsLast (stack_at code (q + 1)) t → Fits code c v t

  -- each message of the worker v of the function f to the worker w was sent at a place of its number, and one that is still in
  -- the queue fits behind its own receives
  pub record QueueFits (f v w : ℕ) (x : Channel) : Type 0 where
    pub sent : (k : ℕ) → k < x.sent → (p : ℕ) × SendsAt code f v w k p
    pub fit : (k q : ℕ) (m : Value) → slice_get x.queue k ≡ Some m → ReceivesAt code f v w (x.received + k) q → FitsBehind m q

  -- ---- ends

  -- a worker returned what its unit may; and it has made all its sends and receives, or it returned an error that fits behind
  -- all that it leaves
  abbrev pub WorkerEndFits : (f v : ℕ) → Tally → Option End → Type 0
  WorkerEndFits f v tally (Some (Returned e)) =
      IsSomeAnd (slice_get (crew code f) v) (λ unit. UnitAt code unit (λ u. Fits code c e u.result))
      × (HasAll code (worker code f v) tally
      ⊎ IsTrue (is_error e) × ((w q : ℕ) → Leaves code f v w q tally → FitsBehind e q))
  WorkerEndFits f v tally (Some (Panicked e)) = IsMadeError code c e
  WorkerEndFits f v tally None = ⊤

  pub record GoodActivation (a : ℕ) (x : Activation) : Type 0 where
    pub call : IsCallOf a x
    pub queues : (v w : ℕ) → HasQueue (end_in_call x v) (channel_in x v w) × QueueFits x.unit v w (channel_in x v w)
    pub ends : (v : ℕ) (t : Tally) → v < length x.ends → HasTally x v t → WorkerEndFits x.unit v t (end_in_call x v)

  abbrev pub GoodActivations : Type 0
  GoodActivations = (a : ℕ) (x : Activation) → slice_get c.activations a ≡ Some x → GoodActivation a x
