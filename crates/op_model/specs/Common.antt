-- What all frames of a run share: strands, workers and their messages, variables, and the world.
use Rattle.std.specs.Prelude.{ℕ, Bool, List, [], Option}
use Rattle.value_model.specs.declared.value.Value.{Value}
use Rattle.value_model.specs.World.{World}

-- a worker of an activation of a function; the default worker is 0, and the named ones follow in text order
pub record Role : Type 0 where
  pub activation : ℕ
  pub worker : ℕ

-- how a strand or a worker ended
pub data End : Type 0 where
  Returned : Value → End
  Panicked : Value → End

-- what a blocked strand needs
pub data Need : Type 0 where
  -- a message from a worker to a worker, or the end of the first
  Message : (activation from to : ℕ) → Need
  -- that so many messages were received from a worker by a worker, or the end of the second
  Received : (activation from to count : ℕ) → Need
  -- that all these strands have ended
  AllEnded : List ℕ → Need
  -- that an alternate wait on these strands can be done
  AnyGiven : List ℕ → Need

pub data Status : Type 0 where
  -- it runs, or is ready to run
  IsActive : Status
  IsBlocked : Need → Status
  -- it has ended so, after so many others
  IsEnded : ℕ → End → Status

-- a strand is the future of its result as well, by its number
pub record Strand : Type 0 where
  -- the unit that its first frame is of; on strand 0 it is that of main, which may come behind others
  pub unit : ℕ
  -- the named worker that it was made for
  pub role : Option Role
  pub status : Status
  -- its result was taken by a wait
  pub taken : Bool

-- what was sent from a worker to a worker of one activation
pub record Channel : Type 0 where
  pub sent : ℕ
  pub received : ℕ
  pub queue : List Value

-- a call of a function with named workers, from when they are started
pub record Activation : Type 0 where
  -- the unit of the function
  pub unit : ℕ
  -- each worker's strand
  pub strands : List ℕ
  -- how each worker ended, where it has
  pub ends : List (Option End)
  -- by the sender and then by the receiver
  pub channels : List (List Channel)

pub record Common : Type 0 where
  pub world : World
  pub strands : List Strand
  pub activations : List Activation
  -- the module variables; one that was not initialised yet has no value
  pub variables : List (Option Value)
  -- the strands that can be picked, in the order in which they became ready
  pub ready : List ℕ
  pub running : ℕ
  -- the units that strand 0 still has to run, each with its arguments
  pub to_run : List (ℕ × List Value)
  pub ticks : ℕ
  pub picks : ℕ

-- what an operation knows of the frame that asks: its unit, which worker it is, and how many frames its strand has
pub record Caller : Type 0 where
  pub unit : ℕ
  pub role : Option Role
  pub depth : ℕ
