-- What comes of a run.
use Rattle.std.specs.Prelude.{◌≡◌, ◌≢◌, ◌+◌, ◌++◌, ℕ, List, [], ◌∷◌, Option, Some, None, IsSomeAnd, AllPairs, slice_get, if◌then◌else◌}
use Rattle.bal_base.specs.declared.fault.LimitKind.{LimitKind}
use Rattle.bal_base.specs.declared.text.Text.{Text}
use Rattle.value_model.specs.declared.value.Value.{Value}
use Rattle.value_model.specs.declared.value.Value.TheVariants.{Nil, Error}
use Rattle.value_model.specs.Meaning.{Answers}
use Rattle.op_model.specs.Common.{Common, End, Returned, Panicked, Need, Message, Received, AllEnded, AnyGiven, Status, IsActive, IsBlocked, IsEnded}
use Rattle.op_model.specs.Strands.{activation_at, end_of, has_ended, strand_at}
use Rattle.machine_model.specs.Machine.{Machine, State}
use Rattle.machine_model.specs.Runs.{Picking, Stop, Over, TicksSpent, PastLimit, Runs, start}

-- ---- the ring of a stall

abbrev pub strand_of_worker : Common → ℕ → ℕ → Option ℕ
strand_of_worker c activation worker = slice_get (activation_at c activation).strands worker

abbrev pub first_unended : Common → List ℕ → Option ℕ
first_unended c [] = None
first_unended c (n ∷ ns) = if has_ended c n then first_unended c ns else Some n

-- the strand that a blocked strand waits for, by the first name that has not ended
abbrev pub awaited_by : Common → Need → Option ℕ
awaited_by c (Message a from to) = strand_of_worker c a from
awaited_by c (Received a from to count) = strand_of_worker c a to
awaited_by c (AllEnded ns) = first_unended c ns
awaited_by c (AnyGiven ns) = first_unended c ns

abbrev pub awaited_in : Common → Status → Option ℕ
awaited_in c IsActive = None
awaited_in c (IsBlocked need) = awaited_by c need
awaited_in c (IsEnded place end) = None

abbrev pub awaited : Common → ℕ → Option ℕ
awaited c n = awaited_in c (strand_at c n).status

-- the numbers from the one on, each followed by what it waits for, up to before the other
abbrev pub Leads : (ℕ → Option ℕ) → ℕ → List ℕ → ℕ → Type 0
Leads next n [] m = n ≡ m
Leads next n (x ∷ xs) m = (x ≡ n) × IsSomeAnd (next n) (λ k. Leads next k xs m)

-- from strand 0 on each waits for the next, up to the first one of a ring, whose last one waits for its first one
pub record IsRing (c : Common) (ring : List ℕ) : Type 0 where
  pub way : List ℕ
  pub first : ℕ
  pub rest : List ℕ
  pub some : ring ≡ first ∷ rest
  pub leads : Leads (awaited c) 0 way first
  pub closes : Leads (awaited c) first ring first
  pub once : AllPairs (λ x y. x ≢ y) (way ++ ring)

-- ---- ends

pub data Ending : Type 0 where
  ReturnsNil : Ending
  -- main, or an initialiser, returned an error with this message
  ReturnsError : Text → Ending
  -- strand 0 ended by a panic with this message
  Panics : Text → Ending
  -- strand 0 has not ended, and no strand is ready: each of these waits for the next, and the last one for the first
  Stalls : List ℕ → Ending
  -- all ticks are spent, and the next step needs one
  GoesOn : Ending
  -- the next step would pass a limit
  Passes : LimitKind → Ending

abbrev pub HasMessage : Common → Value → (Text → Type 0) → Type 0
HasMessage c (Error n) P = IsSomeAnd (slice_get c.world.heap.errors n) (λ e. P e.message)
HasMessage c _ P = ⊥

-- how strand 0 ended, where it has
abbrev pub IsMainEnd : Common → Option End → Ending → Type 0
IsMainEnd c (Some (Returned Nil)) ending = ending ≡ ReturnsNil
IsMainEnd c (Some (Returned v)) ending = HasMessage c v (λ message. ending ≡ ReturnsError message)
IsMainEnd c (Some (Panicked e)) ending = HasMessage c e (λ message. ending ≡ Panics message)
IsMainEnd c None ending = (ring : List ℕ) × IsRing c ring × (ending ≡ Stalls ring)

abbrev pub IsEnding : Stop → Common → Ending → Type 0
IsEnding Over c ending = IsMainEnd c (end_of c 0) ending
IsEnding TicksSpent c ending = ending ≡ GoesOn
IsEnding (PastLimit limit) c ending = ending ≡ Passes limit

pub record Outcome : Type 0 where
  pub ending : Ending
  pub output : List ℕ
  -- what of the input was not read
  pub rest : List ℕ
  -- how many ticks were spent, and how many picks made
  pub spent : ℕ
  pub picks : ℕ

-- what comes of a run that was given so many ticks and stops so
pub record ComesTo (ticks : ℕ) (stop : Stop) (c : Common) (o : Outcome) : Type 0 where
  pub ending : IsEnding stop c o.ending
  pub output : o.output ≡ c.world.output
  pub rest : o.rest ≡ c.world.input
  pub spent : o.spent + c.ticks ≡ ticks
  pub picks : o.picks ≡ c.picks

-- under this order and with so many ticks, a run on these words and this input has this outcome, in so many steps
abbrev pub IsAllowed : {C : Type 0} → Answers → Machine C → List Text → List ℕ → List ℕ → ℕ → ℕ → Outcome → Type 0
IsAllowed {C} natives M words input order ticks n o =
    (s : State C) × (stop : Stop) × (c : Common) × (start M words input ticks ≡ Some s)
    × Runs natives M Picking n s order stop c × ComesTo ticks stop c o
