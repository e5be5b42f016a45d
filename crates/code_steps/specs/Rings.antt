-- Ways from strand to strand.
use Rattle.std.specs.Prelude.{◌==◌, ◌≢◌, ℕ, Bool, List, AllPairs}
use Rattle.op_model.specs.Common.{Common}
use Rattle.machine_model.specs.Outcomes.{IsRing, Leads, awaited}
use Rattle.code_steps.specs.declared.stalls.Way.{Way}
use Rattle.code_steps.specs.declared.stalls.Way.TheVariants.{Stops, Returns}

abbrev pub is_number : ℕ → ℕ → Bool
is_number n m = m == n

-- each of these waits for the next, from strand 0 on, and the last one for this; none comes twice
abbrev pub IsWay : Common → List ℕ → ℕ → Type 0
IsWay c way n = Leads (awaited c) 0 way n × AllPairs (λ x y. x ≢ y) way

-- where the way from strand 0 leads
abbrev pub LeadsFrom : Common → Way → Type 0
LeadsFrom c (Returns ring) = IsRing c ring.items
LeadsFrom c Stops = (ring : List ℕ) → ¬ (IsRing c ring)
