-- Strands that are blocked and strands that have ended, as they are held.
use Rattle.std.specs.Prelude.{Bool, true, false, List, [], ◌∷◌, ◌++◌, ◌+◌, ℕ, if◌then◌else◌, nat_eq, nat_lt}
use Rattle.plain_run.specs.declared.held.Status.{Status}
use Rattle.plain_run.specs.declared.held.Status.TheVariants.{Active, Blocked, Ended}
use Rattle.plain_run.specs.declared.held.Strand.{Strand}

abbrev pub is_blocked : Status → Bool
is_blocked Active = false
is_blocked (Blocked need) = true
is_blocked (Ended place end) = false

-- one, where it is an end
abbrev pub ended_by : Status → ℕ
ended_by Active = 0
ended_by (Blocked need) = 0
ended_by (Ended place end) = 1

-- the number, where it is listed
abbrev pub listed_if : Bool → ℕ → List ℕ
listed_if true n = n ∷ []
listed_if false n = []

-- the numbers of those that are blocked, where the first strand has this number
abbrev pub blocked_from : ℕ → List Strand → List ℕ
blocked_from n [] = []
blocked_from n (s ∷ ss) = listed_if (is_blocked s.status) n ++ blocked_from (n + 1) ss

-- rising numbers, among which this one is or is not from now on
abbrev pub noted : ℕ → Bool → List ℕ → List ℕ
noted n is [] = listed_if is n
noted n is (m ∷ ms) = if nat_lt m n then m ∷ noted n is ms else listed_if is n ++ (if nat_eq m n then ms else m ∷ ms)
