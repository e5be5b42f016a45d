-- Which of several strands is chosen, and what comes of all of them.
use Rattle.std.specs.Prelude.{ℕ, Bool, true, false, List, [], ◌∷◌, Option, Some, None, fold}
use Rattle.op_model.specs.Common.{Common, Role}
use Rattle.op_model.specs.Strands.{has_success}
use Rattle.op_model.specs.Waits.{Target, worker_target}

-- the list, where all are there
abbrev pub if_all : {A : Type 0} → Bool → A → Option A
if_all true xs = Some xs
if_all false xs = None

-- the best of these, beside one that may be there already
abbrev pub best_of : (Target → Target → Target) → Option Target → List Target → Option Target
best_of better (Some t) ts = Some (fold better t ts)
best_of better None (t ∷ ts) = Some (fold better t ts)
best_of better None [] = None

-- the one, beside one that may be there already
abbrev pub better_of : (Target → Target → Target) → Option Target → Target → Target
better_of better (Some t) u = better t u
better_of better None u = u

abbrev pub succeeded : Common → Target → Bool
succeeded c t = has_success c t.strand

abbrev pub worker_named : Common → Option Role → ℕ → Option Target
worker_named c (Some r) worker = worker_target c r worker
worker_named c None worker = None
