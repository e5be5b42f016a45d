-- The best of several strands.
use Rattle.std.proofs.Common.{◌≡◌, List, [], ◌∷◌, Option, Some, None, refl}
use Rattle.op_model.specs.Common.{Common}
use Rattle.op_model.specs.Waits.{Target, chosen, earlier, later}
use Rattle.plain_run.proofs.Looking.{get-past, get-there}
use Rattle.plain_strands.specs.Choices.{best_of, better_of}

pub best-more : (better : Target → Target → Target) (best : Option Target) (t : Target) (ts : List Target) → best_of better (Some (better_of better best t)) ts ≡ best_of better best (t ∷ ts)
best-more better (Some b) t ts = refl
best-more better None t ts = refl

pub best-same : (better : Target → Target → Target) (best : Option Target) → best ≡ best_of better best []
best-same better (Some t) = refl
best-same better None = refl

-- the first one that succeeded, else the last one
module _ (c : Common) (some all : List Target) where
  pub chosen-first : (t : Target) → Some t ≡ best_of (earlier c) None some → Some t ≡ chosen c some all
  chosen-first t e = by some e
    where
      by : (ts : List Target) → Some t ≡ best_of (earlier c) None ts → Some t ≡ chosen c ts all
      by [] e = absurd (let bad : ⊥ = cc in bad)
      by (u ∷ ts) e = e

  pub chosen-last : None ≡ best_of (earlier c) None some → best_of (later c) None all ≡ chosen c some all
  chosen-last e = by some all e
    where
      by : (ts us : List Target) → None ≡ best_of (earlier c) None ts → best_of (later c) None us ≡ chosen c ts us
      by [] [] e = refl
      by [] (u ∷ us) e = refl
      by (t ∷ ts) us e = absurd (let bad : ⊥ = cc in bad)

pub ruleset choosing = (best-more, best-same, chosen-first, chosen-last, get-there, get-past)
