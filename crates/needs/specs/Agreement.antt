-- Two runs of the same needs come to the same, where two of each need do.
use Rattle.checks.specs.Agreement.{Alike, Corresponds}
use Rattle.checks.specs.Checks.{Check}
use Rattle.typed_tree.specs.Listed.{Listed}
use Rattle.needs.specs.Needs.{all_met}

-- `twins`: which states correspond
module _ {S N : Type 0} (twins : S → S → Type 0) (meets : N → Check S (Unit {0})) where
  -- behind both runs the states correspond
  abbrev pub BehindTwins : Corresponds S (Unit {0}) (Unit {0})
  BehindTwins m u n v = twins m n

  -- from states that correspond two runs of the need agree
  abbrev pub NeedAgrees : N → Type 0
  NeedAgrees need = (m n : S) → twins m n → Alike BehindTwins m n (meets need) (meets need)

  -- and so do two runs of all of these
  abbrev pub NeedsAgree : Type 0
  NeedsAgree = ((need : N) → NeedAgrees need) → (needs : Listed N) (m n : S) → twins m n → Alike BehindTwins m n (all_met meets needs) (all_met meets needs)
