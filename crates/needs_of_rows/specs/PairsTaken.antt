-- What it means that operands are taken in pairs.
use Rattle.std.specs.Prelude.{◌≡◌, ℕ, List, Option, Some, None}
use Rattle.type_model.specs.declared.basic.SemType.{SemType}
use Rattle.code_needs.specs.Combining.{Needs, in_pairs}
use Rattle.pair_questions.specs.declared.pair.Pair.{Pair}
use Rattle.pair_questions.specs.Pairs.{pairs_of}

-- these are the pairs; or there aren't so many
abbrev pub TakesPairs : ℕ → List SemType → Option (List Pair) → Type 0
TakesPairs count operands (Some pairs) = (f : List (SemType × SemType) → Needs) → in_pairs count operands f ≡ f (pairs_of pairs)
TakesPairs count operands None = (f : List (SemType × SemType) → Needs) → in_pairs count operands f ≡ None
