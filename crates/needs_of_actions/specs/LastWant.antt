-- What is wanted of a message.
use Rattle.std.specs.Prelude.{Bool, true, false, List, Option}
use Rattle.flow_narrowing.specs.Flows.{AreSame}
use Rattle.typed_tree.specs.SharedTypes.{Shared}
use Rattle.expr_needs.specs.declared.expected.Expected.{Expected}
use Rattle.expr_needs.specs.declared.expected.Expected.TheVariants as expected
use Rattle.check_words.specs.State.{IsLast}

-- the last of what is wanted, by this handle
abbrev pub IsWantedBy : List (Option Shared) → Option Shared → Type 0
IsWantedBy wants want = (w : Option Shared) × IsLast wants w × AreSame w want

-- whether what is wanted says what is expected
abbrev pub is_stated : Expected → Bool
is_stated expected.Wanted = true
is_stated expected.Nothing = false
is_stated expected.Immutable = false
