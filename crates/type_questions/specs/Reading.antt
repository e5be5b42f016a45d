-- What a call that reads a word answers.
use Rattle.std.specs.Prelude.{◌≡◌, ◌⊎◌, ℕ, List, [], Result, Ok, Err, ⊤, false}
use Rattle.bal_base.specs.declared.fault.Fault.{Fault}
use Rattle.bal_base.specs.declared.fault.FaultCode.TheVariants.{Depth}
use Rattle.bal_base.specs.declared.stop.Stop.{Stop}
use Rattle.bal_base.specs.declared.stop.Stop.TheVariants.{Memory, Fault as OwnFault}
use Rattle.bal_base.specs.declared.token.Token.{Token}
use Rattle.bal_tree.specs.Reads.{ReadsType}
use Rattle.bal_tree.specs.declared.types.TypeTree.{TypeTree}
use Rattle.parse_types.specs.Starts.{IsTooDeep, StartsType}
use Rattle.type_questions.specs.Words.{HasNoType, IsShallow, IsType, at_start}

-- the word's descriptor, or the fault that it has; nothing is said of want of memory
abbrev pub IsOfWord : ℕ → List ℕ → Result TypeTree (Stop Fault) → Type 0
IsOfWord file text (Ok tree) = IsType file text tree
IsOfWord file text (Err (OwnFault fault)) = HasNoType file text fault
IsOfWord file text (Err Memory) = ⊤

-- the same by its tokens
abbrev pub IsOfTokens : ℕ → List Token → Result TypeTree (Stop Fault) → Type 0
IsOfTokens file tokens (Ok tree) = IsShallow tokens × ReadsType file tokens tree []
IsOfTokens file tokens (Err (OwnFault fault)) =
    IsTooDeep file tokens fault ⊎ (IsShallow tokens × (StartsType false tokens [] → ⊥) × (fault ≡ at_start file))
IsOfTokens file tokens (Err Memory) = ⊤

-- a fault of depth stays, and any other one is at the start
abbrev pub IsTold : ℕ → Fault → Fault → Type 0
IsTold file fault told = ((fault.code ≡ Depth) × (told ≡ fault)) ⊎ ((¬ (fault.code ≡ Depth)) × (told ≡ at_start file))
