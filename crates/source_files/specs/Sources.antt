-- What the bytes of a source file are read as, and the faults for which it is refused, in the order in which they are looked for. The
-- number is the file's among those of its package.
use Rattle.std.specs.Prelude.{◌≡◌, ◌≤◌, ◌<◌, ◌⊎◌, ℕ, List, Some, None, IfOk, IfSome, Result, length, chars, IsUtf8, IsCharBoundary}
use Rattle.bal_base.specs.Stops.{IfFault}
use Rattle.bal_base.specs.declared.fault.Fault.{Fault as FaultOf}
use Rattle.bal_base.specs.declared.fault.FaultCode.{FaultCode}
use Rattle.bal_base.specs.declared.fault.FaultCode.TheVariants.{FileTooLong, NotUtf8}
use Rattle.bal_base.specs.declared.fault.Kept.TheVariants.{Nothing}
use Rattle.bal_base.specs.declared.limits.TheConstants.{MOST_FILE_BYTES}
use Rattle.bal_base.specs.declared.stop.Stop.{Stop}
use Rattle.bal_base.specs.declared.token.Token.{Token}
use Rattle.bal_lexer.specs.Lexes.{Lexes, Refuses}
use Rattle.bal_tree.specs.declared.def.FileTree.{FileTree}
use Rattle.bal_tree.specs.Reads.{Reads}
use Rattle.bal_tree.specs.Spells.{kinds_of}
use Rattle.parse_types.specs.Nesting.{first_too_deep}
use Rattle.parse_stmt.specs.Chosen.{IsChosen}
use Rattle.parse_stmt.specs.Starts.{IsBroken, IsFileTooDeep, IsNotRefused, IsRefused}

-- ---- what the bytes are

-- a text that is not too long
abbrev pub IsText : List ℕ → Type 0
IsText bytes = (length bytes ≤ MOST_FILE_BYTES) × IsUtf8 bytes

-- such a text, of these tokens
abbrev pub HasTokens : List ℕ → List Token → Type 0
HasTokens bytes tokens = IsText bytes × Lexes (chars bytes) tokens

-- the file with the number reads: no token is too deep, and this is the chosen tree of its tokens
pub record ReadsAs (file : ℕ) (bytes : List ℕ) (tree : FileTree) : Type 0 where
  pub tokens : List Token
  pub are : HasTokens bytes tokens
  pub shallow : first_too_deep (kinds_of tokens) ≡ None
  pub reads : Reads file tokens tree
  pub chosen : IsChosen tree

-- ---- faults

-- the fault with this code at this byte of the file, which shows nothing more
abbrev pub fault_at : ℕ → FaultCode → ℕ → FaultOf
fault_at file code at = record { code = code; at = Some (record { file = file; at = at }); kept = Nothing }

-- at the start: more bytes than a file may have
abbrev pub TooLong : ℕ → List ℕ → FaultOf → Type 0
TooLong file bytes fault = (MOST_FILE_BYTES < length bytes) × (fault ≡ fault_at file FileTooLong 0)

-- at the start: the bytes are no text
abbrev pub NotText : ℕ → List ℕ → FaultOf → Type 0
NotText file bytes fault = (length bytes ≤ MOST_FILE_BYTES) × (¬ (IsUtf8 bytes)) × (fault ≡ fault_at file NotUtf8 0)

-- at the first place where no token stands, or a form that is left out
abbrev pub NotTokens : ℕ → List ℕ → FaultOf → Type 0
NotTokens file bytes fault = IsText bytes × ((code : FaultCode) × (at : ℕ) × Refuses (chars bytes) code at × (fault ≡ fault_at file code at))

-- at the first token that is nested too deeply
abbrev pub TooDeep : ℕ → List ℕ → FaultOf → Type 0
TooDeep file bytes fault = (tokens : List Token) × HasTokens bytes tokens × IsFileTooDeep file tokens fault

-- no token is too deep, and the file goes wrong there
abbrev pub Broken : ℕ → List ℕ → FaultOf → Type 0
Broken file bytes fault = (tokens : List Token) × HasTokens bytes tokens × IsBroken file tokens fault

-- it comes to no tree
abbrev pub HasNoTree : ℕ → List ℕ → FaultOf → Type 0
HasNoTree file bytes fault =
    TooLong file bytes fault
    ⊎ (NotText file bytes fault ⊎ (NotTokens file bytes fault ⊎ (TooDeep file bytes fault ⊎ Broken file bytes fault)))

-- the fault has a place in the text, where a character begins or the text ends
abbrev pub IsPlaced : List ℕ → FaultOf → Type 0
IsPlaced text fault = IfSome fault.at (λ place. IsCharBoundary text place.at × (place.at < 4294967295))

-- what reading the text of a file comes to: a tree, or a fault that it has and that has a place in it; what is so is the answer
pub record IsTreeReading (file : ℕ) (text : List ℕ) (result : Result FileTree (Stop FaultOf)) : Type 0 where
  pub reads : IfOk result (ReadsAs file text)
  pub fault : IfFault result (HasNoTree file text)
  pub placed : IfFault result (IsPlaced text)
  pub fault_due : (f : FaultOf) → HasNoTree file text f → IsRefused result f
  pub tree_due : (tree : FileTree) → ReadsAs file text tree → IsNotRefused result
