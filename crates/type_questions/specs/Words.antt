-- What a word of the command is read as: one whole type descriptor.
use Rattle.std.specs.Prelude.{◌≡◌, ◌⊎◌, ℕ, List, [], Some, None, chars, false}
use Rattle.bal_base.specs.declared.fault.Fault.{Fault}
use Rattle.bal_base.specs.declared.fault.FaultCode.TheVariants.{Syntax}
use Rattle.bal_base.specs.declared.fault.Kept.TheVariants.{Nothing}
use Rattle.bal_base.specs.declared.token.Token.{Token}
use Rattle.bal_lexer.specs.Lexes.{IsRefusal, Lexes}
use Rattle.bal_tree.specs.Reads.{ReadsType}
use Rattle.bal_tree.specs.Spells.{kinds_of}
use Rattle.bal_tree.specs.declared.types.TypeTree.{TypeTree}
use Rattle.checks.specs.Checks.{Check, Gives, Refuses}
use Rattle.parse_types.specs.Nesting.{enclosed, first_too_deep}
use Rattle.parse_types.specs.Starts.{IsTooDeep, StartsType}

-- no token is nested too deeply, of those before a closing bracket that closes nothing
abbrev pub IsShallow : List Token → Type 0
IsShallow tokens = first_too_deep (enclosed 0 (kinds_of tokens)) ≡ None

-- the fault at the start of the word: there is no type, or it isn't all of the word
abbrev pub at_start : ℕ → Fault
at_start file = record { code = Syntax; at = Some (record { file = file; at = 0 }); kept = Nothing }

-- the word with these bytes, by the number that its places have in place of a file's
module _ (file : ℕ) (text : List ℕ) where
  -- its tokens are those of this well-formed descriptor
  pub record IsType (tree : TypeTree) : Type 0 where
    pub tokens : List Token
    pub lexes : Lexes (chars text) tokens
    pub shallow : IsShallow tokens
    pub reads : ReadsType file tokens tree []

  -- 104: at the first token that is nested too deeply
  abbrev pub IsDeep : Fault → Type 0
  IsDeep fault = (tokens : List Token) × Lexes (chars text) tokens × IsTooDeep file tokens fault

  -- 103: at the start, where no descriptor has all tokens
  abbrev pub IsNoType : Fault → Type 0
  IsNoType fault =
      (tokens : List Token) × Lexes (chars text) tokens × IsShallow tokens × (StartsType false tokens [] → ⊥) × (fault ≡ at_start file)

  -- 102 and 105 where the lexer gives them, then 104, then 103
  abbrev pub HasNoType : Fault → Type 0
  HasNoType fault = IsRefusal (chars text) file fault ⊎ (IsDeep fault ⊎ IsNoType fault)

  -- the descriptor that the word is, as a check
  unfoldable pub type_of_word : {S : Type 0} → Check S TypeTree
  type_of_word old (Gives tree) new = IsType tree × (new ≡ old)
  type_of_word old (Refuses fault) new = HasNoType fault × (new ≡ old)
