-- Which words are a good command, and what it asks for.
use Rattle.std.specs.Prelude.{◌≡◌, ◌≤◌, ◌<◌, ◌^◌, ℕ, List, [], ◌∷◌, String, All, IsTrue, chars, codes, length, map, string_bytes, ⊤}
use Rattle.std.specs.Global.{Global}
use Rattle.std.specs.Str.{all_ascii_digits}
use Rattle.std.specs.Str.Parse.{digits_value}
use Rattle.bal_base.specs.Valid.{IsText}
use Rattle.bal_base.specs.declared.text.Text.{Text}
use Rattle.command_words.specs.declared.command.Command.{Command}
use Rattle.command_words.specs.declared.command.Mode.{Mode}
use Rattle.command_words.specs.declared.command.Mode.TheVariants as mode
use Rattle.command_words.specs.declared.command.TheConstants.{DEFAULT_SEED, DEFAULT_TICKS, MOST_DIGITS, MOST_WORD_BYTES, MOST_WORDS}
use Rattle.command_words.specs.Words.{Parts, Says}

-- ---- what is asked for

-- what is to be done with the folder; words for `main` are texts, those for types bytes
pub data Purpose : Type 0 where
  Run : List Text → Purpose
  Check : Purpose
  Pairs : Purpose
  Code : Purpose
  Subtype : List ℕ → List ℕ → Purpose

pub record Request : Type 0 where
  -- the bytes of the folder's word
  pub dir : List ℕ
  pub purpose : Purpose
  pub ticks : ℕ
  pub seed : ℕ

-- ---- the rules

-- the value of `--mode`
abbrev pub mode_word : Purpose → List ℕ
mode_word (Run texts) = codes "run"
mode_word Check = codes "check"
mode_word Pairs = codes "pairs"
mode_word Code = codes "code"
mode_word (Subtype left right) = codes "subtype"

-- the words behind the folder's one that it takes
abbrev pub Takes : Purpose → List (List ℕ) → Type 0
Takes (Run texts) words = texts ≡ map chars words
Takes Check words = words ≡ []
Takes Pairs words = words ≡ []
Takes Code words = words ≡ []
Takes (Subtype left right) words = words ≡ left ∷ right ∷ []

-- a number of one to twenty decimal digits
pub record IsNumber (digits : List ℕ) (n : ℕ) : Type 0 where
  pub some : 0 < length digits
  pub few : length digits ≤ MOST_DIGITS
  pub decimal : IsTrue (all_ascii_digits digits)
  pub value : n ≡ digits_value 10 digits
  pub small : n < 2 ^ 64

-- an option is given once, with a value of this kind, or else this stands for it
abbrev pub AtMostOnce : Type 0 → (List ℕ → Type 0) → List (List ℕ) → Type 0
AtMostOnce Default Given [] = Default
AtMostOnce Default Given (value ∷ []) = Given value
AtMostOnce Default Given (value ∷ other ∷ more) = ⊥

-- what is said is a command with this request
pub record Asks (said : Parts) (request : Request) : Type 0 where
  -- the words behind the folder's one
  pub words : List (List ℕ)
  pub positional : said.positional ≡ request.dir ∷ words
  pub few : length words ≤ MOST_WORDS
  pub short : All (λ word. length word ≤ MOST_WORD_BYTES) words
  pub takes : Takes request.purpose words
  pub mode : AtMostOnce (codes "run" ≡ mode_word request.purpose) (λ value. value ≡ mode_word request.purpose) said.modes
  pub ticks : AtMostOnce (request.ticks ≡ DEFAULT_TICKS) (λ value. IsNumber value request.ticks) said.ticks
  pub seed : AtMostOnce (request.seed ≡ DEFAULT_SEED) (λ value. IsNumber value request.seed) said.seeds

-- ---- commands

-- words with these bytes are a good command with this request
abbrev pub AreCommand : List (List ℕ) → Request → Type 0
AreCommand words request = (said : Parts) × Says words said × Asks said request

abbrev pub IsCommand : List (String Global) → Request → Type 0
IsCommand words request = AreCommand (map string_bytes words) request

abbrev pub IsGood : List (String Global) → Type 0
IsGood words = (request : Request) × IsCommand words request

abbrev pub NoCommand : List (String Global) → Type 0
NoCommand words = (request : Request) → ¬ (IsCommand words request)

-- ---- the answer

abbrev pub purpose_of : Mode → Purpose
purpose_of (mode.Run words) = Run words
purpose_of mode.Check = Check
purpose_of mode.Pairs = Pairs
purpose_of mode.Code = Code
purpose_of (mode.Subtype left right) = Subtype left.now right.now

-- the request that a command makes
abbrev pub request_of : Command → Request
request_of c = record { dir = c.dir.now; purpose = purpose_of c.mode; ticks = c.ticks; seed = c.seed }

-- the words for `main` are texts
abbrev pub AreTexts : Purpose → Type 0
AreTexts (Run texts) = All IsText texts
AreTexts Check = ⊤
AreTexts Pairs = ⊤
AreTexts Code = ⊤
AreTexts (Subtype left right) = ⊤
