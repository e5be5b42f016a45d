-- What is asked for by the values of the options and by the words.
use Rattle.std.specs.Prelude.{◌≡◌, ◌≤◌, ℕ, List, MatchOption, Option, All, codes, length}
use Rattle.std.specs.Borrow.{Bor}
use Rattle.command_words.specs.declared.command.Command.{Command}
use Rattle.command_words.specs.declared.command.Mode.{Mode}
use Rattle.command_words.specs.declared.command.TheConstants.{DEFAULT_SEED, DEFAULT_TICKS, MOST_WORD_BYTES, MOST_WORDS}
use Rattle.command_words.specs.declared.parts.WordParts.{WordParts}
use Rattle.command_words.specs.Commands.{Asks, AtMostOnce, IsNumber, Purpose, Request, Takes, mode_word, purpose_of, request_of}
use Rattle.command_words.specs.Words.{Parts}
use Rattle.command_words.specs.inner.Reading.{bytes_of, list_of}

-- ---- numbers

abbrev pub NoNumber : List ℕ → Type 0
NoNumber digits = (n : ℕ) → ¬ (IsNumber digits n)

abbrev pub IsNumberOr : ℕ → Option (Bor (List ℕ)) → ℕ → Type 0
IsNumberOr default value n = AtMostOnce (n ≡ default) (λ digits. IsNumber digits n) (list_of value)

abbrev pub NoNumberOr : ℕ → Option (Bor (List ℕ)) → Type 0
NoNumberOr default value = (n : ℕ) → ¬ (IsNumberOr default value n)

-- ---- modes

-- the value names the purpose, and it takes these words
abbrev pub IsNamed : List ℕ → List (Bor (List ℕ)) → Purpose → Type 0
IsNamed value words purpose = (value ≡ mode_word purpose) × Takes purpose (bytes_of words)

abbrev pub NoneNamed : List ℕ → List (Bor (List ℕ)) → Type 0
NoneNamed value words = (purpose : Purpose) → ¬ (IsNamed value words purpose)

abbrev pub IsChosen : Option (Bor (List ℕ)) → List (Bor (List ℕ)) → Purpose → Type 0
IsChosen value words purpose =
    AtMostOnce (codes "run" ≡ mode_word purpose) (λ name. name ≡ mode_word purpose) (list_of value) × Takes purpose (bytes_of words)

abbrev pub NoneChosen : Option (Bor (List ℕ)) → List (Bor (List ℕ)) → Type 0
NoneChosen value words = (purpose : Purpose) → ¬ (IsChosen value words purpose)

-- the mode that is found, if there is one
abbrev pub IsNamedMode : List ℕ → List (Bor (List ℕ)) → Option Mode → Type 0
IsNamedMode value words found = MatchOption found (NoneNamed value words) (λ mode. IsNamed value words (purpose_of mode))

abbrev pub IsChosenMode : Option (Bor (List ℕ)) → List (Bor (List ℕ)) → Option Mode → Type 0
IsChosenMode value words found = MatchOption found (NoneChosen value words) (λ mode. IsChosen value words (purpose_of mode))

-- ---- the whole

-- none of the words is too long
abbrev pub AreShort : List (Bor (List ℕ)) → Type 0
AreShort words = All (λ word. length word.now ≤ MOST_WORD_BYTES) words

-- and there aren't too many
abbrev pub AreFit : List (Bor (List ℕ)) → Type 0
AreFit words = (length words ≤ MOST_WORDS) × AreShort words

-- what is asked for with these words behind the folder's one
pub record IsAskedWith (said : WordParts) (words : List (Bor (List ℕ))) (request : Request) : Type 0 where
  pub chosen : IsChosen said.mode words request.purpose
  pub ticks : IsNumberOr DEFAULT_TICKS said.ticks request.ticks
  pub seed : IsNumberOr DEFAULT_SEED said.seed request.seed

abbrev pub NothingAskedWith : WordParts → List (Bor (List ℕ)) → Type 0
NothingAskedWith said words = (request : Request) → ¬ (IsAskedWith said words request)

abbrev pub AsksNothing : Parts → Type 0
AsksNothing said = (request : Request) → ¬ (Asks said request)

-- the command that is found, if there is one
abbrev pub IsFoundWith : WordParts → List (Bor (List ℕ)) → Option Command → Type 0
IsFoundWith said words found = MatchOption found (NothingAskedWith said words) (λ c. IsAskedWith said words (request_of c))

abbrev pub IsFoundIn : Parts → Option Command → Type 0
IsFoundIn said found = MatchOption found (AsksNothing said) (λ c. Asks said (request_of c))
