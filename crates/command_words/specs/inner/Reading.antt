-- How the words are read one by one.
use Rattle.std.specs.Prelude.{◌≡◌, ◌≤◌, ◌<◌, ◌++◌, ℕ, List, [], ◌∷◌, MatchOption, Option, Some, None, codes, length, map}
use Rattle.std.specs.Borrow.{Bor}
use Rattle.command_words.specs.declared.parts.Awaits.{Awaits}
use Rattle.command_words.specs.declared.parts.Awaits.TheVariants.{Word, Value, Rest}
use Rattle.command_words.specs.declared.parts.WordParts.{WordParts}
use Rattle.command_words.specs.declared.word.Setting.{Setting}
use Rattle.command_words.specs.declared.word.Setting.TheVariants.{Mode, Ticks, Seed}
use Rattle.command_words.specs.Words.{Parts, Says, only, option_word, with_value}

-- ---- what was read

abbrev pub bytes_of : List (Bor (List ℕ)) → List (List ℕ)
bytes_of words = map (λ word. word.now) words

abbrev pub list_of : Option (Bor (List ℕ)) → List (List ℕ)
list_of None = []
list_of (Some value) = value.now ∷ []

-- what is said by the words so far
abbrev pub said_by : WordParts → Parts
said_by p = record { positional = bytes_of p.positional.items; modes = list_of p.mode; ticks = list_of p.ticks; seeds = list_of p.seed }

-- the words so far that aren't read yet
abbrev pub awaited : Awaits → List (List ℕ)
awaited Word = []
awaited (Value setting) = option_word setting ∷ []
awaited Rest = codes "--" ∷ []

-- ---- one behind the other

-- what two parts of the words say together
abbrev pub joined : Parts → Parts → Parts
joined a b =
    record { positional = a.positional ++ b.positional; modes = a.modes ++ b.modes; ticks = a.ticks ++ b.ticks; seeds = a.seeds ++ b.seeds }

-- behind the one, these words say what those say behind the other
pub record IsAlike (a : Parts) (words : List (List ℕ)) (b : Parts) (others : List (List ℕ)) : Type 0 where
  pub to : (said : Parts) → Says words said → (other : Parts) × Says others other × (joined a said ≡ joined b other)
  pub from : (other : Parts) → Says others other → (said : Parts) × Says words said × (joined a said ≡ joined b other)

-- no option is given twice
pub record IsOnce (said : Parts) : Type 0 where
  pub modes : length said.modes ≤ 1
  pub ticks : length said.ticks ≤ 1
  pub seeds : length said.seeds ≤ 1

abbrev pub NeverOnce : List (List ℕ) → Type 0
NeverOnce words = (said : Parts) → Says words said → ¬ (IsOnce said)

-- what is found of the words, where they give each option at most once
abbrev pub AreParts : List (List ℕ) → Option WordParts → Type 0
AreParts words found = MatchOption found (NeverOnce words) (λ p. Says words (said_by p))

-- ---- a step

-- behind what was said, and words that aren't read yet, a word is read
abbrev pub IsRead : Parts → List (List ℕ) → List ℕ → Parts → List (List ℕ) → Type 0
IsRead before pending word after left = (words : List (List ℕ)) → IsAlike before (pending ++ word ∷ words) after (left ++ words)

-- there whatever follows the word gives an option twice
abbrev pub Stops : Parts → List (List ℕ) → List ℕ → Type 0
Stops before pending word =
    (words : List (List ℕ)) (said : Parts) → Says (pending ++ word ∷ words) said → ¬ (IsOnce (joined before said))

-- the word is read, or the words are no command
abbrev pub GoesOn : Parts → List (List ℕ) → List ℕ → Parts → Option Awaits → Type 0
GoesOn before pending word after next = MatchOption next (Stops before pending word) (λ n. IsRead before pending word after (awaited n))

abbrev pub values_of : Setting → Parts → List (List ℕ)
values_of Mode said = said.modes
values_of Ticks said = said.ticks
values_of Seed said = said.seeds

abbrev pub HasValue : Setting → Parts → Type 0
HasValue setting said = 0 < length (values_of setting said)

-- the option is given its value behind what was read, and the next word is read by itself; or it has one
abbrev pub IsSet : Setting → List ℕ → Parts → Parts → Option Awaits → Type 0
IsSet setting value before after next =
    MatchOption next (HasValue setting before) (λ n. (awaited n ≡ []) × (after ≡ joined before (with_value setting value (only []))))

-- an option had no value and has this one now, or it had one
abbrev pub IsSetOnce : Option (Bor (List ℕ)) → Bor (List ℕ) → Option (Bor (List ℕ)) → Option Awaits → Type 0
IsSetOnce before value after r =
    MatchOption r (0 < length (list_of before)) (λ n. (awaited n ≡ []) × (before ≡ None) × (after ≡ Some value))
