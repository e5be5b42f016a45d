-- What words say: which of them stand for themselves, and which values the options are given.
use Rattle.std.specs.Prelude.{◌≡◌, ◌⊎◌, ◌++◌, ℕ, List, [], ◌∷◌, codes}
use Rattle.command_words.specs.declared.word.Setting.{Setting}
use Rattle.command_words.specs.declared.word.Setting.TheVariants.{Mode, Ticks, Seed}

abbrev pub option_word : Setting → List ℕ
option_word Mode = codes "--mode"
option_word Ticks = codes "--ticks"
option_word Seed = codes "--seed"

-- the words that stand for themselves, in order, and the values of each option, in order
pub record Parts : Type 0 where
  pub positional : List (List ℕ)
  pub modes : List (List ℕ)
  pub ticks : List (List ℕ)
  pub seeds : List (List ℕ)

-- these words alone, and no option
abbrev pub only : List (List ℕ) → Parts
only words = record { positional = words; modes = []; ticks = []; seeds = [] }

-- the same with a word in front
abbrev pub with_word : List ℕ → Parts → Parts
with_word word parts = record parts { positional = word ∷ parts.positional }

-- the same with a value in front
abbrev pub with_value : Setting → List ℕ → Parts → Parts
with_value Mode value parts = record parts { modes = value ∷ parts.modes }
with_value Ticks value parts = record parts { ticks = value ∷ parts.ticks }
with_value Seed value parts = record parts { seeds = value ∷ parts.seeds }

abbrev pub BeginsWithDash : List ℕ → Type 0
BeginsWithDash [] = ⊥
BeginsWithDash (c ∷ cs) = c ≡ 45

-- the word stands for itself
abbrev pub IsPositional : List ℕ → Type 0
IsPositional word = (word ≡ codes "-") ⊎ (¬ (BeginsWithDash word))

-- the words, given as bytes, say this, from left to right; there is no rule for any other word
pub data Says : List (List ℕ) → Parts → Type 0 where
  nothing : Says [] (only [])
  -- behind `--` all words stand for themselves
  plainly : {word : List ℕ} {words : List (List ℕ)} → word ≡ codes "--" → Says (word ∷ words) (only words)
  itself : {word : List ℕ} {words : List (List ℕ)} {parts : Parts} → IsPositional word → Says words parts
      → Says (word ∷ words) (with_word word parts)
  -- an option with its value in the same word, behind `=`
  joined : (setting : Setting) (value : List ℕ) {word : List ℕ} {words : List (List ℕ)} {parts : Parts}
      → word ≡ option_word setting ++ (codes "=" ++ value) → Says words parts
      → Says (word ∷ words) (with_value setting value parts)
  -- an option whose value is the next word, which doesn't begin with `-`
  apart : (setting : Setting) {word value : List ℕ} {words : List (List ℕ)} {parts : Parts}
      → word ≡ option_word setting → ¬ (BeginsWithDash value) → Says words parts
      → Says (word ∷ value ∷ words) (with_value setting value parts)
