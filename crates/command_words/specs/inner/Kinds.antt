-- What a single word is.
use Rattle.std.specs.Prelude.{◌≡◌, ◌≢◌, ◌++◌, ℕ, List, codes}
use Rattle.command_words.specs.declared.word.Setting.{Setting}
use Rattle.command_words.specs.declared.word.Word.{Word}
use Rattle.command_words.specs.declared.word.Word.TheVariants.{Positional, Dashes, Alone, Joined, Bad}
use Rattle.command_words.specs.Words.{IsPositional, option_word}

-- it is no option, with or without a value
pub record IsNoOption (word : List ℕ) : Type 0 where
  pub alone : (setting : Setting) → word ≢ option_word setting
  pub joined : (setting : Setting) (value : List ℕ) → word ≢ option_word setting ++ (codes "=" ++ value)

-- no rule speaks of it
pub record IsBad (word : List ℕ) : Type 0 where
  pub option : IsNoOption word
  pub dashes : word ≢ codes "--"
  pub positional : ¬ (IsPositional word)

abbrev pub HasKind : List ℕ → Word → Type 0
HasKind word Positional = IsPositional word
HasKind word Dashes = word ≡ codes "--"
HasKind word (Alone setting) = word ≡ option_word setting
HasKind word (Joined setting value) = word ≡ option_word setting ++ (codes "=" ++ value.now)
HasKind word Bad = IsBad word

-- the same of a word of which only this is asked
abbrev pub IsOptionKind : List ℕ → Word → Type 0
IsOptionKind word Positional = ⊥
IsOptionKind word Dashes = ⊥
IsOptionKind word (Alone setting) = word ≡ option_word setting
IsOptionKind word (Joined setting value) = word ≡ option_word setting ++ (codes "=" ++ value.now)
IsOptionKind word Bad = IsNoOption word

abbrev pub NamesNone : List ℕ → Type 0
NamesNone name = (setting : Setting) → name ≢ option_word setting
