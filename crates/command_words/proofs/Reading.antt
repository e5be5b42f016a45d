-- The words are read to their end.
use Rattle.std.proofs.Common.{◌≡◌, ◌∙◌, ◌+◌, ℕ, List, [], ◌∷◌, ◌++◌, codes, drop, refl, sym, ap, subst}
use Rattle.command_words.specs.declared.word.Setting.{Setting}
use Rattle.command_words.specs.Words.{Parts, Says, only, option_word, plainly}
use Rattle.command_words.specs.inner.Reading.{IsAlike, IsOnce, IsRead, NeverOnce, Stops, joined}
use Rattle.command_words.proofs.Alike.{alike-on}
use Rattle.command_words.proofs.Sayings.{by-alone}

-- at a place of the words: they say what was read so far, and behind it what the words there say
abbrev pub IsReadTo : List (List ℕ) → ℕ → Parts → List (List ℕ) → Type 0
IsReadTo words i said pending = IsAlike (only []) words said (pending ++ drop i words)

pub read-more : (words : List (List ℕ)) (i : ℕ) (word : List ℕ) (a b : Parts) (pending left : List (List ℕ)) → IsReadTo words i a pending
    → drop i words ≡ word ∷ drop (i + 1) words → IsRead a pending word b left → IsReadTo words (i + 1) b left
read-more words i word a b pending left h e r =
    alike-on (only []) a b words (pending ++ drop i words) (left ++ drop (i + 1) words) h
    (subst (λ l. IsAlike a (pending ++ l) b (left ++ drop (i + 1) words)) (sym e) (r (drop (i + 1) words)))

pub read-stop : (words : List (List ℕ)) (i : ℕ) (word : List ℕ) (a : Parts) (pending : List (List ℕ)) → IsReadTo words i a pending
    → drop i words ≡ word ∷ drop (i + 1) words → Stops a pending word → NeverOnce words
read-stop words i word a pending h e stops said says once =
    let (other, o, same) = h.to said says in
    stops (drop (i + 1) words) other (subst (λ l. Says (pending ++ l) other) e o) (subst IsOnce same once)

pub append-none : (xs : List (List ℕ)) → xs ++ [] ≡ xs
append-none [] = refl
append-none (x ∷ xs) = ap (λ l. x ∷ l) (append-none xs)

joined-none : (a : Parts) → joined a (only []) ≡ a
joined-none a = λ i. record {
  positional = append-none a.positional i;
  modes = append-none a.modes i;
  ticks = append-none a.ticks i;
  seeds = append-none a.seeds i;
}

-- nothing more is said at the end
pub read-end : (words : List (List ℕ)) (i : ℕ) (a : Parts) (pending : List (List ℕ)) → IsReadTo words i a pending → drop i words ≡ []
    → Says (pending ++ []) (only []) → Says words a
read-end words i a pending h e none =
    let (said, says, same) = h.from (only []) (subst (λ l. Says (pending ++ l) (only [])) (sym e) none) in
    subst (λ s. Says words s) (same ∙ joined-none a) says

pub says-rest : Says (codes "--" ∷ []) (only [])
says-rest = plainly refl

-- the last option has no value
pub read-lacks : (words : List (List ℕ)) (i : ℕ) (a : Parts) (s : Setting) → IsReadTo words i a (option_word s ∷ []) → drop i words ≡ [] → NeverOnce words
read-lacks words i a s h e said says once =
    let (other, o, same) = h.to said says in by-alone s refl (subst (λ l. Says (option_word s ∷ l) other) e o)
