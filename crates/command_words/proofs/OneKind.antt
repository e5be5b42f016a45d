-- A word is of one kind only.
use Rattle.std.proofs.Common.{◌≡◌, ◌∙◌, ℕ, List, [], ◌∷◌, ◌++◌, drop, get_or, codes, inl, inr, refl, sym, ap, subst, arith}
use Rattle.command_words.specs.declared.word.Setting.{Setting}
use Rattle.command_words.specs.declared.word.Setting.TheVariants.{Mode, Ticks, Seed}
use Rattle.command_words.specs.Words.{IsPositional, option_word}

-- ---- options among themselves

-- the third characters differ
differs : {A : Type 0} (x y : List ℕ) (a b : ℕ) → get_or x 2 0 ≡ a → get_or y 2 0 ≡ b → (a ≡ b → ⊥) → x ≡ y → A
differs x y a b ea eb d e = absurd (d (sym ea ∙ ap (λ l. get_or l 2 0) e ∙ eb))

pub setting-same : (s t : Setting) (u v : List ℕ) → option_word s ++ u ≡ option_word t ++ v → s ≡ t
setting-same Mode Mode u v e = refl
setting-same Mode Ticks u v e = differs (option_word Mode ++ u) (option_word Ticks ++ v) 109 116 refl refl (λ q. omega (arith, q)) e
setting-same Mode Seed u v e = differs (option_word Mode ++ u) (option_word Seed ++ v) 109 115 refl refl (λ q. omega (arith, q)) e
setting-same Ticks Mode u v e = differs (option_word Ticks ++ u) (option_word Mode ++ v) 116 109 refl refl (λ q. omega (arith, q)) e
setting-same Ticks Ticks u v e = refl
setting-same Ticks Seed u v e = differs (option_word Ticks ++ u) (option_word Seed ++ v) 116 115 refl refl (λ q. omega (arith, q)) e
setting-same Seed Mode u v e = differs (option_word Seed ++ u) (option_word Mode ++ v) 115 109 refl refl (λ q. omega (arith, q)) e
setting-same Seed Ticks u v e = differs (option_word Seed ++ u) (option_word Ticks ++ v) 115 116 refl refl (λ q. omega (arith, q)) e
setting-same Seed Seed u v e = refl

-- what follows the same option is the same
pub rest-same : (s : Setting) (u v : List ℕ) → option_word s ++ u ≡ option_word s ++ v → u ≡ v
rest-same Mode u v e = ap (drop 6) e
rest-same Ticks u v e = ap (drop 7) e
rest-same Seed u v e = ap (drop 6) e

-- no option is one with a value
pub alone-joined : {A : Type 0} (s t : Setting) (v : List ℕ) → option_word s ≡ option_word t ++ (codes "=" ++ v) → A
alone-joined s t v e =
    let same : s ≡ t = setting-same s t [] (codes "=" ++ v) (append-none s ∙ e) in
    let rest : [] ≡ codes "=" ++ v = rest-same t [] (codes "=" ++ v) (append-none t ∙ subst (λ r. option_word r ≡ option_word t ++ (codes "=" ++ v)) same e) in
    let n : 0 ≡ 61 = ap (λ l. get_or l 0 0) rest in absurd (omega (arith, n))
  where
    append-none : (r : Setting) → option_word r ++ [] ≡ option_word r
    append-none Mode = refl
    append-none Ticks = refl
    append-none Seed = refl

-- ---- options and other words

-- options begin with two dashes, and something follows these
pub option-dashes : (s : Setting) (u : List ℕ) → option_word s ++ u ≡ 45 ∷ 45 ∷ drop 2 (option_word s ++ u)
option-dashes Mode u = refl
option-dashes Ticks u = refl
option-dashes Seed u = refl

pub alone-dashes : (s : Setting) → option_word s ≡ 45 ∷ 45 ∷ drop 2 (option_word s)
alone-dashes Mode = refl
alone-dashes Ticks = refl
alone-dashes Seed = refl

pub dashes-alone : {A : Type 0} (s : Setting) → codes "--" ≡ option_word s → A
dashes-alone Mode e = absurd (let n : 0 ≡ 109 = ap (λ l. get_or l 2 0) e in omega (arith, n))
dashes-alone Ticks e = absurd (let n : 0 ≡ 116 = ap (λ l. get_or l 2 0) e in omega (arith, n))
dashes-alone Seed e = absurd (let n : 0 ≡ 115 = ap (λ l. get_or l 2 0) e in omega (arith, n))

pub dashes-joined : {A : Type 0} (s : Setting) (u : List ℕ) → codes "--" ≡ option_word s ++ u → A
dashes-joined Mode u e = absurd (let n : 0 ≡ 109 = ap (λ l. get_or l 2 0) e in omega (arith, n))
dashes-joined Ticks u e = absurd (let n : 0 ≡ 116 = ap (λ l. get_or l 2 0) e in omega (arith, n))
dashes-joined Seed u e = absurd (let n : 0 ≡ 115 = ap (λ l. get_or l 2 0) e in omega (arith, n))

-- a word with two dashes in front doesn't stand for itself
pub not-positional : {A : Type 0} (word rest : List ℕ) → word ≡ 45 ∷ 45 ∷ rest → IsPositional word → A
not-positional word rest e p = by (45 ∷ 45 ∷ rest) refl (subst IsPositional e p)
  where
    by : {A : Type 0} (w : List ℕ) → w ≡ 45 ∷ 45 ∷ rest → IsPositional (45 ∷ 45 ∷ rest) → A
    by w e (inl q) = absurd (let n : 45 ≡ 0 = ap (λ l. get_or l 1 0) q in omega (arith, n))
    by w e (inr q) = absurd (q refl)
