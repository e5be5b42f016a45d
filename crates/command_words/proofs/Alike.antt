-- What the words say behind what was read.
use Rattle.std.proofs.Common.{◌≡◌, ◌∙◌, ◌<◌, ◌≤◌, ◌+◌, ℕ, List, [], ◌∷◌, ◌++◌, Option, Some, None, codes, length, refl, sym, ap, subst, arith, append_assoc, length-append}
use Rattle.command_words.specs.declared.parts.Awaits.{Awaits}
use Rattle.command_words.specs.declared.word.Setting.{Setting}
use Rattle.command_words.specs.declared.word.Setting.TheVariants.{Mode, Ticks, Seed}
use Rattle.command_words.specs.Words.{BeginsWithDash, IsPositional, Parts, Says, plainly, itself, joined as in_one, apart, only, option_word, with_value, with_word}
use Rattle.command_words.specs.inner.Kinds.{IsBad}
use Rattle.command_words.specs.inner.Reading.{GoesOn, HasValue, IsAlike, IsOnce, IsRead, IsSet, Stops, awaited, joined}
use Rattle.command_words.proofs.Sayings.{by-apart, by-dashes, by-joined, by-positional}

-- ---- one behind the other

pub joined-assoc : (a b c : Parts) → joined (joined a b) c ≡ joined a (joined b c)
joined-assoc a b c = λ i. record {
  positional = append_assoc a.positional b.positional c.positional i;
  modes = append_assoc a.modes b.modes c.modes i;
  ticks = append_assoc a.ticks b.ticks c.ticks i;
  seeds = append_assoc a.seeds b.seeds c.seeds i;
}

value-front : (s : Setting) (v : List ℕ) (rest : Parts) → joined (with_value s v (only [])) rest ≡ with_value s v rest
value-front Mode v rest = refl
value-front Ticks v rest = refl
value-front Seed v rest = refl

-- what stands in front goes behind what was read
moved : (a b rest said : Parts) → said ≡ joined b rest → joined a said ≡ joined (joined a b) rest
moved a b rest said e = ap (joined a) e ∙ sym (joined-assoc a b rest)

-- ---- alike

pub alike-same : (a : Parts) (words others : List (List ℕ)) → words ≡ others → IsAlike a words a others
alike-same a words others e = record {
  to = λ said h. (said, subst (λ l. Says l said) e h, refl);
  from = λ other h. (other, subst (λ l. Says l other) (sym e) h, refl);
}

pub alike-on : (a b c : Parts) (us vs ws : List (List ℕ)) → IsAlike a us b vs → IsAlike b vs c ws → IsAlike a us c ws
alike-on a b c us vs ws h k = record {
  to = λ said s. let (other, o, e) = h.to said s in let (last, l, f) = k.to other o in (last, l, e ∙ f);
  from = λ last l. let (other, o, f) = k.from last l in let (said, s, e) = h.from other o in (said, s, e ∙ f);
}

pub alike-word : (a : Parts) (word : List ℕ) (words : List (List ℕ)) → IsPositional word → IsAlike a (word ∷ words) (joined a (only (word ∷ []))) words
alike-word a word words p = record {
  to = λ said h. let (rest, r, e) = by-positional p h in (rest, r, moved a (only (word ∷ [])) rest said e);
  from = λ rest r. (with_word word rest, itself p r, moved a (only (word ∷ [])) rest (with_word word rest) refl);
}

pub alike-rest : (a : Parts) (word : List ℕ) (words : List (List ℕ)) → IsAlike a (codes "--" ∷ word ∷ words) (joined a (only (word ∷ []))) (codes "--" ∷ words)
alike-rest a word words = record {
  to = λ said h. (only words, plainly refl, moved a (only (word ∷ [])) (only words) said (by-dashes refl h));
  from = λ rest r. (only (word ∷ words), plainly refl, moved a (only (word ∷ [])) rest (only (word ∷ words)) (ap (joined (only (word ∷ []))) (sym (by-dashes refl r))));
}

pub alike-joined : (a : Parts) (s : Setting) (v word : List ℕ) (words : List (List ℕ)) → word ≡ option_word s ++ (codes "=" ++ v)
    → IsAlike a (word ∷ words) (joined a (with_value s v (only []))) words
alike-joined a s v word words k = record {
  to = λ said h. let (rest, r, e) = by-joined s v k h in (rest, r, moved a (with_value s v (only [])) rest said (e ∙ sym (value-front s v rest)));
  from = λ rest r. (with_value s v rest, in_one s v k r, moved a (with_value s v (only [])) rest (with_value s v rest) (sym (value-front s v rest)));
}

pub alike-apart : (a : Parts) (s : Setting) (v : List ℕ) (words : List (List ℕ)) → ¬ (BeginsWithDash v)
    → IsAlike a (option_word s ∷ v ∷ words) (joined a (with_value s v (only []))) words
alike-apart a s v words d = record {
  to = λ said h. let (rest, r, e) = (by-apart s refl h).1 in (rest, r, moved a (with_value s v (only [])) rest said (e ∙ sym (value-front s v rest)));
  from = λ rest r. (with_value s v rest, apart s refl d r, moved a (with_value s v (only [])) rest (with_value s v rest) (sym (value-front s v rest)));
}

-- ---- stops

two : (xs ys : List (List ℕ)) (v : List ℕ) → 0 < length xs → ¬ (length (xs ++ v ∷ ys) ≤ 1)
two xs ys v some few = let n : length (xs ++ v ∷ ys) ≡ length xs + length (v ∷ ys) = length-append xs (v ∷ ys) in omega (arith, n, some, few)

pub twice : (s : Setting) (a rest : Parts) (v : List ℕ) → HasValue s a → ¬ (IsOnce (joined a (with_value s v rest)))
twice Mode a rest v has once = two a.modes rest.modes v has once.modes
twice Ticks a rest v has once = two a.ticks rest.ticks v has once.ticks
twice Seed a rest v has once = two a.seeds rest.seeds v has once.seeds

pub stop-bad : (a : Parts) (word : List ℕ) → IsBad word → Stops a [] word
stop-bad a word b words said (plainly e) once = b.dashes e
stop-bad a word b words said (itself p h) once = b.positional p
stop-bad a word b words said (in_one s v e h) once = b.option.joined s v e
stop-bad a word b words said (apart s e d h) once = b.option.alone s e

pub stop-dash : (a : Parts) (s : Setting) (v : List ℕ) → BeginsWithDash v → Stops a (option_word s ∷ []) v
stop-dash a s v d words said h once = (by-apart s refl h).0 d

pub stop-joined : (a : Parts) (s : Setting) (v word : List ℕ) → word ≡ option_word s ++ (codes "=" ++ v) → HasValue s a → Stops a [] word
stop-joined a s v word k has words said h once =
    let (rest, r, e) = by-joined s v k h in twice s a rest v has (subst (λ q. IsOnce (joined a q)) e once)

pub stop-apart : (a : Parts) (s : Setting) (v : List ℕ) → HasValue s a → Stops a (option_word s ∷ []) v
stop-apart a s v has words said h once =
    let (rest, r, e) = (by-apart s refl h).1 in twice s a rest v has (subst (λ q. IsOnce (joined a q)) e once)

-- ---- the value of an option is set, or it has one

pub set-joined : (s : Setting) (v word : List ℕ) (a b : Parts) (r : Option Awaits) → word ≡ option_word s ++ (codes "=" ++ v) → IsSet s v a b r
    → GoesOn a [] word b r
set-joined s v word a b None k has = stop-joined a s v word k has
set-joined s v word a b (Some n) k (left, e) = λ words.
    subst (λ c. IsAlike a (word ∷ words) c (awaited n ++ words)) (sym e)
    (subst (λ l. IsAlike a (word ∷ words) (joined a (with_value s v (only []))) (l ++ words)) (sym left) (alike-joined a s v word words k))

pub set-apart : (s : Setting) (v : List ℕ) (a b : Parts) (r : Option Awaits) → ¬ (BeginsWithDash v) → IsSet s v a b r
    → GoesOn a (option_word s ∷ []) v b r
set-apart s v a b None d has = stop-apart a s v has
set-apart s v a b (Some n) d (left, e) = λ words.
    subst (λ c. IsAlike a (option_word s ∷ v ∷ words) c (awaited n ++ words)) (sym e)
    (subst (λ l. IsAlike a (option_word s ∷ v ∷ words) (joined a (with_value s v (only []))) (l ++ words)) (sym left) (alike-apart a s v words d))

-- a word that stands for itself was added
pub add-word : (word : List ℕ) (a b : Parts) → IsPositional word → b ≡ joined a (only (word ∷ [])) → IsRead a [] word b []
add-word word a b p e = λ words. subst (λ c. IsAlike a (word ∷ words) c words) (sym e) (alike-word a word words p)

pub add-rest : (word : List ℕ) (a b : Parts) → b ≡ joined a (only (word ∷ [])) → IsRead a (codes "--" ∷ []) word b (codes "--" ∷ [])
add-rest word a b e = λ words. subst (λ c. IsAlike a (codes "--" ∷ word ∷ words) c (codes "--" ∷ words)) (sym e) (alike-rest a word words)

-- a word is left to be read with the next one
pub left-word : (word next : List ℕ) (a : Parts) → word ≡ next → IsRead a [] word a (next ∷ [])
left-word word next a e = λ words. alike-same a (word ∷ words) (next ∷ words) (ap (λ w. w ∷ words) e)
