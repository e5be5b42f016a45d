-- What words say, by the kind of the first one.
use Rattle.std.proofs.Common.{◌≡◌, ◌∙◌, ℕ, List, [], ◌∷◌, ◌++◌, codes, refl, sym, ap, subst, drop}
use Rattle.command_words.specs.declared.word.Setting.{Setting}
use Rattle.command_words.specs.Words.{BeginsWithDash, IsPositional, Parts, Says, nothing, plainly, itself, joined, apart, only, option_word, with_value, with_word}
use Rattle.command_words.proofs.OneKind.{alone-dashes, alone-joined, dashes-alone, dashes-joined, not-positional, option-dashes, rest-same, setting-same}

pub by-nothing : {said : Parts} → Says [] said → said ≡ only []
by-nothing nothing = refl

pub by-positional : {word : List ℕ} {words : List (List ℕ)} {said : Parts} → IsPositional word → Says (word ∷ words) said
    → (rest : Parts) × Says words rest × (said ≡ with_word word rest)
by-positional {word} p (plainly e) = not-positional word [] e p
by-positional p (itself _ h) = (_, h, refl)
by-positional {word} p (joined s v e h) = not-positional word (drop 2 (option_word s ++ (codes "=" ++ v))) (e ∙ option-dashes s (codes "=" ++ v)) p
by-positional {word} p (apart s e d h) = not-positional word (drop 2 (option_word s)) (e ∙ alone-dashes s) p

pub by-dashes : {word : List ℕ} {words : List (List ℕ)} {said : Parts} → word ≡ codes "--" → Says (word ∷ words) said → said ≡ only words
by-dashes k (plainly e) = refl
by-dashes {word} k (itself p h) = not-positional word [] k p
by-dashes k (joined s v e h) = dashes-joined s (codes "=" ++ v) (sym k ∙ e)
by-dashes k (apart s e d h) = dashes-alone s (sym k ∙ e)

pub by-joined : (s : Setting) (v : List ℕ) {word : List ℕ} {words : List (List ℕ)} {said : Parts} → word ≡ option_word s ++ (codes "=" ++ v)
    → Says (word ∷ words) said → (rest : Parts) × Says words rest × (said ≡ with_value s v rest)
by-joined s v k (plainly e) = dashes-joined s (codes "=" ++ v) (sym e ∙ k)
by-joined s v {word} k (itself p h) = not-positional word (drop 2 (option_word s ++ (codes "=" ++ v))) (k ∙ option-dashes s (codes "=" ++ v)) p
by-joined s v k (joined t u {parts = rest} e h) =
    let one : t ≡ s = setting-same t s (codes "=" ++ u) (codes "=" ++ v) (sym e ∙ k) in
    let value : codes "=" ++ u ≡ codes "=" ++ v =
    rest-same s (codes "=" ++ u) (codes "=" ++ v) (subst (λ r. option_word r ++ (codes "=" ++ u) ≡ option_word s ++ (codes "=" ++ v)) one (sym e ∙ k)) in
    (rest, h, λ i. with_value (one i) (ap (drop 1) value i) rest)
by-joined s v k (apart t e d h) = alone-joined t s v (sym e ∙ k)

pub by-apart : (s : Setting) {word value : List ℕ} {words : List (List ℕ)} {said : Parts} → word ≡ option_word s → Says (word ∷ value ∷ words) said
    → (¬ (BeginsWithDash value)) × ((rest : Parts) × Says words rest × (said ≡ with_value s value rest))
by-apart s k (plainly e) = dashes-alone s (sym e ∙ k)
by-apart s {word} k (itself p h) = not-positional word (drop 2 (option_word s)) (k ∙ alone-dashes s) p
by-apart s k (joined t u e h) = alone-joined s t u (sym k ∙ e)
by-apart s {value = value} k (apart t {parts = rest} e d h) = (d, (rest, h, λ i. with_value (same i) value rest))
  where
    same : t ≡ s
    same = setting-same t s [] [] (ap (λ w. w ++ []) (sym e ∙ k))

-- an option without a value is no command
pub by-alone : {A : Type 0} (s : Setting) {word : List ℕ} {said : Parts} → word ≡ option_word s → Says (word ∷ []) said → A
by-alone s k (plainly e) = dashes-alone s (sym e ∙ k)
by-alone s {word} k (itself p h) = not-positional word (drop 2 (option_word s)) (k ∙ alone-dashes s) p
by-alone s k (joined t u e h) = alone-joined s t u (sym k ∙ e)

-- ---- the same words say one thing

pub says-one : {words : List (List ℕ)} {a b : Parts} → Says words a → Says words b → a ≡ b
says-one nothing k = sym (by-nothing k)
says-one (plainly e) k = sym (by-dashes e k)
says-one (itself {word} p h) k = let (rest, r, e) = by-positional p k in ap (with_word word) (says-one h r) ∙ sym e
says-one (joined s v e h) k = let (rest, r, e2) = by-joined s v e k in ap (with_value s v) (says-one h r) ∙ sym e2
says-one (apart s {value = v} e d h) k = let (rest, r, e2) = (by-apart s e k).1 in ap (with_value s v) (says-one h r) ∙ sym e2
