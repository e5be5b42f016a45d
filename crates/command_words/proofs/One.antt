-- The same words never ask for two things.
use Rattle.std.proofs.Common.{◌≡◌, ◌∙◌, ◌==◌, ℕ, List, [], ◌∷◌, String, chars, get_or, codes, map, refl, sym, ap, subst, drop, if◌then◌else◌}
use Rattle.std.specs.Global.{Global}
use Rattle.command_words.specs.Commands.{Asks, AtMostOnce, Check, Code, IsCommand, IsNumber, Pairs, Purpose, Request, Run, Subtype, Takes, mode_word}
use Rattle.command_words.specs.Words.{Parts}
use Rattle.command_words.proofs.Sayings.{says-one}

head-same : (a b : List ℕ) (xs ys : List (List ℕ)) → a ∷ xs ≡ b ∷ ys → a ≡ b
head-same a b xs ys e = ap (λ l. get_or l 0 a) e

pub tail-same : (a b : List ℕ) (xs ys : List (List ℕ)) → a ∷ xs ≡ b ∷ ys → xs ≡ ys
tail-same a b xs ys e = ap (drop 1) e

-- the words of modes differ in their third characters
pub codes-differ : {A : Type 0} (x y : List ℕ) (a b : ℕ) → get_or x 2 0 ≡ a → get_or y 2 0 ≡ b → (a ≡ b → ⊥) → x ≡ y → A
codes-differ x y a b ea eb d e = absurd (d (sym ea ∙ ap (λ l. get_or l 2 0) e ∙ eb))

-- the purpose whose word has this third character, and which takes these words
abbrev purpose_back : ℕ → List (List ℕ) → Purpose
purpose_back letter words =
    if letter == 110 then Run (map chars words)
    else if letter == 101 then Check
    else if letter == 105 then Pairs
    else if letter == 100 then Code
    else Subtype (get_or words 0 []) (get_or words 1 [])

purpose-back : (p : Purpose) (words : List (List ℕ)) → Takes p words → purpose_back (get_or (mode_word p) 2 0) words ≡ p
purpose-back (Run texts) words h = ap Run (sym h)
purpose-back Check words h = refl
purpose-back Pairs words h = refl
purpose-back Code words h = refl
purpose-back (Subtype left right) words h = ap (λ ws. Subtype (get_or ws 0 []) (get_or ws 1 [])) h

pub purpose-same : (p q : Purpose) (words others : List (List ℕ)) → mode_word p ≡ mode_word q → words ≡ others → Takes p words → Takes q others → p ≡ q
purpose-same p q words others m e h k =
    sym (purpose-back p words h) ∙ ((λ i. purpose_back (get_or (m i) 2 0) (e i)) ∙ purpose-back q others k)

-- an option that is given at most once has one value
pub mode-same : (values : List (List ℕ)) (x y : List ℕ) → AtMostOnce (codes "run" ≡ x) (λ value. value ≡ x) values
    → AtMostOnce (codes "run" ≡ y) (λ value. value ≡ y) values → x ≡ y
mode-same [] x y h k = sym h ∙ k
mode-same (v ∷ []) x y h k = sym h ∙ k
mode-same (v ∷ w ∷ more) x y h k = absurd h

pub number-same : (values : List (List ℕ)) (default m n : ℕ) → AtMostOnce (m ≡ default) (λ value. IsNumber value m) values
    → AtMostOnce (n ≡ default) (λ value. IsNumber value n) values → m ≡ n
number-same [] default m n h k = h ∙ sym k
number-same (v ∷ []) default m n h k = h.value ∙ sym k.value
number-same (v ∷ w ∷ more) default m n h k = absurd h

pub asks-one : (said : Parts) (a b : Request) → Asks said a → Asks said b → a ≡ b
asks-one said a b h k =
    let all : a.dir ∷ h.words ≡ b.dir ∷ k.words = sym h.positional ∙ k.positional in
    let dir : a.dir ≡ b.dir = head-same a.dir b.dir h.words k.words all in
    let purpose : a.purpose ≡ b.purpose =
    purpose-same a.purpose b.purpose h.words k.words (mode-same said.modes (mode_word a.purpose) (mode_word b.purpose) h.mode k.mode)
    (tail-same a.dir b.dir h.words k.words all) h.takes k.takes in
    let ticks : a.ticks ≡ b.ticks = number-same said.ticks _ a.ticks b.ticks h.ticks k.ticks in
    let seed : a.seed ≡ b.seed = number-same said.seeds _ a.seed b.seed h.seed k.seed in
    λ i. record { dir = dir i; purpose = purpose i; ticks = ticks i; seed = seed i }

pub command-one : (words : List (String Global)) (a b : Request) → IsCommand words a → IsCommand words b → a ≡ b
command-one words a b (said, h, asks) (other, k, others) = asks-one other a b (subst (λ s. Asks s a) (says-one h k) asks) others
