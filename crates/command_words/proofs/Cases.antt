-- The cases, worked: what the words say, and what that asks for.
use Rattle.std.proofs.Common.{◌≡◌, ◌∙◌, ◌≤◌, ◌<◌, ◌^◌, ℕ, List, [], ◌∷◌, ◌++◌, ap, arith, codes, drop, get_or, inl, inr, length, lit<, lit≤, refl, subst, sym}
use Rattle.std.specs.Prelude.{All}
use Rattle.std.specs.Str.{chars}
use Rattle.std.proofs.lemmas.Bool.{false≢true}
use Rattle.std.proofs.lemmas.List.Elements.{All-cons, All-nil}
use Rattle.command_words.specs.declared.command.TheConstants.{MOST_WORD_BYTES}
use Rattle.command_words.specs.declared.word.Setting.TheVariants.{Mode, Ticks, Seed}
use Rattle.command_words.specs.Cases.{AreNone, Cases, plain}
use Rattle.command_words.specs.Commands.{AreCommand, Asks, Check, Code, IsNumber, Pairs, Purpose, Request, Run, Subtype, Takes, mode_word}
use Rattle.command_words.specs.Words.{IsPositional, Parts, Says, apart, itself, joined, nothing, only, option_word, plainly, with_value, with_word}
use Rattle.command_words.proofs.OneKind.{not-positional, option-dashes}
use Rattle.command_words.proofs.One.{codes-differ}
use Rattle.command_words.proofs.Sayings.{by-alone, by-apart, by-positional, says-one}

abbrev IsShort : List ℕ → Type 0
IsShort word = length word ≤ MOST_WORD_BYTES

both-short : (a b : List ℕ) → IsShort a → IsShort b → All IsShort (a ∷ b ∷ [])
both-short a b p q = All-cons IsShort a (b ∷ []) p (All-cons IsShort b [] q (All-nil IsShort))

-- a word with another first character than a dash stands for itself
plain-word : (c : ℕ) (cs : List ℕ) → ¬ (c ≡ 45) → IsPositional (c ∷ cs)
plain-word c cs other = inr other

-- `.`
dot : IsPositional (codes ".")
dot = inr (λ e. omega (arith, e))

-- words that say this, which asks for nothing
none-by : {words : List (List ℕ)} (said : Parts) → Says words said → ((request : Request) → ¬ (Asks said request)) → AreNone words
none-by said says none request (other, h, asks) = none request (subst (λ s. Asks s request) (says-one h says) asks)

-- words behind `.` that say nothing
none-behind : {words : List (List ℕ)} → ((said : Parts) → ¬ (Says words said)) → AreNone (codes "." ∷ words)
none-behind none request (said, h, asks) = let (rest, says, e) = by-positional dot h in none rest says

-- ---- commands

runs : AreCommand (codes "." ∷ []) (plain (codes ".") (Run []))
runs = (
  only (codes "." ∷ []),
  itself dot nothing,
  record { words = []; positional = refl; few = lit≤ tt; short = All-nil IsShort; takes = refl; mode = refl; ticks = refl; seed = refl },
)

behind-dashes : AreCommand (codes "--" ∷ codes "-x" ∷ []) (plain (codes "-x") (Run []))
behind-dashes = (
  only (codes "-x" ∷ []),
  plainly refl,
  record { words = []; positional = refl; few = lit≤ tt; short = All-nil IsShort; takes = refl; mode = refl; ticks = refl; seed = refl },
)

two-words : AreCommand (codes "." ∷ codes "-" ∷ codes "a" ∷ []) (plain (codes ".") (Run (codes "-" ∷ codes "a" ∷ [])))
unfolding chars
two-words = (
  only (codes "." ∷ codes "-" ∷ codes "a" ∷ []),
  itself dot (itself (inl refl) (itself (plain-word 97 [] (λ e. omega (arith, e))) nothing)),
  record {
    words = codes "-" ∷ codes "a" ∷ [];
    positional = refl;
    few = lit≤ tt;
    short = both-short (codes "-") (codes "a") (lit≤ tt) (lit≤ tt);
    takes = refl;
    mode = refl;
    ticks = refl;
    seed = refl;
  },
)

two-is-number : IsNumber (codes "2") 2
two-is-number = record { some = lit< tt; few = lit≤ tt; decimal = refl; value = refl; small = lit< tt }

with-seed : AreCommand (codes "--seed" ∷ codes "2" ∷ codes "--" ∷ codes "." ∷ []) (record (plain (codes ".") (Run [])) { seed = 2 })
with-seed = (
  with_value Seed (codes "2") (only (codes "." ∷ [])),
  apart Seed refl (λ e. omega (arith, e)) (plainly refl),
  record { words = []; positional = refl; few = lit≤ tt; short = All-nil IsShort; takes = refl; mode = refl; ticks = refl; seed = two-is-number },
)

most-is-number : IsNumber (codes "18446744073709551615") 18446744073709551615
most-is-number = record { some = lit< tt; few = lit≤ tt; decimal = refl; value = refl; small = lit< tt }

most-ticks : AreCommand (codes "." ∷ codes "--ticks=18446744073709551615" ∷ []) (record (plain (codes ".") (Run [])) { ticks = 18446744073709551615 })
most-ticks = (
  with_word (codes ".") (with_value Ticks (codes "18446744073709551615") (only [])),
  itself dot (joined Ticks (codes "18446744073709551615") refl nothing),
  record { words = []; positional = refl; few = lit≤ tt; short = All-nil IsShort; takes = refl; mode = refl; ticks = most-is-number; seed = refl },
)

checks : AreCommand (codes "--mode" ∷ codes "check" ∷ codes "." ∷ []) (plain (codes ".") Check)
checks = (
  with_value Mode (codes "check") (only (codes "." ∷ [])),
  apart Mode refl (λ e. omega (arith, e)) (itself dot nothing),
  record { words = []; positional = refl; few = lit≤ tt; short = All-nil IsShort; takes = refl; mode = refl; ticks = refl; seed = refl },
)

tells-pairs : AreCommand (codes "." ∷ codes "--mode" ∷ codes "pairs" ∷ []) (plain (codes ".") Pairs)
tells-pairs = (
  with_word (codes ".") (with_value Mode (codes "pairs") (only [])),
  itself dot (apart Mode refl (λ e. omega (arith, e)) nothing),
  record { words = []; positional = refl; few = lit≤ tt; short = All-nil IsShort; takes = refl; mode = refl; ticks = refl; seed = refl },
)

tells-code : AreCommand (codes "--mode=code" ∷ codes "." ∷ []) (plain (codes ".") Code)
tells-code = (
  with_value Mode (codes "code") (only (codes "." ∷ [])),
  joined Mode (codes "code") refl (itself dot nothing),
  record { words = []; positional = refl; few = lit≤ tt; short = All-nil IsShort; takes = refl; mode = refl; ticks = refl; seed = refl },
)

asks-types : AreCommand (codes "." ∷ codes "int" ∷ codes "0|1" ∷ codes "--mode=subtype" ∷ []) (plain (codes ".") (Subtype (codes "int") (codes "0|1")))
asks-types = (
  with_value Mode (codes "subtype") (only (codes "." ∷ codes "int" ∷ codes "0|1" ∷ [])),
  itself dot (itself (plain-word 105 _ (λ e. omega (arith, e))) (itself (plain-word 48 _ (λ e. omega (arith, e))) (joined Mode (codes "subtype") refl nothing))),
  record {
    words = codes "int" ∷ codes "0|1" ∷ [];
    positional = refl;
    few = lit≤ tt;
    short = both-short (codes "int") (codes "0|1") (lit≤ tt) (lit≤ tt);
    takes = refl;
    mode = refl;
    ticks = refl;
    seed = refl;
  },
)

-- ---- words that say something, which is no command

empty : AreNone []
empty = none-by (only []) nothing (λ request h. let n : 0 ≡ length (request.dir ∷ h.words) = ap length h.positional in no-size request.dir h.words n)
  where
    no-size : (d : List ℕ) (ws : List (List ℕ)) → 0 ≡ length (d ∷ ws) → ⊥
    no-size d ws n = omega (arith, n)

twice : AreNone (codes "." ∷ codes "--mode=check" ∷ codes "--mode" ∷ codes "check" ∷ [])
twice =
    none-by (with_word (codes ".") (with_value Mode (codes "check") (with_value Mode (codes "check") (only []))))
    (itself dot (joined Mode (codes "check") refl (apart Mode refl (λ e. omega (arith, e)) nothing))) (λ request h. h.mode)

-- the value of `--mode` is no word of a mode
no-mode : (purpose : Purpose) → ¬ (codes "walk" ≡ mode_word purpose)
no-mode (Run texts) e = codes-differ (codes "walk") (codes "run") 108 110 refl refl (λ n. omega (arith, n)) e
no-mode Check e = codes-differ (codes "walk") (codes "check") 108 101 refl refl (λ n. omega (arith, n)) e
no-mode Pairs e = codes-differ (codes "walk") (codes "pairs") 108 105 refl refl (λ n. omega (arith, n)) e
no-mode Code e = codes-differ (codes "walk") (codes "code") 108 100 refl refl (λ n. omega (arith, n)) e
no-mode (Subtype left right) e = codes-differ (codes "walk") (codes "subtype") 108 98 refl refl (λ n. omega (arith, n)) e

other-mode : AreNone (codes "." ∷ codes "--mode" ∷ codes "walk" ∷ [])
other-mode =
    none-by (with_word (codes ".") (with_value Mode (codes "walk") (only []))) (itself dot (apart Mode refl (λ e. omega (arith, e)) nothing))
    (λ request h. no-mode request.purpose h.mode)

-- there are no words in a mode whose word has this third character, other than those of `run` and `subtype`
no-words : (word : List ℕ) (letter : ℕ) → get_or word 2 0 ≡ letter → ¬ (letter ≡ 110) → ¬ (letter ≡ 98)
    → (purpose : Purpose) (words : List (List ℕ)) → word ≡ mode_word purpose → Takes purpose words → words ≡ []
no-words word letter is run subtype (Run texts) words e h = codes-differ word (codes "run") letter 110 is refl run e
no-words word letter is run subtype Check words e h = h
no-words word letter is run subtype Pairs words e h = h
no-words word letter is run subtype Code words e h = h
no-words word letter is run subtype (Subtype left right) words e h = codes-differ word (codes "subtype") letter 98 is refl subtype e

-- what stands for itself is then the folder's word alone
no-second : (request : Request) (words : List (List ℕ)) → codes "." ∷ codes "a" ∷ [] ≡ request.dir ∷ words → words ≡ [] → ⊥
no-second request words positional none =
    let n : 2 ≡ length (request.dir ∷ []) = ap length (positional ∙ ap (λ ws. request.dir ∷ ws) none) in no-size request.dir n
  where
    no-size : (d : List ℕ) → 2 ≡ length (d ∷ []) → ⊥
    no-size d n = omega (arith, n)

word-in-check : AreNone (codes "." ∷ codes "a" ∷ codes "--mode" ∷ codes "check" ∷ [])
word-in-check =
    none-by (with_word (codes ".") (with_word (codes "a") (with_value Mode (codes "check") (only []))))
    (itself dot (itself (plain-word 97 [] (λ e. omega (arith, e))) (apart Mode refl (λ e. omega (arith, e)) nothing)))
    (λ request h.
    no-second request h.words h.positional
    (no-words (codes "check") 101 refl (λ n. omega (arith, n)) (λ n. omega (arith, n)) request.purpose h.words h.mode h.takes))

word-in-code : AreNone (codes "." ∷ codes "a" ∷ codes "--mode=code" ∷ [])
word-in-code =
    none-by (with_word (codes ".") (with_word (codes "a") (with_value Mode (codes "code") (only []))))
    (itself dot (itself (plain-word 97 [] (λ e. omega (arith, e))) (joined Mode (codes "code") refl nothing)))
    (λ request h.
    no-second request h.words h.positional
    (no-words (codes "code") 100 refl (λ n. omega (arith, n)) (λ n. omega (arith, n)) request.purpose h.words h.mode h.takes))

no-digits : AreNone (codes "." ∷ codes "--ticks=" ∷ [])
no-digits =
    none-by (with_word (codes ".") (with_value Ticks [] (only []))) (itself dot (joined Ticks [] refl nothing))
    (λ request h. let n : 0 < 0 = h.ticks.some in omega (arith, n))

too-large : AreNone (codes "." ∷ codes "--ticks" ∷ codes "99999999999999999999" ∷ [])
too-large =
    none-by (with_word (codes ".") (with_value Ticks (codes "99999999999999999999") (only []))) (itself dot (apart Ticks refl (λ e. omega (arith, e)) nothing))
    (λ request h. let n : 99999999999999999999 < 2 ^ 64 = subst (λ m. m < 2 ^ 64) h.ticks.value h.ticks.small in omega (arith, n))

signed : AreNone (codes "." ∷ codes "--ticks" ∷ codes "+1" ∷ [])
signed =
    none-by (with_word (codes ".") (with_value Ticks (codes "+1") (only []))) (itself dot (apart Ticks refl (λ e. omega (arith, e)) nothing))
    (λ request h. false≢true h.ticks.decimal)

-- ---- words that say nothing

dash-for-value : AreNone (codes "." ∷ codes "--mode" ∷ codes "-x" ∷ [])
dash-for-value = none-behind (λ said h. (by-apart Mode refl h).0 refl)

no-value : AreNone (codes "." ∷ codes "--seed" ∷ [])
no-value = none-behind (λ said h. by-alone Seed refl h)

-- the characters at a place differ
differ-at : {A : Type 0} (i : ℕ) (x y : List ℕ) (a b : ℕ) → get_or x i 0 ≡ a → get_or y i 0 ≡ b → ¬ (a ≡ b) → x ≡ y → A
differ-at i x y a b ea eb d e = absurd (d (sym ea ∙ ap (λ l. get_or l i 0) e ∙ eb))

says-no-short : (said : Parts) → ¬ (Says (codes "-x" ∷ []) said)
says-no-short said (plainly e) = differ-at 1 (codes "-x") (codes "--") 120 45 refl refl (λ n. omega (arith, n)) e
says-no-short said (itself (inl e) h) = differ-at 1 (codes "-x") (codes "-") 120 0 refl refl (λ n. omega (arith, n)) e
says-no-short said (itself (inr n) h) = n refl
says-no-short said (joined s v e h) =
    differ-at 1 (codes "-x") (45 ∷ 45 ∷ drop 2 (option_word s ++ (codes "=" ++ v))) 120 45 refl refl (λ n. omega (arith, n)) (e ∙ option-dashes s (codes "=" ++ v))

short-option : AreNone (codes "." ∷ codes "-x" ∷ [])
short-option = none-behind says-no-short

says-no-other : (said : Parts) → ¬ (Says (codes "--modes=run" ∷ []) said)
says-no-other said (plainly e) = differ-at 2 (codes "--modes=run") (codes "--") 109 0 refl refl (λ n. omega (arith, n)) e
says-no-other said (itself p h) = not-positional (codes "--modes=run") (codes "modes=run") refl p
says-no-other said (joined Mode v e h) = differ-at 6 (codes "--modes=run") (codes "--mode=" ++ v) 115 61 refl refl (λ n. omega (arith, n)) e
says-no-other said (joined Ticks v e h) = differ-at 2 (codes "--modes=run") (codes "--ticks=" ++ v) 109 116 refl refl (λ n. omega (arith, n)) e
says-no-other said (joined Seed v e h) = differ-at 2 (codes "--modes=run") (codes "--seed=" ++ v) 109 115 refl refl (λ n. omega (arith, n)) e

other-option : AreNone (codes "." ∷ codes "--modes=run" ∷ [])
other-option = none-behind says-no-other

pub cases : Cases
cases = record {
  runs = runs;
  behind_dashes = behind-dashes;
  words = two-words;
  seed = with-seed;
  most_ticks = most-ticks;
  checks = checks;
  pairs = tells-pairs;
  code = tells-code;
  asks = asks-types;
  empty = empty;
  twice = twice;
  other_mode = other-mode;
  word_in_check = word-in-check;
  word_in_code = word-in-code;
  no_digits = no-digits;
  too_large = too-large;
  signed = signed;
  dash_for_value = dash-for-value;
  no_value = no-value;
  short_option = short-option;
  other_option = other-option;
}
