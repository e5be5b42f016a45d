-- What is asked for, by the words behind the folder's one.
use Rattle.std.proofs.Common.{◌≡◌, ◌∙◌, ◌≤◌, ◌<◌, ℕ, List, [], ◌∷◌, Option, Some, None, Result, Ok, Err, String, ap, arith, length, map, string_bytes, subst, sym}
use Rattle.std.specs.Prelude.{All, IfOk, IfSome, MatchOption}
use Rattle.std.specs.Global.{Global}
use Rattle.std.specs.Borrow.{Bor}
use Rattle.std.proofs.Math.ListN.{get_or-map}
use Rattle.std.proofs.lemmas.List.{length-map}
use Rattle.std.proofs.lemmas.List.Elements.{All-map}
use Rattle.command_words.specs.Commands.{Asks, AtMostOnce, IsCommand, NoCommand, Request, Takes, request_of}
use Rattle.command_words.specs.Words.{Parts, Says}
use Rattle.command_words.specs.declared.command.Command.{Command}
use Rattle.command_words.specs.declared.command.TheConstants.{MOST_WORD_BYTES, MOST_WORDS}
use Rattle.command_words.specs.declared.parts.WordParts.{WordParts}
use Rattle.command_words.specs.inner.Choices.{AreFit, IsAskedWith, IsFoundIn, IsFoundWith}
use Rattle.command_words.specs.inner.Reading.{IsOnce, NeverOnce, bytes_of, said_by}
use Rattle.command_words.proofs.One.{tail-same}
use Rattle.command_words.proofs.Sayings.{says-one}

bytes-length : (words : List (Bor (List ℕ))) → length (bytes_of words) ≡ length words
bytes-length words = length-map words (λ w. w.now)

pub asks-made : (p : WordParts) (dir : Bor (List ℕ)) (words : List (Bor (List ℕ))) (request : Request) → p.positional.items ≡ dir ∷ words → AreFit words
    → request.dir ≡ dir.now → IsAskedWith p words request → Asks (said_by p) request
asks-made p dir words request e fit same asked = record {
  words = bytes_of words;
  positional = ap bytes_of e ∙ ap (λ d. d ∷ bytes_of words) (sym same);
  few = subst (λ n. n ≤ MOST_WORDS) (sym (bytes-length words)) fit.0;
  short = All-map (λ word. length word ≤ MOST_WORD_BYTES) (λ w. w.now) words fit.1;
  takes = asked.chosen.1;
  mode = asked.chosen.0;
  ticks = asked.ticks;
  seed = asked.seed;
}

-- the other way
words-same : (p : WordParts) (dir : Bor (List ℕ)) (words : List (Bor (List ℕ))) (request : Request) → p.positional.items ≡ dir ∷ words
    → (h : Asks (said_by p) request) → h.words ≡ bytes_of words
words-same p dir words request e h = tail-same request.dir dir.now h.words (bytes_of words) (sym h.positional ∙ ap bytes_of e)

pub asks-fit : (p : WordParts) (dir : Bor (List ℕ)) (words : List (Bor (List ℕ))) (request : Request) → p.positional.items ≡ dir ∷ words
    → Asks (said_by p) request → AreFit words
asks-fit p dir words request e h =
    let same = words-same p dir words request e h in
    let few : length (bytes_of words) ≤ MOST_WORDS = subst (λ ws. length ws ≤ MOST_WORDS) same h.few in
    let short : All (λ word. length word ≤ MOST_WORD_BYTES) (bytes_of words) = subst (λ ws. All (λ word. length word ≤ MOST_WORD_BYTES) ws) same h.short in (
      subst (λ n. n ≤ MOST_WORDS) (bytes-length words) few,
      λ k d lt. subst (λ w. length w ≤ MOST_WORD_BYTES) (get_or-map (λ w. w.now) words k d) (short k d.now (subst (λ n. k < n) (sym (bytes-length words)) lt)),
    )

pub asks-with : (p : WordParts) (dir : Bor (List ℕ)) (words : List (Bor (List ℕ))) (request : Request) → p.positional.items ≡ dir ∷ words
    → Asks (said_by p) request → IsAskedWith p words request
asks-with p dir words request e h = record {
  chosen = (h.mode, subst (λ ws. Takes request.purpose ws) (words-same p dir words request e h) h.takes);
  ticks = h.ticks;
  seed = h.seed;
}

-- ---- the answers

pub command-made : {E : Type 0} (p : WordParts) (dir : Bor (List ℕ)) (words : List (Bor (List ℕ))) (r : Result (Option Command) E)
    → p.positional.items ≡ dir ∷ words → AreFit words → IfOk r (λ found. IfSome found (λ c. (request_of c).dir ≡ dir.now))
    → IfOk r (λ found. IsFoundWith p words found) → IfOk r (λ found. IsFoundIn (said_by p) found)
command-made p dir words (Ok None) e fit same asked = λ request h. asked request (asks-with p dir words request e h)
command-made p dir words (Ok (Some c)) e fit same asked = asks-made p dir words (request_of c) e fit same asked
command-made p dir words (Err x) e fit same asked = asked

-- of what the words say there is one
abbrev pub IsFoundAmong : List (String Global) → Option Command → Type 0
IsFoundAmong words found = MatchOption found (NoCommand words) (λ c. IsCommand words (request_of c))

pub command-said : {E : Type 0} (words : List (String Global)) (p : WordParts) (r : Result (Option Command) E) → Says (map string_bytes words) (said_by p)
    → IfOk r (λ found. IsFoundIn (said_by p) found) → IfOk r (λ found. IsFoundAmong words found)
command-said words p (Ok None) says none = λ request (said, h, asks). none request (subst (λ s. Asks s request) (says-one h says) asks)
command-said words p (Ok (Some c)) says asks = (said_by p, says, asks)
command-said words p (Err x) says h = h

-- a command gives no option twice
at-most : (Default : Type 0) (Given : List ℕ → Type 0) (values : List (List ℕ)) → AtMostOnce Default Given values → length values ≤ 1
at-most Default Given [] h = omega arith
at-most Default Given (v ∷ []) h = omega arith
at-most Default Given (v ∷ w ∷ more) h = absurd h

pub asks-once : (said : Parts) (request : Request) → Asks said request → IsOnce said
asks-once said request h = record {
  modes = at-most _ _ said.modes h.mode;
  ticks = at-most _ _ said.ticks h.ticks;
  seeds = at-most _ _ said.seeds h.seed;
}

pub never-command : (words : List (String Global)) → NeverOnce (map string_bytes words) → NoCommand words
never-command words never request (said, h, asks) = never said h (asks-once said request asks)
