-- An option is given its value.
use Rattle.std.proofs.Common.{◌≡◌, ◌∙◌, ℕ, List, [], ◌∷◌, ◌++◌, Option, Some, None, sym, ap}
use Rattle.std.specs.Borrow.{Bor}
use Rattle.command_words.specs.declared.parts.Awaits.{Awaits}
use Rattle.command_words.specs.declared.parts.WordParts.{WordParts}
use Rattle.command_words.specs.declared.word.Setting.TheVariants.{Mode, Ticks, Seed}
use Rattle.command_words.specs.inner.Reading.{IsSet, IsSetOnce, bytes_of, list_of, said_by}
use Rattle.command_words.proofs.Reading.{append-none}

-- the one value in place of none
one-more : (before after : Option (Bor (List ℕ))) (value : Bor (List ℕ)) → before ≡ None → after ≡ Some value → list_of after ≡ list_of before ++ value.now ∷ []
one-more before after value b a = ap list_of a ∙ ap (λ o. list_of o ++ value.now ∷ []) (sym b)

pub mode-set : (p : WordParts) (value : Bor (List ℕ)) (after : Option (Bor (List ℕ))) (r : Option Awaits) → IsSetOnce p.mode value after r
    → IsSet Mode value.now (said_by p) (said_by (record p { mode = after })) r
mode-set p value after None has = has
mode-set p value after (Some n) (left, b, a) = (
  left,
  λ i. record {
    positional = sym (append-none (bytes_of p.positional.items)) i;
    modes = one-more p.mode after value b a i;
    ticks = sym (append-none (list_of p.ticks)) i;
    seeds = sym (append-none (list_of p.seed)) i;
  },
)

pub ticks-set : (p : WordParts) (value : Bor (List ℕ)) (after : Option (Bor (List ℕ))) (r : Option Awaits) → IsSetOnce p.ticks value after r
    → IsSet Ticks value.now (said_by p) (said_by (record p { ticks = after })) r
ticks-set p value after None has = has
ticks-set p value after (Some n) (left, b, a) = (
  left,
  λ i. record {
    positional = sym (append-none (bytes_of p.positional.items)) i;
    modes = sym (append-none (list_of p.mode)) i;
    ticks = one-more p.ticks after value b a i;
    seeds = sym (append-none (list_of p.seed)) i;
  },
)

pub seed-set : (p : WordParts) (value : Bor (List ℕ)) (after : Option (Bor (List ℕ))) (r : Option Awaits) → IsSetOnce p.seed value after r
    → IsSet Seed value.now (said_by p) (said_by (record p { seed = after })) r
seed-set p value after None has = has
seed-set p value after (Some n) (left, b, a) = (
  left,
  λ i. record {
    positional = sym (append-none (bytes_of p.positional.items)) i;
    modes = sym (append-none (list_of p.mode)) i;
    ticks = sym (append-none (list_of p.ticks)) i;
    seeds = one-more p.seed after value b a i;
  },
)
