-- Steps over the tokens at the front leave less.
use Rattle.std.proofs.Common.{◌≡◌, suc, ◌<◌, ◌≤◌, Bool, true, false, [], ◌∷◌, length, Option, None, Some, refl, arith}
use Rattle.std.specs.Prelude.{if◌then◌else◌}
use denote.Enum.Bare.{sameb}
use Rattle.bal_base.specs.contracts.token.Sign.{the_type as the_signs}
use Rattle.bal_base.specs.contracts.token.Keyword.{the_type as the_keywords}
use Rattle.bal_base.specs.declared.token.TokenKind.TheVariants.{Word as WordKind, Keyword as KeywordKind, Sign as SignKind}
use Rattle.bal_base.specs.declared.token.Keyword.{Keyword}
use Rattle.bal_base.specs.declared.token.Sign.{Sign}
use Rattle.token_steps.specs.Tokens.{Kinds, take_sign, take_key, take_word}
use Rattle.parse_types.specs.Loops.{or_else, else_stays}

pub take_sign-less : (s : Sign) (ks a : Kinds) → take_sign s ks ≡ Some a → length a < length ks
take_sign-less s [] a e = cc
take_sign-less s (SignKind x ∷ ks) a e = less (sameb the_signs x s) e
  where
    less : (b : Bool) → (if b then Some ks else None) ≡ Some a → length a < suc (length ks)
    less true e = let same : length ks ≡ length a = cc e in omega arith
    less false e = cc
take_sign-less s (k ∷ ks) a e = cc

pub take_key-less : (w : Keyword) (ks a : Kinds) → take_key w ks ≡ Some a → length a < length ks
take_key-less w [] a e = cc
take_key-less w (KeywordKind x ∷ ks) a e = less (sameb the_keywords x w) e
  where
    less : (b : Bool) → (if b then Some ks else None) ≡ Some a → length a < suc (length ks)
    less true e = let same : length ks ≡ length a = cc e in omega arith
    less false e = cc
take_key-less w (k ∷ ks) a e = cc

pub take_word-less : (ks a : Kinds) → take_word ks ≡ Some a → length a < length ks
take_word-less [] a e = cc
take_word-less (WordKind w ∷ ks) a e = let same : length ks ≡ length a = cc e in omega arith
take_word-less (k ∷ ks) a e = cc

pub else_stays-less : (o : Option Kinds) (ks : Kinds) → ((a : Kinds) → o ≡ Some a → length a ≤ length ks) → length (else_stays o ks) ≤ length ks
else_stays-less None ks h = omega arith
else_stays-less (Some a) ks h = h a refl

pub or_else-less : (o p : Option Kinds) (a ks : Kinds) → or_else o p ≡ Some a → ((b : Kinds) → o ≡ Some b → length b ≤ length ks) → ((b : Kinds) → p ≡ Some b → length b ≤ length ks) → length a ≤ length ks
or_else-less None p a ks e h k = k a e
or_else-less (Some b) p a ks e h k = h a e
