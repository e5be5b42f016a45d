-- A type inside another one, as the code reads it.
use Rattle.std.proofs.Common.{◌≡◌, ◌≢◌, ℕ, zero, suc, ◌-◌, ◌<◌, Bool, List, length, None, Some, refl, ap, subst, ◌∙◌, arith}
use Rattle.bal_base.specs.declared.token.Token.{Token}
use Rattle.bal_tree.specs.Spells.{kinds_of}
use Rattle.token_steps.specs.Tokens.{Kinds}
use Rattle.parse_types.specs.Reaches.{Left, union, no_more, inside}
use Rattle.parse_types.proofs.Levels.{no_more-passes}
use Rattle.parse_types.proofs.Readings.{length-kinds}

module _ (middle : Bool) where
  pub inside-zero : (n : ℕ) (ks : Kinds) → n ≡ 0 → inside n middle ks ≡ None
  inside-zero n ks e = ap (λ m. inside m middle ks) e

  pub inside-found : (n : ℕ) (tokens rest : List Token) (b : Bool) → n ≢ 0 → union (inside (n - 1)) middle (kinds_of tokens) ≡ Some record { in_result = b; rest = kinds_of rest } → length rest < length tokens → inside n middle (kinds_of tokens) ≡ Some (kinds_of rest)
  inside-found zero tokens rest b some e lt = absurd (some refl)
  inside-found (suc n) tokens rest b some e lt =
      let same : suc n - 1 ≡ n = omega arith in
      let l : Left = record { in_result = b; rest = kinds_of rest } in
      let here = subst (λ m. union (inside m) middle (kinds_of tokens) ≡ Some l) same e in
      ap (no_more (kinds_of tokens)) here ∙ no_more-passes (kinds_of tokens) l (let x = length-kinds rest in let y = length-kinds tokens in omega arith)

  pub inside-missing : (n : ℕ) (ks : Kinds) → n ≢ 0 → union (inside (n - 1)) middle ks ≡ None → inside n middle ks ≡ None
  inside-missing zero ks some e = absurd (some refl)
  inside-missing (suc n) ks some e =
      let same : suc n - 1 ≡ n = omega arith in
      ap (no_more ks) (subst (λ m. union (inside m) middle ks ≡ None) same e)

pub ruleset insides = (inside-zero, inside-found, inside-missing)
