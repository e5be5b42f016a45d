-- The readers of the code, by the level up to which they read.
use Rattle.std.proofs.Common.{◌≡◌, ◌≢◌, ℕ, zero, suc, ◌-◌, ◌<◌, ◌≤◌, Bool, true, false, List, length, Option, None, Some, refl, sym, ap, subst, ◌∙◌, arith}
use Rattle.std.specs.Prelude.{option_map, if◌then◌else◌}
use Rattle.bal_base.specs.declared.token.Token.{Token}
use Rattle.bal_tree.specs.declared.level.Level.{Level}
use Rattle.bal_tree.specs.declared.level.Level.TheVariants.{Postfix, Prefix, Product, Sum, Comparison, Equality, Conjunction, Disjunction, Elvis, Conditional, Loosest}
use Rattle.bal_tree.specs.Levels.{rank}
use Rattle.bal_tree.specs.Spells.{kinds_of}
use Rattle.parse_types.specs.Loops.{◌>>=◌, or_else, many}
use Rattle.token_steps.specs.Tokens.{Kinds}
use Rattle.parse_types.proofs.Going.{many-stops}
use Rattle.parse_types.proofs.Readings.{length-kinds, kinds-less}
use Rattle.parse_expr.specs.Operators.{is_chain, once, step, test, branches, single, loop}
use Rattle.parse_expr.specs.Reaches.{Left, closed_at, left_length, suffix_step, primary, postfix, type_at, suffixed, tight, level, loosest, up_to, no_more, inside}
use Rattle.parse_expr.proofs.Law.{up_to-level, up_to-loosest, no_more-passes}
use Rattle.parse_expr.proofs.LayerLaw.{no-op-one}
use Rattle.parse_expr.proofs.OperatorLaw.{once-goes, reads-suc, reads-zero}

pub rank-top : (l : Level) → rank l ≤ 10
rank-top Postfix = omega arith
rank-top Prefix = omega arith
rank-top Product = omega arith
rank-top Sum = omega arith
rank-top Comparison = omega arith
rank-top Equality = omega arith
rank-top Conjunction = omega arith
rank-top Disjunction = omega arith
rank-top Elvis = omega arith
rank-top Conditional = omega arith
rank-top Loosest = omega arith

module _ (k : ℕ) (middle : Bool) where
  pub inside-zero : (n : ℕ) (ks : Kinds) → n ≡ 0 → inside n k middle ks ≡ None
  inside-zero n ks e = ap (λ m. inside m k middle ks) e

  pub inside-found : (n : ℕ) (tokens rest : List Token) → n ≢ 0 → up_to (inside (n - 1)) middle k (kinds_of tokens) ≡ Some (kinds_of rest) → length rest < length tokens → inside n k middle (kinds_of tokens) ≡ Some (kinds_of rest)
  inside-found zero tokens rest some e lt = absurd (some refl)
  inside-found (suc n) tokens rest some e lt =
      let same : suc n - 1 ≡ n = omega arith in
      let here = subst (λ m. up_to (inside m) middle k (kinds_of tokens) ≡ Some (kinds_of rest)) same e in
      ap (no_more (kinds_of tokens)) here ∙ no_more-passes (kinds_of tokens) (kinds_of rest) (let x = length-kinds rest in let y = length-kinds tokens in omega arith)

  pub inside-missing : (n : ℕ) (ks : Kinds) → n ≢ 0 → up_to (inside (n - 1)) middle k ks ≡ None → inside n k middle ks ≡ None
  inside-missing zero ks some e = absurd (some refl)
  inside-missing (suc n) ks some e =
      let same : suc n - 1 ≡ n = omega arith in
      ap (no_more ks) (subst (λ m. up_to (inside m) middle k ks ≡ None) same e)

module _ (inner : ℕ → Bool → Kinds → Option Kinds) (middle : Bool) where
  pub up_to-suffixed : (ks : Kinds) → up_to inner middle 0 ks ≡ suffixed inner middle ks
  unfolding up_to
  up_to-suffixed ks = refl

  -- the operators of a level behind an operand of the next tighter one
  pub up_to-next : (k : ℕ) (ks : Kinds) → 0 < k → k < 9 → up_to inner middle (suc k) ks ≡ option_map (loop (type_at middle) (inner 8 middle) (inner 9 true) (inner 9 middle) (suc k) (level inner middle k)) (up_to inner middle k ks)
  up_to-next k ks pos top =
      up_to-level inner middle (suc k) ks (omega arith) (omega arith)
      ∙ reads-suc (type_at middle) (inner 8 middle) (inner 9 true) (inner 9 middle) (tight inner middle) k ks
      ∙ ap (option_map (loop (type_at middle) (inner 8 middle) (inner 9 true) (inner 9 middle) (suc k) (level inner middle k))) (sym (up_to-level inner middle k ks pos (omega arith)))

  pub up_to-tight : (ks : Kinds) → up_to inner middle 1 ks ≡ tight inner middle ks
  up_to-tight ks =
      up_to-level inner middle 1 ks (omega arith) (omega arith)
      ∙ reads-suc (type_at middle) (inner 8 middle) (inner 9 true) (inner 9 middle) (tight inner middle) 0 ks
      ∙ ap (option_map (loop (type_at middle) (inner 8 middle) (inner 9 true) (inner 9 middle) 1 (level inner middle 0))) (reads-zero (type_at middle) (inner 8 middle) (inner 9 true) (inner 9 middle) (tight inner middle) ks)
      ∙ stays (tight inner middle ks)
    where
      stays : (o : Option Kinds) → option_map (loop (type_at middle) (inner 8 middle) (inner 9 true) (inner 9 middle) 1 (level inner middle 0)) o ≡ o
      stays None = refl
      stays (Some a) = ap Some (many-stops length (step 1 (level inner middle 0)) a (ap (λ o. o >>= level inner middle 0) (no-op-one a)))

  -- operands, as the code reads them
  same-operand : (k : ℕ) → 0 < k → k ≤ 9 → level inner middle k ≡ up_to inner middle k
  same-operand k pos top = λ i ks. sym (up_to-level inner middle k ks pos top) i

  pub next-missing : (k : ℕ) (ks : Kinds) → 0 < k → k < 9 → up_to inner middle k ks ≡ None → up_to inner middle (suc k) ks ≡ None
  next-missing k ks pos top e = up_to-next k ks pos top ∙ ap (option_map (loop (type_at middle) (inner 8 middle) (inner 9 true) (inner 9 middle) (suc k) (level inner middle k))) e

  -- ---- a level that groups to the left

  pub chain-from : (k : ℕ) (ks rs : Kinds) → 0 < k → k < 9 → is_chain (suc k) ≡ true → up_to inner middle k ks ≡ Some rs → up_to inner middle (suc k) ks ≡ Some (many length (step (suc k) (up_to inner middle k)) rs)
  chain-from k ks rs pos top chain e =
      up_to-next k ks pos top ∙ ap (option_map (loop (type_at middle) (inner 8 middle) (inner 9 true) (inner 9 middle) (suc k) (level inner middle k))) e
      ∙ ap (λ b. Some (if b then many length (step (suc k) (level inner middle k)) rs else once (single (type_at middle) (inner 8 middle) (inner 9 true) (inner 9 middle) (suc k) (level inner middle k) rs) rs)) chain
      ∙ ap (λ r. Some (many length (step (suc k) r) rs)) (same-operand k pos (omega arith))

  -- ---- a level whose operator stands once

  once-from : (k : ℕ) (ks rs : Kinds) (o : Option Kinds) → 0 < k → k < 9 → is_chain (suc k) ≡ false → up_to inner middle k ks ≡ Some rs → single (type_at middle) (inner 8 middle) (inner 9 true) (inner 9 middle) (suc k) (up_to inner middle k) rs ≡ o → up_to inner middle (suc k) ks ≡ Some (once o rs)
  once-from k ks rs o pos top chain e is =
      up_to-next k ks pos top ∙ ap (option_map (loop (type_at middle) (inner 8 middle) (inner 9 true) (inner 9 middle) (suc k) (level inner middle k))) e
      ∙ ap (λ b. Some (if b then many length (step (suc k) (level inner middle k)) rs else once (single (type_at middle) (inner 8 middle) (inner 9 true) (inner 9 middle) (suc k) (level inner middle k) rs) rs)) chain
      ∙ ap (λ r. Some (once (single (type_at middle) (inner 8 middle) (inner 9 true) (inner 9 middle) (suc k) r rs) rs)) (same-operand k pos (omega arith))
      ∙ ap (λ p. Some (once p rs)) is

  module _ (ks : Kinds) (rs bs : List Token) (lt : length bs < length rs) where
    passed : (o : Option Kinds) → o ≡ Some (kinds_of bs) → Some (once o (kinds_of rs)) ≡ Some (kinds_of bs)
    passed o e = ap (λ p. Some (once p (kinds_of rs))) e ∙ ap Some (once-goes (kinds_of bs) (kinds_of rs) (kinds-less bs rs lt))

    pub compare-found : up_to inner middle 3 ks ≡ Some (kinds_of rs) → Some (kinds_of bs) ≡ step 4 (up_to inner middle 3) (kinds_of rs) → up_to inner middle 4 ks ≡ Some (kinds_of bs)
    compare-found e is = once-from 3 ks (kinds_of rs) (Some (kinds_of bs)) (omega arith) (omega arith) refl e (ap (λ o. or_else o (test (type_at middle) (kinds_of rs))) (sym is)) ∙ passed (Some (kinds_of bs)) refl

    pub test-found : up_to inner middle 3 ks ≡ Some (kinds_of rs) → None ≡ step 4 (up_to inner middle 3) (kinds_of rs) → test (type_at middle) (kinds_of rs) ≡ Some (kinds_of bs) → up_to inner middle 4 ks ≡ Some (kinds_of bs)
    test-found e none is = once-from 3 ks (kinds_of rs) (Some (kinds_of bs)) (omega arith) (omega arith) refl e (ap (λ o. or_else o (test (type_at middle) (kinds_of rs))) (sym none) ∙ is) ∙ passed (Some (kinds_of bs)) refl

    pub elvis-found : up_to inner middle 7 ks ≡ Some (kinds_of rs) → step 8 (inner 8 middle) (kinds_of rs) ≡ Some (kinds_of bs) → up_to inner middle 8 ks ≡ Some (kinds_of bs)
    elvis-found e is = once-from 7 ks (kinds_of rs) (Some (kinds_of bs)) (omega arith) (omega arith) refl e is ∙ passed (Some (kinds_of bs)) refl

    pub conditional-found : up_to inner middle 8 ks ≡ Some (kinds_of rs) → branches (inner 9 true) (inner 9 middle) (kinds_of rs) ≡ Some (kinds_of bs) → up_to inner middle 9 ks ≡ Some (kinds_of bs)
    conditional-found e is = once-from 8 ks (kinds_of rs) (Some (kinds_of bs)) (omega arith) (omega arith) refl e is ∙ passed (Some (kinds_of bs)) refl

  pub compare-stays : (ks rs : Kinds) → up_to inner middle 3 ks ≡ Some rs → None ≡ step 4 (up_to inner middle 3) rs → test (type_at middle) rs ≡ None → up_to inner middle 4 ks ≡ Some rs
  compare-stays ks rs e none is = once-from 3 ks rs None (omega arith) (omega arith) refl e (ap (λ o. or_else o (test (type_at middle) rs)) (sym none) ∙ is)

  pub elvis-stays : (ks rs : Kinds) → up_to inner middle 7 ks ≡ Some rs → step 8 (inner 8 middle) rs ≡ None → up_to inner middle 8 ks ≡ Some rs
  elvis-stays ks rs e is = once-from 7 ks rs None (omega arith) (omega arith) refl e is

  pub conditional-stays : (ks rs : Kinds) → up_to inner middle 8 ks ≡ Some rs → branches (inner 9 true) (inner 9 middle) rs ≡ None → up_to inner middle 9 ks ≡ Some rs
  conditional-stays ks rs e is = once-from 8 ks rs None (omega arith) (omega arith) refl e is

-- ---- suffixes

module _ (bracketed : Kinds → Option Kinds) (middle : Bool) (xs : Kinds) where
  pub postfix-from : (a : Kinds) → primary bracketed middle xs ≡ Some a → postfix bracketed middle xs ≡ Some (many left_length (suffix_step bracketed) (closed_at a))
  unfolding postfix
  postfix-from a e = ap (option_map (λ b. many left_length (suffix_step bracketed) (closed_at b))) e

  pub postfix-missing : primary bracketed middle xs ≡ None → postfix bracketed middle xs ≡ None
  unfolding postfix
  postfix-missing e = ap (option_map (λ b. many left_length (suffix_step bracketed) (closed_at b))) e

pub ruleset rooms = (postfix-from, postfix-missing, inside-zero, inside-found, inside-missing, up_to-suffixed, up_to-tight, up_to-loosest)
