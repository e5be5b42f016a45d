-- The reader goes at least as far as each well-formed expression that stands at the front, and just as far where what follows
-- could not be taken: what that means, and an expression inside another one.
use Rattle.std.proofs.Common.{◌≡◌, ◌⊎◌, ℕ, zero, suc, ◌<◌, ◌≤◌, Bool, true, false, [], ◌∷◌, length, Option, None, Some, refl, sym, ap, subst, ◌∙◌, arith, inl, inr}
use Rattle.std.specs.Prelude.{◌==◌, option_map, nat_le, leb, if◌then◌else◌, is_some}
use Rattle.std.proofs.lemmas.Bool.{leb-true, le-leb, leb-false, cases_Bool}
use Rattle.bal_base.specs.declared.token.TokenKind.TheVariants.{Word as WordKind, Keyword as KeywordKind, Int as IntKind, Str as StrKind, Sign as SignKind}
use Rattle.bal_base.specs.declared.token.Keyword.TheVariants.{Trap, Function, Isolated, Check, CheckPanic}
use Rattle.bal_base.specs.declared.token.Sign.{Sign}
use Rattle.bal_base.specs.declared.token.Sign.TheVariants.{Minus, Not, Less}
use Rattle.bal_tree.specs.ExprRules.{ExprFacts}
use Rattle.bal_tree.specs.Levels.{rank}
use Rattle.bal_tree.specs.Pieces.{Pieces}
use Rattle.bal_tree.specs.Spells.{onto}
use Rattle.token_steps.specs.Tokens.{Kinds, take_sign, take_key, take_word}
use Rattle.parse_types.specs.Reaches.{colon_word}
use Rattle.parse_types.proofs.Follows.{closes-stay}
use Rattle.parse_types.proofs.Onto.{onto-longer}
use Rattle.parse_expr.specs.Operators.{reads}
use Rattle.parse_expr.specs.Reaches.{Left, type_at, take_prefix, postfix, suffixed, tight, level, loosest, up_to, no_more, inside}
use Rattle.parse_expr.proofs.Follows.{Ends, TypeEnds, Quiet, Quiet-tighter, Operand, ReadsAs, Closes, ends-anywhere, differs}
use Rattle.parse_expr.proofs.OperatorLaw.{At, Law as OperatorLaw, reached, reads-suc, reads-zero}

abbrev pub operand : Pieces → ExprFacts → Operand
operand p f = record { pieces = p; rank = rank f.level; in_type = f.end.in_type; in_int = f.end.in_int }

-- the law of the operators, at room `n`
abbrev pub LevelsLaw : ℕ → Bool → Operand → Type 0
LevelsLaw n middle = OperatorLaw (type_at middle) (inside n 8 middle) (inside n 9 true) (inside n 9 middle) (tight (inside n) middle) middle n

abbrev pub LevelAt : ℕ → Bool → ℕ → Operand → Kinds → Type 0
LevelAt n middle = At (type_at middle) (inside n 8 middle) (inside n 9 true) (inside n 9 middle) (tight (inside n) middle) middle n

-- what is known of a well-formed expression with these pieces and these facts
pub record Known (n : ℕ) (middle : Bool) (p : Pieces) (f : ExprFacts) : Type 0 where
  pub levels : rank f.level ≤ 9 → LevelsLaw n middle (operand p f)
  pub loose : 9 < rank f.level → (ks : Kinds) → length (onto p ks) ≤ n → ReadsAs middle (loosest (inside n) middle) 9 (operand p f) ks
  pub no_type : rank f.level < 4 → f.end.in_type ≡ true → ⊥

abbrev pub ExprLaw : Pieces → ExprFacts → Type 0
ExprLaw p f = (n : ℕ) (middle : Bool) → f.is_formed middle ≡ true → Known n middle p f

-- whether the first token is a word
abbrev pub Begins : Pieces → ExprFacts → Type 0
Begins p f = (ks : Kinds) → is_some (take_word (onto p ks)) ≡ f.begins_with_word

-- ---- which reader a first token is for

module _ (inner : ℕ → Bool → Kinds → Option Kinds) (middle : Bool) where
  pub suffixed-tight : (xs a : Kinds) → suffixed inner middle xs ≡ Some a → tight inner middle xs ≡ Some a
  unfolding postfix
  suffixed-tight [] a e = e
  suffixed-tight (SignKind Minus ∷ ks) a e = cc e
  suffixed-tight (SignKind Not ∷ ks) a e = cc e
  suffixed-tight (SignKind Less ∷ ks) a e = cc e
  suffixed-tight (SignKind s ∷ ks) a e = e
  suffixed-tight (KeywordKind Check ∷ ks) a e = cc e
  suffixed-tight (KeywordKind CheckPanic ∷ ks) a e = cc e
  suffixed-tight (KeywordKind k ∷ ks) a e = e
  suffixed-tight (k ∷ ks) a e = e

  pub tight-none : (k : ℕ) (xs : Kinds) → tight inner middle xs ≡ None → level inner middle k xs ≡ None
  tight-none zero xs e = reads-zero (type_at middle) (inner 8 middle) (inner 9 true) (inner 9 middle) (tight inner middle) xs ∙ e
  tight-none (suc k) xs e =
      reads-suc (type_at middle) (inner 8 middle) (inner 9 true) (inner 9 middle) (tight inner middle) k xs
      ∙ ap (option_map _) (tight-none k xs e)

  clash : (xs : Kinds) (a : Kinds) → tight inner middle xs ≡ None → level inner middle 9 xs ≡ Some a → ⊥
  clash xs a none e = let bad : None ≡ Some a = sym (tight-none 9 xs none) ∙ e in cc bad

  trap-none : (ks : Kinds) → tight inner middle (KeywordKind Trap ∷ ks) ≡ None
  unfolding postfix
  trap-none ks = refl

  function-none : (ks : Kinds) → tight inner middle (KeywordKind Function ∷ ks) ≡ None
  unfolding postfix
  function-none ks = refl

  isolated-none : (ks : Kinds) → tight inner middle (KeywordKind Isolated ∷ ks) ≡ None
  unfolding postfix
  isolated-none ks = refl

  level-loosest : (xs a : Kinds) → level inner middle 9 xs ≡ Some a → loosest inner middle xs ≡ Some a
  level-loosest [] a e = e
  level-loosest (KeywordKind Trap ∷ ks) a e = absurd (clash (KeywordKind Trap ∷ ks) a (trap-none ks) e)
  level-loosest (KeywordKind Function ∷ ks) a e = absurd (clash (KeywordKind Function ∷ ks) a (function-none ks) e)
  level-loosest (KeywordKind Isolated ∷ ks) a e = absurd (clash (KeywordKind Isolated ∷ ks) a (isolated-none ks) e)
  level-loosest (KeywordKind k ∷ ks) a e = e
  level-loosest (k ∷ ks) a e = e

  pub up_to-level : (k : ℕ) (xs : Kinds) → 0 < k → k ≤ 9 → up_to inner middle k xs ≡ level inner middle k xs
  unfolding up_to
  up_to-level k xs pos le =
      ap (λ b. if b then loosest inner middle xs else (if k == 0 then suffixed inner middle xs else level inner middle k xs)) (above k le)
      ∙ ap (λ b. if b then suffixed inner middle xs else level inner middle k xs) (differs k 0 (λ same. omega arith))
    where
      above : (k : ℕ) → k ≤ 9 → nat_le 10 k ≡ false
      above k le = elim (cases_Bool (nat_le 10 k)) [ inl h ↦ absurd (let l = leb-true 10 k h in omega arith) | inr h ↦ h ]

  pub up_to-loosest : (xs : Kinds) → up_to inner middle 10 xs ≡ loosest inner middle xs
  unfolding up_to
  up_to-loosest xs = refl

-- ---- an expression inside another one

pub no_more-passes : (ks a : Kinds) → length a ≤ length ks → no_more ks (Some a) ≡ Some a
no_more-passes ks a h = rw (le-leb (length a) (length ks) h) refl

pub inside-less : (n k : ℕ) (middle : Bool) (ks a : Kinds) → inside n k middle ks ≡ Some a → length a ≤ length ks
inside-less zero k middle ks a e = cc e
inside-less (suc n) k middle ks a e = less (up_to (inside n) middle k ks) e
  where
    less : (o : Option Kinds) → no_more ks o ≡ Some a → length a ≤ length ks
    less None e = cc e
    less (Some b) e = test (nat_le (length b) (length ks)) refl e
      where
        test : (t : Bool) → nat_le (length b) (length ks) ≡ t → (if t then Some b else None) ≡ Some a → length a ≤ length ks
        test true le e = let h = leb-true (length b) (length ks) le in let same : b ≡ a = cc e in let k = ap length same in omega arith
        test false le e = cc e

-- no expression begins with a sign that is none of its first ones
pub no-expr : (s : Sign) (ks : Kinds) → ((inner : ℕ → Bool → Kinds → Option Kinds) (middle : Bool) → tight inner middle (SignKind s ∷ ks) ≡ None) → (n : ℕ) (middle : Bool) → inside n 10 middle (SignKind s ∷ ks) ≡ None
no-expr s ks none zero middle = refl
no-expr s ks none (suc n) middle =
    ap (no_more (SignKind s ∷ ks)) (up_to-loosest (inside n) middle (SignKind s ∷ ks) ∙ tight-none (inside n) middle 9 (SignKind s ∷ ks) (none (inside n) middle))

-- all levels up to one of operands
module _ (p : Pieces) (f : ExprFacts) (law : ExprLaw p f) where
  pub reads-level : (n k : ℕ) (middle : Bool) (ks : Kinds) → f.is_formed middle ≡ true → rank f.level ≤ k → 0 < k → k ≤ 9 → length (onto p ks) ≤ n → ReadsAs middle (up_to (inside n) middle k) k (operand p f) ks
  reads-level n k middle ks formed le pos ops fits =
      let at = (law n middle formed).levels (omega arith) k ks le fits in
      let r = reached (type_at middle) (inside n 8 middle) (inside n 9 true) (inside n 9 middle) (tight (inside n) middle) middle n (operand p f) k ks le at in
      record { rest = r.rest; is = up_to-level (inside n) middle k (onto p ks) pos ops ∙ r.is; no_more = r.no_more; just = r.just }

  pub reads-loosest : (n : ℕ) (middle : Bool) (ks : Kinds) → f.is_formed middle ≡ true → length (onto p ks) ≤ n → ReadsAs middle (up_to (inside n) middle 10) 9 (operand p f) ks
  reads-loosest n middle ks formed fits =
      elim (cases_Bool (nat_le (rank f.level) 9)) [
        | inl low ↦
            let le = leb-true (rank f.level) 9 low in
            let at = (law n middle formed).levels le 9 ks le fits in
            let r = reached (type_at middle) (inside n 8 middle) (inside n 9 true) (inside n 9 middle) (tight (inside n) middle) middle n (operand p f) 9 ks le at in
            record { rest = r.rest; is = up_to-loosest (inside n) middle (onto p ks) ∙ level-loosest (inside n) middle (onto p ks) r.rest r.is; no_more = r.no_more; just = r.just }
        | inr high ↦
            let r = (law n middle formed).loose (leb-false (rank f.level) 9 high) ks fits in
            record { rest = r.rest; is = up_to-loosest (inside n) middle (onto p ks) ∙ r.is; no_more = r.no_more; just = r.just }
      ]

  -- with less room
  pub inside-level : (n k : ℕ) (middle : Bool) (ks : Kinds) → f.is_formed middle ≡ true → rank f.level ≤ k → 0 < k → k ≤ 9 → length (onto p ks) < n → ReadsAs middle (inside n k middle) k (operand p f) ks
  inside-level zero k middle ks formed le pos ops fits = absurd (omega arith)
  inside-level (suc n) k middle ks formed le pos ops fits =
      let r = reads-level n k middle ks formed le pos ops (omega arith) in
      let longer = onto-longer p ks in
      let less = r.no_more in
      record { rest = r.rest; is = ap (no_more (onto p ks)) r.is ∙ no_more-passes (onto p ks) r.rest (omega arith); no_more = r.no_more; just = r.just }

  pub inside-loosest : (n : ℕ) (middle : Bool) (ks : Kinds) → f.is_formed middle ≡ true → length (onto p ks) < n → ReadsAs middle (inside n 10 middle) 9 (operand p f) ks
  inside-loosest zero middle ks formed fits = absurd (omega arith)
  inside-loosest (suc n) middle ks formed fits =
      let r = reads-loosest n middle ks formed (omega arith) in
      let longer = onto-longer p ks in
      let less = r.no_more in
      record { rest = r.rest; is = ap (no_more (onto p ks)) r.is ∙ no_more-passes (onto p ks) r.rest (omega arith); no_more = r.no_more; just = r.just }

  -- before what ends it
  pub before : (n : ℕ) (middle : Bool) (ks : Kinds) → f.is_formed middle ≡ true → length (onto p ks) < n → Closes ks → inside n 10 middle (onto p ks) ≡ Some ks
  before n middle ks formed fits c =
      let r = inside-loosest n middle ks formed fits in
      r.is ∙ ap Some (r.just (ends-anywhere middle ks c.ends) (λ _. (closes-stay middle f.end.in_int ks c.type_closes, c.type_closes.ends)) c.calm)
