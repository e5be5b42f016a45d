-- How far operands and the operators between them reach: what is left behind a level, over the readers of what is tighter, of
-- types, and of the operands that stand inside the whole.
use Rattle.std.specs.Prelude.{◌==◌, ℕ, zero, suc, Bool, true, false, if◌then◌else◌, length, Option, None, Some, option_map, nat_lt}
use Rattle.bal_base.specs.declared.token.Keyword.TheVariants.{Is}
use Rattle.bal_base.specs.declared.token.Sign.TheVariants.{Question, Colon}
use Rattle.parse_types.specs.Loops.{◌>>=◌, or_else, many}
use Rattle.token_steps.specs.Tokens.{Kinds, take_sign, take_key}
use Rattle.parse_expr.specs.Ranks.{take_op}

-- once, to something smaller
abbrev pub once : Option Kinds → Kinds → Kinds
once None ks = ks
once (Some a) ks = if nat_lt (length a) (length ks) then a else ks

-- the operators of the level stand one behind the other, and group to the left
abbrev pub is_chain : ℕ → Bool
is_chain k = if k == 4 then false else (if k == 8 then false else (if k == 9 then false else true))

-- an operator of the level and its right operand
abbrev pub step : ℕ → (Kinds → Option Kinds) → Kinds → Option Kinds
step k operand ks = take_op k ks >>= operand

-- `is T`
abbrev pub test : (Kinds → Option Kinds) → Kinds → Option Kinds
test type ks = take_key Is ks >>= type

-- `? a : b`
abbrev pub branches : (Kinds → Option Kinds) → (Kinds → Option Kinds) → Kinds → Option Kinds
branches between part ks = take_sign Question ks >>= between >>= take_sign Colon >>= part

-- the readers of a type, of the right operand of `?:`, and of the middle and the last part of `? :`
module _ (type elvis between part : Kinds → Option Kinds) where
  -- behind an operand, what stands there once
  abbrev pub single : ℕ → (Kinds → Option Kinds) → Kinds → Option Kinds
  single k tighter ks =
      if k == 4 then or_else (step 4 tighter ks) (test type ks)
      else (if k == 8 then step 8 elvis ks else branches between part ks)

  abbrev pub loop : ℕ → (Kinds → Option Kinds) → Kinds → Kinds
  loop k tighter ks = if is_chain k then many length (step k tighter) ks else once (single k tighter ks) ks

  module _ (tight : Kinds → Option Kinds) where
    -- all levels up to this one
    unfoldable pub reads : ℕ → Kinds → Option Kinds
    reads zero ks = tight ks
    reads (suc k) ks = option_map (loop (suc k) (reads k)) (reads k ks)
