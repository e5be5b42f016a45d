-- What is promised of a type that stands at the front of tokens, and what a function that reads says of its answer.
use Rattle.std.specs.Prelude.{◌≡◌, ℕ, ◌<◌, true, Bool, false, List, length, drop, Option, Some, None, Result, MatchResult}
use denote.Ref.{Bor}
use Rattle.bal_base.specs.declared.stop.Stop.{Stop}
use Rattle.bal_base.specs.declared.stop.Stop.TheVariants.{Memory, Fault as FaultOf}
use Rattle.bal_base.specs.declared.fault.Fault.{Fault}
use Rattle.bal_base.specs.declared.fault.FaultCode.{FaultCode}
use Rattle.bal_base.specs.declared.fault.FaultCode.TheVariants.{Depth, Syntax}
use Rattle.bal_base.specs.declared.fault.Kept.TheVariants.{Nothing}
use Rattle.bal_base.specs.declared.place.Place.{Place}
use Rattle.bal_base.specs.declared.token.Sign.TheVariants.{Question}
use Rattle.bal_base.specs.declared.token.Token.{Token}
use Rattle.bal_tree.specs.declared.types.TypeTree.{TypeTree}
use Rattle.bal_tree.specs.declared.types.IntersectionType.{IntersectionType}
use Rattle.bal_tree.specs.declared.types.PostfixType.{PostfixType}
use Rattle.bal_tree.specs.declared.types.PrimaryType.{PrimaryType}
use Rattle.bal_tree.specs.Pieces.{Pieces}
use Rattle.bal_tree.specs.Spells.{Spells, onto, kinds_of, first_place}
use Rattle.bal_tree.specs.TypePieces.{type_pieces, intersection_pieces, postfix_type_pieces, primary_type_pieces}
use Rattle.bal_tree.specs.TypeRules.{type_is_formed, intersection_is_formed, postfix_type_is_formed, primary_type_is_formed, type_end, intersection_end, postfix_type_end, primary_type_end}
use Rattle.parse_types.specs.Nesting.{first_too_deep, enclosed}
use Rattle.token_steps.specs.Tokens.{Kinds, take_sign}
use Rattle.parse_types.specs.Reaches.{Left, colon_word}

-- ---- promises

-- a well-formed type stands at the front of the tokens, and this is left behind it
abbrev pub StartsType : Bool → List Token → Kinds → Type 0
StartsType middle tokens rest = (t : TypeTree) × (type_is_formed t middle ≡ true) × (kinds_of tokens ≡ onto (type_pieces t) rest)

abbrev pub refusal : FaultCode → Place → Fault
refusal code at = record { code = code; at = Some at; kept = Nothing }

-- it is refused for its depth, at the first token before the end of what encloses it whose nesting passes the limit
abbrev pub IsTooDeep : ℕ → List Token → Fault → Type 0
IsTooDeep file tokens fault = (i : ℕ) × (first_too_deep (enclosed 0 (kinds_of tokens)) ≡ Some i) × (fault ≡ refusal Depth (first_place file (drop i tokens)))

-- no token is too deep, and it is refused at its first one, since no type stands there
abbrev pub HasNoType : ℕ → List Token → Fault → Type 0
HasNoType file tokens fault = (first_too_deep (enclosed 0 (kinds_of tokens)) ≡ None) × ((rest : Kinds) → StartsType false tokens rest → ⊥) × (fault ≡ refusal Syntax (first_place file tokens))

-- ---- clauses of the functions that read

-- the claim, where it is the call's own answer and not want of memory
abbrev pub IfMissing : {F : Type 0} → Stop F → Type 0 → Type 0
IfMissing Memory claim = Unit {0}
IfMissing (FaultOf f) claim = claim

-- what was read leaves what a reader leaves, and is missing exactly where that has nothing; `left` is what to say of the
-- tree and the rest
abbrev pub LeavesAs : {T L F : Type 0} → (T → Kinds → L) → Option L → Result (T × Bor (List Token)) (Stop F) → Type 0
LeavesAs left want result = MatchResult result (λ r. want ≡ Some (left r.0 (kinds_of r.1.now))) (λ e. IfMissing e (want ≡ None))

-- the same of what is left alone
abbrev pub Leaves : {T F : Type 0} → Option Kinds → Result (T × Bor (List Token)) (Stop F) → Type 0
Leaves want result = LeavesAs (λ t ks. ks) want result

-- behind a type that reaches as far as it can stands no `?`, and where it ends in `int`, no colon and a word
pub record Settled (in_int : Bool) (ks : Kinds) : Type 0 where
  pub no_question : take_sign Question ks ≡ None
  pub no_name : in_int ≡ true → colon_word ks ≡ None

abbrev pub type_left : TypeTree → Kinds → Left
type_left t ks = record { in_result = (type_end t).in_result; rest = ks }

abbrev pub intersection_left : IntersectionType → Kinds → Left
intersection_left t ks = record { in_result = (intersection_end t).in_result; rest = ks }

abbrev pub postfix_left : PostfixType → Kinds → Left
postfix_left t ks = record { in_result = (postfix_type_end t).in_result; rest = ks }

abbrev pub primary_left : PrimaryType → Kinds → Left
primary_left t ks = record { in_result = (primary_type_end t).in_result; rest = ks }

-- the tokens up to the rest, at least one, are those of the pieces, and what they stand for is well formed
pub record Reading (is_formed : Bool) (pieces : Pieces) (file : ℕ) (tokens rest : List Token) : Type 0 where
  pub formed : is_formed ≡ true
  pub spells : Spells file pieces tokens rest
  pub shorter : length rest < length tokens

abbrev pub TypeReading : Bool → TypeTree → ℕ → List Token → List Token → Type 0
TypeReading middle t = Reading (type_is_formed t middle) (type_pieces t)

abbrev pub IntersectionReading : Bool → IntersectionType → ℕ → List Token → List Token → Type 0
IntersectionReading middle t = Reading (intersection_is_formed t middle) (intersection_pieces t)

abbrev pub PostfixReading : Bool → PostfixType → ℕ → List Token → List Token → Type 0
PostfixReading middle t = Reading (postfix_type_is_formed t middle) (postfix_type_pieces t)

abbrev pub PrimaryReading : Bool → PrimaryType → ℕ → List Token → List Token → Type 0
PrimaryReading middle t = Reading (primary_type_is_formed t middle) (primary_type_pieces t)
