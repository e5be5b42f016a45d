-- Clauses of matches, part by part.
use Rattle.std.specs.Prelude.{◌≡◌, ◌↔◌, ◌<◌, ℕ, List, Some, slice_index_or}
use Rattle.bal_base.specs.declared.shape.Shape.{Shape}
use Rattle.checks.specs.Checks.{Check, ◌▷◌}
use Rattle.operations.specs.declared.operation.Constant.{Constant}
use Rattle.operations.specs.Rows.{shape_of}
use Rattle.type_model.specs.declared.answers.TypeLimit.{TypeLimit}
use Rattle.type_model.specs.declared.atoms.AtomDef.{AtomDef}
use Rattle.type_model.specs.declared.basic.SemType.{SemType}
use Rattle.type_model.specs.Calls.{Asked}
use Rattle.type_model.specs.Membership.{In}
use Rattle.typed_tree.specs.declared.stmt.TypedPattern.{TypedPattern}
use Rattle.typed_tree.specs.SharedTypes.{Shared}
use Rattle.check_words.specs.Branches.{IsOneOf, last_match, matched_as, sets_match}
use Rattle.check_words.specs.Joins.{narrows_to}
use Rattle.check_words.specs.State.{MatchAtWork, State}
use Rattle.check_words.specs.Words.{Step, sets_flow, some_over}

-- the shape is that of the pattern's constant
abbrev pub IsOf : TypedPattern → Shape → Type 0
IsOf p x = (c : Constant) × (p.value ≡ Some c) × (x ≡ shape_of c)

-- the type has the shapes of the first so many patterns
abbrev pub AreFirst : List TypedPattern → ℕ → SemType → Type 0
AreFirst ps i sem = (env : List AtomDef) (x : Shape) → In env x sem ↔ ((k : ℕ) × (p : TypedPattern) × (k < i) × (slice_index_or ps k p ≡ p) × IsOf p x)

-- all that is left is taken
abbrev pub enters_left : Step
enters_left = last_match ▷ λ m. sets_flow (matched_as m.on m.left m.before)

-- the values of the patterns are taken of what is left
abbrev pub takes_clause : MatchAtWork → Shared × Shared → Step
takes_clause m types = sets_match (record m { left = types.1 }) ▷ λ u. sets_flow (matched_as m.on types.0 m.before)

-- `passes`: which questions pass a limit
module _ (passes : List AtomDef → Asked → TypeLimit → Type 0) where
  -- what the patterns leave of the type that is left: where one of them is met, and where none is
  abbrev pub narrows_match : MatchAtWork → Check State (Shared × Shared)
  narrows_match m = some_over (λ env (t : Shared). IsOneOf m.patterns env t.value) ▷ λ t. narrows_to passes m.left t m.at
