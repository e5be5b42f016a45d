-- What is made for units, one behind another, is typed by their maps.
use Rattle.std.specs.Prelude.{◌≡◌, ◌≤◌, ◌<◌, ◌+◌, ◌-◌, ◌++◌, ℕ, suc, List, [], ◌∷◌, Some, IsSomeAnd, length, slice_get, ⊤}
use Rattle.type_model.specs.declared.atoms.AtomDef.{AtomDef}
use Rattle.operations.specs.declared.operation.Operation.{Operation}
use Rattle.operations.specs.Rows.{AreBelow, Surroundings}
use Rattle.typed_tree.specs.declared.package.TypedPackage.{TypedPackage}
use Rattle.eval_model.specs.Expressions.{error_type}
use Rattle.stack_code.specs.declared.code.Code.{Code}
use Rattle.stack_code.specs.Commands.{Command, Do, GoTo, GoToIfNot, OpenTrap, CloseTrap, command_at}
use Rattle.lower_model.specs.Lowered.{IsSameOperation}
use Rattle.lower_model.specs.Making.{Making, unit_made}
use Rattle.tree_promises.specs.Placed.{Placed, surroundings}
use Rattle.tree_promises.specs.Types.{DoesTypes, Stack, TakesTypes}
use Rattle.typed_making.specs.Mapped.{IsTyped, Wants, at_or}
use Rattle.map_model.specs.Maps.{unit_maps}
use Rattle.map_model.specs.Points.{PlainTypes}
use Rattle.map_model.specs.Written.{BodyWritten}

-- the labels that a command names are from this one on
abbrev pub NamesFrom : ℕ → Command → Type 0
NamesFrom first (Do op) = ⊤
NamesFrom first (GoTo l) = first ≤ l
NamesFrom first (GoToIfNot l) = first ≤ l
NamesFrom first (OpenTrap l) = first ≤ l
NamesFrom first CloseTrap = ⊤

-- by the types of the operands at places: what the command at a place takes is there, and what it leaves is below what is there where it
-- goes on; a trap lands where there is what was below it, and an error above
module _ (env : List AtomDef) (place : Surroundings) (types_at : ℕ → Stack) where
  abbrev pub IsTypedAs : ℕ → Command → Type 0
  IsTypedAs q (Do op) = (made : Operation) × IsSameOperation made op × DoesTypes env place made (types_at q) (types_at (q + 1))
  IsTypedAs q (GoTo to) = AreBelow env (types_at q) (types_at to)
  IsTypedAs q (GoToIfNot to) = TakesTypes env place (types_at q) (types_at (q + 1)) × TakesTypes env place (types_at q) (types_at to)
  IsTypedAs q (OpenTrap to) = AreBelow env (types_at q) (types_at (q + 1)) × AreBelow env (types_at q ++ error_type ∷ []) (types_at to)
  IsTypedAs q CloseTrap = AreBelow env (types_at q) (types_at (q + 1))

module _ (plain : PlainTypes) (env : List AtomDef) (p : TypedPackage) where
  abbrev pub IsWritten : Placed → Type 0
  IsWritten u = BodyWritten plain env (surroundings p u) u.tree.body

  -- the types at its places; behind the last one no operands wait
  abbrev pub stacks_of : Placed → List Stack
  stacks_of u = unit_maps plain (surroundings p u) u.tree.body []

  abbrev pub stack_in : Placed → ℕ → Stack
  stack_in u k = at_or (stacks_of u) [] k

  -- what is made for the unit behind the first making stands in the second one, in which labels are to have these types
  pub record IsTypedIn (u : Placed) (m n : Making) (wants : List Stack) : Type 0 where
    -- there is a map for each of its places
    pub count : length (unit_made u.tree.body m).steps ≡ length m.steps + length (stacks_of u)
    -- at each of them stands a command that is typed between the types there and those at the next place, and names labels of the unit
    pub steps : (k : ℕ) → k < length (stacks_of u) →
        IsSomeAnd (slice_get n.steps (length m.steps + k)) (λ c. IsTyped env (surroundings p u) wants c (stack_in u k) (stack_in u (suc k)) × NamesFrom (length m.labels) c)
    -- the place of each of its labels is one of them or the one behind, where what the label is to have is below what is there
    pub lands : (l to : ℕ) → length m.labels ≤ l → l < length (unit_made u.tree.body m).labels → slice_get n.labels l ≡ Some (Some to) →
        (k : ℕ) × (to ≡ length m.steps + k) × (k ≤ length (stacks_of u)) × Wants env (surroundings p u) wants l (λ want. AreBelow env want (stack_in u k))

  abbrev pub AreTypedIn : List Placed → Making → Making → List Stack → Type 0
  AreTypedIn [] m n wants = ⊤
  AreTypedIn (u ∷ us) m n wants = IsTypedIn u m n wants × AreTypedIn us (unit_made u.tree.body m) n wants

  abbrev pub AreWritten : List Placed → Type 0
  AreWritten [] = ⊤
  AreWritten (u ∷ us) = IsWritten u × AreWritten us

  -- ---- code

  -- the types at the places of the unit, where this is the first one
  abbrev pub types_from : ℕ → Placed → ℕ → Stack
  types_from first u q = stack_in u (q - first)

  -- each command of a unit whose code begins there is typed by the unit's maps
  abbrev pub IsTypedFrom : Code → ℕ → Placed → Type 0
  IsTypedFrom code first u =
      (k : ℕ) (c : Command) → k < length (stacks_of u) → command_at code (first + k) ≡ Some c → IsTypedAs env (surroundings p u) (types_from first u) (first + k) c

  abbrev pub AreTypedFrom : Code → List Placed → Making → Type 0
  AreTypedFrom code [] m = ⊤
  AreTypedFrom code (u ∷ us) m = IsTypedFrom code (length m.steps) u × AreTypedFrom code us (unit_made u.tree.body m)
