-- Signatures of functions: a slot for each parameter.
use Rattle.std.proofs.Common.{◌≡◌, List, [], ◌∷◌, Option, Some, None, subst, sym}
use Rattle.std.specs.Global.{Box}
use Rattle.bal_tree.specs.declared.params.Param.{Param}
use Rattle.bal_tree.specs.declared.params.Params.{Params}
use Rattle.bal_tree.specs.declared.types.TypeTree.{TypeTree}
use Rattle.checks.specs.Checks.{Gives, gives_some}
use Rattle.descriptors.specs.declared.names.Names.{Names}
use Rattle.needs.specs.Needs.{in_turn, in_turn_from}
use Rattle.operations.specs.Rows.{Surroundings}
use Rattle.type_model.specs.declared.answers.TypeLimit.{TypeLimit}
use Rattle.type_model.specs.declared.atoms.AtomDef.{AtomDef}
use Rattle.type_model.specs.Calls.{Asked}
use Rattle.typed_tree.specs.Listed.{Listed, nothing, one, ◌&◌, if_there}
use Rattle.expr_needs.specs.ExprTable.{parameter_needs, rest_needs, signature_needs}
use Rattle.expr_needs.specs.Needs.{Need, Describes, HasParameter, HasRest}
use Rattle.check_words.specs.State.{State}
use Rattle.typed_exprs.specs.Lines.{Run}
use Rattle.typed_exprs.proofs.Steps.{parted}
use Rattle.typed_functions.proofs.Begun.{IsOpen, open-beside, parameter-had, rest-had}
use Rattle.typed_functions.proofs.Beside.{beside-describes}

module _ (passes : List AtomDef → Asked → TypeLimit → Type 0) (names : Names) (env : List AtomDef) (place : Surroundings) (base : State) where
  abbrev Opens : Listed Need → Type 0
  Opens needs = (old new : State) → IsOpen place base old → Run passes names env needs old new → IsOpen place base new

  nothing-opens : Opens nothing
  unfolding gives_some
  nothing-opens old new h (is, same) = subst (λ (s : State). IsOpen place base s) (sym same) h

  then-opens : (p q : Listed Need) → Opens p → Opens q → Opens (p & q)
  then-opens p q f g old new h run = let (mid, first, second) = parted passes names env p q old new run in g mid new (f old mid h first) second

  describes-opens : (tree : TypeTree) → Opens (one (Describes tree))
  describes-opens tree old new h run = open-beside place base old new (beside-describes names tree old new tt run.0) h

  parameter-opens : (p : Param) → Opens (parameter_needs p)
  parameter-opens p =
      then-opens (one (Describes p.ty.value)) (one (HasParameter p.name)) (describes-opens p.ty.value) (λ old new h run. parameter-had place base old new p.name h run.0)

  rest-opens : (p : Param) → Opens (rest_needs p)
  rest-opens p = then-opens (one (Describes p.ty.value)) (one (HasRest p.name)) (describes-opens p.ty.value) (λ old new h run. rest-had place base old new p.name h run.0)

  parameters-open : (ps : List Param) (before : Listed Need) → Opens before → Opens (in_turn_from before parameter_needs ps)
  parameters-open [] before h = h
  parameters-open (p ∷ ps) before h = parameters-open ps (before & parameter_needs p) (then-opens before (parameter_needs p) h (parameter-opens p))

  rest-if-there : (rest : Option Param) → Opens (if_there rest_needs rest)
  rest-if-there None = nothing-opens
  rest-if-there (Some p) = rest-opens p

  pub signature-opens : (ps : Params) (result : TypeTree) → Opens (signature_needs ps result)
  signature-opens ps result =
      then-opens (in_turn parameter_needs ps.params.items & if_there rest_needs ps.rest) (one (Describes result))
      (then-opens (in_turn parameter_needs ps.params.items) (if_there rest_needs ps.rest) (parameters-open ps.params.items nothing nothing-opens) (rest-if-there ps.rest))
      (describes-opens result)
