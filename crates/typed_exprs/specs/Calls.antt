-- Lines of the table of expressions for calls, and for calls that are started.
use Rattle.std.specs.Prelude.{false, true, List, All}
use Rattle.bal_base.specs.declared.fault.FaultCode.TheVariants.{Unknown}
use Rattle.bal_base.specs.declared.place.Place.{Place}
use Rattle.bal_tree.specs.declared.name.Word.{Word}
use Rattle.descriptors.specs.declared.names.Names.{Names}
use Rattle.type_model.specs.declared.answers.TypeLimit.{TypeLimit}
use Rattle.type_model.specs.declared.atoms.AtomDef.{AtomDef}
use Rattle.type_model.specs.Calls.{Asked}
use Rattle.typed_tree.specs.Listed.{one, ◌&◌}
use Rattle.expr_needs.specs.ExprTable.{Reading, called_needs, freely, method_needs}
use Rattle.expr_needs.specs.Needs.{Fails, MakesCall, Starts}
use Rattle.typed_exprs.specs.Lines.{Claim, Knows}

pub record CallsAreTyped (passes : List AtomDef → Asked → TypeLimit → Type 0) (names : Names) (env : List AtomDef) : Type 0 where
  -- `f(..)`, and `a.m(..)`
  pub function : (f : Reading) (args : List Reading) (at : Place) → Knows passes names env f → All (Knows passes names env) args
      → Claim passes names env (λ e. called_needs false f args at & one (MakesCall at))
  pub method : (a : Reading) (m : Word) (args : List Reading) (at : Place) → Knows passes names env a → All (Knows passes names env) args
      → Claim passes names env (λ e. method_needs a m args at & one (MakesCall at))
  -- `start f(..)`
  pub started : (f : Reading) (args : List Reading) (at here behind : Place) → Knows passes names env f → All (Knows passes names env) args
      → Claim passes names env (λ e. called_needs true f args at & one (Starts here behind))
  -- a method is never started
  pub no_method : (a : Reading) (m : Word) (here behind : Place) → Claim passes names env (λ e. (freely a & one (Fails Unknown m.at)) & one (Starts here behind))

abbrev pub AllCallsAreTyped : (List AtomDef → Asked → TypeLimit → Type 0) → Type 0
AllCallsAreTyped passes = (names : Names) (env : List AtomDef) → CallsAreTyped passes names env
