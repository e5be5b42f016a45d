-- The method that is meant, as its call.
use Rattle.std.specs.Prelude.{List, Result, Ok, Err, Some, filter, map}
use Rattle.bal_base.specs.declared.fault.Fault.{Fault}
use Rattle.bal_base.specs.declared.fault.FaultCode.TheVariants.{NoField}
use Rattle.bal_base.specs.declared.fault.Kept.TheVariants.{Nothing as ShowsNothing}
use Rattle.bal_base.specs.declared.place.Place.{Place}
use Rattle.bal_base.specs.declared.stop.Stop.{Stop}
use Rattle.bal_base.specs.declared.stop.Stop.TheVariants.{Memory, Fault as OwnFault}
use Rattle.bal_base.specs.declared.text.Name.{Name}
use Rattle.checks.specs.Checks.{Check}
use Rattle.checks.specs.Questions.{IsFault}
use Rattle.operations.specs.declared.library.LibraryCall.{LibraryCall}
use Rattle.type_model.specs.declared.answers.TypeLimit.{TypeLimit}
use Rattle.type_model.specs.declared.atoms.AtomDef.{AtomDef}
use Rattle.type_model.specs.Calls.{Asked}
use Rattle.typed_tree.specs.declared.expr.TypedExpr.{TypedExpr}
use Rattle.check_words.specs.Calls.{picks}
use Rattle.check_words.specs.Library.{LibraryRow, is_named, methods_named, row_of}
use Rattle.check_words.specs.State.{State}

-- the stop is the fault that there is no such method
abbrev pub IsNoMethod : Place → Stop Fault → Type 0
IsNoMethod at Memory = ⊥
IsNoMethod at (OwnFault f) = IsFault NoField (Some at) ShowsNothing f

-- the row of the call, where there is one
abbrev pub row_if : Result LibraryCall (Stop Fault) → Result LibraryRow (Stop Fault)
row_if (Ok call) = Ok (row_of call)
row_if (Err stop) = Err stop

module _ (passes : List AtomDef → Asked → TypeLimit → Type 0) where
  -- the first of these calls with the name that is a method of the part
  unfoldable pub picks_among : Name → List LibraryCall → TypedExpr → Place → Check State LibraryRow
  picks_among name calls e at = picks passes (filter (is_named name) (map row_of calls)) e at

  -- the first of all methods
  unfoldable pub picks_methods : Name → TypedExpr → Place → Check State LibraryRow
  picks_methods name e at = picks passes (methods_named name) e at
