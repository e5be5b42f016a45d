-- What the front of a package comes to: that it has a `main`, then what its names stand for, then its typed package, then that it keeps
-- its promises of isolation, then the plans of its functions; the first of these that refuses gives the fault.
use Rattle.std.specs.Prelude.{List}
use Rattle.bal_tree.specs.declared.package.Package.{Package}
use Rattle.checks.specs.Checks.{Check, gives, ◌▷◌}
use Rattle.compile_front.specs.Mains.{asks_main}
use Rattle.compile_front.specs.declared.accepting.Accepted.{Accepted}
use Rattle.descriptors.specs.Described.{Atoms}
use Rattle.descriptors.specs.declared.names.Names.{Names}
use Rattle.isolation_check.specs.Walk.{isolated}
use Rattle.package_checks.specs.Checked.{checked_package}
use Rattle.package_plans.specs.Planned.{package_plans}
use Rattle.type_builder.specs.MainInPlace.{built}
use Rattle.type_model.specs.declared.answers.TypeLimit.{TypeLimit}
use Rattle.type_model.specs.declared.atoms.AtomDef.{AtomDef}
use Rattle.type_model.specs.Calls.{Asked}
use Rattle.typed_tree.specs.declared.package.TypedPackage.{TypedPackage}

-- `passes`: which questions pass a limit
module _ (passes : List AtomDef → Asked → TypeLimit → Type 0) where
  -- the typed package is accepted, with the names over which it was checked and the plans of its functions
  abbrev pub planned_over : Names → TypedPackage → Check Atoms Accepted
  planned_over names t = package_plans passes t ▷ λ plans. gives (record { names = names; «package» = t; plans = plans })

  abbrev pub isolated_over : Names → TypedPackage → Check Atoms Accepted
  isolated_over names t = isolated passes names.own t ▷ λ u. planned_over names t

  module _ (p : Package) where
    abbrev pub checked_over : Names → Check Atoms Accepted
    checked_over names = checked_package passes names p ▷ λ t. isolated_over names t

    unfoldable pub named_over : Check Atoms Accepted
    named_over = built passes p ▷ λ names. checked_over names

    unfoldable pub front_of : Check Atoms Accepted
    front_of = asks_main p ▷ λ u. named_over
