-- The plans of a package's functions: one function after another, the first fault.
use Rattle.std.specs.Prelude.{◌≡◌, List, [], ◌∷◌}
use Rattle.checks.specs.Checks.{Check, gives, gives_some, ◌▷◌}
use Rattle.type_model.specs.declared.answers.TypeLimit.{TypeLimit}
use Rattle.type_model.specs.declared.atoms.AtomDef.{AtomDef}
use Rattle.type_model.specs.Calls.{Asked}
use Rattle.typed_tree.specs.declared.event.Plan.{Plan}
use Rattle.typed_tree.specs.declared.package.TypedPackage.{TypedPackage}
use Rattle.typed_tree.specs.declared.unit.TypedFunction.{TypedFunction}
use Rattle.worker_pairing.specs.Faults.{Atoms, plans}
use Rattle.worker_pairing.specs.Marks.{members_of}
use Rattle.package_plans.specs.declared.planning.PackagePlans.{PackagePlans}

-- what the checks of these give, in their order: the first that refuses gives the fault
abbrev pub all_give : {A B : Type 0} → (A → Check Atoms B) → List A → Check Atoms (List B)
all_give check [] = gives []
all_give check (a ∷ rest) = check a ▷ λ b. all_give check rest ▷ λ more. gives (b ∷ more)

-- `passes`: which questions about types pass a limit
module _ (passes : List AtomDef → Asked → TypeLimit → Type 0) where
  -- faults of a function that have no place of their own are told at its name
  abbrev pub function_plans : TypedFunction → Check Atoms Plan
  function_plans f = plans passes f.at (members_of f)

  abbrev pub package_plans : TypedPackage → Check Atoms PackagePlans
  package_plans p = all_give function_plans p.functions.items ▷ λ ps. gives_some (λ env t. t.functions.items ≡ ps)
