-- What is found of one part, apart from the names that a fault shows.
use Rattle.std.specs.Prelude.{ℕ, Bool, true, false, List, Result, Ok, Err, All, Some}
use Rattle.bal_base.specs.declared.fault.Fault.{Fault}
use Rattle.bal_base.specs.declared.fault.FaultCode.TheVariants.{NotIsolated}
use Rattle.bal_base.specs.declared.fault.Kept.TheVariants.{Names as ShowsNames}
use Rattle.bal_base.specs.declared.place.Place.{Place}
use Rattle.bal_base.specs.declared.stop.Stop.{Stop}
use Rattle.bal_base.specs.declared.stop.Stop.TheVariants.{Memory, Fault as OwnFault}
use Rattle.bal_base.specs.declared.text.Name.{Name}
use Rattle.type_model.specs.declared.atoms.AtomDef.{AtomDef}
use Rattle.type_model.specs.Defined.{TyBelow}
use Rattle.typed_tree.specs.declared.package.TypedPackage.{TypedPackage}
use Rattle.checks.specs.Checks.{Check, Gives, Refuses}
use Rattle.checks.specs.Questions.{IsFault}

-- the promise is kept, it is broken, which the caller tells with the names, or a question is too large
abbrev pub Judged : Check (List AtomDef) (Unit {0}) → List Name → Place → List AtomDef → Result Bool (Stop Fault) → Type 0
Judged check names at env (Ok true) = check env (Gives tt) env
Judged check names at env (Ok false) = (f : Fault) → IsFault NotIsolated (Some at) (ShowsNames names) f → check env (Refuses f) env
Judged check names at env (Err (OwnFault f)) = check env (Refuses f) env
Judged check names at env (Err Memory) = Unit {0}

-- each module variable has a type that names atoms that are there
abbrev pub VariablesBelow : ℕ → TypedPackage → Type 0
VariablesBelow n p = All (λ v. TyBelow n v.ty.value) p.variables.items
