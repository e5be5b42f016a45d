-- Whether a package has a function to begin with: a public one of the name `main` in its default module, whatever else it is.
use Rattle.std.specs.Prelude.{◌≡◌, ◌&&◌, Bool, false, Option, None, Some, slice_get}
use Rattle.std.specs.List.{list_any}
use Rattle.bal_base.specs.declared.fault.Fault.{Fault}
use Rattle.bal_base.specs.declared.fault.FaultCode.TheVariants.{NoMain}
use Rattle.bal_base.specs.declared.fault.Kept.TheVariants.{Nothing}
use Rattle.bal_tree.specs.declared.def.Def.{Def}
use Rattle.bal_tree.specs.declared.def.Def.TheVariants.{«Type» as TypeOf, Const, Variable, Function}
use Rattle.bal_tree.specs.declared.package.Module.{Module}
use Rattle.bal_tree.specs.declared.package.Package.{Package}
use Rattle.bal_tree.specs.declared.package.SourceFile.{SourceFile}
use Rattle.checks.specs.Checks.{Check, either, gives, refuses}
use Rattle.descriptors.specs.Described.{Atoms}
use Rattle.name_resolution.specs.MainForm.{main_name}
use Rattle.type_model.specs.Places.{is_same_text}

abbrev pub is_public_main : Def → Bool
is_public_main (TypeOf d) = false
is_public_main (Const d) = false
is_public_main (Variable d) = false
is_public_main (Function f) = f.public && is_same_text f.name.name main_name

abbrev pub has_public_main : SourceFile → Bool
has_public_main file = list_any is_public_main file.tree.defs.items

-- a module has one, if it is there
abbrev pub main_in : Option Module → Bool
main_in None = false
main_in (Some home) = list_any has_public_main home.files

abbrev pub has_main : Package → Bool
has_main p = main_in (slice_get p.modules p.main)

-- there is none; it has no place
abbrev pub no_main : Fault
no_main = record { code = NoMain; at = None; kept = Nothing }

-- that fault, unless there is one
abbrev pub no_main_unless : Bool → Check Atoms (Unit {0})
no_main_unless there = either there (gives tt) (refuses (λ env f. f ≡ no_main))

-- whether there is one
abbrev pub asks_main : Package → Check Atoms (Unit {0})
asks_main p = no_main_unless (has_main p)
