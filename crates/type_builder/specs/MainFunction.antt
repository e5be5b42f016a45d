-- What the function `main` has to give; what is seen of it where it is written is looked at with the names.
use Rattle.std.specs.Prelude.{◌≡◌, ◌⊎◌, ℕ, Bool, List, [], ◌∷◌, Option, None, Some, slice_get, if◌then◌else◌}
use Rattle.std.specs.Option.{option_and_then, option_or}
use Rattle.bal_base.specs.declared.fault.FaultCode.TheVariants.{BadMain}
use Rattle.bal_base.specs.declared.fault.Kept.TheVariants.{Nothing}
use Rattle.bal_base.specs.declared.place.Place.{Place}
use Rattle.bal_base.specs.declared.text.Name.{Name}
use Rattle.bal_tree.specs.declared.def.Def.{Def}
use Rattle.bal_tree.specs.declared.def.Def.TheVariants.{«Type» as TypeOf, Const, Variable as VariableOf, Function as FunctionOf}
use Rattle.bal_tree.specs.declared.def.FunctionDef.{FunctionDef}
use Rattle.bal_tree.specs.declared.package.Package.{Package}
use Rattle.bal_tree.specs.declared.package.SourceFile.{SourceFile}
use Rattle.checks.specs.Checks.{Check, ◌▷◌, either, gives, gives_some, refuses}
use Rattle.checks.specs.Questions.{IsFault, is_below}
use Rattle.descriptors.specs.Described.{Atoms}
use Rattle.descriptors.specs.Naming.{entry_in}
use Rattle.descriptors.specs.declared.names.Meaning.{Meaning}
use Rattle.descriptors.specs.declared.names.Meaning.TheVariants.{TypeName, Constant, Variable, Function}
use Rattle.descriptors.specs.declared.names.Names.{Names}
use Rattle.name_resolution.specs.MainForm.{main_name}
use Rattle.type_model.specs.declared.answers.TypeLimit.{TypeLimit}
use Rattle.type_model.specs.declared.atoms.AtomDef.{AtomDef}
use Rattle.type_model.specs.declared.basic.BasicSet.TheVariants.{ErrorAll, Nil as NilOnly}
use Rattle.type_model.specs.declared.basic.SemType.{SemType}
use Rattle.type_model.specs.Basic.{InBasic}
use Rattle.type_model.specs.Calls.{Asked}
use Rattle.type_model.specs.Defined.{IsDefined}
use Rattle.type_model.specs.Inclusion.{HasExactly}
use Rattle.type_model.specs.Places.{is_same_text}

-- ---- which one it is

abbrev pub if_main : FunctionDef → Option FunctionDef
if_main f = if is_same_text f.name.name main_name then Some f else None

abbrev pub main_if : Def → Option FunctionDef
main_if (TypeOf d) = None
main_if (Const d) = None
main_if (VariableOf d) = None
main_if (FunctionOf d) = if_main d

abbrev pub main_among : List Def → Option FunctionDef
main_among [] = None
main_among (d ∷ ds) = option_or (main_if d) (main_among ds)

abbrev pub main_in_files : List SourceFile → Option FunctionDef
main_in_files [] = None
main_in_files (f ∷ files) = option_or (main_among f.tree.defs.items) (main_in_files files)

-- the function of this name in the default module
abbrev pub main_of : Package → Option FunctionDef
main_of p = option_and_then (λ m. main_in_files m.files) (slice_get p.modules p.main)

-- ---- its result

-- errors and nil
abbrev pub IsErrorOrNil : Atoms → SemType → Type 0
IsErrorOrNil env t = IsDefined env t × HasExactly env t (λ x. InBasic x ErrorAll ⊎ InBasic x NilOnly)

abbrev pub bad_main : {S : Type 0} → Place → Check S (Unit {0})
bad_main at = refuses (λ s f. IsFault BadMain (Some at) Nothing f)

abbrev pub good_if : {S : Type 0} → Place → Bool → Check S (Unit {0})
good_if at fits = either fits (gives tt) (bad_main at)

-- what a function gives as the names have it
abbrev pub result_of : Meaning → Option SemType
result_of (TypeName t) = None
result_of (Constant t) = None
result_of (Variable number final t) = None
result_of (Function f) = Some f.result.sem

abbrev pub result_in : Names → ℕ → Name → Option SemType
result_in names m name = option_and_then (λ e. result_of e.meaning) (entry_in names name m)

-- `passes`: which questions pass a limit
module _ (passes : List AtomDef → Asked → TypeLimit → Type 0) where
  -- each result is an error or nil
  abbrev pub gives_errors : SemType → Place → Check Atoms (Unit {0})
  gives_errors result at = gives_some IsErrorOrNil ▷ λ t. is_below passes result t (Some at) ▷ good_if at

  abbrev pub gives_errors_if : Option SemType → Place → Check Atoms (Unit {0})
  gives_errors_if None at = gives tt
  gives_errors_if (Some result) at = gives_errors result at

  -- what the function `main` gives, where the default module has one
  abbrev pub main_fits_if : Names → ℕ → Option FunctionDef → Check Atoms (Unit {0})
  main_fits_if names home None = gives tt
  main_fits_if names home (Some f) = gives_errors_if (result_in names home f.name.name) f.at

  abbrev pub main_fits : Package → Names → Check Atoms (Unit {0})
  main_fits p names = main_fits_if names p.main (main_of p)

-- what functions of a module give names only atoms that are there
abbrev pub ResultsAreDefined : Atoms → Names → ℕ → Type 0
ResultsAreDefined env names home = (name : Name) (t : SemType) → result_in names home name ≡ Some t → IsDefined env t
