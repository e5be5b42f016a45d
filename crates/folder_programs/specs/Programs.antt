-- Programs: what the front accepts of a folder's package, and why it is refused.
use Rattle.std.specs.Prelude.{◌≡◌, ◌⊎◌, ⊤, List, [], Option, Result, Ok, Err}
use Rattle.bal_base.specs.declared.fault.Fault.{Fault as FaultOf}
use Rattle.bal_base.specs.declared.fault.Refusal.{Refusal}
use Rattle.bal_base.specs.declared.stop.Stop.{Stop}
use Rattle.bal_base.specs.declared.stop.Stop.TheVariants.{Memory, Fault}
use Rattle.bal_tree.specs.declared.package.Module.{Module}
use Rattle.bal_tree.specs.declared.package.Package.{Package}
use Rattle.checks.specs.Checks.{Gives, Refuses}
use Rattle.compile_front.specs.Front.{front_of}
use Rattle.compile_front.specs.declared.accepting.Accepted.{Accepted}
use Rattle.descriptors.specs.Described.{Atoms}
use Rattle.lower_package.specs.Limits.{PassesNodes}
use Rattle.type_diagrams.specs.Reach.{Passes}
use Rattle.type_questions.specs.Refusals.{unplaced}
use Rattle.typed_tree.specs.Nodes.{node_count}
use Rattle.typed_tree.specs.declared.package.TypedPackage.{TypedPackage}
use Rattle.folder_programs.specs.declared.compiling.CompileFault.{CompileFault}
use Rattle.folder_programs.specs.declared.compiling.CompileFault.TheVariants.{Folder, Source}
use Rattle.folder_programs.specs.declared.compiling.Ready.{Ready}
use Rattle.folder_programs.specs.declared.compiling.Built.{Built}
use Rattle.status_texts.specs.Outside.{Files}
use Rattle.folder_programs.specs.Packages.{HasNoPackage, IsPackageOf, source_modules}
use Rattle.folder_programs.specs.Refusals.{large_fault, refusal_in}

-- ---- the program of a package

-- The front accepts it over no atoms, with these atoms behind it: what was built is that package and what the front gave for it, which has
-- no more nodes than code is made of.
pub record IsAccepted (whole : Package) (built : Built) (atoms : Atoms) : Type 0 where
  pub source : built.source ≡ whole
  pub accepted : Accepted
  pub gives : front_of Passes whole [] (Gives accepted) atoms
  pub typed : built.typed ≡ accepted.«package»
  pub plans : built.plans ≡ accepted.plans
  pub fits : ¬ PassesNodes built.typed

-- the front, over no atoms, comes to this fault
abbrev pub HasFrontFault : Package → FaultOf → Type 0
HasFrontFault whole fault = (atoms : Atoms) × front_of Passes whole [] (Refuses fault) atoms

-- Why it is refused, and the modules in whose files the events of workers that the refusal shows are found: the front comes to a fault; or
-- it is accepted and has too many nodes.
pub record IsRefusedByFront (whole : Package) (r : Refusal) (modules : List Module) : Type 0 where
  pub fault : FaultOf
  pub has : HasFrontFault whole fault
  pub is : r ≡ refusal_in whole.modules fault
  pub shows : modules ≡ whole.modules

-- the refusal of a program with too many nodes
abbrev pub large_program : TypedPackage → Refusal
large_program p = unplaced (large_fault (node_count p))

pub record IsLargeProgram (whole : Package) (r : Refusal) (modules : List Module) : Type 0 where
  pub accepted : Accepted
  pub atoms : Atoms
  pub gives : front_of Passes whole [] (Gives accepted) atoms
  pub passes : PassesNodes accepted.«package»
  pub is : r ≡ large_program accepted.«package»
  pub shows : modules ≡ []

abbrev pub IsProgramRefused : Package → Refusal → List Module → Type 0
IsProgramRefused whole r modules = IsRefusedByFront whole r modules ⊎ IsLargeProgram whole r modules

-- ---- the program of a folder, as far as it tells its files

-- they make a package, and what was built is its program, with these atoms
abbrev pub IsBuiltOf : Option Files → Built → Atoms → Type 0
IsBuiltOf folder built atoms = (whole : Package) × IsPackageOf folder whole × IsAccepted whole built atoms

-- they make none, and are refused so
abbrev pub HasRefusedFiles : Option Files → Refusal → List Module → Type 0
HasRefusedFiles folder r modules = HasNoPackage folder r × (modules ≡ [])

-- they make one, and its program is refused
abbrev pub HasRefusedProgram : Option Files → Refusal → List Module → Type 0
HasRefusedProgram folder r modules = (whole : Package) × IsPackageOf folder whole × IsProgramRefused whole r modules

abbrev pub IsRefusalOf : Option Files → Refusal → List Module → Type 0
IsRefusalOf folder r modules = HasRefusedFiles folder r modules ⊎ HasRefusedProgram folder r modules

abbrev pub Compiled : Option Files → Result Ready (Stop CompileFault) → Type 0
Compiled folder (Ok ready) = IsBuiltOf folder ready.built ready.types.atoms
Compiled folder (Err Memory) = ⊤
Compiled folder (Err (Fault Folder)) = ⊤
Compiled folder (Err (Fault (Source x))) = IsRefusalOf folder x.refusal (source_modules x.source)
