-- What a call of the top says of a folder whose program is compiled, whatever is done with that: single facts, each cause with its status
-- and each status with its cause. A cause comes to its status, unless the diagnostics fail or memory runs out.
use Rattle.std.specs.Prelude.{◌≡◌, ◌<◌, ◌⊎◌, ⊤, List, false, IfNone, IfSome, IsSome, IsSomeAnd, Option, Some}
use Rattle.bal_base.specs.declared.fault.Refusal.{Refusal}
use Rattle.bal_io.specs.Faults.{Rises}
use Rattle.bal_tree.specs.declared.package.Module.{Module}
use Rattle.bal_tree.specs.declared.package.Package.{Package}
use Rattle.bal_tree.specs.declared.package.SourceFile.{SourceFile}
use Rattle.compile_front.specs.Mains.{has_main}
use Rattle.descriptors.specs.Described.{Atoms}
use Rattle.module_loader.specs.Faults.{IsRefusedFor}
use Rattle.module_loader.specs.Packages.{PackageOf}
use Rattle.folder_programs.specs.declared.compiling.Built.{Built}
use Rattle.status_texts.specs.declared.status.Run.{Run}
use Rattle.status_texts.specs.declared.status.Status.TheVariants.{Refused, FolderFault}
use Rattle.bal_run.specs.Due.{NothingRan}
use Rattle.status_texts.specs.Outside.{Files, Outside}
use Rattle.folder_programs.specs.Programs.{IsBuiltOf, IsProgramRefused, IsRefusalOf}
use Rattle.status_texts.specs.Report.{ComesTo, ComesToRefusal}
use Rattle.folder_programs.specs.Refusals.{no_main}

-- ---- the folder, as far as it tells its files

-- the files make a package, and whatever they make, it has no public `main`
abbrev pub LacksMain : Files → Type 0
LacksMain files = ((whole : Package) × PackageOf files whole) × ((whole : Package) → PackageOf files whole → has_main whole ≡ false)

module _ (folder : Option Files) where
  -- the program is refused so
  abbrev pub HasRefusalOf : Refusal → Type 0
  HasRefusalOf r = (modules : List Module) × IsRefusalOf folder r modules

  -- no program of the folder is built: it makes no package, or the front accepts none, or it has too many nodes
  abbrev pub HasNoProgram : Type 0
  HasNoProgram = (built : Built) (atoms : Atoms) → IsBuiltOf folder built atoms → ⊥

  -- the folder tells its files, which make a package, and whatever they make, its program isn't refused
  pub record IsNeverRefused : Type 0 where
    pub all : Files
    pub told : folder ≡ Some all
    pub made : (whole : Package) × PackageOf all whole
    pub never : (whole : Package) → PackageOf all whole → (r : Refusal) (modules : List Module) → IsProgramRefused whole r modules → ⊥

  -- a program of the folder was built of this package, and this is so of it
  abbrev pub IsBuiltWith : (Atoms → Built → Type 0) → Package → Type 0
  IsBuiltWith P source = (built : Built) × (atoms : Atoms) × (built.source ≡ source) × IsBuiltOf folder built atoms × P atoms built

  -- so it is of the package that is kept
  abbrev pub OfBuilt : Option Package → (Atoms → Built → Type 0) → Type 0
  OfBuilt kept P = IsSomeAnd kept (IsBuiltWith P)

  -- the same, where something was built
  abbrev pub IfBuilt : Option Package → (Atoms → Built → Type 0) → Type 0
  IfBuilt kept P = IfSome kept (IsBuiltWith P)

  -- what is kept, if anything is, is the package of a program of the folder
  abbrev pub IsOfProgram : Option Package → Type 0
  IsOfProgram kept = IfBuilt kept (λ atoms built. ⊤)

-- ---- the facts

-- the program is refused so, and nothing ran
abbrev pub RefusedSoon : Outside → Outside → Run → Refusal → Type 0
RefusedSoon before after run r = HasRefusalOf before.folder.files r × NothingRan before after run

-- `Late`: it is refused so behind that
pub record BuildIsTold (Late : Refusal → Type 0) (before after : Outside) (run : Run) : Type 0 where
  -- the folder failed
  pub folder_fault : run.status ≡ FolderFault → Rises before.folder.faults after.folder.faults × NothingRan before after run
  pub folder_due : before.folder.faults < after.folder.faults → ComesTo FolderFault run.status
  -- the program is refused
  pub refused : (r : Refusal) → run.status ≡ Refused r → RefusedSoon before after run r ⊎ Late r
  pub files_due : (all : Files) (r : Refusal) (read : List SourceFile) → before.folder.files ≡ Some all → IsRefusedFor all r read
      → ComesToRefusal r run.status
  pub no_main_due : (all : Files) → before.folder.files ≡ Some all → LacksMain all → ComesToRefusal no_main run.status
  pub front_due : HasNoProgram before.folder.files
      → ((r : Refusal) × HasRefusalOf before.folder.files r × ComesTo (Refused r) run.status) ⊎ ComesTo FolderFault run.status
  -- what was built
  pub kept : IsOfProgram before.folder.files run.built
  pub built_due : IsNeverRefused before.folder.files → IsSome run.built ⊎ ComesTo FolderFault run.status
  pub unbuilt : IfNone run.built (NothingRan before after run)
