-- The steps of compiling.
use Rattle.std.specs.Prelude.{◌≡◌, ◌⊎◌, ⊤, ℕ, Result, Ok, Err, Some, None}
use Rattle.bal_base.specs.declared.fault.Fault.{Fault as FaultOf}
use Rattle.bal_base.specs.declared.fault.Refusal.{Refusal}
use Rattle.bal_base.specs.declared.stop.Memory.{Memory as NoMemory}
use Rattle.bal_base.specs.declared.stop.Stop.{Stop}
use Rattle.bal_base.specs.declared.stop.Stop.TheVariants.{Memory, Fault}
use Rattle.bal_io.specs.Faults.{Rises}
use Rattle.bal_tree.specs.declared.package.Package.{Package}
use Rattle.lower_package.specs.Limits.{PassesNodes}
use Rattle.typed_tree.specs.declared.package.TypedPackage.{TypedPackage}
use Rattle.folder_programs.specs.declared.compiling.CompileFault.{CompileFault}
use Rattle.folder_programs.specs.declared.compiling.CompileFault.TheVariants.{Folder, Source}
use Rattle.folder_programs.specs.declared.compiling.Ready.{Ready}
use Rattle.folder_programs.specs.declared.compiling.Refusing.{Refusing}
use Rattle.folder_programs.specs.declared.packages.AnswerFault.{AnswerFault}
use Rattle.folder_programs.specs.declared.packages.AnswerFault.TheVariants as answer
use Rattle.folder_programs.specs.Packages.{source_modules}
use Rattle.folder_programs.specs.Programs.{IsAccepted, IsProgramRefused, large_program}
use Rattle.folder_programs.specs.Refusals.{refusal_in}

-- the count of faults rose exactly where the folder failed
abbrev pub CountsCompileFaults : {A : Type 0} → ℕ → ℕ → Result A (Stop CompileFault) → Type 0
CountsCompileFaults old new (Ok a) = new ≡ old
CountsCompileFaults old new (Err Memory) = new ≡ old
CountsCompileFaults old new (Err (Fault Folder)) = Rises old new
CountsCompileFaults old new (Err (Fault (Source x))) = new ≡ old

-- what comes of a package: it is accepted, or refused by the front or for its many nodes
abbrev pub ComesOfPackage : Package → Result Ready (Stop Refusing) → Type 0
ComesOfPackage whole (Ok ready) = IsAccepted whole ready.built ready.types.atoms
ComesOfPackage whole (Err Memory) = ⊤
ComesOfPackage whole (Err (Fault x)) = IsProgramRefused whole x.refusal (source_modules x.source)

-- the stop of trees with too many nodes, if there was memory for it
abbrev pub IsLargeStop : TypedPackage → Stop Refusing → Type 0
IsLargeStop p Memory = ⊤
IsLargeStop p (Fault x) = PassesNodes p × (x.refusal ≡ large_program p) × (x.source ≡ None)

-- the answer for a folder by that for its package
abbrev pub IsOfSource : Result Ready (Stop Refusing) → Result Ready (Stop CompileFault) → Type 0
IsOfSource (Ok ready) result = result ≡ Ok ready
IsOfSource (Err Memory) result = result ≡ Err Memory
IsOfSource (Err (Fault x)) result = result ≡ Err (Fault (Source x))

-- the stop of a folder whose files make no package, of which nothing is shown
abbrev pub IsStopUnloaded : Stop AnswerFault → Stop CompileFault → Type 0
IsStopUnloaded Memory stop = stop ≡ Memory
IsStopUnloaded (Fault answer.Folder) stop = stop ≡ Fault Folder
IsStopUnloaded (Fault (answer.Source r)) stop = stop ≡ Fault (Source (record { refusal = r; source = None }))

-- the stop by a refusal that shows nothing of a package, if there was memory for it
abbrev pub IsStopBare : Result Refusal NoMemory → Stop Refusing → Type 0
IsStopBare (Ok r) stop = stop ≡ Fault (record { refusal = r; source = None })
IsStopBare (Err m) stop = stop ≡ Memory

-- the same of this package
abbrev pub IsStopShown : Result Refusal NoMemory → Package → Stop Refusing → Type 0
IsStopShown (Ok r) whole stop = stop ≡ Fault (record { refusal = r; source = Some whole })
IsStopShown (Err m) whole stop = stop ≡ Memory

-- the stop by a fault of the front, if there was memory for it
abbrev pub IsStopRefused : Package → Stop FaultOf → Stop Refusing → Type 0
IsStopRefused whole Memory stop = stop ≡ Memory
IsStopRefused whole (Fault fault) stop =
    (stop ≡ Memory) ⊎ ((x : Refusing) × (stop ≡ Fault x) × (x.refusal ≡ refusal_in whole.modules fault) × (x.source ≡ Some whole))
