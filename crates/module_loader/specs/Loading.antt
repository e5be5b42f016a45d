-- What loading a folder comes to.
use Rattle.std.specs.Prelude.{◌≡◌, ⊤, ℕ, List, Result, Ok, Err}
use Rattle.bal_base.specs.declared.fault.Refusal.{Refusal}
use Rattle.bal_base.specs.declared.stop.Stop.{Stop}
use Rattle.bal_base.specs.declared.stop.Stop.TheVariants.{Fault, Memory}
use Rattle.bal_io.specs.Faults.{Rises}
use Rattle.bal_tree.specs.declared.package.SourceFile.{SourceFile}
use Rattle.module_loader.specs.declared.faults.LoadFault.{LoadFault}
use Rattle.module_loader.specs.declared.faults.LoadFault.TheVariants.{Folder, Source}

-- the count of faults rose exactly where the folder failed
abbrev pub CountsLoadFaults : {A : Type 0} → ℕ → ℕ → Result A (Stop LoadFault) → Type 0
CountsLoadFaults old new (Ok a) = new ≡ old
CountsLoadFaults old new (Err Memory) = new ≡ old
CountsLoadFaults old new (Err (Fault Folder)) = Rises old new
CountsLoadFaults old new (Err (Fault (Source r read))) = new ≡ old

-- P of the refusal and of the files that were read by then, if there is one
abbrev pub IfRefused : {A : Type 0} → Result A (Stop LoadFault) → (Refusal → List SourceFile → Type 0) → Type 0
IfRefused (Ok a) P = ⊤
IfRefused (Err Memory) P = ⊤
IfRefused (Err (Fault Folder)) P = ⊤
IfRefused (Err (Fault (Source r read))) P = P r read

-- it isn't refused
abbrev pub IsUnrefused : {A : Type 0} → Result A (Stop LoadFault) → Type 0
IsUnrefused (Ok a) = ⊤
IsUnrefused (Err Memory) = ⊤
IsUnrefused (Err (Fault Folder)) = ⊤
IsUnrefused (Err (Fault (Source r read))) = ⊥

-- it is refused, and so
abbrev pub IsRefusedAs : {A : Type 0} → Refusal → Result A (Stop LoadFault) → Type 0
IsRefusedAs r (Ok a) = ⊥
IsRefusedAs r (Err Memory) = ⊤
IsRefusedAs r (Err (Fault Folder)) = ⊤
IsRefusedAs r (Err (Fault (Source found read))) = found ≡ r
