-- What is due of a folder's files is what loading answers.
use Rattle.std.proofs.Common.{List}
use Rattle.std.specs.Prelude.{Option, Some, None, IfSome, Result, Ok, Err, IfOk}
use Rattle.bal_base.specs.declared.fault.Refusal.{Refusal}
use Rattle.bal_base.specs.declared.stop.Stop.{Stop}
use Rattle.bal_base.specs.declared.stop.Stop.TheVariants.{Fault, Memory}
use Rattle.bal_tree.specs.declared.package.Package.{Package}
use Rattle.bal_tree.specs.declared.package.SourceFile.{SourceFile}
use Rattle.folder_files.specs.Files.{Files}
use Rattle.module_loader.specs.Faults.{IsRefusedFor}
use Rattle.module_loader.specs.Loading.{IfRefused, IsRefusedAs, IsUnrefused}
use Rattle.module_loader.specs.Packages.{PackageOf}
use Rattle.module_loader.specs.declared.faults.LoadFault.{LoadFault}
use Rattle.module_loader.specs.declared.faults.LoadFault.TheVariants.{Folder, Source}
use Rattle.module_loader.proofs.OneRefusal.{package-or-refused, refusal-one}

module _ (result : Result Package (Stop LoadFault)) where
  pub package-due : (w : Option Files) → IfRefused result (λ r read. IfSome w (λ files. IsRefusedFor files r read)) → IfSome w (λ files. (p : Package) → PackageOf files p → IsUnrefused result)
  package-due None refused = tt
  package-due (Some files) refused = λ p made. by result refused p made
    where
      by : (o : Result Package (Stop LoadFault)) → IfRefused o (λ r read. IsRefusedFor files r read) → (p : Package) → PackageOf files p → IsUnrefused o
      by (Ok q) refused p made = tt
      by (Err Memory) refused p made = tt
      by (Err (Fault Folder)) refused p made = tt
      by (Err (Fault (Source r read))) refused p made = package-or-refused files p r read made refused

  pub refusal-due : (w : Option Files) → IfOk result (λ p. IfSome w (λ files. PackageOf files p)) → IfRefused result (λ r read. IfSome w (λ files. IsRefusedFor files r read))
      → IfSome w (λ files. (r : Refusal) (read : List SourceFile) → IsRefusedFor files r read → IsRefusedAs r result)
  refusal-due None made refused = tt
  refusal-due (Some files) made refused = λ r read due. by result made refused r read due
    where
      by : (o : Result Package (Stop LoadFault)) → IfOk o (λ p. PackageOf files p) → IfRefused o (λ r read. IsRefusedFor files r read) → (r : Refusal) (read : List SourceFile) → IsRefusedFor files r read → IsRefusedAs r o
      by (Ok p) made refused r read due = package-or-refused files p r read made due
      by (Err Memory) made refused r read due = tt
      by (Err (Fault Folder)) made refused r read due = tt
      by (Err (Fault (Source q some))) made refused r read due = refusal-one files q r some read refused due
