-- What loading a folder comes to, without the files that were read, and what a folder that makes no package comes to.
use Rattle.std.proofs.Common.{◌≡◌, ℕ, List, Option, Some, None, refl, sym, subst, inl}
use Rattle.std.specs.Prelude.{IfSome, Ok, Err, String}
use Rattle.std.specs.Global.{Global}
use Rattle.bal_base.specs.declared.fault.Refusal.{Refusal}
use Rattle.bal_base.specs.declared.stop.Stop.{Stop}
use Rattle.bal_base.specs.declared.stop.Stop.TheVariants.{Memory, Fault}
use Rattle.bal_tree.specs.declared.package.Package.{Package}
use Rattle.bal_tree.specs.declared.package.SourceFile.{SourceFile}
use Rattle.module_loader.specs.Faults.{IsRefusedFor}
use Rattle.module_loader.specs.Loading.{CountsLoadFaults, IfRefused, IsRefusedAs, IsUnrefused}
use Rattle.module_loader.specs.Packages.{PackageOf}
use Rattle.module_loader.specs.declared.faults.LoadFault.{LoadFault}
use Rattle.module_loader.specs.declared.faults.LoadFault.TheVariants as load
use Rattle.status_texts.specs.Outside.{Files}
use Rattle.folder_programs.specs.declared.compiling.CompileFault.{CompileFault}
use Rattle.folder_programs.specs.declared.compiling.Ready.{Ready}
use Rattle.folder_programs.specs.declared.packages.AnswerFault.{AnswerFault}
use Rattle.folder_programs.specs.declared.packages.AnswerFault.TheVariants.{Folder, Source}
use Rattle.folder_programs.specs.Compiling.{CountsCompileFaults, IsStopUnloaded}
use Rattle.folder_programs.specs.Packages.{CountsFolderFaults, HasNoPackage, IsLoadedOf, IsPackageOf, IsWithoutFiles}
use Rattle.folder_programs.specs.Programs.{Compiled}
use Rattle.folder_programs.specs.Questions.{Answers}

-- ---- without the files that were read

module _ (stop : Stop LoadFault) (told : Stop AnswerFault) (is : IsWithoutFiles stop told) where
  pub stop-counts : (old new : ℕ) → CountsLoadFaults {A = Package} old new (Err stop) → CountsFolderFaults {A = Package} old new (Err told)
  stop-counts old new h = so stop is h
    where
      so : (s : Stop LoadFault) → IsWithoutFiles s told → CountsLoadFaults {A = Package} old new (Err s) → CountsFolderFaults {A = Package} old new (Err told)
      so Memory e k = subst (λ t. CountsFolderFaults {A = Package} old new (Err t)) (sym e) k
      so (Fault load.Folder) e k = subst (λ t. CountsFolderFaults {A = Package} old new (Err t)) (sym e) k
      so (Fault (load.Source r read)) e k = subst (λ t. CountsFolderFaults {A = Package} old new (Err t)) (sym e) k

  pub stop-loaded : (folder : Option Files) → IfRefused {A = Package} (Err stop) (λ r read. IfSome folder (λ files. IsRefusedFor files r read))
      → IfSome folder (λ files. (p : Package) → PackageOf files p → IsUnrefused {A = Package} (Err stop))
      → IfSome folder (λ files. (r : Refusal) (read : List SourceFile) → IsRefusedFor files r read → IsRefusedAs {A = Package} r (Err stop))
      → IsLoadedOf folder (Err told)
  stop-loaded folder h none only = so stop is h none only
    where
      unmade : (f : Option Files) (r : Refusal) (read : List SourceFile) → IfSome f (λ files. IsRefusedFor files r read)
          → IfSome f (λ files. (p : Package) → PackageOf files p → ⊥)
          → IfSome f (λ files. (x : Refusal) (before : List SourceFile) → IsRefusedFor files x before → r ≡ x) → HasNoPackage f r
      unmade None r read k n o = tt
      unmade (Some files) r read k n o = record { read = read; has = k; only = λ x before b. sym (o x before b); none = n }

      so : (s : Stop LoadFault) → IsWithoutFiles s told → IfRefused {A = Package} (Err s) (λ r read. IfSome folder (λ files. IsRefusedFor files r read))
          → IfSome folder (λ files. (p : Package) → PackageOf files p → IsUnrefused {A = Package} (Err s))
          → IfSome folder (λ files. (r : Refusal) (read : List SourceFile) → IsRefusedFor files r read → IsRefusedAs {A = Package} r (Err s))
          → IsLoadedOf folder (Err told)
      so Memory e k n o = subst (λ t. IsLoadedOf folder (Err t)) (sym e) tt
      so (Fault load.Folder) e k n o = subst (λ t. IsLoadedOf folder (Err t)) (sym e) tt
      so (Fault (load.Source r read)) e k n o = subst (λ t. IsLoadedOf folder (Err t)) (sym e) (unmade folder r read k n o)

-- a package that was loaded isn't refused
pub made-of : (folder : Option Files) (whole : Package) → IfSome folder (λ files. PackageOf files whole)
    → IfSome folder (λ files. (r : Refusal) (read : List SourceFile) → IsRefusedFor files r read → IsRefusedAs r (Ok whole)) → IsPackageOf folder whole
made-of None whole is sound = tt
made-of (Some files) whole is sound = record { is = is; sound = sound }

-- ---- no program

pub unloaded-counts : (old new : ℕ) (stop : Stop AnswerFault) (told : Stop CompileFault) → CountsFolderFaults {A = Package} old new (Err stop)
    → IsStopUnloaded stop told → CountsCompileFaults {A = Ready} old new (Err told)
unloaded-counts old new Memory told k e = subst (λ t. CountsCompileFaults {A = Ready} old new (Err t)) (sym e) k
unloaded-counts old new (Fault Folder) told k e = subst (λ t. CountsCompileFaults {A = Ready} old new (Err t)) (sym e) k
unloaded-counts old new (Fault (Source r)) told k e = subst (λ t. CountsCompileFaults {A = Ready} old new (Err t)) (sym e) k

pub unloaded-so : (folder : Option Files) (stop : Stop AnswerFault) (told : Stop CompileFault) → IsLoadedOf folder (Err stop)
    → IsStopUnloaded stop told → Compiled folder (Err told)
unloaded-so folder Memory told h e = subst (λ t. Compiled folder (Err t)) (sym e) tt
unloaded-so folder (Fault Folder) told h e = subst (λ t. Compiled folder (Err t)) (sym e) tt
unloaded-so folder (Fault (Source r)) told h e = subst (λ t. Compiled folder (Err t)) (sym e) (inl (h, refl))

-- ---- no answer

pub unanswered-counts : (old new : ℕ) (stop : Stop AnswerFault) → CountsFolderFaults {A = Package} old new (Err stop)
    → CountsFolderFaults {A = String Global} old new (Err stop)
unanswered-counts old new Memory k = k
unanswered-counts old new (Fault Folder) k = k
unanswered-counts old new (Fault (Source r)) k = k

pub unanswered-so : (folder : Option Files) (s t : List ℕ) (stop : Stop AnswerFault) → IsLoadedOf folder (Err stop) → Answers folder s t (Err stop)
unanswered-so folder s t Memory h = tt
unanswered-so folder s t (Fault Folder) h = tt
unanswered-so folder s t (Fault (Source r)) h = inl h
