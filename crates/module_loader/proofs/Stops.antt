-- Stops that are handed on, and refusals that are told with files.
use Rattle.std.proofs.Common.{◌≡◌, ℕ, List, sym, subst}
use Rattle.std.specs.Prelude.{Result, Ok, Err}
use Rattle.bal_base.specs.declared.fault.Refusal.{Refusal}
use Rattle.bal_base.specs.declared.stop.Stop.{Stop}
use Rattle.bal_base.specs.declared.stop.Stop.TheVariants.{Fault, Memory}
use Rattle.bal_tree.specs.declared.package.SourceFile.{SourceFile}
use Rattle.module_loader.specs.Loading.{CountsLoadFaults, IfRefused}
use Rattle.module_loader.specs.inner.Linked.{IsOfFiles, IsStopBy}
use Rattle.module_loader.specs.declared.faults.LoadFault.{LoadFault}
use Rattle.module_loader.specs.declared.faults.LoadFault.TheVariants.{Folder, Source}

-- what is so of a refusal is so of it said otherwise
pub refused-weaker : {A : Type 0} (r : Result A (Stop LoadFault)) (P Q : Refusal → List SourceFile → Type 0) → ((x : Refusal) (read : List SourceFile) → P x read → Q x read) → IfRefused r P → IfRefused r Q
refused-weaker (Ok a) P Q gives h = tt
refused-weaker (Err Memory) P Q gives h = tt
refused-weaker (Err (Fault Folder)) P Q gives h = tt
refused-weaker (Err (Fault (Source x read))) P Q gives h = gives x read h

-- a stop that is handed on, whatever is answered where there is none
pub stop-refused : (A B : Type 0) (e : Stop LoadFault) (P Q : Refusal → List SourceFile → Type 0) → ((x : Refusal) (read : List SourceFile) → P x read → Q x read)
    → IfRefused {A = A} (Err e) P → IfRefused {A = B} (Err e) Q
stop-refused A B Memory P Q gives h = tt
stop-refused A B (Fault Folder) P Q gives h = tt
stop-refused A B (Fault (Source x read)) P Q gives h = gives x read h

pub stop-counts : (A B : Type 0) (old new : ℕ) (e : Stop LoadFault) → CountsLoadFaults {A = A} old new (Err e) → CountsLoadFaults {A = B} old new (Err e)
stop-counts A B old new Memory h = h
stop-counts A B old new (Fault Folder) h = h
stop-counts A B old new (Fault (Source x read)) h = h

-- where the folder was not asked, its count stays
pub files-count : {A : Type 0} (old new : ℕ) (r : Result A (Stop LoadFault)) → new ≡ old → IsOfFiles r → CountsLoadFaults old new r
files-count old new (Ok a) same of = same
files-count old new (Err Memory) same of = same
files-count old new (Err (Fault Folder)) same of = absurd of
files-count old new (Err (Fault (Source x read))) same of = same

-- a count that a call kept before stays as the next one says
pub counts-on : {A : Type 0} (first old new : ℕ) (r : Result A (Stop LoadFault)) → old ≡ first → CountsLoadFaults old new r → CountsLoadFaults first new r
counts-on first old new r same h = subst (λ n. CountsLoadFaults n new r) same h

-- a stop by a refusal
pub stop-by : (A : Type 0) (x : Refusal) (read : List SourceFile) (stop : Stop LoadFault) (P : Refusal → List SourceFile → Type 0) → IsStopBy x read stop → P x read → IfRefused {A = A} (Err stop) P
stop-by A x read Memory P by h = tt
stop-by A x read (Fault Folder) P by h = tt
stop-by A x read (Fault (Source y after)) P by h = subst (λ z. P z after) (sym by.0) (subst (P x) (sym by.1) h)

pub stop-of-files : (A : Type 0) (x : Refusal) (read : List SourceFile) (stop : Stop LoadFault) → IsStopBy x read stop → IsOfFiles {A = A} (Err stop)
stop-of-files A x read Memory by = tt
stop-of-files A x read (Fault Folder) by = absurd by
stop-of-files A x read (Fault (Source y after)) by = tt

-- a stop that is just this
pub files-at : (A : Type 0) (x : Refusal) (read : List SourceFile) (stop : Stop LoadFault) → stop ≡ Fault (Source x read) → IsOfFiles {A = A} (Err stop)
files-at A x read stop is = subst (λ s. IsOfFiles {A = A} (Err s)) (sym is) tt

pub refused-at : (A : Type 0) (x : Refusal) (read : List SourceFile) (stop : Stop LoadFault) (P : Refusal → List SourceFile → Type 0) → stop ≡ Fault (Source x read) → P x read → IfRefused {A = A} (Err stop) P
refused-at A x read stop P is h = subst (λ s. IfRefused {A = A} (Err s) P) (sym is) h
