-- What comes of one more file, by the steps that read it.
use Rattle.std.proofs.Common.{◌≡◌, ◌<◌, inl, inr, ℕ, List, length, sym, subst, ap}
use Rattle.std.specs.Prelude.{Result, Ok, Err}
use Rattle.bal_base.specs.Stops.{IfFault}
use Rattle.bal_base.specs.declared.fault.Refusal.{Refusal}
use Rattle.bal_base.specs.declared.stop.Stop.{Stop}
use Rattle.bal_base.specs.declared.stop.Stop.TheVariants.{Fault, Memory}
use Rattle.bal_tree.specs.declared.package.SourceFile.{SourceFile}
use Rattle.source_files.specs.Files.{IsSource, IsUnread}
use Rattle.module_loader.specs.Faults.{too_large}
use Rattle.module_loader.specs.inner.Begun.{Adds, IsBehind, IsNext, IsPut, IsStopAt, IsWithFiles}
use Rattle.module_loader.specs.Loading.{CountsLoadFaults, IfRefused}
use Rattle.module_loader.specs.declared.faults.LoadFault.{LoadFault}
use Rattle.module_loader.specs.declared.limits.TheConstants.{MOST_PACKAGE_BYTES}
use Rattle.module_loader.specs.declared.reading.Reading.{Reading}

module _ (old new : Reading) (name front : List ℕ) where
  adds : (file : SourceFile) → IsSource (length old.read.items) name front file → IsBehind old new file (length front) → Adds old new name front
  adds file source behind = record { file = file; source = source; read = behind.0; size = behind.1 }

  -- the file came to a tree and was put behind the others
  pub put-next : {A : Type 0} (file : SourceFile) (r : Result A (Stop Refusal)) → IsSource (length old.read.items) name front file → IsPut old new file (length front) r → IsNext old new name front r
  put-next file (Ok x) source put = (adds file source put.0, put.1)
  put-next file (Err Memory) source put = tt
  put-next file (Err (Fault r)) source put = inr (adds file source put.0, put.1, put.2)

  -- it came to none
  pub unread-next : (A B : Type 0) (stop : Stop Refusal) → new ≡ old → IfFault {T = A} (Err stop) (IsUnread (length old.read.items) name front) → IsNext old new name front {A = B} (Err stop)
  unread-next A B Memory same h = tt
  unread-next A B (Fault r) same h = inl (ap (λ (x : Reading). x.read.items) same, h)

-- the files are too long together
pub put-stops : (A : Type 0) (old new : Reading) (file : SourceFile) (size : ℕ) (stop : Stop Refusal) → IsBehind old new file size → MOST_PACKAGE_BYTES < new.bytes → IsStopAt (too_large new.bytes) stop
    → IsPut old new file size {A = A} (Err stop)
put-stops A old new file size Memory behind many at = tt
put-stops A old new file size (Fault r) behind many at = (behind, many, at)

-- a stop by a refusal that is told with files
pub told-counts : (A : Type 0) (first old : ℕ) (stop : Stop Refusal) (read : List SourceFile) (told : Stop LoadFault) → IsWithFiles stop read told → old ≡ first → CountsLoadFaults {A = A} first old (Err told)
told-counts A first old Memory read told is same = subst (λ s. CountsLoadFaults {A = A} first old (Err s)) (sym is) same
told-counts A first old (Fault r) read told is same = subst (λ s. CountsLoadFaults {A = A} first old (Err s)) (sym is) same

pub told-refused : (A B : Type 0) (stop : Stop Refusal) (read : List SourceFile) (told : Stop LoadFault) (P : Refusal → List SourceFile → Type 0) → IsWithFiles stop read told
    → IfFault {T = A} (Err stop) (λ r. P r read) → IfRefused {A = B} (Err told) P
told-refused A B Memory read told P is h = subst (λ s. IfRefused {A = B} (Err s) P) (sym is) tt
told-refused A B (Fault r) read told P is h = subst (λ s. IfRefused {A = B} (Err s) P) (sym is) h

-- what is known of a stop is known where its refusal is
pub fault-of : (A B : Type 0) (old new : Reading) (name front : List ℕ) (stop : Stop Refusal) (Q : Refusal → Type 0)
    → ((r : Refusal) → IsNext old new name front {A = A} (Err (Fault r)) → Q r) → IsNext old new name front {A = A} (Err stop) → IfFault {T = B} (Err stop) Q
fault-of A B old new name front Memory Q gives h = tt
fault-of A B old new name front (Fault r) Q gives h = gives r h
