-- What reading a source file comes to: the file with its tree, or the one fault for which it is refused.
use Rattle.std.specs.Prelude.{◌≡◌, ℕ, List, IfOk, Result, Ok, Err, chars}
use Rattle.bal_base.specs.Stops.{IfFault}
use Rattle.bal_base.specs.declared.fault.Fault.{Fault as FaultOf}
use Rattle.bal_base.specs.declared.fault.Refusal.{Refusal}
use Rattle.bal_base.specs.declared.stop.Memory.{Memory as NoMemory}
use Rattle.bal_base.specs.declared.stop.Stop.{Stop}
use Rattle.bal_base.specs.declared.stop.Stop.TheVariants.{Fault, Memory}
use Rattle.bal_tree.specs.declared.def.FileTree.{FileTree}
use Rattle.bal_tree.specs.declared.package.SourceFile.{SourceFile}
use Rattle.source_files.specs.Sources.{HasNoTree, ReadsAs}
use Rattle.source_files.specs.Told.{refusal_of}

-- the file with the number, the name and the bytes reads as this source file, and so it has no fault for which it comes to no tree
pub record IsSource (file : ℕ) (name bytes : List ℕ) (source : SourceFile) : Type 0 where
  pub named : source.name ≡ name
  pub text : source.text ≡ chars bytes
  pub reads : ReadsAs file bytes source.tree
  pub sound : (fault : FaultOf) → HasNoTree file bytes fault → ⊥

-- it comes to no tree, and is refused for the one fault that it has
pub record IsUnread (file : ℕ) (name bytes : List ℕ) (r : Refusal) : Type 0 where
  pub fault : FaultOf
  pub has : HasNoTree file bytes fault
  pub only : (other : FaultOf) → HasNoTree file bytes other → other ≡ fault
  pub no_tree : (tree : FileTree) → ReadsAs file bytes tree → ⊥
  pub is : r ≡ refusal_of name bytes fault

-- the source file, or the refusal
pub record IsFileReading (file : ℕ) (name bytes : List ℕ) (result : Result SourceFile (Stop Refusal)) : Type 0 where
  pub reads : IfOk result (IsSource file name bytes)
  pub refused : IfFault result (IsUnread file name bytes)

-- the stop by a refusal, if there was memory for it
abbrev pub IsStopOf : Result Refusal NoMemory → Stop Refusal → Type 0
IsStopOf (Ok refusal) stop = stop ≡ Fault refusal
IsStopOf (Err m) stop = stop ≡ Memory
