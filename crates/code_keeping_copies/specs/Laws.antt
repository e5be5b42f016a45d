-- What steps of well-typed code keep that call the library to copy values, as laws.
use Rattle.operations.specs.declared.library.LibraryCall.TheVariants.{Clone, CloneReadOnly}
use Rattle.code_keeping_library.specs.Laws.{CallIsDone}

-- a value is cloned, and each mutable structure that it reaches
abbrev pub ClonesAreDone : Type 0
ClonesAreDone = CallIsDone Clone

-- a value is cloned so that it can't change
abbrev pub ReadOnlyClonesAreDone : Type 0
ReadOnlyClonesAreDone = CallIsDone CloneReadOnly
