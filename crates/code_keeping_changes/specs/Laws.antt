-- What steps of well-typed code keep that call the library to change structures, as laws.
use Rattle.operations.specs.declared.library.LibraryCall.TheVariants.{Pop, Push, RemoveItem, RemoveKey}
use Rattle.code_keeping_library.specs.Laws.{CallIsDone}

-- items and members are taken out and given
abbrev pub RemovalsAreDone : Type 0
RemovalsAreDone = CallIsDone Pop × CallIsDone RemoveItem × CallIsDone RemoveKey

-- values are stored behind the last item, one after another
abbrev pub PushesAreDone : Type 0
PushesAreDone = CallIsDone Push
