-- Each call of the library stands in the table at its number.
use Rattle.std.proofs.Common.{refl}
use Rattle.operations.specs.declared.library.LibraryCall.TheVariants.{Println}
use Rattle.stack_code.specs.Laws.{CallsStandAtNumbers}

pub stand-at-numbers : CallsStandAtNumbers
stand-at-numbers Println = refl
stand-at-numbers _ = refl
