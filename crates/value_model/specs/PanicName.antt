-- The messages of the panics and errors that the language names.
use Rattle.std.specs.Prelude.{ℕ, List, codes}
use Rattle.value_model.specs.declared.panics.PanicName.{PanicName}
use Rattle.value_model.specs.declared.panics.PanicName.TheVariants.{NumberOverflow, DivisionByZero, IndexOutOfRange, InherentTypeViolation, NoFillerValue, TypeCastError, NotInitialised, StackOverflow, TooLong, CyclicValue, KeyNotFound, BadInput}

abbrev pub panic_message : PanicName → List ℕ
panic_message NumberOverflow = codes "{ballerina}NumberOverflow"
panic_message DivisionByZero = codes "{ballerina}DivisionByZero"
panic_message IndexOutOfRange = codes "{ballerina}IndexOutOfRange"
panic_message InherentTypeViolation = codes "{ballerina}InherentTypeViolation"
panic_message NoFillerValue = codes "{ballerina}NoFillerValue"
panic_message TypeCastError = codes "{ballerina}TypeCastError"
panic_message NotInitialised = codes "{ballerina}NotInitialised"
panic_message StackOverflow = codes "{ballerina}StackOverflow"
panic_message TooLong = codes "{ballerina}TooLong"
panic_message CyclicValue = codes "{ballerina}CyclicValue"
panic_message KeyNotFound = codes "{ballerina}KeyNotFound"
panic_message BadInput = codes "{ballerina}BadInput"

-- the messages of two errors that are no panics: of a text that is no int, and of a result that was taken before
abbrev pub number_parsing_error : List ℕ
number_parsing_error = codes "{ballerina}NumberParsingError"

abbrev pub future_taken : List ℕ
future_taken = codes "{ballerina}FutureTaken"
