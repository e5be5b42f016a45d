-- The messages of panics.
use Rattle.std.proofs.Common.{◌≡◌, refl}
use Rattle.std.specs.Str.{chars}
use Rattle.value_model.specs.declared.panics.PanicName.{PanicName}
use Rattle.value_model.specs.declared.panics.PanicName.TheVariants.{NumberOverflow, DivisionByZero, IndexOutOfRange, InherentTypeViolation, NoFillerValue, TypeCastError, NotInitialised, StackOverflow, TooLong, CyclicValue, KeyNotFound, BadInput}
use Rattle.value_model.specs.PanicName.{panic_message}

-- the messages are ASCII
pub message-chars : (name : PanicName) → chars (panic_message name) ≡ panic_message name
unfolding chars
message-chars NumberOverflow = refl
message-chars DivisionByZero = refl
message-chars IndexOutOfRange = refl
message-chars InherentTypeViolation = refl
message-chars NoFillerValue = refl
message-chars TypeCastError = refl
message-chars NotInitialised = refl
message-chars StackOverflow = refl
message-chars TooLong = refl
message-chars CyclicValue = refl
message-chars KeyNotFound = refl
message-chars BadInput = refl
