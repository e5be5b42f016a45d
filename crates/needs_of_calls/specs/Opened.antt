-- Calls that are opened.
use Rattle.check_words.specs.State.{CallAtWork, Called}

-- a call without arguments
abbrev pub opened : Called → CallAtWork
opened c = record { callee = c; args = 0 }
