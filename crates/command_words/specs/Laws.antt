-- What holds of all commands.
use Rattle.std.specs.Prelude.{◌≡◌, List, String}
use Rattle.std.specs.Global.{Global}
use Rattle.command_words.specs.Commands.{IsCommand, Request}

-- two requests of the same words are one
abbrev pub CommandsAreOne : Type 0
CommandsAreOne = (words : List (String Global)) (a b : Request) → IsCommand words a → IsCommand words b → a ≡ b
