-- What the words of the command ask for.
use Rattle.std.specs.Prelude.{◌≡◌, ⊤, ℕ, List, String}
use Rattle.std.specs.Global.{Global}
use Rattle.command_words.specs.Commands.{IsCommand, Purpose, Request}
use Rattle.command_words.specs.Commands as command

-- they are a command for this, with so many ticks and this seed, of whatever folder
abbrev pub AsksFor : List (String Global) → Purpose → ℕ → ℕ → Type 0
AsksFor words purpose ticks seed = (dir : List ℕ) × IsCommand words (record { dir = dir; purpose = purpose; ticks = ticks; seed = seed })

-- they are a command of this folder
abbrev pub IsOfFolder : List (String Global) → List ℕ → Type 0
IsOfFolder words dir = (request : Request) × IsCommand words request × (request.dir ≡ dir)

-- for this the folder's program is compiled
abbrev pub NeedsProgram : Purpose → Type 0
NeedsProgram (command.Run texts) = ⊤
NeedsProgram command.Check = ⊤
NeedsProgram command.Pairs = ⊤
NeedsProgram command.Code = ⊤
NeedsProgram (command.Subtype s t) = ⊥

-- they are a command for which the folder's program is compiled
abbrev pub Builds : List (String Global) → Type 0
Builds words = (request : Request) × IsCommand words request × NeedsProgram request.purpose
