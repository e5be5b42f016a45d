-- When what came of a call is what was wanted of it.
use Rattle.std.specs.Prelude.{◌≡◌, ⊤, ℕ, List, Option, Some, None, IsSomeAnd, String, string_bytes}
use Rattle.std.specs.Global.{Global}
use Rattle.bal_io.specs.Content.{IsPrefixOf}
use Rattle.run_cases.specs.declared.came.Came.{Came}
use Rattle.run_cases.specs.declared.came.Counts.{Counts}
use Rattle.run_cases.specs.declared.case.Wanted.{Wanted}
use Rattle.run_cases.specs.declared.case.WantedCounts.{WantedCounts}
use Rattle.run_cases.specs.declared.case.WantedDir.{WantedDir}
use Rattle.run_cases.specs.declared.case.WantedDir.TheVariants.{Any, Missing, Named}
use Rattle.run_cases.specs.declared.case.WantedText.{WantedText}
use Rattle.run_cases.specs.declared.case.WantedText.TheVariants.{Whole, Front}

-- the count is the one that is wanted, if one is
abbrev pub IsCountWanted : Option ℕ → ℕ → Type 0
IsCountWanted (Some wanted) came = came ≡ wanted
IsCountWanted None came = ⊤

abbrev pub AreCountsWanted : WantedCounts → Counts → Type 0
AreCountsWanted wanted came = IsCountWanted wanted.spent came.spent × IsCountWanted wanted.turns came.turns

-- the words name the folder that is wanted, or none where none is, if one is told
abbrev pub IsDirWanted : WantedDir → Option (String Global) → Type 0
IsDirWanted Any came = ⊤
IsDirWanted Missing came = came ≡ None
IsDirWanted (Named name) came = IsSomeAnd came (λ dir. string_bytes dir ≡ string_bytes name)

-- the text, or one that begins with it where more may stand behind it
abbrev pub IsTextWanted : WantedText → List ℕ → Type 0
IsTextWanted (Whole text) came = came ≡ text.items
IsTextWanted (Front text) came = IsPrefixOf text.items came

-- the status, the outputs to the last byte, or to the end of a front, and the folder and each count that is wanted
abbrev pub AsWanted : Wanted → Came → Type 0
AsWanted wanted came =
    (came.status ≡ wanted.status)
    × IsTextWanted wanted.stdout came.stdout.items
    × IsTextWanted wanted.stderr came.stderr.items
    × IsDirWanted wanted.dir came.dir
    × AreCountsWanted wanted.counts came.counts
