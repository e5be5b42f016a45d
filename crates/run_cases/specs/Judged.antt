-- What becomes of a case.
use Rattle.std.specs.Prelude.{◌≡◌, ◌⊎◌, true}
use Rattle.row_lines.specs.Telling.{FailsUnless, Telling}
use Rattle.run_cases.specs.Came.{IsCameOf}
use Rattle.run_cases.specs.Wanted.{AsWanted}
use Rattle.run_cases.specs.declared.came.Came.{Came}
use Rattle.run_cases.specs.declared.case.Case.{Case}

-- it fails exactly where what came of its call is not as it is wanted, or memory ran out
abbrev pub IsJudged : Case → Telling → Telling → Type 0
IsJudged case before after =
    ((came : Came) × IsCameOf case.call came × FailsUnless (AsWanted case.wanted came) before after) ⊎ (after.lacks_memory ≡ true)
