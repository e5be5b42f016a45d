-- What a call of the top says of the words.
use Rattle.std.specs.Prelude.{◌≡◌, List, String}
use Rattle.std.specs.Global.{Global}
use Rattle.command_words.specs.Commands.{IsGood}
use Rattle.status_texts.specs.declared.status.Run.{Run}
use Rattle.status_texts.specs.declared.status.Status.TheVariants.{Words}
use Rattle.bal_run.specs.Due.{NothingRan}
use Rattle.status_texts.specs.Outside.{Outside}
use Rattle.status_texts.specs.Report.{ComesTo}

-- they are told to be wrong only where they are no good command, and nothing runs then; and where they are none, that is told
pub record AreJudged (words : List (String Global)) (before after : Outside) (run : Run) : Type 0 where
  pub bad : run.status ≡ Words → ¬ (IsGood words)
  pub nothing : run.status ≡ Words → NothingRan before after run
  pub due : ¬ (IsGood words) → ComesTo Words run.status
