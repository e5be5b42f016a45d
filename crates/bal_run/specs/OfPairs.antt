-- What a call of the top says of a program whose pairs are asked for: their text is told of it.
use Rattle.status_texts.specs.declared.status.Run.{Run}
use Rattle.folder_programs.specs.declared.texts.Telling.TheVariants.{Pairs}
use Rattle.bal_run.specs.OfTexts.{TextIsTold}
use Rattle.status_texts.specs.Outside.{Outside}

abbrev pub ArePairsTold : Outside → Outside → Run → Type 0
ArePairsTold = TextIsTold Pairs
