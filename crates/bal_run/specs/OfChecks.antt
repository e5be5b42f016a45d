-- What a call of the top says of a program that is checked: that it is accepted is told of it.
use Rattle.status_texts.specs.declared.status.Run.{Run}
use Rattle.folder_programs.specs.declared.texts.Telling.TheVariants.{Accepted}
use Rattle.bal_run.specs.OfTexts.{TextIsTold}
use Rattle.status_texts.specs.Outside.{Outside}

abbrev pub CheckIsTold : Outside → Outside → Run → Type 0
CheckIsTold = TextIsTold Accepted
