-- What a call of the top says of a program whose code is asked for: the text of a code of it is told.
use Rattle.status_texts.specs.declared.status.Run.{Run}
use Rattle.folder_programs.specs.declared.texts.Telling.TheVariants.{Code}
use Rattle.bal_run.specs.OfTexts.{TextIsTold}
use Rattle.status_texts.specs.Outside.{Outside}

abbrev pub IsCodeTold : Outside → Outside → Run → Type 0
IsCodeTold = TextIsTold Code
