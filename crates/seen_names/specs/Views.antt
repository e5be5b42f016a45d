-- What a name stands for, as it is held.
use Rattle.check_words.specs.Library.{row_of}
use Rattle.check_words.specs.Seen.{SeenConstant, SeenLibrary, SeenMeaning, SeenNothing, SeenVariable, SeenWorker}
use Rattle.check_words.specs.Seen.{Seen as SeenWords}
use Rattle.seen_names.specs.declared.seen.Seen.{Seen}
use Rattle.seen_names.specs.declared.seen.Seen.TheVariants as seen

abbrev pub seen_of : Seen → SeenWords
seen_of (seen.Variable v) = SeenVariable v.now
seen_of (seen.Worker w) = SeenWorker w
seen_of (seen.Constant c) = SeenConstant c
seen_of (seen.Library call) = SeenLibrary (row_of call)
seen_of (seen.Meaning m) = SeenMeaning m.now
seen_of (seen.Nothing code) = SeenNothing code
