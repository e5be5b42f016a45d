use Rattle.std.proofs.Common.{◌∙◌, ap}
use Rattle.std.specs.Option.{option_map}
use Rattle.check_words.specs.Library.{calls_of_int, is_named, row_of}
use Rattle.check_library.proofs.CallRows.{found-row}
use Rattle.check_library.proofs.lookups.function_of_int.Goals as goal

pub returns : goal.returns
returns c = ap (option_map row_of) c.among.ensures ∙ found-row row_of (is_named c.args.name.now) calls_of_int
