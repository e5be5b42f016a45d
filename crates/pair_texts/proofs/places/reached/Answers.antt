use Rattle.std.proofs.Common.{ap, sym, ◌∙◌}
use Rattle.std.specs.Option.{option_copied}
use Rattle.pair_texts.proofs.Standing.{stands-in, stands-there}
use Rattle.pair_texts.proofs.places.reached.Goals as goal

pub reached_in-requires : goal.reached_in-requires
reached_in-requires c =
    λ same. stands-in c.args.modules.now c.args.spot c.args.at.file c.in-Some.file.now same (sym c.file_in.ensures ∙ ap option_copied c.in-Some.is) c.requires

pub returns-in-Some : goal.returns-in-Some
returns-in-Some c =
    stands-there c.args.modules.now c.reached_in.result c.args.at.file c.in-Some.file.now c.reached_in.ensures.file (sym c.file_in.ensures ∙ ap option_copied c.in-Some.is) c.reached_in.ensures.stands
