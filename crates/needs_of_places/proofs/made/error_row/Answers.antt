use Rattle.std.specs.Option.{option_copied}
use Rattle.needs_of_rows.proofs.Finding.{found-as}
use Rattle.needs_of_places.proofs.PairParts.{error-so}
use Rattle.needs_of_places.proofs.made.error_row.Goals as goal

pub returns-in-len2-up : goal.returns-in-len2-up
returns-in-len2-up c = λ env place.
    found-as _ _ _ _ (error-so c.args.taken.operands.now (option_copied c.args.taken.given) c.args.count c.message-item.result c.cause-item.result (option_copied c.args.pairs) c.in-len2-up.len_at_least c.message-item.is c.cause-item.is c.requires) c.error_of.ensures
