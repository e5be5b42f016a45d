use Rattle.std.specs.Option.{option_copied}
use Rattle.needs_of_rows.proofs.Finding.{found-as}
use Rattle.needs_of_places.proofs.PairParts.{mapping-so, no-mapping}
use Rattle.needs_of_places.proofs.made.mapping_row.Goals as goal

pub returns-in-Some : goal.returns-in-Some
returns-in-Some c =
    found-as _ _ _ _ (mapping-so c.args.site c.args.taken.operands.now (option_copied c.args.taken.given) c.args.making.atom c.args.making.count c.args.making.immutable c.args.pairs c.in-Some.pairs _ c.in-Some.is c.requires c.atom_at.ensures) c.makes_mapping.ensures

pub returns-in-None : goal.returns-in-None
returns-in-None c =
    found-as _ _ _ _ (no-mapping c.args.site c.args.taken.operands.now (option_copied c.args.taken.given) c.args.making.atom c.args.making.count c.args.making.immutable c.args.pairs c.in-None.is c.requires) c.refuse.ensures
