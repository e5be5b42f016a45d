use Rattle.type_model.specs.declared.basic.SemType.{SemType}
use Rattle.code_needs.specs.Combining.{◌&◌}
use Rattle.code_needs.specs.RowNeeds.{has, within}
use Rattle.needs_of_rows.proofs.Finding.{found-at-two, found-not-two, found-split}
use Rattle.std.specs.Option.{option_copied}
use Rattle.needs_of_rows.proofs.kinds.on_two.Goals as goal

pub returns-in-Some : goal.returns-in-Some
returns-in-Some c =
    found-at-two (λ (a : SemType) (b : SemType). within a c.args.first & within b c.args.second & has (option_copied c.args.given) c.args.wanted) c.args.operands.now c.in-Some.a.now c.in-Some.b.now _ _ c.in-Some.ensures
    (found-split (within c.in-Some.a.now c.args.first) (within c.in-Some.b.now c.args.second) (has (option_copied c.args.given) c.args.wanted) _ _ _ c.both_within.ensures c.has.ensures)

pub returns-in-None : goal.returns-in-None
returns-in-None c =
    found-not-two (λ (a : SemType) (b : SemType). within a c.args.first & within b c.args.second & has (option_copied c.args.given) c.args.wanted) c.args.operands.now _ _ c.in-None.ensures c.refuse.ensures
