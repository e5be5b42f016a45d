use Rattle.type_model.specs.declared.basic.SemType.{SemType}
use Rattle.code_needs.specs.Combining.{◌&◌}
use Rattle.code_needs.specs.RowNeeds.{has, makes_none, within}
use Rattle.code_needs.specs.declared.kind.Kind.TheVariants.{Booleans, Strings}
use Rattle.needs_of_rows.proofs.Finding.{found-at-two, found-not-two, found-split}
use Rattle.std.specs.Option.{option_copied}
use Rattle.needs_of_rows.proofs.library.tests_string.Goals as goal

pub returns-in-Some : goal.returns-in-Some
returns-in-Some c =
    found-at-two (λ (s : SemType) (t : SemType). within s c.args.first & within t Strings & makes_none c.args.atom (has (option_copied c.args.given) Booleans)) c.args.operands.now c.in-Some.s.now c.in-Some.t.now _ _ c.in-Some.ensures
    (found-split (within c.in-Some.s.now c.args.first) (within c.in-Some.t.now Strings) (makes_none c.args.atom (has (option_copied c.args.given) Booleans)) _ _ _ c.both_within.ensures c.gives_kind.ensures)

pub returns-in-None : goal.returns-in-None
returns-in-None c =
    found-not-two (λ (s : SemType) (t : SemType). within s c.args.first & within t Strings & makes_none c.args.atom (has (option_copied c.args.given) Booleans)) c.args.operands.now _ _ c.in-None.ensures c.refuse.ensures
