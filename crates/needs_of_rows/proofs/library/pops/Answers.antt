use Rattle.type_model.specs.declared.basic.SemType.{SemType}
use Rattle.code_needs.specs.Combining.{◌&◌, need, of_some}
use Rattle.code_needs.specs.Needs.{PartIn}
use Rattle.code_needs.specs.RowNeeds.{makes_none, within}
use Rattle.code_needs.specs.declared.kind.Kind.TheVariants.{Lists}
use Rattle.needs_of_rows.proofs.Finding.{found-at-one, found-not-one, found-then}
use Rattle.std.specs.Option.{option_copied}
use Rattle.needs_of_rows.proofs.library.pops.Goals as goal

pub returns-in-Some : goal.returns-in-Some
returns-in-Some c =
    found-at-one (λ (l : SemType). within l Lists & makes_none c.args.atom (of_some (option_copied c.args.given) (λ r. need (PartIn l c.args.keys.now r)))) c.args.operands.now c.in-Some.l.now _ _ c.in-Some.ensures
    (found-then (within c.in-Some.l.now Lists) (makes_none c.args.atom (of_some (option_copied c.args.given) (λ r. need (PartIn c.in-Some.l.now c.args.keys.now r)))) _ _ _ c.within.ensures c.gives_part.ensures)

pub returns-in-None : goal.returns-in-None
returns-in-None c =
    found-not-one (λ (l : SemType). within l Lists & makes_none c.args.atom (of_some (option_copied c.args.given) (λ r. need (PartIn l c.args.keys.now r)))) c.args.operands.now _ _ c.in-None.ensures c.refuse.ensures
