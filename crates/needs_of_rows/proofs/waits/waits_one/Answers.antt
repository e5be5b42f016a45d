use Rattle.type_model.specs.declared.basic.SemType.{SemType}
use Rattle.code_needs.specs.Combining.{◌&◌, need, of_some}
use Rattle.code_needs.specs.declared.kind.Kind.TheVariants.{Errors, Futures}
use Rattle.code_needs.specs.Needs.{Has, PartIn}
use Rattle.code_needs.specs.RowNeeds.{within}
use Rattle.needs_of_rows.proofs.Finding.{found-at-one, found-not-one}
use Rattle.std.specs.Option.{option_copied}
use Rattle.needs_of_rows.proofs.waits.waits_one.Goals as goal

pub returns-in-Some : goal.returns-in-Some
returns-in-Some c =
    found-at-one (λ (f : SemType). within f Futures & of_some (option_copied c.args.given) (λ r. need (PartIn f c.args.keys.now r) & need (Has r Errors))) c.args.operands.now c.in-Some.f.now _ _ c.in-Some.ensures
    (c.waits_for.ensures)

pub returns-in-None : goal.returns-in-None
returns-in-None c =
    found-not-one (λ (f : SemType). within f Futures & of_some (option_copied c.args.given) (λ r. need (PartIn f c.args.keys.now r) & need (Has r Errors))) c.args.operands.now _ _ c.in-None.ensures c.refuse.ensures
