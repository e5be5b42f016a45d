use Rattle.std.proofs.Common.{List}
use Rattle.type_model.specs.declared.basic.SemType.{SemType}
use Rattle.std.specs.Option.{option_copied}
use Rattle.code_needs.specs.Combining.{◌&◌, as_many, need, of_some}
use Rattle.code_needs.specs.declared.kind.Kind.TheVariants.{Functions}
use Rattle.code_needs.specs.Needs.{Applies, Gives}
use Rattle.code_needs.specs.RowNeeds.{within}
use Rattle.needs_of_rows.proofs.Finding.{found-at-first, found-not-first, found-three}
use Rattle.needs_of_rows.proofs.callees.calls_value.Goals as goal

pub returns-in-Some : goal.returns-in-Some
returns-in-Some c =
    found-at-first (λ (f : SemType) (more : List SemType). as_many more c.args.count & within f Functions & need (Applies f more) & of_some (option_copied c.args.given) (λ r. need (Gives f more r))) c.args.operands.now c.in-Some.f.now c.in-Some.more.now _ _ c.in-Some.ensures
    (found-three (as_many c.in-Some.more.now c.args.count) (within c.in-Some.f.now Functions) (need (Applies c.in-Some.f.now c.in-Some.more.now) & of_some (option_copied c.args.given) (λ r. need (Gives c.in-Some.f.now c.in-Some.more.now r))) _ _ _ _ c.as_many.ensures c.within.ensures c.gives.ensures)

pub returns-in-None : goal.returns-in-None
returns-in-None c =
    found-not-first (λ (f : SemType) (more : List SemType). as_many more c.args.count & within f Functions & need (Applies f more) & of_some (option_copied c.args.given) (λ r. need (Gives f more r))) c.args.operands.now _ _ c.in-None.ensures c.refuse.ensures
