use Rattle.type_model.specs.declared.basic.SemType.{SemType}
use Rattle.code_needs.specs.Combining.{need, of_some}
use Rattle.code_needs.specs.Needs.{HasBoth}
use Rattle.needs_of_rows.proofs.Finding.{found-at-one, found-not-one}
use Rattle.std.specs.Option.{option_copied}
use Rattle.needs_of_rows.proofs.kinds.casts.Goals as goal

pub returns-in-Some : goal.returns-in-Some
returns-in-Some c =
    found-at-one (λ (v : SemType). of_some (option_copied c.args.given) (λ r. need (HasBoth r v c.args.t.now))) c.args.operands.now c.in-Some.v.now _ _ c.in-Some.ensures
    (c.has_both.ensures)

pub returns-in-None : goal.returns-in-None
returns-in-None c =
    found-not-one (λ (v : SemType). of_some (option_copied c.args.given) (λ r. need (HasBoth r v c.args.t.now))) c.args.operands.now _ _ c.in-None.ensures c.refuse.ensures
