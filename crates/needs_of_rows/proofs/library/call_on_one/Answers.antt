use Rattle.type_model.specs.declared.basic.SemType.{SemType}
use Rattle.code_needs.specs.Combining.{◌&◌}
use Rattle.code_needs.specs.RowNeeds.{has, makes_none, within}
use Rattle.needs_of_rows.proofs.Finding.{found-at-one, found-not-one, found-then}
use Rattle.std.specs.Option.{option_copied}
use Rattle.needs_of_rows.proofs.library.call_on_one.Goals as goal

pub returns-in-Some : goal.returns-in-Some
returns-in-Some c =
    found-at-one (λ (a : SemType). within a c.args.kind & makes_none c.args.atom (has (option_copied c.args.given) c.args.wanted)) c.args.operands.now c.in-Some.a.now _ _ c.in-Some.ensures
    (found-then (within c.in-Some.a.now c.args.kind) (makes_none c.args.atom (has (option_copied c.args.given) c.args.wanted)) _ _ _ c.within.ensures c.gives_kind.ensures)

pub returns-in-None : goal.returns-in-None
returns-in-None c =
    found-not-one (λ (a : SemType). within a c.args.kind & makes_none c.args.atom (has (option_copied c.args.given) c.args.wanted)) c.args.operands.now _ _ c.in-None.ensures c.refuse.ensures
