use Rattle.type_model.specs.declared.basic.SemType.{SemType}
use Rattle.code_needs.specs.Combining.{◌&◌}
use Rattle.code_needs.specs.RowNeeds.{has_all, makes_none, within}
use Rattle.code_needs.specs.declared.kind.Kind.TheVariants.{Anydata}
use Rattle.needs_of_rows.proofs.Finding.{found-at-one, found-not-one, found-then}
use Rattle.std.specs.Option.{option_copied}
use Rattle.needs_of_rows.proofs.library.copies.Goals as goal

pub returns-in-Some : goal.returns-in-Some
returns-in-Some c =
    found-at-one (λ (v : SemType). within v Anydata & makes_none c.args.atom (has_all (option_copied c.args.given) v)) c.args.operands.now c.in-Some.v.now _ _ c.in-Some.ensures
    (found-then (within c.in-Some.v.now Anydata) (makes_none c.args.atom (has_all (option_copied c.args.given) c.in-Some.v.now)) _ _ _ c.within.ensures c.gives_type.ensures)

pub returns-in-None : goal.returns-in-None
returns-in-None c =
    found-not-one (λ (v : SemType). within v Anydata & makes_none c.args.atom (has_all (option_copied c.args.given) v)) c.args.operands.now _ _ c.in-None.ensures c.refuse.ensures
