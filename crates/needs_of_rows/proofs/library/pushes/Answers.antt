use Rattle.std.proofs.Common.{List}
use Rattle.type_model.specs.declared.basic.SemType.{SemType}
use Rattle.std.specs.Option.{option_copied}
use Rattle.code_needs.specs.Combining.{◌&◌, each, need}
use Rattle.code_needs.specs.declared.kind.Kind.TheVariants.{Lists, Nils}
use Rattle.code_needs.specs.Needs.{PartHas}
use Rattle.code_needs.specs.RowNeeds.{has, makes_none, within}
use Rattle.needs_of_rows.proofs.Finding.{found-at-first, found-not-first, found-three}
use Rattle.needs_of_rows.proofs.library.pushes.Goals as goal

pub returns-in-Some : goal.returns-in-Some
returns-in-Some c =
    found-at-first (λ (l : SemType) (more : List SemType). within l Lists & each (λ v. need (PartHas l c.args.keys.now v)) more & makes_none c.args.atom (has (option_copied c.args.given) Nils)) c.args.operands.now c.in-Some.l.now c.in-Some.more.now _ _ c.in-Some.ensures
    (found-three (within c.in-Some.l.now Lists) (each (λ v. need (PartHas c.in-Some.l.now c.args.keys.now v)) c.in-Some.more.now) (makes_none c.args.atom (has (option_copied c.args.given) Nils)) _ _ _ _ c.within.ensures c.has_each.ensures c.gives_kind.ensures)

pub returns-in-None : goal.returns-in-None
returns-in-None c =
    found-not-first (λ (l : SemType) (more : List SemType). within l Lists & each (λ v. need (PartHas l c.args.keys.now v)) more & makes_none c.args.atom (has (option_copied c.args.given) Nils)) c.args.operands.now _ _ c.in-None.ensures c.refuse.ensures
