use Rattle.std.proofs.Common.{◌==◌, Option, length}
use Rattle.std.specs.Option.{option_copied}
use Rattle.type_model.specs.declared.atoms.AtomDef.{AtomDef}
use Rattle.type_model.specs.declared.basic.SemType.{SemType}
use Rattle.code_needs.specs.Combining.{◌&◌, of_mapping, test}
use Rattle.code_needs.specs.RowNeeds.{awaits, has_all, held_by}
use Rattle.needs_of_rows.proofs.Finding.{found-as, found-then}
use Rattle.needs_of_places.specs.Sites.{known_at}
use Rattle.needs_of_places.proofs.waits.waits_all.Goals as goal

pub returns : goal.returns
returns c =
    let F = λ (o : Option AtomDef) (t : SemType). of_mapping o (λ fields rest. test (length c.args.names.now == length fields) & awaits (known_at c.args.site) (held_by fields) 0 c.args.names.now c.args.taken.operands.now) & has_all (option_copied c.args.taken.given) t in
    found-as _ _ _ _ (λ i. F (c.atom_at.ensures i) (c.requires.own i))
    (found-then (of_mapping (option_copied c.atom_at.result) (λ fields rest. test (length c.args.names.now == length fields) & awaits (known_at c.args.site) (held_by fields) 0 c.args.names.now c.args.taken.operands.now)) (has_all (option_copied c.args.taken.given) c.args.lent.own.now) _ _ _ c.mapping_held.ensures c.has_all.ensures)
