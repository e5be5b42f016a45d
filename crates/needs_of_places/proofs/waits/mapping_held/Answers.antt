use Rattle.std.proofs.Common.{◌==◌, Option, length}
use Rattle.type_model.specs.declared.atoms.AtomDef.{AtomDef}
use Rattle.code_needs.specs.Combining.{◌&◌, of_mapping, test}
use Rattle.code_needs.specs.RowNeeds.{awaits, held_by}
use Rattle.needs_of_rows.proofs.Finding.{found-missing, found-there}
use Rattle.needs_of_places.specs.Sites.{known_at}
use Rattle.needs_of_places.proofs.waits.mapping_held.Goals as goal

pub returns-in-Some : goal.returns-in-Some
returns-in-Some c = found-there (λ (o : Option AtomDef). of_mapping o (λ fields rest. test (length c.args.names.now == length fields) & awaits (known_at c.args.site) (held_by fields) 0 c.args.names.now c.args.taken.operands.now)) c.args.def c.in-Some.def _ _ c.in-Some.is c.members_held.ensures

pub returns-in-None : goal.returns-in-None
returns-in-None c = found-missing (λ (o : Option AtomDef). of_mapping o (λ fields rest. test (length c.args.names.now == length fields) & awaits (known_at c.args.site) (held_by fields) 0 c.args.names.now c.args.taken.operands.now)) c.args.def _ _ c.in-None.is c.refuse.ensures
