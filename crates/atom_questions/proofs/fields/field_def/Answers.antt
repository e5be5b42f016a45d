use Rattle.atom_questions.proofs.FieldAtoms.{field-made}
use Rattle.atom_questions.proofs.fields.field_def.Goals as goal

pub returns : goal.returns
returns c = field-made c.args.name.now c.in_ok-rest.rest c.in_ok-ty.ty c.in_ok-fields.fields c.in_ok-rest.ensures c.in_ok-ty.ensures c.in_ok-fields.ensures
