use Rattle.std.proofs.Common.{rules}
use Rattle.descriptors.proofs.Drafting.{drafts-ran_out}
use Rattle.descriptors.proofs.FieldNames.{field-given, field-refused}
use Rattle.descriptors.proofs.lists.named_field.Goals as goal

pub returns-then-added-clause-field : goal.returns-then-added-clause-field
returns-then-added-clause-field c = λ draft. field-given c.args.taken.now.keys c.args.name.now c.args.optional c.args.ty draft _ (search rules) (search rules)

pub returns-else-added-clause-field : goal.returns-else-added-clause-field
returns-else-added-clause-field c = λ draft. field-refused c.args.taken.now.keys c.args.name.now c.args.optional c.args.ty draft _ (search rules) (search rules)

pub returns-in-Err-clause-field : goal.returns-in-Err-clause-field
returns-in-Err-clause-field c = λ draft. drafts-ran_out _ _ _ _
