use Rattle.code_needs.proofs.FieldsDecided.{fields-decided}
use Rattle.code_needs.proofs.laws.needs_decide_fields.Goals as goal

pub returns : goal.returns
returns c = fields-decided
