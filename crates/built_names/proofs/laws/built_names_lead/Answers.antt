use Rattle.built_names.proofs.Leading.{built-names-lead}
use Rattle.built_names.proofs.laws.built_names_lead.Goals as goal

pub returns : goal.returns
returns c = built-names-lead
