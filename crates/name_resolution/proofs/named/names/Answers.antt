use Rattle.std.proofs.Common.{◌∙◌, sym}
use Rattle.name_resolution.specs.Faults.{definition_fault}
use Rattle.name_resolution.proofs.Naming.{unless-none, unless-some}
use Rattle.name_resolution.proofs.named.names.Goals as goal

pub returns-in-None : goal.returns-in-None
returns-in-None c env = unless-none (definition_fault c.args.outlines.now c.args.home c.args.number c.args.d.now) env (sym c.definition_fault.ensures ∙ c.in-None.is)

pub returns-in-Some : goal.returns-in-Some
returns-in-Some c env = unless-some (definition_fault c.args.outlines.now c.args.home c.args.number c.args.d.now) c.in-Some.fault env (sym c.definition_fault.ensures ∙ c.in-Some.is)
