use Rattle.std.proofs.Common.{◌∙◌, ap, sym}
use Rattle.std.specs.Option.{option_copied}
use Rattle.typed_tree.specs.SharedTypes.{sem_of}
use Rattle.worker_members.proofs.Strict.{last-none, last-there}
use Rattle.worker_members.proofs.exprs.sent_type.Goals as goal

pub returns-in-Some : goal.returns-in-Some
returns-in-Some c =
    ap sem_of c.ty.ensures ∙ last-there c.args.operands.now c.in-Some.e.now (sym (ap option_copied c.in-Some.is) ∙ c.last.ensures.value)

pub returns-in-None : goal.returns-in-None
returns-in-None c = last-none c.args.operands.now (sym (ap option_copied c.in-None.is) ∙ c.last.ensures.value)
