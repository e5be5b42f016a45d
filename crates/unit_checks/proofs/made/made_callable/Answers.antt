use Rattle.std.proofs.Common.{◌∙◌, ap, option_copied, sym}
use Rattle.unit_checks.proofs.Valuing.{made-as, unmade}
use Rattle.unit_checks.proofs.made.made_callable.Goals as goal

pub returns-in-Some : goal.returns-in-Some
returns-in-Some c =
    made-as c.args.code.now c.args.place c.in-Some.instr.now c.are_callable.result (sym c.instr_at.ensures ∙ ap option_copied c.in-Some.is) (c.are_callable.ensures c.args.code.now c.requires)

pub returns-in-None : goal.returns-in-None
returns-in-None c = unmade c.args.code.now c.args.place _ (sym c.instr_at.ensures ∙ ap option_copied c.in-None.is)
