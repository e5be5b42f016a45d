use Rattle.needs_of_rows.proofs.Finding.{found-as}
use Rattle.needs_of_commands.proofs.Commanded.{done, goes-so}
use Rattle.needs_of_commands.proofs.commands.instr_needs.Goals as goal

pub returns-in-Jump : goal.returns-in-Jump
returns-in-Jump c = goes-so c.args.site c.args.place c.args.instr.now _ _ _ c.in-Jump.is c.goes_on.ensures

pub returns-in-JumpIfNot : goal.returns-in-JumpIfNot
returns-in-JumpIfNot c = goes-so c.args.site c.args.place c.args.instr.now _ _ _ c.in-JumpIfNot.is c.goes_either.ensures

pub returns-in-Trap : goal.returns-in-Trap
returns-in-Trap c = goes-so c.args.site c.args.place c.args.instr.now _ _ _ c.in-Trap.is c.opens.ensures

pub returns-in-Untrap : goal.returns-in-Untrap
returns-in-Untrap c = goes-so c.args.site c.args.place c.args.instr.now _ _ _ c.in-Untrap.is c.goes_on-in-Untrap.ensures

pub returns-in_default : goal.returns-in_default
returns-in_default c =
    let d = c.in_default in
    found-as _ _ _ _ (done c.args.site c.args.place c.args.instr.now d.not-Jump d.not-JumpIfNot d.not-Trap d.not-Untrap) c.does.ensures
