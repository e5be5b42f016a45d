use Rattle.stack_code.specs.Commands.{command_of}
use Rattle.needs_of_commands.proofs.Parts.{does-so, lent-for}
use Rattle.needs_of_commands.proofs.does.does.Goals as goal

pub row-requires : goal.row-requires
row-requires c = lent-for c.args.site.code.now c.args.instr.now _ _ _ c.args.lent c.requires.lent c.requires.here c.operands_at.ensures

pub returns : goal.returns
returns c =
    does-so c.args.site c.args.place (command_of c.args.site.code.now c.args.instr.now) _ _ _ _ _ _ _ _ c.operands_at.ensures c.result_at.ensures (c.ends.ensures c.args.site.code.now) c.row.ensures c.stays.ensures
