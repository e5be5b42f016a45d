use Rattle.lower_expr.specs.Drafts.{making_of}
use Rattle.code_assembly.proofs.Agreeing.{agrees}
use Rattle.code_assembly.proofs.assembly.assemble.Goals as goal

pub returns-clause-made : goal.returns-clause-made
returns-clause-made c =
    agrees (making_of c.args.draft.now) c.args.laid.now _ c.in_ok-made.ensures.made _ c.joined.ensures.constants c.joined.ensures.tested c.joined.ensures.units c.joined.ensures.instrs
