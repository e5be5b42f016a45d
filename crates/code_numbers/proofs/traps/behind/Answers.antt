use Rattle.std.proofs.Common.{Some, subst, sym}
use Rattle.stack_code.specs.declared.instr.Instr.{Instr}
use Rattle.code_numbers.specs.inner.Behind.{TellsBehind, trap_step}
use Rattle.code_numbers.proofs.Chains.{opened}
use Rattle.code_numbers.proofs.Commanded.{plain}
use Rattle.code_numbers.proofs.traps.behind.Goals as goal

pub returns-in-Trap : goal.returns-in-Trap
returns-in-Trap c = λ ts chain.
    subst (λ (i : Instr). TellsBehind c.args.first c.args.rows.now (trap_step c.args.place i ts) (Some (Some c.args.place))) (sym c.in-Trap.is)
    (opened c.args.first c.args.rows.now c.args.place c.args.innermost ts c.requires.from c.requires.own chain)

pub returns-in-Untrap : goal.returns-in-Untrap
returns-in-Untrap c = λ ts chain. subst (λ (i : Instr). TellsBehind c.args.first c.args.rows.now (trap_step c.args.place i ts) c.outside.result) (sym c.in-Untrap.is) (c.outside.ensures ts chain)

pub returns-in_default : goal.returns-in_default
returns-in_default c = λ ts chain. (ts, plain c.args.place ts c.args.instr.now c.in_default.not-Trap c.in_default.not-Untrap, chain)
