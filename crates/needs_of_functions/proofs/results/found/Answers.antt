use Rattle.std.proofs.Common.{Err, subst}
use Rattle.check_kinds.specs.Over.{ComesOver}
use Rattle.needs_of_functions.specs.Results.{type_or_nil}
use Rattle.needs_of_functions.proofs.InTurn.{finds-fault, finds-type}
use Rattle.needs_of_functions.proofs.results.found.Goals as goal

pub returns-in-Ok-clause-finds : goal.returns-in-Ok-clause-finds
returns-in-Ok-clause-finds g c =
    finds-type c.args.names.now c.args.scope (g.T.Types.atoms c.args.types.now) (g.T.Types.atoms c.type_or_nil_of.new.types) c.args.tree.now _ c.in-Ok.ensures.comes

pub returns-in-Err-Fault-clause-finds : goal.returns-in-Err-Fault-clause-finds
returns-in-Err-Fault-clause-finds g c =
    let old = g.T.Types.atoms c.args.types.now in
    let new = g.T.Types.atoms c.type_or_nil_of.new.types in
    finds-fault c.args.names.now c.args.scope old new c.args.tree.now c.in-Err-Fault.fault
    (subst (λ s. ComesOver (type_or_nil c.args.names.now c.args.scope c.args.tree.now) old (Err s) new) c.in-Err-Fault.field-0-is c.in-Err-Fault.ensures.comes)
