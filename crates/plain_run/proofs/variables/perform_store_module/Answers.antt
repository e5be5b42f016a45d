use Rattle.operations.specs.declared.operation.Operation.TheVariants as operation
use Rattle.plain_run.proofs.Operands.{on-one}
use Rattle.plain_run.specs.Effects.{IsPerformed}
use Rattle.plain_run.proofs.variables.perform_store_module.Goals as goal

pub returns-in-len1-clause-row : goal.returns-in-len1-clause-row
returns-in-len1-clause-row c = λ caller is.
    on-one (λ vs. IsPerformed c.args.facts.now (operation.StoreModule c.args.variable) vs caller c.args.common.now c.store_variable.new.common ⊥ c.store_variable.result) c.args.operands.now c.v-item.result c.in-len1.len_at_least c.in-len1.len_below c.v-item.is
    (c.store_variable.ensures.row caller is)
