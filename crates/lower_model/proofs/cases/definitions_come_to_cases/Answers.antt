use Rattle.lower_model.proofs.Trapping.{own-reach, trap-made, trap-stands}
use Rattle.lower_model.proofs.cases.definitions_come_to_cases.Goals as goal

pub returns-clause-trap_is_made : goal.returns-clause-trap_is_made
returns-clause-trap_is_made g seven = trap-made seven

pub returns-clause-trap_stands : goal.returns-clause-trap_stands
returns-clause-trap_stands g seven = trap-stands seven

pub returns-clause-own_reach : goal.returns-clause-own_reach
returns-clause-own_reach g seven = own-reach seven
