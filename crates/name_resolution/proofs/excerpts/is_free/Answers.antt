use Rattle.name_resolution.specs.Faults.{definitions_named}
use Rattle.name_resolution.proofs.ExcerptSteps.{whether}
use Rattle.name_resolution.proofs.excerpts.is_free.Goals as goal

pub returns : goal.returns
returns c = whether (definitions_named c.args.outlines.now c.args.home 0 c.args.front.now) c.definitions.result c.told.result c.definitions.ensures c.told.ensures
