use Rattle.code_verifier.specs.declared.sets.Sets.TheVariants as sets
use Rattle.code_verifier.proofs.KindShapes.{so-written}
use Rattle.code_verifier.proofs.kind_types.written.Goals as goal

pub returns-in-Either : goal.returns-in-Either
returns-in-Either c = so-written (sets.Either c.in-Either.first c.in-Either.second) c.args.sets c.with_set.result c.in-Either.is c.with_set.ensures

pub returns-in-Both : goal.returns-in-Both
returns-in-Both c = so-written (sets.Both c.in-Both.first c.in-Both.second) c.args.sets c.in_set.result c.in-Both.is c.in_set.ensures

pub returns-in-Frozen : goal.returns-in-Frozen
returns-in-Frozen c = so-written sets.Frozen c.args.sets c.frozen.result c.in-Frozen.is c.frozen.ensures
