use Rattle.std.proofs.Common.{length}
use Rattle.descriptors.specs.Described.{IsPlain}
use Rattle.operations.specs.Structures.{IsMade}
use Rattle.check_work.specs.Views.{state_of}
use Rattle.needs_of_structures.proofs.Made.{so-then-on}
use Rattle.needs_of_structures.proofs.making.make_structure.Goals as goal

pub returns-clause-stands : goal.returns-clause-stands
returns-clause-stands c = λ env there h. c.make_strict.ensures.stands env (c.in_ok-ty.ensures.defined (length env) there) h

pub returns-clause-comes : goal.returns-clause-comes
returns-clause-comes c = λ env.
    so-then-on c.args.count c.args.form c.in_ok-ty.ty c.args.at (λ e. IsPlain (IsMade e c.args.of.atom c.args.of.immutable) e) (state_of env c.args.work.now) _ c.make_strict.result
    (c.in_ok-ty.ensures.is env) (c.make_strict.ensures.comes env)
