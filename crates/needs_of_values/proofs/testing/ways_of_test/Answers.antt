use Rattle.std.proofs.Common.{None, Ok, subst, sym}
use Rattle.std.specs.Option.{option_copied}
use Rattle.check_words.specs.Values.{ways_of_test}
use Rattle.check_work.specs.Views.{flow_of}
use Rattle.needs_of_values.specs.Tested.{ComesToWays}
use Rattle.needs_of_values.proofs.Tested.{name-tested, nothing-tested}
use Rattle.needs_of_values.proofs.testing.ways_of_test.Goals as goal

pub returns-in-Some-clause-comes : goal.returns-in-Some-clause-comes
returns-in-Some-clause-comes g c = λ s e here.
    subst (λ q. ComesToWays (ways_of_test g.T.Types.passes (option_copied q) c.args.t.now c.args.at) s c.ways_of_name.result) (sym c.in-Some.is)
    (name-tested g.T.Types.passes c.args.at c.in-Some.name.now c.args.t.now s (flow_of c.args.here.now) here _ (c.ways_of_name.ensures.comes s e here))

pub returns-in-None-clause-comes : goal.returns-in-None-clause-comes
returns-in-None-clause-comes g c = λ s e here.
    subst (λ q. ComesToWays (ways_of_test g.T.Types.passes (option_copied q) c.args.t.now c.args.at) s (Ok None)) (sym c.in-None.is) (nothing-tested g.T.Types.passes c.args.at c.args.t.now s)
