use Rattle.std.proofs.Common.{subst, rules, arith}
use Rattle.std.proofs.lemmas.List.{take_all}
use Rattle.plain_tests.specs.Shapes.{AreKeysOf}
use Rattle.plain_tests.proofs.KeyLists.{more-keys, none-keys}
use Rattle.plain_tests.proofs.keys.keys_of.Goals as goal

pub loop-e-init : goal.loop-e-init
loop-e-init c = none-keys c.new-keys.result.items (search rules)

pub loop-e-preserved : goal.loop-e-preserved
loop-e-preserved c =
    more-keys c.args.entries.now c.loop-e.e-index c.e-item.result c.loop-e.keys.items c.add_key.new.keys.items (omega arith) c.e-item.is c.loop-e.invariant c.in_ok-add_key.ensures.ordered c.in_ok-add_key.ensures.added

pub returns : goal.returns
returns c = subst (λ es. AreKeysOf es c.loop-e.keys.items) (take_all c.loop-e.e-index c.args.entries.now (omega arith)) c.loop-e.invariant
