use Rattle.std.proofs.Common.{rules, ap, arith}
use Rattle.bal_base.specs.Levels.{levels}
use Rattle.witness.specs.Falls.{falls}
use Rattle.witness.proofs.+witness-drop.Goals as goal

pub witness++Witness+Destruct::drop-drop-requires : goal.witness++Witness+Destruct::drop-drop-requires
witness++Witness+Destruct::drop-drop-requires t c κs =
    (((omega (arith, falls c.drop.inside.node.value, ap levels c.drop.view_is, c.decreases), tt), tt), (λ a m. search (rules, m), λ a m. search (rules, m)))
