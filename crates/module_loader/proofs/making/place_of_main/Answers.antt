use Rattle.std.proofs.Common.{arith, sym}
use Rattle.module_loader.proofs.Putting.{default-at, default-none, few-modules}
use Rattle.module_loader.proofs.making.place_of_main.Goals as goal

pub overflow_cast-result : goal.overflow_cast-result
overflow_cast-result c =
    let order = c.args.order.now in
    let few = few-modules order c.requires in
    let at = (default-at order c.in-Some.place (sym c.in-Some.ensures)).0 in
    omega arith

pub returns-in-Some : goal.returns-in-Some
returns-in-Some c = (default-at c.args.order.now c.in-Some.place (sym c.in-Some.ensures)).1

pub returns-in-None : goal.returns-in-None
returns-in-None c = absurd (default-none c.args.order.now c.requires (sym c.in-None.ensures))
