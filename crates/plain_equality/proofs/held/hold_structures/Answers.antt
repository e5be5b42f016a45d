use Rattle.std.proofs.Common.{◌≡◌, Contains, IsTrue, rules, subst}
use Rattle.plain_run.specs.Held.{heap_of}
use Rattle.plain_equality.proofs.Holding.{structures-there}
use Rattle.plain_equality.proofs.held.hold_structures.Goals as goal

pub returns-else-not-is_held : goal.returns-else-not-is_held
returns-else-not-is_held c =
    let alike : IsTrue c.look_alike.result = search rules in
    let held : IsTrue c.is_held.result = search rules in
    let same : c.as_slice.result.now ≡ c.args.held.now.items = search rules in
    structures-there (heap_of c.args.heap.now) c.args.n c.args.m c.args.held.now.items (c.look_alike.ensures.0 alike) (subst (λ l. Contains l (c.args.n, c.args.m)) same (c.is_held.ensures.0 held))
