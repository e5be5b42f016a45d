use Rattle.std.proofs.Common.{◌≡◌, length, ap, rules}
use Rattle.plain_run.specs.Held.{members_of, structure_of, world_of}
use Rattle.plain_run.proofs.Given.{if-ok}
use Rattle.plain_stores.proofs.Fitted.{list-prepared}
use Rattle.plain_stores.proofs.making.prepares_list.Goals as goal

pub returns-in-Items : goal.returns-in-Items
returns-in-Items c =
    let size : c.len.result ≡ length c.in-Items.items.items = search rules in
    if-ok _ _ c.makes.result (λ p h. list-prepared c.args.facts.now (world_of c.args.world.now) (structure_of c.args.s.now) c.in-Items.items.items c.len.result c.args.place p (ap members_of c.in-Items.is) size h) c.makes.ensures
