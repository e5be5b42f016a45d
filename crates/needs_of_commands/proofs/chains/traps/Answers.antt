use Rattle.std.proofs.Common.{◌≤◌, ◌-◌, ◌∙◌, arith, sym}
use Rattle.needs_of_places.specs.Sites.{station_of}
use Rattle.needs_of_commands.proofs.Descent.{descends, has-chain, trapped, untrapped}
use Rattle.needs_of_commands.proofs.chains.traps.Goals as goal

pub chain-requires-clause-descends : goal.chain-requires-clause-descends
chain-requires-clause-descends c = descends c.args.site.unit.now.first c.args.rows.now c.args.site.code.now (c.args.site.unit.now.end - c.args.site.unit.now.first) c.requires.rows

pub chain-requires-clause-chain : goal.chain-requires-clause-chain
chain-requires-clause-chain c =
    has-chain c.args.site.code.now c.args.site.unit.now (station_of c.args.site) c.args.place c.args.rows.now (c.args.site.unit.now.end - c.args.site.unit.now.first) c.in-Some.innermost c.requires.rows (sym c.row_at.ensures ∙ c.in-Some.is)

pub returns-in-Some : goal.returns-in-Some
returns-in-Some c =
    trapped c.args.site.code.now c.args.site.unit.now (station_of c.args.site) c.args.place c.args.rows.now (c.args.site.unit.now.end - c.args.site.unit.now.first) c.in-Some.innermost _ _ c.requires.rows (sym c.row_at.ensures ∙ c.in-Some.is) c.chain.ensures

pub returns-in-None : goal.returns-in-None
returns-in-None c =
    let u = c.args.site.unit.now in
    let inside : c.args.place - u.first ≤ u.end - u.first = omega (arith, c.requires.from, c.requires.to) in
    untrapped c.args.site.code.now u (station_of c.args.site) c.args.place c.args.rows.now (u.end - u.first) _ _ inside c.requires.rows (sym c.row_at.ensures ∙ c.in-None.is) c.refuse.ensures
