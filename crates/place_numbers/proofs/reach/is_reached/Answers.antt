use Rattle.std.proofs.Common.{◌-◌, ◌∙◌, Contains, sym}
use Rattle.needs_of_commands.proofs.Descent.{descends}
use Rattle.place_numbers.proofs.Rowing.{has-chain, of-none, of-row}
use Rattle.place_numbers.proofs.reach.is_reached.Goals as goal

pub row_at-requires : goal.row_at-requires
row_at-requires c = c.requires.rowed.0

pub is_among-requires-clause-descends : goal.is_among-requires-clause-descends
is_among-requires-clause-descends c = let u = c.args.site.unit.now in descends u.first c.args.rows.now c.args.site.code.now (u.end - u.first) c.requires.rows

pub is_among-requires-clause-chain : goal.is_among-requires-clause-chain
is_among-requires-clause-chain c =
    has-chain c.args.site.code.now c.args.site.unit.now c.args.rows.now c.requires.rows c.args.place c.requires.rowed c.in-Some.innermost (sym c.row_at.ensures ∙ c.in-Some.is)

pub returns-in-Some : goal.returns-in-Some
returns-in-Some c =
    of-row c.args.site.code.now c.args.site.unit.now c.args.rows.now c.requires.rows c.args.place c.requires.rowed (λ ts. Contains ts c.args.trap) c.is_among.result c.in-Some.innermost (sym c.row_at.ensures ∙ c.in-Some.is) c.is_among.ensures

pub returns-in-None : goal.returns-in-None
returns-in-None c = of-none c.args.site.code.now c.args.site.unit.now c.args.rows.now c.requires.rows c.args.place c.requires.rowed (λ ts. Contains ts c.args.trap) (sym c.row_at.ensures ∙ c.in-None.is)
