use Rattle.std.proofs.Common.{◌≤◌, ◌-◌, ◌∙◌, ◌↔◌, ℕ, All, IsTrue, length, subst, sym}
use Rattle.stack_code.specs.Places.{stack_at}
use Rattle.needs_of_commands.proofs.Descent.{descends}
use Rattle.place_numbers.proofs.Rowing.{has-chain, of-none, of-row}
use Rattle.place_numbers.proofs.reach.keeps_below.Goals as goal

pub row_at-requires : goal.row_at-requires
row_at-requires c = c.requires.rowed.0

pub keep_at_most-requires-clause-descends : goal.keep_at_most-requires-clause-descends
keep_at_most-requires-clause-descends c = let u = c.args.site.unit.now in descends u.first c.args.rows.now c.args.site.code.now (u.end - u.first) c.requires.rows

pub keep_at_most-requires-clause-chain : goal.keep_at_most-requires-clause-chain
keep_at_most-requires-clause-chain c =
    has-chain c.args.site.code.now c.args.site.unit.now c.args.rows.now c.requires.rows c.args.place c.requires.rowed c.in-Some.innermost (sym c.row_at.ensures ∙ c.in-Some.is)

pub returns-in-Some : goal.returns-in-Some
returns-in-Some c = λ rest e.
    of-row c.args.site.code.now c.args.site.unit.now c.args.rows.now c.requires.rows c.args.place c.requires.rowed (λ ts. All (λ t. length (stack_at c.args.site.code.now t) ≤ length rest) ts) c.keep_at_most.result
    c.in-Some.innermost (sym c.row_at.ensures ∙ c.in-Some.is)
    (λ ts h. subst (λ (n : ℕ). IsTrue c.keep_at_most.result ↔ All (λ t. length (stack_at c.args.site.code.now t) ≤ n) ts) (sym e) (c.keep_at_most.ensures ts h))

pub returns-in-None : goal.returns-in-None
returns-in-None c = λ rest e.
    of-none c.args.site.code.now c.args.site.unit.now c.args.rows.now c.requires.rows c.args.place c.requires.rowed (λ ts. All (λ t. length (stack_at c.args.site.code.now t) ≤ length rest) ts) (sym c.row_at.ensures ∙ c.in-None.is)
