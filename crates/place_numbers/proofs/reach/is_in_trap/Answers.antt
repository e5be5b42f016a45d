use Rattle.std.proofs.Common.{◌≢◌, ◌∙◌, ◌↔◌, Bool, [], IsTrue, subst, sym}
use Rattle.place_numbers.proofs.Rowing.{chain-open, of-none, of-row}
use Rattle.place_numbers.proofs.reach.is_in_trap.Goals as goal

pub row_at-requires : goal.row_at-requires
row_at-requires c = c.requires.rowed.0

pub returns-in-Some : goal.returns-in-Some
returns-in-Some c =
    of-row c.args.site.code.now c.args.site.unit.now c.args.rows.now c.requires.rows c.args.place c.requires.rowed (λ ts. ts ≢ []) c.is_open.result c.in-Some.innermost (sym c.row_at.ensures ∙ c.in-Some.is)
    (λ ts h. subst (λ (b : Bool). IsTrue b ↔ (ts ≢ [])) (sym c.is_open.ensures) (chain-open c.args.site.unit.now.first c.args.rows.now c.in-Some.innermost ts h))

pub returns-in-None : goal.returns-in-None
returns-in-None c = of-none c.args.site.code.now c.args.site.unit.now c.args.rows.now c.requires.rows c.args.place c.requires.rowed (λ ts. ts ≢ []) (sym c.row_at.ensures ∙ c.in-None.is)
