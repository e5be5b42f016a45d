use Rattle.std.proofs.Common.{◌≡◌, ◌↔◌, ◌-◌, ℕ, Option, IsTrue, slice_get, subst}
use Rattle.place_numbers.proofs.Rowing.{by-rows}
use Rattle.place_numbers.proofs.reach.in_same_traps.Goals as goal

pub row_at-row-requires : goal.row_at-row-requires
row_at-row-requires c = c.requires.other.0

pub row_at-requires : goal.row_at-requires
row_at-requires c = c.requires.rowed.0

pub returns : goal.returns
returns c =
    by-rows c.args.site.code.now c.args.site.unit.now c.args.rows.now c.requires.rows c.args.place c.args.other c.requires.rowed c.requires.other c.are_same_rows.result
    (subst (λ (a : Option (Option ℕ)). IsTrue c.are_same_rows.result ↔ (a ≡ slice_get c.args.rows.now (c.args.place - c.args.site.unit.now.first))) c.row_at-row.ensures
    (subst (λ (a : Option (Option ℕ)). IsTrue c.are_same_rows.result ↔ (c.row_at-row.result ≡ a)) c.row_at.ensures c.are_same_rows.ensures))
