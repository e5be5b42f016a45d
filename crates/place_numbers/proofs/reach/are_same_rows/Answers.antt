use Rattle.std.proofs.Common.{◌≡◌, ◌↔◌, ℕ, Option, IsTrue, subst, sym}
use Rattle.place_numbers.proofs.reach.are_same_rows.Goals as goal

pub returns-in-Some : goal.returns-in-Some
returns-in-Some c = subst (λ (a : Option (Option ℕ)). IsTrue c.is_row.result ↔ (a ≡ c.args.other)) (sym c.in-Some.is) c.is_row.ensures

pub returns-in-None : goal.returns-in-None
returns-in-None c = subst (λ (a : Option (Option ℕ)). IsTrue c.is_no_row.result ↔ (a ≡ c.args.other)) (sym c.in-None.is) c.is_no_row.ensures
