use Rattle.std.proofs.Common.{◌≡◌, ◌↔◌, ◌∙◌, ℕ, Option, Some, false, IsTrue, subst, sym}
use Rattle.std.proofs.lemmas.Bool.{false≢true}
use Rattle.place_numbers.proofs.Counted.{by-there, not-absent}
use Rattle.place_numbers.proofs.reach.is_row.Goals as goal

pub returns-in-Some : goal.returns-in-Some
returns-in-Some c =
    subst (λ (b : Option (Option ℕ)). IsTrue c.is_same_row.result ↔ (Some c.args.row ≡ b)) (sym c.in-Some.is) (by-there c.args.row c.in-Some.other c.is_same_row.result c.is_same_row.ensures)

pub returns-in-None : goal.returns-in-None
returns-in-None c = ((λ t. absurd (false≢true t)), (λ e. not-absent c.args.row (e ∙ c.in-None.is)))
