use Rattle.std.proofs.Common.{◌≡◌, ◌∙◌, false, sym, true}
use Rattle.needs_of_rows.proofs.Paired.{none-taken}
use Rattle.needs_of_rows.proofs.structures.pairs_in.Goals as goal

pub returns-in-false : goal.returns-in-false
returns-in-false c = none-taken c.args.count c.args.operands.now (λ e. let bad : false ≡ true = sym c.in-false.is ∙ c.are_pairs.ensures.1 e in let bot : ⊥ = cc in bot)
