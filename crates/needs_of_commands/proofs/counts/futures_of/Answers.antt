use Rattle.std.proofs.Common.{ℕ, [], ◌∷◌, Option, ap, sym}
use Rattle.code_needs.specs.Stacks.{futures_in}
use Rattle.needs_of_commands.proofs.counts.futures_of.Goals as goal

pub returns-in-Some-clause-count : goal.returns-in-Some-clause-count
returns-in-Some-clause-count c = sym (ap (λ (n : Option ℕ). futures_in (n ∷ [])) c.in-Some.is)

pub returns-in-None-clause-count : goal.returns-in-None-clause-count
returns-in-None-clause-count c = sym (ap (λ (n : Option ℕ). futures_in (n ∷ [])) c.in-None.is)
