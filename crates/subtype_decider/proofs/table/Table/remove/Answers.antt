use Rattle.std.proofs.Common.{List, ℕ, Option, None, subst}
use Rattle.bal_base.specs.declared.shape.Shape.{Shape}
use Rattle.subtype_decider.specs.Entries.{IsWithout}
use Rattle.subtype_decider.proofs.EntryLists.{seen, distinct-AreApart, removed-IsWithout}
use Rattle.subtype_decider.proofs.table.Table.remove.Goals as goal

pub returns-clause-apart : goal.returns-clause-apart
returns-clause-apart c = distinct-AreApart c.swap_remove.new.self.keys c.swap_remove.ensures.unique

pub returns-clause-without : goal.returns-clause-without
returns-clause-without c =
    subst (λ (l : List (ℕ × Option Shape)). IsWithout l (seen c.swap_remove.new.self.keys) c.args.question) c.self.view_is
    (removed-IsWithout c.self.inside.entries.keys c.swap_remove.new.self.keys (record { question = c.args.question; shape = None }) c.swap_remove.ensures.updates.1 c.swap_remove.ensures.keys)
