use Rattle.std.proofs.Common.{subst}
use Rattle.subtype_decider.specs.Entries.{AreApart}
use Rattle.subtype_decider.proofs.EntryLists.{distinct-AreApart}
use Rattle.subtype_decider.proofs.table.Table.as_slice.Goals as goal

pub returns-clause-apart : goal.returns-clause-apart
returns-clause-apart c = subst AreApart c.self.view_is (distinct-AreApart c.self.inside.entries.keys c.as_slice.ensures.unique)
