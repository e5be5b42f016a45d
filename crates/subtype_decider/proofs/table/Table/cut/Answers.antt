use Rattle.std.proofs.Common.{List, ℕ, Option, take, ap, sym, ◌∙◌}
use Rattle.std.proofs.lemmas.List.{take-map}
use Rattle.bal_base.specs.declared.shape.Shape.{Shape}
use Rattle.subtype_decider.specs.Entries.{pair_of}
use Rattle.subtype_decider.proofs.EntryLists.{seen}
use Rattle.subtype_decider.proofs.table.Table.cut.Goals as goal

pub returns : goal.returns
returns c =
    ap seen c.truncate.ensures.keys ∙ sym (take-map pair_of c.args.len c.self.inside.entries.keys) ∙ ap (λ (l : List (ℕ × Option Shape)). take c.args.len l) c.self.view_is
