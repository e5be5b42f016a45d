use Rattle.std.proofs.Common.{◌++◌, ◌∷◌, [], Option, ℕ, List, ap, sym, subst, ◌∙◌}
use Rattle.std.proofs.lemmas.List.{map_push}
use Rattle.bal_base.specs.declared.shape.Shape.{Shape}
use Rattle.type_diagrams.specs.Kept.{IsUnknown}
use Rattle.type_diagrams.proofs.Interning.{inserted}
use Rattle.subtype_decider.specs.declared.table.Entry.{Entry}
use Rattle.subtype_decider.specs.Entries.{pair_of}
use Rattle.subtype_decider.proofs.EntryLists.{same, seen, unknown-none}
use Rattle.subtype_decider.proofs.table.Table.add.Goals as goal

pub returns-clause-added : goal.returns-clause-added
returns-clause-added c =
    let old = c.self.inside.entries.keys in
    let e : Entry = record { question = c.args.question; shape = c.args.shape } in
    let none = unknown-none old e (subst (λ (l : List (ℕ × Option Shape)). IsUnknown l c.args.question) (sym c.self.view_is) c.requires) in
    ap seen (c.in_ok-insert.ensures.keys ∙ inserted same old e none) ∙ map_push pair_of old e ∙ ap (λ (l : List (ℕ × Option Shape)). l ++ (c.args.question, c.args.shape) ∷ []) c.self.view_is
