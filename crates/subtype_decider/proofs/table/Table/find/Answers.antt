use Rattle.std.proofs.Common.{◌≡◌, List, ℕ, Option, Some, Result, Ok, Err, OnOk, OnErr, false, true, subst, sym, ◌∙◌}
use Rattle.std.proofs.lemmas.Bool.{false≢true}
use Rattle.bal_base.specs.declared.shape.Shape.{Shape}
use Rattle.indexmap.specs.IndexSet.{replace_key}
use Rattle.std.specs.List.{list_any}
use Rattle.subtype_decider.specs.declared.table.Entry.{Entry}
use Rattle.subtype_decider.specs.Entries.{IsFound, Knows}
use Rattle.subtype_decider.proofs.EntryLists.{same, seen, distinct-AreApart, known-some, replace-IsFound}
use Rattle.subtype_decider.proofs.table.Table.find.Goals as goal

-- a key that is there is replaced
replaced : {A E : Type 0} (es ds : List Entry) (q : Entry) (r : Result A E) → list_any (same q) es ≡ true → OnOk r (ds ≡ replace_key same es q) → OnErr r (list_any (same q) es ≡ false) → ds ≡ replace_key same es q
replaced es ds q (Ok x) some ok err = ok
replaced es ds q (Err e) some ok err = absurd (false≢true (sym err ∙ some))

pub returns-clause-apart : goal.returns-clause-apart
returns-clause-apart c = distinct-AreApart c.replace-replaced.new.self.keys c.replace-replaced.ensures.unique

pub returns-clause-found : goal.returns-clause-found
returns-clause-found c =
    let old = c.self.inside.entries.keys in
    let new = c.replace-replaced.new.self.keys in
    let q : Entry = record { question = c.args.question; shape = Some c.args.shape } in
    let known = subst (λ (l : List (ℕ × Option Shape)). Knows l c.args.question) (sym c.self.view_is) c.requires in
    let keys = replaced old new q c.replace-replaced.result (known-some old q known) c.replace-replaced.ensures.keys c.replace-replaced.ensures.absent in
    subst (λ (l : List (ℕ × Option Shape)). IsFound l (seen new) c.args.question c.args.shape) c.self.view_is (replace-IsFound old new c.args.question c.args.shape known keys)
