use Rattle.std.proofs.Common.{◌≡◌, List, ℕ, Option, Some, None, find, Bor, subst, sym}
use Rattle.std.specs.Option.{option_map, option_copied}
use Rattle.bal_base.specs.declared.shape.Shape.{Shape}
use Rattle.type_diagrams.specs.Kept.{Tells}
use Rattle.subtype_decider.specs.declared.table.Entry.{Entry}
use Rattle.subtype_decider.proofs.EntryLists.{same, seen, find-Tells}
use Rattle.subtype_decider.proofs.table.TableMember.seen.Goals as goal

-- what is told, where an entry is found or none is
told : (es : List Entry) (kept : List (ℕ × Option Shape)) (question : ℕ) (r : Option Entry) → seen es ≡ kept → r ≡ find (same (record { question = question; shape = None })) es → Tells kept question (option_map (λ e. e.shape) r)
told es kept question r view e =
    let q : Entry = record { question = question; shape = None } in
    subst (λ l. Tells l question (option_map (λ e. e.shape) r)) view (subst (λ s. Tells (seen es) question (option_map (λ e. e.shape) s)) (sym e) (find-Tells es q))

pub returns-in_err-entry : goal.returns-in_err-entry
returns-in_err-entry c =
    let t = told c.self.inside.entries.keys c.args.self.now c.args.question None c.self.view_is c.in_err-entry.ensures.key in
    subst (λ (o : Option (Option (Bor Shape))). Tells c.args.self.now c.args.question (option_map (option_copied {T = Shape}) o)) (sym c.from_residual.ensures) t

pub returns : goal.returns
returns c =
    let t = told c.self.inside.entries.keys c.args.self.now c.args.question (Some c.in_ok-entry.entry.now) c.self.view_is c.in_ok-entry.ensures.key in
    subst (λ (o : Option Shape). Tells c.args.self.now c.args.question (Some o)) (sym c.as_ref.ensures.value) t
