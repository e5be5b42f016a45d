use Rattle.std.proofs.Common.{◌∙◌, ap, sym, ◌&&◌, ◌==◌, cond, Some, rules}
use Rattle.type_model.specs.Places.{is_same_text}
use Rattle.name_resolution.specs.Tables.{number_in}
use Rattle.name_resolution.proofs.Numbers.{is_absent, noted}
use Rattle.name_resolution.proofs.table.NameTable.note.Goals as goal

pub returns-in_ok-insert : goal.returns-in_ok-insert
returns-in_ok-insert c =
    let d = c.args.d.now in
    let old = c.args.self.now.numbers in
    noted d c.args.number (number_in old) (number_in c.insert.new.self) (sym c.number.ensures ∙ is_absent c.number.result (search rules))
    (λ m name. c.in_ok-insert.ensures.updates.0 (record { «module» = m; name = name })
    ∙ ap (λ n. cond ((d.«module» == m) && is_same_text n name) (Some c.args.number) (number_in old m name)) c.share.ensures)
