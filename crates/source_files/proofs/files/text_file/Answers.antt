use Rattle.std.proofs.Common.{Err, subst}
use Rattle.source_files.specs.Sources.{IsTreeReading}
use Rattle.source_files.proofs.Unread.{text-read, text-unread}
use Rattle.source_files.proofs.files.text_file.Goals as goal

pub returns-in-Err-Fault : goal.returns-in-Err-Fault
returns-in-Err-Fault c =
    let file = c.args.file in
    let text = c.args.text.now in
    let read = subst (λ stop. IsTreeReading file text (Err stop)) c.in-Err-Fault.field-0-is c.in-Err-Fault.ensures in
    text-unread file c.args.name.now text c.in-Err-Fault.fault c.refusal.result c.stop.result read c.refusal.ensures c.stop.ensures

pub returns-in_ok-tree_file-in-Ok : goal.returns-in_ok-tree_file-in-Ok
returns-in_ok-tree_file-in-Ok c =
    text-read c.args.file c.args.name.now c.args.text.now c.in-Ok.tree c.in_ok-tree_file-in-Ok.field-0 c.in-Ok.ensures c.in_ok-tree_file-in-Ok.ensures
