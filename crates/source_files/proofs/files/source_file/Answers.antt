use Rattle.source_files.proofs.Unread.{bytes-unread}
use Rattle.source_files.proofs.files.source_file.Goals as goal

pub returns-in-Err : goal.returns-in-Err
returns-in-Err c =
    bytes-unread c.args.file c.args.name.now c.args.bytes.now c.in-Err.fault c.refusal.result c.stop.result c.in-Err.ensures.refused c.refusal.ensures c.stop.ensures
