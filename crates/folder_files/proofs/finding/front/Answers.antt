use Rattle.folder_files.proofs.Opened.{front-of}
use Rattle.folder_files.proofs.finding.front.Goals as goal

pub returns-clause-front : goal.returns-clause-front
returns-clause-front g c = front-of (g.F.Folder.files c.args.folder.now) c.args.number c.in_ok-front.front.items c.in_ok-front.ensures.bytes
