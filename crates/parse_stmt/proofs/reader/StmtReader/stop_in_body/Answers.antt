use Rattle.bal_tree.specs.Spells.{kinds_of}
use Rattle.parse_types.proofs.Holding.{leaves-missing, leaves-found}
use Rattle.parse_stmt.specs.Reaches.{body_front}
use Rattle.parse_stmt.proofs.KnownAll.{known}
use Rattle.parse_stmt.proofs.StopLaw.{no-front, of-answer}
use Rattle.parse_stmt.proofs.reader.StmtReader.stop_in_body.Goals as goal

pub returns-in_default : goal.returns-in_default
returns-in_default c =
    let missing = rw c.in_default.is at c.in_ok-_signature.ensures in
    no-front known c.args.self.file c.args.tokens.now (leaves-missing (body_front (kinds_of c.args.tokens.now)) c.body_front.result missing.0 missing.1 c.body_front.ensures.end)

pub returns : goal.returns
returns c =
    let behind = c.in-Some.inside in
    let signature = c.in-Some._signature in
    let ok = rw c.in-Some.is at c.in_ok-_signature.ensures in
    let found = leaves-found (body_front (kinds_of c.args.tokens.now)) c.body_front.result (signature, behind) ok c.body_front.ensures.end in
    let front = rw ok at c.body_front.ensures.reads in
    of-answer known c.args.self.file c.args.tokens.now behind.now signature front found c.last_stop.result c.last_stop.ensures
