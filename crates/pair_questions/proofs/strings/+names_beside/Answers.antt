use Rattle.std.proofs.Common.{ap}
use Rattle.pair_questions.specs.inner.Strings.{IsTextBeside, texts_of}
use Rattle.pair_questions.proofs.Beside.{where-second}
use Rattle.pair_questions.proofs.strings.+names_beside.Goals as goal

pub returns-else-names_beside : goal.returns-else-names_beside
returns-else-names_beside t c =
    where-second (IsTextBeside c.args.key.now c.args.fields.now) c.args.part.now c.in-Or.s.value c.in-Or.t.value c.deref.result.now c.deref-else-names_beside.result.now (ap texts_of c.in-Or.is)
    c.deref.ensures c.deref-else-names_beside.ensures c.names_beside.result c.names_beside-else-names_beside.result c.if-names_beside.false c.names_beside.ensures c.names_beside-else-names_beside.ensures

pub returns-else-names_beside-2 : goal.returns-else-names_beside-2
returns-else-names_beside-2 t c =
    where-second (IsTextBeside c.args.key.now c.args.fields.now) c.args.part.now c.in-And.s.value c.in-And.t.value c.deref-in-And.result.now c.deref-else-names_beside-2.result.now (ap texts_of c.in-And.is)
    c.deref-in-And.ensures c.deref-else-names_beside-2.ensures c.names_beside-in-And.result c.names_beside-else-names_beside-2.result c.if-names_beside-2.false c.names_beside-in-And.ensures c.names_beside-else-names_beside-2.ensures
