use Rattle.detail_questions.proofs.Named.{with-new}
use Rattle.detail_questions.proofs.names.put_text.Goals as goal

pub returns : goal.returns
returns c =
    with-new c.args.texts.now.items c.as_slice.result.now c.push.new.self.items c.args.text.now c.share.result c.is_among.result c.as_slice.ensures.value c.is_among.ensures c.if-is_among.false c.in_ok-push.ensures.items c.share.ensures
