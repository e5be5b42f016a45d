use Rattle.std.proofs.Common.{◌≡◌, Ok, Err, rules}
use Rattle.type_questions.proofs.Asking.{both-asked, left-stops, right-stops}
use Rattle.type_questions.proofs.ask.Goals as goal

pub returns-in_err-left : goal.returns-in_err-left
returns-in_err-left g c =
    let stop = c.in_err-left.field-0.0 in
    let came : c.word_type.result ≡ Err stop = search rules in
    let passed : c.from_residual.result ≡ Err stop = search rules in
    record {
      comes = left-stops g.T.Types.passes c.args.names.now c.args.home c.args.first c.args.s.now c.args.t.now _ _ c.word_type.result c.from_residual.result stop came passed c.word_type.ensures.comes;
    }

pub returns-in_err-right : goal.returns-in_err-right
returns-in_err-right g c =
    let stop = c.in_err-right.field-0.0 in
    let left : c.word_type.result ≡ Ok c.in_ok-left.left = search rules in
    let came : c.word_type-2.result ≡ Err stop = search rules in
    let passed : c.from_residual-in_err-right.result ≡ Err stop = search rules in
    record {
      comes = right-stops g.T.Types.passes c.args.names.now c.args.home c.args.first c.args.s.now c.args.t.now _ _ c.in_ok-left.left c.word_type.result left c.word_type.ensures.comes _ c.word_type-2.result c.from_residual-in_err-right.result stop came passed c.word_type-2.ensures.comes;
    }

pub returns : goal.returns
returns g c =
    let left : c.word_type.result ≡ Ok c.in_ok-left.left = search rules in
    let right : c.word_type-2.result ≡ Ok c.in_ok-right.right = search rules in
    record {
      comes = both-asked g.T.Types.passes c.args.names.now c.args.home c.args.first c.args.s.now c.args.t.now _ _ c.in_ok-left.left c.word_type.result left c.word_type.ensures.comes _ c.word_type-2.result c.in_ok-right.right c.answer.result _ right c.word_type-2.ensures.comes c.answer.ensures.comes;
    }
