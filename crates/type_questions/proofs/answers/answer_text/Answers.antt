use Rattle.text_forms.proofs.Adding.{adds-first}
use Rattle.type_questions.specs.Answers.{answer_text}
use Rattle.type_questions.proofs.answers.answer_text.Goals as goal

pub returns : goal.returns
returns c = adds-first c.new-out.result c.add_answer.new.out (answer_text c.args.answer.now) c.new-out.ensures.bytes c.in_ok-add_answer.ensures
