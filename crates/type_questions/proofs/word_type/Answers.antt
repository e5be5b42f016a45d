use Rattle.std.proofs.Common.{◌≡◌, None, Ok, Err, rules, subst}
use Rattle.checks.specs.Checks.{Comes}
use Rattle.checks.proofs.Steps.{goes_on, stops}
use Rattle.descriptors.specs.Described.{described_whole}
use Rattle.descriptors.specs.Descriptors.{descriptor_of}
use Rattle.descriptors.specs.Steps.{scope_of}
use Rattle.type_questions.specs.Words.{type_of_word}
use Rattle.type_questions.proofs.Asking.{word-comes}
use Rattle.type_questions.proofs.word_type.Goals as goal

pub returns-in-Ok-clause-comes : goal.returns-in-Ok-clause-comes
returns-in-Ok-clause-comes g c =
    let file = c.args.file in
    let text = c.args.text.now in
    let old = g.T.Types.atoms c.args.types.now in
    let came : c.word_tree.result ≡ Ok c.in-Ok.tree = search rules in
    goes_on (type_of_word file text) (λ tree. described_whole c.args.names.now (scope_of c.args.home None) (descriptor_of tree)) old old _ c.in-Ok.tree c.describe.result
    (subst (λ r. Comes (type_of_word file text) old r old) came (word-comes file text old c.word_tree.result c.word_tree.ensures)) c.describe.ensures.comes

pub returns-in-Err-clause-comes : goal.returns-in-Err-clause-comes
returns-in-Err-clause-comes g c =
    let file = c.args.file in
    let text = c.args.text.now in
    let old = g.T.Types.atoms c.args.types.now in
    let came : c.word_tree.result ≡ Err c.in-Err.stop = search rules in
    stops (type_of_word file text) (λ tree. described_whole c.args.names.now (scope_of c.args.home None) (descriptor_of tree)) old old c.in-Err.stop
    (subst (λ r. Comes (type_of_word file text) old r old) came (word-comes file text old c.word_tree.result c.word_tree.ensures))
