use Rattle.std.proofs.Common.{sym, ◌∙◌}
use Rattle.parse_stmt.proofs.FileAnswers.{result-chosen, result-complete, result-exact, result-one, result-refused}
use Rattle.parse_stmt.proofs.KnownAll.{known}
use Rattle.parse_stmt.proofs.parse_file.Goals as goal

pub returns-clause-refused : goal.returns-clause-refused
returns-clause-refused c =
    let made = c.in_ok-tree.ensures in
    result-refused known c.args.file c.args.tokens.now c.in_ok-tree.rest.now c.in_ok-tree.tree made.formed made.spells made.no_def made.no_import c.whole.result (sym c.in_ok-deep.ensures.first ∙ c.in_default.is) c.whole.ensures

pub returns-clause-exact : goal.returns-clause-exact
returns-clause-exact c =
    let made = c.in_ok-tree.ensures in
    result-exact known c.args.file c.args.tokens.now c.in_ok-tree.rest.now c.in_ok-tree.tree made.formed made.spells made.no_def made.no_import c.whole.result c.whole.ensures

pub returns-clause-complete : goal.returns-clause-complete
returns-clause-complete c =
    let made = c.in_ok-tree.ensures in
    λ other reads shallow. result-complete known c.args.file c.args.tokens.now c.in_ok-tree.rest.now c.in_ok-tree.tree made.formed made.spells made.no_def made.no_import c.whole.result c.whole.ensures other reads

pub returns-clause-chosen : goal.returns-clause-chosen
returns-clause-chosen c = result-chosen c.args.file c.args.tokens.now c.in_ok-tree.rest.now c.in_ok-tree.tree c.in_ok-tree.ensures.chosen c.whole.result c.whole.ensures

pub returns-clause-one : goal.returns-clause-one
returns-clause-one c =
    let made = c.in_ok-tree.ensures in
    result-one c.args.file c.args.tokens.now c.in_ok-tree.rest.now c.in_ok-tree.tree made.chosen made.formed made.spells c.whole.result c.whole.ensures
