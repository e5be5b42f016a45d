use Rattle.code_frames.specs.Programs.{fillers_by}
use Rattle.code_runs.proofs.Written.{on-err}
use Rattle.code_steps.specs.Ended.{outcome_of}
use Rattle.plain_run.proofs.Given.{if-ok}
use Rattle.op_model.specs.Library.{LibraryAnswers}
use Rattle.package_code.proofs.Alike.{code-runs-as-its-package}
use Rattle.package_code.proofs.packages.run_code.Goals as goal

pub returns-clause-comes : goal.returns-clause-comes
returns-clause-comes g c =
    let given = c.args.given in
    if-ok _ _ c.run.result
    (λ o came p q read lowered.
    (code-runs-as-its-package LibraryAnswers c.args.atoms.now (fillers_by c.args.fillers.now) p q c.args.code.now c.in-Ok-decode.program read lowered c.in-Ok-decode.ensures).runs given.words.now given.input.now given.ticks given.seed (outcome_of o) (g.O.Sink.written c.args.out.now) (g.O.Sink.written c.run.new.out) c.requires.words came)
    c.run.ensures.comes

pub returns-clause-cut : goal.returns-clause-cut
returns-clause-cut g c =
    let given = c.args.given in
    on-err _ _ c.run.result
    (λ came p q read lowered.
    (code-runs-as-its-package LibraryAnswers c.args.atoms.now (fillers_by c.args.fillers.now) p q c.args.code.now c.in-Ok-decode.program read lowered c.in-Ok-decode.ensures).cut given.words.now given.input.now given.ticks given.seed (g.O.Sink.written c.args.out.now) (g.O.Sink.written c.run.new.out) c.requires.words came)
    c.run.ensures.cut
