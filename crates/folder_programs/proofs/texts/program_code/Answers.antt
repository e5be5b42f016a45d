use Rattle.folder_programs.proofs.ProgramTexts.{code-told}
use Rattle.folder_programs.proofs.texts.program_code.Goals as goal

pub returns : goal.returns
returns c =
    code-told _ _ c.args.ready.now.built c.in_ok-code.code c.code_text.result c.env.ensures c.in_ok-code.ensures c.code_text.ensures
