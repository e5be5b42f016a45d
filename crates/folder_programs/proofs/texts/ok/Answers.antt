use Rattle.folder_programs.proofs.ProgramTexts.{ok-written}
use Rattle.folder_programs.proofs.texts.ok.Goals as goal

pub returns : goal.returns
returns c = ok-written c.in_ok-from_str.field-0 c.in_ok-from_str.ensures.ok
