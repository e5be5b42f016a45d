use Rattle.folder_programs.specs.Texts.{IsTextOf}
use Rattle.bal_run.proofs.Tellings.{made-told}
use Rattle.bal_run.proofs.telling.told.Goals as goal

pub returns-clause-told : goal.returns-clause-told
returns-clause-told g c =
    made-told (IsTextOf c.args.telling c.args.ready.types.atoms c.args.ready.built) c.program_text.result _ _ c.tell_made-status.result c.program_text.ensures c.tell_made-status.ensures.written
