use Rattle.std.proofs.Common.{◌∙◌, option_map}
use Rattle.std.specs.Option.{option_to_list}
use Rattle.check_work.specs.Views.{unit_of}
use Rattle.check_work.proofs.Seeing.{seen-is}
use Rattle.check_work.proofs.seen.is_seen.Goals as goal

pub returns : goal.returns
returns c = λ env.
    c.seen_by.ensures
    ∙ seen-is c.args.name.now c.args.work.now.around.items _ (option_to_list (option_map unit_of c.args.work.now.unit)) c.args.work.now.site.workers.items _ _ _ _
    c.as_slice-units.ensures.value c.as_slice-workers.ensures.value c.in_units-around.ensures c.in_unit_if-here.ensures c.among_workers-worker.ensures
