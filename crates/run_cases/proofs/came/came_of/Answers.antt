use Rattle.std.proofs.Common.{◌≡◌, ap}
use Rattle.run_cases.specs.Came.{IsCameOf, IsSeenOf, folder_told, sink_told, source_told}
use Rattle.run_cases.specs.declared.came.Came.{Came}
use Rattle.run_cases.proofs.Answering.{answer-to, both, named}
use Rattle.run_cases.proofs.came.came_of.Goals as goal

pub returns : goal.returns
returns c =
    both c.seen.result (IsSeenOf c.bal_run-run.result c.bal_run-run.new.out c.bal_run-run.new.diag) (λ (came : Came). came.dir ≡ c.in_ok-dir.dir)
    (IsCameOf c.args.call)
    (λ came seen dir. record {
      run = c.bal_run-run.result;
      out = c.bal_run-run.new.out;
      diag = c.bal_run-run.new.diag;
      answer =
          answer-to c.args.call c.as_slice-2.result.now (folder_told c.new-folder.result) (source_told c.new-input.result) (sink_told c.into_sink-out.result) (sink_told c.into_sink-diag.result)
          c.bal_run-run.result c.bal_run-run.new.folder c.bal_run-run.new.input c.bal_run-run.new.out c.bal_run-run.new.diag
          c.as_slice-2.ensures.value (ap folder_told c.new-folder.ensures) (ap source_told c.new-input.ensures) c.into_sink-out.ensures c.into_sink-diag.ensures c.bal_run-run.ensures.answer;
      seen = seen;
      named = named c.as_slice.result.now c.args.call.words.items c.in_ok-dir.dir came.dir c.as_slice.ensures.value dir c.in_ok-dir.ensures.dir c.in_ok-dir.ensures.good;
    })
    c.seen.ensures.seen c.seen.ensures.dir
