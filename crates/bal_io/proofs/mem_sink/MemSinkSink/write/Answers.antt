use Rattle.std.proofs.Common.{rules}
use Rattle.bal_io.proofs.Writing.{AppendsFront-take}
use Rattle.bal_io.proofs.mem_sink.MemSinkSink.write.Goals as goal

pub returns-then-fails-2-clause-err : goal.returns-then-fails-2-clause-err
returns-then-fails-2-clause-err c =
    AppendsFront-take c.args.self.now.taken c.args.bytes.now c.args.self.now.written c.extend_from_slice.new.self.items (search rules)
