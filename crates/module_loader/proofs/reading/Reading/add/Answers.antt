use Rattle.std.specs.Prelude.{Err, ⊤}
use Rattle.std.proofs.Common.{◌≡◌, arith, length, refl, subst}
use Rattle.bal_base.specs.Stops.{IfFault}
use Rattle.bal_tree.specs.declared.package.SourceFile.{SourceFile}
use Rattle.source_files.specs.Files.{IsSource, IsUnread}
use Rattle.module_loader.proofs.Nexts.{put-next, unread-next}
use Rattle.module_loader.proofs.reading.Reading.add.Goals as goal

pub returns-in-Ok : goal.returns-in-Ok
returns-in-Ok c =
    let count : c.len-number.result ≡ length c.args.self.now.read.items = omega (arith, c.len-number.ensures, c.args.self.now.read.ok.0) in
    put-next c.args.self.now c.put.new.self c.args.name.now c.args.front.now c.in-Ok.file c.put.result
    (subst (λ n. IsSource n c.args.name.now c.args.front.now c.in-Ok.file) count c.in-Ok.ensures.reads)
    c.put.ensures

pub returns-in-Err : goal.returns-in-Err
returns-in-Err c =
    let count : c.len-number.result ≡ length c.args.self.now.read.items = omega (arith, c.len-number.ensures, c.args.self.now.read.ok.0) in
    unread-next c.args.self.now c.args.self.now c.args.name.now c.args.front.now SourceFile ⊤ c.in-Err.stop refl
    (subst (λ n. IfFault {T = SourceFile} (Err c.in-Err.stop) (IsUnread n c.args.name.now c.args.front.now)) count c.in-Err.ensures.refused)
