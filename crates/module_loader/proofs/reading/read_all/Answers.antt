use Rattle.std.specs.Global.{Global}
use Rattle.bal_tree.specs.declared.package.SourceFile.{SourceFile}
use Rattle.std.proofs.Common.{◌∙◌, ◌+◌, [], ◌∷◌, ap, arith, length, refl, subst, sym}
use Rattle.std.specs.Prelude.{Err, IfSome, Vec, ℕ, ⊤}
use Rattle.std.proofs.lemmas.List.{length-append}
use Rattle.folder_files.specs.Files.{IsFrontOf}
use Rattle.module_loader.specs.Faults.{IsReadingFault}
use Rattle.module_loader.specs.inner.Begun.{AreReadFrom}
use Rattle.module_loader.specs.inner.Sources.{AreThere, taken_in}
use Rattle.module_loader.proofs.Adding.{AreReadSoFar, all-read, none-read, one-more, one-refused, source-opens}
use Rattle.module_loader.proofs.Loads.{still}
use Rattle.module_loader.proofs.Nexts.{fault-of, told-counts, told-refused}
use Rattle.module_loader.proofs.Stops.{counts-on, stop-counts, stop-refused}
use Rattle.module_loader.proofs.reading.read_all.Goals as goal

pub loop-source-init : goal.loop-source-init
loop-source-init g c =
    let none = c.new-read.ensures.items in
    record {
      unchanged = refl;
      faults = refl;
      count = ap length none;
      small = omega arith;
      read = none-read (g.F.Folder.files c.args.folder.now) c.args.sources.now (record { read = c.new-read.result; bytes = 0 }) none refl;
    }

pub bytes_of-requires : goal.bytes_of-requires
bytes_of-requires g c =
    let inv = c.loop-source.invariant in
    let sources = c.args.sources.now in
    source-opens (g.F.Folder.files c.loop-source.folder) sources c.loop-source.source-index c.source-item.result c.loop-source-test.true (sym c.source-item.is)
    (still (λ files. AreThere files sources) (g.F.Folder.files c.args.folder.now) (g.F.Folder.files c.loop-source.folder) inv.unchanged c.requires.there)

pub loop-source-preserved : goal.loop-source-preserved
loop-source-preserved g c =
    let inv = c.loop-source.invariant in
    let sources = c.args.sources.now in
    let i = c.loop-source.source-index in
    let s = c.source-item.result in
    let told = g.F.Folder.files c.loop-source.folder in
    let same = c.in-Ok.ensures.unchanged in
    let old = c.loop-source.reading in
    let new = c.add.new.self in
    let front = c.as_slice.result.now in
    let opens = still (λ files. AreThere files sources) (g.F.Folder.files c.args.folder.now) told inv.unchanged c.requires.there in
    let of = subst (λ b. IfSome told (λ files. IsFrontOf files s.number b)) (sym c.as_slice.ensures.value) c.in-Ok.ensures.front in
    let adds = c.in-Ok-add.ensures.0 in
    let more = one-more sources i s c.loop-source-test.true (sym c.source-item.is) old new front told opens inv.read inv.count of adds in
    record {
      unchanged = same ∙ inv.unchanged;
      faults = c.in-Ok.ensures.faults ∙ inv.faults;
      count = let long = ap length adds.read in let both = length-append old.read.items (adds.file ∷ []) in omega (arith, long, both, inv.count);
      small = c.in-Ok-add.ensures.1;
      read = subst (λ w. AreReadSoFar w sources (i + 1) new) (sym same) more;
    }

pub returns-in-Err-clause-faults : goal.returns-in-Err-clause-faults
returns-in-Err-clause-faults g c =
    counts-on {A = Vec SourceFile Global} _ _ (g.F.Folder.faults c.bytes_of.new.folder) (Err c.in-Err.stop) c.loop-source.invariant.faults (stop-counts (Vec ℕ Global) (Vec SourceFile Global) _ _ c.in-Err.stop c.in-Err.ensures.faults)

pub returns-in-Err-clause-refused : goal.returns-in-Err-clause-refused
returns-in-Err-clause-refused g c = stop-refused (Vec ℕ Global) (Vec SourceFile Global) c.in-Err.stop _ _ (λ r read none. absurd none) c.in-Err.ensures.unrefused

pub returns-in-Err-add-clause-faults : goal.returns-in-Err-add-clause-faults
returns-in-Err-add-clause-faults g c =
    let inv = c.loop-source.invariant in
    told-counts (Vec SourceFile Global) _ _ c.in-Err-add.stop c.add.new.self.read.items c.with_files.result c.with_files.ensures (c.in-Ok.ensures.faults ∙ inv.faults)

pub returns-in-Err-add-clause-refused : goal.returns-in-Err-add-clause-refused
returns-in-Err-add-clause-refused g c =
    let inv = c.loop-source.invariant in
    let sources = c.args.sources.now in
    let i = c.loop-source.source-index in
    let s = c.source-item.result in
    let first = g.F.Folder.files c.args.folder.now in
    let told = g.F.Folder.files c.loop-source.folder in
    let old = c.loop-source.reading in
    let new = c.add.new.self in
    let front = c.as_slice.result.now in
    let opens = still (λ files. AreThere files sources) first told inv.unchanged c.requires.there in
    let of = subst (λ b. IfSome told (λ files. IsFrontOf files s.number b)) (sym c.as_slice.ensures.value) c.in-Ok.ensures.front in
    told-refused ⊤ (Vec SourceFile Global) c.in-Err-add.stop new.read.items c.with_files.result (λ r read. IfSome first (λ files. IsReadingFault (taken_in files sources) r read)) c.with_files.ensures
    (fault-of ⊤ ⊤ old new s.name front c.in-Err-add.stop (λ r. IfSome first (λ files. IsReadingFault (taken_in files sources) r new.read.items))
    (λ r next. still (λ files. IsReadingFault (taken_in files sources) r new.read.items) told first (sym inv.unchanged)
    (one-refused sources i s c.loop-source-test.true (sym c.source-item.is) old new front told r opens inv.read inv.count inv.small of next))
    c.in-Err-add.ensures)

pub returns-clause-read : goal.returns-clause-read
returns-clause-read g c =
    let inv = c.loop-source.invariant in
    subst (λ w. AreReadFrom w c.args.sources.now c.loop-source.reading.read.items) inv.unchanged
    (all-read (g.F.Folder.files c.loop-source.folder) c.args.sources.now c.loop-source.source-index c.loop-source.reading c.loop-source-test.false inv.small inv.read)
