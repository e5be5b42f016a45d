use Rattle.std.proofs.Common.{◌≡◌, ◌≤◌, ◌∙◌, arith, length, subst, sym}
use Rattle.std.specs.Prelude.{IfSome}
use Rattle.folder_files.proofs.Listed.{counted, listed-all, listed-first, listed-more}
use Rattle.folder_files.proofs.finding.list.Goals as goal

pub loop-number-init : goal.loop-number-init
loop-number-init g c =
    let same = c.in_ok-number-end.ensures.unchanged in
    let files = g.F.Folder.files c.count.new.self in
    record {
      unchanged = same;
      faults = c.in_ok-number-end.ensures.faults;
      within = counted (g.F.Folder.files c.args.folder.now) files c.in_ok-number-end.number-end same c.in_ok-number-end.ensures.count;
      listed = listed-first files c.new-listing.result c.new-listing.ensures;
    }

pub loop-number-preserved : goal.loop-number-preserved
loop-number-preserved g c =
    let inv = c.loop-number.invariant in
    let same = c.in_ok-name.ensures.unchanged in
    record {
      unchanged = same ∙ inv.unchanged;
      faults = c.in_ok-name.ensures.faults ∙ inv.faults;
      within = subst (λ o. IfSome o (λ all. c.in_ok-number-end.number-end ≤ length all)) (sym same) inv.within;
      listed = listed-more (g.F.Folder.files c.loop-number.folder) (g.F.Folder.files c.name.new.self) c.loop-number.number c.in_ok-name.name c.loop-number.listing c.add.new.self same c.in_ok-name.ensures.name inv.listed c.in_ok-add.ensures;
    }

pub returns-clause-listed : goal.returns-clause-listed
returns-clause-listed g c =
    let inv = c.loop-number.invariant in
    let same : c.in_ok-number-end.number-end ≡ c.loop-number.number = omega arith in
    listed-all (g.F.Folder.files c.loop-number.folder) (g.F.Folder.files c.args.folder.now) c.loop-number.number c.in_ok-number-end.number-end c.loop-number.listing inv.unchanged inv.listed c.in_ok-number-end.ensures.count same
