use Rattle.std.proofs.Common.{◌≡◌, ◌<◌, arith, take, get_or, length}
use Rattle.std.specs.List.{Contains}
use Rattle.std.proofs.lemmas.List.{get_or_default}
use Rattle.graphs.proofs.Noting.{among-from, among-to, none-among, nothing-noted, noted-more}
use Rattle.graphs.proofs.search.reach.Goals as goal

pub loop-number-init : goal.loop-number-init
loop-number-init c = nothing-noted Contains c.args.level c.args.away.now.items c.args.found.now.items none-among

pub loop-number-preserved : goal.loop-number-preserved
loop-number-preserved c =
    let i = c.loop-number.number-index in
    let lt : i < length c.args.numbers.now = grind (arith, c.loop-number-test.true) in
    let x = get_or c.args.numbers.now i 0 in
    noted-more Contains (λ v. v ≡ x) c.args.level c.args.numbers.now i x c.args.away.now.items c.loop-number.away.items c.note.new.away.items c.args.found.now.items c.loop-number.found.items c.note.new.found.items
    lt (get_or_default c.args.numbers.now i 0 x lt) (among-from (take i c.args.numbers.now) x) (among-to (take i c.args.numbers.now) x) c.loop-number.invariant c.in_ok-note.ensures
