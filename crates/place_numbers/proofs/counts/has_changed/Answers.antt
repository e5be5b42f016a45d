use Rattle.std.proofs.Common.{◌≡◌, ◌↔◌, IsTrue, option_map, subst, sym}
use Rattle.place_numbers.specs.declared.changes.Change.{Change}
use Rattle.place_numbers.specs.inner.Changing.{changed, tally_from}
use Rattle.place_numbers.proofs.counts.has_changed.Goals as goal

pub returns-in-More : goal.returns-in-More
returns-in-More c =
    subst (λ (x : Change). IsTrue c.has_more.result ↔ (option_map tally_from c.args.behind ≡ changed c.args.workers x (option_map tally_from c.args.before))) (sym c.in-More.is) c.has_more.ensures

pub returns-in-Begun : goal.returns-in-Begun
returns-in-Begun c =
    subst (λ (x : Change). IsTrue c.has_begun.result ↔ (option_map tally_from c.args.behind ≡ changed c.args.workers x (option_map tally_from c.args.before))) (sym c.in-Begun.is) c.has_begun.ensures
