use Rattle.std.proofs.Common.{◌≡◌, ◌↔◌, Option, IsTrue, option_map, subst, sym}
use Rattle.place_numbers.specs.declared.counts.Counts.{Counts}
use Rattle.place_numbers.specs.inner.Changing.{more_of, tally_from}
use Rattle.place_numbers.proofs.counts.has_more.Goals as goal

pub returns-in-Some : goal.returns-in-Some
returns-in-Some c =
    subst (λ (o : Option Counts). IsTrue c.grows.result ↔ (option_map tally_from c.args.behind ≡ option_map (more_of c.args.sent c.args.received) (option_map tally_from o))) (sym c.in-Some.is) c.grows.ensures

pub returns-in-None : goal.returns-in-None
returns-in-None c =
    subst (λ (o : Option Counts). IsTrue c.is_absent.result ↔ (option_map tally_from c.args.behind ≡ option_map (more_of c.args.sent c.args.received) (option_map tally_from o))) (sym c.in-None.is) c.is_absent.ensures
