use Rattle.std.proofs.Common.{◌≡◌, ◌↔◌, ℕ, Option, IsTrue, subst, sym}
use Rattle.place_numbers.specs.inner.Changing.{more_by}
use Rattle.place_numbers.proofs.counts.is_more.Goals as goal

pub returns-in-Some : goal.returns-in-Some
returns-in-Some c = subst (λ (o : Option ℕ). IsTrue c.is_one_more.result ↔ (c.args.ms.now ≡ more_by o c.args.ns.now)) (sym c.in-Some.is) c.is_one_more.ensures

pub returns-in-None : goal.returns-in-None
returns-in-None c = subst (λ (o : Option ℕ). IsTrue c.are_same.result ↔ (c.args.ms.now ≡ more_by o c.args.ns.now)) (sym c.in-None.is) c.are_same.ensures
