use Rattle.std.proofs.Common.{◌≡◌, ◌≤◌}
use Rattle.worker_pairing.specs.Events.{before}
use Rattle.worker_faults.specs.Routes.{kinds_said}
use Rattle.worker_partners.specs.Partners.{is_on}
use Rattle.worker_partners.proofs.partners.nth_among.Given as goal

abbrev pub invariant-loop-said : goal.invariant-loop-said
invariant-loop-said l =
    record {
      place : l.number ≡ l.said-index;
      few : l.seen ≤ l.said-index;
      so : l.seen ≡ before (is_on l.side) (kinds_said l.sayings) l.said-index;
      less : l.seen ≤ l.k;
    }
