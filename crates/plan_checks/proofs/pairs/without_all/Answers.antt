use Rattle.std.proofs.Common.{subst, sym}
use Rattle.std.specs.Prelude.{option_map}
use Rattle.worker_pairing.specs.Faults.{pairs_of}
use Rattle.worker_pairing.specs.Marks.{members_of}
use Rattle.plan_checks.specs.Stripping.{Strips}
use Rattle.plan_checks.proofs.Stripped.{all-three, no-initial, no-named}
use Rattle.plan_checks.proofs.pairs.without_all.Goals as goal

pub returns-in_err-named : goal.returns-in_err-named
returns-in_err-named c =
    let ms = members_of c.args.f.now in
    subst (λ o. Strips (pairs_of ms) c.args.given.now (option_map (λ r. r.now) o)) (sym c.from_residual.ensures) (no-initial ms c.args.given.now c.in_err-named.ensures)

pub returns-in_err-rest : goal.returns-in_err-rest
returns-in_err-rest c =
    let ms = members_of c.args.f.now in
    subst (λ o. Strips (pairs_of ms) c.args.given.now (option_map (λ r. r.now) o)) (sym c.from_residual-in_err-rest.ensures)
    (no-named ms c.args.given.now c.in_ok-named.named.now c.in_ok-named.ensures c.in_err-rest.ensures)

pub returns : goal.returns
returns c =
    all-three (members_of c.args.f.now) c.args.given.now c.in_ok-named.named.now c.in_ok-rest.rest.now (option_map (λ r. r.now) c.without_events-2.result) c.in_ok-named.ensures c.in_ok-rest.ensures
    c.without_events-2.ensures
