use Rattle.std.proofs.Common.{◌≡◌, ◌∙◌, ◌++◌, None, Some, ap, subst, sym}
use Rattle.std.specs.Prelude.{OnOk}
use Rattle.std.proofs.lemmas.List.{append-nil}
use Rattle.worker_pairing.specs.Faults.{pairs_on}
use Rattle.worker_faults.specs.Routes.{route_held}
use Rattle.worker_members.specs.Held.{members_held, numbered_held}
use Rattle.worker_plans.proofs.pairs.add_pair.Goals as goal

pub returns-in-Some : goal.returns-in-Some
returns-in-Some c =
    subst (λ o. OnOk c.add_on.result (c.add_on.new.pairs.items ≡ c.args.pairs.now.items ++ pairs_on (members_held c.args.members.now) (numbered_held c.args.event) o)) c.in-Some.ensures c.add_on.ensures

pub returns-in-None : goal.returns-in-None
returns-in-None c =
    sym (append-nil c.args.pairs.now.items) ∙ ap (λ o. c.args.pairs.now.items ++ pairs_on (members_held c.args.members.now) (numbered_held c.args.event) o) c.in-None.ensures
