use Rattle.std.proofs.Common.{◌∙◌, ◌++◌, ◌∷◌, [], None, Some, ap, sym}
use Rattle.std.proofs.lemmas.List.{append-nil}
use Rattle.worker_members.specs.Held.{members_held, numbered_held}
use Rattle.worker_plans.proofs.Pairing.{on-found, received-on}
use Rattle.worker_plans.proofs.pairs.add_on.Goals as goal

pub returns-in_ok-push-in-Some : goal.returns-in_ok-push-in-Some
returns-in_ok-push-in-Some c =
    let ms = members_held c.args.members.now in
    let found = received-on c.deref.result.now c.args.members.now.workers.items c.args.way.from c.args.way.to c.place_on-place.result _ (Some c.in-Some.found) c.deref.ensures.value c.place_on-place.ensures c.in-Some.ensures in
    let pairs = on-found ms (numbered_held c.args.event) c.args.way.from c.args.way.to (Some c.in-Some.found) found in
    c.in_ok-push-in-Some.ensures.items ∙ (λ i. c.args.pairs.now.items ++ c.in_ok-pair-in-Some.ensures i ∷ []) ∙ ap (λ l. c.args.pairs.now.items ++ l) (sym pairs)

pub returns-in-None : goal.returns-in-None
returns-in-None c =
    let ms = members_held c.args.members.now in
    let found = received-on c.deref.result.now c.args.members.now.workers.items c.args.way.from c.args.way.to c.place_on-place.result _ None c.deref.ensures.value c.place_on-place.ensures c.in-None.ensures in
    let pairs = on-found ms (numbered_held c.args.event) c.args.way.from c.args.way.to None found in
    sym (append-nil c.args.pairs.now.items) ∙ ap (λ l. c.args.pairs.now.items ++ l) (sym pairs)
