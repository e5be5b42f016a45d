use Rattle.std.proofs.Common.{◌∙◌, ◌++◌, ◌∷◌, [], ap, sym}
use Rattle.std.proofs.lemmas.List.{append-nil}
use Rattle.worker_ranks.proofs.Ringed.{shown-past, shown-there}
use Rattle.worker_ranks.proofs.rings.show.Goals as goal

pub returns-in_ok-push-in-Some : goal.returns-in_ok-push-in-Some
returns-in_ok-push-in-Some c =
    c.in_ok-push-in-Some.ensures.items ∙ (λ i. c.args.events.now.items ++ c.event_of.ensures i ∷ [])
    ∙ ap (λ l. c.args.events.now.items ++ l) (sym (shown-there c.args.text.now c.args.number c.in-Some.event.now c.in-Some.ensures.lookup.3.0 c.in-Some.ensures.lookup.1))

pub returns-in-None : goal.returns-in-None
returns-in-None c = sym (append-nil c.args.events.now.items) ∙ ap (λ l. c.args.events.now.items ++ l) (sym (shown-past c.args.text.now c.args.number c.in-None.ensures.lookup.3))
