use Rattle.std.proofs.Common.{◌∙◌, ◌++◌, [], ◌∷◌, ap, map, sym}
use Rattle.check_words.specs.Calls.{one_more}
use Rattle.check_work.specs.Views.{call_of, state_of}
use Rattle.check_work.proofs.Noting.{mapped-last}
use Rattle.needs_of_calls.proofs.Calling.{argument-counted, counted-stands, last-one}
use Rattle.needs_of_calls.proofs.arguments.next_argument.Goals as goal

pub returns-clause-stands : goal.returns-clause-stands
returns-clause-stands c = λ env h.
    counted-stands (state_of env c.args.work.now) h (map call_of c.last_taken.new.items.items) _ (call_of c.in_ok-call.call) _ (mapped-last call_of _ _ _ c.in_ok-call.ensures)
    (mapped-last call_of _ _ _ c.in_ok-push.ensures.items ∙ ap (λ d. map call_of c.last_taken.new.items.items ++ d ∷ []) c.in_ok-more.ensures) c.drop_last.ensures

pub returns-clause-comes : goal.returns-clause-comes
returns-clause-comes c = λ env d last.
    let is = mapped-last call_of _ _ _ c.in_ok-call.ensures in
    let same = last-one _ _ d (call_of c.in_ok-call.call) last is in
    argument-counted (state_of env c.args.work.now) (map call_of c.last_taken.new.items.items) _ d _ (is ∙ ap (λ x. map call_of c.last_taken.new.items.items ++ x ∷ []) (sym same))
    (mapped-last call_of _ _ _ c.in_ok-push.ensures.items ∙ ap (λ x. map call_of c.last_taken.new.items.items ++ x ∷ []) (c.in_ok-more.ensures ∙ ap one_more (sym same))) c.drop_last.ensures
