use Rattle.std.proofs.Common.{All, None, ap, length, subst, sym}
use Rattle.check_words.specs.Stands.{PartBelow}
use Rattle.check_words.proofs.Standing.{also-has, stands-found}
use Rattle.check_work.specs.Views.{state_of}
use Rattle.needs_of_calls.proofs.named.put.Goals as goal

pub returns-clause-stands : goal.returns-clause-stands
returns-clause-stands c = λ env below h.
    let s = state_of env c.args.work.now in
    stands-found s h _ (subst (All (PartBelow (length env))) (sym c.in_ok-push.ensures.items) (also-has (PartBelow (length env)) s.found c.args.part h.found below))

pub returns-clause-is : goal.returns-clause-is
returns-clause-is c = λ env. ap (λ es. record (state_of env c.args.work.now) { found = es; ways = None }) c.in_ok-push.ensures.items
