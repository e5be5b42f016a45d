use Rattle.std.proofs.Common.{◌≡◌, ◌++◌, sym, subst}
use Rattle.std.specs.Bool.{MatchBool}
use Rattle.subtype_decider.specs.Working.{IsWithoutAll}
use Rattle.subtype_decider.proofs.Dropped.{both-IsWithoutAll}
use Rattle.subtype_decider.proofs.questions.Questions.close.Goals as goal

pub returns-then-found-clause-table : goal.returns-then-found-clause-table
returns-then-found-clause-table c =
    let old = c.args.self.now.table in
    let new = c.forget-then-found.new.self in
    let pending = c.args.self.now.pending.items in
    let judged = c.args.self.now.judged.items in
    subst (λ b. MatchBool b (IsWithoutAll old new (pending ++ judged)) (new ≡ old)) (sym c.if-found.true)
    (both-IsWithoutAll old c.forget.new.self new pending judged c.forget.ensures.without c.forget-then-found.ensures.without)
