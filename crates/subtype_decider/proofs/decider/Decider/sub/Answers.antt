use Rattle.std.proofs.Common.{subst, sym, rules, All, Contains, IfOk, Err}
use Rattle.bal_base.specs.Stops.{IfFault}
use Rattle.type_model.specs.declared.answers.Answer.{Answer}
use Rattle.type_model.specs.declared.answers.TypeLimit.{TypeLimit}
use Rattle.type_model.specs.Calls.{Without}
use Rattle.type_model.specs.Inclusion.{AnswersSub}
use Rattle.type_diagrams.specs.Reach.{Passes}
use Rattle.type_diagrams.specs.Tables.{condition}
use Rattle.subtype_decider.specs.Deciders.{Findings}
use Rattle.subtype_decider.proofs.Answering.{without-Reached, answer_of, found-AnswersSub, kept_as}
use Rattle.subtype_decider.proofs.Passing.{handed}
use Rattle.subtype_decider.proofs.decider.Decider.sub.Goals as goal
use Rattle.subtype_decider.proofs.decider.Decider.sub.Goals.{in-Some, in-None}

pub returns-in_err-shape-clause-limit : goal.returns-in_err-shape-clause-limit
returns-in_err-shape-clause-limit c =
    let s = c.args.s.now in
    let t = c.args.t.now in
    let env = c.self.inside.env in
    let limit = c.find.ensures.limit (Without s t) (without-Reached env s t (condition c.without.new.self.diagrams c.in_ok-question.question) c.in_ok-question.ensures.gives.condition) in
    let h = subst (λ (f : Findings). IfFault {T = Answer} {F = TypeLimit} (Err c.in_err-shape.field-0.0) (Passes f.atoms (Without s t))) c.self.view_is (handed Answer (Passes env (Without s t)) (Passes env (Without s t)) c.find.result c.in_err-shape.field-0.0 c.in_err-shape.was (λ l p. p) limit) in
    search rules

pub returns-in_err-question-clause-kept : goal.returns-in_err-question-clause-kept
returns-in_err-question-clause-kept c =
    subst (λ (f : Findings). All (Contains c.without.new.self.table) f.table) c.self.view_is (kept_as c.self.inside.questions.table c.without.new.self.table c.without.ensures.table)

pub returns-in_err-shape-clause-kept : goal.returns-in_err-shape-clause-kept
returns-in_err-shape-clause-kept c =
    subst (λ (f : Findings). All (Contains c.find.new.self.table) f.table) c.self.view_is (subst (All (Contains c.find.new.self.table)) c.without.ensures.table c.find.ensures.kept)

pub returns-clause-kept : goal.returns-clause-kept
returns-clause-kept c =
    subst (λ (f : Findings). All (Contains c.find.new.self.table) f.table) c.self.view_is (subst (All (Contains c.find.new.self.table)) c.without.ensures.table c.find.ensures.kept)

pub returns-clause-answer : goal.returns-clause-answer
returns-clause-answer c =
    let s = c.args.s.now in
    let t = c.args.t.now in
    let env = c.self.inside.env in
    let of = condition c.without.new.self.diagrams c.in_ok-question.question in
    let answered = subst (λ (f : Findings). AnswersSub f.atoms s t (answer_of c.in_ok-shape.field-0)) c.self.view_is
    (found-AnswersSub env s t of c.in_ok-shape.field-0 c.in_ok-question.ensures.shapes c.in_ok-shape.ensures.found) in
    elim c.match-branch-3.branch [
      | in-Some w ↦ subst (λ r. IfOk r (AnswersSub c.args.self.now.atoms s t)) (sym w.result-is) (subst (λ o. AnswersSub c.args.self.now.atoms s t (answer_of o)) w.in-Some.is answered)
      | in-None w ↦ subst (λ r. IfOk r (AnswersSub c.args.self.now.atoms s t)) (sym w.result-is) (subst (λ o. AnswersSub c.args.self.now.atoms s t (answer_of o)) w.in-None.is answered)
    ]
