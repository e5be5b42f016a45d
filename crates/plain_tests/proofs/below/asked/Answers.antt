use Rattle.std.proofs.Common.{◌↔◌, Bool, IsTrue, rules, subst, sym}
use Rattle.type_model.specs.Calls.{Without}
use Rattle.type_model.specs.Inclusion.{Sub}
use Rattle.type_diagrams.specs.Reach.{Passes}
use Rattle.type_diagrams.specs.Tables.{condition}
use Rattle.subtype_decider.proofs.Answering.{found-AnswersSub, without-Reached}
use Rattle.subtype_decider.proofs.Passing.{handed}
use Rattle.plain_tests.proofs.Telling.{none_found}
use Rattle.plain_tests.proofs.below.asked.Goals as goal

pub without-requires-clause-rest : goal.without-requires-clause-rest
without-requires-clause-rest c = c.new-questions.ensures.rest c.args.env.now

pub returns-in_err-found-clause-limit : goal.returns-in_err-found-clause-limit
returns-in_err-found-clause-limit c =
    let s = c.args.s.now in
    let t = c.args.t.now in
    let env = c.args.env.now in
    let limit = c.find.ensures.limit (Without s t) (without-Reached env s t (condition c.without.new.self.diagrams c.in_ok-question.question) c.in_ok-question.ensures.gives.condition) in
    let h = handed Bool (Passes env (Without s t)) (Passes env (Without s t)) c.find.result c.in_err-found.field-0.0 c.in_err-found.was (λ l p. p) limit in
    search rules

pub returns-clause-below : goal.returns-clause-below
returns-clause-below c =
    let s = c.args.s.now in
    let t = c.args.t.now in
    let env = c.args.env.now in
    let of = condition c.without.new.self.diagrams c.in_ok-question.question in
    let is = none_found env s t c.in_ok-found.found (found-AnswersSub env s t of c.in_ok-found.found c.in_ok-question.ensures.shapes c.in_ok-found.ensures.found) in
    subst (λ b. IsTrue b ↔ Sub env s t) (sym c.is_absent.ensures) is
