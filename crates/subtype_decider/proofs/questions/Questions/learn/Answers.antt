use Rattle.std.proofs.Common.{ℕ, ◌<◌, ◌-◌, ◌^◌, length, arith}
use Rattle.type_diagrams.proofs.Shapes.{IfOk-map}
use Rattle.subtype_decider.specs.Entries.{Knows}
use Rattle.subtype_decider.specs.Working.{unknown_left}
use Rattle.subtype_decider.proofs.MoreKnown.{more-known}
use Rattle.subtype_decider.proofs.questions.Questions.learn.Goals as goal

pub returns-clause-less : goal.returns-clause-less
returns-clause-less c =
    let old = c.args.self.now in
    let new = c.decide.new.self in
    IfOk-map (λ _. Knows new.table c.args.question) (λ _. unknown_left new < unknown_left old)
    (λ _ knows. left-falls (length old.table) (length new.table) (omega (arith, c.len-known.ensures.len, c.len-known.ensures.small)) (more-known old.table new.table c.args.question c.requires.rest.closed.apart c.decide.ensures.kept c.requires.unknown knows))
    c.decide.result c.decide.ensures.knows
  where
    left-falls : (a b : ℕ) → a < 2 ^ 63 → a < b → 2 ^ 63 - b < 2 ^ 63 - a
    left-falls a b p q = omega (arith, p, q)
