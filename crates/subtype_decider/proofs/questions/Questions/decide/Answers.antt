use Rattle.std.specs.Prelude.{⊤}
use Rattle.std.proofs.Common.{◌≡◌, length, take, All, Contains, sym, subst, ◌∙◌, arith}
use Rattle.std.proofs.lemmas.List.{take_all}
use Rattle.std.proofs.lemmas.List.Elements.{All-contains_itself}
use Rattle.type_diagrams.specs.Reach.{Passes}
use Rattle.type_diagrams.specs.Tables.{Table as Diagrams, DependBelow, condition}
use Rattle.subtype_decider.specs.Entries.{Knows}
use Rattle.subtype_decider.specs.Closed.{IsClosed}
use Rattle.subtype_decider.specs.Leads.{LeadsPast}
use Rattle.subtype_decider.proofs.Grown.{Entries, defined-grown}
use Rattle.subtype_decider.proofs.Ends.{works-begin, settled-IsClosed, settled-kept, dropped-IsClosed, dropped-kept, dropped-Knows, closed-grown, by_test}
use Rattle.subtype_decider.proofs.Passing.{past-Passes, handed}
use Rattle.subtype_decider.proofs.questions.Questions.decide.Goals as goal

pub answer-requires-clause-working : goal.answer-requires-clause-working
answer-requires-clause-working g c =
    let q = c.args.self.now in
    let r = c.requires.rest in
    works-begin c.args.env.now c.args.question c.len.result q.diagrams q.table q.pending.items q.judged.items c.len.ensures.len r.pending r.judged r.closed r.defined c.requires.diagram c.requires.looks

pub returns-in-Ok-clause-rest : goal.returns-in-Ok-clause-rest
returns-in-Ok-clause-rest g c =
    let env = c.args.env.now in
    let q = c.answer.new.self in
    let new = c.close.new.self in
    let w = c.in-Ok.ensures.working in
    let closed : IsClosed env q.diagrams new.table = by_test c.in-Ok.found c.in-Ok.ensures.found c.close.ensures.table
    (λ shape without. dropped-IsClosed env c.args.question c.len.result q.diagrams q.table q.pending.items q.judged.items w new.table c.close.ensures.apart without)
    (λ none same. subst (λ (l : Entries). IsClosed env q.diagrams l) (sym same) (settled-IsClosed env c.args.question c.len.result q.diagrams q.table q.pending.items q.judged.items w none)) in
    record {
      defined = subst (λ (d : Diagrams). DependBelow (length env) d.nodes) (sym c.close.ensures.diagrams) w.defined;
      closed = subst (λ (d : Diagrams). IsClosed env d new.table) (sym c.close.ensures.diagrams) closed;
      pending = c.close.ensures.pending;
      judged = c.close.ensures.judged;
    }

pub returns-in-Ok-clause-knows : goal.returns-in-Ok-clause-knows
returns-in-Ok-clause-knows g c =
    let env = c.args.env.now in
    let q = c.answer.new.self in
    let new = c.close.new.self in
    let w = c.in-Ok.ensures.working in
    by_test c.in-Ok.found c.in-Ok.ensures.found c.close.ensures.table
    (λ shape without. dropped-Knows env c.args.question c.len.result q.diagrams q.table q.pending.items q.judged.items w new.table c.close.ensures.apart without c.args.question shape)
    (λ none same. subst (λ (l : Entries). Knows l c.args.question) (sym same) c.in-Ok.ensures.knows)

-- the table as it was is what the new one begins with
began : (old now : Entries) (start : _) → start ≡ length old → take start now ≡ take start old → take start now ≡ old
began old now start is e = e ∙ take_all start old (omega (arith, is))

pub returns-in-Ok-clause-kept : goal.returns-in-Ok-clause-kept
returns-in-Ok-clause-kept g c =
    let env = c.args.env.now in
    let q = c.answer.new.self in
    let new = c.close.new.self in
    let w = c.in-Ok.ensures.working in
    subst (λ (l : Entries). All (Contains new.table) l) (began c.args.self.now.table q.table c.len.result c.len.ensures.len c.answer.ensures.began)
    (by_test c.in-Ok.found c.in-Ok.ensures.found c.close.ensures.table
    (λ shape without. dropped-kept env c.args.question c.len.result q.diagrams q.table q.pending.items q.judged.items w new.table c.close.ensures.apart without)
    (λ none same. subst (λ (l : Entries). All (Contains l) (take c.len.result q.table)) (sym same) (settled-kept env c.args.question c.len.result q.diagrams q.table q.pending.items q.judged.items w)))

pub returns-in-Err-clause-rest : goal.returns-in-Err-clause-rest
returns-in-Err-clause-rest g c =
    let env = c.args.env.now in
    let old = c.args.self.now in
    let q = c.answer.new.self in
    let new = c.undo.new.self in
    let table = c.undo.ensures.table ∙ began old.table q.table c.len.result c.len.ensures.len c.answer.ensures.began in
    let closed = closed-grown env old.diagrams q.diagrams old.table c.answer.ensures.extends.keeps c.requires.rest.closed in
    record {
      defined = subst (λ (d : Diagrams). DependBelow (length env) d.nodes) (sym c.undo.ensures.diagrams) (defined-grown env old.diagrams q.diagrams c.answer.ensures.extends c.requires.rest.defined);
      closed = subst (λ (d : Diagrams). IsClosed env d new.table) (sym c.undo.ensures.diagrams) (subst (λ (l : Entries). IsClosed env q.diagrams l) (sym table) closed);
      pending = c.undo.ensures.pending;
      judged = c.undo.ensures.judged;
    }

pub returns-in-Err-clause-kept : goal.returns-in-Err-clause-kept
returns-in-Err-clause-kept g c =
    let old = c.args.self.now in
    let table = c.undo.ensures.table ∙ began old.table c.answer.new.self.table c.len.result c.len.ensures.len c.answer.ensures.began in
    subst (λ (l : Entries). All (Contains l) old.table) (sym table) (All-contains_itself old.table)

pub returns-in-Err-clause-limit : goal.returns-in-Err-clause-limit
returns-in-Err-clause-limit g c asked reached =
    let env = c.args.env.now in
    let of = condition c.args.self.now.diagrams c.args.question in
    handed ⊤ (LeadsPast env of) (Passes env asked) c.answer.result c.in-Err.stop c.in-Err.is (past-Passes env asked of reached) c.answer.ensures.limit
