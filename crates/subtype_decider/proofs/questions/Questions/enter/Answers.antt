use Rattle.std.proofs.Common.{◌≡◌, ℕ, ◌<◌, ◌≤◌, ◌+◌, Bool, true, false, MatchBool, ◌++◌, ◌∷◌, [], List, Some, None, length, sym, subst, ap, length-append, arith}
use Rattle.type_diagrams.specs.Conditions.{IsShapeOf}
use Rattle.type_diagrams.specs.Tables.{condition}
use Rattle.type_diagrams.specs.Found.{FindsSimple}
use Rattle.type_diagrams.specs.Reach.{most_questions}
use Rattle.subtype_decider.specs.declared.held.Held.{Held}
use Rattle.subtype_decider.specs.Entries.{Knows}
use Rattle.subtype_decider.specs.Working.{Works}
use Rattle.subtype_decider.proofs.Dropped.{Entries}
use Rattle.subtype_decider.proofs.Works.{full-LeadsPast, works-same}
use Rattle.subtype_decider.proofs.Entered.{works-held, works-answered, with-Knows}
use Rattle.subtype_decider.proofs.Stepped.{simple-IsShapeOf}
use Rattle.subtype_decider.proofs.questions.Questions.enter.Goals as goal

-- what the test says
few : (start entries : ℕ) (b : Bool) → b ≡ false → MatchBool b (start + most_questions ≤ entries) (entries < start + most_questions) → entries < start + most_questions
few start entries b is told = subst (λ c. MatchBool c (start + most_questions ≤ entries) (entries < start + most_questions)) is told

many : (start entries : ℕ) (b : Bool) → b ≡ true → MatchBool b (start + most_questions ≤ entries) (entries < start + most_questions) → start + most_questions ≤ entries
many start entries b is told = subst (λ c. MatchBool c (start + most_questions ≤ entries) (entries < start + most_questions)) is told

pub returns-in_ok-add-in-Some-clause-entered : goal.returns-in_ok-add-in-Some-clause-entered
returns-in_ok-add-in-Some-clause-entered g c =
    let env = c.args.call.now.env.now in
    let asked = c.args.call.now.first in
    let start = c.args.call.now.start in
    let q = c.args.self.now in
    let w = c.requires.working in
    let x = c.in_ok-witness-in-Some.witness in
    let room = few start (length q.table) c.is_full.result c.if-is_full.false c.is_full.ensures in
    let plain = simple-IsShapeOf env (condition q.diagrams c.args.question) c.in-Some.shape (subst (FindsSimple (condition q.diagrams c.args.question).simple) c.in-Some.is c.in_ok-shape.ensures.found) in
    let shape = subst (IsShapeOf env (condition q.diagrams c.args.question)) (sym c.in_ok-witness-in-Some.ensures) plain in
    let added = c.in_ok-add-in-Some.ensures.added in
    record {
      working = subst (λ (l : Entries). Works env asked start q.diagrams l q.pending.items q.judged.items) (sym added)
          (works-answered env asked start q.diagrams q.table q.pending.items q.judged.items w c.args.question c.requires.unknown c.requires.diagram c.requires.leads room x shape);
      knows = subst (λ (l : Entries). Knows l c.args.question) (sym added)
          (with-Knows env asked start q.diagrams q.table q.pending.items q.judged.items w c.args.question c.requires.unknown c.requires.diagram c.requires.leads room (Some x));
      less = omega (arith, room, ap (λ (l : Entries). length l) added, length-append q.table ((c.args.question, Some x) ∷ []));
    }

pub returns-then-is_full-clause-limit : goal.returns-then-is_full-clause-limit
returns-then-is_full-clause-limit g c =
    let call = c.args.call.now in
    let q = c.args.self.now in
    let full = many call.start (length q.table) c.is_full.result c.if-is_full.true c.is_full.ensures in
    full-LeadsPast call.env.now call.first call.start q.diagrams q.table q.pending.items q.judged.items c.requires.working c.args.question c.simple_shape.ensures.one c.requires.unknown c.requires.diagram c.requires.leads full

pub returns-in_ok-hold-in-None-clause-entered : goal.returns-in_ok-hold-in-None-clause-entered
returns-in_ok-hold-in-None-clause-entered g c =
    let env = c.args.call.now.env.now in
    let asked = c.args.call.now.first in
    let start = c.args.call.now.start in
    let q = c.args.self.now in
    let w = c.requires.working in
    let new = c.hold.new.self in
    let h = c.in_ok-hold-in-None.ensures.held in
    let table = c.in_ok-hold-in-None.ensures.table in
    let judged = ap (λ v. v.items) c.in_ok-hold-in-None.ensures.judged in
    let room = few start (length q.table) c.is_full.result c.if-is_full.false c.is_full.ensures in
    let plain = subst (FindsSimple (condition q.diagrams c.args.question).simple) c.in-None.is c.in_ok-shape.ensures.found in
    record {
      working = works-same env asked start q.diagrams new.diagrams (q.table ++ (c.args.question, None) ∷ []) new.table (q.pending.items ++ h.held ∷ []) new.pending.items q.judged.items new.judged.items
          c.in_ok-hold-in-None.ensures.diagrams table h.pending judged
          (works-held env asked start q.diagrams q.table q.pending.items q.judged.items w c.args.question c.requires.unknown c.requires.diagram c.requires.leads room h.held h.is h.next h.ways plain);
      knows = subst (λ (l : Entries). Knows l c.args.question) (sym table)
          (with-Knows env asked start q.diagrams q.table q.pending.items q.judged.items w c.args.question c.requires.unknown c.requires.diagram c.requires.leads room None);
      less = omega (arith, room, ap (λ (l : Entries). length l) table, length-append q.table ((c.args.question, None) ∷ []), ap (λ (l : List Held). length l) h.pending, length-append q.pending.items (h.held ∷ []), ap (λ (l : List Held). length l) judged);
    }
