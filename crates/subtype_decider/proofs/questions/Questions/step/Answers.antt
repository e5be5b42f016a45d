use Rattle.std.proofs.Common.{◌++◌, take, map, subst, ap, refl, ◌∙◌}
use Rattle.subtype_decider.specs.Entries.{KnowsAll}
use Rattle.subtype_decider.specs.Working.{LastSays, from_first}
use Rattle.subtype_decider.proofs.Dropped.{Entries}
use Rattle.subtype_decider.proofs.Works.{works-same}
use Rattle.subtype_decider.proofs.Stepped.{ask-leads, found-KnowsAll, pending-known, refuted, refuted-first, retired}
use Rattle.subtype_decider.proofs.questions.Questions.step.Goals as goal

pub enter-requires-clause-leads : goal.enter-requires-clause-leads
enter-requires-clause-leads g c =
    let call = c.args.call.now in
    let q = c.judge_next.new.self in
    let says = subst (LastSays call.env.now q.diagrams q.table q.pending.items) c.in-Ask.is c.in_ok-judge_next.ensures.says in
    ask-leads call.env.now call.first call.start q.diagrams q.table q.pending.items q.judged.items c.judge_next.ensures.working c.in-Ask.question says

pub refute-requires-clause-known : goal.refute-requires-clause-known
refute-requires-clause-known g c =
    let call = c.args.call.now in
    let q = c.judge_next.new.self in
    pending-known call.env.now call.first call.start q.diagrams q.table q.pending.items q.judged.items c.judge_next.ensures.working

pub returns-in_err-refute-in-Shape-clause-began : goal.returns-in_err-refute-in-Shape-clause-began
returns-in_err-refute-in-Shape-clause-began g c =
    let call = c.args.call.now in
    let q = c.judge_next.new.self in
    let says = subst (LastSays call.env.now q.diagrams q.table q.pending.items) c.in-Shape.is c.in_ok-judge_next.ensures.says in
    let k = c.refute.ensures.kept in
    refuted-first call.env.now call.first call.start q.diagrams q.table q.pending.items q.judged.items c.judge_next.ensures.working k.front k.held k.was c.refute.new.self.table c.in-Shape.shape says k.found k.apart
    ∙ ap (λ (l : Entries). take call.start l) c.judge_next.ensures.table

pub returns-in_ok-refute-in-Shape-clause-began : goal.returns-in_ok-refute-in-Shape-clause-began
returns-in_ok-refute-in-Shape-clause-began g c =
    let call = c.args.call.now in
    let q = c.judge_next.new.self in
    let says = subst (LastSays call.env.now q.diagrams q.table q.pending.items) c.in-Shape.is c.in_ok-judge_next.ensures.says in
    let k = c.refute.ensures.kept in
    refuted-first call.env.now call.first call.start q.diagrams q.table q.pending.items q.judged.items c.judge_next.ensures.working k.front k.held k.was c.refute.new.self.table c.in-Shape.shape says k.found k.apart
    ∙ ap (λ (l : Entries). take call.start l) c.judge_next.ensures.table

pub returns-in_ok-retire-in-Empty-clause-working : goal.returns-in_ok-retire-in-Empty-clause-working
returns-in_ok-retire-in-Empty-clause-working g c =
    let call = c.args.call.now in
    let q = c.judge_next.new.self in
    let new = c.retire.new.self in
    let says = subst (LastSays call.env.now q.diagrams q.table q.pending.items) c.in-Empty.is c.in_ok-judge_next.ensures.says in
    let m = c.in_ok-retire-in-Empty.ensures.moved in
    works-same call.env.now call.first call.start q.diagrams new.diagrams q.table new.table m.front new.pending.items _ new.judged.items c.retire.ensures.diagrams c.retire.ensures.table m.pending m.judged
    (retired call.env.now call.first call.start q.diagrams q.table q.pending.items q.judged.items c.judge_next.ensures.working m.front m.held m.was says)

pub returns-in_ok-refute-in-Shape-clause-working : goal.returns-in_ok-refute-in-Shape-clause-working
returns-in_ok-refute-in-Shape-clause-working g c =
    let call = c.args.call.now in
    let q = c.judge_next.new.self in
    let new = c.refute.new.self in
    let says = subst (LastSays call.env.now q.diagrams q.table q.pending.items) c.in-Shape.is c.in_ok-judge_next.ensures.says in
    let r = c.in_ok-refute-in-Shape.ensures.refuted in
    let k = r.kept in
    works-same call.env.now call.first call.start q.diagrams new.diagrams new.table new.table (map from_first (q.judged.items ++ k.front)) new.pending.items _ new.judged.items c.refute.ensures.diagrams refl r.pending r.judged
    (refuted call.env.now call.first call.start q.diagrams q.table q.pending.items q.judged.items c.judge_next.ensures.working k.front k.held k.was new.table c.in-Shape.shape says k.found k.apart)

pub returns-in_ok-refute-in-Shape-clause-knows : goal.returns-in_ok-refute-in-Shape-clause-knows
returns-in_ok-refute-in-Shape-clause-knows g c =
    let k = c.refute.ensures.kept in
    subst (λ (l : Entries). KnowsAll l c.refute.new.self.table) c.judge_next.ensures.table
    (found-KnowsAll c.judge_next.new.self.table c.refute.new.self.table k.held.question c.in-Shape.shape k.found)
