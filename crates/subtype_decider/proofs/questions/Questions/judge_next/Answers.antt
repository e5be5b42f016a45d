use Rattle.std.proofs.Common.{◌≡◌, ◌<◌, ◌+◌, ◌-◌, length, take, set, arith}
use Rattle.subtype_decider.proofs.LastQuestion.{here-CanJudge, works-judged, limit-LeadsPast, written-last, result-LastSays}
use Rattle.subtype_decider.proofs.questions.Questions.judge_next.Goals as goal

pub judge-requires : goal.judge-requires
judge-requires g c =
    let q = c.args.self.now in
    let call = c.args.call.now in
    let h = c.index_mut.result.now in
    let lt : c.len-next.result - 1 < length q.pending.items = omega (arith, c.requires.some, c.len-next.ensures) in
    here-CanJudge call.env.now call.first call.start q.diagrams q.table q.pending.items q.judged.items c.requires.working (c.len-next.result - 1) h lt c.index_mut.ensures.value

pub returns-clause-working : goal.returns-clause-working
returns-clause-working g c =
    let q = c.args.self.now in
    let call = c.args.call.now in
    let h = c.index_mut.result.now in
    let lt : c.len-next.result - 1 < length q.pending.items = omega (arith, c.requires.some, c.len-next.ensures) in
    works-judged call.env.now call.first call.start q.diagrams q.table q.pending.items q.judged.items c.requires.working (c.len-next.result - 1) h lt c.index_mut.ensures.value
    c.judge.new.diagrams c.judge.ensures.extends c.judge.new.self c.judge.ensures.same c.judge.ensures.can

pub returns-clause-says : goal.returns-clause-says
returns-clause-says g c =
    let q = c.args.self.now in
    let i = c.len-next.result - 1 in
    let last : i + 1 ≡ length q.pending.items = omega (arith, c.requires.some, c.len-next.ensures) in
    result-LastSays c.args.call.now.env.now c.judge.new.diagrams q.table (set q.pending.items i c.judge.new.self) (take i q.pending.items) c.judge.new.self c.judge.result (written-last q.pending.items i c.judge.new.self last) c.judge.ensures.says

pub returns-clause-limit : goal.returns-clause-limit
returns-clause-limit g c =
    let q = c.args.self.now in
    let call = c.args.call.now in
    let h = c.index_mut.result.now in
    let lt : c.len-next.result - 1 < length q.pending.items = omega (arith, c.requires.some, c.len-next.ensures) in
    limit-LeadsPast call.env.now call.first call.start q.diagrams q.table q.pending.items q.judged.items c.requires.working (c.len-next.result - 1) h lt c.index_mut.ensures.value
    c.judge.new.diagrams c.judge.ensures.extends c.judge.new.self c.judge.ensures.same c.judge.ensures.can c.judge.result c.judge.ensures.limit
