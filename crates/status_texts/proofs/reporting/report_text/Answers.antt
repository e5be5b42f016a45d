use Rattle.std.proofs.Common.{inl, inr, refl}
use Rattle.status_texts.proofs.ReportFacts.{both-fronts, faults-of-two, text-of}
use Rattle.status_texts.proofs.reporting.report_text.Goals as goal

pub returns-in-Ok : goal.returns-in-Ok
returns-in-Ok g c =
    let text = text-of c.args.modules.now c.args.due c.requires.text in
    inl (record {
      answer = refl;
      no_memory = c.requires.no_memory;
      faults = c.in-Ok.ensures.faults;
      written = (text.0, text.1, c.in-Ok.ensures.ok text.0 text.1);
    })

pub returns-in-Err-Fault : goal.returns-in-Err-Fault
returns-in-Err-Fault g c =
    let text = text-of c.args.modules.now c.args.due c.requires.text in
    let rose = rw c.in-Err-Fault.field-0-is at c.in-Err-Fault.ensures.faults in
    inr (inl (record {
      answer = refl;
      no_memory = c.requires.no_memory;
      not_done = c.requires.not_done;
      faults = rose;
      written = (text.0, text.1, c.in-Err-Fault.ensures.err text.0 text.1);
    }))

pub returns : goal.returns
returns g c =
    let text = text-of c.args.modules.now c.args.due c.requires.text in
    let front = c.report_memory.ensures.front in
    let same = rw c.in-Err-Memory.field-0-is at c.in-Err-Memory.ensures.faults in
    inr (inr (record {
      answer = c.report_memory.ensures.memory;
      not_done = c.requires.not_done;
      faults = faults-of-two _ _ _ same c.report_memory.ensures.faults;
      written = inr (c.requires.no_memory, (text.0, front.0, text.1, front.1, both-fronts text.0 front.0 _ _ _ (c.in-Err-Memory.ensures.err text.0 text.1) front.2));
    }))
