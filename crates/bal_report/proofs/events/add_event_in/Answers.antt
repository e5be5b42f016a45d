use Rattle.std.proofs.Common.{◌++◌, codes, rules, subst, OnOk, append_assoc}
use Rattle.bal_report.specs.EventText.{definition_around, position_at, worker_name, workers_in}
use Rattle.bal_report.proofs.Words.{bytes-of}
use Rattle.text_forms.specs.Forms.{Adds, written}
use Rattle.bal_report.proofs.events.add_event_in.Goals as goal

pub returns : goal.returns
returns c =
    let file = c.args.file.now in
    let event = c.args.event.now in
    let name = worker_name (workers_in (definition_around file.tree.defs.items event.at.at)) event.worker in
    let told : OnOk c.add_position.result (Adds (written c.args.out.now) (name ++ codes " " ++ position_at c.as_str.result.now event.at.at) (written c.add_position.new.out)) = search (rules, append_assoc) in
    subst (λ bytes. OnOk c.add_position.result (Adds (written c.args.out.now) (name ++ codes " " ++ position_at bytes event.at.at) (written c.add_position.new.out)))
    (bytes-of c.as_str.result.now file.text c.as_str.utf8 c.as_str.ensures.value) told
