use Rattle.std.proofs.Common.{◌≡◌, ◌∙◌, ◌+◌, ◌==◌, ap, arith, length, rules, sym}
use Rattle.std.proofs.lemmas.List.{length-map}
use Rattle.worker_members.specs.Held.{kind_of}
use Rattle.worker_faults.proofs.Counted.{kinds-none, kinds-read}
use Rattle.worker_ranks.proofs.Named.{next-never}
use Rattle.worker_ranks.proofs.nodes.is_last.Goals as goal

pub returns-in-Some : goal.returns-in-Some
returns-in-Some c =
    let long : c.len.result ≡ length c.in-Some.member.now.sayings.items = search rules in
    let kinds = kinds-read c.args.workers.now c.args.worker c.in-Some.member.now c.in-Some.ensures.lookup.3.0 c.in-Some.ensures.lookup.1 in
    c.ends_with.ensures ∙ ap (λ n. c.args.number + 1 == n) (long ∙ sym (length-map c.in-Some.member.now.sayings.items (λ s. kind_of s.kind)) ∙ ap length kinds)

pub returns-in-None : goal.returns-in-None
returns-in-None c = next-never c.args.number 0 (omega arith) ∙ ap (λ es. c.args.number + 1 == length es) (kinds-none c.args.workers.now c.args.worker c.in-None.ensures.lookup.3)
