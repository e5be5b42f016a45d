use Rattle.std.proofs.Common.{◌≡◌, ◌∙◌, ap, arith, length, map, rules, sym}
use Rattle.std.proofs.lemmas.List.{length-map}
use Rattle.worker_pairing.specs.Marks.{in_text}
use Rattle.worker_members.specs.Held.{members_held, numbered_held}
use Rattle.worker_plans.proofs.Same.{long-ok, not-long}
use Rattle.worker_plans.proofs.checking.has_numbering.Goals as goal

pub returns-then-ranks-len : goal.returns-then-ranks-len
returns-then-ranks-len c =
    let all : length c.args.found.now.text.items ≡ length (in_text (members_held c.args.found.now.members)) = sym (length-map c.args.found.now.text.items numbered_held) ∙ ap length c.requires in
    let long : c.len.result ≡ length c.args.found.now.text.items = search rules in
    not-long (members_held c.args.found.now.members) c.args.ranks.now (λ e. omega (arith, e, all, long))

pub returns : goal.returns
returns c =
    let all : length c.args.found.now.text.items ≡ length (in_text (members_held c.args.found.now.members)) = sym (length-map c.args.found.now.text.items numbered_held) ∙ ap length c.requires in
    let long : c.len.result ≡ length c.args.found.now.text.items = search rules in
    let same : length c.args.ranks.now ≡ length (in_text (members_held c.args.found.now.members)) = omega (arith, all, long) in
    long-ok c.deref.result.now c.args.found.now.members.workers.items c.args.ranks.now c.ranks_rise.result c.deref.ensures.value same c.ranks_rise.ensures
