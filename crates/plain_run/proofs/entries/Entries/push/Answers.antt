use Rattle.std.proofs.Common.{◌≡◌, length, option_map, rules, subst, sym}
use Rattle.plain_run.specs.Entries.{IsIndex}
use Rattle.plain_run.proofs.entries.Entries.push.Goals as goal

pub invariant_of-self-2 : goal.invariant_of-self-2
invariant_of-self-2 c =
    let es = c.self.inside.items.items in
    let size : length es ≡ c.len.result = search rules in
    let before = subst (λ index. IsIndex es (option_map (λ b. b.value) index)) (sym c.replace-index.ensures.value) c.self.invariant in
    subst (λ xs. IsIndex xs (option_map (λ b. b.value) c.in_ok-index.index)) (sym c.in_ok-push.ensures.items) (c.in_ok-index.ensures es c.args.v size before)
