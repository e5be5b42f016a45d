use Rattle.std.proofs.Common.{◌++◌, ◌∷◌, [], List, ap, ◌∙◌, append_assoc}
use Rattle.subtype_decider.specs.declared.held.Held.{Held}
use Rattle.subtype_decider.proofs.Dropped.{one-IsWithoutAll}
use Rattle.subtype_decider.proofs.table.Table.forget.Goals as goal

pub loop-last-preserved : goal.loop-last-preserved
loop-last-preserved c =
    let i = c.loop-last.invariant in
    let last = c.in-Some.last in
    let rest = c.pop.new.self.items in (
      last ∷ i.0,
      i.1 ∙ ap (λ (l : List Held). l ++ i.0) c.in-Some.ensures.items ∙ append_assoc rest (last ∷ []) i.0,
      one-IsWithoutAll c.args.self.now c.loop-last.self c.remove.new.self i.0 last i.2 c.remove.ensures.without,
      c.remove.ensures.apart,
    )
