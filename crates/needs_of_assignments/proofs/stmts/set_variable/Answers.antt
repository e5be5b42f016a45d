use Rattle.std.proofs.Common.{◌≡◌, ◌∙◌, ◌∷◌, [], rules}
use Rattle.needs_of_assignments.proofs.stmts.set_variable.Goals as goal

pub returns : goal.returns
returns c =
    let made : c.push.new.self.items ≡ c.args.value.value ∷ [] = search rules in
    (c.perform.ensures.0, c.perform.ensures.1, c.perform.ensures.2 ∙ made)
