use Rattle.std.proofs.Common.{◌≡◌, ◌∙◌, false, sym, true}
use Rattle.type_model.specs.declared.basic.SemType.{SemType}
use Rattle.code_needs.specs.Combining.{◌&◌, need}
use Rattle.code_needs.specs.Needs.{Below}
use Rattle.needs_of_rows.proofs.Finding.{found-refused}
use Rattle.needs_of_rows.proofs.ListNeeds.{zip-none}
use Rattle.needs_of_rows.proofs.lists.same_each.Goals as goal

pub returns-in-false : goal.returns-in-false
returns-in-false c =
    found-refused _ _ _ (zip-none (λ (s t : SemType). need (Below s t) & need (Below t s)) c.args.ss.now c.args.ts.now (λ e. let bad : false ≡ true = sym c.in-false.is ∙ c.are_as_many.ensures.1 e in let bot : ⊥ = cc in bot)) c.refuse.ensures
