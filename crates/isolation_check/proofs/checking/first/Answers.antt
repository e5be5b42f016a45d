use Rattle.std.proofs.Common.{rules, subst, sym, ◌≡◌, []}
use Rattle.std.specs.Prelude.{All}
use Rattle.std.proofs.lemmas.List.Elements.{All-nil, All-push}
use Rattle.isolation_check.specs.declared.walk.OpenBody.{OpenBody}
use Rattle.isolation_check.specs.inner.Opened.{AreBelow}
use Rattle.isolation_check.specs.inner.Views.{parts_of}
use Rattle.isolation_check.specs.Typed.{PartBelow}
use Rattle.isolation_check.proofs.checking.first.Goals as goal

pub returns-clause-below : goal.returns-clause-below
returns-clause-below c = λ n all.
    let none : c.new-stack.result.items ≡ [] = search rules in
    subst (AreBelow n) (sym c.in_ok-push.ensures.items)
    (All-push (λ (b : OpenBody). All (PartBelow n) (parts_of b.parts.now)) c.new-stack.result.items _ (subst (AreBelow n) (sym none) (All-nil (λ (b : OpenBody). All (PartBelow n) (parts_of b.parts.now))))
    (subst (λ xs. All (PartBelow n) (parts_of xs)) (sym c.as_slice.ensures.value) all))
