use Rattle.std.proofs.Common.{◌≡◌, List, Contains, sym, ap, subst, ◌∙◌}
use Rattle.std.proofs.lemmas.Map.Lookups.{exact_bytes}
use Rattle.std.specs.List.{insert}
use Rattle.bal_base.specs.declared.text.Text.{Text}
use Rattle.empty_product.specs.Keys.{AreInOrder, HasAdded}
use Rattle.empty_product.proofs.KeyInsert.{insert-added, insert-ordered, there-added}
use Rattle.plain_tests.proofs.keys.add_key.Goals as goal

pub returns-in-Ok-clause-added : goal.returns-in-Ok-clause-added
returns-in-Ok-clause-added c =
    let keys = c.args.keys.now.items in
    let key = c.args.key.now in
    let same = exact_bytes _ key (c.in-Ok.ensures.ok key) in
    there-added keys key (subst (λ (xs : List Text). Contains xs key) c.as_slice.ensures.value (c.in-Ok._place, c.in-Ok.ensures.bound, same))

pub returns-in_ok-insert-in-Err-clause-ordered : goal.returns-in_ok-insert-in-Err-clause-ordered
returns-in_ok-insert-in-Err-clause-ordered c =
    let xs = c.as_slice.result.now in
    let key = c.args.key.now in
    let place = c.in-Err.place in
    let e : insert xs place key ≡ c.insert.new.self.items = (λ i. insert (c.as_slice.ensures.value i) place key) ∙ ap (insert c.args.keys.now.items place) (sym c.share.ensures) ∙ sym c.in_ok-insert-in-Err.ensures.items in
    subst AreInOrder e (insert-ordered xs place key c.in-Err.ensures.bound (subst AreInOrder (sym c.as_slice.ensures.value) c.requires) c.as_str-scalars.ensures.scalars c.in-Err.ensures.position)

pub returns-in_ok-insert-in-Err-clause-added : goal.returns-in_ok-insert-in-Err-clause-added
returns-in_ok-insert-in-Err-clause-added c =
    let xs = c.as_slice.result.now in
    let keys = c.args.keys.now.items in
    let key = c.args.key.now in
    let place = c.in-Err.place in
    let e : insert keys place key ≡ c.insert.new.self.items = ap (insert keys place) (sym c.share.ensures) ∙ sym c.in_ok-insert-in-Err.ensures.items in
    let added = insert-added xs place key c.in-Err.ensures.bound (subst AreInOrder (sym c.as_slice.ensures.value) c.requires) c.as_str-scalars.ensures.scalars in
    subst (HasAdded (λ k. k ≡ key) keys) e (subst (λ ys. HasAdded (λ k. k ≡ key) ys (insert ys place key)) c.as_slice.ensures.value added)
