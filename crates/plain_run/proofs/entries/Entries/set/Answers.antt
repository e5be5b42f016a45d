use Rattle.std.proofs.Common.{◌≡◌, ◌∙◌, ◌++◌, ◌∷◌, [], ap, get_or, position, rules, slice_set, subst, sym}
use Rattle.std.specs.Prelude.{OnOk}
use Rattle.op_model.specs.Stores.{set_entry}
use Rattle.plain_run.proofs.KeyPlaces.{has_key, set-no-position, set-position}
use Rattle.plain_run.proofs.entries.Entries.set.Goals as goal

pub returns-in-Some-clause-set : goal.returns-in-Some-clause-set
returns-in-Some-clause-set c =
    let key = c.args.key.now in
    let v = c.args.v in
    let es = c.self.inside.items.items in
    let e = c.index.result.now in
    let is : e ≡ get_or es c.in-Some.i e = search rules in
    ap (λ k. slice_set es c.in-Some.i (k, v)) (c.share-kept.ensures ∙ ap (λ x. x.0) is)
    ∙ (set-position key v es c.in-Some.i e (ap (position (has_key key)) c.self.view_is ∙ sym c.in-Some.ensures.place)
    ∙ ap (λ xs. set_entry xs key v) (c.self.view_is ∙ c.make_index.ensures))

pub returns-in-None-clause-set : goal.returns-in-None-clause-set
returns-in-None-clause-set c =
    let key = c.args.key.now in
    let v = c.args.v in
    let none = ap (position (has_key key)) (sym c.make_index.ensures) ∙ sym c.in-None.ensures.place in
    subst (λ xs. OnOk c.push.result (c.push.new.self ≡ xs)) ((λ i. c.make_index.ensures i ++ (c.share.ensures i, v) ∷ []) ∙ set-no-position key v c.args.self.now none) c.push.ensures.pushed
