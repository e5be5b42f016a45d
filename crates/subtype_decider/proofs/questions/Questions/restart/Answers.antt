use Rattle.std.proofs.Common.{◌≡◌, ◌<◌, ◌≤◌, ◌++◌, ℕ, List, length, get_or, map, take, drop, ap, ◌∙◌, append-nil, length-append, arith}
use Rattle.std.proofs.lemmas.List.{take_all, drop_all, length-drop}
use Rattle.std.proofs.lemmas.List.Edits.{map_over_more}
use Rattle.subtype_decider.specs.declared.held.Held.{Held}
use Rattle.subtype_decider.specs.Working.{from_first}
use Rattle.subtype_decider.proofs.Members.{any_default}
use Rattle.subtype_decider.proofs.questions.Questions.restart.Goals as goal

pub loop-held-preserved : goal.loop-held-preserved
loop-held-preserved c =
    let all = c.deref_mut-held-items.result.now in
    let now = c.loop-held.held-items in
    let i = c.loop-held.held-index in
    let x = get_or now i c.held-item.result in
    let lt : i < length all = omega arith in
    let there : i < length now = omega (arith, c.loop-held.auto.held-items) in
    map_over_more from_first all now i x lt c.loop-held.invariant (any_default now i c.held-item.result x there)

-- each is passed
passed : (all now : List Held) (i : _) → now ≡ map from_first (take i all) ++ drop i all → length all ≤ i → now ≡ map from_first all
passed all now i e le = e ∙ ap (λ l. map from_first (take i all) ++ l) (drop_all i all le) ∙ append-nil (map from_first (take i all)) ∙ ap (map from_first) (take_all i all le)

-- what a vector has when all of it was written to
written : (len : ℕ) (was now : List Held) → length now ≡ length was → len ≡ length now → take len (now ++ drop (length now) was) ≡ now
written len was now same e =
    take_all len (now ++ drop (length now) was) (omega (arith, same, e, length-append now (drop (length now) was), length-drop (length now) was))
    ∙ ap (λ l. now ++ l) (drop_all (length now) was (omega (arith, same))) ∙ append-nil now

pub returns-clause-again : goal.returns-clause-again
returns-clause-again c =
    let all = c.deref_mut-held-items.result.now in
    let now = c.loop-held.held-items in
    let y = c.swap.new.y in
    let long : length now ≡ length y.items = omega (arith, c.loop-held.auto.held-items, ap (length {A = Held}) c.deref_mut-held-items.ensures.value) in
    let len : y.len ≡ length now = omega (arith, long, c.deref_mut-held-items.ensures.len, c.loop-held.auto.held-items) in
    record {
      pending = written y.len y.items now long len
          ∙ passed all now c.loop-held.held-index c.loop-held.invariant c.loop-held-test.false
          ∙ ap (map from_first) (c.deref_mut-held-items.ensures.value ∙ ap (λ v. v.items) c.swap.ensures.y_after ∙ c.in_ok-append.ensures.items);
      judged = ap (λ v. v.items) c.swap.ensures.x_after ∙ c.in_ok-append.ensures.other_items;
    }
