use Rattle.std.proofs.Common.{◌≡◌, ◌+◌, ◌++◌, ◌∙◌, chars, string_bytes, length, sym, ap, arith, length-append}
use Rattle.shared_string.proofs.Ascii.{chars-short}
use Rattle.shared_string.proofs.Joining.{joined-chars}
use Rattle.shared_string.proofs.counted.Counted.join.Goals as goal
use Rattle.shared_string.proofs.counted.Counted.join.Goals.{In_ok-push_str-2}

first-count : (c : In_ok-push_str-2) → c.first.inside.points ≡ length (chars c.as_str-front.result.now)
first-count c = c.first.invariant ∙ ap (λ bs. length (chars bs)) (sym c.as_str-front.ensures.value)

second-count : (c : In_ok-push_str-2) → c.second.inside.points ≡ length (chars c.as_str-back.result.now)
second-count c = c.second.invariant ∙ ap (λ bs. length (chars bs)) (sym c.as_str-back.ensures.value)

both-chars : (c : In_ok-push_str-2) → chars (string_bytes c.push_str-2.new.self) ≡ chars c.as_str-front.result.now ++ chars c.as_str-back.result.now
both-chars c =
    joined-chars _ _ _ c.as_str-front.result.now c.as_str-back.result.now c.in_ok-text.ensures.bytes c.in_ok-push_str.ensures.bytes c.in_ok-push_str-2.ensures.bytes c.as_str-front.utf8

pub overflow_add-result : goal.overflow_add-result
overflow_add-result c =
    omega (arith, first-count c, second-count c, chars-short c.as_str-front.result.now c.as_str-front.utf8, chars-short c.as_str-back.result.now c.as_str-back.utf8)

pub invariant_of-result : goal.invariant_of-result
invariant_of-result c =
    let front = chars c.as_str-front.result.now in
    let back = chars c.as_str-back.result.now in
    (λ i. first-count c i + second-count c i) ∙ sym (ap length (both-chars c) ∙ length-append front back)

pub returns : goal.returns
returns c =
    both-chars c ∙ (λ i. ap chars c.as_str-front.ensures.value i ++ ap chars c.as_str-back.ensures.value i) ∙ (λ i. c.first.view_is i ++ c.second.view_is i)
