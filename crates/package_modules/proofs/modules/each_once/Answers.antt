use Rattle.std.proofs.Common.{◌≡◌, ◌||◌, ◌<◌, ◌∙◌, ℕ, List, [], nat_cmp, take, length, get_or, subst, sym, true, cond, arith}
use Rattle.std.specs.BTreeSet.{contains}
use Rattle.std.specs.Cmp.Lexicographic.{slice_cmp}
use Rattle.std.specs.List.{list_any}
use Rattle.std.specs.Ordering.{is_eq}
use Rattle.std.specs.Str.{bytes_eq, chars}
use Rattle.std.proofs.lemmas.List.{take_more}
use Rattle.package_modules.proofs.Known.{known-first, known-more, none-at}
use Rattle.package_modules.proofs.modules.each_once.Goals as goal

pub loop-folder-init : goal.loop-folder-init
unfolding chars
loop-folder-init c = λ q.
    let new = c.insert.new.self in
    let old = c.new-known.result in
    let Put : List ℕ → Type 0 = λ k. contains (slice_cmp nat_cmp) new q ≡ cond (is_eq (slice_cmp nat_cmp k q)) true (contains (slice_cmp nat_cmp) old q) in
    known-first q (contains (slice_cmp nat_cmp) old q) (contains (slice_cmp nat_cmp) new q) (subst Put c.in_ok-new.ensures (c.in_ok-insert.ensures.updates.0 q)) (none-at c.new-known.result.keys c.new-known.ensures.empty q)

pub loop-folder-preserved : goal.loop-folder-preserved
loop-folder-preserved c = λ q.
    let folders = c.args.folders.now in
    let i = c.loop-folder.folder-index in
    let item = c.folder-item.result in
    let lt : i < length folders = omega arith in
    let new = c.insert-in-loop-folder.new.self in
    let old = c.loop-folder.known in
    let key : c.share.result ≡ get_or folders i item = c.share.ensures ∙ (c.as_text.ensures ∙ c.folder-item.is) in
    let Put : List ℕ → Type 0 = λ k. contains (slice_cmp nat_cmp) new q ≡ cond (is_eq (slice_cmp nat_cmp k q)) true (contains (slice_cmp nat_cmp) old q) in
    let Known : List (List ℕ) → Type 0 = λ fs. contains (slice_cmp nat_cmp) new q ≡ (bytes_eq q [] || list_any (bytes_eq q) fs) in
    subst Known (sym (take_more folders i item lt))
    (known-more (get_or folders i item) q (take i folders) (contains (slice_cmp nat_cmp) old q) (contains (slice_cmp nat_cmp) new q)
    (subst Put key (c.in_ok-insert-2.ensures.updates.0 q)) (c.loop-folder.invariant q))
