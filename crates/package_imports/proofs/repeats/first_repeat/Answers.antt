use Rattle.std.proofs.Common.{◌≡◌, ◌∙◌, ◌<◌, ℕ, List, true, cond, length, nat_cmp, ap, refl, subst, sym}
use Rattle.std.specs.BTreeSet.{contains}
use Rattle.std.specs.Cmp.Lexicographic.{slice_cmp}
use Rattle.std.specs.List.{list_any}
use Rattle.std.specs.Ordering.{is_eq}
use Rattle.std.specs.Str.{bytes_eq}
use Rattle.package_imports.specs.Imports.{prefix_of}
use Rattle.package_imports.proofs.Prefixes.{known-more, none-at}
use Rattle.package_imports.proofs.Stepping.{before, before-more, repeat-here, repeat-later, repeat-never}
use Rattle.package_imports.proofs.repeats.first_repeat.Goals as goal

pub loop-import-init : goal.loop-import-init
loop-import-init c = (λ q. none-at c.new-known.result.keys c.new-known.ensures.empty q, refl)

pub returns-then-contains : goal.returns-then-contains
returns-then-contains c =
    let imports = c.args.imports.now in
    let i = c.loop-import.import-index in
    let item = c.import-item.result in
    let word : c.as_text-word.result.now ≡ prefix_of item = c.as_text-word.ensures ∙ c.prefix.ensures in
    let known = sym (c.loop-import.invariant.0 (prefix_of item)) ∙ (sym (ap (contains (slice_cmp nat_cmp) c.loop-import.known) word) ∙ (sym c.contains.ensures ∙ c.if-contains.true)) in
    repeat-here imports i item c.loop-import-test.true c.import-item.is known c.loop-import.invariant.1

pub loop-import-preserved : goal.loop-import-preserved
loop-import-preserved c =
    let imports = c.args.imports.now in
    let i = c.loop-import.import-index in
    let item = c.import-item.result in
    let lt : i < length imports = c.loop-import-test.true in
    let old = c.loop-import.known in
    let new = c.insert.new.self in
    let word : c.as_text-word.result.now ≡ prefix_of item = c.as_text-word.ensures ∙ c.prefix.ensures in
    let key : c.share.result ≡ prefix_of item = c.share.ensures ∙ word in
    let fresh = sym (c.loop-import.invariant.0 (prefix_of item)) ∙ (sym (ap (contains (slice_cmp nat_cmp) old) word) ∙ (sym c.contains.ensures ∙ c.if-contains.false)) in (
      λ q.
          let Put : List ℕ → Type 0 = λ k. contains (slice_cmp nat_cmp) new q ≡ cond (is_eq (slice_cmp nat_cmp k q)) true (contains (slice_cmp nat_cmp) old q) in
          let Known : List (List ℕ) → Type 0 = λ fs. contains (slice_cmp nat_cmp) new q ≡ list_any (bytes_eq q) fs in
          subst Known (sym (before-more imports i item lt c.import-item.is))
          (known-more (prefix_of item) q (before imports i) (contains (slice_cmp nat_cmp) old q) (contains (slice_cmp nat_cmp) new q) (subst Put key (c.in_ok-insert.ensures.updates.0 q)) (c.loop-import.invariant.0 q)),
      repeat-later imports i item lt c.import-item.is fresh c.loop-import.invariant.1,
    )

pub returns : goal.returns
returns c = repeat-never c.args.imports.now c.loop-import.import-index c.loop-import-test.false c.loop-import.invariant.1
