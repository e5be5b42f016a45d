use Rattle.std.proofs.Common.{ℕ, ◌≡◌, ◌↔◌, ◌+◌, ◌-◌, ◌<◌, ◌^◌, length, Any, sym, ap, subst, ◌∙◌, arith}
use Rattle.type_diagrams.specs.Conditions.{Condition, nothing}
use Rattle.type_diagrams.specs.Members.{Fixes}
use Rattle.type_diagrams.proofs.AskedDiagrams.{then_all}
use Rattle.type_diagrams.proofs.Shapes.{IfOk-map, gives-keeps}
use Rattle.type_diagrams.proofs.Tellings.{sound-keeps}
use Rattle.empty_product.specs.Items.{TellsIndex, TellsListsBefore}
use Rattle.empty_product.specs.Lists.{AreAsked, IsSameFrom, item_asked}
use Rattle.empty_product.proofs.ItemIndexes.{any-TellsIndex}
use Rattle.empty_product.proofs.Looking.{asked-IsLooking}
use Rattle.empty_product.proofs.LongerLists.{before-longest, item_asked-behind}
use Rattle.empty_product.proofs.list_items.path_items.Goals as goal

pub items_at_index-requires-clause-bases : goal.items_at_index-requires-clause-bases
items_at_index-requires-clause-bases g c =
    let env = c.args.context.now.env.now in
    let wanted = c.args.literals.now.wanted.now in
    let marked = c.args.literals.now.marked in
    let base_of : ℕ → Condition = item_asked env wanted marked in
    let mid = c.further_bases.new.dia in
    let qs = c.as_slice-bases.result.now in
    let asked = subst (AreAsked mid base_of) (sym c.as_slice-bases.ensures.value) c.in_ok-made.ensures.made in
    asked-IsLooking env mid wanted marked qs asked

pub items_at_index-requires-clause-wanted_before : goal.items_at_index-requires-clause-wanted_before
items_at_index-requires-clause-wanted_before g c =
    let env = c.args.context.now.env.now in
    let wanted = c.args.literals.now.wanted.now in
    let qs = c.as_slice-bases.result.now in
    let n = c.max-prefix.result in
    let long : length qs ≡ n + 2 = ap length c.as_slice-bases.ensures.value ∙ c.in_ok-made.ensures.count in
    let is_wanted = subst (λ e. (place : ℕ) → (place < c.longest_prefix-longest.result) ↔ Any (Fixes e place) wanted) c.defs.ensures.value c.longest_prefix-longest.ensures in
    before-longest env wanted c.longest_prefix-longest.result (length qs - 2) is_wanted (omega (arith, long, c.max-prefix.ensures))

pub items_at_index-requires-clause-unwanted_before : goal.items_at_index-requires-clause-unwanted_before
items_at_index-requires-clause-unwanted_before g c =
    let env = c.args.context.now.env.now in
    let unwanted = c.args.literals.now.unwanted.now in
    let qs = c.as_slice-bases.result.now in
    let n = c.max-prefix.result in
    let long : length qs ≡ n + 2 = ap length c.as_slice-bases.ensures.value ∙ c.in_ok-made.ensures.count in
    let is_unwanted = subst (λ e. (place : ℕ) → (place < c.longest_prefix-other.result) ↔ Any (Fixes e place) unwanted) c.defs-2.ensures.value c.longest_prefix-other.ensures in
    before-longest env unwanted c.longest_prefix-other.result (length qs - 2) is_unwanted (omega (arith, long, c.max-prefix.ensures))

pub items_at_index-requires-clause-never : goal.items_at_index-requires-clause-never
items_at_index-requires-clause-never g c =
    let old = c.args.dia.now in
    let mid = c.further_bases.new.dia in
    gives-keeps old mid nothing c.args.never c.further_bases.ensures.extends.keeps c.requires.never

pub items_at_index-requires-clause-sound : goal.items_at_index-requires-clause-sound
items_at_index-requires-clause-sound g c =
    let env = c.args.context.now.env.now in
    let kept = g.M.Member.kept c.args.context.now.m.now in
    let old = c.args.dia.now in
    let mid = c.further_bases.new.dia in
    sound-keeps env old mid kept c.further_bases.ensures.extends.keeps c.requires.sound

pub items_before-requires-clause-bases : goal.items_before-requires-clause-bases
items_before-requires-clause-bases g c =
    let env = c.args.context.now.env.now in
    let wanted = c.args.literals.now.wanted.now in
    let marked = c.args.literals.now.marked in
    let base_of : ℕ → Condition = item_asked env wanted marked in
    let mid = c.further_bases.new.dia in
    let qs = c.as_slice-bases.result.now in
    let asked = subst (AreAsked mid base_of) (sym c.as_slice-bases.ensures.value) c.in_ok-made.ensures.made in
    asked-IsLooking env mid wanted marked qs asked

pub items_before-requires-clause-wanted_before : goal.items_before-requires-clause-wanted_before
items_before-requires-clause-wanted_before g c =
    let env = c.args.context.now.env.now in
    let wanted = c.args.literals.now.wanted.now in
    let qs = c.as_slice-bases.result.now in
    let n = c.max-prefix.result in
    let long : length qs ≡ n + 2 = ap length c.as_slice-bases.ensures.value ∙ c.in_ok-made.ensures.count in
    let is_wanted = subst (λ e. (place : ℕ) → (place < c.longest_prefix-longest.result) ↔ Any (Fixes e place) wanted) c.defs.ensures.value c.longest_prefix-longest.ensures in
    before-longest env wanted c.longest_prefix-longest.result (length qs - 1) is_wanted (omega (arith, long, c.max-prefix.ensures))

pub items_before-requires-clause-unwanted_before : goal.items_before-requires-clause-unwanted_before
items_before-requires-clause-unwanted_before g c =
    let env = c.args.context.now.env.now in
    let unwanted = c.args.literals.now.unwanted.now in
    let qs = c.as_slice-bases.result.now in
    let n = c.max-prefix.result in
    let long : length qs ≡ n + 2 = ap length c.as_slice-bases.ensures.value ∙ c.in_ok-made.ensures.count in
    let is_unwanted = subst (λ e. (place : ℕ) → (place < c.longest_prefix-other.result) ↔ Any (Fixes e place) unwanted) c.defs-2.ensures.value c.longest_prefix-other.ensures in
    before-longest env unwanted c.longest_prefix-other.result (length qs - 1) is_unwanted (omega (arith, long, c.max-prefix.ensures))

pub items_before-requires-clause-never : goal.items_before-requires-clause-never
items_before-requires-clause-never g c =
    let old = c.args.dia.now in
    let mid = c.further_bases.new.dia in
    gives-keeps old mid nothing c.args.never c.further_bases.ensures.extends.keeps c.requires.never

pub items_before-requires-clause-sound : goal.items_before-requires-clause-sound
items_before-requires-clause-sound g c =
    let env = c.args.context.now.env.now in
    let kept = g.M.Member.kept c.args.context.now.m.now in
    let old = c.args.dia.now in
    let mid = c.further_bases.new.dia in
    sound-keeps env old mid kept c.further_bases.ensures.extends.keeps c.requires.sound

pub returns-in-Some-clause-extends : goal.returns-in-Some-clause-extends
returns-in-Some-clause-extends g c =
    then_all _ _ _ _ c.further_bases.ensures.extends c.items_at_index.ensures.extends

pub returns-clause-extends : goal.returns-clause-extends
returns-clause-extends g c =
    then_all _ _ _ _ c.further_bases.ensures.extends c.items_before.ensures.extends

pub returns-in-Some-clause-tells : goal.returns-in-Some-clause-tells
returns-in-Some-clause-tells g c =
    let env = c.args.context.now.env.now in
    let wanted = c.args.literals.now.wanted.now in
    let unwanted = c.args.literals.now.unwanted.now in
    let marked = c.args.literals.now.marked in
    let kept = g.M.Member.kept c.args.context.now.m.now in
    let base_of : ℕ → Condition = item_asked env wanted marked in
    let mid = c.further_bases.new.dia in
    let qs = c.as_slice-bases.result.now in
    let n = c.max-prefix.result in
    let long : length qs ≡ n + 2 = ap length c.as_slice-bases.ensures.value ∙ c.in_ok-made.ensures.count in
    let is_wanted = subst (λ e. (place : ℕ) → (place < c.longest_prefix-longest.result) ↔ Any (Fixes e place) wanted) c.defs.ensures.value c.longest_prefix-longest.ensures in
    let wanted_before = before-longest env wanted c.longest_prefix-longest.result n is_wanted (omega (arith, c.max-prefix.ensures)) in
    let asked = subst (AreAsked mid base_of) (sym c.as_slice-bases.ensures.value) c.in_ok-made.ensures.made in
    let same = item_asked-behind env n wanted marked wanted_before in
    IfOk-map _ _ (λ p tells. subst (λ i. TellsIndex env base_of c.items_at_index.new.dia kept wanted unwanted i p) (sym c.in-Some.is)
    (tells base_of asked (subst (λ k. IsSameFrom k base_of) (omega (arith, long)) same))) c.items_at_index.result c.items_at_index.ensures.tells

pub returns-clause-tells : goal.returns-clause-tells
returns-clause-tells g c =
    let env = c.args.context.now.env.now in
    let wanted = c.args.literals.now.wanted.now in
    let unwanted = c.args.literals.now.unwanted.now in
    let marked = c.args.literals.now.marked in
    let kept = g.M.Member.kept c.args.context.now.m.now in
    let base_of : ℕ → Condition = item_asked env wanted marked in
    let mid = c.further_bases.new.dia in
    let qs = c.as_slice-bases.result.now in
    let n = c.max-prefix.result in
    let long : length qs ≡ n + 2 = ap length c.as_slice-bases.ensures.value ∙ c.in_ok-made.ensures.count in
    let is_wanted = subst (λ e. (place : ℕ) → (place < c.longest_prefix-longest.result) ↔ Any (Fixes e place) wanted) c.defs.ensures.value c.longest_prefix-longest.ensures in
    let is_unwanted = subst (λ e. (place : ℕ) → (place < c.longest_prefix-other.result) ↔ Any (Fixes e place) unwanted) c.defs-2.ensures.value c.longest_prefix-other.ensures in
    let wanted_before = before-longest env wanted c.longest_prefix-longest.result n is_wanted (omega (arith, c.max-prefix.ensures)) in
    let unwanted_before = before-longest env unwanted c.longest_prefix-other.result n is_unwanted (omega (arith, c.max-prefix.ensures)) in
    let asked = subst (AreAsked mid base_of) (sym c.as_slice-bases.ensures.value) c.in_ok-made.ensures.made in
    let same = item_asked-behind env n wanted marked wanted_before in
    IfOk-map _ _ (λ p tells. subst (λ i. TellsIndex env base_of c.items_before.new.dia kept wanted unwanted i p) (sym c.in-None.is)
    (any-TellsIndex env base_of n same wanted unwanted wanted_before unwanted_before c.items_before.new.dia kept p
    (subst (λ k. TellsListsBefore env base_of c.items_before.new.dia kept wanted unwanted (λ m. m < 2 ^ 63) k nothing p) (omega (arith, long))
    (tells base_of asked (item_asked-behind env (length qs - 1) wanted marked (before-longest env wanted c.longest_prefix-longest.result (length qs - 1) is_wanted (omega (arith, long, c.max-prefix.ensures)))))))) c.items_before.result c.items_before.ensures.tells
