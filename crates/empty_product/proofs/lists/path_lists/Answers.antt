use Rattle.std.proofs.Common.{ℕ, ◌≡◌, ◌↔◌, ◌+◌, ◌-◌, ◌<◌, length, All, Any, sym, ap, subst, ◌∙◌, arith}
use Rattle.type_diagrams.specs.Conditions.{Condition}
use Rattle.type_diagrams.specs.Tables.{IsDiagram}
use Rattle.type_diagrams.specs.Members.{Fixes}
use Rattle.type_diagrams.proofs.AskedDiagrams.{then_all}
use Rattle.type_diagrams.proofs.Shapes.{IfOk-map}
use Rattle.type_diagrams.proofs.Tellings.{sound-keeps}
use Rattle.empty_product.specs.Lists.{AreAsked, item_asked}
use Rattle.empty_product.proofs.ItemPlaces.{AreAsked-diagrams}
use Rattle.empty_product.proofs.LongerLists.{before-longest, item_asked-behind}
use Rattle.empty_product.proofs.lists.path_lists.Goals as goal

pub all_lists-requires-clause-bases : goal.all_lists-requires-clause-bases
all_lists-requires-clause-bases g c =
    let base : ℕ → Condition = item_asked c.args.context.now.env.now c.args.literals.now.wanted.now c.args.literals.now.marked in
    let new = c.bases.new.dia in
    subst (All (IsDiagram new)) (sym c.deref.ensures.value) (AreAsked-diagrams new base c.in_ok-bases.bases.items c.in_ok-bases.ensures.made)

pub all_lists-requires-clause-wanted_before : goal.all_lists-requires-clause-wanted_before
all_lists-requires-clause-wanted_before g c =
    let long : length c.deref.result.now ≡ c.max-prefix.result + 1 = ap length c.deref.ensures.value ∙ c.in_ok-bases.ensures.count in
    let is = subst (λ e. (place : ℕ) → (place < c.longest_prefix-longest.result) ↔ Any (Fixes e place) c.args.literals.now.wanted.now) c.defs.ensures.value c.longest_prefix-longest.ensures in
    before-longest c.args.context.now.env.now c.args.literals.now.wanted.now c.longest_prefix-longest.result (length c.deref.result.now - 1) is (omega (arith, long, c.max-prefix.ensures))

pub all_lists-requires-clause-unwanted_before : goal.all_lists-requires-clause-unwanted_before
all_lists-requires-clause-unwanted_before g c =
    let long : length c.deref.result.now ≡ c.max-prefix.result + 1 = ap length c.deref.ensures.value ∙ c.in_ok-bases.ensures.count in
    let is = subst (λ e. (place : ℕ) → (place < c.longest_prefix-other.result) ↔ Any (Fixes e place) c.args.literals.now.unwanted.now) c.defs-2.ensures.value c.longest_prefix-other.ensures in
    before-longest c.args.context.now.env.now c.args.literals.now.unwanted.now c.longest_prefix-other.result (length c.deref.result.now - 1) is (omega (arith, long, c.max-prefix.ensures))

pub all_lists-requires-clause-sound : goal.all_lists-requires-clause-sound
all_lists-requires-clause-sound g c = sound-keeps c.args.context.now.env.now c.args.dia.now c.bases.new.dia (g.M.Member.kept c.args.context.now.m.now) c.bases.ensures.extends.keeps c.requires.sound

pub returns-clause-extends : goal.returns-clause-extends
returns-clause-extends g c = then_all _ _ _ _ c.bases.ensures.extends c.all_lists.ensures.extends

pub returns-clause-tells : goal.returns-clause-tells
returns-clause-tells g c =
    let base : ℕ → Condition = item_asked c.args.context.now.env.now c.args.literals.now.wanted.now c.args.literals.now.marked in
    let new = c.bases.new.dia in
    let qs = c.deref.result.now in
    let long : length qs ≡ c.max-prefix.result + 1 = ap length c.deref.ensures.value ∙ c.in_ok-bases.ensures.count in
    let is = subst (λ e. (place : ℕ) → (place < c.longest_prefix-longest.result) ↔ Any (Fixes e place) c.args.literals.now.wanted.now) c.defs.ensures.value c.longest_prefix-longest.ensures in
    let before = before-longest c.args.context.now.env.now c.args.literals.now.wanted.now c.longest_prefix-longest.result (length qs - 1) is (omega (arith, long, c.max-prefix.ensures)) in
    let asked = subst (AreAsked new base) (sym c.deref.ensures.value) c.in_ok-bases.ensures.made in
    IfOk-map _ _ (λ filling tells. tells base asked (item_asked-behind c.args.context.now.env.now (length qs - 1) c.args.literals.now.wanted.now c.args.literals.now.marked before)) c.all_lists.result c.all_lists.ensures.tells
