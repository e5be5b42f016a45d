use Rattle.std.proofs.Common.{ℕ, ◌-◌, ◌<◌, ◌≤◌, ◌^◌, length, get_or, All, Contains, Some, sym, subst, ◌∙◌, arith}
use Rattle.std.proofs.lemmas.Bool.{false≢true}
use Rattle.std.proofs.lemmas.List.Elements.{All-weaker, All-contains}
use Rattle.std.proofs.lemmas.Option.{slice_get-get_or}
use Rattle.type_diagrams.specs.Members.{AllowsLength}
use Rattle.type_diagrams.specs.Tables.{condition}
use Rattle.type_diagrams.specs.Turns.{IsSound}
use Rattle.type_diagrams.proofs.AskedDiagrams.{gives_itself}
use Rattle.type_diagrams.proofs.Shapes.{IfOk-map}
use Rattle.empty_product.specs.Items.{StandsInList, TellsItemsAt}
use Rattle.empty_product.specs.Lists.{AreThose, FixesBefore, HasHeldItem}
use Rattle.empty_product.specs.Play.{IsListAtom}
use Rattle.empty_product.proofs.Gathering.{none-Gathers}
use Rattle.empty_product.proofs.ItemLists.{base-HasHeldItem, base-IsItemQuestion, items-TellsListsAt, void-IsInHeld}
use Rattle.empty_product.proofs.LongerLists.{AllowsLength-longer, all-longer}
use Rattle.empty_product.proofs.list_items.items_of_longer.Goals as goal

pub returns-then-not-all_allow_length-clause-tells : goal.returns-then-not-all_allow_length-clause-tells
returns-then-not-all_allow_length-clause-tells g c = λ base asked same.
    let env = c.args.context.now.env.now in
    let old = c.args.dia.now in
    let kept = g.M.Member.kept c.args.context.now.m.now in
    let m = length c.args.bases.now in
    let some = c.requires.place in
    none-Gathers env old (StandsInList env base c.args.literals.now.wanted.now c.args.literals.now.unwanted.now (λ k. (m ≤ k) × (k < 2 ^ 63)) c.args.place) (HasHeldItem env old kept) (condition old c.args.found) c.args.found (gives_itself old c.args.found c.requires.found.diagram)
    (λ items y s.
    let long = s.count.0 in
    let here = all-longer env (m - 1) (length items) m c.args.literals.now.wanted.now c.requires.wanted_before (omega (arith, long, some)) (omega (arith, some)) s.list.allowed in
    absurd (false≢true (sym c.if-not-all_allow_length.true ∙ c.all_allow_length.ensures.1 (subst (λ e. All (AllowsLength e m) c.args.literals.now.wanted.now) (sym c.defs.ensures.value) here))))

pub returns-in-Void-clause-tells : goal.returns-in-Void-clause-tells
returns-in-Void-clause-tells g c = λ base asked same.
    let env = c.args.context.now.env.now in
    let old = c.args.dia.now in
    let kept = g.M.Member.kept c.args.context.now.m.now in
    let bases = c.args.bases.now in
    let some = c.requires.place in
    let k = length bases - 1 in
    let q = get_or bases k 0 in
    none-Gathers env old (StandsInList env base c.args.literals.now.wanted.now c.args.literals.now.unwanted.now (λ n. (length bases ≤ n) × (n < 2 ^ 63)) c.args.place) (HasHeldItem env old kept) (condition old c.args.found) c.args.found (gives_itself old c.args.found c.requires.found.diagram)
    (λ items y s.
    let long = s.count.0 in
    base-HasHeldItem env base old kept bases asked k q (slice_get-get_or bases k 0 (omega (arith, some))) (void-IsInHeld env base old kept q c.in-Void.ensures) items (omega (arith, long, some)) s.list.inside)

pub returns-clause-tells : goal.returns-clause-tells
returns-clause-tells g c = λ base asked same.
    let bases = c.args.bases.now in
    let some = c.requires.place in
    let k = length bases - 1 in
    base-IsItemQuestion c.args.context.now.env.now base c.args.dia.now (g.M.Member.kept c.args.context.now.m.now) c.args.literals.now.unwanted.now bases asked k (get_or bases k 0) (slice_get-get_or bases k 0 (omega (arith, some))) c.in-Unknown.ensures.0 c.in-Unknown.ensures.1

pub longer_items-requires-clause-atoms : goal.longer_items-requires-clause-atoms
longer_items-requires-clause-atoms g c =
    let env = c.args.context.now.env.now in
    let n = length c.args.bases.now in
    let those = subst (λ e. AreThose (AllowsLength e n) c.args.literals.now.unwanted.now c.in_ok-atoms.atoms.items) c.defs-2.ensures.value c.in_ok-atoms.ensures in
    subst (All (IsListAtom env)) (sym c.deref.ensures.value)
    (All-weaker (λ a. Contains c.args.literals.now.unwanted.now a × AllowsLength env n a) (IsListAtom env) (λ a h. All-contains (IsListAtom env) c.args.literals.now.unwanted.now a c.requires.unwanted h.0) c.in_ok-atoms.atoms.items those.among)

pub longer_items-requires-clause-atoms_before : goal.longer_items-requires-clause-atoms_before
longer_items-requires-clause-atoms_before g c =
    let env = c.args.context.now.env.now in
    let n = length c.args.bases.now in
    let those = subst (λ e. AreThose (AllowsLength e n) c.args.literals.now.unwanted.now c.in_ok-atoms.atoms.items) c.defs-2.ensures.value c.in_ok-atoms.ensures in
    subst (All (FixesBefore env (n - 1))) (sym c.deref.ensures.value)
    (All-weaker (λ a. Contains c.args.literals.now.unwanted.now a × AllowsLength env n a) (FixesBefore env (n - 1)) (λ a h. All-contains (FixesBefore env (n - 1)) c.args.literals.now.unwanted.now a c.requires.unwanted_before h.0) c.in_ok-atoms.atoms.items those.among)

pub longer_items-requires-clause-last : goal.longer_items-requires-clause-last
longer_items-requires-clause-last g c =
    let env = c.args.context.now.env.now in
    let old = c.args.dia.now in
    let known = c.in-Full.ensures in
    (known.0, (All-contains (IsSound env old) (g.M.Member.kept c.args.context.now.m.now) (get_or c.args.bases.now (length c.args.bases.now - 1) 0, Some known.0) c.requires.sound known.1).1)

pub returns-in-Full-clause-tells : goal.returns-in-Full-clause-tells
returns-in-Full-clause-tells g c =
    let env = c.args.context.now.env.now in
    let kept = g.M.Member.kept c.args.context.now.m.now in
    let new = c.longer_items.new.dia in
    let n = length c.args.bases.now in
    let some = c.requires.place in
    let atoms = c.in_ok-atoms.atoms.items in
    let wanted = c.args.literals.now.wanted.now in
    let unwanted = c.args.literals.now.unwanted.now in
    let found = condition c.args.dia.now c.args.found in
    let those = subst (λ e. AreThose (AllowsLength e n) unwanted atoms) c.defs-2.ensures.value c.in_ok-atoms.ensures in
    let allowed = subst (λ e. All (AllowsLength e n) wanted) c.defs.ensures.value (c.all_allow_length.ensures.0 c.if-not-all_allow_length.false) in
    let behind : (k : ℕ) → n ≤ k → n - 1 < k = λ k le. omega (arith, le, some) in
    let last : n - 1 < n = omega (arith, some) in
    IfOk-map _ _ (λ p tells base asked same.
    items-TellsListsAt env base new kept wanted unwanted atoms n (λ k. (n ≤ k) × (k < 2 ^ 63)) (λ k long. all-longer env (n - 1) n k wanted c.requires.wanted_before last (behind k long.0) allowed) those
    (λ k a long among h. AllowsLength-longer env (n - 1) a k n (All-contains (FixesBefore env (n - 1)) unwanted a c.requires.unwanted_before among) (behind k long.0) last h)
    (λ k a long among h. AllowsLength-longer env (n - 1) a n k (All-contains (FixesBefore env (n - 1)) unwanted a c.requires.unwanted_before among) last (behind k long.0) h)
    c.args.place found p
    (subst (λ xs. TellsItemsAt env base new kept (λ k. (n ≤ k) × (k < 2 ^ 63)) xs c.args.place found p) c.deref.ensures.value (tells base asked same)))
    c.longer_items.result c.longer_items.ensures.tells
