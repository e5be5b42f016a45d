use Rattle.std.proofs.Common.{ℕ, ◌-◌, ◌<◌, ◌≤◌, length, get_or, All, Contains, sym, subst, ◌∙◌, arith}
use Rattle.std.proofs.lemmas.Bool.{false≢true}
use Rattle.std.proofs.lemmas.List.Elements.{All-weaker, All-contains}
use Rattle.std.proofs.lemmas.Option.{slice_get-get_or}
use Rattle.type_diagrams.specs.Members.{AllowsLength}
use Rattle.type_diagrams.proofs.Shapes.{IfOk-map}
use Rattle.empty_product.specs.Lists.{AreThose, FixesBefore, TellsItems}
use Rattle.empty_product.specs.Play.{IsListAtom}
use Rattle.empty_product.specs.Slots.{TellsPart}
use Rattle.empty_product.proofs.ItemLists.{base-HasHeldItem, base-IsItemQuestion, items-TellsLists}
use Rattle.empty_product.proofs.LongerLists.{AllowsLength-longer, all-longer}
use Rattle.empty_product.proofs.lists.long_lists.Goals as goal

pub returns-then-not-all_allow_length-clause-tells : goal.returns-then-not-all_allow_length-clause-tells
returns-then-not-all_allow_length-clause-tells g c = λ base asked same items long without.
    let env = c.args.context.now.env.now in
    let m = length c.args.bases.now in
    let some = c.requires.some in
    let here = all-longer env (m - 1) (length items) m c.args.literals.now.wanted.now c.requires.wanted_before (omega (arith, long, some)) (omega (arith, some)) without.allowed in
    absurd (false≢true (sym c.if-not-all_allow_length.true ∙ c.all_allow_length.ensures.1 (subst (λ e. All (AllowsLength e m) c.args.literals.now.wanted.now) (sym c.defs.ensures.value) here)))

pub returns-in-Held-clause-tells : goal.returns-in-Held-clause-tells
returns-in-Held-clause-tells g c = λ base asked same items long without.
    let env = c.args.context.now.env.now in
    let dia = c.args.dia.now in
    let kept = g.M.Member.kept c.args.context.now.m.now in
    let bases = c.args.bases.now in
    let some = c.requires.some in
    let k = length bases - 1 in
    let q = get_or bases k 0 in
    let held = subst (TellsPart env dia kept q) c.in-Held.is (c.in_ok-first.ensures env c.requires.sound) in
    base-HasHeldItem env base dia kept bases asked k q (slice_get-get_or bases k 0 (omega (arith, some))) held items (omega (arith, long, some)) without.inside

pub returns-in-Unknown-clause-tells : goal.returns-in-Unknown-clause-tells
returns-in-Unknown-clause-tells g c = λ base asked same.
    let env = c.args.context.now.env.now in
    let dia = c.args.dia.now in
    let kept = g.M.Member.kept c.args.context.now.m.now in
    let bases = c.args.bases.now in
    let some = c.requires.some in
    let k = length bases - 1 in
    let q = get_or bases k 0 in
    let unknown = subst (TellsPart env dia kept q) c.in-Unknown.is (c.in_ok-first.ensures env c.requires.sound) in
    base-IsItemQuestion env base dia kept c.args.literals.now.unwanted.now bases asked k q (slice_get-get_or bases k 0 (omega (arith, some))) unknown.0 unknown.1

pub longer_lists-requires-clause-atoms : goal.longer_lists-requires-clause-atoms
longer_lists-requires-clause-atoms g c =
    let env = c.args.context.now.env.now in
    let n = length c.args.bases.now in
    let those = subst (λ e. AreThose (AllowsLength e n) c.args.literals.now.unwanted.now c.in_ok-atoms.atoms.items) c.defs-2.ensures.value c.in_ok-atoms.ensures in
    subst (All (IsListAtom env)) (sym c.deref.ensures.value)
    (All-weaker (λ a. Contains c.args.literals.now.unwanted.now a × AllowsLength env n a) (IsListAtom env) (λ a h. All-contains (IsListAtom env) c.args.literals.now.unwanted.now a c.requires.unwanted h.0) c.in_ok-atoms.atoms.items those.among)

pub longer_lists-requires-clause-atoms_before : goal.longer_lists-requires-clause-atoms_before
longer_lists-requires-clause-atoms_before g c =
    let env = c.args.context.now.env.now in
    let n = length c.args.bases.now in
    let those = subst (λ e. AreThose (AllowsLength e n) c.args.literals.now.unwanted.now c.in_ok-atoms.atoms.items) c.defs-2.ensures.value c.in_ok-atoms.ensures in
    subst (All (FixesBefore env (n - 1))) (sym c.deref.ensures.value)
    (All-weaker (λ a. Contains c.args.literals.now.unwanted.now a × AllowsLength env n a) (FixesBefore env (n - 1)) (λ a h. All-contains (FixesBefore env (n - 1)) c.args.literals.now.unwanted.now a c.requires.unwanted_before h.0) c.in_ok-atoms.atoms.items those.among)

pub longer_lists-requires-clause-first : goal.longer_lists-requires-clause-first
longer_lists-requires-clause-first g c =
    let env = c.args.context.now.env.now in
    let q = get_or c.args.bases.now (length c.args.bases.now - 1) 0 in
    subst (TellsPart env c.args.dia.now (g.M.Member.kept c.args.context.now.m.now) q) c.in-Part.is (c.in_ok-first.ensures env c.requires.sound)

pub returns-clause-tells : goal.returns-clause-tells
returns-clause-tells g c =
    let env = c.args.context.now.env.now in
    let kept = g.M.Member.kept c.args.context.now.m.now in
    let new = c.longer_lists.new.dia in
    let n = length c.args.bases.now in
    let some = c.requires.some in
    let atoms = c.in_ok-atoms.atoms.items in
    let wanted = c.args.literals.now.wanted.now in
    let unwanted = c.args.literals.now.unwanted.now in
    let those = subst (λ e. AreThose (AllowsLength e n) unwanted atoms) c.defs-2.ensures.value c.in_ok-atoms.ensures in
    let allowed = subst (λ e. All (AllowsLength e n) wanted) c.defs.ensures.value (c.all_allow_length.ensures.0 c.if-not-all_allow_length.false) in
    let behind : (k : ℕ) → n ≤ k → n - 1 < k = λ k le. omega (arith, le, some) in
    let last : n - 1 < n = omega (arith, some) in
    IfOk-map _ _ (λ filling tells base asked same.
    items-TellsLists env base new kept wanted unwanted atoms n (λ k. n ≤ k) (λ k le. all-longer env (n - 1) n k wanted c.requires.wanted_before last (behind k le) allowed) those
    (λ k a le among h. AllowsLength-longer env (n - 1) a k n (All-contains (FixesBefore env (n - 1)) unwanted a c.requires.unwanted_before among) (behind k le) last h)
    (λ k a le among h. AllowsLength-longer env (n - 1) a n k (All-contains (FixesBefore env (n - 1)) unwanted a c.requires.unwanted_before among) last (behind k le) h)
    filling
    (subst (λ xs. TellsItems env base new kept (λ k. n ≤ k) xs filling) c.deref.ensures.value (tells base asked same)))
    c.longer_lists.result c.longer_lists.ensures.tells
