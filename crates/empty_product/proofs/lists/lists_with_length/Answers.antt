use Rattle.std.proofs.Common.{◌≡◌, length, All, Contains, sym, subst, ◌∙◌}
use Rattle.std.proofs.lemmas.Bool.{false≢true}
use Rattle.std.proofs.lemmas.List.Elements.{All-weaker, All-contains}
use Rattle.type_diagrams.specs.Members.{AllowsLength}
use Rattle.type_diagrams.proofs.Shapes.{IfOk-map}
use Rattle.empty_product.specs.Lists.{AreThose, TellsItems}
use Rattle.empty_product.specs.Play.{IsListAtom}
use Rattle.empty_product.proofs.ItemLists.{items-TellsLists}
use Rattle.empty_product.proofs.lists.lists_with_length.Goals as goal

pub returns-then-not-all_allow_length-clause-tells : goal.returns-then-not-all_allow_length-clause-tells
returns-then-not-all_allow_length-clause-tells g c = λ base asked items long without.
    let env = c.args.context.now.env.now in
    let here = subst (λ n. All (AllowsLength env n) c.args.literals.now.wanted.now) long without.allowed in
    absurd (false≢true (sym c.if-not-all_allow_length.true ∙ c.all_allow_length.ensures.1 (subst (λ e. All (AllowsLength e (length c.args.bases.now)) c.args.literals.now.wanted.now) (sym c.defs.ensures.value) here)))

pub lists_of-requires-clause-atoms : goal.lists_of-requires-clause-atoms
lists_of-requires-clause-atoms g c =
    let env = c.args.context.now.env.now in
    let n = length c.args.bases.now in
    let those = subst (λ e. AreThose (AllowsLength e n) c.args.literals.now.unwanted.now c.in_ok-atoms.atoms.items) c.defs-2.ensures.value c.in_ok-atoms.ensures in
    subst (All (IsListAtom env)) (sym c.deref.ensures.value)
    (All-weaker (λ a. Contains c.args.literals.now.unwanted.now a × AllowsLength env n a) (IsListAtom env) (λ a h. All-contains (IsListAtom env) c.args.literals.now.unwanted.now a c.requires.unwanted h.0) c.in_ok-atoms.atoms.items those.among)

pub returns-clause-tells : goal.returns-clause-tells
returns-clause-tells g c =
    let env = c.args.context.now.env.now in
    let kept = g.M.Member.kept c.args.context.now.m.now in
    let new = c.lists_of.new.dia in
    let n = length c.args.bases.now in
    let atoms = c.in_ok-atoms.atoms.items in
    let wanted = c.args.literals.now.wanted.now in
    let those = subst (λ e. AreThose (AllowsLength e n) c.args.literals.now.unwanted.now atoms) c.defs-2.ensures.value c.in_ok-atoms.ensures in
    let allowed = subst (λ e. All (AllowsLength e n) wanted) c.defs.ensures.value (c.all_allow_length.ensures.0 c.if-not-all_allow_length.false) in
    IfOk-map _ _ (λ filling tells base asked.
    items-TellsLists env base new kept wanted c.args.literals.now.unwanted.now atoms n (λ k. k ≡ n) (λ k e. subst (λ m. All (AllowsLength env m) wanted) (sym e) allowed) those
    (λ k a e among h. subst (λ m. AllowsLength env m a) e h) (λ k a e among h. subst (λ m. AllowsLength env m a) (sym e) h) filling
    (subst (λ xs. TellsItems env base new kept (λ k. k ≡ n) xs filling) c.deref.ensures.value (tells base asked)))
    c.lists_of.result c.lists_of.ensures.tells
