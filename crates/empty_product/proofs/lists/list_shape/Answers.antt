use Rattle.std.proofs.Common.{ℕ, ◌≡◌, All, Contains, sym, subst, ◌∙◌}
use Rattle.std.specs.Bool.{⊤}
use Rattle.std.proofs.lemmas.Bool.{false≢true}
use Rattle.std.proofs.lemmas.List.Elements.{All-weaker, All-contains}
use Rattle.type_diagrams.specs.declared.kind.Kind.TheVariants.{List as Lists}
use Rattle.type_diagrams.specs.Members.{IsListOutOfPlay, atoms_in}
use Rattle.type_diagrams.proofs.AskedDiagrams.{then_all}
use Rattle.type_diagrams.proofs.PathShapes.{atoms-are, has_mark}
use Rattle.type_diagrams.proofs.Shapes.{IfOk-map}
use Rattle.type_diagrams.proofs.Tellings.{sound-keeps}
use Rattle.empty_product.specs.Lists.{IsListTurn, TellsLists, item_asked}
use Rattle.empty_product.specs.Play.{AreInPlay, IsListAtom}
use Rattle.empty_product.proofs.ListTurns.{lists-Turns, lists-IsFilled}
use Rattle.empty_product.proofs.MarkedPaths.{no_mark_both_ways}
use Rattle.empty_product.proofs.lists.list_shape.Goals as goal

pub lists_in_play-requires-clause-wanted : goal.lists_in_play-requires-clause-wanted
lists_in_play-requires-clause-wanted g c =
    subst (All (IsListAtom c.args.env.now)) (sym (c.deref.ensures.value ∙ c.in_ok-wanted.ensures)) (atoms-are c.args.env.now Lists c.args.path.now.pos c.requires.literals.holding)

pub lists_in_play-requires-clause-unwanted : goal.lists_in_play-requires-clause-unwanted
lists_in_play-requires-clause-unwanted g c =
    subst (All (IsListAtom c.args.env.now)) (sym (c.deref-2.ensures.value ∙ c.in_ok-named.ensures)) (atoms-are c.args.env.now Lists c.args.path.now.neg c.requires.literals.failing)

pub path_lists-requires-clause-wanted : goal.path_lists-requires-clause-wanted
path_lists-requires-clause-wanted g c =
    subst (All (IsListAtom c.args.env.now)) (sym (c.deref-3.ensures.value ∙ c.in_ok-wanted.ensures)) (atoms-are c.args.env.now Lists c.args.path.now.pos c.requires.literals.holding)

pub path_lists-requires-clause-unwanted : goal.path_lists-requires-clause-unwanted
path_lists-requires-clause-unwanted g c =
    let env = c.args.env.now in
    let named = c.deref-2.ensures.value ∙ c.in_ok-named.ensures in
    let neg = subst (All (IsListAtom env)) (sym named) (atoms-are env Lists c.args.path.now.neg c.requires.literals.failing) in
    let IsOut : ℕ → Type 0 = IsListOutOfPlay env c.deref.result.now in
    subst (All (IsListAtom env)) (sym c.deref-4.ensures.value)
    (All-weaker (λ a. Contains c.deref-2.result.now a × ¬ IsOut a) (IsListAtom env) (λ a h. All-contains (IsListAtom env) c.deref-2.result.now a neg h.0) c.in_ok-unwanted.unwanted.items c.in_ok-unwanted.ensures.playing.among)

pub path_lists-requires-clause-sound : goal.path_lists-requires-clause-sound
path_lists-requires-clause-sound g c =
    sound-keeps c.args.env.now c.args.dia.now c.lists_in_play.new.dia (g.M.Member.kept c.args.m.now) c.lists_in_play.ensures.extends.keeps c.requires.sound

pub turn_of-requires : goal.turn_of-requires
turn_of-requires g c =
    lists-IsFilled c.args.env.now (item_asked c.args.env.now c.deref-3.result.now c.is_marked-marked.result) c.path_lists.new.dia (g.M.Member.kept c.args.m.now) c.deref-3.result.now c.deref-4.result.now (λ n. ⊤) c.in_ok-filling.filling c.in_ok-filling.ensures.tells

pub returns-clause-extends : goal.returns-clause-extends
returns-clause-extends g c = then_all _ _ _ _ c.lists_in_play.ensures.extends c.path_lists.ensures.extends

pub returns-clause-turns : goal.returns-clause-turns
returns-clause-turns g c =
    let env = c.args.env.now in
    let p = c.args.path.now in
    let kept = g.M.Member.kept c.args.m.now in
    let new = c.path_lists.new.dia in
    let wanted : c.deref-3.result.now ≡ atoms_in p.pos = c.deref-3.ensures.value ∙ c.in_ok-wanted.ensures in
    let wanted_first : c.deref.result.now ≡ atoms_in p.pos = c.deref.ensures.value ∙ c.in_ok-wanted.ensures in
    let named : c.deref-2.result.now ≡ atoms_in p.neg = c.deref-2.ensures.value ∙ c.in_ok-named.ensures in
    let playing = c.in_ok-unwanted.unwanted.items in
    let marked : c.is_marked-marked.result ≡ has_mark p = c.is_marked-marked.ensures in
    let are_first = subst (λ ns. AreInPlay (IsListOutOfPlay env c.deref.result.now) ns playing) named c.in_ok-unwanted.ensures.playing in
    let are = subst (λ ws. AreInPlay (IsListOutOfPlay env ws) (atoms_in p.neg) playing) wanted_first are_first in
    let filling = c.in_ok-filling.filling in
    let told = c.in_ok-filling.ensures.tells in
    let told_of = subst (λ us. TellsLists env (item_asked env c.deref-3.result.now c.is_marked-marked.result) new kept c.deref-3.result.now us (λ n. ⊤) filling) c.deref-4.ensures.value told in
    let told_marked = subst (λ b. TellsLists env (item_asked env c.deref-3.result.now b) new kept c.deref-3.result.now playing (λ n. ⊤) filling) marked told_of in
    let tells = subst (λ ws. TellsLists env (item_asked env ws (has_mark p)) new kept ws playing (λ n. ⊤) filling) wanted told_marked in
    IfOk-map _ _ (λ turn is. lists-Turns env c.in_ok-filling.ensures.few p (atoms-are env Lists p.pos c.requires.literals.holding) (atoms-are env Lists p.neg c.requires.literals.failing) playing are new kept
    (λ a b. false≢true (sym c.if-has_both_marks.false ∙ c.has_both_marks.ensures.1 (a, b))) filling turn tells (subst (λ b. IsListTurn b filling turn) marked is))
    c.turn_of.result c.turn_of.ensures

pub returns-then-has_both_marks-clause-turns : goal.returns-then-has_both_marks-clause-turns
returns-then-has_both_marks-clause-turns g c = λ x on.
    let p = c.args.path.now in
    let both = c.has_both_marks.ensures.0 c.if-has_both_marks.true in
    absurd (no_mark_both_ways c.args.env.now Lists p x both.0 both.1 on.1)

pub returns-in_err-filling-clause-extends : goal.returns-in_err-filling-clause-extends
returns-in_err-filling-clause-extends g c = then_all _ _ _ _ c.lists_in_play.ensures.extends c.path_lists.ensures.extends
