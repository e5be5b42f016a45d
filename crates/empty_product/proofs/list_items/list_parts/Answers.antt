use Rattle.std.proofs.Common.{ℕ, ◌≡◌, All, Contains, IfOk, sym, subst, ◌∙◌}
use Rattle.std.proofs.lemmas.Bool.{false≢true}
use Rattle.std.proofs.lemmas.List.Elements.{All-weaker, All-contains}
use Rattle.type_diagrams.specs.declared.kind.Kind.TheVariants.{List as Lists}
use Rattle.type_diagrams.specs.Conditions.{nothing}
use Rattle.type_diagrams.specs.Members.{IsListOutOfPlay, atoms_in}
use Rattle.type_diagrams.proofs.AskedDiagrams.{then_all}
use Rattle.type_diagrams.proofs.Parts.{nothing-AreParts}
use Rattle.type_diagrams.proofs.Keeping.{extends-more}
use Rattle.type_diagrams.proofs.PathShapes.{atoms-are, has_mark}
use Rattle.type_diagrams.proofs.Shapes.{gives-keeps}
use Rattle.type_diagrams.proofs.Tellings.{sound-keeps}
use Rattle.empty_product.specs.Items.{TellsIndex}
use Rattle.empty_product.specs.Lists.{item_asked}
use Rattle.empty_product.specs.Play.{AreInPlay, IsListAtom}
use Rattle.empty_product.proofs.ListParts.{on-ok, result-Projects}
use Rattle.empty_product.proofs.MarkedPaths.{no_mark_both_ways}
use Rattle.empty_product.proofs.list_items.list_parts.Goals as goal

pub returns-in_err-never-clause-extends : goal.returns-in_err-never-clause-extends
returns-in_err-never-clause-extends g c = extends-more _ _ _ c.nothing.ensures.extends

pub returns-then-has_both_marks-clause-extends : goal.returns-then-has_both_marks-clause-extends
returns-then-has_both_marks-clause-extends g c = extends-more _ _ _ c.nothing.ensures.extends

pub returns-then-has_both_marks-clause-projects : goal.returns-then-has_both_marks-clause-projects
returns-then-has_both_marks-clause-projects g c =
    let env = c.args.env.now in
    let p = c.args.path.now in
    let both = c.has_both_marks.ensures.0 c.if-has_both_marks.true in
    nothing-AreParts env c.nothing.new.self (g.M.Member.kept c.args.m.now) Lists p _ c.in_ok-never.never c.in_ok-never.ensures.condition
    (λ x on. absurd (no_mark_both_ways env Lists p x both.0 both.1 on.1))

pub lists_in_play-requires-clause-wanted : goal.lists_in_play-requires-clause-wanted
lists_in_play-requires-clause-wanted g c =
    subst (All (IsListAtom c.args.env.now)) (sym (c.deref.ensures.value ∙ c.in_ok-wanted.ensures)) (atoms-are c.args.env.now Lists c.args.path.now.pos c.requires.literals.holding)

pub lists_in_play-requires-clause-unwanted : goal.lists_in_play-requires-clause-unwanted
lists_in_play-requires-clause-unwanted g c =
    subst (All (IsListAtom c.args.env.now)) (sym (c.deref-2.ensures.value ∙ c.in_ok-named.ensures)) (atoms-are c.args.env.now Lists c.args.path.now.neg c.requires.literals.failing)

pub returns-in_err-unwanted-clause-extends : goal.returns-in_err-unwanted-clause-extends
returns-in_err-unwanted-clause-extends g c = then_all _ _ _ _ (extends-more _ _ _ c.nothing.ensures.extends) c.lists_in_play.ensures.extends

pub path_items-requires-clause-wanted : goal.path_items-requires-clause-wanted
path_items-requires-clause-wanted g c =
    subst (All (IsListAtom c.args.env.now)) (sym (c.deref-3.ensures.value ∙ c.in_ok-wanted.ensures)) (atoms-are c.args.env.now Lists c.args.path.now.pos c.requires.literals.holding)

pub path_items-requires-clause-unwanted : goal.path_items-requires-clause-unwanted
path_items-requires-clause-unwanted g c =
    let env = c.args.env.now in
    let named = c.deref-2.ensures.value ∙ c.in_ok-named.ensures in
    let neg = subst (All (IsListAtom env)) (sym named) (atoms-are env Lists c.args.path.now.neg c.requires.literals.failing) in
    let IsOut : ℕ → Type 0 = IsListOutOfPlay env c.deref.result.now in
    subst (All (IsListAtom env)) (sym c.deref-4.ensures.value)
    (All-weaker (λ a. Contains c.deref-2.result.now a × ¬ IsOut a) (IsListAtom env) (λ a h. All-contains (IsListAtom env) c.deref-2.result.now a neg h.0) c.in_ok-unwanted.unwanted.items c.in_ok-unwanted.ensures.playing.among)

pub path_items-requires-clause-never : goal.path_items-requires-clause-never
path_items-requires-clause-never g c =
    gives-keeps c.nothing.new.self c.lists_in_play.new.dia nothing c.in_ok-never.never c.lists_in_play.ensures.extends.keeps c.in_ok-never.ensures.condition

pub path_items-requires-clause-sound : goal.path_items-requires-clause-sound
path_items-requires-clause-sound g c =
    let both = then_all _ c.args.dia.now c.nothing.new.self c.lists_in_play.new.dia (extends-more _ _ _ c.nothing.ensures.extends) c.lists_in_play.ensures.extends in
    sound-keeps c.args.env.now c.args.dia.now c.lists_in_play.new.dia (g.M.Member.kept c.args.m.now) both.keeps c.requires.sound

pub returns-clause-extends : goal.returns-clause-extends
returns-clause-extends g c = then_all _ _ _ _ (extends-more _ _ _ c.nothing.ensures.extends) (then_all _ _ _ _ c.lists_in_play.ensures.extends c.path_items.ensures.extends)

pub returns-clause-projects : goal.returns-clause-projects
returns-clause-projects g c =
    let env = c.args.env.now in
    let p = c.args.path.now in
    let kept = g.M.Member.kept c.args.m.now in
    let new = c.path_items.new.dia in
    let r = c.path_items.result in
    let index = c.args.place in
    let wanted : c.deref-3.result.now ≡ atoms_in p.pos = c.deref-3.ensures.value ∙ c.in_ok-wanted.ensures in
    let wanted_first : c.deref.result.now ≡ atoms_in p.pos = c.deref.ensures.value ∙ c.in_ok-wanted.ensures in
    let named : c.deref-2.result.now ≡ atoms_in p.neg = c.deref-2.ensures.value ∙ c.in_ok-named.ensures in
    let playing = c.in_ok-unwanted.unwanted.items in
    let marked : c.is_marked-marked.result ≡ has_mark p = c.is_marked-marked.ensures in
    let are_first = subst (λ ns. AreInPlay (IsListOutOfPlay env c.deref.result.now) ns playing) named c.in_ok-unwanted.ensures.playing in
    let are = subst (λ ws. AreInPlay (IsListOutOfPlay env ws) (atoms_in p.neg) playing) wanted_first are_first in
    let told_of = subst (λ us. IfOk r (TellsIndex env (item_asked env c.deref-3.result.now c.is_marked-marked.result) new kept c.deref-3.result.now us index)) c.deref-4.ensures.value c.path_items.ensures.tells in
    let told_marked = subst (λ b. IfOk r (TellsIndex env (item_asked env c.deref-3.result.now b) new kept c.deref-3.result.now playing index)) marked told_of in
    let tells = subst (λ ws. IfOk r (TellsIndex env (item_asked env ws (has_mark p)) new kept ws playing index)) wanted told_marked in
    on-ok _ r c.path_items.ensures.few (λ few. result-Projects env few p (atoms-are env Lists p.pos c.requires.literals.holding) (atoms-are env Lists p.neg c.requires.literals.failing) playing are
    (λ a b. false≢true (sym c.if-has_both_marks.false ∙ c.has_both_marks.ensures.1 (a, b))) new kept index c.in_ok-wanted.wanted r c.path_items.ensures.question tells)
