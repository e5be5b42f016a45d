use Rattle.std.proofs.Common.{ℕ, ◌∷◌, ◌+◌, take, inl, get_or, sym, ◌∙◌, subst, All, arith}
use Rattle.std.proofs.lemmas.Bool.{false≢true}
use Rattle.type_diagrams.specs.Members.{AllowsLength, IsListOutOfPlay}
use Rattle.type_diagrams.specs.Tables.{IsDiagram}
use Rattle.type_diagrams.proofs.AskedDiagrams.{then_all}
use Rattle.empty_product.specs.Lists.{IsApartFrom}
use Rattle.empty_product.specs.Play.{AreInPlay}
use Rattle.empty_product.proofs.AtomLists.{AreInPlay-out, AreInPlay-in}
use Rattle.empty_product.proofs.DemandLists.{diagrams-keep}
use Rattle.empty_product.proofs.ItemPlaces.{AreAsked-diagrams}
use Rattle.empty_product.proofs.ListAtoms.{apart_is_out, not_out}
use Rattle.empty_product.proofs.list_atoms.lists_in_play.Goals as goal

pub loop-atom-preserved-then-not-has_common_length : goal.loop-atom-preserved-then-not-has_common_length
loop-atom-preserved-then-not-has_common_length c = (
  c.loop-atom.invariant.0,
  AreInPlay-out (IsListOutOfPlay c.args.env.now c.args.wanted.now) c.args.unwanted.now c.loop-atom.atom-index (omega arith) c.loop-atom.playing.items c.loop-atom.invariant.1 (inl (subst (λ e. (n : ℕ) → ¬ All (AllowsLength e n) (get_or c.args.unwanted.now c.loop-atom.atom-index 0 ∷ c.args.wanted.now)) c.defs.ensures.value (c.has_common_length.ensures.none c.if-not-has_common_length.true))),
)

pub is_plainly_apart-requires-clause-fixed : goal.is_plainly_apart-requires-clause-fixed
is_plainly_apart-requires-clause-fixed c =
    subst (All (IsDiagram c.loop-atom.dia)) (sym c.deref.ensures.value)
    (diagrams-keep c.fixed_questions.new.dia c.loop-atom.dia c.in_ok-fixed.fixed.items c.loop-atom.invariant.0.keeps (AreAsked-diagrams c.fixed_questions.new.dia _ c.in_ok-fixed.fixed.items c.in_ok-fixed.ensures.made))

pub returns-in_err-is_plainly_apart-clause-extends : goal.returns-in_err-is_plainly_apart-clause-extends
returns-in_err-is_plainly_apart-clause-extends c = then_all _ _ _ _ c.fixed_questions.ensures.extends (then_all _ _ _ _ c.loop-atom.invariant.0 c.is_plainly_apart.ensures.extends)

pub loop-atom-preserved-then-branch : goal.loop-atom-preserved-then-branch
loop-atom-preserved-then-branch c =
    let a = get_or c.args.unwanted.now c.loop-atom.atom-index 0 in
    let fixed = c.in_ok-fixed.fixed.items in
    let here = subst (λ qs. IsApartFrom c.args.env.now c.loop-atom.dia qs a) c.deref.ensures.value (c.in_ok-is_plainly_apart.ensures.apart.0 c.if-branch.true) in (
      then_all _ _ _ _ c.loop-atom.invariant.0 c.is_plainly_apart.ensures.extends,
      AreInPlay-out (IsListOutOfPlay c.args.env.now c.args.wanted.now) c.args.unwanted.now c.loop-atom.atom-index (omega arith) c.loop-atom.playing.items c.loop-atom.invariant.1
          (apart_is_out c.args.env.now c.args.wanted.now a c.fixed_questions.new.dia c.loop-atom.dia fixed c.in_ok-fixed.ensures.count c.in_ok-fixed.ensures.made c.loop-atom.invariant.0.keeps here),
    )

pub returns-in_err-push-clause-extends : goal.returns-in_err-push-clause-extends
returns-in_err-push-clause-extends c = then_all _ _ _ _ c.fixed_questions.ensures.extends (then_all _ _ _ _ c.loop-atom.invariant.0 c.is_plainly_apart.ensures.extends)

pub loop-atom-preserved : goal.loop-atom-preserved
loop-atom-preserved c =
    let a = get_or c.args.unwanted.now c.loop-atom.atom-index 0 in
    let fixed = c.in_ok-fixed.fixed.items in
    let IsOut = IsListOutOfPlay c.args.env.now c.args.wanted.now in
    let apart : ¬ IsApartFrom c.args.env.now c.loop-atom.dia fixed a = λ h. false≢true (sym c.if-branch.false ∙ c.in_ok-is_plainly_apart.ensures.apart.1 (subst (λ qs. IsApartFrom c.args.env.now c.loop-atom.dia qs a) (sym c.deref.ensures.value) h)) in
    let stays = not_out c.args.env.now c.args.wanted.now a c.fixed_questions.new.dia c.loop-atom.dia fixed c.in_ok-fixed.ensures.count c.in_ok-fixed.ensures.made c.loop-atom.invariant.0.keeps (subst (λ e. (n : ℕ) × All (AllowsLength e n) (a ∷ c.args.wanted.now)) c.defs.ensures.value (c.has_common_length.ensures.some c.if-not-has_common_length.false)) apart in (
      then_all _ _ _ _ c.loop-atom.invariant.0 c.is_plainly_apart.ensures.extends,
      subst (AreInPlay IsOut (take (c.loop-atom.atom-index + 1) c.args.unwanted.now)) (sym c.in_ok-push.ensures.items) (AreInPlay-in IsOut c.args.unwanted.now c.loop-atom.atom-index (omega arith) c.loop-atom.playing.items c.loop-atom.invariant.1 stays),
    )

pub returns-clause-extends : goal.returns-clause-extends
returns-clause-extends c = then_all _ _ _ _ c.fixed_questions.ensures.extends c.loop-atom.invariant.0
