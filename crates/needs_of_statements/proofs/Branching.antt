-- Branches and loops: what is known behind them, and at the head of a loop.
use Rattle.std.proofs.Common.{◌≡◌, ◌+◌, ◌<◌, ◌&&◌, ◌++◌, ◌∙◌, ℕ, Bool, List, [], ◌∷◌, get_or, length, take, All, None, Result, Ok, refl, sym, subst, ap}
use Rattle.std.proofs.lemmas.List.Sums.{fold_more}
use Rattle.bal_base.specs.declared.fault.Fault.{Fault}
use Rattle.bal_base.specs.declared.place.Place.{Place}
use Rattle.bal_base.specs.declared.stop.Stop.{Stop}
use Rattle.bal_tree.specs.declared.name.Word.{Word}
use Rattle.checks.specs.Checks.{Comes}
use Rattle.flow_narrowing.specs.declared.flow.Flow.{Flow}
use Rattle.flow_narrowing.specs.Flows.{IsJoin}
use Rattle.check_words.specs.Branches.{at_head, behind, makes_if, makes_while}
use Rattle.check_words.specs.Sharing.{SameFlow}
use Rattle.check_words.specs.Stands.{ChoiceBelow, FlowBelow, Stands}
use Rattle.check_words.specs.State.{ChoiceAtWork, State, UnitAtWork, with_type}
use Rattle.check_words.proofs.Coming.{next}
use Rattle.check_words.proofs.Entering.{entered-stands}
use Rattle.check_words.proofs.Flowing.{choice-closed, flow-now, flow-set, with_choices_and_flow}
use Rattle.check_words.proofs.Retyping.{retyped-below}
use Rattle.check_words.proofs.Same.{same-flow}
use Rattle.check_words.proofs.Standing.{flow-below, front-have, last-has}
use Rattle.flow_joins.proofs.Meeting.{join-comes}
use Rattle.needs_of_statements.specs.Parts.{builds_if, builds_while}

-- ---- the head of a loop

pub head-more : (words : List Word) (i : ℕ) (w : Word) (f g h : Flow) → i < length words → w ≡ get_or words i w → g ≡ at_head (take i words) f → h ≡ with_type w.name None g
    → h ≡ at_head (take (i + 1) words) f
head-more words i w f g h lt is before e =
    e ∙ ap (λ k. with_type w.name None k) before ∙ ap (λ v. with_type v.name None (at_head (take i words) f)) is
    ∙ sym (fold_more (λ k v. with_type v.name None k) f words i w lt)

pub head-below : (n : ℕ) (words : List Word) (f : Flow) → FlowBelow n f → FlowBelow n (at_head words f)
head-below n [] f h = h
head-below n (w ∷ words) f h = head-below n words (with_type w.name None f) (retyped-below n w.name None tt f h)

-- ---- where a choice or a loop ends

pub behind-same : (leaves : Bool) (f g h : Flow) → SameFlow f g → h ≡ behind leaves g → SameFlow (behind leaves f) h
behind-same leaves f g h same e =
    subst (SameFlow (behind leaves f)) (sym e) (record { variables = same.variables; reached = ap (λ b. b && leaves) same.reached })

module _ (s : State) (kept : List UnitAtWork) (u : UnitAtWork) (is : s.units ≡ kept ++ u ∷ []) (opened : List ChoiceAtWork) (c : ChoiceAtWork) (are : s.choices ≡ opened ++ c ∷ []) where
  -- the last choice is closed
  abbrev closed : State
  closed = record s { choices = opened }

  pub if-joins : (g : Flow) → IsJoin s.atoms c.first u.flow g → (at : Place) (r : Result (Unit {0}) (Stop Fault)) (new : State)
      → Comes (builds_if at) (with_choices_and_flow s kept u is opened g) r new → Comes (makes_if at) s r new
  if-joins g join at r new h =
      next _ _ _ _ _ u.flow s (flow-now s kept u is)
      (next _ _ _ _ _ c closed (choice-closed s opened c are closed refl)
      (next _ _ _ _ _ g closed (join-comes closed c.first u.flow g join)
      (next _ _ _ _ _ tt (with_choices_and_flow s kept u is opened g) (flow-set closed kept u is g g (same-flow g) (with_choices_and_flow s kept u is opened g) refl) h)))

  pub while-ends : (leaves : Bool) (g : Flow) → SameFlow (behind leaves c.before) g → (at : Place) (r : Result (Unit {0}) (Stop Fault)) (new : State)
      → Comes (builds_while at) (with_choices_and_flow s kept u is opened g) r new → Comes (makes_while leaves at) s r new
  while-ends leaves g same at r new h =
      next _ _ _ _ _ c closed (choice-closed s opened c are closed refl)
      (next _ _ _ _ _ tt (with_choices_and_flow s kept u is opened g)
      (flow-set closed kept u is (behind leaves c.before) g same (with_choices_and_flow s kept u is opened g) refl) h)

  module _ (h : Stands s) where
    pub last-choice-stands : ChoiceBelow (length s.atoms) c
    last-choice-stands = last-has (ChoiceBelow (length s.atoms)) s.choices c (record { kept = opened; is = are }) h.choices

    pub closed-stands : (g : Flow) → FlowBelow (length s.atoms) g → Stands (with_choices_and_flow s kept u is opened g)
    closed-stands g below =
        entered-stands s h kept u is opened g
        (front-have (ChoiceBelow (length s.atoms)) opened (c ∷ []) (subst (All (ChoiceBelow (length s.atoms))) are h.choices)) below

    pub while-stands : (leaves : Bool) (g : Flow) → SameFlow (behind leaves c.before) g → Stands (with_choices_and_flow s kept u is opened g)
    while-stands leaves g same = closed-stands g (flow-below (length s.atoms) (behind leaves c.before) g same last-choice-stands.before)
