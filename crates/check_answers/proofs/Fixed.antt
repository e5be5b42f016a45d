-- Two runs from two given states, where something is known of the first.
use Rattle.std.proofs.Common.{◌≡◌, refl, sym, subst}
use Rattle.checks.specs.Checks.{Check, gives_some}
use Rattle.type_model.specs.declared.basic.Ty.{Ty}
use Rattle.check_words.specs.State.{State}
use Rattle.check_words.specs.Words.{Atoms, closes_choice, flow_now}
use Rattle.check_answers.specs.TwinStates.{ChoiceTwins, FlowTwins, UnitTwins}
use Rattle.check_answers.proofs.Leading.{Leads, Pairs, leads-from, leads-gives, leads-some, leads-then}
use Rattle.check_answers.proofs.Words.{At, closes-choice-leads}
use Rattle.check_answers.proofs.Zips.{zip-last}

-- these two
abbrev pub These : State → State → Pairs
These s t a b = (a ≡ s) × (b ≡ t)

module _ {A B : Type 0} where
  pub leads-at : (F G : Pairs) (Q : A → B → Type 0) (c : Check State A) (d : Check State B) → ((s t : State) → F s t → Leads (These s t) G Q c d) → Leads F G Q c d
  leads-at F G Q c d f s t p = f s t p s t (refl, refl)

  pub these-some : (s t : State) (Q : A → B → Type 0) (P : State → A → Type 0) (R : State → B → Type 0) → ((a : A) (b : B) → P s a → R t b → Q a b)
      → Leads (These s t) (These s t) Q (gives_some P) (gives_some R)
  these-some s t Q P R f = leads-some (These s t) Q P R (λ i j a b e x y. f a b (subst (λ k. P k a) e.0 x) (subst (λ k. R k b) e.1 y))

module _ (m n : Atoms) (D R : Ty → Ty → Type 0) (s t : State) (p : At m n D R s t) where
  these-at : (i j : State) → These s t i j → At m n D R i j
  these-at i j e = subst (λ (k : State). At m n D R k j) (sym e.0) (subst (At m n D R s) (sym e.1) p)

  pub these-flow : Leads (These s t) (These s t) (FlowTwins D R) flow_now flow_now
  these-flow =
      leads-then (These s t) (These s t) (These s t) (UnitTwins D R) _ _ _ _ _
      (these-some s t (UnitTwins D R) _ _ (λ a b x y. zip-last (UnitTwins D R) s.units t.units a b p.states.units x y))
      (λ u v h. leads-gives (These s t) _ u.flow v.flow h.flow)

  pub these-choice-closed : Leads (These s t) (At m n D R) (ChoiceTwins D R) closes_choice closes_choice
  these-choice-closed = leads-from (These s t) (At m n D R) (At m n D R) (ChoiceTwins D R) _ _ these-at (closes-choice-leads m n D R)
