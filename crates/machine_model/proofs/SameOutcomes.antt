-- Machines whose frames answer alike have the same outcomes.
use Rattle.std.proofs.Common.{◌≡◌, ℕ, List, [], ◌∷◌, ◌++◌, None, subst, ap}
use Rattle.std.specs.Prelude.{map}
use Rattle.bal_base.specs.declared.text.Text.{Text}
use Rattle.value_model.specs.declared.value.Value.{Value}
use Rattle.value_model.specs.Meaning.{Answers}
use Rattle.op_model.specs.Common.{Common}
use Rattle.machine_model.specs.Machine.{Machine, begun}
use Rattle.machine_model.specs.Runs.{start, starts, begins_with, first_common, units_to_run, main_arguments}
use Rattle.machine_model.specs.Following.{Both, FramesFollow, AreFine, Settles}
use Rattle.machine_model.specs.Laws.{FollowersDoTheSame, HaveSameOutcomes}
use Rattle.machine_model.specs.Matching.{StateMatch}
use Rattle.machine_model.proofs.Lifts.{FrameMatch, both-map, forth-some, back-some, begun-match}
use Rattle.machine_model.proofs.Forth.{forth}
use Rattle.machine_model.proofs.Back.{back-pick}

module _ {A B : Type 0} (natives : Answers) (M : Machine A) (N : Machine B) (Follows : A → B → Type 0) (Fine : Common → A → Type 0) (sim : FramesFollow natives M N Follows Fine) where
  begins-match : (c d : Common) (us vs : List (ℕ × List Value)) → c ≡ d → us ≡ vs → Both (StateMatch M N Follows) (begins_with M c us) (begins_with N d vs)
  begins-match c d us vs e is = subst (λ l. Both (StateMatch M N Follows) (begins_with M c us) (begins_with N d l)) is (by us)
    where
      by : (ws : List (ℕ × List Value)) → Both (StateMatch M N Follows) (begins_with M c ws) (begins_with N d ws)
      by [] = tt
      by (u ∷ ws) =
          both-map (FrameMatch M N Follows) (StateMatch M N Follows) _ _ (λ f g r. ((λ i. record (e i) { to_run = ws }), tt, ((r.0, r.1, tt), tt)))
          (begun M u.0 u.1 None) (begun N u.0 u.1 None) (begun-match M N Follows sim.enters u.0 u.1 None)

  pub starts-match : (words : List Text) (input : List ℕ) (ticks : ℕ) → Both (StateMatch M N Follows) (start M words input ticks) (start N words input ticks)
  starts-match words input ticks =
      begins-match (first_common M.launch words input ticks) (first_common N.launch words input ticks) (units_to_run M) (units_to_run N)
      (ap (λ l. first_common l words input ticks) sim.launch)
      (λ i. map (λ u. (u, [])) (sim.facts i).initialisers ++ ((sim.launch i).main, main_arguments (sim.launch i).words) ∷ [])

  same-outcomes : AreFine natives M Fine → ((unit : ℕ) (a : A) → Settles M unit a) → HaveSameOutcomes natives M N
  same-outcomes fine settle words input order ticks o texts = (
    (λ r.
        let t = forth-some (StateMatch M N Follows) r.1.0 (start M words input ticks) (start N words input ticks) r.1.3 (starts-match words input ticks) in
        let done = forth natives M N Follows Fine sim fine words input ticks texts t.0 r.1.4 (0, [], starts r.1.3) t.2 in
        (done.0, (t.0, r.1.1, r.1.2, t.1, done.1, r.1.5))),
    (λ r.
        let s = back-some (StateMatch M N Follows) r.1.0 (start M words input ticks) (start N words input ticks) r.1.3 (starts-match words input ticks) in
        let done = back-pick natives M N Follows Fine sim fine words input ticks texts settle r.0 s.0 r.1.0 order r.1.1 r.1.2 r.1.4 (0, [], starts s.1) s.2 in
        (done.0, (s.0, r.1.1, r.1.2, s.1, done.1, r.1.5))),
  )

pub followers-do-the-same : {A B : Type 0} (natives : Answers) (M : Machine A) (N : Machine B) (Follows : A → B → Type 0) (Fine : Common → A → Type 0) → FollowersDoTheSame natives M N Follows Fine
followers-do-the-same natives M N Follows Fine sim fine settle = same-outcomes natives M N Follows Fine sim fine settle
