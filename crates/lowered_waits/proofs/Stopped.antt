-- A strand that is blocked in a worker has a top frame that still waits.
use Rattle.std.proofs.Common.{◌≡◌, ◌⊎◌, ◌<◌, ◌≤◌, ◌∙◌, ℕ, Some, length, refl, sym, subst, ap, inl, inr}
use Rattle.std.proofs.lemmas.Bool.{cases_lt}
use Rattle.std.proofs.lemmas.Option.{none-some, slice_get-get_or}
use Rattle.std.specs.Prelude.{slice_get}
use Rattle.value_model.specs.Meaning.{Answers}
use Rattle.op_model.specs.Common.{Common, IsActive, IsBlocked, Need}
use Rattle.op_model.specs.Strands.{activation_at, no_activation, no_strand, strand_at}
use Rattle.machine_model.specs.Machine.{Machine, State}
use Rattle.machine_model.specs.Runs.{Phase, Picking, Running}
use Rattle.machine_model.specs.Strands.{StrandsHold, TopWaits, frames_in, frames_of}
use Rattle.machine_model.proofs.Once.{some-same}
use Rattle.machine_model.proofs.Places.{get-past, if-other}
use Rattle.machine_model.proofs.Shapes.{in-some}

module _ {C : Type 0} (natives : Answers) (M : Machine C) (phase : Phase) (s : State C) (holds : StrandsHold natives M phase s) where
  abbrev c : Common
  c = s.common

  -- a blocked strand doesn't run
  not-running : (n : ℕ) (need : Need) → (strand_at c n).status ≡ IsBlocked need → n < length c.strands → frames_in phase s n ≡ frames_of s n
  not-running n need blocked lt = by phase refl
    where
      active : phase ≡ Running → n ≡ c.running → ⊥
      active is e = in-some (slice_get c.strands c.running) (holds.running is) (λ y there act.
          let same : strand_at c n ≡ y = some-same _ _ (sym (slice_get-get_or c.strands n no_strand lt) ∙ ap (slice_get c.strands) e ∙ there) in
          let bad : IsBlocked need ≡ IsActive = sym blocked ∙ ap (λ z. z.status) same ∙ act in
          let q : ⊥ = cc in q)

      by : (z : Phase) → phase ≡ z → frames_in z s n ≡ frames_of s n
      by Picking is = refl
      by Running is = if-other n c.running s.frames (frames_of s n) (λ e. active is e)

  module _ (a w n : ℕ) (need : Need) (runs : slice_get (activation_at c a).strands w ≡ Some n) (blocked : (strand_at c n).status ≡ IsBlocked need) where
    there : n < length c.strands
    there = by (cases_lt a (length c.activations))
      where
        by : (a < length c.activations) ⊎ (length c.activations ≤ a) → n < length c.strands
        by (inl lt) = ((holds.activations a (activation_at c a) (slice_get-get_or c.activations a no_activation lt)).workers w n runs).0
        by (inr le) = absurd (none-some n (sym (ap (λ z. slice_get z.strands w) (get-past c.activations a no_activation le)) ∙ runs))

    pub stopped-waits : TopWaits natives M phase s need (frames_of s n)
    stopped-waits =
        subst (TopWaits natives M phase s need) (not-running n need blocked there)
        ((holds.strands n (strand_at c n) (slice_get-get_or c.strands n no_strand there)).blocked need blocked).1
