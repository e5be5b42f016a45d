-- The steps on the count of a block's owners. Assumes `Logic`.
use Rattle.std.proofs.Common.{◌≡◌, ℕ, ◌+◌, ◌-◌, ◌<◌, Bool, true, false, [], ◌∷◌, arith, lit<, ◌⊎◌, inl, inr}
use seplogic.Ra.Ura.{Ura}
use base.Fraction.{full_share}
use base.FractionLaws.{Counts}
use base.Logic.{SProp, ent, sep, never, never_e, via}
use base.Fml.{Lft, Share, Fml, ftrue, fsep, fex, flft, fdead, flent, fshr_bor}
use types.Logic.{Logic, sem}
use types.Kit.{‵, ◌⊛◌, later, await, ◌$◌, ◌∵◌, !, qed, by, use0, use1, use2, move, keep, drop, split, frame, updating, now, done, fsplit, fjoin, fpick, fpack, feq_l, feq_i, flt_l, flt_i}
use types.Tokens.{lft_end, bor_new, bor_fracture, lent_back, shr_bor_dup, shr_bor-open}
use types.Within.{tokens_halve}
use denote.Steps.{nothing}
use types.RcWeak.{part, rest, takes, gives, whole, part_in}
use Rattle.shared_string.specs.Ownership.{most, Times, stage, kind, holds}

module _ (a : Times) {M : Type 1} {𝓤 : Ura M} (𝓛 : Logic 𝓤) where
  open 𝓛 use {H, A}

  abbrev ⟦◌⟧ : Fml → SProp 𝓤
  ⟦ P ⟧ = sem 𝓛 P

  abbrev ◌⊢◌ : SProp 𝓤 → SProp 𝓤 → Type 1
  P ⊢ Q = ent 𝓤 P Q

  abbrev ◌∗◌ : SProp 𝓤 → SProp 𝓤 → SProp 𝓤
  P ∗ Q = sep 𝓤 P Q

  infix 26 ◌⊢◌
  infixr 35 ◌∗◌
  abbrev ν : Lft
  ν = a.0 ∷ []

  abbrev ω : Lft
  ω = a.1 ∷ []

  abbrev stages : ℕ → Fml
  stages n = fex Bool (stage a n)

  abbrev supply : Fml
  supply = fsep (fdead ω) (fshr_bor [] (λ q. flft ν q))

  not_both : (κ : Lft) (s : Share) (X : SProp 𝓤) → A.lft κ s ∗ A.dead κ ⊢ X
  not_both κ s X = via 𝓤 (never 𝓤) (𝓛.lfts.lft-dead κ s) (never_e 𝓤 X)

  pub holds_in : (s : Share) (y : Bool) → A.lft ν s ∗ ⟦ kind a s y ⟧ ⊢ ⟦ holds a ⟧
  holds_in s y = qed 𝓛 (‵ (flft ν s) ∷ ‵ (kind a s y) ∷ []) ∵ move ! (1 ∷ []) $ fpack ! Bool (kind a s) y $ move ! (1 ∷ 0 ∷ []) $ fjoin ! $
      fpack ! Share (λ r. fsep (flft ν r) (fex Bool (kind a r))) s $ done !

  -- a share for an owner that isn't counted
  from_supply : ⟦ supply ⟧ ⊢ H.⇛ (⟦ supply ⟧ ∗ ⟦ holds a ⟧)
  from_supply = qed 𝓛 (‵ supply ∷ []) ∵ updating ! $ fsplit ! $
      use1 𝓛 (‵ (fdead ω) ⊛ ‵ (fdead ω)) (𝓛.lfts.dead_dup ω) $ split ! $ move ! (2 ∷ []) $ shr_bor_dup ! $
      use0 𝓛 (‵ (flft [] full_share)) (𝓛.lfts.lft-nil full_share) $ move ! (1 ∷ 0 ∷ []) $ shr_bor-open ! tt (tokens_halve 𝓛 ν) (λ s.
      -- [the open borrow; the share; the supply's borrow; the end, twice]
      drop ! $ move ! (0 ∷ 2 ∷ []) $ use2 𝓛 (‵ (holds a)) (holds_in s false) $ move ! (2 ∷ 1 ∷ []) $ fjoin ! $ now ! $ done !)

  full_again : (n : ℕ) → n ≡ most → ⟦ supply ⟧ ⊢ H.⇛ (⟦ stages n ⟧ ∗ ⟦ holds a ⟧)
  full_again n e = qed 𝓛 (‵ supply ∷ []) ∵ updating ! $ use1 𝓛 (later (‵ supply ⊛ ‵ (holds a))) from_supply $ await ! tt $ split ! $
      feq_i ! ℕ n most e $ fjoin ! $ fpack ! Bool (stage a n) false $ now ! $ done !

  -- the count is full and stays so
  pub stays_full : (n : ℕ) → n ≡ most → ⟦ stages n ⟧ ⊢ H.⇛ (⟦ stages n ⟧ ∗ ⟦ holds a ⟧)
  stays_full n e = qed 𝓛 (‵ (stages n) ∷ []) ∵ fpick ! (λ y. by ! (from y))
    where
      from : (y : Bool) → ⟦ stage a n y ⟧ ⊢ H.⇛ (⟦ stages n ⟧ ∗ ⟦ holds a ⟧)
      from true = qed 𝓛 (‵ (stage a n true) ∷ []) ∵ fsplit ! $ flt_l ! (λ l. absurd (omega (arith, l, e)))
      from false = qed 𝓛 (‵ (stage a n false) ∷ []) ∵ fsplit ! $ drop ! $ by ! (full_again n e)

  -- one more owner is counted, which may be the last that can be
  pub rises : (n : ℕ) → n < most → ⟦ rest 64 a.0 n ⟧ ∗ ⟦ stages n ⟧ ⊢ H.⇛ (⟦ rest 64 a.0 (n + 1) ⟧ ∗ ⟦ stages (n + 1) ⟧ ∗ ⟦ holds a ⟧)
  rises n room = qed 𝓛 (‵ (rest 64 a.0 n) ∷ ‵ (stages n) ∷ []) ∵ updating ! $
      use1 𝓛 (‵ (rest 64 a.0 (n + 1)) ⊛ ‵ (part 64 a.0)) (takes 64 𝓛 a.0 n (omega (arith, room))) $ split ! $ move ! (1 ∷ 2 ∷ []) $
      use2 𝓛 (later (‵ (stages (n + 1)) ⊛ ‵ (holds a))) (by_room (split_at n room)) $ await ! tt $ split ! $ now ! $ move ! (2 ∷ 0 ∷ 1 ∷ []) $ done !
    where
      split_at : (n : ℕ) → n < most → (n + 1 < most) ⊎ (n + 1 ≡ most)
      split_at n l = grind (arith, l)

      counts_on : n + 1 < most → (y : Bool) → ⟦ part 64 a.0 ⟧ ∗ ⟦ stage a n y ⟧ ⊢ H.⇛ (⟦ stages (n + 1) ⟧ ∗ ⟦ holds a ⟧)
      counts_on more true = qed 𝓛 (‵ (part 64 a.0) ∷ ‵ (stage a n true) ∷ []) ∵ updating ! $ fpick ! (λ s. fpick ! (λ one. nothing ! $ fpack ! (Counts 64 s 1) (λ _. ftrue) one $ move ! (1 ∷ 0 ∷ []) $
          use2 𝓛 (‵ (holds a)) (holds_in s true) $ move ! (1 ∷ []) $ fsplit ! $ drop ! $ flt_i ! (n + 1) most more $ fjoin ! $ fpack ! Bool (stage a (n + 1)) true $ now ! $ done !))
      counts_on more false = qed 𝓛 (‵ (part 64 a.0) ∷ ‵ (stage a n false) ∷ []) ∵ move ! (1 ∷ []) $ fsplit ! $ feq_l ! (λ e. absurd (omega (arith, more, e)))

      fills : n + 1 ≡ most → (y : Bool) → ⟦ part 64 a.0 ⟧ ∗ ⟦ stage a n y ⟧ ⊢ H.⇛ (⟦ stages (n + 1) ⟧ ∗ ⟦ holds a ⟧)
      fills e true = qed 𝓛 (‵ (part 64 a.0) ∷ ‵ (stage a n true) ∷ []) ∵ updating ! $ fpick ! (λ s. fpick ! (λ one.
          bor_new ! tt [] $ bor_fracture ! tt (λ q. flft ν q) s $ move ! (2 ∷ []) $ fsplit ! $ drop ! $ lft_end ! tt $ move ! (0 ∷ 1 ∷ []) $ fjoin ! $
          use1 𝓛 (later (‵ (stages (n + 1)) ⊛ ‵ (holds a))) (full_again (n + 1) e) $ await ! tt $ split ! $ now ! $ keep ! (0 ∷ 1 ∷ []) $ done !))
      fills e false = qed 𝓛 (‵ (part 64 a.0) ∷ ‵ (stage a n false) ∷ []) ∵ move ! (1 ∷ []) $ fsplit ! $ feq_l ! (λ f. absurd (omega (arith, e, f)))

      by_room : (n + 1 < most) ⊎ (n + 1 ≡ most) → ⟦ part 64 a.0 ⟧ ∗ ⟦ stages n ⟧ ⊢ H.⇛ (⟦ stages (n + 1) ⟧ ∗ ⟦ holds a ⟧)
      by_room (inl more) = qed 𝓛 (‵ (part 64 a.0) ∷ ‵ (stages n) ∷ []) ∵ move ! (1 ∷ []) $ fpick ! (λ y. move ! (1 ∷ 0 ∷ []) $ by ! (counts_on more y))
      by_room (inr e) = qed 𝓛 (‵ (part 64 a.0) ∷ ‵ (stages n) ∷ []) ∵ move ! (1 ∷ []) $ fpick ! (λ y. move ! (1 ∷ 0 ∷ []) $ by ! (fills e y))

  -- below the full count each owner is counted
  is_counted : (n : ℕ) → n < most → ⟦ stages n ⟧ ∗ ⟦ holds a ⟧ ⊢ ⟦ stage a n true ⟧ ∗ ⟦ part 64 a.0 ⟧
  is_counted n room = qed 𝓛 (‵ (stages n) ∷ ‵ (holds a) ∷ []) ∵ fpick ! (λ y. move ! (1 ∷ []) $ fpick ! (λ s. fsplit ! $ move ! (1 ∷ []) $ fpick ! (λ k. move ! (1 ∷ 0 ∷ 2 ∷ []) $ by ! (both s y k))))
    where
      both : (s : Share) (y k : Bool) → A.lft ν s ∗ ⟦ kind a s k ⟧ ∗ ⟦ stage a n y ⟧ ⊢ ⟦ stage a n true ⟧ ∗ ⟦ part 64 a.0 ⟧
      both s true true = qed 𝓛 (‵ (flft ν s) ∷ ‵ (kind a s true) ∷ ‵ (stage a n true) ∷ []) ∵ move ! (1 ∷ []) $ fpick ! (λ one. drop ! $ use1 𝓛 (‵ (part 64 a.0)) (part_in 64 𝓛 a.0 s one) $ move ! (1 ∷ 0 ∷ []) $ done !)
      both s true false = qed 𝓛 (‵ (flft ν s) ∷ ‵ (kind a s false) ∷ ‵ (stage a n true) ∷ []) ∵ move ! (2 ∷ []) $ fsplit ! $ drop ! $ keep ! (0 ∷ 2 ∷ []) $ by ! (not_both ω full_share _)
      both s false k = qed 𝓛 (‵ (flft ν s) ∷ ‵ (kind a s k) ∷ ‵ (stage a n false) ∷ []) ∵ move ! (2 ∷ []) $ fsplit ! $ feq_l ! (λ e. absurd (omega (arith, room, e)))

  -- one owner less is counted
  pub falls : (n : ℕ) → 1 < n → n < most → ⟦ rest 64 a.0 n ⟧ ∗ ⟦ stages n ⟧ ∗ ⟦ holds a ⟧ ⊢ ⟦ rest 64 a.0 (n - 1) ⟧ ∗ ⟦ stages (n - 1) ⟧
  falls n many room = qed 𝓛 (‵ (rest 64 a.0 n) ∷ ‵ (stages n) ∷ ‵ (holds a) ∷ []) ∵ move ! (1 ∷ 2 ∷ []) $ use2 𝓛 (‵ (stage a n true) ⊛ ‵ (part 64 a.0)) (is_counted n room) $ split ! $
      move ! (2 ∷ 1 ∷ []) $ use2 𝓛 (‵ (rest 64 a.0 (n - 1))) (gives 64 𝓛 a.0 n many) $ frame ! $ fsplit ! $ drop ! $ flt_i ! (n - 1) most (omega (arith, room)) $ fjoin ! $ fpack ! Bool (stage a (n - 1)) true $ done !

  -- the last owner ends the loan
  pub ends : (P : Fml) → ⟦ rest 64 a.0 1 ⟧ ∗ ⟦ stages 1 ⟧ ∗ ⟦ holds a ⟧ ∗ ⟦ flent ν P ⟧ ⊢ H.⇛ (⟦ P ⟧ ∗ A.dead ν)
  ends P = qed 𝓛 (‵ (rest 64 a.0 1) ∷ ‵ (stages 1) ∷ ‵ (holds a) ∷ ‵ (flent ν P) ∷ []) ∵ updating ! $ move ! (1 ∷ 2 ∷ []) $ use2 𝓛 (‵ (stage a 1 true) ⊛ ‵ (part 64 a.0)) (is_counted 1 (lit< tt)) $ split ! $ drop ! $
      move ! (1 ∷ 0 ∷ []) $ use2 𝓛 (‵ (flft ν full_share)) (whole 64 𝓛 a.0) $ lft_end ! tt $ use1 𝓛 (‵ (fdead ν) ⊛ ‵ (fdead ν)) (𝓛.lfts.dead_dup ν) $ split ! $ move ! (0 ∷ 2 ∷ []) $ lent_back ! tt $ now ! $ done !
