-- The first owner of a block, and what every owner finds there. Assumes `Logic`.
use Rattle.std.proofs.Common.{ℕ, Bool, true, false, [], ◌∷◌, refl, subst, arith, lit<}
use seplogic.Ra.Ura.{Ura}
use base.Fraction.{full_share}
use base.FractionLaws.{Counts, Counts-all}
use base.Logic.{SProp, ent, sep, wand, ex, never, never_e, via, apply∗}
use base.Fml.{Lft, Key, Share, Fml, Incl-refl, ftrue, flft, fdead, ftok}
use base.Mask.{every, just, less, take}
use contract.BorrowLft.{⊑_static}
use types.Logic.{Logic, sem}
use types.Kit.{‵, raw, ◌⊛◌, later, await, ◌$◌, ◌∵◌, !, qed, by, use1, use2, move, keep, split, frame, show, assume, updating, now, done, fjoin, fjoin3, fpick, fpack, flt_i, group}
use types.Tokens.{lft_new, bor_new}
use types.Na.{na_inv, na_inv_new, na_inv_acc}
use types.RcWeak.{part, rest, cut}
use denote.Steps.{nothing}
use denote.Struct.Lending.{Lends, Lends-lies, Lends-first}
use denote.RawPtr.{Ptr, lies_at, ◌+ₚ◌}
use Rattle.shared_string.proofs.counted.Counted.TheLaws.{the_row_laws}
use denote.Param.Laws.{Laws}
use Rattle.shared_string.specs.Ownership.{Text, text_row, frees, most, Times, stage, holds, counts, loan, sees, key, counted, phase, shared, owner, owner_owns}
use Rattle.shared_string.proofs.Counting.{holds_in}

pub text_laws : Laws text_row
text_laws = the_row_laws

module _ (c : Ptr) (x : Text) {M : Type 1} {𝓤 : Ura M} (𝓛 : Logic 𝓤) where
  open 𝓛 use {H, A}

  abbrev ⟦◌⟧ : Fml → SProp 𝓤
  ⟦ P ⟧ = sem 𝓛 P

  abbrev ◌⊢◌ : SProp 𝓤 → SProp 𝓤 → Type 1
  P ⊢ Q = ent 𝓤 P Q

  abbrev ◌∗◌ : SProp 𝓤 → SProp 𝓤 → SProp 𝓤
  P ∗ Q = sep 𝓤 P Q

  abbrev ◌-∗◌ : SProp 𝓤 → SProp 𝓤 → SProp 𝓤
  P -∗ Q = wand 𝓤 P Q

  infix 26 ◌⊢◌
  infixr 35 ◌∗◌
  infixr 30 ◌-∗◌
  loan_lends : Lends 𝓛 (loan c x) (sees c x) []
  loan_lends = Lends-first 𝓛 (lies_at text_row full_share (c +ₚ 8) x) (frees c) (sees c x) [] (Lends-lies 𝓛 text_row [] (c +ₚ 8) x (text_laws.shares 𝓛 x))

  pub begins : ⟦ counts c x 1 ⟧ ∗ ⟦ loan c x ⟧ ⊢ H.⇛ ⟦ owner_owns c x ⟧
  begins = qed 𝓛 (‵ (counts c x 1) ∷ ‵ (loan c x) ∷ []) ∵ updating ! $ lft_new ! tt (λ w. lft_new ! tt (λ n.
      let a : Times = (n, w) in let ν : Lft = n ∷ [] in
      use1 𝓛 (‵ (rest 64 n 1) ⊛ ‵ (part 64 n)) (cut 64 𝓛 n 0 full_share (lit< tt) (subst (Counts 64 full_share) (omega arith) (Counts-all 64))) $ split ! $
      -- [the other parts; a part; the count's time; the count; the loan]
      move ! (4 ∷ []) $ bor_new ! tt ν $ move ! (3 ∷ []) $ fpick ! (λ s. fpick ! (λ one. move ! (1 ∷ 0 ∷ []) $
      use2 𝓛 (later (‵ (sees c x ν) ⊛ ‵ (flft ν s))) (loan_lends ν ((ν, s) ∷ []) (⊑_static ν) (Incl-refl ν)) $ await ! tt $ split ! $
      -- [what is seen; a part; the lender's right; the other parts; the count's time; the count]
      nothing ! $ fpack ! (Counts 64 s 1) (λ _. ftrue) one $ move ! (2 ∷ 0 ∷ []) $ use2 𝓛 (‵ (holds a)) (holds_in a 𝓛 s true) $
      move ! (4 ∷ []) $ flt_i ! 1 most (lit< tt) $ fjoin ! $ fpack ! Bool (stage a 1) true $ move ! (5 ∷ 4 ∷ 3 ∷ 0 ∷ []) $ group ! 4 $
      use1 𝓛 (‵ (counted c x a 1)) (base.Logic.id⊢ 𝓤 _) $ fpack ! ℕ (counted c x a) 1 $ fpack ! Bool (phase c x a) true $
      use1 𝓛 (later (‵ (na_inv (key c x) (shared c x a)))) (na_inv_new 𝓛 (key c x) (shared c x a)) $ await ! tt $
      move ! (1 ∷ 0 ∷ 2 ∷ []) $ fjoin3 ! $ fpack ! Times (owner c x) a $ now ! $ done !))))

  module _ (a : Times) where
    abbrev pub Shuts : SProp 𝓤
    Shuts = ⟦ shared c x a ⟧ -∗ H.⇛ (A.tok every)

    abbrev pub Open : Share → ℕ → SProp 𝓤
    Open s n = ⟦ counted c x a n ⟧ ∗ A.lft (a.0 ∷ []) s ∗ Shuts

    out : ⟦ na_inv (key c x) (shared c x a) ⟧ ∗ A.tok every ⊢ H.⇛ (⟦ shared c x a ⟧ ∗ Shuts)
    out = let k : Key = key c x in qed 𝓛 (‵ (na_inv k (shared c x a)) ∷ ‵ (ftok every) ∷ []) ∵ updating ! $ move ! (1 ∷ []) $
        use1 𝓛 (‵ (ftok (just k)) ⊛ ‵ (ftok (less every k))) (𝓛.invs.tok_cut every (just k) (less every k) (take every k refl)) $ split ! $ move ! (2 ∷ 0 ∷ []) $
        use2 𝓛 (later (‵ (shared c x a) ⊛ raw (⟦ shared c x a ⟧ -∗ H.⇛ (A.tok (just k))))) (na_inv_acc 𝓛 k (shared c x a)) $ await ! tt $ split ! $ now ! $ frame ! $
        assume ! (‵ (shared c x a)) $ updating ! $ move ! (0 ∷ 1 ∷ []) $ use2 𝓛 (later (‵ (ftok (just k)))) (apply∗ 𝓤 ⟦ shared c x a ⟧ (H.⇛ (A.tok (just k)))) $ await ! tt $ now ! $
        by ! (𝓛.invs.tok_glue every (just k) (less every k) (take every k refl))

    -- while some share of the loan's token is held, the loan lasts
    pub opens : (s : Share) → ⟦ na_inv (key c x) (shared c x a) ⟧ ∗ A.lft (a.0 ∷ []) s ∗ A.tok every ⊢ H.⇛ (ex 𝓤 (Open s))
    opens s = qed 𝓛 (‵ (na_inv (key c x) (shared c x a)) ∷ ‵ (flft (a.0 ∷ []) s) ∷ ‵ (ftok every) ∷ []) ∵ updating ! $ move ! (0 ∷ 2 ∷ []) $
        use2 𝓛 (later (‵ (shared c x a) ⊛ raw Shuts)) out $ await ! tt $ split ! $ now ! $ fpick ! (λ y. move ! (0 ∷ 2 ∷ 1 ∷ []) $ by ! (lasts y))
      where
        lasts : (y : Bool) → ⟦ phase c x a y ⟧ ∗ A.lft (a.0 ∷ []) s ∗ Shuts ⊢ ex 𝓤 (Open s)
        lasts true = qed 𝓛 (‵ (phase c x a true) ∷ ‵ (flft (a.0 ∷ []) s) ∷ raw Shuts ∷ []) ∵ fpick ! (λ n. show ! (Open s) n $ done !)
        lasts false = qed 𝓛 (‵ (phase c x a false) ∷ ‵ (flft (a.0 ∷ []) s) ∷ raw Shuts ∷ []) ∵ keep ! (1 ∷ 0 ∷ []) $ by ! (via 𝓤 (never 𝓤) (𝓛.lfts.lft-dead (a.0 ∷ []) s) (never_e 𝓤 (ex 𝓤 (Open s))))

    pub shuts : (n : ℕ) → ⟦ counted c x a n ⟧ ∗ Shuts ⊢ H.⇛ (A.tok every)
    shuts n = qed 𝓛 (‵ (counted c x a n) ∷ raw Shuts ∷ []) ∵ fpack ! ℕ (counted c x a) n $ fpack ! Bool (phase c x a) true $ by ! (apply∗ 𝓤 ⟦ shared c x a ⟧ (H.⇛ (A.tok every)))

    pub is_over : A.dead (a.0 ∷ []) ∗ Shuts ⊢ H.⇛ (A.tok every)
    is_over = qed 𝓛 (‵ (fdead (a.0 ∷ [])) ∷ raw Shuts ∷ []) ∵ fpack ! Bool (phase c x a) false $ by ! (apply∗ 𝓤 ⟦ shared c x a ⟧ (H.⇛ (A.tok every)))
