-- A `&` to an owner holds some share of the loan's token, and sees what every owner sees. Assumes `Logic`.
use Rattle.std.proofs.Common.{Bool, [], ◌∷◌}
use seplogic.Ra.Ura.{Ura}
use base.Logic.{SProp, ent, sep, wand, apply∗}
use base.Fml.{Lft, Share, Fml, fsep, fex, flft, fbor, fshr_bor}
use types.Logic.{Logic, sem, lfts}
use types.Kit.{‵, raw, ◌⊛◌, later, ◌$◌, ◌∵◌, !, qed, move, drop, use1, use2, split, fsplit3, keep, by, fpick, await, updating, now, done}
use types.Tokens.{bor_fracture}
use types.Na.{na_inv, na_inv_dup}
use denote.Sharing.{ShrLaws, one, beside, held}
use denote.SharingLaws.{contraction, some_shr_laws, beside_shr_laws, one_shr_laws, held_shr_laws}
use denote.Hidden.{kept, kept_shr_laws}
use denote.Model.Laws.{Lends-some}
use contract.BorrowLft.{meet_⊑_left}
use denote.Moves.{moves_from}
use denote.RawPtr.{Ptr, ◌+ₚ◌}
use denote.Struct.Lending.{Lends, Lends-first, Lends-both, lent_at_shr_laws}
use Rattle.shared_string.specs.Ownership.{Text, text_row, Times, kind, holds, sees, key, shared, owner, lends, owner_owns, owner_shares}
use Rattle.shared_string.proofs.Owners.{text_laws}

module _ {M : Type 1} {𝓤 : Ura M} (𝓛 : Logic 𝓤) (l : Lft) where
  open 𝓛 use {H, A}

  abbrev ⟦◌⟧ : Fml → SProp 𝓤
  ⟦ P ⟧ = sem 𝓛 P

  -- what can be had twice is lent as it is
  copies : (P : Fml) → ent 𝓤 ⟦ P ⟧ (sep 𝓤 ⟦ P ⟧ ⟦ P ⟧) → Lends 𝓛 P (λ _. P) l
  copies P twice κ ts inc sp = let Shuts : SProp 𝓤 = wand 𝓤 ⟦ P ⟧ (H.⇛ (sep 𝓤 (A.bor κ P) (lfts 𝓛 ts))) in qed 𝓛 (‵ (fbor κ P) ∷ raw (lfts 𝓛 ts) ∷ []) ∵ updating ! $
      use2 𝓛 (later (‵ P ⊛ raw Shuts)) (𝓛.more.bor_acc_by κ ts P sp) $ await ! tt $ split ! $ use1 𝓛 (‵ P ⊛ ‵ P) twice $ split ! $ move ! (1 ∷ 2 ∷ []) $
      use2 𝓛 (later (‵ (fbor κ P) ⊛ raw (lfts 𝓛 ts))) (apply∗ 𝓤 ⟦ P ⟧ (H.⇛ (sep 𝓤 (A.bor κ P) (lfts 𝓛 ts)))) $ await ! tt $ split ! $ drop ! $ move ! (1 ∷ 0 ∷ []) $ now ! $ done !

  module _ (a : Times) where
    abbrev parts : Share → Fml
    parts q = flft (a.0 ∷ []) q

    one_share : (s : Share) → Lends 𝓛 (parts s) (one parts) l
    one_share s κ ts inc sp = qed 𝓛 (‵ (fbor κ (parts s)) ∷ raw (lfts 𝓛 ts) ∷ []) ∵ updating ! $ bor_fracture ! tt parts s $ now ! $ done !

    token : Lends 𝓛 (holds a) (one parts) l
    token κ ts inc sp = qed 𝓛 (‵ (fbor κ (holds a)) ∷ raw (lfts 𝓛 ts) ∷ []) ∵ updating ! $ use2 𝓛 (later (‵ (fex Share (λ _. fshr_bor κ parts)) ⊛ raw (lfts 𝓛 ts)))
        (Lends-some 𝓛 Share (λ s. fsep (parts s) (fex Bool (kind a s))) (λ _. one parts) l (λ s. Lends-first 𝓛 (parts s) (fex Bool (kind a s)) (one parts) l (one_share s)) κ ts inc sp) $
        await ! tt $ split ! $ fpick ! (λ _. now ! $ done !)

module _ (c : Ptr) (x : Text) where
  sees_laws : ShrLaws (sees c x)
  sees_laws = lent_at_shr_laws text_row text_laws.shr_laws (c +ₚ 8) x

  module _ (a : Times) where
    abbrev ν : Lft
    ν = a.0 ∷ []

    abbrev rest : Lft → Fml
    rest = beside (kept (key c x) (shared c x a)) (held ν (sees c x))

    pub lends_laws : ShrLaws (lends c x a)
    lends_laws = beside_shr_laws (one (λ q. flft ν q)) rest (one_shr_laws (λ q. flft ν q))
        (beside_shr_laws (kept (key c x) (shared c x a)) (held ν (sees c x)) (kept_shr_laws (key c x) (shared c x a)) (held_shr_laws ν (sees c x) sees_laws))

    pub lends_owner : {M : Type 1} {𝓤 : Ura M} (𝓛 : Logic 𝓤) (l : Lft) → Lends 𝓛 (owner c x a) (lends c x a) l
    lends_owner 𝓛 l = let I : Fml = na_inv (key c x) (shared c x a) in let S : Fml = sees c x ν in
        Lends-both 𝓛 (holds a) (fsep I S) (one (λ q. flft ν q)) rest l (token 𝓛 l a)
        (Lends-both 𝓛 I S (λ _. I) (λ _. S) l (copies 𝓛 l I (na_inv_dup 𝓛 (key c x) (shared c x a))) (copies 𝓛 l S (contraction 𝓛 (sees c x) sees_laws ν)))

  pub shares_laws : ShrLaws (owner_shares c x)
  shares_laws = some_shr_laws Times (lends c x) lends_laws

  pub owner_lends : {M : Type 1} {𝓤 : Ura M} (𝓛 : Logic 𝓤) (l : Lft) → Lends 𝓛 (owner_owns c x) (owner_shares c x) l
  owner_lends 𝓛 l = Lends-some 𝓛 Times (owner c x) (lends c x) l (λ a. lends_owner a 𝓛 l)

  -- a `&` to an owner sees the text for as long as it lasts itself
  pub seen_by : {M : Type 1} {𝓤 : Ura M} (𝓛 : Logic 𝓤) (κ : Lft) → ent 𝓤 (sem 𝓛 (owner_shares c x κ)) (sem 𝓛 (sees c x κ))
  seen_by 𝓛 κ = qed 𝓛 (‵ (owner_shares c x κ) ∷ []) ∵ fpick ! (λ a. fsplit3 ! $ keep ! (0 ∷ 2 ∷ []) $ by ! (moves_from 𝓛 (sees c x) sees_laws κ (a.0 ∷ []) (a.0 ∷ []) (meet_⊑_left (a.0 ∷ []) κ)))
