-- `share` counts one owner more, or finds the count full.
use Rattle.shared_string.proofs.Steps.{word, word-Good, ◌≡◌, ℕ, ◌+◌, ◌^◌, ◌<◌, Bool, [], ◌∷◌, refl, sym, ap, arith, ltb→lt, nltb→le, w64, vptr, vint, named, ty_ptr, ty_int, never, id⊢, full_share, Lft, Share, Fml, ftrue, fat, flft, fobor, fex, ftok, every, Sq, runs, ‵, raw, ◌⊛◌, some, later, await, pick, at_ret, ◌$◌, ◌∵◌, !, qed, move, keep, drop, split, split3, join, rewrite, fsplit, fsplit3, fjoin, fpick, suffices, frame, done, use1, use2, use3, group, look, stop, fld, of_opd, load, store, bin, lit, neg_lit, and_then, no_more, first, blocks, branches, skips, exec, returns, enter, well_typed, assigns_last, alloc_all, pass_all, free_all, look_at, get, through, sets, is, env, holding, forget_but, agg, na_inv, na_inv_dup, rest, shr_bor-open, obor_close, tokens_halve, RefOf, usize, yes, part_at, uint_in, uint_out, Shut, Ptr, RawPtr, ptr_val, block_ptr, in_a_block, lies_at, ◌+ₚ◌, ShrRef, shr_vals, shr_Tells, plain, nothing, says, Stays, stay_dropped, ends_at, Goes-dropped}
use base.Share
use Rattle.shared_string.specs.Ownership.{Text, most, stage, holds, sees, key, shared, counted}
use Rattle.shared_string.proofs.Counting.{rises, stays_full}
use Rattle.shared_string.proofs.Owners.{Shuts, opens, shuts}
use Rattle.shared_string.proofs.Walks.{pointer_out, pointer_back, owner_seen, owner_made, held, W, proved_holding}
use Rattle.shared_string.specs.contracts.owner.Owner.{the_row}
use Rattle.shared_string.specs.contracts.owner.Owner.share as f
use Rattle.shared_string.proofs.owner.Owner.share.Statement.{statement}
use Rattle.shared_string.proofs.owner.Owner.share.Code as code
use Rattle.shared_string.proofs.owner.Owner.share.Code.{code as wires}

abbrev stayed : Stays f.ended.signature.params f.ended.kept
stayed = (stay_dropped (RefOf (0 ∷ []) tt (plain (λ _. the_row)) (λ _. tt)) yes, tt)

pub share_spec : {M : Type 1} → statement M
unfolding wires
share_spec 𝓤 𝓛 𝓜 𝓡 wired =
    let c = f.clauses 𝓛 𝓜.mem 𝓡.returns in
    proved_holding 𝓛 f.ended stayed c 𝓜 𝓡 (Goes-dropped 𝓛 1 (RefOf (0 ∷ []) tt (plain (λ _. the_row)) (λ _. tt)) yes (λ κs x w. refl), tt)
    f.Key.name code.function (wired.0.0 f.Key.name refl)
    (λ κs. (shr_vals, tt)) (λ κs. (shr_Tells (named 0) κs.0 the_row, tt)) (λ C Λ κs qs bounds v _.
    let κ : Lft = κs.0 in let q : Share = qs.0 in let p : Ptr = v.0.now.at in let x : Text = v.0.now.text in let b = v.0.ref_ptr.0 in let o = v.0.ref_ptr.1 in
    let y : (W 𝓛 f.ended stayed c).Ghost = ((κs, qs, bounds, v, (shr_vals v.0, tt)), tt) in
    qed 𝓛 (((‵ (flft κ q) ⊛ ‵ ftrue) ⊛ ‵ ((ShrRef (named 0) κ the_row).own_val v.0 (shr_vals v.0)) ⊛ ‵ ftrue) ∷ (‵ (ftok every) ⊛ ‵ ftrue) ∷ []) ∵
    split ! $ split ! $ move ! (2 ∷ []) $ split ! $ fsplit ! $ drop ! $ move ! (4 ∷ []) $ split ! $ keep ! (2 ∷ 4 ∷ 0 ∷ []) $
    -- [what the `&` holds; its token; the thread's token]
    enter ! _ _ _ _ _ $ alloc_all ! (λ l. pass_all ! refl ((tt, tt), tt) $
    owner_seen ! v.0.now b o $ move ! (2 ∷ []) $ use1 𝓛 (‵ (flft κ (Share.left q)) ⊛ ‵ (flft κ (Share.right q))) (𝓛.lfts.lft_split κ q) $ split ! $
    move ! (2 ∷ 0 ∷ []) $ pointer_out ! tt p b (o + 0) (λ s. move ! (3 ∷ []) $
    -- [what is shared; the pointer; its way back; the other half of the token; the thread's token]
    fpick ! (λ a. let ν : Lft = a.0 ∷ [] in let I : Fml = na_inv (key p x) (shared p x a) in fsplit3 ! $ move ! (0 ∷ 5 ∷ []) $ shr_bor-open ! tt (tokens_halve 𝓛 ν) (λ r.
    move ! (2 ∷ []) $ use1 𝓛 (‵ I ⊛ ‵ I) (na_inv_dup 𝓛 (key p x) (shared p x a)) $ split ! $ move ! (0 ∷ 3 ∷ 7 ∷ []) $
    use3 𝓛 (later (some (λ (n : ℕ). ‵ (counted p x a n) ⊛ ‵ (flft ν r) ⊛ raw (Shuts p x 𝓛 a)))) (opens p x 𝓛 a r) $ await ! tt $ pick ! (λ n. split3 ! $ fsplit3 ! $ move ! (2 ∷ []) $ fsplit ! $
    -- [the right to have the loan back; the stage; the count; the other parts; the share; what shuts]
    move ! (2 ∷ []) $ in_a_block ! p (λ c'. lies_at usize full_share (c' +ₚ 0) n) (id⊢ 𝓤 (never 𝓤)) (λ b' o' e. use1 𝓛 (‵ (fat full_share (ty_int w64) b' (o' + 0) (vint w64 n))) (uint_out 𝓛 full_share w64 n b' (o' + 0)) $ well_typed ! (λ ok.
    -- [the count; the right; the stage; the other parts; the share; what shuts; the invariant; the open borrow; what is seen; the pointer; its way back]
    let En = env code.Mir.locals l in
    let finish : Sq 𝓛 (‵ (ftok every) ∷ ‵ (holds a) ∷ ‵ (flft ν r) ∷ ‵ I ∷ ‵ (fobor κ (Share.right q) (flft ν r)) ∷ ‵ (sees p x ν) ∷ ‵ (fat s ty_ptr b (o + 0) (vptr b' o')) ∷ Shut 𝓛 κ (Share.left q) (part_at RawPtr s p b (o + 0))
    ∷ holding 𝓛 En ((1, vptr b o) ∷ (2, vptr b' o') ∷ [])) (runs C Λ En code.Mir.t-3 (at_ret En ((W 𝓛 f.ended stayed c).post y))) =
    move ! (4 ∷ 2 ∷ []) $ obor_close ! tt $ drop ! $ rewrite ! 5 (λ (c' : Ptr). ‵ (fat s ty_ptr b (o + 0) (ptr_val c'))) (sym e) refl $ move ! (5 ∷ 6 ∷ []) $ pointer_back ! tt p b (o + 0) $
    use2 𝓛 (‵ (flft κ q)) (𝓛.lfts.lft_join κ q) $ move ! (2 ∷ 3 ∷ 4 ∷ []) $ owner_made ! p x a $
    sets ! (is ! (agg ! (and_then ! (get ! refl) (no_more !))) (ap word (sym e))) refl (word-Good [] p) $ returns ! (look_at ! 0 refl) $ free_all ! refl $
    suffices ! _ (ends_at 𝓛 f.ended stayed (held 𝓛 f.ended stayed c) y (word p) (record { at = p; text = x }) (tt, tt) (tt, tt)) $
    nothing ! $ nothing ! $ fjoin ! $ join ! $ nothing ! $ move ! (2 ∷ 0 ∷ 1 ∷ []) $ join ! $ join ! $ frame ! $ says ! refl $ done ! in
    rewrite ! 9 (λ (c' : Ptr). ‵ (fat s ty_ptr b (o + 0) (ptr_val c'))) e refl $
    sets ! (of_opd ! (load ! (through ! refl (fld ! refl (stop !))) (look ! 9 refl))) refl (tt, tt) $ first ! $ blocks ! $
    sets ! (of_opd ! (load ! (through ! refl (fld ! refl (stop !))) (look ! 0 refl))) refl ok $
    sets ! (bin ! (get ! refl) (neg_lit ! tt) tt) refl (tt, tt) $ branches ! (get ! refl)
    (λ room. let low : n < most = ltb→lt n most room in let f₁ : n + 1 < 2 ^ 64 = omega (arith, low) in
    sets ! (bin ! (get ! refl) (lit ! tt) (record { fits = f₁ })) refl (tt, record { fits = f₁ }) $
    assigns_last ! (of_opd ! (get ! refl)) (through ! refl (fld ! refl (stop !))) (store ! 0 refl (tt, record { fits = f₁ })) $ exec ! C Λ En code.Mir.t-3 (at_ret En _) $
    use1 𝓛 (‵ (lies_at usize full_share (block_ptr b' o' +ₚ 0) (n + 1))) (uint_in 𝓛 full_share w64 (n + 1) b' (o' + 0)) $ rewrite ! 0 (λ (c' : Ptr). ‵ (lies_at usize full_share (c' +ₚ 0) (n + 1))) (sym e) refl $
    move ! (3 ∷ 2 ∷ []) $ use2 𝓛 (later (‵ (rest 64 a.0 (n + 1)) ⊛ ‵ (fex Bool (stage a (n + 1))) ⊛ ‵ (holds a))) (rises a 𝓛 n low) $ await ! tt $ split3 ! $
    move ! (3 ∷ 0 ∷ 4 ∷ 1 ∷ []) $ group ! 4 $ use1 𝓛 (‵ (counted p x a (n + 1))) (id⊢ 𝓤 _) $ move ! (0 ∷ 3 ∷ []) $ use2 𝓛 (later (‵ (ftok every))) (shuts p x 𝓛 a (n + 1)) $ await ! tt $
    forget_but ! En (1 ∷ 2 ∷ []) refl $ finish)
    (λ full. let e' : n ≡ most = omega (arith, nltb→le n most full, ok.1.fits) in skips ! $ exec ! C Λ En code.Mir.t-3 (at_ret En _) $
    use1 𝓛 (‵ (lies_at usize full_share (block_ptr b' o' +ₚ 0) n)) (uint_in 𝓛 full_share w64 n b' (o' + 0)) $ rewrite ! 0 (λ (c' : Ptr). ‵ (lies_at usize full_share (c' +ₚ 0) n)) (sym e) refl $
    move ! (2 ∷ []) $ use1 𝓛 (later (‵ (fex Bool (stage a n)) ⊛ ‵ (holds a))) (stays_full a 𝓛 n e') $ await ! tt $ split ! $
    move ! (2 ∷ 4 ∷ 3 ∷ 0 ∷ []) $ group ! 4 $ use1 𝓛 (‵ (counted p x a n)) (id⊢ 𝓤 _) $ move ! (0 ∷ 3 ∷ []) $ use2 𝓛 (later (‵ (ftok every))) (shuts p x 𝓛 a n) $ await ! tt $
    forget_but ! En (1 ∷ 2 ∷ []) refl $ finish)))))))))
