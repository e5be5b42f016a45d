-- `text` follows the pointer to the text, which every owner sees.
use Rattle.shared_string.proofs.Steps.{◌+◌, List, [], ◌∷◌, refl, sym, proved, Val, vptr, named, ty_ptr, never, fst∗, ftrue, fat, flft, sem, ‵, ◌⊛◌, at_ret, ◌$◌, ◌∵◌, !, qed, move, keep, drop, split, join, rewrite, fsplit, fjoin, feq_i, suffices, frame, done, use1, look, stop, hop, fld, of_opd, addr, first, blocks, exec, returns, enter, alloc_all, pass_all, free_all, look_at, get, through, sets, sets_last, env, tables, yes, RefOf, ShrRef, shr_vals, shr_Tells, plain, says, Stays, stay_dropped, walk_of, ends_at, Goes-dropped, Ptr, ptr_val, in_a_block, shared_of, hide, nothing}
use Rattle.shared_string.specs.Ownership.{text_row, sees}
use Rattle.shared_string.proofs.Lending.{seen_by}
use Rattle.shared_string.proofs.Walks.{pointer_out, pointer_back, owner_seen}
use Rattle.shared_string.specs.contracts.owner.Owner.{the_row}
use Rattle.shared_string.specs.contracts.owner.Owner.text as f
use Rattle.shared_string.proofs.owner.Owner.text.Statement.{statement}
use Rattle.shared_string.proofs.owner.Owner.text.Code as code

abbrev stayed : Stays f.ended.signature.params f.ended.kept
stayed = (stay_dropped (RefOf (0 ∷ []) tt (plain (λ _. the_row)) (λ _. tt)) yes, tt)

pub text_spec : {M : Type 1} → statement M
text_spec 𝓤 𝓛 𝓜 𝓡 wired =
    let c = f.clauses 𝓛 𝓜.mem 𝓡.returns in let W = walk_of 𝓛 f.ended stayed c in let 𝓣 = tables 𝓤 𝓛.H 𝓜 𝓡 𝓡.env in
    proved 𝓛 f.ended stayed c 𝓜 𝓡 (Goes-dropped 𝓛 1 (RefOf (0 ∷ []) tt (plain (λ _. the_row)) (λ _. tt)) yes (λ κs x w. refl), tt)
    f.Key.name code.function (code.unfolded 𝓤 𝓛.H 𝓜 𝓡 wired)
    (λ κs. (shr_vals, tt)) (λ κs. (shr_Tells (named 0) κs.0 the_row, tt)) (λ κs qs bounds a _ are.
    let κ = κs.0 in let q = qs.0 in let d = a.0.now in let b = a.0.ref_ptr.0 in let o = a.0.ref_ptr.1 in
    let y : W.Ghost = ((κs, qs, bounds, a, (shr_vals a.0, tt)), tt) in
    qed 𝓛 (((‵ (flft κ q) ⊛ ‵ ftrue) ⊛ ‵ ((ShrRef (named 0) κ the_row).own_val a.0 (shr_vals a.0)) ⊛ ‵ ftrue) ∷ ‵ ftrue ∷ []) ∵
    split ! $ split ! $ move ! (2 ∷ []) $ split ! $ fsplit ! $ drop ! $ keep ! (0 ∷ 2 ∷ []) $
    enter ! _ _ _ _ _ $ alloc_all ! (λ l. pass_all ! refl ((tt, tt), tt) $
    owner_seen ! d b o $ move ! (1 ∷ []) $ use1 𝓛 (‵ (sees d.at d.text κ)) (seen_by d.at d.text 𝓛 κ) $
    in_a_block ! d.at (λ p. sees p d.text κ) (fst∗ 𝓤 (never 𝓤) (sem 𝓛 (shared_of text_row d.text 0 0 κ))) (λ b' o' e. fsplit ! $ drop ! $ hide ! $ move ! (1 ∷ 2 ∷ []) $
    pointer_out ! tt d.at b (o + 0) (λ s. rewrite ! 0 (λ (p : Ptr). ‵ (fat s ty_ptr b (o + 0) (ptr_val p))) e refl $ first ! $ blocks ! $
    sets_last ! (addr ! (through ! refl (fld ! refl (hop ! (look ! 0 refl) (fld ! refl (stop !)))))) refl (tt, tt) $
    exec ! 𝓣.C 𝓣.Λ (env code.Mir.locals l) code.Mir.t-2 (at_ret _ (W.post y)) $ sets ! (of_opd ! (get ! refl)) refl (tt, tt) $
    rewrite ! 0 (λ (p : Ptr). ‵ (fat s ty_ptr b (o + 0) (ptr_val p))) (sym e) refl $ pointer_back ! tt d.at b (o + 0) $
    returns ! (look_at ! 0 refl) $ free_all ! refl $
    suffices ! _ (ends_at 𝓛 f.ended stayed c y (vptr b' (o' + 8)) (record { ref_ptr = (b', o' + 8); now = d.text }) (tt, tt) (tt, tt)) $ says ! refl $
    move ! (1 ∷ []) $ feq_i ! (List Val) (vptr b' (o' + 8) ∷ []) (vptr b' (o' + 8) ∷ []) refl $ fjoin ! $ nothing ! $ nothing ! $ fjoin ! $ nothing ! $ move ! (3 ∷ 0 ∷ []) $ join ! $ frame ! $ frame ! $ done !))))
