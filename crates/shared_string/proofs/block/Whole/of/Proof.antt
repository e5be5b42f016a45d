-- `of` takes the box apart.
use Rattle.shared_string.proofs.Steps.{word, Ptr-Good, word-Good, [], ◌∷◌, refl, ap, proved, Goes-blank, bare, a_type, dcons, dnil, Val, inst_fn, full_share, emp, id⊢, Lft, ftrue, flft, ‵, raw, ◌⊛◌, some, later, await, ◌$◌, ◌∵◌, !, qed, move, keep, drop, split, join, fjoin, fpack, feq_l, pick, suffices, done, use0, use1, of_opd, and_then, no_more, returns, enter, alloc_all, pass_all, free_all, look_at, get, sets, lands_as, agg, fact, fact_i, ◌⊑◌, tables, no, lone, param, bounded, param_laws, glues, RattleType, Ptr, RawPtr, lies_at, plain, nothing, heard, only, calls_at, Lasts, lasts, triple_of, framed, says, Stays, stay_dropped, walk_of, ends_at}
use Rattle.std.specs.declared.alloc.Global.{Global}
use Rattle.std.specs.contracts.alloc.Global.{the_row as global_row}
use Rattle.std.specs.contracts.impls.GlobalAllocator.TheImpl as heap
use Rattle.std.proofs.alloc.Global.TheLaws as global
use Rattle.std.proofs.impls.GlobalAllocator.TheImpl.Met.{passed}
use Rattle.std.specs.contracts.boxed.Box as box
use Rattle.std.proofs.boxed.Box.TheLaws as boxes
use Rattle.std.specs.contracts.boxed.Box.into_raw as g
use Rattle.std.proofs.boxed.Box.into_raw.Met.{met}
use Rattle.shared_string.proofs.Destruct++none.drop.Code.{code as none}
use Rattle.shared_string.proofs.Boxes.{Alloc, alloc_laws, no_drop}
use Rattle.shared_string.proofs.Walks.{word_made}
use Rattle.shared_string.specs.contracts.block.Whole.of as f
use Rattle.shared_string.proofs.block.Whole.of.Statement.{statement}
use Rattle.shared_string.proofs.block.Whole.of.Code as code

pub of_spec : {M : Type 1} → statement M
unfolding none
of_spec {M = M} 𝓤 𝓛 𝓜 𝓡 wired T L dx glue =
    let R : RattleType = param 0 T in let Box = box.the_row R global_row heap.ghosts in let E = f.ended T dx in let c = f.clauses T dx 𝓛 𝓜.mem 𝓡.returns in
    let hs : Stays E.signature.params E.kept = (stay_dropped (plain (λ _. Box)) no, tt) in let W = walk_of 𝓛 E hs c in let 𝓣 = tables 𝓤 𝓛.H 𝓜 𝓡 𝓡.env in
    let given = bounded (a_type ∷ []) (T, tt) (dcons dx dnil) in let fn = inst_fn given code.function in
    let lowers = boxes.lowers R global_row heap.ghosts (param_laws 0 T L) global.the_row_laws global.the_told in
    proved 𝓛 E hs c 𝓜 𝓡 (Goes-blank 𝓛 1 (plain (λ _. Box)) no (λ κs x w. tt), tt)
    (f.Key.name given) fn (code.unfolded 𝓤 𝓛.H 𝓜 𝓡 wired (T, tt) dx)
    (λ κs. ((λ d. lowers.lowered d ∷ []), tt)) (λ κs. (lowers.val_is, tt)) (λ κs qs bounds a _ are.
    let κ : Lft = κs.0 in let d = a.0 in let v : Val = lowers.lowered d in
    let y : W.Ghost = ((κs, qs, bounds, a, (v ∷ [], tt)), tt) in
    let ok = ((boxes.the_row_laws R global_row heap.ghosts (param_laws 0 T L) global.the_row_laws).lawful 𝓛).typed d (v ∷ []) are.0 in
    qed 𝓛 (((‵ (flft κ qs.0) ⊛ ‵ ftrue) ⊛ ‵ (Box.own_val d (v ∷ [])) ⊛ ‵ ftrue) ∷ (raw (fact 𝓤 (κ ⊑ T.lives)) ⊛ ‵ ftrue) ∷ []) ∵
    move ! (1 ∷ []) $ split ! $ heard ! _ (λ le. drop ! $ split ! $ split ! $ move ! (2 ∷ []) $ split ! $ keep ! (0 ∷ 2 ∷ []) $
    enter ! _ _ _ _ _ $ alloc_all ! (λ l. pass_all ! refl (ok.0, tt) $ sets ! (of_opd ! (get ! refl)) refl ok.0 $
    let G = triple_of 𝓛 (g.signature T Alloc heap.ghosts heap.dict no_drop dx) (g.spec T Alloc heap.ghosts heap.dict no_drop dx 𝓛 𝓜.mem 𝓡.returns) in
    let z : G.Ghost = (((κ, ([], tt)), (qs.0, (full_share, tt)), tt, (d, tt), (v ∷ [], tt)), tt) in let Ended = g.ended T Alloc heap.ghosts heap.dict no_drop dx in
    nothing ! $ move ! (1 ∷ 0 ∷ []) $ fjoin ! $ nothing ! $ use0 𝓛 (‵ (flft [] full_share)) (𝓛.lfts.lft-nil full_share) $ join ! $ move ! (2 ∷ 0 ∷ []) $ join ! $ join ! $
    nothing ! $ use0 𝓛 (raw (fact 𝓤 ([] ⊑ Alloc.lives))) (fact_i 𝓤 ([] ⊑ Alloc.lives) (emp 𝓤) (global.the_within [])) $ join ! $
    use0 𝓛 (raw (fact 𝓤 (κ ⊑ T.lives))) (fact_i 𝓤 (κ ⊑ T.lives) (emp 𝓤) le) $ join ! $ move ! (1 ∷ 0 ∷ []) $ join ! $ use1 𝓛 (raw (G.pre z)) (id⊢ 𝓤 _) $
    calls_at ! (framed 𝓤 𝓛.H 𝓜 𝓣) G (met 𝓤 𝓛 𝓜 𝓡 (code.calls-std_alloc::boxed::Box::into_raw 𝓡.env wired) T Alloc L alloc_laws heap.ghosts heap.dict no_drop dx
    (passed 𝓡.env (code.calls-std_heap::GlobalAllocator::allocate 𝓡.env wired) (code.calls-std_heap::GlobalAllocator::deallocate 𝓡.env wired) (code.calls-std_heap::GlobalAllocator::grow 𝓡.env wired) (code.calls-std_heap::GlobalAllocator::shrink 𝓡.env wired) M 𝓤 𝓛 𝓜 𝓡)
    (glues "shared_string::Destruct++none::drop" 𝓡.env (code.calls-shared_string::Destruct++none::drop 𝓡.env wired) Alloc alloc_laws M 𝓤 𝓛 𝓜 𝓡) glue) z
    (and_then ! (get ! refl) (no_more !)) (λ u.
    use1 𝓛 (later (some (λ (r : Ptr). ((‵ (flft κ qs.0) ⊛ ‵ (flft [] full_share) ⊛ ‵ ftrue) ⊛ ‵ (RawPtr.own_val r (u ∷ []))) ⊛ some (λ (ls : Lasts Ended z.0.0 z.0.3).
    ‵ (lasts Ended z.0.0 z.0.3 ls) ⊛ (‵ (lies_at R full_share r d.value) ⊛ ‵ (heap.ghosts.dealloc_token d.alloc (bare (lone R.mir)) r)))))) (id⊢ 𝓤 (G.post z u)) $
    await ! tt $ pick ! (λ r. split ! $ move ! (1 ∷ []) $ pick ! (λ _. split ! $ drop ! $ split ! $ move ! (2 ∷ []) $ split ! $ split ! $ move ! (2 ∷ []) $ feq_l ! (λ is.
    -- [the tokens, in two; the value; the right to free its block]
    lands_as ! (ap only is) refl (Ptr-Good r) $ sets ! (agg ! (and_then ! (get ! refl) (no_more !))) refl (word-Good [] r) $
    move ! (3 ∷ []) $ fpack ! Global (λ h. heap.ghosts.dealloc_token h (bare (lone R.mir)) r) d.alloc $ move ! (3 ∷ 0 ∷ []) $ fjoin ! $ word_made ! r $ fjoin ! $
    returns ! (look_at ! 0 refl) $ free_all ! refl $ suffices ! _ (ends_at 𝓛 E hs c y (word r) (record { at = r; value = d.value }) (tt, tt) (tt, tt)) $ says ! refl $
    nothing ! $ nothing ! $ fjoin ! $ join ! $ nothing ! $ move ! (2 ∷ 0 ∷ []) $ join ! $ move ! (0 ∷ 1 ∷ []) $ join ! $ keep ! (0 ∷ []) $ done !)))))))
