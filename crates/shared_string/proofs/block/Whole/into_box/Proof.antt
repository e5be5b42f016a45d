-- `into_box` makes the box again.
use Rattle.shared_string.proofs.Steps.{word, word-Good, ◌≡◌, List, [], ◌∷◌, refl, ap, proved, Goes-blank, a_type, dcons, dnil, Val, vptr, inst_fn, full_share, emp, id⊢, Lft, ftrue, flft, ‵, raw, ◌⊛◌, some, later, await, at_ret, ◌$◌, ◌∵◌, !, qed, move, keep, drop, split, split3, join, fsplit, fjoin, fpick, feq_i, pick, suffices, done, use0, use1, stop, fld, of_opd, and_then, no_more, first, blocks, exec, returns, enter, alloc_all, pass_all, free_all, look_at, get, get_in, sets, is, lands_last, env, sub, whole, fact, fact_i, ◌⊑◌, tables, no, yes, param, bounded, param_laws, RattleType, Ptr, ptr_val, block_ptr, in_a_block, plain, nothing, heard, peeks, says, Stays, stay_dropped, walk_of, ends_at, Goes-dropped, after, Is, shows, Lasts, lasts, glues, calls_at_last, triple_of, framed}
use Rattle.std.specs.contracts.alloc.Global.{the_row as global_row}
use Rattle.std.specs.contracts.impls.GlobalAllocator.TheImpl as heap
use Rattle.std.proofs.impls.GlobalAllocator.TheImpl.Met.{passed}
use Rattle.std.specs.contracts.boxed.Box.from_raw as g
use Rattle.std.proofs.boxed.Box.from_raw.Met.{met}
use Rattle.std.specs.contracts.boxed.Box as box
use Rattle.std.proofs.boxed.Box.TheLaws as boxes
use Rattle.shared_string.proofs.Destruct++none.drop.Code.{code as none}
use Rattle.shared_string.proofs.Boxes.{Alloc, alloc_laws, no_drop}
use Rattle.std.proofs.alloc.Global.TheLaws as global
use Rattle.shared_string.specs.contracts.block.Whole.{the_row}
use Rattle.shared_string.proofs.block.Whole.TheLaws as laws
use Rattle.shared_string.specs.Whole.{whole_owns}
use Rattle.shared_string.proofs.Walks.{not_null, global_typed}
use Rattle.shared_string.specs.contracts.block.Whole.into_box as f
use Rattle.shared_string.proofs.block.Whole.into_box.Statement.{statement}
use Rattle.shared_string.proofs.block.Whole.into_box.Code as code

pub into_box_spec : {M : Type 1} → statement M
unfolding none
into_box_spec {M = M} 𝓤 𝓛 𝓜 𝓡 wired T L dx glue =
    let R : RattleType = param 0 T in let E = f.ended T dx in let c = f.clauses T dx 𝓛 𝓜.mem 𝓡.returns in
    let hs : Stays E.signature.params E.kept = (stay_dropped (plain (λ _. the_row R)) no, (stay_dropped (plain (λ _. global_row)) yes, tt)) in let W = walk_of 𝓛 E hs c in
    let given = bounded (a_type ∷ []) (T, tt) (dcons dx dnil) in let fn = inst_fn given code.function in let 𝓣 = tables 𝓤 𝓛.H 𝓜 𝓡 𝓡.env in
    proved 𝓛 E hs c 𝓜 𝓡 (Goes-blank 𝓛 1 (plain (λ _. the_row R)) no (λ κs x w. tt), (Goes-dropped 𝓛 1 (plain (λ _. global_row)) yes (λ κs x w. refl), tt))
    (f.Key.name given) fn (code.unfolded 𝓤 𝓛.H 𝓜 𝓡 wired (T, tt) dx)
    (λ κs. ((λ d. word d.at ∷ []), ((λ g. global.lowered g ∷ []), tt))) (λ κs. ((laws.lowers R (param_laws 0 T L)).val_is, (global.lowers.val_is, tt))) (λ κs qs bounds a _ are.
    let p : Ptr = a.0.at in
    let y : W.Ghost = ((κs, qs, bounds, a, (word p ∷ [], (global.lowered a.1.0 ∷ [], tt))), tt) in
    qed 𝓛 (((‵ (flft κs.0 qs.0) ⊛ ‵ ftrue) ⊛ ‵ ((the_row R).own_val a.0 (word p ∷ [])) ⊛ ‵ (global_row.own_val a.1.0 (global.lowered a.1.0 ∷ [])) ⊛ ‵ ftrue) ∷ (raw (fact 𝓤 (κs.0 ⊑ T.lives)) ⊛ ‵ ftrue) ∷ []) ∵
    move ! (1 ∷ []) $ split ! $ heard ! _ (λ le. drop ! $ split ! $ split ! $ move ! (2 ∷ []) $ split ! $ fsplit ! $ drop ! $ move ! (1 ∷ []) $ split ! $ keep ! (2 ∷ 0 ∷ 3 ∷ []) $
    in_a_block ! p (λ q. whole_owns R q a.0.value) (not_null 𝓛 R a.0.value) (λ b o e. fsplit ! $ move ! (1 ∷ []) $ fpick ! (λ _. move ! (1 ∷ 0 ∷ []) $ fjoin ! $
    -- [what the box owns; the handle; the token]
    enter ! _ _ _ _ _ $ alloc_all ! (λ l. pass_all ! refl (word-Good [] p, (global_typed a.1.0, tt)) $
    sets ! (is ! (of_opd ! (get_in ! (fld ! refl (stop !)) (sub ! 0 refl (whole !)))) (ap ptr_val e)) refl (tt, tt) $ first ! $ blocks ! $
    let G = triple_of 𝓛 (g.signature T Alloc heap.ghosts heap.dict no_drop) (g.spec T Alloc heap.ghosts heap.dict no_drop 𝓛 𝓜.mem 𝓡.returns) in let κ : Lft = κs.0 in
    let z : G.Ghost = (((κ, ([], tt)), (qs.0, (full_share, tt)), tt, (a.1.0, (block_ptr b o, tt)), (global.lowered a.1.0 ∷ [], (vptr b o ∷ [], tt))), a.0.value) in
    use0 𝓛 (raw (fact 𝓤 ([] ⊑ Alloc.lives))) (fact_i 𝓤 ([] ⊑ Alloc.lives) (emp 𝓤) (global.the_within [])) $ join ! $ use0 𝓛 (raw (fact 𝓤 (κ ⊑ T.lives))) (fact_i 𝓤 (κ ⊑ T.lives) (emp 𝓤) le) $ join ! $
    nothing ! $ feq_i ! (List Val) (vptr b o ∷ []) (vptr b o ∷ []) refl $ fjoin ! $ move ! (2 ∷ 0 ∷ []) $ fjoin ! $
    nothing ! $ use0 𝓛 (‵ (flft [] full_share)) (𝓛.lfts.lft-nil full_share) $ join ! $ move ! (3 ∷ 0 ∷ []) $ join ! $ join ! $ join ! $ use1 𝓛 (raw (G.pre z)) (id⊢ 𝓤 _) $
    calls_at_last ! (framed 𝓤 𝓛.H 𝓜 𝓣) G (met 𝓤 𝓛 𝓜 𝓡 (code.calls-std_alloc::boxed::Box::from_raw 𝓡.env wired) T Alloc L alloc_laws heap.ghosts heap.dict no_drop
    (passed 𝓡.env (code.calls-std_heap::GlobalAllocator::allocate 𝓡.env wired) (code.calls-std_heap::GlobalAllocator::deallocate 𝓡.env wired) (code.calls-std_heap::GlobalAllocator::grow 𝓡.env wired) (code.calls-std_heap::GlobalAllocator::shrink 𝓡.env wired) M 𝓤 𝓛 𝓜 𝓡)
    (glues "shared_string::Destruct++none::drop" 𝓡.env (code.calls-shared_string::Destruct++none::drop 𝓡.env wired) Alloc alloc_laws M 𝓤 𝓛 𝓜 𝓡)) z
    (and_then ! (get ! refl) (and_then ! (get ! refl) (no_more !))) (λ u.
    let Box = box.the_row R global_row heap.ghosts in let laws_of = (boxes.the_row_laws R global_row heap.ghosts (param_laws 0 T L) global.the_row_laws).lawful 𝓛 in
    use1 𝓛 (later (some (λ (r : Box.Denot). ((‵ (flft κ qs.0) ⊛ ‵ (flft [] full_share) ⊛ ‵ ftrue) ⊛ ‵ (Box.own_val r (u ∷ []))) ⊛ some (λ (ls : Lasts (g.ended T Alloc heap.ghosts heap.dict no_drop) z.0.0 z.0.3).
    ‵ (lasts (g.ended T Alloc heap.ghosts heap.dict no_drop) z.0.0 z.0.3 ls) ⊛ raw (fact 𝓤 (r.value ≡ a.0.value)) ⊛ raw (fact 𝓤 (r.alloc ≡ a.1.0)))))) (id⊢ 𝓤 (G.post z u)) $
    await ! tt $ pick ! (λ r. split ! $ move ! (1 ∷ []) $ pick ! (λ _. split3 ! $ drop ! $ heard ! _ (λ same. drop ! $ split ! $ move ! (1 ∷ []) $
    peeks ! Box (Is Box) (shows 𝓛 Box) r (u ∷ []) (λ is. let ok = (laws_of.typed r (u ∷ []) is).0 in
    lands_last ! refl ok $ exec ! 𝓣.C 𝓣.Λ (env fn.locals l) (after 2 fn.body) (at_ret _ (W.post y)) $ sets ! (of_opd ! (get ! refl)) refl ok $
    returns ! (look_at ! 0 refl) $ free_all ! refl $
    suffices ! _ (ends_at 𝓛 E hs c y u r (tt, (tt, tt)) (tt, (tt, tt))) $ says ! same $
    nothing ! $ nothing ! $ fjoin ! $ nothing ! $ fjoin ! $ join ! $ nothing ! $ move ! (2 ∷ []) $ split ! $ move ! (0 ∷ 2 ∷ []) $ join ! $ move ! (0 ∷ 2 ∷ []) $ join ! $ keep ! (0 ∷ []) $ done !))))))))))
