-- `release` counts one owner less, or ends the loan, or leaves a full count as it is.
use Rattle.shared_string.proofs.Steps.{word_ty, use0, word, word-Good, some_Good, is_not, Some-of, none_of, ◌≡◌, ℕ, ◌+◌, ◌-◌, ◌^◌, ◌<◌, Bool, [], ◌∷◌, refl, sym, ap, arith, lit<, ltb→lt, eqb→eq, w64, vptr, vint, vcons, vnil, ty_int, never, id⊢, full_share, Lft, Share, Fml, ftrue, fat, flft, fdead, fex, ftok, fsep, every, Sq, runs, ‵, raw, ◌⊛◌, some, given, learn, later, await, pick, at_ret, ◌$◌, ◌∵◌, !, qed, move, keep, drop, split, split3, join, rewrite, fsplit, fsplit3, fjoin, fpick, fpack, suffices, frame, done, use1, use2, use3, group, look, stop, fld, of_opd, load, store, bin, lit, neg_lit, and_then, no_more, first, blocks, branches, skips, exec, returns, returns_within, enter, well_typed, assigns_last, alloc_all, pass_all, free_all, look_at, get, get_in, through, sets, is, env, holding, forget_but, agg, sub, whole, live, na_inv, rest, rest_some, usize, yes, uint_in, uint_out, Ptr, ptr_val, block_ptr, in_a_block, lies_at, ◌+ₚ◌, plain, nothing, says, Stays, stay_dropped, ends_at, Goes-dropped, Some, None}
use Rattle.shared_string.specs.Ownership.{Text, most, stage, kind, counts, loan, sees, key, shared, counted}
use Rattle.shared_string.specs.Whole.{whole_owns}
use Rattle.shared_string.proofs.Counting.{falls, ends}
use Rattle.shared_string.proofs.Fields.{joined}
use Rattle.shared_string.proofs.Owners.{Shuts, opens, shuts, is_over}
use Rattle.shared_string.proofs.Walks.{word_made, held, W, proved_holding}
use Rattle.std.specs.contracts.option.Option as option
use Rattle.shared_string.specs.contracts.block.Shared as block
use Rattle.shared_string.specs.contracts.block.Whole as whole_block
use Rattle.shared_string.specs.contracts.owner.Owner.{the_row}
use Rattle.shared_string.proofs.owner.Owner.TheLaws as laws
use Rattle.shared_string.specs.contracts.owner.Owner.release as f
use Rattle.shared_string.proofs.owner.Owner.release.Statement.{statement}
use Rattle.shared_string.proofs.owner.Owner.release.Code as code
use Rattle.shared_string.proofs.owner.Owner.release.Code.{code as wires}

abbrev stayed : Stays f.ended.signature.params f.ended.kept
stayed = (stay_dropped (plain (λ _. the_row)) yes, tt)

pub release_spec : {M : Type 1} → statement M
unfolding wires
release_spec 𝓤 𝓛 𝓜 𝓡 wired =
    let c = f.clauses 𝓛 𝓜.mem 𝓡.returns in
    proved_holding 𝓛 f.ended stayed c 𝓜 𝓡 (Goes-dropped 𝓛 0 (plain (λ _. the_row)) yes (λ κs x w. refl), tt)
    f.Key.name code.function (wired.0.0 f.Key.name refl)
    (λ κs. ((λ d. word d.at ∷ []), tt)) (λ κs. (laws.lowers.val_is, tt)) (λ C Λ κs qs bounds v _.
    let p : Ptr = v.0.at in let x : Text = v.0.text in
    let y : (W 𝓛 f.ended stayed c).Ghost = ((κs, qs, bounds, v, (word p ∷ [], tt)), tt) in
    qed 𝓛 ((‵ ftrue ⊛ ‵ ((the_row).own_val v.0 (word p ∷ [])) ⊛ ‵ ftrue) ∷ (‵ (ftok every) ⊛ ‵ ftrue) ∷ []) ∵
    move ! (1 ∷ []) $ split ! $ move ! (2 ∷ []) $ split ! $ drop ! $ split ! $ fsplit ! $ keep ! (1 ∷ 3 ∷ []) $
    enter ! _ _ _ _ _ $ alloc_all ! (λ l. pass_all ! refl (word-Good [] p, tt) $ let En = env code.Mir.locals l in
    fpick ! (λ a. let ν : Lft = a.0 ∷ [] in let I : Fml = na_inv (key p x) (shared p x a) in fsplit3 ! $ fpick ! (λ s. fsplit ! $
    -- [the share; its kind; the invariant; what is seen; the thread's token]
    move ! (2 ∷ 0 ∷ 4 ∷ []) $ use3 𝓛 (later (some (λ (n : ℕ). ‵ (counted p x a n) ⊛ ‵ (flft ν s) ⊛ raw (Shuts p x 𝓛 a)))) (opens p x 𝓛 a s) $ await ! tt $ pick ! (λ n. split3 ! $
    move ! (1 ∷ 3 ∷ []) $ fjoin ! $ fpack ! Share (λ r. fsep (flft ν r) (fex Bool (kind a r))) s $ move ! (1 ∷ []) $ fsplit3 ! $ move ! (2 ∷ []) $ fsplit ! $
    move ! (3 ∷ []) $ use1 𝓛 (given (0 < n) (‵ (rest 64 a.0 n))) (rest_some 64 𝓛 a.0 n) $ learn ! (λ any. move ! (3 ∷ []) $
    in_a_block ! p (λ c'. lies_at usize full_share (c' +ₚ 0) n) (id⊢ 𝓤 (never 𝓤)) (λ b o e. use1 𝓛 (‵ (fat full_share (ty_int w64) b (o + 0) (vint w64 n))) (uint_out 𝓛 full_share w64 n b (o + 0)) $ well_typed ! (λ ok.
    -- [the count; the other parts; the right to have the loan back; the stage; what is held; what shuts; what is seen]
    let Out = whole_block.the_row block.the_row in let old : (block.the_row).Denot = record { owners = n; text = x } in
    let finish : Sq 𝓛 (‵ (ftok every) ∷ ‵ (sees p x ν) ∷ holding 𝓛 En ((1, word p) ∷ (2, vptr b o) ∷ [])) (runs C Λ En code.Mir.t-3 (at_ret En ((W 𝓛 f.ended stayed c).post y))) =
    sets ! (agg ! (and_then ! (lit ! tt) (no_more !))) refl (tt, (record { fits = lit< tt }, tt)) $ use0 𝓛 (‵ ((option.the_row Out).own_val None (live 0 vnil ∷ []))) (none_of 𝓛 Out) $ returns ! (look_at ! 0 refl) $ free_all ! refl $ keep ! (0 ∷ 1 ∷ []) $
    suffices ! _ (ends_at 𝓛 f.ended stayed (held 𝓛 f.ended stayed c) y (live 0 vnil) None (tt, tt) (tt, tt)) $
    nothing ! $ nothing ! $ fjoin ! $ join ! $ nothing ! $ join ! $ frame ! $ says ! tt $ done ! in
    sets ! (is ! (of_opd ! (get_in ! (fld ! refl (stop !)) (sub ! 0 refl (whole !)))) (ap ptr_val e)) refl (tt, tt) $ first ! $ blocks ! $
    sets ! (of_opd ! (load ! (through ! refl (fld ! refl (stop !))) (look ! 0 refl))) refl ok $ sets ! (bin ! (get ! refl) (lit ! tt) tt) refl (tt, tt) $ branches ! (get ! refl)
    (λ last. let one : n ≡ 1 = eqb→eq n 1 last in
    sets ! (is ! (agg ! (and_then ! (get ! refl) (no_more !))) (ap word (sym e))) refl (word-Good [] p) $ sets ! (agg ! (and_then ! (lit ! tt) (and_then ! (get ! refl) (no_more !)))) refl (some_Good (word_ty []) (word p) (word-Good [] p)) $
    rewrite ! 1 (λ (k : ℕ). ‵ (rest 64 a.0 k)) one refl $ rewrite ! 3 (λ (k : ℕ). ‵ (fex Bool (stage a k))) one refl $ move ! (1 ∷ 3 ∷ 4 ∷ 2 ∷ []) $ group ! 4 $
    use1 𝓛 (later (‵ (loan p x) ⊛ ‵ (fdead ν))) (ends a 𝓛 (loan p x)) $ await ! tt $ split ! $ move ! (1 ∷ 3 ∷ []) $ use2 𝓛 (later (‵ (ftok every))) (is_over p x 𝓛 a) $ await ! tt $
    -- [the thread's token; the loan; the count; what is seen]
    move ! (2 ∷ []) $ use1 𝓛 (‵ (counts (block_ptr b o) x n)) (uint_in 𝓛 full_share w64 n b (o + 0)) $ move ! (2 ∷ []) $ rewrite ! 0 (λ (q : Ptr). ‵ (loan q x)) e refl $ move ! (1 ∷ 0 ∷ []) $
    use2 𝓛 (‵ (whole_owns block.the_row (block_ptr b o) old)) (joined 𝓛 n x b o) $ rewrite ! 0 (λ (q : Ptr). ‵ (whole_owns block.the_row q old)) (sym e) refl $
    word_made ! p $ fjoin ! $ use1 𝓛 (‵ ((option.the_row Out).own_val (Some (record { at = p; value = old })) (live 1 (vcons (word p) vnil) ∷ []))) (Some-of 𝓛 Out (record { at = p; value = old }) (word p)) $
    returns_within ! ((W 𝓛 f.ended stayed c).post y) refl (look_at ! 0 refl) $ free_all ! refl $ keep ! (0 ∷ 1 ∷ []) $
    suffices ! _ (ends_at 𝓛 f.ended stayed (held 𝓛 f.ended stayed c) y (live 1 (vcons (word p) vnil)) (Some (record { at = p; value = old })) (tt, tt) (tt, tt)) $
    nothing ! $ nothing ! $ fjoin ! $ join ! $ nothing ! $ join ! $ frame ! $ says ! refl $ done !)
    (λ more. let many : 1 < n = omega (arith, is_not n 1 more, any) in
    sets ! (bin ! (get ! refl) (neg_lit ! tt) tt) refl (tt, tt) $ branches ! (get ! refl)
    (λ room. let low : n < most = ltb→lt n most room in let f₁ : n - 1 < 2 ^ 64 = omega (arith, low) in
    sets ! (bin ! (get ! refl) (lit ! tt) any) refl (tt, record { fits = f₁ }) $ assigns_last ! (of_opd ! (get ! refl)) (through ! refl (fld ! refl (stop !))) (store ! 0 refl (tt, record { fits = f₁ })) $
    exec ! C Λ En code.Mir.t-3 (at_ret En _) $ move ! (1 ∷ 3 ∷ 4 ∷ []) $ use3 𝓛 (‵ (rest 64 a.0 (n - 1)) ⊛ ‵ (fex Bool (stage a (n - 1)))) (falls a 𝓛 n many low) $ split ! $
    move ! (2 ∷ []) $ use1 𝓛 (‵ (lies_at usize full_share (block_ptr b o +ₚ 0) (n - 1))) (uint_in 𝓛 full_share w64 (n - 1) b (o + 0)) $ rewrite ! 0 (λ (q : Ptr). ‵ (lies_at usize full_share (q +ₚ 0) (n - 1))) (sym e) refl $
    move ! (0 ∷ 1 ∷ 3 ∷ 2 ∷ []) $ group ! 4 $ use1 𝓛 (‵ (counted p x a (n - 1))) (id⊢ 𝓤 _) $ use2 𝓛 (later (‵ (ftok every))) (shuts p x 𝓛 a (n - 1)) $ await ! tt $ forget_but ! En (1 ∷ 2 ∷ []) refl $ finish)
    (λ full. skips ! $ exec ! C Λ En code.Mir.t-3 (at_ret En _) $
    use1 𝓛 (‵ (lies_at usize full_share (block_ptr b o +ₚ 0) n)) (uint_in 𝓛 full_share w64 n b (o + 0)) $ rewrite ! 0 (λ (q : Ptr). ‵ (lies_at usize full_share (q +ₚ 0) n)) (sym e) refl $
    group ! 4 $ use1 𝓛 (‵ (counted p x a n)) (id⊢ 𝓤 _) $ move ! (0 ∷ 2 ∷ []) $ use2 𝓛 (later (‵ (ftok every))) (shuts p x 𝓛 a n) $ await ! tt $ move ! (1 ∷ []) $ drop ! $ forget_but ! En (1 ∷ 2 ∷ []) refl $ finish))))))))))
