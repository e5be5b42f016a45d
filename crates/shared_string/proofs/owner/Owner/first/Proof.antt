-- `first` lends the text to its owners, of which there is one.
use Rattle.shared_string.proofs.Steps.{word, Ptr-Good, word-Good, ◌≡◌, ℕ, [], ◌∷◌, refl, sym, proved, ftrue, ‵, raw, ◌⊛◌, later, await, ◌$◌, ◌∵◌, !, qed, keep, drop, split, join, rewrite, fsplit, fjoin, suffices, done, use1, use2, move, stop, fld, of_opd, and_then, no_more, returns, enter, alloc_all, pass_all, free_all, look_at, get, get_in, sets, agg, sub, whole, fact, yes, Ptr, block_ptr, in_a_block, plain, nothing, heard, says, Stays, stay_dropped, walk_of, ends_at, Goes-dropped}
use Rattle.shared_string.specs.contracts.block.Shared as shared
use Rattle.shared_string.specs.contracts.block.Whole as block
use Rattle.shared_string.proofs.block.Whole.TheLaws as laws
use Rattle.shared_string.proofs.block.Shared.TheLaws as shared_laws
use Rattle.shared_string.specs.Whole.{whole_owns}
use Rattle.shared_string.specs.Ownership.{Text, counts, loan, owner_owns}
use Rattle.shared_string.proofs.Fields.{cut}
use Rattle.shared_string.proofs.Owners.{begins}
use Rattle.shared_string.proofs.Walks.{not_null, word_made}
use Rattle.shared_string.specs.contracts.owner.Owner.first as f
use Rattle.shared_string.proofs.owner.Owner.first.Statement.{statement}
use Rattle.shared_string.proofs.owner.Owner.first.Code as code

abbrev stayed : Stays f.ended.signature.params f.ended.kept
stayed = (stay_dropped (plain (λ _. block.the_row shared.the_row)) yes, tt)

pub first_spec : {M : Type 1} → statement M
first_spec 𝓤 𝓛 𝓜 𝓡 wired =
    let c = f.clauses 𝓛 𝓜.mem 𝓡.returns in let W = walk_of 𝓛 f.ended stayed c in
    proved 𝓛 f.ended stayed c 𝓜 𝓡 (Goes-dropped 𝓛 0 (plain (λ _. block.the_row shared.the_row)) yes (λ κs x w. refl), tt)
    f.Key.name code.function (code.unfolded 𝓤 𝓛.H 𝓜 𝓡 wired)
    (λ κs. ((λ d. word d.at ∷ []), tt)) (λ κs. ((laws.lowers shared.the_row shared_laws.the_row_laws).val_is, tt)) (λ κs qs bounds a _ are.
    let p : Ptr = a.0.at in let n : ℕ = a.0.value.owners in let x : Text = a.0.value.text in
    let y : W.Ghost = ((κs, qs, bounds, a, (word p ∷ [], tt)), tt) in
    qed 𝓛 ((‵ ftrue ⊛ ‵ ((block.the_row shared.the_row).own_val a.0 (word p ∷ [])) ⊛ ‵ ftrue) ∷ raw (fact 𝓤 (n ≡ 1)) ∷ []) ∵
    move ! (1 ∷ []) $ heard ! _ (λ one. split ! $ drop ! $ split ! $ fsplit ! $ keep ! (1 ∷ []) $
    in_a_block ! p (λ q. whole_owns shared.the_row q a.0.value) (not_null 𝓛 shared.the_row a.0.value) (λ b o e.
    use1 𝓛 (‵ (counts (block_ptr b o) x n) ⊛ ‵ (loan (block_ptr b o) x)) (cut 𝓛 n x b o) $ split ! $ rewrite ! 0 (λ (k : ℕ). ‵ (counts (block_ptr b o) x k)) one refl $
    enter ! _ _ _ _ _ $ alloc_all ! (λ l. pass_all ! refl (word-Good [] p, tt) $
    use2 𝓛 (later (‵ (owner_owns (block_ptr b o) x))) (begins (block_ptr b o) x 𝓛) $ await ! tt $ rewrite ! 0 (λ (q : Ptr). ‵ (owner_owns q x)) (sym e) refl $
    sets ! (of_opd ! (get_in ! (fld ! refl (stop !)) (sub ! 0 refl (whole !)))) refl (Ptr-Good p) $
    sets ! (agg ! (and_then ! (get ! refl) (no_more !))) refl (word-Good [] p) $ word_made ! p $ fjoin ! $ returns ! (look_at ! 0 refl) $ free_all ! refl $
    suffices ! _ (ends_at 𝓛 f.ended stayed c y (word p) (record { at = p; text = x }) (tt, tt) (tt, tt)) $ says ! refl $
    nothing ! $ nothing ! $ fjoin ! $ join ! $ nothing ! $ join ! $ done !))))
