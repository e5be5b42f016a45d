-- Entries as they are kept, and the pairs as which they are seen.
use Rattle.std.proofs.Common.{◌≡◌, ◌≢◌, ℕ, zero, suc, List, [], ◌∷◌, ◌++◌, map, get_or, set, Bool, true, false, ◌||◌, cond, Option, Some, None, slice_get, All, Contains, find, position, refl, sym, subst, ◌∙◌, ap, arith}
use Rattle.std.specs.List.{list_any, AllByRecursion, IsDistinct, swap_remove}
use Rattle.std.specs.Bool.{Decides}
use Rattle.std.specs.Option.{option_map, option_map_or}
use Rattle.std.proofs.lemmas.Bool.{false≢true, eqb-true, eq-eqb}
use Rattle.std.proofs.lemmas.List.Elements.{All-nil, All-cons, All-head, All-tail, All-contains, Contains-get_or, Contains-append_right}
use Rattle.std.proofs.lemmas.List.Quantifiers.{position-Some}
use Rattle.bal_base.specs.declared.shape.Shape.{Shape}
use Rattle.type_diagrams.specs.Kept.{IsUnknown, Tells}
use Rattle.type_diagrams.proofs.Interning.{or_false}
use Rattle.indexmap.specs.IndexSet.{replace_key, swap_key, swap_remove_by}
use Rattle.subtype_decider.specs.declared.table.Entry.{Entry}
use Rattle.subtype_decider.specs.contracts.table.EntryPartialEq.TheImpl as same_entry
use Rattle.subtype_decider.specs.Entries.{pair_of, AreApart, IsFound, IsWithout, Knows}
use Rattle.subtype_decider.proofs.Members.{Any-Contains, Contains-swap_remove, swap_remove-Contains, map-Contains, Contains-map}

-- entries are compared by their questions
abbrev pub same : Entry → Entry → Bool
same d e = same_entry.ghosts.eq d e

pub same-Decides : (d e : Entry) → Decides (same d e) (d.question ≡ e.question)
same-Decides d e = (λ h. eqb-true d.question e.question h, λ h. eq-eqb d.question e.question h)

other : (d e : Entry) → same d e ≡ false → e.question ≢ d.question
other d e h is = false≢true (sym h ∙ (same-Decides d e).1 (sym is))

abbrev pub seen : List Entry → List (ℕ × Option Shape)
seen es = map pair_of es

-- ---- what is told of a question

tells-cons : (e : ℕ × Option Shape) (kept : List (ℕ × Option Shape)) (question : ℕ) (r : Option (Option Shape)) → e.0 ≢ question → Tells kept question r → Tells (e ∷ kept) question r
tells-cons e kept question (Some entry) apart h = Contains-append_right (e ∷ []) kept (question, entry) h
tells-cons e kept question None apart h = All-cons (λ f. f.0 ≢ question) e kept apart h

pub find-Tells : (es : List Entry) (q : Entry) → Tells (seen es) q.question (option_map (λ e. e.shape) (find (same q) es))
find-Tells [] q = All-nil (λ f. f.0 ≢ q.question)
find-Tells (e ∷ es) q = by (same q e) refl (find-Tells es q)
  where
    by : (b : Bool) → same q e ≡ b → Tells (seen es) q.question (option_map (λ e. e.shape) (find (same q) es)) → Tells (seen (e ∷ es)) q.question (option_map (λ f. f.shape) (cond b (Some e) (find (same q) es)))
    by true h rest = subst (λ n. Contains (seen (e ∷ es)) (n, e.shape)) (sym ((same-Decides q e).0 h)) (Contains-get_or (seen (e ∷ es)) 0 (pair_of e) (omega arith))
    by false h rest = tells-cons (pair_of e) (seen es) q.question (option_map (λ f. f.shape) (find (same q) es)) (other q e h) rest

pub unknown-none : (es : List Entry) (q : Entry) → IsUnknown (seen es) q.question → list_any (same q) es ≡ false
unknown-none [] q h = refl
unknown-none (e ∷ es) q h = by (same q e) refl (unknown-none es q (All-tail (λ f. f.0 ≢ q.question) (pair_of e) (seen es) h))
  where
    by : (b : Bool) → same q e ≡ b → list_any (same q) es ≡ false → (b || list_any (same q) es) ≡ false
    by true t rest = absurd (All-head (λ f. f.0 ≢ q.question) (pair_of e) (seen es) h (sym ((same-Decides q e).0 t)))
    by false t rest = rest

pub none-unknown : (es : List Entry) (q : Entry) → list_any (same q) es ≡ false → IsUnknown (seen es) q.question
none-unknown [] q h = All-nil (λ f. f.0 ≢ q.question)
none-unknown (e ∷ es) q h =
    let both = or_false (same q e) (list_any (same q) es) h in
    All-cons (λ f. f.0 ≢ q.question) (pair_of e) (seen es) (other q e both.0) (none-unknown es q both.1)

pub known-some : (es : List Entry) (q : Entry) → Knows (seen es) q.question → list_any (same q) es ≡ true
known-some es q h = by (list_any (same q) es) refl
  where
    by : (b : Bool) → list_any (same q) es ≡ b → b ≡ true
    by true e = refl
    by false e = let at = Any-Contains (λ f. f.0 ≡ q.question) (seen es) h in absurd (All-contains (λ f. f.0 ≢ q.question) (seen es) at.0 (none-unknown es q e) at.1 at.2)

-- ---- no two with the same question

behind : (e : Entry) (es : List Entry) → AllByRecursion (λ y. same e y ≡ false) es → All (λ f. e.question ≢ f.0) (seen es)
behind e [] h = All-nil (λ f. e.question ≢ f.0)
behind e (y ∷ ys) h = All-cons (λ f. e.question ≢ f.0) (pair_of y) (seen ys) (λ is. false≢true (sym h.0 ∙ (same-Decides e y).1 is)) (behind e ys h.1)

pub distinct-AreApart : (es : List Entry) → IsDistinct same es → AreApart (seen es)
unfolding IsDistinct
distinct-AreApart [] h i j d lt in_ = absurd (omega (arith, in_))
distinct-AreApart (e ∷ es) h zero zero d lt in_ = absurd (omega (arith, lt))
distinct-AreApart (e ∷ es) h zero (suc j) d lt in_ = behind e es h.0 j d (omega (arith, in_))
distinct-AreApart (e ∷ es) h (suc i) zero d lt in_ = absurd (omega (arith, lt))
distinct-AreApart (e ∷ es) h (suc i) (suc j) d lt in_ = distinct-AreApart es h.1 i j d (omega (arith, lt)) (omega (arith, in_))

-- ---- a shape is found

abbrev Finds : List Entry → List Entry → Entry → Type 0
Finds es ds q = (place : ℕ) × (before : Option Shape) × (slice_get (seen es) place ≡ Some (q.question, before)) × (seen ds ≡ set (seen es) place (pair_of q))

swap-Finds : (es : List Entry) (q : Entry) → list_any (same q) es ≡ true → Finds es (swap_key (same q) es q) q
swap-Finds [] q h = absurd (false≢true h)
swap-Finds (e ∷ es) q h = by (same q e) refl (λ rest. swap-Finds es q rest)
  where
    by : (b : Bool) → same q e ≡ b → (list_any (same q) es ≡ true → Finds es (swap_key (same q) es q) q) → Finds (e ∷ es) (cond b (q ∷ es) (e ∷ swap_key (same q) es q)) q
    by true t rest = (0, e.shape, ap (λ n. Some (n, e.shape)) (sym ((same-Decides q e).0 t)), refl)
    by false t rest =
        let r = rest (sym (ap (λ b. b || list_any (same q) es) t) ∙ h) in
        (suc r.0, r.1, r.2, ap (λ l. pair_of e ∷ l) r.3)

pub replace-IsFound : (es ds : List Entry) (question : ℕ) (x : Shape) → let q : Entry = record { question = question; shape = Some x } in Knows (seen es) question → ds ≡ replace_key same es q → IsFound (seen es) (seen ds) question x
replace-IsFound es ds question x known e =
    let q : Entry = record { question = question; shape = Some x } in
    let some = known-some es q known in
    let at = swap-Finds es q some in
    let is : ds ≡ swap_key (same q) es q = e ∙ ap (λ b. cond b (swap_key (same q) es q) (es ++ q ∷ [])) some in
    record { place = at.0; before = at.1; was = at.2; now = ap seen is ∙ at.3 }

-- ---- an entry is dropped

module _ (es ds : List Entry) (q : Entry) (none : list_any (same q) ds ≡ false) where
  away : (f : ℕ × Option Shape) → Contains (seen ds) f → f.0 ≢ q.question
  away f c = All-contains (λ g. g.0 ≢ q.question) (seen ds) f (none-unknown ds q none) c

  kept-IsWithout : ds ≡ es → IsWithout (seen es) (seen ds) q.question
  kept-IsWithout e = record {
    others = λ f c ne. subst (λ l. Contains (seen l) f) (sym e) c;
    from = λ f c. (subst (λ l. Contains (seen l) f) e c, away f c);
  }

  gone-IsWithout : (i : ℕ) (first : Entry) → position (same q) es ≡ Some i → ds ≡ swap_remove es i first → IsWithout (seen es) (seen ds) q.question
  gone-IsWithout i first p e = record {
    others = λ f c ne.
        let m = map-Contains pair_of es f c in
        let at = position-Some (same q) es i m.0 p in
        let off : get_or es i m.0 ≢ m.0 = λ is. ne (sym (ap (λ g. g.0) m.2) ∙ ap (λ d. d.question) (sym is) ∙ sym ((same-Decides q (get_or es i m.0)).0 at.1)) in
        let there = Contains-swap_remove es i first m.0 at.0 off m.1 in
        subst (Contains (seen ds)) m.2 (Contains-map pair_of ds m.0 (subst (λ l. Contains l m.0) (sym e) there));
    from = λ f c.
        let m = map-Contains pair_of ds f c in
        let was = swap_remove-Contains es i first m.0 (subst (λ l. Contains l m.0) e m.1) in
        (subst (Contains (seen es)) m.2 (Contains-map pair_of es m.0 was), away f c);
  }

pub removed-IsWithout : (es ds : List Entry) (q : Entry) → list_any (same q) ds ≡ false → ds ≡ swap_remove_by (same q) es → IsWithout (seen es) (seen ds) q.question
removed-IsWithout [] ds q none e = kept-IsWithout [] ds q none e
removed-IsWithout (x ∷ xs) ds q none e = by (position (same q) (x ∷ xs)) refl e
  where
    by : (r : Option ℕ) → position (same q) (x ∷ xs) ≡ r → ds ≡ option_map_or (λ i. swap_remove (x ∷ xs) i x) r (x ∷ xs) → IsWithout (seen (x ∷ xs)) (seen ds) q.question
    by None p d = kept-IsWithout (x ∷ xs) ds q none d
    by (Some i) p d = gone-IsWithout (x ∷ xs) ds q none i x p d
