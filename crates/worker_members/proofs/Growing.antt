-- What is heard of parts one behind another, for search.
use Rattle.std.proofs.Common.{◌≡◌, ◌∙◌, ◌<◌, ◌+◌, ◌++◌, ℕ, List, [], ◌∷◌, map, take, get_or, length, refl, sym, subst, ap, false, true}
use Rattle.std.specs.Prelude.{◌&&◌, ◌||◌, Bool}
use Rattle.std.proofs.lemmas.List.{length-map, map-append, map_more}
use Rattle.typed_tree.specs.Listed.{Listed, nothing, one, ◌&◌, joined, run}
use Rattle.typed_tree.proofs.ExprLayers.{expr_layers}
use Rattle.typed_tree.proofs.StmtLayers.{stmt_layers}
use Rattle.worker_pairing.specs.Events.{is_message}
use Rattle.worker_pairing.specs.Marks.{Mark, Says, Early, Returns, SoFar, guarded, set_apart}
use Rattle.worker_members.specs.declared.hearing.Heard.{Heard}
use Rattle.worker_members.specs.declared.hearing.Spot.{Spot}
use Rattle.worker_members.specs.inner.Hearing.{Grows, hear, set_aside, so_far, under_trap}

pub grows-nothing : (spot : Spot) (s : Heard) → Grows spot nothing s s
unfolding Grows
grows-nothing spot s e = (e, refl)

pub grows-both : (spot : Spot) (p q : Listed Mark) (old mid new : Heard) → Grows spot p old mid → Grows spot q mid new → Grows spot (p & q) old new
unfolding Grows
grows-both spot p q old mid new f g e =
    let k = g e in
    let h = f k.0 in
    (h.0, k.1 ∙ ap (run (hear spot) q) h.1)

-- ---- parts that are set apart, and what a trap guards

aside-same : (aside trapped message inner : Bool) → (aside || ((trapped && message) || true)) ≡ (true || ((trapped && message) || inner))
aside-same true trapped message inner = refl
aside-same false true true inner = refl
aside-same false true false inner = refl
aside-same false false message inner = refl

guarded-same : (aside trapped message inner : Bool) → (aside || ((trapped && message) || (message || inner))) ≡ (aside || ((true && message) || inner))
guarded-same true trapped message inner = refl
guarded-same false true true inner = refl
guarded-same false true false inner = refl
guarded-same false false message inner = refl

run-apart : (spot : Spot) (l : Listed Mark) (s : SoFar) → run (hear spot) (set_apart l) s ≡ run (hear (set_aside spot)) l s
run-apart spot nothing s = refl
run-apart spot (one (Says kind at inner type)) s = ap (λ b. hear (record { initial = spot.initial; aside = false; trapped = false }) (Says kind at b type) s) (aside-same spot.aside spot.trapped (is_message kind) inner)
run-apart spot (one Early) s = refl
run-apart spot (one (Returns type at)) s = refl
run-apart spot (p & q) s = run-apart spot q (run (hear spot) (set_apart p) s) ∙ ap (run (hear (set_aside spot)) q) (run-apart spot p s)

run-guarded : (spot : Spot) (l : Listed Mark) (s : SoFar) → run (hear spot) (guarded l) s ≡ run (hear (under_trap spot)) l s
run-guarded spot nothing s = refl
run-guarded spot (one (Says kind at inner type)) s = ap (λ b. hear (record { initial = spot.initial; aside = false; trapped = false }) (Says kind at b type) s) (guarded-same spot.aside spot.trapped (is_message kind) inner)
run-guarded spot (one Early) s = refl
run-guarded spot (one (Returns type at)) s = refl
run-guarded spot (p & q) s = run-guarded spot q (run (hear spot) (guarded p) s) ∙ ap (run (hear (under_trap spot)) q) (run-guarded spot p s)

pub grows-apart : (spot inside : Spot) (l : Listed Mark) (old new : Heard) → inside ≡ set_aside spot → Grows inside l old new → Grows spot (set_apart l) old new
unfolding Grows
grows-apart spot inside l old new is f e =
    let h = f e in
    (h.0, h.1 ∙ ap (λ i. run (hear i) l (so_far old)) is ∙ sym (run-apart spot l (so_far old)))

pub grows-guarded : (spot inside : Spot) (l : Listed Mark) (old new : Heard) → inside ≡ under_trap spot → Grows inside l old new → Grows spot (guarded l) old new
unfolding Grows
grows-guarded spot inside l old new is f e =
    let h = f e in
    (h.0, h.1 ∙ ap (λ i. run (hear i) l (so_far old)) is ∙ sym (run-guarded spot l (so_far old)))

-- ---- what may be left out, or done again

-- one part, and then one of two ways
pub grows-choice : (spot inside within : Spot) (p q r : Listed Mark) (old mid later new : Heard) → inside ≡ set_aside spot → within ≡ set_aside spot
    → Grows spot p old mid → Grows inside q mid later → Grows within r later new → Grows spot (p & set_apart q & set_apart r) old new
grows-choice spot inside within p q r old mid later new is too f g h =
    grows-both spot p (set_apart q & set_apart r) old mid new f
    (grows-both spot (set_apart q) (set_apart r) mid later new (grows-apart spot inside q mid later is g) (grows-apart spot within r later new too h))

-- the rounds of a loop
pub grows-round : (spot inside within : Spot) (p q : Listed Mark) (old mid new : Heard) → inside ≡ set_aside spot → within ≡ set_aside spot
    → Grows inside p old mid → Grows within q mid new → Grows spot (set_apart (p & q)) old new
grows-round spot inside within p q old mid new is too f g =
    grows-both spot (set_apart p) (set_apart q) old mid new (grows-apart spot inside p old mid is f) (grows-apart spot within q mid new too g)

-- ---- one more of a list

run-joined : {S : Type 0} (step : Mark → S → S) (ps : List (Listed Mark)) (q : Listed Mark) (s : S) → run step (joined (ps ++ q ∷ [])) s ≡ run step q (run step (joined ps) s)
run-joined step [] q s = refl
run-joined step (p ∷ ps) q s = run-joined step ps q (run step p s)

joined-more : (spot : Spot) (ps : List (Listed Mark)) (q : Listed Mark) (old mid new : Heard) → Grows spot (joined ps) old mid → Grows spot q mid new → Grows spot (joined (ps ++ q ∷ [])) old new
unfolding Grows
joined-more spot ps q old mid new f g e =
    let k = g e in
    let h = f k.0 in
    (h.0, k.1 ∙ ap (run (hear spot) q) h.1 ∙ sym (run-joined (hear spot) ps q (so_far old)))

pub grows-more : {X : Type 0} (spot : Spot) (f : X → Listed Mark) (xs : List X) (i : ℕ) (x : X) (old mid new : Heard) → i < length xs → x ≡ get_or xs i x
    → Grows spot (joined (map f (take i xs))) old mid → Grows spot (f x) mid new → Grows spot (joined (map f (take (i + 1) xs))) old new
grows-more spot f xs i x old mid new lt is g h =
    subst (λ ls. Grows spot (joined ls) old new) (sym (map_more f xs i x lt ∙ ap (λ y. map f (take i xs) ++ f y ∷ []) (sym is)))
    (joined-more spot (map f (take i xs)) (f x) old mid new g h)

pub ruleset growing = (expr_layers, stmt_layers, grows-nothing, grows-both, grows-apart, grows-guarded, length-map, map-append)
