-- A search over parts one behind another, for the checker's search.
use Rattle.std.proofs.Common.{◌≡◌, ◌∙◌, ◌<◌, ◌+◌, ◌++◌, ℕ, Bool, true, false, List, [], ◌∷◌, map, take, get_or, length, refl, sym, subst, ap}
use Rattle.std.proofs.lemmas.List.{length-map, map-append, map_more}
use Rattle.typed_tree.specs.Listed.{Listed, nothing, one, ◌&◌, joined, run}
use Rattle.typed_tree.proofs.ExprLayers.{expr_layers}
use Rattle.typed_tree.proofs.StmtLayers.{stmt_layers}
use Rattle.type_model.specs.declared.basic.SemType.{SemType}
use Rattle.bal_base.specs.declared.place.Place.{Place}
use Rattle.typed_tree.specs.declared.event.EventKind.{EventKind}
use Rattle.worker_pairing.specs.Marks.{Mark, Says, Early, Returns, guarded, if_checked, nil_type, set_apart}
use Rattle.event_search.specs.declared.search.Search.{Search}
use Rattle.event_search.specs.inner.Walking.{Goes, Sought, hear, sought}

pub goes-nothing : (first : Bool) (s : Search) → Goes first nothing s s
unfolding Goes
goes-nothing first s = refl

pub goes-both : (first : Bool) (p q : Listed Mark) (old mid new : Search) → Goes first p old mid → Goes first q mid new → Goes first (p & q) old new
unfolding Goes
goes-both first p q old mid new f g = g ∙ ap (run (hear first) q) f

-- the type of what is sent or received isn't looked at
pub goes-said : (first : Bool) (kind : EventKind) (at : Place) (type : SemType) (old new : Search) → Goes first (one (Says kind at false nil_type)) old new → Goes first (one (Says kind at false type)) old new
unfolding Goes
goes-said first kind at type old new f = f

-- ---- what tells nothing of events

pub goes-early : (first : Bool) (s : Search) → Goes first (one Early) s s
unfolding Goes
goes-early first s = refl

pub goes-returns : (first : Bool) (type : SemType) (at : Place) (s : Search) → Goes first (one (Returns type at)) s s
unfolding Goes
goes-returns first type at s = refl

pub goes-checked : (first panics : Bool) (p : Listed Mark) (old new : Search) → Goes first p old new → Goes first (p & if_checked panics) old new
unfolding Goes
goes-checked first true p old new f = f
goes-checked first false p old new f = f

pub goes-returned : (first : Bool) (type : SemType) (at : Place) (p : Listed Mark) (old new : Search) → Goes first p old new → Goes first (p & one Early & one (Returns type at)) old new
unfolding Goes
goes-returned first type at p old new f = f

-- ---- parts that are set apart, and what a trap guards

run-apart : (first : Bool) (l : Listed Mark) (s : Sought) → run (hear first) (set_apart l) s ≡ run (hear first) l s
run-apart first nothing s = refl
run-apart first (one (Says kind at inner type)) s = refl
run-apart first (one Early) s = refl
run-apart first (one (Returns type at)) s = refl
run-apart first (p & q) s = run-apart first q (run (hear first) (set_apart p) s) ∙ ap (run (hear first) q) (run-apart first p s)

run-guarded : (first : Bool) (l : Listed Mark) (s : Sought) → run (hear first) (guarded l) s ≡ run (hear first) l s
run-guarded first nothing s = refl
run-guarded first (one (Says kind at inner type)) s = refl
run-guarded first (one Early) s = refl
run-guarded first (one (Returns type at)) s = refl
run-guarded first (p & q) s = run-guarded first q (run (hear first) (guarded p) s) ∙ ap (run (hear first) q) (run-guarded first p s)

pub goes-apart : (first : Bool) (l : Listed Mark) (old new : Search) → Goes first l old new → Goes first (set_apart l) old new
unfolding Goes
goes-apart first l old new f = f ∙ sym (run-apart first l (sought old))

pub goes-guarded : (first : Bool) (l : Listed Mark) (old new : Search) → Goes first l old new → Goes first (guarded l) old new
unfolding Goes
goes-guarded first l old new f = f ∙ sym (run-guarded first l (sought old))

-- one part, and then one of two ways
pub goes-choice : (first : Bool) (p q r : Listed Mark) (old mid later new : Search) → Goes first p old mid → Goes first q mid later → Goes first r later new
    → Goes first (p & set_apart q & set_apart r) old new
goes-choice first p q r old mid later new f g h =
    goes-both first p (set_apart q & set_apart r) old mid new f (goes-both first (set_apart q) (set_apart r) mid later new (goes-apart first q mid later g) (goes-apart first r later new h))

-- the rounds of a loop
pub goes-round : (first : Bool) (p q : Listed Mark) (old mid new : Search) → Goes first p old mid → Goes first q mid new → Goes first (set_apart (p & q)) old new
goes-round first p q old mid new f g = goes-apart first (p & q) old new (goes-both first p q old mid new f g)

-- ---- one more of a list

run-joined : {S : Type 0} (step : Mark → S → S) (ps : List (Listed Mark)) (q : Listed Mark) (s : S) → run step (joined (ps ++ q ∷ [])) s ≡ run step q (run step (joined ps) s)
run-joined step [] q s = refl
run-joined step (p ∷ ps) q s = run-joined step ps q (run step p s)

joined-more : (first : Bool) (ps : List (Listed Mark)) (q : Listed Mark) (old mid new : Search) → Goes first (joined ps) old mid → Goes first q mid new → Goes first (joined (ps ++ q ∷ [])) old new
unfolding Goes
joined-more first ps q old mid new f g = g ∙ ap (run (hear first) q) f ∙ sym (run-joined (hear first) ps q (sought old))

pub goes-more : {X : Type 0} (first : Bool) (f : X → Listed Mark) (xs : List X) (i : ℕ) (x : X) (old mid new : Search) → i < length xs → x ≡ get_or xs i x
    → Goes first (joined (map f (take i xs))) old mid → Goes first (f x) mid new → Goes first (joined (map f (take (i + 1) xs))) old new
goes-more first f xs i x old mid new lt is g h =
    subst (λ ls. Goes first (joined ls) old new) (sym (map_more f xs i x lt ∙ ap (λ y. map f (take i xs) ++ f y ∷ []) (sym is)))
    (joined-more first (map f (take i xs)) (f x) old mid new g h)

pub ruleset walking = (expr_layers, stmt_layers, goes-nothing, goes-both, goes-early, goes-returns, goes-checked, goes-returned, goes-apart, goes-guarded, length-map, map-append)
