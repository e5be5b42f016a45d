-- Parts that are found one behind another, for search.
use Rattle.std.proofs.Common.{◌≡◌, ◌∙◌, ◌<◌, ◌+◌, ℕ, List, [], ◌∷◌, ◌++◌, map, take, get_or, length, sym, subst, ap, append_assoc, append-nil, false, true}
use Rattle.std.specs.Prelude.{IfOk, Result, Ok, Err}
use Rattle.bal_base.specs.declared.stop.Memory.{Memory}
use Rattle.std.proofs.lemmas.List.{length-map, map-append, map_more}
use Rattle.typed_tree.specs.Listed.{Listed, nothing, one, ◌&◌, joined}
use Rattle.typed_tree.proofs.ExprLayers.{expr_layers}
use Rattle.typed_tree.proofs.SeenParts.{firsts, para_out, seconds_with}
use Rattle.typed_tree.proofs.StmtLayers.{stmt_layers}
use Rattle.isolation_check.specs.declared.parts.Found.{Found}
use Rattle.isolation_check.specs.declared.parts.HeldPart.{HeldPart}
use Rattle.isolation_check.specs.Isolated.{own_parts, parts_inside}
use Rattle.isolation_check.specs.Parts.{Noted, Part}
use Rattle.isolation_check.specs.inner.Views.{Grows, part_of, parts_of}

chain : (xs ys zs p q : List Part) → ys ≡ xs ++ p → zs ≡ ys ++ q → zs ≡ xs ++ (p ++ q)
chain xs ys zs p q d e = e ∙ ap (λ l. l ++ q) d ∙ append_assoc xs p q

pub grows-nothing : (s : Found) → Grows nothing s s
unfolding Grows
grows-nothing s e = (e, sym (append-nil _), sym (append-nil _))

-- one part more
pub grows-own : (old new : Found) (part : HeldPart) → (new.full ≡ false → (old.full ≡ false) × (new.own.items ≡ old.own.items ++ part ∷ []))
    → new.inside ≡ old.inside → Grows (one (record { anonymous = false; part = part_of part })) old new
unfolding Grows
grows-own old new part k same e =
    let h = k e in
    (h.0, ap parts_of h.1 ∙ map-append part_of old.own.items (part ∷ []), ap (λ v. parts_of v.items) same ∙ sym (append-nil _))

pub grows-inside : (old new : Found) (part : HeldPart) → (new.full ≡ false → (old.full ≡ false) × (new.inside.items ≡ old.inside.items ++ part ∷ []))
    → new.own ≡ old.own → Grows (one (record { anonymous = true; part = part_of part })) old new
unfolding Grows
grows-inside old new part k same e =
    let h = k e in
    (h.0, ap (λ v. parts_of v.items) same ∙ sym (append-nil _), ap parts_of h.1 ∙ map-append part_of old.inside.items (part ∷ []))

-- what was found from nothing
pub found-own : (l : Listed Noted) (old new : Found) → Grows l old new → parts_of old.own.items ≡ [] → new.full ≡ false → parts_of new.own.items ≡ own_parts l
unfolding Grows
found-own l old new g none e = (g e).1 ∙ ap (λ ps. ps ++ own_parts l) none

pub found-inside : (l : Listed Noted) (old new : Found) → Grows l old new → parts_of old.inside.items ≡ [] → new.full ≡ false → parts_of new.inside.items ≡ parts_inside l
unfolding Grows
found-inside l old new g none e = (g e).2 ∙ ap (λ ps. ps ++ parts_inside l) none

pub whole-own : (l : Listed Noted) (r : Result Found Memory) (old mid : Found) → Grows l old mid → parts_of old.own.items ≡ [] → IfOk r (λ f. f ≡ mid) → IfOk r (λ f. mid.full ≡ false)
    → IfOk r (λ f. parts_of f.own.items ≡ own_parts l)
whole-own l (Ok f) old mid g none is room = ap (λ k. parts_of k.own.items) is ∙ found-own l old mid g none room
whole-own l (Err m) old mid g none is room = tt

pub whole-inside : (l : Listed Noted) (r : Result Found Memory) (old mid : Found) → Grows l old mid → parts_of old.inside.items ≡ [] → IfOk r (λ f. f ≡ mid) → IfOk r (λ f. mid.full ≡ false)
    → IfOk r (λ f. parts_of f.inside.items ≡ parts_inside l)
whole-inside l (Ok f) old mid g none is room = ap (λ k. parts_of k.inside.items) is ∙ found-inside l old mid g none room
whole-inside l (Err m) old mid g none is room = tt

pub grows-both : (p q : Listed Noted) (old mid new : Found) → Grows p old mid → Grows q mid new → Grows (p & q) old new
unfolding Grows
grows-both p q old mid new f g e =
    let k = g e in
    let h = f k.0 in
    (h.0, chain _ _ _ _ _ h.1 k.1, chain _ _ _ _ _ h.2 k.2)

joined-own : (ps : List (Listed Noted)) (q : Listed Noted) → own_parts (joined (ps ++ q ∷ [])) ≡ own_parts (joined ps) ++ own_parts q
joined-own [] q = append-nil (own_parts q)
joined-own (p ∷ ps) q = ap (λ l. own_parts p ++ l) (joined-own ps q) ∙ sym (append_assoc (own_parts p) (own_parts (joined ps)) (own_parts q))

joined-inside : (ps : List (Listed Noted)) (q : Listed Noted) → parts_inside (joined (ps ++ q ∷ [])) ≡ parts_inside (joined ps) ++ parts_inside q
joined-inside [] q = append-nil (parts_inside q)
joined-inside (p ∷ ps) q = ap (λ l. parts_inside p ++ l) (joined-inside ps q) ∙ sym (append_assoc (parts_inside p) (parts_inside (joined ps)) (parts_inside q))

joined-more : (ps : List (Listed Noted)) (q : Listed Noted) (old mid new : Found) → Grows (joined ps) old mid → Grows q mid new → Grows (joined (ps ++ q ∷ [])) old new
unfolding Grows
joined-more ps q old mid new f g e =
    let k = g e in
    let h = f k.0 in (
      h.0,
      chain _ _ _ _ _ h.1 k.1 ∙ ap (λ l. parts_of old.own.items ++ l) (sym (joined-own ps q)),
      chain _ _ _ _ _ h.2 k.2 ∙ ap (λ l. parts_of old.inside.items ++ l) (sym (joined-inside ps q)),
    )

-- one more of a list
pub grows-more : {X : Type 0} (f : X → Listed Noted) (xs : List X) (i : ℕ) (x : X) (old mid new : Found) → i < length xs → x ≡ get_or xs i x
    → Grows (joined (map f (take i xs))) old mid → Grows (f x) mid new → Grows (joined (map f (take (i + 1) xs))) old new
grows-more f xs i x old mid new lt is g h =
    subst (λ ls. Grows (joined ls) old new) (sym (map_more f xs i x lt ∙ ap (λ y. map f (take i xs) ++ f y ∷ []) (sym is)))
    (joined-more (map f (take i xs)) (f x) old mid new g h)

pub ruleset growing = (expr_layers, stmt_layers, para_out, firsts, seconds_with, grows-nothing, grows-both, length-map)
