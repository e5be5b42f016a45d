-- One event more is played.
use Rattle.std.proofs.Common.{◌≡◌, ◌∙◌, ◌<◌, ◌+◌, ◌-◌, ◌++◌, ℕ, zero, suc, List, [], ◌∷◌, Option, Some, arith, drop, get_or, length, map, refl, subst, sym, take, ap}
use Rattle.std.specs.Prelude.{slice_get}
use Rattle.std.proofs.lemmas.List.{length-map, map-append, take-append-le, take-map, take_all, take_more}
use Rattle.std.proofs.lemmas.Option.{get_or_from_slice_get, slice_get_within}
use Rattle.std.specs.List.{AllZip}
use Rattle.type_model.specs.declared.basic.SemType.{SemType}
use Rattle.type_model.specs.SameType.{IsSameType}
use Rattle.stack_code.specs.declared.code.StackMap.{StackMap}
use Rattle.stack_code.specs.Commands.{Command}
use Rattle.stack_code.specs.Places.{Tally}
use Rattle.tree_promises.specs.Types.{Stack}
use Rattle.lower_expr.specs.declared.draft.Step.{Step}
use Rattle.lower_expr.specs.Drafts.{step_of}
use Rattle.map_model.specs.Whole.{IsMapOf, Point, points, tallies, tally_after}
use Rattle.map_traces.specs.declared.entry.Entry.{Entry}
use Rattle.map_traces.specs.declared.trace.Event.{Event}
use Rattle.map_traces.specs.Events.{all_traced, traced, type_of}
use Rattle.map_traces.specs.Tracing.{Tracing, drops, place, push, turned}
use Rattle.map_traces.proofs.Tracing.{all-traced-more}
use Rattle.code_maps.specs.declared.player.Player.{Player}
use Rattle.code_maps.specs.Counted.{tally_along, tally_in}
use Rattle.code_maps.specs.Played.{Goes, HasMapMore, IsMapHere, IsPlayed}

-- ---- lists

pub zip-more : {X Y : Type 0} (R : X → Y → Type 0) (xs : List X) (ys : List Y) (x : X) (y : Y) → AllZip R xs ys → R x y → AllZip R (xs ++ x ∷ []) (ys ++ y ∷ [])
zip-more R [] [] x y all r = (r, tt)
zip-more R [] (z ∷ ys) x y all r = absurd all
zip-more R (z ∷ xs) [] x y all r = absurd all
zip-more R (z ∷ xs) (w ∷ ys) x y all r = (all.0, zip-more R xs ys x y all.1 r)

append-assoc : {X : Type 0} (xs ys zs : List X) → (xs ++ ys) ++ zs ≡ xs ++ (ys ++ zs)
append-assoc [] ys zs = refl
append-assoc (x ∷ xs) ys zs = ap (λ l. x ∷ l) (append-assoc xs ys zs)

length-more : {X : Type 0} (xs : List X) (x : X) → length (xs ++ x ∷ []) ≡ suc (length xs)
length-more [] x = refl
length-more (y ∷ xs) x = ap suc (length-more xs x)

-- ---- operands that wait

turned-long : (w : List SemType) → length (turned w) ≡ length w
turned-long [] = refl
turned-long (t ∷ w) = length-more (turned w) t ∙ ap suc (turned-long w)

none-taken : (k : ℕ) → turned [] ≡ take k (turned [])
none-taken zero = refl
none-taken (suc k) = refl

turned-dropped : (n : ℕ) (w : List SemType) → turned (drop n w) ≡ take (length w - n) (turned w)
turned-dropped zero w = sym (take_all (length w - 0) (turned w) (omega (arith, turned-long w)))
turned-dropped (suc n) [] = none-taken _
turned-dropped (suc n) (t ∷ w) =
    turned-dropped n w ∙ ap (λ k. take k (turned w)) (less n) ∙ sym (take-append-le (suc (length w) - suc n) (turned w) (t ∷ []) (omega (arith, turned-long w)))
  where
    less : (n : ℕ) → length w - n ≡ suc (length w) - suc n
    less n = omega arith

-- ---- numbers of messages

along-more : (workers : ℕ) (t : Option Tally) (cs : List Command) (c : Command) → tally_along workers t (cs ++ c ∷ []) ≡ tally_after workers c (tally_along workers t cs)
along-more workers t [] c = refl
along-more workers t (d ∷ cs) c = along-more workers (tally_after workers d t) cs c

-- ---- points

points-more : (workers : ℕ) (t : Option Tally) (cs : List Command) (ps : List Stack) (p : Stack) → length ps < length cs →
    points (ps ++ p ∷ []) (tallies workers t cs) ≡ points ps (tallies workers t cs) ++ record { stack = p; tally = tally_along workers t (take (length ps) cs) } ∷ []
points-more workers t [] ps p lt = absurd (omega (arith, lt))
points-more workers t (c ∷ cs) [] p lt = refl
points-more workers t (c ∷ cs) (q ∷ ps) p lt = ap (λ l. record { stack = q; tally = t } ∷ l) (points-more workers (tally_after workers c t) cs ps p (omega (arith, lt)))

-- ---- events

map-get : {X Y : Type 0} (f : X → Y) (xs : List X) (i : ℕ) (x : X) → i < length xs → x ≡ get_or xs i x → f x ≡ get_or (map f xs) i (f x)
map-get f [] i x lt is = absurd (omega (arith, lt))
map-get f (y ∷ xs) zero x lt is = ap f is
map-get f (y ∷ xs) (suc i) x lt is = map-get f xs i x (omega (arith, lt)) is

module _ (workers : ℕ) (commands : List Command) (old new : Player) where
  pub place-goes : (c : Command) (m : StackMap) → old.next < length commands → c ≡ get_or commands old.next c → IsMapHere old m
      → new.waiting.items ≡ old.waiting.items → new.maps.items ≡ old.maps.items ++ m ∷ [] → new.next ≡ old.next + 1
      → tally_in new.exchanged ≡ tally_after workers c (tally_in old.exchanged) → Goes workers commands place old new
  place-goes c m lt at here waiting maps next tally begin before s is =
      record {
        waiting = is.waiting ∙ ap (map type_of) (sym waiting);
        maps = subst (λ ms. AllZip IsMapOf ms (before ++ points (s.places ++ turned s.waiting ∷ []) (tallies workers begin commands))) (sym maps)
            (subst (λ ps. AllZip IsMapOf (old.maps.items ++ m ∷ []) ps) (append-assoc before (points s.places (tallies workers begin commands)) (point ∷ []) ∙ ap (λ ps. before ++ ps) (sym (points-more workers begin commands s.places (turned s.waiting) (omega (arith, lt, is.next)))))
            (zip-more IsMapOf old.maps.items (before ++ points s.places (tallies workers begin commands)) m point is.maps stands));
        next = length-more s.places (turned s.waiting) ∙ omega (arith, is.next, next);
        within = omega (arith, next, lt);
        tally =
            tally ∙ ap (tally_after workers c) is.tally ∙ sym (along-more workers begin (take old.next commands) c)
            ∙ ap (λ cs. tally_along workers begin cs) (ap (λ x. take old.next commands ++ x ∷ []) at ∙ sym (take_more commands old.next c lt))
            ∙ ap (λ n. tally_along workers begin (take n commands)) (sym next);
      }
    where
      point : Point
      point = record { stack = turned s.waiting; tally = tally_along workers begin (take (length s.places) commands) }

      stands : IsMapOf m point
      stands = (subst (λ ts. AllZip IsSameType ts m.stack) (sym is.waiting) here.0, here.1 ∙ is.tally ∙ ap (λ n. tally_along workers begin (take n commands)) (sym is.next))

  -- by the steps of which the commands are
  pub place-goes-at : (steps : List Step) (step : Step) → commands ≡ map step_of steps → Some step ≡ slice_get steps old.next → HasMapMore old new
      → new.waiting.items ≡ old.waiting.items → new.next ≡ old.next + 1 → tally_in new.exchanged ≡ tally_after workers (step_of step) (tally_in old.exchanged)
      → Goes workers commands place old new
  place-goes-at steps step are at (m, here, more) waiting next tally =
      place-goes (step_of step) m (omega (arith, lt, ap length are, length-map steps step_of)) (got ∙ ap (λ cs. get_or cs old.next (step_of step)) (sym are)) here waiting more next tally
    where
      lt : old.next < length steps
      lt = slice_get_within steps old.next step (sym at)

      got : step_of step ≡ get_or (map step_of steps) old.next (step_of step)
      got = map-get step_of steps old.next step lt (sym (get_or_from_slice_get steps old.next step step (sym at)))

  -- nothing but the operands that wait is changed
  pub waits-so : (tells : Tracing → Tracing) → ((s : Tracing) → (tells s).places ≡ s.places)
      → ((s : Tracing) → turned s.waiting ≡ map type_of old.waiting.items → turned (tells s).waiting ≡ map type_of new.waiting.items)
      → new.maps.items ≡ old.maps.items → new.next ≡ old.next → tally_in new.exchanged ≡ tally_in old.exchanged → Goes workers commands tells old new
  waits-so tells places waits maps next tally begin before s is =
      record {
        waiting = waits s is.waiting;
        maps = subst (λ ms. AllZip IsMapOf ms (before ++ points (tells s).places (tallies workers begin commands))) (sym maps)
            (subst (λ ps. AllZip IsMapOf old.maps.items (before ++ points ps (tallies workers begin commands))) (sym (places s)) is.maps);
        next = ap length (places s) ∙ is.next ∙ sym next;
        within = omega (arith, is.within, next);
        tally = tally ∙ is.tally ∙ ap (λ n. tally_along workers begin (take n commands)) (sym next);
      }

  pub push-goes : (e : Entry) → new.waiting.items ≡ old.waiting.items ++ e ∷ [] → new.maps.items ≡ old.maps.items → new.next ≡ old.next → tally_in new.exchanged ≡ tally_in old.exchanged
      → Goes workers commands (push (type_of e)) old new
  push-goes e waiting = waits-so (push (type_of e)) (λ s. refl) (λ s is. ap (λ l. l ++ type_of e ∷ []) is ∙ sym (map-append type_of old.waiting.items (e ∷ [])) ∙ ap (map type_of) (sym waiting))

  pub drops-goes : (n : ℕ) → new.waiting.items ≡ take (length old.waiting.items - n) old.waiting.items → new.maps.items ≡ old.maps.items → new.next ≡ old.next → tally_in new.exchanged ≡ tally_in old.exchanged
      → Goes workers commands (drops n) old new
  drops-goes n waiting = waits-so (drops n) (λ s. refl) dropped
    where
      many : (s : Tracing) → turned s.waiting ≡ map type_of old.waiting.items → length s.waiting ≡ length old.waiting.items
      many s is = sym (turned-long s.waiting) ∙ ap length is ∙ length-map old.waiting.items type_of

      dropped : (s : Tracing) → turned s.waiting ≡ map type_of old.waiting.items → turned (drop n s.waiting) ≡ map type_of new.waiting.items
      dropped s is =
          turned-dropped n s.waiting ∙ ap (λ k. take (k - n) (turned s.waiting)) (many s is) ∙ ap (take (length old.waiting.items - n)) is
          ∙ take-map type_of (length old.waiting.items - n) old.waiting.items ∙ ap (map type_of) (sym waiting)

-- one more of those that come one after another
pub goes-more : (workers : ℕ) (commands : List Command) (es : List Event) (i : ℕ) (e : Event) (old mid new : Player) → i < length es → e ≡ get_or es i e
    → Goes workers commands (all_traced (take i es)) old mid → Goes workers commands (traced e) mid new → Goes workers commands (all_traced (take (i + 1) es)) old new
goes-more workers commands es i e old mid new lt at first next begin before s is =
    subst (λ t. IsPlayed workers begin commands before t new)
    (sym (ap (λ l. all_traced l s) (take_more es i e lt ∙ ap (λ y. take i es ++ y ∷ []) (sym at)) ∙ all-traced-more (take i es) e s))
    (next begin before (all_traced (take i es) s) (first begin before s is))
