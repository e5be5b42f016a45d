-- A search in the tree of a worker is one among its events.
use Rattle.std.proofs.Common.{◌≡◌, ◌∙◌, ◌<◌, ◌≤◌, ◌⊎◌, ◌+◌, ◌++◌, inl, inr, ℕ, zero, suc, Bool, true, false, List, [], ◌∷◌, Option, Some, None, map, length, refl, sym, subst, ap, arith}
use Rattle.std.specs.Prelude.{if◌then◌else◌, min, nat_le, option_map, slice_get}
use Rattle.std.proofs.lemmas.Bool.{cases_lt, false_from_ne_true, le-leb, leb-true}
use Rattle.std.proofs.lemmas.List.{get_or_past, length-map, map-append, take_all}
use Rattle.std.proofs.lemmas.Option.{slice_get-get_or, slice_get_past, slice_get_within}
use Rattle.bal_base.specs.declared.place.Place.{Place}
use Rattle.typed_tree.specs.declared.event.EventKind.TheVariants.{End}
use Rattle.typed_tree.specs.declared.stmt.TypedStmt.{TypedStmt}
use Rattle.typed_tree.specs.declared.unit.TypedWorker.{TypedWorker}
use Rattle.typed_tree.specs.Listed.{Listed, nothing, one, ◌&◌, run}
use Rattle.worker_pairing.specs.Events.{IsNth, before, count}
use Rattle.worker_pairing.specs.Faults.{kinds_of}
use Rattle.worker_pairing.specs.Marks.{Mark, Member, Members, Says, Early, Returns, Saying, SoFar, member_of, named_member, nil_type, nothing_yet, stmts_marks, with_mark}
use Rattle.worker_pairing.proofs.Counts.{before-all}
use Rattle.worker_partners.specs.Partners.{sayings_of}
use Rattle.worker_partners.proofs.Texts.{kinds-said-of}
use Rattle.event_search.specs.declared.search.Happening.{Happening}
use Rattle.event_search.specs.declared.search.Search.{Search}
use Rattle.event_search.specs.declared.search.Which.{Which}
use Rattle.event_search.specs.declared.search.Which.TheVariants.{Any}
use Rattle.event_search.specs.Search.{IsSearched, Occurrence, is_in, most, occurrence, occurrence_held, occurrences_of}
use Rattle.event_search.specs.inner.Walking.{Goes, Sought, hear, note, notes, sought, start}
use Rattle.event_search.proofs.Ends.{Ends, before-any, before-few, count-any, ends, ends_at, ends_past, kinds_in, nth-any}

-- ---- from marks to events

notes-two : (xs ys : List Occurrence) (s : Sought) → notes (xs ++ ys) s ≡ notes ys (notes xs s)
notes-two [] ys s = refl
notes-two (x ∷ xs) ys s = notes-two xs ys (note x s)

-- a search went over the events so far
run-notes : (first : Bool) (l : Listed Mark) (r : SoFar) (s : Sought) → run (hear first) l (notes (map occurrence r.sayings) s) ≡ notes (map occurrence (run (with_mark first) l r).sayings) s
run-notes first nothing r s = refl
run-notes first (one (Says kind at inner type)) r s =
    let said : Saying = record { kind = kind; at = at; initial = first; inner = inner; early = r.early; type = type } in
    sym (ap (λ es. notes es s) (map-append occurrence r.sayings (said ∷ [])) ∙ notes-two (map occurrence r.sayings) (occurrence said ∷ []) s)
run-notes first (one Early) r s = refl
run-notes first (one (Returns type at)) r s = refl
run-notes first (p & q) r s = ap (run (hear first) q) (run-notes first p r s) ∙ run-notes first q (run (with_mark first) p r) s

pub all-said : (initial rest : Listed Mark) (end : Place) (old mid later new : Search) → Goes true initial old mid → Goes false rest mid later → Goes false (one (Says End end false nil_type)) later new
    → sought new ≡ notes (map occurrence (member_of nil_type initial rest end).sayings) (sought old)
unfolding Goes
all-said initial rest end old mid later new f g h =
    let first = f ∙ run-notes true initial nothing_yet (sought old) in
    let then_rest = g ∙ ap (run (hear false) rest) first ∙ run-notes false rest (run (with_mark true) initial nothing_yet) (sought old) in
    h ∙ ap (run (hear false) (one (Says End end false nil_type))) then_rest
    ∙ run-notes false (one (Says End end false nil_type)) (run (with_mark false) rest (run (with_mark true) initial nothing_yet)) (sought old)

-- ---- the events of a worker

kinds-two : (ss : List Saying) → map (λ s. s.kind) ss ≡ kinds_in (map occurrence ss)
kinds-two [] = refl
kinds-two (s ∷ ss) = ap (λ l. s.kind ∷ l) (kinds-two ss)

pub kinds-so : (ms : Members) (w : ℕ) → kinds_of ms w ≡ kinds_in (occurrences_of ms w)
kinds-so ms w = kinds-said-of ms w ∙ kinds-two (sayings_of ms w)

length-kinds : (es : List Occurrence) → length (kinds_in es) ≡ length es
length-kinds es = length-map es (λ e. e.kind)

module _ (es : List Occurrence) (k : ℕ) (d : Which) where
  found-at : (s : Sought) → Ends Any d k 0 es s → s.found ≡ slice_get es k
  found-at s (ends_at n e nth there found tally) =
      let same = nth-any (kinds_in es) k n nth in
      found ∙ sym there ∙ ap (slice_get es) same
  found-at s (ends_past few none tally) =
      let all = count-any (kinds_in es) in
      let long = length-kinds es in
      none ∙ sym (slice_get_past es k (omega (arith, all, long, few)))

  whole : (b : ℕ) → b ≤ most → min (0 + b) most ≡ b
  whole b le = grind (arith, le)

  tallied-at : (s : Sought) → k ≤ most → Ends Any d k 0 es s → s.tally ≡ before (is_in d) (kinds_in es) k
  tallied-at s le (ends_at n e nth there found tally) =
      let same = nth-any (kinds_in es) k n nth in
      let few = before-few (is_in d) (kinds_in es) k in
      tally ∙ ap (λ j. min (0 + before (is_in d) (kinds_in es) j) most) same ∙ whole (before (is_in d) (kinds_in es) k) (omega (arith, few, le))
  tallied-at s le (ends_past few none tally) =
      let all = count-any (kinds_in es) in
      let same : before (is_in d) (kinds_in es) k ≡ count (is_in d) (kinds_in es) = ap (count (is_in d)) (take_all k (kinds_in es) (omega (arith, all, few))) in
      let less = before-few (is_in d) (kinds_in es) k in
      tally ∙ whole (count (is_in d) (kinds_in es)) (omega (arith, same, less, le)) ∙ sym same

some_event : Occurrence
some_event = record { kind = End; at = record { file = 0; at = 0 }; initial = false }

-- ---- what the calls answer

module _ (ms : Members) (w : ℕ) (old new : Search) (goes : sought new ≡ notes (occurrences_of ms w) (sought old)) where
  abbrev es : List Occurrence
  es = occurrences_of ms w

  ended : (c d : Which) (k : ℕ) → sought old ≡ start c d k 0 → Ends c d k 0 es (sought new)
  ended c d k begins = subst (Ends c d k 0 es) (sym (goes ∙ ap (notes es) begins)) (ends c d es k 0 (omega arith))

  pub event-found : (k : ℕ) → sought old ≡ start Any Any k 0 → option_map occurrence_held new.found ≡ slice_get es k
  event-found k begins = found-at es k Any (sought new) (ended Any Any k begins)

  pub before-found : (d : Which) (k : ℕ) → k ≤ most → sought old ≡ start Any d k 0 → new.tally ≡ before (is_in d) (kinds_of ms w) k
  before-found d k le begins =
      tallied-at es k d (sought new) le (ended Any d k begins) ∙ ap (λ ks. before (is_in d) ks k) (sym (kinds-so ms w))

  -- ---- how many there are

  long : length (kinds_of ms w) ≡ length es
  long = ap length (kinds-so ms w) ∙ length-kinds es

  abbrev counted_in : Bool → Option ℕ
  counted_in b = if b then Some (length (kinds_of ms w)) else None

  pub count-past : (k : ℕ) (h : Happening) → sought old ≡ start Any Any k 0 → new.found ≡ Some h → None ≡ counted_in (nat_le (length (kinds_of ms w)) k)
  count-past k h begins is =
      let there = slice_get_within es k (occurrence_held h) (sym (event-found k begins) ∙ ap (option_map occurrence_held) is) in
      sym (ap counted_in (false_from_ne_true (nat_le (length (kinds_of ms w)) k) (λ le. let less : length (kinds_of ms w) ≤ k = leb-true _ _ le in omega (arith, long, there, less))))

  pub count-found : (k : ℕ) → k ≤ most → sought old ≡ start Any Any k 0 → new.found ≡ None → Some new.tally ≡ counted_in (nat_le (length (kinds_of ms w)) k)
  count-found k le begins is =
      ap Some (before-found Any k le begins ∙ all) ∙ sym (ap counted_in (le-leb _ _ few))
    where
      past : slice_get es k ≡ None
      past = sym (event-found k begins) ∙ ap (option_map occurrence_held) is

      few : length (kinds_of ms w) ≤ k
      few = by (cases_lt k (length es))
        where
          nothing : (o : Occurrence) → Some o ≡ None → ⊥
          nothing o e = grind (arith, e)

          by : (k < length es) ⊎ (length es ≤ k) → length (kinds_of ms w) ≤ k
          by (inr more) = omega (arith, long, more)
          by (inl lt) = absurd (nothing _ (sym (slice_get-get_or es k some_event lt) ∙ past))

      all : before (is_in Any) (kinds_of ms w) k ≡ length (kinds_of ms w)
      all = ap (count (is_in Any)) (take_all k (kinds_of ms w) few) ∙ count-any (kinds_of ms w)

  -- ---- the k-th of some

  module _ (which : Which) (k : ℕ) (begins : sought old ≡ start which Any k 0) where
    kinds-here : (n j : ℕ) → IsNth (is_in which) (kinds_in es) n j → IsNth (is_in which) (kinds_of ms w) n j
    kinds-here n j = subst (λ ks. IsNth (is_in which) ks n j) (sym (kinds-so ms w))

    pub nth-found : (h : Happening) → length (kinds_of ms w) ≤ most → new.found ≡ Some h → IsSearched ms w which k (Some (record { number = new.tally; event = h }))
    nth-found h few is = by (ended which Any k begins)
      where
        nothing : (o : Occurrence) → Some o ≡ None → ⊥
        nothing o e = grind (arith, e)

        by : Ends which Any k 0 es (sought new) → IsSearched ms w which k (Some (record { number = new.tally; event = h }))
        by (ends_past less none tally) = absurd (nothing (occurrence_held h) (sym (ap (option_map occurrence_held) is) ∙ none))
        by (ends_at n e nth there found tally) =
            let lt = slice_get_within es n e there in
            let many = length-kinds es in
            let all = before-any (kinds_in es) n (omega (arith, lt, many)) in
            let number : new.tally ≡ n = tally ∙ whole es k Any (before (is_in Any) (kinds_in es) n) (omega (arith, all, lt, long, few)) ∙ all in
            record {
              nth = subst (λ j. IsNth (is_in which) (kinds_of ms w) k j) (sym number) (kinds-here k n nth);
              there = ap (slice_get es) number ∙ there ∙ sym found ∙ ap (option_map occurrence_held) is;
            }

    pub nth-none : new.found ≡ None → IsSearched ms w which k None
    nth-none is = by (ended which Any k begins)
      where
        nothing : (o : Occurrence) → None ≡ Some o → ⊥
        nothing o e = grind (arith, e)

        by : Ends which Any k 0 es (sought new) → (i : ℕ) → ¬ IsNth (is_in which) (kinds_of ms w) k i
        by (ends_at n e nth there found tally) i h = nothing e (sym (ap (option_map occurrence_held) is) ∙ found)
        by (ends_past less none tally) i h =
            let more = before-all (is_in which) (kinds_of ms w) i h.0 in
            let place = h.1 in
            let same = ap (count (is_in which)) (kinds-so ms w) in
            omega (arith, more, place, same, less)

-- ---- the workers of a function

sayings-mapped : {X : Type 0} (f : X → Member) (xs : List X) (n : ℕ) (x : X) → slice_get xs n ≡ Some x → sayings_of (map f xs) n ≡ (f x).sayings
sayings-mapped f [] n x at = absurd (grind (arith, at))
sayings-mapped f (y ∷ xs) zero x at = let same : y ≡ x = grind (arith, at) in ap (λ z. (f z).sayings) same
sayings-mapped f (y ∷ xs) (suc n) x at = sayings-mapped f xs n x at

sayings-past : (ms : Members) (n : ℕ) → length ms ≤ n → sayings_of ms n ≡ []
sayings-past ms n le = get_or_past (map (λ m. m.sayings) ms) n [] (let many = length-map ms (λ m. m.sayings) in omega (arith, many, le))

pub named-found : (workers : List TypedWorker) (n : ℕ) (x : TypedWorker) (stmts : List TypedStmt) (old new : Sought) → slice_get workers n ≡ Some x → stmts ≡ x.stmts.items
    → new ≡ notes (map occurrence (member_of nil_type nothing (stmts_marks stmts) x.close).sayings) old → new ≡ notes (occurrences_of (map named_member workers) n) old
named-found workers n x stmts old new at is goes =
    goes ∙ ap (λ ss. notes (map occurrence (member_of nil_type nothing (stmts_marks ss) x.close).sayings) old) is
    ∙ ap (λ ss. notes (map occurrence ss) old) (sym (sayings-mapped named_member workers n x at))

pub none-named : (ms : Members) (n : ℕ) (s : Sought) → length ms ≤ n → s ≡ notes (occurrences_of ms n) s
none-named ms n s le = sym (ap (λ ss. notes (map occurrence ss) s) (sayings-past ms n le))
