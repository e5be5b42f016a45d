-- Ranks that rise along workers and fall from each event to what it needs are a numbering.
use Rattle.std.proofs.Common.{◌≡◌, ◌∙◌, ◌<◌, ◌≤◌, ◌⊎◌, ◌+◌, ◌-◌, ◌↔◌, ℕ, zero, suc, Bool, true, false, List, [], ◌∷◌, Option, Some, None, length, refl, sym, subst, ap, inl, inr, arith}
use Rattle.std.specs.Prelude.{All, Contains, IsSomeAnd, IsTrue, get_or, min, nat_lt, slice_get, take}
use Rattle.std.proofs.lemmas.Bool.{cases_lt, lt-ltb, ltb-true}
use Rattle.std.proofs.lemmas.List.{get_or_default, get_or_past, length-map, take_all}
use Rattle.bal_base.proofs.Loops.{one_fails, one_more}
use Rattle.std.proofs.lemmas.Option.{slice_get_past}
use Rattle.typed_tree.specs.declared.event.EventKind.{EventKind}
use Rattle.typed_tree.specs.declared.event.EventKind.TheVariants.{Done, Receive, Flush, Wait}
use Rattle.operations.specs.Talk.{workers_in}
use Rattle.worker_pairing.specs.Events.{IsNth, IsNumbering, NeedsAs, before, count, receives_from, sends_to}
use Rattle.worker_pairing.specs.Faults.{crew_of, kinds_of, rank_in}
use Rattle.worker_pairing.specs.Marks.{Members, kinds}
use Rattle.worker_pairing.proofs.Counts.{before-all, not-before, nth-length, nth-there}
use Rattle.event_search.specs.declared.search.Found.{Found}
use Rattle.event_search.specs.declared.search.Which.{Which}
use Rattle.event_search.specs.declared.search.Which.TheVariants.{ReceivedFrom, SentTo}
use Rattle.event_search.specs.Search.{IsSearched, is_in}
use Rattle.plan_checks.specs.Needing.{Falls, FallsAt, FallsBelow, LastFalls, NthFalls, Rises, RisesTo}

-- ---- names, one behind another

module _ (P : Option ℕ → Type 0) (names : List (Option ℕ)) (i : ℕ) (d : Option ℕ) (lt : i < length names) where
  item-there : get_or names i d ≡ get_or names i (get_or names i d)
  item-there = get_or_default names i d (get_or names i d) lt

  pub name-more : All P (take i names) → P (get_or names i d) → All P (take (i + 1) names)
  name-more = one_more P names i (get_or names i d) lt item-there

  pub name-fails : (b : Bool) → (P (get_or names i d) → IsTrue b) → b ≡ false → IsTrue false ↔ All P names
  name-fails b = one_fails P names i (get_or names i d) b lt item-there

-- ---- the k-th of some events is one alone

pub same-nth : (is : EventKind → Bool) (es : List EventKind) (k i j : ℕ) → IsNth is es k i → IsNth is es k j → i ≡ j
same-nth is es k i j a b =
    let first = not-before is es k j i b (omega (arith, a.1)) in
    let second = not-before is es k i j a (omega (arith, b.1)) in
    omega (arith, first, second)

-- what rises at each step rises
rising : (f : ℕ → ℕ) (n : ℕ) → ((i : ℕ) → suc i < n → f i < f (suc i)) → (i j : ℕ) → i < j → j < n → f i < f j
rising f n steps i zero lt there = absurd (omega (arith, lt))
rising f n steps i (suc j) lt there = by (cases_lt i j) (rising f n steps i j)
  where
    by : (i < j) ⊎ (j ≤ i) → (i < j → j < n → f i < f j) → f i < f (suc j)
    by (inl less) before =
        let low = before less (omega (arith, there)) in
        let high = steps j there in
        omega (arith, low, high)
    by (inr more) before = let e : j ≡ i = omega (arith, lt, more) in subst (λ k. f k < f (suc j)) e (steps j there)

some-is : {X : Type 0} (P : X → Type 0) (o : Option X) → IsSomeAnd o P → (x : X) × (o ≡ Some x) × P x
some-is P (Some x) h = (x, refl, h)
some-is P None h = absurd h

module _ (ms : Members) (ranks : List ℕ) where
  abbrev ranked : ℕ → ℕ → ℕ
  ranked = rank_in ms ranks

  -- ---- a numbering

  numbered : ((w : ℕ) → Rises ms ranks w) → ((w : ℕ) → Falls ms ranks w) → IsNumbering (crew_of ms) (rank_in ms ranks)
  numbered rises falls =
      record {
        rises = λ w. rising (rank_in ms ranks w) (length (kinds_of ms w)) (rises w);
        follows = λ w i u j h. let e = some-is (λ e. NeedsAs (crew_of ms) e w i u j) (slice_get (kinds_of ms w) i) h in falls w i e.0 e.1 u j e.2;
      }

  pub numbering-rises : IsNumbering (crew_of ms) (rank_in ms ranks) → (w : ℕ) → Rises ms ranks w
  numbering-rises is w i there = is.rises w i (suc i) (omega arith) there

  numbering-falls : IsNumbering (crew_of ms) (rank_in ms ranks) → (w : ℕ) → Falls ms ranks w
  numbering-falls is w i e at u j needs = is.follows w i u j (subst (λ o. IsSomeAnd o (λ k. NeedsAs (crew_of ms) k w i u j)) (sym at) needs)

  -- ---- searches

  lower : (r s least : ℕ) → r ≡ s → IsTrue (nat_lt r least) ↔ s < least
  lower r s least same = (λ h. let lt = ltb-true r least h in omega (arith, lt, same), λ lt. lt-ltb r least (omega (arith, lt, same)))

  pub nth-lower : (w : ℕ) (which : Which) (k least : ℕ) (f : Found) (r : ℕ) → IsSearched ms w which k (Some f) → r ≡ rank_in ms ranks w f.number → IsTrue (nat_lt r least) ↔ NthFalls ms ranks w which k least
  nth-lower w which k least f r found same =
      let both = lower r (rank_in ms ranks w f.number) least same in (
        λ h j nth. let one = same-nth (is_in which) (kinds_of ms w) k f.number j found.nth nth in subst (λ i. rank_in ms ranks w i < least) one (both.0 h),
        λ falls. both.1 (falls f.number found.nth),
      )

  pub nth-none : (w : ℕ) (which : Which) (k least : ℕ) → IsSearched ms w which k None → IsTrue true ↔ NthFalls ms ranks w which k least
  nth-none w which k least none = (λ h j nth. absurd (none j nth), λ falls. refl)

  pub end-lower : (u last r least : ℕ) → suc last ≡ length (kinds_of ms u) → r ≡ rank_in ms ranks u last → IsTrue (nat_lt r least) ↔ LastFalls ms ranks u least
  end-lower u last r least place same =
      let both = lower r (rank_in ms ranks u last) least same in (
        λ h j at. let one : last ≡ j = omega (arith, place, at) in subst (λ i. rank_in ms ranks u i < least) one (both.0 h),
        λ falls. both.1 (falls last place),
      )

  pub end-none : (u least : ℕ) → length (kinds_of ms u) ≡ 0 → IsTrue true ↔ LastFalls ms ranks u least
  end-none u least none = (λ h j at. absurd (omega (arith, at, none)), λ falls. refl)

  -- ---- what an event needs

  module _ (w i least : ℕ) where
    pub receive-needs : (v k : ℕ) (b : Bool) → k ≡ before (receives_from v) (kinds_of ms w) i → IsTrue b ↔ NthFalls ms ranks v (SentTo w) k least
        → IsTrue b ↔ FallsBelow ms ranks w i (Receive (Some v)) least
    receive-needs v k b place both = (
      λ h u j needs. subst (λ x. rank_in ms ranks x j < least) (sym needs.0) (both.0 h j (subst (λ n. IsNth (sends_to w) (kinds_of ms v) n j) (sym place) needs.1)),
      λ falls. both.1 (λ j nth. falls v j (refl, subst (λ n. IsNth (sends_to w) (kinds_of ms v) n j) place nth)),
    )

    -- the last of so many receives has a lesser rank
    abbrev pub LastOf : ℕ → ℕ → Type 0
    LastOf v m = (k : ℕ) → suc k ≡ m → NthFalls ms ranks v (ReceivedFrom w) k least

    pub last-some : (v m k : ℕ) (b : Bool) → suc k ≡ m → IsTrue b ↔ NthFalls ms ranks v (ReceivedFrom w) k least → IsTrue b ↔ LastOf v m
    last-some v m k b place both = (
      λ h n at. let one : k ≡ n = omega (arith, place, at) in subst (λ x. NthFalls ms ranks v (ReceivedFrom w) x least) one (both.0 h),
      λ last. both.1 (last k place),
    )

    pub last-zero : (v m : ℕ) → m ≡ 0 → IsTrue true ↔ LastOf v m
    last-zero v m none = (λ h k at. absurd (omega (arith, at, none)), λ last. refl)

    pub done-needs : (v m : ℕ) (b : Bool) → m ≡ before (sends_to v) (kinds_of ms w) i → IsTrue b ↔ LastOf v m → IsTrue b ↔ FallsBelow ms ranks w i (Done (Some v)) least
    done-needs v m b place both = (
      λ h u j needs. subst (λ x. rank_in ms ranks x j < least) (sym needs.0) (both.0 h needs.1.0 (needs.1.1 ∙ sym place) j needs.1.2),
      λ falls. both.1 (λ k at j nth. falls v j (refl, (k, at ∙ place, nth))),
    )

    -- of those of so many that there are, the last has the greatest rank
    last-most : (v m : ℕ) → Rises ms ranks v → LastOf v (min m (count (receives_from w) (kinds_of ms v))) → (k j : ℕ) → k < m → IsNth (receives_from w) (kinds_of ms v) k j → rank_in ms ranks v j < least
    last-most v m rises last k j lt nth =
        let is = receives_from w in
        let es = kinds_of ms v in
        let few = before-all is es j nth.0 in
        let place = nth.1 in
        by (min m (count is es)) refl (both m (count is es) k lt (omega (arith, few, place)))
      where
        both : (a b k : ℕ) → k < a → k < b → k < min a b
        both a b k la lb = grind (arith, la, lb)

        below : (a b : ℕ) → min a b ≤ b
        below a b = grind (arith)

        up : (j f : ℕ) → j ≤ f → f < length (kinds_of ms v) → rank_in ms ranks v f < least → rank_in ms ranks v j < least
        up j f le there lower = which (cases_lt j f)
          where
            which : (j < f) ⊎ (f ≤ j) → rank_in ms ranks v j < least
            which (inl less) = let rise = rising (rank_in ms ranks v) (length (kinds_of ms v)) rises j f less there in omega (arith, rise, lower)
            which (inr more) = let same : f ≡ j = omega (arith, le, more) in subst (λ x. rank_in ms ranks v x < least) same lower

        by : (n : ℕ) → min m (count (receives_from w) (kinds_of ms v)) ≡ n → k < n → rank_in ms ranks v j < least
        by zero e less = absurd (omega (arith, less))
        by (suc n) e less =
            let all = below m (count (receives_from w) (kinds_of ms v)) in
            let final = nth-there (receives_from w) (kinds_of ms v) n (omega (arith, all, e)) in
            let least_so = last n (sym e) final.0 final.1 in
            let at = final.1.1 in
            let later = not-before (receives_from w) (kinds_of ms v) n final.0 j final.1 (let here = nth.1 in omega (arith, here, less)) in
            up j final.0 later (nth-length (receives_from w) (kinds_of ms v) final.0 final.1.0) least_so

    pub flush-needs : (v m r n : ℕ) (b : Bool) → ((u : ℕ) → Rises ms ranks u) → m ≡ before (sends_to v) (kinds_of ms w) i → r ≡ before (receives_from w) (kinds_of ms v) (length ranks)
        → length (kinds_of ms v) ≤ length ranks → n ≡ min m r → IsTrue b ↔ LastOf v n → IsTrue b ↔ FallsBelow ms ranks w i (Flush (Some v)) least
    flush-needs v m r n b rises place all few so both = (
      λ h u j needs. subst (λ x. rank_in ms ranks x j < least) (sym needs.0)
          (last-most v m (rises v) (subst (LastOf v) whole (both.0 h)) needs.1.0 j (let lt = needs.1.1 in omega (arith, lt, place)) needs.1.2),
      λ falls. both.1 (λ k at j nth. falls v j (refl, (k, fewer k at, nth))),
    )
      where
        total : r ≡ count (receives_from w) (kinds_of ms v)
        total = all ∙ ap (count (receives_from w)) (take_all (length ranks) (kinds_of ms v) few)

        whole : n ≡ min m (count (receives_from w) (kinds_of ms v))
        whole = so ∙ ap (min m) total

        smaller : (a b k : ℕ) → suc k ≡ min a b → k < a
        smaller a b k e = grind (arith, e)

        fewer : (k : ℕ) → suc k ≡ n → k < before (sends_to v) (kinds_of ms w) i
        fewer k at = let lt = smaller m r k (at ∙ so) in omega (arith, lt, place)

    pub wait-needs : (us : List ℕ) (b : Bool) → IsTrue b ↔ ((u : ℕ) → Contains us u → LastFalls ms ranks u least) → IsTrue b ↔ FallsBelow ms ranks w i (Wait us) least
    wait-needs us b both = (λ h u j needs. both.0 h u needs.0 j needs.1, λ falls. both.1 (λ u among j last. falls u j (among, last)))

  -- ---- events and workers, one behind another

  pub rises-by : (w n a b : ℕ) → 0 < n → a ≡ rank_in ms ranks w (n - 1) → b ≡ rank_in ms ranks w n → IsTrue (nat_lt a b) ↔ RisesTo ms ranks w n
  rises-by w n a b more low high = (
    λ h i same.
        let lt = ltb-true a b h in
        let one : n - 1 ≡ i = omega (arith, same) in
        subst (λ x. rank_in ms ranks w i < rank_in ms ranks w x) (sym same) (subst (λ x. rank_in ms ranks w x < rank_in ms ranks w n) one (omega (arith, lt, low, high))),
    λ rises.
        let at : suc (n - 1) ≡ n = omega (arith, more) in
        let lt = subst (λ x. rank_in ms ranks w (n - 1) < rank_in ms ranks w x) at (rises (n - 1) at) in
        lt-ltb a b (omega (arith, lt, low, high)),
  )

  abbrev pub RisesWithin : ℕ → ℕ → Type 0
  RisesWithin w n = n < length (kinds_of ms w) → RisesTo ms ranks w n

  -- no event has number 0 behind another one
  pub first-within : (w i : ℕ) → i < 1 → RisesWithin w i
  first-within w i lt there j same = absurd (omega (arith, lt, same))

  pub rises-all : (w : ℕ) (b : Bool) → IsTrue b ↔ ((n : ℕ) → RisesWithin w n) → IsTrue b ↔ Rises ms ranks w
  rises-all w b both = (λ h i lt. both.0 h (suc i) lt i refl, λ rises. both.1 (λ n lt i same. rises i (subst (λ x. x < length (kinds_of ms w)) (sym same) lt)))

  no-kinds : (w : ℕ) → length ms ≤ w → kinds_of ms w ≡ []
  no-kinds w le = get_or_past (crew_of ms) w [] (let long = length-map ms kinds in omega (arith, long, le))

  pub past-rises : (w : ℕ) → length ms ≤ w → Rises ms ranks w
  past-rises w le i lt = let none = ap length (no-kinds w le) in absurd (omega (arith, none, lt))

  pub past-falls-at : (w i : ℕ) → length (kinds_of ms w) ≤ i → FallsAt ms ranks w i
  past-falls-at w i le e at = absurd (nothing e (sym at ∙ slice_get_past (kinds_of ms w) i le))
    where
      nothing : (e : EventKind) → Some e ≡ None → ⊥
      nothing e h = grind (arith, h)

  pub past-falls : (w : ℕ) → length ms ≤ w → Falls ms ranks w
  past-falls w le i = past-falls-at w i (let none = ap length (no-kinds w le) in omega (arith, none))

  pub numbering-so : (b : Bool) → ((w : ℕ) → Rises ms ranks w) → IsTrue b ↔ ((w : ℕ) → Falls ms ranks w) → IsTrue b ↔ IsNumbering (crew_of ms) (rank_in ms ranks)
  numbering-so b rises both = (λ h. numbered rises (both.0 h), λ is. both.1 (numbering-falls is))

  -- ---- the ends of named workers

  abbrev pub NameFalls : ℕ → Option ℕ → Type 0
  NameFalls least name = (u : ℕ) → name ≡ Some u → LastFalls ms ranks u least

  pub names-fall : (least : ℕ) (names : List (Option ℕ)) (b : Bool) → IsTrue b ↔ All (NameFalls least) names → IsTrue b ↔ ((u : ℕ) → Contains (workers_in names) u → LastFalls ms ranks u least)
  names-fall least names b both = (λ h. from names (both.0 h), λ falls. both.1 (back names falls))
    where
      from : (names : List (Option ℕ)) → All (NameFalls least) names → (u : ℕ) → Contains (workers_in names) u → LastFalls ms ranks u least
      from [] all u (k, lt, same) = absurd (omega (arith, lt))
      from (None ∷ names) all u there = from names (λ i d lt. all (suc i) d (omega (arith, lt))) u there
      from (Some n ∷ names) all u (zero, lt, same) = subst (λ x. LastFalls ms ranks x least) same (all 0 (Some n) (omega arith) n refl)
      from (Some n ∷ names) all u (suc k, lt, same) = from names (λ i d lt. all (suc i) d (omega (arith, lt))) u (k, omega (arith, lt), same)

      some-one : (n u : ℕ) → Some n ≡ Some u → n ≡ u
      some-one n u e = grind (arith, e)

      nothing : (u : ℕ) → None ≡ Some u → ⊥
      nothing u e = grind (arith, e)

      back : (names : List (Option ℕ)) → ((u : ℕ) → Contains (workers_in names) u → LastFalls ms ranks u least) → All (NameFalls least) names
      back [] falls i d lt = absurd (omega (arith, lt))
      back (None ∷ names) falls zero d lt = λ u e. absurd (nothing u e)
      back (None ∷ names) falls (suc i) d lt = back names falls i d (omega (arith, lt))
      back (Some n ∷ names) falls zero d lt = λ u e. falls u (0, omega arith, some-one n u e)
      back (Some n ∷ names) falls (suc i) d lt = back names (λ u there. falls u (suc there.0, (let less = there.1 in omega (arith, less)), there.2)) i d (omega (arith, lt))

  -- ---- an event by its number

  module _ (w i : ℕ) (b : Bool) (kind : EventKind) where
    pub event-falls : slice_get (kinds_of ms w) i ≡ Some kind → IsTrue b ↔ FallsBelow ms ranks w i kind (rank_in ms ranks w i) → IsTrue b ↔ FallsAt ms ranks w i
    event-falls there both = (
      λ h e at. subst (λ k. FallsBelow ms ranks w i k (rank_in ms ranks w i)) (one kind e (sym there ∙ at)) (both.0 h),
      λ falls. both.1 (falls kind there),
    )
      where
        one : (k e : EventKind) → Some k ≡ Some e → k ≡ e
        one k e h = grind (arith, h)

  pub no-event-falls : (w i : ℕ) → slice_get (kinds_of ms w) i ≡ None → FallsAt ms ranks w i
  no-event-falls w i none e at = absurd (nothing e (sym at ∙ none))
    where
      nothing : (e : EventKind) → Some e ≡ None → ⊥
      nothing e h = grind (arith, h)
