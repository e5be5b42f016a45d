-- Members of two structures side by side.
use Rattle.std.proofs.Common.{◌≡◌, ◌∙◌, ◌⊎◌, ⊎_elim, inl, inr, ◌&&◌, ◌++◌, ◌+◌, ◌<◌, ◌≤◌, ℕ, zero, suc, Bool, true, false, List, [], ◌∷◌, Option, Some, None, All, length, get_or, take, refl, sym, subst, ap, arith}
use Rattle.std.specs.Prelude.{⊤, is_some, option_and_then, option_map, slice_get, if◌then◌else◌}
use Rattle.std.specs.Cmp.Lexicographic.{bytes_decides}
use Rattle.std.proofs.lemmas.Bool.{false≢true}
use Rattle.std.proofs.lemmas.List.{append-nil, take_all, take_more}
use Rattle.std.proofs.lemmas.List.Elements.{All-nil, All-push, All-weaker, Contains-append_left, Contains-push}
use Rattle.std.proofs.lemmas.Option.{slice_get-map, slice_get_past}
use Rattle.bal_base.specs.declared.text.Text.{Text}
use Rattle.type_model.specs.Places.{is_same_text}
use Rattle.value_model.specs.declared.value.Value.{Value}
use Rattle.value_model.specs.declared.value.Value.TheVariants.{Struct}
use Rattle.value_model.specs.Heap.{Entries, Items, Members, entry_at}
use Rattle.op_model.specs.Equality.{Step, ToPlace, ToKey, face_of, member_at}
use Rattle.plain_run.specs.declared.held.Heap.{Heap}
use Rattle.plain_run.specs.declared.held.Structure.{Structure}
use Rattle.plain_run.specs.Held.{heap_of, members_of, structure_of}
use Rattle.plain_equality.specs.Pairs.{AreMemberPairs, AreSides, AreStructurePairs, both_of, have_keys, member_in}
use Rattle.plain_equality.proofs.Faces.{past-faces}

abbrev IsMemberPair : Members → Members → Value × Value → Type 0
IsMemberPair first second p = (step : Step) × (member_in step first ≡ Some p.0) × (member_in step second ≡ Some p.1)

-- the steps of which this holds are done
abbrev pub IsPaired : (Step → Type 0) → Members → Members → List (Value × Value) → Type 0
IsPaired Done first second pairs =
    ((step : Step) → Done step → AreSides pairs (member_in step first) (member_in step second)) × All (IsMemberPair first second) pairs

sides-more : (pairs more : List (Value × Value)) (a b : Option Value) → AreSides pairs a b → AreSides (pairs ++ more) a b
sides-more pairs more (Some v) (Some w) c = Contains-append_left pairs more (v, w) c
sides-more pairs more (Some v) None c = c
sides-more pairs more None (Some w) c = c
sides-more pairs more None None c = c

sides-both : (pairs : List (Value × Value)) (a b : Option Value) → is_some a ≡ is_some b → AreSides (pairs ++ both_of a b) a b
sides-both pairs (Some v) (Some w) e = Contains-push pairs (v, w)
sides-both pairs (Some v) None e = absurd (false≢true (sym e))
sides-both pairs None (Some w) e = absurd (false≢true e)
sides-both pairs None None e = tt

module _ (first second : Members) where
  all-both : (pairs : List (Value × Value)) (step : Step) (a b : Option Value) → member_in step first ≡ a → member_in step second ≡ b → All (IsMemberPair first second) pairs → All (IsMemberPair first second) (pairs ++ both_of a b)
  all-both pairs step (Some v) (Some w) e f all = All-push (IsMemberPair first second) pairs (v, w) all (step, e, f)
  all-both pairs step (Some v) None e f all = subst (All (IsMemberPair first second)) (sym (append-nil pairs)) all
  all-both pairs step None (Some w) e f all = subst (All (IsMemberPair first second)) (sym (append-nil pairs)) all
  all-both pairs step None None e f all = subst (All (IsMemberPair first second)) (sym (append-nil pairs)) all

  -- one step more
  paired-more : (Old New : Step → Type 0) (pairs : List (Value × Value)) (step : Step) → ((s : Step) → New s → Old s ⊎ (s ≡ step)) → is_some (member_in step first) ≡ is_some (member_in step second) → IsPaired Old first second pairs → IsPaired New first second (pairs ++ both_of (member_in step first) (member_in step second))
  paired-more Old New pairs step cases e (done, all) = (
    λ s new. ⊎_elim
        (λ (o : Old s). sides-more pairs (both_of (member_in step first) (member_in step second)) (member_in s first) (member_in s second) (done s o))
        (λ (is : s ≡ step). subst (λ t. AreSides (pairs ++ both_of (member_in step first) (member_in step second)) (member_in t first) (member_in t second)) (sym is) (sides-both pairs (member_in step first) (member_in step second) e))
        (cases s new),
    all-both pairs step (member_in step first) (member_in step second) refl refl all,
  )

-- ---- lists

abbrev pub IsPlaceDone : ℕ → Step → Type 0
IsPlaceDone i (ToPlace k) = k < i
IsPlaceDone i (ToKey key) = ⊤

module _ (vs ws : List Value) where
  keys-nothing : (i : ℕ) (pairs : List (Value × Value)) (key : Text) → AreSides pairs (member_in (ToKey key) (Items vs)) (member_in (ToKey key) (Items ws))
  keys-nothing i pairs key = tt

  pub places-none : IsPaired (IsPlaceDone 0) (Items vs) (Items ws) []
  places-none = (none, All-nil (IsMemberPair (Items vs) (Items ws)))
    where
      none : (step : Step) → IsPlaceDone 0 step → AreSides [] (member_in step (Items vs)) (member_in step (Items ws))
      none (ToPlace k) lt = absurd (omega (arith, lt))
      none (ToKey key) t = tt

  pub places-more : (i : ℕ) (v w : Value) (pairs : List (Value × Value)) → slice_get vs i ≡ Some v → slice_get ws i ≡ Some w → IsPaired (IsPlaceDone i) (Items vs) (Items ws) pairs → IsPaired (IsPlaceDone (i + 1)) (Items vs) (Items ws) (pairs ++ (v, w) ∷ [])
  places-more i v w pairs e f (done, all) = (sides, All-push (IsMemberPair (Items vs) (Items ws)) pairs (v, w) all (ToPlace i, e, f))
    where
      last : (k : ℕ) → k < i + 1 → (k < i) ⊎ (k ≡ i)
      last k lt = grind (arith, lt)

      both : (k : ℕ) → k ≡ i → AreSides (pairs ++ (v, w) ∷ []) (slice_get vs k) (slice_get ws k)
      both k is =
          let a : Some v ≡ slice_get vs k = sym e ∙ ap (slice_get vs) (sym is) in
          let b : Some w ≡ slice_get ws k = sym f ∙ ap (slice_get ws) (sym is) in
          subst (λ x. AreSides (pairs ++ (v, w) ∷ []) x (slice_get ws k)) a (subst (AreSides (pairs ++ (v, w) ∷ []) (Some v)) b (Contains-push pairs (v, w)))

      sides : (step : Step) → IsPlaceDone (i + 1) step → AreSides (pairs ++ (v, w) ∷ []) (member_in step (Items vs)) (member_in step (Items ws))
      sides (ToPlace k) lt = ⊎_elim (λ (l : k < i). sides-more pairs ((v, w) ∷ []) (slice_get vs k) (slice_get ws k) (done (ToPlace k) l)) (λ (is : k ≡ i). both k is) (last k lt)
      sides (ToKey key) t = tt

  pub places-all : (i : ℕ) (pairs : List (Value × Value)) → length vs ≡ length ws → length vs ≤ i → IsPaired (IsPlaceDone i) (Items vs) (Items ws) pairs → AreMemberPairs (Items vs) (Items ws) (Some pairs)
  places-all i pairs same le (done, all) = (sides, all)
    where
      cases : (k : ℕ) → (k < i) ⊎ (length vs ≤ k)
      cases k = grind (arith, le)

      past : (k : ℕ) → length vs ≤ k → AreSides pairs (slice_get vs k) (slice_get ws k)
      past k l =
          let m : length ws ≤ k = omega (arith, l, same) in
          subst (λ x. AreSides pairs x (slice_get ws k)) (sym (slice_get_past vs k l)) (subst (AreSides pairs None) (sym (slice_get_past ws k m)) tt)

      sides : (step : Step) → AreSides pairs (member_in step (Items vs)) (member_in step (Items ws))
      sides (ToPlace k) = ⊎_elim (λ (l : k < i). done (ToPlace k) l) (λ (l : length vs ≤ k). past k l) (cases k)
      sides (ToKey key) = tt

  -- not as many
  there : (xs : List Value) (k : ℕ) → k < length xs → is_some (slice_get xs k) ≡ true
  there [] k l = absurd (omega (arith, l))
  there (x ∷ xs) zero l = refl
  there (x ∷ xs) (suc k) l = let m : k < length xs = omega (arith, l) in there xs k m

  pub places-apart : ¬ (length vs ≡ length ws) → AreMemberPairs (Items vs) (Items ws) None
  places-apart apart = ⊎_elim
      (λ (l : length vs < length ws). let m : length vs ≤ length vs = omega arith in (ToPlace (length vs), λ e. false≢true (sym (ap is_some (slice_get_past vs (length vs) m)) ∙ (e ∙ there ws (length vs) l))))
      (λ (l : length ws < length vs). let m : length ws ≤ length ws = omega arith in (ToPlace (length ws), λ e. false≢true (sym (ap is_some (slice_get_past ws (length ws) m)) ∙ (sym e ∙ there vs (length ws) l))))
      (order apart)
    where
      order : ¬ (length vs ≡ length ws) → (length vs < length ws) ⊎ (length ws < length vs)
      order n = grind (arith, n)

-- ---- mappings

abbrev pub IsKeyDone : List (Text × Value) → ℕ → Step → Type 0
IsKeyDone es i (ToPlace k) = ⊤
IsKeyDone es i (ToKey key) = is_some (entry_at (take i es) key) ≡ true

push-cases : (xs : List (Text × Value)) (e : Text × Value) (key : Text) → is_some (entry_at (xs ++ e ∷ []) key) ≡ true → (is_some (entry_at xs key) ≡ true) ⊎ (e.0 ≡ key)
push-cases [] e key = by (is_same_text e.0 key) refl
  where
    by : (b : Bool) → is_same_text e.0 key ≡ b → is_some (if b then Some e.1 else None) ≡ true → (false ≡ true) ⊎ (e.0 ≡ key)
    by true is h = inr ((bytes_decides e.0 key).0 is)
    by false is h = absurd (false≢true h)
push-cases (x ∷ xs) e key = by (is_same_text x.0 key) (push-cases xs e key)
  where
    by : (b : Bool) → (is_some (entry_at (xs ++ e ∷ []) key) ≡ true → (is_some (entry_at xs key) ≡ true) ⊎ (e.0 ≡ key)) → is_some (if b then Some x.1 else entry_at (xs ++ e ∷ []) key) ≡ true → (is_some (if b then Some x.1 else entry_at xs key) ≡ true) ⊎ (e.0 ≡ key)
    by true behind h = inl refl
    by false behind h = behind h

keys-kept : (ds es : List (Text × Value)) → have_keys es ds ≡ true → (key : Text) → is_some (entry_at es key) ≡ true → is_some (entry_at ds key) ≡ true
keys-kept ds [] all key h = absurd (false≢true h)
keys-kept ds (e ∷ es) all key h = by (is_some (entry_at ds e.0)) refl all (is_same_text e.0 key) refl h (λ a b. keys-kept ds es a key b)
  where
    by : (b : Bool) → is_some (entry_at ds e.0) ≡ b → (b && have_keys es ds) ≡ true → (c : Bool) → is_same_text e.0 key ≡ c → is_some (if c then Some e.1 else entry_at es key) ≡ true → (have_keys es ds ≡ true → is_some (entry_at es key) ≡ true → is_some (entry_at ds key) ≡ true) → is_some (entry_at ds key) ≡ true
    by true is all true same h behind = subst (λ k. is_some (entry_at ds k) ≡ true) ((bytes_decides e.0 key).0 same) is
    by true is all false same h behind = behind all h
    by false is all c same h behind = absurd (false≢true all)

keys-lost : (ds es : List (Text × Value)) → have_keys es ds ≡ false → (key : Text) × (is_some (entry_at es key) ≡ true) × (is_some (entry_at ds key) ≡ false)
keys-lost ds [] none = absurd (false≢true (sym none))
keys-lost ds (e ∷ es) none = by (is_some (entry_at ds e.0)) refl none (λ a. keys-lost ds es a)
  where
    here : is_some (entry_at (e ∷ es) e.0) ≡ true
    here = ap (λ b. is_some (if b then Some e.1 else entry_at es e.0)) ((bytes_decides e.0 e.0).1 refl)

    there : (key : Text) (b : Bool) → is_some (entry_at es key) ≡ true → is_some (if b then Some e.1 else entry_at es key) ≡ true
    there key true h = refl
    there key false h = h

    by : (b : Bool) → is_some (entry_at ds e.0) ≡ b → (b && have_keys es ds) ≡ false → (have_keys es ds ≡ false → (key : Text) × (is_some (entry_at es key) ≡ true) × (is_some (entry_at ds key) ≡ false)) → (key : Text) × (is_some (entry_at (e ∷ es) key) ≡ true) × (is_some (entry_at ds key) ≡ false)
    by true is none behind = let (key, h, n) = behind none in (key, there key (is_same_text e.0 key) h, n)
    by false is none behind = (e.0, here, is)

same_bool : (a b : Bool) → (a ≡ true → b ≡ true) → (b ≡ true → a ≡ true) → a ≡ b
same_bool true true f g = refl
same_bool true false f g = sym (f refl)
same_bool false true f g = g refl
same_bool false false f g = refl

module _ (es ds : List (Text × Value)) where
  pub keys-apart : have_keys es ds ≡ false → AreMemberPairs (Entries es) (Entries ds) None
  keys-apart none = let (key, h, n) = keys-lost ds es none in (ToKey key, λ e. false≢true (sym n ∙ (sym e ∙ h)))

  pub keys-apart-behind : have_keys ds es ≡ false → AreMemberPairs (Entries es) (Entries ds) None
  keys-apart-behind none = let (key, h, n) = keys-lost es ds none in (ToKey key, λ e. false≢true (sym n ∙ (e ∙ h)))

  pub keys-none : IsPaired (IsKeyDone es 0) (Entries es) (Entries ds) []
  keys-none = (none, All-nil (IsMemberPair (Entries es) (Entries ds)))
    where
      none : (step : Step) → IsKeyDone es 0 step → AreSides [] (member_in step (Entries es)) (member_in step (Entries ds))
      none (ToPlace k) t = tt
      none (ToKey key) h = absurd (false≢true h)

  module _ (one : have_keys es ds ≡ true) (other : have_keys ds es ≡ true) where
    same-keys : (key : Text) → is_some (entry_at es key) ≡ is_some (entry_at ds key)
    same-keys key = same_bool (is_some (entry_at es key)) (is_some (entry_at ds key)) (keys-kept ds es one key) (keys-kept es ds other key)

    pub keys-more : (i : ℕ) (e : Text × Value) (pairs : List (Value × Value)) → i < length es → e ≡ get_or es i e → IsPaired (IsKeyDone es i) (Entries es) (Entries ds) pairs → IsPaired (IsKeyDone es (i + 1)) (Entries es) (Entries ds) (pairs ++ both_of (entry_at es e.0) (entry_at ds e.0))
    keys-more i e pairs lt is k = paired-more (Entries es) (Entries ds) (IsKeyDone es i) (IsKeyDone es (i + 1)) pairs (ToKey e.0) cases (same-keys e.0) k
      where
        more : take (i + 1) es ≡ take i es ++ e ∷ []
        more = take_more es i e lt ∙ ap (λ x. take i es ++ x ∷ []) (sym is)

        cases : (s : Step) → IsKeyDone es (i + 1) s → IsKeyDone es i s ⊎ (s ≡ ToKey e.0)
        cases (ToPlace k) t = inl tt
        cases (ToKey key) h = ⊎_elim (λ (o : is_some (entry_at (take i es) key) ≡ true). inl o) (λ (o : e.0 ≡ key). inr (ap ToKey (sym o))) (push-cases (take i es) e key (subst (λ l. is_some (entry_at l key) ≡ true) more h))

    pub keys-all : (i : ℕ) (pairs : List (Value × Value)) → length es ≤ i → IsPaired (IsKeyDone es i) (Entries es) (Entries ds) pairs → AreMemberPairs (Entries es) (Entries ds) (Some pairs)
    keys-all i pairs le (done, all) = (sides, all)
      where
        by : (x y : Option Value) → is_some x ≡ is_some y → (is_some x ≡ true → AreSides pairs x y) → AreSides pairs x y
        by (Some v) y e f = f refl
        by None (Some w) e f = absurd (false≢true e)
        by None None e f = tt

        sides : (step : Step) → AreSides pairs (member_in step (Entries es)) (member_in step (Entries ds))
        sides (ToPlace k) = tt
        sides (ToKey key) = by (entry_at es key) (entry_at ds key) (same-keys key) (λ h. done (ToKey key) (subst (λ l. is_some (entry_at l key) ≡ true) (sym (take_all i es le)) h))

-- ---- structures

member-held : (h : Heap) (n : ℕ) (step : Step) (o : Option Structure) → slice_get h.structures n ≡ o → member_at (heap_of h) step (Struct n) ≡ option_and_then (λ s. member_in step s.members) (option_map structure_of o)
member-held h n step o e = ap (option_and_then (λ s. member_in step s.members)) (slice_get-map structure_of h.structures n ∙ ap (option_map structure_of) e)

module _ (h : Heap) (n m : ℕ) where
  pub structures-there : (s t : Structure) (o : Option (List (Value × Value))) → slice_get h.structures n ≡ Some s → slice_get h.structures m ≡ Some t → AreMemberPairs (members_of s.members) (members_of t.members) o → AreStructurePairs (heap_of h) n m o
  structures-there s t (Some pairs) e f (sides, all) = (
    λ step. subst (λ x. AreSides pairs x (member_at (heap_of h) step (Struct m))) (sym (member-held h n step (Some s) e)) (subst (λ y. AreSides pairs (member_in step (members_of s.members)) y) (sym (member-held h m step (Some t) f)) (sides step)),
    All-weaker (IsMemberPair (members_of s.members) (members_of t.members)) (λ p. (step : Step) × (member_at (heap_of h) step (Struct n) ≡ Some p.0) × (member_at (heap_of h) step (Struct m) ≡ Some p.1)) (λ p (step, a, b). (step, member-held h n step (Some s) e ∙ a, member-held h m step (Some t) f ∙ b)) pairs all,
  )
  structures-there s t None e f (step, apart) = (step, λ i. apart (sym (ap is_some (member-held h n step (Some s) e)) ∙ (i ∙ ap is_some (member-held h m step (Some t) f))))

  pub structures-past : slice_get h.structures n ≡ None → face_of (heap_of h) (Struct n) ≡ face_of (heap_of h) (Struct m) → AreStructurePairs (heap_of h) n m (Some [])
  structures-past e face =
      let f = past-faces h n m e face in (
        λ step. subst (λ x. AreSides [] x (member_at (heap_of h) step (Struct m))) (sym (member-held h n step None e)) (subst (λ y. AreSides [] None y) (sym (member-held h m step None f)) tt),
        All-nil (λ p. (step : Step) × (member_at (heap_of h) step (Struct n) ≡ Some p.0) × (member_at (heap_of h) step (Struct m) ≡ Some p.1)),
      )

pub ruleset side_by_side = (places-none, places-apart, keys-apart, keys-apart-behind, keys-none, structures-there, structures-past)
