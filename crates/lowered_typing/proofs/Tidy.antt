-- Pieces of code in the making whose jumps and traps lead where they should, one behind another.
use Rattle.std.proofs.Common.{◌≡◌, ◌≢◌, ◌∙◌, ◌≤◌, ◌<◌, ◌+◌, ◌++◌, ◌⊎◌, ℕ, zero, suc, List, [], ◌∷◌, Option, Some, None, inl, inr, length, refl, sym, subst, ap, arith, length-append}
use Rattle.std.proofs.lemmas.Bool.{cases_lt}
use Rattle.std.proofs.lemmas.List.{append-nil, append_assoc}
use Rattle.std.specs.Prelude.{slice_get, slice_set}
use Rattle.operations.specs.declared.operation.Operation.TheVariants.{Tick}
use Rattle.stack_code.specs.Commands.{Command, Do}
use Rattle.lower_model.specs.Making.{Making, add, bind, fresh}
use Rattle.lower_model.proofs.Laying.{get-front}
use Rattle.typed_making.proofs.Mapping.{no-label, no-place, same-front, same-or-not, set-long, set-other, set-there}
use Rattle.lowered_typing.proofs.Nesting.{AllName, AreAhead, AreNested, Grown, IsAhead, IsNested, KeepsSteps, Later, Names, Traps, ahead-both, ahead-later, all-names-both, all-names-so, before-behind, before-end, before-front, nested-both, nested-more, traps_before, traps_past}

get-last : {X : Type 0} (xs : List X) (x : X) → slice_get (xs ++ x ∷ []) (length xs) ≡ Some x
get-last [] x = refl
get-last (y ∷ xs) x = get-last xs x

set-here : (xs : List (Option ℕ)) (l p : ℕ) → l < length xs → slice_get (slice_set xs l (Some p)) l ≡ Some (Some p)
set-here [] l p lt = absurd (omega (arith, lt))
set-here (x ∷ xs) zero p lt = refl
set-here (x ∷ xs) (suc l) p lt = set-here xs l p (omega (arith, lt))

-- no label
abbrev pub none : ℕ → Type 0
none l = ⊥

abbrev pub just : ℕ → ℕ → Type 0
just n l = l ≡ n

-- a label that comes behind those that are there, or one of ctx
abbrev pub OwnOr : (ℕ → Type 0) → Making → ℕ → Type 0
OwnOr ctx m l = (length m.labels ≤ l) ⊎ ctx l

-- the labels, where this one is the place behind the last command
abbrev bound_labels : Making → ℕ → List (Option ℕ)
bound_labels n l = slice_set n.labels l (Some (length n.steps))

-- where the label may be jumped to: its place, if it has one, has a tick
abbrev pub MayJump : Making → List Traps → Traps → ℕ → Type 0
MayJump m wants ts l = (l < length m.labels) × (slice_get wants l ≡ Some ts) × ((to : ℕ) → slice_get m.labels l ≡ Some (Some to) → slice_get m.steps to ≡ Some (Do Tick))

-- what was added names its own labels and those of ctx; each of its labels has a place but for those that are due
pub record Tidied (ctx due : ℕ → Type 0) (m n : Making) (old wants : List Traps) (p q : Traps) : Type 0 where
  pub news : List Command
  pub steps : n.steps ≡ m.steps ++ news
  pub nested : AreNested wants (length m.steps) news p q
  pub ahead : AreAhead n (length m.steps) news
  pub names : AllName (λ l. (length m.labels ≤ l) ⊎ ctx l) news
  pub grown : Grown old wants
  pub many : length n.labels ≡ length wants
  pub fewer : length m.labels ≤ length n.labels
  pub keeps : (l : ℕ) → l < length m.labels → slice_get n.labels l ≡ slice_get m.labels l
  pub lands : (l to : ℕ) → length m.labels ≤ l → slice_get n.labels l ≡ Some (Some to) →
      (k : ℕ) × (to ≡ length m.steps + k) × (k ≤ length news) × (slice_get wants l ≡ Some (traps_before (length m.steps) news p k))
  pub placed : (l : ℕ) → length m.labels ≤ l → l < length n.labels → ((to : ℕ) × (slice_get n.labels l ≡ Some (Some to))) ⊎ due l

module _ (ctx due : ℕ → Type 0) (m n : Making) (old wants : List Traps) (p q : Traps) (a : Tidied ctx due m n old wants p q) where
  pub long-news : length n.steps ≡ length m.steps + length a.news
  long-news = ap length a.steps ∙ length-append m.steps a.news

  pub keeps-steps : KeepsSteps m n
  keeps-steps at c e = subst (λ cs. slice_get cs at ≡ Some c) (sym a.steps) (get-front m.steps a.news at c e)

  pub later : Later m n
  later l to e = by (cases_lt l (length m.labels))
    where
      by : (l < length m.labels) ⊎ (length m.labels ≤ l) → (slice_get m.labels l ≡ Some (Some to)) ⊎ (length m.steps ≤ to)
      by (inl lt) = inl (sym (a.keeps l lt) ∙ e)
      by (inr ge) = let (k, is, few, want) = a.lands l to ge e in inr (omega (arith, is))

  pub may-later : (ts : Traps) (l : ℕ) → MayJump m old ts l → MayJump n wants ts l
  may-later ts l (lt, want, head) = (omega (arith, lt, a.fewer), a.grown l ts want, λ to e. keeps-steps to (Do Tick) (head to (sym (a.keeps l lt) ∙ e)))

-- ---- one piece behind another

module _ (ctx due ctx' due' rest : ℕ → Type 0) (m n o : Making) (old wants more : List Traps) (p q r : Traps) where
  pub tidied-then : Tidied ctx due m n old wants p q → Tidied ctx' due' n o wants more q r → ((l : ℕ) → ctx' l → (length m.labels ≤ l) ⊎ ctx l) → ((l : ℕ) → due l → rest l) → ((l : ℕ) → due' l → rest l) → Tidied ctx rest m o old more p r
  tidied-then a b inside first second =
      record {
        news = a.news ++ b.news;
        steps = b.steps ∙ ap (λ cs. cs ++ b.news) a.steps ∙ append_assoc m.steps a.news b.news;
        nested = nested-both more (length m.steps) a.news b.news p q r (nested-more wants more b.grown (length m.steps) a.news p q a.nested) (subst (λ s. AreNested more s b.news q r) long b.nested);
        ahead =
            ahead-both o (length m.steps) a.news b.news (ahead-later n o (later ctx' due' n o wants more q r b) (keeps-steps ctx' due' n o wants more q r b) (length m.steps) a.news (omega (arith, long)) a.ahead)
            (subst (λ s. AreAhead o s b.news) long b.ahead);
        names = all-names-both (OwnOr ctx m) a.news b.news a.names (all-names-so (OwnOr ctx' n) (OwnOr ctx m) within b.news b.names);
        grown = λ l w e. b.grown l w (a.grown l w e);
        many = b.many;
        fewer = omega (arith, a.fewer, b.fewer);
        keeps = λ l lt. b.keeps l (omega (arith, lt, a.fewer)) ∙ a.keeps l lt;
        lands = λ l to le e. lands l to le e (cases_lt l (length n.labels));
        placed = λ l le lt. placed l le lt (cases_lt l (length n.labels));
      }
    where
      long : length n.steps ≡ length m.steps + length a.news
      long = long-news ctx due m n old wants p q a

      within : (l : ℕ) → OwnOr ctx' n l → OwnOr ctx m l
      within l (inl ge) = inl (omega (arith, ge, a.fewer))
      within l (inr c) = inside l c

      lands : (l to : ℕ) → length m.labels ≤ l → slice_get o.labels l ≡ Some (Some to) → (l < length n.labels) ⊎ (length n.labels ≤ l) →
          (k : ℕ) × (to ≡ length m.steps + k) × (k ≤ length (a.news ++ b.news)) × (slice_get more l ≡ Some (traps_before (length m.steps) (a.news ++ b.news) p k))
      lands l to le e (inl lt) =
          let (k, is, few, want) = a.lands l to le (sym (b.keeps l lt) ∙ e) in
          (k, is, omega (arith, few, length-append a.news b.news), b.grown l (traps_before (length m.steps) a.news p k) want ∙ ap Some (sym (before-front (length m.steps) a.news b.news p k few)))
      lands l to le e (inr ge) =
          let (k, is, few, want) = b.lands l to ge e in (
            length a.news + k,
            omega (arith, is, long),
            omega (arith, few, length-append a.news b.news),
            want ∙ ap Some (ap (λ s. traps_before s b.news q k) long ∙ sym (before-behind wants (length m.steps) a.news b.news p q k a.nested)),
          )

      placed : (l : ℕ) → length m.labels ≤ l → l < length o.labels → (l < length n.labels) ⊎ (length n.labels ≤ l) → ((to : ℕ) × (slice_get o.labels l ≡ Some (Some to))) ⊎ rest l
      placed l le lt (inl here) = by (a.placed l le here)
        where
          by : ((to : ℕ) × (slice_get n.labels l ≡ Some (Some to))) ⊎ due l → ((to : ℕ) × (slice_get o.labels l ≡ Some (Some to))) ⊎ rest l
          by (inl (to, e)) = inl (to, b.keeps l here ∙ e)
          by (inr d) = inr (first l d)
      placed l le lt (inr ge) = by (b.placed l ge lt)
        where
          by : ((to : ℕ) × (slice_get o.labels l ≡ Some (Some to))) ⊎ due' l → ((to : ℕ) × (slice_get o.labels l ≡ Some (Some to))) ⊎ rest l
          by (inl is) = inl is
          by (inr d) = inr (second l d)

-- ---- one step

-- nothing is added
pub comes : (ctx : ℕ → Type 0) (m : Making) (old : List Traps) (p : Traps) → length m.labels ≡ length old → Tidied ctx none m m old old p p
comes ctx m old p many =
    record {
      news = [];
      steps = sym (append-nil m.steps);
      nested = refl;
      ahead = tt;
      names = tt;
      grown = λ l w e. e;
      many = many;
      fewer = omega arith;
      keeps = λ l lt. refl;
      lands = λ l to le e. absurd (no-label m.labels l to le e);
      placed = λ l le lt. absurd (omega (arith, le, lt));
    }

-- a command, whose label, if it names one, may be jumped to
pub added : (ctx : ℕ → Type 0) (c : Command) (m : Making) (old : List Traps) (p : Traps) → length m.labels ≡ length old → IsNested old c p → Names (IsAhead (add c m) (length m.steps)) c → Names ctx c → Tidied ctx none m (add c m) old old p (traps_past (length m.steps) c p)
added ctx c m old p many nested ahead names =
    record {
      news = c ∷ [];
      steps = refl;
      nested = (nested, refl);
      ahead = (ahead, tt);
      names = all-names-so ctx (λ l. (length m.labels ≤ l) ⊎ ctx l) (λ l h. inr h) (c ∷ []) (names, tt);
      grown = λ l w e. e;
      many = many;
      fewer = omega arith;
      keeps = λ l lt. refl;
      lands = λ l to le e. absurd (no-label m.labels l to le e);
      placed = λ l le lt. absurd (omega (arith, le, lt));
    }

pub ahead-of : (c : Command) (m : Making) (old : List Traps) (p : Traps) (l : ℕ) → MayJump m old p l → IsAhead (add c m) (length m.steps) l
ahead-of c m old p l (lt, want, head) to e = inr (get-front m.steps (c ∷ []) to (Do Tick) (head to e))

-- a label
pub labelled : (ctx : ℕ → Type 0) (want : Traps) (m : Making) (old : List Traps) (p : Traps) → length m.labels ≡ length old → Tidied ctx (just (length m.labels)) m (fresh m) old (old ++ want ∷ []) p p
labelled ctx want m old p many =
    record {
      news = [];
      steps = sym (append-nil m.steps);
      nested = refl;
      ahead = tt;
      names = tt;
      grown = λ l w e. get-front old (want ∷ []) l w e;
      many = omega (arith, length-append m.labels (None ∷ []), length-append old (want ∷ []), many);
      fewer = omega (arith, length-append m.labels (None ∷ []));
      keeps = λ l lt. same-front m.labels (None ∷ []) l lt;
      lands = λ l to le e. absurd (no-place m.labels l to le e);
      placed = λ l le lt. inr (omega (arith, le, lt, length-append m.labels (None ∷ [])));
    }

pub may-fresh : (want : Traps) (m : Making) (old : List Traps) → length m.labels ≡ length old → MayJump (fresh m) (old ++ want ∷ []) want (length m.labels)
may-fresh want m old many = (
  omega (arith, length-append m.labels (None ∷ [])),
  subst (λ l. slice_get (old ++ want ∷ []) l ≡ Some want) (sym many) (get-last old want),
  λ to e. absurd (no-place m.labels (length m.labels) to (omega arith) e),
)

-- a label gets its place behind the last command
module _ (ctx due rest : ℕ → Type 0) (m n : Making) (old wants : List Traps) (p q : Traps) (l : ℕ) where
  pub bound : Tidied ctx due m n old wants p q → length m.labels ≤ l → l < length n.labels → slice_get wants l ≡ Some q → ((i : ℕ) → due i → (i ≡ l) ⊎ rest i) → Tidied ctx rest m (bind l n) old wants p q
  bound a ge there want split =
      record {
        news = a.news;
        steps = a.steps;
        nested = a.nested;
        ahead = ahead-later n (bind l n) (λ i to e. later i to e (same-or-not i l)) (λ s c e. e) (length m.steps) a.news (omega (arith, long)) a.ahead;
        names = a.names;
        grown = a.grown;
        many = set-long n.labels l (Some (length n.steps)) ∙ a.many;
        fewer = omega (arith, a.fewer, set-long n.labels l (Some (length n.steps)));
        keeps = λ i lt. set-other n.labels i l (Some (length n.steps)) (λ e. omega (arith, e, lt, ge)) ∙ a.keeps i lt;
        lands = λ i to le e. lands i to le e (same-or-not i l);
        placed = λ i le lt. placed i le (omega (arith, lt, set-long n.labels l (Some (length n.steps)))) (same-or-not i l);
      }
    where
      long : length n.steps ≡ length m.steps + length a.news
      long = long-news ctx due m n old wants p q a

      here : (i to : ℕ) → i ≡ l → slice_get (bound_labels n l) i ≡ Some (Some to) → length n.steps ≡ to
      here i to is e = set-there n.labels l (length n.steps) to (subst (λ j. slice_get (bound_labels n l) j ≡ Some (Some to)) is e)

      later : (i to : ℕ) → slice_get (bound_labels n l) i ≡ Some (Some to) → (i ≡ l) ⊎ (i ≢ l) → (slice_get n.labels i ≡ Some (Some to)) ⊎ (length n.steps ≤ to)
      later i to e (inl is) = inr (omega (arith, here i to is e))
      later i to e (inr other) = inl (sym (set-other n.labels i l (Some (length n.steps)) other) ∙ e)

      lands : (i to : ℕ) → length m.labels ≤ i → slice_get (bound_labels n l) i ≡ Some (Some to) → (i ≡ l) ⊎ (i ≢ l) →
          (k : ℕ) × (to ≡ length m.steps + k) × (k ≤ length a.news) × (slice_get wants i ≡ Some (traps_before (length m.steps) a.news p k))
      lands i to le e (inl is) = (
        length a.news,
        omega (arith, here i to is e, long),
        omega arith,
        subst (λ j. slice_get wants j ≡ Some q) (sym is) want ∙ ap Some (sym (before-end wants (length m.steps) a.news p q a.nested)),
      )
      lands i to le e (inr other) = a.lands i to le (sym (set-other n.labels i l (Some (length n.steps)) other) ∙ e)

      placed : (i : ℕ) → length m.labels ≤ i → i < length n.labels → (i ≡ l) ⊎ (i ≢ l) → ((to : ℕ) × (slice_get (bound_labels n l) i ≡ Some (Some to))) ⊎ rest i
      placed i le lt (inl is) = inl (length n.steps, subst (λ j. slice_get (bound_labels n l) j ≡ Some (Some (length n.steps))) (sym is) (set-here n.labels l (length n.steps) there))
      placed i le lt (inr other) = by (a.placed i le lt)
        where
          left : (i ≡ l) ⊎ rest i → rest i
          left (inl is) = absurd (other is)
          left (inr r) = r

          by : ((to : ℕ) × (slice_get n.labels i ≡ Some (Some to))) ⊎ due i → ((to : ℕ) × (slice_get (bound_labels n l) i ≡ Some (Some to))) ⊎ rest i
          by (inl (to, e)) = inl (to, set-other n.labels i l (Some (length n.steps)) other ∙ e)
          by (inr d) = inr (left (split i d))

pub may-bind : (m : Making) (wants : List Traps) (ts : Traps) (l i : ℕ) → i ≢ l → MayJump m wants ts i → MayJump (bind l m) wants ts i
may-bind m wants ts l i other (lt, want, head) = (
  omega (arith, lt, set-long m.labels l (Some (length m.steps))),
  want,
  λ to e. head to (sym (set-other m.labels i l (Some (length m.steps)) other) ∙ e),
)

-- a label whose place is here, where a tick comes next
pub at-head : (m : Making) (wants : List Traps) (ts : Traps) (l : ℕ) → MayJump m wants ts l → MayJump (add (Do Tick) (bind l m)) wants ts l
at-head m wants ts l (lt, want, head) = (
  omega (arith, lt, set-long m.labels l (Some (length m.steps))),
  want,
  λ to e. subst (λ q. slice_get (m.steps ++ Do Tick ∷ []) q ≡ Some (Do Tick)) (set-there m.labels l (length m.steps) to e) (get-last m.steps (Do Tick)),
)

-- ---- pieces that leave the traps as they were, whatever was there

abbrev pub TidyBy : (ℕ → Type 0) → (Making → Making) → Type 0
TidyBy ctx F =
    (m : Making) (old : List Traps) (ts : Traps) → length m.labels ≡ length old → ((l : ℕ) → ctx l → MayJump m old ts l) → (wants : List Traps) × Tidied ctx none m (F m) old wants ts ts
