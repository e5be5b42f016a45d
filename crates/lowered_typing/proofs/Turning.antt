-- Units one behind another: what is made for each is typed in all that is made.
use Rattle.std.proofs.Common.{◌≡◌, ◌∙◌, ◌≤◌, ◌<◌, ◌+◌, ◌++◌, ℕ, zero, suc, List, [], ◌∷◌, Option, Some, None, length, refl, sym, subst, ap, arith, length-append, replicate}
use Rattle.std.proofs.lemmas.List.{append-nil, append_assoc}
use Rattle.std.specs.Prelude.{IsSomeAnd, slice_get}
use Rattle.type_model.specs.declared.atoms.AtomDef.{AtomDef}
use Rattle.operations.specs.Rows.{AreBelow, Surroundings}
use Rattle.typed_tree.specs.declared.package.TypedPackage.{TypedPackage}
use Rattle.eval_model.specs.Expressions.{nil_type}
use Rattle.stack_code.specs.Commands.{Command}
use Rattle.lower_model.specs.Making.{Making, unit_made, units_made, unmade}
use Rattle.tree_promises.specs.Placed.{Placed, surroundings}
use Rattle.tree_promises.specs.Types.{Stack}
use Rattle.typed_making.specs.Mapped.{AreTyped, IsTyped, Mapped, More, at_or}
use Rattle.typed_making.proofs.Mapping.{all-long, all-more}
use Rattle.map_model.specs.Maps.{unit_maps}
use Rattle.map_model.specs.Marked.{Marked}
use Rattle.map_model.specs.Points.{PlainTypes}
use Rattle.map_model.proofs.Bodies.{units-are-mapped}
use Rattle.lowered_typing.specs.Laws.{UnitsAreTypedInTurn, bodies_in}
use Rattle.lowered_typing.specs.Typed.{AreTypedIn, AreWritten, IsTypedIn, IsWritten, NamesFrom, stack_in, stacks_of}
use Rattle.lowered_typing.proofs.Naming.{many-wants, names-from}

-- ---- lists

get-behind : {X : Type 0} (xs ys : List X) (k : ℕ) → slice_get (xs ++ ys) (length xs + k) ≡ slice_get ys k
get-behind [] ys k = ap (slice_get ys) (let q : 0 + k ≡ k = omega arith in q)
get-behind (x ∷ xs) ys k = ap (slice_get (x ∷ (xs ++ ys))) (let q : length (x ∷ xs) + k ≡ suc (length xs + k) = omega arith in q) ∙ get-behind xs ys k

append-same : {X : Type 0} (xs ys zs : List X) → xs ++ ys ≡ xs ++ zs → ys ≡ zs
append-same [] ys zs e = e
append-same (x ∷ xs) ys zs e = append-same xs ys zs (tail e)
  where
    tail : x ∷ (xs ++ ys) ≡ x ∷ (xs ++ zs) → xs ++ ys ≡ xs ++ zs
    tail e = cc

-- both hold of what stands there
both-at : {X : Type 0} (P Q : X → Type 0) (o : Option X) → IsSomeAnd o P → ((x : X) → P x → Q x) → IsSomeAnd o (λ x. P x × Q x)
both-at P Q (Some x) h f = (h, f x h)
both-at P Q None h f = absurd h

module _ (env : List AtomDef) (place : Surroundings) where
  typed-at : (wants : List Stack) (cs : List Command) (ss : List Stack) (end : Stack) (k : ℕ) → AreTyped env place wants cs ss end → k < length ss → IsSomeAnd (slice_get cs k) (λ c. IsTyped env place wants c (at_or ss end k) (at_or ss end (suc k)))
  typed-at wants [] [] end k h lt = absurd (omega (arith, lt))
  typed-at wants [] (s ∷ ss) end k h lt = absurd h
  typed-at wants (c ∷ cs) [] end k h lt = absurd h
  typed-at wants (c ∷ cs) (s ∷ ss) end zero h lt = h.0
  typed-at wants (c ∷ cs) (s ∷ ss) end (suc k) h lt = typed-at wants cs ss end k h.1 (omega (arith, lt))

  -- of the same commands by the same types, where older labels are to have others
  named-at : (n : ℕ) (a b : List Stack) (cs : List Command) (ss : List Stack) (end : Stack) (k : ℕ) → More (replicate n []) a → More (replicate n (nil_type ∷ [])) b
      → AreTyped env place a cs ss end → AreTyped env place b cs ss end → k < length ss → IsSomeAnd (slice_get cs k) (NamesFrom n)
  named-at n a b [] [] end k ga gb h i lt = absurd (omega (arith, lt))
  named-at n a b [] (s ∷ ss) end k ga gb h i lt = absurd h
  named-at n a b (c ∷ cs) [] end k ga gb h i lt = absurd h
  named-at n a b (c ∷ cs) (s ∷ ss) end zero ga gb h i lt = names-from env place n s (at_or ss end 0) a b ga gb c h.0 i.0
  named-at n a b (c ∷ cs) (s ∷ ss) end (suc k) ga gb h i lt = named-at n a b cs ss end k ga gb h.1 i.1 (omega (arith, lt))

-- ---- one unit, and all of them

-- all that was made behind a making stands in another one
pub record Row (m n : Making) (old wants : List Stack) : Type 0 where
  pub news : List Command
  pub steps : n.steps ≡ m.steps ++ news
  pub grown : More old wants
  pub many : length n.labels ≡ length wants
  pub fewer : length m.labels ≤ length n.labels
  pub keeps : (l : ℕ) → l < length m.labels → slice_get n.labels l ≡ slice_get m.labels l

both-in : {X : Type 0} (P Q : X → Type 0) (o : Option X) → IsSomeAnd o P → IsSomeAnd o Q → IsSomeAnd o (λ x. P x × Q x)
both-in P Q (Some x) h i = (h, i)
both-in P Q None h i = absurd h

module _ (plain : PlainTypes) (env : List AtomDef) (p : TypedPackage) where
  module _ (u : Placed) (is : IsWritten plain env p u) (m : Making) where
    abbrev place : Surroundings
    place = surroundings p u

    abbrev made : Making
    made = unit_made u.tree.body m

    abbrev Laid : List Stack → List Stack → Type 0
    Laid old wants = Marked env place m made old wants (unit_maps plain place u.tree.body) [] []

    laid : (old : List Stack) → length m.labels ≡ length old → (wants : List Stack) × Laid old wants
    laid old many = units-are-mapped plain env place u.tree.body is m old many tt

    -- the maps and the commands are the same, whatever older labels are to have
    typed-by : (old wants : List Stack) (a : Laid old wants) (news : List Command) → made.steps ≡ m.steps ++ news → AreTyped env place wants news (stacks_of plain env p u) []
    typed-by old wants a news steps =
        subst (λ ss. AreTyped env place wants news ss []) (sym (a.are []))
        (subst (λ cs. AreTyped env place wants cs a.typed.stacks []) (append-same m.steps a.typed.news news (sym a.typed.steps ∙ steps)) a.typed.typed)

    names : (news : List Command) → made.steps ≡ m.steps ++ news → (k : ℕ) → k < length (stacks_of plain env p u) → IsSomeAnd (slice_get news k) (NamesFrom (length m.labels))
    names news steps k lt =
        let n = length m.labels in
        let (wa, a) = laid (replicate n []) (sym (many-wants n [])) in
        let (wb, b) = laid (replicate n (nil_type ∷ [])) (sym (many-wants n (nil_type ∷ []))) in
        named-at env place n wa wb news (stacks_of plain env p u) [] k a.typed.grown b.typed.grown (typed-by (replicate n []) wa a news steps) (typed-by (replicate n (nil_type ∷ [])) wb b news steps) lt

    pub typed-in : (old mid wants : List Stack) (n : Making) → Laid old mid → Row made n mid wants → IsTypedIn plain env p u m n wants
    typed-in old mid wants n a r =
        record {
          count = ap length a.typed.steps ∙ length-append m.steps a.typed.news ∙ ap (λ k. length m.steps + k) long;
          steps = λ k lt.
              subst (λ o. IsSomeAnd o (λ c. IsTyped env place wants c (stack_in plain env p u k) (stack_in plain env p u (suc k)) × NamesFrom (length m.labels) c)) (sym (stands k lt))
              (both-in (λ c. IsTyped env place wants c (stack_in plain env p u k) (stack_in plain env p u (suc k))) (NamesFrom (length m.labels)) (slice_get a.typed.news k)
              (typed-at env place wants a.typed.news (stacks_of plain env p u) [] k (all-more env place mid wants a.typed.news (stacks_of plain env p u) [] r.grown (typed-by old mid a a.typed.news a.typed.steps)) lt)
              (names a.typed.news a.typed.steps k lt));
          lands = λ l to le lt e.
              let (k, at, few, (want, w, below)) = a.typed.lands l to le (sym (r.keeps l lt) ∙ e) in
              (k, at, omega (arith, few, ap length (a.are [])), (want, r.grown l want w, subst (λ ss. AreBelow env want (at_or ss [] k)) (sym (a.are [])) below));
        }
      where
        long : length a.typed.news ≡ length (stacks_of plain env p u)
        long = all-long env place mid a.typed.news a.typed.stacks [] a.typed.typed ∙ sym (ap length (a.are []))

        stands : (k : ℕ) → k < length (stacks_of plain env p u) → slice_get n.steps (length m.steps + k) ≡ slice_get a.typed.news k
        stands k lt =
            ap (λ cs. slice_get cs (length m.steps + k)) (r.steps ∙ ap (λ cs. cs ++ r.news) a.typed.steps ∙ append_assoc m.steps a.typed.news r.news)
            ∙ get-behind m.steps (a.typed.news ++ r.news) k ∙ front a.typed.news r.news k (omega (arith, lt, long))
          where
            front : (xs ys : List Command) (k : ℕ) → k < length xs → slice_get (xs ++ ys) k ≡ slice_get xs k
            front [] ys k lt = absurd (omega (arith, lt))
            front (x ∷ xs) ys zero lt = refl
            front (x ∷ xs) ys (suc k) lt = front xs ys k (omega (arith, lt))

  row-then : (m n o : Making) (old mid wants : List Stack) (place : Surroundings) → Mapped env place m n old mid [] [] → Row n o mid wants → Row m o old wants
  row-then m n o old mid wants place a r =
      record {
        news = a.news ++ r.news;
        steps = r.steps ∙ ap (λ cs. cs ++ r.news) a.steps ∙ append_assoc m.steps a.news r.news;
        grown = λ l w e. r.grown l w (a.grown l w e);
        many = r.many;
        fewer = omega (arith, a.fewer, r.fewer);
        keeps = λ l lt. r.keeps l (omega (arith, lt, a.fewer)) ∙ a.keeps l lt;
      }

  in-turn : (us : List Placed) → AreWritten plain env p us → (m : Making) (old : List Stack) → length m.labels ≡ length old
      → (wants : List Stack) × Row m (units_made (bodies_in us) m) old wants × AreTypedIn plain env p us m (units_made (bodies_in us) m) wants
  in-turn [] is m old many =
      (old, record { news = []; steps = sym (append-nil m.steps); grown = λ l w e. e; many = many; fewer = omega arith; keeps = λ l lt. refl }, tt)
  in-turn (u ∷ us) is m old many =
      let (mid, a) = laid u is.0 m old many in
      let (wants, r, rest) = in-turn us is.1 (unit_made u.tree.body m) mid a.typed.many in (
        wants,
        row-then m (unit_made u.tree.body m) (units_made (bodies_in us) (unit_made u.tree.body m)) old mid wants (surroundings p u) a.typed r,
        (typed-in u is.0 m old mid wants (units_made (bodies_in us) (unit_made u.tree.body m)) a r, rest),
      )

pub units-are-typed-in-turn : UnitsAreTypedInTurn
units-are-typed-in-turn plain env p us is = let (wants, r, typed) = in-turn plain env p us is unmade [] refl in (wants, r.many, typed)
