-- One worker more is noted, one function more, and what is known of all units then.
use Rattle.std.proofs.Common.{◌≡◌, ◌≢◌, ◌∙◌, ◌⊎◌, ◌+◌, ◌<◌, ◌++◌, ℕ, zero, suc, List, [], ◌∷◌, Some, None, get_or, length, map, take, refl, sym, subst, ap, arith, inl, inr}
use Rattle.std.specs.Prelude.{◌==◌, slice_get, slice_set}
use Rattle.std.proofs.lemmas.Bool.{cases_Bool, eqb-true, eq-eqb, both_ways}
use Rattle.std.proofs.lemmas.List.{take_more}
use Rattle.typed_tree.specs.declared.package.Initialiser.{Initialiser}
use Rattle.typed_tree.specs.declared.package.TypedPackage.{TypedPackage}
use Rattle.typed_tree.specs.declared.unit.TypedBody.{TypedBody}
use Rattle.typed_tree.specs.declared.unit.TypedBody.TheVariants.{Block, Expr}
use Rattle.typed_tree.specs.declared.unit.TypedFunction.{TypedFunction}
use Rattle.typed_tree.specs.declared.unit.TypedWorker.{TypedWorker}
use Rattle.typed_tree.specs.Listed.{Listed, nothing, one, ◌&◌, joined, members}
use Rattle.typed_tree.specs.Units.{OfAnonymous, OfFunction, OfInitialiser, OfWorker, UnitBody, UnitTree, initial_units, stmts_units}
use Rattle.tree_promises.specs.Placed.{Placed, named_workers, initial_placed, stmts_placed}
use Rattle.unit_crews.specs.Crews.{Crewed, alone, body_crewed, crew_count, function_crewed, initialiser_crewed, worker_crewed}
use Rattle.unit_crews.specs.Noted.{Counts, Each, HasCrews, IsCounted, NotesFunctions, NotesOne, NotesWorkers, StandsAt}
use Rattle.unit_crews.proofs.Alone.{Alone, IsAnonymous, block-alone, expr-alone}
use Rattle.unit_crews.proofs.Crewing.{initials-alone}

-- ---- one number

get-set-here : {X : Type 0} (xs : List X) (i : ℕ) (x : X) → i < length xs → slice_get (slice_set xs i x) i ≡ Some x
get-set-here [] i x lt = absurd (omega (arith, lt))
get-set-here (z ∷ zs) zero x lt = refl
get-set-here (z ∷ zs) (suc i) x lt = get-set-here zs i x (omega (arith, lt))

get-set-there : {X : Type 0} (xs : List X) (i k : ℕ) (x : X) → i ≢ k → slice_get (slice_set xs i x) k ≡ slice_get xs k
get-set-there [] i k x other = refl
get-set-there (z ∷ zs) zero zero x other = absurd (other refl)
get-set-there (z ∷ zs) zero (suc k) x other = refl
get-set-there (z ∷ zs) (suc i) zero x other = refl
get-set-there (z ∷ zs) (suc i) (suc k) x other = get-set-there zs i k x (λ e. other (ap suc e))

decided : (n k : ℕ) → (n ≡ k) ⊎ (n ≢ k)
decided n k = elim (cases_Bool (n == k)) [ inl e ↦ inl (eqb-true n k e) | inr e ↦ inr (λ is. both_ways (n == k) e (eq-eqb n k is)) ]

keeps-at : (old : Counts) (n k i x : ℕ) → slice_get old n ≡ Some None → StandsAt old i x → (n ≡ i) ⊎ (n ≢ i) → StandsAt (slice_set old n (Some k)) i x
keeps-at old n k i x empty there (inl e) = absurd (grind (arith, empty, there, e))
keeps-at old n k i x empty there (inr e) = get-set-there old n i (Some k) e ∙ there

pub notes-one : (old : Counts) (n k : ℕ) → n < length old → slice_get old n ≡ Some None → NotesOne n k old (slice_set old n (Some k))
notes-one old n k lt empty = (get-set-here old n (Some k) lt, λ i x there. keeps-at old n k i x empty there (decided n i))

-- ---- one after another

each-more : {X : Type 0} (P : X → Type 0) (xs : List X) (x : X) → Each P xs → P x → Each P (xs ++ x ∷ [])
each-more P [] x all h = (h, tt)
each-more P (y ∷ xs) x (a, all) h = (a, each-more P xs x all h)

each-both : {X : Type 0} (P : X → Type 0) (xs ys : List X) → Each P xs → Each P ys → Each P (xs ++ ys)
each-both P [] ys a b = b
each-both P (x ∷ xs) ys (h, a) b = (h, each-both P xs ys a b)

each-so : {X : Type 0} (P Q : X → Type 0) (xs : List X) → ((x : X) → P x → Q x) → Each P xs → Each Q xs
each-so P Q [] f all = tt
each-so P Q (x ∷ xs) f (h, all) = (f x h, each-so P Q xs f all)

-- one member more of a list of which a part was done
next-members : {X : Type 0} (P : X → Type 0) (xs : List X) (i : ℕ) (x : X) → i < length xs → x ≡ get_or xs i x → Each P (take i xs) → P x → Each P (take (i + 1) xs)
next-members P xs i x lt is all h = subst (Each P) (sym (take_more xs i x lt ∙ ap (λ y. take i xs ++ y ∷ []) (sym is))) (each-more P (take i xs) x all h)

pub workers-next : (count : ℕ) (ws : List TypedWorker) (i : ℕ) (w : TypedWorker) (old mid new : Counts) → i < length ws → w ≡ get_or ws i w → NotesWorkers count (take i ws) old mid → NotesOne w.unit.number count mid new → NotesWorkers count (take (i + 1) ws) old new
workers-next count ws i w old mid new lt is (all, kept) (here, keeps) = (
  next-members (λ w. StandsAt new w.unit.number count) ws i w lt is (each-so (λ w. StandsAt mid w.unit.number count) (λ w. StandsAt new w.unit.number count) (take i ws) (λ w h. keeps w.unit.number count h) all) here,
  λ n k h. keeps n k (kept n k h),
)

-- of a number and workers that are equal
pub notes-so : (k k' : ℕ) (ws ws' : List TypedWorker) (old new : Counts) → k ≡ k' → ws ≡ ws' → NotesWorkers k ws old new → NotesWorkers k' ws' old new
notes-so k k' ws ws' old new e f h = subst (λ n. NotesWorkers n ws' old new) e (subst (λ xs. NotesWorkers k xs old new) f h)

abbrev Noted : Counts → TypedFunction → Type 0
Noted counts f = Each (λ w. StandsAt counts w.unit.number (crew_count f.body)) (named_workers f.body)

pub functions-next : (fs : List TypedFunction) (i : ℕ) (f : TypedFunction) (old mid new : Counts) → i < length fs → f ≡ get_or fs i f → NotesFunctions (take i fs) old mid → NotesWorkers (crew_count f.body) (named_workers f.body) mid new → NotesFunctions (take (i + 1) fs) old new
functions-next fs i f old mid new lt is (all, kept) (here, keeps) = (
  next-members (Noted new) fs i f lt is (each-so (Noted mid) (Noted new) (take i fs) (λ g h. each-so (λ w. StandsAt mid w.unit.number (crew_count g.body)) (λ w. StandsAt new w.unit.number (crew_count g.body)) (named_workers g.body) (λ w h. keeps w.unit.number (crew_count g.body) h) h) all) here,
  λ n k h. keeps n k (kept n k h),
)

-- ---- all units

module _ (counts : Counts) where
  abbrev Counted : Crewed → Type 0
  Counted u = IsCounted counts u u.tree.body

  abbrev All : Listed Crewed → Type 0
  All l = Each Counted (members l)

  anonymous-counted : (t : UnitTree) (body : UnitBody) → IsAnonymous body → IsCounted counts (record { tree = t; workers = 0 }) body
  anonymous-counted t (OfFunction body) h = absurd h
  anonymous-counted t (OfWorker stmts ends) h = absurd h
  anonymous-counted t (OfAnonymous value) h = refl
  anonymous-counted t (OfInitialiser values) h = refl

  alone-counted : (p : Listed Placed) (u : Listed UnitTree) → Alone p u → All (alone u)
  alone-counted nothing nothing h = tt
  alone-counted nothing (one t) h = absurd h
  alone-counted nothing (u & v) h = absurd h
  alone-counted (one p) nothing h = absurd h
  alone-counted (one p) (one t) (tree, crew, is) = (anonymous-counted t t.body is, tt)
  alone-counted (one p) (u & v) h = absurd h
  alone-counted (p & q) nothing h = absurd h
  alone-counted (p & q) (one t) h = absurd h
  alone-counted (p & q) (u & v) (a, b) = each-both Counted (members (alone u)) (members (alone v)) (alone-counted p u a) (alone-counted q v b)

  both : (p q : Listed Crewed) → All p → All q → All (p & q)
  both p q a b = each-both Counted (members p) (members q) a b

  workers-counted : (count : ℕ) (ws : List TypedWorker) → Each (λ w. StandsAt counts w.unit.number count) ws → All (joined (map (worker_crewed count) ws))
  workers-counted count [] h = tt
  workers-counted count (w ∷ ws) (here, more) =
      both (worker_crewed count w) (joined (map (worker_crewed count) ws)) (here, alone-counted (stmts_placed w.stmts.items) (stmts_units w.stmts.items) (block-alone w.stmts.items)) (workers-counted count ws more)

  body-counted : (count : ℕ) (body : TypedBody) → Each (λ w. StandsAt counts w.unit.number count) (named_workers body) → All (body_crewed count body)
  body-counted count (Block initial workers rest ends close) h =
      both (alone (stmts_units initial.items)) (joined (map (worker_crewed count) workers.items) & alone (stmts_units rest.items))
      (alone-counted (stmts_placed initial.items) (stmts_units initial.items) (block-alone initial.items))
      (both (joined (map (worker_crewed count) workers.items)) (alone (stmts_units rest.items)) (workers-counted count workers.items h) (alone-counted (stmts_placed rest.items) (stmts_units rest.items) (block-alone rest.items)))
  body-counted count (Expr value) h = alone-counted _ _ (expr-alone value.value)

  functions-counted : (fs : List TypedFunction) → Each (Noted counts) fs → All (joined (map function_crewed fs))
  functions-counted [] h = tt
  functions-counted (f ∷ fs) (here, more) = both (function_crewed f) (joined (map function_crewed fs)) (refl, body-counted (crew_count f.body) f.body here) (functions-counted fs more)

  initialisers-counted : (is : List Initialiser) → All (joined (map initialiser_crewed is))
  initialisers-counted [] = tt
  initialisers-counted (x ∷ is) =
      both (initialiser_crewed x) (joined (map initialiser_crewed is)) (refl, alone-counted (joined (map initial_placed x.values.items)) (joined (map initial_units x.values.items)) (initials-alone x.values.items)) (initialisers-counted is)

pub has-crews : (p : TypedPackage) (fs : List TypedFunction) (counts : Counts) → fs ≡ p.functions.items → Each (Noted counts) fs → HasCrews p counts
has-crews p fs counts same noted =
    both counts (joined (map function_crewed p.functions.items)) (joined (map initialiser_crewed p.initialisers.items)) (functions-counted counts p.functions.items (subst (Each (Noted counts)) same noted)) (initialisers-counted counts p.initialisers.items)
