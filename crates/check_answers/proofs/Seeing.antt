-- What a name stands for in two runs.
use Rattle.std.proofs.Common.{◌≡◌, Bool, true, false, ℕ, List, [], ◌∷◌, Option, None, Some, Result, Ok, Err, find, is_some, unwrap_or, if◌then◌else◌, refl, sym, subst, ap}
use Rattle.std.specs.List.{AllZip}
use Rattle.bal_base.specs.declared.fault.FaultCode.{FaultCode}
use Rattle.bal_base.specs.declared.text.Name.{Name}
use Rattle.bal_tree.specs.declared.name.Prefix.{Prefix}
use Rattle.bal_tree.specs.declared.name.Prefix.TheVariants.{Word as WordPrefix, Int as IntPrefix}
use Rattle.bal_tree.specs.declared.name.QualifiedName.{QualifiedName}
use Rattle.checks.specs.Checks.{Check}
use Rattle.descriptors.specs.declared.names.Meaning.{Meaning}
use Rattle.descriptors.specs.declared.names.Names.{Names}
use Rattle.descriptors.specs.declared.names.Scope.{Scope}
use Rattle.descriptors.specs.declared.names.Source.{Source}
use Rattle.descriptors.specs.declared.names.Source.TheVariants.{Library, Module}
use Rattle.descriptors.specs.Naming.{meaning_named, source_named}
use Rattle.flow_narrowing.specs.declared.flow.Variable.{Variable}
use Rattle.operations.specs.declared.operation.Constant.{Constant}
use Rattle.type_model.specs.declared.basic.Ty.{Ty}
use Rattle.type_model.specs.Places.{is_same_text}
use Rattle.typed_tree.specs.SharedTypes.{Shared}
use Rattle.check_words.specs.Library.{LibraryRow, functions_of_int, functions_of_io, is_named}
use Rattle.check_words.specs.Seen.{Seen, SeenConstant, SeenLibrary, SeenMeaning, SeenNothing, SeenVariable, SeenWorker, as_seen, constant_of_int, from_source, in_library, looks_up, or_function, seen_as, seen_behind, variable_behind, variable_named, variable_or, worker_named, worker_or}
use Rattle.check_words.specs.Sharing.{SameOption}
use Rattle.check_words.specs.State.{Site, State, find_variable, shared_now}
use Rattle.check_words.specs.Words.{Atoms}
use Rattle.check_answers.specs.TwinStates.{SharedTwins, SiteTwins, VariableTwins}
use Rattle.check_answers.proofs.Leading.{Leads, Pairs, leads-some, leads-then}
use Rattle.check_answers.proofs.Words.{At, unit-leads}

module _ (D R : Ty → Ty → Type 0) where
  -- the same, but for the types of a variable
  abbrev pub SeenTwins : Seen → Seen → Type 0
  SeenTwins (SeenVariable v) (SeenVariable u) = VariableTwins D R v u
  SeenTwins (SeenVariable v) _ = ⊥
  SeenTwins (SeenWorker w) s = s ≡ SeenWorker w
  SeenTwins (SeenConstant c) s = s ≡ SeenConstant c
  SeenTwins (SeenLibrary r) s = s ≡ SeenLibrary r
  SeenTwins (SeenMeaning m) s = s ≡ SeenMeaning m
  SeenTwins (SeenNothing code) s = s ≡ SeenNothing code

  -- ---- variables

  found-if : (b c : Bool) (v u : Variable) (o p : Option Variable) → c ≡ b → VariableTwins D R v u → SameOption (VariableTwins D R) o p
      → SameOption (VariableTwins D R) (if b then Some v else o) (if c then Some u else p)
  found-if true true v u o p e h k = h
  found-if false false v u o p e h k = k
  found-if true false v u o p e h k = absurd (cc)
  found-if false true v u o p e h k = absurd (cc)

  pub variables-found : (vs us : List Variable) (name : Name) → AllZip (VariableTwins D R) vs us
      → SameOption (VariableTwins D R) (find_variable vs name) (find_variable us name)
  variables-found [] [] name h = tt
  variables-found (v ∷ vs) (u ∷ us) name h =
      found-if (is_same_text v.name name) (is_same_text u.name name) v u (find_variable vs name) (find_variable us name)
      (ap (λ s. is_same_text s name) h.0.name) h.0 (variables-found vs us name h.1)
  variables-found [] (u ∷ us) name h = absurd h
  variables-found (v ∷ vs) [] name h = absurd h

  pub now-twins : (v u : Variable) → VariableTwins D R v u → SharedTwins D R (shared_now v) (shared_now u)
  now-twins v u h = by v.narrowed u.narrowed h.narrowed
    where
      by : (o p : Option Shared) → SameOption (SharedTwins D R) o p → SharedTwins D R (unwrap_or o v.declared) (unwrap_or p u.declared)
      by None None e = h.declared
      by (Some t) (Some w) e = e
      by None (Some w) e = absurd e
      by (Some t) None e = absurd e

  pub narrowed-both : (o p : Option Shared) → SameOption (SharedTwins D R) o p → is_some p ≡ is_some o
  narrowed-both None None e = refl
  narrowed-both (Some t) (Some u) e = refl
  narrowed-both None (Some u) e = absurd e
  narrowed-both (Some t) None e = absurd e

  pub named-found : (vs us : List Variable) (q : QualifiedName) → AllZip (VariableTwins D R) vs us
      → SameOption (VariableTwins D R) (variable_named vs q) (variable_named us q)
  named-found vs us q h = by q.prefix
    where
      by : (p : Option Prefix) → SameOption (VariableTwins D R) (variable_behind vs q p) (variable_behind us q p)
      by None = variables-found vs us q.word.name h
      by (Some p) = tt

  -- ---- names

  as-seen : (r : Result Meaning FaultCode) → SeenTwins (as_seen r) (as_seen r)
  as-seen (Ok m) = refl
  as-seen (Err code) = refl

  library-seen : (r : Option LibraryRow) → SeenTwins (in_library r) (in_library r)
  library-seen (Some r) = refl
  library-seen None = refl

  function-seen : (name : Name) (c : Option Constant) → SeenTwins (or_function name c) (or_function name c)
  function-seen name (Some c) = refl
  function-seen name None = library-seen (find (is_named name) functions_of_int)

  module _ (names : Names) (s : Site) (q : QualifiedName) where
    worker-seen : (w : Option ℕ) → SeenTwins (worker_or names s q w) (worker_or names s q w)
    worker-seen (Some w) = refl
    worker-seen None = as-seen (meaning_named names s.scope q)

    source-seen : (p : Option Source) → SeenTwins (from_source names s q p) (from_source names s q p)
    source-seen (Some Library) = library-seen (find (is_named q.word.name) functions_of_io)
    source-seen (Some (Module m)) = as-seen (meaning_named names s.scope q)
    source-seen None = as-seen (meaning_named names s.scope q)

    variable-seen : (o p : Option Variable) → SameOption (VariableTwins D R) o p → SeenTwins (variable_or names s q o) (variable_or names s q p)
    variable-seen None None h = worker-seen (worker_named s.workers q)
    variable-seen (Some v) (Some u) h = h
    variable-seen None (Some u) h = absurd h
    variable-seen (Some v) None h = absurd h

    behind-seen : (vs us : List Variable) (p : Option Prefix) → AllZip (VariableTwins D R) vs us → SeenTwins (seen_behind names s vs q p) (seen_behind names s us q p)
    behind-seen vs us None h = variable-seen _ _ (variables-found vs us q.word.name h)
    behind-seen vs us (Some (IntPrefix at)) h = function-seen q.word.name (constant_of_int q.word.name)
    behind-seen vs us (Some (WordPrefix w)) h = source-seen (source_named names s.scope w.name)

  -- what is seen hangs on the scope and the workers alone
  abbrev seen_at : Names → QualifiedName → List Variable → Scope → List Name → Seen
  seen_at names q us scope workers = seen_as names (record { scope = scope; workers = workers; results = []; events = [] }) us q

  pub seen-twins : (names : Names) (s t : Site) (q : QualifiedName) (vs us : List Variable) → SiteTwins D R s t → AllZip (VariableTwins D R) vs us
      → SeenTwins (seen_as names s vs q) (seen_as names t us q)
  seen-twins names s t q vs us same h =
      subst (λ scope. SeenTwins (seen_as names s vs q) (seen_at names q us scope t.workers)) (sym same.scope)
      (subst (λ ws. SeenTwins (seen_as names s vs q) (seen_at names q us s.scope ws)) (sym same.workers) (behind-seen names s q vs us q.prefix h))

  equal-seen : (a b c d : Seen) → c ≡ a → d ≡ b → SeenTwins a b → SeenTwins c d
  equal-seen a b c d e f h = subst (λ k. SeenTwins k d) (sym e) (subst (SeenTwins a) (sym f) h)

  pub looks-up-leads : (m n : Atoms) (names : Names) (q : QualifiedName) → Leads (At m n D R) (At m n D R) SeenTwins (looks_up names q) (looks_up names q)
  looks-up-leads m n names q =
      leads-then (At m n D R) (At m n D R) (At m n D R) _ _ _ _ _ _ (unit-leads m n D R)
      (λ u v h. leads-some (At m n D R) _ _ _
      (λ s t a b p x y. equal-seen _ _ a b x y (seen-twins names s.site t.site q u.flow.variables v.flow.variables p.states.site h.flow.variables)))

-- what goes by what is seen
module _ {X Y : Type 0} (D R : Ty → Ty → Type 0) (F G : Pairs) (Q : X → Y → Type 0) (P : Seen → Check State X) (S : Seen → Check State Y)
    (variable : (v u : Variable) → VariableTwins D R v u → Leads F G Q (P (SeenVariable v)) (S (SeenVariable u)))
    (worker : (w : ℕ) → Leads F G Q (P (SeenWorker w)) (S (SeenWorker w))) (constant : (c : Constant) → Leads F G Q (P (SeenConstant c)) (S (SeenConstant c)))
    (library : (r : LibraryRow) → Leads F G Q (P (SeenLibrary r)) (S (SeenLibrary r))) (meaning : (k : Meaning) → Leads F G Q (P (SeenMeaning k)) (S (SeenMeaning k)))
    (nothing : (code : FaultCode) → Leads F G Q (P (SeenNothing code)) (S (SeenNothing code))) where
  other : (a b : Seen) → b ≡ a → Leads F G Q (P a) (S a) → Leads F G Q (P a) (S b)
  other a b e h = subst (λ k. Leads F G Q (P a) (S k)) (sym e) h

  pub by-seen : (a b : Seen) → SeenTwins D R a b → Leads F G Q (P a) (S b)
  by-seen (SeenVariable v) (SeenVariable u) h = variable v u h
  by-seen (SeenWorker w) b h = other (SeenWorker w) b h (worker w)
  by-seen (SeenConstant c) b h = other (SeenConstant c) b h (constant c)
  by-seen (SeenLibrary r) b h = other (SeenLibrary r) b h (library r)
  by-seen (SeenMeaning k) b h = other (SeenMeaning k) b h (meaning k)
  by-seen (SeenNothing code) b h = other (SeenNothing code) b h (nothing code)
  by-seen (SeenVariable v) _ h = absurd h
