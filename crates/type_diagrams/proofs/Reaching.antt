-- What holds of all questions that a call leads to.
use Rattle.std.proofs.Common.{◌≡◌, ⊎_elim, ℕ, zero, suc, List, [], ◌∷◌, map, filter, Bool, true, false, ◌&&◌, not, if◌then◌else◌, Option, Some, None, slice_get, refl, sym, ◌∙◌, ap, arith}
use Rattle.std.specs.List.{list_all, All}
use Rattle.std.proofs.lemmas.List.Elements.{All-nil, All-cons, All-append, All-map}
use Rattle.type_model.specs.declared.basic.SemType.{SemType, Basic}
use Rattle.type_model.specs.declared.basic.BasicSet.TheVariants.{ListAll, MappingAll, Readonly}
use Rattle.type_model.specs.declared.basic.Ty.{Ty}
use Rattle.type_model.specs.declared.atoms.AtomDef.{AtomDef}
use Rattle.type_model.specs.Places.{item_type, key_type}
use Rattle.type_model.specs.Calls.{Asked, Without, Alone, Applied}
use Rattle.type_diagrams.specs.declared.kind.Kind.{Kind}
use Rattle.type_diagrams.specs.declared.kind.Kind.TheVariants.{List as Lists, Mapping as Mappings, Error as Errors, Function as Functions, Future as Futures}
use Rattle.type_diagrams.specs.declared.path.Path.{Path}
use Rattle.type_diagrams.specs.Kinds.{the_mark}
use Rattle.type_diagrams.specs.Conditions.{Condition, AreOne, LooksAtKinds, truth, condition_of, is_def_of, has_kind, nothing, frozen, asks}
use Rattle.type_diagrams.specs.Atoms.{parts_of, list_parts, mapping_parts, error_part, arrow_parts, future_part}
use Rattle.type_diagrams.specs.Members.{asked, atoms_in, type_asked, item_of, member_of, detail_of, arguments_of, outcome_of, results_of, IsListOutOfPlay, IsMappingOutOfPlay}
use Rattle.type_diagrams.specs.Questions.{IsMemberQuestion, IsArrowQuestion, IsPartQuestion, wanted_parts, frozen_if_marked, asks_arguments}
use Rattle.type_diagrams.specs.Reach.{Reached, first, next, IsFirst, IsOutsideQuestion}

-- a question that leads to others leads to what they lead to
pub reached-further : (env : List AtomDef) (First Second : Condition → Type 0) → ((c : Condition) → Second c → Reached env First c) → (c : Condition) → Reached env Second c → Reached env First c
reached-further env First Second among c (first _ h) = among c h
reached-further env First Second among c (next d _ k p reached path question) = next d c k p (reached-further env First Second among d reached) path question

-- ---- they look at the mark and at atoms of each kind alone

all_same : {X : Type 0} (f g : X → Bool) (xs : List X) → All (λ x. f x ≡ g x) xs → list_all f xs ≡ list_all g xs
all_same f g [] h = refl
all_same {X} f g (x ∷ xs) h = λ i. head i && all_same f g xs (λ k d lt. h (suc k) d (omega (arith, lt))) i
  where
    head : f x ≡ g x
    head = h zero x (omega arith)

module _ (env : List AtomDef) where
  abbrev Looks : Condition → Type 0
  Looks = LooksAtKinds env

  pub one-Looks : (c d : Condition) → AreOne d c → Looks c → Looks d
  one-Looks c d one looks k v w agree = one.by_kind k v ∙ looks k v w agree ∙ sym (one.by_kind k w)

  pub type-Looks : (t : SemType) → Looks (condition_of env t)
  type-Looks t k v w agree = λ i. truth (has_kind k (mark i)) (λ a. atom a (is_def_of k (slice_get env a)) refl i) t
    where
      mark : v the_mark ≡ w the_mark
      mark = agree the_mark (λ ne. absurd (ne refl))

      atom : (a : ℕ) (b : Bool) → is_def_of k (slice_get env a) ≡ b → (is_def_of k (slice_get env a) && v a) ≡ (is_def_of k (slice_get env a) && w a)
      atom a true e = ap (λ x. is_def_of k (slice_get env a) && x) (agree a (λ _. e))
      atom a false e = ap (λ b. b && v a) e ∙ sym (ap (λ b. b && w a) e)

  pub nothing-Looks : Looks nothing
  nothing-Looks k v w agree = refl

  pub frozen-Looks : Looks frozen
  frozen-Looks Lists v w agree = agree the_mark (λ ne. absurd (ne refl))
  frozen-Looks Mappings v w agree = agree the_mark (λ ne. absurd (ne refl))
  frozen-Looks Errors v w agree = refl
  frozen-Looks Functions v w agree = refl
  frozen-Looks Futures v w agree = refl

  pub asks-Looks : (wanted unwanted : List Condition) → All Looks wanted → All Looks unwanted → Looks (asks wanted unwanted)
  asks-Looks wanted unwanted h g k v w agree =
      λ i. all_same (λ c. c.by_kind k v) (λ c. c.by_kind k w) wanted (λ j d lt. h j d lt k v w agree) i
      && all_same (λ c. not (c.by_kind k v)) (λ c. not (c.by_kind k w)) unwanted (λ j d lt. ap not (g j d lt k v w agree)) i

  pub asked-Looks : {X : Type 0} (ask : X → Condition) → ((x : X) → Looks (ask x)) → (o : Option X) → Looks (asked ask o)
  asked-Looks ask h (Some x) = h x
  asked-Looks ask h None = nothing-Looks

  pub each : {X : Type 0} (f : X → Condition) (xs : List X) → ((x : X) → Looks (f x)) → All Looks (map f xs)
  each f xs h = All-map Looks f xs (λ k d lt. h _)

  one : (c : Condition) → Looks c → All Looks (c ∷ [])
  one c h = All-cons Looks c [] h (All-nil Looks)

  two : (c d : Condition) → Looks c → Looks d → All Looks (c ∷ d ∷ [])
  two c d h g = All-cons Looks c (d ∷ []) h (one d g)

  part : (t : Option Ty) → Looks (type_asked env t)
  part t = asked-Looks (λ u. condition_of env u.sem) (λ u. type-Looks u.sem) t

  frozen_part : (p : Path) → All Looks (frozen_if_marked p)
  frozen_part p = by _
    where
      by : (b : Bool) → All Looks (if b then frozen ∷ [] else [])
      by true = one frozen frozen-Looks
      by false = All-nil Looks

  parts-Looks : (ask : ℕ → Condition) (Out : ℕ → Type 0) (p : Path) (d : Condition) → ((a : ℕ) → Looks (ask a)) → IsPartQuestion ask Out p d → Looks d
  parts-Looks ask Out p d h q =
      one-Looks (asks (wanted_parts ask p) (map ask q.avoided)) d q.question
      (asks-Looks (wanted_parts ask p) (map ask q.avoided)
      (All-append Looks (map ask (atoms_in p.pos)) (frozen_if_marked p) (each ask (atoms_in p.pos) h) (frozen_part p))
      (each ask q.avoided h))

  arguments-Looks : (c d : Condition) (arrows : List ℕ) → Looks c → AreOne d (asks_arguments env c arrows) → Looks d
  arguments-Looks c d arrows h q =
      let lists = condition_of env (Basic ListAll) in
      let readonly = condition_of env (Basic Readonly) in
      one-Looks (asks_arguments env c arrows) d q
      (asks-Looks (c ∷ lists ∷ []) (readonly ∷ map (arguments_of env) arrows) (two c lists h (type-Looks (Basic ListAll)))
      (All-cons Looks readonly (map (arguments_of env) arrows) (type-Looks (Basic Readonly)) (each (arguments_of env) arrows taken)))
    where
      taken : (a : ℕ) → Looks (arguments_of env a)
      taken a = asked-Looks (λ d. condition_of env d.0) (λ d. type-Looks d.0) (parts_of arrow_parts env a)

  given : (a : ℕ) → Looks (outcome_of env a)
  given a = asked-Looks (λ d. condition_of env d.1) (λ d. type-Looks d.1) (parts_of arrow_parts env a)

  arrow-Looks : (wanted : List ℕ) (a : ℕ) (d : Condition) → IsArrowQuestion env wanted a d → Looks d
  arrow-Looks wanted a d (chosen, q) =
      let rest = filter (λ b. not (chosen b)) wanted in
      ⊎_elim
      (λ o. arguments-Looks (arguments_of env a) d (filter chosen wanted) (asked-Looks (λ e. condition_of env e.0) (λ e. type-Looks e.0) (parts_of arrow_parts env a)) o)
      (λ o. one-Looks (asks (map (outcome_of env) rest) (outcome_of env a ∷ [])) d o.1 (asks-Looks (map (outcome_of env) rest) (outcome_of env a ∷ []) (each (outcome_of env) rest given) (one (outcome_of env a) (given a))))
      q

  detail : (a : ℕ) → Looks (detail_of env a)
  detail a = asked-Looks (condition_of env) type-Looks (parts_of error_part env a)

  results : (a : ℕ) → Looks (results_of env a)
  results a = asked-Looks (condition_of env) type-Looks (parts_of future_part env a)

  pub member-Looks : (k : Kind) (p : Path) (d : Condition) → IsMemberQuestion env k p d → Looks d
  member-Looks Lists p d (place, q) =
      parts-Looks (item_of env place) (IsListOutOfPlay env (atoms_in p.pos)) p d
      (λ a. asked-Looks (λ e. type_asked env (item_type e.0 e.1 place)) (λ e. part (item_type e.0 e.1 place)) (parts_of list_parts env a)) q
  member-Looks Mappings p d (key, q) =
      parts-Looks (member_of env key) (IsMappingOutOfPlay env (atoms_in p.pos)) p d
      (λ a. asked-Looks (λ e. type_asked env (key_type e.0 e.1 key)) (λ e. part (key_type e.0 e.1 key)) (parts_of mapping_parts env a)) q
  member-Looks Errors p d q =
      let mappings = condition_of env (Basic MappingAll) in
      let readonly = condition_of env (Basic Readonly) in
      one-Looks _ d q (asks-Looks _ _
      (All-append Looks (map (detail_of env) (atoms_in p.pos)) (mappings ∷ readonly ∷ []) (each (detail_of env) (atoms_in p.pos) detail) (two mappings readonly (type-Looks (Basic MappingAll)) (type-Looks (Basic Readonly))))
      (each (detail_of env) (atoms_in p.neg) detail))
  member-Looks Functions p d (a, among, q) = arrow-Looks (atoms_in p.pos) a d q
  member-Looks Futures p d (a, among, q) = one-Looks (asks (map (results_of env) (atoms_in p.pos)) (results_of env a ∷ [])) d q (asks-Looks (map (results_of env) (atoms_in p.pos)) (results_of env a ∷ []) (each (results_of env) (atoms_in p.pos) results) (one (results_of env a) (results a)))

  alone-Looks : (t : SemType) (d : Condition) → AreOne d (asks (condition_of env t ∷ []) []) → Looks d
  alone-Looks t d q = one-Looks (asks (condition_of env t ∷ []) []) d q (asks-Looks (condition_of env t ∷ []) [] (one (condition_of env t) (type-Looks t)) (All-nil Looks))

  first-Looks : (asked_for : Asked) (d : Condition) → IsFirst env asked_for d → Looks d
  first-Looks (Without s t) d q = one-Looks (asks (condition_of env s ∷ []) (condition_of env t ∷ [])) d q (asks-Looks (condition_of env s ∷ []) (condition_of env t ∷ []) (one (condition_of env s) (type-Looks s)) (one (condition_of env t) (type-Looks t)))
  first-Looks (Alone t) d q = alone-Looks t d q
  first-Looks (Applied f args) d q =
      ⊎_elim (λ o. alone-Looks f d o)
      (λ (o : IsOutsideQuestion env f args d). arguments-Looks (condition_of env args) d (filter o.1 (atoms_in o.0.pos)) (type-Looks args) o.3)
      q

  -- each question that a call leads to
  pub reached-LooksAtKinds : (asked_for : Asked) (d : Condition) → Reached env (IsFirst env asked_for) d → LooksAtKinds env d
  reached-LooksAtKinds asked_for d (first _ h) = first-Looks asked_for d h
  reached-LooksAtKinds asked_for d (next c _ k p reached path question) = member-Looks k p d question
