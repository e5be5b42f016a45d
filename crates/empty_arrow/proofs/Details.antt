-- Errors and their details.
use Rattle.std.proofs.Common.{◌≡◌, ◌↔◌, ℕ, ◌<◌, ◌≤◌, List, [], ◌∷◌, ◌++◌, map, length, true, false, All, Option, Some, None, IsSomeAnd, Box, Global, slice_get, option_and_then, refl, subst, arith}
use Rattle.std.proofs.lemmas.Bool.{false≢true}
use Rattle.std.proofs.lemmas.List.Elements.{All-nil, All-cons, All-head, All-tail, All-append, All-map}
use Rattle.std.proofs.lemmas.List.{append_assoc}
use Rattle.bal_base.specs.declared.shape.Shape.{Shape, Nil, Bool as BoolShape, Int, Str, List', Mapping', Error, Error', Function, Future'}
use Rattle.bal_base.specs.Levels.{levels}
use Rattle.bal_base.specs.Valid.{IsValid, IsMarkedMapping}
use Rattle.type_model.specs.declared.basic.SemType.{Basic, Atom}
use Rattle.type_model.specs.declared.basic.BasicSet.TheVariants.{MappingAll, Readonly}
use Rattle.type_model.specs.declared.atoms.AtomDef.{AtomDef}
use Rattle.type_model.specs.declared.atoms.AtomDef.TheVariants.{List as ListAtom, Mapping as MappingAtom, Arrow, Error as ErrorAtom, Future as FutureAtom}
use Rattle.type_model.specs.Basic.{InBasic}
use Rattle.type_model.specs.Membership.{In, Fits}
use Rattle.type_diagrams.specs.declared.kind.Kind.TheVariants.{Error as Errors}
use Rattle.type_diagrams.specs.declared.path.Path.{Path}
use Rattle.type_diagrams.specs.Kinds.{IsOfKind, the_mark}
use Rattle.type_diagrams.specs.Conditions.{Condition, Meets, IsShapeOf, is_def_of, condition_of, and_of, asks}
use Rattle.type_diagrams.specs.Members.{asked, atoms_in}
use Rattle.type_diagrams.specs.Paths.{IsOnPath}
use Rattle.type_diagrams.specs.Questions.{mappings, readonly}
use Rattle.type_diagrams.specs.Tables.{Table, condition}
use Rattle.type_diagrams.specs.Whole.{Gives}
use Rattle.type_diagrams.proofs.Meeting.{Meets-asks, In-condition}
use Rattle.empty_arrow.specs.Parts.{one_part, part_of}
use Rattle.type_diagrams.proofs.Asking.{asks_one_more, asks_begun}
use Rattle.type_diagrams.proofs.Elements.{All-parts, All-unmap, All-where}
use Rattle.type_diagrams.proofs.PathShapes.{IsAtomOf, has_mark, unmarked, on_path, in_wanted, in_no_unwanted, is_marked}
use Rattle.type_diagrams.proofs.AskedDiagrams.{gives_as}

-- ---- the question

-- what a path asks of the detail
abbrev pub detail_asked : List AtomDef → List ℕ → List ℕ → Condition
detail_asked env wanted unwanted = asks (map (part_of env) wanted ++ mappings env ∷ readonly env ∷ []) (map (part_of env) unwanted)

module _ (env : List AtomDef) (first second third : Table) (wanted : List ℕ) (a b c : ℕ) where
  -- the wanted details, then mappings, then what is read-only
  pub wanted-Gives : Gives first (asks (map (part_of env) wanted) []) a → Gives second (and_of (condition first a) (mappings env)) b → Gives third (and_of (condition second b) (readonly env)) c
      → Gives third (asks (map (part_of env) wanted ++ mappings env ∷ readonly env ∷ []) []) c
  wanted-Gives g h i =
      let parts = map (part_of env) wanted in
      let with_mappings = gives_as second _ _ b (asks_one_more (condition first a) parts (mappings env) g.condition) h in
      let with_readonly = gives_as third _ _ c (asks_one_more (condition second b) (parts ++ mappings env ∷ []) (readonly env) with_mappings.condition) i in
      subst (λ cs. Gives third (asks cs []) c) (append_assoc parts (mappings env ∷ []) (readonly env ∷ [])) with_readonly

  pub then_unwanted : (new : Table) (cs ds : List Condition) (n : ℕ) → Gives third (asks cs []) c → Gives new (asks (condition third c ∷ []) ds) n → Gives new (asks cs ds) n
  then_unwanted new cs ds n g h = gives_as new _ _ n (asks_begun (condition third c) cs ds g.condition) h

-- ---- errors by their details

abbrev pub detail_in : Shape → Shape
detail_in (Error' _ detail) = detail
detail_in x = x

marked_mapping : (d : Shape) → (InBasic d MappingAll × InBasic d Readonly) ↔ IsMarkedMapping d
marked_mapping Nil = (λ h. h.0, λ h. absurd h)
marked_mapping (BoolShape b) = (λ h. h.0, λ h. absurd h)
marked_mapping (Int i) = (λ h. h.0, λ h. absurd h)
marked_mapping (Str t) = (λ h. h.0, λ h. absurd h)
marked_mapping (List' mark _ items) = (λ h. h.0, λ h. absurd h)
marked_mapping (Mapping' mark _ fields) = (λ h. h.1, λ h. (tt, h))
marked_mapping (Error' _ detail) = (λ h. h.0, λ h. absurd h)
marked_mapping (Function isolated graph) = (λ h. h.0, λ h. absurd h)
marked_mapping (Future' _ results) = (λ h. h.0, λ h. absurd h)

module _ (env : List AtomDef) (small : length env ≤ the_mark) where
  -- an error is in an error atom where the detail meets what the atom asks
  In-detail : (x : Shape) → IsOfKind Errors x → (o : Option AtomDef) → is_def_of Errors o ≡ true → IsSomeAnd o (Fits env x) ↔ Meets env (asked (condition_of env) (option_and_then one_part o)) (detail_in x)
  In-detail (Error' s detail) kind o def = by o def
    where
      by : (o : Option AtomDef) → is_def_of Errors o ≡ true → IsSomeAnd o (Fits env (Error' s detail)) ↔ Meets env (asked (condition_of env) (option_and_then one_part o)) detail
      by None h = absurd (false≢true h)
      by (Some (ListAtom fixed rest)) h = absurd (false≢true h)
      by (Some (MappingAtom fields rest)) h = absurd (false≢true h)
      by (Some (Arrow args outcome alone)) h = absurd (false≢true h)
      by (Some (ErrorAtom t)) h = In-condition env small detail t
      by (Some (FutureAtom outcome)) h = absurd (false≢true h)
  In-detail Nil kind o def = cc
  In-detail (BoolShape b) kind o def = cc
  In-detail (Int i) kind o def = cc
  In-detail (Str t) kind o def = cc
  In-detail (List' mark _ items) kind o def = cc
  In-detail (Mapping' mark _ fields) kind o def = cc
  In-detail (Function isolated graph) kind o def = cc
  In-detail (Future' _ results) kind o def = cc

  valid_detail : (x : Shape) → IsOfKind Errors x → IsValid x → IsMarkedMapping (detail_in x) × IsValid (detail_in x)
  valid_detail (Error' _ detail) kind valid = valid
  valid_detail Nil kind valid = cc
  valid_detail (BoolShape b) kind valid = cc
  valid_detail (Int i) kind valid = cc
  valid_detail (Str t) kind valid = cc
  valid_detail (List' mark _ items) kind valid = cc
  valid_detail (Mapping' mark _ fields) kind valid = cc
  valid_detail (Function isolated graph) kind valid = cc
  valid_detail (Future' _ results) kind valid = cc

  pub detail-lower : (x : Shape) → IsOfKind Errors x → levels (detail_in x) < levels x
  detail-lower (Error' _ detail) kind = omega arith
  detail-lower Nil kind = cc
  detail-lower (BoolShape b) kind = cc
  detail-lower (Int i) kind = cc
  detail-lower (Str t) kind = cc
  detail-lower (List' mark _ items) kind = cc
  detail-lower (Mapping' mark _ fields) kind = cc
  detail-lower (Function isolated graph) kind = cc
  detail-lower (Future' _ results) kind = cc

  module _ (p : Path) (pos : All (IsAtomOf env Errors) (atoms_in p.pos)) (neg : All (IsAtomOf env Errors) (atoms_in p.neg)) where
    -- the detail of an error of the path is a shape of the question
    pub path-detail : (x : Shape) → IsValid x → IsOnPath env Errors p x → IsShapeOf env (detail_asked env (atoms_in p.pos) (atoms_in p.neg)) (detail_in x)
    path-detail x valid on =
        let detail = valid_detail x on.kind valid in
        let basic = (marked_mapping (detail_in x)).1 detail.0 in
        let wanted = All-where (IsAtomOf env Errors) (λ a. In env x (Atom a)) (λ a. Meets env (part_of env a) (detail_in x)) (λ a d h. (In-detail x on.kind (slice_get env a) d).0 h) (atoms_in p.pos) pos (in_wanted env Errors p x on) in
        let unwanted = All-where (IsAtomOf env Errors) (λ a. ¬ In env x (Atom a)) (λ a. ¬ Meets env (part_of env a) (detail_in x)) (λ a d h m. h ((In-detail x on.kind (slice_get env a) d).1 m)) (atoms_in p.neg) neg (in_no_unwanted env Errors p x on) in
        let Is : Condition → Type 0 = λ c. Meets env c (detail_in x) in
        let marks : All Is (mappings env ∷ readonly env ∷ []) = All-cons Is (mappings env) (readonly env ∷ []) ((In-condition env small (detail_in x) (Basic MappingAll)).0 basic.0) (All-cons Is (readonly env) [] ((In-condition env small (detail_in x) (Basic Readonly)).0 basic.1) (All-nil Is)) in (
          detail.1,
          (Meets-asks env (map (part_of env) (atoms_in p.pos) ++ mappings env ∷ readonly env ∷ []) (map (part_of env) (atoms_in p.neg)) (detail_in x)).1 (
            All-append Is (map (part_of env) (atoms_in p.pos)) (mappings env ∷ readonly env ∷ []) (All-map Is (part_of env) (atoms_in p.pos) wanted) marks,
            All-map (λ c. ¬ Is c) (part_of env) (atoms_in p.neg) unwanted,
          ),
        )

    -- an error with such a detail is one of the path
    pub error-on_path : (detail : Box Shape Global) → has_mark p ≡ false → IsShapeOf env (detail_asked env (atoms_in p.pos) (atoms_in p.neg)) detail.value → IsValid (Error detail) × IsOnPath env Errors p (Error detail)
    error-on_path detail none is =
        let Is : Condition → Type 0 = λ c. Meets env c detail.value in
        let met = (Meets-asks env (map (part_of env) (atoms_in p.pos) ++ mappings env ∷ readonly env ∷ []) (map (part_of env) (atoms_in p.neg)) detail.value).0 is.1 in
        let wanted = All-parts Is (map (part_of env) (atoms_in p.pos)) (mappings env ∷ readonly env ∷ []) met.0 in
        let mapping = (In-condition env small detail.value (Basic MappingAll)).1 (All-head Is (mappings env) (readonly env ∷ []) wanted.1) in
        let fixed = (In-condition env small detail.value (Basic Readonly)).1 (All-head Is (readonly env) [] (All-tail Is (mappings env) (readonly env ∷ []) wanted.1)) in
        let ins = All-where (IsAtomOf env Errors) (λ a. Is (part_of env a)) (λ a. In env (Error detail) (Atom a)) (λ a d h. (In-detail (Error detail) refl (slice_get env a) d).1 h) (atoms_in p.pos) pos (All-unmap Is (part_of env) (atoms_in p.pos) wanted.0) in
        let outs = All-where (IsAtomOf env Errors) (λ a. ¬ Is (part_of env a)) (λ a. ¬ In env (Error detail) (Atom a)) (λ a d h m. h ((In-detail (Error detail) refl (slice_get env a) d).0 m)) (atoms_in p.neg) neg (All-unmap (λ c. ¬ Is c) (part_of env) (atoms_in p.neg) met.1) in (
          ((marked_mapping detail.value).0 (mapping, fixed), is.0),
          on_path env Errors p (Error detail) refl none (λ m. m) ins outs,
        )

  pub no_marked_error : (p : Path) → has_mark p ≡ true → (x : Shape) → ¬ IsOnPath env Errors p x
  no_marked_error p some x on = unmarked Errors x (λ e. cc) (λ e. cc) on.kind (is_marked env Errors p x on some)
