-- Texts of values inside one another.
use Rattle.std.proofs.Common.{append_assoc, ◌+◌, ◌<◌, length, get_or, take, subst, ◌≡◌, ◌≢◌, ◌∙◌, ◌-◌, ◌==◌, ℕ, zero, suc, Bool, true, false, List, [], ◌∷◌, ◌++◌, Option, Some, None, flat_map, map, refl, sym, ap, arith}
use Rattle.std.specs.Prelude.{codes, slice_get, option_map, if◌then◌else◌}
use Rattle.std.specs.List.{list_any}
use Rattle.std.proofs.lemmas.List.{append-nil, take_more}
use Rattle.std.proofs.lemmas.Option.{slice_get-map}
use Rattle.text_forms.specs.Forms.{Adds}
use Rattle.text_forms.proofs.Adding.{adds-one_more}
use Rattle.bal_base.specs.declared.text.Text.{Text}
use Rattle.value_model.specs.declared.value.Value.{Value}
use Rattle.value_model.specs.declared.value.Value.TheVariants.{Error, Struct}
use Rattle.value_model.specs.Heap.{Heap as ModelHeap, Structure as ModelStructure, ErrorObject as ModelError, Members, Items, Entries}
use Rattle.op_model.specs.Texts.{details_text, error_text, inner_text, members_text, structure_text}
use Rattle.plain_run.specs.declared.held.Heap.{Heap}
use Rattle.plain_run.specs.declared.held.Members.TheVariants as held
use Rattle.plain_run.specs.declared.held.Structure.{Structure}
use Rattle.plain_run.specs.declared.held.ErrorObject.{ErrorObject}
use Rattle.plain_run.specs.Held.{error_of, heap_of, members_of, structure_of}
use Rattle.plain_texts.specs.Parts.{parts_text}

-- a step of a loop over a list that adds the texts one behind the other
pub adds-taken_more : {X : Type 0} (f : X → List ℕ) (xs : List X) (i : ℕ) (x : X) (old mid new : List ℕ) → i < length xs → x ≡ get_or xs i x → Adds old (flat_map f (take i xs)) mid → Adds mid (f x) new → Adds old (flat_map f (take (i + 1) xs)) new
adds-taken_more f xs i x old mid new l e before next =
    let more : take (i + 1) xs ≡ take i xs ++ x ∷ [] = take_more xs i x l ∙ ap (λ y. take i xs ++ y ∷ []) (sym e) in
    subst (λ ys. Adds old (flat_map f ys) new) (sym more) (adds-one_more f (take i xs) x old mid new before next)

module _ (h : ModelHeap) where
  pub nothing-inside : (depth : ℕ) (around : List ℕ) (n : ℕ) → depth ≡ 0 → codes "..." ≡ inner_text h depth around (Struct n)
  nothing-inside depth around n e = ap (λ d. inner_text h d around (Struct n)) (sym e)

  pub met-again : (depth : ℕ) (around : List ℕ) (n : ℕ) → list_any (λ m. m == n) around ≡ true → codes "..." ≡ inner_text h depth around (Struct n)
  met-again zero around n e = refl
  met-again (suc depth) around n e = sym (ap (λ b. if b then codes "..." else structure_text h (inner_text h depth (n ∷ around)) n) e)

  pub met-first : (depth : ℕ) (around all : List ℕ) (n : ℕ) → depth ≢ 0 → list_any (λ m. m == n) around ≡ false → all ≡ n ∷ around → structure_text h (inner_text h (depth - 1) all) n ≡ inner_text h depth around (Struct n)
  met-first zero around all n d e is = absurd (d refl)
  met-first (suc depth) around all n d e is =
      let less : suc depth - 1 ≡ depth = omega arith in
      (λ i. structure_text h (inner_text h (less i) (is i)) n)
      ∙ sym (ap (λ b. if b then codes "..." else structure_text h (inner_text h depth (n ∷ around)) n) e)

  pub no-error-inside : (depth : ℕ) (around : List ℕ) (n : ℕ) → depth ≡ 0 → codes "..." ≡ inner_text h depth around (Error n)
  no-error-inside depth around n e = ap (λ d. inner_text h d around (Error n)) (sym e)

  pub error-inside : (depth : ℕ) (around : List ℕ) (n : ℕ) → depth ≢ 0 → error_text h (inner_text h (depth - 1) around) n ≡ inner_text h depth around (Error n)
  error-inside zero around n d = absurd (d refl)
  error-inside (suc depth) around n d = let less : suc depth - 1 ≡ depth = omega arith in λ i. error_text h (inner_text h (less i) around) n

-- ---- what stands in the heap, as it is held

module _ (h : Heap) (text : Value → List ℕ) (n : ℕ) where
  abbrev structure_by : Option ModelStructure → List ℕ
  structure_by (Some s) = members_text text s.members
  structure_by None = []

  at-structures : (o : Option Structure) → slice_get h.structures n ≡ o → slice_get (map structure_of h.structures) n ≡ option_map structure_of o
  at-structures o e = slice_get-map structure_of h.structures n ∙ ap (option_map structure_of) e

  pub members-there : (s : Structure) → slice_get h.structures n ≡ Some s → structure_text (heap_of h) text n ≡ members_text text (members_of s.members)
  members-there s e = ap structure_by (at-structures (Some s) e)

  pub members-past : slice_get h.structures n ≡ None → structure_text (heap_of h) text n ≡ []
  members-past e = ap structure_by (at-structures None e)

  abbrev details_in : Members → List ℕ
  details_in (Items vs) = []
  details_in (Entries es) = flat_map (λ e. codes "," ++ e.0 ++ codes "=" ++ text e.1) es

  abbrev details_by : Option ModelStructure → List ℕ
  details_by (Some s) = details_in s.members
  details_by None = []

  pub details-there : (s : Structure) (m : Members) → slice_get h.structures n ≡ Some s → members_of s.members ≡ m → details_text (heap_of h) text n ≡ details_in m
  details-there s m e is = ap details_by (at-structures (Some s) e) ∙ ap details_in is

  pub details-entries : (s : Structure) (es : List (Text × Value)) → slice_get h.structures n ≡ Some s → s.members ≡ held.Entries es → details_text (heap_of h) text n ≡ flat_map (λ e. codes "," ++ e.0 ++ codes "=" ++ text e.1) es
  details-entries s es e is = details-there s (Entries es) e (ap members_of is)

  pub details-past : slice_get h.structures n ≡ None → details_text (heap_of h) text n ≡ []
  details-past e = ap details_by (at-structures None e)

  abbrev error_by : Option ModelError → List ℕ
  error_by (Some e) = parts_text (heap_of h) text e
  error_by None = []

  pub parts-there : (e : ErrorObject) → slice_get h.errors.items n ≡ Some e → error_text (heap_of h) text n ≡ parts_text (heap_of h) text (error_of e)
  parts-there x e = ap error_by (slice_get-map error_of h.errors.items n ∙ ap (option_map error_of) e)

  pub parts-past : slice_get h.errors.items n ≡ None → error_text (heap_of h) text n ≡ []
  parts-past e = ap error_by (slice_get-map error_of h.errors.items n ∙ ap (option_map error_of) e)

pub ruleset inside_rules = (append_assoc, append-nil, nothing-inside, met-again, met-first, no-error-inside, error-inside, members-there, members-past, details-there, details-entries, details-past, parts-there, parts-past)
