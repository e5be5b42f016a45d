-- What is given of lists, mappings and errors.
use Rattle.std.proofs.Common.{◌≡◌, ℕ, ℤ, List, Option, Some, None, IsSomeAnd, inl, inr, length, sym, subst}
use Rattle.std.specs.Prelude.{option_map, slice_get}
use Rattle.std.proofs.lemmas.Option.{slice_get-map}
use Rattle.bal_base.specs.declared.text.Text.{Text}
use Rattle.operations.specs.declared.library.LibraryCall.TheVariants.{Slice}
use Rattle.value_model.specs.declared.value.Value.{Value}
use Rattle.value_model.specs.declared.value.Value.TheVariants.{Struct}
use Rattle.value_model.specs.PanicName.{number_parsing_error}
use Rattle.value_model.specs.Stands.{OwnTypes}
use Rattle.value_model.specs.Heap.{ErrorObject as ModelError}
use Rattle.value_model.specs.World.{Came, World}
use Rattle.op_model.specs.Library.{ErrorAt, LibraryComes, ParsesInt, Slices}
use Rattle.op_model.specs.Rows.{GivesList, ListAt, MappingAt, gives_error}
use Rattle.plain_library.specs.Ints.{IsIntOf}
use Rattle.plain_library.specs.Parts.{GivesPart, IsPartAt, IsPartOf, bounded, end_or}
use Rattle.plain_structures.specs.Lookups.{entries_at, items_at}
use Rattle.plain_structures.proofs.Finding.{from-list, from-mapping, none-of, some-of, to-list, to-mapping}

-- a list is made of what is there

module _ (w : World) (n : ℕ) where
  module _ (f : List Value → List Value) (atom : ℕ) where
    abbrev OfItems : Came → List Value → Type 0
    OfItems came vs = GivesList w atom (f vs) came

    pub list-of-values : (made : List Value) (came : Came) → Some made ≡ option_map f (items_at w.heap n) → GivesList w atom made came → ListAt w n (λ s vs. GivesList w atom (f vs) came)
    list-of-values made came e row =
        to-list w n (OfItems came) (some-of f (items_at w.heap n) made (OfItems came) e (λ vs is. subst (λ l. GivesList w atom l came) is row))

    pub no-list-of-values : None ≡ option_map f (items_at w.heap n) → (came : Came) → ¬ (ListAt w n (λ s vs. GivesList w atom (f vs) came))
    no-list-of-values e came row = none-of f (items_at w.heap n) (OfItems came) e (from-list w n (OfItems came) row)

  module _ (f : List (Text × Value) → List Value) (atom : ℕ) where
    abbrev OfEntries : Came → List (Text × Value) → Type 0
    OfEntries came es = GivesList w atom (f es) came

    pub mapping-of-values : (made : List Value) (came : Came) → Some made ≡ option_map f (entries_at w.heap n) → GivesList w atom made came → MappingAt w n (λ s es. GivesList w atom (f es) came)
    mapping-of-values made came e row =
        to-mapping w n (OfEntries came) (some-of f (entries_at w.heap n) made (OfEntries came) e (λ es is. subst (λ l. GivesList w atom l came) is row))

    pub no-mapping-of-values : None ≡ option_map f (entries_at w.heap n) → (came : Came) → ¬ (MappingAt w n (λ s es. GivesList w atom (f es) came))
    no-mapping-of-values e came row = none-of f (entries_at w.heap n) (OfEntries came) e (from-mapping w n (OfEntries came) row)

-- ---- a part of a list

module _ (w : World) (n atom : ℕ) (i : ℤ) (end : Option ℤ) (came : Came) where
  abbrev OfPart : List Value → Type 0
  OfPart vs = Slices w atom vs i (end_or end (length vs)) came

  part-comes : (vs : List Value) (part : Option (List Value)) → IsPartOf vs i (end_or end (length vs)) part → GivesPart w atom part came → OfPart vs
  part-comes vs (Some xs) is row = inl (is.0, subst (λ l. GivesList w atom l came) is.1 row)
  part-comes vs None is row = inr (is, row)

  pub part-given : (part : Option (List Value)) → IsPartAt (items_at w.heap n) i end (Some part) → GivesPart w atom part came → ListAt w n (λ s vs. Slices w atom vs i (end_or end (length vs)) came)
  part-given part is row = to-list w n OfPart (by (items_at w.heap n) is)
    where
      by : (o : Option (List Value)) → IsPartAt o i end (Some part) → IsSomeAnd o OfPart
      by (Some vs) is = part-comes vs part is row
      by None is = absurd is

pub slice-comes : (own : OwnTypes) (w : World) (n atom : ℕ) (i : ℤ) (end : Option ℤ) (came : Came) → ListAt w n (λ s vs. Slices w atom vs i (end_or end (length vs)) came) → LibraryComes own Slice atom (bounded (Struct n) i end) w came
slice-comes own w n atom i (Some j) came row = row
slice-comes own w n atom i None came row = row

-- ---- ints

pub unparsed : (w : World) (o : Option ℤ) (came : Came) → IsIntOf o None → came ≡ gives_error w number_parsing_error → ParsesInt w o came
unparsed w (Some z) came is e = inr (is, e)
unparsed w None came is e = e

-- ---- errors

module _ (w : World) (n : ℕ) (P : ModelError → Type 0) where
  pub error-there : (x : ModelError) → Some x ≡ slice_get w.heap.errors n → P x → ErrorAt w n P
  error-there x e h = subst (λ o. IsSomeAnd o P) e h

  pub error-past : None ≡ slice_get w.heap.errors n → ¬ (ErrorAt w n P)
  error-past e h = subst (λ o. IsSomeAnd o P) (sym e) h

pub ruleset held_errors = (slice_get-map)
