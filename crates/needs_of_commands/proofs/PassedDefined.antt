-- What is to be known of a code before its needs are asked about, by what is tested of its numbers.
use Rattle.std.proofs.Common.{◌≡◌, ◌<◌, ℕ, zero, suc, List, [], ◌∷◌, Option, Some, None, All, arith, get_or, length, refl, slice_get, subst}
use Rattle.std.specs.Prelude.{IsSomeAnd}
use Rattle.std.proofs.lemmas.Option.{slice_get_within}
use Rattle.type_model.specs.Defined.{IsDefined}
use Rattle.stack_code.specs.declared.code.StackMap.{StackMap}
use Rattle.stack_code.specs.Places.{no_map}
use Rattle.needs_of_commands.specs.Laws.{PassedIsDefined}

same-at : {A : Type 0} (xs : List A) (k : ℕ) (c d : A) → k < length xs → get_or xs k c ≡ get_or xs k d
same-at [] k c d l = absurd (omega (arith, l))
same-at (x ∷ xs) zero c d l = refl
same-at (x ∷ xs) (suc k) c d l = same-at xs k c d (omega (arith, l))

some-within : {A : Type 0} (P : A → Type 0) (xs : List A) (n : ℕ) → IsSomeAnd (slice_get xs n) P → n < length xs
some-within {A} P xs n h = by (slice_get xs n) refl h
  where
    by : (o : Option A) → slice_get xs n ≡ o → IsSomeAnd o P → n < length xs
    by (Some x) e h = slice_get_within xs n x e
    by None e h = absurd h

pub passed-defined : PassedIsDefined
passed-defined code fields places = record {
  types = fields.types;
  maps = λ k m lt.
      let inside : k < length code.instrs = omega (arith, lt, fields.maps) in
      let (u, station, passes) = places k inside in
      subst (λ (x : StackMap). All (IsDefined code.atoms) x.stack) (same-at code.maps k no_map m lt) passes.defined;
  inherent = λ k a lt. some-within _ code.atoms (get_or code.inherent k a) (fields.inherent k a lt);
}
