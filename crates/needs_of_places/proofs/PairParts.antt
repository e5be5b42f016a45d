-- Rows of operands in pairs, where the pairs were taken.
use Rattle.std.proofs.Common.{◌≡◌, ◌∙◌, ◌≤◌, ◌<◌, ℕ, Bool, List, [], ◌∷◌, Option, Some, None, Bor, drop, length, slice_index_or, option_copied, slice_get, refl, sym, subst, ap, arith}
use Rattle.type_model.specs.declared.atoms.AtomDef.{AtomDef}
use Rattle.type_model.specs.declared.basic.SemType.{SemType}
use Rattle.operations.specs.declared.operation.Operation.TheVariants as op
use Rattle.pair_questions.specs.declared.pair.Pair.{Pair}
use Rattle.pair_questions.specs.Pairs.{pairs_of}
use Rattle.stack_code.specs.Commands.{Do}
use Rattle.code_needs.specs.Combining.{Needs, ◌&◌, each, in_pairs, need, of_mapping, of_some, one_and_more}
use Rattle.code_needs.specs.declared.kind.Kind.TheVariants.{ImmutableData, NilsOrErrors, Strings}
use Rattle.code_needs.specs.Needs.{HasErrorsOf, HasMade}
use Rattle.code_needs.specs.RowNeeds.{may_stand, what_pairs_need, within}
use Rattle.needs_of_rows.specs.PairsTaken.{TakesPairs}
use Rattle.needs_of_places.specs.declared.site.Site.{Site}
use Rattle.needs_of_places.specs.Sites.{row_at}

module _ (site : Site) (ts : List SemType) (r : Option SemType) (atom count : ℕ) (immutable : Bool) where
  -- what a mapping of these pairs needs, whose atom has this definition
  abbrev of_pairs : Option AtomDef → List (SemType × SemType) → Needs
  of_pairs def ps =
      each (λ p. within p.0 Strings) ps & of_mapping def (λ fields rest. what_pairs_need fields rest ps) & each (λ p. may_stand immutable p.1) ps
      & of_some r (λ t. need (HasMade t atom immutable))

  pub mapping-so : (o : Option (Bor (List Pair))) (ps : Bor (List Pair)) (def : Option AtomDef) → o ≡ Some ps → TakesPairs count ts (option_copied o) → def ≡ slice_get site.code.now.atoms atom
      → of_pairs def (pairs_of ps.now) ≡ row_at site ts r (Some (Do (op.MakeMapping atom immutable count)))
  mapping-so o ps def e takes d =
      let taken : TakesPairs count ts (Some ps.now) = subst (λ (x : Option (Bor (List Pair))). TakesPairs count ts (option_copied x)) e takes in
      ap (λ (x : Option AtomDef). of_pairs x (pairs_of ps.now)) d ∙ sym (taken (of_pairs (slice_get site.code.now.atoms atom)))

  pub no-mapping : (o : Option (Bor (List Pair))) → o ≡ None → TakesPairs count ts (option_copied o) → None ≡ row_at site ts r (Some (Do (op.MakeMapping atom immutable count)))
  no-mapping o e takes =
      let taken : TakesPairs count ts None = subst (λ (x : Option (Bor (List Pair))). TakesPairs count ts (option_copied x)) e takes in
      sym (taken (of_pairs (slice_get site.code.now.atoms atom)))

module _ (ts : List SemType) (r : Option SemType) where
  -- what an error of this message, this cause and these pairs needs
  abbrev of_details : SemType → SemType → List (SemType × SemType) → Needs
  of_details message cause ps =
      within message Strings & within cause NilsOrErrors & each (λ p. within p.0 Strings & within p.1 ImmutableData) ps & of_some r (λ t. need (HasErrorsOf t ps))

  -- what it needs of so many pairs of operands behind the message and the cause
  abbrev of_error : ℕ → List SemType → Needs
  of_error count xs = one_and_more xs (λ message behind. one_and_more behind (λ cause details. in_pairs count details (of_details message cause)))

  pub error-so : (count : ℕ) (a b : SemType) (pairs : Option (List Pair)) → 2 ≤ length ts → a ≡ slice_index_or ts 0 a → b ≡ slice_index_or ts 1 b
      → TakesPairs count (drop 2 ts) pairs → of_some pairs (λ ps. of_details a b (pairs_of ps)) ≡ of_error count ts
  error-so count a b pairs long d e takes = by ts long d e takes
    where
      by : (xs : List SemType) → 2 ≤ length xs → a ≡ slice_index_or xs 0 a → b ≡ slice_index_or xs 1 b → TakesPairs count (drop 2 xs) pairs
          → of_some pairs (λ ps. of_details a b (pairs_of ps)) ≡ of_error count xs
      by [] long d e takes = absurd (omega (arith, long))
      by (x ∷ []) long d e takes = absurd (omega (arith, long))
      by (x ∷ y ∷ xs) long d e takes = taken-as pairs takes ∙ (λ i. in_pairs count xs (of_details (d i) (e i)))
        where
          taken-as : (p : Option (List Pair)) → TakesPairs count xs p → of_some p (λ ps. of_details a b (pairs_of ps)) ≡ in_pairs count xs (of_details a b)
          taken-as (Some ps) t = sym (t (of_details a b))
          taken-as None t = sym (t (of_details a b))

  pub no-error : (count : ℕ) → length ts < 2 → None ≡ of_error count ts
  no-error count short = by ts short
    where
      by : (xs : List SemType) → length xs < 2 → None ≡ of_error count xs
      by [] short = refl
      by (x ∷ []) short = refl
      by (x ∷ y ∷ xs) short = absurd (omega (arith, short))
