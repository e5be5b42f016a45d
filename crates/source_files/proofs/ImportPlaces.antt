-- The imports of a source file stand in its text.
use Rattle.std.proofs.Common.{◌≡◌, ◌<◌, ℕ, zero, suc, List, [], ◌∷◌, length, map, refl, sym, subst, arith}
use Rattle.std.specs.Prelude.{All}
use Rattle.std.specs.Str.{IsUtf8}
use Rattle.bal_base.specs.declared.token.Token.{Token}
use Rattle.bal_lexer.proofs.Spans.{spans}
use Rattle.bal_tree.specs.declared.def.Import.{Import}
use Rattle.bal_tree.specs.declared.package.SourceFile.{SourceFile}
use Rattle.bal_tree.specs.DefPieces.{import_pieces}
use Rattle.bal_tree.specs.Pieces.{joined}
use Rattle.bal_tree.specs.Spells.{Spells, first_place}
use Rattle.source_files.specs.Files.{IsSource}
use Rattle.source_files.specs.Places.{AreImportsOf, IsPlaceOf}
use Rattle.source_files.proofs.TokenPlaces.{AreTokens, behind-pieces, first-placed, of-spans}

first-in : (file : ℕ) (tokens : List Token) → (first_place file tokens).file ≡ file
first-in file [] = refl
first-in file (t ∷ tokens) = refl

all-none : {X : Type 0} (P : X → Type 0) → All P []
all-none P k d lt = absurd (let no-way : ⊥ = omega arith in no-way)

all-more : {X : Type 0} (P : X → Type 0) (x : X) (xs : List X) → P x → All P xs → All P (x ∷ xs)
all-more P x xs here all zero d lt = here
all-more P x xs here all (suc k) d lt = all k d (omega arith)

module _ (file : ℕ) (text : List ℕ) (utf8 : IsUtf8 text) (small : length text < 4294967295) where
  first-of : (tokens : List Token) → AreTokens text tokens → IsPlaceOf file text (first_place file tokens)
  first-of tokens are =
      let here = first-placed file text tokens utf8 small are in
      record { number = first-in file tokens; boundary = here.0; small = here.1 }

  imports-placed : (imports : List Import) (tokens rest : List Token) → AreTokens text tokens → Spells file (joined (map import_pieces imports)) tokens rest → AreImportsOf file text imports
  imports-placed [] tokens rest are spells = all-none (λ (i : Import). IsPlaceOf file text i.at)
  imports-placed (i ∷ imports) tokens rest are spells =
      all-more (λ (i : Import). IsPlaceOf file text i.at) i imports (subst (IsPlaceOf file text) (sym spells.1.1.0) (first-of tokens are))
      (imports-placed imports spells.0 rest (behind-pieces text file (import_pieces i) tokens spells.0 spells.1 are) spells.2)

-- those of a file that was read
pub source-imports : (file : ℕ) (name bytes : List ℕ) (source : SourceFile) → IsSource file name bytes source → AreImportsOf file bytes source.tree.imports.items
source-imports file name bytes source h =
    let read = h.reads in
    let utf8 = read.are.0.1 in
    let short = read.are.0.0 in
    let small : length bytes < 4294967295 = omega arith in
    let tokens = of-spans bytes 0 read.tokens (spans bytes read.tokens utf8 read.are.1) in
    let spells = read.reads.1 in
    imports-placed file bytes utf8 small source.tree.imports.items spells.0 spells.2.0 (subst (AreTokens bytes) spells.1.1 tokens) spells.2.1
