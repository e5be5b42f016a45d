-- Two source files of one text import the same: their imports are written out alike, word by word.
use Rattle.std.proofs.Common.{◌≡◌, ℕ, List, [], ◌∷◌, map, refl, sym, subst}
use Rattle.std.specs.Prelude.{Option, Some, None, ⊤}
use Rattle.bal_base.specs.declared.place.Place.{Place}
use Rattle.bal_base.specs.declared.token.Keyword.TheVariants.{As}
use Rattle.bal_base.specs.declared.token.Sign.TheVariants.{Dot, Slash}
use Rattle.bal_lexer.proofs.Readings.{lexes-same}
use Rattle.bal_tree.specs.declared.def.FileTree.{FileTree}
use Rattle.bal_tree.specs.declared.def.Import.{Import}
use Rattle.bal_tree.specs.declared.name.Word.{Word}
use Rattle.bal_tree.specs.declared.package.SourceFile.{SourceFile}
use Rattle.bal_tree.specs.DefPieces.{import_pieces, word_after, word_behind}
use Rattle.bal_tree.specs.NamePieces.{word_pieces}
use Rattle.bal_tree.specs.Pieces.{Pieces, behind, if_there, joined}
use Rattle.bal_tree.specs.Reads.{Reads}
use Rattle.parse_stmt.specs.Chosen.{IsSameFile}
use Rattle.parse_stmt.proofs.OneTree.{chosen-one}
use Rattle.source_files.specs.Files.{IsSource}
use Rattle.source_files.specs.Sources.{ReadsAs}

-- two imports have the same words at the same places, wherever these lie in memory
pub record IsAlike (i j : Import) : Type 0 where
  pub first : i.first ≡ j.first
  pub second : i.second ≡ j.second
  pub more : i.more.items ≡ j.more.items
  pub prefix : i.prefix ≡ j.prefix
  pub at : i.at ≡ j.at

-- one by one
abbrev pub AreAlike : List Import → List Import → Type 0
AreAlike [] [] = ⊤
AreAlike [] (j ∷ js) = ⊥
AreAlike (i ∷ is) [] = ⊥
AreAlike (i ∷ is) (j ∷ js) = IsAlike i j × AreAlike is js

-- ---- words

word-alike : (w v : Word) → word_pieces w ≡ word_pieces v → w ≡ v
word-alike w v e =
    let name : w.name ≡ v.name = cc e in
    let at : w.at ≡ v.at = cc e in
    λ k. record { name = name k; at = at k }

-- one that may be absent, as `f` writes it out
if-alike : (f : Word → Pieces) → ((w v : Word) → f w ≡ f v → w ≡ v) → ((w : Word) → f w ≡ if_there f None → ⊥) → (a b : Option Word) → if_there f a ≡ if_there f b → a ≡ b
if-alike f same there None None e = refl
if-alike f same there (Some w) None e = absurd (there w e)
if-alike f same there None (Some v) e = absurd (there v (sym e))
if-alike f same there (Some w) (Some v) e = λ k. Some (same w v e k)

behind-alike : (w v : Word) → word_behind Slash w ≡ word_behind Slash v → w ≡ v
behind-alike w v e = word-alike w v (cc e)

after-alike : (w v : Word) → word_after As w ≡ word_after As v → w ≡ v
after-alike w v e = word-alike w v (cc e)

more-alike : (ws vs : List Word) → behind Dot (map word_pieces ws) ≡ behind Dot (map word_pieces vs) → ws ≡ vs
more-alike [] [] e = refl
more-alike [] (v ∷ vs) e = cc e
more-alike (w ∷ ws) [] e = cc e
more-alike (w ∷ ws) (v ∷ vs) e =
    let here = word-alike w v (cc e) in
    let rest = more-alike ws vs (cc e) in
    λ k. here k ∷ rest k

-- ---- imports

import-alike : (i j : Import) → import_pieces i ≡ import_pieces j → IsAlike i j
import-alike i j e =
    record {
      first = word-alike i.first j.first (cc e);
      second = if-alike (word_behind Slash) behind-alike (λ w n. cc n) i.second j.second (cc e);
      more = more-alike i.more.items j.more.items (cc e);
      prefix = if-alike (word_after As) after-alike (λ w n. cc n) i.prefix j.prefix (cc e);
      at = cc e;
    }

imports-alike : (is js : List Import) → joined (map import_pieces is) ≡ joined (map import_pieces js) → AreAlike is js
imports-alike [] [] e = tt
imports-alike [] (j ∷ js) e = cc e
imports-alike (i ∷ is) [] e = cc e
imports-alike (i ∷ is) (j ∷ js) e = (import-alike i j (cc e), imports-alike is js (cc e))

-- ---- files

same-file : (file : ℕ) (bytes : List ℕ) (t u : FileTree) → ReadsAs file bytes t → ReadsAs file bytes u → IsSameFile t u
same-file file bytes t u h k =
    chosen-one file h.tokens t u h.reads (subst (λ l. Reads file l u) (lexes-same k.are.1 h.are.1) k.reads) h.chosen k.chosen

pub source-alike : (file : ℕ) (name bytes : List ℕ) (a b : SourceFile) → IsSource file name bytes a → IsSource file name bytes b → AreAlike a.tree.imports.items b.tree.imports.items
source-alike file name bytes a b h k =
    let same = same-file file bytes a.tree b.tree h.reads k.reads in
    imports-alike a.tree.imports.items b.tree.imports.items (cc same)
