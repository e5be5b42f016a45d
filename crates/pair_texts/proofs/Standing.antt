-- Places that are kept with their lines and columns.
use Rattle.std.proofs.Common.{◌≡◌, ◌≢◌, ℕ, ◌+◌, ◌-◌, ◌<◌, ◌≤◌, List, [], Option, Some, None, IfSome, IsUtf8, chars, encode_utf8_all, length, take, drop, ◌++◌, sym, ap, subst, ◌∙◌, arith}
use Rattle.std.specs.List.{slice_range}
use Rattle.std.specs.Str.{IsCharBoundary}
use Rattle.std.proofs.lemmas.List.{length-take-le}
use Rattle.std.proofs.lemmas.Str.{chars-nil, IsCharBoundary-from_take, IsUtf8-nil, IsUtf8-take}
use Rattle.bal_base.specs.Place.{line_after, column_after}
use Rattle.bal_base.proofs.Lines.{line-small, column-small, chars-short}
use Rattle.bal_tree.specs.Files.{file_in}
use Rattle.bal_tree.specs.declared.package.Module.{Module}
use Rattle.bal_tree.specs.declared.package.SourceFile.{SourceFile}
use Rattle.pair_texts.specs.declared.places.Spot.{Spot}
use Rattle.pair_texts.specs.inner.Spots.{Stands, StandsIn}
use Rattle.pair_texts.proofs.Counting.{CountsOn, counts-on, cut-chars, take-first}

-- ---- the start

pub at-start : (bytes : List ℕ) (s : Spot) → s.at ≡ 0 → s.line ≡ 1 → s.column ≡ 1 → StandsIn bytes s
at-start bytes s at line column =
    let none : chars (take s.at bytes) ≡ [] = ap (λ n. chars (take n bytes)) at ∙ chars-nil in
    record {
      inside = omega (arith, at);
      whole = subst (λ n. IsUtf8 (take n bytes)) (sym at) IsUtf8-nil;
      small = omega (arith, at);
      line = line ∙ sym (ap line_after none);
      column = column ∙ sym (ap column_after none);
    }

if-some : {A : Type 0} (P : A → Type 0) (o : Option A) → ((a : A) → P a) → IfSome o P
if-some P (Some a) h = h a
if-some P None h = tt

pub at-all-starts : (modules : List Module) (s : Spot) → ((bytes : List ℕ) → StandsIn bytes s) → Stands modules s
at-all-starts modules s h = if-some (λ file. StandsIn (encode_utf8_all file.text) s) (file_in s.file modules) (λ file. h (encode_utf8_all file.text))

-- ---- in the files

module _ (modules : List Module) (s : Spot) (n : ℕ) (file : SourceFile) (same : s.file ≡ n) (there : file_in n modules ≡ Some file) where
  abbrev Here : Option SourceFile → Type 0
  Here o = IfSome o (λ f. StandsIn (encode_utf8_all f.text) s)

  pub stands-in : Stands modules s → StandsIn (encode_utf8_all file.text) s
  stands-in h = subst Here (ap (λ k. file_in k modules) same ∙ there) h

  pub stands-there : StandsIn (encode_utf8_all file.text) s → Stands modules s
  stands-there h = subst Here (sym (ap (λ k. file_in k modules) same ∙ there)) h

-- ---- counted on

module _ (bytes : List ℕ) (u : IsUtf8 bytes) (s : Spot) (h : StandsIn bytes s) (at : ℕ) (front : s.at ≤ at) (boundary : IsCharBoundary bytes at) where
  pub is-boundary : IsCharBoundary bytes s.at
  is-boundary = IsCharBoundary-from_take bytes s.at u h.inside h.whole

  abbrev between : List ℕ
  between = slice_range bytes s.at at

  whole-between : take (at - s.at) between ≡ between
  whole-between = take-first (at - s.at) (at - s.at) (drop s.at bytes) (omega arith)

  all-chars : chars (take at bytes) ≡ chars (take s.at bytes) ++ chars (take (at - s.at) between)
  all-chars = cut-chars bytes s.at at h.whole front ∙ ap (λ t. chars (take s.at bytes) ++ chars t) (sym whole-between)

  here : IsUtf8 (take at bytes)
  here = IsUtf8-take bytes at u boundary

  module _ (mid : List ℕ) (is : mid ≡ between) (line column : ℕ) (l0 : line ≡ line_after (chars (take (at - s.at) mid))) (k0 : column ≡ column_after (chars (take (at - s.at) mid))) where
    l : line ≡ line_after (chars (take (at - s.at) between))
    l = l0 ∙ ap (λ t. line_after (chars (take (at - s.at) t))) is

    k : column ≡ column_after (chars (take (at - s.at) between))
    k = k0 ∙ ap (λ t. column_after (chars (take (at - s.at) t))) is

    counted : CountsOn (chars (take s.at bytes)) (chars (take (at - s.at) between))
    counted = counts-on (chars (take s.at bytes)) (chars (take (at - s.at) between))

    pub line-there : line_after (chars (take at bytes)) ≡ s.line + (line - 1)
    line-there = omega (arith, ap line_after all-chars, counted.line, l, h.line)

    pub column-same : line ≡ 1 → column_after (chars (take at bytes)) ≡ s.column + (column - 1)
    column-same one = omega (arith, ap column_after all-chars, counted.same (sym l ∙ one), k, h.column)

    pub column-later : line ≢ 1 → column_after (chars (take at bytes)) ≡ column
    column-later other = ap column_after all-chars ∙ counted.later (λ one. other (l ∙ one)) ∙ sym k

  length-short : length (chars (take at bytes)) ≤ at
  length-short = omega (arith, chars-short (take at bytes) here, length-take-le at bytes boundary.0)

  pub line-fits : line_after (chars (take at bytes)) ≤ at + 1
  line-fits = omega (arith, line-small (chars (take at bytes)), length-short)

  pub column-fits : column_after (chars (take at bytes)) ≤ at + 1
  column-fits = omega (arith, column-small (chars (take at bytes)), length-short)

  pub stands-behind : (t : Spot) → t.at ≡ at → at < 4294967295 → t.line ≡ line_after (chars (take at bytes)) → t.column ≡ column_after (chars (take at bytes)) → StandsIn bytes t
  stands-behind t e small line column =
      record {
        inside = omega (arith, e, boundary.0);
        whole = subst (λ n. IsUtf8 (take n bytes)) (sym e) here;
        small = omega (arith, e, small);
        line = line ∙ ap (λ n. line_after (chars (take n bytes))) (sym e);
        column = column ∙ ap (λ n. column_after (chars (take n bytes))) (sym e);
      }
