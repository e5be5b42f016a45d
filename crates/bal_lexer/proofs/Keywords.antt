-- What holds of each keyword, by one evaluation over the table of all.
use Rattle.std.proofs.Common.{◌≡◌, true, false, not, codes, Some, Contains, find, refl, lit<}
use Rattle.std.specs.Str.{bytes_eq}
use Rattle.std.specs.List.{list_any}
use Rattle.std.proofs.lemmas.Bool.{not-true}
use Rattle.bal_base.specs.declared.token.Keyword.{Keyword}
use Rattle.bal_base.specs.declared.token.Keyword.TheVariants as keyword
use Rattle.bal_base.proofs.Tables.{every, find-written}
use Rattle.bal_lexer.specs.Spellings.{keyword_text, left_out_words}
use Rattle.bal_lexer.specs.Groups.{every_keyword}
use Rattle.bal_lexer.proofs.Ascii.{all_ascii}

-- no keyword is missing
pub has_keyword : (k : Keyword) → Contains every_keyword k
has_keyword keyword.Import = (0, lit< tt, refl)
has_keyword keyword.As = (1, lit< tt, refl)
has_keyword keyword.Public = (2, lit< tt, refl)
has_keyword keyword.Type = (3, lit< tt, refl)
has_keyword keyword.Const = (4, lit< tt, refl)
has_keyword keyword.Final = (5, lit< tt, refl)
has_keyword keyword.Var = (6, lit< tt, refl)
has_keyword keyword.Function = (7, lit< tt, refl)
has_keyword keyword.Returns = (8, lit< tt, refl)
has_keyword keyword.Return = (9, lit< tt, refl)
has_keyword keyword.Isolated = (10, lit< tt, refl)
has_keyword keyword.Worker = (11, lit< tt, refl)
has_keyword keyword.Record = (12, lit< tt, refl)
has_keyword keyword.Map = (13, lit< tt, refl)
has_keyword keyword.Error = (14, lit< tt, refl)
has_keyword keyword.Future = (15, lit< tt, refl)
has_keyword keyword.Any = (16, lit< tt, refl)
has_keyword keyword.AnyData = (17, lit< tt, refl)
has_keyword keyword.Never = (18, lit< tt, refl)
has_keyword keyword.ReadOnly = (19, lit< tt, refl)
has_keyword keyword.Int = (20, lit< tt, refl)
has_keyword keyword.String = (21, lit< tt, refl)
has_keyword keyword.Boolean = (22, lit< tt, refl)
has_keyword keyword.Byte = (23, lit< tt, refl)
has_keyword keyword.True = (24, lit< tt, refl)
has_keyword keyword.False = (25, lit< tt, refl)
has_keyword keyword.If = (26, lit< tt, refl)
has_keyword keyword.Else = (27, lit< tt, refl)
has_keyword keyword.While = (28, lit< tt, refl)
has_keyword keyword.Foreach = (29, lit< tt, refl)
has_keyword keyword.In = (30, lit< tt, refl)
has_keyword keyword.Match = (31, lit< tt, refl)
has_keyword keyword.Break = (32, lit< tt, refl)
has_keyword keyword.Continue = (33, lit< tt, refl)
has_keyword keyword.Is = (34, lit< tt, refl)
has_keyword keyword.Check = (35, lit< tt, refl)
has_keyword keyword.CheckPanic = (36, lit< tt, refl)
has_keyword keyword.Trap = (37, lit< tt, refl)
has_keyword keyword.Panic = (38, lit< tt, refl)
has_keyword keyword.Start = (39, lit< tt, refl)
has_keyword keyword.Wait = (40, lit< tt, refl)
has_keyword keyword.Flush = (41, lit< tt, refl)

pub keyword_ascii : (k : Keyword) → all_ascii (keyword_text k) ≡ true
keyword_ascii k = every every_keyword has_keyword (λ g. all_ascii (keyword_text g)) refl k

-- no keyword is left out
pub keyword-not_left_out : (k : Keyword) → list_any (λ w. bytes_eq w (keyword_text k)) left_out_words ≡ false
unfolding left_out_words
keyword-not_left_out k =
    not-true (list_any (λ w. bytes_eq w (keyword_text k)) left_out_words) (every every_keyword has_keyword (λ g. not (list_any (λ w. bytes_eq w (keyword_text g)) left_out_words)) refl k)

-- no keyword is a sign
pub keyword-no_sign : (k : Keyword) → bytes_eq (keyword_text k) (codes "_") ≡ false
keyword-no_sign k = not-true (bytes_eq (keyword_text k) (codes "_")) (every every_keyword has_keyword (λ g. not (bytes_eq (keyword_text g) (codes "_"))) refl k)

-- no two keywords are written alike
pub find-keyword : (k : Keyword) → find (λ h. bytes_eq (keyword_text h) (keyword_text k)) every_keyword ≡ Some k
find-keyword k = find-written keyword_text every_keyword k refl (has_keyword k)
