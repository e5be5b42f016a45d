-- What holds of each sign, by one evaluation over the table of all.
use Rattle.std.proofs.Common.{◌≡◌, true, false, not, ◌||◌, ◌==◌, nat_le, nat_lt, nat_eq, length, codes, Contains, refl, lit<}
use Rattle.std.specs.List.{starts_with}
use Rattle.std.proofs.lemmas.Bool.{not-true}
use Rattle.bal_base.specs.declared.token.Sign.{Sign}
use Rattle.bal_base.specs.declared.token.Sign.TheVariants as sign
use Rattle.bal_base.proofs.Tables.{every, apart-same}
use Rattle.bal_lexer.specs.Spellings.{sign_text}
use Rattle.bal_lexer.specs.Lexemes.{begins_with}
use Rattle.bal_lexer.specs.Groups.{every_sign}
use Rattle.bal_lexer.proofs.Ascii.{all_ascii}
use Rattle.bal_lexer.proofs.Finds.{descends}

pub signs_descend : descends (λ g. length (sign_text g)) every_sign ≡ true
signs_descend = refl

-- no sign is missing
pub has_sign : (g : Sign) → Contains every_sign g
has_sign sign.Ellipsis = (0, lit< tt, refl)
has_sign sign.DotDotLess = (1, lit< tt, refl)
has_sign sign.DoubleArrow = (2, lit< tt, refl)
has_sign sign.TripleEqual = (3, lit< tt, refl)
has_sign sign.NotTripleEqual = (4, lit< tt, refl)
has_sign sign.OpenBraceBar = (5, lit< tt, refl)
has_sign sign.CloseBraceBar = (6, lit< tt, refl)
has_sign sign.QuestionDot = (7, lit< tt, refl)
has_sign sign.Elvis = (8, lit< tt, refl)
has_sign sign.Arrow = (9, lit< tt, refl)
has_sign sign.LeftArrow = (10, lit< tt, refl)
has_sign sign.FatArrow = (11, lit< tt, refl)
has_sign sign.DoubleEqual = (12, lit< tt, refl)
has_sign sign.NotEqual = (13, lit< tt, refl)
has_sign sign.LessEqual = (14, lit< tt, refl)
has_sign sign.GreaterEqual = (15, lit< tt, refl)
has_sign sign.DoubleAmpersand = (16, lit< tt, refl)
has_sign sign.DoubleBar = (17, lit< tt, refl)
has_sign sign.PlusEqual = (18, lit< tt, refl)
has_sign sign.MinusEqual = (19, lit< tt, refl)
has_sign sign.StarEqual = (20, lit< tt, refl)
has_sign sign.SlashEqual = (21, lit< tt, refl)
has_sign sign.OpenBrace = (22, lit< tt, refl)
has_sign sign.CloseBrace = (23, lit< tt, refl)
has_sign sign.OpenParen = (24, lit< tt, refl)
has_sign sign.CloseParen = (25, lit< tt, refl)
has_sign sign.OpenBracket = (26, lit< tt, refl)
has_sign sign.CloseBracket = (27, lit< tt, refl)
has_sign sign.Semicolon = (28, lit< tt, refl)
has_sign sign.Comma = (29, lit< tt, refl)
has_sign sign.Colon = (30, lit< tt, refl)
has_sign sign.Dot = (31, lit< tt, refl)
has_sign sign.Question = (32, lit< tt, refl)
has_sign sign.Equal = (33, lit< tt, refl)
has_sign sign.Less = (34, lit< tt, refl)
has_sign sign.Greater = (35, lit< tt, refl)
has_sign sign.Ampersand = (36, lit< tt, refl)
has_sign sign.Bar = (37, lit< tt, refl)
has_sign sign.Not = (38, lit< tt, refl)
has_sign sign.Plus = (39, lit< tt, refl)
has_sign sign.Minus = (40, lit< tt, refl)
has_sign sign.Star = (41, lit< tt, refl)
has_sign sign.Slash = (42, lit< tt, refl)
has_sign sign.Percent = (43, lit< tt, refl)
has_sign sign.Underscore = (44, lit< tt, refl)

pub sign_ascii : (g : Sign) → all_ascii (sign_text g) ≡ true
sign_ascii g = every every_sign has_sign (λ h. all_ascii (sign_text h)) refl g

-- no sign is empty
pub sign_length : (g : Sign) → nat_lt 0 (length (sign_text g)) ≡ true
sign_length g = every every_sign has_sign (λ h. nat_lt 0 (length (sign_text h))) refl g

-- a sign that begins with `/` has two characters at most
pub slash_short : (g : Sign) → (not (begins_with (λ c. c == 47) (sign_text g)) || nat_le (length (sign_text g)) 2) ≡ true
slash_short g = every every_sign has_sign (λ h. not (begins_with (λ c. c == 47) (sign_text h)) || nat_le (length (sign_text h)) 2) refl g

-- no sign is a comment
pub no_comment : (g : Sign) → starts_with nat_eq (sign_text g) (codes "//") ≡ false
no_comment g = not-true (starts_with nat_eq (sign_text g) (codes "//")) (every every_sign has_sign (λ h. not (starts_with nat_eq (sign_text h) (codes "//"))) refl g)

-- no two signs are written alike
pub sign_text-same : (g h : Sign) → sign_text g ≡ sign_text h → g ≡ h
sign_text-same g h e = apart-same sign_text every_sign g h refl (has_sign g) (has_sign h) e
