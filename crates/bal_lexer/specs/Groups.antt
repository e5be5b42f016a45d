-- Words and signs by how they begin: a look-up compares what it has before it with few of them.
use Rattle.std.specs.Prelude.{ℕ, ◌==◌, if◌then◌else◌, List, [], ◌∷◌, codes}
use Rattle.bal_base.specs.declared.token.Keyword.{Keyword}
use Rattle.bal_base.specs.declared.token.Keyword.TheVariants as keyword
use Rattle.bal_base.specs.declared.token.Sign.{Sign}
use Rattle.bal_base.specs.declared.token.Sign.TheVariants as sign

-- the first byte, or 0 where there is none
abbrev pub first_byte : List ℕ → ℕ
first_byte [] = 0
first_byte (c ∷ cs) = c

-- every keyword
abbrev pub every_keyword : List Keyword
every_keyword =
    keyword.Import ∷ keyword.As ∷ keyword.Public ∷ keyword.Type ∷ keyword.Const ∷ keyword.Final ∷ keyword.Var ∷
    keyword.Function ∷ keyword.Returns ∷ keyword.Return ∷ keyword.Isolated ∷ keyword.Worker ∷ keyword.Record ∷ keyword.Map ∷
    keyword.Error ∷ keyword.Future ∷ keyword.Any ∷ keyword.AnyData ∷ keyword.Never ∷ keyword.ReadOnly ∷ keyword.Int ∷
    keyword.String ∷ keyword.Boolean ∷ keyword.Byte ∷ keyword.True ∷ keyword.False ∷ keyword.If ∷ keyword.Else ∷
    keyword.While ∷ keyword.Foreach ∷ keyword.In ∷ keyword.Match ∷ keyword.Break ∷ keyword.Continue ∷ keyword.Is ∷
    keyword.Check ∷ keyword.CheckPanic ∷ keyword.Trap ∷ keyword.Panic ∷ keyword.Start ∷ keyword.Wait ∷ keyword.Flush ∷ []

-- every sign, longer ones before shorter ones
abbrev pub every_sign : List Sign
every_sign =
    sign.Ellipsis ∷ sign.DotDotLess ∷ sign.DoubleArrow ∷ sign.TripleEqual ∷ sign.NotTripleEqual ∷ sign.OpenBraceBar ∷ sign.CloseBraceBar ∷
    sign.QuestionDot ∷ sign.Elvis ∷ sign.Arrow ∷ sign.LeftArrow ∷ sign.FatArrow ∷ sign.DoubleEqual ∷ sign.NotEqual ∷
    sign.LessEqual ∷ sign.GreaterEqual ∷ sign.DoubleAmpersand ∷ sign.DoubleBar ∷ sign.PlusEqual ∷ sign.MinusEqual ∷ sign.StarEqual ∷
    sign.SlashEqual ∷ sign.OpenBrace ∷ sign.CloseBrace ∷ sign.OpenParen ∷ sign.CloseParen ∷ sign.OpenBracket ∷ sign.CloseBracket ∷
    sign.Semicolon ∷ sign.Comma ∷ sign.Colon ∷ sign.Dot ∷ sign.Question ∷ sign.Equal ∷ sign.Less ∷
    sign.Greater ∷ sign.Ampersand ∷ sign.Bar ∷ sign.Not ∷ sign.Plus ∷ sign.Minus ∷ sign.Star ∷
    sign.Slash ∷ sign.Percent ∷ sign.Underscore ∷ []

-- those that begin so
unfoldable pub keywords_from : ℕ → List Keyword
keywords_from first =
    if first == 97 then keyword.As ∷ keyword.Any ∷ keyword.AnyData ∷ []
    else if first == 98 then keyword.Boolean ∷ keyword.Byte ∷ keyword.Break ∷ []
    else if first == 99 then keyword.Const ∷ keyword.Continue ∷ keyword.Check ∷ keyword.CheckPanic ∷ []
    else if first == 101 then keyword.Error ∷ keyword.Else ∷ []
    else if first == 102 then keyword.Final ∷ keyword.Function ∷ keyword.Future ∷ keyword.False ∷ keyword.Foreach ∷ keyword.Flush ∷ []
    else if first == 105 then keyword.Import ∷ keyword.Isolated ∷ keyword.Int ∷ keyword.If ∷ keyword.In ∷ keyword.Is ∷ []
    else if first == 109 then keyword.Map ∷ keyword.Match ∷ []
    else if first == 110 then keyword.Never ∷ []
    else if first == 112 then keyword.Public ∷ keyword.Panic ∷ []
    else if first == 114 then keyword.Returns ∷ keyword.Return ∷ keyword.Record ∷ keyword.ReadOnly ∷ []
    else if first == 115 then keyword.String ∷ keyword.Start ∷ []
    else if first == 116 then keyword.Type ∷ keyword.True ∷ keyword.Trap ∷ []
    else if first == 118 then keyword.Var ∷ []
    else if first == 119 then keyword.Worker ∷ keyword.While ∷ keyword.Wait ∷ []
    else []

-- the same of signs, longer ones before shorter ones
unfoldable pub signs_from : ℕ → List Sign
signs_from first =
    if first == 33 then sign.NotTripleEqual ∷ sign.NotEqual ∷ sign.Not ∷ []
    else if first == 37 then sign.Percent ∷ []
    else if first == 38 then sign.DoubleAmpersand ∷ sign.Ampersand ∷ []
    else if first == 40 then sign.OpenParen ∷ []
    else if first == 41 then sign.CloseParen ∷ []
    else if first == 42 then sign.StarEqual ∷ sign.Star ∷ []
    else if first == 43 then sign.PlusEqual ∷ sign.Plus ∷ []
    else if first == 44 then sign.Comma ∷ []
    else if first == 45 then sign.DoubleArrow ∷ sign.Arrow ∷ sign.MinusEqual ∷ sign.Minus ∷ []
    else if first == 46 then sign.Ellipsis ∷ sign.DotDotLess ∷ sign.Dot ∷ []
    else if first == 47 then sign.SlashEqual ∷ sign.Slash ∷ []
    else if first == 58 then sign.Colon ∷ []
    else if first == 59 then sign.Semicolon ∷ []
    else if first == 60 then sign.LeftArrow ∷ sign.LessEqual ∷ sign.Less ∷ []
    else if first == 61 then sign.TripleEqual ∷ sign.FatArrow ∷ sign.DoubleEqual ∷ sign.Equal ∷ []
    else if first == 62 then sign.GreaterEqual ∷ sign.Greater ∷ []
    else if first == 63 then sign.QuestionDot ∷ sign.Elvis ∷ sign.Question ∷ []
    else if first == 91 then sign.OpenBracket ∷ []
    else if first == 93 then sign.CloseBracket ∷ []
    else if first == 95 then sign.Underscore ∷ []
    else if first == 123 then sign.OpenBraceBar ∷ sign.OpenBrace ∷ []
    else if first == 124 then sign.CloseBraceBar ∷ sign.DoubleBar ∷ sign.Bar ∷ []
    else if first == 125 then sign.CloseBrace ∷ []
    else []

-- the words that are left out, by their first letter
unfoldable pub left_out_groups : List (ℕ × List (List ℕ))
left_out_groups =
    (97, codes "annotation" ∷ []) ∷
    (99, codes "class" ∷ codes "client" ∷ codes "commit" ∷ []) ∷
    (100, codes "decimal" ∷ codes "do" ∷ codes "distinct" ∷ []) ∷
    (101, codes "enum" ∷ codes "external" ∷ []) ∷
    (102, codes "float" ∷ codes "fork" ∷ codes "fail" ∷ codes "from" ∷ []) ∷
    (104, codes "handle" ∷ []) ∷
    (105, codes "init" ∷ []) ∷
    (106, codes "json" ∷ []) ∷
    (108, codes "lock" ∷ codes "let" ∷ codes "listener" ∷ []) ∷
    (110, codes "new" ∷ []) ∷
    (111, codes "object" ∷ []) ∷
    (114, codes "resource" ∷ codes "remote" ∷ codes "rollback" ∷ codes "retry" ∷ []) ∷
    (115, codes "stream" ∷ codes "service" ∷ codes "select" ∷ []) ∷
    (116, codes "table" ∷ codes "typedesc" ∷ codes "transaction" ∷ codes "typeof" ∷ []) ∷
    (120, codes "xml" ∷ []) ∷ []

abbrev pub group_of : ℕ → List (ℕ × List (List ℕ)) → List (List ℕ)
group_of first [] = []
group_of first ((letter, words) ∷ groups) = if first == letter then words else group_of first groups

unfoldable pub left_out_from : ℕ → List (List ℕ)
left_out_from first = group_of first left_out_groups
