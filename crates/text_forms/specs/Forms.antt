-- How simple values are written, as lists of characters, and text that is written behind other text.
use Rattle.std.specs.Prelude.{◌≡◌, ◌++◌, ◌==◌, ℕ, Bool, true, false, List, [], ◌∷◌, String, chars, codes, flat_map, if◌then◌else◌, string_bytes}
use Rattle.std.specs.Global.{Global}
use Rattle.std.specs.List.{join_by}

-- a character as it stands in a quoted text
abbrev pub escaped : ℕ → List ℕ
escaped c =
    if c == 34 then codes "\\\""
    else if c == 92 then codes "\\\\"
    else if c == 10 then codes "\\n"
    else if c == 13 then codes "\\r"
    else if c == 9 then codes "\\t"
    else c ∷ []

abbrev pub quoted : List ℕ → List ℕ
quoted t = codes "\"" ++ flat_map escaped t ++ codes "\""

abbrev pub truth_text : Bool → List ℕ
truth_text true = codes "true"
truth_text false = codes "false"

-- a text that may be absent
abbrev pub text_if : Bool → List ℕ → List ℕ
text_if true text = text
text_if false text = []

-- what is listed has a comma between each two
abbrev pub listed : {A : Type 0} → (A → List ℕ) → List A → List ℕ
listed text xs = join_by text (codes ",") xs

-- the characters of what is written
abbrev pub written : String Global → List ℕ
written s = chars (string_bytes s)

-- the new characters are the old ones and behind them the text's
abbrev pub Adds : List ℕ → List ℕ → List ℕ → Type 0
Adds old text new = new ≡ old ++ text
