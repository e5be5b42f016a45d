-- Names: identifiers joined by dots. Texts are their code points.
use Rattle.std.specs.Prelude.{ℕ, Bool, true, false, ◌==◌, ◌&&◌, if◌then◌else◌, List, [], ◌∷◌}
use Rattle.std.specs.List.{list_all}
use Rattle.unicode_ident.specs.Ident.{is_xid_start, is_xid_continue}

-- it has at least one character
abbrev pub has_some : List ℕ → Bool
has_some [] = false
has_some (c ∷ cs) = true

-- a word by its characters, whether the language has it or not; an underscore alone is none
abbrev pub is_identifier : List ℕ → Bool
is_identifier [] = false
is_identifier (c ∷ cs) =
    if c == 95 then has_some cs && list_all is_xid_continue cs else is_xid_start c && list_all is_xid_continue cs

-- what stands before the first dot of a text
abbrev pub first_part : List ℕ → List ℕ
first_part [] = []
first_part (c ∷ cs) = if c == 46 then [] else c ∷ first_part cs

-- what stands behind each dot, up to the next one
abbrev pub other_parts : List ℕ → List (List ℕ)
other_parts [] = []
other_parts (c ∷ cs) = if c == 46 then first_part cs ∷ other_parts cs else other_parts cs

-- one or more identifiers joined by dots
abbrev pub is_dotted_name : List ℕ → Bool
is_dotted_name text = is_identifier (first_part text) && list_all is_identifier (other_parts text)
