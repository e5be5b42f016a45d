-- One more character of a dotted name.
use Rattle.std.proofs.Common.{◌≡◌, ℕ, Bool, true, false, ◌==◌, ◌&&◌, if◌then◌else◌, List, [], ◌∷◌, ◌+◌, ◌<◌, refl, drop, length, get_or, ◌∙◌}
use Rattle.std.proofs.lemmas.List.{at_drop_more}
use Rattle.std.specs.List.{list_all}
use Rattle.unicode_ident.specs.Ident.{is_xid_start, is_xid_continue}
use Rattle.manifests.specs.Names.{has_some, is_identifier, first_part, other_parts}
use Rattle.manifests.specs.inner.Parts.{part_behind, part_is, rest_is}
use Rattle.manifests.specs.declared.names.Part.{Part}
use Rattle.manifests.specs.declared.names.Part.TheVariants.{Begins, Underscore, Inside, Broken}

-- what is left behind a character of which this is whether it is a dot
abbrev left : Part → Bool → ℕ → List ℕ → List (List ℕ) → Bool
left part dot c p ps = part_is part (if dot then [] else c ∷ p) && list_all is_identifier (if dot then p ∷ ps else ps)

abbrev goes : Part → List ℕ → List (List ℕ) → Bool
goes part p ps = part_is part p && list_all is_identifier ps

starts : (s : Bool) (c : ℕ) (p : List ℕ) (ps : List (List ℕ)) → ((s && list_all is_xid_continue p) && list_all is_identifier ps) ≡ goes (if s then Inside else Broken) p ps
starts true c p ps = refl
starts false c p ps = refl

begins : (under : Bool) (c : ℕ) (p : List ℕ) (ps : List (List ℕ))
    → ((if under then has_some p && list_all is_xid_continue p else is_xid_start c && list_all is_xid_continue p) && list_all is_identifier ps)
    ≡ goes (if under then Underscore else if is_xid_start c then Inside else Broken) p ps
begins true c p ps = refl
begins false c p ps = starts (is_xid_start c) c p ps

at_begin : (dot : Bool) (c : ℕ) (p : List ℕ) (ps : List (List ℕ))
    → left Begins dot c p ps ≡ goes (if dot then Broken else if c == 95 then Underscore else if is_xid_start c then Inside else Broken) p ps
at_begin true c p ps = refl
at_begin false c p ps = begins (c == 95) c p ps

at_underscore : (dot : Bool) (c : ℕ) (p : List ℕ) (ps : List (List ℕ)) → left Underscore dot c p ps ≡ goes (if dot then Broken else if is_xid_continue c then Inside else Broken) p ps
at_underscore true c p ps = refl
at_underscore false c p ps = starts (is_xid_continue c) c p ps

within : (dot : Bool) (c : ℕ) (p : List ℕ) (ps : List (List ℕ)) → left Inside dot c p ps ≡ goes (if dot then Begins else if is_xid_continue c then Inside else Broken) p ps
within true c p ps = refl
within false c p ps = starts (is_xid_continue c) c p ps

-- one more character
pub rest_is-cons : (part : Part) (c : ℕ) (cs : List ℕ) → rest_is part (c ∷ cs) ≡ rest_is (part_behind part c) cs
rest_is-cons Begins c cs = at_begin (c == 46) c (first_part cs) (other_parts cs)
rest_is-cons Underscore c cs = at_underscore (c == 46) c (first_part cs) (other_parts cs)
rest_is-cons Inside c cs = within (c == 46) c (first_part cs) (other_parts cs)
rest_is-cons Broken c cs = refl

-- the same at a place of a text
pub rest_is-drop : (part : Part) (text : List ℕ) (i : ℕ) → i < length text → rest_is part (drop i text) ≡ rest_is (part_behind part (get_or text i 0)) (drop (i + 1) text)
rest_is-drop part text i lt = at_drop_more (rest_is part) text i 0 lt ∙ rest_is-cons part (get_or text i 0) (drop (i + 1) text)
