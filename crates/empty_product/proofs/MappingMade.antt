-- Mappings that are put together: members at keys, and one further member after another.
use Rattle.std.proofs.Common.{◌≡◌, ◌+◌, Bool, List, [], ◌∷◌, ◌++◌, map, length, Option, Some, None, refl, sym, ap, subst, ◌∙◌, arith}
use Rattle.std.specs.List.{filter_map, cons_option, zip}
use Rattle.std.specs.Prelude.{option_map}
use Rattle.std.proofs.lemmas.List.Elements.{filter_map-append}
use Rattle.bal_base.specs.declared.text.Text.{Text}
use Rattle.bal_base.specs.declared.shape.Shape.{Shape, Mapping}
use Rattle.bal_base.specs.declared.shape.Fields.{Fields}
use Rattle.bal_base.specs.Shapes.{fields_list}
use Rattle.empty_product.specs.Keys.{AreInOrder, IsBehind}
use Rattle.empty_product.specs.Mappings.{IsMappingOf, members_at}
use Rattle.empty_product.proofs.KeyInsert.{push-ordered}

abbrev pub Pair : Type 0
Pair = Text × Option Shape

abbrev pub member_of_pair : Pair → Option (Text × Shape)
member_of_pair p = option_map (λ x. (p.0, x)) p.1

pub members_at-pairs : (keys : List Text) (parts : List (Option Shape)) → members_at keys parts ≡ filter_map member_of_pair (zip keys parts)
members_at-pairs [] parts = refl
members_at-pairs (key ∷ keys) [] = refl
members_at-pairs (key ∷ keys) (None ∷ parts) = members_at-pairs keys parts
members_at-pairs (key ∷ keys) (Some x ∷ parts) = ap (λ ms. (key, x) ∷ ms) (members_at-pairs keys parts)

pub pairs-themselves : (ps : List Pair) → map (λ (p : Pair). (p.0, p.1)) ps ≡ ps
pairs-themselves [] = refl
pairs-themselves (p ∷ ps) = ap (λ qs. p ∷ qs) (pairs-themselves ps)

pub one-more-member : (pairs : List Pair) (p : Pair) (old new : List (Text × Shape)) → old ≡ filter_map member_of_pair pairs → new ≡ old ++ cons_option (member_of_pair p) [] → new ≡ filter_map member_of_pair (pairs ++ p ∷ [])
one-more-member pairs p old new before more = more ∙ ap (λ ms. ms ++ cons_option (member_of_pair p) []) before ∙ sym (filter_map-append member_of_pair pairs (p ∷ []))

pub all-members : (pairs : List Pair) (keys : List Text) (parts : List (Option Shape)) (ms : List (Text × Shape)) → ms ≡ filter_map member_of_pair pairs → map (λ (p : Pair). (p.0, p.1)) pairs ≡ zip keys parts → ms ≡ members_at keys parts
all-members pairs keys parts ms are all = are ∙ ap (filter_map member_of_pair) (sym (pairs-themselves pairs) ∙ all) ∙ sym (members_at-pairs keys parts)

-- ---- further members

pub record HasFurther (keys0 : List Text) (parts0 : List (Option Shape)) (keys : List Text) (parts : List (Option Shape)) (further : List Shape) : Type 0 where
  pub ordered : AreInOrder keys
  pub parts_are : parts ≡ parts0 ++ map Some further
  pub fresh : List Text
  pub keys_are : keys ≡ keys0 ++ fresh
  pub long : length fresh ≡ length further

map-push : (xs : List Shape) (y : Shape) → map Some (xs ++ y ∷ []) ≡ map Some xs ++ Some y ∷ []
map-push [] y = refl
map-push (x ∷ xs) y = ap (λ zs. Some x ∷ zs) (map-push xs y)

push-append : {X : Type 0} (xs ys : List X) (z : X) → (xs ++ ys) ++ z ∷ [] ≡ xs ++ (ys ++ z ∷ [])
push-append [] ys z = refl
push-append (x ∷ xs) ys z = ap (λ zs. x ∷ zs) (push-append xs ys z)

push-nothing : {X : Type 0} (xs : List X) → xs ≡ xs ++ []
push-nothing [] = refl
push-nothing (x ∷ xs) = ap (λ zs. x ∷ zs) (push-nothing xs)

push-length : {X : Type 0} (xs : List X) (z : X) → length (xs ++ z ∷ []) ≡ length xs + 1
push-length [] z = refl
push-length (x ∷ xs) z = let e = push-length xs z in omega arith

pub no-further : (keys : List Text) (parts : List (Option Shape)) → AreInOrder keys → HasFurther keys parts keys parts []
no-further keys parts ordered = record { ordered = ordered; parts_are = push-nothing parts; fresh = []; keys_are = push-nothing keys; long = refl }

pub one-further-member : (keys0 : List Text) (parts0 : List (Option Shape)) (keys : List Text) (parts : List (Option Shape)) (further : List Shape) (key : Text) (x : Shape) (new_keys : List Text) (new_parts : List (Option Shape))
    → HasFurther keys0 parts0 keys parts further → IsBehind keys key → new_keys ≡ keys ++ key ∷ [] → new_parts ≡ parts ++ Some x ∷ [] → HasFurther keys0 parts0 new_keys new_parts (further ++ x ∷ [])
one-further-member keys0 parts0 keys parts further key x new_keys new_parts h behind ks ps = record {
  ordered = subst AreInOrder (sym ks) (push-ordered keys key h.ordered behind);
  parts_are = ps ∙ ap (λ qs. qs ++ Some x ∷ []) h.parts_are ∙ push-append parts0 (map Some further) (Some x) ∙ ap (λ qs. parts0 ++ qs) (sym (map-push further x));
  fresh = h.fresh ++ key ∷ [];
  keys_are = ks ∙ ap (λ ls. ls ++ key ∷ []) h.keys_are ∙ push-append keys0 h.fresh key;
  long = push-length h.fresh key ∙ ap (λ n. n + 1) h.long ∙ sym (push-length further x);
}

pub further-mapping : (mark : Bool) (keys0 : List Text) (parts0 : List (Option Shape)) (keys : List Text) (parts : List (Option Shape)) (further all : List Shape) (fields : Fields) (ms : List (Text × Shape))
    → HasFurther keys0 parts0 keys parts further → further ≡ all → ms ≡ members_at keys parts → fields_list fields ≡ ms → IsMappingOf mark keys0 parts0 all (Mapping mark fields)
further-mapping mark keys0 parts0 keys parts further all fields ms h e members of = record {
  fields = fields;
  fresh = h.fresh;
  shape = refl;
  ordered = subst AreInOrder h.keys_are h.ordered;
  long = h.long ∙ ap length e;
  members = of ∙ members ∙ (λ i. members_at (h.keys_are i) (h.parts_are i)) ∙ ap (λ xs. members_at (keys0 ++ h.fresh) (parts0 ++ map Some xs)) e;
}

pub shapes-themselves : (xs : List Shape) → map (λ (x : Shape). x) xs ≡ xs
shapes-themselves [] = refl
shapes-themselves (x ∷ xs) = ap (λ ys. x ∷ ys) (shapes-themselves xs)
