use Rattle.std.proofs.Common.{◌≡◌, Some, length, slice_get, rules, refl, subst}
use Rattle.std.specs.Prelude.{option_map}
use Rattle.std.proofs.lemmas.Option.{slice_get_read}
use Rattle.plain_run.specs.Held.{heap_of, members_of}
use Rattle.plain_run.proofs.Given.{if-ok}
use Rattle.plain_equality.specs.Pairs.{AreMemberPairs, AreStructurePairs}
use Rattle.plain_equality.proofs.Sides.{structures-there}
use Rattle.plain_equality.proofs.members.structure_pairs.Goals as goal

pub returns-in-Some-get : goal.returns-in-Some-get
returns-in-Some-get c =
    let h = c.args.heap.now in
    let n = c.args.n in
    let m = c.args.m in
    let s = c.in-Some.s.now in
    let t = c.in-Some-get.t.now in
    let xs = c.deref.result.now in
    let ys = c.deref-in-Some.result.now in
    let one : xs ≡ h.structures = search rules in
    let other : ys ≡ h.structures = search rules in
    let first : slice_get h.structures n ≡ Some s = subst (λ l. slice_get l n ≡ Some s) one (slice_get_read xs (length xs) n s refl c.in-Some.ensures.lookup.3.0 c.in-Some.ensures.lookup.1) in
    let second : slice_get h.structures m ≡ Some t = subst (λ l. slice_get l m ≡ Some t) other (slice_get_read ys (length ys) m t refl c.in-Some-get.ensures.lookup.3.0 c.in-Some-get.ensures.lookup.1) in
    if-ok (λ pairs. AreMemberPairs (members_of s.members) (members_of t.members) (option_map (λ ps. ps.items) pairs)) (λ pairs. AreStructurePairs (heap_of h) n m (option_map (λ ps. ps.items) pairs)) c.member_pairs.result
    (λ pairs are. structures-there h n m s t (option_map (λ ps. ps.items) pairs) first second are) c.member_pairs.ensures
