use Rattle.std.proofs.Common.{◌≡◌, ℕ, List, Some, false, IsSome, is_some, nat_cmp, sym, subst, ◌∙◌}
use Rattle.std.specs.BTreeMap.{Updates}
use Rattle.std.specs.Cmp.Lexicographic.{slice_cmp}
use Rattle.package_files.proofs.Sources.{manifest-other, none-of, source-other, sources-new, sources-same}
use Rattle.package_files.specs.Listings.{found_at}
use Rattle.package_files.proofs.listing.Listing.add_source.Goals as goal

pub returns-then-contains_key : goal.returns-then-contains_key
returns-then-contains_key c = λ names l at m.
    let old = c.args.self.now in
    let name = c.args.name.now in
    let there = subst (λ n. IsSome (found_at old.sources n)) c.as_text.ensures (sym c.contains_key.ensures ∙ c.if-contains_key.true) in
    record {
      sources = sources-same names name old.sources l.sources there;
      manifest = manifest-other names old.manifest name (source-other name c.args.found.«module» m) l.manifest;
    }

pub returns : goal.returns
returns c = λ names l at m.
    let old = c.args.self.now in
    let name = c.args.name.now in
    let absent = subst (λ n. is_some (found_at old.sources n) ≡ false) c.as_text.ensures (sym c.contains_key.ensures ∙ c.if-contains_key.false) in
    let U : List ℕ → Type 0 = λ n. Updates (slice_cmp nat_cmp) old.sources c.insert.new.self n (Some c.args.found) in
    let updates = subst U (c.share.ensures ∙ c.as_text-2.ensures) c.in_ok-insert.ensures.updates in
    record {
      sources = sources-new names name old.sources l.sources c.insert.new.self c.args.found at m (none-of (found_at old.sources name) absent) updates;
      manifest = manifest-other names old.manifest name (source-other name c.args.found.«module» m) l.manifest;
    }
