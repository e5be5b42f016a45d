use Rattle.std.proofs.Common.{refl, sym, ap, ◌∙◌, chars}
use Rattle.std.specs.Cmp.Lexicographic.{bytes_decides}
use Rattle.package_files.proofs.Ascii.{word-bytes, word-chars}
use Rattle.package_files.specs.Listings.{manifest_name}
use Rattle.package_files.proofs.listing.is_manifest.Goals as goal

pub returns : goal.returns
returns c =
    let bytes = c.as_str.result.now in
    let d = bytes_decides bytes manifest_name in (
      λ t. sym c.as_str.ensures.value ∙ (ap chars (d.0 (sym c.eq.ensures ∙ t)) ∙ word-chars manifest_name refl),
      λ e. c.eq.ensures ∙ d.1 (word-bytes bytes manifest_name c.as_str.utf8 refl (c.as_str.ensures.value ∙ e)),
    )
