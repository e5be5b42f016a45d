use Rattle.std.proofs.Common.{◌≡◌, ◌+◌, ◌-◌, ◌++◌, ℕ, List, length, ap, subst, arith}
use Rattle.std.proofs.lemmas.List.{length-take}
use Rattle.std.specs.Io.BufRead.{FillKeeps}
use Rattle.bal_io.specs.Fronts.{IsLineFront, ReadsMore}
use Rattle.bal_io.specs.declared.fronts.Extent.{Extent}
use Rattle.bal_io.specs.declared.fronts.Extent.TheVariants.{LineFeed, Full}
use Rattle.bal_io.specs.declared.std_source.Progress.TheVariants.{Ended, Cut}
use Rattle.bal_io.proofs.LineTakes.{Takes-ended, Takes-cut, IfKnown-consumed}
use Rattle.bal_io.proofs.std_source.read_more.Goals as goal

pub returns-in-LineFeed-clause-ok : goal.returns-in-LineFeed-clause-ok
returns-in-LineFeed-clause-ok g c =
    let line = c.args.line.now.items in
    let more = c.extend_from_slice.new.self.items in
    let bytes = c.in-Ok.bytes.now in
    let text = c.front_of_line-extent.result.text.now in
    let rested = c.fill_buf.follows.lender-at-none in
    let before = g.B.Read.remaining c.args.reader.now in
    let here = g.B.Read.remaining rested in
    let after = g.B.Read.remaining c.consume.new.self in
    let limit = g.B.BufRead.consumable_len rested in
    let filled = subst (FillKeeps before here limit) c.in-Ok.is c.fill_buf.follows.holds-at-none in
    let room = c.args.max - length line in
    let size : c.len.result ≡ length line = omega (arith, c.len.ensures, c.args.line.now.ok.0) in
    let Is : Extent → Type 0 = λ e. IsLineFront (c.args.max - c.len.result) text e bytes in
    let Fits : ℕ → Type 0 = λ n. IsLineFront (c.args.max - n) text LineFeed bytes in
    let front = subst Fits size (subst Is c.in-LineFeed.is c.front_of_line-extent.ensures) in
    let added : more ≡ line ++ text = c.in_ok-extend_from_slice.ensures.items in
    let Reads : List ℕ → List ℕ → Type 0 = λ old new. ReadsMore c.args.max Ended line more old new in
    IfKnown-consumed Reads before here after limit bytes (length text + 1) filled.0 filled.1 c.in-Ok.ensures.front (omega (arith, front.1)) c.consume.ensures.bytes
    (λ a h. (text, added, Takes-ended room text bytes a front h))

pub returns-in-Full-clause-ok : goal.returns-in-Full-clause-ok
returns-in-Full-clause-ok g c =
    let line = c.args.line.now.items in
    let more = c.extend_from_slice.new.self.items in
    let bytes = c.in-Ok.bytes.now in
    let text = c.front_of_line-extent.result.text.now in
    let rested = c.fill_buf.follows.lender-at-none in
    let before = g.B.Read.remaining c.args.reader.now in
    let here = g.B.Read.remaining rested in
    let after = g.B.Read.remaining c.consume-in-Full.new.self in
    let limit = g.B.BufRead.consumable_len rested in
    let filled = subst (FillKeeps before here limit) c.in-Ok.is c.fill_buf.follows.holds-at-none in
    let room = c.args.max - length line in
    let size : c.len.result ≡ length line = omega (arith, c.len.ensures, c.args.line.now.ok.0) in
    let Is : Extent → Type 0 = λ e. IsLineFront (c.args.max - c.len.result) text e bytes in
    let Fits : ℕ → Type 0 = λ n. IsLineFront (c.args.max - n) text Full bytes in
    let front = subst Fits size (subst Is c.in-Full.is c.front_of_line-extent.ensures) in
    let added : more ≡ line ++ text = c.in_ok-extend_from_slice.ensures.items in
    let Reads : List ℕ → List ℕ → Type 0 = λ old new. ReadsMore c.args.max Cut line more old new in
    IfKnown-consumed Reads before here after limit bytes (length text) filled.0 filled.1 c.in-Ok.ensures.front (omega (arith, ap (λ l. length l) front.0, length-take room bytes)) c.consume-in-Full.ensures.bytes
    (λ a h. (text, added, Takes-cut room text bytes a front h))
