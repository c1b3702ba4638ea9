use Rattle.std.proofs.Common.{◌≡◌, ◌≢◌, ◌++◌, ℕ, List, All, take, ap, subst, ◌∙◌, arith, length-take-le, take_all}
use Rattle.std.specs.Io.KnownBytes.{Consumes}
use Rattle.std.specs.Io.BufRead.{FillKeeps}
use Rattle.std.proofs.BufReadLemmas.{Consumes_shown}
use Rattle.exports.proofs.bounded.take_part.Goals as goal

pub returns-then-before-saturating_sub-clause-too_much : goal.returns-then-before-saturating_sub-clause-too_much
returns-then-before-saturating_sub-clause-too_much g c =
    let before = c.before_line_feed-before in
    let shown = c.in-Ok.at_hand.now in
    let rested = c.fill_buf.follows.lender-at-none in
    let filled =
    subst (FillKeeps _ (g.R.Read.remaining rested) (g.R.BufRead.consumable_len rested)) c.in-Ok.is
    c.fill_buf.follows.holds-at-none in
    let front = c.in-Ok.ensures.front in
    let took = Consumes_shown _ _ _ _ shown before.result before.ensures.bound front c.in-Ok.ensures.end filled.0 filled.1 c.consume.ensures.bytes in
    let long = length-take-le before.result shown before.ensures.bound in
    λ _. (
      take before.result shown,
      took.0,
      before.ensures.none,
      omega (arith, c.if-before-saturating_sub.true, c.saturating_sub.ensures, c.len.ensures, long),
    )

pub returns-clause-part : goal.returns-clause-part
returns-clause-part g c =
    let before = c.before_line_feed-before in
    let shown = c.in-Ok.at_hand.now in
    let rested = c.fill_buf.follows.lender-at-none in
    let filled =
    subst (FillKeeps _ (g.R.Read.remaining rested) (g.R.BufRead.consumable_len rested)) c.in-Ok.is
    c.fill_buf.follows.holds-at-none in
    let front = c.in-Ok.ensures.front in
    let took = Consumes_shown _ _ _ _ shown before.result before.ensures.bound front c.in-Ok.ensures.end filled.0 filled.1 c.consume-2.ensures.bytes in
    let all : take before.result shown ≡ shown = take_all before.result shown (omega (arith, c.if-before-at_hand.false)) in
    let appended = ap (λ l. l ++ shown) c.make_room.ensures in
    λ _. (
      shown,
      ◌∙◌ {A = List ℕ} c.in_ok-extend_from_slice.ensures.items appended,
      subst (Consumes _ _) all took.0,
      subst (All (λ x. x ≢ 10)) all before.ensures.none,
    )
